-- The length of paths.
use Rattle.std.specs.Prelude.{ℕ, ◌+◌, ◌*◌, ◌≤◌, List, length}
use Rattle.call_host.specs.declared.host.Host.{Host}

-- A path is short enough for a frame above which so many more may be open: each adds at most two numbers.
abbrev pub IsPathFor : List ℕ → ℕ → Type 0
IsPathFor path room = length path + 2 * room ≤ 128

-- the path of what such a frame begins
abbrev pub IsPathBelow : List ℕ → ℕ → Type 0
IsPathBelow path room = length path + 2 * room ≤ 129

-- the running frame's path is short enough
abbrev pub HasRoom : {G U V : Type 0} → ℕ → Host G U V → Type 0
HasRoom room h = IsPathFor h.ledger.frame.path.items room
