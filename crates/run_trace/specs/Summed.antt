-- The line of the bytes of a call (own).
use Rattle.std.specs.Prelude.{ℕ, List, [], ◌++◌, Option, Some, None, codes, decimal}
use Rattle.run_trace.specs.declared.summary.Bytes.{Bytes}

-- `N of M`, and what follows
unfoldable pub share : ℕ → ℕ → List ℕ → List ℕ
share number most after = decimal number ++ (codes " of " ++ (decimal most ++ after))

-- `bytes R of L read, W of M written`
abbrev pub bytes_line : Bytes → List ℕ
bytes_line bytes =
    codes "bytes "
    ++ (share bytes.read bytes.most_read (codes " read, ") ++ share bytes.written bytes.most_written (codes " written\n"))

-- only a call has one
abbrev pub bytes_lines : Option Bytes → List ℕ
bytes_lines (Some bytes) = bytes_line bytes
bytes_lines None = []
