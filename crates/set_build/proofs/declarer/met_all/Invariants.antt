use Rattle.std.proofs.Common.{◌≡◌, take}
use Rattle.std.specs.List.{fold}
use Rattle.set_build.specs.Known.{who, met_on, met_with}
use Rattle.set_build.proofs.declarer.met_all.Given as goal

abbrev pub invariant-loop-key : goal.invariant-loop-key
invariant-loop-key l = l.all ≡ fold (λ n key. met_with n (met_on l.writes (who l.declarers key.1.items))) l.fn.met (take l.key-index l.keys)
