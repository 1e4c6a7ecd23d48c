-- Each host function has one rule.
use Rattle.std.proofs.Common.{refl}
use Rattle.host_interface.specs.declared.import.HostImport.TheVariants as imports
use Rattle.call_spec.specs.Laws.{EachHasRule}

pub each_has_rule : EachHasRule
each_has_rule env opener imports.ObjCmp = refl
each_has_rule env opener _ = refl
