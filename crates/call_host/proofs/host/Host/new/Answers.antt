use Rattle.std.proofs.Common.{All, rules, sym, subst}
use Rattle.auth_types.specs.AuthEntry.{auth_entry_format}
use Rattle.auth_spec.specs.Authorities.{Authorised}
use Rattle.call_host.proofs.host.Host.new.Goals as goal

pub returns-clause-ready : goal.returns-clause-ready
returns-clause-ready g c = record {
  ledger = search rules;
  called = c.outside.ensures.called;
  entries = subst (λ (s : Authorised). All auth_entry_format.fits s.entries) (sym c.new-4.ensures) c.requires.entries;
}
