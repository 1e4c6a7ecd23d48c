use Rattle.soroban_top.proofs.SetsBuilt.{build_done, build_malformed, build_stores}
use Rattle.soroban_top.proofs.laws.build_laws.Goals as goal

pub returns-clause-malformed : goal.returns-clause-malformed
returns-clause-malformed c = build_malformed

pub returns-clause-done : goal.returns-clause-done
returns-clause-done c = build_done

pub returns-clause-stored : goal.returns-clause-stored
returns-clause-stored c = build_stores
