use Rattle.tx_apply.proofs.Making.{contract_hosted}
use Rattle.tx_apply.proofs.run.contract_value.Goals as goal

pub returns-clause-hosted : goal.returns-clause-hosted
returns-clause-hosted c = contract_hosted c.args.id c.hash_fits.ensures
