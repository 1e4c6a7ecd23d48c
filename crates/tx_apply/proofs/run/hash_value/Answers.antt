use Rattle.std.proofs.Common.{◌≡◌, ℕ, List, sym, subst, rules}
use Rattle.value_types.specs.Datum.{bytes}
use Rattle.host_spec.specs.Hosted.{IsHosted}
use Rattle.tx_apply.proofs.Making.{hash_hosted}
use Rattle.tx_apply.proofs.run.hash_value.Goals as goal

pub returns-clause-hosted : goal.returns-clause-hosted
returns-clause-hosted c =
    let same : c.from_vec.result ≡ c.args.hash.0 = search rules in
    subst (λ (x : List ℕ). IsHosted (bytes x)) (sym same) (hash_hosted c.args.hash c.hash_fits.ensures)
