-- The good signatures: pairs of a key and the hash of a payload (own).
use Rattle.std.specs.Prelude.{List, refl}
use Rattle.xdr_spec.specs.Format.{Format, via, pair, list}
use Rattle.xdr_spec.specs.Laws.{IsFormat}
use Rattle.xdr_spec.proofs.Lemmas.{list_lawful, pair_lawful, via_lawful}
use Rattle.value_types.specs.Hash.{hash_format, hash_lawful}
use Rattle.value_types.specs.declared.hash.Hash.{Hash}
use Rattle.ledger_types.specs.declared.verdicts.Verdict.{Verdict}
use Rattle.ledger_types.specs.declared.verdicts.Verdicts.{Verdicts}

abbrev pub verdict_of : Hash × Hash → Verdict
verdict_of f = record { key = f.0; payload = f.1 }

abbrev pub verdict_fields : Verdict → Hash × Hash
verdict_fields v = (v.key, v.payload)

unfoldable pub verdict_format : Format Verdict
verdict_format = via verdict_of verdict_fields (pair hash_format hash_format)

pub verdict_lawful : IsFormat verdict_format
unfolding verdict_format
verdict_lawful = via_lawful verdict_of verdict_fields _ (λ f. refl) (λ v. refl) (pair_lawful _ _ hash_lawful hash_lawful)

abbrev pub verdicts_of : List Verdict → Verdicts
verdicts_of pairs = record { pairs = pairs }

abbrev pub verdict_pairs : Verdicts → List Verdict
verdict_pairs v = v.pairs

unfoldable pub verdicts_format : Format Verdicts
verdicts_format = via verdicts_of verdict_pairs (list 4294967295 verdict_format)

pub verdicts_lawful : IsFormat verdicts_format
unfolding verdicts_format
verdicts_lawful =
    via_lawful verdicts_of verdict_pairs _ (λ f. refl) (λ v. refl) (list_lawful 4294967295 verdict_format verdict_lawful)
