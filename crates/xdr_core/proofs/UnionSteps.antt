-- A union is read by its kind and the kind's arm.
use Rattle.std.proofs.Common.{ℕ, Option, Result}
use Rattle.xdr_spec.specs.Format.{Format, union, enumeration}
use Rattle.xdr_spec.proofs.Lemmas.{union_read}
use Rattle.xdr_core.specs.Sources.{Source}
use Rattle.xdr_core.specs.declared.error.ReadXdr.{ReadXdr}
use Rattle.xdr_core.specs.Reads.{Reads}
use Rattle.xdr_core.proofs.RowSteps.{Took}
use Rattle.xdr_core.proofs.ReadSteps.{Reads-same}

pub union_told : {K V S : Type 0} (number : K → ℕ) (kind_of : ℕ → Option K) (kind : V → K) (arms : K → Format V) (start mid new : Source S) (k : K) (r : Result V ReadXdr)
    → Took (enumeration number kind_of).read k start mid → Reads (arms k).read mid new r → Reads (union number kind_of kind arms).read start new r
union_told number kind_of kind arms start mid new k r took h =
    Reads-same start mid new took.1 (arms k).read (union number kind_of kind arms).read r
    (λ t. let s = took.0 t in (union_read number kind_of kind arms start.input k mid.input s.0, s.1)) h
