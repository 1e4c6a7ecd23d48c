-- The lemmas that other crates cite.
pub use Rattle.xdr_spec.proofs.Among.{some_kinds_lawful}
pub use Rattle.xdr_spec.proofs.Decoding.{decoded_refuses, decoded_spells, spells_decoded}
pub use Rattle.xdr_spec.proofs.Derived.{boolean_lawful, counted_lawful, empty_list_lawful, enumeration_lawful, find_kind-back}
pub use Rattle.xdr_spec.proofs.Derived.{list_lawful, number32_lawful, number64_lawful, opaque_lawful, optional_lawful}
pub use Rattle.xdr_spec.proofs.Derived.{signed32_lawful, signed64_lawful, union_lawful}
pub use Rattle.xdr_spec.proofs.FixedOpaque.{IsBytes-append, bad_at, fixed_opaque_lawful, ok_at}
pub use Rattle.xdr_spec.proofs.Pairs.{nothing_lawful, pair_lawful}
pub use Rattle.xdr_spec.proofs.Reading.{union_read, union_refused}
pub use Rattle.xdr_spec.proofs.Refused.{goes_on, not_both, one_or_other, one_refusal, refused, spelled}
pub use Rattle.xdr_spec.proofs.Remade.{arm_kind, arm_lawful, refit_lawful, via_lawful}
pub use Rattle.xdr_spec.proofs.Spellings.{one_spelling, read_spelled}
pub use Rattle.xdr_spec.proofs.Tagged.{tagged_lawful}
pub use Rattle.xdr_spec.proofs.Tools.{err_is, guard_ok, ok_is}
