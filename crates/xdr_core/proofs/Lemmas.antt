-- The lemmas that other crates cite.
pub use Rattle.xdr_core.proofs.ReadSteps.{Reads-refused, Reads-refused-as, Reads-same, ReadsAs-refused}
pub use Rattle.xdr_core.proofs.RowSteps.{SoFar, all_told, one_more_fits, one_more_told, refused}
pub use Rattle.xdr_core.proofs.Standings.{halt, none, then}
pub use Rattle.xdr_core.proofs.UnionSteps.{union_told}
