-- The lemmas that other crates cite.
pub use Rattle.host_acts.proofs.Lemmas.{access_is, access_spelled, afterwards, all_same, as_storages, contract_made, decided}
pub use Rattle.host_acts.proofs.Lemmas.{durability_fits, ends_then, got_of, got_tells, has_done, later_read, later_same}
pub use Rattle.host_acts.proofs.Lemmas.{noted_still, put_done, put_spelled, put_touched, quietly, reads_read, refused_still}
pub use Rattle.host_acts.proofs.Lemmas.{retold, same_declared, same_map, serves_later, since, tells_access, tells_equal}
pub use Rattle.host_acts.proofs.Lemmas.{tells_still, touched_after}
pub use Rattle.host_ledger.proofs.Rows.{row}
