-- The lemmas that other crates cite.
pub use Rattle.host_acts.proofs.Composing.{ends_then, goes_then, later_read, later_same, serves_later}
pub use Rattle.host_acts.proofs.Emitting.{all_same}
pub use Rattle.host_acts.proofs.DataKeys.{durability_fits}
pub use Rattle.host_acts.proofs.Linking.{access_is, decided, got_of, got_tells, has_done, noted_still, reads_read, refused_still}
pub use Rattle.host_acts.proofs.Linking.{same_declared, same_map, touched_after}
pub use Rattle.host_acts.proofs.Living.{lives}
pub use Rattle.host_acts.proofs.Making.{contract_made}
pub use Rattle.host_acts.proofs.Putting.{put_done, put_touched}
pub use Rattle.host_acts.proofs.Spelling.{access_spelled, put_spelled}
pub use Rattle.host_acts.proofs.Tracing.{afterwards, as_storages, quietly, retold, since, tells_access, tells_equal, tells_still}
