-- The lemmas that other crates cite.
pub use Rattle.call_spec.proofs.Acts.{Same}
pub use Rattle.call_spec.proofs.Changed.{put_law}
pub use Rattle.call_spec.proofs.Each.{each_has_rule}
pub use Rattle.call_spec.proofs.Framed.{frame_law}
pub use Rattle.call_spec.proofs.Frames.{unwatched, unwatched_fair}
pub use Rattle.call_spec.proofs.HostFunctions.{done_local}
pub use Rattle.call_spec.proofs.Stopping.{end_to_end_law, local_law}
