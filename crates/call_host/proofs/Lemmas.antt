-- The lemmas that other crates cite.
pub use Rattle.call_host.proofs.Beginning.{words_of}
pub use Rattle.call_host.proofs.Counts.{just_one}
pub use Rattle.call_host.proofs.Framing.{all_run, not_begun, not_run}
pub use Rattle.call_host.proofs.Joining.{Telling, as_fails, fails_as, go_on, keep_memory, keep_rest, knowing, same_act}
pub use Rattle.call_host.proofs.Joining.{says_stopped, stop, traced}
pub use Rattle.call_host.proofs.Lending.{around}
pub use Rattle.call_host.proofs.Showing.{shown_as, telling}
pub use Rattle.call_host.proofs.Splitting.{calls_first, joined, same_after}
pub use Rattle.call_host.proofs.Stepping.{steps_on, steps_stop, steps_view}
pub use Rattle.call_host.proofs.Undoing.{called_opened, does_opened, room_opened, stays_opened}
