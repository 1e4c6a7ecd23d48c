use Rattle.std.proofs.Common.{◌≡◌, ◌+◌, ◌*◌}
use Rattle.wasm_run.specs.declared.instance.CallPhase.TheVariants as phase
use Rattle.wasm_run.specs.Suspended.{work}
use Rattle.call_host.specs.Running.{StaysIn}
use Rattle.contract_call.proofs.Looping.{Follows}
use Rattle.contract_call.proofs.calls.+calls.Given as goal

abbrev pub decreases-call_below : goal.decreases-call_below
decreases-call_below g l = 20 * l.room

abbrev pub decreases-build : goal.decreases-build
decreases-build g l = 20 * l.room + 1

abbrev pub decreases-construct : goal.decreases-construct
decreases-construct g l = 20 * l.room

abbrev pub decreases-call : goal.decreases-call
decreases-call g l = 20 * l.room + 2

abbrev pub decreases-call_counted : goal.decreases-call_counted
decreases-call_counted g l = 20 * l.room + 1

abbrev pub decreases-check : goal.decreases-check
decreases-check g l = 20 * l.room + 3

abbrev pub decreases-prove : goal.decreases-prove
decreases-prove g l = 20 * l.room + 4

abbrev pub decreases-settle : goal.decreases-settle
decreases-settle g l = 20 * l.room + 5

abbrev pub decreases-authorise : goal.decreases-authorise
decreases-authorise g l = 20 * l.room + 6

abbrev pub decreases-create_below : goal.decreases-create_below
decreases-create_below g l = 20 * l.room + 7

abbrev pub decreases-create : goal.decreases-create
decreases-create g l = 20 * l.room + 8

abbrev pub decreases-create_here : goal.decreases-create_here
decreases-create_here g l = 20 * l.room + 9

abbrev pub decreases-auth_row : goal.decreases-auth_row
decreases-auth_row g l = 20 * l.room + 10

abbrev pub decreases-auth_for_args_row : goal.decreases-auth_for_args_row
decreases-auth_for_args_row g l = 20 * l.room + 10

abbrev pub decreases-create_row : goal.decreases-create_row
decreases-create_row g l = 20 * l.room + 10

abbrev pub decreases-construct_row : goal.decreases-construct_row
decreases-construct_row g l = 20 * l.room + 10

abbrev pub decreases-call_row : goal.decreases-call_row
decreases-call_row g l = 20 * l.room + 10

abbrev pub decreases-try_row : goal.decreases-try_row
decreases-try_row g l = 20 * l.room + 10

abbrev pub decreases-answer : goal.decreases-answer
decreases-answer g l = 20 * l.room + 11

abbrev pub decreases-run : goal.decreases-run
decreases-run g l = 20 * l.room + 12

abbrev pub decreases-inside : goal.decreases-inside
decreases-inside g l = 20 * l.room + 14

abbrev pub decreases-open : goal.decreases-open
decreases-open g l = 20 * l.room + 15

abbrev pub decreases-enter : goal.decreases-enter
decreases-enter g l = 20 * l.room + 16

abbrev pub decreases-call_target : goal.decreases-call_target
decreases-call_target g l = 20 * l.room + 17

abbrev pub invariant-run-loop-instance : goal.invariant-run-loop-instance
invariant-run-loop-instance g l =
    StaysIn l.fn.host l.host × (l.instance.phase ≡ phase.Ready) × (l.instance.source ≡ l.module) × Follows l.module l.room l.fn.instance l.fn.host l.instance l.host

abbrev pub decreases-run-loop-instance : goal.decreases-run-loop-instance
decreases-run-loop-instance g l = work l.instance
