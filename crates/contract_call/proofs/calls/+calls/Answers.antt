use Rattle.std.proofs.Common.{◌≡◌, ℕ, Result, Ok, Err, length, refl, sym, ap, ◌∙◌, subst}
use Rattle.host_interface.specs.Rows.{row_of}
use Rattle.host_spec.specs.declared.error.HostErr.{HostErr}
use Rattle.wasm_run.specs.Suspended.{Suspended, Does, IsFresh}
use Rattle.wasm_run.specs.declared.instance.Event.TheVariants as event
use Rattle.wasm_spec.specs.declared.module.Module.{Module}
use Rattle.call_host.specs.Worlds.{DoesIn, DoesAround, Stays}
use Rattle.call_parts.specs.Started.{IsStarted}
use Rattle.contract_call.proofs.Looping.{Told, follows_first, run_answered, run_done, run_trapped, run_spent, run_refused, stays_same, stays_twice, may_pay, env_in, refilled, still_room}
use Rattle.value_types.specs.Views.{datum, datums}
use Rattle.call_spec.specs.Frames.{framed}
use Rattle.call_spec.specs.HostFunctions.{host_of, opener_of}
use Rattle.wasm_spec.specs.Instances.{Ready, start_of}
use Rattle.call_host.specs.Running.{entered}
use Rattle.contract_call.proofs.Calling.{env_later, around_begins, numbered_stays, stays_then, call_enters, enters_frame, target_enters, call_refused, start_ready, start_refused}
use Rattle.call_host.specs.Targets.{may_name, call_of, call_at}
use Rattle.contract_call.specs.Made.{authorising, constructing}
use Rattle.contract_call.proofs.Between.{told_between}
use Rattle.value_types.specs.declared.value.ScVal.{ScVal}
use Rattle.std.specs.Prelude.{Vec}
use Rattle.std.specs.declared.alloc.Global.{Global}
use Rattle.wasm_run.specs.declared.instance.CallPhase.TheVariants as phase
use Rattle.wasm_spec.specs.Meaning.{meaning}
use Rattle.host_ledger.specs.Worlds.{called_name, called_args}
use Rattle.call_host.specs.Framed.{argument_words}
use Rattle.call_host.proofs.Lemmas.{all_run, called_opened, not_begun, not_run, stays_opened, words_of}
use Rattle.contract_call.proofs.Opening.{started_does, closes, framed_does, frame_stays, opened_args, stays_equal}
use Rattle.std.specs.Prelude.{[], ◌∷◌}
use Rattle.host_interface.specs.declared.kinds.ArgKind.TheVariants as kinds
use Rattle.call_spec.specs.Rules.{answered}
use Rattle.call_spec.specs.Calling.{call}
use Rattle.std.proofs.Common.{Some, arith}
use Rattle.std.specs.Option.{option_map}
use Rattle.value_types.specs.Datum.{address}
use Rattle.value_types.specs.declared.address.ScAddress.TheVariants.{Contract}
use Rattle.host_interface.specs.declared.import.HostImport.TheVariants as imports
use Rattle.call_spec.specs.World.{Env}
use Rattle.call_spec.specs.Asking.{check_of}
use Rattle.call_spec.specs.Calling.{try_call, catching, calls, calls_if, calls_for_host}
use Rattle.call_spec.specs.Creating.{creates, creates_at, create_contract, create_contract_with_constructor, upload_wasm}
use Rattle.call_spec.specs.Demands.{demanded, require_auth, require_auth_for_args}
use Rattle.call_spec.specs.HostFunctions.{host_function}
use Rattle.host_ledger.specs.Worlds.{address_of}
use Rattle.call_host.specs.Creations.{creation_of}
use Rattle.contract_call.specs.Parts.{IsPart}
use Rattle.call_host.specs.Taken.{creates_here}
use Rattle.auth_parts.specs.Asked.{asks_then}
use Rattle.auth_parts.specs.Views.{asked}
use Rattle.contract_call.proofs.Construction.{creates_does, creates_refused, authorises_does, authorises_not, builds_does, builds_refused, constructs_does}
use Rattle.contract_call.proofs.Demanding.{met_does, proves_does, proves_not, nothing_left, checks_does, grants_does, own_does, given_does, here_does}
use Rattle.contract_call.proofs.Arity.{event_arity}
use Rattle.contract_call.proofs.Rowing.{taken_does, called_by, over_same, row_answers, stays_on, valued_does, in_around}
use Rattle.contract_call.proofs.calls.+calls.Goals as goal

pub call-returns-clause-does : goal.call-returns-clause-does
call-returns-clause-does g t c =
    told_between (λ h k. DoesAround c.call_counted-result.result datum (λ env. calls_if (may_name c.args.call) env (opener_of env c.args.room) (call_of c.args.call)) h k)
    c.args.host.now c.tell_called.new.host c.call_counted-result.new.host c.tell_returned.new.host c.tell_called.ensures c.tell_returned.ensures c.call_counted-result.ensures.does

pub call-returns-clause-stays : goal.call-returns-clause-stays
call-returns-clause-stays g t c =
    told_between (λ h k. Stays h k) c.args.host.now c.tell_called.new.host c.call_counted-result.new.host c.tell_returned.new.host c.tell_called.ensures c.tell_returned.ensures c.call_counted-result.ensures.stays

pub call_counted-returns-in-Ok-clause-does : goal.call_counted-returns-in-Ok-clause-does
call_counted-returns-in-Ok-clause-does g t c =
    around_begins c.call_below.result datum (λ env path. call_at (may_name c.args.call) env (opener_of env c.args.room) (call_of c.args.call) path) c.in-Ok.path.items c.args.host.now c.begin.new.self c.call_below.new.host c.in-Ok.ensures.path
    c.in-Ok.ensures.count c.call_below.ensures.does

pub call_counted-returns-in-Ok-clause-stays : goal.call_counted-returns-in-Ok-clause-stays
call_counted-returns-in-Ok-clause-stays g t c =
    stays_then c.args.host.now c.begin.new.self c.call_below.new.host (numbered_stays c.args.host.now c.begin.new.self c.in-Ok.ensures.count) c.call_below.ensures.stays

pub call_below-returns-in-Err-clause-does : goal.call_below-returns-in-Err-clause-does
call_below-returns-in-Err-clause-does g t c =
    subst (λ named. let none : Result ScVal HostErr = Err c.in-Err.error in DoesAround none datum (λ env. call_at named env (opener_of env c.args.room) (call_of c.args.call) c.args.path.items) c.args.host.now c.find_target.new.host) c.may_name-named.ensures
    (call_refused c.args.room c.if-room-eq0.false c.may_name-named.result c.args.call c.args.path.items c.in-Err.error c.args.host.now c.find_target.new.host c.in-Err.ensures.does)

pub call_below-returns-in-Ok-clause-does : goal.call_below-returns-in-Ok-clause-does
call_below-returns-in-Ok-clause-does g t c =
    subst (λ named. DoesAround c.call_target.result datum (λ env. call_at named env (opener_of env c.args.room) (call_of c.args.call) c.args.path.items) c.args.host.now c.call_target.new.host) c.may_name-named.ensures
    (call_enters c.args.room c.if-room-eq0.false c.may_name-named.result c.args.call c.args.path.items c.in-Ok.target c.call_target.result c.args.host.now c.find_target.new.host c.call_target.new.host c.in-Ok.ensures.stays c.in-Ok.ensures.does
    c.call_target.ensures.does)

pub call_target-returns-in-Ok-clause-does : goal.call_target-returns-in-Ok-clause-does
call_target-returns-in-Ok-clause-does g t c =
    target_enters c.args.room c.args.call c.args.found c.in-Ok.frame c.enter.result c.args.host.now c.enter.new.host c.args.path.items c.in-Ok.ensures.ok
    (subst (λ (m : Module). DoesAround c.enter.result datum (λ env. enters_frame env c.args.room c.in-Ok.frame m) c.args.host.now c.enter.new.host) c.linked.ensures c.enter.ensures.does)

pub enter-returns-in-Ok-clause-does : goal.enter-returns-in-Ok-clause-does
enter-returns-in-Ok-clause-does g t c =
    let m = c.args.module.now in
    let f = c.args.frame in
    let index = c.in-Ok.ensures.does.0 in
    let store = c.in-Ok.ensures.does.1 in
    let count = c.args_of-count.ensures.count in
    start_ready (start_of m (called_name f.function) (length (called_args f.function))) index store c.open.result datum
    (λ env index store. framed env (host_of env (opener_of env c.args.room)) (entered f m index store)) c.args.host.now c.open.new.host
    (subst (λ x. start_of m x (length (called_args f.function)) ≡ Ready index store) c.name_of-name.ensures (subst (λ n. start_of m c.name_of-name.result.now n ≡ Ready index store) count c.in-Ok.ensures.does.2))
    (c.open.ensures.does index store (subst (λ n. IsFresh c.in-Ok.instance m index n store) count c.in-Ok.ensures.does.3))

pub enter-returns-in-Err-clause-does : goal.enter-returns-in-Err-clause-does
enter-returns-in-Err-clause-does g t c =
    let none : Result Suspended HostErr = Err c.in-Err.error in
    let m = c.args.module.now in
    let f = c.args.frame in
    let count = c.args_of-count.ensures.count in
    start_refused m (called_name f.function) (length (called_args f.function)) c.in-Err.error
    (λ env index store. framed env (host_of env (opener_of env c.args.room)) (entered f m index store)) c.args.host.now
    (subst (λ x. IsStarted m x (length (called_args f.function)) none) c.name_of-name.ensures (subst (λ n. IsStarted m c.name_of-name.result.now n none) count c.in-Err.ensures.does))

pub enter-returns-in-Err-clause-stays : goal.enter-returns-in-Err-clause-stays
enter-returns-in-Err-clause-stays g t c = stays_equal c.args.host.now c.args.host.now refl refl

pub run-loop-instance-init : goal.run-loop-instance-init
run-loop-instance-init g t c = (stays_same c.args.host.now c.requires.ready, c.requires.phase, c.requires.source, follows_first c.args.module.now c.args.room c.args.instance c.args.host.now)

pub run-loop-instance-preserved : goal.run-loop-instance-preserved
run-loop-instance-preserved g t c =
    let m = c.args.module.now in
    let h = c.loop-instance.host in
    let after = c.answer.new.memory in
    let sliced = c.as_slice.ensures in
    let viewed = c.args-in-Ok-HostCall.view_is in
    let words : c.in-Ok-HostCall.args ≡ c.as_slice.result.now = cc in (
      stays_twice c.args.host.now h c.answer.new.host c.step_to.new.budget c.loop-instance.invariant.0 c.in-Ok.ensures.stays,
      c.give.ensures.ready,
      c.give.ensures.source ∙ c.in-Ok-HostCall.ensures.source ∙ c.loop-instance.invariant.2,
      run_answered m c.args.room c.args.instance c.loop-instance.instance c.step_to.new.self c.give.new.self c.args.host.now h c.answer.new.host c.step_to.new.budget c.in-Ok-HostCall.import c.as_slice.result.now (row_of c.row-row.result)
          c.in-Ok.word c.memory_mut-memory.result.now after c.loop-instance.invariant.3 (subst (λ e. Told c.loop-instance.instance c.loop-instance.host.ledger.budget e c.step_to.new.budget c.step_to.new.self) (c.in-Ok-HostCall.field-0-is ∙ ap (event.HostCall c.in-Ok-HostCall.import) words) c.in-Ok-HostCall.ensures.tells) c.row-row.ensures (sym c.memory_mut-memory.ensures.value)
          (λ on awaits. subst (λ bytes. Does c.give.new.self (on c.in-Ok.word bytes)) (refilled c.step_to.new.self.store.memory.bytes after (c.in-Ok.ensures.size ∙ ap length c.memory_mut-memory.ensures.value)) (c.give.ensures.goes_on on awaits))
          (env_in c.args.host.now h c.loop-instance.invariant.0) (λ env is rest trace same. c.in-Ok.ensures.does env is rest trace same),
    )

pub run-returns-in-Ok-Done-clause-does : goal.run-returns-in-Ok-Done-clause-does
run-returns-in-Ok-Done-clause-does g t c =
    run_done c.args.module.now c.args.room c.args.instance c.loop-instance.instance c.step_to.new.self c.args.host.now c.loop-instance.host c.in-Ok-Done.word c.step_to.new.budget c.loop-instance.invariant.3
    (subst (λ e. Told c.loop-instance.instance c.loop-instance.host.ledger.budget e c.step_to.new.budget c.step_to.new.self) c.in-Ok-Done.field-0-is c.in-Ok-Done.ensures.tells)

pub run-returns-in-Ok-Trap-clause-does : goal.run-returns-in-Ok-Trap-clause-does
run-returns-in-Ok-Trap-clause-does g t c =
    run_trapped c.args.module.now c.args.room c.args.instance c.loop-instance.instance c.step_to.new.self c.args.host.now c.loop-instance.host c.in-Ok-Trap.kind c.step_to.new.budget c.trap_error.result c.trap_error.ensures
    c.loop-instance.invariant.3 (subst (λ e. Told c.loop-instance.instance c.loop-instance.host.ledger.budget e c.step_to.new.budget c.step_to.new.self) c.in-Ok-Trap.field-0-is c.in-Ok-Trap.ensures.tells)

pub run-returns-in-Ok-Spent-clause-does : goal.run-returns-in-Ok-Spent-clause-does
run-returns-in-Ok-Spent-clause-does g t c =
    run_spent c.args.module.now c.args.room c.args.instance c.loop-instance.instance c.step_to.new.self c.args.host.now c.loop-instance.host c.step_to.new.budget c.loop-instance.invariant.3 (subst (λ e. Told c.loop-instance.instance c.loop-instance.host.ledger.budget e c.step_to.new.budget c.step_to.new.self) c.in-Ok-Spent.field-0-is c.in-Ok-Spent.ensures.tells)

pub run-returns-in-Err-answer-clause-does : goal.run-returns-in-Err-answer-clause-does
run-returns-in-Err-answer-clause-does g t c =
    let h = c.loop-instance.host in
    let sliced = c.as_slice.ensures in
    let viewed = c.args-in-Ok-HostCall.view_is in
    let words : c.in-Ok-HostCall.args ≡ c.as_slice.result.now = cc in
    run_refused c.args.module.now c.args.room c.args.instance c.loop-instance.instance c.step_to.new.self c.args.host.now h c.answer.new.host c.step_to.new.budget c.in-Ok-HostCall.import c.as_slice.result.now (row_of c.row-row.result)
    c.in-Err-answer.error c.memory_mut-memory.result.now c.answer.new.memory c.loop-instance.invariant.3
    (subst (λ e. Told c.loop-instance.instance c.loop-instance.host.ledger.budget e c.step_to.new.budget c.step_to.new.self) (c.in-Ok-HostCall.field-0-is ∙ ap (event.HostCall c.in-Ok-HostCall.import) words) c.in-Ok-HostCall.ensures.tells)
    c.row-row.ensures (sym c.memory_mut-memory.ensures.value) (env_in c.args.host.now h c.loop-instance.invariant.0) (λ env is rest trace same. c.in-Err-answer.ensures.does env is rest trace same)

pub inside-start-requires : goal.inside-start-requires
inside-start-requires g t c =
    let starts = c.requires.starts in (starts.0, starts.2.phase_ ∙ ap (phase.Fresh starts.0) (sym (ap length c.as_slice.ensures.value ∙ c.in-Ok.ensures.count)))

pub inside-returns-clause-does : goal.inside-returns-clause-does
inside-returns-clause-does g t c e module_is args_are starts =
    let none : Result (Vec ℕ Global) HostErr = Err c.in-Err.error in
    let m = c.args.module.now in
    let old = c.args.host.now in
    let h1 = c.begin.new.host in
    not_begun (λ env. host_of env (opener_of env c.args.room) m) e old c.in-Err.error datum words_of h1
    (subst (λ (x : Module). DoesIn none words_of (λ env. argument_words x.memories e.args) old h1) (sym module_is)
    (subst (λ given_args. DoesIn none words_of (λ env. argument_words m.memories given_args) old h1) (sym args_are) c.in-Err.ensures.does))

pub inside-returns-in-Ok-clause-does : goal.inside-returns-in-Ok-clause-does
inside-returns-in-Ok-clause-does g t c e module_is args_are starts =
    let words = c.in-Ok.words in
    let given : Result (Vec ℕ Global) HostErr = Ok words in
    let m = c.args.module.now in
    let old = c.args.host.now in
    let h1 = c.begin.new.host in
    not_run (λ env. host_of env (opener_of env c.args.room) m) e old words words_of h1 c.run.new.host
    (subst (λ (x : Module). DoesIn given words_of (λ env. argument_words x.memories e.args) old h1) (sym module_is)
    (subst (λ given_args. DoesIn given words_of (λ env. argument_words m.memories given_args) old h1) (sym args_are) c.in-Ok.ensures.does))
    (env_in old h1 c.in-Ok.ensures.stays) c.in-Err-run.error datum
    (c.in-Err-run.ensures.does (meaning e.module_ e.index words.items e.store)
    (started_does c.args.instance c.start.new.self e c.as_slice.result.now words.items starts c.as_slice.ensures.value (c.in-Ok.ensures.count ∙ ap length (sym args_are)) c.start.ensures.does))

pub inside-returns-in-Ok-run-clause-does : goal.inside-returns-in-Ok-run-clause-does
inside-returns-in-Ok-run-clause-does g t c e module_is args_are starts =
    let words = c.in-Ok.words in
    let given : Result (Vec ℕ Global) HostErr = Ok words in
    let m = c.args.module.now in
    let old = c.args.host.now in
    let h1 = c.begin.new.host in
    all_run (λ env. host_of env (opener_of env c.args.room) m) e old words words_of h1 c.run.new.host
    (subst (λ (x : Module). DoesIn given words_of (λ env. argument_words x.memories e.args) old h1) (sym module_is)
    (subst (λ given_args. DoesIn given words_of (λ env. argument_words m.memories given_args) old h1) (sym args_are) c.in-Ok.ensures.does))
    (env_in old h1 c.in-Ok.ensures.stays) c.in-Ok-run.word c.end.result datum c.end.new.host (env_in h1 c.run.new.host c.in-Ok-run.ensures.stays)
    (c.in-Ok-run.ensures.does (meaning e.module_ e.index words.items e.store)
    (started_does c.args.instance c.start.new.self e c.as_slice.result.now words.items starts c.as_slice.ensures.value (c.in-Ok.ensures.count ∙ ap length (sym args_are)) c.start.ensures.does)) c.end.ensures.does

pub inside-returns-in-Ok-run-clause-stays : goal.inside-returns-in-Ok-run-clause-stays
inside-returns-in-Ok-run-clause-stays g t c =
    let h1 = c.begin.new.host in
    let h2 = c.run.new.host in
    stays_twice c.args.host.now h2 c.end.new.host h2.ledger.budget (stays_twice c.args.host.now h1 h2 h1.ledger.budget c.in-Ok.ensures.stays c.in-Ok-run.ensures.stays) c.end.ensures.stays

pub open-returns-in-Ok-clause-does : goal.open-returns-in-Ok-clause-does
open-returns-in-Ok-clause-does g t c index store fresh =
    let h = c.args.host.now in
    let h1 = c.open_frame.new.self in
    let h2 = c.inside-result.new.host in
    let frame = c.args.frame in
    let m = c.args.module.now in
    let suspended = c.in-Ok.suspended in
    let closed = closes h h2 c.close_frame.new.self suspended c.in-Ok.ensures.objects c.in-Ok.ensures.suspended c.close_frame.ensures.frame in
    framed_does frame c.requires.frame m index store c.args.room c.inside-result.result h h1 h2 c.close_frame.new.self c.in-Ok.ensures.frame c.in-Ok.ensures.contracts c.inside-result.ensures.stays
    (c.inside-result.ensures.does (entered frame m index store) refl (sym (opened_args frame h h1 c.in-Ok.ensures.frame)) fresh) closed c.close_frame.ensures.contracts

pub open-returns-in-Ok-clause-stays : goal.open-returns-in-Ok-clause-stays
open-returns-in-Ok-clause-stays g t c =
    let h = c.args.host.now in
    let h2 = c.inside-result.new.host in
    frame_stays c.args.frame h c.open_frame.new.self h2 c.close_frame.new.self c.in-Ok.ensures.frame c.in-Ok.ensures.contracts c.inside-result.ensures.stays
    (closes h h2 c.close_frame.new.self c.in-Ok.suspended c.in-Ok.ensures.objects c.in-Ok.ensures.suspended c.close_frame.ensures.frame) c.close_frame.ensures.contracts

pub open-returns-in-Err-clause-stays : goal.open-returns-in-Err-clause-stays
open-returns-in-Err-clause-stays g t c = stays_equal c.args.host.now c.open_frame.new.self c.in-Err.ensures.err c.in-Err.ensures.same

pub call_row-returns-in-Ok-clause-does : goal.call_row-returns-in-Ok-clause-does
call_row-returns-in-Ok-clause-does g t c =
    let old = c.args.host.now in
    let mid = c.call_words.new.host in
    let x = c.in-Ok.field-0 in
    taken_does x c.valued.result (λ env. answered (kinds.Address ∷ kinds.Symbol ∷ kinds.Vec ∷ []) (call env (opener_of env c.args.room)) c.args.words.now)
    (λ env x. call env (opener_of env c.args.room) x.contract x.function.items (datums x.args.items)) old mid c.call-made.new.host c.in-Ok.ensures.stays (c.in-Ok.ensures.takes (λ env. call env (opener_of env c.args.room)))
    (called_by (λ act. act) c.args.room x.contract c.as_slice.result.now x.function.items (datums x.args.items) c.call-made.result c.valued.result mid c.call-made.new.host c.as_slice.ensures.value c.call-made.ensures.stays
    c.valued.ensures.does c.call-made.ensures.does)

pub call_row-returns-in-Err-clause-does : goal.call_row-returns-in-Err-clause-does
call_row-returns-in-Err-clause-does g t c = c.in-Err.ensures.takes (λ env. call env (opener_of env c.args.room))

pub call_row-returns-in-Ok-clause-stays : goal.call_row-returns-in-Ok-clause-stays
call_row-returns-in-Ok-clause-stays g t c = stays_on c.args.host.now c.call_words.new.host c.call-made.new.host c.in-Ok.ensures.stays c.call-made.ensures.stays

pub try_row-returns-in_ok-mark-in-Ok-clause-does : goal.try_row-returns-in_ok-mark-in-Ok-clause-does
try_row-returns-in_ok-mark-in-Ok-clause-does g t c =
    let old = c.args.host.now in
    let mid = c.call_words.new.host in
    let next = c.mark.new.self in
    let x = c.in-Ok.field-0 in
    let marks = c.in_ok-mark-in-Ok.ensures.mark in
    let is = c.in_ok-mark-in-Ok.ensures.ok in
    let stays = stays_opened mid next c.call-made.new.host is c.call-made.ensures.stays in
    taken_does x c.valued.result (λ env. answered (kinds.Address ∷ kinds.Symbol ∷ kinds.Vec ∷ []) (try_call env (opener_of env c.args.room)) c.args.words.now)
    (λ env x. try_call env (opener_of env c.args.room) x.contract x.function.items (datums x.args.items)) old mid c.caught-made.new.host c.in-Ok.ensures.stays (c.in-Ok.ensures.takes (λ env. try_call env (opener_of env c.args.room)))
    (called_by catching c.args.room x.contract c.as_slice.result.now x.function.items (datums x.args.items) c.caught-made.result c.valued.result mid c.caught-made.new.host c.as_slice.ensures.value
    (c.caught-made.ensures.stays mid marks stays) c.valued.ensures.does (c.caught-made.ensures.does mid (λ (env : Env). calls env (opener_of env c.args.room) (record { caller = Some (Contract mid.ledger.frame.contract); address = x.contract; function = c.as_slice.result.now; args = datums x.args.items })) marks stays
    (called_opened c.call-made.result c.args.room x.contract c.as_slice.result.now (datums x.args.items) mid next c.call-made.new.host is c.call-made.ensures.does)))

pub try_row-returns-in_ok-mark-in-Ok-clause-stays : goal.try_row-returns-in_ok-mark-in-Ok-clause-stays
try_row-returns-in_ok-mark-in-Ok-clause-stays g t c =
    let mid = c.call_words.new.host in
    let next = c.mark.new.self in
    stays_on c.args.host.now mid c.caught-made.new.host c.in-Ok.ensures.stays (c.caught-made.ensures.stays mid c.in_ok-mark-in-Ok.ensures.mark (stays_opened mid next c.call-made.new.host c.in_ok-mark-in-Ok.ensures.ok c.call-made.ensures.stays))

pub try_row-returns-in-Err-clause-does : goal.try_row-returns-in-Err-clause-does
try_row-returns-in-Err-clause-does g t c = c.in-Err.ensures.takes (λ env. try_call env (opener_of env c.args.room))

pub create_row-returns-in-Ok-clause-does : goal.create_row-returns-in-Ok-clause-does
create_row-returns-in-Ok-clause-does g t c =
    let opener = λ (env : Env). opener_of env c.args.room in
    taken_does c.in-Ok.contract c.create_here.result (λ env. answered (kinds.Address ∷ kinds.Bytes ∷ kinds.Bytes ∷ []) (create_contract env (opener env)) c.args.words.now) (λ env x. creates_here env (opener env) (creation_of x)) c.args.host.now
    c.create_words.new.host c.create_here.new.host c.in-Ok.ensures.stays (c.in-Ok.ensures.takes opener) c.create_here.ensures.does

pub create_row-returns-in-Err-clause-does : goal.create_row-returns-in-Err-clause-does
create_row-returns-in-Err-clause-does g t c = c.in-Err.ensures.takes (λ env. opener_of env c.args.room)

pub construct_row-returns-in-Ok-clause-does : goal.construct_row-returns-in-Ok-clause-does
construct_row-returns-in-Ok-clause-does g t c =
    let opener = λ (env : Env). opener_of env c.args.room in
    taken_does c.in-Ok.contract c.create_here.result (λ env. answered (kinds.Address ∷ kinds.Bytes ∷ kinds.Bytes ∷ kinds.Vec ∷ []) (create_contract_with_constructor env (opener env)) c.args.words.now) (λ env x. creates_here env (opener env) (creation_of x))
    c.args.host.now c.construct_words.new.host c.create_here.new.host c.in-Ok.ensures.stays (c.in-Ok.ensures.takes opener) c.create_here.ensures.does

pub construct_row-returns-in-Err-clause-does : goal.construct_row-returns-in-Err-clause-does
construct_row-returns-in-Err-clause-does g t c = c.in-Err.ensures.takes (λ env. opener_of env c.args.room)

pub create_here-returns-clause-does : goal.create_here-returns-clause-does
create_here-returns-clause-does g t c =
    let h = c.args.host.now in
    let creator = Some (Contract h.ledger.frame.contract) in
    valued_does c.create-made.result (λ id. id) (λ id. address (Contract id)) c.addressed.result (λ env. creates env (opener_of env c.args.room) creator (creation_of c.args.contract)) h c.create-made.new.host c.addressed.ensures.does
    (in_around c.create-made.result (λ id. id) (λ env. creates env (opener_of env c.args.room) creator (creation_of c.args.contract)) h c.create-made.new.host c.create-made.ensures.stays c.create-made.ensures.does)

pub create-returns-in-Ok-clause-does : goal.create-returns-in-Ok-clause-does
create-returns-in-Ok-clause-does g t c =
    around_begins c.create_below.result (λ id. id) (λ env path. creates_at env (opener_of env c.args.room) (option_map address_of c.args.creator) (creation_of c.args.contract) path) c.in-Ok.path.items c.args.host.now c.begin.new.self
    c.create_below.new.host c.in-Ok.ensures.path c.in-Ok.ensures.count c.create_below.ensures.does

pub create-returns-in-Ok-clause-stays : goal.create-returns-in-Ok-clause-stays
create-returns-in-Ok-clause-stays g t c =
    stays_then c.args.host.now c.begin.new.self c.create_below.new.host (numbered_stays c.args.host.now c.begin.new.self c.in-Ok.ensures.count) c.create_below.ensures.stays

pub create_below-returns-in-Ok-clause-does : goal.create_below-returns-in-Ok-clause-does
create_below-returns-in-Ok-clause-does g t c =
    let creator = option_map address_of c.args.creator in
    let made = creation_of c.args.contract in
    creates_does c.args.room creator made c.args.path.items c.in-Ok.id c.build.result c.args.host.now c.authorise.new.host c.build.new.host c.in-Ok.ensures.stays
    (subst (λ p. let given : Result _ HostErr = Ok c.in-Ok.id in DoesAround given (λ id. id) (λ env. authorising env (opener_of env c.args.room) creator made p) c.args.host.now c.authorise.new.host) c.as_slice.ensures.value c.in-Ok.ensures.does) c.build.ensures.does

pub create_below-returns-in-Err-clause-does : goal.create_below-returns-in-Err-clause-does
create_below-returns-in-Err-clause-does g t c =
    let creator = option_map address_of c.args.creator in
    let made = creation_of c.args.contract in
    creates_refused c.args.room creator made c.args.path.items c.in-Err.error c.args.host.now c.authorise.new.host
    (subst (λ p. let none : Result _ HostErr = Err c.in-Err.error in DoesAround none (λ id. id) (λ env. authorising env (opener_of env c.args.room) creator made p) c.args.host.now c.authorise.new.host) c.as_slice.ensures.value c.in-Err.ensures.does)

pub answer-returns-in-Values-clause-does : goal.answer-returns-in-Values-clause-does
answer-returns-in-Values-clause-does g t c env is rest trace same = c.value_answer.ensures.does (opener_of env c.args.room) env is rest trace same

pub answer-returns-in-Ledger-clause-does : goal.answer-returns-in-Ledger-clause-does
answer-returns-in-Ledger-clause-does g t c =
    over_same c.args.memory.now c.args.memory.now c.ledger_answer.result (λ word. word) (λ env. host_function env (opener_of env c.args.room) c.args.import c.args.words.now) c.args.host.now c.ledger_answer.new.host refl
    (λ env is rest trace. c.ledger_answer.ensures.does (opener_of env c.args.room) env is rest trace)

pub answer-returns-in-Call-clause-does : goal.answer-returns-in-Call-clause-does
answer-returns-in-Call-clause-does g t c =
    let act = λ (env : Env). answered (kinds.Address ∷ kinds.Symbol ∷ kinds.Vec ∷ []) (call env (opener_of env c.args.room)) c.args.words.now in
    row_answers c.args.import imports.Call c.args.room c.args.words.now c.args.memory.now act c.shown-in-Call.result c.args.host.now c.shown-in-Call.new.host (subst (λ p. IsPart p c.args.import) c.in-Call.is c.part_of.ensures) (λ env w. refl)
    (c.shown-in-Call.ensures.does c.args.host.now act c.call_row-made.ensures.stays c.call_row-made.ensures.does)

pub answer-returns-in-TryCall-clause-does : goal.answer-returns-in-TryCall-clause-does
answer-returns-in-TryCall-clause-does g t c =
    let act = λ (env : Env). answered (kinds.Address ∷ kinds.Symbol ∷ kinds.Vec ∷ []) (try_call env (opener_of env c.args.room)) c.args.words.now in
    row_answers c.args.import imports.TryCall c.args.room c.args.words.now c.args.memory.now act c.shown-in-TryCall.result c.args.host.now c.shown-in-TryCall.new.host (subst (λ p. IsPart p c.args.import) c.in-TryCall.is c.part_of.ensures) (λ env w. refl)
    (c.shown-in-TryCall.ensures.does c.args.host.now act c.try_row-made.ensures.stays c.try_row-made.ensures.does)

pub answer-returns-in-Create-clause-does : goal.answer-returns-in-Create-clause-does
answer-returns-in-Create-clause-does g t c =
    let act = λ (env : Env). answered (kinds.Address ∷ kinds.Bytes ∷ kinds.Bytes ∷ []) (create_contract env (opener_of env c.args.room)) c.args.words.now in
    row_answers c.args.import imports.CreateContract c.args.room c.args.words.now c.args.memory.now act c.shown-in-Create.result c.args.host.now c.shown-in-Create.new.host (subst (λ p. IsPart p c.args.import) c.in-Create.is c.part_of.ensures) (λ env w. refl)
    (c.shown-in-Create.ensures.does c.args.host.now act c.create_row-made.ensures.stays c.create_row-made.ensures.does)

pub answer-returns-in-Construct-clause-does : goal.answer-returns-in-Construct-clause-does
answer-returns-in-Construct-clause-does g t c =
    let act = λ (env : Env). answered (kinds.Address ∷ kinds.Bytes ∷ kinds.Bytes ∷ kinds.Vec ∷ []) (create_contract_with_constructor env (opener_of env c.args.room)) c.args.words.now in
    row_answers c.args.import imports.CreateContractWithConstructor c.args.room c.args.words.now c.args.memory.now act c.shown-in-Construct.result c.args.host.now c.shown-in-Construct.new.host (subst (λ p. IsPart p c.args.import) c.in-Construct.is c.part_of.ensures)
    (λ env w. refl) (c.shown-in-Construct.ensures.does c.args.host.now act c.construct_row-made.ensures.stays c.construct_row-made.ensures.does)

pub answer-returns-in-Upload-clause-does : goal.answer-returns-in-Upload-clause-does
answer-returns-in-Upload-clause-does g t c =
    let act = λ (env : Env). answered (kinds.Bytes ∷ []) (upload_wasm env) c.args.words.now in
    row_answers c.args.import imports.UploadWasm c.args.room c.args.words.now c.args.memory.now act c.shown.result c.args.host.now c.shown.new.host (subst (λ p. IsPart p c.args.import) c.in-Upload.is c.part_of.ensures) (λ env w. refl)
    (c.shown.ensures.does c.args.host.now act c.upload_row-made.ensures.stays c.upload_row-made.ensures.does)

pub answer-returns-in-Auth-clause-does : goal.answer-returns-in-Auth-clause-does
answer-returns-in-Auth-clause-does g t c =
    let act = λ (env : Env). answered (kinds.Address ∷ []) (require_auth env (opener_of env c.args.room)) c.args.words.now in
    row_answers c.args.import imports.RequireAuth c.args.room c.args.words.now c.args.memory.now act c.shown-in-Auth.result c.args.host.now c.shown-in-Auth.new.host (subst (λ p. IsPart p c.args.import) c.in-Auth.is c.part_of.ensures) (λ env w. refl)
    (c.shown-in-Auth.ensures.does c.args.host.now act c.auth_row-made.ensures.stays c.auth_row-made.ensures.does)

pub answer-returns-in-AuthForArgs-clause-does : goal.answer-returns-in-AuthForArgs-clause-does
answer-returns-in-AuthForArgs-clause-does g t c =
    let act = λ (env : Env). answered (kinds.Address ∷ kinds.Vec ∷ []) (require_auth_for_args env (opener_of env c.args.room)) c.args.words.now in
    row_answers c.args.import imports.RequireAuthForArgs c.args.room c.args.words.now c.args.memory.now act c.shown-in-AuthForArgs.result c.args.host.now c.shown-in-AuthForArgs.new.host (subst (λ p. IsPart p c.args.import) c.in-AuthForArgs.is c.part_of.ensures)
    (λ env w. refl) (c.shown-in-AuthForArgs.ensures.does c.args.host.now act c.auth_for_args_row-made.ensures.stays c.auth_for_args_row-made.ensures.does)

pub run-answer-requires : goal.run-answer-requires
run-answer-requires g t c κs lives = (
  omega (arith, c.decreases),
  (
    lives.0,
    (
      lives.1.0,
      (
        lives.1.1,
        (
          may_pay c.loop-instance.host c.step_to.new.budget c.loop-instance.invariant.0.ready,
          (
            still_room c.args.room c.args.host.now c.loop-instance.host c.loop-instance.invariant.0.left.frame c.requires.path,
            (
              event_arity c.args.module.now c.loop-instance.instance.source c.in-Ok-HostCall.field-0 c.in-Ok-HostCall.import c.as_slice.result.now (row_of c.row-row.result)
                  (c.in-Ok-HostCall.field-0-is ∙ ap (event.HostCall c.in-Ok-HostCall.import) (sym c.as_slice.ensures)) c.in-Ok-HostCall.ensures.names c.loop-instance.invariant.2 c.row-row.ensures,
              c.memory_mut-memory.ensures.small,
            ),
          ),
        ),
      ),
    ),
  ),
)

pub construct-returns-in-Ok-clause-does : goal.construct-returns-in-Ok-clause-does
construct-returns-in-Ok-clause-does g t c =
    constructs_does c.args.room c.if-room-eq0.false c.args.creator c.args.id (creation_of c.args.contract) c.in-Ok.frame c.given_args-args.result.items c.args.path.items c.args.module.now c.enter-returned.result
    c.constructed.result c.args.host.now c.enter-returned.new.host c.given_args-args.ensures.args (sym c.if-not-has_constructor.ensures) c.in-Ok.ensures.ok c.enter-returned.ensures.stays c.constructed.ensures.does
    c.enter-returned.ensures.does

pub build-returns-in-Ok-clause-does : goal.build-returns-in-Ok-clause-does
build-returns-in-Ok-clause-does g t c =
    builds_does c.args.room (option_map address_of c.args.creator) (creation_of c.args.contract) c.args.path.items c.args.id c.in-Ok.module c.construct.result c.args.host.now c.made.new.host c.construct.new.host c.in-Ok.ensures.stays
    c.in-Ok.ensures.does
    (subst
    (λ (m : Module). DoesAround c.construct.result (λ id. id)
    (λ env. constructing (opener_of env c.args.room) (option_map address_of c.args.creator) c.args.id (creation_of c.args.contract) c.args.path.items m) c.made.new.host c.construct.new.host)
    c.linked.ensures c.construct.ensures.does)

pub build-returns-in-Err-clause-does : goal.build-returns-in-Err-clause-does
build-returns-in-Err-clause-does g t c =
    builds_refused c.args.room (option_map address_of c.args.creator) (creation_of c.args.contract) c.args.path.items c.args.id c.in-Err.error c.args.host.now c.made.new.host c.in-Err.ensures.does

pub authorise-returns-in-Ok-create_function-clause-does : goal.authorise-returns-in-Ok-create_function-clause-does
authorise-returns-in-Ok-create_function-clause-does g t c =
    let room = c.args.room in
    let mid = c.paid_id.new.host in
    let marked = c.demand_create-met.new.host in
    let new = c.settle-settled.new.host in
    let path = c.args.path.now in
    let creator = option_map address_of c.args.creator in
    let made = creation_of c.args.contract.now in
    let met = c.settle-settled.result in
    let stays = stays_then mid marked new c.demand_create-met.ensures.stays c.settle-settled.ensures.stays in
    authorises_does room creator made path c.in-Ok.id c.granted.result c.args.host.now mid new c.in-Ok.ensures.stays c.in-Ok.ensures.does
    (grants_does room creator made path c.in-Ok.id met c.granted.result mid new (env_later mid new stays) c.granted.ensures.does
    (subst (λ f. DoesAround met (λ u. u) (λ env. demanded env (opener_of env room) path creator made.deployer f) mid new) c.in-Ok-create_function.ensures.ok
    (met_does room path c.args.creator made.deployer c.in-Ok-create_function.function c.demand_create-met.result met mid marked new c.demand_create-met.ensures.met c.settle-settled.ensures.memory c.settle-settled.ensures.does)))

pub authorise-returns-in-Ok-create_function-clause-stays : goal.authorise-returns-in-Ok-create_function-clause-stays
authorise-returns-in-Ok-create_function-clause-stays g t c =
    let mid = c.paid_id.new.host in
    let new = c.settle-settled.new.host in
    stays_then c.args.host.now mid new c.in-Ok.ensures.stays (stays_then mid c.demand_create-met.new.host new c.demand_create-met.ensures.stays c.settle-settled.ensures.stays)

pub authorise-returns-in-Err-clause-does : goal.authorise-returns-in-Err-clause-does
authorise-returns-in-Err-clause-does g t c =
    authorises_not c.args.room (option_map address_of c.args.creator) (creation_of c.args.contract.now) c.args.path.now c.in-Err.error c.args.host.now c.paid_id.new.host c.in-Err.ensures.does

pub auth_row-returns-in-Ok-clause-does : goal.auth_row-returns-in-Ok-clause-does
auth_row-returns-in-Ok-clause-does g t c =
    let room = c.args.room in
    let mid = c.auth_words.new.host in
    let new = c.settle-settled.new.host in
    taken_does c.in-Ok.address c.authorised.result (λ env. answered (kinds.Address ∷ []) (require_auth env (opener_of env room)) c.args.words.now) (λ env x. require_auth env (opener_of env room) x) c.args.host.now mid new
    c.in-Ok.ensures.stays (c.in-Ok.ensures.takes (λ env. require_auth env (opener_of env room)))
    (own_does room c.in-Ok.address c.authorised.result mid new c.in-Ok.ensures.stays.ready.called
    (here_does room c.in-Ok.address mid.ledger.frame.function c.demand_own-met.result c.settle-settled.result c.authorised.result mid c.demand_own-met.new.host new c.demand_own-met.ensures.met c.demand_own-met.ensures.stays
    c.settle-settled.ensures.memory c.settle-settled.ensures.stays c.authorised.ensures.does c.settle-settled.ensures.does))

pub auth_row-returns-in-Ok-clause-stays : goal.auth_row-returns-in-Ok-clause-stays
auth_row-returns-in-Ok-clause-stays g t c =
    let mid = c.auth_words.new.host in
    let new = c.settle-settled.new.host in
    stays_on c.args.host.now mid new c.in-Ok.ensures.stays (stays_then mid c.demand_own-met.new.host new c.demand_own-met.ensures.stays c.settle-settled.ensures.stays)

pub auth_row-returns-in-Err-clause-does : goal.auth_row-returns-in-Err-clause-does
auth_row-returns-in-Err-clause-does g t c = c.in-Err.ensures.takes (λ env. require_auth env (opener_of env c.args.room))

pub auth_for_args_row-returns-in-Ok-call_with-clause-does : goal.auth_for_args_row-returns-in-Ok-call_with-clause-does
auth_for_args_row-returns-in-Ok-call_with-clause-does g t c =
    let room = c.args.room in
    let mid = c.auth_for_args_words.new.host in
    let new = c.settle-settled.new.host in
    let x = c.in-Ok.field-0 in
    let function = c.in-Ok-call_with.function in
    taken_does x c.authorised.result (λ env. answered (kinds.Address ∷ kinds.Vec ∷ []) (require_auth_for_args env (opener_of env room)) c.args.words.now) (λ env x. require_auth_for_args env (opener_of env room) x.address (datums x.args))
    c.args.host.now mid new c.in-Ok.ensures.stays (c.in-Ok.ensures.takes (λ env. require_auth_for_args env (opener_of env room)))
    (given_does room x.address (datums x.args) function c.authorised.result mid new c.in-Ok-call_with.ensures.ok
    (here_does room x.address function c.demand_here-met.result c.settle-settled.result c.authorised.result mid c.demand_here-met.new.host new c.demand_here-met.ensures.met c.demand_here-met.ensures.stays
    c.settle-settled.ensures.memory c.settle-settled.ensures.stays c.authorised.ensures.does c.settle-settled.ensures.does))

pub auth_for_args_row-returns-in-Ok-call_with-clause-stays : goal.auth_for_args_row-returns-in-Ok-call_with-clause-stays
auth_for_args_row-returns-in-Ok-call_with-clause-stays g t c =
    let mid = c.auth_for_args_words.new.host in
    let new = c.settle-settled.new.host in
    stays_on c.args.host.now mid new c.in-Ok.ensures.stays (stays_then mid c.demand_here-met.new.host new c.demand_here-met.ensures.stays c.settle-settled.ensures.stays)

pub auth_for_args_row-returns-in-Err-clause-does : goal.auth_for_args_row-returns-in-Err-clause-does
auth_for_args_row-returns-in-Err-clause-does g t c = c.in-Err.ensures.takes (λ env. require_auth_for_args env (opener_of env c.args.room))

pub prove-returns-in-Ok-Proved-clause-does : goal.prove-returns-in-Ok-Proved-clause-does
prove-returns-in-Ok-Proved-clause-does g t c =
    let room = c.args.room in
    let mid = c.ask_entry.new.host in
    let r : Result _ HostErr = Ok tt in
    proves_does room c.args.entry c.in-Ok-Proved.field-0 asked r c.args.host.now mid mid (env_later c.args.host.now mid c.in-Ok-Proved.ensures.stays) c.in-Ok-Proved.ensures.does
    (subst (λ a. DoesAround r (λ u. u) (λ env. asks_then env (opener_of env room) (asked a)) mid mid) (sym c.in-Ok-Proved.field-0-is) (nothing_left room mid))

pub prove-returns-in-Ok-ByContract-clause-does : goal.prove-returns-in-Ok-ByContract-clause-does
prove-returns-in-Ok-ByContract-clause-does g t c =
    let room = c.args.room in
    let mid = c.ask_entry.new.host in
    proves_does room c.args.entry c.in-Ok-ByContract.field-0 asked c.check.result c.args.host.now mid c.check.new.host (env_later c.args.host.now mid c.in-Ok-ByContract.ensures.stays) c.in-Ok-ByContract.ensures.does
    (subst (λ a. DoesAround c.check.result (λ u. u) (λ env. asks_then env (opener_of env room) (asked a)) mid c.check.new.host) (sym c.in-Ok-ByContract.field-0-is) c.check.ensures.does)

pub prove-returns-in-Err-clause-does : goal.prove-returns-in-Err-clause-does
prove-returns-in-Err-clause-does g t c = proves_not c.args.room c.args.entry c.in-Err.error asked c.args.host.now c.ask_entry.new.host c.in-Err.ensures.does

pub check-returns-clause-does : goal.check-returns-clause-does
check-returns-clause-does g t c =
    let h = c.args.host.now in
    let new = c.call-returned.new.host in
    checks_does c.call-returned.result c.checked.result (λ env. calls_for_host env (opener_of env c.args.room) (check_of c.args.contract (datums c.args.args.items))) h new (env_later h new c.call-returned.ensures.stays) c.checked.ensures.does
    c.call-returned.ensures.does

pub call_target-returns-clause-stays : goal.call_target-returns-clause-stays
call_target-returns-clause-stays g t c = stays_equal c.args.host.now c.args.host.now refl refl

pub inside-returns-in-Ok-clause-stays : goal.inside-returns-in-Ok-clause-stays
inside-returns-in-Ok-clause-stays g t c =
    let h1 = c.begin.new.host in
    stays_twice c.args.host.now h1 c.run.new.host h1.ledger.budget c.in-Ok.ensures.stays c.in-Err-run.ensures.stays

pub run-returns-in-Err-answer-clause-stays : goal.run-returns-in-Err-answer-clause-stays
run-returns-in-Err-answer-clause-stays g t c =
    stays_twice c.args.host.now c.loop-instance.host c.answer.new.host c.step_to.new.budget c.loop-instance.invariant.0
    c.in-Err-answer.ensures.stays
