-- All host functions and the frames that call them, and whole runs, under a judge and under none.
use Rattle.std.proofs.Common.{◌≡◌, ℕ, zero, suc, List, Option, Some, None, false, refl}
use Rattle.std.specs.FinMap.{get}
use Rattle.std.specs.Option.{option_map}
use Rattle.ledger_types.specs.declared.header.Header.{Header}
use Rattle.ledger_spec.specs.LedgerMap.{LedgerMap}
use Rattle.wasm_spec.specs.declared.module.Module.{Module}
use Rattle.module_spec.specs.Loading.{row_at}
use Rattle.host_interface.specs.Rows.{Row}
use Rattle.host_interface.specs.declared.kinds.ArgKind.{ArgKind}
use Rattle.host_interface.specs.declared.import.HostImport.{HostImport}
use Rattle.host_interface.specs.declared.import.HostImport.TheVariants as imports
use Rattle.host_spec.specs.Indices.{arguments_of}
use Rattle.host_spec.specs.Acts as values
use Rattle.host_spec.specs.ValueFunctions.{value_function}
use Rattle.call_spec.specs.World.{Judge, World, Authority}
use Rattle.call_spec.specs.Acts.{Act, world_of}
use Rattle.call_spec.specs.Rules.{Rule, call_of}
use Rattle.call_spec.specs.Frames.{Entered, framed, Opener}
use Rattle.call_spec.specs.HostFunctions.{world_rule, world_function, either, of_row, host_of, MOST_FRAMES, opener_of}
use Rattle.call_spec.specs.WholeRuns.{Work, calling, uploading, creating, arguments_in, does, performs, done_under, all_allowed, start_of, run_under, whole}
use Rattle.call_spec.specs.Laws.{Agree, writes_in, IsExtended}
use Rattle.call_spec.proofs.Acts.{Sound, Same, Watch, Fine, Leaves, Local, good_local, fails_local, after_local, lift_local, paying_local}
use Rattle.call_spec.proofs.Accesses.{free, held, Fair}
use Rattle.wasm_spec.specs.Spending.{IsLater}
use Rattle.call_spec.proofs.Sums.{FunctionRises, function_rises}
use Rattle.call_spec.proofs.Frames.{undoing_local, HostsLocal, framed_local, OpenersLocal}
use Rattle.call_spec.proofs.Rows.{entering_local, RulesLocal, call_of_local, contract_event_local, frame_answer_local, fail_local, put_local, has_local, get_local, del_local, extend_local, extend_both_local, upload_local, uploads_local, update_local, id_local, calls_local, call_local, try_call_local, creates_local, creates_by_local, auth_local, auth_for_args_local}

module _ (may : Judge) (m n : LedgerMap) (P : Watch) (sound : Sound may) (header : Header) (authority : Authority) (fair : Fair header P) where
  -- ---- functions

  abbrev RowsLocal : (ks : List ArgKind) → Option (Rule ks) → Option (Rule ks) → Type 0
  RowsLocal ks (Some rule) (Some rule') = RulesLocal may m n P ks rule rule'
  RowsLocal ks None None = Unit {0}
  RowsLocal ks _ _ = ⊥

  abbrev FunctionsLocal : Option (List ℕ → Act ℕ) → Option (List ℕ → Act ℕ) → Type 0
  FunctionsLocal (Some f) (Some g) = (words : List ℕ) → Local may m n P (f words) (g words)
  FunctionsLocal None None = Unit {0}
  FunctionsLocal _ _ = ⊥

  mapped_local : (ks : List ArgKind) (o o' : Option (Rule ks)) → RowsLocal ks o o' → FunctionsLocal (option_map (call_of ks) o) (option_map (call_of ks) o')
  mapped_local ks (Some rule) (Some rule') h = call_of_local may m n P ks rule rule' h
  mapped_local ks (Some rule) None h = absurd h
  mapped_local ks None (Some rule') h = absurd h
  mapped_local ks None None h = tt

  either_local : (o o' : Option (List ℕ → Act ℕ)) → FunctionsLocal o o' → (v : Option (List ℕ → values.Act ℕ)) → FunctionRises v → (words : List ℕ) → Local may m n P (either o v words) (either o' v words)
  either_local (Some f) (Some g) h v r words = h words
  either_local (Some f) None h v r words = absurd h
  either_local None (Some g) h v r words = absurd h
  either_local None None h (Some f) r words = lift_local may m n P (f words) (λ q. r words)
  either_local None None h None r words = fails_local may m n P _

  module _ (opener opener' : Opener) (opens : OpenersLocal may m n P opener opener') where
    rule_local : (i : HostImport) → RowsLocal (arguments_of i) (world_rule (free header authority) opener i) (world_rule (held may header authority) opener' i)
    rule_local imports.ContractEvent = contract_event_local may m n P
    rule_local imports.GetLedgerVersion = good_local may m n P _
    rule_local imports.GetLedgerSequence = good_local may m n P _
    rule_local imports.GetLedgerTimestamp = good_local may m n P _
    rule_local imports.GetLedgerNetworkId = good_local may m n P _
    rule_local imports.GetCurrentContractAddress = frame_answer_local may m n P _
    rule_local imports.GetMaxLiveUntilLedger = good_local may m n P _
    rule_local imports.FailWithError = fail_local may m n P
    rule_local imports.PutContractData = put_local may m n P sound header authority fair
    rule_local imports.HasContractData = has_local may m n P sound header authority fair
    rule_local imports.GetContractData = get_local may m n P sound header authority fair
    rule_local imports.DelContractData = del_local may m n P sound header authority fair
    rule_local imports.ExtendContractDataTtl = extend_local may m n P sound header authority fair
    rule_local imports.ExtendCurrentContractInstanceAndCodeTtl = extend_both_local may m n P sound header authority fair
    rule_local imports.UploadWasm = upload_local may m n P sound header authority fair
    rule_local imports.CreateContract = λ deployer code salt. creates_by_local may m n P sound header authority fair opener opener' opens deployer code salt None
    rule_local imports.CreateContractWithConstructor = λ deployer code salt args. creates_by_local may m n P sound header authority fair opener opener' opens deployer code salt (Some args)
    rule_local imports.UpdateCurrentContractWasm = update_local may m n P sound header authority fair
    rule_local imports.GetContractId = id_local may m n P sound header authority fair
    rule_local imports.Call = call_local may m n P sound header authority fair opener opener' opens
    rule_local imports.TryCall = try_call_local may m n P sound header authority fair opener opener' opens
    rule_local imports.RequireAuth = auth_local may m n P sound header authority fair opener opener' opens
    rule_local imports.RequireAuthForArgs = auth_for_args_local may m n P sound header authority fair opener opener' opens
    rule_local _ = tt

    of_row_local : (o : Option Row) (words : List ℕ) → Local may m n P (of_row (free header authority) opener o words) (of_row (held may header authority) opener' o words)
    of_row_local None words = fails_local may m n P _
    of_row_local (Some row) words =
        either_local (world_function (free header authority) opener row.import) (world_function (held may header authority) opener' row.import) (mapped_local (arguments_of row.import) _ _ (rule_local row.import)) (value_function row.import) (function_rises row.import) words

    host_local : (x : Module) → HostsLocal may m n P (host_of (free header authority) opener x) (host_of (held may header authority) opener' x)
    host_local x f words = of_row_local (row_at x f) words

  -- ---- frames, by the number of frames that may still be open

  pub openers_local : (room : ℕ) → OpenersLocal may m n P (opener_of (free header authority) room) (opener_of (held may header authority) room)
  openers_local zero = tt
  openers_local (suc room) = framed_local may m n P sound header authority fair (host_of (free header authority) (opener_of (free header authority) room)) (host_of (held may header authority) (opener_of (held may header authority) room))
      (host_local (opener_of (free header authority) room) (opener_of (held may header authority) room) (openers_local room))

  -- ---- whole runs

  module _ (opener opener' : Opener) (opens : OpenersLocal may m n P opener opener') where
    does_local : (work : Work) → Local may m n P (does (free header authority) opener work) (does (held may header authority) opener' work)
    does_local (calling contract function args) = calls_local may m n P sound header authority fair opener opener' opens (record { caller = None; address = contract; function = function; args = args })
    does_local (uploading code) = after_local may m n P _ _ _ _ (uploads_local may m n P sound header authority fair code) (λ hash. good_local may m n P _)
    does_local (creating c) = after_local may m n P _ _ _ _ (creates_local may m n P sound header authority fair opener opener' opens None c) (λ id. good_local may m n P _)

    performs_local : (work : Work) → Local may m n P (performs (free header authority) opener work) (performs (held may header authority) opener' work)
    performs_local work = after_local may m n P _ _ _ _ (entering_local may m n P (arguments_in work) _ _ (does_local work)) (λ d. paying_local may m n P _ _ _ _ (good_local may m n P d))

  pub run_same : (instructions : ℕ) (work : Work) → Agree may m n → Same may m n (whole header authority instructions work m) (run_under may header authority instructions work n)
  unfolding run_under
  run_same instructions work agree =
      (performs_local (opener_of (free header authority) MOST_FRAMES) (opener_of (held may header authority) MOST_FRAMES) (openers_local MOST_FRAMES) work).same (start_of header instructions m) n
      (record { agree = agree; left = λ k e. refl; right = λ k e. refl }) refl

  pub done_local : (work : Work) → Local may m n P (done_under all_allowed header authority work) (done_under may header authority work)
  unfolding done_under
  done_local work =
      undoing_local may m n P _ _ (does_local (opener_of (free header authority) MOST_FRAMES) (opener_of (held may header authority) MOST_FRAMES) (openers_local MOST_FRAMES) work)

  pub run_quiet : (instructions : ℕ) (work : Work) (key : List ℕ) → writes_in (world_of (whole header authority instructions work m)).trace key ≡ false
      → IsExtended (get m key) (get (world_of (whole header authority instructions work m)).entries key)
  unfolding run_under
  run_quiet instructions work key =
      (performs_local (opener_of (free header authority) MOST_FRAMES) (opener_of (held may header authority) MOST_FRAMES) (openers_local MOST_FRAMES) work).quiet (start_of header instructions m) key

  pub run_fine : (instructions : ℕ) (work : Work) → Fine P m → Leaves may P (whole header authority instructions work m)
  unfolding run_under
  run_fine instructions work f =
      (performs_local (opener_of (free header authority) MOST_FRAMES) (opener_of (held may header authority) MOST_FRAMES) (openers_local MOST_FRAMES) work).fine (start_of header instructions m) f

  pub done_fine : (work : Work) (w : World) → Fine P w.entries → Leaves may P (done_under all_allowed header authority work w)
  done_fine work w f = (done_local work).fine w f

  pub frames_rise : (room : ℕ) (e : Entered) → P.sums → (w : World) → IsLater w.meter (world_of (framed (free header authority) (host_of (free header authority) (opener_of (free header authority) room)) e w)).meter
  frames_rise room e q w = (openers_local (suc room) e).later q w
