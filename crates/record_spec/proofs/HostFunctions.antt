-- All host functions and the frames that call them, and whole runs, with demands that are noted and with entries.
use Rattle.std.proofs.Common.{ℕ, zero, suc, List, Option, Some, None}
use Rattle.std.specs.Option.{option_map}
use Rattle.wasm_spec.specs.declared.module.Module.{Module}
use Rattle.module_spec.specs.Loading.{row_at}
use Rattle.host_interface.specs.Rows.{Row}
use Rattle.host_interface.specs.declared.kinds.ArgKind.{ArgKind}
use Rattle.host_interface.specs.declared.import.HostImport.{HostImport}
use Rattle.host_interface.specs.declared.import.HostImport.TheVariants as imports
use Rattle.host_spec.specs.Indices.{arguments_of}
use Rattle.host_spec.specs.Acts as values
use Rattle.host_spec.specs.ValueFunctions.{value_function}
use Rattle.call_spec.specs.Acts.{Act}
use Rattle.call_spec.specs.Rules.{Rule, call_of}
use Rattle.call_spec.specs.Frames.{Opener}
use Rattle.call_spec.specs.HostFunctions.{world_rule, world_function, either, of_row, host_of, opener_of}
use Rattle.call_spec.specs.WholeRuns.{Work, calling, uploading, creating, arguments_in, does, performs}
use Rattle.record_spec.proofs.Apart.{FunctionApart, function_apart}
use Rattle.record_spec.proofs.Beside.{Setting, Given, noting_env, proving_env, Agreeing}
use Rattle.record_spec.proofs.Acts.{good_agrees, fails_agrees, after_agrees, lift_agrees, paying_agrees}
use Rattle.record_spec.proofs.Frames.{HostsAgree, framed_agrees, OpenersAgree}
use Rattle.record_spec.proofs.Rows.{entering_agrees, RulesAgree, call_of_agrees, contract_event_agrees, frame_answer_agrees, fail_agrees, put_agrees, has_agrees, get_agrees, del_agrees, extend_agrees, extend_both_agrees, upload_agrees, uploads_agrees, update_agrees, id_agrees, calls_agrees, call_agrees, try_call_agrees, creates_agrees, creates_by_agrees, auth_agrees, auth_for_args_agrees}

module _ (s : Setting) (known : Given s) where
  -- ---- functions

  abbrev RowsAgree : (ks : List ArgKind) → Option (Rule ks) → Option (Rule ks) → Type 0
  RowsAgree ks (Some rule) (Some rule') = RulesAgree s ks rule rule'
  RowsAgree ks None None = Unit {0}
  RowsAgree ks _ _ = ⊥

  abbrev FunctionsAgree : Option (List ℕ → Act ℕ) → Option (List ℕ → Act ℕ) → Type 0
  FunctionsAgree (Some f) (Some g) = (words : List ℕ) → Agreeing s (f words) (g words)
  FunctionsAgree None None = Unit {0}
  FunctionsAgree _ _ = ⊥

  mapped_agree : (ks : List ArgKind) (o o' : Option (Rule ks)) → RowsAgree ks o o' → FunctionsAgree (option_map (call_of ks) o) (option_map (call_of ks) o')
  mapped_agree ks (Some rule) (Some rule') h = call_of_agrees s ks rule rule' h
  mapped_agree ks (Some rule) None h = absurd h
  mapped_agree ks None (Some rule') h = absurd h
  mapped_agree ks None None h = tt

  either_agrees : (o o' : Option (List ℕ → Act ℕ)) → FunctionsAgree o o' → (v : Option (List ℕ → values.Act ℕ)) → FunctionApart v → (words : List ℕ) → Agreeing s (either o v words) (either o' v words)
  either_agrees (Some f) (Some g) h v r words = h words
  either_agrees (Some f) None h v r words = absurd h
  either_agrees None (Some g) h v r words = absurd h
  either_agrees None None h (Some f) r words = lift_agrees s (f words) (r words)
  either_agrees None None h None r words = fails_agrees s _

  module _ (opener opener' : Opener) (opens : OpenersAgree s opener opener') where
    rule_agrees : (i : HostImport) → RowsAgree (arguments_of i) (world_rule (noting_env s) opener i) (world_rule (proving_env s) opener' i)
    rule_agrees imports.ContractEvent = contract_event_agrees s
    rule_agrees imports.GetLedgerVersion = good_agrees s _
    rule_agrees imports.GetLedgerSequence = good_agrees s _
    rule_agrees imports.GetLedgerTimestamp = good_agrees s _
    rule_agrees imports.GetLedgerNetworkId = good_agrees s _
    rule_agrees imports.GetCurrentContractAddress = frame_answer_agrees s _
    rule_agrees imports.GetMaxLiveUntilLedger = good_agrees s _
    rule_agrees imports.FailWithError = fail_agrees s
    rule_agrees imports.PutContractData = put_agrees s known
    rule_agrees imports.HasContractData = has_agrees s known
    rule_agrees imports.GetContractData = get_agrees s known
    rule_agrees imports.DelContractData = del_agrees s known
    rule_agrees imports.ExtendContractDataTtl = extend_agrees s known
    rule_agrees imports.ExtendCurrentContractInstanceAndCodeTtl = extend_both_agrees s known
    rule_agrees imports.UploadWasm = upload_agrees s known
    rule_agrees imports.CreateContract = λ deployer code salt. creates_by_agrees s known opener opener' opens deployer code salt None
    rule_agrees imports.CreateContractWithConstructor = λ deployer code salt args. creates_by_agrees s known opener opener' opens deployer code salt (Some args)
    rule_agrees imports.UpdateCurrentContractWasm = update_agrees s known
    rule_agrees imports.GetContractId = id_agrees s known
    rule_agrees imports.Call = call_agrees s known opener opener' opens
    rule_agrees imports.TryCall = try_call_agrees s known opener opener' opens
    rule_agrees imports.RequireAuth = auth_agrees s known opener opener' opens
    rule_agrees imports.RequireAuthForArgs = auth_for_args_agrees s known opener opener' opens
    rule_agrees _ = tt

    row_agrees : (o : Option Row) (words : List ℕ) → Agreeing s (of_row (noting_env s) opener o words) (of_row (proving_env s) opener' o words)
    row_agrees None words = fails_agrees s _
    row_agrees (Some row) words =
        either_agrees (world_function (noting_env s) opener row.import) (world_function (proving_env s) opener' row.import) (mapped_agree (arguments_of row.import) _ _ (rule_agrees row.import)) (value_function row.import) (function_apart row.import) words

    host_agrees : (x : Module) → HostsAgree s (host_of (noting_env s) opener x) (host_of (proving_env s) opener' x)
    host_agrees x f words = row_agrees (row_at x f) words

  -- ---- frames, by the number of frames that may still be open

  pub openers_agree : (room : ℕ) → OpenersAgree s (opener_of (noting_env s) room) (opener_of (proving_env s) room)
  openers_agree zero = tt
  openers_agree (suc room) = framed_agrees s known (host_of (noting_env s) (opener_of (noting_env s) room)) (host_of (proving_env s) (opener_of (proving_env s) room))
      (host_agrees (opener_of (noting_env s) room) (opener_of (proving_env s) room) (openers_agree room))

  -- ---- whole runs

  module _ (opener opener' : Opener) (opens : OpenersAgree s opener opener') where
    does_agrees : (work : Work) → Agreeing s (does (noting_env s) opener work) (does (proving_env s) opener' work)
    does_agrees (calling contract function args) = calls_agrees s known opener opener' opens (record { caller = None; address = contract; function = function; args = args }) tt
    does_agrees (uploading code) = after_agrees s _ _ _ _ (uploads_agrees s known code) (λ hash. good_agrees s _)
    does_agrees (creating c) = after_agrees s _ _ _ _ (creates_agrees s known opener opener' opens None tt c) (λ id. good_agrees s _)

    pub performs_agrees : (work : Work) → Agreeing s (performs (noting_env s) opener work) (performs (proving_env s) opener' work)
    performs_agrees work = after_agrees s _ _ _ _ (entering_agrees s (arguments_in work) _ _ (does_agrees work)) (λ d. paying_agrees s _ _ _ _ (good_agrees s d))
