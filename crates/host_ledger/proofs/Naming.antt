-- The ids of contracts.
use Rattle.std.proofs.Common.{◌≡◌, ◌==◌, ℕ, List, [], ◌∷◌, length, true, false, Option, Some, None, Result, Ok, Err, refl, sym, subst, ◌∙◌}
use Rattle.budget_meter.specs.Meter.{Meter}
use Rattle.budget_meter.specs.declared.kind.Kind.TheVariants.{ComputeSha256Hash}
use Rattle.value_types.specs.Datum.{Datum, address}
use Rattle.value_types.specs.Hash.{hash_of}
use Rattle.value_types.specs.declared.hash.Hash.{Hash}
use Rattle.value_types.specs.declared.address.ScAddress.{ScAddress}
use Rattle.value_types.specs.declared.address.ScAddress.TheVariants as addresses
use Rattle.invoke_types.specs.ContractId.{contract_id_payload, contract_id_of}
use Rattle.invoke_types.specs.declared.preimage.Preimage.TheVariants.{FromAddress}
use Rattle.host_interface.specs.declared.kinds.ArgKind.TheVariants as kinds
use Rattle.host_spec.specs.Acts as values
use Rattle.host_spec.specs.Addresses.{as_plain}
use Rattle.host_spec.specs.Answers.{Answer}
use Rattle.host_spec.specs.Arguments.{argument, dispatched, resolved, of_type, typed, as_address}
use Rattle.host_spec.specs.Words.{meaning}
use Rattle.host_spec.specs.declared.error.HostErr.{HostErr}
use Rattle.host_spec.specs.declared.error.HostErr.TheVariants as ends
use Rattle.host_frame.specs.Answered.{answer_of}
use Rattle.host_frame.specs.declared.answer.Answer.{Answer as Answer'}
use Rattle.call_spec.specs.Errors.{OTHER_SIZE}
use Rattle.call_spec.specs.World.{World, Env}
use Rattle.call_spec.specs.Acts.{Act, Out, gives, fails, paying}
use Rattle.call_spec.specs.Creating.{get_contract_id}
use Rattle.call_spec.specs.Outcomes.{quiet, Says}
use Rattle.call_spec.specs.Rules.{answered, returning}

-- ---- the deployer is an account or a contract

plain_by : (x y : ScAddress) → typed (as_plain x) ≡ Ok y → as_plain y ≡ Some y
plain_by (addresses.Account a) y e = let same : addresses.Account a ≡ y = cc in rw (← same) refl
plain_by (addresses.Contract a) y e = let same : addresses.Contract a ≡ y = cc in rw (← same) refl
plain_by (addresses.MuxedAccount id k) y e = absurd cc
plain_by (addresses.ClaimableBalance b) y e = absurd cc
plain_by (addresses.LiquidityPool p) y e = absurd cc

plain_of : (d : Datum) (y : ScAddress) → typed (as_address d) ≡ Ok y → as_plain y ≡ Some y
plain_of (address x) y e = plain_by x y e
plain_of _ y e = absurd cc

plain_at : (o : Option Datum) (y : ScAddress) → of_type as_address o ≡ Ok y → as_plain y ≡ Some y
plain_at None y e = absurd cc
plain_at (Some d) y e = plain_of d y e

pub plain_address : (shown : List Datum) (word : ℕ) (y : ScAddress) → argument kinds.Address shown word ≡ Ok y → as_plain y ≡ Some y
unfolding resolved
plain_address shown word y e = plain_at (meaning shown word) y e

-- ---- the row

abbrev naming : Hash → ScAddress → Hash → Act Answer
naming network deployer salt =
    paying ComputeSha256Hash (length (contract_id_payload network (FromAddress deployer salt))) (returning (gives (contract_id_of network (FromAddress deployer salt))) (λ id. address (addresses.Contract id)))

id_is : (env : Env) (w : World) (shown : List Datum) (a b : ℕ) (deployer : ScAddress) (bs : List ℕ) (before after : Meter) → w.frame.shown ≡ shown → w.meter ≡ before
    → argument kinds.Address shown a ≡ Ok deployer → argument kinds.Bytes shown b ≡ Ok bs
    → ((memory : List ℕ) → dispatched (a ∷ b ∷ []) (values.state shown memory before) ≡ values.Good tt (values.state shown memory after))
    → answered (kinds.Address ∷ kinds.Bytes ∷ []) (get_contract_id env) (a ∷ b ∷ []) w ≡ get_contract_id env deployer bs (record w { meter = after })
id_is env w shown a b deployer bs before after k j h1 h2 paid = rw (k, j, h1, h2, paid w.frame.memory) refl

sized_is : (env : Env) (w : World) (network : Hash) (deployer : ScAddress) (bs : List ℕ) (salt : Hash) → env.header.network_id ≡ network → length bs == 32 ≡ true → salt ≡ hash_of bs
    → get_contract_id env deployer bs w ≡ naming network deployer salt w
sized_is env w network deployer bs salt n sized is = rw (sized, is, n) refl

missized_is : (env : Env) (w : World) (deployer : ScAddress) (bs : List ℕ) → length bs == 32 ≡ false → get_contract_id env deployer bs w ≡ fails OTHER_SIZE w
missized_is env w deployer bs sized = rw sized refl

pub id_runs : (q : Result Answer' HostErr) (shown : List Datum) (network : Hash) (a b : ℕ) (deployer : ScAddress) (bs : List ℕ) (salt : Hash) (before entered after : Meter)
    → argument kinds.Address shown a ≡ Ok deployer → argument kinds.Bytes shown b ≡ Ok bs
    → ((memory : List ℕ) → dispatched (a ∷ b ∷ []) (values.state shown memory before) ≡ values.Good tt (values.state shown memory entered))
    → length bs == 32 ≡ true → salt ≡ hash_of bs
    → ((w : World) → w.meter ≡ entered → Says q answer_of (naming network deployer salt w) (quiet w (λ trace. record w { trace = trace; meter = after })))
    → (env : Env) → env.header.network_id ≡ network → (w : World) → w.meter ≡ before → w.frame.shown ≡ shown
    → Says q answer_of (answered (kinds.Address ∷ kinds.Bytes ∷ []) (get_contract_id env) (a ∷ b ∷ []) w) (quiet w (λ trace. record w { trace = trace; meter = after }))
id_runs q shown network a b deployer bs salt before entered after h1 h2 paid sized is runs env n w j k =
    subst (λ (out : Out Answer). Says q answer_of out (quiet w (λ trace. record w { trace = trace; meter = after })))
    (sym (id_is env w shown a b deployer bs before entered k j h1 h2 paid ∙ sized_is env (record w { meter = entered }) network deployer bs salt n sized is))
    (runs (record w { meter = entered }) refl)

pub id_refuses : (e : HostErr) (shown : List Datum) (a b : ℕ) (deployer : ScAddress) (bs : List ℕ) (before entered : Meter)
    → argument kinds.Address shown a ≡ Ok deployer → argument kinds.Bytes shown b ≡ Ok bs
    → ((memory : List ℕ) → dispatched (a ∷ b ∷ []) (values.state shown memory before) ≡ values.Good tt (values.state shown memory entered))
    → length bs == 32 ≡ false → e ≡ ends.Failed OTHER_SIZE
    → (env : Env) (w : World) → w.meter ≡ before → w.frame.shown ≡ shown
    → let q : Result Answer' HostErr = Err e in Says q answer_of (answered (kinds.Address ∷ kinds.Bytes ∷ []) (get_contract_id env) (a ∷ b ∷ []) w) (quiet w (λ trace. record w { trace = trace; meter = entered }))
id_refuses e shown a b deployer bs before entered h1 h2 paid sized is env w j k =
    subst (λ (x : HostErr). let q : Result Answer' HostErr = Err x in Says q answer_of (answered (kinds.Address ∷ kinds.Bytes ∷ []) (get_contract_id env) (a ∷ b ∷ []) w) (quiet w (λ trace. record w { trace = trace; meter = entered }))) (sym is)
    (subst (λ (out : Out Answer). let q : Result Answer' HostErr = Err (ends.Failed OTHER_SIZE) in Says q answer_of out (quiet w (λ trace. record w { trace = trace; meter = entered })))
    (sym (id_is env w shown a b deployer bs before entered k j h1 h2 paid ∙ missized_is env (record w { meter = entered }) deployer bs sized)) (refl, refl))
