-- The arguments of calls and creates.
use Rattle.std.specs.Prelude.{Vec}
use Rattle.std.specs.Option.{option_map}
use Rattle.std.specs.declared.alloc.Global.{Global}
use Rattle.std.proofs.Common.{◌≡◌, ℕ, ◌≤◌, ◌==◌, List, [], ◌∷◌, length, Bool, true, false, Option, Some, None, Result, Ok, Err, refl, sym, ap, ◌∙◌, subst, arith, length-append}
use Rattle.budget_meter.specs.Meter.{Meter}
use Rattle.value_types.specs.Datum.{Datum, vec, items_of, list_of_items}
use Rattle.value_types.proofs.Lemmas.{items_there}
use Rattle.value_types.specs.Depth.{items_depth}
use Rattle.value_types.specs.Views.{datums}
use Rattle.value_types.specs.Hash.{hash_of}
use Rattle.value_types.specs.declared.hash.Hash.{Hash}
use Rattle.value_types.specs.declared.address.ScAddress.{ScAddress}
use Rattle.value_types.specs.declared.value.ScVal.{ScVal}
use Rattle.value_xdr.specs.Bytes.{bytes_of, items_bytes}
use Rattle.host_interface.specs.declared.kinds.ArgKind.TheVariants as kinds
use Rattle.host_spec.specs.Acts as values
use Rattle.host_spec.specs.Answers.{Answer}
use Rattle.host_spec.specs.Arguments.{argument, dispatched}
use Rattle.host_spec.specs.Hosted.{IsHosted, AreHosted, size_of}
use Rattle.host_spec.specs.declared.error.HostErr.{HostErr}
use Rattle.host_frame.specs.Answered.{answer_of}
use Rattle.host_frame.specs.Made.{AreMade}
use Rattle.host_frame.specs.declared.answer.Answer.{Answer as Answer'}
use Rattle.host_frame.proofs.Lemmas.{items_made}
use Rattle.call_spec.specs.Errors.{OTHER_SIZE}
use Rattle.call_spec.specs.World.{World, Env}
use Rattle.call_spec.specs.Acts.{Act, Out, then_do, gives, only_where}
use Rattle.call_spec.specs.Creating.{only_hash, creates_by, create_contract, create_contract_with_constructor}
use Rattle.call_spec.specs.Frames.{Opener}
use Rattle.call_spec.specs.Outcomes.{quiet, Says}
use Rattle.call_spec.specs.Rules.{answered}
use Rattle.call_host.specs.Creations.{creation_of, args_of}
use Rattle.call_host.specs.declared.words.NewContract.{NewContract}
use Rattle.call_host.specs.Taken.{Takes, creates_here}
use Rattle.call_host.proofs.Joining.{says_stopped}

-- ---- values of a vec

hosted_items : (ds : List Datum) → AreMade ds → length (items_bytes (items_of ds)) ≤ 16777216 → items_depth (items_of ds) ≤ 100 → AreHosted ds
unfolding size_of
hosted_items [] made small shallow = tt
hosted_items (d ∷ ds) made small shallow =
    let sizes = length-append (bytes_of d) (items_bytes (items_of ds)) in
    (record { made = made.0; sized = omega (arith, small, sizes); shallow = omega (arith, shallow) }, hosted_items ds made.1 (omega (arith, small, sizes)) (omega (arith, shallow)))

hosted_by_size : (ds : List Datum) → IsHosted (vec (items_of ds)) → size_of (vec (items_of ds)) ≤ 16777216 → AreHosted ds
unfolding size_of
hosted_by_size ds h small = hosted_items ds (items_made ds h.made) (omega (arith, small)) (let deep = h.shallow in omega (arith, deep))

-- the items of a vec that the host holds
pub items_are_hosted : (vs ws : List ScVal) → vs ≡ ws → IsHosted (vec (items_of (datums ws))) → AreHosted (datums vs)
items_are_hosted vs ws e h = subst (λ (x : List ScVal). AreHosted (datums x)) (sym e) (hosted_by_size (datums ws) h h.sized)

-- a vec has just one list of items
pub items_of_vec : (a b : List Datum) → vec (items_of a) ≡ vec (items_of b) → a ≡ b
items_of_vec a b e = let same : items_of a ≡ items_of b = cc in sym (items_there a) ∙ ap list_of_items same ∙ items_there b

-- ---- hashes

sized_first : {A : Type 0} (sized : Bool) (hash : Hash) (next : Hash → Act A) (w : World) → only_where sized OTHER_SIZE (next hash) w ≡ then_do (only_where sized OTHER_SIZE (gives hash) w) next
sized_first true hash next w = refl
sized_first false hash next w = refl

hash_first : {A : Type 0} (bs : List ℕ) (next : Hash → Act A) (w : World) → only_hash bs next w ≡ then_do (only_hash bs (λ h. gives h) w) next
hash_first bs next w = sized_first (length bs == 32) (hash_of bs) next w

-- how the program tests a hash
abbrev IsHash : Result Hash HostErr → List ℕ → Type 0
IsHash r bs = (w : World) → Says r (λ h. h) (only_hash bs (λ h. gives h) w) (quiet w (λ trace. w))

hash_good : {A : Type 0} (bs : List ℕ) (hash : Hash) (next : Hash → Act A) (w : World) → IsHash (Ok hash) bs → only_hash bs next w ≡ next hash w
hash_good bs hash next w h = hash_first bs next w ∙ ap (λ o. then_do o next) (h w).1

hash_bad : {A C : Type 0} (other : C → A) (e : HostErr) (bs : List ℕ) (next : Hash → Act A) (w : World) → IsHash (Err e) bs
    → (let none : Result C HostErr = Err e in Says none other (only_hash bs next w) (quiet w (λ trace. w)))
hash_bad other e bs next w h = says_stopped (λ hash. hash) other e next (only_hash bs (λ hash. gives hash) w) (only_hash bs next w) (λ trace. trace ≡ w.trace) w (hash_first bs next w) (h w)

-- ---- creates

-- what the program says of a contract to be made
abbrev pub IsTaken : Result NewContract HostErr → Env → Opener → Act Answer → Type 0
IsTaken r env opener act = (shown : List Datum) (m : Meter) → Takes r act (λ x. creates_here env opener (creation_of x)) shown m m

pub code_bad : (e : HostErr) (env : Env) (opener : Opener) (deployer : ScAddress) (code salt : List ℕ) (args : Option (List Datum)) → IsHash (Err e) code
    → IsTaken (Err e) env opener (creates_by env opener deployer code salt args)
code_bad e env opener deployer code salt args h shown m w k j =
    let none : Result Answer' HostErr = Err e in
    subst (λ (z : Meter). Says none answer_of (creates_by env opener deployer code salt args w) (quiet w (λ trace. record w { meter = z }))) j
    (hash_bad answer_of e code (λ hash. only_hash salt (λ s. creates_here env opener (record { deployer = deployer; code = hash; salt = s; args = args }))) w h)

pub salt_bad : (e : HostErr) (env : Env) (opener : Opener) (deployer : ScAddress) (code salt : List ℕ) (hash : Hash) (args : Option (List Datum)) → IsHash (Ok hash) code → IsHash (Err e) salt
    → IsTaken (Err e) env opener (creates_by env opener deployer code salt args)
salt_bad e env opener deployer code salt hash args good h shown m w k j =
    let none : Result Answer' HostErr = Err e in
    subst (λ (z : Meter). Says none answer_of (creates_by env opener deployer code salt args w) (quiet w (λ trace. record w { meter = z }))) j
    (subst (λ (o : Out Answer). Says none answer_of o (quiet w (λ trace. w)))
    (sym (hash_good code hash (λ x. only_hash salt (λ s. creates_here env opener (record { deployer = deployer; code = x; salt = s; args = args }))) w good))
    (hash_bad answer_of e salt (λ s. creates_here env opener (record { deployer = deployer; code = hash; salt = s; args = args })) w h))

pub both_good : (env : Env) (opener : Opener) (deployer : ScAddress) (code salt : List ℕ) (hash mark : Hash) (given : Option (Vec ScVal Global)) → IsHash (Ok hash) code → IsHash (Ok mark) salt
    → IsTaken (Ok (record { deployer = deployer; code = hash; salt = mark; args = given })) env opener (creates_by env opener deployer code salt (option_map args_of given))
both_good env opener deployer code salt hash mark given good other shown m w k j =
    let args = option_map args_of given in
    let made = creates_here env opener (record { deployer = deployer; code = hash; salt = mark; args = args }) in
    hash_good code hash (λ x. only_hash salt (λ s. creates_here env opener (record { deployer = deployer; code = x; salt = s; args = args }))) w good
    ∙ hash_good salt mark (λ s. creates_here env opener (record { deployer = deployer; code = hash; salt = s; args = args })) w other
    ∙ ap (λ (z : Meter). made (record w { meter = z })) j

-- an act that is a create after the charges of its call
abbrev IsCreate : Act Answer → Env → Opener → ScAddress → List ℕ → List ℕ → Option (List Datum) → List Datum → Meter → Meter → Type 0
IsCreate act env opener deployer code salt args shown before after =
    (w : World) → w.frame.shown ≡ shown → w.meter ≡ before → act w ≡ creates_by env opener deployer code salt args (record w { meter = after })

pub create_is : (env : Env) (opener : Opener) (shown : List Datum) (a b c : ℕ) (deployer : ScAddress) (code salt : List ℕ) (before after : Meter)
    → argument kinds.Address shown a ≡ Ok deployer → argument kinds.Bytes shown b ≡ Ok code → argument kinds.Bytes shown c ≡ Ok salt
    → ((memory : List ℕ) → dispatched (a ∷ b ∷ c ∷ []) (values.state shown memory before) ≡ values.Good tt (values.state shown memory after))
    → IsCreate (answered (kinds.Address ∷ kinds.Bytes ∷ kinds.Bytes ∷ []) (create_contract env opener) (a ∷ b ∷ c ∷ [])) env opener deployer code salt None shown before after
create_is env opener shown a b c deployer code salt before after h1 h2 h3 paid w k j = rw (k, j, h1, h2, h3, paid w.frame.memory) refl

pub construct_is : (env : Env) (opener : Opener) (shown : List Datum) (a b c d : ℕ) (deployer : ScAddress) (code salt : List ℕ) (args : List Datum) (before after : Meter)
    → argument kinds.Address shown a ≡ Ok deployer → argument kinds.Bytes shown b ≡ Ok code → argument kinds.Bytes shown c ≡ Ok salt → argument kinds.Vec shown d ≡ Ok args
    → ((memory : List ℕ) → dispatched (a ∷ b ∷ c ∷ d ∷ []) (values.state shown memory before) ≡ values.Good tt (values.state shown memory after))
    → IsCreate (answered (kinds.Address ∷ kinds.Bytes ∷ kinds.Bytes ∷ kinds.Vec ∷ []) (create_contract_with_constructor env opener) (a ∷ b ∷ c ∷ d ∷ [])) env opener deployer code salt (Some args) shown before after
construct_is env opener shown a b c d deployer code salt args before after h1 h2 h3 h4 paid w k j = rw (k, j, h1, h2, h3, h4, paid w.frame.memory) refl

-- the create after the charges of its call
pub taken_after : (r : Result NewContract HostErr) (act : Act Answer) (env : Env) (opener : Opener) (deployer : ScAddress) (code salt : List ℕ) (args : Option (List Datum)) (shown : List Datum) (before after : Meter)
    → IsCreate act env opener deployer code salt args shown before after → IsTaken r env opener (creates_by env opener deployer code salt args)
    → Takes r act (λ x. creates_here env opener (creation_of x)) shown before after
taken_after (Ok x) act env opener deployer code salt args shown before after is h = λ w k j. is w k j ∙ h shown after (record w { meter = after }) k refl
taken_after (Err e) act env opener deployer code salt args shown before after is h = λ w k j.
    let none : Result Answer' HostErr = Err e in
    subst (λ (o : Out Answer). Says none answer_of o (quiet w (λ trace. record w { meter = after }))) (sym (is w k j)) (h shown after (record w { meter = after }) k refl)
