-- Events of contracts.
use Rattle.std.proofs.Common.{◌≡◌, ℕ, zero, suc, ◌<◌, ◌≤◌, ◌^◌, Bool, true, false, ◌&&◌, ltb, List, [], ◌∷◌, length, map, Some, refl, ap, ap₂, subst, arith}
use Rattle.std.specs.Prelude.{codes}
use Rattle.std.specs.List.{AllByRecursion, list_all}
use Rattle.std.proofs.lemmas.Bool.{ltb-true}
use Rattle.xdr_spec.specs.Format.{list, optional, opaque, IsBytes}
use Rattle.value_types.specs.Hash.{hash_format}
use Rattle.value_types.specs.Formats.{scval_format}
use Rattle.value_types.specs.Datum.{Datum, bytes, symbol, vec, items_of}
use Rattle.value_types.specs.Depth.{items_depth}
use Rattle.value_types.specs.Views.{datum, datums, scval}
use Rattle.value_types.proofs.Lemmas.{items_there, scval-datum}
use Rattle.value_types.specs.declared.hash.Hash.{Hash}
use Rattle.value_types.specs.declared.value.ScVal.{ScVal}
use Rattle.value_xdr.specs.Bytes.{IsBounded, AreItemsBounded}
use Rattle.invoke_types.specs.Arguments.{values_format}
use Rattle.invoke_types.specs.Event.{event_format, type_format}
use Rattle.invoke_types.specs.declared.event.ContractEventType.TheVariants as types
use Rattle.host_spec.specs.Hosted.{IsHosted}
use Rattle.call_spec.specs.Events.{executable_topic, update_event}
use Rattle.host_frame.proofs.Lemmas.{hosted_fits, shallow_fits}

-- the values of a list, of which trees were made
pub all_same : (vs : List ScVal) → map scval (datums vs) ≡ vs
all_same [] = refl
all_same (v ∷ vs) = ap₂ (λ (x : ScVal) (xs : List ScVal). x ∷ xs) (scval-datum v) (all_same vs)

each_fits : (vs : List ScVal) → AreItemsBounded (items_of (datums vs)) → items_depth (items_of (datums vs)) ≤ 100 → AllByRecursion scval_format.fits vs
each_fits [] b h = tt
each_fits (v ∷ vs) b h = (shallow_fits v b.0 (omega (arith, h)), each_fits vs b.1 (omega (arith, h)))

length_datums : (vs : List ScVal) → length (datums vs) ≡ length vs
length_datums [] = refl
length_datums (v ∷ vs) = ap suc (length_datums vs)

values_fit : (vs : List ScVal) → IsHosted (vec (items_of (datums vs))) → values_format.fits vs
unfolding list
values_fit vs h =
    let few : length (datums vs) < 2 ^ 32 = subst (λ (x : List Datum). length x < 2 ^ 32) (items_there (datums vs)) h.made.bounded.0 in
    (omega (arith, few, length_datums vs), omega (arith, few, length_datums vs), each_fits vs h.made.bounded.1 (omega (arith, h.shallow)))

-- an event of a contract has a spelling
pub event_fits : (contract : Hash) (topics : List ScVal) (content : ScVal) → hash_format.fits contract → IsHosted (vec (items_of (datums topics))) → IsHosted (datum content)
    → event_format.fits (record { contract_id = Some contract; event_type = types.Contract; topics = topics; «data» = content })
unfolding event_format type_format optional
event_fits contract topics content c h k = (c, (refl, (values_fit topics h, hosted_fits content k)))

-- ---- updates

both_first : (a b : Bool) → a && b ≡ true → a ≡ true
both_first true b e = refl
both_first false b e = absurd cc

both_second : (a b : Bool) → a && b ≡ true → b ≡ true
both_second true b e = e
both_second false b e = absurd cc

bytes_from : (xs : List ℕ) → list_all (λ b. ltb b 256) xs ≡ true → IsBytes xs
bytes_from [] e i = omega arith
bytes_from (x ∷ xs) e zero = ltb-true x 256 (both_first (ltb x 256) (list_all (λ b. ltb b 256) xs) e)
bytes_from (x ∷ xs) e (suc i) = bytes_from xs (both_second (ltb x 256) (list_all (λ b. ltb b 256) xs) e) i

symbol_fits : (x : List ℕ) → IsBytes x → length x ≤ 32 → IsBounded (symbol x)
unfolding opaque
symbol_fits x b few = (few, omega arith, b)

hash_bounded : (h : Hash) → hash_format.fits h → IsBounded (bytes h.0)
unfolding hash_format opaque
hash_bounded h f = (omega (arith, f.0), omega (arith, f.0), f.1)

-- the topic of an executable
topic_fits : (code : Hash) → hash_format.fits code → scval_format.fits (scval (executable_topic code))
topic_fits code h =
    shallow_fits (scval (executable_topic code)) (omega arith, (symbol_fits (codes "Wasm") (bytes_from (codes "Wasm") refl) (omega arith), (hash_bounded code h, tt))) (omega arith)

-- the event of an update has a spelling
pub update_fits : (contract old new : Hash) → hash_format.fits contract → hash_format.fits old → hash_format.fits new → event_format.fits (update_event contract old new)
unfolding event_format type_format optional list
update_fits contract old new c h k =
    let name = shallow_fits (scval (symbol (codes "executable_update"))) (symbol_fits (codes "executable_update") (bytes_from (codes "executable_update") refl) (omega arith)) (omega arith) in
    (c, (refl, ((omega arith, omega arith, (name, (topic_fits old h, (topic_fits new k, tt)))), shallow_fits (scval (vec (items_of []))) (omega arith, tt) (omega arith))))
