-- Values that are owned or lent.
use Rattle.std.specs.Prelude.{ℕ, List}
use Rattle.value_types.specs.declared.account_id.AccountId.{AccountId}
use Rattle.value_types.specs.declared.value.ScVal.{ScVal}
use Rattle.host_spec.specs.Addresses.{Muxed}
use Rattle.host_frame.specs.declared.held.Held.{Held}
use Rattle.host_frame.specs.declared.held.Held.TheVariants as values
use Rattle.host_frame.specs.declared.held.HeldText.{HeldText}
use Rattle.host_frame.specs.declared.held.HeldText.TheVariants as texts

abbrev pub held : Held → ScVal
held (values.Own v) = v
held (values.Lent v) = v.now

abbrev pub held_text : HeldText → List ℕ
held_text (texts.Own b) = b
held_text (texts.Lent b) = b.now

-- the parts of a muxed account's address
abbrev pub muxed : ℕ × AccountId → Muxed
muxed p = record { id = p.0; account = p.1 }
