-- Module x, as far as it needs values alone (own, after CAP-0046-03).
use Rattle.std.specs.Prelude.{ℕ, ◌+◌, ◌-◌, ◌^◌}
use Rattle.std.specs.declared.cmp.Ordering.{Ordering}
use Rattle.std.specs.declared.cmp.Ordering.TheVariants.{Less, Equal, Greater}
use Rattle.budget_meter.specs.declared.kind.Kind.TheVariants.{MemCmp}
use Rattle.value_types.specs.Datum.{Datum}
use Rattle.value_types.specs.Order.{datum_cmp}
use Rattle.host_spec.specs.Hosted.{size_of}
use Rattle.host_spec.specs.Acts.{Act, gives, paying}
use Rattle.host_spec.specs.Answers.{Answer, raw}

-- -1, 0 or 1 as a signed word
abbrev pub order_word : Ordering → ℕ
order_word Less = 2 ^ 64 - 1
order_word Equal = 0
order_word Greater = 1

abbrev pub obj_cmp : Datum → Datum → Act Answer
obj_cmp d e = paying MemCmp (size_of d + size_of e) (gives (raw (order_word (datum_cmp d e))))
