use Rattle.std.proofs.Common.{◌≡◌, ◌<◌, take, drop, true}
use Rattle.std.specs.List.{list_all}
use Rattle.host_spec.specs.Characters.{is_character}
use Rattle.host_spec.specs.Words.{text_bits}
use Rattle.tagged_val.proofs.Caps.{cap}
use Rattle.tagged_val.proofs.symbols.symbol_bits.Given as goal

abbrev pub invariant-loop-byte : goal.invariant-loop-byte
invariant-loop-byte l =
    (text_bits 0 l.text ≡ text_bits l.bits (drop l.byte-index l.text)) × (list_all is_character (take l.byte-index l.text) ≡ true) × (l.bits < cap l.byte-index)
