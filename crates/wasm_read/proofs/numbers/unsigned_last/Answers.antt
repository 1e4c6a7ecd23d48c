use Rattle.std.proofs.Common.{◌^◌, Bool, Some, None, sym, ap}
use Rattle.std.specs.Prelude.{if◌then◌else◌}
use Rattle.std.proofs.lemmas.Bool.{lt-ltb}
use Rattle.wasm_read.proofs.Powers.{small_byte}
use Rattle.wasm_read.proofs.numbers.unsigned_last.Goals as goal

pub returns-then-bits-ge7-clause-value : goal.returns-then-bits-ge7-clause-value
returns-then-bits-ge7-clause-value c = sym (ap (λ (t : Bool). if t then Some c.args.byte else None) (lt-ltb c.args.byte (2 ^ c.args.bits) (small_byte c.args.bits c.args.byte c.requires.byte c.if-bits-ge7.true)))

pub returns-then-bits-ge7-clause-fits : goal.returns-then-bits-ge7-clause-fits
returns-then-bits-ge7-clause-fits c = small_byte c.args.bits c.args.byte c.requires.byte c.if-bits-ge7.true
