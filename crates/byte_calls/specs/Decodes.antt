-- What a call that reads a value finds (own).
use Rattle.std.specs.Prelude.{◌≡◌, Result, Ok, Err}
use Rattle.xdr_spec.specs.declared.XdrErr.{XdrErr}
use Rattle.xdr_core.specs.declared.error.ReadXdr.{ReadXdr}
use Rattle.xdr_core.specs.declared.error.ReadXdr.TheVariants.{Bad, NoMemory, Stopped}
use Rattle.value_types.specs.declared.value.ScVal.{ScVal}

-- The call returns what the bytes are decoded as. Memory may run out at any time. Bytes in memory never stop.
abbrev pub Decodes : Result ScVal ReadXdr → Result ScVal XdrErr → Type 0
Decodes (Ok v) d = d ≡ Ok v
Decodes (Err (Bad e)) d = d ≡ Err e
Decodes (Err NoMemory) d = Unit {0}
Decodes (Err Stopped) d = ⊥
