-- The keys of a footprint within its XDR format are within theirs.
use Rattle.std.proofs.Common.{All}
use Rattle.std.proofs.lemmas.List.Elements.{All-from_recursion}
use Rattle.xdr_spec.specs.Format.{list}
use Rattle.ledger_types.specs.Key.{key_format}
use Rattle.tx_xdr.specs.Soroban.{footprint_format}
use Rattle.tx_xdr.specs.declared.transaction.Footprint.{Footprint}

pub read_only_fit : (footprint : Footprint) → footprint_format.fits footprint → All (λ key. key_format.fits key) footprint.read_only
unfolding footprint_format list
read_only_fit footprint h = All-from_recursion key_format.fits footprint.read_only h.0.2

pub read_write_fit : (footprint : Footprint) → footprint_format.fits footprint → All (λ key. key_format.fits key) footprint.read_write
unfolding footprint_format list
read_write_fit footprint h = All-from_recursion key_format.fits footprint.read_write h.1.2
