use Rattle.value_xdr.proofs.blob.hold_bytes.Goals as goal

pub returns : goal.returns
returns c i = (c.type_inv.slice i).fits
