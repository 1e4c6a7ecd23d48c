use Rattle.host_values.proofs.unary.one_text.Goals as goal

pub returns-in-SerializeToBytes : goal.returns-in-SerializeToBytes
returns-in-SerializeToBytes c = rw c.in-SerializeToBytes.is c.serialize_to_bytes.ensures

pub returns-in-DeserializeFromBytes : goal.returns-in-DeserializeFromBytes
returns-in-DeserializeFromBytes c = rw c.in-DeserializeFromBytes.is c.deserialize_from_bytes.ensures

pub returns-in-BytesLen : goal.returns-in-BytesLen
returns-in-BytesLen c = rw c.in-BytesLen.is c.bytes_len.ensures

pub returns-in-BytesPop : goal.returns-in-BytesPop
returns-in-BytesPop c = rw c.in-BytesPop.is c.bytes_pop.ensures

pub returns-in-BytesFront : goal.returns-in-BytesFront
returns-in-BytesFront c = rw c.in-BytesFront.is c.bytes_front.ensures

pub returns-in-BytesBack : goal.returns-in-BytesBack
returns-in-BytesBack c = rw c.in-BytesBack.is c.bytes_back.ensures

pub returns-in-StringLen : goal.returns-in-StringLen
returns-in-StringLen c = rw c.in-StringLen.is c.string_len.ensures

pub returns-in-SymbolLen : goal.returns-in-SymbolLen
returns-in-SymbolLen c = rw c.in-SymbolLen.is c.symbol_len.ensures

pub returns-in-StringToBytes : goal.returns-in-StringToBytes
returns-in-StringToBytes c = rw c.in-StringToBytes.is c.string_to_bytes.ensures

pub returns-in-BytesToString : goal.returns-in-BytesToString
returns-in-BytesToString c = rw c.in-BytesToString.is c.bytes_to_string.ensures

pub returns-in-ComputeHashSha256 : goal.returns-in-ComputeHashSha256
returns-in-ComputeHashSha256 c = rw c.in-ComputeHashSha256.is c.compute_hash_sha256.ensures
