use Rattle.host_values.proofs.binary.two_bytes.Goals as goal

pub returns-in-BytesGet : goal.returns-in-BytesGet
returns-in-BytesGet c = rw c.in-BytesGet.is (c.bytes_get.ensures c.args.memory.now)

pub returns-in-BytesDel : goal.returns-in-BytesDel
returns-in-BytesDel c = rw c.in-BytesDel.is (c.bytes_del.ensures c.args.memory.now)

pub returns-in-BytesPush : goal.returns-in-BytesPush
returns-in-BytesPush c = rw c.in-BytesPush.is (c.bytes_push.ensures c.args.memory.now)

pub returns-in-BytesAppend : goal.returns-in-BytesAppend
returns-in-BytesAppend c = rw c.in-BytesAppend.is (c.bytes_append.ensures c.args.memory.now)
