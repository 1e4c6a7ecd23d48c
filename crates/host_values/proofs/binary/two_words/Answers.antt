use Rattle.host_values.proofs.binary.two_words.Goals as goal

pub returns-in-ObjFromU128Pieces : goal.returns-in-ObjFromU128Pieces
returns-in-ObjFromU128Pieces c = rw c.in-ObjFromU128Pieces.is (c.obj_from_u128_pieces.ensures c.args.memory.now)

pub returns-in-ObjFromI128Pieces : goal.returns-in-ObjFromI128Pieces
returns-in-ObjFromI128Pieces c = rw c.in-ObjFromI128Pieces.is (c.obj_from_i128_pieces.ensures c.args.memory.now)

pub returns-in-ObjCmp : goal.returns-in-ObjCmp
returns-in-ObjCmp c = rw c.in-ObjCmp.is (c.obj_cmp.ensures c.args.memory.now)
