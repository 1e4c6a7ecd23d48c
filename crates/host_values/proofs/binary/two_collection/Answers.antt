use Rattle.host_values.proofs.binary.two_collection.Goals as goal

pub returns-in-MapGet : goal.returns-in-MapGet
returns-in-MapGet c = rw c.in-MapGet.is (c.map_get.ensures c.args.memory.now)

pub returns-in-MapDel : goal.returns-in-MapDel
returns-in-MapDel c = rw c.in-MapDel.is (c.map_del.ensures c.args.memory.now)

pub returns-in-MapHas : goal.returns-in-MapHas
returns-in-MapHas c = rw c.in-MapHas.is (c.map_has.ensures c.args.memory.now)

pub returns-in-MapKeyByPos : goal.returns-in-MapKeyByPos
returns-in-MapKeyByPos c = rw c.in-MapKeyByPos.is (c.map_key_by_pos.ensures c.args.memory.now)

pub returns-in-MapValByPos : goal.returns-in-MapValByPos
returns-in-MapValByPos c = rw c.in-MapValByPos.is (c.map_val_by_pos.ensures c.args.memory.now)

pub returns-in-VecGet : goal.returns-in-VecGet
returns-in-VecGet c = rw c.in-VecGet.is (c.vec_get.ensures c.args.memory.now)

pub returns-in-VecDel : goal.returns-in-VecDel
returns-in-VecDel c = rw c.in-VecDel.is (c.vec_del.ensures c.args.memory.now)

pub returns-in-VecPushFront : goal.returns-in-VecPushFront
returns-in-VecPushFront c = rw c.in-VecPushFront.is (c.vec_push_front.ensures c.args.memory.now)

pub returns-in-VecPushBack : goal.returns-in-VecPushBack
returns-in-VecPushBack c = rw c.in-VecPushBack.is (c.vec_push_back.ensures c.args.memory.now)

pub returns-in-VecAppend : goal.returns-in-VecAppend
returns-in-VecAppend c = rw c.in-VecAppend.is (c.vec_append.ensures c.args.memory.now)

pub returns-in-VecFirstIndexOf : goal.returns-in-VecFirstIndexOf
returns-in-VecFirstIndexOf c = rw c.in-VecFirstIndexOf.is (c.vec_first_index_of.ensures c.args.memory.now)

pub returns-in-VecLastIndexOf : goal.returns-in-VecLastIndexOf
returns-in-VecLastIndexOf c = rw c.in-VecLastIndexOf.is (c.vec_last_index_of.ensures c.args.memory.now)
