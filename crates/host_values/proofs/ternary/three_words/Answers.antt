use Rattle.host_values.proofs.ternary.three_words.Goals as goal

pub returns-in-MapPut : goal.returns-in-MapPut
returns-in-MapPut c = rw c.in-MapPut.is c.map_put.ensures

pub returns-in-VecPut : goal.returns-in-VecPut
returns-in-VecPut c = rw c.in-VecPut.is c.vec_put.ensures

pub returns-in-VecInsert : goal.returns-in-VecInsert
returns-in-VecInsert c = rw c.in-VecInsert.is c.vec_insert.ensures

pub returns-in-VecSlice : goal.returns-in-VecSlice
returns-in-VecSlice c = rw c.in-VecSlice.is c.vec_slice.ensures

pub returns-in-BytesPut : goal.returns-in-BytesPut
returns-in-BytesPut c = rw c.in-BytesPut.is c.bytes_put.ensures

pub returns-in-BytesInsert : goal.returns-in-BytesInsert
returns-in-BytesInsert c = rw c.in-BytesInsert.is c.bytes_insert.ensures

pub returns-in-BytesSlice : goal.returns-in-BytesSlice
returns-in-BytesSlice c = rw c.in-BytesSlice.is c.bytes_slice.ensures
