use Rattle.host_values.proofs.unary.one_collection.Goals as goal

pub returns-in-MapLen : goal.returns-in-MapLen
returns-in-MapLen c = rw c.in-MapLen.is c.map_len.ensures

pub returns-in-MapKeys : goal.returns-in-MapKeys
returns-in-MapKeys c = rw c.in-MapKeys.is c.map_keys.ensures

pub returns-in-MapValues : goal.returns-in-MapValues
returns-in-MapValues c = rw c.in-MapValues.is c.map_values.ensures

pub returns-in-VecLen : goal.returns-in-VecLen
returns-in-VecLen c = rw c.in-VecLen.is c.vec_len.ensures

pub returns-in-VecPopFront : goal.returns-in-VecPopFront
returns-in-VecPopFront c = rw c.in-VecPopFront.is c.vec_pop_front.ensures

pub returns-in-VecPopBack : goal.returns-in-VecPopBack
returns-in-VecPopBack c = rw c.in-VecPopBack.is c.vec_pop_back.ensures

pub returns-in-VecFront : goal.returns-in-VecFront
returns-in-VecFront c = rw c.in-VecFront.is c.vec_front.ensures

pub returns-in-VecBack : goal.returns-in-VecBack
returns-in-VecBack c = rw c.in-VecBack.is c.vec_back.ensures
