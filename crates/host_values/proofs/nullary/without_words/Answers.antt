use Rattle.host_values.proofs.nullary.without_words.Goals as goal

pub returns-in-MapNew : goal.returns-in-MapNew
returns-in-MapNew c = rw c.in-MapNew.is c.map_new.ensures

pub returns-in-VecNew : goal.returns-in-VecNew
returns-in-VecNew c = rw c.in-VecNew.is c.vec_new.ensures

pub returns-in-BytesNew : goal.returns-in-BytesNew
returns-in-BytesNew c = rw c.in-BytesNew.is c.bytes_new.ensures
