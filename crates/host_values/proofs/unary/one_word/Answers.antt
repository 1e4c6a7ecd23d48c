use Rattle.host_values.proofs.unary.one_word.Goals as goal

pub returns-in-ObjFromU64 : goal.returns-in-ObjFromU64
returns-in-ObjFromU64 c = rw c.in-ObjFromU64.is c.obj_from_u64.ensures

pub returns-in-ObjToU64 : goal.returns-in-ObjToU64
returns-in-ObjToU64 c = rw c.in-ObjToU64.is c.obj_to_u64.ensures

pub returns-in-ObjFromI64 : goal.returns-in-ObjFromI64
returns-in-ObjFromI64 c = rw c.in-ObjFromI64.is c.obj_from_i64.ensures

pub returns-in-ObjToI64 : goal.returns-in-ObjToI64
returns-in-ObjToI64 c = rw c.in-ObjToI64.is c.obj_to_i64.ensures

pub returns-in-ObjToU128Hi64 : goal.returns-in-ObjToU128Hi64
returns-in-ObjToU128Hi64 c = rw c.in-ObjToU128Hi64.is c.obj_to_u128_hi64.ensures

pub returns-in-ObjToU128Lo64 : goal.returns-in-ObjToU128Lo64
returns-in-ObjToU128Lo64 c = rw c.in-ObjToU128Lo64.is c.obj_to_u128_lo64.ensures

pub returns-in-ObjToI128Hi64 : goal.returns-in-ObjToI128Hi64
returns-in-ObjToI128Hi64 c = rw c.in-ObjToI128Hi64.is c.obj_to_i128_hi64.ensures

pub returns-in-ObjToI128Lo64 : goal.returns-in-ObjToI128Lo64
returns-in-ObjToI128Lo64 c = rw c.in-ObjToI128Lo64.is c.obj_to_i128_lo64.ensures

pub returns-in-TimepointObjFromU64 : goal.returns-in-TimepointObjFromU64
returns-in-TimepointObjFromU64 c = rw c.in-TimepointObjFromU64.is c.timepoint_obj_from_u64.ensures

pub returns-in-TimepointObjToU64 : goal.returns-in-TimepointObjToU64
returns-in-TimepointObjToU64 c = rw c.in-TimepointObjToU64.is c.timepoint_obj_to_u64.ensures

pub returns-in-DurationObjFromU64 : goal.returns-in-DurationObjFromU64
returns-in-DurationObjFromU64 c = rw c.in-DurationObjFromU64.is c.duration_obj_from_u64.ensures

pub returns-in-DurationObjToU64 : goal.returns-in-DurationObjToU64
returns-in-DurationObjToU64 c = rw c.in-DurationObjToU64.is c.duration_obj_to_u64.ensures

pub returns-in-GetAddressFromMuxedAddress : goal.returns-in-GetAddressFromMuxedAddress
returns-in-GetAddressFromMuxedAddress c = rw c.in-GetAddressFromMuxedAddress.is c.get_address_from_muxed_address.ensures

pub returns-in-GetIdFromMuxedAddress : goal.returns-in-GetIdFromMuxedAddress
returns-in-GetIdFromMuxedAddress c = rw c.in-GetIdFromMuxedAddress.is c.get_id_from_muxed_address.ensures
