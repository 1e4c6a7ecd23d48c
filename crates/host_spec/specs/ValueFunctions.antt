-- The functions over values: the rule of each, for arguments of the kinds that its row of the host interface names.
use Rattle.std.specs.Prelude.{ℕ, List, Option, Some, None}
use Rattle.std.specs.Option.{option_map}
use Rattle.host_interface.specs.declared.import.HostImport.{HostImport}
use Rattle.host_interface.specs.declared.import.HostImport.TheVariants as imports
use Rattle.host_spec.specs.Indices.{arguments_of}
use Rattle.host_spec.specs.Acts.{Act}
use Rattle.host_spec.specs.Calls.{Rule, call_of}
use Rattle.host_spec.specs.ContextRows.{obj_cmp}
use Rattle.host_spec.specs.IntegerRows.{obj_from_u64, obj_to_u64, obj_from_i64, obj_to_i64, obj_from_u128_pieces}
use Rattle.host_spec.specs.IntegerRows.{obj_to_u128_hi64, obj_to_u128_lo64, obj_from_i128_pieces, obj_to_i128_hi64}
use Rattle.host_spec.specs.IntegerRows.{obj_to_i128_lo64, timepoint_obj_from_u64, timepoint_obj_to_u64, duration_obj_from_u64}
use Rattle.host_spec.specs.IntegerRows.{duration_obj_to_u64}
use Rattle.host_spec.specs.MapRows.{map_new, map_put, map_get, map_del, map_len, map_has, map_key_by_pos, map_val_by_pos}
use Rattle.host_spec.specs.MapRows.{map_keys, map_values}
use Rattle.host_spec.specs.VecRows.{vec_new, vec_put, vec_get, vec_del, vec_len, vec_push_front, vec_pop_front, vec_push_back}
use Rattle.host_spec.specs.VecRows.{vec_pop_back, vec_front, vec_back, vec_insert, vec_append, vec_slice, vec_first_index_of}
use Rattle.host_spec.specs.VecRows.{vec_last_index_of, vec_new_from_linear_memory, vec_unpack_to_linear_memory}
use Rattle.host_spec.specs.ByteRows.{serialize_to_bytes, deserialize_from_bytes, bytes_new, bytes_put, bytes_get, bytes_del}
use Rattle.host_spec.specs.ByteRows.{bytes_len, bytes_push, bytes_pop, bytes_front, bytes_back, bytes_insert, bytes_append}
use Rattle.host_spec.specs.ByteRows.{bytes_slice, bytes_copy_to_linear_memory, string_copy_to_linear_memory}
use Rattle.host_spec.specs.ByteRows.{symbol_copy_to_linear_memory, bytes_copy_from_linear_memory, bytes_new_from_linear_memory}
use Rattle.host_spec.specs.ByteRows.{string_new_from_linear_memory, symbol_new_from_linear_memory, string_len, symbol_len}
use Rattle.host_spec.specs.ByteRows.{string_to_bytes, bytes_to_string}
use Rattle.host_spec.specs.HashRows.{compute_hash_sha256}
use Rattle.host_spec.specs.AddressRows.{get_address_from_muxed_address, get_id_from_muxed_address}

-- the rule of a function over values, or None for another function
abbrev pub value_rule : (i : HostImport) → Option (Rule (arguments_of i))
value_rule imports.ObjCmp = Some obj_cmp
value_rule imports.ObjFromU64 = Some obj_from_u64
value_rule imports.ObjToU64 = Some obj_to_u64
value_rule imports.ObjFromI64 = Some obj_from_i64
value_rule imports.ObjToI64 = Some obj_to_i64
value_rule imports.ObjFromU128Pieces = Some obj_from_u128_pieces
value_rule imports.ObjToU128Hi64 = Some obj_to_u128_hi64
value_rule imports.ObjToU128Lo64 = Some obj_to_u128_lo64
value_rule imports.ObjFromI128Pieces = Some obj_from_i128_pieces
value_rule imports.ObjToI128Hi64 = Some obj_to_i128_hi64
value_rule imports.ObjToI128Lo64 = Some obj_to_i128_lo64
value_rule imports.TimepointObjFromU64 = Some timepoint_obj_from_u64
value_rule imports.TimepointObjToU64 = Some timepoint_obj_to_u64
value_rule imports.DurationObjFromU64 = Some duration_obj_from_u64
value_rule imports.DurationObjToU64 = Some duration_obj_to_u64
value_rule imports.MapNew = Some map_new
value_rule imports.MapPut = Some map_put
value_rule imports.MapGet = Some map_get
value_rule imports.MapDel = Some map_del
value_rule imports.MapLen = Some map_len
value_rule imports.MapHas = Some map_has
value_rule imports.MapKeyByPos = Some map_key_by_pos
value_rule imports.MapValByPos = Some map_val_by_pos
value_rule imports.MapKeys = Some map_keys
value_rule imports.MapValues = Some map_values
value_rule imports.VecNew = Some vec_new
value_rule imports.VecPut = Some vec_put
value_rule imports.VecGet = Some vec_get
value_rule imports.VecDel = Some vec_del
value_rule imports.VecLen = Some vec_len
value_rule imports.VecPushFront = Some vec_push_front
value_rule imports.VecPopFront = Some vec_pop_front
value_rule imports.VecPushBack = Some vec_push_back
value_rule imports.VecPopBack = Some vec_pop_back
value_rule imports.VecFront = Some vec_front
value_rule imports.VecBack = Some vec_back
value_rule imports.VecInsert = Some vec_insert
value_rule imports.VecAppend = Some vec_append
value_rule imports.VecSlice = Some vec_slice
value_rule imports.VecFirstIndexOf = Some vec_first_index_of
value_rule imports.VecLastIndexOf = Some vec_last_index_of
value_rule imports.VecNewFromLinearMemory = Some vec_new_from_linear_memory
value_rule imports.VecUnpackToLinearMemory = Some vec_unpack_to_linear_memory
value_rule imports.SerializeToBytes = Some serialize_to_bytes
value_rule imports.DeserializeFromBytes = Some deserialize_from_bytes
value_rule imports.BytesNew = Some bytes_new
value_rule imports.BytesPut = Some bytes_put
value_rule imports.BytesGet = Some bytes_get
value_rule imports.BytesDel = Some bytes_del
value_rule imports.BytesLen = Some bytes_len
value_rule imports.BytesPush = Some bytes_push
value_rule imports.BytesPop = Some bytes_pop
value_rule imports.BytesFront = Some bytes_front
value_rule imports.BytesBack = Some bytes_back
value_rule imports.BytesInsert = Some bytes_insert
value_rule imports.BytesAppend = Some bytes_append
value_rule imports.BytesSlice = Some bytes_slice
value_rule imports.BytesCopyToLinearMemory = Some bytes_copy_to_linear_memory
value_rule imports.StringCopyToLinearMemory = Some string_copy_to_linear_memory
value_rule imports.SymbolCopyToLinearMemory = Some symbol_copy_to_linear_memory
value_rule imports.BytesCopyFromLinearMemory = Some bytes_copy_from_linear_memory
value_rule imports.BytesNewFromLinearMemory = Some bytes_new_from_linear_memory
value_rule imports.StringNewFromLinearMemory = Some string_new_from_linear_memory
value_rule imports.SymbolNewFromLinearMemory = Some symbol_new_from_linear_memory
value_rule imports.StringLen = Some string_len
value_rule imports.SymbolLen = Some symbol_len
value_rule imports.StringToBytes = Some string_to_bytes
value_rule imports.BytesToString = Some bytes_to_string
value_rule imports.ComputeHashSha256 = Some compute_hash_sha256
value_rule imports.GetAddressFromMuxedAddress = Some get_address_from_muxed_address
value_rule imports.GetIdFromMuxedAddress = Some get_id_from_muxed_address
value_rule _ = None

-- a call of a function over values, or None for another function
unfoldable pub value_function : HostImport → Option (List ℕ → Act ℕ)
value_function i = option_map (call_of (arguments_of i)) (value_rule i)
