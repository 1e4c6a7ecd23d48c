-- Which types of modules and caches may cross threads. A search at a call goes down through all fields and stops at a limit, so there is one
-- lemma for each type, each from those of its fields.
use denote.Param.Send.{IsSend, IsSync, sendable}
use denote.Ref.{NamedLft}
use Rattle.std.proofs.Crossing.{crosses as heap_crosses}
use Rattle.std.proofs.option.Option.TheSendSync as option
use Rattle.byte_list.proofs.Blob.TheSendSync as blob
use Rattle.once_cell.proofs.race.once_box.OnceBox.TheSendSync as once
use Rattle.host_interface.proofs.import.HostImport.TheSendSync as host_import
use Rattle.host_interface.proofs.kinds.ArgKind.TheSendSync as argument
use Rattle.host_interface.proofs.rows.HostRow.TheSendSync as row
use Rattle.wasm_spec.proofs.items.Items.TheSendSync as items
use Rattle.wasm_spec.proofs.types.ValueType.TheSendSync as value_type
use Rattle.wasm_spec.proofs.types.FuncType.TheSendSync as func_type
use Rattle.wasm_spec.proofs.types.TableType.TheSendSync as table
use Rattle.wasm_spec.proofs.types.ResizableLimits.TheSendSync as limits
use Rattle.wasm_spec.proofs.types.Mutability.TheSendSync as mutability
use Rattle.wasm_spec.proofs.instructions.Plain.TheSendSync as plain
use Rattle.wasm_spec.proofs.instructions.Control.TheSendSync as control
use Rattle.wasm_spec.proofs.instructions.Body.TheLaws.TheKnot.{crosses as code_crosses}
use Rattle.wasm_spec.proofs.module.Import.TheSendSync as import_
use Rattle.wasm_spec.proofs.module.Locals.TheSendSync as locals
use Rattle.wasm_spec.proofs.module.Export.TheSendSync as export
use Rattle.wasm_code.proofs.step.FlatCode.TheSendSync as flat
use Rattle.code_cache.proofs.cache.Code.TheSendSync as code
use Rattle.wasm_spec.specs.contracts.instructions.Body as Body
use Rattle.wasm_spec.specs.contracts.module.Function as Function
use Rattle.wasm_spec.specs.contracts.module.Global as Global
use Rattle.wasm_spec.specs.contracts.module.Element as Element
use Rattle.wasm_spec.specs.contracts.module.Data as Data
use Rattle.wasm_spec.specs.contracts.module.Module as Module
use Rattle.wasm_check.specs.contracts.module.ValidModule as ValidModule
use Rattle.module_loader.specs.contracts.linked.LinkedModule as LinkedModule
use Rattle.code_cache.specs.contracts.loaded.Loaded as Loaded
use Rattle.code_cache.specs.contracts.cache.Cache as Cache

pub body_sync : IsSync (Body.the_field).row
body_sync = search (code_crosses, heap_crosses, option.the_field_sync, option.the_sync, value_type.the_field_sync, plain.the_field_sync, control.the_field_sync, sendable) depth 40 fits 50000

pub body_send : IsSend (Body.the_field).row
body_send = search (code_crosses, heap_crosses, option.the_field_send, option.the_send, value_type.the_field_send, plain.the_field_send, control.the_field_send, sendable) depth 40 fits 50000

pub function_sync : IsSync (Function.the_field).row
function_sync = search (body_sync, items.the_sync, locals.the_field_sync, sendable) depth 20 fits 5000

pub function_send : IsSend (Function.the_field).row
function_send = search (body_send, items.the_send, locals.the_field_send, sendable) depth 20 fits 5000

pub global_sync : IsSync (Global.the_field).row
global_sync = search (body_sync, value_type.the_field_sync, mutability.the_field_sync, sendable) depth 20 fits 5000

pub global_send : IsSend (Global.the_field).row
global_send = search (body_send, value_type.the_field_send, mutability.the_field_send, sendable) depth 20 fits 5000

pub element_sync : IsSync (Element.the_field).row
element_sync = search (body_sync, items.the_sync, sendable) depth 20 fits 5000

pub element_send : IsSend (Element.the_field).row
element_send = search (body_send, items.the_send, sendable) depth 20 fits 5000

pub data_sync : IsSync (Data.the_field).row
data_sync = search (body_sync, blob.the_sync, sendable) depth 20 fits 5000

pub data_send : IsSend (Data.the_field).row
data_send = search (body_send, blob.the_send, sendable) depth 20 fits 5000

pub module_sync : IsSync (Module.the_field).row
module_sync = search (function_sync, global_sync, element_sync, data_sync, items.the_sync, func_type.the_field_sync, import_.the_field_sync, table.the_field_sync, limits.the_field_sync, export.the_field_sync, sendable) depth 20 fits 5000

pub module_send : IsSend (Module.the_field).row
module_send = search (function_send, global_send, element_send, data_send, items.the_send, func_type.the_field_send, import_.the_field_send, table.the_field_send, limits.the_field_send, export.the_field_send, sendable) depth 20 fits 5000

pub valid_sync : IsSync (ValidModule.the_field).row
valid_sync = search (module_sync, flat.the_field_sync, sendable) depth 20 fits 5000

pub valid_send : IsSend (ValidModule.the_field).row
valid_send = search (module_send, flat.the_field_send, sendable) depth 20 fits 5000

pub linked_sync : IsSync (LinkedModule.the_field).row
linked_sync = search (valid_sync, heap_crosses, row.the_field_sync, host_import.the_field_sync, argument.the_field_sync, sendable) depth 20 fits 5000

pub linked_send : IsSend (LinkedModule.the_field).row
linked_send = search (valid_send, heap_crosses, row.the_field_send, host_import.the_field_send, argument.the_field_send, argument.the_field_sync, sendable) depth 20 fits 5000

pub loaded_sync : IsSync (Loaded.the_field).row
loaded_sync = search (linked_sync, option.the_field_sync, blob.the_sync, sendable) depth 20 fits 5000

pub loaded_send : IsSend (Loaded.the_field).row
loaded_send = search (linked_send, option.the_field_send, blob.the_send, sendable) depth 20 fits 5000

-- a cache that is lent to several threads
pub cache_sync : (a : NamedLft) → IsSync (Cache.the_field a).row
cache_sync a = search (loaded_sync, loaded_send, once.the_sync, heap_crosses, code.the_field_sync, sendable) depth 20 fits 5000
