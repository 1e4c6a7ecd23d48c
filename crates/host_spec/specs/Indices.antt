-- The row of each import in the table of the host interface.
use Rattle.std.specs.Prelude.{◌≡◌, ℕ, List, [], map, get_or, length}
use Rattle.std.specs.List.{range_with_len}
use Rattle.host_interface.specs.declared.import.HostImport.{HostImport}
use Rattle.host_interface.specs.declared.import.HostImport.TheVariants as imports
use Rattle.host_interface.specs.declared.kinds.ArgKind.{ArgKind}
use Rattle.host_interface.specs.declared.rows.TheConstants.{HOST_ROWS}

-- the index of an import's row
abbrev pub index_of : HostImport → ℕ
index_of imports.ObjCmp = 0
index_of imports.ContractEvent = 1
index_of imports.GetLedgerVersion = 2
index_of imports.GetLedgerSequence = 3
index_of imports.GetLedgerTimestamp = 4
index_of imports.GetLedgerNetworkId = 5
index_of imports.GetCurrentContractAddress = 6
index_of imports.GetMaxLiveUntilLedger = 7
index_of imports.FailWithError = 8
index_of imports.ObjFromU64 = 9
index_of imports.ObjToU64 = 10
index_of imports.ObjFromI64 = 11
index_of imports.ObjToI64 = 12
index_of imports.ObjFromU128Pieces = 13
index_of imports.ObjToU128Hi64 = 14
index_of imports.ObjToU128Lo64 = 15
index_of imports.ObjFromI128Pieces = 16
index_of imports.ObjToI128Hi64 = 17
index_of imports.ObjToI128Lo64 = 18
index_of imports.TimepointObjFromU64 = 19
index_of imports.TimepointObjToU64 = 20
index_of imports.DurationObjFromU64 = 21
index_of imports.DurationObjToU64 = 22
index_of imports.MapNew = 23
index_of imports.MapPut = 24
index_of imports.MapGet = 25
index_of imports.MapDel = 26
index_of imports.MapLen = 27
index_of imports.MapHas = 28
index_of imports.MapKeyByPos = 29
index_of imports.MapValByPos = 30
index_of imports.MapKeys = 31
index_of imports.MapValues = 32
index_of imports.VecNew = 33
index_of imports.VecPut = 34
index_of imports.VecGet = 35
index_of imports.VecDel = 36
index_of imports.VecLen = 37
index_of imports.VecPushFront = 38
index_of imports.VecPopFront = 39
index_of imports.VecPushBack = 40
index_of imports.VecPopBack = 41
index_of imports.VecFront = 42
index_of imports.VecBack = 43
index_of imports.VecInsert = 44
index_of imports.VecAppend = 45
index_of imports.VecSlice = 46
index_of imports.VecFirstIndexOf = 47
index_of imports.VecLastIndexOf = 48
index_of imports.VecNewFromLinearMemory = 49
index_of imports.VecUnpackToLinearMemory = 50
index_of imports.SerializeToBytes = 51
index_of imports.DeserializeFromBytes = 52
index_of imports.BytesNew = 53
index_of imports.BytesPut = 54
index_of imports.BytesGet = 55
index_of imports.BytesDel = 56
index_of imports.BytesLen = 57
index_of imports.BytesPush = 58
index_of imports.BytesPop = 59
index_of imports.BytesFront = 60
index_of imports.BytesBack = 61
index_of imports.BytesInsert = 62
index_of imports.BytesAppend = 63
index_of imports.BytesSlice = 64
index_of imports.BytesCopyToLinearMemory = 65
index_of imports.StringCopyToLinearMemory = 66
index_of imports.SymbolCopyToLinearMemory = 67
index_of imports.BytesCopyFromLinearMemory = 68
index_of imports.BytesNewFromLinearMemory = 69
index_of imports.StringNewFromLinearMemory = 70
index_of imports.SymbolNewFromLinearMemory = 71
index_of imports.StringLen = 72
index_of imports.SymbolLen = 73
index_of imports.StringToBytes = 74
index_of imports.BytesToString = 75
index_of imports.ComputeHashSha256 = 76
index_of imports.PutContractData = 77
index_of imports.HasContractData = 78
index_of imports.GetContractData = 79
index_of imports.DelContractData = 80
index_of imports.ExtendContractDataTtl = 81
index_of imports.ExtendCurrentContractInstanceAndCodeTtl = 82
index_of imports.UploadWasm = 83
index_of imports.CreateContract = 84
index_of imports.CreateContractWithConstructor = 85
index_of imports.UpdateCurrentContractWasm = 86
index_of imports.GetContractId = 87
index_of imports.Call = 88
index_of imports.TryCall = 89
index_of imports.RequireAuth = 90
index_of imports.RequireAuthForArgs = 91
index_of imports.GetAddressFromMuxedAddress = 92
index_of imports.GetIdFromMuxedAddress = 93

-- the rows stand in the order of these indices
abbrev pub StandInOrder : Type 0
StandInOrder = map (λ r. index_of r.import) HOST_ROWS ≡ range_with_len 0 (length HOST_ROWS)

-- the kinds of an import's arguments, by its row
abbrev pub arguments_of : HostImport → List ArgKind
arguments_of i = get_or (map (λ r. r.arguments.now) HOST_ROWS) (index_of i) []
