-- The errors of calls, of storage and of authorisation (own, with the types and codes of CAP-0046-03).
use Rattle.value_types.specs.declared.error.ScErrorCode.TheVariants as codes
use Rattle.value_types.specs.declared.error.ScError.{ScError}
use Rattle.value_types.specs.declared.error.ScError.TheVariants as errors

-- ---- calls

-- 64 frames are open already
abbrev pub TOO_MANY_FRAMES : ScError
TOO_MANY_FRAMES = errors.Context codes.ExceededLimit

-- the name of a function that only the host may call
abbrev pub RESERVED_NAME : ScError
RESERVED_NAME = errors.Context codes.InvalidAction

-- the contract has an open frame
abbrev pub REENTERED : ScError
REENTERED = errors.Context codes.InvalidAction

-- the value of an instance entry is no instance
abbrev pub NO_INSTANCE : ScError
NO_INSTANCE = errors.Storage codes.UnexpectedType

-- the contract's executable is that of a Stellar asset
abbrev pub NOT_WASM : ScError
NOT_WASM = errors.Context codes.InvalidInput

-- the code is no valid, linked module
abbrev pub NO_MODULE : ScError
NO_MODULE = errors.WasmVm codes.InvalidInput

-- the module exports no function of this name
abbrev pub NO_FUNCTION : ScError
NO_FUNCTION = errors.WasmVm codes.MissingValue

-- the function takes another number of arguments
abbrev pub OTHER_ARITY : ScError
OTHER_ARITY = errors.WasmVm codes.UnexpectedSize

-- a segment of the module does not fit
abbrev pub SEGMENT_OUTSIDE : ScError
SEGMENT_OUTSIDE = errors.WasmVm codes.IndexBounds

-- an end that no call of a valid, linked module has
abbrev pub IMPOSSIBLE : ScError
IMPOSSIBLE = errors.WasmVm codes.InternalError

-- an error that is not of type CONTRACT, as a contract's result or for the caller of try_call
abbrev pub HIDDEN_ERROR : ScError
HIDDEN_ERROR = errors.Context codes.InvalidAction

-- an error that is not of type CONTRACT, as an argument of fail_with_error
abbrev pub NO_CONTRACT_ERROR : ScError
NO_CONTRACT_ERROR = errors.Context codes.UnexpectedType

-- ---- storage

-- there is no live entry
abbrev pub NO_ENTRY : ScError
NO_ENTRY = errors.Storage codes.MissingValue

-- the contract exists already
abbrev pub EXISTS : ScError
EXISTS = errors.Storage codes.ExistingValue

-- a storage kind above 2, or a threshold above the number of ledgers that is asked for
abbrev pub INVALID_STORAGE_INPUT : ScError
INVALID_STORAGE_INPUT = errors.Storage codes.InvalidInput

-- an extension of instance storage, or of a temporary entry beyond the furthest ledger
abbrev pub INVALID_EXTENSION : ScError
INVALID_EXTENSION = errors.Storage codes.InvalidAction

-- ---- creates

-- a hash or a salt that does not have 32 bytes
abbrev pub OTHER_SIZE : ScError
OTHER_SIZE = errors.Value codes.UnexpectedSize

-- ---- authorisation

-- no authorisation meets the demand, or its address does not prove that it authorises
abbrev pub DENIED : ScError
DENIED = errors.Auth codes.InvalidAction

-- the signature has ended before this ledger, or ends beyond the furthest ledger that an entry may reach
abbrev pub EXPIRED : ScError
EXPIRED = errors.Auth codes.InvalidInput

-- the nonce is used already
abbrev pub USED_NONCE : ScError
USED_NONCE = errors.Auth codes.ExistingValue
