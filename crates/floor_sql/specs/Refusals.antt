-- The fault of the store for each error of the connection.
use Rattle.std.specs.Prelude.{◌≡◌, ◌≢◌, ◌⊎◌, ℕ, List, Bool, true, false, Ok, Err, if◌then◌else◌}
use Rattle.sqlite.specs.declared.error.ErrorCode.TheVariants.{OutOfMemory}
use Rattle.sqlite.specs.declared.error.Error.{Error}
use Rattle.sqlite.specs.declared.error.Error.TheVariants.{SqliteFailure, SqlInputError}
use Rattle.sqlite.specs.Order.{Row}
use Rattle.sqlite.specs.State.{State, Executes, ExecutesInside}
use Rattle.floor_store.specs.declared.fault.StoreFault.{StoreFault}
use Rattle.floor_store.specs.declared.fault.StoreFault.TheVariants.{Memory, Disk, Unusable}

-- the allocator refused the memory
abbrev pub is_want_of_memory : Error → Bool
is_want_of_memory (SqliteFailure OutOfMemory) = true
is_want_of_memory _ = false

-- the text of a statement doesn't fit the schema
abbrev pub is_of_schema : Error → Bool
is_of_schema (SqlInputError fault) = true
is_of_schema _ = false

-- `Memory` for refused memory, `Unusable` for a text that doesn't fit the schema, else `Disk`
abbrev pub fault_of : Error → StoreFault
fault_of error = if is_want_of_memory error then Memory else if is_of_schema error then Unusable else Disk

-- the fault of an error for which `Refuses` holds
pub record IsFaultOf (Refuses : Error → Type 0) (fault : StoreFault) : Type 0 where
  pub error : Error
  pub refused : Refuses error
  pub is : fault ≡ fault_of error

-- an error refuses the statement with the given fault, or the statement changed another number of rows than one
abbrev pub ChangesNotOne : List ℕ → Row → State → State → StoreFault → Type 0
ChangesNotOne sql params old new fault = IsFaultOf (λ error. ExecutesInside 0 sql params old new (Err error)) fault
    ⊎ ((count : ℕ) × (count ≢ 1) × Executes sql params old new (Ok count))
