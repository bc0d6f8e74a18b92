-- The effects of the calls on a connection, each defined once.
--
-- A record below is a sentence about one call. `Changes g old new IsChange Lacks result` is about a call that took a
-- transaction from `old` to `new` and returned `result`. It says that the call made the change `IsChange` to the
-- tables. The claims about values hold while the disk returns what was written.
use Rattle.std.specs.Prelude.{◌≡◌, Result, IsTrue, IfOk, IfErr, OnOk, OnErr, false}
use Rattle.sqlite.specs.Store.{Ghosts}
use Rattle.sqlite.specs.Effect.{Database}
use Rattle.sqlite.specs.Held.{Held, state}
use Rattle.sqlite.specs.State.{HasCleanDisk, KeepsCommit, State, Survives}
use Rattle.sqlite.specs.declared.transaction.Transaction.{Transaction}
use Rattle.floor_store.specs.Fault.{is_failure}
use Rattle.floor_store.specs.declared.fault.StoreFault.{StoreFault}
use Rattle.floor_store.specs.declared.fault.StoreFault.TheVariants.{Unusable}
use Rattle.floor_sql.specs.declared.read.Refusal.{Refusal}
use Rattle.floor_sql.specs.Shown.{IsRead, IsLeft}
use Rattle.floor_sql.specs.Stored.{Commits, MayCommit}

module _ {S : Type 0} (g : Ghosts S) where
  -- ---- in a transaction

  -- a step of a transaction with any change: it commits nothing
  pub record StepsInside {A : Type 0} (old new : Transaction S) (result : Result A Refusal) : Type 0 where
    -- it is the transaction of the same connection
    pub same_reference : new.conn.ghost_name ≡ old.conn.ghost_name
    -- after Ok the transaction continues
    pub goes : HasCleanDisk (state g new.conn.now) → OnOk result (IsTrue (state g new.conn.now).in_transaction)
    -- the last commit stays
    pub kept : HasCleanDisk (state g new.conn.now) → KeepsCommit (state g old.conn.now) (state g new.conn.now)
    -- the error is one that breaks a store
    pub failure : IfErr result (λ e. IsTrue (is_failure e.0))
    -- a stop leaves what a stop before it could leave
    pub crash : Survives (state g old.conn.now) (state g new.conn.now) (λ _. ⊥)

  -- a step that changes the tables
  pub record Changes {A : Type 0} (old new : Transaction S) (IsChange : Database → Database → Type 0)
      (Lacks : Database → Type 0) (result : Result A Refusal) : Type 0 where
    -- it is a step
    pub steps : StepsInside old new result
    -- after Ok the change is made
    pub made : HasCleanDisk (state g new.conn.now)
        → OnOk result (IsChange (state g old.conn.now).now (state g new.conn.now).now)
    -- after `Unusable` the tables lacked what the change needs
    pub unusable : HasCleanDisk (state g new.conn.now)
        → IfErr result (λ e. e.0 ≡ Unusable → Lacks (state g old.conn.now).now)

  -- ---- outside of a transaction

  -- a read of any kind: the tables stay
  pub record ReadsOnly {A : Type 0} (old new : Held S) (result : Result A Refusal) : Type 0 where
    -- after Ok the database is unchanged
    pub read : HasCleanDisk (state g new) → OnOk result (IsRead (state g old) (state g new))
    -- the database is unchanged, or as last committed
    pub left : HasCleanDisk (state g new) → IsLeft (state g old) (state g new)
    -- the error is one that breaks a store
    pub failure : IfErr result (λ e. IsTrue (is_failure e.0))
    -- no transaction is begun
    pub idle : old.in_transaction ≡ false → new.in_transaction ≡ false
    -- a stop leaves what a stop before it could leave
    pub crash : Survives (state g old) (state g new) (λ _. ⊥)

  -- a read of the tables
  pub record ReadsTables {A : Type 0} (old new : Held S) (IsRight : Database → A → Type 0)
      (IsUsable : Database → Type 0) (result : Result A Refusal) : Type 0 where
    -- it is a read
    pub only : ReadsOnly old new result
    -- the value is right for the tables
    pub value : HasCleanDisk (state g new) → IfOk result (IsRight (state g old).now)
    -- after `Unusable` the tables were not usable
    pub unusable : HasCleanDisk (state g new) → IfErr result (λ e. e.0 ≡ Unusable → ¬ IsUsable (state g old).now)

  -- A change in one transaction, whole or not at all, after any reads. `fault` is the fault of an error. `Stays` is the
  -- effect of a call with an error: if it read nothing before, the tables are as last committed.
  pub record Transacts {A E : Type 0} (fault : E → StoreFault) (old new : Held S)
      (IsChange : Database → Database → Type 0) (Stays : State → State → Type 0) (Lacks : Database → Type 0)
      (result : Result A E) : Type 0 where
    -- the transaction has ended
    pub idle : new.in_transaction ≡ false
    -- after Ok the change is committed
    pub ok : HasCleanDisk (state g new) → OnOk result (Commits IsChange (state g old) (state g new))
    -- after Err `Stays` holds
    pub err : HasCleanDisk (state g new) → OnErr result (Stays (state g old) (state g new))
    -- the error is one that breaks a store
    pub failure : IfErr result (λ e. IsTrue (is_failure (fault e)))
    -- after `Unusable` the tables lacked what the change needs
    pub unusable : HasCleanDisk (state g new) → IfErr result (λ e. fault e ≡ Unusable → Lacks (state g old).now)
    -- a stop leaves what a stop before it could leave, or the change
    pub crash : Survives (state g old) (state g new) (MayCommit IsChange (state g old))
