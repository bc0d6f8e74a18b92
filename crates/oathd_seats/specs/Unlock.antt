-- The unlocking of a token in a store.
use Rattle.std.specs.Prelude.{◌≡◌, ℕ, List, Some, Ok, slice_get}
use Rattle.sqlite.specs.Store.{Ghosts}
use Rattle.sqlite.specs.Held as sql
use Rattle.otp_core.specs.Limits.{Limits}
use Rattle.floor_store.specs.Held.{MayWrite}
use Rattle.floor_store.specs.declared.fault.StoreFault.{StoreFault}
use Rattle.floor_sql.specs.Held.{SqlHeld, sql_held}
use Rattle.seated_store.specs.Seated.{SeatedRecord}
use Rattle.oathd_database.specs.Unlock.{HasUser, LacksUser, unlocked_content}
use Rattle.oathd_seats.specs.Seen.{HasSeen, IsNotSeen}
use Rattle.oathd_seats.specs.declared.fault.SeatsFault.{SeatsFault}
use Rattle.oathd_seats.specs.declared.fault.SeatsFault.TheVariants.{Roster, NotEnrolled, NoUser}
use Rattle.oathd_seats.specs.declared.naming.Naming.{Naming}

module _ {S : Type 0} (g : Ghosts S) (finds : sql.Held S → Type 0) (naming : Naming) (limits : Limits)
    (longest : ℕ) where
  -- The user's token was unlocked by one write, in its row. The other rows stay.
  pub record Unlocks (user : List ℕ) (new : SqlHeld S) (text : List ℕ) : Type 0 where
    pub known : HasUser limits longest user text
    pub old : SeatedRecord (SqlHeld S)
    pub seen : HasSeen g finds naming known.import.book old
    pub row : ℕ
    pub row_is : slice_get old.seats known.token ≡ Some row
    pub writes : MayWrite {A = Unit {0}} {E = StoreFault} (sql_held g) old.inner new
        (unlocked_content old.inner.mirror row) (Ok tt)

  -- No token is unlocked: the store is not seen or fails after the import, or no token is called `user`.
  abbrev pub IsNotUnlocked : List ℕ → SeatsFault → List ℕ → Type 0
  IsNotUnlocked user (Roster fault) text = IsNotSeen g finds naming limits longest (Roster fault) text
  IsNotUnlocked user (NotEnrolled row) text = IsNotSeen g finds naming limits longest (NotEnrolled row) text
  IsNotUnlocked user (NoUser name) text = (name.now ≡ user) × LacksUser limits longest user text
