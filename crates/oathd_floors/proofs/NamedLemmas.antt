-- A store gets names, or does not.
use Rattle.std.proofs.Common.{◌≡◌, ℕ, List, Option, None, IfSome, length, refl, subst}
use Rattle.std.specs.Prelude.{Result, Ok}
use Rattle.std.proofs.lemmas.Option.{IfSome_then}
use Rattle.sqlite.specs.Store.{Ghosts}
use Rattle.sqlite.specs.Held as sql
use Rattle.sqlite.specs.State.{HasCleanDisk}
use Rattle.otp_core.specs.Limits.{Limits, default_limits}
use Rattle.token_file.specs.Credential.{Credential}
use Rattle.floor_sql.specs.Calls.{IsOpened}
use Rattle.floor_sql.specs.Held.{SqlHeld}
use Rattle.floor_sql.specs.Shown.{IsLeft}
use Rattle.floor_sql.specs.Steps.{Transacts}
use Rattle.floor_sql.specs.declared.read.Refusal.{Refusal}
use Rattle.floor_sql.specs.declared.schema.Format.TheVariants.{Numbered}
use Rattle.named_store.specs.Entries.{entries_of}
use Rattle.roster_sql.specs.Made.{IsUsableStoreOf, NamesNode}
use Rattle.roster_sql.specs.Roster.{BondRecord}
use Rattle.roster_sql.specs.declared.entry.Entry.{Entry}
use Rattle.oathd_database.specs.Fault.{IsStoreFault}
use Rattle.oathd_database.specs.Users.{IsImported}
use Rattle.oathd_database.specs.declared.fault.Fault.{Fault}
use Rattle.oathd_database.specs.declared.fault.Fault.TheVariants.{Memory, CannotWrite, NoClock, Users, Store, Socket}
use Rattle.oathd_roster.specs.Users.{IsUnnamed as IsUnread}
use Rattle.oathd_roster.specs.declared.cluster.NamedCluster.{NamedCluster}
use Rattle.oathd_roster.specs.declared.fault.RosterFault.{RosterFault}
use Rattle.oathd_roster.specs.declared.fault.RosterFault.TheVariants.{Command, SameName, AnotherCluster, Full}
use Rattle.oathd_floors.specs.Kinds.{IsOfOtherKind, first_other}
use Rattle.oathd_floors.specs.Named.{HasNamed, IsNamed, IsUnnamed}
use Rattle.oathd_floors.specs.declared.fault.NamingFault.{NamingFault}
use Rattle.oathd_floors.specs.declared.fault.NamingFault.TheVariants.{Roster, OtherKind}

-- the tables got names
pub named_so : {S : Type 0} (g : Ghosts S) (node : ℕ) (entries : List Entry) (own : BondRecord) (old new : sql.Held S) (result : Result Unit Refusal)
    (value : Unit) → result ≡ Ok value
    → Transacts g (λ (e : Refusal). e.0) old new (NamesNode node entries own) IsLeft (λ db. ¬ IsUsableStoreOf Numbered db node (length entries)) result
    → IsNamed g node entries own old new
named_so g node entries own old new result value is h =
    subst (λ (r : Result Unit Refusal). Transacts g (λ (e : Refusal). e.0) old new (NamesNode node entries own) IsLeft
    (λ db. ¬ IsUsableStoreOf Numbered db node (length entries)) r) is h

-- an import with the default settings
pub imported_default : (limits : Limits) (book : List Credential) (next : List ℕ) (a : Option (List ℕ)) → limits ≡ default_limits
    → IfSome a (IsImported limits 0 16777216 book next) → IfSome a (IsImported default_limits 0 16777216 book next)
imported_default limits book next a is h = subst (λ (l : Limits). IfSome a (IsImported l 0 16777216 book next)) is h

module _ {S : Type 0} (g : Ghosts S) (finds : sql.Held S → Type 0) (cluster : NamedCluster) (node : ℕ) where
  unread_at : (fault : RosterFault) (text : List ℕ) → IsUnread cluster.salt default_limits 0 16777216 fault text
      → IsUnnamed g finds cluster default_limits 16777216 node (Roster fault) text
  unread_at (Command Memory) text h = tt
  unread_at (Command CannotWrite) text h = h
  unread_at (Command NoClock) text h = h
  unread_at (Command (Users fault)) text h = h
  unread_at (Command (Store fault)) text h = absurd h
  unread_at (Command Socket) text h = h
  unread_at (SameName row) text h = h
  unread_at AnotherCluster text h = h
  unread_at Full text h = h

  -- the users file is not imported, or has no names
  pub unread_unnamed : (limits : Limits) (a : Option (List ℕ)) (fault : RosterFault) → limits ≡ default_limits
      → IfSome a (IsUnread cluster.salt limits 0 16777216 fault) → IfSome a (IsUnnamed g finds cluster default_limits 16777216 node (Roster fault))
  unread_unnamed limits a fault is h =
      IfSome_then a (subst (λ (l : Limits). IfSome a (IsUnread cluster.salt l 0 16777216 fault)) is h) (λ text i. unread_at fault text i)

  module _ (book : List Credential) (next : List ℕ) where
    fails_at : (fault : Fault) (text : List ℕ) → IsStoreFault fault → IsImported default_limits 0 16777216 book next text
        → IsUnnamed g finds cluster default_limits 16777216 node (Roster (Command fault)) text
    fails_at Memory text is i = absurd is
    fails_at CannotWrite text is i = absurd is
    fails_at NoClock text is i = absurd is
    fails_at (Users fault) text is i = absurd is
    fails_at (Store fault) text is i = record { book = book; floors = next; imported = i }
    fails_at Socket text is i = absurd is

    -- the store fails
    pub store_unnamed : (a : Option (List ℕ)) (fault : Fault) → IsStoreFault fault → IfSome a (IsImported default_limits 0 16777216 book next)
        → IfSome a (IsUnnamed g finds cluster default_limits 16777216 node (Roster (Command fault)))
    store_unnamed a fault is h = IfSome_then a h (λ text i. fails_at fault text is i)

    module _ (conn : sql.Held S) (store : SqlHeld S) (found : HasCleanDisk (sql.state g conn) → finds conn) (opened : IsOpened g conn node (length book) store)
      where
        other_at : (fault : NamingFault) (text : List ℕ) → IsOfOtherKind (HasCleanDisk (sql.state g store.conn)) book store.mirror.rows fault
            → IsImported default_limits 0 16777216 book next text → IsUnnamed g finds cluster default_limits 16777216 node fault text
        other_at (Roster (Command fault)) text is i = fails_at fault text is i
        other_at (Roster (SameName row)) text is i = absurd is
        other_at (Roster AnotherCluster) text is i = absurd is
        other_at (Roster Full) text is i = absurd is
        other_at (OtherKind row) text is i = record {
          import = record { book = book; floors = next; imported = i };
          store = store;
          opened = record { conn = conn; found = found; node = node; is_given = refl; opened = opened };
          other = is;
        }

        -- a row is of another kind, or the store fails
        pub other_unnamed : (a : Option (List ℕ)) (fault : NamingFault) → IsOfOtherKind (HasCleanDisk (sql.state g store.conn)) book store.mirror.rows fault
            → IfSome a (IsImported default_limits 0 16777216 book next) → IfSome a (IsUnnamed g finds cluster default_limits 16777216 node fault)
        other_unnamed a fault is h = IfSome_then a h (λ text i. other_at fault text is i)

        -- the store of a users file gets names
        pub has_named : (a : Option (List ℕ)) (closed new : sql.Held S) (entries : List Entry) → entries ≡ entries_of cluster.salt book
            → (HasCleanDisk (sql.state g store.conn) → first_other book store.mirror.rows ≡ None) → closed ≡ store.conn
            → IsNamed g node entries cluster.bond closed new → IfSome a (IsImported default_limits 0 16777216 book next)
            → IfSome a (HasNamed g finds cluster default_limits 16777216 node new)
        has_named a closed new entries same own is named h = IfSome_then a h (λ text i. record {
          import = record { book = book; floors = next; imported = i };
          store = store;
          opened = record { conn = conn; found = found; node = node; is_given = refl; opened = opened };
          own = own;
          named = subst (λ (c : sql.Held S). IsNamed g node (entries_of cluster.salt book) cluster.bond c new) is
              (subst (λ (l : List Entry). IsNamed g node l cluster.bond closed new) same named);
        })
