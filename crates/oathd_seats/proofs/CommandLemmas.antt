-- How a command ends over a store.
use Rattle.std.proofs.Common.{◌≡◌, ℕ, List, Option, Some, None, IfSome, subst}
use Rattle.std.specs.Prelude.{Ok, slice_get}
use Rattle.std.specs.Io.KnownBytes.{Appends}
use Rattle.std.proofs.lemmas.Option.{IfSome_then}
use Rattle.sqlite.specs.Store.{Ghosts}
use Rattle.sqlite.specs.Held as sql
use Rattle.sqlite.specs.State.{HasCleanDisk}
use Rattle.otp_core.specs.Limits.{Limits}
use Rattle.token_file.specs.Credential.{Credential, place_of}
use Rattle.floor_sql.specs.Held.{SqlHeld, sql_held}
use Rattle.floor_store.specs.Held.{MayWrite}
use Rattle.floor_store.specs.declared.fault.StoreFault.{StoreFault}
use Rattle.roster_sql.specs.declared.entry.Entry.{Entry}
use Rattle.seated_store.specs.Seated.{SeatedRecord}
use Rattle.seated_store.specs.Seats.{seated_rows}
use Rattle.oathd_database.specs.Commands as database
use Rattle.oathd_database.specs.Commands.{HasImport, IsRefused}
use Rattle.oathd_database.specs.Fault.{IsOutputFault}
use Rattle.oathd_database.specs.Gates.{gates_text}
use Rattle.oathd_database.specs.Tables.{KeepsTables, WritesAudit}
use Rattle.oathd_database.specs.Text.{export_text}
use Rattle.oathd_database.specs.Unlock.{LacksUser, unlocked_content}
use Rattle.oathd_database.specs.Users.{IsImported}
use Rattle.oathd_database.specs.declared.fault.Fault.{Fault}
use Rattle.oathd_database.specs.declared.fault.Fault.TheVariants.{Memory, CannotWrite, NoClock, Users, Store, Socket}
use Rattle.oathd_roster.specs.declared.cluster.NamedCluster.{NamedCluster}
use Rattle.oathd_roster.specs.declared.fault.RosterFault.TheVariants.{Command, SameName, AnotherCluster, Full}
use Rattle.oathd_seats.specs.Commands.{EndsOutput, EndsOutputNamed, HasAudited, HasExported, HasToldGates, HasToldRoster}
use Rattle.oathd_roster.specs.Roster.{roster_text}
use Rattle.oathd_seats.specs.Seen.{EndsPlaced, HasSeen, HasSeenNamed, IsNotPlaced, IsNotSeen, IsNotSeenNamed}
use Rattle.oathd_seats.specs.Unlock.{IsNotUnlocked, Unlocks}
use Rattle.oathd_seats.specs.declared.fault.SeatsFault.{SeatsFault}
use Rattle.oathd_seats.specs.declared.fault.SeatsFault.TheVariants.{Roster, NotEnrolled, NoUser}
use Rattle.oathd_seats.specs.declared.naming.Naming.{Naming}
use Rattle.oathd_seats.specs.declared.naming.Naming.TheVariants.{ByPlace, ByName}

-- ---- faults

module _ (limits : Limits) (longest : ℕ) where
  refused_output : (fault : Fault) (text : List ℕ) → IsRefused limits 0 longest fault text → database.EndsOutput limits 0 longest fault text
  refused_output Memory text h = tt
  refused_output CannotWrite text h = absurd h
  refused_output NoClock text h = h
  refused_output (Users fault) text h = h
  refused_output (Store fault) text h = h
  refused_output Socket text h = h

  failed_output : (broken : Option StoreFault) (fault : Fault) (text : List ℕ) → HasImport limits 0 longest text → IsOutputFault broken fault
      → database.EndsOutput limits 0 longest fault text
  failed_output broken Memory text h is = tt
  failed_output broken CannotWrite text h is = h
  failed_output broken NoClock text h is = absurd is
  failed_output broken (Users fault) text h is = absurd is
  failed_output broken (Store fault) text h is = h
  failed_output broken Socket text h is = absurd is

  -- no store is seen by places, so nothing is written
  placed_output : (fault : SeatsFault) (text : List ℕ) → IsNotPlaced limits longest fault text
      → EndsPlaced (database.EndsOutput limits 0 longest) fault text
  placed_output (Roster (Command fault)) text h = refused_output fault text h
  placed_output (Roster (SameName row)) text h = h
  placed_output (Roster AnotherCluster) text h = h
  placed_output (Roster Full) text h = h
  placed_output (NotEnrolled row) text h = h
  placed_output (NoUser name) text h = h

-- ---- by names alone

module _ {S : Type 0} (g : Ghosts S) (finds : sql.Held S → Type 0) (cluster : NamedCluster) (limits : Limits) (longest node : ℕ) where
  -- no store is seen, so nothing is written
  pub unseen_named : (a : Option (List ℕ)) (fault : SeatsFault) → IfSome a (IsNotSeenNamed g finds cluster limits longest node fault)
      → IfSome a (EndsOutputNamed g finds cluster limits longest node fault)
  unseen_named None fault h = tt
  unseen_named (Some text) (Roster (Command fault)) h = refused_output limits longest fault text h
  unseen_named (Some text) (Roster (SameName row)) h = h
  unseen_named (Some text) (Roster AnotherCluster) h = h
  unseen_named (Some text) (Roster Full) h = h
  unseen_named (Some text) (NotEnrolled row) h = h
  unseen_named (Some text) (NoUser name) h = h

  module _ (a : Option (List ℕ)) (book : List Credential) (floors : List ℕ) (h : IfSome a (IsImported limits 0 longest book floors)) where
    -- the store or the output fails
    pub output_fails_named : (broken : Option StoreFault) (fault : Fault) → IsOutputFault broken fault
        → IfSome a (EndsOutputNamed g finds cluster limits longest node (Roster (Command fault)))
    output_fails_named broken fault is =
        IfSome_then a h (λ text i. failed_output limits longest broken fault text (record { book = book; floors = floors; imported = i }) is)

    -- the rows are written
    pub has_told_roster : (roster : List Entry) (store : SeatedRecord (SqlHeld S)) → HasSeenNamed g finds cluster node book roster store
        → (old new : Option (List ℕ)) (seats : List ℕ) (entries : List Entry) (inner : SqlHeld S) → seats ≡ store.seats
        → entries ≡ roster → inner ≡ store.inner
        → (HasCleanDisk (sql.state g inner.conn) → Appends old new (roster_text book seats entries inner.mirror.rows))
        → IfSome a (HasToldRoster g finds cluster limits longest node old new)
    has_told_roster roster store seen old new seats entries inner seated listed same written = IfSome_then a h (λ text i. record {
      import = record { book = book; floors = floors; imported = i };
      roster = roster;
      store = store;
      seen = seen;
      written = subst (λ (s : SqlHeld S). HasCleanDisk (sql.state g s.conn) → Appends old new (roster_text book store.seats roster s.mirror.rows)) same
          (subst (λ (es : List Entry). HasCleanDisk (sql.state g inner.conn) → Appends old new (roster_text book store.seats es inner.mirror.rows)) listed
          (subst (λ (l : List ℕ). HasCleanDisk (sql.state g inner.conn) → Appends old new (roster_text book l entries inner.mirror.rows)) seated written));
    })

-- ---- by places or names

module _ {S : Type 0} (g : Ghosts S) (finds : sql.Held S → Type 0) where
  -- no store is seen, so nothing is written
  pub unseen_output : (naming : Naming) (limits : Limits) (longest : ℕ) (a : Option (List ℕ)) (fault : SeatsFault)
      → IfSome a (IsNotSeen g finds naming limits longest fault) → IfSome a (EndsOutput g finds naming limits longest fault)
  unseen_output (ByPlace given) limits longest a fault h = IfSome_then a h (placed_output limits longest fault)
  unseen_output (ByName node cluster) limits longest a fault h = unseen_named g finds cluster.now limits longest node a fault h

  -- no store is seen, so no token is unlocked
  locked_text : (naming : Naming) (limits : Limits) (longest : ℕ) (user : List ℕ) (fault : SeatsFault) (text : List ℕ)
      → IsNotSeen g finds naming limits longest fault text → IsNotUnlocked g finds naming limits longest user fault text
  locked_text naming limits longest user (Roster fault) text h = h
  locked_text naming limits longest user (NotEnrolled row) text h = h
  locked_text (ByPlace given) limits longest user (NoUser name) text h = absurd h
  locked_text (ByName node cluster) limits longest user (NoUser name) text h = absurd h

  module _ (naming : Naming) (limits : Limits) (longest : ℕ) where
    pub unseen_locked : (a : Option (List ℕ)) (user : List ℕ) (fault : SeatsFault) → IfSome a (IsNotSeen g finds naming limits longest fault)
        → IfSome a (IsNotUnlocked g finds naming limits longest user fault)
    unseen_locked a user fault h = IfSome_then a h (locked_text naming limits longest user fault)

    module _ (a : Option (List ℕ)) (book : List Credential) (floors : List ℕ) (h : IfSome a (IsImported limits 0 longest book floors)) where
      -- no token has the user
      pub nobody : (name user : List ℕ) → name ≡ user → place_of user book ≡ None → IfSome a (λ text. (name ≡ user) × LacksUser limits longest user text)
      nobody name user same none =
          IfSome_then a h (λ text i. (same, record { import = record { book = book; floors = floors; imported = i }; of_nobody = none }))

      module _ (store : SeatedRecord (SqlHeld S)) (seen : HasSeen g finds naming book store) where
        -- the floors are written
        pub has_exported : (old new : Option (List ℕ))
            → (HasCleanDisk (sql.state g store.inner.conn) → Appends old new (export_text book (seated_rows store.seats store.inner.mirror.rows)))
            → IfSome a (HasExported g finds naming limits longest old new)
        has_exported old new written = IfSome_then a h (λ text i. record {
          import = record { book = book; floors = floors; imported = i };
          store = store;
          seen = seen;
          written = written;
        })

        -- the gates are written
        pub has_told : (old new : Option (List ℕ))
            → (HasCleanDisk (sql.state g store.inner.conn) → Appends old new (gates_text book (seated_rows store.seats store.inner.mirror.rows)))
            → IfSome a (HasToldGates g finds naming limits longest old new)
        has_told old new written = IfSome_then a h (λ text i. record {
          import = record { book = book; floors = floors; imported = i };
          store = store;
          seen = seen;
          written = written;
        })

        -- the passes are written
        pub has_audited : (old new : Option (List ℕ)) (first last : SqlHeld S) → first ≡ store.inner → KeepsTables g first last
            → (HasCleanDisk (sql.state g last.conn) → WritesAudit g last old new)
            → IfSome a (HasAudited g finds naming limits longest old new)
        has_audited old new first last same kept written = IfSome_then a h (λ text i. record {
          import = record { book = book; floors = floors; imported = i };
          found = store;
          seen = seen;
          store = last;
          kept = subst (λ (s : SqlHeld S). KeepsTables g s last) same kept;
          written = written;
        })

        -- the user's token is unlocked
        pub has_unlocked : (user : List ℕ) (token number row : ℕ) (first new : SqlHeld S) → place_of user book ≡ Some token → number ≡ token
            → slice_get store.seats number ≡ Some row → first ≡ store.inner
            → MayWrite {A = Unit {0}} {E = StoreFault} (sql_held g) first new (unlocked_content first.mirror row) (Ok tt)
            → IfSome a (Unlocks g finds naming limits longest user new)
        has_unlocked user token number row first new found is at same writes = IfSome_then a h (λ text i. record {
          known = record { import = record { book = book; floors = floors; imported = i }; token = token; of_user = found };
          old = store;
          seen = seen;
          row = row;
          row_is = subst (λ n. slice_get store.seats n ≡ Some row) is at;
          writes = subst (λ (s : SqlHeld S). MayWrite {A = Unit {0}} {E = StoreFault} (sql_held g) s new (unlocked_content s.mirror row) (Ok tt)) same writes;
        })

  module _ (limits : Limits) (longest : ℕ) (a : Option (List ℕ)) (book : List Credential) (floors : List ℕ)
      (h : IfSome a (IsImported limits 0 longest book floors)) where
    -- the store or the output fails
    pub output_fails : (naming : Naming) (broken : Option StoreFault) (fault : Fault) → IsOutputFault broken fault
        → IfSome a (EndsOutput g finds naming limits longest (Roster (Command fault)))
    output_fails (ByPlace given) broken fault is =
        IfSome_then a h (λ text i. failed_output limits longest broken fault text (record { book = book; floors = floors; imported = i }) is)
    output_fails (ByName node cluster) broken fault is = output_fails_named g finds cluster.now limits longest node a book floors h broken fault is

    -- the write fails
    pub write_fails : (naming : Naming) (user : List ℕ) (fault : StoreFault)
        → IfSome a (IsNotUnlocked g finds naming limits longest user (Roster (Command (Store fault))))
    write_fails (ByPlace given) user fault = IfSome_then a h (λ text i. record { book = book; floors = floors; imported = i })
    write_fails (ByName node cluster) user fault = IfSome_then a h (λ text i. record { book = book; floors = floors; imported = i })
