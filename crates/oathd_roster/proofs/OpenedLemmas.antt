-- A store is opened by names, or is not.
use Rattle.std.proofs.Common.{◌≡◌, ℕ, List, length, subst}
use Rattle.sqlite.specs.Store.{Ghosts}
use Rattle.sqlite.specs.Held as sql
use Rattle.sqlite.specs.State.{HasCleanDisk}
use Rattle.otp_core.specs.Limits.{Limits}
use Rattle.token_file.specs.Credential.{Credential}
use Rattle.floor_sql.specs.Held.{SqlHeld}
use Rattle.named_store.specs.Entries.{entries_of}
use Rattle.named_store.specs.Opened.{AreCounts, EnrolsNames, HasSeated, IsCause, IsRefused as HandsBackNamed}
use Rattle.named_store.specs.Seating.{AreDistinct}
use Rattle.named_store.specs.declared.fault.NamedFault.{NamedFault}
use Rattle.named_store.specs.declared.fault.NamedFault.TheVariants as named
use Rattle.named_store.specs.declared.opening.RowCounts.{RowCounts}
use Rattle.roster_sql.specs.declared.entry.Entry.{Entry}
use Rattle.seated_store.specs.Seated.{SeatedRecord}
use Rattle.oathd_database.specs.Commands.{IsRefused}
use Rattle.oathd_database.specs.Users.{IsImported, IsUnread}
use Rattle.oathd_database.specs.declared.fault.Fault.{Fault}
use Rattle.oathd_database.specs.declared.fault.Fault.TheVariants.{Memory, CannotWrite, NoClock, Users, Store, Socket}
use Rattle.oathd_roster.specs.Enrolled.{IsOpenedFor}
use Rattle.oathd_roster.specs.Enrolment.{enrolment_floors}
use Rattle.oathd_roster.specs.Fault.{named_fault_of}
use Rattle.oathd_roster.specs.Opened.{IsKeptOut, IsNotOpened}
use Rattle.oathd_roster.specs.declared.cluster.NamedCluster.{NamedCluster}

-- a users file that is not imported refuses a command
pub refused_text : (limits : Limits) (moment longest : ℕ) (fault : Fault) (text : List ℕ)
    → IsUnread limits moment longest fault text → IsRefused limits moment longest fault text
refused_text limits moment longest Memory text h = tt
refused_text limits moment longest CannotWrite text h = h
refused_text limits moment longest NoClock text h = h
refused_text limits moment longest (Users fault) text h = h
refused_text limits moment longest (Store fault) text h = absurd h
refused_text limits moment longest Socket text h = h

module _ {S : Type 0} (g : Ghosts S) (finds : sql.Held S → Type 0) (cluster : NamedCluster) (limits : Limits) (moment : ℕ) where
  module _ (longest node : ℕ) (book : List Credential) (floors : List ℕ) where
    turned_away : (fault : NamedFault) (conn left : sql.Held S) (text : List ℕ) → (HasCleanDisk (sql.state g conn) → finds conn)
        → (HasCleanDisk (sql.state g left) → IsCause (sql.state g conn).now node (entries_of cluster.salt book) cluster.bond fault)
        → HandsBackNamed g (EnrolsNames node (entries_of cluster.salt book) (enrolment_floors cluster limits moment book floors) cluster.bond) conn left
        → IsImported limits moment longest book floors text → IsKeptOut g finds cluster limits moment longest node fault text
    turned_away fault conn left text found cause kept h = record {
      import = record { book = book; floors = floors; imported = h };
      conn = conn;
      found = found;
      left = left;
      cause = cause;
      kept = kept;
    }

    refused_so : (fault : NamedFault) (conn left : sql.Held S) (text : List ℕ) → (HasCleanDisk (sql.state g conn) → finds conn)
        → (HasCleanDisk (sql.state g left) → IsCause (sql.state g conn).now node (entries_of cluster.salt book) cluster.bond fault)
        → HandsBackNamed g (EnrolsNames node (entries_of cluster.salt book) (enrolment_floors cluster limits moment book floors) cluster.bond) conn left
        → IsImported limits moment longest book floors text → IsNotOpened g finds cluster limits moment longest node (named_fault_of fault) text
    refused_so named.AnotherCluster conn left text found cause kept h = turned_away named.AnotherCluster conn left text found cause kept h
    refused_so named.Full conn left text found cause kept h = turned_away named.Full conn left text found cause kept h
    refused_so (named.Store fault) conn left text found cause kept h = record { book = book; floors = floors; imported = h }

    -- the tables give the reason
    pub kept_out : (fault : NamedFault) (names : List Entry) (given : List ℕ) (conn left : sql.Held S) (text : List ℕ)
        → names ≡ entries_of cluster.salt book → given ≡ enrolment_floors cluster limits moment book floors
        → (HasCleanDisk (sql.state g conn) → finds conn)
        → (HasCleanDisk (sql.state g left) → IsCause (sql.state g conn).now node names cluster.bond fault)
        → HandsBackNamed g (EnrolsNames node names given cluster.bond) conn left
        → IsImported limits moment longest book floors text → IsNotOpened g finds cluster limits moment longest node (named_fault_of fault) text
    kept_out fault names given conn left text same drifted found cause kept h =
        refused_so fault conn left text found
        (λ clean. subst (λ (l : List Entry). IsCause (sql.state g conn).now node l cluster.bond fault) same (cause clean))
        (subst (λ (f : List ℕ). HandsBackNamed g (EnrolsNames node (entries_of cluster.salt book) f cluster.bond) conn left) drifted
        (subst (λ (l : List Entry). HandsBackNamed g (EnrolsNames node l given cluster.bond) conn left) same kept)) h

module _ {S : Type 0} (g : Ghosts S) (cluster : NamedCluster) (limits : Limits) (moment : ℕ) where
  -- the store is opened
  pub opened_for : (node : ℕ) (book : List Credential) (floors : List ℕ) (names : List Entry) (given : List ℕ) (conn : sql.Held S)
      (store : SeatedRecord (SqlHeld S)) (counts : RowCounts)
      → names ≡ entries_of cluster.salt book → given ≡ enrolment_floors cluster limits moment book floors
      → HasSeated g conn node names given cluster.bond store
      → (HasCleanDisk (sql.state g store.inner.conn) → AreCounts (sql.state g conn).now node names cluster.bond counts)
      → length store.seats ≡ length book → AreDistinct (entries_of cluster.salt book)
      → IsOpenedFor g cluster limits moment conn node book floors store counts
  opened_for node book floors names given conn store counts same drifted seated counted each apart = record {
    seated =
        subst (λ (f : List ℕ). HasSeated g conn node (entries_of cluster.salt book) f cluster.bond store) drifted
        (subst (λ (l : List Entry). HasSeated g conn node l given cluster.bond store) same seated);
    counted = λ clean. subst (λ (l : List Entry). AreCounts (sql.state g conn).now node l cluster.bond counts) same (counted clean);
    each = each;
    names_apart = apart;
  }
