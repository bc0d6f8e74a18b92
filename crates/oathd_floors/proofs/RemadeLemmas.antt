-- A store is made again from floors files, or is not.
use Rattle.std.proofs.Common.{◌≡◌, ◌∙◌, inr, ℕ, Bool, false, List, Option, Some, None, IfSome, length, refl, sym, ap, subst}
use Rattle.std.specs.Prelude.{Ok, if◌then◌else◌}
use Rattle.std.specs.Io.KnownBytes.{Appends}
use Rattle.std.proofs.lemmas.Option.{IfSome_then}
use Rattle.sqlite.specs.Store.{Ghosts}
use Rattle.sqlite.specs.Held as sql
use Rattle.sqlite.specs.State.{HasCleanDisk}
use Rattle.otp_core.specs.Limits.{Limits}
use Rattle.token_file.specs.Credential.{Credential}
use Rattle.floor_sql.specs.Held.{SqlHeld, sql_held}
use Rattle.floor_store.specs.declared.fault.StoreFault.{StoreFault}
use Rattle.floor_store.specs.declared.fault.StoreFault.TheVariants.{Unusable}
use Rattle.floors_file.specs.Named.{NamedFloorsRecord}
use Rattle.floors_file.specs.NamedGathered.{gathered_rows}
use Rattle.named_floors.specs.Made.{IsMakeFault, IsUnmade, Makes, OpensRemade}
use Rattle.named_store.specs.Entries.{entries_of}
use Rattle.named_store.specs.Opened.{HasSeated}
use Rattle.named_store.specs.declared.fault.NamedFault.{NamedFault}
use Rattle.named_store.specs.declared.fault.NamedFault.TheVariants as named
use Rattle.roster_sql.specs.Roster.{BondRecord}
use Rattle.roster_sql.specs.declared.entry.Entry.{Entry}
use Rattle.seated_store.specs.Seated.{SeatedRecord, seated_held}
use Rattle.seated_store.specs.Seats.{seated_content}
use Rattle.vote_core.specs.NodeSet.{PlaceRecord}
use Rattle.oathd_database.specs.Fault.{IsOutputFault}
use Rattle.oathd_database.specs.Lost.{boot_at}
use Rattle.oathd_database.specs.Made.{store_line}
use Rattle.oathd_database.specs.Users.{IsImported, drifted_floors}
use Rattle.oathd_database.specs.declared.fault.Fault.{Fault}
use Rattle.oathd_database.specs.declared.fault.Fault.TheVariants.{Memory, CannotWrite, NoClock, Users, Store, Socket}
use Rattle.oathd_roster.specs.Fault.{named_fault_of}
use Rattle.oathd_roster.specs.Users.{IsUnnamed}
use Rattle.oathd_roster.specs.declared.cluster.NamedCluster.{NamedCluster}
use Rattle.oathd_roster.specs.declared.fault.RosterFault.{RosterFault}
use Rattle.oathd_roster.specs.declared.fault.RosterFault.TheVariants.{Command, SameName, AnotherCluster, Full}
use Rattle.oathd_floors.specs.Files.{IsUntaken}
use Rattle.oathd_floors.specs.Remade.{HasGathered, HasRemade, IsGathered, IsInsufficient, IsMadeAgain, IsNotMadeAgain, IsNotRemade, taking_of, texts_of}
use Rattle.oathd_floors.specs.declared.fault.NamedFloorsFault.{NamedFloorsFault}
use Rattle.oathd_floors.specs.declared.fault.NamedFloorsFault.TheVariants as floors
use Rattle.oathd_floors.specs.declared.remaking.Former.{Former}

-- ---- the files

module _ (key : List ℕ) (own : BondRecord) (node : ℕ) (former : Former) where
  -- a text that is not taken is not enough
  pub untaken_insufficient : (fault : NamedFloorsFault) → IsUntaken (taking_of key own former) (texts_of former) fault → IsInsufficient key own node former fault
  untaken_insufficient (floors.Roster fault) h = h
  untaken_insufficient (floors.Floors number fault) h = h
  untaken_insufficient (floors.Ahead number) h = h
  untaken_insufficient (floors.Files fault) h = inr h

-- ---- the store

-- the fault of a store that is not made
pub not_made : (files : List NamedFloorsRecord) (entries : List Entry) (fault : NamedFault) → IsMakeFault (gathered_rows files) entries fault
    → IsNotMadeAgain files entries (named_fault_of fault)
not_made files entries named.AnotherCluster h = absurd h
not_made files entries named.Full h = h
not_made files entries (named.Store fault) h = tt

module _ {S : Type 0} (g : Ghosts S) (node boot : ℕ) (files : List NamedFloorsRecord) (entries : List Entry) (given : List ℕ) (own : BondRecord) where
  -- a store that was made is then opened
  pub made_again : {A : Type 0} (first made : sql.Held S) (value : A) (store : SeatedRecord (SqlHeld S))
      → Makes g first made (OpensRemade node boot (gathered_rows files) entries given own) (IsUnmade (gathered_rows files) entries) (Ok value)
      → HasSeated g made node entries given own store → length store.seats ≡ length entries
      → IsMadeAgain g (λ conn. conn ≡ first) node boot files entries given own store
  made_again first made value store makes seated each = record {
    first = first;
    found = λ clean. refl;
    made = made;
    creates = makes.ok;
    survives = makes.survives;
    seated = seated;
    each = each;
  }

module _ {S : Type 0} (g : Ghosts S) (finds : sql.Held S → Type 0) (node boot : ℕ) (own : BondRecord) where
  -- the connection is found that the database finds
  pub made_found : (number : ℕ) (files read : List NamedFloorsRecord) (entries named : List Entry) (floors given : List ℕ) (conn : sql.Held S)
      (store : SeatedRecord (SqlHeld S)) → number ≡ node → read ≡ files → named ≡ entries → given ≡ floors → (HasCleanDisk (sql.state g conn) → finds conn)
      → IsMadeAgain g (λ first. first ≡ conn) number boot read named given own store → IsMadeAgain g finds node boot files entries floors own store
  made_found number files read entries named floors given conn store at_node of_files same drifted found is =
      let at : IsMadeAgain g finds number boot read named given own store = record {
        first = is.first;
        found = λ clean.
            let one = is.found clean in
            subst finds (sym one) (found (subst (λ c. HasCleanDisk (sql.state g c)) one clean));
        made = is.made;
        creates = is.creates;
        survives = is.survives;
        seated = is.seated;
        each = is.each;
      } in
      subst (λ (n : ℕ). IsMadeAgain g finds n boot files entries floors own store) at_node
      (subst (λ (l : List NamedFloorsRecord). IsMadeAgain g finds number boot l entries floors own store) of_files
      (subst (λ (f : List ℕ). IsMadeAgain g finds number boot read entries f own store) drifted
      (subst (λ (l : List Entry). IsMadeAgain g finds number boot read l given own store) same at)))

-- a store that is made has no fault
pub works_so : {S : Type 0} (g : Ghosts S) (store : SeatedRecord (SqlHeld S)) → store.is_unusable ≡ false → store.inner.fault ≡ None
    → (seated_held (sql_held g) store).fault ≡ None
works_so g store seen sound = ap (λ (b : Bool). if b then Some Unusable else store.inner.fault) seen ∙ sound

-- ---- the command

module _ (cluster : NamedCluster) (key : List ℕ) (limits : Limits) (moment longest : ℕ) (place : PlaceRecord) (former : Former) {S : Type 0} (g : Ghosts S)
    (finds : sql.Held S → Type 0) where
  -- the users file is not imported, or has no names
  pub unnamed_unmade : (a : Option (List ℕ)) (fault : RosterFault) → IfSome a (IsUnnamed cluster.salt limits moment longest fault)
      → IfSome a (IsNotRemade g finds cluster key limits moment longest place former (floors.Roster fault))
  unnamed_unmade None fault h = tt
  unnamed_unmade (Some text) (Command Memory) h = tt
  unnamed_unmade (Some text) (Command CannotWrite) h = absurd h
  unnamed_unmade (Some text) (Command NoClock) h = h
  unnamed_unmade (Some text) (Command (Users fault)) h = h
  unnamed_unmade (Some text) (Command (Store fault)) h = absurd h
  unnamed_unmade (Some text) (Command Socket) h = h
  unnamed_unmade (Some text) (SameName row) h = h
  unnamed_unmade (Some text) AnotherCluster h = absurd h
  unnamed_unmade (Some text) Full h = absurd h

  -- the allocator refuses the memory
  pub no_memory : (a : Option (List ℕ)) → IfSome a (IsNotRemade g finds cluster key limits moment longest place former (floors.Roster (Command Memory)))
  no_memory None = tt
  no_memory (Some text) = tt

  module _ (book : List Credential) (next : List ℕ) (a : Option (List ℕ)) (h : IfSome a (IsImported limits moment longest book next)) where
    insufficient_at : (fault : NamedFloorsFault) (text : List ℕ) → IsImported limits moment longest book next text
        → IsInsufficient key cluster.bond place.me former fault → IsNotRemade g finds cluster key limits moment longest place former fault text
    insufficient_at (floors.Roster fault) text i is =
        subst (λ (f : RosterFault). IsNotRemade g finds cluster key limits moment longest place former (floors.Roster f) text) (sym is) tt
    insufficient_at (floors.Floors number fault) text i is = (record { book = book; floors = next; imported = i }, is)
    insufficient_at (floors.Ahead number) text i is = (record { book = book; floors = next; imported = i }, is)
    insufficient_at (floors.Files fault) text i is = (record { book = book; floors = next; imported = i }, is)

    -- the files are not enough
    pub insufficient : (fault : NamedFloorsFault) → IsInsufficient key cluster.bond place.me former fault
        → IfSome a (IsNotRemade g finds cluster key limits moment longest place former fault)
    insufficient fault is = IfSome_then a h (λ text i. insufficient_at fault text i is)

    module _ (files : List NamedFloorsRecord) (gathered : IsGathered key cluster.bond place.me former files) where
      abbrev has_gathered : (text : List ℕ) → IsImported limits moment longest book next text
          → HasGathered cluster key limits moment longest place.me former text
      has_gathered text i = record { import = record { book = book; floors = next; imported = i }; files = files; gathered = gathered }

      -- the store fails
      pub store_fails : (fault : StoreFault)
          → IfSome a (IsNotRemade g finds cluster key limits moment longest place former (floors.Roster (Command (Store fault))))
      store_fails fault = IfSome_then a h has_gathered

      unmade_at : (fault : RosterFault) (text : List ℕ) → IsImported limits moment longest book next text
          → IsNotMadeAgain files (entries_of cluster.salt book) fault
          → IsNotRemade g finds cluster key limits moment longest place former (floors.Roster fault) text
      unmade_at (Command Memory) text i is = tt
      unmade_at (Command CannotWrite) text i is = absurd is
      unmade_at (Command NoClock) text i is = is
      unmade_at (Command (Users fault)) text i is = absurd is
      unmade_at (Command (Store fault)) text i is = has_gathered text i
      unmade_at (Command Socket) text i is = is
      unmade_at (SameName row) text i is = absurd is
      unmade_at AnotherCluster text i is = is
      unmade_at Full text i is = record { has = has_gathered text i; full = is }

      -- no store is made
      pub unmade : (entries : List Entry) (fault : RosterFault) → entries ≡ entries_of cluster.salt book → IsNotMadeAgain files entries fault
          → IfSome a (IsNotRemade g finds cluster key limits moment longest place former (floors.Roster fault))
      unmade entries fault same is = IfSome_then a h (λ text i. unmade_at fault text i
          (subst (λ (l : List Entry). IsNotMadeAgain files l fault) same is))

      module _ (store : SeatedRecord (SqlHeld S)) (made : IsMadeAgain g finds place.me (boot_at former.now) files (entries_of cluster.salt book)
          (drifted_floors limits.drift book next) cluster.bond store) where
        untold_at : (fault : Fault) (broken : Option StoreFault) (text : List ℕ) → IsImported limits moment longest book next text → broken ≡ None
            → IsOutputFault broken fault → IsNotRemade g finds cluster key limits moment longest place former (floors.Roster (Command fault)) text
        untold_at Memory broken text i works is = tt
        untold_at CannotWrite broken text i works is =
            record { import = record { book = book; floors = next; imported = i }; files = files; gathered = gathered; store = store; made = made }
        untold_at NoClock broken text i works is = is
        untold_at (Users fault) broken text i works is = absurd is
        untold_at (Store fault) broken text i works is = has_gathered text i
        untold_at Socket broken text i works is = is

        -- the output failed after the store was made
        pub untold : (fault : Fault) (broken : Option StoreFault) → broken ≡ None → IsOutputFault broken fault
            → IfSome a (IsNotRemade g finds cluster key limits moment longest place former (floors.Roster (Command fault)))
        untold fault broken works is = IfSome_then a h (λ text i. untold_at fault broken text i works is)

        -- the store is made, and its line is written
        pub has_remade : (old new : Option (List ℕ))
            → (HasCleanDisk (sql.state g store.inner.conn) → Appends old new (store_line place (seated_content store.seats store.inner.mirror)))
            → IfSome a (HasRemade g finds cluster key limits moment longest place former store old new)
        has_remade old new written = IfSome_then a h (λ text i. record {
          import = record { book = book; floors = next; imported = i };
          files = files;
          gathered = gathered;
          made = made;
          written = written;
        })
