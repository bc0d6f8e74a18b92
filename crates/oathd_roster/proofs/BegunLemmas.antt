-- The store of a member begins, or does not.
use Rattle.std.proofs.Common.{◌≡◌, ◌∙◌, ℕ, Bool, true, false, List, Option, Some, None, IfSome, length, refl, sym, ap, subst}
use Rattle.std.specs.Prelude.{Result, Ok, Err, IfOk, IsErrAnd, if◌then◌else◌}
use Rattle.std.specs.Io.KnownBytes.{Appends}
use Rattle.sqlite.specs.Effect.{Database}
use Rattle.sqlite.specs.Store.{Ghosts}
use Rattle.sqlite.specs.Held as sql
use Rattle.sqlite.specs.State.{HasCleanDisk}
use Rattle.otp_core.specs.Limits.{Limits}
use Rattle.token_file.specs.Credential.{Credential}
use Rattle.floor_sql.specs.Held.{SqlHeld, sql_held}
use Rattle.floor_sql.specs.Shown.{IsLeft}
use Rattle.floor_sql.specs.Steps.{Transacts}
use Rattle.floor_sql.specs.declared.read.Refusal.{Refusal}
use Rattle.floor_store.specs.declared.fault.StoreFault.{StoreFault}
use Rattle.floor_store.specs.declared.fault.StoreFault.TheVariants.{Unusable}
use Rattle.named_store.specs.Opened.{HasSeated}
use Rattle.roster_sql.specs.Opened.{OpensNamed}
use Rattle.roster_sql.specs.Roster.{BondRecord}
use Rattle.roster_sql.specs.declared.entry.Entry.{Entry}
use Rattle.seated_store.specs.Seated.{SeatedRecord, seated_held}
use Rattle.seated_store.specs.Seats.{seated_content}
use Rattle.vote_core.specs.NodeSet.{PlaceRecord}
use Rattle.oathd_database.specs.Fault.{IsOutputFault}
use Rattle.oathd_database.specs.Users.{IsImported}
use Rattle.oathd_database.specs.declared.fault.Fault.{Fault}
use Rattle.oathd_database.specs.declared.fault.Fault.TheVariants.{Memory, CannotWrite, NoClock, Users, Store, Socket}
use Rattle.oathd_roster.specs.Begun.{HasBegun, IsBegun, IsBegunAt, IsNotBegun, IsNotCreated, begun_text}
use Rattle.oathd_roster.specs.Users.{IsUnnamed}
use Rattle.oathd_roster.specs.declared.cluster.NamedCluster.{NamedCluster}
use Rattle.oathd_roster.specs.declared.fault.RosterFault.{RosterFault}
use Rattle.oathd_roster.specs.declared.fault.RosterFault.TheVariants.{Command, SameName, AnotherCluster, Full}
use Rattle.oathd_roster.proofs.OpenedLemmas.{refused_text}

module _ {S : Type 0} (g : Ghosts S) (node boot : ℕ) (entries : List Entry) (floors : List ℕ) (own : BondRecord) where
  begun_at : {A : Type 0} (first made : sql.Held S) (store : SeatedRecord (SqlHeld S)) (value : A) (Lacks : Database → Type 0)
      → Transacts g (λ (e : Refusal). e.0) first made (OpensNamed node boot floors entries own) IsLeft Lacks (Ok value)
      → HasSeated g made node entries floors own store → length store.seats ≡ length entries
      → IsBegunAt g (λ conn. conn ≡ first) node boot entries floors own store
  begun_at first made store value Lacks creates seated each = record {
    first = first;
    found = λ clean. refl;
    made = made;
    creates = creates.ok;
    survives = creates.crash;
    seated = seated;
    each = each;
  }

  -- a creation that ended well found no table, and the store is then opened
  pub begun_if : {A R : Type 0} (first made : sql.Held S) (result : Result (SeatedRecord (SqlHeld S)) StoreFault) (found : Bool) (value : A)
      (Lacks : Database → Type 0) (Q : Refusal → Type 0)
      → (found ≡ false → Transacts g (λ (e : Refusal). e.0) first made (OpensNamed node boot floors entries own) IsLeft Lacks (Ok value))
      → (found ≡ true → R × IsErrAnd (Ok value) Q)
      → IfOk result (HasSeated g made node entries floors own) → IfOk result (λ store. length store.seats ≡ length entries)
      → IfOk result (IsBegunAt g (λ conn. conn ≡ first) node boot entries floors own)
  begun_if first made (Err fault) found value Lacks Q creates refused seated each = tt
  begun_if first made (Ok store) false value Lacks Q creates refused seated each = begun_at first made store value Lacks (creates refl) seated each
  begun_if first made (Ok store) true value Lacks Q creates refused seated each = absurd (refused refl).1

module _ {S : Type 0} (g : Ghosts S) (finds : sql.Held S → Type 0) (node boot : ℕ) (own : BondRecord) where
  -- the connection is found that the database finds
  pub begun_found : (entries named : List Entry) (floors given : List ℕ) (conn : sql.Held S) (store : SeatedRecord (SqlHeld S))
      → named ≡ entries → given ≡ floors → (HasCleanDisk (sql.state g conn) → finds conn)
      → IsBegunAt g (λ first. first ≡ conn) node boot named given own store → IsBegunAt g finds node boot entries floors own store
  begun_found entries named floors given conn store same drifted found is =
      let at : IsBegunAt g finds node boot named given own store = record {
        first = is.first;
        found = λ clean.
            let one = is.found clean in
            subst finds (sym one) (found (subst (λ c. HasCleanDisk (sql.state g c)) one clean));
        made = is.made;
        creates = is.creates;
        survives = is.survives;
        seated = is.seated;
        each = is.each;
      } in
      subst (λ (f : List ℕ). IsBegunAt g finds node boot entries f own store) drifted
      (subst (λ (l : List Entry). IsBegunAt g finds node boot l given own store) same at)

-- a store that begins has no fault
pub works_so : {S : Type 0} (g : Ghosts S) (store : SeatedRecord (SqlHeld S)) → store.is_unusable ≡ false → store.inner.fault ≡ None
    → (seated_held (sql_held g) store).fault ≡ None
works_so g store seen sound = ap (λ (b : Bool). if b then Some Unusable else store.inner.fault) seen ∙ sound

-- ---- the faults

module _ (cluster : NamedCluster) (limits : Limits) (moment longest : ℕ) where
  -- the users file is not imported, or has no names
  pub not_created : (a : Option (List ℕ)) (fault : RosterFault) → IfSome a (IsUnnamed cluster.salt limits moment longest fault)
      → IfSome a (IsNotCreated cluster limits moment longest fault)
  not_created None fault h = tt
  not_created (Some text) (Command fault) h = refused_text limits moment longest fault text h
  not_created (Some text) (SameName row) h = h
  not_created (Some text) AnotherCluster h = absurd h
  not_created (Some text) Full h = absurd h

  -- the allocator refuses the memory
  pub no_room : (a : Option (List ℕ)) → IfSome a (IsNotCreated cluster limits moment longest (Command Memory))
  no_room None = tt
  no_room (Some text) = tt

  -- the store fails after the import
  pub creation_fails : (a : Option (List ℕ)) (fault : StoreFault) (book : List Credential) (floors : List ℕ)
      → IfSome a (IsImported limits moment longest book floors)
      → IfSome a (IsNotCreated cluster limits moment longest (Command (Store fault)))
  creation_fails None fault book floors h = tt
  creation_fails (Some text) fault book floors h = record { book = book; floors = floors; imported = h }

  module _ {S : Type 0} (g : Ghosts S) (finds : sql.Held S → Type 0) where
    -- no store is created
    pub not_begun : (a : Option (List ℕ)) (node : ℕ) (fault : RosterFault) → IfSome a (IsNotCreated cluster limits moment longest fault)
        → IfSome a (IsNotBegun g finds cluster limits moment longest node fault)
    not_begun None node fault h = tt
    not_begun (Some text) node (Command Memory) h = tt
    not_begun (Some text) node (Command CannotWrite) h = absurd h
    not_begun (Some text) node (Command NoClock) h = h
    not_begun (Some text) node (Command (Users fault)) h = h
    not_begun (Some text) node (Command (Store fault)) h = h
    not_begun (Some text) node (Command Socket) h = h
    not_begun (Some text) node (SameName row) h = h
    not_begun (Some text) node AnotherCluster h = h
    not_begun (Some text) node Full h = h

    module _ (book : List Credential) (floors : List ℕ) (store : SeatedRecord (SqlHeld S)) where
      -- the output failed after the store began
      pub not_told : (a : Option (List ℕ)) (node : ℕ) (fault : Fault) (broken : Option StoreFault)
          → IfSome a (IsImported limits moment longest book floors) → IsBegun g finds cluster limits moment node book floors store
          → broken ≡ None → IsOutputFault broken fault → IfSome a (IsNotBegun g finds cluster limits moment longest node (Command fault))
      not_told None node fault broken h begun works is = tt
      not_told (Some text) node Memory broken h begun works is = tt
      not_told (Some text) node CannotWrite broken h begun works is =
          record { import = record { book = book; floors = floors; imported = h }; store = store; begun = begun }
      not_told (Some text) node NoClock broken h begun works is = is
      not_told (Some text) node (Users fault) broken h begun works is = absurd is
      not_told (Some text) node (Store fault) broken h begun works is = record { book = book; floors = floors; imported = h }
      not_told (Some text) node Socket broken h begun works is = is

      -- the store begins, and its text is written
      pub has_begun : (a old new : Option (List ℕ)) (place : PlaceRecord) → IfSome a (IsImported limits moment longest book floors)
          → IsBegun g finds cluster limits moment place.me book floors store
          → (HasCleanDisk (sql.state g store.inner.conn)
          → Appends old new (begun_text cluster limits moment place (seated_content store.seats store.inner.mirror) book))
          → IfSome a (HasBegun g finds cluster limits moment longest place store old new)
      has_begun None old new place h begun written = tt
      has_begun (Some text) old new place h begun written =
          record { import = record { book = book; floors = floors; imported = h }; begun = begun; written = written }
