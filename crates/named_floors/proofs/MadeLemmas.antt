-- A store that is made from floors files, by what the steps did.
use Rattle.std.proofs.Common.{◌≡◌, inl, inr, ℕ, ◌<◌, Bool, true, false, List, [], length, map, Result, Ok, Err, refl, sym, ap, subst, ◌∙◌, arith}
use Rattle.std.specs.Prelude.{IfErr, IsErrAnd, IsTrue}
use Rattle.std.proofs.lemmas.List.{length-append, length-map}
use Rattle.sqlite.specs.Effect.{Database}
use Rattle.sqlite.specs.Held.{Held, state}
use Rattle.sqlite.specs.State.{State}
use Rattle.sqlite.specs.Store.{Ghosts}
use Rattle.floor_sql.specs.Created.{IsForeign, has_own_table}
use Rattle.floor_sql.specs.Shown.{IsLeft}
use Rattle.floor_sql.specs.Steps.{Transacts}
use Rattle.floor_sql.specs.declared.read.Refusal.{Refusal}
use Rattle.floor_sql.proofs.StepLemmas.{survives_itself}
use Rattle.floor_store.specs.Fault.{is_failure}
use Rattle.floor_store.specs.declared.fault.StoreFault.{StoreFault}
use Rattle.floor_store.specs.declared.fault.StoreFault.TheVariants.{AlreadyThere, Unusable}
use Rattle.floors_file.specs.declared.named.NamedFloor.{NamedFloor}
use Rattle.floors_file.specs.NamedGathered.{AreDifferent}
use Rattle.named_store.specs.Floors.{seeded_floor}
use Rattle.named_store.specs.Seating.{AreDistinct, new_entries, new_places}
use Rattle.named_store.specs.declared.fault.NamedFault.{NamedFault}
use Rattle.named_store.specs.declared.fault.NamedFault.TheVariants.{AnotherCluster, Full, Store}
use Rattle.named_store.proofs.GrownLemmas.{as_many_from}
use Rattle.named_store.proofs.RefusedLemmas.{survives_any}
use Rattle.roster_sql.specs.declared.entry.Entry.{Entry}
use Rattle.roster_sql.specs.Opened.{OpensNamed}
use Rattle.roster_sql.specs.Roster.{BondRecord}
use Rattle.named_floors.specs.Made.{HasNoRows, IsMakeFault, IsUnmade, Makes}
use Rattle.named_floors.specs.Remade.{gathered_entries, gathered_entry, gathered_floors, remade_entries, remade_floors}
use Rattle.named_floors.proofs.KeptLemmas.{gathered_distinct}

-- ---- the rows

-- there is an entry for each floor
pub as_many_rows : (gathered : List NamedFloor) (names : List Entry) (floors : List ℕ)
    → length (remade_entries gathered names) ≡ length (remade_floors gathered names floors)
as_many_rows gathered names floors =
    let roster = gathered_entries names gathered in
    let held = gathered_floors gathered in
    let f = seeded_floor roster held names floors in
    let entries = length-append roster (new_entries roster names) in
    let numbers = length-append held (map f (new_places roster names)) in
    let first = length-map gathered (gathered_entry names) in
    let second = length-map gathered (λ (r : NamedFloor). r.next) in
    let third = length-map (new_places roster names) f in
    let many = as_many_from 0 roster names in
    omega (arith, entries, numbers, first, second, third, many)

-- each gathered row is a row
pub many_rows : (gathered : List NamedFloor) (names : List Entry) → 65536 < length gathered → 65536 < length (remade_entries gathered names)
many_rows gathered names many =
    let roster = gathered_entries names gathered in
    let entries = length-append roster (new_entries roster names) in
    let first = length-map gathered (gathered_entry names) in
    omega (arith, many, entries, first)

-- without tokens the gathered rows are all rows
pub gathered_alone : (gathered : List NamedFloor) → length (remade_entries gathered []) ≡ length gathered
gathered_alone gathered =
    let entries = length-append (gathered_entries [] gathered) [] in
    let first = length-map gathered (gathered_entry []) in
    omega (arith, entries, first)

-- the fault of rows that are not found
pub known_fault : {A : Type 0} (gathered : List NamedFloor) (names : List Entry) (fault : NamedFault) (result : Result A NamedFault) → result ≡ Err fault
    → HasNoRows gathered names fault → IfErr result (IsMakeFault gathered names)
known_fault gathered names AnotherCluster result is h = absurd h
known_fault {A} gathered names Full result is h = subst (λ (r : Result A NamedFault). IfErr r (IsMakeFault gathered names)) (sym is) h
known_fault {A} gathered names (Store fault) result is h = subst (λ (r : Result A NamedFault). IfErr r (IsMakeFault gathered names)) (sym is) tt

-- a fault of the store
pub known_store : {A : Type 0} (gathered : List NamedFloor) (names : List Entry) (fault : StoreFault) (result : Result A NamedFault)
    → result ≡ Err (Store fault) → IfErr result (IsMakeFault gathered names)
known_store {A} gathered names fault result is = subst (λ (r : Result A NamedFault). IfErr r (IsMakeFault gathered names)) (sym is) tt

-- two tokens have one name, since no two gathered rows have
pub tokens_alike : (gathered : List NamedFloor) (names : List Entry) (fault : StoreFault) → AreDifferent gathered
    → IsTrue (is_failure fault) → (fault ≡ Unusable → AreDistinct (gathered_entries names gathered) × AreDistinct names → ⊥)
    → HasNoRows gathered names (Store fault)
tokens_alike gathered names fault different failure unusable =
    (failure, λ is distinct. unusable is (gathered_distinct names gathered different, distinct))

-- the rows are not found, by the fault of their search
pub rows_fail : {A : Type 0} (gathered found : List NamedFloor) (names : List Entry) (end : Result A NamedFault) (refusal : Refusal) → found ≡ gathered
    → AreDifferent gathered → IsErrAnd end (λ fault. fault ≡ Store refusal.0)
    → IsTrue (is_failure refusal.0) → (refusal.0 ≡ Unusable → AreDistinct (gathered_entries names found) × AreDistinct names → ⊥)
    → IfErr end (HasNoRows gathered names)
rows_fail gathered found names (Ok value) refusal same different is failure unusable = tt
rows_fail gathered found names (Err fault) refusal same different is failure unusable =
    subst (HasNoRows gathered names) (sym is)
    (tokens_alike gathered names refusal.0 different failure
    (subst (λ (l : List NamedFloor). refusal.0 ≡ Unusable → AreDistinct (gathered_entries names l) × AreDistinct names → ⊥) same unusable))

-- ---- the store

-- what was written is what was found
pub opens_as : {S A : Type 0} (g : Ghosts S) (old new : Held S) (result : Result A Refusal) (node boot : ℕ) (own : BondRecord)
    {written floors : List ℕ} {listed entries : List Entry} → written ≡ floors → listed ≡ entries
    → (has_own_table old.schema ≡ false
    → Transacts g (λ (e : Refusal). e.0) old new (OpensNamed node boot written listed own) IsLeft (λ db. IsForeign db.schema) result)
    → has_own_table old.schema ≡ false
    → Transacts g (λ (e : Refusal). e.0) old new (OpensNamed node boot floors entries own) IsLeft (λ db. IsForeign db.schema) result
opens_as g old new result node boot own {written} {floors} {listed} {entries} same alike made none =
    let with_floors = subst
    (λ (l : List ℕ). Transacts g (λ (e : Refusal). e.0) old new (OpensNamed node boot l listed own) IsLeft (λ db. IsForeign db.schema) result) same (made none) in
    subst
    (λ (l : List Entry). Transacts g (λ (e : Refusal). e.0) old new (OpensNamed node boot floors l own) IsLeft (λ db. IsForeign db.schema) result) alike with_floors

module _ {S : Type 0} (g : Ghosts S) (gathered : List NamedFloor) (names : List Entry) (IsChange : Database → Database → Type 0) where
  no_rows : (db : Database) (fault : NamedFault) → HasNoRows gathered names fault → IsUnmade gathered names db fault
  no_rows db AnotherCluster h = h
  no_rows db Full h = h
  no_rows db (Store fault) h = record { known = inl h.0; unusable = λ is. inl (h.1 is) }

  stays : (s : State) → IsLeft s s
  stays s = record { was_open = λ is. is; committed = λ is. refl; now = λ is. inl refl }

  -- the database is the old one
  unmade : {A : Type 0} (old : Held S) (fault : NamedFault) → old.in_transaction ≡ false → IsUnmade gathered names (state g old).now fault
      → Makes g {A = A} old old IsChange (IsUnmade gathered names) (Err fault)
  unmade old fault idle cause = record {
    idle = idle;
    ok = λ clean. tt;
    err = λ clean. stays (state g old);
    cause = λ clean. cause;
    survives = survives_any (state g old) (state g old) IsChange (survives_itself (state g old));
  }

  -- there are no rows for a store
  pub made_none : {A : Type 0} (old : Held S) (fault : NamedFault) (end : Result A NamedFault) → old.in_transaction ≡ false → end ≡ Err fault
      → HasNoRows gathered names fault → Makes g old old IsChange (IsUnmade gathered names) end
  made_none {A} old fault end idle is none =
      subst (λ (e : Result A NamedFault). Makes g old old IsChange (IsUnmade gathered names) e) (sym is)
      (unmade old fault idle (no_rows (state g old).now fault none))

  -- the store is made
  pub made_done : {A B : Type 0} (old new : Held S) (result : Result A Refusal) (done : A) (end : B) → result ≡ Ok done
      → (has_own_table old.schema ≡ false → Transacts g (λ (e : Refusal). e.0) old new IsChange IsLeft (λ db. IsForeign db.schema) result)
      → (has_own_table old.schema ≡ true → (new ≡ old) × IsErrAnd result (λ (e : Refusal). e.0 ≡ AlreadyThere))
      → (t : Bool) → has_own_table old.schema ≡ t → Makes g {A = B} old new IsChange (IsUnmade gathered names) (Ok end)
  made_done old new (Err fault) done end is made found t own = absurd cc
  made_done old new (Ok value) done end is made found true own = absurd (found own).1
  made_done old new (Ok value) done end is made found false own =
      let it = made own in
      record { idle = it.idle; ok = λ clean. it.ok clean; err = λ clean. tt; cause = λ clean. tt; survives = it.crash }

  there : (new old : Held S) (fault : StoreFault) → old.in_transaction ≡ false → has_own_table old.schema ≡ true → new ≡ old → fault ≡ AlreadyThere
      → {A : Type 0} → Makes g {A = A} old new IsChange (IsUnmade gathered names) (Err (Store fault))
  there new old fault idle own same is {A} =
      subst (λ (h : Held S). Makes g {A = A} old h IsChange (IsUnmade gathered names) (Err (Store fault))) (sym same)
      (unmade old (Store fault) idle (record { known = inr (is, own); unusable = λ other. absurd cc }))

  -- the store is not made
  pub made_failed : {A B : Type 0} (old new : Held S) (result : Result A Refusal) (refusal : Refusal) (end : Result B NamedFault)
      → old.in_transaction ≡ false → result ≡ Err refusal → end ≡ Err (Store refusal.0)
      → (has_own_table old.schema ≡ false → Transacts g (λ (e : Refusal). e.0) old new IsChange IsLeft (λ db. IsForeign db.schema) result)
      → (has_own_table old.schema ≡ true → (new ≡ old) × IsErrAnd result (λ (e : Refusal). e.0 ≡ AlreadyThere))
      → (t : Bool) → has_own_table old.schema ≡ t → Makes g old new IsChange (IsUnmade gathered names) end
  made_failed {A} {B} old new (Ok value) refusal end idle is same made found t own = absurd cc
  made_failed {A} {B} old new (Err fault) refusal (Ok value) idle is same made found t own = absurd cc
  made_failed {A} {B} old new (Err fault) refusal (Err last) idle is same made found true own =
      let one : fault ≡ refusal = cc in
      let other : last ≡ Store refusal.0 = cc in
      let it = found own in
      subst (λ (f : NamedFault). Makes g {A = B} old new IsChange (IsUnmade gathered names) (Err f)) (ap (λ (e : Refusal). Store e.0) one ∙ sym other)
      (there new old fault.0 idle own it.0 it.1)
  made_failed {A} {B} old new (Err fault) refusal (Err last) idle is same made found false own =
      let one : fault ≡ refusal = cc in
      let other : last ≡ Store refusal.0 = cc in
      let it = made own in
      subst (λ (f : NamedFault). Makes g {A = B} old new IsChange (IsUnmade gathered names) (Err f)) (ap (λ (e : Refusal). Store e.0) one ∙ sym other)
      (record {
        idle = it.idle;
        ok = λ clean. tt;
        err = λ clean. it.err clean;
        cause = λ clean. record { known = inl it.failure; unusable = λ is. inr (it.unusable clean is) };
        survives = it.crash;
      })
