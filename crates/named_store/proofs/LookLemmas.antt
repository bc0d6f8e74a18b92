-- A store that is looked at by names.
use Rattle.std.proofs.Common.{◌≡◌, ◌<◌, ℕ, suc, ◌+◌, Bool, true, false, cond, not, List, [], ◌∷◌, ◌++◌, length, take, map, slice_get, Some, None, IsTrue, refl, ap, sym, subst, ◌∙◌, append-nil, arith}
use Rattle.std.proofs.lemmas.List.{length-map}
use Rattle.std.proofs.lemmas.Option.{slice_get_within}
use Rattle.sqlite.specs.Store.{Ghosts}
use Rattle.sqlite.specs.Effect.{Database}
use Rattle.sqlite.specs.Held.{Held, state}
use Rattle.sqlite.specs.State.{HasCleanDisk, Survives}
use Rattle.sqlite.specs.Tree.{Trees}
use Rattle.sqlite.proofs.StateLemmas.{survives_then}
use Rattle.floor_store.specs.Content.{Content}
use Rattle.floor_sql.specs.Calls.{HandsBack, IsOpenedAs, KeepsTables}
use Rattle.floor_sql.specs.Held.{HasTablesAs, SqlHeld}
use Rattle.floor_sql.specs.Shown.{IsLeft}
use Rattle.floor_sql.specs.declared.schema.Format.TheVariants.{Named}
use Rattle.roster_sql.specs.Roster.{BondRecord}
use Rattle.roster_sql.specs.declared.entry.Entry.{Entry}
use Rattle.seated_store.specs.Seats.{AreSeats}
use Rattle.named_store.specs.Looked.{AreAllSeated, HasLooked, HoldsStore, IsFirstNew, IsLookFault, IsUnseated, LacksToken}
use Rattle.named_store.specs.Opened.{HasNames, IsCause}
use Rattle.named_store.specs.Seating.{AreDistinct, AreNew, AreSeatsOf, has_name, name_at, new_entries, new_from, new_places, rows_after}
use Rattle.named_store.specs.declared.fault.LookFault.TheVariants as look
use Rattle.named_store.specs.declared.fault.NamedFault.{NamedFault}
use Rattle.named_store.specs.declared.fault.NamedFault.TheVariants.{AnotherCluster, Full, Store}
use Rattle.named_store.proofs.GrownLemmas.{as_many_from, is_nil}
use Rattle.named_store.proofs.RefusedLemmas.{left_same}

-- a fault before a token is looked for is one of an opening
pub unseated_cause : (db : Database) (node : ℕ) (names : List Entry) (own : BondRecord) (fault : NamedFault) → IsUnseated db own fault → IsCause db node names own fault
unseated_cause db node names own AnotherCluster h = h
unseated_cause db node names own Full h = absurd h
unseated_cause db node names own (Store fault) h = h

-- a fault before a token is looked for is not that the store is full
pub look_fault : (names : List Entry) (fault : NamedFault) → (fault ≡ Full → ⊥) → IsLookFault names (look.Named fault)
look_fault names AnotherCluster other = tt
look_fault names Full other = other refl
look_fault names (Store fault) other = tt

-- ---- the first new token

-- the first new token, whose places are counted from `p`
record IsFrom (p : ℕ) (roster names : List Entry) (place : ℕ) : Type 0 where
  offset : ℕ
  is : place ≡ p + offset
  first : IsFirstNew roster names offset

from_next : (t : Bool) (p place : ℕ) (rest : List ℕ) (roster names : List Entry) (e : Entry) → has_name roster e.name ≡ t
    → cond t (new_from (p + 1) roster names) (p ∷ new_from (p + 1) roster names) ≡ place ∷ rest
    → (new_from (p + 1) roster names ≡ place ∷ rest → IsFrom (p + 1) roster names place) → IsFrom p roster (e ∷ names) place
from_next true p place rest roster names e has is next =
    let it = next is in
    let counted = it.is in
    record {
      offset = suc it.offset;
      is = omega (arith, counted);
      first = record {
        token = it.first.token;
        there = it.first.there;
        absent = it.first.absent;
        before = ap (λ b. cond (not b) (e ∷ new_entries roster (take it.offset names)) (new_entries roster (take it.offset names))) has ∙ it.first.before;
      };
    }
from_next false p place rest roster names e has is next =
    let same : p ≡ place = cc in
    record { offset = 0; is = omega (arith, same); first = record { token = e; there = refl; absent = has; before = refl } }

first_from : (p place : ℕ) (rest : List ℕ) (roster names : List Entry) → new_from p roster names ≡ place ∷ rest → IsFrom p roster names place
first_from p place rest roster [] is = absurd cc
first_from p place rest roster (e ∷ names) is =
    from_next (has_name roster e.name) p place rest roster names e refl is (first_from (p + 1) place rest roster names)

pub first_new : (roster names : List Entry) (places : List ℕ) (place : ℕ) → places ≡ new_places roster names → slice_get places 0 ≡ Some place
    → IsFirstNew roster names place
first_new roster names [] place all at = absurd cc
first_new roster names (q ∷ rest) place all at =
    let same : q ≡ place = cc in
    let it = first_from 0 q rest roster names (sym all) in
    let here : it.offset ≡ place = omega (arith, it.is, same) in subst (λ n. IsFirstNew roster names n) here it.first

-- it is one of the tokens
pub first_within : (roster names : List Entry) (places : List ℕ) (place : ℕ) → places ≡ new_places roster names → slice_get places 0 ≡ Some place
    → place < length names
first_within roster names places place all at =
    let it = first_new roster names places place all at in slice_get_within names place it.token it.there

-- ---- no new token

-- no first place is no place
pub no_places : (places : List ℕ) → slice_get places 0 ≡ None → places ≡ []
no_places [] none = refl
no_places (place ∷ places) none = absurd cc

-- all tokens have rows
pub all_seated : (roster names : List Entry) (seats places : List ℕ) (entries : List Entry) → AreDistinct roster → AreSeatsOf roster names seats
    → AreNew roster names places entries → places ≡ [] → AreAllSeated roster names seats
all_seated roster names seats places entries distinct seated new none =
    let many = as_many_from 0 roster names in
    let zero_is : length (new_places roster names) ≡ 0 = ap (λ (l : List ℕ). length l) (sym new.all_places ∙ none) in
    record {
      distinct = distinct;
      none_new = is_nil (new_entries roster names) (sym many ∙ zero_is);
      seated = seated;
      each = sym (length-map seats (name_at (rows_after roster names))) ∙ ap length seated.named ∙ length-map names (λ e. Some e.name);
    }

-- the seats are rows of the store
pub seats_within : (roster names : List Entry) (seats : List ℕ) (rows : ℕ) → rows ≡ length roster → AreAllSeated roster names seats → AreSeats rows seats
seats_within roster names seats rows counted all =
    let same : rows_after roster names ≡ roster = ap (λ (es : List Entry). roster ++ es) all.none_new ∙ append-nil roster in
    subst (λ n. AreSeats n seats) (ap (λ (es : List Entry). length es) same ∙ sym counted) all.seated.apart

-- ---- connections

module _ {S : Type 0} (g : Ghosts S) (old new : Held S) where
  -- a refusal after a read that failed
  pub hands_left : new.in_transaction ≡ false → (IsTrue (state g old).is_open → (state g old).now ≡ (state g old).committed)
      → (HasCleanDisk (state g new) → IsLeft (state g old) (state g new)) → Survives (state g old) (state g new) (λ _. ⊥)
      → HandsBack g old new (λ _. ⊥)
  hands_left idle settled left survives = record {
    idle = idle;
    tables = λ clean. record { now = left_same (state g old) (state g new) settled (left clean); committed = (left clean).committed };
    survives = survives;
  }

  -- a refusal after reads
  pub hands_kept : KeepsTables g old new → HandsBack g old new (λ _. ⊥)
  hands_kept it = record {
    idle = it.idle;
    tables = λ clean. record { now = λ _. (it.read clean).now; committed = λ _. (it.read clean).committed };
    survives = it.survives;
  }

module _ {S : Type 0} (g : Ghosts S) (old mid new : Held S) (kept : KeepsTables g old mid) where
  none : HasCleanDisk (state g new) → (db : Trees) → ⊥ → ⊥
  none clean db never = never

  -- a refusal of a store that was to be opened after reads
  pub hands_after : HandsBack g mid new (λ _. ⊥) → HandsBack g old new (λ _. ⊥)
  hands_after it = record {
    idle = it.idle;
    tables = λ clean.
        let early : HasCleanDisk (state g mid) = omega (arith, it.survives.clean) in
        let before = kept.read early in
        let after = it.tables clean in
        record { now = λ is. after.now is ∙ before.now; committed = λ is. after.committed is ∙ before.committed };
    survives = survives_then (state g old) (state g mid) (state g new) (λ _. ⊥) (λ _. ⊥) (λ _. ⊥) none none kept.survives it.survives;
  }

  -- reads after reads
  pub keeps_then : KeepsTables g mid new → KeepsTables g old new
  keeps_then it = record {
    idle = it.idle;
    read = λ clean.
        let early : HasCleanDisk (state g mid) = omega (arith, it.survives.clean) in
        let before = kept.read early in
        let after = it.read clean in
        record { is_open = after.is_open ∙ before.is_open; now = after.now ∙ before.now; committed = after.committed ∙ before.committed };
    survives = survives_then (state g old) (state g mid) (state g new) (λ _. ⊥) (λ _. ⊥) (λ _. ⊥) none none kept.survives it.survives;
  }

-- ---- the store

-- what the tables of a store with these entries hold
pub holds_store : (db : Database) (node : ℕ) (roster : List Entry) (own : BondRecord) (c : Content) (count : ℕ) → HasNames db node roster own
    → HasTablesAs Named db node (length roster) c count → HoldsStore db node roster own c count
holds_store db node roster own c count has tables = record {
  passes = tables.passes;
  holds = record { schema = has.store.schema; holds = tables.holds; roster = has.entries; counted = sym tables.of_tokens; bond = has.bond };
  of_node = tables.of_node;
  counted = tables.counted;
}

module _ {S : Type 0} (g : Ghosts S) (old mid : Held S) (node : ℕ) (names : List Entry) (own : BondRecord) (roster : List Entry)
    (kept : KeepsTables g old mid) (has : HasCleanDisk (state g mid) → HasNames (state g old).now node roster own) where
  -- the store is seen
  pub has_looked : (store : SqlHeld S) (seats : List ℕ) → AreAllSeated roster names seats → IsOpenedAs g Named mid node (length roster) store
      → length store.mirror.rows ≡ length roster
      → HasLooked g old node names own roster (record { inner = store; seats = seats; is_unusable = false })
  has_looked store seats seated opened counted = record {
    tables = λ clean.
        let early : HasCleanDisk (state g mid) = omega (arith, opened.kept.survives.clean) in
        let tables : HasTablesAs Named (state g old).now node (length roster) store.mirror store.passes =
        subst (λ (d : Database). HasTablesAs Named d node (length roster) store.mirror store.passes) (kept.read early).now (opened.content clean) in
        holds_store (state g old).now node roster own store.mirror store.passes (has early) tables;
    kept = keeps_then g old mid store.conn kept opened.kept;
    seats = seated;
    rows = counted;
    sound = opened.sound;
    works = refl;
  }

  -- a token without a row
  pub lacks_token : (places : List ℕ) (entries : List Entry) (place : ℕ) → AreNew roster names places entries → slice_get places 0 ≡ Some place
      → HasCleanDisk (state g mid) → LacksToken (state g old).now node names own place
  lacks_token places entries place new at clean =
      record { roster = roster; has = has clean; first = first_new roster names places place new.all_places at }
