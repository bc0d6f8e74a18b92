-- Rows that are levelled one after the other, and the index of floors.
use Rattle.std.proofs.Common.{◌≡◌, ℕ, zero, suc, ◌+◌, ◌<◌, ◌≤◌, ◌⊎◌, inl, inr, Bool, true, false, cond, List, [], ◌∷◌, length, take, drop, set, get_or, Option, Some, None, refl, sym, ap, subst, ◌∙◌, arith, add-one, leb}
use Rattle.std.specs.Prelude.{Result, Ok, Err, IsSome, OnErr, OnOk, nat_lt, option_map, slice_get}
use Rattle.std.specs.Ordering.{nat_cmp}
use Rattle.std.specs.Cmp.Lexicographic.{slice_cmp}
use Rattle.std.specs.Str.{bytes_eq}
use Rattle.std.specs.BTreeMap as tree
use Rattle.std.specs.BTreeMap.{BTreeMap}
use Rattle.std.proofs.Math.Seq.{drop-cons}
use Rattle.std.proofs.lemmas.Bool.{cond_both, ltb-true, ltb-false, leb-true, leb-false}
use Rattle.std.proofs.lemmas.Map.Text.{is_eq-slice_cmp}
use Rattle.std.proofs.lemmas.Option.{none-some, same_Some, slice_get-map}
use Rattle.floor_store.specs.Content.{Content, opening_row}
use Rattle.floor_store.specs.Held.{Commits, Held, Makes, MayPut, OldOrNew}
use Rattle.floor_store.specs.Records.{RowRecord}
use Rattle.floors_file.specs.declared.named.NamedFloor.{NamedFloor}
use Rattle.floors_file.specs.Gathered.{greater}
use Rattle.floors_file.specs.NamedGathered.{floor_of_name}
use Rattle.roster_sql.specs.declared.entry.Entry.{Entry}
use Rattle.named_floors.specs.Level.{HasFloors, IsPartLevelled, Levels, levelled, levelled_row, levelled_rows, raised, row_of, told_at, told_by}

-- ---- the index of floors

-- the index has the floors of the rows from a place on
abbrev pub HasFloorsFrom : ℕ → List NamedFloor → BTreeMap (List ℕ) ℕ → Type 0
HasFloorsFrom place gathered index = (name : List ℕ) → tree.get (slice_cmp nat_cmp) index name ≡ floor_of_name name (drop place gathered)

-- one more row, at the place before
pub floors_before : {row : NamedFloor} (gathered : List NamedFloor) (place upper : ℕ) (key : List ℕ) (old new : BTreeMap (List ℕ) ℕ) → upper ≡ place + 1
    → place < length gathered → key ≡ row.name → row ≡ get_or gathered place row → HasFloorsFrom upper gathered old
    → tree.Updates (slice_cmp nat_cmp) old new key (Some row.next) → HasFloorsFrom place gathered new
floors_before {row} gathered place upper key old new up within same is has updates = λ name.
    let next : suc place ≡ upper = omega (arith, up) in
    let parts : drop place gathered ≡ row ∷ drop upper gathered =
    drop-cons gathered place row within ∙ ap (λ (x : NamedFloor). x ∷ drop (suc place) gathered) (sym is) ∙ ap (λ (n : ℕ). row ∷ drop n gathered) next in
    updates.0 name
    ∙ ap (λ (t : Bool). cond t (Some row.next) (tree.get (slice_cmp nat_cmp) old name)) (is_eq-slice_cmp key name)
    ∙ ap (λ (k : List ℕ). cond (bytes_eq k name) (Some row.next) (tree.get (slice_cmp nat_cmp) old name)) same
    ∙ ap (cond (bytes_eq row.name name) (Some row.next)) (has name)
    ∙ sym (ap (λ (l : List NamedFloor). floor_of_name name l) parts)

-- ---- one row more

greater_first : (one other : ℕ) → nat_lt one other ≡ false → greater one other ≡ one
greater_first one other least =
    cond_both (leb one other) other one (λ n. n ≡ one)
    (λ q. omega (arith, leb-true one other q, ltb-false one other least)) (λ _. refl)

greater_other : (one other : ℕ) → nat_lt one other ≡ true → greater one other ≡ other
greater_other one other less =
    cond_both (leb one other) other one (λ n. n ≡ other)
    (λ _. refl) (λ q. absurd (omega (arith, leb-false one other q, ltb-true one other less)))

-- no floor is told for the row
row_untold : (k : ℕ) (floors : List (Option ℕ)) (rows : List RowRecord) → slice_get floors k ≡ Some None
    → levelled_rows (take k floors) rows ≡ levelled_rows (take (suc k) floors) rows
row_untold k [] rows is = absurd (none-some None is)
row_untold zero (told ∷ floors) [] is = refl
row_untold zero (told ∷ floors) (top ∷ rows) is = ap (λ t. levelled_row t top ∷ rows) (sym (same_Some told None is))
row_untold (suc k) (told ∷ floors) [] is = refl
row_untold (suc k) (told ∷ floors) (top ∷ rows) is = ap (λ l. levelled_row told top ∷ l) (row_untold k floors rows is)

-- a row with a floor
abbrev raised_row : ℕ → RowRecord → RowRecord
raised_row floor row = record row { next = floor }

-- a greater floor is told
row_raised : (k floor : ℕ) (floors : List (Option ℕ)) (rows : List RowRecord) → slice_get floors k ≡ Some (Some floor) → k < length rows
    → nat_lt (get_or (levelled_rows (take k floors) rows) k (opening_row 0)).next floor ≡ true
    → set (levelled_rows (take k floors) rows) k (raised_row floor (get_or (levelled_rows (take k floors) rows) k (opening_row 0)))
    ≡ levelled_rows (take (suc k) floors) rows
row_raised k floor [] rows is within less = absurd (none-some (Some floor) is)
row_raised k floor (told ∷ floors) [] is within less = absurd (omega (arith, within))
row_raised zero floor (told ∷ floors) (top ∷ rows) is within less =
    ap (λ n. record top { next = n } ∷ rows) (sym (greater_other top.next floor less))
    ∙ ap (λ t. levelled_row t top ∷ rows) (sym (same_Some told (Some floor) is))
row_raised (suc k) floor (told ∷ floors) (top ∷ rows) is within less =
    ap (λ l. levelled_row told top ∷ l) (row_raised k floor floors rows is (omega (arith, within)) less)

-- the told floor is no greater
row_kept : (k floor : ℕ) (floors : List (Option ℕ)) (rows : List RowRecord) → slice_get floors k ≡ Some (Some floor) → k < length rows
    → nat_lt (get_or (levelled_rows (take k floors) rows) k (opening_row 0)).next floor ≡ false
    → levelled_rows (take k floors) rows ≡ levelled_rows (take (suc k) floors) rows
row_kept k floor [] rows is within least = absurd (none-some (Some floor) is)
row_kept k floor (told ∷ floors) [] is within least = absurd (omega (arith, within))
row_kept zero floor (told ∷ floors) (top ∷ rows) is within least =
    ap (λ n. record top { next = n } ∷ rows) (sym (greater_first top.next floor least))
    ∙ ap (λ t. levelled_row t top ∷ rows) (sym (same_Some told (Some floor) is))
row_kept (suc k) floor (told ∷ floors) (top ∷ rows) is within least =
    ap (λ l. levelled_row told top ∷ l) (row_kept k floor floors rows is (omega (arith, within)) least)

level_on : (k : ℕ) (told : Option ℕ) (floors : List (Option ℕ)) (c : Content) → slice_get floors k ≡ Some told → k < length c.rows
    → told_at k told (levelled (take k floors) c) ≡ levelled (take (suc k) floors) c
unfolding raised
level_on k None floors c is within = ap (λ rows. record c { rows = rows }) (row_untold k floors c.rows is)
level_on k (Some floor) floors c is within =
    let now = levelled (take k floors) c in
    cond_both (nat_lt (row_of now k).next floor) _ now (λ x. x ≡ levelled (take (suc k) floors) c)
    (λ less. ap (λ rows. record c { rows = rows }) (row_raised k floor floors c.rows is within less))
    (λ least. ap (λ rows. record c { rows = rows }) (row_kept k floor floors c.rows is within least))

-- ---- a store whose first rows are levelled

pub record LevelledSoFar {S : Type 0} (held : S → Held) (old now : S) (floors : List (Option ℕ)) (count : ℕ) : Type 0 where
  pub content : (held now).is_clean → (held now).content ≡ levelled (take count floors) (held old).content
  pub left : (held now).is_clean → (c : Content) → (held now).leaves c → (held old).leaves c ⊎ IsPartLevelled floors (held old).content c
  pub clean : (held now).is_clean → (held old).is_clean
  pub tokens : length (held now).content.rows ≡ length (held old).content.rows
  pub stays : IsSome (held old).fault → now ≡ old
  pub counted : (held old).failures ≤ (held now).failures

module _ {S : Type 0} (held : S → Held) (old now new : S) (floors : List (Option ℕ)) (count : ℕ) (so_far : LevelledSoFar held old now floors count) where
  -- a broken store stays
  stays_next : {A E : Type 0} {made : Content} {result : Result A E} → Makes held now new made result → IsSome (held old).fault → new ≡ old
  stays_next makes broken =
      let same = so_far.stays broken in
      makes.stays (subst (λ (s : S). IsSome (held s).fault) (sym same) broken) ∙ same

  counted_next : {A E : Type 0} {made : Content} {result : Result A E} → Makes held now new made result → (held old).failures ≤ (held new).failures
  counted_next makes = let before = so_far.counted in let after = makes.count in omega (arith, before, after)

  -- one token more
  made_next : (told : Option ℕ) → slice_get floors count ≡ Some told → count < length (held old).content.rows → (held now).is_clean
      → told_at count told (held now).content ≡ levelled (take (suc count) floors) (held old).content
  made_next told is within clean =
      ap (told_at count told) (so_far.content clean) ∙ level_on count told floors (held old).content is within

  left_next : (told : Option ℕ) → slice_get floors count ≡ Some told → count < length (held old).content.rows
      → {A E : Type 0} (result : Result A E) → MayPut held now new (told_at count told (held now).content) result
      → (held new).is_clean → (c : Content) → (held new).leaves c → (held old).leaves c ⊎ IsPartLevelled floors (held old).content c
  left_next told is within result put clean c leaves =
      let was = put.makes.clean clean in
      elim (put.left was c leaves) [
        | inl before ↦ so_far.left was c before
        | inr made ↦ inr (record { count = suc count; is = made ∙ made_next told is within was })
      ]

  pub level_next : (told : Option ℕ) → slice_get floors count ≡ Some told → count < length (held old).content.rows
      → {A E : Type 0} (result : Result A E) (done : A) → result ≡ Ok done → MayPut held now new (told_at count told (held now).content) result
      → LevelledSoFar held old new floors (count + 1)
  level_next told is within (Err fault) done ok put = absurd cc
  level_next told is within (Ok value) done ok put =
      rw add-one record {
        content = λ clean. put.makes.ok clean ∙ made_next told is within (put.makes.clean clean);
        left = left_next told is within (Ok value) put;
        clean = λ clean. so_far.clean (put.makes.clean clean);
        tokens = put.makes.tokens ∙ so_far.tokens;
        stays = stays_next put.makes;
        counted = counted_next put.makes;
      }

  -- a row is not put
  part_made : (made : Content) → made ≡ levelled (take (suc count) floors) (held old).content → (c : Content) → (held now).is_clean
      → OldOrNew (held now).content made c → IsPartLevelled floors (held old).content c
  part_made made is c clean (inl same) = record { count = count; is = same ∙ so_far.content clean }
  part_made made is c clean (inr same) = record { count = suc count; is = same ∙ is }

  pub level_fails : (told : Option ℕ) → slice_get floors count ≡ Some told → count < length (held old).content.rows
      → {A B E : Type 0} (result : Result A E) (end : Result B E) (fault : E) → result ≡ Err fault → end ≡ Err fault
      → MayPut held now new (told_at count told (held now).content) result → Levels held old new floors end
  level_fails told is within (Ok value) end fault err same put = absurd cc
  level_fails told is within (Err value) (Ok done) fault err same put = absurd cc
  level_fails told is within (Err value) (Err other) fault err same put = record {
    ok = λ _. tt;
    err = λ clean. part_made _ (made_next told is within (put.makes.clean clean)) _ (put.makes.clean clean) (put.makes.err clean);
    left = left_next told is within (Err value) put;
    settled = λ _. tt;
    clean = λ clean. so_far.clean (put.makes.clean clean);
    intact = tt;
    stays = stays_next put.makes;
    count = counted_next put.makes;
    tokens = put.makes.tokens ∙ so_far.tokens;
  }

  -- all of them are committed
  level_ok : take count floors ≡ floors → {A E : Type 0} (result : Result A E) → Commits held now new result → (held new).is_clean
      → OnOk result ((held new).content ≡ levelled floors (held old).content)
  level_ok all (Err fault) commits clean = tt
  level_ok all (Ok done) commits clean =
      commits.makes.ok clean ∙ so_far.content (commits.makes.clean clean) ∙ ap (λ l. levelled l (held old).content) all

  level_err : {A E : Type 0} (result : Result A E) → Commits held now new result → (held new).is_clean
      → OnErr result (IsPartLevelled floors (held old).content (held new).content)
  level_err (Ok done) commits clean = tt
  level_err (Err fault) commits clean =
      elim (commits.makes.err clean) [
        | inl same ↦ record { count = count; is = same ∙ so_far.content (commits.makes.clean clean) }
        | inr same ↦ record { count = count; is = same ∙ so_far.content (commits.makes.clean clean) }
      ]

  level_intact : {A E : Type 0} (result : Result A E) → Commits held now new result → OnOk result ((held new).fault ≡ None)
  level_intact (Ok done) commits = commits.intact.1
  level_intact (Err fault) commits = tt

  pub level_ends : take count floors ≡ floors → {A E : Type 0} (result : Result A E) → Commits held now new result → Levels held old new floors result
  level_ends all result commits =
      let part = λ (clean : (held new).is_clean) (c : Content) (same : c ≡ (held now).content).
      let is : IsPartLevelled floors (held old).content c = record { count = count; is = same ∙ so_far.content (commits.makes.clean clean) } in is in
      record {
        ok = level_ok all result commits;
        err = level_err result commits;
        left = λ clean c leaves. elim (commits.left c leaves) [
          | inl before ↦ so_far.left (commits.makes.clean clean) c before
          | inr same ↦ inr (part clean c same)
        ];
        settled = commits.settled;
        clean = λ clean. so_far.clean (commits.makes.clean clean);
        intact = level_intact result commits;
        stays = stays_next commits.makes;
        count = counted_next commits.makes;
        tokens = commits.makes.tokens ∙ so_far.tokens;
      }

-- the gathered floor for the name of a row
pub told_there : (gathered : List NamedFloor) (roster : List Entry) (index : BTreeMap (List ℕ) ℕ) (k : ℕ) (entry : Entry) (name : List ℕ) (told : Option ℕ)
    → slice_get roster k ≡ Some entry → name ≡ entry.name → told ≡ tree.get (slice_cmp nat_cmp) index name → HasFloors gathered index
    → slice_get (told_by gathered roster) k ≡ Some told
told_there gathered roster index k entry name told is named got has =
    slice_get-map (λ (e : Entry). floor_of_name e.name gathered) roster k ∙ ap (option_map (λ (e : Entry). floor_of_name e.name gathered)) is
    ∙ ap Some (sym (got ∙ has name ∙ ap (λ (n : List ℕ). floor_of_name n gathered) named))
