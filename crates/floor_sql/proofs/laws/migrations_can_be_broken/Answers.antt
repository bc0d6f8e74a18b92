-- The content that is migrated is what the tables hold.
use Rattle.std.proofs.Common.{◌≡◌, ◌+◌, ℕ, zero, suc, List, [], ◌∷◌, length, slice_get, Some, refl, ap, sym, ◌∙◌, arith}
use Rattle.std.specs.Prelude.{pos}
use Rattle.std.proofs.lemmas.List.{length-map}
use Rattle.std.proofs.lemmas.List.Sorted.{IsPermutation-refl, length_permutation}
use Rattle.sqlite.specs.Order.{Row}
use Rattle.sqlite.specs.Tree.{Trees}
use Rattle.floor_store.specs.Content.{Content}
use Rattle.floor_store.specs.Examples.{free_row, new_pass, old_pass}
use Rattle.floor_store.specs.Records.{PassRecord, RowRecord}
use Rattle.floor_sql.specs.Broken.{old_db_at, old_db_of, old_token_db, tables_at, token_content}
use Rattle.floor_sql.specs.Migrate.{AreUndrifted, HoldsUndrifted}
use Rattle.floor_sql.specs.declared.schema.Format.TheVariants.{Numbered}
use Rattle.floor_sql.specs.Stored.{Holds, HoldsFloors, HoldsPasses, floor_row, pass_columns, pass_row, version_row}
use Rattle.floor_sql.proofs.BrokenLemmas.{drift_row_is, one_floor, own_row_has, own_row_is, token_floor, token_holds}
use Rattle.floor_sql.proofs.laws.migrations_can_be_broken.Goals as goal

-- the one token has no drift
no_drift : AreUndrifted (free_row 9 ∷ [])
no_drift zero row e = let same : free_row 9 ≡ row = cc in ap (λ (row : RowRecord). row.drift) (sym same)
no_drift (suc token) row e = absurd cc

-- the tables of version 1 hold its row
old_token_holds : HoldsUndrifted old_token_db 1 1 (token_content (free_row 9)) []
old_token_holds = record {
  schema = refl;
  floors = one_floor old_token_db.trees (free_row 9) (record { found = token_floor.found; place = token_floor.place; shows = token_floor.shows });
  undrifted = no_drift;
  of_tokens = refl;
  self = own_row_has 1 1 1 4;
  pass = IsPermutation-refl [];
  last = refl;
}

pub returns-clause-undrifted : goal.returns-clause-undrifted
returns-clause-undrifted c = old_token_holds

-- no row of floors holds one
none_holds_floor : (row : RowRecord) → HoldsFloors (old_db_of (version_row 1 1 1 4 ∷ []) [] []).trees (row ∷ []) → ⊥
none_holds_floor row h = let place = (h 0 row refl).place in absurd cc

pub returns-clause-undrifted_floors : goal.returns-clause-undrifted_floors
returns-clause-undrifted_floors c = λ next h. none_holds_floor (free_row next) h.floors

-- the drift of one token that has none
one_drift : (row : RowRecord) → AreUndrifted (row ∷ []) → row.drift ≡ pos 0
one_drift row none = none 0 row refl

pub returns-clause-undrifted_drift : goal.returns-clause-undrifted_drift
returns-clause-undrifted_drift c = λ steps h.
    let none : pos (steps + 1) ≡ pos 0 = one_drift (record (free_row 9) { drift = pos (steps + 1) }) h.undrifted in
    let e : steps + 1 ≡ 0 = cc in
    omega (arith, e)

pub returns-clause-undrifted_self : goal.returns-clause-undrifted_self
returns-clause-undrifted_self c = λ boot h. let e = (own_row_is 1 1 0 (boot + 1) 1 1 0 boot h.self).3 in omega (arith, e)

-- a table of one pass has not none
one_is_not_none : (trees : Trees) → trees 2 ≡ pass_row 1 old_pass ∷ [] → HoldsPasses trees [] → ⊥
one_is_not_none trees one h =
    let none = length_permutation _ _ h in
    let rows = length-map (trees 2) pass_columns in
    let first = ap (length {A = Row}) one in
    omega (arith, none, rows, first)

pub returns-clause-undrifted_pass : goal.returns-clause-undrifted_pass
returns-clause-undrifted_pass c = λ boot h. one_is_not_none (old_db_at boot (pass_row 1 old_pass ∷ [])).trees refl h.pass

pub returns-clause-migrates : goal.returns-clause-migrates
unfolding token_holds
returns-clause-migrates c = record {
  content = token_content (free_row 9);
  passes = [];
  was = old_token_holds;
  schema = refl;
  holds = token_holds;
  of_node = refl;
  floor = refl;
  pass = refl;
}

-- the boot of tables of no token, of version 1 and of version 2
was_boot : (now tokens : ℕ) (content : Content) (passes : List PassRecord) → HoldsUndrifted (old_db_at now []) 1 tokens content passes
    → now ≡ content.boot
was_boot now tokens content passes h = (own_row_is 1 1 0 now 1 1 tokens content.boot h.self).3

is_boot : (now : ℕ) (content : Content) (passes : List PassRecord) → Holds Numbered (tables_at now []) content passes → now ≡ content.boot
is_boot now content passes h = (own_row_is 2 1 0 now 2 h.node (length content.rows) content.boot h.self).3

pub returns-clause-migrates_holds : goal.returns-clause-migrates_holds
returns-clause-migrates_holds c = λ boot h.
    let was = was_boot boot 0 h.content h.passes h.was in
    let now = is_boot (boot + 1) h.content h.passes h.holds in
    omega (arith, was, now)

-- one row is the first
has_first : (rows : List RowRecord) → length rows ≡ 1 → (row : RowRecord) × (slice_get rows 0 ≡ Some row)
has_first [] e = absurd (omega (arith, e))
has_first (row ∷ rows) e = (row, refl)

pub returns-clause-migrates_drift : goal.returns-clause-migrates_drift
returns-clause-migrates_drift c h =
    let first = has_first h.content.rows h.was.of_tokens in
    let none : first.0.drift ≡ pos 0 = h.was.undrifted 0 first.0 first.1 in
    let one : pos 1 ≡ first.0.drift = drift_row_is (pos 1) first.0.drift (h.holds.rows 0 first.0 first.1).drift in
    let e : pos 1 ≡ pos 0 = one ∙ none in
    absurd cc

pub returns-clause-migrates_node : goal.returns-clause-migrates_node
returns-clause-migrates_node c = λ boot h.
    let node = (own_row_is 2 2 0 boot 2 h.holds.node (length h.content.rows) h.content.boot h.holds.self).1 in
    let of_node : h.holds.node ≡ 1 = h.of_node in
    omega (arith, node, of_node)

pub returns-clause-migrates_floor : goal.returns-clause-migrates_floor
returns-clause-migrates_floor c = λ boot h.
    let rows : floor_row 7 (free_row 9) ∷ [] ≡ [] = h.floor in absurd cc

pub returns-clause-migrates_pass : goal.returns-clause-migrates_pass
returns-clause-migrates_pass c = λ boot h.
    let rows : pass_row 2 new_pass ∷ pass_row 1 old_pass ∷ [] ≡ pass_row 1 old_pass ∷ pass_row 2 new_pass ∷ [] = h.pass in absurd cc
