-- The rows of databases distinguish them, and the values in a table are computed.
use Rattle.std.proofs.Common.{◌≡◌, ◌≢◌, inl, inr, ℕ, ◌+◌, zero, suc, true, false, List, [], ◌∷◌, length, replicate, refl, ap, sym, ◌∙◌, arith}
use Rattle.std.specs.Prelude.{pos}
use Rattle.std.proofs.lemmas.List.{length-replicate}
use Rattle.std.proofs.lemmas.List.Sorted.{IsPermutation-refl, length_permutation}
use Rattle.sqlite.specs.Effect.{Database}
use Rattle.sqlite.specs.Order.{Row}
use Rattle.sqlite.specs.Tree.{Trees}
use Rattle.sqlite_schema.specs.Names.{same_name}
use Rattle.sqlite_value.specs.Order.{value_cmp}
use Rattle.floor_store.specs.Content.{opening_row}
use Rattle.floor_store.specs.Examples.{free_row}
use Rattle.floor_store.specs.Records.{PassRecord}
use Rattle.floor_sql.specs.Broken.{small_content, small_db, tables_at, trees_of}
use Rattle.floor_sql.specs.declared.schema.Format.TheVariants.{Numbered}
use Rattle.floor_sql.specs.Stored.{Holds, drift_row, floor_row, pass_rows, self_row, version_row}
use Rattle.floor_sql.proofs.BrokenLemmas.{own_row_is, own_row_once}
use Rattle.floor_sql.proofs.laws.connections_can_be_broken.Goals as goal

-- the number of rows distinguishes small databases
abbrev rows_in : Database → ℕ
rows_in db = length (db.trees 0)

second_is_not_first : small_db 2 ≡ small_db 1 → ⊥
second_is_not_first e = let rows : 2 ≡ 1 = ap rows_in e in omega (arith, rows)

pub returns-clause-read_now : goal.returns-clause-read_now
returns-clause-read_now c h = second_is_not_first h.now

pub returns-clause-read_committed : goal.returns-clause-read_committed
returns-clause-read_committed c h = second_is_not_first h.committed

pub returns-clause-left_committed : goal.returns-clause-left_committed
returns-clause-left_committed c h = let rows : 1 ≡ 0 = ap rows_in (h.committed refl) in omega (arith, rows)

pub returns-clause-left_now : goal.returns-clause-left_now
returns-clause-left_now c h =
    elim (h.now refl) [
      | inl e ↦ second_is_not_first e
      | inr e ↦ let rows : 2 ≡ 0 = ap rows_in e in omega (arith, rows)
    ]

pub returns-clause-same_now : goal.returns-clause-same_now
returns-clause-same_now c h = second_is_not_first (h.now refl)

pub returns-clause-same_committed : goal.returns-clause-same_committed
returns-clause-same_committed c h = second_is_not_first (h.committed refl)

pub returns-clause-commits_committed : goal.returns-clause-commits_committed
returns-clause-commits_committed c h = second_is_not_first (sym h.committed)

pub returns-clause-commits_now : goal.returns-clause-commits_now
returns-clause-commits_now c h = second_is_not_first (sym h.now)

pub returns-clause-keeps_committed : goal.returns-clause-keeps_committed
returns-clause-keeps_committed c h = second_is_not_first (h.committed refl)

pub returns-clause-keeps_now : goal.returns-clause-keeps_now
returns-clause-keeps_now c h = second_is_not_first (h.now refl)

pub returns-clause-row : goal.returns-clause-row
unfolding value_cmp lib.Ieee.is_nan lib.Ieee.lt
returns-clause-row c = record { found = drift_row 5 (pos 3); place = refl; shows = refl }

pub returns-clause-one_row : goal.returns-clause-one_row
unfolding value_cmp lib.Ieee.is_nan lib.Ieee.lt
returns-clause-one_row c = record { found = drift_row 5 (pos 3); only = refl }

pub returns-clause-no_row : goal.returns-clause-no_row
unfolding value_cmp lib.Ieee.is_nan lib.Ieee.lt
returns-clause-no_row c h = let lengths : 0 ≡ 1 = ap (length {A = Row}) h.only in omega (arith, lengths)

pub returns-clause-two_rows : goal.returns-clause-two_rows
unfolding value_cmp lib.Ieee.is_nan lib.Ieee.lt
returns-clause-two_rows c h = let lengths : 2 ≡ 1 = ap (length {A = Row}) h.only in omega (arith, lengths)

pub returns-clause-holds_row : goal.returns-clause-holds_row
unfolding value_cmp lib.Ieee.is_nan lib.Ieee.lt
returns-clause-holds_row c = record {
  floor = record { found = floor_row 0 (free_row 9); place = refl; shows = refl };
  drift = record { found = drift_row 0 (pos 0); place = refl; shows = refl };
}

-- the tables of no token hold what they are made of
holds_at : (boot : ℕ) → Holds Numbered (tables_at boot []) (small_content boot) []
unfolding value_cmp lib.Ieee.is_nan lib.Ieee.lt
holds_at boot = record {
  rows = λ token row e. absurd cc;
  node = 1;
  self = record { found = self_row 1 0 boot; place = refl; shows = refl };
  pass = IsPermutation-refl [];
  last = refl;
}

pub returns-clause-holds : goal.returns-clause-holds
returns-clause-holds c = holds_at 4

pub returns-clause-holds_rows : goal.returns-clause-holds_rows
returns-clause-holds_rows c h = let place = (h.rows 0 (opening_row 9) refl).floor.place in absurd cc

pub returns-clause-holds_pass : goal.returns-clause-holds_pass
returns-clause-holds_pass c h = let lengths : 1 ≡ 0 = length_permutation _ _ h.pass in omega (arith, lengths)

pub returns-clause-tables : goal.returns-clause-tables
unfolding holds_at
returns-clause-tables c = record {
  schema = refl;
  passes = [];
  holds = holds_at 4;
  of_node = refl;
  of_tokens = refl;
  counted = refl;
}

pub returns-clause-named : goal.returns-clause-named
unfolding value_cmp lib.Ieee.is_nan lib.Ieee.lt
returns-clause-named c = record {
  schema = refl;
  passes = [];
  holds = record {
    rows = λ token row e. absurd cc;
    node = 1;
    self = record { found = version_row 3 1 0 4; place = refl; shows = refl };
    pass = IsPermutation-refl [];
    last = refl;
  };
  of_node = refl;
  of_tokens = refl;
  counted = refl;
}

pub returns-clause-named_version : goal.returns-clause-named_version
returns-clause-named_version c h = let version = (own_row_is 2 1 0 4 3 h.node 0 4 h.self).0 in omega (arith, version)

pub returns-clause-numbered_version : goal.returns-clause-numbered_version
returns-clause-numbered_version c h = let version = (own_row_is 3 1 0 4 2 h.node 0 4 h.self).0 in omega (arith, version)

-- there is one row for each pass
pass_rows_are : (number : ℕ) (passes : List PassRecord) → length (pass_rows number passes) ≡ length passes
pass_rows_are number [] = refl
pass_rows_are number (pass ∷ passes) = ap suc (pass_rows_are (suc number) passes)

pub returns-clause-tables_count : goal.returns-clause-tables_count
returns-clause-tables_count c h =
    let lengths : 0 ≡ length (pass_rows 1 h.passes) = length_permutation _ _ h.holds.pass in
    let same = pass_rows_are 1 h.passes in
    let counted : length h.passes ≡ 1 = h.counted in
    omega (arith, lengths, same, counted)

pub returns-clause-opens : goal.returns-clause-opens
unfolding holds_at
returns-clause-opens c = λ old. record { schema = refl; holds = holds_at 0; of_node = refl; one_self = own_row_once 2 1 0 0 }

pub returns-clause-opens_one : goal.returns-clause-opens_one
unfolding value_cmp lib.Ieee.is_nan lib.Ieee.lt
returns-clause-opens_one c = λ old h.
    let lengths : 2 ≡ 1 = ap (length {A = Row}) h.one_self.only in
    omega (arith, lengths)

-- the rows of `self` are no other table's
others_stay : (was now passes : List Row) (tree : ℕ) → tree ≢ 0
    → trees_of now [] passes [] tree ≡ trees_of was [] passes [] tree
others_stay was now passes zero differs = absurd (differs refl)
others_stay was now passes (suc tree) differs = refl

pub returns-clause-raises : goal.returns-clause-raises
unfolding value_cmp lib.Ieee.is_nan lib.Ieee.lt
returns-clause-raises c = record {
  schema = refl;
  was = (
    Numbered,
    record {
      schema = refl;
      node = 1;
      tokens = 0;
      boot = 4;
      held = record { found = self_row 1 0 4; place = refl; shows = refl };
    },
  );
  self = refl;
  others = others_stay (self_row 1 0 4 ∷ []) (self_row 1 0 5 ∷ []) [];
}

pub returns-clause-raises_others : goal.returns-clause-raises_others
returns-clause-raises_others c h =
    let lengths : 1 ≡ 0 = ap (length {A = Row}) (h.others 2 (λ e. omega (arith, e))) in
    omega (arith, lengths)

pub returns-clause-appended_pass : goal.returns-clause-appended_pass
returns-clause-appended_pass c h = let lengths : 0 ≡ 1 = length_permutation _ _ h.pass in omega (arith, lengths)

pub returns-clause-appended_others : goal.returns-clause-appended_others
returns-clause-appended_others c h = let rows = h.others 0 (λ e. omega (arith, e)) in absurd cc

pub returns-clause-may_commit : goal.returns-clause-may_commit
returns-clause-may_commit c = (small_db 2, refl, refl)

-- the trees of a small database determine its number of rows
rows_are : (rows count : ℕ) (db : Database) → db ≡ small_db count → (small_db rows).trees ≡ db.trees → rows ≡ count
rows_are rows count db is left =
    let same : replicate rows [] ≡ replicate count [] =
    ap (λ (trees : Trees). trees 0) left ∙ ap (λ (db : Database). db.trees 0) is in
    sym (length-replicate rows []) ∙ ap (λ (list : List Row). length list) same ∙ length-replicate count []

pub returns-clause-may_commit_trees : goal.returns-clause-may_commit_trees
returns-clause-may_commit_trees c = λ rows h. let e = rows_are (rows + 3) 2 h.0 h.1 h.2 in omega (arith, e)

pub returns-clause-foreign_other : goal.returns-clause-foreign_other
unfolding same_name
returns-clause-foreign_other c h = let own : true ≡ false = h.other in absurd cc
