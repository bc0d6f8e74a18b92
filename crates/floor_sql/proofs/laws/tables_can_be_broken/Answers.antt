-- The values in a table are computed.
use Rattle.std.proofs.Common.{◌≡◌, ◌+◌, ◌<◌, ◌≤◌, ℕ, zero, suc, List, [], ◌∷◌, length, map, refl, ap, sym, ◌∙◌, subst, arith}
use Rattle.std.specs.Prelude.{ℤ, pos, slice_get}
use Rattle.std.specs.List.Sorted.{IsPermutation}
use Rattle.std.proofs.lemmas.Int.{ints}
use Rattle.std.proofs.lemmas.List.{length-map}
use Rattle.std.proofs.lemmas.List.Sorted.{IsPermutation-refl, length_permutation}
use Rattle.sqlite.specs.declared.types.Value.TheVariants.{Int, Null}
use Rattle.sqlite.specs.Order.{Row}
use Rattle.sqlite.specs.Tree.{Trees}
use Rattle.sqlite.proofs.Callers.{one_permutation}
use Rattle.sqlite_value.specs.Order.{value_cmp}
use Rattle.otp_core.specs.Range.{IsDrift}
use Rattle.floor_store.specs.Range.{IsCount}
use Rattle.floor_store.specs.Examples.{free_row, old_pass}
use Rattle.floor_store.specs.Records.{PassRecord, RowRecord}
use Rattle.floor_sql.specs.Broken.{old_db_at, old_db_of, old_token_db, tables_at, token_db, trees_of, named_db}
use Rattle.floor_sql.specs.Stored.{drift_columns, drift_row, drift_values, floor_columns, floor_row, floor_values, node_in, pass_columns, pass_row, pass_rows, pass_values, self_columns, self_row, version_in, version_values, version_row}
use Rattle.floor_sql.specs.Usable.{HasOnly, HasUsableVersion, IsNode, HasUsableFloor, HasUsableDrift, HasUsablePasses, HasUsableRow, AreAudit, IsAudit, IsRow}
use Rattle.floor_sql.proofs.PassLemmas.{length_rows, same_passes}
use Rattle.floor_sql.proofs.laws.tables_can_be_broken.Goals as goal

-- one row is found once
pub returns-clause-only : goal.returns-clause-only
unfolding value_cmp lib.Ieee.is_nan lib.Ieee.lt
returns-clause-only c = record { found = drift_row 5 (pos 3); only = refl; shows = refl }

pub returns-clause-only_two : goal.returns-clause-only_two
unfolding value_cmp lib.Ieee.is_nan lib.Ieee.lt
returns-clause-only_two c h = let lengths : 2 ≡ 1 = ap (length {A = Row}) h.only in omega (arith, lengths)

pub returns-clause-only_shows : goal.returns-clause-only_shows
unfolding value_cmp lib.Ieee.is_nan lib.Ieee.lt
returns-clause-only_shows c = λ steps h.
    let one : drift_row 5 (pos steps) ∷ [] ≡ h.found ∷ [] = h.only in
    let found : drift_row 5 (pos steps) ≡ h.found = cc in
    let values : drift_columns h.found ≡ drift_values 5 (pos (steps + 1)) = h.shows in
    let shows : drift_values 5 (pos steps) ≡ drift_values 5 (pos (steps + 1)) = ap drift_columns found ∙ values in
    let e : steps ≡ steps + 1 = cc in
    omega (arith, e)

-- ---- the row of `self`

-- the row of `self` has its columns
self_has : (version node tokens boot : ℕ)
    → HasOnly (version_row version node tokens boot ∷ []) 1 self_columns (version_values version node tokens boot)
unfolding value_cmp lib.Ieee.is_nan lib.Ieee.lt
self_has version node tokens boot = record { found = version_row version node tokens boot; only = refl; shows = refl }

-- and no others
self_is : (version node tokens boot v n t b : ℕ)
    → HasOnly (version_row version node tokens boot ∷ []) 1 self_columns (version_values v n t b)
    → (version ≡ v) × (node ≡ n) × (tokens ≡ t) × (boot ≡ b)
unfolding value_cmp lib.Ieee.is_nan lib.Ieee.lt
self_is version node tokens boot v n t b h =
    let one : version_row version node tokens boot ∷ [] ≡ h.found ∷ [] = h.only in
    let found : version_row version node tokens boot ≡ h.found = cc in
    let shows : version_values version node tokens boot ≡ version_values v n t b = ap self_columns found ∙ h.shows in
    (cc, cc, cc, cc)

pub returns-clause-names : goal.returns-clause-names
unfolding value_cmp lib.Ieee.is_nan lib.Ieee.lt
returns-clause-names c = record {
  schema = refl;
  found = self_row 1 0 4;
  only = refl;
  keyed = refl;
  version = refl;
  node = 1;
  of_node = refl;
  range = record { first = omega arith; last = omega arith };
}

pub returns-clause-names_twice : goal.returns-clause-names_twice
unfolding value_cmp lib.Ieee.is_nan lib.Ieee.lt
returns-clause-names_twice c h = let lengths : 2 ≡ 1 = ap (length {A = Row}) h.only in omega (arith, lengths)

pub returns-clause-names_at_version_1 : goal.returns-clause-names_at_version_1
unfolding value_cmp lib.Ieee.is_nan lib.Ieee.lt
returns-clause-names_at_version_1 c = λ boot h.
    let one : version_row 1 1 0 boot ∷ [] ≡ h.found ∷ [] = h.only in
    let found : version_row 1 1 0 boot ≡ h.found = cc in
    let is : version_in h.found ≡ Int (pos 2) = h.version in
    let version : Int (pos 1) ≡ Int (pos 2) = ap version_in found ∙ is in
    absurd cc

pub returns-clause-names_no_number : goal.returns-clause-names_no_number
unfolding value_cmp lib.Ieee.is_nan lib.Ieee.lt
returns-clause-names_no_number c = λ boot h.
    let row : Row = Int (pos 1) ∷ Null ∷ Int (pos 2) ∷ Null ∷ Int (pos 0) ∷ Int (pos boot) ∷ [] in
    let one : row ∷ [] ≡ h.found ∷ [] = h.only in
    let found : row ≡ h.found = cc in
    let is : node_in h.found ≡ Int (pos h.node) = h.of_node in
    let node : Null ≡ Int (pos h.node) = ap node_in found ∙ is in
    absurd cc

pub returns-clause-names_node_10 : goal.returns-clause-names_node_10
unfolding value_cmp lib.Ieee.is_nan lib.Ieee.lt
returns-clause-names_node_10 c = λ boot h.
    let one : self_row 10 0 boot ∷ [] ≡ h.found ∷ [] = h.only in
    let found : self_row 10 0 boot ≡ h.found = cc in
    let node : Int (pos 10) ≡ Int (pos h.node) = ap node_in found ∙ h.of_node in
    let same : 10 ≡ h.node = cc in
    let range : IsNode h.node = h.range in
    let last = range.last in
    omega (arith, same, last)

pub returns-clause-of_node : goal.returns-clause-of_node
unfolding value_cmp lib.Ieee.is_nan lib.Ieee.lt
returns-clause-of_node c = record { schema = refl; found = self_row 1 0 4; place = refl; version = refl; of_node = refl }

pub returns-clause-version : goal.returns-clause-version
returns-clause-version c = record { boot = 4611686018427387903; range = omega arith; only = self_has 2 1 0 4611686018427387903 }

pub returns-clause-version_boot : goal.returns-clause-version_boot
returns-clause-version_boot c = λ more h.
    let boot = (self_is 2 1 0 (more + 4611686018427387904) 2 1 0 h.boot h.only).3 in
    let range : IsCount h.boot = h.range in
    omega (arith, boot, range)

pub returns-clause-version_1 : goal.returns-clause-version_1
returns-clause-version_1 c = λ boot h. let e = (self_is 2 1 0 boot 1 1 0 h.boot h.only).0 in omega (arith, e)

pub returns-clause-version_of_node_2 : goal.returns-clause-version_of_node_2
returns-clause-version_of_node_2 c = λ boot h. let e = (self_is 2 1 0 boot 2 2 0 h.boot h.only).1 in omega (arith, e)

pub returns-clause-version_of_a_token : goal.returns-clause-version_of_a_token
returns-clause-version_of_a_token c = λ boot h. let e = (self_is 2 1 0 boot 2 1 1 h.boot h.only).2 in omega (arith, e)

pub returns-clause-own_row : goal.returns-clause-own_row
returns-clause-own_row c = record {
  node = 9;
  of_node = record { first = omega arith; last = omega arith };
  tokens = 10000;
  of_tokens = omega arith;
  self = record { boot = 4; range = omega arith; only = self_has 2 9 10000 4 };
}

pub returns-clause-own_row_named : goal.returns-clause-own_row_named
returns-clause-own_row_named c = record {
  node = 9;
  of_node = record { first = omega arith; last = omega arith };
  tokens = 65536;
  of_tokens = omega arith;
  self = record { boot = 4; range = omega arith; only = self_has 3 9 65536 4 };
}

pub returns-clause-own_row_of_node : goal.returns-clause-own_row_of_node
returns-clause-own_row_of_node c = λ boot h.
    let node = (self_is 2 10 0 boot 2 h.node h.tokens h.self.boot h.self.only).1 in
    let of_node : IsNode h.node = h.of_node in
    let last = of_node.last in
    omega (arith, node, last)

pub returns-clause-own_row_of_tokens : goal.returns-clause-own_row_of_tokens
returns-clause-own_row_of_tokens c = λ boot h.
    let tokens = (self_is 2 1 10001 boot 2 h.node h.tokens h.self.boot h.self.only).2 in
    let range : h.tokens ≤ 10000 = h.of_tokens in
    omega (arith, tokens, range)

pub returns-clause-own_row_of_many : goal.returns-clause-own_row_of_many
returns-clause-own_row_of_many c = λ boot h.
    let tokens = (self_is 3 1 65537 boot 3 h.node h.tokens h.self.boot h.self.only).2 in
    let range : h.tokens ≤ 65536 = h.of_tokens in
    omega (arith, tokens, range)

pub returns-clause-own_row_version : goal.returns-clause-own_row_version
returns-clause-own_row_version c = λ boot h.
    let self : HasUsableVersion (tables_at boot []) 1 h.node h.tokens = h.self in
    let e = (self_is 2 1 0 boot 1 h.node h.tokens self.boot self.only).0 in
    omega (arith, e)

-- ---- the rows of a token

-- the row of a free factor
floor_has : (next : ℕ) → HasOnly (floor_row 0 (free_row next) ∷ []) 0 floor_columns (floor_values 0 (free_row next))
unfolding value_cmp lib.Ieee.is_nan lib.Ieee.lt
floor_has next = record { found = floor_row 0 (free_row next); only = refl; shows = refl }

floor_is : (next : ℕ) (row : RowRecord) → HasOnly (floor_row 0 (free_row next) ∷ []) 0 floor_columns (floor_values 0 row) → next ≡ row.next
unfolding value_cmp lib.Ieee.is_nan lib.Ieee.lt
floor_is next row h =
    let one : floor_row 0 (free_row next) ∷ [] ≡ h.found ∷ [] = h.only in
    let found : floor_row 0 (free_row next) ≡ h.found = cc in
    let shows : floor_values 0 (free_row next) ≡ floor_values 0 row = ap floor_columns found ∙ h.shows in
    cc

-- the row of a drift
drift_has : (steps : ℤ) → HasOnly (drift_row 0 steps ∷ []) 0 drift_columns (drift_values 0 steps)
unfolding value_cmp lib.Ieee.is_nan lib.Ieee.lt
drift_has steps = record { found = drift_row 0 steps; only = refl; shows = refl }

drift_is : (steps other : ℤ) → HasOnly (drift_row 0 steps ∷ []) 0 drift_columns (drift_values 0 other) → steps ≡ other
unfolding value_cmp lib.Ieee.is_nan lib.Ieee.lt
drift_is steps other h =
    let one : drift_row 0 steps ∷ [] ≡ h.found ∷ [] = h.only in
    let found : drift_row 0 steps ≡ h.found = cc in
    let shows : drift_values 0 steps ≡ drift_values 0 other = ap drift_columns found ∙ h.shows in
    cc

-- the values of a free factor are in range
free_range : IsRow (free_row 9)
free_range = record { next = omega arith; grant = λ grant e. absurd cc; gate = (omega arith, omega arith) }

-- the token of the small tables
usable_floor : HasUsableFloor token_db.trees 0
usable_floor = record {
  row = free_row 9;
  range = free_range;
  only = floor_has 9;
}

usable_drift : HasUsableDrift token_db.trees 0
usable_drift = record { steps = pos 0; range = search; only = drift_has (pos 0) }

pub returns-clause-floor : goal.returns-clause-floor
returns-clause-floor c = usable_floor

pub returns-clause-floor_range : goal.returns-clause-floor_range
returns-clause-floor_range c = λ more h.
    let next = floor_is (more + 4611686018427387905) h.row h.only in
    let range : IsRow h.row = h.range in
    let most = range.next in
    omega (arith, next, most)

pub returns-clause-drift : goal.returns-clause-drift
returns-clause-drift c = usable_drift

pub returns-clause-drift_range : goal.returns-clause-drift_range
returns-clause-drift_range c = λ rows h.
    let steps : pos 11 ≡ h.steps = drift_is (pos 11) h.steps h.only in
    let range = (subst IsDrift (sym steps) h.range).1 in
    omega (arith, ints)

pub returns-clause-token : goal.returns-clause-token
returns-clause-token c = record { floor = usable_floor; drift = usable_drift }

-- ---- the passes

-- the one pass is in range
one_audit : (most : ℕ) (pass : PassRecord) → IsAudit most pass → AreAudit most (pass ∷ [])
one_audit most pass is zero other e = let same : pass ≡ other = cc in subst (IsAudit most) same is
one_audit most pass is (suc place) other e = absurd cc

-- the one pass is usable if its token is below the number of tokens
pass_usable : (trees : Trees) (token most : ℕ) → trees 2 ≡ pass_row 1 (record old_pass { token = token }) ∷ [] → token < most → token < 65536
    → HasUsablePasses trees most
pass_usable trees token most held low below =
    let pass : PassRecord = record old_pass { token = token } in
    record {
      passes = pass ∷ [];
      ranges = one_audit most pass (record {
        whole = record { token = below; boot = omega arith; seq = omega arith };
        token = low;
        span = record { lo = omega arith; hi = omega arith; spanned = record { ordered = omega arith; short = omega arith } };
      });
      room = omega arith;
      holds = subst (λ (rows : List Row). IsPermutation (pass_values 1 pass ∷ []) (map pass_columns rows)) (sym held) (IsPermutation-refl (pass_values 1 pass ∷ []));
    }

-- and not beyond the number of tokens
pass_of_many : (trees : Trees) (token most : ℕ) → trees 2 ≡ pass_row 1 (record old_pass { token = token }) ∷ [] → most ≤ token
    → HasUsablePasses trees most → ⊥
pass_of_many trees token most held many h =
    let bad : PassRecord = record old_pass { token = token } in
    let one : IsPermutation (pass_values 1 bad ∷ []) (map pass_columns (trees 2)) =
    subst (λ (rows : List Row). IsPermutation (pass_values 1 bad ∷ []) (map pass_columns rows)) (sym held) (IsPermutation-refl (pass_values 1 bad ∷ [])) in
    let passes : h.passes ≡ bad ∷ [] = same_passes trees h.passes (bad ∷ []) h.holds one in
    let ranges : AreAudit most h.passes = h.ranges in
    let audit : IsAudit most bad = ranges 0 bad (ap (λ (all : List PassRecord). slice_get all 0) passes) in
    let low : token < most = audit.token in
    omega (arith, low, many)

pub returns-clause-passes : goal.returns-clause-passes
returns-clause-passes c = pass_usable _ 9999 10000 refl (omega arith) (omega arith)

pub returns-clause-passes_range : goal.returns-clause-passes_range
returns-clause-passes_range c = λ boot h. pass_of_many _ 10000 10000 refl (omega arith) h

pub returns-clause-passes_room : goal.returns-clause-passes_room
returns-clause-passes_room c = λ rows many h.
    let lengths : length (map pass_columns rows) ≡ length (pass_rows 1 h.passes) = length_permutation _ _ h.holds in
    let passes = length_rows 1 h.passes in
    let all : length (map pass_columns rows) ≡ length rows = length-map rows pass_columns in
    let room : length h.passes ≤ 4611686018427387904 = h.room in
    omega (arith, many, lengths, passes, all, room)

-- passes have the numbers from 1 on
numbered : (passes : List PassRecord) → IsPermutation (pass_rows 1 passes) (pass_values 2 old_pass ∷ []) → ⊥
numbered [] h = let lengths : 1 ≡ 0 = length_permutation _ _ h in omega (arith, lengths)
numbered (pass ∷ []) h =
    let same : pass_values 2 old_pass ∷ [] ≡ pass_values 1 pass ∷ [] = one_permutation (pass_values 1 pass) _ h in absurd cc
numbered (pass ∷ next ∷ passes) h =
    let lengths : 1 ≡ suc (suc (length (pass_rows 3 passes))) = length_permutation _ _ h in omega (arith, lengths)

pub returns-clause-passes_numbers : goal.returns-clause-passes_numbers
returns-clause-passes_numbers c = λ boot h. numbered h.passes h.holds

-- ---- a whole store

-- no pass
no_passes : (trees : Trees) (most : ℕ) → trees 2 ≡ [] → HasUsablePasses trees most
no_passes trees most none = record {
  passes = [];
  ranges = λ place pass e. absurd cc;
  room = omega arith;
  holds = subst (λ (rows : List Row). IsPermutation [] (map pass_columns rows)) (sym none) (IsPermutation-refl []);
}

pub returns-clause-usable : goal.returns-clause-usable
returns-clause-usable c = record {
  schema = refl;
  of_node = record { first = omega arith; last = omega arith };
  few = omega arith;
  self = record { boot = 4; range = omega arith; only = self_has 2 1 1 4 };
  rows = λ token low. let first : token ≡ 0 = omega (arith, low) in
      subst (HasUsableRow token_db.trees) (sym first) (record { floor = usable_floor; drift = usable_drift });
  passes = no_passes token_db.trees 10000 refl;
}

pub returns-clause-usable_few : goal.returns-clause-usable_few
returns-clause-usable_few c = λ floors drifts h. let few : 10001 ≤ 10000 = h.few in omega (arith, few)

pub returns-clause-usable_self : goal.returns-clause-usable_self
returns-clause-usable_self c = λ boot h.
    let self : HasUsableVersion (tables_at boot []) 2 2 0 = h.self in
    let e = (self_is 2 1 0 boot 2 2 0 self.boot self.only).1 in
    omega (arith, e)

pub returns-clause-usable_rows : goal.returns-clause-usable_rows
returns-clause-usable_rows c = λ boot h.
    let rows : (token : ℕ) → token < 1 → HasUsableRow (trees_of (self_row 1 1 boot ∷ []) [] [] []) token = h.rows in
    let only = (rows 0 (omega arith)).floor.only.only in
    absurd cc

pub returns-clause-usable_named : goal.returns-clause-usable_named
returns-clause-usable_named c = record {
  schema = refl;
  of_node = record { first = omega arith; last = omega arith };
  few = omega arith;
  self = record { boot = 4; range = omega arith; only = self_has 3 1 0 4 };
  rows = λ token low. absurd (omega (arith, low));
  passes = no_passes named_db.trees 65536 refl;
}

pub returns-clause-usable_named_pass : goal.returns-clause-usable_named_pass
returns-clause-usable_named_pass c = record {
  schema = refl;
  of_node = record { first = omega arith; last = omega arith };
  few = omega arith;
  self = record { boot = 4; range = omega arith; only = self_has 3 1 0 4 };
  rows = λ token low. absurd (omega (arith, low));
  passes = pass_usable _ 65535 65536 refl (omega arith) (omega arith);
}

pub returns-clause-usable_named_few : goal.returns-clause-usable_named_few
returns-clause-usable_named_few c = λ floors drifts h. let few : 65537 ≤ 65536 = h.few in omega (arith, few)

pub returns-clause-usable_version : goal.returns-clause-usable_version
returns-clause-usable_version c = λ boot h.
    let self : HasUsableVersion (tables_at boot []) 3 1 0 = h.self in
    let e = (self_is 2 1 0 boot 3 1 0 self.boot self.only).0 in
    omega (arith, e)

pub returns-clause-usable_pass_of_many : goal.returns-clause-usable_pass_of_many
returns-clause-usable_pass_of_many c = λ boot h. pass_of_many _ 10000 10000 refl (omega arith) h.passes

pub returns-clause-usable_passes : goal.returns-clause-usable_passes
returns-clause-usable_passes c = λ boot h.
    let passes : HasUsablePasses (tables_at boot (pass_row 2 old_pass ∷ [])) 10000 = h.passes in numbered passes.passes passes.holds

pub returns-clause-old_usable : goal.returns-clause-old_usable
returns-clause-old_usable c = record {
  schema = refl;
  of_node = record { first = omega arith; last = omega arith };
  self = record { boot = 4; range = omega arith; only = self_has 1 1 1 4 };
  floors = λ token low. let first : token ≡ 0 = omega (arith, low) in
      subst (HasUsableFloor old_token_db.trees) (sym first) (record {
        row = free_row 9;
        range = free_range;
        only = floor_has 9;
      });
  passes = no_passes old_token_db.trees 10000 refl;
}

pub returns-clause-old_usable_self : goal.returns-clause-old_usable_self
returns-clause-old_usable_self c = λ boot h.
    let self : HasUsableVersion (old_db_at boot []).trees 1 2 0 = h.self in
    let e = (self_is 1 1 0 boot 1 2 0 self.boot self.only).1 in
    omega (arith, e)

pub returns-clause-old_usable_floors : goal.returns-clause-old_usable_floors
returns-clause-old_usable_floors c = λ boot h.
    let floors : (token : ℕ) → token < 1 → HasUsableFloor (old_db_of (version_row 1 1 1 boot ∷ []) [] []).trees token = h.floors in
    let only = (floors 0 (omega arith)).only.only in
    absurd cc

pub returns-clause-old_usable_pass_of_many : goal.returns-clause-old_usable_pass_of_many
returns-clause-old_usable_pass_of_many c = λ boot h. pass_of_many _ 10000 10000 refl (omega arith) h.passes

pub returns-clause-old_usable_passes : goal.returns-clause-old_usable_passes
returns-clause-old_usable_passes c = λ boot h.
    let passes : HasUsablePasses (old_db_at boot (pass_row 2 old_pass ∷ [])).trees 10000 = h.passes in
    numbered passes.passes passes.holds
