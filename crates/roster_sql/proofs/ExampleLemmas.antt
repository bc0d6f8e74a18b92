-- What the small stores hold: each row is computed.
use Rattle.std.proofs.Common.{◌≡◌, ℕ, zero, suc, pos, List, [], ◌∷◌, length, slice_get, Some, refl, ap, sym, ◌∙◌, subst, arith}
use Rattle.std.proofs.lemmas.List.Sorted.{IsPermutation-refl}
use Rattle.sqlite.specs.Order.{Row}
use Rattle.sqlite_value.specs.Order.{value_cmp}
use Rattle.floor_store.specs.Content.{Content, opening_row}
use Rattle.floor_store.specs.Records.{PassRecord}
use Rattle.floor_sql.specs.Stored.{HasRow, Holds, HoldsDrift, HoldsFloor, HoldsRow, HoldsRows, HoldsVersion, drift_columns, drift_row, drift_values, floor_columns, floor_row, floor_values, self_columns, version_row, version_values}
use Rattle.floor_sql.specs.declared.schema.Format.TheVariants.{Named}
use Rattle.floor_sql.proofs.BrokenLemmas.{count_of_none, one_row, own_row_has}
use Rattle.floor_sql.proofs.ContentLemmas.{one_content, one_shown}
use Rattle.floor_sql.proofs.ListLemmas.{only}
use Rattle.roster_sql.specs.Enrolled.{with_floors}
use Rattle.roster_sql.specs.Examples.{entry_of, first_content, one_token, self_of, small_bond, three_drifts, three_floors, three_tokens}
use Rattle.roster_sql.specs.Roster.{BondRecord, HoldsBond, HoldsEntry, HoldsNamed, HoldsRoster, bond_columns, bond_row, bond_values, entry_columns, entry_row, entry_values}
use Rattle.roster_sql.specs.declared.entry.Entry.{Entry}

-- ---- the store of one token

pub first_row : HoldsRow one_token.trees 0 (opening_row 9)
unfolding value_cmp lib.Ieee.is_nan lib.Ieee.lt
first_row = record {
  floor = record { found = floor_row 0 (opening_row 9); place = refl; shows = refl };
  drift = record { found = drift_row 0 (pos 0); place = refl; shows = refl };
}

pub one_floor : HoldsFloor one_token.trees 0 (opening_row 9)
one_floor = first_row.floor

pub first_entry : HoldsEntry one_token.trees 0 (entry_of 1 2)
unfolding value_cmp lib.Ieee.is_nan lib.Ieee.lt
first_entry = record { found = entry_row 0 (entry_of 1 2); place = refl; shows = refl }

pub one_self : HoldsVersion one_token.trees 3 1 1 4
unfolding value_cmp lib.Ieee.is_nan lib.Ieee.lt
one_self = record { found = self_of 1; place = refl; shows = refl }

pub one_bond : HoldsBond one_token.trees small_bond
unfolding value_cmp lib.Ieee.is_nan lib.Ieee.lt
one_bond = record { found = bond_row small_bond; place = refl; shows = refl }

pub one_roster : HoldsRoster one_token.trees (entry_of 1 2 ∷ [])
one_roster zero entry got = let same : entry_of 1 2 ≡ entry = cc in subst (HoldsEntry one_token.trees 0) same first_entry
one_roster (suc token) entry got = absurd cc

unfoldable pub one_holds : HoldsNamed one_token first_content [] (entry_of 1 2 ∷ []) small_bond
one_holds = record {
  schema = refl;
  holds = record {
    rows = one_row one_token.trees (opening_row 9) first_row;
    node = 1;
    self = one_self;
    pass = IsPermutation-refl [];
    last = refl;
  };
  roster = one_roster;
  counted = refl;
  bond = one_bond;
}

-- ---- tables of which one row is known

-- a row of `floor` has one floor
pub floor_is : (rows : List Row) (token m n : ℕ) → HasRow rows token floor_columns (floor_values token (opening_row m)) → HasRow rows token floor_columns (floor_values token (opening_row n)) → m ≡ n
floor_is rows token m n one two =
    let same : floor_values token (opening_row m) ≡ floor_values token (opening_row n) = one_shown rows token floor_columns _ _ one two in
    cc

-- a row of `self` has one version, node, number of tokens and boot
pub self_is : (rows : List Row) (v n t b w m u a : ℕ) → HasRow rows 1 self_columns (version_values v n t b) → HasRow rows 1 self_columns (version_values w m u a)
    → (v ≡ w) × (n ≡ m) × (t ≡ u) × (b ≡ a)
self_is rows v n t b w m u a one two =
    let same : version_values v n t b ≡ version_values w m u a = one_shown rows 1 self_columns _ _ one two in
    (cc, cc, cc, cc)

-- a row of `roster` has one entry
pub entry_is : (rows : List Row) (token : ℕ) (a b : Entry) → HasRow rows token entry_columns (entry_values token a) → HasRow rows token entry_columns (entry_values token b) → a ≡ b
entry_is rows token a b one two =
    let same : entry_values token a ≡ entry_values token b = one_shown rows token entry_columns _ _ one two in
    let name : a.name ≡ b.name = cc in
    let seed : a.seed ≡ b.seed = cc in
    λ i. record { name = name i; seed = seed i }

-- a row of `bond` has one bond
pub bond_is : (rows : List Row) (a b : BondRecord) → HasRow rows 1 bond_columns (bond_values a) → HasRow rows 1 bond_columns (bond_values b) → a ≡ b
bond_is rows a b one two =
    let same : bond_values a ≡ bond_values b = one_shown rows 1 bond_columns _ _ one two in
    let names : a.names ≡ b.names = cc in
    let life : a.life ≡ b.life = cc in
    let members : a.members ≡ b.members = cc in
    λ i. record { names = names i; life = life i; members = members i }

none_listed : {X : Type 0} (xs : List X) → length xs ≡ 0 → [] ≡ xs
none_listed [] len = refl
none_listed (x ∷ xs) len = absurd (omega arith)

-- the store of one token holds nothing else
pub one_held : (c : Content) (passes : List PassRecord) (former : List Entry) (own : BondRecord) → HoldsNamed one_token c passes former own
    → (first_content ≡ c) × ([] ≡ passes) × (entry_of 1 2 ∷ [] ≡ former) × (small_bond ≡ own)
one_held c passes former own held =
    let content : first_content ≡ c = one_content Named Named one_token.trees first_content c [] passes one_holds.holds held.holds in
    let counted : length former ≡ 1 = held.counted ∙ ap (λ (x : Content). length x.rows) (sym content) in
    let it = only former counted in
    let there : HoldsEntry one_token.trees 0 it.0 = held.roster 0 it.0 (ap (λ (l : List Entry). slice_get l 0) it.1) in
    let entry : entry_of 1 2 ≡ it.0 = entry_is (one_token.trees 4) 0 (entry_of 1 2) it.0 first_entry there in
    (content, none_listed passes (count_of_none passes held.holds.pass), ap (λ (e : Entry). e ∷ []) entry ∙ sym it.1, bond_is (one_token.trees 5) small_bond own one_bond held.bond)

-- ---- the store of three tokens

row_in : (token next : ℕ) → HasRow (three_floors 9 5 6) token floor_columns (floor_values token (opening_row next)) → HasRow three_drifts token drift_columns (drift_values token (pos 0)) → HoldsRow three_tokens.trees token (opening_row next)
row_in token next floor drift = record { floor = floor; drift = drift }

pub floor_at_0 : (a b c : ℕ) → HasRow (three_floors a b c) 0 floor_columns (floor_values 0 (opening_row a))
unfolding value_cmp lib.Ieee.is_nan lib.Ieee.lt
floor_at_0 a b c = record { found = floor_row 0 (opening_row a); place = refl; shows = refl }

floor_at_1 : (a b c : ℕ) → HasRow (three_floors a b c) 1 floor_columns (floor_values 1 (opening_row b))
unfolding value_cmp lib.Ieee.is_nan lib.Ieee.lt
floor_at_1 a b c = record { found = floor_row 1 (opening_row b); place = refl; shows = refl }

pub floor_at_2 : (a b c : ℕ) → HasRow (three_floors a b c) 2 floor_columns (floor_values 2 (opening_row c))
unfolding value_cmp lib.Ieee.is_nan lib.Ieee.lt
floor_at_2 a b c = record { found = floor_row 2 (opening_row c); place = refl; shows = refl }

drift_at_0 : HasRow three_drifts 0 drift_columns (drift_values 0 (pos 0))
unfolding value_cmp lib.Ieee.is_nan lib.Ieee.lt
drift_at_0 = record { found = drift_row 0 (pos 0); place = refl; shows = refl }

drift_at_1 : HasRow three_drifts 1 drift_columns (drift_values 1 (pos 0))
unfolding value_cmp lib.Ieee.is_nan lib.Ieee.lt
drift_at_1 = record { found = drift_row 1 (pos 0); place = refl; shows = refl }

drift_at_2 : HasRow three_drifts 2 drift_columns (drift_values 2 (pos 0))
unfolding value_cmp lib.Ieee.is_nan lib.Ieee.lt
drift_at_2 = record { found = drift_row 2 (pos 0); place = refl; shows = refl }

pub three_rows : HoldsRows three_tokens.trees (opening_row 9 ∷ opening_row 5 ∷ opening_row 6 ∷ [])
three_rows zero row got = let same : opening_row 9 ≡ row = cc in subst (HoldsRow three_tokens.trees 0) same (row_in 0 9 (floor_at_0 9 5 6) drift_at_0)
three_rows (suc zero) row got = let same : opening_row 5 ≡ row = cc in subst (HoldsRow three_tokens.trees 1) same (row_in 1 5 (floor_at_1 9 5 6) drift_at_1)
three_rows (suc (suc zero)) row got = let same : opening_row 6 ≡ row = cc in subst (HoldsRow three_tokens.trees 2) same (row_in 2 6 (floor_at_2 9 5 6) drift_at_2)
three_rows (suc (suc (suc token))) row got = absurd cc

entry_at_0 : HoldsEntry three_tokens.trees 0 (entry_of 1 2)
unfolding value_cmp lib.Ieee.is_nan lib.Ieee.lt
entry_at_0 = record { found = entry_row 0 (entry_of 1 2); place = refl; shows = refl }

entry_at_1 : HoldsEntry three_tokens.trees 1 (entry_of 3 4)
unfolding value_cmp lib.Ieee.is_nan lib.Ieee.lt
entry_at_1 = record { found = entry_row 1 (entry_of 3 4); place = refl; shows = refl }

entry_at_2 : HoldsEntry three_tokens.trees 2 (entry_of 5 6)
unfolding value_cmp lib.Ieee.is_nan lib.Ieee.lt
entry_at_2 = record { found = entry_row 2 (entry_of 5 6); place = refl; shows = refl }

pub three_roster : HoldsRoster three_tokens.trees (entry_of 1 2 ∷ entry_of 3 4 ∷ entry_of 5 6 ∷ [])
three_roster zero entry got = let same : entry_of 1 2 ≡ entry = cc in subst (HoldsEntry three_tokens.trees 0) same entry_at_0
three_roster (suc zero) entry got = let same : entry_of 3 4 ≡ entry = cc in subst (HoldsEntry three_tokens.trees 1) same entry_at_1
three_roster (suc (suc zero)) entry got = let same : entry_of 5 6 ≡ entry = cc in subst (HoldsEntry three_tokens.trees 2) same entry_at_2
three_roster (suc (suc (suc token))) entry got = absurd cc

pub self_at : (version tokens boot : ℕ) → HasRow (version_row version 1 tokens boot ∷ []) 1 self_columns (version_values version 1 tokens boot)
self_at version tokens boot = own_row_has version 1 tokens boot

pub bond_at : (own : BondRecord) → HasRow (bond_row own ∷ []) 1 bond_columns (bond_values own)
unfolding value_cmp lib.Ieee.is_nan lib.Ieee.lt
bond_at own = record { found = bond_row own; place = refl; shows = refl }

unfoldable pub three_holds : HoldsNamed three_tokens (with_floors (5 ∷ 6 ∷ []) first_content) [] (entry_of 1 2 ∷ entry_of 3 4 ∷ entry_of 5 6 ∷ []) small_bond
three_holds = record {
  schema = refl;
  holds = record {
    rows = three_rows;
    node = 1;
    self = self_at 3 3 4;
    pass = IsPermutation-refl [];
    last = refl;
  };
  roster = three_roster;
  counted = refl;
  bond = bond_at small_bond;
}
