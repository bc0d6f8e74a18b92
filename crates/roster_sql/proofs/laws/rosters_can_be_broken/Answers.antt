-- The rows of a key are found, and their columns distinguish them.
use Rattle.std.proofs.Common.{◌≡◌, ℕ, zero, suc, List, [], ◌∷◌, Some, refl, ap, sym, ◌∙◌, subst, arith}
use Rattle.std.specs.Prelude.{codes}
use Rattle.sqlite.specs.Order.{Row}
use Rattle.sqlite_value.specs.Order.{value_cmp}
use Rattle.floor_sql.specs.Stored.{HasRow}
use Rattle.roster_sql.specs.Examples.{entry_of, small_bond, trees_with, two_rows}
use Rattle.roster_sql.specs.Roster.{BondRecord, HoldsBond, HoldsEntry, bond_columns, bond_row, bond_values, entry_columns, entry_row, entry_values}
use Rattle.roster_sql.proofs.laws.rosters_can_be_broken.Goals as goal

first_is : HoldsEntry (trees_with two_rows []) 0 (entry_of 1 2)
unfolding value_cmp lib.Ieee.is_nan lib.Ieee.lt
first_is = record { found = entry_row 0 (entry_of 1 2); place = refl; shows = refl }

second_is : HoldsEntry (trees_with two_rows []) 1 (entry_of 3 4)
unfolding value_cmp lib.Ieee.is_nan lib.Ieee.lt
second_is = record { found = entry_row 1 (entry_of 3 4); place = refl; shows = refl }

pub returns-clause-two : goal.returns-clause-two
returns-clause-two c zero entry got = let same : entry_of 1 2 ≡ entry = cc in subst (HoldsEntry (trees_with two_rows []) 0) same first_is
returns-clause-two c (suc zero) entry got = let same : entry_of 3 4 ≡ entry = cc in subst (HoldsEntry (trees_with two_rows []) 1) same second_is
returns-clause-two c (suc (suc token)) entry got = absurd (cc)

-- the columns of the row that is found are of one entry
one_entry : (token : ℕ) (row values other : Row) (rows : List Row) → HasRow rows token entry_columns values → HasRow rows token entry_columns other → values ≡ other
one_entry token row values other rows one two =
    let both : Some one.found ≡ Some two.found = sym one.place ∙ two.place in
    let found : one.found ≡ two.found = cc in
    sym one.shows ∙ ap entry_columns found ∙ two.shows

pub returns-clause-second_missing : goal.returns-clause-second_missing
unfolding value_cmp lib.Ieee.is_nan lib.Ieee.lt
returns-clause-second_missing c h = let place = (h 1 (entry_of 3 4) refl).place in absurd cc

pub returns-clause-second_of_another_name : goal.returns-clause-second_of_another_name
returns-clause-second_of_another_name c h =
    let same = one_entry 1 [] (entry_values 1 (entry_of 3 4)) (entry_values 1 (entry_of 5 4)) two_rows second_is (h 1 (entry_of 5 4) refl) in
    let names : ◌≡◌ {A = ℕ} 3 5 = cc in
    omega (arith, names)

pub returns-clause-first_of_another_seed : goal.returns-clause-first_of_another_seed
returns-clause-first_of_another_seed c h =
    let same = one_entry 0 [] (entry_values 0 (entry_of 1 2)) (entry_values 0 (entry_of 1 5)) two_rows first_is (h 0 (entry_of 1 5) refl) in
    let seeds : ◌≡◌ {A = ℕ} 2 5 = cc in
    omega (arith, seeds)

bond_is : HoldsBond (trees_with [] (bond_row small_bond ∷ [])) small_bond
unfolding value_cmp lib.Ieee.is_nan lib.Ieee.lt
bond_is = record { found = bond_row small_bond; place = refl; shows = refl }

pub returns-clause-bond : goal.returns-clause-bond
returns-clause-bond c = bond_is

pub returns-clause-no_bond : goal.returns-clause-no_bond
returns-clause-no_bond c h = let place = h.place in absurd cc

-- a row of `bond` is of one bond
one_bond : (other : BondRecord) → HoldsBond (trees_with [] (bond_row small_bond ∷ [])) other → bond_values small_bond ≡ bond_values other
one_bond other h =
    let both : Some bond_is.found ≡ Some h.found = sym bond_is.place ∙ h.place in
    let found : bond_is.found ≡ h.found = cc in
    sym bond_is.shows ∙ ap bond_columns found ∙ h.shows

pub returns-clause-another_word : goal.returns-clause-another_word
returns-clause-another_word c h =
    let same = one_bond (record small_bond { names = codes "another-word" }) h in
    let words : codes "a-public-word" ≡ codes "another-word" = cc in
    absurd cc

pub returns-clause-another_life : goal.returns-clause-another_life
returns-clause-another_life c h =
    let same = one_bond (record small_bond { life = codes "12" }) h in
    let lives : codes "1" ≡ codes "12" = cc in
    absurd cc

pub returns-clause-more_members : goal.returns-clause-more_members
returns-clause-more_members c h =
    let same = one_bond (record small_bond { members = 5 }) h in
    let members : ◌≡◌ {A = ℕ} 3 5 = cc in
    omega (arith, members)
