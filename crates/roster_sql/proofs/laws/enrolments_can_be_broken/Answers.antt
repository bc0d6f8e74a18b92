-- What a store of one token holds after two tokens were enrolled.
use Rattle.std.proofs.Common.{◌≡◌, ℕ, pos, List, [], ◌∷◌, ◌++◌, refl, sym, ap, subst, ◌∙◌, arith}
use Rattle.sqlite_value.specs.Order.{value_cmp}
use Rattle.floor_store.specs.Content.{Content}
use Rattle.floor_store.specs.Records.{PassRecord}
use Rattle.floor_sql.specs.Stored.{HasRow, drift_columns, drift_values}
use Rattle.roster_sql.specs.Enrolled.{with_floors}
use Rattle.roster_sql.specs.Examples.{EnrolsTwo, entry_of, first_content, one_token, other_bond, other_entries, small_bond, three_entries, three_floors, three_tokens, two_drifts, two_rows}
use Rattle.roster_sql.specs.Roster.{BondRecord, HoldsNamed, bond_row, entry_columns, entry_row, entry_values}
use Rattle.roster_sql.specs.declared.entry.Entry.{Entry}
use Rattle.roster_sql.proofs.ExampleLemmas.{bond_at, bond_is, entry_is, floor_at_0, floor_at_2, floor_is, one_held, one_holds, one_self, self_at, self_is, three_holds}
use Rattle.roster_sql.proofs.laws.enrolments_can_be_broken.Goals as goal

abbrev pub Is : Content → List PassRecord → List Entry → BondRecord → Type 0
Is c passes former own = (now : HoldsNamed three_tokens (with_floors (5 ∷ 6 ∷ []) c) (passes ++ []) (former ++ entry_of 3 4 ∷ entry_of 5 6 ∷ []) own) × (now.holds.node ≡ 1)

pub returns-clause-two : goal.returns-clause-two
unfolding three_holds
returns-clause-two g = record {
  was = record { schema = refl; boot = 4; self = one_self };
  same = λ c passes former own held numbered.
      let it = one_held c passes former own held in
      let all : Is first_content [] (entry_of 1 2 ∷ []) small_bond = (three_holds, refl) in
      subst (λ (b : BondRecord). Is c passes former b) it.3
      (subst (λ (l : List Entry). Is c passes l small_bond) it.2
      (subst (λ (l : List PassRecord). Is c l (entry_of 1 2 ∷ []) small_bond) it.1
      (subst (λ (x : Content). Is x [] (entry_of 1 2 ∷ []) small_bond) it.0 all)));
}

pub returns-clause-another_node : goal.returns-clause-another_node
returns-clause-another_node c h =
    let node = (self_is (one_token.trees 0) 3 1 1 4 3 2 1 h.was.boot one_self h.was.self).1 in
    omega (arith, node)

pub returns-clause-another_number : goal.returns-clause-another_number
returns-clause-another_number c h =
    let tokens = (self_is (one_token.trees 0) 3 1 1 4 3 1 2 h.was.boot one_self h.was.self).2 in
    omega (arith, tokens)

pub returns-clause-first_floor_for_both : goal.returns-clause-first_floor_for_both
returns-clause-first_floor_for_both c h =
    let it = h.same first_content [] (entry_of 1 2 ∷ []) small_bond one_holds refl in
    let floor = floor_is (three_floors 9 5 5) 2 5 6 (floor_at_2 9 5 5) (it.0.holds.rows 2 _ refl).floor in
    omega (arith, floor)

pub returns-clause-former_floor_changed : goal.returns-clause-former_floor_changed
returns-clause-former_floor_changed c h =
    let it = h.same first_content [] (entry_of 1 2 ∷ []) small_bond one_holds refl in
    let floor = floor_is (three_floors 5 5 6) 0 5 9 (floor_at_0 5 5 6) (it.0.holds.rows 0 _ refl).floor in
    omega (arith, floor)

no_drift : HasRow two_drifts 2 drift_columns (drift_values 2 (pos 0)) → ⊥
unfolding value_cmp lib.Ieee.is_nan lib.Ieee.lt
no_drift h = let place = h.place in absurd cc

pub returns-clause-second_drift_missing : goal.returns-clause-second_drift_missing
returns-clause-second_drift_missing c h =
    let it = h.same first_content [] (entry_of 1 2 ∷ []) small_bond one_holds refl in
    no_drift (it.0.holds.rows 2 _ refl).drift

pub returns-clause-tokens_stay : goal.returns-clause-tokens_stay
returns-clause-tokens_stay c h =
    let it = h.same first_content [] (entry_of 1 2 ∷ []) small_bond one_holds refl in
    let tokens = (self_is _ 3 1 1 4 3 it.0.holds.node 3 4 (self_at 3 1 4) it.0.holds.self).2 in
    omega (arith, tokens)

pub returns-clause-another_boot : goal.returns-clause-another_boot
returns-clause-another_boot c h =
    let it = h.same first_content [] (entry_of 1 2 ∷ []) small_bond one_holds refl in
    let boot = (self_is _ 3 1 3 0 3 it.0.holds.node 3 4 (self_at 3 3 0) it.0.holds.self).3 in
    omega (arith, boot)

no_entry : HasRow two_rows 2 entry_columns (entry_values 2 (entry_of 5 6)) → ⊥
unfolding value_cmp lib.Ieee.is_nan lib.Ieee.lt
no_entry h = let place = h.place in absurd cc

pub returns-clause-second_entry_missing : goal.returns-clause-second_entry_missing
returns-clause-second_entry_missing c h =
    let it = h.same first_content [] (entry_of 1 2 ∷ []) small_bond one_holds refl in
    no_entry (it.0.roster 2 (entry_of 5 6) refl)

other_entry : HasRow other_entries 0 entry_columns (entry_values 0 (entry_of 1 7))
unfolding value_cmp lib.Ieee.is_nan lib.Ieee.lt
other_entry = record { found = entry_row 0 (entry_of 1 7); place = refl; shows = refl }

pub returns-clause-former_entry_changed : goal.returns-clause-former_entry_changed
returns-clause-former_entry_changed c h =
    let it = h.same first_content [] (entry_of 1 2 ∷ []) small_bond one_holds refl in
    let same : entry_of 1 7 ≡ entry_of 1 2 = entry_is other_entries 0 (entry_of 1 7) (entry_of 1 2) other_entry (it.0.roster 0 (entry_of 1 2) refl) in
    let seeds : ◌≡◌ {A = ℕ} 7 2 = cc in
    omega (arith, seeds)

pub returns-clause-another_bond : goal.returns-clause-another_bond
returns-clause-another_bond c h =
    let it = h.same first_content [] (entry_of 1 2 ∷ []) small_bond one_holds refl in
    let same : other_bond ≡ small_bond = bond_is (bond_row other_bond ∷ []) other_bond small_bond (bond_at other_bond) it.0.bond in
    let members : ◌≡◌ {A = ℕ} 5 3 = ap (λ (b : BondRecord). b.members) same in
    omega (arith, members)
