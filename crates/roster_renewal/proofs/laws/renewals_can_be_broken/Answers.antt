-- What new tables of one token hold.
use Rattle.std.proofs.Common.{◌≡◌, ◌<◌, ℕ, zero, suc, [], ◌∷◌, Some, refl, ap, subst, arith}
use Rattle.std.proofs.lemmas.List.Sorted.{IsPermutation-refl, length_permutation}
use Rattle.floor_store.specs.Content.{opening_row, with_row}
use Rattle.floor_store.specs.Examples.{old_pass}
use Rattle.floor_sql.specs.declared.put.Put.{Put}
use Rattle.floor_sql.proofs.BrokenLemmas.{count_of_none, one_row}
use Rattle.roster_sql.specs.Examples.{entry_of, first_content, one_token, other_bond, small_bond}
use Rattle.roster_sql.specs.Roster.{BondRecord, HoldsNamed}
use Rattle.roster_sql.proofs.ExampleLemmas.{bond_is, entry_is, first_entry, first_row, floor_is, one_bond, one_floor, one_holds, one_roster, one_self, self_is}
use Rattle.roster_renewal.specs.Examples.{one_pass, put_at}
use Rattle.roster_renewal.proofs.laws.renewals_can_be_broken.Goals as goal

pub returns-clause-opens : goal.returns-clause-opens
unfolding one_holds
returns-clause-opens c old = record { whole = one_holds; of_node = refl }

pub returns-clause-puts : goal.returns-clause-puts
unfolding one_holds
returns-clause-puts c old = record { whole = one_holds; of_node = refl }

-- the store with the pass
unfoldable pass_holds : HoldsNamed one_pass (with_row first_content 0 (opening_row 9) (Some old_pass)) (old_pass ∷ []) (entry_of 1 2 ∷ []) small_bond
pass_holds = record {
  schema = refl;
  holds = record {
    rows = one_row one_pass.trees (opening_row 9) (record { floor = first_row.floor; drift = first_row.drift });
    node = 1;
    self = one_self;
    pass = IsPermutation-refl _;
    last = refl;
  };
  roster = one_roster;
  counted = refl;
  bond = one_bond;
}

pub returns-clause-passes : goal.returns-clause-passes
unfolding pass_holds
returns-clause-passes c old = record { whole = pass_holds; of_node = refl }

pub returns-clause-another_node : goal.returns-clause-another_node
returns-clause-another_node c old h =
    let node = (self_is (one_token.trees 0) 3 1 1 4 3 h.whole.holds.node 1 4 one_self h.whole.holds.self).1 in
    let other = h.of_node in
    omega (arith, node, other)

pub returns-clause-another_boot : goal.returns-clause-another_boot
returns-clause-another_boot c old h =
    let boot = (self_is (one_token.trees 0) 3 1 1 4 3 h.whole.holds.node 1 0 one_self h.whole.holds.self).3 in
    omega (arith, boot)

pub returns-clause-another_floor : goal.returns-clause-another_floor
returns-clause-another_floor c old h =
    let floor = floor_is (one_token.trees 1) 0 9 5 one_floor (h.whole.holds.rows 0 _ refl).floor in
    omega (arith, floor)

pub returns-clause-put_is_missing : goal.returns-clause-put_is_missing
returns-clause-put_is_missing c old h =
    let floor = floor_is (one_token.trees 1) 0 9 5 one_floor (h.whole.holds.rows 0 _ refl).floor in
    omega (arith, floor)

pub returns-clause-puts_in_another_order : goal.returns-clause-puts_in_another_order
returns-clause-puts_in_another_order c old h =
    let floor = floor_is (one_token.trees 1) 0 9 5 one_floor (h.whole.holds.rows 0 _ refl).floor in
    omega (arith, floor)

pub returns-clause-pass_is_missing : goal.returns-clause-pass_is_missing
returns-clause-pass_is_missing c old h = let counted : ◌≡◌ {A = ℕ} 1 0 = count_of_none (old_pass ∷ []) h.whole.holds.pass in omega (arith, counted)

pub returns-clause-pass_of_no_put : goal.returns-clause-pass_of_no_put
returns-clause-pass_of_no_put c old h = let lengths : ◌≡◌ {A = ℕ} 1 0 = length_permutation _ _ h.whole.holds.pass in omega (arith, lengths)

pub returns-clause-no_entry : goal.returns-clause-no_entry
returns-clause-no_entry c old h = let counted : ◌≡◌ {A = ℕ} 0 1 = h.whole.counted in omega (arith, counted)

pub returns-clause-another_seed : goal.returns-clause-another_seed
returns-clause-another_seed c old h =
    let same : entry_of 1 2 ≡ entry_of 1 5 = entry_is (one_token.trees 4) 0 (entry_of 1 2) (entry_of 1 5) first_entry (h.whole.roster 0 (entry_of 1 5) refl) in
    let seeds : ◌≡◌ {A = ℕ} 2 5 = cc in
    omega (arith, seeds)

pub returns-clause-another_bond : goal.returns-clause-another_bond
returns-clause-another_bond c old h =
    let same : small_bond ≡ other_bond = bond_is (one_token.trees 5) small_bond other_bond one_bond h.whole.bond in
    let members : ◌≡◌ {A = ℕ} 3 5 = ap (λ (b : BondRecord). b.members) same in
    omega (arith, members)

pub returns-clause-put_of_a_row : goal.returns-clause-put_of_a_row
returns-clause-put_of_a_row c next zero put got = let same : put_at next ≡ put = cc in subst (λ (p : Put). p.token < 1) same (omega arith)
returns-clause-put_of_a_row c next (suc i) put got = absurd (cc)

pub returns-clause-put_of_no_row : goal.returns-clause-put_of_no_row
returns-clause-put_of_no_row c next h = let low = h 0 (put_at next) refl in omega (arith, low)
