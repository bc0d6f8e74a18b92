-- What a new store of one token holds.
use Rattle.std.proofs.Common.{◌≡◌, ℕ, length, refl, sym, ap, subst, ◌∙◌, arith}
use Rattle.floor_sql.specs.Stored.{HoldsVersion}
use Rattle.roster_sql.specs.Examples.{one_token, other_bond, small_bond}
use Rattle.roster_sql.specs.Roster.{BondRecord}
use Rattle.roster_sql.proofs.ExampleLemmas.{bond_is, floor_is, one_bond, one_floor, one_holds, one_self, self_is}
use Rattle.roster_sql.proofs.laws.openings_can_be_broken.Goals as goal

pub returns-clause-opens : goal.returns-clause-opens
unfolding one_holds
returns-clause-opens c old = record { whole = one_holds; of_node = refl }

pub returns-clause-another_node : goal.returns-clause-another_node
returns-clause-another_node c old h =
    let node = (self_is (one_token.trees 0) 3 1 1 4 3 h.whole.holds.node 1 4 one_self h.whole.holds.self).1 in
    let other = h.of_node in
    omega (arith, node, other)

pub returns-clause-another_boot : goal.returns-clause-another_boot
returns-clause-another_boot c old h =
    let boot = (self_is (one_token.trees 0) 3 1 1 4 3 h.whole.holds.node 1 0 one_self h.whole.holds.self).3 in
    omega (arith, boot)

pub returns-clause-another_floor : goal.returns-clause-another_floor
returns-clause-another_floor c old h =
    let floor = floor_is (one_token.trees 1) 0 9 5 one_floor (h.whole.holds.rows 0 _ refl).floor in
    omega (arith, floor)

pub returns-clause-no_entry : goal.returns-clause-no_entry
returns-clause-no_entry c old h = let counted : ◌≡◌ {A = ℕ} 0 1 = h.whole.counted in omega (arith, counted)

pub returns-clause-another_bond : goal.returns-clause-another_bond
returns-clause-another_bond c old h =
    let same : small_bond ≡ other_bond = bond_is (one_token.trees 5) small_bond other_bond one_bond h.whole.bond in
    let members : ◌≡◌ {A = ℕ} 3 5 = ap (λ (b : BondRecord). b.members) same in
    omega (arith, members)
