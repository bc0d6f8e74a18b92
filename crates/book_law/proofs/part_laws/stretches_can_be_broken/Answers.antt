use Rattle.std.proofs.Common.{◌≡◌, inl, inr, List, [], ◌∷◌, length, map, Option, Some, refl, ap, arith}
use Rattle.datagram_port.specs.Port.{PortEvent}
use Rattle.floor_store.specs.Broken.{SmallStore}
use Rattle.vote_core.specs.Rows.{row}
use Rattle.oath_node.specs.Hosted.{Hosted}
use Rattle.oath_node.specs.Machine.{NodeState}
use Rattle.oath_node.specs.Turns.{Receipt, entry_of, receipts_in}
use Rattle.book_law.proofs.part_laws.stretches_can_be_broken.Goals as goal

pub returns-clause-none_of_another_node : goal.returns-clause-none_of_another_node
returns-clause-none_of_another_node c h = let f = ap (λ (node : Hosted SmallStore). node.key) h.0 in absurd cc

pub returns-clause-none_with_an_entry : goal.returns-clause-none_with_an_entry
returns-clause-none_with_an_entry c h = let e = h.1 in absurd cc

pub returns-clause-one_of_another_start : goal.returns-clause-one_of_another_start
returns-clause-one_of_another_start c h = let f = ap (λ (node : Hosted SmallStore). node.key) h.0.0 in absurd cc

pub returns-clause-unlocks_another : goal.returns-clause-unlocks_another
returns-clause-unlocks_another c h =
    let e : 0 ≡ 2 = ap (λ (x : NodeState). (row x.content 0).gate.fails) (h.state refl) in
    omega (arith, e)

abbrev some_entries : List PortEvent → Option (List PortEvent)
some_entries entries = Some entries

-- without an entry there is no receive
no_entry : (receipts : List Receipt) → some_entries (map entry_of receipts) ≡ some_entries [] → length receipts ≡ 1 → ⊥
no_entry [] e one = omega (arith, one)
no_entry (receipt ∷ receipts) e one = absurd cc

pub returns-clause-one_that_was_not_served : goal.returns-clause-one_that_was_not_served
returns-clause-one_that_was_not_served c h = no_entry (receipts_in h.1.batches) h.1.receives h.1.all

pub returns-clause-one_with_another_act : goal.returns-clause-one_with_another_act
returns-clause-one_with_another_act c h =
    elim h.2 [
      | inl reads ↦ let e = reads.same.key in absurd cc
      | inr same ↦ let e = ap (λ (node : Hosted SmallStore). node.key) same in absurd cc
    ]

pub returns-clause-one_that_is_not_clean : goal.returns-clause-one_that_is_not_clean
returns-clause-one_that_is_not_clean c h = let e = h.3 in absurd cc

pub returns-clause-unlocks_without_a_number : goal.returns-clause-unlocks_without_a_number
returns-clause-unlocks_without_a_number c h =
    elim h [
      | inl reads ↦ let e : 0 ≡ 2 = ap (λ (x : NodeState). (row x.content 0).gate.fails) (reads.state refl) in omega (arith, e)
      | inr same ↦ let e : 0 ≡ 2 = ap (λ (node : Hosted SmallStore). (row node.store.content 0).gate.fails) same in omega (arith, e)
    ]
