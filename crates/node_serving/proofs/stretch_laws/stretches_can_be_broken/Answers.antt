-- A turn whose receive failed is one receive, of one entry and no moment.
use Rattle.std.proofs.Common.{◌≡◌, ◌≤◌, inl, inr, true, ℕ, List, [], ◌∷◌, length, map, Option, Some, Ok, Err, refl, ap, arith}
use Rattle.datagram_port.specs.Port.{PortEvent}
use Rattle.floor_store.specs.Broken.{SmallStore, small_held}
use Rattle.oath_node.specs.Broken.{fallen_node, keyed}
use Rattle.oath_node.specs.Hosted.{Hosted}
use Rattle.oath_node.specs.TurnServing.{Serves}
use Rattle.oath_node.specs.Turns.{Failure, Receipt, entry_of, moments_in, receipts_in}
use Rattle.oath_node.specs.TurnsBroken.{nothing_yet}
use Rattle.oath_node.specs.declared.fault.NodeFault.TheVariants.{Stopped}
use Rattle.oath_node.specs.declared.serve_fault.ServeFault.TheVariants.{Node}
use Rattle.node_serving.specs.StretchExamples.{any_act, counts, fault_came, no_answer}
use Rattle.node_serving.specs.Stretches.{FailsToAct, no_acts}
use Rattle.node_serving.proofs.StretchLemmas.{same_in, some_served}
use Rattle.node_serving.proofs.stretch_laws.stretches_can_be_broken.Goals as goal

-- a receive failed
one_fault : Serves small_held fallen_node fallen_node nothing_yet fault_came nothing_yet nothing_yet 1 (Ok (counts 0 0))
one_fault = record {
  batches = (Failure ∷ []) ∷ [];
  formed = (record { before = []; last = Failure; is = refl; goes_on = tt }, tt);
  moments = refl;
  receives = refl;
  most = omega arith;
  all = refl;
  exact = λ clean. absurd cc;
  settled = λ clean settled. absurd cc;
  same = record { book = refl; limits = refl; key = refl; place = refl };
}

-- no turn
no_turn : Serves small_held fallen_node fallen_node nothing_yet nothing_yet nothing_yet nothing_yet 0 (Ok (counts 0 0))
no_turn = record {
  batches = [];
  formed = tt;
  moments = refl;
  receives = refl;
  most = omega arith;
  all = refl;
  exact = λ clean. absurd cc;
  settled = λ clean settled. absurd cc;
  same = record { book = refl; limits = refl; key = refl; place = refl };
}

-- an act failed after it
failed : FailsToAct small_held any_act fallen_node fallen_node nothing_yet fault_came nothing_yet nothing_yet 1 (Err (Node Stopped))
failed = record {
  count = 1;
  within = omega arith;
  served = counts 0 0;
  stood = fallen_node;
  serves = one_fault;
  fault = Stopped;
  fails = tt;
  end_is = refl;
}

abbrev some_entries : List PortEvent → Option (List PortEvent)
some_entries entries = Some entries

abbrev some_moments : List (Option ℕ) → Option (List (Option ℕ))
some_moments moments = Some moments

-- without an entry there is no receive
no_entry : (receipts : List Receipt) → some_entries (map entry_of receipts) ≡ some_entries [] → length receipts ≡ 1 → ⊥
no_entry [] e one = omega (arith, one)
no_entry (receipt ∷ receipts) e one = absurd cc

-- without a receive there is no entry and no moment
no_receive : (receipts : List Receipt) → some_entries (map entry_of receipts) ≡ fault_came → length receipts ≤ 0 → ⊥
no_receive [] e none = absurd cc
no_receive (receipt ∷ receipts) e none = omega (arith, none)

no_moment : (receipts : List Receipt) → some_moments (moments_in receipts) ≡ some_moments (Some 5 ∷ []) → length receipts ≤ 0 → ⊥
no_moment [] e none = absurd cc
no_moment (receipt ∷ receipts) e none = omega (arith, none)

-- the keys differ
not_keyed : keyed fallen_node ≡ fallen_node → ⊥
not_keyed e = let f = ap (λ (node : Hosted SmallStore). node.key) e in absurd cc

not_from_keyed : fallen_node ≡ keyed fallen_node → ⊥
not_from_keyed e = let f = ap (λ (node : Hosted SmallStore). node.key) e in absurd cc

pub returns-clause-none : goal.returns-clause-none
returns-clause-none c = (refl, refl, refl, refl)

pub returns-clause-none_of_another_node : goal.returns-clause-none_of_another_node
returns-clause-none_of_another_node c h = let f = ap (λ (node : Hosted SmallStore). node.key) h.0 in absurd cc

pub returns-clause-none_with_an_entry : goal.returns-clause-none_with_an_entry
returns-clause-none_with_an_entry c h = let e = h.1 in absurd cc

pub returns-clause-none_with_a_moment : goal.returns-clause-none_with_a_moment
returns-clause-none_with_a_moment c h = let e = h.2 in absurd cc

pub returns-clause-none_with_fewer_turns : goal.returns-clause-none_with_fewer_turns
returns-clause-none_with_fewer_turns c h = let e = h.3 in omega (arith, e)

pub returns-clause-one : goal.returns-clause-one
returns-clause-one c = ((refl, refl, refl, refl), omega arith, omega arith, one_fault, tt)

pub returns-clause-one_of_another_start : goal.returns-clause-one_of_another_start
returns-clause-one_of_another_start c h = not_from_keyed h.0.0

pub returns-clause-one_of_more_turns : goal.returns-clause-one_of_more_turns
returns-clause-one_of_more_turns c h = let e = h.0.3 in omega (arith, e)

pub returns-clause-one_without_turns : goal.returns-clause-one_without_turns
returns-clause-one_without_turns c h = let e = h.1 in omega (arith, e)

pub returns-clause-one_at_the_end : goal.returns-clause-one_at_the_end
returns-clause-one_at_the_end c h = let e = h.2 in omega (arith, e)

pub returns-clause-one_that_was_not_served : goal.returns-clause-one_that_was_not_served
returns-clause-one_that_was_not_served c h = no_entry (receipts_in h.3.batches) h.3.receives h.3.all

pub returns-clause-one_without_an_act : goal.returns-clause-one_without_an_act
returns-clause-one_without_an_act c h = h.4

pub returns-clause-act_fails : goal.returns-clause-act_fails
returns-clause-act_fails c = failed

pub returns-clause-act_fails_after_more : goal.returns-clause-act_fails_after_more
returns-clause-act_fails_after_more c h =
    let within = h.within in
    let most = h.serves.most in
    no_receive (receipts_in h.serves.batches) h.serves.receives (omega (arith, within, most))

pub returns-clause-act_fails_unserved : goal.returns-clause-act_fails_unserved
returns-clause-act_fails_unserved c h =
    let within = h.within in
    let most = h.serves.most in
    no_moment (receipts_in h.serves.batches) h.serves.moments (omega (arith, within, most))

pub returns-clause-no_act_fails : goal.returns-clause-no_act_fails
returns-clause-no_act_fails c h = h.fails

pub returns-clause-act_fails_by_the_port : goal.returns-clause-act_fails_by_the_port
returns-clause-act_fails_by_the_port c h = let e = h.end_is in absurd cc

pub returns-clause-act_fails_and_ends_well : goal.returns-clause-act_fails_and_ends_well
returns-clause-act_fails_and_ends_well c h = let e = h.end_is in absurd cc

pub returns-clause-serves : goal.returns-clause-serves
returns-clause-serves c = record {
  stretches = [];
  from = fallen_node;
  from_first = nothing_yet;
  from_asked = nothing_yet;
  left = 0;
  before = (refl, refl, refl, refl);
  end = Ok (counts 0 0);
  last = inl (record {
    most = 0;
    within = omega arith;
    ends = record { left = 0; sum = refl; is_early = true; asked = inl refl; all = λ e. refl };
    serves = no_turn;
  });
  counts = refl;
}

pub returns-clause-serves_unanswered : goal.returns-clause-serves_unanswered
returns-clause-serves_unanswered c h =
    elim (some_served small_held any_act fallen_node fallen_node nothing_yet fault_came nothing_yet nothing_yet 1 no_answer (counts 0 0) h) [
      | inl none ↦ omega (arith, none)
      | inr last ↦ last.3
    ]

pub returns-clause-serves_and_fails_to_act : goal.returns-clause-serves_and_fails_to_act
returns-clause-serves_and_fails_to_act c = record {
  stretches = [];
  from = fallen_node;
  from_first = nothing_yet;
  from_asked = nothing_yet;
  left = 1;
  before = (refl, refl, refl, refl);
  end = Err (Node Stopped);
  last = inr failed;
  counts = refl;
}

pub returns-clause-serves_another_node : goal.returns-clause-serves_another_node
returns-clause-serves_another_node c h =
    let same = same_in small_held no_acts fallen_node (keyed fallen_node) nothing_yet nothing_yet nothing_yet nothing_yet 0 no_answer (Ok (counts 0 0))
    (λ a b r x. absurd x) h in
    let e = same.key in
    absurd cc

pub returns-clause-unasked_of_all : goal.returns-clause-unasked_of_all
returns-clause-unasked_of_all c = tt
