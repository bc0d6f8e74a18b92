-- Each promise is asked about the one that breaks it.
use Rattle.std.proofs.Common.{◌≡◌, ◌≤◌, ◌^◌, ◌+◌, ℕ, true, false, List, [], ◌∷◌, get_or, length, refl, ap, sym, ◌∙◌, subst, arith}
use Rattle.std.specs.Fmt.{digits}
use Rattle.vote_core.specs.Schedule.{is_member}
use Rattle.oath_node.specs.Machine.{made_by_ruling, made_while_running, made_by_event}
use Rattle.cluster_sim.specs.Broken.{first_ok, first_two, start_world}
use Rattle.cluster_sim.specs.Examples.{config, three}
use Rattle.cluster_sim.specs.FrontEnds.{FrontedServer}
use Rattle.cluster_sim.specs.RoundExamples.{one_line}
use Rattle.cluster_sim.specs.Rounds.{AreAnswersTo, AreServed, IsSettled, next_at, server_of}
use Rattle.cluster_sim.specs.World.{Answer, world_with_made, world_after_turn, world_after_act, world_after_event, world_after_events, world_of}
use Rattle.cluster_sim.proofs.Turns.{at_live}
use Rattle.cluster_sim.proofs.laws.services_can_be_broken.Goals as goal

-- the first two of three nodes at the start are settled
start_is_settled : IsSettled config first_two start_world
start_is_settled = record {
  ascending = (omega arith, tt);
  majority = omega arith;
  up = λ i at. at_live (λ j. (is_member 3 j ≡ true) × (true ≡ true)) (1 ∷ 2 ∷ []) i ((refl, refl), ((refl, refl), tt)) at;
  none = λ i at. refl;
  level = λ i j t p q lt. at_live (λ k. next_at start_world k t ≡ next_at start_world 1 t) (1 ∷ 2 ∷ []) i (refl, (refl, tt)) p
      ∙ sym (at_live (λ k. next_at start_world k t ≡ next_at start_world 1 t) (1 ∷ 2 ∷ []) j (refl, (refl, tt)) q);
}

-- one of three is no majority
no_majority : IsSettled config (1 ∷ []) start_world → ⊥
no_majority settled = let x = settled.majority in omega (arith, x)

pub returns-clause-ascending : goal.returns-clause-ascending
returns-clause-ascending c h = let x = h.ascending.0 in omega (arith, x)

pub returns-clause-majority : goal.returns-clause-majority
returns-clause-majority c h = no_majority h

pub returns-clause-up : goal.returns-clause-up
returns-clause-up c h = let e : false ≡ true = (h.up 2 refl).1 in absurd cc

pub returns-clause-member : goal.returns-clause-member
returns-clause-member c h = let e : false ≡ true = (h.up 4 refl).0 in absurd cc

pub returns-clause-none : goal.returns-clause-none
returns-clause-none c h = let e = h.none 2 refl in absurd cc

pub returns-clause-level : goal.returns-clause-level
returns-clause-level c h = let e : 0 ≡ 1 = h.level 1 2 0 refl refl (omega arith) in omega (arith, e)

pub returns-clause-pending : goal.returns-clause-pending
returns-clause-pending c h = let e = h.0 in absurd cc

pub returns-clause-owners : goal.returns-clause-owners
returns-clause-owners c h = let e = h.1 in absurd cc

pub returns-clause-servable : goal.returns-clause-servable
returns-clause-servable c = record {
  settled = start_is_settled;
  at_live = (refl, tt);
  numbers = λ i at. at_live (λ j. 0 + 1 ≤ 2 ^ 62) (1 ∷ 2 ∷ []) i (omega arith, (omega arith, tt)) at;
}

pub returns-clause-servable_settled : goal.returns-clause-servable_settled
returns-clause-servable_settled c h = no_majority h.settled

pub returns-clause-servable_at_live : goal.returns-clause-servable_at_live
returns-clause-servable_at_live c h = let e : false ≡ true = h.at_live.0 in absurd cc

pub returns-clause-servable_numbers : goal.returns-clause-servable_numbers
returns-clause-servable_numbers c h = let x : 2 ^ 62 + 1 ≤ 2 ^ 62 = h.numbers 2 refl in omega (arith, x)

pub returns-clause-served : goal.returns-clause-served
unfolding world_after_events
returns-clause-served c = record { more = []; told = refl; are = refl; settled = start_is_settled }

pub returns-clause-served_told : goal.returns-clause-served_told
unfolding world_after_events world_after_event world_after_act world_after_turn world_with_made made_by_event made_while_running made_by_ruling
returns-clause-served_told c h = let e = h.told in absurd cc

pub returns-clause-served_are : goal.returns-clause-served_are
unfolding world_after_events
returns-clause-served_are c h = let e : first_ok ∷ [] ≡ h.more = h.told in let none : h.more ≡ [] = h.are in absurd cc

pub returns-clause-served_settled : goal.returns-clause-served_settled
unfolding world_after_events
returns-clause-served_settled c h = no_majority h.settled

-- the answers to one line
abbrev AnswerOneLine : List Answer → Type 0
AnswerOneLine answers = AreAnswersTo config first_two 0 (world_of config three []) (server_of first_two (world_of config three [])) one_line answers

-- the given answers are all replies in a report without events
of_one_line : (answers : List Answer) → AreServed config three [] [] first_two one_line answers → AnswerOneLine answers
unfolding world_after_events
of_one_line answers h = let e : answers ≡ h.more = h.told in subst AnswerOneLine (sym e) h.are

pub returns-clause-answer_missing : goal.returns-clause-answer_missing
returns-clause-answer_missing c h = of_one_line [] h

pub returns-clause-answer_to_another : goal.returns-clause-answer_to_another
returns-clause-answer_to_another c h =
    let other : Answer = record first_ok { client = 8 } in
    let are = of_one_line (other ∷ []) h in
    let client : 8 ≡ 7 = are.0.client in
    omega (arith, client)

pub returns-clause-answer_twice : goal.returns-clause-answer_twice
returns-clause-answer_twice c h =
    let are = of_one_line (first_ok ∷ first_ok ∷ []) h in
    let none : first_ok ∷ [] ≡ [] = are.1 in
    absurd cc

pub returns-clause-as_one : goal.returns-clause-as_one
returns-clause-as_one c = record { answers = []; told = refl; are = refl; settled = start_is_settled; server = refl }

pub returns-clause-as_one_told : goal.returns-clause-as_one_told
returns-clause-as_one_told c h = let e : [] ≡ first_ok ∷ h.answers = h.told in absurd cc

pub returns-clause-as_one_are : goal.returns-clause-as_one_are
returns-clause-as_one_are c h = let e : first_ok ∷ [] ≡ h.answers = h.told in let none : h.answers ≡ [] = h.are in absurd cc

pub returns-clause-as_one_settled : goal.returns-clause-as_one_settled
returns-clause-as_one_settled c h = no_majority h.settled

pub returns-clause-as_one_server : goal.returns-clause-as_one_server
returns-clause-as_one_server c h = let e : 1 ≡ 0 = ap (λ (server : FrontedServer). get_or server.floors 0 0) h.server in omega (arith, e)

pub returns-clause-answer_bytes : goal.returns-clause-answer_bytes
unfolding digits
returns-clause-answer_bytes c h =
    let e : 6 ≡ 0 = ap (λ (bytes : List ℕ). length bytes) h.bytes in omega (arith, e)
