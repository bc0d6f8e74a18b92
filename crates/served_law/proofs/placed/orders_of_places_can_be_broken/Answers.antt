-- An order is built of the steps of all members. Each other condition is a field, or is broken.
use Rattle.std.proofs.Common.{◌≡◌, ℕ, zero, suc, List, [], ◌∷◌, inr, refl, sym, ap, ◌∙◌, arith}
use Rattle.std.proofs.lemmas.Bool.{false≢true}
use Rattle.sqlite.specs.Store.{Ghosts}
use Rattle.sqlite.specs.Held as sql
use Rattle.book_law.specs.Lives.{Enrols, Unlocks, state_after, state_after_action}
use Rattle.book_law.specs.Uses.{first_store}
use Rattle.order_law.specs.Examples.{at}
use Rattle.order_law.specs.Interleavings.{AreReplaced, steps_at}
use Rattle.order_law.specs.Steps.{Does, Gets, Loses, Step}
use Rattle.order_law.proofs.Examples.{each_member}
use Rattle.order_law.proofs.Walk.{all_replaced}
use Rattle.served_law.specs.Examples.{three_tokens}
use Rattle.served_law.specs.Placed.{IsPlacedOrder, PlacedRun, placed_runs}
use Rattle.served_law.specs.RunExamples.{lost_items, stores_with_a_loss}
use Rattle.served_law.specs.Uses.{AreAllStores, HaveMadeSteps, HaveStoreSteps}
use Rattle.served_law.proofs.PlacedRuns.{placed_in_order, places_causal}
use Rattle.served_law.proofs.placed.orders_of_places_can_be_broken.Goals as goal

pub returns-clause-one_run : goal.returns-clause-one_run
returns-clause-one_run g c = λ setting node store run is steps are. are.in_order

pub returns-clause-are : goal.returns-clause-are
returns-clause-are g c = λ setting node store run is steps are. are.are

pub returns-clause-of_no_steps : goal.returns-clause-of_no_steps
returns-clause-of_no_steps g c = λ setting node store run is are. let e = are.are in absurd cc

pub returns-clause-writes : goal.returns-clause-writes
returns-clause-writes g c = (Does (Unlocks 1 0) ∷ [], refl, ([], refl, refl))

pub returns-clause-another_order : goal.returns-clause-another_order
returns-clause-another_order g c h = let e = h.1 in absurd cc

pub returns-clause-first_run : goal.returns-clause-first_run
returns-clause-first_run g c = λ setting node store run later are steps of. (of.2, of.3, of.4)

module _ {S : Type 0} (g : Ghosts S) (finds : sql.Held S → Type 0) (are : AreAllStores (placed_runs g finds three_tokens) (stores_with_a_loss PlacedRun 1 5)) where
  abbrev have : (node : ℕ) → HaveStoreSteps (placed_runs g finds three_tokens) node (first_store three_tokens node) (stores_with_a_loss PlacedRun 1 5 node) (are node)
  have zero = record { steps = []; are_of = refl; are_steps = tt }
  have (suc zero) = (record { steps = []; are_of = refl; are_steps = tt }, record { steps = []; are_of = refl; are_steps = tt })
  have (suc (suc zero)) = record { steps = Does (Enrols 2 0 5) ∷ []; are_of = ([], refl, refl); are_steps = (refl, tt) }
  have (suc (suc (suc node))) = record { steps = []; are_of = refl; are_steps = tt }

  replaced : AreReplaced three_tokens (lost_items 1 5)
  unfolding state_after state_after_action
  replaced = all_replaced three_tokens (lost_items 1 5) (tt, (tt, (refl, tt)))

  order : IsPlacedOrder g finds three_tokens (stores_with_a_loss PlacedRun 1 5) are (lost_items 1 5)
  order = record {
    has = placed_in_order g finds three_tokens (stores_with_a_loss PlacedRun 1 5) are have;
    members = (refl, (refl, (refl, tt)));
    steps = each_member (λ node. HaveMadeSteps (placed_runs g finds three_tokens) node (first_store three_tokens node) (stores_with_a_loss PlacedRun 1 5 node) (are node) (have node) (steps_at node (lost_items 1 5)))
        (inr ([], Gets 1 (0 ∷ []) (λ token. 5) ∷ [], refl, record { later = []; all_are = refl }, inr ([], refl, record { later = []; all_are = refl })))
        (record { later = []; all_are = refl })
        (record { later = []; all_are = refl });
    replaced = replaced;
    starts = λ i envelope at. absurd cc;
    caused = (tt, (tt, (tt, tt)));
  }

pub returns-clause-order : goal.returns-clause-order
returns-clause-order g c = λ are. order g.S.Store g.D.Database.finds are

pub returns-clause-of_a_stranger : goal.returns-clause-of_a_stranger
returns-clause-of_a_stranger g c = λ are h. false≢true h.members.1.1.1.0

abbrev first_floor : List Step → ℕ
first_floor (Does (Enrols node token floor) ∷ steps) = floor
first_floor steps = 0

pub returns-clause-with_another_step : goal.returns-clause-with_another_step
returns-clause-with_another_step g c = λ are h.
    let first = h.steps 2 refl in
    let all : Does (Enrols 2 0 5) ∷ [] ≡ Does (Enrols 2 0 6) ∷ first.later = sym ((h.has.steps 2).are_of.1 ∙ ap (λ l. Does (Enrols 2 0 5) ∷ l) (h.has.steps 2).are_of.2) ∙ first.all_are in
    let e : 5 ≡ 6 = ap first_floor all in
    omega (arith, e)

pub returns-clause-replaced_too_low : goal.returns-clause-replaced_too_low
unfolding state_after state_after_action
returns-clause-replaced_too_low g c = λ are h. false≢true (h.replaced (at 2 (Does (Enrols 2 0 5)) ∷ at 1 Loses ∷ []) [] 1 1 (0 ∷ []) (λ token. 4) refl)

pub returns-clause-caused : goal.returns-clause-caused
returns-clause-caused g c = λ setting stores are items h. h.caused

pub returns-clause-causal : goal.returns-clause-causal
returns-clause-causal g c = λ setting stores are items h. places_causal g.S.Store g.D.Database.finds setting stores are items h
