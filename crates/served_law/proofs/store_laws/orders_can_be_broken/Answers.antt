-- An order is built of the steps of all members. Each other one breaks a condition.
use Rattle.std.proofs.Common.{◌≡◌, ◌≤◌, ◌+◌, ◌^◌, ◌<◌, ℕ, zero, suc, Bool, List, [], ◌∷◌, inl, inr, refl, sym, ap, ◌∙◌, arith}
use Rattle.std.proofs.lemmas.Bool.{false≢true}
use Rattle.sqlite.specs.Store.{Ghosts}
use Rattle.sqlite.specs.Held as sql
use Rattle.book_law.specs.Lives.{Enrols, state_after, state_after_action}
use Rattle.book_law.specs.Uses.{first_store}
use Rattle.order_law.specs.Examples.{at}
use Rattle.order_law.specs.Interleavings.{AreReplaced, steps_at}
use Rattle.order_law.specs.Steps.{Does, Gets, Loses, Step}
use Rattle.order_law.proofs.Examples.{each_member}
use Rattle.order_law.proofs.Walk.{all_replaced}
use Rattle.served_law.specs.Examples.{three_names, three_tokens}
use Rattle.served_law.specs.Orders.{HaveHappened, HaveStepsOf, IsOrderOf}
use Rattle.served_law.specs.RunExamples.{lost_items, lost_stores}
use Rattle.served_law.specs.Runs.{AreAllNamedStores}
use Rattle.served_law.proofs.Orders.{steps_have_orders}
use Rattle.served_law.proofs.store_laws.orders_can_be_broken.Goals as goal

module _ {S U : Type 0} (g : Ghosts S) (finds : sql.Held S → Type 0) (answers : U → ℕ → Bool → Bool → Type 0) (are : AreAllNamedStores g finds answers three_tokens three_names (lost_stores U 1 5)) where
  abbrev have : (node : ℕ) → HaveStepsOf g finds answers three_tokens node three_names (first_store three_tokens node) (lost_stores U 1 5 node) (are node)
  have zero = record { steps = []; are_of = refl; are_steps = tt }
  have (suc zero) = (record { steps = []; are_of = refl; are_steps = tt }, record { steps = []; are_of = refl; are_steps = tt })
  have (suc (suc zero)) = record { steps = Does (Enrols 2 0 5) ∷ []; are_of = ([], refl, refl); are_steps = (refl, tt) }
  have (suc (suc (suc node))) = record { steps = []; are_of = refl; are_steps = tt }

  replaced : AreReplaced three_tokens (lost_items 1 5)
  unfolding state_after state_after_action
  replaced = all_replaced three_tokens (lost_items 1 5) (tt, (tt, (refl, tt)))

  order : IsOrderOf g finds answers three_tokens three_names (lost_stores U 1 5) are (lost_items 1 5)
  order = record {
    has = steps_have_orders g finds answers three_tokens three_names (lost_stores U 1 5) are have;
    members = (refl, (refl, (refl, tt)));
    steps = each_member (λ node. HaveHappened g finds answers three_tokens node three_names (first_store three_tokens node) (lost_stores U 1 5 node) (are node) (have node) (steps_at node (lost_items 1 5)))
        (inr ([], Gets 1 (0 ∷ []) (λ token. 5) ∷ [], refl, record { later = []; all_are = refl }, inr ([], refl, record { later = []; all_are = refl })))
        (record { later = []; all_are = refl })
        (record { later = []; all_are = refl });
    replaced = replaced;
    starts = λ i envelope at. absurd cc;
    caused = (tt, omega arith, (tt, tt, (tt, (λ token. omega arith), tt)));
  }

  lost : IsOrderOf g finds answers three_tokens three_names (lost_stores U 1 5) are (at 1 Loses ∷ [])
  lost = record {
    has = steps_have_orders g finds answers three_tokens three_names (lost_stores U 1 5) are have;
    members = (refl, tt);
    steps = each_member (λ node. HaveHappened g finds answers three_tokens node three_names (first_store three_tokens node) (lost_stores U 1 5 node) (are node) (have node) (steps_at node (at 1 Loses ∷ [])))
        (inr ([], [], refl, record { later = []; all_are = refl }, inl refl))
        (record { later = Does (Enrols 2 0 5) ∷ []; all_are = refl })
        (record { later = []; all_are = refl });
    replaced = all_replaced three_tokens (at 1 Loses ∷ []) (tt, tt);
    starts = λ i envelope at. absurd cc;
    caused = (tt, tt, tt);
  }

pub returns-clause-order : goal.returns-clause-order
returns-clause-order g c = λ are. order g.S.Store g.D.Database.finds g.U.Stop.answers are

pub returns-clause-until_the_loss : goal.returns-clause-until_the_loss
returns-clause-until_the_loss g c = λ are. lost g.S.Store g.D.Database.finds g.U.Stop.answers are

pub returns-clause-of_a_stranger : goal.returns-clause-of_a_stranger
returns-clause-of_a_stranger g c = λ are h. false≢true h.members.1.1.1.0

abbrev first_floor : List Step → ℕ
first_floor (Does (Enrols node token floor) ∷ steps) = floor
first_floor steps = 0

pub returns-clause-with_another_step : goal.returns-clause-with_another_step
returns-clause-with_another_step g c = λ are h.
    let first = h.steps 2 refl in
    let all : Does (Enrols 2 0 5) ∷ [] ≡ Does (Enrols 2 0 6) ∷ first.later = sym ((h.has.steps 2).are_of.1 ∙ ap (λ l. Does (Enrols 2 0 5) ∷ l) (h.has.steps 2).are_of.2) ∙ first.all_are in
    let e : 5 ≡ 6 = ap first_floor all in
    omega (arith, e)

pub returns-clause-replaced_too_low : goal.returns-clause-replaced_too_low
unfolding state_after state_after_action
returns-clause-replaced_too_low g c = λ are h. false≢true (h.replaced (at 2 (Does (Enrols 2 0 5)) ∷ at 1 Loses ∷ []) [] 1 1 (0 ∷ []) (λ token. 4) refl)

pub returns-clause-replaced_at_a_used_boot : goal.returns-clause-replaced_at_a_used_boot
unfolding state_after state_after_action
returns-clause-replaced_at_a_used_boot g c = λ are h. false≢true (h.replaced (at 2 (Does (Enrols 2 0 5)) ∷ at 1 Loses ∷ []) [] 1 0 (0 ∷ []) (λ token. 5) refl)

pub returns-clause-former_of_the_boot : goal.returns-clause-former_of_the_boot
returns-clause-former_of_the_boot g c = λ are h. let low : 1 < 1 = (h.starts 0 _ refl).1 in omega (arith, low)

pub returns-clause-past_the_last_floor : goal.returns-clause-past_the_last_floor
returns-clause-past_the_last_floor g c = λ are h. let low : 2 ^ 62 + 1 ≤ 2 ^ 62 = h.caused.1 in omega (arith, low)

pub returns-clause-interleavings : goal.returns-clause-interleavings
returns-clause-interleavings g c = λ setting names stores are has items members same replaced. has.interleavings items members same replaced

pub returns-clause-of_members : goal.returns-clause-of_members
returns-clause-of_members g c = λ setting names stores are items is. is.members

pub returns-clause-own_steps : goal.returns-clause-own_steps
returns-clause-own_steps g c = λ setting node names stores are items is member. is.steps node member

pub returns-clause-replaced : goal.returns-clause-replaced
returns-clause-replaced g c = λ setting names stores are items is. is.replaced

pub returns-clause-starts : goal.returns-clause-starts
returns-clause-starts g c = λ setting names stores are items is. is.starts

pub returns-clause-unforged : goal.returns-clause-unforged
returns-clause-unforged g c = λ setting names stores are items is. is.caused
