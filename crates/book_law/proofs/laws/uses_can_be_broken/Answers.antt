use Rattle.std.proofs.Common.{◌≡◌, ℕ, suc, ◌+◌, true, false, List, [], ◌∷◌, length, map, refl, sym, ap, ◌∙◌, arith}
use Rattle.std.proofs.lemmas.List.{length-append, length-map}
use Rattle.floor_store.specs.Content.{Content}
use Rattle.oath_node.specs.Machine.{NodeEvent, Tick}
use Rattle.datagram_port.specs.Port.{PortEvent}
use Rattle.oath_node.specs.Turns.{Receipt, entry_of, events_of_turns}
use Rattle.book_law.specs.Examples.{silver_alone}
use Rattle.book_law.specs.Lives.{Action, Output, Terms, Unlocks}
use Rattle.book_law.specs.Uses.{AreOffers, named_output, offer_of_output, own_offers, own_process}
use Rattle.book_law.proofs.laws.uses_can_be_broken.Goals as goal

pub returns-clause-row_elsewhere : goal.returns-clause-row_elsewhere
returns-clause-row_elsewhere c h = let node : 2 ≡ 1 = h.0 in omega (arith, node)

pub returns-clause-unlocked_elsewhere : goal.returns-clause-unlocked_elsewhere
returns-clause-unlocked_elsewhere c h = let node : 2 ≡ 1 = h.0 in omega (arith, node)

pub returns-clause-opened_gate_is_a_use : goal.returns-clause-opened_gate_is_a_use
returns-clause-opened_gate_is_a_use c h = h.0

pub returns-clause-raised_elsewhere : goal.returns-clause-raised_elsewhere
returns-clause-raised_elsewhere c h = let node : 2 ≡ 1 = h.0 in omega (arith, node)

pub returns-clause-failed_elsewhere : goal.returns-clause-failed_elsewhere
returns-clause-failed_elsewhere c h = let node : 2 ≡ 1 = h.0 in omega (arith, node)

pub returns-clause-loss_is_a_use : goal.returns-clause-loss_is_a_use
returns-clause-loss_is_a_use c h = h.0

pub returns-clause-second_loss_is_a_use : goal.returns-clause-second_loss_is_a_use
returns-clause-second_loss_is_a_use c h = h.1.0

pub returns-clause-after_another_use : goal.returns-clause-after_another_use
returns-clause-after_another_use c = λ setting node store terms port taken entries left uses h. h.1

no_truth : false ≡ true → ⊥
no_truth e = cc

pub returns-clause-no_row_there : goal.returns-clause-no_row_there
returns-clause-no_row_there c h = no_truth h.fits

pub returns-clause-no_boot_there : goal.returns-clause-no_boot_there
returns-clause-no_boot_there c h = no_truth h.boot

no_receipts : (receipts : List Receipt) → map entry_of receipts ≡ [] → receipts ≡ []
no_receipts [] e = refl
no_receipts (receipt ∷ receipts) e = absurd cc

no_events : (later : List NodeEvent) → [] ≡ Tick ∷ later → ⊥
no_events later e = cc

pub returns-clause-ticked_unasked : goal.returns-clause-ticked_unasked
returns-clause-ticked_unasked c h =
    no_events h.later (sym (ap (λ (receipts : List Receipt). events_of_turns [] 0 receipts) (no_receipts h.receipts h.received)) ∙ h.events)

pub returns-clause-offered_unmade : goal.returns-clause-offered_unmade
returns-clause-offered_unmade c h =
    let none : 0 ≡ suc (length h.rest) = ap (λ (offers : List PortEvent). length offers) h.offers in
    omega (arith, none)

pub returns-clause-left_as_found : goal.returns-clause-left_as_found
returns-clause-left_as_found c h =
    let boot : 1 ≡ 0 = ap (λ (content : Content). content.boot) h.leaves in
    omega (arith, boot)

pub returns-clause-recorded_unoffered : goal.returns-clause-recorded_unoffered
unfolding own_offers own_process
returns-clause-recorded_unoffered c h =
    let o = h.offers 0 in
    let none : 0 ≡ length o.own = ap (λ (outputs : List Output). length outputs) o.named ∙ length-map o.own (named_output silver_alone) in
    let one : length o.own ≡ 1 = sym (length-map o.own (offer_of_output [])) ∙ ap (λ (offers : List PortEvent). length offers) o.encoded in
    omega (arith, none, one)

pub returns-clause-stop_serves : goal.returns-clause-stop_serves
returns-clause-stop_serves c h = h.0 refl

pub returns-clause-opened_gate_serves : goal.returns-clause-opened_gate_serves
returns-clause-opened_gate_serves c h = h.1.0 refl

pub returns-clause-second_opening_serves : goal.returns-clause-second_opening_serves
returns-clause-second_opening_serves c h = h.1.0 refl

pub returns-clause-one_action_more : goal.returns-clause-one_action_more
returns-clause-one_action_more c h = h.1.0 refl

pub returns-clause-second_use_is_missing : goal.returns-clause-second_use_is_missing
returns-clause-second_use_is_missing c h =
    let first : 1 ≡ length h.0 + suc (length h.1) = ap (λ (actions : List Action). length actions) h.2 ∙ length-append h.0 (Unlocks 1 0 ∷ h.1) in
    let second : length h.1 ≡ length h.4.0 + suc (length h.4.1) = ap (λ (actions : List Action). length actions) h.4.2 ∙ length-append h.4.0 (Unlocks 1 1 ∷ h.4.1) in
    omega (arith, first, second)

pub returns-clause-reply_unrecorded : goal.returns-clause-reply_unrecorded
returns-clause-reply_unrecorded c h = let number : 1 ≡ 0 = ap (λ (outputs : List Output). length outputs) h in omega (arith, number)

as_many : (terms : Terms) (port : List ℕ) (outputs : List Output) (recorded : List PortEvent) → AreOffers terms port outputs recorded → length outputs ≡ length recorded
as_many terms port outputs recorded h =
    ap (λ (l : List Output). length l) h.named ∙ length-map h.own (named_output terms)
    ∙ sym (length-map h.own (offer_of_output port)) ∙ ap (λ (l : List PortEvent). length l) h.encoded

pub returns-clause-second_reply_is_missing : goal.returns-clause-second_reply_is_missing
returns-clause-second_reply_is_missing c h =
    let all : 1 ≡ length h.0 + length h.1 = ap (λ (outputs : List Output). length outputs) h.2 ∙ length-append h.0 h.1 in
    let rest : length h.1 ≡ length h.4.0 + length h.4.1 = ap (λ (outputs : List Output). length outputs) h.4.2 ∙ length-append h.4.0 h.4.1 in
    let first : length h.0 ≡ 1 = as_many _ _ h.0 _ h.3 in
    let second : length h.4.0 ≡ 1 = as_many _ _ h.4.0 _ h.4.3 in
    omega (arith, all, rest, first, second)
