-- Each is computed, the hash with it.
use Rattle.std.proofs.Common.{◌≡◌, ℕ, zero, suc, ◌+◌, false, true, List, [], ◌∷◌, ◌++◌, length, map, refl, sym, ap, ◌∙◌, arith}
use Rattle.std.proofs.lemmas.List.{length-append, length-map}
use Rattle.admit_core.specs.Fit.{code_at}
use Rattle.sha1.specs.Sha1.{first_words, schedule, rounds, compress, hash_after, digest_bytes, sha1}
use Rattle.floor_store.specs.Content.{Content}
use Rattle.vote_core.specs.Voting.{propose, propose_alone, propose_among, on_ask, accept, count_grant, on_grant, raise, count_deny, on_deny, on_floor, on_message, tick}
use Rattle.oath_node.specs.Machine.{NodeEvent, Tick, made_by_proposal, made_by_ruling, made_by_datagram, made_while_running, made_by_event}
use Rattle.oath_node.specs.Turns.{Failure, FromClient, FromPeer, Nothing, Receipt, entry_of, events_of_turns}
use Rattle.datagram_port.specs.Port.{Faulted, Offered, PortEvent, Quiet, Received}
use Rattle.book_law.specs.Lives.{Action, OpensGate, Opens, Output, Stops}
use Rattle.book_law.specs.Examples.{alone, silver_alone, silver_row}
use Rattle.book_law.specs.PartExamples.{idle_in_parts}
use Rattle.book_law.specs.Uses.{HasUses, Part, entries_in, named_output, offer_of_output}
use Rattle.book_law.proofs.part_laws.parts_can_be_broken.Goals as goal

no_truth : false ≡ true → ⊥
no_truth e = cc

pub returns-clause-no_row_there : goal.returns-clause-no_row_there
returns-clause-no_row_there c h = no_truth h.fits

pub returns-clause-no_boot_there : goal.returns-clause-no_boot_there
returns-clause-no_boot_there c h = no_truth h.boot

pub returns-clause-left_as_found : goal.returns-clause-left_as_found
returns-clause-left_as_found c h =
    let boot : 1 ≡ 0 = ap (λ (content : Content). content.boot) h.are in
    omega (arith, boot)

-- ---- what the machine answers

first_of : List ℕ → ℕ
first_of [] = 0
first_of (x ∷ xs) = x

-- the first byte of the first offer
first_byte : List PortEvent → ℕ
first_byte [] = 0
first_byte (Received sender bytes ∷ entries) = 0
first_byte (Quiet ∷ entries) = 0
first_byte (Faulted ∷ entries) = 0
first_byte (Offered to bytes ∷ entries) = first_of bytes

pub returns-clause-never_cleared : goal.returns-clause-never_cleared
unfolding first_of first_byte code_at first_words schedule rounds compress hash_after digest_bytes sha1 made_by_event made_while_running made_by_datagram made_by_ruling made_by_proposal propose propose_alone propose_among on_ask accept count_grant on_grant raise count_deny on_deny on_floor on_message tick
returns-clause-never_cleared c h = let byte : 78 ≡ 79 = ap first_byte h.are.1.0.offers in omega (arith, byte)

pub returns-clause-cleared_before : goal.returns-clause-cleared_before
unfolding first_of first_byte code_at first_words schedule rounds compress hash_after digest_bytes sha1 made_by_event made_while_running made_by_datagram made_by_ruling made_by_proposal propose propose_alone propose_among on_ask accept count_grant on_grant raise count_deny on_deny on_floor on_message tick
returns-clause-cleared_before c h = let byte : 78 ≡ 79 = ap first_byte h.are.1.1.0.offers in omega (arith, byte)

pub returns-clause-another_cleared : goal.returns-clause-another_cleared
unfolding first_of first_byte code_at first_words schedule rounds compress hash_after digest_bytes sha1 made_by_event made_while_running made_by_datagram made_by_ruling made_by_proposal propose propose_alone propose_among on_ask accept count_grant on_grant raise count_deny on_deny on_floor on_message tick
returns-clause-another_cleared c h = let byte : 78 ≡ 79 = ap first_byte h.are.1.0.offers in omega (arith, byte)

pub returns-clause-out_of_order : goal.returns-clause-out_of_order
unfolding first_of first_byte code_at first_words schedule rounds compress hash_after digest_bytes sha1 made_by_event made_while_running made_by_datagram made_by_ruling made_by_proposal propose propose_alone propose_among on_ask accept count_grant on_grant raise count_deny on_deny on_floor on_message tick
returns-clause-out_of_order c h = let byte : 79 ≡ 78 = ap first_byte h.are.0.offers in omega (arith, byte)

-- ---- parts that leave out something

head_same : (x y : PortEvent) (xs ys : List PortEvent) → x ∷ xs ≡ y ∷ ys → x ≡ y
head_same x y xs ys e = cc

no_cons : (event : NodeEvent) (events : List NodeEvent) → event ∷ events ≡ [] → ⊥
no_cons event events e = cc

quiet_is : (receipt : Receipt) (receipts : List Receipt) → entry_of receipt ≡ Quiet → events_of_turns [] 0 (receipt ∷ receipts) ≡ [] → ⊥
quiet_is (FromPeer from bytes) receipts e none = cc
quiet_is (FromClient client bytes moment) receipts e none = cc
quiet_is Nothing receipts e none = no_cons Tick (events_of_turns [] 0 receipts) none
quiet_is Failure receipts e none = cc

-- a quiet turn has its tick
quiet_ticks : (receipts : List Receipt) → map entry_of receipts ≡ Quiet ∷ [] → events_of_turns [] 0 receipts ≡ [] → ⊥
quiet_ticks [] e none = cc
quiet_ticks (receipt ∷ receipts) e none = quiet_is receipt receipts (head_same (entry_of receipt) Quiet (map entry_of receipts) [] e) none

pub returns-clause-cut_before_the_end : goal.returns-clause-cut_before_the_end
returns-clause-cut_before_the_end c h =
    let is = h.are.0 in
    quiet_ticks is.receipts is.received (is.events ∙ is.left_out.0)

pub returns-clause-silent_before_the_end : goal.returns-clause-silent_before_the_end
unfolding code_at first_words schedule rounds compress hash_after digest_bytes sha1 made_by_event made_while_running made_by_datagram made_by_ruling made_by_proposal propose propose_alone propose_among on_ask accept count_grant on_grant raise count_deny on_deny on_floor on_message tick
returns-clause-silent_before_the_end c h =
    let none : 1 ≡ 0 = ap (λ (offers : List PortEvent). length offers) (h.are.0.offers ∙ h.are.0.left_out.1) in
    omega (arith, none)

no_receipts : (receipts : List Receipt) → map entry_of receipts ≡ [] → receipts ≡ []
no_receipts [] e = refl
no_receipts (receipt ∷ receipts) e = absurd cc

no_events : (later : List NodeEvent) → [] ≡ Tick ∷ later → ⊥
no_events later e = cc

pub returns-clause-ticked_unasked : goal.returns-clause-ticked_unasked
returns-clause-ticked_unasked c h =
    let is = h.are.0 in
    no_events is.later (sym (ap (λ (receipts : List Receipt). events_of_turns [] 0 receipts) (no_receipts is.receipts is.received)) ∙ is.events)

pub returns-clause-replied_unmade : goal.returns-clause-replied_unmade
returns-clause-replied_unmade c h =
    let none : 0 ≡ suc (length h.are.0.rest) = ap (λ (offers : List PortEvent). length offers) h.are.0.offers in
    omega (arith, none)

-- ---- uses

pub returns-clause-is_a_process : goal.returns-clause-is_a_process
returns-clause-is_a_process c = λ setting node store terms port parts left uses h. h.0

pub returns-clause-after_another_use : goal.returns-clause-after_another_use
returns-clause-after_another_use c = λ setting node store terms port parts left uses h. h.1

-- the clearings of silver's gate
abbrev clears : Action → ℕ
clears (OpensGate node zero) = 1
clears action = 0

abbrev clearings : List Action → ℕ
clearings [] = 0
clearings (d ∷ ds) = clears d + clearings ds

clearings_append : (xs ys : List Action) → clearings (xs ++ ys) ≡ clearings xs + clearings ys
clearings_append [] ys = omega arith
clearings_append (x ∷ xs) ys = let rest = clearings_append xs ys in omega (arith, rest)

-- actions that have the uses clear the gate
cleared : (actions : List Action) → HasUses alone 1 silver_row idle_in_parts actions → clearings actions ≡ 0 → ⊥
cleared actions h none =
    let all : clearings actions ≡ clearings h.0 + (0 + clearings (h.1 ++ Stops 1 ∷ h.2)) = ap clearings h.3 ∙ clearings_append h.0 (Opens 1 silver_alone ∷ (h.1 ++ Stops 1 ∷ h.2)) in
    let served : clearings (h.1 ++ Stops 1 ∷ h.2) ≡ clearings h.1 + (0 + clearings h.2) = clearings_append h.1 (Stops 1 ∷ h.2) in
    let part : clearings h.1 ≡ clearings h.5.0 + (1 + clearings h.5.1) = ap clearings h.5.2 ∙ clearings_append h.5.0 (OpensGate 1 0 ∷ h.5.1) in
    omega (arith, none, all, served, part)

pub returns-clause-clearing_is_missing : goal.returns-clause-clearing_is_missing
returns-clause-clearing_is_missing c h = cleared (Opens 1 silver_alone ∷ Stops 1 ∷ []) h refl

pub returns-clause-another_gate_is_cleared : goal.returns-clause-another_gate_is_cleared
returns-clause-another_gate_is_cleared c h = cleared (Opens 1 silver_alone ∷ OpensGate 1 1 ∷ Stops 1 ∷ []) h refl

pub returns-clause-reply_is_missing : goal.returns-clause-reply_is_missing
returns-clause-reply_is_missing c h =
    let o = h.3 in
    let all : 0 ≡ length h.0 + length h.1 = ap (λ (outputs : List Output). length outputs) h.2 ∙ length-append h.0 h.1 in
    let named : length h.0 ≡ length o.own = ap (λ (outputs : List Output). length outputs) o.named ∙ length-map o.own (named_output silver_alone) in
    let two : length o.own ≡ 2 = sym (length-map o.own (offer_of_output [])) ∙ ap (λ (offers : List PortEvent). length offers) o.encoded in
    omega (arith, all, named, two)

no_tokens : (parts : List Part) → map (λ (part : Part). part.cleared) parts ≡ [] → parts ≡ []
no_tokens [] e = refl
no_tokens (part ∷ parts) e = absurd cc

pub returns-clause-cleared_by_nobody : goal.returns-clause-cleared_by_nobody
returns-clause-cleared_by_nobody c h =
    let none : 0 ≡ 1 = ap (λ (entries : List PortEvent). length entries) (sym (ap entries_in (no_tokens h.parts h.cleared)) ∙ h.recorded) in
    omega (arith, none)
