-- Receives that fail change nothing of a run that continues.
use Rattle.std.proofs.Common.{◌≡◌, ℕ, ◌+◌, List, [], ◌∷◌, ◌++◌, length, map, refl, sym, ap, ◌∙◌, subst}
use Rattle.std.specs.Prelude.{Option, None, Some}
use Rattle.std.proofs.lemmas.List.{append-nil}
use Rattle.oath_node.specs.Machine.{NodeEvent, NodeState, made_by_event}
use Rattle.oath_node.specs.Outputs.{outputs_of}
use Rattle.datagram_port.specs.Port.{PortEvent, Received, Quiet, Faulted, Offered}
use Rattle.oath_node.specs.Turns.{DoesTheSame, Member, Receipt, Run, FromPeer, FromClient, Nothing, Failure, end_with, entry_of, events_of_turn, offer_of, offers_in, run_with_event, run_with_events, run_with_receipt, run_with_turn, run_with_turns, tally_with, while_going, without_failures}
use Rattle.oath_node.specs.declared.serve_fault.ServeFault.{ServeFault}
use Rattle.oath_node.specs.declared.turns.Tally.{Tally}
use Rattle.oath_node.proofs.TurnStepLemmas.{run_with_events-end}

pub same_run : (a : Run) → DoesTheSame a a
same_run a = record { node = refl; offers = refl; received = refl; replied = refl }

pub offers-append : (xs ys : List PortEvent) → offers_in (xs ++ ys) ≡ offers_in xs ++ offers_in ys
offers-append [] ys = refl
offers-append (Received sender bytes ∷ xs) ys = offers-append xs ys
offers-append (Quiet ∷ xs) ys = offers-append xs ys
offers-append (Faulted ∷ xs) ys = offers-append xs ys
offers-append (Offered to bytes ∷ xs) ys = ap (λ (l : List PortEvent). Offered to bytes ∷ l) (offers-append xs ys)

-- ---- One turn of both

same_received : (x : Receipt) (a b : Tally) → a.received ≡ b.received → (tally_with x a).received ≡ (tally_with x b).received
same_received (FromPeer from bytes) a b h = ap (λ (n : ℕ). n + 1) h
same_received (FromClient client bytes moment) a b h = ap (λ (n : ℕ). n + 1) h
same_received Nothing a b h = h
same_received Failure a b h = h

same_replied : (x : Receipt) (a b : Tally) → a.replied ≡ b.replied → (tally_with x a).replied ≡ (tally_with x b).replied
same_replied (FromPeer from bytes) a b h = h
same_replied (FromClient client bytes moment) a b h = h
same_replied Nothing a b h = h
same_replied Failure a b h = h

same_receipt : (x : Receipt) (a b : Run) → DoesTheSame a b → DoesTheSame (run_with_receipt x a) (run_with_receipt x b)
same_receipt x a b h = record {
  node = h.node;
  offers = offers-append a.entries (entry_of x ∷ [])
      ∙ ap (λ (l : List PortEvent). l ++ offers_in (entry_of x ∷ [])) h.offers ∙ sym (offers-append b.entries (entry_of x ∷ []));
  received = same_received x a.tally b.tally h.received;
  replied = same_replied x a.tally b.tally h.replied;
}

abbrev offered_by : Member → NodeEvent → NodeState → List PortEvent
offered_by member event node =
    map offer_of (outputs_of member.key member.place (made_by_event member.config member.place event node)).items

same_event : (member : Member) (event : NodeEvent) (a b : Run) → DoesTheSame a b
    → DoesTheSame (run_with_event member event a) (run_with_event member event b)
same_event member event a b h = record {
  node = ap (λ (n : NodeState). (made_by_event member.config member.place event n).state) h.node;
  offers = offers-append a.entries (offered_by member event a.node)
      ∙ ap (λ (l : List PortEvent). l ++ offers_in (offered_by member event a.node)) h.offers
      ∙ ap (λ (n : NodeState). offers_in b.entries ++ offers_in (offered_by member event n)) h.node
      ∙ sym (offers-append b.entries (offered_by member event b.node));
  received = h.received;
  replied = ap (λ (n : ℕ). n + length (made_by_event member.config member.place event a.node).replies) h.replied
      ∙ ap (λ (n : NodeState). b.tally.replied + length (made_by_event member.config member.place event n).replies) h.node;
}

same_events : (member : Member) (events : List NodeEvent) (a b : Run) → DoesTheSame a b
    → DoesTheSame (run_with_events member events a) (run_with_events member events b)
same_events member [] a b h = h
same_events member (event ∷ events) a b h =
    same_events member events (run_with_event member event a) (run_with_event member event b) (same_event member event a b h)

same_turn : (member : Member) (x : Receipt) (a b : Run) → DoesTheSame a b
    → DoesTheSame (run_with_turn member x a) (run_with_turn member x b)
same_turn member x a b h =
    let k = same_receipt x a b h in
    subst (λ (n : ℕ). DoesTheSame (run_with_turn member x a) (run_with_events member (events_of_turn member.key n x) (run_with_receipt x b)))
    k.received
    (same_events member (events_of_turn member.key (run_with_receipt x a).tally.received x) (run_with_receipt x a) (run_with_receipt x b) k)

failure_turn : (member : Member) (a b : Run) → DoesTheSame a b → DoesTheSame (run_with_turn member Failure a) b
failure_turn member a b h = record {
  node = h.node;
  offers = offers-append a.entries (Faulted ∷ []) ∙ append-nil (offers_in a.entries) ∙ h.offers;
  received = h.received;
  replied = h.replied;
}

-- ---- Whether both runs continue

-- the claim holds if the run has ended, and if it continues
going_by : (e : Option ServeFault) (next a : Run) (P : Run → Type 0) → a.end ≡ e → (P a → a.end ≡ None) → P (while_going e next a)
    → a.end ≡ None
going_by None next a P is more k = is
going_by (Some fault) next a P is more k = more k

-- a run that continues at the end also continued before
was_going : (member : Member) (xs : List Receipt) (a : Run) → (run_with_turns member xs a).end ≡ None → a.end ≡ None
was_going member [] a h = h
was_going member (x ∷ xs) a h =
    going_by a.end (run_with_turn member x a) a (λ (r : Run). (run_with_turns member xs r).end ≡ None) refl (was_going member xs a) h

turn_end : (member : Member) (x : Receipt) (a : Run) → (run_with_turn member x a).end ≡ end_with x (tally_with x a.tally)
turn_end member x a =
    run_with_events-end member (events_of_turn member.key (run_with_receipt x a).tally.received x) (run_with_receipt x a)

-- ---- Turns one after the other

-- so it is with these turns, from any two runs that did the same
abbrev IsSoWith : Member → List Receipt → Type 0
IsSoWith member xs = (a b : Run) → DoesTheSame a b → a.end ≡ None → b.end ≡ None → (run_with_turns member xs a).end ≡ None
    → DoesTheSame (run_with_turns member xs a) (run_with_turns member (without_failures xs) b)

-- a turn of both, and those that are left
both_turn : (member : Member) (x : Receipt) (xs : List Receipt) (a b : Run) → IsSoWith member xs → DoesTheSame a b → a.end ≡ None → b.end ≡ None
    → ((t u : Tally) → end_with x t ≡ None → end_with x u ≡ None)
    → (run_with_turns member (x ∷ xs) a).end ≡ None
    → DoesTheSame (run_with_turns member (x ∷ xs) a) (run_with_turns member (x ∷ without_failures xs) b)
both_turn member x xs a b more h a_goes b_goes alike end =
    let next = run_with_turn member x a in
    let next_b = run_with_turn member x b in
    let step : while_going a.end next a ≡ next = ap (λ (e : Option ServeFault). while_going e next a) a_goes in
    let step_b : while_going b.end next_b b ≡ next_b = ap (λ (e : Option ServeFault). while_going e next_b b) b_goes in
    let later : (run_with_turns member xs next).end ≡ None =
    subst (λ (r : Run). (run_with_turns member xs r).end ≡ None) step end in
    let goes = was_going member xs next later in
    let goes_b : next_b.end ≡ None =
    turn_end member x b ∙ alike (tally_with x a.tally) (tally_with x b.tally) (sym (turn_end member x a) ∙ goes) in
    subst (λ (r : Run). DoesTheSame (run_with_turns member xs r) (run_with_turns member (x ∷ without_failures xs) b)) (sym step)
    (subst (λ (r : Run). DoesTheSame (run_with_turns member xs next) (run_with_turns member (without_failures xs) r)) (sym step_b)
    (more next next_b (same_turn member x a b h) goes goes_b later))

pub faults_out : (member : Member) (xs : List Receipt) → IsSoWith member xs
faults_out member [] a b h a_goes b_goes end = h
faults_out member (FromPeer from bytes ∷ xs) a b h a_goes b_goes end =
    both_turn member (FromPeer from bytes) xs a b (faults_out member xs) h a_goes b_goes (λ t u e. refl) end
faults_out member (FromClient client bytes (Some moment) ∷ xs) a b h a_goes b_goes end =
    both_turn member (FromClient client bytes (Some moment)) xs a b (faults_out member xs) h a_goes b_goes (λ t u e. refl) end
faults_out member (FromClient client bytes None ∷ xs) a b h a_goes b_goes end =
    both_turn member (FromClient client bytes None) xs a b (faults_out member xs) h a_goes b_goes (λ t u e. e) end
faults_out member (Nothing ∷ xs) a b h a_goes b_goes end =
    both_turn member Nothing xs a b (faults_out member xs) h a_goes b_goes (λ t u e. refl) end
faults_out member (Failure ∷ xs) a b h a_goes b_goes end =
    let next = run_with_turn member Failure a in
    let step : while_going a.end next a ≡ next = ap (λ (e : Option ServeFault). while_going e next a) a_goes in
    let later : (run_with_turns member xs next).end ≡ None =
    subst (λ (r : Run). (run_with_turns member xs r).end ≡ None) step end in
    subst (λ (r : Run). DoesTheSame (run_with_turns member xs r) (run_with_turns member (without_failures xs) b)) (sym step)
    (faults_out member xs next b (failure_turn member a b h) (was_going member xs next later) b_goes later)
