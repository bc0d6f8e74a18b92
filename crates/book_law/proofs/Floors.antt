-- The floors that the inputs of a history tell, as messages that were on their way from the start.
use Rattle.std.proofs.Common.{◌≡◌, ◌≢◌, ℕ, zero, suc, ◌<◌, ◌≤◌, ⊎_elim, true, cond, not, ◌&&◌, List, [], ◌∷◌, ◌++◌, Some, None, refl, sym, ap, subst, arith, eqb, leb}
use Rattle.std.specs.List.{slice_get}
use Rattle.std.proofs.lemmas.Bool.{and_parts, cases_eq, cond_both, eqb-false, leb-true, not-true}
use Rattle.vote_core.specs.Books.{blank_opening}
use Rattle.vote_core.specs.Safety.{IsDeliverable, IsOfEarlierBoot, MayOpen}
use Rattle.vote_core.specs.Schedule.{Envelope, is_member}
use Rattle.vote_core.specs.declared.message.Message.{Message}
use Rattle.vote_core.specs.declared.message.Message.TheVariants.{Ask, Grant, Deny, Floor}
use Rattle.vote_core.proofs.Basics.{Each, each_append, each_get, each_weaker}
use Rattle.oath_node.specs.Machine.{NodeEvent, Client, Peer, Tick}
use Rattle.cluster_sim.proofs.Owners.{get_more}
use Rattle.book_law.specs.Lives.{Action, Opens, FailsToOpen, Takes, Offers, Stops, StopsIn, Loses, Remakes, Enrols, Unlocks, OpensGate, Raises, Setting}
use Rattle.book_law.proofs.Effects.{FloorsSent, FloorsSentIn, HasSent, may_tell}
use Rattle.book_law.proofs.Fits.{get_after}

-- ---- the messages

-- the floor of each of the first tokens, from a node to another
abbrev floors_below : ℕ → ℕ → ℕ → ℕ → List Envelope
floors_below from i floor zero = []
floors_below from i floor (suc token) = record { sender = from; receiver = i; message = Floor token floor } ∷ floors_below from i floor token

abbrev told_in : Setting → ℕ → ℕ → Message → List Envelope
told_in setting i from (Floor number floor) = cond (may_tell setting.n from i) (floors_below from i floor setting.tokens) []
told_in setting i from message = []

abbrev told_by : Setting → ℕ → NodeEvent → List Envelope
told_by setting i (Peer from (Some l)) = told_in setting i from l.message
told_by setting i input = []

abbrev told_by_action : Setting → Action → List Envelope
told_by_action setting (Takes i input) = told_by setting i input
told_by_action setting (StopsIn i kept input) = told_by setting i input
told_by_action setting d = []

-- the floors that the inputs of the actions may tell, each under every token
abbrev pub told_of : Setting → List Action → List Envelope
told_of setting [] = []
told_of setting (d ∷ history) = told_by_action setting d ++ told_of setting history

-- ---- they are enough

-- the floor that an action's input tells, if any, was sent
abbrev pub FloorsSentBy : Setting → List Envelope → Action → Type 0
FloorsSentBy setting sent (Takes i input) = FloorsSent setting.tokens setting.n sent i input
FloorsSentBy setting sent (StopsIn i kept input) = FloorsSent setting.tokens setting.n sent i input
FloorsSentBy setting sent d = Unit {0}

floors_there : (from i floor tokens token : ℕ) → token < tokens → HasSent (floors_below from i floor tokens) (record { sender = from; receiver = i; message = Floor token floor })
floors_there from i floor zero token low = absurd (omega (arith, low))
floors_there from i floor (suc other) token low =
    ⊎_elim
    (λ (same : token ≡ other). (0, ap (λ z. Some (record { sender = from; receiver = i; message = Floor z floor })) (sym same)))
    (λ (ne : token ≡ other → ⊥). let rest = floors_there from i floor other token (omega (arith, low, ne)) in (suc rest.0, rest.1))
    (cases_eq token other)

in_message : (setting : Setting) (sent : List Envelope) (i from : ℕ) (m : Message) → ((l : Envelope) → HasSent (told_in setting i from m) l → HasSent sent l) → FloorsSentIn setting.tokens setting.n sent i from m
in_message setting sent i from (Ask p t span) h = tt
in_message setting sent i from (Grant p t span) h = tt
in_message setting sent i from (Deny p t next) h = tt
in_message setting sent i from (Floor number floor) h = λ token low may.
    h (record { sender = from; receiver = i; message = Floor token floor })
    (subst (λ b. HasSent (cond b (floors_below from i floor setting.tokens) []) (record { sender = from; receiver = i; message = Floor token floor })) (sym may)
    (floors_there from i floor setting.tokens token low))

in_input : (setting : Setting) (sent : List Envelope) (i : ℕ) (input : NodeEvent) → ((l : Envelope) → HasSent (told_by setting i input) l → HasSent sent l) → FloorsSent setting.tokens setting.n sent i input
in_input setting sent i (Client client moment line) h = tt
in_input setting sent i (Peer from None) h = tt
in_input setting sent i (Peer from (Some l)) h = in_message setting sent i from l.message h
in_input setting sent i Tick h = tt

in_action : (setting : Setting) (sent : List Envelope) (d : Action) → ((l : Envelope) → HasSent (told_by_action setting d) l → HasSent sent l) → FloorsSentBy setting sent d
in_action setting sent (Opens i terms) h = tt
in_action setting sent (FailsToOpen i raised) h = tt
in_action setting sent (Takes i input) h = in_input setting sent i input h
in_action setting sent (Offers i) h = tt
in_action setting sent (Stops i) h = tt
in_action setting sent (StopsIn i kept input) h = in_input setting sent i input h
in_action setting sent (Loses i) h = tt
in_action setting sent (Remakes i boot given floor) h = tt
in_action setting sent (Enrols i t floor) h = tt
in_action setting sent (Unlocks i t) h = tt
in_action setting sent (OpensGate i t) h = tt
in_action setting sent (Raises i t floor) h = tt

in_history : (setting : Setting) (sent : List Envelope) (history : List Action) → ((l : Envelope) → HasSent (told_of setting history) l → HasSent sent l) → Each (FloorsSentBy setting sent) history
in_history setting sent [] h = tt
in_history setting sent (d ∷ history) h = (
  in_action setting sent d (λ l k. h l (k.0, get_more (told_by_action setting d) (told_of setting history) k.0 l k.1)),
  in_history setting sent history (λ l k. h l (get_after (told_by_action setting d) (told_of setting history) k.0 l k.1)),
)

pub told_sent : (setting : Setting) (former : List Envelope) (history : List Action) → Each (FloorsSentBy setting (former ++ told_of setting history)) history
told_sent setting former history = in_history setting (former ++ told_of setting history) history (λ l k. get_after former (told_of setting history) k.0 l k.1)

-- what was sent is still sent
message_grows : (tokens n : ℕ) (sent later : List Envelope) (i from : ℕ) (m : Message) → ((l : Envelope) → HasSent sent l → HasSent later l) → FloorsSentIn tokens n sent i from m → FloorsSentIn tokens n later i from m
message_grows tokens n sent later i from (Ask p t span) grows h = tt
message_grows tokens n sent later i from (Grant p t span) grows h = tt
message_grows tokens n sent later i from (Deny p t next) grows h = tt
message_grows tokens n sent later i from (Floor number floor) grows h = λ token low may. grows (record { sender = from; receiver = i; message = Floor token floor }) (h token low may)

input_grows : (tokens n : ℕ) (sent later : List Envelope) (i : ℕ) (input : NodeEvent) → ((l : Envelope) → HasSent sent l → HasSent later l) → FloorsSent tokens n sent i input → FloorsSent tokens n later i input
input_grows tokens n sent later i (Client client moment line) grows h = tt
input_grows tokens n sent later i (Peer from None) grows h = tt
input_grows tokens n sent later i (Peer from (Some l)) grows h = message_grows tokens n sent later i from l.message grows h
input_grows tokens n sent later i Tick grows h = tt

action_grows : (setting : Setting) (sent later : List Envelope) → ((l : Envelope) → HasSent sent l → HasSent later l) → (d : Action) → FloorsSentBy setting sent d → FloorsSentBy setting later d
action_grows setting sent later grows (Opens i terms) h = tt
action_grows setting sent later grows (FailsToOpen i raised) h = tt
action_grows setting sent later grows (Takes i input) h = input_grows setting.tokens setting.n sent later i input grows h
action_grows setting sent later grows (Offers i) h = tt
action_grows setting sent later grows (Stops i) h = tt
action_grows setting sent later grows (StopsIn i kept input) h = input_grows setting.tokens setting.n sent later i input grows h
action_grows setting sent later grows (Loses i) h = tt
action_grows setting sent later grows (Remakes i boot given floor) h = tt
action_grows setting sent later grows (Enrols i t floor) h = tt
action_grows setting sent later grows (Unlocks i t) h = tt
action_grows setting sent later grows (OpensGate i t) h = tt
action_grows setting sent later grows (Raises i t floor) h = tt

pub all_grow : (setting : Setting) (sent later : List Envelope) (history : List Action) → ((l : Envelope) → HasSent sent l → HasSent later l) → Each (FloorsSentBy setting sent) history → Each (FloorsSentBy setting later) history
all_grow setting sent later history grows h = each_weaker (FloorsSentBy setting sent) (FloorsSentBy setting later) (action_grows setting sent later grows) history h

-- ---- they may be on their way from the start

abbrev MayBeOld : Setting → (ℕ → ℕ) → Envelope → Type 0
MayBeOld setting boot l = IsDeliverable setting.n setting.tokens l × IsOfEarlierBoot boot l.message

members_of : (n from i : ℕ) → may_tell n from i ≡ true → (from ≢ i) × (is_member n from ≡ true) × (is_member n i ≡ true)
members_of n from i may =
    let a = and_parts (not (eqb from i)) (is_member n from && is_member n i) may in
    let b = and_parts (is_member n from) (is_member n i) a.1 in
    (eqb-false from i (not-true (eqb from i) a.0), b.0, b.1)

old_floor : (setting : Setting) (boot : ℕ → ℕ) (from i floor token : ℕ) → may_tell setting.n from i ≡ true → token < setting.tokens → MayBeOld setting boot (record { sender = from; receiver = i; message = Floor token floor })
old_floor setting boot from i floor token may low =
    let both = members_of setting.n from i may in
    let sender = and_parts (leb 1 from) (leb from setting.n) both.1 in
    let receiver = and_parts (leb 1 i) (leb i setting.n) both.2 in (
      record {
        first = leb-true 1 i receiver.0;
        last = leb-true i setting.n receiver.1;
        other = record { first = leb-true 1 from sender.0; last = leb-true from setting.n sender.1; other = both.0 };
        fits = low;
      },
      tt,
    )

old_floors : (setting : Setting) (boot : ℕ → ℕ) (from i floor tokens : ℕ) → may_tell setting.n from i ≡ true → tokens ≤ setting.tokens → Each (MayBeOld setting boot) (floors_below from i floor tokens)
old_floors setting boot from i floor zero may few = tt
old_floors setting boot from i floor (suc token) may few = (old_floor setting boot from i floor token may (omega (arith, few)), old_floors setting boot from i floor token may (omega (arith, few)))

old_message : (setting : Setting) (boot : ℕ → ℕ) (i from : ℕ) (m : Message) → Each (MayBeOld setting boot) (told_in setting i from m)
old_message setting boot i from (Ask p t span) = tt
old_message setting boot i from (Grant p t span) = tt
old_message setting boot i from (Deny p t next) = tt
old_message setting boot i from (Floor number floor) =
    cond_both (may_tell setting.n from i) (floors_below from i floor setting.tokens) [] (Each (MayBeOld setting boot)) (λ may. old_floors setting boot from i floor setting.tokens may (omega arith)) (λ _. tt)

old_input : (setting : Setting) (boot : ℕ → ℕ) (i : ℕ) (input : NodeEvent) → Each (MayBeOld setting boot) (told_by setting i input)
old_input setting boot i (Client client moment line) = tt
old_input setting boot i (Peer from None) = tt
old_input setting boot i (Peer from (Some l)) = old_message setting boot i from l.message
old_input setting boot i Tick = tt

old_action : (setting : Setting) (boot : ℕ → ℕ) (d : Action) → Each (MayBeOld setting boot) (told_by_action setting d)
old_action setting boot (Opens i terms) = tt
old_action setting boot (FailsToOpen i raised) = tt
old_action setting boot (Takes i input) = old_input setting boot i input
old_action setting boot (Offers i) = tt
old_action setting boot (Stops i) = tt
old_action setting boot (StopsIn i kept input) = old_input setting boot i input
old_action setting boot (Loses i) = tt
old_action setting boot (Remakes i boot' given floor) = tt
old_action setting boot (Enrols i t floor) = tt
old_action setting boot (Unlocks i t) = tt
old_action setting boot (OpensGate i t) = tt
old_action setting boot (Raises i t floor) = tt

old_history : (setting : Setting) (boot : ℕ → ℕ) (history : List Action) → Each (MayBeOld setting boot) (told_of setting history)
old_history setting boot [] = tt
old_history setting boot (d ∷ history) = each_append (MayBeOld setting boot) (told_by_action setting d) (told_of setting history) (old_action setting boot d) (old_history setting boot history)

each_from : (P : Envelope → Type 0) (ls : List Envelope) → ((i : ℕ) (l : Envelope) → slice_get ls i ≡ Some l → P l) → Each P ls
each_from P [] h = tt
each_from P (l ∷ ls) h = (h 0 l refl, each_from P ls (λ i m at. h (suc i) m at))

pub told_may : (setting : Setting) (boot : ℕ → ℕ) (former : List Envelope) (history : List Action) → MayOpen setting.n setting.tokens (blank_opening boot former)
    → MayOpen setting.n setting.tokens (blank_opening boot (former ++ told_of setting history))
told_may setting boot former history may i l at =
    each_get (MayBeOld setting boot) (former ++ told_of setting history) i l
    (each_append (MayBeOld setting boot) former (told_of setting history) (each_from (MayBeOld setting boot) former may) (old_history setting boot history)) at
