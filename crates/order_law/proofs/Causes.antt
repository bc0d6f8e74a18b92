-- If each vote that is heard was said before, each input that is taken is genuine.
use Rattle.std.proofs.Common.{◌≡◌, ℕ, suc, zero, Bool, true, false, cond, List, [], ◌∷◌, ◌++◌, length, map, Option, Some, None, refl, sym, ap, ◌∙◌, subst, ◌<◌}
use Rattle.std.specs.List.{slice_get}
use Rattle.std.proofs.lemmas.List.{append-nil}
use Rattle.std.proofs.lemmas.Option.{none-some}
use Rattle.vote_core.specs.Schedule.{Envelope, is_member}
use Rattle.oath_node.specs.Hosted.{envelope_at}
use Rattle.oath_node.specs.Machine.{NodeEvent, NodeState, Client, Peer, Tick, token_of}
use Rattle.oath_node.specs.Turns.{Receipt, FromPeer, FromClient, Nothing, Failure, events_of_turn, received_with}
use Rattle.book_law.specs.Lives.{Action, Opens, FailsToOpen, Takes, Offers, Stops, StopsIn, Loses as LosesStore, Remakes, Enrols, Unlocks, OpensGate, Raises, AreGenuine, IsGenuine, IsGenuineAction, IsGenuineAt, IsHistory, IsOfVote, Output, Sealed, Setting, State, Store, Terms, ToClient, ToPeer, Up, WasOffered, first_state, has_store, named_envelope, process_after, state_after, state_after_action}
use Rattle.book_law.specs.Uses.{IsWriting}
use Rattle.book_law.proofs.Own.{number_after}
use Rattle.book_law.proofs.Serving.{can_there, store_left}
use Rattle.order_law.specs.Interleavings.{AreCaused, AreOfMembers, IsCausal, IsCaused, Item, Said, Stands, ToMemberSaid, ToClientSaid, WasSaid, first_place, history_of, places_after, said_before, said_by, said_by_output}
use Rattle.order_law.specs.Steps.{Closed, Commits, Does, Ends, Gets, Gone, Hears, IsStep, Loses, Open, Pauses, Place, Says, Live, Starts, Step, actions_of, is_gone, place_after, takings}
use Rattle.order_law.proofs.Walk.{AllMay, AllSteps, Holds, action_is, action_process, all_may, at_place, first_holds, first_step, rest_steps, step_holds, stored}

-- ---- what a process heard

-- an envelope of a vote that is read was said before
abbrev IsKnown : Terms → List Said → NodeEvent → Type 0
IsKnown terms said (Client client moment line) = Unit {0}
IsKnown terms said (Peer from None) = Unit {0}
IsKnown terms said (Peer from (Some envelope)) =
    envelope.sender ≡ from → IsOfVote envelope.message → token_of envelope.message < length terms.seats → WasSaid said (record { key = terms.key; envelope = named_envelope terms.seats envelope })
IsKnown terms said Tick = Unit {0}

abbrev AreKnown : Terms → List Said → List NodeEvent → Type 0
AreKnown terms said [] = Unit {0}
AreKnown terms said (input ∷ inputs) = IsKnown terms said input × AreKnown terms said inputs

-- what the node heard is known
abbrev Knows : List Said → Place → Type 0
Knows said (Closed store) = Unit {0}
Knows said (Gone former) = Unit {0}
Knows said (Open s) = AreKnown s.terms said s.heard

still_there : {A : Type 0} (xs ys : List A) (k : ℕ) (x : A) → slice_get xs k ≡ Some x → slice_get (xs ++ ys) k ≡ Some x
still_there [] ys k x e = absurd (none-some x e)
still_there (z ∷ xs) ys zero x e = e
still_there (z ∷ xs) ys (suc k) x e = still_there xs ys k x e

still_said : (said more : List Said) (sealed : Sealed) → WasSaid said sealed → WasSaid (said ++ more) sealed
still_said said more sealed was = record { place = was.place; is_there = still_there said more was.place (ToMemberSaid sealed) was.is_there }

still_known : (terms : Terms) (said more : List Said) (inputs : List NodeEvent) → AreKnown terms said inputs → AreKnown terms (said ++ more) inputs
still_known terms said more [] h = tt
still_known terms said more (Client client moment line ∷ inputs) h = (tt, still_known terms said more inputs h.1)
still_known terms said more (Peer from None ∷ inputs) h = (tt, still_known terms said more inputs h.1)
still_known terms said more (Peer from (Some envelope) ∷ inputs) h =
    ((λ own vote low. still_said said more (record { key = terms.key; envelope = named_envelope terms.seats envelope }) (h.0 own vote low)), still_known terms said more inputs h.1)
still_known terms said more (Tick ∷ inputs) h = (tt, still_known terms said more inputs h.1)

both_known : (terms : Terms) (said : List Said) (xs ys : List NodeEvent) → AreKnown terms said xs → AreKnown terms said ys → AreKnown terms said (xs ++ ys)
both_known terms said [] ys h k = k
both_known terms said (x ∷ xs) ys h k = (h.0, both_known terms said xs ys h.1 k)

first_known : (terms : Terms) (said : List Said) (xs ys : List NodeEvent) → AreKnown terms said (xs ++ ys) → AreKnown terms said xs
first_known terms said [] ys h = tt
first_known terms said (x ∷ xs) ys h = (h.0, first_known terms said xs ys h.1)

tick_known : (terms : Terms) (said : List Said) (b : Bool) → AreKnown terms said (cond b (Tick ∷ []) [])
tick_known terms said true = (tt, tt)
tick_known terms said false = tt

peer_known : (terms : Terms) (said : List Said) (from : ℕ) (o : Option Envelope)
    → ((envelope : Envelope) → o ≡ Some envelope → envelope.sender ≡ from → IsOfVote envelope.message → token_of envelope.message < length terms.seats → WasSaid said (record { key = terms.key; envelope = named_envelope terms.seats envelope }))
    → IsKnown terms said (Peer from o)
peer_known terms said from None h = tt
peer_known terms said from (Some envelope) h = h envelope refl

turn_known : (s : Live) (said : List Said) (count : ℕ) (receipt : Receipt) → IsCaused (Open s) said (Hears receipt) → AreKnown s.terms said (events_of_turn s.port count receipt)
turn_known s said count (FromPeer from bytes) h = (peer_known s.terms said from (envelope_at s.port bytes) h, tick_known s.terms said _)
turn_known s said count (FromClient client bytes (Some moment)) h = (tt, tick_known s.terms said _)
turn_known s said count (FromClient client bytes None) h = tt
turn_known s said count Nothing h = (tt, tt)
turn_known s said count Failure h = tt

-- a node knows what it heard after its own step
step_known : (setting : Setting) (node : ℕ) (place : Place) (step : Step) (said more : List Said) → IsStep setting node place step → IsCaused place said step → Knows said place → Knows (said ++ more) (place_after setting node place step)
step_known setting node (Closed store) (Starts terms port) said more is caused knows = tt
step_known setting node (Closed store) (Does d) said more is caused knows = tt
step_known setting node (Closed store) (Hears receipt) said more is caused knows = absurd is
step_known setting node (Closed store) (Commits inputs) said more is caused knows = absurd is
step_known setting node (Closed store) (Says telling) said more is caused knows = absurd is
step_known setting node (Closed store) (Pauses cleared) said more is caused knows = absurd is
step_known setting node (Closed store) (Ends kept) said more is caused knows = absurd is
step_known setting node (Open s) (Starts terms port) said more is caused knows = absurd is
step_known setting node (Open s) (Does d) said more is caused knows = absurd is
step_known setting node (Open s) (Hears receipt) said more is caused knows =
    let count = received_with receipt s.received in
    still_known s.terms said more (s.heard ++ events_of_turn s.port count receipt)
    (both_known s.terms said s.heard (events_of_turn s.port count receipt) knows (turn_known s said count receipt caused))
step_known setting node (Open s) (Commits inputs) said more is caused knows = tt
step_known setting node (Open s) (Says telling) said more is caused knows = still_known s.terms said more s.heard knows
step_known setting node (Open s) (Pauses cleared) said more is caused knows = still_known s.terms said more s.heard knows
step_known setting node (Open s) (Ends kept) said more is caused knows = tt
step_known setting node (Closed store) Loses said more is caused knows = tt
step_known setting node (Open s) Loses said more is caused knows = tt
step_known setting node (Gone store) (Gets boot given floor) said more is caused knows = tt
step_known setting node (Closed store) (Gets boot given floor) said more is caused knows = absurd is
step_known setting node (Open s) (Gets boot given floor) said more is caused knows = absurd is
step_known setting node (Gone store) (Starts terms port) said more is caused knows = absurd is
step_known setting node (Gone store) (Hears receipt) said more is caused knows = absurd is
step_known setting node (Gone store) (Commits inputs) said more is caused knows = absurd is
step_known setting node (Gone store) (Says telling) said more is caused knows = absurd is
step_known setting node (Gone store) (Pauses cleared) said more is caused knows = absurd is
step_known setting node (Gone store) (Ends kept) said more is caused knows = absurd is
step_known setting node (Gone store) (Does d) said more is caused knows = absurd is
step_known setting node (Gone store) Loses said more is caused knows = absurd is

other_known : (said more : List Said) (place : Place) → Knows said place → Knows (said ++ more) place
other_known said more (Closed store) knows = tt
other_known said more (Gone store) knows = tt
other_known said more (Open s) knows = still_known s.terms said more s.heard knows

-- ---- what was said was offered

no_client : (sealed : Sealed) (node client : ℕ) (bytes : List ℕ) → Some (ToClientSaid node client bytes) ≡ Some (ToMemberSaid sealed) → ⊥
no_client sealed node client bytes e = cc

same_sealed : (one sealed : Sealed) → Some (ToMemberSaid one) ≡ Some (ToMemberSaid sealed) → Some (ToPeer one) ≡ Some (ToPeer sealed)
same_sealed one sealed e = cc

was_there : (offered : List Output) (k : ℕ) (sealed : Sealed) → slice_get (map said_by_output offered) k ≡ Some (ToMemberSaid sealed) → slice_get offered k ≡ Some (ToPeer sealed)
was_there [] k sealed e = absurd (none-some (ToMemberSaid sealed) e)
was_there (ToPeer one ∷ offered) zero sealed e = same_sealed one sealed e
was_there (ToClient answer ∷ offered) zero sealed e = absurd (no_client sealed answer.node answer.client answer.bytes e)
was_there (output ∷ offered) (suc k) sealed e = was_there offered k sealed e

was_offered : (offered : List Output) (said : List Said) (sealed : Sealed) → map said_by_output offered ≡ said → WasSaid said sealed → WasOffered offered sealed
was_offered offered said sealed same was =
    record { place = was.place; is_there = was_there offered was.place sealed (ap (λ l. slice_get l was.place) same ∙ was.is_there) }

-- inputs are genuine if they are known
abbrev AllGenuine : Terms → List Output → List NodeEvent → Type 0
AllGenuine terms offered [] = Unit {0}
AllGenuine terms offered (input ∷ inputs) = IsGenuine terms offered input × AllGenuine terms offered inputs

known_genuine : (terms : Terms) (offered : List Output) (said : List Said) (inputs : List NodeEvent) → map said_by_output offered ≡ said → AreKnown terms said inputs → AllGenuine terms offered inputs
known_genuine terms offered said [] same h = tt
known_genuine terms offered said (Client client moment line ∷ inputs) same h = (tt, known_genuine terms offered said inputs same h.1)
known_genuine terms offered said (Peer from None ∷ inputs) same h = (tt, known_genuine terms offered said inputs same h.1)
known_genuine terms offered said (Peer from (Some envelope) ∷ inputs) same h =
    ((λ own vote low. was_offered offered said (record { key = terms.key; envelope = named_envelope terms.seats envelope }) same (h.0 own vote low)), known_genuine terms offered said inputs same h.1)
known_genuine terms offered said (Tick ∷ inputs) same h = (tt, known_genuine terms offered said inputs same h.1)

-- ---- the actions of a step are genuine

both_genuine : (setting : Setting) (e : ℕ) (xs ys : List Action) (state : State) → AreGenuine setting e xs state → AreGenuine setting (number_after xs e) ys (state_after setting e xs state) → AreGenuine setting e (xs ++ ys) state
unfolding AreGenuine state_after
both_genuine setting e [] ys state h k = k
both_genuine setting e (x ∷ xs) ys state h k = (h.0, both_genuine setting (suc e) xs ys (state_after_action setting e x state) h.1 k)

takings_genuine : (setting : Setting) (e node : ℕ) (inputs : List NodeEvent) (state : State) (terms : Terms) (below : Store) (s : NodeState) (waiting : List Output) → has_store setting state node ≡ true
    → state.processes node ≡ Up terms below s waiting → AllGenuine terms state.offered inputs → AreGenuine setting e (takings node inputs) state
unfolding AreGenuine
takings_genuine setting e node [] state terms below s waiting store is all = tt
takings_genuine setting e node (input ∷ inputs) state terms below s waiting store is all =
    let d = Takes node input in
    let next = state_after_action setting e d state in
    let can = can_there setting state node d store tt refl in
    let after : next.processes node ≡ process_after setting e d (state.processes node) = action_process setting e node d state can refl in
    let same : next.offered ≡ state.offered = ap (λ (z : State). z.offered) (action_is setting e node d state can refl) ∙ append-nil state.offered in (
      subst (λ p. IsGenuineAt p state.offered input) (sym is) all.0,
      takings_genuine setting (suc e) node inputs next terms below _ _ (store_left setting e node d state store tt) (after ∙ ap (process_after setting e d) is)
          (subst (λ l. AllGenuine terms l inputs) (sym same) all.1),
    )

writing_genuine : (state : State) (node : ℕ) (d : Action) → IsWriting node d → IsGenuineAction state d
writing_genuine state node (Opens at terms) w = tt
writing_genuine state node (FailsToOpen at raised) w = tt
writing_genuine state node (Takes at input) w = absurd w
writing_genuine state node (Offers at) w = tt
writing_genuine state node (Stops at) w = tt
writing_genuine state node (StopsIn at kept input) w = absurd w
writing_genuine state node (LosesStore at) w = tt
writing_genuine state node (Remakes at boot given floor) w = tt
writing_genuine state node (Enrols at token floor) w = tt
writing_genuine state node (Unlocks at token) w = tt
writing_genuine state node (OpensGate at token) w = tt
writing_genuine state node (Raises at token floor) w = tt

step_genuine : (setting : Setting) (e node : ℕ) (place : Place) (step : Step) (state : State) (said : List Said) → is_member setting.n node ≡ true → state.lost node ≡ is_gone place → Stands node (state.processes node) place → map said_by_output state.offered ≡ said
    → Knows said place → IsStep setting node place step → AreGenuine setting e (actions_of node step) state
unfolding AreGenuine
step_genuine setting e node (Closed store) (Starts terms port) state said member lost stands same knows is = (tt, tt)
step_genuine setting e node (Closed store) (Does d) state said member lost stands same knows is = (writing_genuine state node d is, tt)
step_genuine setting e node (Closed store) (Hears receipt) state said member lost stands same knows is = absurd is
step_genuine setting e node (Closed store) (Commits inputs) state said member lost stands same knows is = absurd is
step_genuine setting e node (Closed store) (Says telling) state said member lost stands same knows is = absurd is
step_genuine setting e node (Closed store) (Pauses cleared) state said member lost stands same knows is = absurd is
step_genuine setting e node (Closed store) (Ends kept) state said member lost stands same knows is = absurd is
step_genuine setting e node (Open s) (Starts terms port) state said member lost stands same knows is = absurd is
step_genuine setting e node (Open s) (Does d) state said member lost stands same knows is = absurd is
step_genuine setting e node (Open s) (Hears receipt) state said member lost stands same knows is = tt
step_genuine setting e node (Open s) (Commits inputs) state said member lost stands same knows is =
    takings_genuine setting e node inputs state s.terms s.found s.state stands.0 (stored setting state node false member lost refl) stands.1
    (known_genuine s.terms state.offered said inputs same (subst (λ l. AreKnown s.terms said l) (sym is) knows))
step_genuine setting e node (Open s) (Says telling) state said member lost stands same knows is = (tt, tt)
step_genuine setting e node (Open s) (Pauses None) state said member lost stands same knows is = tt
step_genuine setting e node (Open s) (Pauses (Some token)) state said member lost stands same knows is = (tt, tt)
step_genuine setting e node (Open s) (Ends kept) state said member lost stands same knows is =
    both_genuine setting e (takings node kept) (Stops node ∷ []) state
    (takings_genuine setting e node kept state s.terms s.found s.state stands.0 (stored setting state node false member lost refl) stands.1
    (known_genuine s.terms state.offered said kept same (first_known s.terms said kept is.0 (subst (λ l. AreKnown s.terms said l) is.1 knows))))
    (tt, tt)
step_genuine setting e node (Closed store) Loses state said member lost stands same knows is = (tt, tt)
step_genuine setting e node (Open s) Loses state said member lost stands same knows is = (tt, tt)
step_genuine setting e node (Gone store) (Gets boot given floor) state said member lost stands same knows is = (tt, tt)
step_genuine setting e node (Closed store) (Gets boot given floor) state said member lost stands same knows is = absurd is
step_genuine setting e node (Open s) (Gets boot given floor) state said member lost stands same knows is = absurd is
step_genuine setting e node (Gone store) (Starts terms port) state said member lost stands same knows is = absurd is
step_genuine setting e node (Gone store) (Hears receipt) state said member lost stands same knows is = absurd is
step_genuine setting e node (Gone store) (Commits inputs) state said member lost stands same knows is = absurd is
step_genuine setting e node (Gone store) (Says telling) state said member lost stands same knows is = absurd is
step_genuine setting e node (Gone store) (Pauses cleared) state said member lost stands same knows is = absurd is
step_genuine setting e node (Gone store) (Ends kept) state said member lost stands same knows is = absurd is
step_genuine setting e node (Gone store) (Does d) state said member lost stands same knows is = absurd is
step_genuine setting e node (Gone store) Loses state said member lost stands same knows is = absurd is

-- ---- all items

all_genuine : (setting : Setting) (e : ℕ) (items : List Item) (state : State) (places : ℕ → Place) (said : List Said) → Holds setting state places said → ((node : ℕ) → is_member setting.n node ≡ true → Knows said (places node))
    → AreOfMembers setting items → AllSteps setting places items → AllMay setting e state items → AreCaused setting places said items → AreGenuine setting e (history_of items) state
unfolding AreGenuine
all_genuine setting e [] state places said h knows members all may caused = tt
all_genuine setting e (item ∷ items) state places said h knows members all may caused =
    let n = item.node in
    let ds = actions_of n item.step in
    let is = first_step setting places item items members.0 all in
    let more = said_by n (places n) item.step in
    let next = places_after setting places item in
    both_genuine setting e ds (history_of items) state
    (step_genuine setting e n (places n) item.step state said members.0 (h.lost n members.0) (h.stands n members.0) h.offered (knows n members.0) is)
    (all_genuine setting (number_after ds e) items (state_after setting e ds state) next (said ++ more) (step_holds setting e item state places said h members.0 is may.0)
    (λ m here.
    at_place n (place_after setting n (places n) item.step) places m (Knows (said ++ more))
    (λ same. step_known setting n (places n) item.step said more is caused.0 (knows n members.0))
    (λ differ. other_known said more (places m) (knows m here)))
    members.1 (rest_steps setting places item items members.0 all) may.1 caused.1)

pub is_history : (setting : Setting) (items : List Item) → IsCausal setting items → IsHistory setting (history_of items)
unfolding state_after
is_history setting items c = record {
  starts = c.starts;
  genuine = all_genuine setting 0 items (first_state setting) (first_place setting) (said_before setting) (first_holds setting) (λ node member. tt) c.is.members c.is.steps (all_may setting [] items c.is.replaced) c.caused;
}
