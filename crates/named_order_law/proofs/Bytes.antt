-- If each datagram of a vote that is heard was said before, byte for byte, each input that is taken is unforged.
use Rattle.std.proofs.Common.{◌≡◌, ℕ, suc, zero, Bool, true, false, cond, List, [], ◌∷◌, ◌++◌, map, Option, Some, None, refl, sym, ap, ◌∙◌, subst}
use Rattle.std.specs.List.{slice_get}
use Rattle.std.proofs.lemmas.List.{append-nil}
use Rattle.std.proofs.lemmas.Option.{none-some}
use Rattle.vote_core.specs.Schedule.{Envelope, is_member}
use Rattle.vote_wire.specs.Key.{bare}
use Rattle.named_port.specs.Translator.{TranslatorRecord}
use Rattle.oath_node.specs.Hosted.{envelope_at}
use Rattle.oath_node.specs.Machine.{NodeEvent, NodeState, Client, Peer, Tick}
use Rattle.oath_node.specs.Turns.{Receipt, FromPeer, FromClient, Nothing, Failure, events_of_turn, received_with}
use Rattle.book_law.specs.Lives.{Action, Opens, FailsToOpen, Takes, Offers, Stops, StopsIn, Loses as LosesStore, Remakes, Enrols, Unlocks, OpensGate, Raises, IsOfVote, Output, Sealed, Setting, State, Store, Terms, ToClient, ToPeer, Up, first_state, has_store, process_after, state_after, state_after_action}
use Rattle.book_law.specs.Uses.{IsWriting}
use Rattle.book_law.proofs.Own.{number_after}
use Rattle.book_law.proofs.Serving.{can_there, store_left}
use Rattle.name_law.specs.Datagrams.{IsTranslatorOf, handed_bytes}
use Rattle.name_law.specs.Unforged.{AreUnforged, IsUnforged, IsUnforgedAction, IsUnforgedAt, IsUnforgedHistory}
use Rattle.order_law.specs.Interleavings.{AreOfMembers, Item, Said, Stands, ToClientSaid, ToMemberSaid, first_place, history_of, places_after, said_before, said_by, said_by_output}
use Rattle.order_law.specs.Steps.{Closed, Commits, Does, Ends, Gets, Gone, Hears, IsStep, Loses, Open, Pauses, Place, Says, Live, Starts, Step, actions_of, is_gone, place_after, takings}
use Rattle.order_law.proofs.Walk.{AllMay, AllSteps, Holds, action_is, action_process, all_may, at_place, first_holds, first_step, rest_steps, step_holds, stored}
use Rattle.named_order_law.specs.Bytes.{AreUnforgedItems, IsInRange, IsUnforgedInterleaving, IsUnforgedStep, IsWriteInRange, WereSaid}

-- ---- what a process heard

record KnownRead (names : List (List ℕ)) (node : ℕ) (terms : Terms) (said : List Said) (from : ℕ) (read : Option Envelope) : Type 0 where
  translator : TranslatorRecord
  is_of : IsTranslatorOf names node terms translator
  bytes : List ℕ
  reads : read ≡ envelope_at bare (handed_bytes translator from bytes)
  unforged : (envelope : Envelope) → read ≡ Some envelope → IsOfVote envelope.message → WereSaid names terms.key said bytes

abbrev IsKnown : List (List ℕ) → ℕ → Terms → List Said → NodeEvent → Type 0
IsKnown names node terms said (Client client moment line) = Unit {0}
IsKnown names node terms said (Peer from read) = KnownRead names node terms said from read
IsKnown names node terms said Tick = Unit {0}

abbrev AreKnown : List (List ℕ) → ℕ → Terms → List Said → List NodeEvent → Type 0
AreKnown names node terms said [] = Unit {0}
AreKnown names node terms said (input ∷ inputs) = IsKnown names node terms said input × AreKnown names node terms said inputs

abbrev Knows : List (List ℕ) → ℕ → List Said → Place → Type 0
Knows names node said (Closed store) = Unit {0}
Knows names node said (Gone former) = Unit {0}
Knows names node said (Open s) = AreKnown names node s.terms said s.heard

still_there : {A : Type 0} (xs ys : List A) (k : ℕ) (x : A) → slice_get xs k ≡ Some x → slice_get (xs ++ ys) k ≡ Some x
still_there [] ys k x e = absurd (none-some x e)
still_there (z ∷ xs) ys zero x e = e
still_there (z ∷ xs) ys (suc k) x e = still_there xs ys k x e

still_said : (names : List (List ℕ)) (key : List ℕ) (said more : List Said) (bytes : List ℕ) → WereSaid names key said bytes → WereSaid names key (said ++ more) bytes
still_said names key said more bytes w = record {
  sealed = w.sealed;
  was = record { place = w.was.place; is_there = still_there said more w.was.place (ToMemberSaid w.sealed) w.was.is_there };
  key_is = w.key_is;
  boot = w.boot;
  boot_below = w.boot_below;
  bytes_are = w.bytes_are;
}

still_known : (names : List (List ℕ)) (node : ℕ) (terms : Terms) (said more : List Said) (inputs : List NodeEvent) → AreKnown names node terms said inputs → AreKnown names node terms (said ++ more) inputs
still_known names node terms said more [] h = tt
still_known names node terms said more (Client client moment line ∷ inputs) h = (tt, still_known names node terms said more inputs h.1)
still_known names node terms said more (Peer from read ∷ inputs) h = (
  record {
    translator = h.0.translator;
    is_of = h.0.is_of;
    bytes = h.0.bytes;
    reads = h.0.reads;
    unforged = λ envelope is vote. still_said names terms.key said more h.0.bytes (h.0.unforged envelope is vote);
  },
  still_known names node terms said more inputs h.1,
)
still_known names node terms said more (Tick ∷ inputs) h = (tt, still_known names node terms said more inputs h.1)

both_known : (names : List (List ℕ)) (node : ℕ) (terms : Terms) (said : List Said) (xs ys : List NodeEvent) → AreKnown names node terms said xs → AreKnown names node terms said ys → AreKnown names node terms said (xs ++ ys)
both_known names node terms said [] ys h k = k
both_known names node terms said (x ∷ xs) ys h k = (h.0, both_known names node terms said xs ys h.1 k)

first_known : (names : List (List ℕ)) (node : ℕ) (terms : Terms) (said : List Said) (xs ys : List NodeEvent) → AreKnown names node terms said (xs ++ ys) → AreKnown names node terms said xs
first_known names node terms said [] ys h = tt
first_known names node terms said (x ∷ xs) ys h = (h.0, first_known names node terms said xs ys h.1)

tick_known : (names : List (List ℕ)) (node : ℕ) (terms : Terms) (said : List Said) (b : Bool) → AreKnown names node terms said (cond b (Tick ∷ []) [])
tick_known names node terms said true = (tt, tt)
tick_known names node terms said false = tt

turn_known : (names : List (List ℕ)) (node : ℕ) (s : Live) (said : List Said) (count : ℕ) (receipt : Receipt) → IsUnforgedStep names node (Open s) said (Hears receipt) → AreKnown names node s.terms said (events_of_turn s.port count receipt)
turn_known names node s said count (FromPeer from bytes) h =
    let at : envelope_at s.port bytes ≡ envelope_at bare bytes = ap (λ k. envelope_at k bytes) h.port_is in (
      record {
        translator = h.translator;
        is_of = h.is_of;
        bytes = h.bytes;
        reads = at ∙ ap (envelope_at bare) h.handed_is;
        unforged = λ envelope is vote. h.unforged envelope (sym at ∙ is) vote;
      },
      tick_known names node s.terms said _,
    )
turn_known names node s said count (FromClient client bytes (Some moment)) h = (tt, tick_known names node s.terms said _)
turn_known names node s said count (FromClient client bytes None) h = tt
turn_known names node s said count Nothing h = (tt, tt)
turn_known names node s said count Failure h = tt

step_known : (setting : Setting) (names : List (List ℕ)) (node : ℕ) (place : Place) (step : Step) (said more : List Said) → IsStep setting node place step → IsUnforgedStep names node place said step → Knows names node said place
    → Knows names node (said ++ more) (place_after setting node place step)
step_known setting names node (Closed store) (Starts terms port) said more is caused knows = tt
step_known setting names node (Closed store) (Does d) said more is caused knows = tt
step_known setting names node (Closed store) Loses said more is caused knows = tt
step_known setting names node (Open s) (Hears receipt) said more is caused knows =
    let count = received_with receipt s.received in
    still_known names node s.terms said more (s.heard ++ events_of_turn s.port count receipt)
    (both_known names node s.terms said s.heard (events_of_turn s.port count receipt) knows (turn_known names node s said count receipt caused))
step_known setting names node (Open s) (Commits inputs) said more is caused knows = tt
step_known setting names node (Open s) (Says telling) said more is caused knows = still_known names node s.terms said more s.heard knows
step_known setting names node (Open s) (Pauses cleared) said more is caused knows = still_known names node s.terms said more s.heard knows
step_known setting names node (Open s) (Ends kept) said more is caused knows = tt
step_known setting names node (Open s) Loses said more is caused knows = tt
step_known setting names node (Gone store) (Gets boot given floor) said more is caused knows = tt
step_known setting names node (Closed store) (Hears receipt) said more is caused knows = absurd is
step_known setting names node (Closed store) (Commits inputs) said more is caused knows = absurd is
step_known setting names node (Closed store) (Says telling) said more is caused knows = absurd is
step_known setting names node (Closed store) (Pauses cleared) said more is caused knows = absurd is
step_known setting names node (Closed store) (Ends kept) said more is caused knows = absurd is
step_known setting names node (Closed store) (Gets boot given floor) said more is caused knows = absurd is
step_known setting names node (Open s) (Starts terms port) said more is caused knows = absurd is
step_known setting names node (Open s) (Does d) said more is caused knows = absurd is
step_known setting names node (Open s) (Gets boot given floor) said more is caused knows = absurd is
step_known setting names node (Gone store) (Starts terms port) said more is caused knows = absurd is
step_known setting names node (Gone store) (Hears receipt) said more is caused knows = absurd is
step_known setting names node (Gone store) (Commits inputs) said more is caused knows = absurd is
step_known setting names node (Gone store) (Says telling) said more is caused knows = absurd is
step_known setting names node (Gone store) (Pauses cleared) said more is caused knows = absurd is
step_known setting names node (Gone store) (Ends kept) said more is caused knows = absurd is
step_known setting names node (Gone store) (Does d) said more is caused knows = absurd is
step_known setting names node (Gone store) Loses said more is caused knows = absurd is

other_known : (names : List (List ℕ)) (node : ℕ) (said more : List Said) (place : Place) → Knows names node said place → Knows names node (said ++ more) place
other_known names node said more (Closed store) knows = tt
other_known names node said more (Gone store) knows = tt
other_known names node said more (Open s) knows = still_known names node s.terms said more s.heard knows

-- ---- what was said was offered

no_client : (sealed : Sealed) (node client : ℕ) (bytes : List ℕ) → Some (ToClientSaid node client bytes) ≡ Some (ToMemberSaid sealed) → ⊥
no_client sealed node client bytes e = cc

same_sealed : (one sealed : Sealed) → Some (ToMemberSaid one) ≡ Some (ToMemberSaid sealed) → Some (ToPeer one) ≡ Some (ToPeer sealed)
same_sealed one sealed e = cc

was_there : (offered : List Output) (k : ℕ) (sealed : Sealed) → slice_get (map said_by_output offered) k ≡ Some (ToMemberSaid sealed) → slice_get offered k ≡ Some (ToPeer sealed)
was_there [] k sealed e = absurd (none-some (ToMemberSaid sealed) e)
was_there (ToPeer one ∷ offered) zero sealed e = same_sealed one sealed e
was_there (ToClient answer ∷ offered) zero sealed e = absurd (no_client sealed answer.node answer.client answer.bytes e)
was_there (output ∷ offered) (suc k) sealed e = was_there offered k sealed e

abbrev AllUnforged : List (List ℕ) → ℕ → Terms → List Output → List NodeEvent → Type 0
AllUnforged names node terms offered [] = Unit {0}
AllUnforged names node terms offered (input ∷ inputs) = IsUnforged names node terms offered input × AllUnforged names node terms offered inputs

known_unforged : (names : List (List ℕ)) (node : ℕ) (terms : Terms) (offered : List Output) (said : List Said) (inputs : List NodeEvent) → map said_by_output offered ≡ said → AreKnown names node terms said inputs
    → AllUnforged names node terms offered inputs
known_unforged names node terms offered said [] same h = tt
known_unforged names node terms offered said (Client client moment line ∷ inputs) same h = (tt, known_unforged names node terms offered said inputs same h.1)
known_unforged names node terms offered said (Peer from read ∷ inputs) same h = (
  record {
    translator = h.0.translator;
    is_of = h.0.is_of;
    bytes = h.0.bytes;
    reads = h.0.reads;
    unforged = λ envelope is vote.
        let w = h.0.unforged envelope is vote in
        record {
          place = w.was.place;
          sealed = w.sealed;
          is_there = was_there offered w.was.place w.sealed (ap (λ l. slice_get l w.was.place) same ∙ w.was.is_there);
          key_is = w.key_is;
          boot = w.boot;
          boot_below = w.boot_below;
          bytes_are = w.bytes_are;
        };
  },
  known_unforged names node terms offered said inputs same h.1,
)
known_unforged names node terms offered said (Tick ∷ inputs) same h = (tt, known_unforged names node terms offered said inputs same h.1)

-- ---- the actions of a step are unforged

both_unforged : (names : List (List ℕ)) (setting : Setting) (e : ℕ) (xs ys : List Action) (state : State) → AreUnforged names setting e xs state → AreUnforged names setting (number_after xs e) ys (state_after setting e xs state)
    → AreUnforged names setting e (xs ++ ys) state
unfolding AreUnforged state_after
both_unforged names setting e [] ys state h k = k
both_unforged names setting e (x ∷ xs) ys state h k = (h.0, both_unforged names setting (suc e) xs ys (state_after_action setting e x state) h.1 k)

takings_unforged : (names : List (List ℕ)) (setting : Setting) (e node : ℕ) (inputs : List NodeEvent) (state : State) (terms : Terms) (below : Store) (s : NodeState) (waiting : List Output) → has_store setting state node ≡ true
    → state.processes node ≡ Up terms below s waiting → AllUnforged names node terms state.offered inputs → AreUnforged names setting e (takings node inputs) state
unfolding AreUnforged
takings_unforged names setting e node [] state terms below s waiting store is all = tt
takings_unforged names setting e node (input ∷ inputs) state terms below s waiting store is all =
    let d = Takes node input in
    let next = state_after_action setting e d state in
    let can = can_there setting state node d store tt refl in
    let after : next.processes node ≡ process_after setting e d (state.processes node) = action_process setting e node d state can refl in
    let same : next.offered ≡ state.offered = ap (λ (z : State). z.offered) (action_is setting e node d state can refl) ∙ append-nil state.offered in (
      subst (λ p. IsUnforgedAt names node p state.offered input) (sym is) all.0,
      takings_unforged names setting (suc e) node inputs next terms below _ _ (store_left setting e node d state store tt) (after ∙ ap (process_after setting e d) is)
          (subst (λ l. AllUnforged names node terms l inputs) (sym same) all.1),
    )

writing_unforged : (names : List (List ℕ)) (state : State) (node : ℕ) (d : Action) → IsWriting node d → IsWriteInRange d → IsUnforgedAction names state d
writing_unforged names state node (Opens at terms) w range = absurd w
writing_unforged names state node (FailsToOpen at raised) w range = tt
writing_unforged names state node (Takes at input) w range = absurd w
writing_unforged names state node (Offers at) w range = absurd w
writing_unforged names state node (Stops at) w range = absurd w
writing_unforged names state node (StopsIn at kept input) w range = absurd w
writing_unforged names state node (LosesStore at) w range = absurd w
writing_unforged names state node (Remakes at boot given floor) w range = absurd w
writing_unforged names state node (Enrols at token floor) w range = range
writing_unforged names state node (Unlocks at token) w range = tt
writing_unforged names state node (OpensGate at token) w range = absurd w
writing_unforged names state node (Raises at token floor) w range = range

step_unforged : (names : List (List ℕ)) (setting : Setting) (e node : ℕ) (place : Place) (step : Step) (state : State) (said : List Said) → is_member setting.n node ≡ true → state.lost node ≡ is_gone place
    → Stands node (state.processes node) place → map said_by_output state.offered ≡ said → Knows names node said place → IsStep setting node place step → IsInRange step → AreUnforged names setting e (actions_of node step) state
unfolding AreUnforged
step_unforged names setting e node (Closed store) (Starts terms port) state said member lost stands same knows is range = (range, tt)
step_unforged names setting e node (Closed store) (Does d) state said member lost stands same knows is range = (writing_unforged names state node d is range, tt)
step_unforged names setting e node (Closed store) Loses state said member lost stands same knows is range = (tt, tt)
step_unforged names setting e node (Open s) (Hears receipt) state said member lost stands same knows is range = tt
step_unforged names setting e node (Open s) (Commits inputs) state said member lost stands same knows is range =
    takings_unforged names setting e node inputs state s.terms s.found s.state stands.0 (stored setting state node false member lost refl) stands.1
    (known_unforged names node s.terms state.offered said inputs same (subst (λ l. AreKnown names node s.terms said l) (sym is) knows))
step_unforged names setting e node (Open s) (Says telling) state said member lost stands same knows is range = (tt, tt)
step_unforged names setting e node (Open s) (Pauses None) state said member lost stands same knows is range = tt
step_unforged names setting e node (Open s) (Pauses (Some token)) state said member lost stands same knows is range = (tt, tt)
step_unforged names setting e node (Open s) (Ends kept) state said member lost stands same knows is range =
    both_unforged names setting e (takings node kept) (Stops node ∷ []) state
    (takings_unforged names setting e node kept state s.terms s.found s.state stands.0 (stored setting state node false member lost refl) stands.1
    (known_unforged names node s.terms state.offered said kept same (first_known names node s.terms said kept is.0 (subst (λ l. AreKnown names node s.terms said l) is.1 knows))))
    (tt, tt)
step_unforged names setting e node (Open s) Loses state said member lost stands same knows is range = (tt, tt)
step_unforged names setting e node (Gone store) (Gets boot given floor) state said member lost stands same knows is range = (range, tt)
step_unforged names setting e node (Closed store) (Hears receipt) state said member lost stands same knows is range = absurd is
step_unforged names setting e node (Closed store) (Commits inputs) state said member lost stands same knows is range = absurd is
step_unforged names setting e node (Closed store) (Says telling) state said member lost stands same knows is range = absurd is
step_unforged names setting e node (Closed store) (Pauses cleared) state said member lost stands same knows is range = absurd is
step_unforged names setting e node (Closed store) (Ends kept) state said member lost stands same knows is range = absurd is
step_unforged names setting e node (Closed store) (Gets boot given floor) state said member lost stands same knows is range = absurd is
step_unforged names setting e node (Open s) (Starts terms port) state said member lost stands same knows is range = absurd is
step_unforged names setting e node (Open s) (Does d) state said member lost stands same knows is range = absurd is
step_unforged names setting e node (Open s) (Gets boot given floor) state said member lost stands same knows is range = absurd is
step_unforged names setting e node (Gone store) (Starts terms port) state said member lost stands same knows is range = absurd is
step_unforged names setting e node (Gone store) (Hears receipt) state said member lost stands same knows is range = absurd is
step_unforged names setting e node (Gone store) (Commits inputs) state said member lost stands same knows is range = absurd is
step_unforged names setting e node (Gone store) (Says telling) state said member lost stands same knows is range = absurd is
step_unforged names setting e node (Gone store) (Pauses cleared) state said member lost stands same knows is range = absurd is
step_unforged names setting e node (Gone store) (Ends kept) state said member lost stands same knows is range = absurd is
step_unforged names setting e node (Gone store) (Does d) state said member lost stands same knows is range = absurd is
step_unforged names setting e node (Gone store) Loses state said member lost stands same knows is range = absurd is

-- ---- all items

all_unforged : (names : List (List ℕ)) (setting : Setting) (e : ℕ) (items : List Item) (state : State) (places : ℕ → Place) (said : List Said) → Holds setting state places said
    → ((node : ℕ) → is_member setting.n node ≡ true → Knows names node said (places node)) → AreOfMembers setting items → AllSteps setting places items → AllMay setting e state items → AreUnforgedItems names setting places said items
    → AreUnforged names setting e (history_of items) state
unfolding AreUnforged
all_unforged names setting e [] state places said h knows members all may caused = tt
all_unforged names setting e (item ∷ items) state places said h knows members all may caused =
    let n = item.node in
    let ds = actions_of n item.step in
    let is = first_step setting places item items members.0 all in
    let more = said_by n (places n) item.step in
    let next = places_after setting places item in
    both_unforged names setting e ds (history_of items) state
    (step_unforged names setting e n (places n) item.step state said members.0 (h.lost n members.0) (h.stands n members.0) h.offered (knows n members.0) is caused.1)
    (all_unforged names setting (number_after ds e) items (state_after setting e ds state) next (said ++ more) (step_holds setting e item state places said h members.0 is may.0)
    (λ m here.
    at_place n (place_after setting n (places n) item.step) places m (Knows names m (said ++ more))
    (λ same. subst (λ k. Knows names k (said ++ more) (place_after setting n (places n) item.step)) (sym same) (step_known setting names n (places n) item.step said more is caused.0 (knows n members.0)))
    (λ differ. other_known names m said more (places m) (knows m here)))
    members.1 (rest_steps setting places item items members.0 all) may.1 caused.2)

pub is_unforged : (names : List (List ℕ)) (setting : Setting) (items : List Item) → IsUnforgedInterleaving names setting items → IsUnforgedHistory names setting (history_of items)
unfolding state_after
is_unforged names setting items c = record {
  starts = c.starts;
  unforged = all_unforged names setting 0 items (first_state setting) (first_place setting) (said_before setting) (first_holds setting) (λ node member. tt) c.is.members c.is.steps (all_may setting [] items c.is.replaced) c.unforged;
}
