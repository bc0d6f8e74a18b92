-- What the ports of a node's uses recorded is what the node offers in the history. A recorded reply that begins as an OK
-- belongs to an acceptance.
use Rattle.std.proofs.Common.{◌≡◌, ℕ, zero, suc, ◌⊎◌, inl, inr, ⊎_elim, Bool, true, false, ◌&&◌, cond, List, [], ◌∷◌, ◌++◌, map, Some, refl, sym, ap, ◌∙◌, subst, eqb, ltb}
use Rattle.std.specs.List.{slice_get}
use Rattle.std.proofs.lemmas.Bool.{cond_both, eqb-true}
use Rattle.std.proofs.lemmas.Option.{none-some, same_Some}
use Rattle.floor_store.specs.Content.{Content}
use Rattle.vote_core.specs.Schedule.{is_member, last_boot}
use Rattle.vote_core.specs.declared.message.Message.{Message}
use Rattle.vote_core.proofs.Basics.{Each, each_append, each_get, each_weaker}
use Rattle.oath_node.specs.Machine.{Made, NodeEvent, NodeState, Reply, opened_node}
use Rattle.oath_node.specs.Turns.{offers_in, run_at, run_with_events}
use Rattle.datagram_port.specs.Port.{Offered, PortEvent}
use Rattle.datagram_port.specs.declared.port.Sender.TheVariants.{Client as ToLine, Peer as ToMember}
use Rattle.cluster_sim.specs.Answered.{IsOk}
use Rattle.cluster_sim.specs.World.{Answer, told_reply}
use Rattle.book_law.specs.Lives.{Action, Opens, FailsToOpen, Takes, Offers, Stops, StopsIn, Loses, Remakes, Enrols, Unlocks, OpensGate, Raises, Output, Process, Sealed, Setting, State, Store, Terms, ToClient, ToPeer, Down, Up, answered_in, answers_among, can_be, do_fit, first_state, has_store, made_by_input, may_enrol, node_of_action, offers_by, outputs_of_step, process_after, process_half_opened, process_opened, sealed_from, seen_in, state_after, state_after_action, state_of, state_with, store_in_next_boot, store_under, store_with_row}
use Rattle.book_law.specs.Promises.{AnswerTruly}
use Rattle.book_law.specs.Uses.{OwnOutput, ToClientOwn, ToPeerOwn, AreAllUses, AreOffers, AreOffersOfUses, AreUses, HasUses, IsHistoryOf, IsProcess, IsTrueReply, IsWriting, Serves, ServesInParts, StoreUse, TakesAndOffers, Writes, entries_in, first_store, inputs_at, member_at, named_output, offer_of_output, offers_recorded, own_offers, own_process, run_of, written_store}
use Rattle.book_law.proofs.Serving.{LeaveStore, action_at, can_there, serves, store_left}
use Rattle.book_law.proofs.Own.{after_idle_offers, idle_offers, number_after, offers_append, opened_is, own_first_offers}
use Rattle.book_law.proofs.Parts.{parts_lead}
use Rattle.book_law.proofs.Uses.{uses_leave, writing_node, written_is}

-- ---- the offers of a node are the recorded ones

writing_offers : (node : ℕ) (d : Action) (store : Store) → IsWriting node d → offers_by d (Down store) ≡ []
writing_offers node (Opens at terms) store w = absurd w
writing_offers node (FailsToOpen at raised) store w = refl
writing_offers node (Takes at input) store w = absurd w
writing_offers node (Offers at) store w = absurd w
writing_offers node (Stops at) store w = absurd w
writing_offers node (StopsIn at kept input) store w = absurd w
writing_offers node (Loses at) store w = absurd w
writing_offers node (Remakes at boot given floor) store w = absurd w
writing_offers node (Enrols at token floor) store w = refl
writing_offers node (Unlocks at token) store w = refl
writing_offers node (OpensGate at token) store w = absurd w
writing_offers node (Raises at token floor) store w = refl

-- a process offers its own, and its node goes on
served_offers : (setting : Setting) (node e : ℕ) (terms : Terms) (port : List ℕ) (found : Store) (taken : List NodeEvent) (entries : List PortEvent) (left : Content) (served rest : List Action)
    → IsProcess setting node terms port found taken entries left → TakesAndOffers setting node terms port found taken entries served
    → (number : ℕ) × (own_offers setting node e (Opens node terms ∷ served ++ Stops node ∷ rest) (Down found)
    ≡ own_offers setting node (suc e) served (process_opened terms found) ++ own_offers setting node number rest (Down (store_under terms.seats left found)))
served_offers setting node e terms port found taken entries left served rest is does =
    let s = opened_node (seen_in found terms.seats) in
    let last = number_after served (suc e) in
    let first = own_offers setting node (suc e) served (process_opened terms found) in
    let g = serves setting node terms port found (suc e) served s does.serving in
    let content : (run_with_events (member_at setting terms port node) (inputs_at node served) (run_at s)).node.content ≡ left =
    ap (λ events. (run_of setting node terms port found events).node.content) does.takes ∙ is.leaves in
    let later : own_offers setting node last (Stops node ∷ rest) (own_process setting node (suc e) served (process_opened terms found)) ≡ own_offers setting node (suc last) rest (Down (store_under terms.seats left found)) =
    ap (λ p. own_offers setting node last (Stops node ∷ rest) (own_process setting node (suc e) served p)) (opened_is terms found is.fits is.boot)
    ∙ ap (own_offers setting node last (Stops node ∷ rest)) g.process
    ∙ own_first_offers setting node last (Stops node) rest _ refl
    ∙ ap (λ c. own_offers setting node (suc last) rest (Down (store_under terms.seats c found))) content in (
      suc last,
      own_first_offers setting node e (Opens node terms) (served ++ Stops node ∷ rest) (Down found) refl
          ∙ offers_append setting node (suc e) served (Stops node ∷ rest) (process_opened terms found)
          ∙ ap (λ os. first ++ os) later,
    )

pub uses_offer : (setting : Setting) (node e : ℕ) (uses : List StoreUse) (store : Store) (actions : List Action) → AreUses setting node store uses → HasUses setting node store uses actions
    → AreOffersOfUses uses (own_offers setting node e actions (Down store))
uses_offer setting node e [] store actions are has = idle_offers setting node e actions (Down store) has
uses_offer setting node e (Serves terms port taken entries left ∷ uses) store actions are has =
    let number = number_after has.0 e in
    let one = served_offers setting node number terms port store taken entries left has.1 has.2 are.0 has.5 in (
      own_offers setting node (suc number) has.1 (process_opened terms store),
      own_offers setting node one.0 has.2 (Down (store_under terms.seats left store)),
      ap (λ l. own_offers setting node e l (Down store)) has.3 ∙ after_idle_offers setting node e has.0 (Opens node terms ∷ has.1 ++ Stops node ∷ has.2) (Down store) has.4 ∙ one.1,
      has.5.offers (suc number),
      uses_offer setting node one.0 uses (store_under terms.seats left store) has.2 are.1 has.6,
    )
uses_offer setting node e (ServesInParts terms port parts left ∷ uses) store actions are has =
    let number = number_after has.0 e in
    let one = parts_lead setting node terms port store number parts left has.1 has.2 are.0 has.5 in (
      one.offered,
      own_offers setting node one.number has.2 (Down (store_under terms.seats left store)),
      ap (λ l. own_offers setting node e l (Down store)) has.3 ∙ after_idle_offers setting node e has.0 (Opens node terms ∷ has.1 ++ Stops node ∷ has.2) (Down store) has.4 ∙ one.offers,
      one.are,
      uses_offer setting node one.number uses (store_under terms.seats left store) has.2 are.1 has.6,
    )
uses_offer setting node e (Writes d ∷ uses) store actions are has =
    let number = number_after has.0 e in
    let same : own_offers setting node e actions (Down store) ≡ own_offers setting node (suc number) has.1 (Down (written_store setting d store)) =
    ap (λ l. own_offers setting node e l (Down store)) has.2
    ∙ after_idle_offers setting node e has.0 (d ∷ has.1) (Down store) has.3
    ∙ own_first_offers setting node number d has.1 (Down store) (sym (writing_node node d are.0))
    ∙ ap (λ os. os ++ own_offers setting node (suc number) has.1 (process_after setting number d (Down store))) (writing_offers node d store are.0)
    ∙ ap (λ p. own_offers setting node (suc number) has.1 p) (written_is setting node number d store are.0) in
    subst (λ os. AreOffersOfUses uses os) (sym same) (uses_offer setting node (suc number) uses (written_store setting d store) has.1 are.1 has.4)

pub offers : (setting : Setting) (uses : ℕ → List StoreUse) (history : List Action) (node : ℕ) → AreAllUses setting uses → IsHistoryOf setting uses history → is_member setting.n node ≡ true
    → AreOffersOfUses (uses node) (own_offers setting node 0 history (Down (first_store setting node)))
offers setting uses history node are is member = uses_offer setting node 0 (uses node) (first_store setting node) history (are node) (is node member)

-- ---- whose the outputs are

-- an answer is of the node
abbrev IsFrom : ℕ → Output → Type 0
IsFrom node (ToPeer sealed) = Unit {0}
IsFrom node (ToClient answer) = answer.node ≡ node

-- what waits is of the node
abbrev WaitsFrom : ℕ → Process → Type 0
WaitsFrom node (Down store) = Unit {0}
WaitsFrom node (Up terms below state waiting) = Each (IsFrom node) waiting

sends_from : (terms : Terms) (node from : ℕ) (sends : List (ℕ × Message)) → Each (IsFrom node) (map (λ (sealed : Sealed). ToPeer sealed) (map (sealed_from terms from) sends))
sends_from terms node from [] = tt
sends_from terms node from (send ∷ sends) = (tt, sends_from terms node from sends)

replies_from : (e node : ℕ) (replies : List Reply) → Each (IsFrom node) (map (λ (answer : Answer). ToClient answer) (map (told_reply e node) replies))
replies_from e node [] = tt
replies_from e node (reply ∷ replies) = (refl, replies_from e node replies)

step_from : (terms : Terms) (e node : ℕ) (made : Made) → Each (IsFrom node) (outputs_of_step terms e node made)
step_from terms e node made =
    each_append (IsFrom node) (map (λ (sealed : Sealed). ToPeer sealed) (map (sealed_from terms node) made.sends)) (map (λ (answer : Answer). ToClient answer) (map (told_reply e node) made.replies))
    (sends_from terms node node made.sends) (replies_from e node made.replies)

offered_from : (node at : ℕ) (terms : Terms) (below : Store) (state : NodeState) (waiting : List Output) → Each (IsFrom node) waiting → Each (IsFrom node) (offers_by (Offers at) (Up terms below state waiting))
offered_from node at terms below state [] h = tt
offered_from node at terms below state (output ∷ waiting) h = (h.0, tt)

rest_from : (setting : Setting) (e node : ℕ) (terms : Terms) (below : Store) (state : NodeState) (waiting : List Output) → Each (IsFrom node) waiting → WaitsFrom node (process_after setting e (Offers node) (Up terms below state waiting))
rest_from setting e node terms below state [] h = tt
rest_from setting e node terms below state (output ∷ waiting) h = h.1

half_from : (node : ℕ) (raised : Bool) (store : Store) → WaitsFrom node (process_half_opened raised store)
half_from node false store = tt
half_from node true store = cond_both (ltb store.content.boot last_boot) (Down (store_in_next_boot store)) (Down store) (λ p. WaitsFrom node p) (λ _. tt) (λ _. tt)

-- an action of the node keeps that
after_from : (setting : Setting) (e : ℕ) (d : Action) (p : Process) → WaitsFrom (node_of_action d) p → WaitsFrom (node_of_action d) (process_after setting e d p)
after_from setting e (Opens i terms) (Down store) h =
    cond_both (do_fit terms store && ltb store.content.boot last_boot) (Up terms store (opened_node (seen_in store terms.seats)) []) (Down store) (λ q. WaitsFrom i q) (λ _. tt) (λ _. tt)
after_from setting e (Opens i terms) (Up t below state waiting) h = h
after_from setting e (FailsToOpen i raised) (Down store) h = half_from i raised store
after_from setting e (FailsToOpen i raised) (Up t below state waiting) h = h
after_from setting e (Takes i input) (Down store) h = tt
after_from setting e (Takes i input) (Up t below state waiting) h =
    each_append (IsFrom i) waiting (outputs_of_step t e i (made_by_input setting t i input state)) h (step_from t e i (made_by_input setting t i input state))
after_from setting e (Offers i) (Down store) h = tt
after_from setting e (Offers i) (Up t below state waiting) h = rest_from setting e i t below state waiting h
after_from setting e (Stops i) (Down store) h = tt
after_from setting e (Stops i) (Up t below state waiting) h = tt
after_from setting e (StopsIn i kept input) (Down store) h = tt
after_from setting e (StopsIn i true input) (Up t below state waiting) h = tt
after_from setting e (StopsIn i false input) (Up t below state waiting) h = tt
after_from setting e (Loses i) p h = tt
after_from setting e (Remakes i boot given floor) (Down store) h = tt
after_from setting e (Remakes i boot given floor) (Up t below state waiting) h = h
after_from setting e (Enrols i token floor) (Down store) h =
    cond_both (may_enrol setting token store) (Down (store_with_row token floor store)) (Down store) (λ q. WaitsFrom i q) (λ _. tt) (λ _. tt)
after_from setting e (Enrols i token floor) (Up t below state waiting) h = h
after_from setting e (Unlocks i token) (Down store) h = tt
after_from setting e (OpensGate i token) (Down store) h = tt
after_from setting e (Unlocks i token) (Up t below state waiting) h = h
after_from setting e (OpensGate i token) (Up t below state waiting) h = h
after_from setting e (Raises i token floor) (Down store) h = tt
after_from setting e (Raises i token floor) (Up t below state waiting) h = h

by_from : (d : Action) (p : Process) → WaitsFrom (node_of_action d) p → Each (IsFrom (node_of_action d)) (offers_by d p)
by_from (Opens i terms) p h = tt
by_from (FailsToOpen i raised) p h = tt
by_from (Takes i input) p h = tt
by_from (Offers i) (Down store) h = tt
by_from (Offers i) (Up terms below state waiting) h = offered_from i i terms below state waiting h
by_from (Stops i) p h = tt
by_from (StopsIn i kept input) p h = tt
by_from (Loses i) p h = tt
by_from (Remakes i boot given floor) p h = tt
by_from (Enrols i token floor) p h = tt
by_from (Unlocks i token) p h = tt
by_from (OpensGate i token) p h = tt
by_from (Raises i token floor) p h = tt

-- ---- what a node offers is offered in the history

abbrev IsIn : {A : Type 0} → A → List A → Type 0
IsIn x xs = (k : ℕ) × (slice_get xs k ≡ Some x)

get_either : {A : Type 0} (xs ys : List A) (k : ℕ) (x : A) → slice_get (xs ++ ys) k ≡ Some x → IsIn x xs ⊎ IsIn x ys
get_either [] ys k x e = inr (k, e)
get_either (y ∷ xs) ys zero x e = inl (zero, e)
get_either (y ∷ xs) ys (suc k) x e = ⊎_elim (λ p. inl (suc p.0, p.1)) (λ p. inr p) (get_either xs ys k x e)

in_left : {A : Type 0} (xs ys : List A) (k : ℕ) (x : A) → slice_get xs k ≡ Some x → slice_get (xs ++ ys) k ≡ Some x
in_left [] ys k x e = absurd (none-some x e)
in_left (z ∷ xs) ys zero x e = e
in_left (z ∷ xs) ys (suc k) x e = in_left xs ys k x e

in_right : {A : Type 0} (xs ys : List A) (x : A) → IsIn x ys → IsIn x (xs ++ ys)
in_right [] ys x h = h
in_right (z ∷ xs) ys x h = let r = in_right xs ys x h in (suc r.0, r.1)

each_in : {A : Type 0} (xs : List A) → Each (λ x. IsIn x xs) xs
each_in [] = tt
each_in (x ∷ xs) = ((zero, refl), each_weaker (λ y. IsIn y xs) (λ y. IsIn y (x ∷ xs)) (λ y h. (suc h.0, h.1)) xs (each_in xs))

kept_by : (setting : Setting) (e : ℕ) (d : Action) (state : State) (output : Output) → IsIn output state.offered → IsIn output (state_after_action setting e d state).offered
unfolding state_after_action
kept_by setting e d state output h =
    cond_both (can_be setting state d) (state_with setting e d (state.processes (node_of_action d)) state) state (λ (z : State). IsIn output z.offered)
    (λ _. (h.0, in_left state.offered (offers_by d (state.processes (node_of_action d))) h.0 output h.1)) (λ _. h)

kept : (setting : Setting) (e : ℕ) (ds : List Action) (state : State) (output : Output) → IsIn output state.offered → IsIn output (state_after setting e ds state).offered
unfolding state_after
kept setting e [] state output h = h
kept setting e (d ∷ ds) state output h = kept setting (suc e) ds (state_after_action setting e d state) output (kept_by setting e d state output h)

-- an output that was offered, and that is of the node
abbrev Counts : ℕ → State → Output → Type 0
Counts node state output = IsIn output state.offered × IsFrom node output

both : {A : Type 0} (P Q : A → Type 0) (xs : List A) → Each P xs → Each Q xs → Each (λ x. P x × Q x) xs
both P Q [] h k = tt
both P Q (x ∷ xs) h k = ((h.0, k.0), both P Q xs h.1 k.1)

own_counts : (setting : Setting) (e : ℕ) (d : Action) (state : State) → can_be setting state d ≡ true → WaitsFrom (node_of_action d) (state.processes (node_of_action d))
    → Each (λ output. Counts (node_of_action d) (state_after_action setting e d state) output) (offers_by d (state.processes (node_of_action d)))
unfolding state_after_action
own_counts setting e d state can from =
    let i = node_of_action d in
    let p = state.processes i in
    let made = offers_by d p in
    cond_both (can_be setting state d) (state_with setting e d p state) state (λ (z : State). Each (λ output. Counts i z output) made)
    (λ _. both (λ output. IsIn output (state.offered ++ made)) (IsFrom i) made
    (each_weaker (λ output. IsIn output made) (λ output. IsIn output (state.offered ++ made)) (λ output h. in_right state.offered made output h) made (each_in made)) (by_from d p from))
    (λ no. absurd (apart (can_be setting state d) can no))
  where
    apart : (b : Bool) → b ≡ true → b ≡ false → ⊥
    apart b is_true is_false = cc

-- the claims for one action, by whether it is the node's
record Steps (setting : Setting) (e node : ℕ) (d : Action) (state : State) (b : Bool) : Type 0 where
  from : WaitsFrom node (cond b (process_after setting e d (state.processes node)) (state.processes node))
  counts : Each (λ output. Counts node (state_after_action setting e d state) output) (cond b (offers_by d (state.processes node)) [])

steps : (setting : Setting) (e node : ℕ) (d : Action) (state : State) (b : Bool) → (b ≡ true → node ≡ node_of_action d) → (node ≡ node_of_action d → can_be setting state d ≡ true) → WaitsFrom node (state.processes node)
    → Steps setting e node d state b
steps setting e node d state false own can from = record { from = from; counts = tt }
steps setting e node d state true own can from =
    let here = own refl in
    let from_there : WaitsFrom (node_of_action d) (state.processes (node_of_action d)) = subst (λ m. WaitsFrom m (state.processes m)) here from in
    record {
      from = subst (λ m. WaitsFrom m (process_after setting e d (state.processes m))) (sym here) (after_from setting e d (state.processes (node_of_action d)) from_there);
      counts = subst (λ m. Each (λ output. Counts m (state_after_action setting e d state) output) (offers_by d (state.processes m))) (sym here) (own_counts setting e d state (can here) from_there);
    }

all_count : (setting : Setting) (e node : ℕ) (ds : List Action) (state : State) → has_store setting state node ≡ true → LeaveStore node ds → WaitsFrom node (state.processes node)
    → Each (λ output. Counts node (state_after setting e ds state) output) (own_offers setting node e ds (state.processes node))
unfolding state_after own_offers
all_count setting e node [] state store leave from = tt
all_count setting e node (d ∷ ds) state store leave from =
    let b = eqb node (node_of_action d) in
    let can = can_there setting state node d store leave.0 in
    let next = state_after_action setting e d state in
    let last = state_after setting (suc e) ds next in
    let p = cond b (process_after setting e d (state.processes node)) (state.processes node) in
    let s = steps setting e node d state b (eqb-true node (node_of_action d)) can from in
    let is : next.processes node ≡ p = action_at setting e node d state can in
    let rest = all_count setting (suc e) node ds next (store_left setting e node d state store leave.0) leave.1 (subst (λ q. WaitsFrom node q) (sym is) s.from) in
    let made = cond b (offers_by d (state.processes node)) [] in
    each_append (λ output. Counts node last output) made (own_offers setting node (suc e) ds p)
    (each_weaker (λ output. Counts node next output) (λ output. Counts node last output) (λ output h. (kept setting (suc e) ds next output h.0, h.1)) made s.counts)
    (subst (λ q. Each (λ output. Counts node last output) (own_offers setting node (suc e) ds q)) is rest)

-- ---- a recorded reply

map_back : {A B : Type 0} (f : A → B) (xs : List A) (k : ℕ) (y : B) → slice_get (map f xs) k ≡ Some y → (x : A) × (slice_get xs k ≡ Some x) × (f x ≡ y)
map_back f [] k y e = absurd (none-some y e)
map_back f (x ∷ xs) zero y e = (x, refl, same_Some (f x) y e)
map_back f (x ∷ xs) (suc k) y e = map_back f xs k y e

in_map : {A B : Type 0} (f : A → B) (xs : List A) (k : ℕ) (x : A) → slice_get xs k ≡ Some x → slice_get (map f xs) k ≡ Some (f x)
in_map f [] k x e = absurd (none-some x e)
in_map f (y ∷ xs) zero x e = ap (λ z. Some (f z)) (same_Some y x e)
in_map f (y ∷ xs) (suc k) x e = in_map f xs k x e

-- an answer with these bytes to the client is among the outputs
record HasReply (outputs : List Output) (client : ℕ) (bytes : List ℕ) : Type 0 where
  answer : Answer
  place : ℕ
  is_there : slice_get outputs place ≡ Some (ToClient answer)
  client_is : answer.client ≡ client
  bytes_are : answer.bytes ≡ bytes

no_peer : (to client : ℕ) (xs ys : List ℕ) → Offered (ToMember to) xs ≡ Offered (ToLine client) ys → ⊥
no_peer to client xs ys e = cc

same_client : (one client : ℕ) (xs ys : List ℕ) → Offered (ToLine one) xs ≡ Offered (ToLine client) ys → one ≡ client
same_client one client xs ys e = cc

same_bytes : (one client : ℕ) (xs ys : List ℕ) → Offered (ToLine one) xs ≡ Offered (ToLine client) ys → xs ≡ ys
same_bytes one client xs ys e = cc

own_reply : (terms : Terms) (port : List ℕ) (own : List OwnOutput) (k client : ℕ) (bytes : List ℕ) (output : OwnOutput) → slice_get own k ≡ Some output → offer_of_output port output ≡ Offered (ToLine client) bytes
    → HasReply (map (named_output terms) own) client bytes
own_reply terms port own k client bytes (ToPeerOwn envelope) at is = absurd (no_peer envelope.receiver client _ bytes is)
own_reply terms port own k client bytes (ToClientOwn answer) at is = record {
  answer = answer;
  place = k;
  is_there = in_map (named_output terms) own k (ToClientOwn answer) at;
  client_is = same_client answer.client client answer.bytes bytes is;
  bytes_are = same_bytes answer.client client answer.bytes bytes is;
}

use_reply : (terms : Terms) (port : List ℕ) (outputs : List Output) (recorded : List PortEvent) (k client : ℕ) (bytes : List ℕ) → AreOffers terms port outputs recorded → slice_get recorded k ≡ Some (Offered (ToLine client) bytes)
    → HasReply outputs client bytes
use_reply terms port outputs recorded k client bytes o at =
    let back = map_back (offer_of_output port) o.own k (Offered (ToLine client) bytes) (subst (λ es. slice_get es k ≡ Some (Offered (ToLine client) bytes)) (sym o.encoded) at) in
    subst (λ os. HasReply os client bytes) (sym o.named) (own_reply terms port o.own k client bytes back.0 back.1 back.2)

first_reply : (first rest : List Output) (client : ℕ) (bytes : List ℕ) → HasReply first client bytes → HasReply (first ++ rest) client bytes
first_reply first rest client bytes r = record {
  answer = r.answer;
  place = r.place;
  is_there = in_left first rest r.place (ToClient r.answer) r.is_there;
  client_is = r.client_is;
  bytes_are = r.bytes_are;
}

later_reply : (first rest : List Output) (client : ℕ) (bytes : List ℕ) → HasReply rest client bytes → HasReply (first ++ rest) client bytes
later_reply first rest client bytes r =
    let there = in_right first rest (ToClient r.answer) (r.place, r.is_there) in
    record { answer = r.answer; place = there.0; is_there = there.1; client_is = r.client_is; bytes_are = r.bytes_are }

recorded_reply : (uses : List StoreUse) (outputs : List Output) (k client : ℕ) (bytes : List ℕ) → AreOffersOfUses uses outputs → slice_get (offers_recorded uses) k ≡ Some (Offered (ToLine client) bytes)
    → HasReply outputs client bytes
recorded_reply [] outputs k client bytes o at = absurd (none-some (Offered (ToLine client) bytes) at)
recorded_reply (Serves terms port taken entries left ∷ uses) outputs k client bytes o at =
    subst (λ os. HasReply os client bytes) (sym o.2)
    (⊎_elim
    (λ (p : IsIn (Offered (ToLine client) bytes) (offers_in entries)). first_reply o.0 o.1 client bytes (use_reply terms port o.0 (offers_in entries) p.0 client bytes o.3 p.1))
    (λ (p : IsIn (Offered (ToLine client) bytes) (offers_recorded uses)). later_reply o.0 o.1 client bytes (recorded_reply uses o.1 p.0 client bytes o.4 p.1))
    (get_either (offers_in entries) (offers_recorded uses) k (Offered (ToLine client) bytes) at))
recorded_reply (ServesInParts terms port parts left ∷ uses) outputs k client bytes o at =
    let recorded = offers_in (entries_in parts) in
    subst (λ os. HasReply os client bytes) (sym o.2)
    (⊎_elim
    (λ (p : IsIn (Offered (ToLine client) bytes) recorded). first_reply o.0 o.1 client bytes (use_reply terms port o.0 recorded p.0 client bytes o.3 p.1))
    (λ (p : IsIn (Offered (ToLine client) bytes) (offers_recorded uses)). later_reply o.0 o.1 client bytes (recorded_reply uses o.1 p.0 client bytes o.4 p.1))
    (get_either recorded (offers_recorded uses) k (Offered (ToLine client) bytes) at))
recorded_reply (Writes action ∷ uses) outputs k client bytes o at = recorded_reply uses outputs k client bytes o at

among : (outputs : List Output) (k : ℕ) (answer : Answer) → slice_get outputs k ≡ Some (ToClient answer) → IsIn answer (answers_among outputs)
among [] k answer e = absurd (none-some (ToClient answer) e)
among (ToPeer sealed ∷ outputs) zero answer e = absurd (apart sealed answer e)
  where
    apart : (sealed : Sealed) (answer : Answer) → Some (ToPeer sealed) ≡ Some (ToClient answer) → ⊥
    apart sealed answer e = cc
among (ToPeer sealed ∷ outputs) (suc k) answer e = among outputs k answer e
among (ToClient told ∷ outputs) zero answer e = (zero, same told answer e)
  where
    same : (told answer : Answer) → Some (ToClient told) ≡ Some (ToClient answer) → Some told ≡ Some answer
    same told answer e = cc
among (ToClient told ∷ outputs) (suc k) answer e = let r = among outputs k answer e in (suc r.0, r.1)

pub replies_are_true : (setting : Setting) (uses : ℕ → List StoreUse) (history : List Action) (node i client : ℕ) (bytes : List ℕ) → AreAllUses setting uses → IsHistoryOf setting uses history → is_member setting.n node ≡ true
    → AnswerTruly setting history (answered_in setting history) → slice_get (offers_recorded (uses node)) i ≡ Some (Offered (ToLine client) bytes) → IsOk bytes → IsTrueReply setting history node client bytes
replies_are_true setting uses history node i client bytes are is member truly at ok =
    let store = first_store setting node in
    let own = own_offers setting node 0 history (Down store) in
    let r = recorded_reply (uses node) own i client bytes (offers setting uses history node are is member) at in
    let leave = uses_leave setting node (uses node) store history (are node) (is node member) in
    let all = all_count setting 0 node history (first_state setting) member leave tt in
    let counts : Counts node (state_of setting history) (ToClient r.answer) = each_get (λ output. Counts node (state_of setting history) output) own r.place (ToClient r.answer) all r.is_there in
    let told = among (state_of setting history).offered counts.0.0 r.answer counts.0.1 in
    record {
      answer = r.answer;
      node_is = counts.1;
      client_is = r.client_is;
      bytes_are = r.bytes_are;
      belongs = truly told.0 r.answer told.1 (subst (λ bs. IsOk bs) (sym r.bytes_are) ok);
    }
