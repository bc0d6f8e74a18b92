-- The actions of a node's step lead its process to its next place, and offer what the step says.
use Rattle.std.proofs.Common.{◌≡◌, ℕ, suc, List, [], ◌∷◌, ◌++◌, map, Some, None, refl, sym, ap, ◌∙◌, subst}
use Rattle.std.proofs.lemmas.List.{append-nil, map-append}
use Rattle.vote_core.specs.Schedule.{envelope_from}
use Rattle.vote_core.specs.declared.message.Message.{Message}
use Rattle.oath_node.specs.Machine.{NodeEvent, Reply}
use Rattle.cluster_sim.specs.World.{Answer, told_reply}
use Rattle.vote_core.specs.Schedule.{Envelope}
use Rattle.book_law.specs.Lives.{Action, Opens, FailsToOpen, Takes, Offers, Stops, StopsIn, Loses as LosesStore, Remakes, Enrols, Unlocks, OpensGate, Raises, Output, Process, Sealed, Setting, Store, Terms, ToClient, ToPeer, Down, Up, first_of_these, made_by_input, node_of_action, offers_by, outputs_of_step, process_after, process_offered, sealed_from}
use Rattle.book_law.specs.Uses.{own_offers, own_process}
use Rattle.book_law.proofs.Own.{number_after, offers_append, opened_is, own_first, own_first_offers, process_append}
use Rattle.book_law.proofs.Uses.{writing_node, written_is}
use Rattle.order_law.specs.Interleavings.{Stands, said_by, said_by_output, said_of}
use Rattle.order_law.specs.Steps.{Closed, Commits, Does, Ends, Gets, Gone, Hears, IsStep, Loses, Open, Pauses, Place, Says, Sends, Live, Starts, Step, Telling, actions_of, later_tellings, place_after, live_taken, live_with, takings, telling_of_reply, tellings_of}

-- ---- the outputs of an input

step_said : (terms : Terms) (e node : ℕ) (sends : List (ℕ × Message)) (replies : List Reply)
    → map said_by_output (map (λ (sealed : Sealed). ToPeer sealed) (map (sealed_from terms node) sends) ++ map (λ (answer : Answer). ToClient answer) (map (told_reply e node) replies))
    ≡ map (said_of terms node) (map (λ (envelope : Envelope). Sends envelope) (map (envelope_from node) sends) ++ map telling_of_reply replies)
step_said terms e node [] [] = refl
step_said terms e node [] (r ∷ replies) = ap (λ xs. said_of terms node (telling_of_reply r) ∷ xs) (step_said terms e node [] replies)
step_said terms e node (x ∷ sends) replies = ap (λ xs. said_of terms node (Sends (envelope_from node x)) ∷ xs) (step_said terms e node sends replies)

-- ---- inputs

more_waits : (terms : Terms) (node : ℕ) (waiting more : List Output) (tellings others : List Telling) → map said_by_output waiting ≡ map (said_of terms node) tellings → map said_by_output more ≡ map (said_of terms node) others
    → map said_by_output (waiting ++ more) ≡ map (said_of terms node) (tellings ++ others)
more_waits terms node waiting more tellings others same also =
    map-append said_by_output waiting more
    ∙ ap (λ l. l ++ map said_by_output more) same
    ∙ ap (λ l. map (said_of terms node) tellings ++ l) also
    ∙ sym (map-append (said_of terms node) tellings others)

pub own_takes : (setting : Setting) (node e : ℕ) (inputs : List NodeEvent) (s : Live) (waiting : List Output) → map said_by_output waiting ≡ map (said_of s.terms node) s.waiting
    → Stands node (own_process setting node e (takings node inputs) (Up s.terms s.found s.state waiting)) (Open (live_taken setting node s inputs))
unfolding own_process
own_takes setting node e [] s waiting same = (waiting, refl, same)
own_takes setting node e (input ∷ inputs) s waiting same =
    let made = made_by_input setting s.terms node input s.state in
    let more = outputs_of_step s.terms e node made in
    let next = live_with setting node s input in
    subst (λ p. Stands node p (Open (live_taken setting node next inputs)))
    (sym (own_first setting node e (Takes node input) (takings node inputs) (Up s.terms s.found s.state waiting) refl))
    (own_takes setting node (suc e) inputs next (waiting ++ more)
    (more_waits s.terms node waiting more s.waiting (tellings_of node made) same (step_said s.terms e node made.sends made.replies)))

pub takings_say : (setting : Setting) (node e : ℕ) (inputs : List NodeEvent) (p : Process) → own_offers setting node e (takings node inputs) p ≡ []
unfolding own_offers
takings_say setting node e [] p = refl
takings_say setting node e (input ∷ inputs) p =
    own_first_offers setting node e (Takes node input) (takings node inputs) p refl ∙ takings_say setting node (suc e) inputs (process_after setting e (Takes node input) p)

-- ---- one action

one_after : (setting : Setting) (node e : ℕ) (d : Action) (p : Process) → node ≡ node_of_action d → own_process setting node e (d ∷ []) p ≡ process_after setting e d p
unfolding own_process
one_after setting node e d p own = own_first setting node e d [] p own

one_says : (setting : Setting) (node e : ℕ) (d : Action) (p : Process) → node ≡ node_of_action d → own_offers setting node e (d ∷ []) p ≡ offers_by d p
unfolding own_offers
one_says setting node e d p own = own_first_offers setting node e d [] p own ∙ append-nil (offers_by d p)

-- ---- an output

no_cons : {A : Type 0} (x : A) (xs : List A) → [] ≡ x ∷ xs → ⊥
no_cons x xs e = cc

tail_same : {A : Type 0} (x y : A) (xs ys : List A) → x ∷ xs ≡ y ∷ ys → xs ≡ ys
tail_same x y xs ys e = cc

head_same : {A : Type 0} (x y : A) (xs ys : List A) → x ∷ xs ≡ y ∷ ys → x ≡ y
head_same x y xs ys e = cc

said_next : (node : ℕ) (s : Live) (t : Telling) (rest : List Telling) (waiting : List Output) → s.waiting ≡ t ∷ rest → map said_by_output waiting ≡ map (said_of s.terms node) (t ∷ rest)
    → Stands node (process_offered s.terms s.found s.state waiting) (Open (record s { waiting = later_tellings s.waiting }))
said_next node s t rest [] is same = absurd (no_cons (said_of s.terms node t) (map (said_of s.terms node) rest) same)
said_next node s t rest (o ∷ waiting) is same = (
  waiting,
  refl,
  tail_same (said_by_output o) (said_of s.terms node t) (map said_by_output waiting) (map (said_of s.terms node) rest) same ∙ ap (λ l. map (said_of s.terms node) (later_tellings l)) (sym is),
)

said_now : (node : ℕ) (terms : Terms) (t : Telling) (rest : List Telling) (waiting : List Output) → map said_by_output waiting ≡ map (said_of terms node) (t ∷ rest) → map said_by_output (first_of_these waiting) ≡ said_of terms node t ∷ []
said_now node terms t rest [] same = absurd (no_cons (said_of terms node t) (map (said_of terms node) rest) same)
said_now node terms t rest (o ∷ waiting) same = ap (λ x. x ∷ []) (head_same (said_by_output o) (said_of terms node t) (map said_by_output waiting) (map (said_of terms node) rest) same)

-- ---- a step

pub own_step : (setting : Setting) (node e : ℕ) (place : Place) (step : Step) (p : Process) → Stands node p place → IsStep setting node place step
    → Stands node (own_process setting node e (actions_of node step) p) (place_after setting node place step)
unfolding own_process
own_step setting node e (Closed store) (Starts terms port) p stands is = (
  [],
  one_after setting node e (Opens node terms) p refl ∙ ap (process_after setting e (Opens node terms)) stands ∙ opened_is terms store is.0 is.1,
  refl,
)
own_step setting node e (Closed store) (Does d) p stands is =
    one_after setting node e d p (sym (writing_node node d is)) ∙ ap (process_after setting e d) stands ∙ written_is setting node e d store is
own_step setting node e (Closed store) (Hears receipt) p stands is = absurd is
own_step setting node e (Closed store) (Commits inputs) p stands is = absurd is
own_step setting node e (Closed store) (Says telling) p stands is = absurd is
own_step setting node e (Closed store) (Pauses cleared) p stands is = absurd is
own_step setting node e (Closed store) (Ends kept) p stands is = absurd is
own_step setting node e (Open s) (Starts terms port) p stands is = absurd is
own_step setting node e (Open s) (Does d) p stands is = absurd is
own_step setting node e (Open s) (Hears receipt) p stands is = stands
own_step setting node e (Open s) (Commits inputs) p stands is =
    subst (λ q. Stands node (own_process setting node e (takings node inputs) q) (Open (live_taken setting node s inputs))) (sym stands.1) (own_takes setting node e inputs s stands.0 stands.2)
own_step setting node e (Open s) (Says telling) p stands is =
    subst (λ q. Stands node q (Open (record s { waiting = later_tellings s.waiting })))
    (sym (one_after setting node e (Offers node) p refl ∙ ap (process_after setting e (Offers node)) stands.1))
    (said_next node s telling is.0 stands.0 is.1 (stands.2 ∙ ap (map (said_of s.terms node)) is.1))
own_step setting node e (Open s) (Pauses None) p stands is = stands
own_step setting node e (Open s) (Pauses (Some token)) p stands is = (
  stands.0,
  one_after setting node e (OpensGate node token) p refl ∙ ap (process_after setting e (OpensGate node token)) stands.1,
  stands.2,
)
own_step setting node e (Open s) (Ends kept) p stands is =
    let last = live_taken setting node s kept in
    let number = number_after (takings node kept) e in
    let took = own_takes setting node e kept s stands.0 stands.2 in
    process_append setting node e (takings node kept) (Stops node ∷ []) p
    ∙ one_after setting node number (Stops node) (own_process setting node e (takings node kept) p) refl
    ∙ ap (λ q. process_after setting number (Stops node) (own_process setting node e (takings node kept) q)) stands.1
    ∙ ap (process_after setting number (Stops node)) took.1
own_step setting node e (Closed store) Loses p stands is = one_after setting node e (LosesStore node) p refl ∙ ap (process_after setting e (LosesStore node)) stands
own_step setting node e (Open s) Loses p stands is = one_after setting node e (LosesStore node) p refl ∙ ap (process_after setting e (LosesStore node)) stands.1
own_step setting node e (Gone store) (Gets boot given floor) p stands is =
    one_after setting node e (Remakes node boot given floor) p refl ∙ ap (process_after setting e (Remakes node boot given floor)) stands
own_step setting node e (Closed store) (Gets boot given floor) p stands is = absurd is
own_step setting node e (Open s) (Gets boot given floor) p stands is = absurd is
own_step setting node e (Gone store) (Starts terms port) p stands is = absurd is
own_step setting node e (Gone store) (Hears receipt) p stands is = absurd is
own_step setting node e (Gone store) (Commits inputs) p stands is = absurd is
own_step setting node e (Gone store) (Says telling) p stands is = absurd is
own_step setting node e (Gone store) (Pauses cleared) p stands is = absurd is
own_step setting node e (Gone store) (Ends kept) p stands is = absurd is
own_step setting node e (Gone store) (Does d) p stands is = absurd is
own_step setting node e (Gone store) Loses p stands is = absurd is

nothing_says : (d : Action) (store : Store) → offers_by d (Down store) ≡ []
nothing_says (Opens at terms) store = refl
nothing_says (FailsToOpen at raised) store = refl
nothing_says (Takes at input) store = refl
nothing_says (Offers at) store = refl
nothing_says (Stops at) store = refl
nothing_says (StopsIn at kept input) store = refl
nothing_says (LosesStore at) store = refl
nothing_says (Remakes at boot given floor) store = refl
nothing_says (Enrols at token floor) store = refl
nothing_says (Unlocks at token) store = refl
nothing_says (OpensGate at token) store = refl
nothing_says (Raises at token floor) store = refl

pub own_says : (setting : Setting) (node e : ℕ) (place : Place) (step : Step) (p : Process) → Stands node p place → IsStep setting node place step
    → map said_by_output (own_offers setting node e (actions_of node step) p) ≡ said_by node place step
unfolding own_offers
own_says setting node e (Closed store) (Starts terms port) p stands is =
    ap (map said_by_output) (one_says setting node e (Opens node terms) p refl)
own_says setting node e (Closed store) (Does d) p stands is =
    ap (map said_by_output) (one_says setting node e d p (sym (writing_node node d is)) ∙ ap (offers_by d) stands ∙ nothing_says d store)
own_says setting node e (Closed store) (Hears receipt) p stands is = absurd is
own_says setting node e (Closed store) (Commits inputs) p stands is = absurd is
own_says setting node e (Closed store) (Says telling) p stands is = absurd is
own_says setting node e (Closed store) (Pauses cleared) p stands is = absurd is
own_says setting node e (Closed store) (Ends kept) p stands is = absurd is
own_says setting node e (Open s) (Starts terms port) p stands is = absurd is
own_says setting node e (Open s) (Does d) p stands is = absurd is
own_says setting node e (Open s) (Hears receipt) p stands is = refl
own_says setting node e (Open s) (Commits inputs) p stands is = ap (map said_by_output) (takings_say setting node e inputs p)
own_says setting node e (Open s) (Says telling) p stands is =
    ap (map said_by_output) (one_says setting node e (Offers node) p refl ∙ ap (offers_by (Offers node)) stands.1)
    ∙ said_now node s.terms telling is.0 stands.0 (stands.2 ∙ ap (map (said_of s.terms node)) is.1)
own_says setting node e (Open s) (Pauses None) p stands is = refl
own_says setting node e (Open s) (Pauses (Some token)) p stands is = ap (map said_by_output) (one_says setting node e (OpensGate node token) p refl)
own_says setting node e (Open s) (Ends kept) p stands is =
    let number = number_after (takings node kept) e in
    ap (map said_by_output)
    (offers_append setting node e (takings node kept) (Stops node ∷ []) p
    ∙ ap (λ l. l ++ own_offers setting node number (Stops node ∷ []) (own_process setting node e (takings node kept) p)) (takings_say setting node e kept p)
    ∙ one_says setting node number (Stops node) (own_process setting node e (takings node kept) p) refl)
own_says setting node e (Closed store) Loses p stands is = ap (map said_by_output) (one_says setting node e (LosesStore node) p refl)
own_says setting node e (Open s) Loses p stands is = ap (map said_by_output) (one_says setting node e (LosesStore node) p refl)
own_says setting node e (Gone store) (Gets boot given floor) p stands is = ap (map said_by_output) (one_says setting node e (Remakes node boot given floor) p refl)
own_says setting node e (Closed store) (Gets boot given floor) p stands is = absurd is
own_says setting node e (Open s) (Gets boot given floor) p stands is = absurd is
own_says setting node e (Gone store) (Starts terms port) p stands is = absurd is
own_says setting node e (Gone store) (Hears receipt) p stands is = absurd is
own_says setting node e (Gone store) (Commits inputs) p stands is = absurd is
own_says setting node e (Gone store) (Says telling) p stands is = absurd is
own_says setting node e (Gone store) (Pauses cleared) p stands is = absurd is
own_says setting node e (Gone store) (Ends kept) p stands is = absurd is
own_says setting node e (Gone store) (Does d) p stands is = absurd is
own_says setting node e (Gone store) Loses p stands is = absurd is
