-- An offered datagram reads as its message.
use Rattle.std.proofs.Common.{◌≡◌, ℕ, zero, suc, ◌^◌, ◌≤◌, List, [], ◌∷◌, length, map, get_or, Some, None, refl, sym, ap, ◌∙◌, arith}
use Rattle.std.specs.List.{slice_get}
use Rattle.std.specs.Option.{option_map}
use Rattle.std.proofs.lemmas.Option.{same_Some}
use Rattle.vote_core.proofs.Basics.{Each, each_get}
use Rattle.vote_core.specs.Schedule.{Envelope}
use Rattle.vote_core.specs.declared.message.Message.{Message}
use Rattle.vote_wire.specs.Body.{HasSpelling}
use Rattle.vote_wire.specs.Datagram.{datagram_at, datagram_bytes}
use Rattle.oath_node.specs.Hosted.{envelope_at}
use Rattle.oath_node.specs.Machine.{NodeEvent, Client, Peer, Tick}
use Rattle.cluster_sim.proofs.BelowLaws.{GroundLaw}
use Rattle.cluster_sim.proofs.Spelled.{IsFineStart, IsFineWorld, IsSpelled, happens_fine, start_fine}
use Rattle.cluster_sim.specs.Run.{HasFloorsInRange}
use Rattle.cluster_sim.specs.World.{MayStart, World, opening_world, world_after_event}
use Rattle.book_law.specs.Lives.{Action, Opens, FailsToOpen, Takes, Offers, Stops, StopsIn, Loses, Remakes, Enrols, Unlocks, OpensGate, Raises, Output, Process, State, Terms, ToPeer, Down, Up, can_be, state_after_action, state_of}
use Rattle.world_law.specs.Bytes.{AreUnforged, IsSized, IsUnforged, IsUnforgedAction, IsUnforgedAt, IsUnforgedHistory}
use Rattle.world_law.specs.Steady.{AreSent, AreSteady, IsSteady, SteadyCluster, WasSent, WasSentIn, WasSentTo, setting_of, start_of, terms_of}
use Rattle.world_law.proofs.Follow.{IsKnown, Matches, OfStore, follows, of_event, one_is_event}
use Rattle.world_law.proofs.Ran.{JustifiedLaw, Ran, ran_next}
use Rattle.world_law.proofs.Runs.{may_start, ran_idle, starts}

-- what is spelled reads as it was meant
abbrev pub AgainLaw : Type 0
AgainLaw = (key : List ℕ) (from to : ℕ) (message : Message) → HasSpelling from to message → datagram_at key (datagram_bytes key from to message) ≡ Some (from, to, message)

sent : AgainLaw → (terms : Terms) (offered : List Output) (w : World) (input : NodeEvent) → Each (IsKnown w) offered → IsFineWorld w → IsUnforged terms offered input → WasSent terms offered input
sent again terms offered w (Client client moment line) known fine h = tt
sent again terms offered w Tick known fine h = tt
sent again terms offered w (Peer from None) known fine h = tt
sent again terms offered w (Peer from (Some envelope)) known fine h = λ own.
    let o = h.offers envelope refl own in
    let l = o.envelope in
    let p : IsKnown w (ToPeer (record { key = terms.key; envelope = l })) = each_get (IsKnown w) offered o.place (ToPeer (record { key = terms.key; envelope = l })) known o.is_there in
    let spelled : IsSpelled l = each_get IsSpelled w.sent p.0 l fine.sent p.1 in
    let meant : envelope_at terms.key h.bytes ≡ Some l =
    ap (λ b. envelope_at terms.key b) o.bytes_are
    ∙ ap (option_map (λ (read : ℕ × ℕ × Message). let e : Envelope = record { sender = read.0; receiver = read.1; message = read.2 } in e)) (again terms.key l.sender l.receiver l.message spelled) in
    let same : envelope ≡ l = same_Some envelope l (sym h.reads ∙ meant) in
    record { place = o.place; is_there = o.is_there ∙ ap (λ e. Some (ToPeer (record { key = terms.key; envelope = e }))) (sym same) }

sent_to : AgainLaw → (p : Process) (offered : List Output) (w : World) (input : NodeEvent) → Each (IsKnown w) offered → IsFineWorld w → IsUnforgedAt p offered input → WasSentTo p offered input
sent_to again (Down store) offered w input known fine h = tt
sent_to again (Up terms below s waiting) offered w input known fine h = sent again terms offered w input known fine h

sent_in : AgainLaw → (cluster : SteadyCluster) (state : State) (w : World) (d : Action) → Matches cluster state w → IsFineWorld w → IsUnforgedAction state d → WasSentIn state d
sent_in again cluster state w (Takes i input) m fine h = sent_to again (state.processes i) state.offered w input m.offered fine h
sent_in again cluster state w (StopsIn i kept input) m fine h = sent_to again (state.processes i) state.offered w input m.offered fine h
sent_in again cluster state w (Opens i terms) m fine h = tt
sent_in again cluster state w (FailsToOpen i raised) m fine h = tt
sent_in again cluster state w (Offers i) m fine h = tt
sent_in again cluster state w (Stops i) m fine h = tt
sent_in again cluster state w (Loses i) m fine h = tt
sent_in again cluster state w (Remakes i boot given floor) m fine h = tt
sent_in again cluster state w (Enrols i token floor) m fine h = tt
sent_in again cluster state w (Unlocks i token) m fine h = tt
sent_in again cluster state w (OpensGate i token) m fine h = tt
sent_in again cluster state w (Raises i token floor) m fine h = tt

-- ---- floors stay in range

listed_range : (given : List ℕ) (floor : ℕ → ℕ) (token : ℕ) → ((t : ℕ) → floor t ≤ 2 ^ 62) → get_or (map floor given) token 0 ≤ 2 ^ 62
listed_range [] floor token h = omega arith
listed_range (t ∷ given) floor zero h = h t
listed_range (t ∷ given) floor (suc token) h = listed_range given floor token h

store_range : (state : State) (d : Action) → IsUnforgedAction state d → OfStore HasFloorsInRange d
store_range state (Loses i) h = tt
store_range state (Remakes i boot given floor) h = λ token. listed_range given floor token h
store_range state (Opens i terms) h = tt
store_range state (FailsToOpen i raised) h = tt
store_range state (Takes i input) h = tt
store_range state (Offers i) h = tt
store_range state (Stops i) h = tt
store_range state (StopsIn i kept input) h = tt
store_range state (Enrols i token floor) h = tt
store_range state (Unlocks i token) h = tt
store_range state (OpensGate i token) h = tt
store_range state (Raises i token floor) h = tt

all_sent : AgainLaw → GroundLaw → JustifiedLaw → (cluster : SteadyCluster) → MayStart cluster.config (start_of cluster) → length cluster.config.book ≤ 10000 → (e : ℕ) (ds : List Action) (state : State) (w : World) → Ran cluster.config (start_of cluster) e w
    → Matches cluster state w → IsFineWorld w → AreSteady (terms_of cluster) ds → AreUnforged (setting_of cluster) e ds state → AreSent (setting_of cluster) e ds state
unfolding AreUnforged AreSent
all_sent again grounds justified cluster may few e [] state w ran m fine steady h = tt
all_sent again grounds justified cluster may few e (d ∷ ds) state w ran m fine steady h =
    let config = cluster.config in
    let now = sent_in again cluster state w d m fine h.0 in
    let f = follows cluster grounds justified may e d state w ran m steady.0 now in
    let is = one_is_event (terms_of cluster) d state (can_be (setting_of cluster) state d) f.event steady.0 f.is_one in
    let range : HasFloorsInRange f.event = of_event HasFloorsInRange d f.event is (λ act. tt) (λ act. tt) (λ i. tt) (store_range state d h.0) in (
      now,
      all_sent again grounds justified cluster may few (suc e) ds (state_after_action (setting_of cluster) e d state) (world_after_event config e f.event w) (ran_next grounds config (start_of cluster) e f.event w ran) f.matches
          (happens_fine grounds config e f.event w few range fine) steady.1 h.1,
    )

pub unforged : AgainLaw → GroundLaw → JustifiedLaw → (cluster : SteadyCluster) (before actions : List Action) → IsSized cluster → IsUnforgedHistory cluster before actions → IsSteady cluster before actions
unforged again grounds justified cluster before actions sized h =
    let config = cluster.config in
    let may = may_start cluster h.starts in
    let fine : IsFineStart config (start_of cluster) = record {
      tokens = sized.tokens;
      nodes = sized.nodes;
      boots = sized.boots;
      floors = sized.floors;
      old = each_of IsSpelled cluster.old sized.old;
    } in
    record {
      starts = h.starts;
      enrolled = h.enrolled;
      steady = h.steady;
      sent = all_sent again grounds justified cluster may sized.tokens (length before) actions (state_of (setting_of cluster) before) (opening_world config (start_of cluster)) (ran_idle cluster grounds may (length before)) (starts cluster before h.enrolled)
          (start_fine config (start_of cluster) fine) h.steady h.unforged;
    }
  where
    each_of : {A : Type 0} (P : A → Type 0) (xs : List A) → ((k : ℕ) (x : A) → slice_get xs k ≡ Some x → P x) → Each P xs
    each_of P [] f = tt
    each_of P (x ∷ xs) f = (f 0 x refl, each_of P xs (λ k y e. f (suc k) y e))
