-- A history in which no datagram is forged is one of genuine envelopes.
use Rattle.std.proofs.Common.{◌≡◌, ℕ, suc, ◌<◌, ◌≤◌, Bool, true, false, cond, ◌&&◌, List, [], ◌∷◌, length, map, get_or, Option, Some, None, refl, sym, ap, ◌∙◌, subst, eqb, ltb}
use Rattle.std.specs.List.{slice_get}
use Rattle.std.specs.Option.{option_map}
use Rattle.std.proofs.lemmas.Bool.{and_parts}
use Rattle.std.proofs.lemmas.Option.{none-some, same_Some}
use Rattle.vote_core.proofs.Basics.{Each, each_get}
use Rattle.vote_core.proofs.Envelopes.{Posts}
use Rattle.vote_core.specs.Books.{are_apart}
use Rattle.vote_core.specs.Calls.{FitsVoter}
use Rattle.vote_core.specs.NodeSet.{PlaceRecord}
use Rattle.vote_core.specs.Roster.{Roster}
use Rattle.vote_core.specs.Safety.{IsDeliverable}
use Rattle.vote_core.specs.Schedule.{Envelope}
use Rattle.vote_core.specs.declared.message.Message.{Message}
use Rattle.vote_core.specs.declared.message.Message.TheVariants.{Ask, Grant, Deny, Floor}
use Rattle.vote_wire.specs.Key.{bare}
use Rattle.oath_node.specs.Hosted.{envelope_at}
use Rattle.oath_node.specs.Machine.{NodeEvent, Client, Peer, Tick}
use Rattle.named_port.specs.Wire.{token_of}
use Rattle.cluster_sim.proofs.BelowLaws.{GroundLaw}
use Rattle.cluster_sim.proofs.Spelled.{IsFineEvent}
use Rattle.seat_law.specs.Seats.{Sites, seat_name}
use Rattle.seat_law.proofs.Relation.{Sim}
use Rattle.book_law.specs.Lives.{Action, Opens, FailsToOpen, Takes, Offers, Stops, StopsIn, Loses, Remakes, Enrols, Unlocks, OpensGate, Raises, AreGenuine, IsGenuine, IsGenuineAction, IsGenuineAt, IsHistory, IsOfVote, Output, Process, Sealed, Setting, State, Store, Terms, ToPeer, Down, Up, WasOffered, do_fit, first_state, made_boot, named_envelope, state_after_action}
use Rattle.book_law.proofs.Effects.{HasSent, IsSent}
use Rattle.book_law.proofs.Fits.{Fits}
use Rattle.book_law.proofs.Floors.{FloorsSentBy, all_grow, told_may, told_of}
use Rattle.book_law.proofs.Walk.{first_holds, first_told, follows, former}
use Rattle.name_law.specs.Datagrams.{IsReadable, IsSpelled, bytes_for, handed_bytes, numbered_envelope, own_number}
use Rattle.name_law.specs.Unforged.{AreUnforged, IsSized, IsUnforged, IsUnforgedAction, IsUnforgedAt, IsUnforgedHistory, ReadsOffered, WereOffered}
use Rattle.name_law.proofs.Datagrams.{handed_is, no_bytes, read_law, read_spelled, same_law}
use Rattle.name_law.proofs.Ranges.{IsFineInput, IsFineProcess, IsFineState, IsFineTake, IsSpelledOut, seats_few, step_fine}

-- ---- one datagram

-- an offered envelope of a history
pub record IsKnown (names : List (List ℕ)) (sealed : Sealed) : Type 0 where
  pub spelled : IsSpelled sealed.envelope
  pub token : token_of sealed.envelope.message < length names

abbrev pub KnowsOffered : List (List ℕ) → List Output → Type 0
KnowsOffered names offered = (place : ℕ) (sealed : Sealed) → slice_get offered place ≡ Some (ToPeer sealed) → IsKnown names sealed

-- terms of a process
pub record AreTerms (terms : Terms) : Type 0 where
  pub few : length terms.seats ≤ 10000
  pub apart : are_apart (length terms.seats) (seat_name terms.seats) ≡ true

module _ (names : List (List ℕ)) (setting : Setting) (sized : IsSized names setting) (node : ℕ) (terms : Terms) (are : AreTerms terms) (offered : List Output) (knows : KnowsOffered names offered) where
  -- what is read of an offered datagram
  pub read_known : (from : ℕ) (l : Envelope) → (r : ReadsOffered names node terms offered from (Some l)) → IsOfVote l.message → WasOffered offered (record { key = terms.key; envelope = named_envelope terms.seats l })
  read_known from l r vote = through (eqb e.sender from && eqb e.receiver node) (ltb o.boot (get_or r.translator.heard e.sender 0)) (own_number terms.seats token) refl (r.reads ∙ ap (envelope_at bare) handed)
    where
      o : WereOffered names terms.key offered r.bytes
      o = r.unforged l refl vote

      e : Envelope
      e = o.sealed.envelope

      token : ℕ
      token = token_of e.message

      known : IsKnown names o.sealed
      known = knows o.place o.sealed o.is_there

      can : IsReadable names terms o.boot o.sealed
      can = record { are_names = sized.are_names; seats = are.apart; key = o.key_is; token = known.token; spelled = known.spelled; boot_below = o.boot_below }

      handed : handed_bytes r.translator from r.bytes
          ≡ cond (eqb e.sender from && eqb e.receiver node) (cond (ltb o.boot (get_or r.translator.heard e.sender 0)) [] (bytes_for e (own_number terms.seats token))) []
      handed = ap (handed_bytes r.translator from) o.bytes_are ∙ handed_is names node terms r.translator o.boot from o.sealed r.is_of can

      nothing : Some l ≡ envelope_at bare [] → WasOffered offered (record { key = terms.key; envelope = named_envelope terms.seats l })
      nothing q = absurd (none-some l (sym (q ∙ no_bytes)))

      through : (sent older : Bool) (number : Option ℕ) → own_number terms.seats token ≡ number → Some l ≡ envelope_at bare (cond sent (cond older [] (bytes_for e (own_number terms.seats token))) [])
          → WasOffered offered (record { key = terms.key; envelope = named_envelope terms.seats l })
      through false older number is q = nothing q
      through true true number is q = nothing q
      through true false None is q = nothing (q ∙ ap (λ n. envelope_at bare (bytes_for e n)) is)
      through true false (Some number) is q =
          let reads : Some l ≡ Some (numbered_envelope e number) = q ∙ read_law terms e are.few known.spelled ∙ ap (option_map (numbered_envelope e)) is in
          let same : named_envelope terms.seats l ≡ e = ap (named_envelope terms.seats) (same_Some l (numbered_envelope e number) reads) ∙ same_law terms e number is in
          record {
            place = o.place;
            is_there = o.is_there
                ∙ ap (λ (k : List ℕ). let s : Sealed = record { key = k; envelope = e } in Some (ToPeer s)) o.key_is
                ∙ ap (λ (x : Envelope). let s : Sealed = record { key = terms.key; envelope = x } in Some (ToPeer s)) (sym same);
          }

  genuine : (input : NodeEvent) → IsUnforged names node terms offered input → IsGenuine terms offered input
  genuine (Client client moment line) h = tt
  genuine (Peer from None) h = tt
  genuine (Peer from (Some l)) h = λ own vote within. read_known from l h vote
  genuine Tick h = tt

fine_event : (names : List (List ℕ)) (node : ℕ) (terms : Terms) (offered : List Output) (input : NodeEvent) → IsUnforged names node terms offered input → IsFineEvent input
fine_event names node terms offered (Client client moment line) h = tt
fine_event names node terms offered (Peer from None) h = tt
fine_event names node terms offered (Peer from (Some l)) h = read_spelled (handed_bytes h.translator from h.bytes) l (sym h.reads)
fine_event names node terms offered Tick h = tt

-- ---- an action

are_terms : (terms : Terms) (below : Store) → length terms.config.book ≤ 10000 → do_fit terms below ≡ true → AreTerms terms
are_terms terms below few fits = record {
  few = seats_few terms below few fits;
  apart = (and_parts (are_apart (length terms.seats) (seat_name terms.seats)) _ (and_parts (eqb (length terms.seats) (length terms.config.book)) _ fits).1).0;
}

module _ (names : List (List ℕ)) (setting : Setting) (sized : IsSized names setting) (state : State) (knows : KnowsOffered names state.offered) where
  genuine_at : (node : ℕ) (p : Process) (input : NodeEvent) → IsFineProcess p → IsUnforgedAt names node p state.offered input → IsGenuineAt p state.offered input
  genuine_at node (Down store) input fine h = tt
  genuine_at node (Up terms below s waiting) input fine h = genuine names setting sized node terms (are_terms terms below fine.few fine.fits) state.offered knows input h

  fine_at : (node : ℕ) (p : Process) (input : NodeEvent) → IsUnforgedAt names node p state.offered input → IsFineInput p input
  fine_at node (Down store) input h = tt
  fine_at node (Up terms below s waiting) input h = fine_event names node terms state.offered input h

  genuine_action : (action : Action) → IsFineState state → IsUnforgedAction names state action → IsGenuineAction state action
  genuine_action (Opens node terms) fine h = tt
  genuine_action (FailsToOpen node raised) fine h = tt
  genuine_action (Takes node input) fine h = genuine_at node (state.processes node) input (fine.nodes node) h
  genuine_action (Offers node) fine h = tt
  genuine_action (Stops node) fine h = tt
  genuine_action (StopsIn node kept input) fine h = genuine_at node (state.processes node) input (fine.nodes node) h
  genuine_action (Loses node) fine h = tt
  genuine_action (Remakes node boot given floor) fine h = tt
  genuine_action (Enrols node token floor) fine h = tt
  genuine_action (Unlocks node token) fine h = tt
  genuine_action (OpensGate node token) fine h = tt
  genuine_action (Raises node token floor) fine h = tt

  fine_take : (action : Action) → IsUnforgedAction names state action → IsFineTake state action
  fine_take (Opens node terms) h = tt
  fine_take (FailsToOpen node raised) h = tt
  fine_take (Takes node input) h = fine_at node (state.processes node) input h
  fine_take (Offers node) h = tt
  fine_take (Stops node) h = tt
  fine_take (StopsIn node kept input) h = fine_at node (state.processes node) input h
  fine_take (Loses node) h = tt
  fine_take (Remakes node boot given floor) h = tt
  fine_take (Enrols node token floor) h = tt
  fine_take (Unlocks node token) h = tt
  fine_take (OpensGate node token) h = tt
  fine_take (Raises node token floor) h = tt

-- ---- a history

fitting_token : (place : PlaceRecord) (tokens from : ℕ) (message : Message) → FitsVoter place tokens from message → token_of message < tokens
fitting_token place tokens from (Ask proposal token span) h = h.0
fitting_token place tokens from (Grant proposal token span) h = h.0
fitting_token place tokens from (Deny proposal token next) h = h.0
fitting_token place tokens from (Floor token next) h = h

-- the offered envelopes of a history are spelled, and of canonical tokens
knows_offered : (names : List (List ℕ)) (setting : Setting) (state : State) (s : Sites) (r : Roster) → length names ≡ setting.tokens → Sim s r → Posts s.seen.tokens r.cluster → Fits setting state s → IsFineState state
    → KnowsOffered names state.offered
knows_offered names setting state s r many sim posts fits fine place sealed at =
    let sent : IsSent s.seen.own.sent (ToPeer sealed) = each_get (IsSent s.seen.own.sent) state.offered place (ToPeer sealed) fits.offered at in
    let there : slice_get r.cluster.sent sent.0 ≡ Some sealed.envelope = ap (λ l. slice_get l sent.0) sim.sent ∙ sent.1 in
    let posted : IsDeliverable r.cluster.n s.seen.tokens sealed.envelope = each_get (IsDeliverable r.cluster.n s.seen.tokens) r.cluster.sent sent.0 sealed.envelope posts.sent there in
    let low = fitting_token (record { me = sealed.envelope.receiver; n = r.cluster.n }) s.seen.tokens sealed.envelope.sender sealed.envelope.message posted.fits in
    record {
      spelled = each_get IsSpelledOut state.offered place (ToPeer sealed) fine.offered_spelled at;
      token = subst (λ m. token_of sealed.envelope.message < m) (fits.tokens ∙ sym many) low;
    }

all_genuine : GroundLaw → (names : List (List ℕ)) (setting : Setting) → IsSized names setting → (first : ℕ) (actions : List Action) (state : State) (s : Sites) (r : Roster)
    → Sim s r → Posts s.seen.tokens r.cluster → Fits setting state s → Each (FloorsSentBy setting s.seen.own.sent) actions → IsFineState state → AreUnforged names setting first actions state → AreGenuine setting first actions state
unfolding AreUnforged AreGenuine
all_genuine grounds names setting sized first [] state s r sim posts fits floors fine h = tt
all_genuine grounds names setting sized first (action ∷ actions) state s r sim posts fits floors fine h =
    let knows = knows_offered names setting state s r sized.tokens sim posts fits fine in
    let g = genuine_action names setting sized state knows action fine h.0 in
    let next = follows grounds setting first state s r sim posts fits action g floors.0 in
    let fine' = step_fine grounds setting sized.nodes names first state action fine h.0 (fine_take names setting sized state knows action h.0) in (
      g,
      all_genuine grounds names setting sized (suc first) actions (state_after_action setting first action state) next.sites next.roster next.sim next.posts next.fits
          (all_grow setting s.seen.own.sent next.sites.seen.own.sent actions (λ l k. next.grows l (subst (λ sent. HasSent sent l) (sym sim.sent) k)) floors.1) fine' h.1,
    )

old_spelled : (xs : List Sealed) → ((i : ℕ) (sealed : Sealed) → slice_get xs i ≡ Some sealed → IsSpelled sealed.envelope) → Each IsSpelledOut (map (λ (sealed : Sealed). ToPeer sealed) xs)
old_spelled [] h = tt
old_spelled (x ∷ xs) h = (h 0 x refl, old_spelled xs (λ i sealed at. h (suc i) sealed at))

pub unforged : GroundLaw → (names : List (List ℕ)) (setting : Setting) (history : List Action) → IsSized names setting → IsUnforgedHistory names setting history → IsHistory setting history
unforged grounds names setting history sized h =
    let may = told_may setting (made_boot setting) (former setting) history h.starts in
    let first = first_holds setting (told_of setting history) may in
    record {
      starts = h.starts;
      genuine = all_genuine grounds names setting sized 0 history (first_state setting) first.sites first.roster first.sim first.posts first.fits (first_told setting history may)
          (record { nodes = λ node. tt; offered_spelled = old_spelled setting.old sized.old }) h.unforged;
    }
