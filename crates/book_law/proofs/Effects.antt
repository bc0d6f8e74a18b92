-- A step of a process's machine is an action of its voter over seats.
use Rattle.std.proofs.Common.{◌≡◌, ℕ, ℤ, ◌+◌, ◌^◌, ◌<◌, ⊎_elim, Bool, true, false, not, ◌&&◌, ◌||◌, List, [], ◌∷◌, ◌++◌, length, map, Option, Some, None, refl, sym, ap, ◌∙◌, subst, arith, eqb, leb, ltb}
use Rattle.std.specs.Prelude.{option_map}
use Rattle.std.specs.List.{slice_get}
use Rattle.std.specs.Option.{option_or}
use Rattle.std.proofs.lemmas.Bool.{and_from, and_parts, cases_eq, cond_both, cond-false, cond-true, eq-eqb, eqb-true, le-leb, leb-false, lt-ltb, ltb-true}
use Rattle.std.proofs.lemmas.List.{append-nil}
use Rattle.std.proofs.lemmas.Option.{none-some}
use Rattle.floor_store.specs.Content.{Content}
use Rattle.floor_store.specs.Records.{PassRecord}
use Rattle.floor_store.specs.Range.{IsSpan}
use Rattle.otp_core.specs.Acceptance.{Acceptance}
use Rattle.client_lines.specs.Request.{without_lf}
use Rattle.vote_core.specs.Books.{Doing, IsBegunIn, are_apart, Begins, Gets, Turns, Shuts, Waits, after_beginning, after_getting, after_number, named_step, number_at, number_of, numbered_message, rows_of}
use Rattle.vote_core.specs.NodeSet.{PlaceRecord}
use Rattle.vote_core.specs.Numbers.{IsNamed, IsNamedVoter, named_decision, named_made, named_message, named_pass, named_send}
use Rattle.vote_core.specs.Roster.{Roster, token_of as token_named}
use Rattle.vote_core.specs.Rows.{row, row_with_gate}
use Rattle.vote_core.specs.Schedule.{Cluster, Envelope, Member, accepted_in, cluster_after, content_with_gate, envelope_from, has_store, is_member, is_running, may_begin, place_of, stopped_member, with_begun, with_member, with_proposal_begun}
use Rattle.vote_core.specs.Voting.{VoterState, Voted, on_message, pass_in, pass_or, propose, quiet_step, tick}
use Rattle.vote_core.specs.declared.message.Message.{Message}
use Rattle.vote_core.specs.declared.message.Message.TheVariants.{Ask, Grant, Deny, Floor}
use Rattle.vote_core.specs.declared.step.Decision.{Decision}
use Rattle.vote_core.specs.declared.step.Decision.TheVariants.{Accepted as Won, Spent as Lost, Timeout as Late}
use Rattle.vote_core.proofs.Basics.{Each, each_get, put_size}
use Rattle.vote_core.proofs.Names.{heard_named, not_eqb, proposed_named}
use Rattle.oath_node.specs.Grounds.{HasGrounds, IsFitting}
use Rattle.oath_node.specs.Machine.{Beginning, Made, NodeEvent, NodeState, Client, Peer, Tick, Owner, is_heard, made_by_datagram, made_by_event, made_by_message, made_by_proposal, made_by_ruling, made_by_tick, made_by_vote, made_while_running, next_beginning, next_owner, quiet_made, gate_with_failure, reply_made, ruling_at, standing_at, stopped_node, token_of}
use Rattle.oath_node.specs.declared.ruling.Ruling.{Ruling}
use Rattle.oath_node.specs.declared.ruling.Ruling.TheVariants.{Outside, Again, Waiting, Denied, Wrong, Fitting}
use Rattle.cluster_sim.specs.World.{acceptance_in, begun_with}
use Rattle.cluster_sim.proofs.BelowLaws.{GroundLaw}
use Rattle.seat_law.specs.Below.{site_of}
use Rattle.seat_law.specs.Seats.{Sites, after_doing, seat_name, with_own}
use Rattle.seat_law.proofs.Last.{blind_message, blind_propose}
use Rattle.seat_law.proofs.Relation.{Sim, number_lacks, number_there, option_cases, seen_of}
use Rattle.seat_law.proofs.Stores.{names_apart}
use Rattle.book_law.specs.Lives.{Output, Terms, ToClient, ToPeer, IsGenuine, IsOfVote, WasOffered, named_beginning, named_envelope}

-- the member of a process's machine; it never stops of itself over seats
abbrev pub member_with : Content → VoterState → Member
member_with content voter = record { content = content; voter = voter; running = true }

-- The members after a step of the node's machine with the given result, in the event.
pub record Effect (e i : ℕ) (name : ℕ → ℕ) (old new : Cluster) (made : Made) : Type 0 where
  pub n : new.n ≡ old.n
  pub lost : new.lost ≡ old.lost
  pub least : new.least ≡ old.least
  pub here : new.nodes i ≡ member_with made.state.content made.state.voter
  pub others : (j : ℕ) → (j ≡ i → ⊥) → new.nodes j ≡ old.nodes j
  pub sent : new.sent ≡ old.sent ++ map (envelope_from i) (map (named_send name) made.sends)
  pub begun : new.begun ≡ begun_with e (option_map (named_beginning name) made.began) old.begun
  pub accepted : new.accepted ≡ old.accepted ++ acceptance_in new.begun e i (option_map (named_pass name) made.pass)

-- the input is a client's line, and the acceptance's factors are the ones that it is proposed for
pub record Fitted (terms : Terms) (state : NodeState) (i : ℕ) (input : NodeEvent) (p : Acceptance) : Type 0 where
  pub client : ℕ
  pub moment : ℕ
  pub text : List ℕ
  pub nonce : List ℕ
  pub number : ℕ
  pub drift : ℤ
  pub is_line : input ≡ Client client moment text
  pub fits : IsFitting terms.config.book terms.config.limits (standing_at state client moment (without_lf text)) moment text nonce number p.lo p.hi drift
  pub node : i ≡ p.node
  pub token : seat_name terms.seats number ≡ p.token

-- the action of the voter for a step with the given result
pub record Does (e i : ℕ) (s : Sites) (terms : Terms) (state : NodeState) (input : NodeEvent) (made : Made) : Type 0 where
  pub doing : Doing
  pub own : Cluster
  pub is_done : after_doing e doing s ≡ with_own own s
  pub effect : Effect e i (s.seen.name i) s.seen.own own made
  pub size : length made.state.content.rows ≡ length state.content.rows
  pub grows : made.state.content.last ≡ None → state.content.last ≡ None
  pub fitted : (p : Acceptance) → IsBegunIn s.seen.name p doing → Fitted terms state i input p

-- ---- passes and names

pass_or_named : (name : ℕ → ℕ) (d : Decision) (o : Option PassRecord) → pass_or (named_decision name d) (option_map (named_pass name) o) ≡ option_map (named_pass name) (pass_or d o)
pass_or_named name (Won pass) o = refl
pass_or_named name Lost o = refl
pass_or_named name Late o = refl

pass_named : (name : ℕ → ℕ) (ds : List (ℕ × Decision)) → pass_in (map (named_made name) ds) ≡ option_map (named_pass name) (pass_in ds)
pass_named name [] = refl
pass_named name (made ∷ ds) = ap (pass_or (named_decision name made.1)) (pass_named name ds) ∙ pass_or_named name made.1 (pass_in ds)

accepted_is : (w : Cluster) (e i : ℕ) (o : Option PassRecord) → accepted_in w e i o ≡ acceptance_in w.begun e i o
accepted_is w e i None = refl
accepted_is w e i (Some p) = refl

numbered_back : (name : ℕ → ℕ) (m : Message) → numbered_message (token_of m) (named_message name m) ≡ m
numbered_back name (Ask p t span) = refl
numbered_back name (Grant p t span) = refl
numbered_back name (Deny p t next) = refl
numbered_back name (Floor t next) = refl

named_token : (name : ℕ → ℕ) (m : Message) → token_named (named_message name m) ≡ name (token_of m)
named_token name (Ask p t span) = refl
named_token name (Grant p t span) = refl
named_token name (Deny p t next) = refl
named_token name (Floor t next) = refl

same_token : (m : Message) → token_named m ≡ token_of m
same_token (Ask p t span) = refl
same_token (Grant p t span) = refl
same_token (Deny p t next) = refl
same_token (Floor t next) = refl

-- the number of a seat is its own
pub own_number : (seats : List ℕ) (t : ℕ) → are_apart (length seats) (seat_name seats) ≡ true → t < length seats → number_of (length seats) (seat_name seats) (seat_name seats t) ≡ Some t
own_number seats t apart lt =
    let name = seat_name seats in
    ⊎_elim
    (λ (none : number_of (length seats) name (name t) ≡ None). absurd (number_lacks (length seats) name (name t) none t lt refl))
    (λ (some : (m : ℕ) × (number_of (length seats) name (name t) ≡ Some m)).
    let there = number_there (length seats) name (name t) some.0 some.1 in
    some.1 ∙ ap Some (names_apart (length seats) name some.0 t apart there.0 lt there.1))
    (option_cases (number_of (length seats) name (name t)))

nothing_or : (o l : Option PassRecord) → option_or o l ≡ None → l ≡ None
nothing_or None l e = e
nothing_or (Some p) l e = absurd (none-some p (sym e))

span_true : (lo hi : ℕ) → IsSpan lo hi → (eqb hi lo || eqb hi (lo + 1)) ≡ true
span_true lo hi h =
    let one : hi ≡ lo → (eqb hi lo || eqb hi (lo + 1)) ≡ true = λ e. ap (λ b. b || eqb hi (lo + 1)) (eq-eqb hi lo e) in
    let two : (hi ≡ lo → ⊥) → (eqb hi lo || eqb hi (lo + 1)) ≡ true = λ ne.
    let next : hi ≡ lo + 1 = omega (arith, h.ordered, h.short, ne) in
    ap (λ b. eqb hi lo || b) (eq-eqb hi (lo + 1) next) ∙ or_right (eqb hi lo) in
    ⊎_elim one two (cases_eq hi lo)
  where
    or_right : (b : Bool) → (b || true) ≡ true
    or_right true = refl
    or_right false = refl

-- the envelope was sent
abbrev pub HasSent : List Envelope → Envelope → Type 0
HasSent sent l = (k : ℕ) × (slice_get sent k ≡ Some l)

-- the sites have sent the envelope; nothing is said of an answer
abbrev pub IsSent : List Envelope → Output → Type 0
IsSent sent (ToPeer sealed) = HasSent sent sealed.envelope
IsSent sent (ToClient answer) = Unit {0}

-- the member `from` may tell the member `i` something
abbrev pub may_tell : ℕ → ℕ → ℕ → Bool
may_tell n from i = not (eqb from i) && (is_member n from && is_member n i)

-- a message that only tells a floor was sent to the node, whatever token it is about
abbrev pub FloorsSentIn : ℕ → ℕ → List Envelope → ℕ → ℕ → Message → Type 0
FloorsSentIn tokens n sent i from (Floor number floor) =
    (token : ℕ) → token < tokens → may_tell n from i ≡ true → HasSent sent (record { sender = from; receiver = i; message = Floor token floor })
FloorsSentIn tokens n sent i from message = Unit {0}

-- the floor that the input tells, if any, was sent
abbrev pub FloorsSent : ℕ → ℕ → List Envelope → ℕ → NodeEvent → Type 0
FloorsSent tokens n sent i (Peer from (Some l)) = FloorsSentIn tokens n sent i from l.message
FloorsSent tokens n sent i input = Unit {0}

-- ---- the steps of a process

module _ (law : GroundLaw) (e i n : ℕ) (s : Sites) (r : Roster) (sim : Sim s r) (terms : Terms) (state : NodeState) (input : NodeEvent)
    (members : s.seen.own.n ≡ n) (up : has_store s.seen.own i ≡ true)
    (member : s.seen.own.nodes i ≡ member_with state.content state.voter)
    (name : s.seen.name i ≡ seat_name terms.seats)
    (size : length state.content.rows ≡ length terms.seats) (book : length terms.seats ≡ length terms.config.book)
    (apart : are_apart (length terms.seats) (seat_name terms.seats) ≡ true) where
  abbrev own : Cluster
  own = s.seen.own

  abbrev place : PlaceRecord
  place = record { me = i; n = n }

  abbrev named : ℕ → ℕ
  named = s.seen.name i

  abbrev canon : Member
  canon = r.cluster.nodes i

  abbrev seen : Content
  seen = seen_of (site_of s i) canon.content

  runs : is_running own i ≡ true
  runs = and_from (has_store own i) (own.nodes i).running up (ap (λ (m : Member). m.running) member)

  own_content : IsNamed named state.content seen
  own_content = subst (λ (m : Member). IsNamed named m.content seen) member (sim.nodes i).content

  own_voter : IsNamedVoter named (length state.content.rows) state.voter canon.voter
  own_voter = subst (λ (m : Member). IsNamedVoter named (length m.content.rows) m.voter canon.voter) member (sim.nodes i).voter

  here : place_of own i ≡ place
  here = ap (λ m. record { me = i; n = m }) members

  -- the members with a step's proposal on record
  abbrev begun_own : Option Beginning → Cluster
  begun_own began = record own { begun = begun_with e (option_map (named_beginning named) began) own.begun }

  voted : (owners : List Owner) (began : Option Beginning) (step : Voted) → Effect e i named own (cluster_after e i (named_step named step) (begun_own began)) (made_by_vote owners began step state)
  unfolding cluster_after
  voted owners began step =
      let new = member_with step.content step.voter in
      record {
        n = refl;
        lost = refl;
        least = refl;
        here = cond-true (eqb i i) new (own.nodes i) (eq-eqb i i refl);
        others = λ j ne. cond-false (eqb j i) new (own.nodes j) (not_eqb j i ne);
        sent = refl;
        begun = refl;
        accepted = ap (λ l. own.accepted ++ l)
            (accepted_is (begun_own began) e i (pass_in (map (named_made named) step.decisions))
            ∙ ap (acceptance_in (begun_with e (option_map (named_beginning named) began) own.begun) e i) (pass_named named step.decisions));
      }

  -- a result that changes, sends and begins nothing
  idle : (made : Made) → made.state.content ≡ state.content → made.state.voter ≡ state.voter → made.sends ≡ [] → made.began ≡ None → made.pass ≡ None → Does e i s terms state input made
  idle made content voter sends began pass = record {
    doing = Waits i;
    own = own;
    is_done = refl;
    effect = record {
      n = refl;
      lost = refl;
      least = refl;
      here = member ∙ ap (λ c. member_with c state.voter) (sym content) ∙ ap (λ v. member_with made.state.content v) (sym voter);
      others = λ j ne. refl;
      sent = sym (append-nil own.sent) ∙ ap (λ l. own.sent ++ map (envelope_from i) (map (named_send named) l)) (sym sends);
      begun = ap (λ o. begun_with e (option_map (named_beginning named) o) own.begun) (sym began);
      accepted = sym (append-nil own.accepted) ∙ ap (λ o. own.accepted ++ acceptance_in own.begun e i (option_map (named_pass named) o)) (sym pass);
    };
    size = ap (λ (c : Content). length c.rows) content;
    grows = λ none. ap (λ (c : Content). c.last) (sym content) ∙ none;
    fitted = λ p h. absurd h;
  }

  -- ---- a tick

  tick_size : length (tick place state.content state.voter).content.rows ≡ length state.content.rows
  unfolding tick
  tick_size = refl

  tick_last : (tick place state.content state.voter).content.last ≡ None → state.content.last ≡ None
  unfolding tick
  tick_last none = none

  ticks : Does e i s terms state input (made_by_tick place state)
  ticks = record {
    doing = Turns i;
    own = cluster_after e i (named_step named (tick place state.content state.voter)) own;
    is_done = ap (λ w. with_own w s)
        (cond-true (is_running own i) (cluster_after e i (named_step named (tick (place_of own i) (own.nodes i).content (own.nodes i).voter)) own) own runs
        ∙ ap (λ p. cluster_after e i (named_step named (tick p (own.nodes i).content (own.nodes i).voter)) own) here
        ∙ ap (λ (m : Member). cluster_after e i (named_step named (tick place m.content m.voter)) own) member);
    effect = voted state.owners None (tick place state.content state.voter);
    size = tick_size;
    grows = tick_last;
    fitted = λ p h. absurd h;
  }

  -- ---- a message

  heard_number : (m : Message) → token_of m < length terms.seats → number_at s.seen i (token_named (named_message (seat_name terms.seats) m)) ≡ Some (token_of m)
  heard_number m within =
      let rows : rows_of s.seen i ≡ length terms.seats = ap (λ (x : Member). length x.content.rows) member ∙ size in
      let canonical = token_named (named_message (seat_name terms.seats) m) in
      ap (λ c. number_of c named canonical) rows ∙ ap (λ f. number_of (length terms.seats) f canonical) name
      ∙ ap (number_of (length terms.seats) (seat_name terms.seats)) (named_token (seat_name terms.seats) m)
      ∙ own_number terms.seats (token_of m) apart within

  hears : (k from : ℕ) (m : Message) → token_of m < length terms.seats
      → slice_get own.sent k ≡ Some (record { sender = from; receiver = i; message = named_message (seat_name terms.seats) m }) → Does e i s terms state input (made_by_message place from m state)
  hears k from m within at =
      let canonical = named_message (seat_name terms.seats) m in
      let l : Envelope = record { sender = from; receiver = i; message = canonical } in
      let step = on_message place from m state.content state.voter in
      let after : PlaceRecord → Message → Member → Cluster = λ p z x. cluster_after e i (named_step named (on_message p from z x.content x.voter)) own in
      record {
        doing = Gets k;
        own = cluster_after e i (named_step named step) own;
        is_done = ap (λ w. with_own w s)
            (ap (λ o. after_getting e o s.seen) at
            ∙ ap (λ o. after_number e l o s.seen) (heard_number m within)
            ∙ cond-true (is_running own i) (after (place_of own i) (numbered_message (token_of m) canonical) (own.nodes i)) own runs
            ∙ ap (λ p. after p (numbered_message (token_of m) canonical) (own.nodes i)) here
            ∙ ap (λ z. after place z (own.nodes i)) (numbered_back (seat_name terms.seats) m)
            ∙ ap (after place m) member);
        effect = voted state.owners None step;
        size = (heard_named named place state.content seen state.voter canon.voter own_content own_voter from m
            (subst (λ z. z < length state.content.rows) (sym (same_token m)) (subst (λ z. token_of m < z) (sym size) within))).size;
        grows = λ none. nothing_or (pass_in step.decisions) state.content.last
            (sym (ap (λ (w : Voted). w.content.last) (blind_message place from m state.voter state.content state.content.last)) ∙ none);
        fitted = λ p h. absurd h;
      }

  -- ---- a line

  shuts : (client moment : ℕ) (text : List ℕ) (token : ℕ) (kept : NodeState) → token < length state.content.rows
      → kept.content ≡ content_with_gate token (gate_with_failure state.content token moment) state.content → kept.voter ≡ state.voter
      → Does e i s terms state input (reply_made client text (Some (token, moment)) kept)
  unfolding cluster_after
  shuts client moment text token kept within content voter =
      let gate = gate_with_failure state.content token moment in
      let after : Member → Cluster = λ x. cluster_after e i (quiet_step (content_with_gate token gate x.content) x.voter) own in
      let new = member_with (content_with_gate token gate state.content) state.voter in
      record {
        doing = Shuts i token gate;
        own = after (member_with state.content state.voter);
        is_done = ap (λ w. with_own w s)
            (cond-true (is_running own i && ltb token (rows_of s.seen i)) (after (own.nodes i)) own
            (and_from (is_running own i) (ltb token (rows_of s.seen i)) runs
            (ap (λ (x : Member). ltb token (length x.content.rows)) member ∙ lt-ltb token (length state.content.rows) within))
            ∙ ap after member);
        effect = record {
          n = refl;
          lost = refl;
          least = refl;
          here = cond-true (eqb i i) new (own.nodes i) (eq-eqb i i refl) ∙ ap (λ c. member_with c state.voter) (sym content) ∙ ap (λ v. member_with kept.content v) (sym voter);
          others = λ j ne. cond-false (eqb j i) new (own.nodes j) (not_eqb j i ne);
          sent = refl;
          begun = refl;
          accepted = refl;
        };
        size = ap (λ (c : Content). length c.rows) content ∙ put_size state.content token (row_with_gate gate (row state.content token)) None;
        grows = λ none. sym (ap (λ (c : Content). c.last) content) ∙ none;
        fitted = λ p h. absurd h;
      }

  may : (client moment : ℕ) (text nonce : List ℕ) (t lo hi : ℕ) (drift : ℤ) → IsFitting terms.config.book terms.config.limits (standing_at state client moment (without_lf text)) moment text nonce t lo hi drift → may_begin own i t lo hi ≡ true
  may client moment text nonce t lo hi drift h =
      let a = ltb t (length state.content.rows) in
      let b = leb (row state.content t).next lo in
      let c = eqb hi lo || eqb hi (lo + 1) in
      let d = ltb (length state.voter.pending) 32 in
      ap (λ (x : Member). (has_store own i && x.running) && (ltb t (length x.content.rows) && (leb (row x.content t).next lo && (c && ltb (length x.voter.pending) 32)))) member
      ∙ and_from (has_store own i && true) (a && (b && (c && d))) (and_from (has_store own i) true up refl)
      (and_from a (b && (c && d)) (lt-ltb t (length state.content.rows) (subst (λ m. t < m) (sym (size ∙ book)) h.within))
      (and_from b (c && d) (le-leb (row state.content t).next lo h.free)
      (and_from c d (span_true lo hi h.span) (lt-ltb (length state.voter.pending) 32 (leb-false 32 (length state.voter.pending) h.room)))))

  begins : (client moment : ℕ) (text nonce : List ℕ) (t lo hi : ℕ) (drift : ℤ) → input ≡ Client client moment text → IsFitting terms.config.book terms.config.limits (standing_at state client moment (without_lf text)) moment text nonce t lo hi drift
      → ltb state.voter.seq (2 ^ 62) ≡ true
      → Does e i s terms state input (made_by_vote (state.owners ++ next_owner client (without_lf text) nonce state ∷ []) (Some (next_beginning place t lo hi state)) (propose place t lo hi drift state.content state.voter) state)
  unfolding with_proposal_begun
  begins client moment text nonce t lo hi drift is_line h free =
      let line = without_lf text in
      let owners = state.owners ++ next_owner client line nonce state ∷ [] in
      let began = Some (next_beginning place t lo hi state) in
      let step = propose place t lo hi drift state.content state.voter in
      let on_record : Member → Cluster = λ x. record own {
        begun = with_begun (record { node = i; boot = x.content.boot; seq = x.voter.seq }) (record { token = named t; lo = lo; hi = hi; event = e }) own.begun;
      } in
      let after : PlaceRecord → Member → Cluster = λ p x. cluster_after e i (named_step named (propose p t lo hi drift x.content x.voter)) (on_record x) in
      let stops = with_member i (stopped_member (own.nodes i)) own in
      let within : t < length state.content.rows = subst (λ m. t < m) (sym (size ∙ book)) h.within in
      record {
        doing = Begins i t lo hi drift;
        own = after place (member_with state.content state.voter);
        is_done = ap (λ w. with_own w s)
            (cond-true (may_begin own i t lo hi) (after_beginning e i t lo hi drift s.seen) own (may client moment text nonce t lo hi drift h)
            ∙ cond-true (ltb (own.nodes i).voter.seq (2 ^ 62)) (after (place_of own i) (own.nodes i)) stops (ap (λ (x : Member). ltb x.voter.seq (2 ^ 62)) member ∙ free)
            ∙ ap (λ p. after p (own.nodes i)) here
            ∙ ap (after place) member);
        effect = voted owners began step;
        size = (proposed_named named place state.content seen state.voter canon.voter own_content own_voter t lo hi drift within).size;
        grows = λ none. nothing_or (pass_in step.decisions) state.content.last
            (sym (ap (λ (w : Voted). w.content.last) (blind_propose place t lo hi drift state.voter state.content state.content.last)) ∙ none);
        fitted = λ p b. record {
          client = client;
          moment = moment;
          text = text;
          nonce = nonce;
          number = t;
          drift = drift;
          is_line = is_line;
          fits = subst (λ z. IsFitting terms.config.book terms.config.limits (standing_at state client moment line) moment text nonce t p.lo z drift) b.3
              (subst (λ z. IsFitting terms.config.book terms.config.limits (standing_at state client moment line) moment text nonce t z hi drift) b.2 h);
          node = b.0;
          token = ap (λ (f : ℕ → ℕ). f t) (sym name) ∙ b.1;
        };
      }

  proposes : (client moment : ℕ) (text nonce : List ℕ) (t lo hi : ℕ) (drift : ℤ) → input ≡ Client client moment text → IsFitting terms.config.book terms.config.limits (standing_at state client moment (without_lf text)) moment text nonce t lo hi drift
      → Does e i s terms state input (made_by_proposal place client (without_lf text) nonce t lo hi drift state)
  unfolding made_by_proposal
  proposes client moment text nonce t lo hi drift is_line h =
      let line = without_lf text in
      let goes = made_by_vote (state.owners ++ next_owner client line nonce state ∷ []) (Some (next_beginning place t lo hi state)) (propose place t lo hi drift state.content state.voter) state in
      cond_both (ltb state.voter.seq (2 ^ 62)) goes (quiet_made (stopped_node state)) (λ made. Does e i s terms state input made)
      (λ free. begins client moment text nonce t lo hi drift is_line h free)
      (λ _. idle (quiet_made (stopped_node state)) refl refl refl refl refl)

  ruled : (client moment : ℕ) (text : List ℕ) (ruling : Ruling) → input ≡ Client client moment text → HasGrounds terms.config.book terms.config.limits (standing_at state client moment (without_lf text)) moment text ruling
      → Does e i s terms state input (made_by_ruling place client moment (without_lf text) ruling state)
  unfolding made_by_ruling
  ruled client moment text Outside is_line h = idle _ refl refl refl refl refl
  ruled client moment text (Again kept) is_line h = idle _ refl refl refl refl refl
  ruled client moment text Waiting is_line h = idle _ refl refl refl refl refl
  ruled client moment text (Denied nonce reason) is_line h = idle _ refl refl refl refl refl
  ruled client moment text (Wrong nonce reason token) is_line h = shuts client moment _ token _ (subst (λ m. token < m) (sym (size ∙ book)) h.within) refl refl
  ruled client moment text (Fitting nonce t span drift) is_line h = proposes client moment text nonce t span.lo span.hi drift is_line h

  -- ---- each input

  is_for : (from : ℕ) (l : Envelope) → is_heard terms.config place from l ≡ true → (l.sender ≡ from) × (l.receiver ≡ i) × (token_of l.message < length terms.seats)
  is_for from l h =
      let a = and_parts (eqb l.sender from) _ h in
      let b = and_parts (eqb l.receiver i) _ a.1 in
      let c = and_parts (not (eqb l.sender i)) _ b.1 in
      let d = and_parts (is_member n l.sender) (ltb (token_of l.message) (length terms.config.book)) c.1 in
      (eqb-true l.sender from a.0, eqb-true l.receiver i b.0, subst (λ m. token_of l.message < m) (sym book) (ltb-true (token_of l.message) (length terms.config.book) d.1))

  sent_before : (offered : List Output) → Each (IsSent own.sent) offered → (l : Envelope) → WasOffered offered (record { key = terms.key; envelope = named_envelope terms.seats l })
      → (k : ℕ) × (slice_get own.sent k ≡ Some (named_envelope terms.seats l))
  sent_before offered known l was = each_get (IsSent own.sent) offered was.place (ToPeer (record { key = terms.key; envelope = named_envelope terms.seats l })) known was.is_there

  may_hear : (from : ℕ) (l : Envelope) → is_heard terms.config place from l ≡ true → may_tell n from i ≡ true
  may_hear from l h =
      let a = and_parts (eqb l.sender from) _ h in
      let b = and_parts (eqb l.receiver i) _ a.1 in
      let c = and_parts (not (eqb l.sender i)) _ b.1 in
      let d = and_parts (is_member n l.sender) (ltb (token_of l.message) (length terms.config.book)) c.1 in
      let here_is : is_member n i ≡ true = subst (λ m. is_member m i ≡ true) members (and_parts (not (own.lost i)) (is_member own.n i) up).1 in
      subst (λ z. may_tell n z i ≡ true) (eqb-true l.sender from a.0)
      (and_from (not (eqb l.sender i)) (is_member n l.sender && is_member n i) c.0 (and_from (is_member n l.sender) (is_member n i) d.0 here_is))

  -- the token of a number is a canonical one
  token_low : (t : ℕ) → t < length terms.seats → seat_name terms.seats t < s.seen.tokens
  token_low t within =
      let rows : rows_of s.seen i ≡ length terms.seats = ap (λ (x : Member). length x.content.rows) member ∙ size in
      subst (λ (f : ℕ → ℕ). f t < s.seen.tokens) name
      ((sim.nodes i).within (named t) ((sim.nodes i).seated t (subst (λ m. t < m) (sym rows) within)))

  -- what is heard was sent: a process offered it, or it tells a floor
  heard_sent : (from : ℕ) (m : Message) → may_tell n from i ≡ true → token_of m < length terms.seats
      → (IsOfVote m → HasSent own.sent (record { sender = from; receiver = i; message = named_message (seat_name terms.seats) m })) → FloorsSentIn s.seen.tokens n own.sent i from m
      → HasSent own.sent (record { sender = from; receiver = i; message = named_message (seat_name terms.seats) m })
  heard_sent from (Ask p t span) may within vote floors = vote tt
  heard_sent from (Grant p t span) may within vote floors = vote tt
  heard_sent from (Deny p t next) may within vote floors = vote tt
  heard_sent from (Floor t next) may within vote floors = floors (seat_name terms.seats t) (token_low t within) may

  reads : (from : ℕ) (offered : List Output) (read : Option Envelope) → Each (IsSent own.sent) offered → IsGenuine terms offered (Peer from read) → FloorsSent s.seen.tokens n own.sent i (Peer from read)
      → Does e i s terms state input (made_by_datagram terms.config place from read state)
  unfolding made_by_datagram
  reads from offered None known genuine floors = idle (quiet_made state) refl refl refl refl refl
  reads from offered (Some l) known genuine floors =
      cond_both (is_heard terms.config place from l) (made_by_message place from l.message state) (quiet_made state) (λ made. Does e i s terms state input made)
      (λ q.
      let is = is_for from l q in
      let at = heard_sent from l.message (may_hear from l q) is.2
      (λ vote.
      subst (λ z. HasSent own.sent (record { sender = from; receiver = z; message = named_message (seat_name terms.seats) l.message })) is.1
      (subst (λ z. HasSent own.sent (record { sender = z; receiver = l.receiver; message = named_message (seat_name terms.seats) l.message })) is.0
      (sent_before offered known l (genuine is.0 vote is.2))))
      floors in
      hears at.0 from l.message is.2 at.1)
      (λ _. idle (quiet_made state) refl refl refl refl refl)

  works : (offered : List Output) (v : NodeEvent) → input ≡ v → Each (IsSent own.sent) offered → IsGenuine terms offered v → FloorsSent s.seen.tokens n own.sent i v
      → Does e i s terms state input (made_while_running terms.config place v state)
  unfolding made_while_running
  works offered (Client client moment text) is known genuine floors =
      ruled client moment text (ruling_at terms.config state client moment text) is (law terms.config.book terms.config.limits (standing_at state client moment (without_lf text)) moment text)
  works offered (Peer from read) is known genuine floors = reads from offered read known genuine floors
  works offered Tick is known genuine floors = ticks

  pub does : (offered : List Output) → Each (IsSent own.sent) offered → IsGenuine terms offered input → FloorsSent s.seen.tokens n own.sent i input → Does e i s terms state input (made_by_event terms.config place input state)
  unfolding made_by_event
  does offered known genuine floors =
      cond_both state.running (made_while_running terms.config place input state) (quiet_made state) (λ made. Does e i s terms state input made)
      (λ _. works offered input refl known genuine floors) (λ _. idle (quiet_made state) refl refl refl refl refl)
