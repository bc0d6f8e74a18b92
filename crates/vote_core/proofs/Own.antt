-- Members with numbers of their own are, under the names of their tokens, a roster.
use Rattle.std.proofs.Common.{◌≡◌, ℕ, ℤ, zero, suc, ◌+◌, ◌^◌, ◌<◌, ◌≤◌, ◌⊎◌, inl, inr, ⊎_elim, Bool, true, false, not, cond, ◌&&◌, ◌||◌, List, [], ◌∷◌, ◌++◌, length, map, take, Option, Some, None, refl, sym, ap, ◌∙◌, subst, arith, eqb, leb, ltb}
use Rattle.std.specs.Prelude.{option_map}
use Rattle.std.specs.List.{filter, slice_get}
use Rattle.std.proofs.lemmas.Bool.{cond_both, cond-true, cond-false, eqb-true, eqb-false, eq-eqb, ltb-true, leb-true, leb-false, and_parts, and_from, not-true, cases_Bool, cases_lt, false≢true}
use Rattle.std.proofs.lemmas.Option.{none-some, same_Some}
use Rattle.otp_core.specs.Acceptance.{Acceptance, HaveSingleUse, KeepRealTimeOrder, majority_of, size}
use Rattle.otp_core.specs.Gate.{GateRecord}
use Rattle.floor_store.specs.Content.{Content, opening_row, with_row, with_next_boot}
use Rattle.floor_store.specs.Records.{ProposalRecord, PassRecord, RowRecord}
use Rattle.vote_core.specs.Books.{Books, Doing, Begins, Gets, Turns, Speaks, Shuts, Adds, Waits, Course, Runs, Breaks, Starts, Gone, Remade, number_of, is_number, known_numbers, are_names, are_apart, rows_of, number_at, numbered_message, named_step, after_number, after_getting, after_beginning, may_add, own_after, with_name, with_names, names_after, doer_of, free_at, free_of, own_lost, made_floor, may_remake, after_course, go, free_in, KeepsBook, IsBegunIn, IsBegunBy, AreBegun, AreHeard, IsAddedFrom, AreAddedFrom, blank_books, deed_by, happening_by, happenings_by, blank_opening}
use Rattle.vote_core.specs.Calls.{FitsVoter}
use Rattle.vote_core.specs.NodeSet.{PlaceRecord, with_node}
use Rattle.vote_core.specs.Numbers.{named_message, named_ballot, named_pass, IsNamed, IsNamedVoter, IsNamedStep, named_turn, with_new_row, HasNewRow}
use Rattle.vote_core.specs.Roster.{Roster, Deed, Proposes, Hears, Throttles, Enrols, Rests, Happening, Does, Stops, Reopens, Loses, Renews, token_of, act_of_hearing, is_new, act_of, renewed_floor, event_of, with_tokens, enrolled_by, after_happening, serve, opened, served, taken, posted, free_before, IsGivenFrom, IsDeedOf, IsDoneIn}
use Rattle.vote_core.specs.RosterExamples.{none_enrolled}
use Rattle.vote_core.specs.Rows.{row, row_with_gate}
use Rattle.vote_core.specs.Safety.{AreDeliverable, AreFrom, AreTold, HaveMajority, MayOpen}
use Rattle.vote_core.specs.Schedule.{Member, Envelope, Begun, Cluster, Act, Begin, Deliver, Throttle, Idle, TickTelling, Tell, Raise, raised_member, is_member, has_store, is_running, place_of, set_node, with_member, stopped_member, lost_member, restarted_member, last_boot, cluster_after, accepted_in, began_in, envelope_from, with_begun, with_proposal_begun, may_begin, after_proposal, after_delivery, content_with_gate, after_act, node_of, receiver_of, after_restart, with_sent_of, greatest, greater, after_loss, all_most, may_replace, opening_rows, opening_member, without_node, after_replacement, after_event}
use Rattle.vote_core.specs.Voting.{Ballot, VoterState, Voted, pass_in, quiet_step, fresh_voter, propose, on_message, raise, raise_all, tick, tick_telling, tell}
use Rattle.vote_core.specs.declared.message.Message.{Message}
use Rattle.vote_core.specs.declared.message.Message.TheVariants.{Ask, Grant, Deny, Floor}
use Rattle.vote_core.proofs.Basics.{Each, all_most_at, opening_size, opening_floor, length_open, put_size, each_get, each_passes}
use Rattle.vote_core.proofs.Enrolments.{enrolled_from}
use Rattle.vote_core.proofs.Envelopes.{Posts, event_posts, all_deliverable}
use Rattle.vote_core.proofs.Frames.{only_message, only_propose, only_put, raise_none, raise_row, raised_row}
use Rattle.vote_core.proofs.Names.{by_test, same_or_not, not_eqb, is_below, each_from, named_put, proposed_named, heard_named, ticked_named, told_named, enrolled_named}
use Rattle.vote_core.proofs.Rosters.{single_use_over, order_over, majority_over, proposed_over, rise_over, told_over, heard_over}
use Rattle.vote_core.proofs.Rows.{raise_all_size, raise_all_boot}
use Rattle.vote_core.proofs.Unknown.{bound_raised, opening_beyond, opening_bound, opening_free}

-- ---- numbers and names

last : (m k : ℕ) → k < suc m → (k < m) ⊎ (k ≡ m)
last m k l = grind arith

number_there : (c : ℕ) (name : ℕ → ℕ) (t k : ℕ) → number_of c name t ≡ Some k → (k < c) × (name k ≡ t)
number_there zero name t k h = absurd (none-some k h)
number_there (suc c) name t k h =
    cond_both (eqb (name c) t) (Some c) (number_of c name t) (λ o. o ≡ Some k → (k < suc c) × (name k ≡ t))
    (λ q e. let is = same_Some c k e in (omega (arith, is), ap name (sym is) ∙ eqb-true (name c) t q))
    (λ _ e. let there = number_there c name t k e in (omega (arith, there.0), there.1)) h

number_lacks : (c : ℕ) (name : ℕ → ℕ) (t : ℕ) → number_of c name t ≡ None → (k : ℕ) → k < c → name k ≡ t → ⊥
number_lacks zero name t h k lt is = absurd (omega (arith, lt))
number_lacks (suc c) name t h k lt is =
    cond_both (eqb (name c) t) (Some c) (number_of c name t) (λ o. o ≡ None → ⊥)
    (λ _ e. none-some c (sym e))
    (λ q e. ⊎_elim (λ (l : k < c). number_lacks c name t e k l is) (λ (same : k ≡ c). eqb-false (name c) t q (ap name (sym same) ∙ is)) (last c k lt)) h

option_cases : {A : Type 0} (o : Option A) → (o ≡ None) ⊎ ((x : A) × (o ≡ Some x))
option_cases None = inl refl
option_cases (Some x) = inr (x, refl)

number_is : (c : ℕ) (name : ℕ → ℕ) (t k : ℕ) → k < c → name k ≡ t → is_number (number_of c name t) ≡ true
number_is c name t k lt is =
    ⊎_elim (λ (h : number_of c name t ≡ None). absurd (number_lacks c name t h k lt is))
    (λ (h : (x : ℕ) × (number_of c name t ≡ Some x)). ap is_number h.1) (option_cases (number_of c name t))

number_none : (o : Option ℕ) → is_number o ≡ false → o ≡ None
number_none None h = refl
number_none (Some x) h = absurd (false≢true (sym h))

number_same : (c : ℕ) (name name' : ℕ → ℕ) (t : ℕ) → ((k : ℕ) → k < c → name' k ≡ name k) → number_of c name' t ≡ number_of c name t
number_same zero name name' t h = refl
number_same (suc c) name name' t h =
    ap (λ m. cond (eqb m t) (Some c) (number_of c name' t)) (h c (omega arith))
    ∙ ap (λ o. cond (eqb (name c) t) (Some c) o) (number_same c name name' t (λ k lt. h k (omega (arith, lt))))

-- ---- a member under names

record NodeSim (T : ℕ) (name : ℕ → ℕ) (own canon : Member) (on : ℕ → Bool) : Type 0 where
  content : IsNamed name own.content canon.content
  voter : IsNamedVoter name (length own.content.rows) own.voter canon.voter
  running : canon.running ≡ own.running
  on_is : (t : ℕ) → on t ≡ is_number (number_of (length own.content.rows) name t)
  free : (t : ℕ) → on t ≡ false → row canon.content t ≡ opening_row 0

record Sim (b : Books) (r : Roster) : Type 0 where
  members : r.cluster.n ≡ b.own.n
  lost : r.cluster.lost ≡ b.own.lost
  least : (t : ℕ) → r.cluster.least t ≡ b.own.least t
  sent : r.cluster.sent ≡ b.own.sent
  begun : r.cluster.begun ≡ b.own.begun
  accepted : r.cluster.accepted ≡ b.own.accepted
  nodes : (i : ℕ) → NodeSim b.tokens (b.name i) (b.own.nodes i) (r.cluster.nodes i) (r.enrolled i)

store_same : {b : Books} {r : Roster} (i : ℕ) → Sim b r → has_store r.cluster i ≡ has_store b.own i
store_same {b} {r} i k = ap (λ (l : ℕ → Bool). not (l i) && is_member r.cluster.n i) k.lost ∙ ap (λ m. not (b.own.lost i) && is_member m i) k.members

running_same : {b : Books} {r : Roster} (i : ℕ) → Sim b r → is_running r.cluster i ≡ is_running b.own i
running_same {b} {r} i k = ap (λ x. x && (r.cluster.nodes i).running) (store_same i k) ∙ ap (λ x. has_store b.own i && x) (k.nodes i).running

place_same : {b : Books} {r : Roster} (i : ℕ) → Sim b r → place_of r.cluster i ≡ place_of b.own i
place_same {b} {r} i k = ap (λ m. record { me = i; n = m }) k.members

is_on : {b : Books} {r : Roster} (i number : ℕ) → Sim b r → number < rows_of b i → r.enrolled i (b.name i number) ≡ true
is_on {b} {r} i number k within = (k.nodes i).on_is (b.name i number) ∙ number_is (rows_of b i) (b.name i) (b.name i number) number within refl

-- ---- choices

two_sim : (b : Books) (r : Roster) (m m' : Bool) (A B A' B' : Cluster) → m' ≡ m → (m ≡ true → Sim (record b { own = A }) (record r { cluster = A' })) → (m ≡ false → Sim (record b { own = B }) (record r { cluster = B' }))
    → Sim (record b { own = cond m A B }) (record r { cluster = cond m' A' B' })
two_sim b r true true A B A' B' e h l = h refl
two_sim b r false false A B A' B' e h l = l refl
two_sim b r true false A B A' B' e h l = absurd (false≢true e)
two_sim b r false true A B A' B' e h l = absurd (false≢true (sym e))

member_sim : (b : Books) (r : Roster) (i : ℕ) (x x' : Member) → Sim b r → NodeSim b.tokens (b.name i) x x' (r.enrolled i) → Sim (record b { own = with_member i x b.own }) (record r { cluster = with_member i x' r.cluster })
member_sim b r i x x' k h = record {
  members = k.members;
  lost = k.lost;
  least = k.least;
  sent = k.sent;
  begun = k.begun;
  accepted = k.accepted;
  nodes = λ j.
      by_test (λ (y y' : Member). NodeSim b.tokens (b.name j) y y' (r.enrolled j)) (eqb j i) x (b.own.nodes j) x' (r.cluster.nodes j)
      (λ q. subst (λ m. NodeSim b.tokens (b.name m) x x' (r.enrolled m)) (sym (eqb-true j i q)) h) (λ _. k.nodes j);
}

stopped_node : {T : ℕ} {name : ℕ → ℕ} {own canon : Member} {on : ℕ → Bool} → NodeSim T name own canon on → NodeSim T name (stopped_member own) (stopped_member canon) on
stopped_node h = record { content = h.content; voter = h.voter; running = refl; on_is = h.on_is; free = h.free }

fresh_named : (name : ℕ → ℕ) (T : ℕ) → IsNamedVoter name T fresh_voter fresh_voter
fresh_named name T = record { known = λ i q at. absurd (none-some q at); pending = refl; seq = refl }

next_named : {name : ℕ → ℕ} {c d : Content} → IsNamed name c d → IsNamed name (with_next_boot c) (with_next_boot d)
next_named h = record { one = h.one; there = h.there; rows = h.rows; boot = ap (λ m. m + 1) h.boot; last = h.last; last_known = h.last_known }

-- ---- a step

step_node : {T : ℕ} {name : ℕ → ℕ} {own canon : Member} {on : ℕ → Bool} (s s' : Voted) → NodeSim T name own canon on → IsNamedStep name (length own.content.rows) s s' → ((t : ℕ) → on t ≡ false → row s'.content t ≡ row canon.content t)
    → NodeSim T name (record { content = s.content; voter = s.voter; running = true }) (record { content = s'.content; voter = s'.voter; running = true }) on
step_node {T} {name} {own} {canon} {on} s s' k h frame = record {
  content = h.content;
  voter = subst (λ m. IsNamedVoter name m s.voter s'.voter) (sym h.size) h.voter;
  running = refl;
  on_is = λ t. subst (λ m. on t ≡ is_number (number_of m name t)) (sym h.size) (k.on_is t);
  free = λ t off. frame t off ∙ k.free t off;
}

accepted_same : (w x : Cluster) (e i : ℕ) (o : Option PassRecord) → w.begun ≡ x.begun → accepted_in w e i o ≡ accepted_in x e i o
accepted_same w x e i None h = refl
accepted_same w x e i (Some p) h =
    ap (λ (B : ProposalRecord → Option Begun). record {
      began = began_in (B (record { node = i; boot = p.boot; seq = p.seq }));
      ended = e;
      node = i;
      token = p.token;
      lo = p.lo;
      hi = p.hi;
    } ∷ []) h

step_sim : (b : Books) (r : Roster) (e i : ℕ) (s s' : Voted) → Sim b r → IsNamedStep (b.name i) (rows_of b i) s s' → ((t : ℕ) → r.enrolled i t ≡ false → row s'.content t ≡ row (r.cluster.nodes i).content t)
    → Sim (record b { own = cluster_after e i (named_step (b.name i) s) b.own }) (record r { cluster = cluster_after e i s' r.cluster })
unfolding cluster_after
step_sim b r e i s s' k h frame =
    let x : Member = record { content = s.content; voter = s.voter; running = true } in
    let x' : Member = record { content = s'.content; voter = s'.voter; running = true } in
    record {
      members = k.members;
      lost = k.lost;
      least = k.least;
      sent = ap (λ l. l ++ map (envelope_from i) s'.sends) k.sent ∙ ap (λ l. b.own.sent ++ map (envelope_from i) l) h.sends;
      begun = k.begun;
      accepted = ap (λ l. l ++ accepted_in r.cluster e i (pass_in s'.decisions)) k.accepted
          ∙ ap (λ l. b.own.accepted ++ l) (accepted_same r.cluster b.own e i (pass_in s'.decisions) k.begun ∙ ap (λ ds. accepted_in b.own e i (pass_in ds)) h.decisions);
      nodes = λ j.
          by_test (λ (y y' : Member). NodeSim b.tokens (b.name j) y y' (r.enrolled j)) (eqb j i) x (b.own.nodes j) x' (r.cluster.nodes j)
          (λ q. subst (λ m. NodeSim b.tokens (b.name m) x x' (r.enrolled m)) (sym (eqb-true j i q)) (step_node s s' (k.nodes i) h frame)) (λ _. k.nodes j);
    }

-- ---- a proposal

begun_sim : (b : Books) (r : Roster) (e i t lo hi : ℕ) → Sim b r → Sim (record b { own = with_proposal_begun e i t lo hi b.own }) (record r { cluster = with_proposal_begun e i t lo hi r.cluster })
unfolding with_proposal_begun
begun_sim b r e i t lo hi k =
    let d : Begun = record { token = t; lo = lo; hi = hi; event = e } in
    let h = k.nodes i in
    record {
      members = k.members;
      lost = k.lost;
      least = k.least;
      sent = k.sent;
      accepted = k.accepted;
      nodes = k.nodes;
      begun = ap (λ m. with_begun (record { node = i; boot = m; seq = (r.cluster.nodes i).voter.seq }) d r.cluster.begun) h.content.boot
          ∙ ap (λ m. with_begun (record { node = i; boot = (b.own.nodes i).content.boot; seq = m }) d r.cluster.begun) h.voter.seq
          ∙ ap (λ B. with_begun (record { node = i; boot = (b.own.nodes i).content.boot; seq = (b.own.nodes i).voter.seq }) d B) k.begun;
    }

and_same : (a a' b b' : Bool) → a' ≡ a → b' ≡ b → (a' && b') ≡ (a && b)
and_same a a' b b' h k = ap (λ x. x && b') h ∙ ap (λ x. a && x) k

length_map : {A B : Type 0} (f : A → B) (xs : List A) → length (map f xs) ≡ length xs
length_map f [] = refl
length_map f (x ∷ xs) = ap suc (length_map f xs)

may_same : (b : Books) (r : Roster) (i number lo hi : ℕ) → Sim b r → number < rows_of b i → may_begin r.cluster i (b.name i number) lo hi ≡ may_begin b.own i number lo hi
may_same b r i number lo hi k within =
    let h = k.nodes i in
    let c = (b.own.nodes i).content in
    let d = (r.cluster.nodes i).content in
    let span = (eqb hi lo) || (eqb hi (lo + 1)) in
    and_same (is_running b.own i) (is_running r.cluster i) _ _ (running_same i k)
    (and_same (ltb number (length c.rows)) (ltb (b.name i number) (length d.rows)) _ _
    (is_below (b.name i number) (length d.rows) (h.content.there number within) ∙ sym (is_below number (length c.rows) within))
    (and_same (leb (row c number).next lo) (leb (row d (b.name i number)).next lo) _ _ (ap (λ (x : RowRecord). leb x.next lo) (h.content.rows number within))
    (ap (λ m. span && ltb m 32) (ap length h.voter.pending ∙ length_map (named_ballot (b.name i)) (b.own.nodes i).voter.pending))))

begins_sim : (b : Books) (r : Roster) (e i number lo hi : ℕ) (drift : ℤ) → Sim b r → number < rows_of b i
    → Sim (record b { own = after_beginning e i number lo hi drift b }) (record r { cluster = after_proposal e i (b.name i number) lo hi drift r.cluster })
unfolding after_proposal with_proposal_begun
begins_sim b r e i number lo hi drift k within =
    let name = b.name i in
    let x = b.own.nodes i in
    let y = r.cluster.nodes i in
    let h = k.nodes i in
    let s = propose (place_of b.own i) number lo hi drift x.content x.voter in
    let s' = propose (place_of r.cluster i) (name number) lo hi drift y.content y.voter in
    two_sim b r (ltb x.voter.seq (2 ^ 62)) (ltb y.voter.seq (2 ^ 62)) _ _ _ _ (ap (λ m. ltb m (2 ^ 62)) h.voter.seq)
    (λ _. step_sim (record b { own = with_proposal_begun e i (name number) lo hi b.own }) (record r { cluster = with_proposal_begun e i (name number) lo hi r.cluster }) e i s s'
    (begun_sim b r e i (name number) lo hi k)
    (subst (λ p. IsNamedStep name (length x.content.rows) s (propose p (name number) lo hi drift y.content y.voter)) (sym (place_same i k))
    (proposed_named name (place_of b.own i) x.content y.content x.voter y.voter h.content h.voter number lo hi drift within))
    (λ t off. only_propose (place_of r.cluster i) (name number) lo hi drift y.content y.voter t
    (λ e. false≢true (sym off ∙ ap (r.enrolled i) e ∙ is_on i number k within))))
    (λ _. member_sim b r i (stopped_member x) (stopped_member y) k (stopped_node h))

-- the same roster, if the act and what is enrolled are the same
abbrev After : ℕ → Roster → Act → Roster
After e r a = record r { cluster = after_act e a r.cluster }

begin_sim : (b : Books) (r : Roster) (e i number lo hi : ℕ) (drift : ℤ) → Sim b r
    → Sim (record b { own = own_after e (Begins i number lo hi drift) b })
    (record { cluster = after_act e (act_of r (deed_by b (Begins i number lo hi drift))) r.cluster; enrolled = enrolled_by r (deed_by b (Begins i number lo hi drift)) })
unfolding after_act
begin_sim b r e i number lo hi drift k =
    let name = b.name i in
    let T = rows_of b i in
    cond_both (ltb number T) (Proposes i (name number) lo hi drift) (Rests i)
    (λ (d : Deed). Sim (record b { own = own_after e (Begins i number lo hi drift) b }) (record { cluster = after_act e (act_of r d) r.cluster; enrolled = enrolled_by r d }))
    (λ q.
    let within = ltb-true number T q in
    subst (λ (a : Act). Sim (record b { own = own_after e (Begins i number lo hi drift) b }) (record r { cluster = after_act e a r.cluster }))
    (sym (cond-true (r.enrolled i (name number)) (Begin i (name number) lo hi drift) (Idle i) (is_on i number k within)))
    (two_sim b r (may_begin b.own i number lo hi) (may_begin r.cluster i (name number) lo hi) _ _ _ _ (may_same b r i number lo hi k within)
    (λ _. begins_sim b r e i number lo hi drift k within) (λ _. k)))
    (λ q.
    let off : may_begin b.own i number lo hi ≡ false = middle (is_running b.own i) (ltb number T) _ q in
    subst (λ (w : Cluster). Sim (record b { own = w }) r) (sym (cond-false (may_begin b.own i number lo hi) (after_beginning e i number lo hi drift b) b.own off)) k)
  where
    middle : (a m x : Bool) → m ≡ false → (a && (m && x)) ≡ false
    middle true m x h = ap (λ y. y && x) h
    middle false m x h = refl

-- ---- a message

named_back : (name : ℕ → ℕ) (number : ℕ) (m : Message) → name number ≡ token_of m → named_message name (numbered_message number m) ≡ m
named_back name number (Ask p t span) h = ap (λ x. Ask p x span) h
named_back name number (Grant p t span) h = ap (λ x. Grant p x span) h
named_back name number (Deny p t next) h = ap (λ x. Deny p x next) h
named_back name number (Floor t next) h = ap (λ x. Floor x next) h

number_in : (number : ℕ) (m : Message) → token_of (numbered_message number m) ≡ number
number_in number (Ask p t span) = refl
number_in number (Grant p t span) = refl
number_in number (Deny p t next) = refl
number_in number (Floor t next) = refl

heard_sim : (b : Books) (r : Roster) (e m : ℕ) (l : Envelope) (p : Option ℕ) → Sim b r → slice_get r.cluster.sent m ≡ Some l → number_at b l.receiver (token_of l.message) ≡ p
    → Sim (record b { own = after_number e l p b }) (record r { cluster = after_act e (act_of_hearing r m (Some l)) r.cluster })
unfolding after_act after_delivery
heard_sim b r e m l None k at is =
    let off : r.enrolled l.receiver (token_of l.message) ≡ false = (k.nodes l.receiver).on_is (token_of l.message) ∙ ap is_number is in
    subst (λ (a : Act). Sim b (record r { cluster = after_act e a r.cluster })) (sym (cond-false (r.enrolled l.receiver (token_of l.message)) (Deliver m) (Idle l.receiver) off)) k
heard_sim b r e m l (Some number) k at is =
    let i = l.receiver in
    let name = b.name i in
    let x = b.own.nodes i in
    let y = r.cluster.nodes i in
    let h = k.nodes i in
    let there = number_there (rows_of b i) name (token_of l.message) number is in
    let mine = numbered_message number l.message in
    let on : r.enrolled i (token_of l.message) ≡ true = h.on_is (token_of l.message) ∙ ap is_number is in
    let s = on_message (place_of b.own i) l.sender mine x.content x.voter in
    let s' = on_message (place_of r.cluster i) l.sender l.message y.content y.voter in
    let within : token_of mine < rows_of b i = let same = number_in number l.message in omega (arith, there.0, same) in
    subst (λ (a : Act). Sim (record b { own = after_number e l (Some number) b }) (record r { cluster = after_act e a r.cluster })) (sym (cond-true (r.enrolled i (token_of l.message)) (Deliver m) (Idle i) on))
    (subst (λ o. Sim (record b { own = after_number e l (Some number) b }) (record r { cluster = after_delivery e o r.cluster })) (sym at)
    (two_sim b r (is_running b.own i) (is_running r.cluster i) _ _ _ _ (running_same i k)
    (λ _. step_sim b r e i s s' k
    (subst (λ z. IsNamedStep name (rows_of b i) s (on_message z l.sender l.message y.content y.voter)) (sym (place_same i k))
    (subst (λ z. IsNamedStep name (rows_of b i) s (on_message (place_of b.own i) l.sender z y.content y.voter)) (named_back name number l.message there.1)
    (heard_named name (place_of b.own i) x.content y.content x.voter y.voter h.content h.voter l.sender mine within)))
    (λ t off. only_message (place_of r.cluster i) l.sender l.message y.content y.voter t (λ z. false≢true (sym off ∙ ap (r.enrolled i) z ∙ on))))
    (λ _. k)))

get_sim : (b : Books) (r : Roster) (e m : ℕ) (o : Option Envelope) → Sim b r → slice_get r.cluster.sent m ≡ o
    → Sim (record b { own = after_getting e o b }) (record r { cluster = after_act e (act_of_hearing r m o) r.cluster })
unfolding after_act after_delivery
get_sim b r e m None k at = subst (λ o. Sim b (record r { cluster = after_delivery e o r.cluster })) (sym at) k
get_sim b r e m (Some l) k at = heard_sim b r e m l (number_at b l.receiver (token_of l.message)) k at refl

gets_sim : (b : Books) (r : Roster) (e m : ℕ) → Sim b r → Sim (record b { own = own_after e (Gets m) b }) (record r { cluster = after_act e (act_of r (Hears m)) r.cluster })
gets_sim b r e m k =
    let same : slice_get r.cluster.sent m ≡ slice_get b.own.sent m = ap (λ l. slice_get l m) k.sent in
    subst (λ o. Sim (record b { own = after_getting e (slice_get b.own.sent m) b }) (record r { cluster = after_act e (act_of_hearing r m o) r.cluster })) (sym same)
    (get_sim b r e m (slice_get b.own.sent m) k same)

-- ---- a tick, and a gate

turn_on : (b : Books) (r : Roster) (i : ℕ) → Sim b r → filter (r.enrolled i) (named_turn (b.name i) (b.own.nodes i).content (b.own.nodes i).voter) ≡ named_turn (b.name i) (b.own.nodes i).content (b.own.nodes i).voter
turn_on b r i k =
    let turn = (b.own.nodes i).voter.turn in
    cond_both (ltb turn (rows_of b i)) (b.name i turn ∷ []) [] (λ l. filter (r.enrolled i) l ≡ l)
    (λ q. cond-true (r.enrolled i (b.name i turn)) (b.name i turn ∷ []) [] (is_on i turn k (ltb-true turn (rows_of b i) q))) (λ _. refl)

turns_sim : (b : Books) (r : Roster) (e i : ℕ) → Sim b r → Sim (record b { own = own_after e (Turns i) b }) (record r { cluster = after_act e (act_of r (deed_by b (Turns i))) r.cluster })
unfolding after_act tick_telling
turns_sim b r e i k =
    let x = b.own.nodes i in
    let y = r.cluster.nodes i in
    let h = k.nodes i in
    let told = named_turn (b.name i) x.content x.voter in
    let s = tick (place_of b.own i) x.content x.voter in
    subst (λ ts. Sim (record b { own = own_after e (Turns i) b }) (record r { cluster = after_act e (TickTelling i ts) r.cluster })) (sym (turn_on b r i k))
    (two_sim b r (is_running b.own i) (is_running r.cluster i) _ _ _ _ (running_same i k)
    (λ _. step_sim b r e i s (tick_telling (place_of r.cluster i) told y.content y.voter) k
    (subst (λ p. IsNamedStep (b.name i) (rows_of b i) s (tick_telling p told y.content y.voter)) (sym (place_same i k))
    (ticked_named (b.name i) (place_of b.own i) x.content y.content x.voter y.voter h.content h.voter))
    (λ t off. refl))
    (λ _. k))

known_on : (b : Books) (r : Roster) (i : ℕ) → Sim b r → (ns : List ℕ) → filter (r.enrolled i) (map (b.name i) (known_numbers b i ns)) ≡ map (b.name i) (known_numbers b i ns)
known_on b r i k [] = refl
known_on b r i k (n ∷ ns) =
    let rest = known_numbers b i ns in
    cond_both (ltb n (rows_of b i)) (n ∷ rest) rest (λ l. filter (r.enrolled i) (map (b.name i) l) ≡ map (b.name i) l)
    (λ q. cond-true (r.enrolled i (b.name i n)) (b.name i n ∷ filter (r.enrolled i) (map (b.name i) rest)) (filter (r.enrolled i) (map (b.name i) rest)) (is_on i n k (ltb-true n (rows_of b i) q))
    ∙ ap (λ l. b.name i n ∷ l) (known_on b r i k ns))
    (λ _. known_on b r i k ns)

known_within : (b : Books) (i : ℕ) (ns : List ℕ) (j t : ℕ) → slice_get (known_numbers b i ns) j ≡ Some t → t < rows_of b i
known_within b i ns j t at =
    ltb-true t (rows_of b i) (each_get (λ n. ltb n (rows_of b i) ≡ true) (known_numbers b i ns) j t (each_passes (λ n. ltb n (rows_of b i)) ns) at)

speaks_sim : (b : Books) (r : Roster) (e i : ℕ) (ns : List ℕ) → Sim b r → Sim (record b { own = own_after e (Speaks i ns) b }) (record r { cluster = after_act e (act_of r (deed_by b (Speaks i ns))) r.cluster })
unfolding after_act tell
speaks_sim b r e i ns k =
    let x = b.own.nodes i in
    let y = r.cluster.nodes i in
    let h = k.nodes i in
    let known_ones = known_numbers b i ns in
    let told = map (b.name i) known_ones in
    let s = tell (place_of b.own i) known_ones x.content x.voter in
    subst (λ ts. Sim (record b { own = own_after e (Speaks i ns) b }) (record r { cluster = after_act e (Tell i ts) r.cluster })) (sym (known_on b r i k ns))
    (two_sim b r (is_running b.own i) (is_running r.cluster i) _ _ _ _ (running_same i k)
    (λ _. step_sim b r e i s (tell (place_of r.cluster i) told y.content y.voter) k
    (subst (λ p. IsNamedStep (b.name i) (rows_of b i) s (tell p told y.content y.voter)) (sym (place_same i k))
    (told_named (b.name i) (place_of b.own i) known_ones x.content y.content x.voter y.voter h.content h.voter (known_within b i ns)))
    (λ t off. refl))
    (λ _. k))

gate_named : {name : ℕ → ℕ} {c d : Content} {v v' : VoterState} (number : ℕ) (gate : GateRecord) → IsNamed name c d → IsNamedVoter name (length c.rows) v v' → number < length c.rows
    → IsNamedStep name (length c.rows) (quiet_step (content_with_gate number gate c) v) (quiet_step (content_with_gate (name number) gate d) v')
gate_named {name} {c} {d} {v} {v'} number gate h k within =
    subst (λ (x : RowRecord). IsNamedStep name (length c.rows) (quiet_step (content_with_gate number gate c) v) (quiet_step (with_row d (name number) (row_with_gate gate x) None) v')) (sym (h.rows number within))
    (record { size = put_size c number (row_with_gate gate (row c number)) None; content = named_put name c d number (row_with_gate gate (row c number)) None None h within refl (λ z e. absurd (none-some z e)); voter = k; sends = refl; begun = refl; decisions = refl })

gate_row : (c : Content) (t : ℕ) (gate : GateRecord) (u : ℕ) → (u ≡ t → ⊥) → row (content_with_gate t gate c) u ≡ row c u
gate_row c t gate u ne = only_put c t (row_with_gate gate (row c t)) None u ne

shuts_sim : (b : Books) (r : Roster) (e i number : ℕ) (gate : GateRecord) → Sim b r
    → Sim (record b { own = own_after e (Shuts i number gate) b })
    (record { cluster = after_act e (act_of r (deed_by b (Shuts i number gate))) r.cluster; enrolled = enrolled_by r (deed_by b (Shuts i number gate)) })
unfolding after_act
shuts_sim b r e i number gate k =
    let name = b.name i in
    let T = rows_of b i in
    let x = b.own.nodes i in
    let y = r.cluster.nodes i in
    let h = k.nodes i in
    let own = own_after e (Shuts i number gate) b in
    let step = cluster_after e i (quiet_step (content_with_gate number gate x.content) x.voter) b.own in
    cond_both (ltb number T) (Throttles i (name number) gate) (Rests i)
    (λ (d : Deed). Sim (record b { own = own }) (record { cluster = after_act e (act_of r d) r.cluster; enrolled = enrolled_by r d }))
    (λ q.
    let within = ltb-true number T q in
    let on = is_on i number k within in
    subst (λ (a : Act). Sim (record b { own = own }) (record r { cluster = after_act e a r.cluster })) (sym (cond-true (r.enrolled i (name number)) (Throttle i (name number) gate) (Idle i) on))
    (two_sim b r (is_running b.own i && ltb number T) (is_running r.cluster i) _ _ _ _ (running_same i k ∙ sym (ap (λ z. is_running b.own i && z) q ∙ and_true (is_running b.own i)))
    (λ _. step_sim b r e i (quiet_step (content_with_gate number gate x.content) x.voter) (quiet_step (content_with_gate (name number) gate y.content) y.voter) k
    (gate_named number gate h.content h.voter within)
    (λ t off. gate_row y.content (name number) gate t (λ z. false≢true (sym off ∙ ap (r.enrolled i) z ∙ on))))
    (λ _. k)))
    (λ q. subst (λ (w : Cluster). Sim (record b { own = w }) r) (sym (cond-false (is_running b.own i && ltb number T) step b.own (and_false (is_running b.own i) (ltb number T) q))) k)
  where
    and_true : (a : Bool) → (a && true) ≡ a
    and_true true = refl
    and_true false = refl

    and_false : (a m : Bool) → m ≡ false → (a && m) ≡ false
    and_false true m h = h
    and_false false m h = refl

-- ---- a row more

raise_all_last : (n : ℕ) (floor : ℕ → ℕ) (c : Content) → (raise_all n floor c).last ≡ c.last
unfolding raise
raise_all_last zero floor c = refl
raise_all_last (suc n) floor c =
    let d = raise_all n floor c in
    cond_both (ltb (row d n).next (floor n)) _ d (λ (x : Content). x.last ≡ d.last) (λ _. refl) (λ _. refl) ∙ raise_all_last n floor c

map_agree : (name name' : ℕ → ℕ) (m : ℕ) (qs : List Ballot) → ((i : ℕ) → i < m → name' i ≡ name i) → Each (λ (q : Ballot). q.token < m) qs → map (named_ballot name) qs ≡ map (named_ballot name') qs
map_agree name name' m [] h k = refl
map_agree name name' m (q ∷ qs) h k =
    ap (λ t. record q { token = t } ∷ map (named_ballot name) qs) (sym (h q.token k.0)) ∙ ap (λ l. named_ballot name' q ∷ l) (map_agree name name' m qs h k.1)

le_true : (a b : ℕ) → a ≤ b → leb a b ≡ true
le_true a b le = ⊎_elim (λ (q : leb a b ≡ true). q) (λ (q : leb a b ≡ false). absurd (omega (arith, le, leb-false a b q))) (cases_Bool (leb a b))

or_true : (a b : Bool) → b ≡ true → (a || b) ≡ true
or_true true b h = refl
or_true false b h = h

or_none : (a b : Bool) → b ≡ false → (a || b) ≡ a
or_none true b h = refl
or_none false b h = h

or_off : (a b : Bool) → (a || b) ≡ false → a ≡ false
or_off true b h = absurd (false≢true (sym h))
or_off false b h = refl

module _ (b : Books) (r : Roster) (i t floor : ℕ) (k : Sim b r) (posts : Posts b.tokens r.cluster) (within : t < b.tokens) (none : number_at b i t ≡ None) where
  abbrev x : Member
  x = b.own.nodes i

  abbrev y : Member
  y = r.cluster.nodes i

  abbrev len : ℕ
  len = length x.content.rows

  abbrev name' : ℕ → ℕ
  name' = with_name len t (b.name i)

  abbrev given : ℕ → Bool
  given other = eqb other t

  abbrev floors : ℕ → ℕ
  floors other = floor

  abbrev f : ℕ → ℕ
  f u = cond (is_new r i given floors u) (floors u) 0

  abbrev g : ℕ → Bool
  g u = r.enrolled i u || is_new r i given floors u

  abbrev d1 : Content
  d1 = raise_all (length y.content.rows) f y.content

  below : (m : ℕ) → m < len → name' m ≡ b.name i m
  below m lt = cond-false (eqb m len) t (b.name i m) (not_eqb m len (λ e. omega (arith, lt, e)))

  here : name' len ≡ t
  here = cond-true (eqb len len) t (b.name i len) (eq-eqb len len refl)

  off : r.enrolled i t ≡ false
  off = (k.nodes i).on_is t ∙ ap is_number none

  row_t : row y.content t ≡ opening_row 0
  row_t = (k.nodes i).free t off

  new_t : is_new r i given floors t ≡ true
  new_t =
      and_from (eqb t t) (not (r.enrolled i t) && leb (row y.content t).next floor) (eq-eqb t t refl)
      (and_from (not (r.enrolled i t)) (leb (row y.content t).next floor) (ap not off) (ap (λ (z : RowRecord). leb z.next floor) row_t ∙ le_true 0 floor (omega arith)))

  old_u : (u : ℕ) → (u ≡ t → ⊥) → is_new r i given floors u ≡ false
  old_u u ne = ap (λ z. z && (not (r.enrolled i u) && leb (row y.content u).next floor)) (not_eqb u t ne)

  other_row : (u : ℕ) → (u ≡ t → ⊥) → row d1 u ≡ row y.content u
  other_row u ne = raise_none (length y.content.rows) u f y.content (cond-false (is_new r i given floors u) (floors u) 0 (old_u u ne))

  own_row : row d1 t ≡ opening_row floor
  own_row =
      let many = (posts.nodes i).rows in
      raise_row (length y.content.rows) t f y.content (omega (arith, within, many)) (omega arith)
      ∙ ap (λ m. raised_row m (row y.content t)) (cond-true (is_new r i given floors t) (floors t) 0 new_t)
      ∙ ap (raised_row floor) row_t ∙ bound_raised (opening_row 0) floor refl (omega arith)

  not_t : (m : ℕ) → m < len → name' m ≡ t → ⊥
  not_t m lt e = number_lacks len (b.name i) t none m lt (sym (below m lt) ∙ e)

  last_agree : (o : Option PassRecord) → ((z : PassRecord) → o ≡ Some z → z.token < len) → option_map (named_pass (b.name i)) o ≡ option_map (named_pass name') o
  last_agree None h = refl
  last_agree (Some z) h = ap (λ m. Some (record z { token = m })) (sym (below z.token (h z refl)))

  named : IsNamed name' x.content y.content
  named =
      let h = (k.nodes i).content in
      record {
        one = λ j m a c e. h.one j m a c (sym (below j a) ∙ e ∙ below m c);
        there = λ m a. subst (λ z. z < length y.content.rows) (sym (below m a)) (h.there m a);
        rows = λ m a. ap (λ z. row y.content z) (below m a) ∙ h.rows m a;
        boot = h.boot;
        last = h.last ∙ last_agree x.content.last h.last_known;
        last_known = h.last_known;
      }

  has_new : HasNewRow name' floor x.content y.content d1
  has_new =
      let many = (posts.nodes i).rows in
      let size = raise_all_size (length y.content.rows) f y.content in
      record {
        apart = λ m lt e. not_t m lt (e ∙ here);
        there = subst (λ z. z < length d1.rows) (sym here) (omega (arith, within, many, size));
        size = size;
        row_is = ap (λ z. row d1 z) here ∙ own_row;
        rest = λ m lt. other_row (name' m) (not_t m lt);
        boot = raise_all_boot (length y.content.rows) f y.content;
        last = raise_all_last (length y.content.rows) f y.content;
      }

  many_rows : length (x.content.rows ++ opening_row floor ∷ []) ≡ suc len
  many_rows = length_open x.content.rows (opening_row floor)

  on_more : (u : ℕ) → g u ≡ is_number (number_of (suc len) name' u)
  on_more u =
      ⊎_elim
      (λ (e : u ≡ t).
      subst (λ z. g z ≡ is_number (number_of (suc len) name' z)) (sym e)
      (or_true (r.enrolled i t) (is_new r i given floors t) new_t
      ∙ sym (ap is_number (cond-true (eqb (name' len) t) (Some len) (number_of len name' t) (eq-eqb (name' len) t here)))))
      (λ (ne : u ≡ t → ⊥).
      or_none (r.enrolled i u) (is_new r i given floors u) (old_u u ne) ∙ (k.nodes i).on_is u
      ∙ sym (ap is_number (cond-false (eqb (name' len) u) (Some len) (number_of len name' u) (not_eqb (name' len) u (λ e. ne (sym e ∙ here)))
      ∙ number_same len (b.name i) name' u below)))
      (same_or_not u t)

  more_node : NodeSim b.tokens name' (record x { content = with_new_row floor x.content }) (raised_member f y) g
  more_node =
      let h = k.nodes i in
      record {
        content = enrolled_named name' floor x.content y.content d1 named has_new;
        voter = record {
          known = λ j q at. let low = h.voter.known j q at in let many = many_rows in omega (arith, low, many);
          pending = h.voter.pending ∙ map_agree (b.name i) name' len x.voter.pending below (each_from (λ (q : Ballot). q.token < len) x.voter.pending h.voter.known);
          seq = h.voter.seq;
        };
        running = h.running;
        on_is = λ u. subst (λ m. g u ≡ is_number (number_of m name' u)) (sym many_rows) (on_more u);
        free = λ u z.
            other_row u (λ e. false≢true (sym z ∙ ap g e ∙ or_true (r.enrolled i t) (is_new r i given floors t) new_t))
            ∙ h.free u (or_off (r.enrolled i u) (is_new r i given floors u) z);
      }

  four : (T j : ℕ) (m : Bool) (one two : ℕ → ℕ) (p q p' q' : Member) (on on' : ℕ → Bool) → (m ≡ true → NodeSim T one p p' on) → (m ≡ false → NodeSim T two q q' on')
      → NodeSim T (cond m one two) (cond m p q) (cond m p' q') (cond m on on')
  four T j true one two p q p' q' on on' h l = h refl
  four T j false one two p q p' q' on on' h l = l refl

  added_sim : (e : ℕ) → has_store b.own i ≡ true
      → Sim (record b { own = with_member i (record x { content = with_new_row floor x.content }) b.own; name = with_names i name' b.name })
      (record { cluster = after_act e (Raise i f) r.cluster; enrolled = enrolled_by r (Enrols i given floors) })
  unfolding after_act
  added_sim e has =
      let new = record x { content = with_new_row floor x.content } in
      subst (λ m. Sim (record b { own = with_member i new b.own; name = with_names i name' b.name })
      (record { cluster = cond m (with_member i (raised_member f y) r.cluster) r.cluster; enrolled = cond m (with_tokens i g r.enrolled) r.enrolled }))
      (sym (store_same i k ∙ has))
      (record {
        members = k.members;
        lost = k.lost;
        least = k.least;
        sent = k.sent;
        begun = k.begun;
        accepted = k.accepted;
        nodes = λ j. four b.tokens j (eqb j i) name' (b.name j) new (b.own.nodes j) (raised_member f y) (r.cluster.nodes j) g (r.enrolled j) (λ _. more_node) (λ _. k.nodes j);
      })

adds_by : (b : Books) (r : Roster) (e i t floor : ℕ) (m : Bool) → may_add b i t ≡ m → Sim b r → Posts b.tokens r.cluster
    → Sim (record b {
      own = cond m (with_member i (record (b.own.nodes i) { content = with_new_row floor (b.own.nodes i).content }) b.own) b.own;
      name = cond m (with_names i (with_name (rows_of b i) t (b.name i)) b.name) b.name;
    })
    (record {
      cluster = after_act e (act_of r (cond m (Enrols i (λ other. eqb other t) (λ other. floor)) (Rests i))) r.cluster;
      enrolled = enrolled_by r (cond m (Enrols i (λ other. eqb other t) (λ other. floor)) (Rests i));
    })
unfolding after_act
adds_by b r e i t floor true may k posts =
    let one = and_parts (has_store b.own i) (ltb t b.tokens && not (is_number (number_at b i t))) may in
    let two = and_parts (ltb t b.tokens) (not (is_number (number_at b i t))) one.1 in
    added_sim b r i t floor k posts (ltb-true t b.tokens two.0) (number_none (number_at b i t) (not-true (is_number (number_at b i t)) two.1)) e one.0
adds_by b r e i t floor false may k posts = k

-- ---- a loss

greatest_same : (n : ℕ) (lost : ℕ → Bool) (one other : ℕ → ℕ) → ((i : ℕ) → one i ≡ other i) → greatest n lost one ≡ greatest n lost other
greatest_same zero lost one other h = refl
greatest_same (suc n) lost one other h =
    ap (λ m. cond (lost (suc n)) m (greater (one (suc n)) m)) (greatest_same n lost one other h)
    ∙ ap (λ m. cond (lost (suc n)) (greatest n lost other) (greater m (greatest n lost other))) (h (suc n))

free_same : (b : Books) (r : Roster) (i t : ℕ) → Sim b r → (row (r.cluster.nodes i).content t).next ≡ free_of b i t
free_same b r i t k =
    let h = k.nodes i in
    ⊎_elim
    (λ (none : number_at b i t ≡ None). ap (λ (x : RowRecord). x.next) (h.free t (h.on_is t ∙ ap is_number none)) ∙ sym (ap (free_at b i) none))
    (λ (some : (m : ℕ) × (number_at b i t ≡ Some m)).
    let there = number_there (rows_of b i) (b.name i) t some.0 some.1 in
    ap (λ m. (row (r.cluster.nodes i).content m).next) (sym there.1) ∙ ap (λ (x : RowRecord). x.next) (h.content.rows some.0 there.0) ∙ sym (ap (free_at b i) some.1))
    (option_cases (number_at b i t))

lost_node : {T : ℕ} {name : ℕ → ℕ} {own canon : Member} {on : ℕ → Bool} → NodeSim T name own canon on → NodeSim T name (lost_member own) (lost_member canon) on
lost_node {T} {name} {own} h = record { content = next_named h.content; voter = fresh_named name (length own.content.rows); running = refl; on_is = h.on_is; free = h.free }

gone_sim : (b : Books) (r : Roster) (i : ℕ) → Sim b r → Sim (record b { own = own_lost i b }) (record r { cluster = after_loss i r.cluster })
unfolding after_loss
gone_sim b r i k =
    let x = lost_member (b.own.nodes i) in
    let y = lost_member (r.cluster.nodes i) in
    two_sim b r (has_store b.own i) (has_store r.cluster i) _ _ _ _ (store_same i k)
    (λ _. record {
      members = k.members;
      lost = ap (with_node i) k.lost;
      least = λ t.
          greatest_same r.cluster.n (with_node i r.cluster.lost) (λ j. (row (r.cluster.nodes j).content t).next) (λ j. free_of b j t) (λ j. free_same b r j t k)
          ∙ ap (λ m. greatest m (with_node i r.cluster.lost) (λ j. free_of b j t)) k.members ∙ ap (λ l. greatest b.own.n (with_node i l) (λ j. free_of b j t)) k.lost;
      sent = k.sent;
      begun = k.begun;
      accepted = k.accepted;
      nodes = λ j.
          by_test (λ (p p' : Member). NodeSim b.tokens (b.name j) p p' (r.enrolled j)) (eqb j i) x (b.own.nodes j) y (r.cluster.nodes j)
          (λ q. subst (λ m. NodeSim b.tokens (b.name m) x y (r.enrolled m)) (sym (eqb-true j i q)) (lost_node (k.nodes i))) (λ _. k.nodes j);
    })
    (λ _. k)

-- ---- a restart

restarted_node : {T : ℕ} {name : ℕ → ℕ} {own canon : Member} {on : ℕ → Bool} → NodeSim T name own canon on → NodeSim T name (restarted_member own) (restarted_member canon) on
restarted_node {T} {name} {own} {canon} {on} h =
    choice (ltb own.content.boot last_boot) (ltb canon.content.boot last_boot) (ap (λ m. ltb m last_boot) h.content.boot)
  where
    choice : (m m' : Bool) → m' ≡ m
        → NodeSim T name (cond m (record { content = with_next_boot own.content; voter = fresh_voter; running = true }) (stopped_member own))
        (cond m' (record { content = with_next_boot canon.content; voter = fresh_voter; running = true }) (stopped_member canon)) on
    choice true true e = record { content = next_named h.content; voter = fresh_named name (length own.content.rows); running = refl; on_is = h.on_is; free = h.free }
    choice false false e = stopped_node h
    choice true false e = absurd (false≢true e)
    choice false true e = absurd (false≢true (sym e))

restart_sim : (b : Books) (r : Roster) (o : Option ℕ) → Sim b r → Sim (record b { own = after_restart o b.own }) (record r { cluster = after_restart o r.cluster })
unfolding after_restart
restart_sim b r None k = k
restart_sim b r (Some i) k =
    two_sim b r (has_store b.own i) (has_store r.cluster i) _ _ _ _ (store_same i k)
    (λ _. member_sim b r i (restarted_member (b.own.nodes i)) (restarted_member (r.cluster.nodes i)) k (restarted_node (k.nodes i))) (λ _. k)

-- ---- a store that is made

names_fit : (T c : ℕ) (name : ℕ → ℕ) (m : ℕ) → are_names T c name ≡ true → m < c → name m < T
names_fit T zero name m h lt = absurd (omega (arith, lt))
names_fit T (suc c) name m h lt =
    let parts = and_parts (ltb (name c) T) (are_names T c name) h in
    ⊎_elim (λ (l : m < c). names_fit T c name m parts.1 l) (λ (e : m ≡ c). subst (λ z. name z < T) (sym e) (ltb-true (name c) T parts.0)) (last c m lt)

names_apart : (c : ℕ) (name : ℕ → ℕ) (j m : ℕ) → are_apart c name ≡ true → j < c → m < c → name j ≡ name m → j ≡ m
names_apart zero name j m h a d e = absurd (omega (arith, a))
names_apart (suc c) name j m h a d e =
    let parts = and_parts (not (is_number (number_of c name (name c)))) (are_apart c name) h in
    let none = number_none (number_of c name (name c)) (not-true (is_number (number_of c name (name c))) parts.0) in
    ⊎_elim
    (λ (x : j < c). ⊎_elim (λ (y : m < c). names_apart c name j m parts.1 x y e) (λ (y : m ≡ c). absurd (number_lacks c name (name c) none j x (e ∙ ap name y))) (last c m d))
    (λ (x : j ≡ c). ⊎_elim (λ (y : m < c). absurd (number_lacks c name (name c) none m y (sym e ∙ ap name x))) (λ (y : m ≡ c). x ∙ sym y) (last c m d))
    (last c j a)

all_most_more : (n : ℕ) (one one' other other' : ℕ → ℕ) → ((t : ℕ) → one' t ≡ one t) → ((t : ℕ) → other t ≤ other' t) → all_most n one other ≡ true → all_most n one' other' ≡ true
all_most_more zero one one' other other' h l m = refl
all_most_more (suc t) one one' other other' h l m =
    let parts = and_parts (leb (one t) (other t)) (all_most t one other) m in
    let low = leb-true (one t) (other t) parts.0 in
    let same = h t in
    let more = l t in
    and_from (leb (one' t) (other' t)) (all_most t one' other') (le_true (one' t) (other' t) (omega (arith, low, same, more))) (all_most_more t one one' other other' h l parts.1)

opening_at : (n : ℕ) (floor : ℕ → ℕ) (u : ℕ) → u < n → row (record { rows = opening_rows n floor; boot = 0; last = None }) u ≡ opening_row (floor u)
opening_at n floor u lt = opening_bound n floor u ∙ ap opening_row (opening_floor n floor u lt)

remade_by : (b : Books) (r : Roster) (e i boot count : ℕ) (name floor : ℕ → ℕ) (m : Bool) → may_remake b i boot count name floor ≡ m → Sim b r → Posts b.tokens r.cluster
    → Sim (record b {
      own = cond m (record b.own { nodes = set_node i (opening_member boot count (λ number. floor (name number))) b.own.nodes; lost = without_node i b.own.lost }) b.own;
      name = cond m (with_names i name b.name) b.name;
    }) (after_happening e (cond m (Renews i boot (λ token. is_number (number_of count name token)) floor) (Does (Rests i))) r)
unfolding after_event after_act after_replacement
remade_by b r e i boot count name floor false may k posts = k
remade_by b r e i boot count name floor true may k posts =
    let R = r.cluster in
    let T = b.tokens in
    let canon = (R.nodes i).content in
    let given = λ (t : ℕ). is_number (number_of count name t) in
    let f = renewed_floor R given floor in
    let names = and_parts (are_names T count name && are_apart count name) _ may in
    let fit = and_parts (are_names T count name) (are_apart count name) names.0 in
    let one = and_parts (is_member b.own.n i && b.own.lost i) _ names.1 in
    let gone = and_parts (is_member b.own.n i) (b.own.lost i) one.0 in
    let two = and_parts (ltb (size b.own.n b.own.lost) (majority_of b.own.n)) _ one.1 in
    let three = and_parts (leb (b.own.nodes i).content.boot boot) _ two.1 in
    let most = and_parts (leb boot last_boot) (all_most T b.own.least (made_floor count name floor)) three.1 in
    let rows_are : length canon.rows ≡ T = (posts.nodes i).rows in
    let more : (t : ℕ) → made_floor count name floor t ≤ f t =
    λ t. by_test (λ (u v : ℕ). u ≤ v) (given t) (floor t) 0 (floor t) (R.least t) (λ _. omega arith) (λ _. omega arith) in
    let allowed : may_replace R i boot f ≡ true =
    and_from (is_member R.n i && R.lost i) _ (and_from (is_member R.n i) (R.lost i) (ap (λ z. is_member z i) k.members ∙ gone.0) (ap (λ (l : ℕ → Bool). l i) k.lost ∙ gone.1))
    (and_from (ltb (size R.n R.lost) (majority_of R.n)) _ (ap (λ z. ltb (size z R.lost) (majority_of z)) k.members ∙ ap (λ l. ltb (size b.own.n l) (majority_of b.own.n)) k.lost ∙ two.0)
    (and_from (leb canon.boot boot) _ (ap (λ z. leb z boot) (k.nodes i).content.boot ∙ three.0)
    (and_from (leb boot last_boot) _ most.0
    (subst (λ z. all_most z R.least f ≡ true) (sym rows_are) (all_most_more T b.own.least R.least (made_floor count name floor) f k.least more most.1))))) in
    let x = opening_member boot count (λ number. floor (name number)) in
    let y = opening_member boot (length canon.rows) f in
    let many = opening_size count (λ number. floor (name number)) in
    let all = opening_size (length canon.rows) f in
    let node : NodeSim T name x y given = record {
      content = record {
        one = λ j m a d e. names_apart count name j m fit.1 (omega (arith, a, many)) (omega (arith, d, many)) e;
        there = λ m a. let low = names_fit T count name m fit.0 (omega (arith, a, many)) in omega (arith, low, all, rows_are);
        rows = λ m a.
            let lt : m < count = omega (arith, a, many) in
            let low = names_fit T count name m fit.0 lt in
            opening_at (length canon.rows) f (name m) (omega (arith, low, rows_are))
            ∙ ap opening_row (cond-true (given (name m)) (floor (name m)) (R.least (name m)) (number_is count name (name m) m lt refl))
            ∙ sym (opening_at count (λ number. floor (name number)) m lt);
        boot = refl;
        last = refl;
        last_known = λ z e. absurd (none-some z e);
      };
      voter = fresh_named name (length (opening_rows count (λ number. floor (name number))));
      running = refl;
      on_is = λ t. subst (λ m. given t ≡ is_number (number_of m name t)) (sym many) refl;
      free = λ t off.
          ⊎_elim
          (λ (lt : t < T).
          let low = all_most_at T b.own.least (made_floor count name floor) t most.1 lt in
          let nothing : made_floor count name floor t ≡ 0 = cond-false (given t) (floor t) 0 off in
          let same = k.least t in
          opening_free (length canon.rows) f t (cond-false (given t) (floor t) (R.least t) off ∙ none_left (R.least t) (b.own.least t) (made_floor count name floor t) same low nothing))
          (λ (ge : T ≤ t). opening_beyond (opening_rows (length canon.rows) f) t (omega (arith, ge, all, rows_are)))
          (cases_lt t T);
    } in
    subst (λ m. Sim (record b { own = record b.own { nodes = set_node i x b.own.nodes; lost = without_node i b.own.lost }; name = with_names i name b.name })
    (record { cluster = cond m (record R { nodes = set_node i y R.nodes; lost = without_node i R.lost }) R; enrolled = cond m (with_tokens i given r.enrolled) r.enrolled }))
    (sym allowed)
    (record {
      members = k.members;
      lost = ap (without_node i) k.lost;
      least = k.least;
      sent = k.sent;
      begun = k.begun;
      accepted = k.accepted;
      nodes = λ j. four_of T (eqb j i) name (b.name j) x (b.own.nodes j) y (R.nodes j) given (r.enrolled j) node (k.nodes j);
    })
  where
    none_left : (a c d : ℕ) → a ≡ c → c ≤ d → d ≡ 0 → a ≡ 0
    none_left a c d p q z = omega (arith, p, q, z)

    four_of : (T : ℕ) (m : Bool) (one two : ℕ → ℕ) (p q p' q' : Member) (on on' : ℕ → Bool) → NodeSim T one p p' on → NodeSim T two q q' on'
        → NodeSim T (cond m one two) (cond m p q) (cond m p' q') (cond m on on')
    four_of T true one two p q p' q' on on' h l = h
    four_of T false one two p q p' q' on on' h l = l

-- ---- what happens

doing_sim : (e : ℕ) (b : Books) (r : Roster) (d : Doing) → Posts b.tokens r.cluster → Sim b r
    → Sim (record b { own = own_after e d b; name = names_after d b }) (record { cluster = after_act e (act_of r (deed_by b d)) r.cluster; enrolled = enrolled_by r (deed_by b d) })
unfolding after_act
doing_sim e b r (Begins i number lo hi drift) posts k = begin_sim b r e i number lo hi drift k
doing_sim e b r (Gets m) posts k = gets_sim b r e m k
doing_sim e b r (Turns i) posts k = turns_sim b r e i k
doing_sim e b r (Speaks i ns) posts k = speaks_sim b r e i ns k
doing_sim e b r (Shuts i number gate) posts k = shuts_sim b r e i number gate k
doing_sim e b r (Adds i t floor) posts k = adds_by b r e i t floor (may_add b i t) refl k posts
doing_sim e b r (Waits i) posts k = k

hearing_node : (r : Roster) (m : ℕ) (o : Option Envelope) → slice_get r.cluster.sent m ≡ o → node_of (act_of_hearing r m o) r.cluster ≡ receiver_of o
hearing_node r m None at = ap receiver_of at
hearing_node r m (Some l) at =
    cond_both (r.enrolled l.receiver (token_of l.message)) (Deliver m) (Idle l.receiver) (λ a. node_of a r.cluster ≡ Some l.receiver) (λ _. ap receiver_of at) (λ _. refl)

doer_same : (b : Books) (r : Roster) (d : Doing) → Sim b r → node_of (act_of r (deed_by b d)) r.cluster ≡ doer_of d b
doer_same b r (Begins i number lo hi drift) k =
    cond_both (ltb number (rows_of b i)) (Proposes i (b.name i number) lo hi drift) (Rests i) (λ z. node_of (act_of r z) r.cluster ≡ Some i)
    (λ _. cond_both (r.enrolled i (b.name i number)) (Begin i (b.name i number) lo hi drift) (Idle i) (λ a. node_of a r.cluster ≡ Some i) (λ _. refl) (λ _. refl)) (λ _. refl)
doer_same b r (Gets m) k = hearing_node r m (slice_get r.cluster.sent m) refl ∙ ap (λ l. receiver_of (slice_get l m)) k.sent
doer_same b r (Turns i) k = refl
doer_same b r (Speaks i ns) k = refl
doer_same b r (Shuts i number gate) k =
    cond_both (ltb number (rows_of b i)) (Throttles i (b.name i number) gate) (Rests i) (λ z. node_of (act_of r z) r.cluster ≡ Some i)
    (λ _. cond_both (r.enrolled i (b.name i number)) (Throttle i (b.name i number) gate) (Idle i) (λ a. node_of a r.cluster ≡ Some i) (λ _. refl) (λ _. refl)) (λ _. refl)
doer_same b r (Adds i t floor) k = cond_both (may_add b i t) (Enrols i (λ other. eqb other t) (λ other. floor)) (Rests i) (λ z. node_of (act_of r z) r.cluster ≡ Some i) (λ _. refl) (λ _. refl)
doer_same b r (Waits i) k = refl

unsent_sim : (b b' : Books) (r r' : Roster) → Sim b r → Sim b' r' → Sim (record b' { own = with_sent_of b.own b'.own }) (record r' { cluster = with_sent_of r.cluster r'.cluster })
unsent_sim b b' r r' k h = record { members = h.members; lost = h.lost; least = h.least; sent = k.sent; begun = h.begun; accepted = h.accepted; nodes = h.nodes }

course_sim : (e : ℕ) (b : Books) (r : Roster) (x : Course) → Posts b.tokens r.cluster → Sim b r → Sim (after_course e x b) (after_happening e (happening_by b x) r)
unfolding after_course after_event
course_sim e b r (Runs d) posts k = doing_sim e b r d posts k
course_sim e b r (Breaks true d) posts k =
    let b' = record b { own = own_after e d b; name = names_after d b } in
    let r' : Roster = record { cluster = after_act e (act_of r (deed_by b d)) r.cluster; enrolled = enrolled_by r (deed_by b d) } in
    subst (λ o. Sim (record b' { own = after_restart (doer_of d b) (with_sent_of b.own b'.own) }) (record r' { cluster = after_restart o (with_sent_of r.cluster r'.cluster) })) (sym (doer_same b r d k))
    (restart_sim (record b' { own = with_sent_of b.own b'.own }) (record r' { cluster = with_sent_of r.cluster r'.cluster }) (doer_of d b) (unsent_sim b b' r r' k (doing_sim e b r d posts k)))
course_sim e b r (Breaks false d) posts k =
    subst (λ o. Sim (record b { own = after_restart (doer_of d b) b.own }) (record r { cluster = after_restart o r.cluster })) (sym (doer_same b r d k)) (restart_sim b r (doer_of d b) k)
course_sim e b r (Starts i) posts k = restart_sim b r (Some i) k
course_sim e b r (Gone i) posts k = gone_sim b r i k
course_sim e b r (Remade i boot count name floor) posts k = remade_by b r e i boot count name floor (may_remake b i boot count name floor) refl k posts

tokens_same : (e : ℕ) (b : Books) (x : Course) → (after_course e x b).tokens ≡ b.tokens
unfolding after_course
tokens_same e b (Runs d) = refl
tokens_same e b (Breaks true d) = refl
tokens_same e b (Breaks false d) = refl
tokens_same e b (Starts i) = refl
tokens_same e b (Gone i) = refl
tokens_same e b (Remade i boot count name floor) = refl

go_sim : (xs : List Course) (e : ℕ) (b : Books) (r : Roster) → Posts b.tokens r.cluster → Sim b r → Sim (go e xs b) (serve e (happenings_by e xs b) r)
unfolding go serve happenings_by
go_sim [] e b r posts k = k
go_sim (x ∷ xs) e b r posts k =
    let h = happening_by b x in
    go_sim xs (suc e) (after_course e x b) (after_happening e h r)
    (subst (λ m. Posts m (after_happening e h r).cluster) (sym (tokens_same e b x)) (event_posts b.tokens e (event_of r h) r.cluster posts))
    (course_sim e b r x posts k)

-- ---- what is read of a member

own_take : (k : ℕ) (xs : List Course) (e : ℕ) (b : Books) → take k (happenings_by e xs b) ≡ happenings_by e (take k xs) b
unfolding happenings_by
own_take zero [] e b = refl
own_take zero (x ∷ xs) e b = refl
own_take (suc k) [] e b = refl
own_take (suc k) (x ∷ xs) e b = ap (λ l. happening_by b x ∷ l) (own_take k xs (suc e) (after_course e x b))

own_length : (xs : List Course) (e : ℕ) (b : Books) → length (happenings_by e xs b) ≡ length xs
unfolding happenings_by
own_length [] e b = refl
own_length (x ∷ xs) e b = ap suc (own_length xs (suc e) (after_course e x b))

abbrev store_in : Happening → ℕ
store_in (Does d) = 0
store_in (Stops kept d) = 0
store_in (Reopens i) = 0
store_in (Loses i) = 0
store_in (Renews i boot given floor) = suc i

remade_is : (b : Books) (x : Course) (i boot : ℕ) (given : ℕ → Bool) (floor : ℕ → ℕ) → ((m count : ℕ) (name f : ℕ → ℕ) → x ≡ Remade i m count name f → ⊥) → happening_by b x ≡ Renews i boot given floor → ⊥
remade_is b (Runs d) i boot given floor none h = let q = ap store_in h in omega (arith, q)
remade_is b (Breaks kept d) i boot given floor none h = let q = ap store_in h in omega (arith, q)
remade_is b (Starts j) i boot given floor none h = let q = ap store_in h in omega (arith, q)
remade_is b (Gone j) i boot given floor none h = let q = ap store_in h in omega (arith, q)
remade_is b (Remade j m count name f) i boot given floor none h =
    cond_both (may_remake b j m count name f) (Renews j m (λ token. is_number (number_of count name token)) f) (Does (Rests j)) (λ z. z ≡ Renews i boot given floor → ⊥)
    (λ _ e. let q = ap store_in e in let node : j ≡ i = omega (arith, q) in none m count name f (ap (λ z. Remade z m count name f) node))
    (λ _ e. let q = ap store_in e in omega (arith, q)) h

spares_book : (xs : List Course) (k e : ℕ) (b : Books) (i boot : ℕ) (given : ℕ → Bool) (floor : ℕ → ℕ) → ((m count : ℕ) (name f : ℕ → ℕ) → slice_get xs k ≡ Some (Remade i m count name f) → ⊥)
    → slice_get (happenings_by e xs b) k ≡ Some (Renews i boot given floor) → ⊥
unfolding happenings_by
spares_book [] k e b i boot given floor none h = none-some (Renews i boot given floor) h
spares_book (x ∷ xs) zero e b i boot given floor none h = remade_is b x i boot given floor (λ m count name f q. none m count name f (ap Some q)) (same_Some _ _ h)
spares_book (x ∷ xs) (suc k) e b i boot given floor none h = spares_book xs k (suc e) (after_course e x b) i boot given floor none h

-- ---- the floors that are given

given_by : (b : Books) (t x : ℕ) (d : Doing) → IsAddedFrom t x (Runs d) → IsGivenFrom t x (Does (deed_by b d))
given_by b t x (Begins i number lo hi drift) h =
    cond_both (ltb number (rows_of b i)) (Proposes i (b.name i number) lo hi drift) (Rests i) (λ z. IsGivenFrom t x (Does z)) (λ _. tt) (λ _. tt)
given_by b t x (Gets m) h = tt
given_by b t x (Turns i) h = tt
given_by b t x (Speaks i ns) h = tt
given_by b t x (Shuts i number gate) h =
    cond_both (ltb number (rows_of b i)) (Throttles i (b.name i number) gate) (Rests i) (λ z. IsGivenFrom t x (Does z)) (λ _. tt) (λ _. tt)
given_by b t x (Adds i u floor) h =
    cond_both (may_add b i u) (Enrols i (λ other. eqb other u) (λ other. floor)) (Rests i) (λ z. IsGivenFrom t x (Does z)) (λ _ on. h (sym (eqb-true t u on))) (λ _. tt)
given_by b t x (Waits i) h = tt

given_in : (b : Books) (t x : ℕ) (kept : Bool) (d : Doing) → IsAddedFrom t x (Breaks kept d) → IsGivenFrom t x (Stops kept (deed_by b d))
given_in b t x kept (Begins i number lo hi drift) h =
    cond_both (ltb number (rows_of b i)) (Proposes i (b.name i number) lo hi drift) (Rests i) (λ z. IsGivenFrom t x (Stops kept z)) (λ _. tt) (λ _. tt)
given_in b t x kept (Gets m) h = tt
given_in b t x kept (Turns i) h = tt
given_in b t x kept (Speaks i ns) h = tt
given_in b t x kept (Shuts i number gate) h =
    cond_both (ltb number (rows_of b i)) (Throttles i (b.name i number) gate) (Rests i) (λ z. IsGivenFrom t x (Stops kept z)) (λ _. tt) (λ _. tt)
given_in b t x kept (Adds i u floor) h =
    cond_both (may_add b i u) (Enrols i (λ other. eqb other u) (λ other. floor)) (Rests i) (λ z. IsGivenFrom t x (Stops kept z)) (λ _ on. h (sym (eqb-true t u on))) (λ _. tt)
given_in b t x kept (Waits i) h = tt

given_from : (b : Books) (t x : ℕ) (y : Course) → IsAddedFrom t x y → IsGivenFrom t x (happening_by b y)
given_from b t x (Runs d) h = given_by b t x d h
given_from b t x (Breaks kept d) h = given_in b t x kept d h
given_from b t x (Starts i) h = tt
given_from b t x (Gone i) h = tt
given_from b t x (Remade i boot count name floor) h =
    cond_both (may_remake b i boot count name floor) (Renews i boot (λ token. is_number (number_of count name token)) floor) (Does (Rests i)) (λ z. IsGivenFrom t x z) (λ _ _. h) (λ _. tt)

all_given : (t x : ℕ) (xs : List Course) (e : ℕ) (b : Books) → AreAddedFrom t x xs → (k : ℕ) (y : Happening) → slice_get (happenings_by e xs b) k ≡ Some y → IsGivenFrom t x y
unfolding happenings_by
all_given t x [] e b h k y at = absurd (none-some y at)
all_given t x (z ∷ zs) e b h zero y at = subst (IsGivenFrom t x) (same_Some _ y at) (given_from b t x z (h 0 z refl))
all_given t x (z ∷ zs) e b h (suc k) y at = all_given t x zs (suc e) (after_course e z b) (λ m. h (suc m)) k y at

-- ---- what was proposed, and what may be heard

begun_in : (b : Books) (p : Acceptance) (d : Doing) → IsDeedOf p (deed_by b d) → IsBegunIn b.name p d
begun_in b p (Begins i number lo hi drift) h =
    cond_both (ltb number (rows_of b i)) (Proposes i (b.name i number) lo hi drift) (Rests i) (λ z. IsDeedOf p z → IsBegunIn b.name p (Begins i number lo hi drift)) (λ _ q. q) (λ _ q. absurd q) h
begun_in b p (Gets m) h = h
begun_in b p (Turns i) h = h
begun_in b p (Speaks i ns) h = h
begun_in b p (Shuts i number gate) h =
    cond_both (ltb number (rows_of b i)) (Throttles i (b.name i number) gate) (Rests i) (λ z. IsDeedOf p z → ⊥) (λ _ q. q) (λ _ q. q) h
begun_in b p (Adds i u floor) h = cond_both (may_add b i u) (Enrols i (λ other. eqb other u) (λ other. floor)) (Rests i) (λ z. IsDeedOf p z → ⊥) (λ _ q. q) (λ _ q. q) h
begun_in b p (Waits i) h = h

begun_by : (b : Books) (p : Acceptance) (x : Course) → IsDoneIn p (Some (happening_by b x)) → IsBegunBy b.name p (Some x)
begun_by b p (Runs d) h = begun_in b p d h
begun_by b p (Breaks true d) h = begun_in b p d h
begun_by b p (Breaks false d) h = h
begun_by b p (Starts i) h = h
begun_by b p (Gone i) h = h
begun_by b p (Remade i boot count name floor) h =
    cond_both (may_remake b i boot count name floor) (Renews i boot (λ token. is_number (number_of count name token)) floor) (Does (Rests i)) (λ z. IsDoneIn p (Some z) → ⊥) (λ _ q. q) (λ _ q. q) h

all_begun : (p : Acceptance) (xs : List Course) (k e : ℕ) (b : Books) → IsDoneIn p (slice_get (happenings_by e xs b) k) → IsBegunBy (go e (take k xs) b).name p (slice_get xs k)
unfolding happenings_by go
all_begun p [] k e b h = absurd h
all_begun p (x ∷ xs) zero e b h = begun_by b p x h
all_begun p (x ∷ xs) (suc k) e b h = all_begun p xs k (suc e) (after_course e x b) h

numbered_fits : (n tokens rows number from : ℕ) (place : PlaceRecord) (m : Message) → number < rows → FitsVoter place tokens from m → FitsVoter place rows from (numbered_message number m)
numbered_fits n tokens rows number from place (Ask p t span) lt h = (lt, h.1, h.2)
numbered_fits n tokens rows number from place (Grant p t span) lt h = (lt, h.1, h.2)
numbered_fits n tokens rows number from place (Deny p t next) lt h = (lt, h.1)
numbered_fits n tokens rows number from place (Floor t next) lt h = lt

-- ---- from the opening on

module _ (n tokens : ℕ) (boot : ℕ → ℕ) (old : List Envelope) (xs : List Course) (may : MayOpen n tokens (blank_opening boot old)) where
  abbrev blank : Books
  blank = blank_books n tokens boot old

  abbrev hs : List Happening
  hs = happenings_by 0 xs blank

  start_sim : (ys : List Course) → Sim (go 0 ys blank) (served n tokens (blank_opening boot old) none_enrolled (happenings_by 0 ys blank))
  start_sim ys =
      go_sim ys 0 blank (opened n tokens (blank_opening boot old) none_enrolled)
      (record { nodes = λ node. record { rows = opening_size tokens (λ token. 0); pending = tt }; sent = all_deliverable n tokens old (λ j m is. (may j m is).0) })
      (record {
        members = refl;
        lost = refl;
        least = λ t. refl;
        sent = refl;
        begun = refl;
        accepted = refl;
        nodes = λ i. record {
          content = record {
            one = λ j m a _ _. absurd (omega (arith, a));
            there = λ m a. absurd (omega (arith, a));
            rows = λ m a. absurd (omega (arith, a));
            boot = refl;
            last = refl;
            last_known = λ z e. absurd (none-some z e);
          };
          voter = fresh_named (λ number. 0) 0;
          running = refl;
          on_is = λ t. refl;
          free = λ t _. opening_free tokens (λ token. 0) t refl;
        };
      })

  whole_sim : Sim (go 0 xs blank) (served n tokens (blank_opening boot old) none_enrolled hs)
  whole_sim = start_sim xs

  pub own_accepted : (go 0 xs blank).own.accepted ≡ taken n tokens (blank_opening boot old) none_enrolled hs
  own_accepted = sym whole_sim.accepted

  pub own_sent : (go 0 xs blank).own.sent ≡ posted n tokens (blank_opening boot old) none_enrolled hs
  own_sent = sym whole_sim.sent

  pub own_single_use : HaveSingleUse (go 0 xs blank).own.accepted
  own_single_use = subst HaveSingleUse (sym own_accepted) (single_use_over n tokens (blank_opening boot old) none_enrolled hs may)

  pub own_order : KeepRealTimeOrder (go 0 xs blank).own.accepted
  own_order = subst KeepRealTimeOrder (sym own_accepted) (order_over n tokens (blank_opening boot old) none_enrolled hs may)

  pub own_heard : AreDeliverable n tokens (go 0 xs blank).own.sent
  own_heard = subst (AreDeliverable n tokens) (sym own_sent) (heard_over n tokens (blank_opening boot old) none_enrolled hs may)

  free_is : (i t k : ℕ) → free_in blank xs i t k ≡ free_before n tokens (blank_opening boot old) none_enrolled hs i t k
  free_is i t k =
      let first = opened n tokens (blank_opening boot old) none_enrolled in
      sym (free_same (go 0 (take k xs) blank) (serve 0 (happenings_by 0 (take k xs) blank) first) i t (start_sim (take k xs)))
      ∙ ap (λ l. (row ((serve 0 l first).cluster.nodes i).content t).next) (sym (own_take k xs 0 blank))

  pub own_rise : (node token first later : ℕ) → first ≤ later → KeepsBook xs node first later → free_in blank xs node token first ≤ free_in blank xs node token later
  own_rise node token first later le keeps =
      subst (λ z. z ≤ free_in blank xs node token later) (sym (free_is node token first))
      (subst (λ z. free_before n tokens (blank_opening boot old) none_enrolled hs node token first ≤ z) (sym (free_is node token later))
      (rise_over n tokens (blank_opening boot old) none_enrolled hs may node token first later le
      (λ event m given floor low high. spares_book xs event 0 blank node m given floor (λ z count name f. keeps event z count name f low high))))

  pub own_told : (read : ℕ → Bool) → n < size n read + majority_of n → AreTold n read (free_in blank xs) (length xs) (go 0 xs blank).own.accepted
  own_told read many =
      subst (AreTold n read (free_in blank xs) (length xs)) (sym own_accepted)
      (λ i p at.
      subst (λ z. p.hi < z)
      (ap (λ m. greatest n (λ node. not (read node)) (λ node. free_before n tokens (blank_opening boot old) none_enrolled hs node p.token m)) (own_length xs 0 blank)
      ∙ greatest_same n (λ node. not (read node)) (λ node. free_before n tokens (blank_opening boot old) none_enrolled hs node p.token (length xs)) (λ node. free_in blank xs node p.token (length xs))
      (λ node. sym (free_is node p.token (length xs))))
      (told_over n tokens (blank_opening boot old) none_enrolled hs may read many i p at))

  pub own_majority : HaveMajority n (free_in blank xs) (go 0 xs blank).own.accepted
  own_majority = subst (HaveMajority n (free_in blank xs)) (sym own_accepted)
      (λ i p at.
      let h = majority_over n tokens (blank_opening boot old) none_enrolled hs may i p at in
      record {
        nodes = h.nodes;
        many = h.many;
        each = λ m z.
            let x = h.each m z in
            let k = x.1 in (
              x.0,
              record {
                after_it_began = k.after_it_began;
                before_it_ended = k.before_it_ended;
                free = subst (λ f. f ≤ p.lo) (sym (free_is m p.token x.0)) k.free;
                used = λ later lt. subst (λ f. p.hi < f) (sym (free_is m p.token later)) (k.used later lt);
              },
            );
      })

  pub own_from : (token least : ℕ) → token < tokens → AreAddedFrom token least xs → AreFrom token least (go 0 xs blank).own.accepted
  own_from token least within from =
      subst (AreFrom token least) (sym own_accepted)
      (enrolled_from n tokens (blank_opening boot old) none_enrolled hs may token least within ((λ node on. absurd (false≢true on)), all_given token least xs 0 blank from))

  pub own_proposed : AreBegun blank xs (go 0 xs blank).own.accepted
  own_proposed = subst (AreBegun blank xs) (sym own_accepted)
      (λ i p at. all_begun p xs p.began 0 blank (proposed_over n tokens (blank_opening boot old) none_enrolled hs may i p at))

  pub own_fits : AreHeard n (go 0 xs blank)
  own_fits i l number at is =
      let b = go 0 xs blank in
      let there = number_there (rows_of b l.receiver) (b.name l.receiver) (token_of l.message) number is in
      let d = own_heard i l at in
      record { first = d.first; last = d.last; other = d.other; fits = numbered_fits n tokens (rows_of b l.receiver) number l.sender (record { me = l.receiver; n = n }) l.message there.0 d.fits }
