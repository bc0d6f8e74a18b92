-- Seats keep the greatest floors of their seeds from one start to the next.
use Rattle.std.proofs.Common.{◌≡◌, ℕ, ℤ, zero, suc, ◌+◌, ◌^◌, ◌<◌, ◌≤◌, ◌⊎◌, inl, inr, ⊎_elim, true, false, cond, ◌&&◌, List, [], ◌∷◌, length, take, Option, Some, None, refl, sym, ap, ◌∙◌, subst, arith, eqb, ltb}
use mathlib.Core.Path.{fun_ext}
use Rattle.std.specs.List.{slice_get}
use Rattle.std.proofs.lemmas.Bool.{cond_both, eq-eqb, eqb-true, ltb-true, false≢true}
use Rattle.std.proofs.lemmas.Option.{none-some, same_Some}
use Rattle.floor_store.specs.Content.{Content, with_row}
use Rattle.floor_store.specs.Records.{PassRecord, ProposalRecord, RowRecord, SpanRecord}
use Rattle.otp_core.specs.Acceptance.{Acceptance, LetsGo}
use Rattle.vote_core.specs.Books.{Adds, Begins, Doing, Gets, Shuts, Speaks, Turns, Waits, after_beginning, after_getting, after_number, blank_opening, doer_of, is_number, number_at, numbered_message, rows_of}
use Rattle.vote_core.specs.Roster.{Does, Enrols, Hears, Proposes, Renews, Rests, Roster, Throttles, act_of, act_of_hearing, after_happening, event_of, opened, renewed_floor, serve, token_of}
use Rattle.vote_core.specs.RosterExamples.{none_enrolled}
use Rattle.vote_core.specs.Rows.{row}
use Rattle.vote_core.specs.Safety.{MayOpen}
use Rattle.vote_core.specs.Schedule.{Begin, Cluster, Deliver, Envelope, Idle, Member, Throttle, after_act, after_event, after_replacement, after_restart, cluster_after, has_store, is_running, last_boot, lost_member, may_begin, may_replace, node_of, opening_member, place_of, restarted_member, stopped_member, with_member, with_proposal_begun, with_sent_of}
use Rattle.vote_core.specs.Voting.{Voted, propose, tick, tell}
use Rattle.vote_core.proofs.After.{stepped}
use Rattle.vote_core.proofs.Basics.{put_size}
use Rattle.vote_core.proofs.Frames.{Spared, act_row}
use Rattle.vote_core.proofs.Names.{not_eqb, same_or_not}
use Rattle.vote_core.proofs.Runs.{rows_restart}
use Rattle.seat_law.specs.Seats.{Breaks, Course, Gone, Remade, Runs, Sites, Starts, after_course, after_doing, blank_sites, deed_at, deed_of_hearing, free_in, free_of, go, happening_at, happenings_at, is_among, may_add, may_remake, may_seat, seat_content, seat_name, with_own}
use Rattle.seat_law.specs.SeedSeats.{AreSeatsGreatest, IsOpening, SeatsGreatest}
use Rattle.seat_law.specs.Seeds.{AreGivenUp, IsGivenUp}
use Rattle.seat_law.specs.Votes.{IsVote, floors_of, kept_row, row_in}
use Rattle.seat_law.proofs.Relation.{Sim, free_same, number_lacks, number_there, option_cases, row_same}
use Rattle.seat_law.proofs.Safe.{seats_rise, start_sims}
use Rattle.seat_law.proofs.SeatVotes.{seats_have_votes}
use Rattle.seat_law.proofs.Votes.{grants_replaced, raise_act, rows_loss, step_gate, step_message, step_propose}

-- ---- the number of seats

abbrev HasSize : ℕ → Content → Type 0
HasSize n c = length c.rows ≡ n

abbrev Any : RowRecord → Type 0
Any r = Unit {0}

size_put : (n : ℕ) (c : Content) (t : ℕ) (r : RowRecord) (p : Option PassRecord) → HasSize n c → Any r → HasSize n (with_row c t r p)
size_put n c t r p h _ = put_size c t r p ∙ h

abbrev NodeSize : ℕ → ℕ → Cluster → Type 0
NodeSize n i w = HasSize n (w.nodes i).content

-- another member at a node has as many rows
swap_size : (n i j : ℕ) (x : Member) (w : Cluster) → (HasSize n (w.nodes j).content → HasSize n x.content) → NodeSize n i w → NodeSize n i (with_member j x w)
swap_size n i j x w new h =
    cond_both (eqb i j) x (w.nodes i) (λ (y : Member). HasSize n y.content) (λ q. new (subst (λ m. HasSize n (w.nodes m).content) (eqb-true i j q) h)) (λ _. h)

step_size : (n i e j : ℕ) (s : Voted) (w : Cluster) → (HasSize n (w.nodes j).content → HasSize n s.content) → NodeSize n i w → NodeSize n i (cluster_after e j s w)
unfolding cluster_after
step_size n i e j s w new h =
    cond_both (eqb i j) (stepped s) (w.nodes i) (λ (y : Member). HasSize n y.content) (λ q. new (subst (λ m. HasSize n (w.nodes m).content) (eqb-true i j q) h)) (λ _. h)

restart_size : (n i : ℕ) (o : Option ℕ) (w : Cluster) → NodeSize n i w → NodeSize n i (after_restart o w)
unfolding after_restart
restart_size n i None w h = h
restart_size n i (Some j) w h =
    cond_both (has_store w j) (with_member j (restarted_member (w.nodes j)) w) w (NodeSize n i)
    (λ _. swap_size n i j (restarted_member (w.nodes j)) w
    (λ k. cond_both (ltb (w.nodes j).content.boot last_boot) _ (stopped_member (w.nodes j)) (λ (y : Member). HasSize n y.content) (λ _. k) (λ _. k)) h)
    (λ _. h)

begins_size : (n i e j seat lo hi : ℕ) (drift : ℤ) (s : Sites) → NodeSize n i s.seen.own → NodeSize n i (after_beginning e j seat lo hi drift s.seen)
unfolding with_proposal_begun
begins_size n i e j seat lo hi drift s h =
    let c = (s.seen.own.nodes j).content in
    let v = (s.seen.own.nodes j).voter in
    let step = propose (place_of s.seen.own j) seat lo hi drift c v in
    cond_both (ltb v.seq (2 ^ 62)) _ (with_member j (stopped_member (s.seen.own.nodes j)) s.seen.own) (NodeSize n i)
    (λ _. step_size n i e j _ (with_proposal_begun e j (s.seen.name j seat) lo hi s.seen.own)
    (λ k. step_propose (HasSize n) Any (λ _ _ _. tt) (size_put n) (λ _ _ _ _. tt) (λ _ _ _ _ _. tt) (place_of s.seen.own j) seat lo hi drift c v k) h)
    (λ _. swap_size n i j (stopped_member (s.seen.own.nodes j)) s.seen.own (λ k. k) h)

number_size : (n i e : ℕ) (l : Envelope) (o : Option ℕ) (s : Sites) → NodeSize n i s.seen.own → NodeSize n i (after_number e l o s.seen)
number_size n i e l None s h = h
number_size n i e l (Some number) s h =
    let j = l.receiver in
    let c = (s.seen.own.nodes j).content in
    let v = (s.seen.own.nodes j).voter in
    cond_both (is_running s.seen.own j) _ s.seen.own (NodeSize n i)
    (λ _. step_size n i e j _ s.seen.own
    (λ k. step_message (HasSize n) Any (λ _ _ _. tt) (size_put n) (λ _ _ _ _. tt) (λ _ _ _ _ _. tt) (place_of s.seen.own j) l.sender (numbered_message number l.message) c v k) h)
    (λ _. h)

getting_size : (n i e : ℕ) (o : Option Envelope) (s : Sites) → NodeSize n i s.seen.own → NodeSize n i (after_getting e o s.seen)
getting_size n i e None s h = h
getting_size n i e (Some l) s h = number_size n i e l (number_at s.seen l.receiver (token_of l.message)) s h

doing_size : (n i e : ℕ) (d : Doing) (s : Sites) → NodeSize n i s.seen.own → NodeSize n i (after_doing e d s).seen.own
unfolding tick tell
doing_size n i e (Begins j seat lo hi drift) s h =
    cond_both (may_begin s.seen.own j seat lo hi) (after_beginning e j seat lo hi drift s.seen) s.seen.own (NodeSize n i) (λ _. begins_size n i e j seat lo hi drift s h) (λ _. h)
doing_size n i e (Gets m) s h = getting_size n i e (slice_get s.seen.own.sent m) s h
doing_size n i e (Turns j) s h = cond_both (is_running s.seen.own j) _ s.seen.own (NodeSize n i) (λ _. step_size n i e j _ s.seen.own (λ k. k) h) (λ _. h)
doing_size n i e (Speaks j ns) s h = cond_both (is_running s.seen.own j) _ s.seen.own (NodeSize n i) (λ _. step_size n i e j _ s.seen.own (λ k. k) h) (λ _. h)
doing_size n i e (Shuts j seat gate) s h =
    cond_both (is_running s.seen.own j && ltb seat (rows_of s.seen j)) _ s.seen.own (NodeSize n i)
    (λ _. step_size n i e j _ s.seen.own
    (λ k. step_gate (HasSize n) Any (λ _ _ _. tt) (size_put n) (λ _ _ _ _. tt) (λ _ _ _ _ _. tt) seat gate (s.seen.own.nodes j).content k) h) (λ _. h)
doing_size n i e (Adds j t floor) s h = cond_both (may_add s j t) _ s (λ (z : Sites). NodeSize n i z.seen.own) (λ _. h) (λ _. h)
doing_size n i e (Waits j) s h = h

doing_names : (e : ℕ) (d : Doing) (s : Sites) → (after_doing e d s).seen.name ≡ s.seen.name
doing_names e (Begins j seat lo hi drift) s = refl
doing_names e (Gets m) s = refl
doing_names e (Turns j) s = refl
doing_names e (Speaks j ns) s = refl
doing_names e (Shuts j seat gate) s = refl
doing_names e (Adds j t floor) s = cond_both (may_add s j t) _ s (λ (z : Sites). z.seen.name ≡ s.seen.name) (λ _. refl) (λ _. refl)
doing_names e (Waits j) s = refl

-- ---- an event that neither opens nor replaces the node's store

abbrev CalmDoing : ℕ → Doing → Type 0
CalmDoing i (Begins j seat lo hi drift) = Unit {0}
CalmDoing i (Gets m) = Unit {0}
CalmDoing i (Turns j) = Unit {0}
CalmDoing i (Speaks j ns) = Unit {0}
CalmDoing i (Shuts j seat gate) = Unit {0}
CalmDoing i (Adds j t floor) = j ≡ i → ⊥
CalmDoing i (Waits j) = Unit {0}

abbrev IsCalm : ℕ → Course → Type 0
IsCalm i (Runs d) = CalmDoing i d
IsCalm i (Breaks kept d) = CalmDoing i d
IsCalm i (Starts j seats) = j ≡ i → ⊥
IsCalm i (Gone j) = Unit {0}
IsCalm i (Remade j boot given floor) = j ≡ i → ⊥

abbrev IsRemaking : ℕ → Course → Type 0
IsRemaking i (Runs d) = ⊥
IsRemaking i (Breaks kept d) = ⊥
IsRemaking i (Starts j seats) = ⊥
IsRemaking i (Gone j) = ⊥
IsRemaking i (Remade j boot given floor) = j ≡ i

abbrev Kinds : ℕ → Course → Type 0
Kinds i x = IsOpening i x ⊎ (IsRemaking i x ⊎ IsCalm i x)

doing_kind : (i : ℕ) (d : Doing) → Kinds i (Runs d)
doing_kind i (Begins j seat lo hi drift) = inr (inr tt)
doing_kind i (Gets m) = inr (inr tt)
doing_kind i (Turns j) = inr (inr tt)
doing_kind i (Speaks j ns) = inr (inr tt)
doing_kind i (Shuts j seat gate) = inr (inr tt)
doing_kind i (Adds j t floor) = ⊎_elim (λ (is : j ≡ i). inl is) (λ (ne : j ≡ i → ⊥). inr (inr ne)) (same_or_not j i)
doing_kind i (Waits j) = inr (inr tt)

kind_of : (i : ℕ) (x : Course) → Kinds i x
kind_of i (Runs d) = doing_kind i d
kind_of i (Breaks kept (Begins j seat lo hi drift)) = inr (inr tt)
kind_of i (Breaks kept (Gets m)) = inr (inr tt)
kind_of i (Breaks kept (Turns j)) = inr (inr tt)
kind_of i (Breaks kept (Speaks j ns)) = inr (inr tt)
kind_of i (Breaks kept (Shuts j seat gate)) = inr (inr tt)
kind_of i (Breaks kept (Adds j t floor)) = ⊎_elim (λ (is : j ≡ i). inl is) (λ (ne : j ≡ i → ⊥). inr (inr ne)) (same_or_not j i)
kind_of i (Breaks kept (Waits j)) = inr (inr tt)
kind_of i (Starts j seats) = ⊎_elim (λ (is : j ≡ i). inl is) (λ (ne : j ≡ i → ⊥). inr (inr ne)) (same_or_not j i)
kind_of i (Gone j) = inr (inr tt)
kind_of i (Remade j boot given floor) = ⊎_elim (λ (is : j ≡ i). inr (inl is)) (λ (ne : j ≡ i → ⊥). inr (inr ne)) (same_or_not j i)

-- the node has the same seats
record SameSeats (i : ℕ) (s s' : Sites) : Type 0 where
  size : rows_of s'.seen i ≡ rows_of s.seen i
  names : s'.seen.name i ≡ s.seen.name i

other_way : (i j : ℕ) → (j ≡ i → ⊥) → i ≡ j → ⊥
other_way i j ne is = ne (sym is)

calm_seats : (e i : ℕ) (s : Sites) (x : Course) → IsCalm i x → SameSeats i s (after_course e x s)
unfolding after_course
calm_seats e i s (Runs d) calm = record { size = doing_size (rows_of s.seen i) i e d s refl; names = ap (λ (f : ℕ → ℕ → ℕ). f i) (doing_names e d s) }
calm_seats e i s (Breaks true d) calm = record {
  size = restart_size (rows_of s.seen i) i (doer_of d s.seen) (with_sent_of s.seen.own (after_doing e d s).seen.own) (doing_size (rows_of s.seen i) i e d s refl);
  names = ap (λ (f : ℕ → ℕ → ℕ). f i) (doing_names e d s);
}
calm_seats e i s (Breaks false d) calm = record { size = restart_size (rows_of s.seen i) i (doer_of d s.seen) s.seen.own refl; names = refl }
calm_seats e i s (Starts j seats) ne =
    let off = not_eqb i j (other_way i j ne) in
    cond_both (may_seat s j seats) _ (with_own (after_restart (Some j) s.seen.own) s) (SameSeats i s)
    (λ _. record { size = ap (λ b. length (cond b (restarted_member (record (s.seen.own.nodes j) { content = seat_content s j seats })) (s.seen.own.nodes i)).content.rows) off; names = ap (λ b. cond b (seat_name seats) (s.seen.name i)) off })
    (λ _. record { size = restart_size (rows_of s.seen i) i (Some j) s.seen.own refl; names = refl })
calm_seats e i s (Gone j) calm = record {
  size = cond_both (has_store s.seen.own j) _ s.seen.own (NodeSize (rows_of s.seen i) i)
      (λ _. cond_both (eqb i j) (lost_member (s.seen.own.nodes j)) (s.seen.own.nodes i) (λ (y : Member). HasSize (rows_of s.seen i) y.content)
      (λ q. ap (λ m. rows_of s.seen m) (sym (eqb-true i j q))) (λ _. refl))
      (λ _. refl);
  names = refl;
}
calm_seats e i s (Remade j boot given floor) ne =
    let off = not_eqb i j (other_way i j ne) in
    cond_both (may_remake s j boot given floor) _ s (SameSeats i s)
    (λ _. record { size = ap (λ b. length (cond b (opening_member boot 0 (λ seat. 0)) (s.seen.own.nodes i)).content.rows) off; names = refl })
    (λ _. record { size = refl; names = refl })

-- ---- a row without a seat stays

lacks : (s : Sites) (i t j seat : ℕ) → number_at s.seen i t ≡ None → seat < rows_of s.seen j → i ≡ j → t ≡ s.seen.name j seat → ⊥
lacks s i t j seat none lt at is =
    number_lacks (rows_of s.seen i) (s.seen.name i) t none seat (subst (λ m. seat < rows_of s.seen m) (sym at) lt) (ap (λ m. s.seen.name m seat) at ∙ sym is)

module _ (s : Sites) (r : Roster) (i t : ℕ) (k : Sim s r) (none : number_at s.seen i t ≡ None) where
  hears_spared : (m : ℕ) (o : Option Envelope) → Spared (Deliver m) r.cluster i t → Spared (act_of_hearing r m o) r.cluster i t
  hears_spared m None all = all
  hears_spared m (Some l) all = cond_both (r.enrolled l.receiver (token_of l.message)) (Deliver m) (Idle l.receiver) (λ a. Spared a r.cluster i t) (λ _. all) (λ _. tt)

  gets_spared : (m : ℕ) (o : Option Envelope) → slice_get s.seen.own.sent m ≡ o → Spared (act_of r (deed_of_hearing s m o)) r.cluster i t
  gets_spared m None is =
      hears_spared m (slice_get r.cluster.sent m) (λ l found at same. none-some l (sym is ∙ ap (λ z. slice_get z m) (sym k.sent) ∙ found))
  gets_spared m (Some l) is =
      cond_both (is_number (number_at s.seen l.receiver (token_of l.message))) (Hears m) (Rests l.receiver) (λ d. Spared (act_of r d) r.cluster i t)
      (λ q. hears_spared m (slice_get r.cluster.sent m)
      (λ l' found at same.
      let one : l ≡ l' = same_Some l l' (sym is ∙ ap (λ z. slice_get z m) (sym k.sent) ∙ found) in
      let off : number_at s.seen l.receiver (token_of l.message) ≡ None =
      ap (λ (z : Envelope). number_at s.seen z.receiver (token_of z.message)) one ∙ ap (λ z. number_at s.seen z (token_of l'.message)) (sym at) ∙ ap (number_at s.seen i) (sym same) ∙ none in
      false≢true (sym (ap is_number off) ∙ q)))
      (λ _. tt)

  doing_spared : (d : Doing) → CalmDoing i d → Spared (act_of r (deed_at s d)) r.cluster i t
  doing_spared (Begins j seat lo hi drift) calm =
      cond_both (ltb seat (rows_of s.seen j)) (Proposes j (s.seen.name j seat) lo hi drift) (Rests j) (λ d. Spared (act_of r d) r.cluster i t)
      (λ q. cond_both (r.enrolled j (s.seen.name j seat)) (Begin j (s.seen.name j seat) lo hi drift) (Idle j) (λ a. Spared a r.cluster i t)
      (λ _ at is. lacks s i t j seat none (ltb-true seat (rows_of s.seen j) q) at is) (λ _. tt))
      (λ _. tt)
  doing_spared (Gets m) calm = gets_spared m (slice_get s.seen.own.sent m) refl
  doing_spared (Turns j) calm = tt
  doing_spared (Speaks j ns) calm = tt
  doing_spared (Shuts j seat gate) calm =
      cond_both (ltb seat (rows_of s.seen j)) (Throttles j (s.seen.name j seat) gate) (Rests j) (λ d. Spared (act_of r d) r.cluster i t)
      (λ q. cond_both (r.enrolled j (s.seen.name j seat)) (Throttle j (s.seen.name j seat) gate) (Idle j) (λ a. Spared a r.cluster i t)
      (λ _ at is. lacks s i t j seat none (ltb-true seat (rows_of s.seen j) q) at is) (λ _. tt))
      (λ _. tt)
  doing_spared (Adds j u floor) ne =
      cond_both (may_add s j u) (Enrols j (λ other. eqb other u) (λ other. floor)) (Rests j) (λ d. Spared (act_of r d) r.cluster i t)
      (λ _ _ at. absurd (ne (sym at))) (λ _. tt)
  doing_spared (Waits j) calm = tt

  abbrev Stays : Cluster → Type 0
  Stays w = row (w.nodes i).content t ≡ row (r.cluster.nodes i).content t

  calm_row : (e : ℕ) (x : Course) → IsCalm i x → Stays (after_happening e (happening_at s x) r).cluster
  unfolding after_event after_replacement
  calm_row e (Runs d) calm = act_row e (act_of r (deed_at s d)) r.cluster i t (doing_spared d calm)
  calm_row e (Breaks true d) calm =
      let a = act_of r (deed_at s d) in
      rows_restart (with_sent_of r.cluster (after_act e a r.cluster)) _ i t ∙ act_row e a r.cluster i t (doing_spared d calm)
  calm_row e (Breaks false d) calm = rows_restart r.cluster _ i t
  calm_row e (Starts j seats) calm = rows_restart r.cluster (Some j) i t
  calm_row e (Gone j) calm = rows_loss j r.cluster i t
  calm_row e (Remade j boot given floor) ne =
      cond_both (may_remake s j boot given floor) (Renews j boot (is_among given) floor) (Does (Rests j)) (λ h. Stays (after_event e (event_of r h) r.cluster))
      (λ _. cond_both (may_replace r.cluster j boot _) _ r.cluster Stays
      (λ _. ap (λ b. row (cond b (opening_member boot (length (r.cluster.nodes j).content.rows) (renewed_floor r.cluster (is_among given) floor)) (r.cluster.nodes i)).content t) (not_eqb i j (other_way i j ne))) (λ _. refl))
      (λ _. act_row e (Idle j) r.cluster i t tt)

  -- such a row gets no grant in any event
  adds_grant : (e j u floor : ℕ) → (row ((after_act e (act_of r (deed_at s (Adds j u floor))) r.cluster).nodes i).content t).grant ≡ (row (r.cluster.nodes i).content t).grant
  adds_grant e j u floor =
      cond_both (may_add s j u) (Enrols j (λ other. eqb other u) (λ other. floor)) (Rests j)
      (λ d. (row ((after_act e (act_of r d) r.cluster).nodes i).content t).grant ≡ (row (r.cluster.nodes i).content t).grant)
      (λ _. raise_act e j _ r.cluster i t) (λ _. ap (λ (z : RowRecord). z.grant) (act_row e (Idle j) r.cluster i t tt))

  opening_grant : (e : ℕ) (x : Course) (y : ProposalRecord × SpanRecord) → IsOpening i x → (row ((after_happening e (happening_at s x) r).cluster.nodes i).content t).grant ≡ Some y → (row (r.cluster.nodes i).content t).grant ≡ Some y
  unfolding after_event
  opening_grant e (Starts j seats) y at got = ap (λ (z : RowRecord). z.grant) (sym (rows_restart r.cluster (Some j) i t)) ∙ got
  opening_grant e (Runs (Adds j u floor)) y at got = sym (adds_grant e j u floor) ∙ got
  opening_grant e (Breaks true (Adds j u floor)) y at got =
      let a = act_of r (deed_at s (Adds j u floor)) in
      sym (ap (λ (z : RowRecord). z.grant) (rows_restart (with_sent_of r.cluster (after_act e a r.cluster)) (node_of a r.cluster) i t) ∙ adds_grant e j u floor) ∙ got
  opening_grant e (Breaks false (Adds j u floor)) y at got =
      ap (λ (z : RowRecord). z.grant) (sym (rows_restart r.cluster (node_of (act_of r (deed_at s (Adds j u floor))) r.cluster) i t)) ∙ got
  opening_grant e (Runs (Begins j seat lo hi drift)) y at got = absurd at
  opening_grant e (Runs (Gets m)) y at got = absurd at
  opening_grant e (Runs (Turns j)) y at got = absurd at
  opening_grant e (Runs (Speaks j ns)) y at got = absurd at
  opening_grant e (Runs (Shuts j seat gate)) y at got = absurd at
  opening_grant e (Runs (Waits j)) y at got = absurd at
  opening_grant e (Breaks kept (Begins j seat lo hi drift)) y at got = absurd at
  opening_grant e (Breaks kept (Gets m)) y at got = absurd at
  opening_grant e (Breaks kept (Turns j)) y at got = absurd at
  opening_grant e (Breaks kept (Speaks j ns)) y at got = absurd at
  opening_grant e (Breaks kept (Shuts j seat gate)) y at got = absurd at
  opening_grant e (Breaks kept (Waits j)) y at got = absurd at
  opening_grant e (Gone j) y at got = absurd at
  opening_grant e (Remade j boot given floor) y at got = absurd at

  remaking_grant : (e : ℕ) (x : Course) (y : ProposalRecord × SpanRecord) → IsRemaking i x → (row ((after_happening e (happening_at s x) r).cluster.nodes i).content t).grant ≡ Some y → (row (r.cluster.nodes i).content t).grant ≡ Some y
  unfolding after_event
  remaking_grant e (Remade j boot given floor) y at =
      cond_both (may_remake s j boot given floor) (Renews j boot (is_among given) floor) (Does (Rests j))
      (λ h. (row ((after_event e (event_of r h) r.cluster).nodes i).content t).grant ≡ Some y → (row (r.cluster.nodes i).content t).grant ≡ Some y)
      (λ _ got. ap (λ (f : ℕ → RowRecord). (f t).grant) (sym (grants_replaced j boot (renewed_floor r.cluster (is_among given) floor) r.cluster i t y got)) ∙ got)
      (λ _ got. ap (λ (z : RowRecord). z.grant) (sym (act_row e (Idle j) r.cluster i t tt)) ∙ got)
  remaking_grant e (Runs d) y at = absurd at
  remaking_grant e (Breaks kept d) y at = absurd at
  remaking_grant e (Starts j seats) y at = absurd at
  remaking_grant e (Gone j) y at = absurd at

  unseated_grant : (e : ℕ) (x : Course) (y : ProposalRecord × SpanRecord) → (row ((after_happening e (happening_at s x) r).cluster.nodes i).content t).grant ≡ Some y → (row (r.cluster.nodes i).content t).grant ≡ Some y
  unseated_grant e x y got = by (kind_of i x)
    where
      calm : IsCalm i x → (row (r.cluster.nodes i).content t).grant ≡ Some y
      calm h = ap (λ (z : RowRecord). z.grant) (sym (calm_row e x h)) ∙ got

      by : Kinds i x → (row (r.cluster.nodes i).content t).grant ≡ Some y
      by (inl opens) = opening_grant e x y opens got
      by (inr (inl makes)) = remaking_grant e x y makes got
      by (inr (inr h)) = calm h

-- ---- the seats of a node from one event to the next

-- the seats stay, no row without a seat changes, and no row sinks
seats_kept : (seed : ℕ → ℕ) (i : ℕ) (s s' : Sites) → SameSeats i s s' → ((t : ℕ) → number_at s.seen i t ≡ None → free_of s' i t ≡ free_of s i t) → ((t : ℕ) → free_of s i t ≤ free_of s' i t)
    → AreSeatsGreatest seed s i → AreSeatsGreatest seed s' i
seats_kept seed i s s' same stays rise h = record {
  once = λ one other a b is.
      h.once one other (subst (λ n. one < n) same.size a) (subst (λ n. other < n) same.size b) (subst (λ (f : ℕ → ℕ). seed (f one) ≡ seed (f other)) same.names is);
  greatest = λ seat t lt is.
      let low = subst (λ n. seat < n) same.size lt in
      let own = s.seen.name i seat in
      let is_seed : seed t ≡ seed own = is ∙ ap (λ (f : ℕ → ℕ). seed (f seat)) same.names in
      subst (λ (f : ℕ → ℕ). free_of s' i t ≤ free_of s' i (f seat)) (sym same.names)
      (⊎_elim
      (λ (none : number_at s.seen i t ≡ None). let here = stays t none in omega (arith, here, h.greatest seat t low is_seed, rise own))
      (λ (some : (m : ℕ) × (number_at s.seen i t ≡ Some m)).
      let there = number_there (rows_of s.seen i) (s.seen.name i) t some.0 some.1 in
      let one = h.once some.0 seat there.0 low (ap seed there.1 ∙ is_seed) in
      subst (λ u. free_of s' i u ≤ free_of s' i own) (ap (s.seen.name i) (sym one) ∙ there.1) (omega arith))
      (option_cases (number_at s.seen i t)));
}

-- a replacement store has no seats, and a node without seats is well
remade_well : (seed : ℕ → ℕ) (e i j boot : ℕ) (given : List ℕ) (floor : ℕ → ℕ) (s : Sites) → j ≡ i → AreSeatsGreatest seed s i → AreSeatsGreatest seed (after_course e (Remade j boot given floor) s) i
unfolding after_course
remade_well seed e i j boot given floor s is h =
    cond_both (may_remake s j boot given floor) _ s (λ z. AreSeatsGreatest seed z i)
    (λ _.
    let none : length (cond (eqb i j) (opening_member boot 0 (λ seat. 0)) (s.seen.own.nodes i)).content.rows ≡ 0 = ap (λ b. length (cond b (opening_member boot 0 (λ seat. 0)) (s.seen.own.nodes i)).content.rows) (eq-eqb i j (sym is)) in
    record { once = λ one other a b _. absurd (omega (arith, a, none)); greatest = λ seat t lt _. absurd (omega (arith, lt, none)) })
    (λ _. h)

remaking_well : (seed : ℕ → ℕ) (e i : ℕ) (x : Course) (s : Sites) → IsRemaking i x → AreSeatsGreatest seed s i → AreSeatsGreatest seed (after_course e x s) i
remaking_well seed e i (Remade j boot given floor) s is h = remade_well seed e i j boot given floor s is h
remaking_well seed e i (Runs d) s is h = absurd is
remaking_well seed e i (Breaks kept d) s is h = absurd is
remaking_well seed e i (Starts j seats) s is h = absurd is
remaking_well seed e i (Gone j) s is h = absurd is

-- ---- a course

take_none : (xs : List Course) → take 0 xs ≡ []
take_none [] = refl
take_none (x ∷ xs) = refl

get_past : (xs : List Course) (k : ℕ) → slice_get xs k ≡ None → take (suc k) xs ≡ take k xs
get_past [] zero h = refl
get_past [] (suc k) h = refl
get_past (x ∷ xs) zero h = absurd (none-some x (sym h))
get_past (x ∷ xs) (suc k) h = ap (λ l. x ∷ l) (get_past xs k h)

go_next : (xs : List Course) (k e y : ℕ) (x : Course) (s : Sites) → y ≡ e + k → slice_get xs k ≡ Some x → go e (take (suc k) xs) s ≡ after_course y x (go e (take k xs) s)
unfolding go
go_next [] k e y x s at is = absurd (none-some x is)
go_next (z ∷ xs) zero e y x s at is =
    let here : e ≡ y = omega (arith, at) in
    ap (λ l. go (suc e) l (after_course e z s)) (take_none xs) ∙ ap (λ o. after_course e o s) (same_Some z x is) ∙ ap (λ m. after_course m x s) here
go_next (z ∷ xs) (suc k) e y x s at is = go_next xs k (suc e) y x (after_course e z s) (omega (arith, at)) is

serve_next : (xs : List Course) (k e y : ℕ) (x : Course) (s : Sites) (r : Roster) → y ≡ e + k → slice_get xs k ≡ Some x
    → serve e (happenings_at e (take (suc k) xs) s) r ≡ after_happening y (happening_at (go e (take k xs) s) x) (serve e (happenings_at e (take k xs) s) r)
unfolding go serve happenings_at
serve_next [] k e y x s r at is = absurd (none-some x is)
serve_next (z ∷ xs) zero e y x s r at is =
    let here : e ≡ y = omega (arith, at) in
    ap (λ l. serve (suc e) (happenings_at (suc e) l (after_course e z s)) (after_happening e (happening_at s z) r)) (take_none xs)
    ∙ ap (λ o. after_happening e (happening_at s o) r) (same_Some z x is) ∙ ap (λ m. after_happening m (happening_at s x) r) here
serve_next (z ∷ xs) (suc k) e y x s r at is = serve_next xs k (suc e) y x (after_course e z s) (after_happening e (happening_at s z) r) (omega (arith, at)) is

not_remade : (i : ℕ) (x : Course) → IsCalm i x → (boot : ℕ) (given : List ℕ) (floor : ℕ → ℕ) → x ≡ Remade i boot given floor → ⊥
not_remade i x calm boot given floor is = subst (IsCalm i) is calm refl

module _ (seed : ℕ → ℕ) (n tokens : ℕ) (boot : ℕ → ℕ) (old : List Envelope) (xs : List Course) (may : MayOpen n tokens (blank_opening boot old)) (opens : SeatsGreatest seed (blank_sites n tokens boot old) xs) where
  abbrev blank : Sites
  blank = blank_sites n tokens boot old

  abbrev first : Roster
  first = opened n tokens (blank_opening boot old) none_enrolled

  abbrev at : ℕ → Sites
  at k = go 0 (take k xs) blank

  abbrev below : ℕ → Roster
  below k = serve 0 (happenings_at 0 (take k xs) blank) first

  sim : (k : ℕ) → Sim (at k) (below k)
  sim k = start_sims n tokens boot old xs may (take k xs)

  -- a row is the roster's
  row_is : (k i t : ℕ) → row ((below k).cluster.nodes i).content t ≡ row_in blank xs i t k
  row_is k i t = row_same (at k) (below k) i t (sim k)

  floor_is : (k i t : ℕ) → (row_in blank xs i t k).next ≡ free_in blank xs i t k
  floor_is k i t = ap (λ (z : RowRecord). z.next) (sym (row_is k i t)) ∙ free_same (at k) (below k) i t (sim k)

  blank_well : (i : ℕ) → AreSeatsGreatest seed (go 0 [] blank) i
  unfolding go
  blank_well i = record { once = λ one other a b _. absurd (omega (arith, a)); greatest = λ seat t lt _. absurd (omega (arith, lt)) }

  calm_well : (k i : ℕ) (x : Course) → slice_get xs k ≡ Some x → IsCalm i x → AreSeatsGreatest seed (at k) i → AreSeatsGreatest seed (at (suc k)) i
  calm_well k i x is calm h =
      let next = go_next xs k 0 k x blank (omega arith) is in
      seats_kept seed i (at k) (at (suc k)) (subst (SameSeats i (at k)) (sym next) (calm_seats k i (at k) x calm))
      (λ t none.
      let stays = subst (λ (r : Roster). row (r.cluster.nodes i).content t ≡ row ((below k).cluster.nodes i).content t) (sym (serve_next xs k 0 k x blank first (omega arith) is)) (calm_row (at k) (below k) i t (sim k) none k x calm) in
      sym (free_same (at (suc k)) (below (suc k)) i t (sim (suc k))) ∙ ap (λ (z : RowRecord). z.next) stays ∙ free_same (at k) (below k) i t (sim k))
      (λ t. seats_rise n tokens boot old xs may i t k (suc k) (omega arith)
      (λ event m given floor low high there.
      let same : event ≡ k = omega (arith, low, high) in
      not_remade i x calm m given floor (same_Some x (Remade i m given floor) (sym is ∙ ap (slice_get xs) (sym same) ∙ there))))
      h

  next_well : (k i : ℕ) (o : Option Course) → slice_get xs k ≡ o → AreSeatsGreatest seed (at k) i → AreSeatsGreatest seed (at (suc k)) i
  next_well k i None none h = subst (λ l. AreSeatsGreatest seed (go 0 l blank) i) (sym (get_past xs k none)) h
  next_well k i (Some x) is h =
      ⊎_elim (λ (o : IsOpening i x). opens k i x is o)
      (λ (other : IsRemaking i x ⊎ IsCalm i x).
      ⊎_elim (λ (m : IsRemaking i x). subst (λ z. AreSeatsGreatest seed z i) (sym (go_next xs k 0 k x blank (omega arith) is)) (remaking_well seed k i x (at k) m h))
      (λ (c : IsCalm i x). calm_well k i x is c h) other)
      (kind_of i x)

  well : (k i : ℕ) → AreSeatsGreatest seed (at k) i
  well zero i = subst (λ l. AreSeatsGreatest seed (go 0 l blank) i) (sym (take_none xs)) (blank_well i)
  well (suc k) i = next_well k i (slice_get xs k) refl (well k i)

  -- a node votes only in a seat
  voted_seat : (a : Acceptance) (i k : ℕ) → IsVote (row_in blank xs) a i k → number_at (at k).seen i a.token ≡ None → ⊥
  voted_seat a i k vote none = by (slice_get xs k) refl
    where
      by : (o : Option Course) → slice_get xs k ≡ o → ⊥
      by None past = vote.is_new (ap (λ l. (kept_row (go 0 l blank) i a.token).grant) (sym (get_past xs k past)) ∙ vote.granted)
      by (Some x) is =
          let got = ap (λ (r : Roster). (row (r.cluster.nodes i).content a.token).grant) (sym (serve_next xs k 0 k x blank first (omega arith) is)) ∙ ap (λ (z : RowRecord). z.grant) (row_is (suc k) i a.token) ∙ vote.granted in
          vote.is_new (ap (λ (z : RowRecord). z.grant) (sym (row_is k i a.token)) ∙ unseated_grant (at k) (below k) i a.token (sim k) none k x _ got)

  pub seats_give_up : AreGivenUp n (free_in blank xs) seed (go 0 xs blank).seen.own.accepted
  seats_give_up j a is =
      let h = seats_have_votes n tokens boot old xs may j a is in
      record {
        nodes = h.nodes;
        many = h.many;
        each = λ i q. let x = h.each i q in (x.0, gives_up a i x.0 x.1);
      }
    where
      floors : floors_of (row_in blank xs) ≡ free_in blank xs
      floors = fun_ext (λ i. fun_ext (λ t. fun_ext (λ k. floor_is k i t)))

      gives_up : (a : Acceptance) (i k : ℕ) → IsVote (row_in blank xs) a i k → IsGivenUp (free_in blank xs) seed a i k
      gives_up a i k vote = record {
        lets = subst (λ f. LetsGo f a i k) floors vote.lets;
        greatest = λ other same.
            ⊎_elim (λ (none : number_at (at k).seen i a.token ≡ None). absurd (voted_seat a i k vote none))
            (λ (some : (m : ℕ) × (number_at (at k).seen i a.token ≡ Some m)).
            let there = number_there (rows_of (at k).seen i) ((at k).seen.name i) a.token some.0 some.1 in
            subst (λ t. free_in blank xs i other k ≤ free_in blank xs i t k) there.1 ((well k i).greatest some.0 other there.0 (same ∙ ap seed (sym there.1))))
            (option_cases (number_at (at k).seen i a.token));
        alone = λ other same ne.
            let stays = ap (λ (z : RowRecord). z.next) (vote.alone other ne) in
            omega (arith, stays, floor_is k i other, floor_is (suc k) i other);
      }
