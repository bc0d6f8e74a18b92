-- All events over seats are a roster's, and so what is proved of rosters holds.
use Rattle.std.proofs.Common.{◌≡◌, ℕ, zero, suc, ◌+◌, ◌<◌, ◌≤◌, Bool, true, false, not, List, [], ◌∷◌, length, take, Option, Some, None, refl, sym, ap, ◌∙◌, subst, arith, eqb, ltb}
use Rattle.std.specs.List.{slice_get}
use Rattle.std.proofs.lemmas.Bool.{cond_both, eqb-true, false≢true}
use Rattle.std.proofs.lemmas.Option.{none-some, same_Some}
use Rattle.otp_core.specs.Acceptance.{Acceptance, HaveSingleUse, KeepRealTimeOrder, majority_of, size}
use Rattle.vote_core.specs.Books.{Doing, Begins, Gets, Turns, Speaks, Shuts, Adds, Waits, AreHeard, IsBegunIn, blank_opening, doer_of, is_number, number_at, numbered_message, rows_of}
use Rattle.vote_core.specs.Calls.{FitsVoter}
use Rattle.vote_core.specs.NodeSet.{PlaceRecord}
use Rattle.vote_core.specs.Roster.{Roster, Deed, Enrols, Hears, Proposes, Rests, Throttles, Happening, Does, Stops, Reopens, Loses, Renews, IsDeedOf, IsDoneIn, IsGivenFrom, act_of, after_happening, enrolled_by, event_of, free_before, opened, posted, serve, served, taken, token_of}
use Rattle.vote_core.specs.RosterExamples.{none_enrolled}
use Rattle.vote_core.specs.Rows.{row}
use Rattle.vote_core.specs.Safety.{AreDeliverable, AreFrom, AreTold, HaveMajority, MayOpen}
use Rattle.vote_core.specs.Schedule.{Envelope, after_act, after_event, after_restart, greatest, with_sent_of}
use Rattle.vote_core.specs.declared.message.Message.{Message}
use Rattle.vote_core.specs.declared.message.Message.TheVariants.{Ask, Deny, Floor, Grant}
use Rattle.vote_core.proofs.Basics.{opening_size}
use Rattle.vote_core.proofs.Enrolments.{enrolled_from}
use Rattle.vote_core.proofs.Envelopes.{Posts, all_deliverable, event_posts}
use Rattle.vote_core.proofs.Rosters.{heard_over, majority_over, order_over, proposed_over, rise_over, single_use_over, told_over}
use Rattle.vote_core.proofs.Unknown.{opening_free}
use Rattle.seat_law.specs.Seats.{Sites, Course, Runs, Breaks, Starts, Gone, Remade, AreAddedFrom, AreBegun, IsAddedFrom, IsBegunBy, KeepsStore, after_course, after_doing, blank_sites, deed_at, deed_of_hearing, free_in, go, happening_at, happenings_at, is_among, may_add, may_remake, may_seat, with_own}
use Rattle.seat_law.proofs.Doings.{doer_same, doing_sim}
use Rattle.seat_law.proofs.Relation.{Sim, free_same, fresh_named, number_there}
use Rattle.seat_law.proofs.Stores.{gone_sim, greatest_same, remade_sim, restart_sim, start_sim}

-- ---- an event

unsent_sim : (s s' : Sites) (r r' : Roster) → Sim s r → Sim s' r' → Sim (with_own (with_sent_of s.seen.own s'.seen.own) s') (record r' { cluster = with_sent_of r.cluster r'.cluster })
unsent_sim s s' r r' k h = record { members = h.members; lost = h.lost; least = h.least; sent = k.sent; begun = h.begun; accepted = h.accepted; nodes = h.nodes }

pub course_sim : (e : ℕ) (s : Sites) (r : Roster) (x : Course) → Posts s.seen.tokens r.cluster → Sim s r → Sim (after_course e x s) (after_happening e (happening_at s x) r)
unfolding after_course after_event
course_sim e s r (Runs d) posts k = doing_sim e s r d posts k
course_sim e s r (Breaks true d) posts k =
    let s' = after_doing e d s in
    let r' : Roster = record { cluster = after_act e (act_of r (deed_at s d)) r.cluster; enrolled = enrolled_by r (deed_at s d) } in
    let old = with_own (with_sent_of s.seen.own s'.seen.own) s' in
    subst (λ o. Sim (with_own (after_restart (doer_of d s.seen) old.seen.own) s') (record r' { cluster = after_restart o (with_sent_of r.cluster r'.cluster) })) (sym (doer_same s r d k))
    (restart_sim old (record r' { cluster = with_sent_of r.cluster r'.cluster }) (doer_of d s.seen) (unsent_sim s s' r r' k (doing_sim e s r d posts k)))
course_sim e s r (Breaks false d) posts k =
    subst (λ o. Sim (with_own (after_restart (doer_of d s.seen) s.seen.own) s) (record r { cluster = after_restart o r.cluster })) (sym (doer_same s r d k)) (restart_sim s r (doer_of d s.seen) k)
course_sim e s r (Starts i seats) posts k = start_sim s r i seats k posts
course_sim e s r (Gone i) posts k = gone_sim s r i k
course_sim e s r (Remade i boot given floor) posts k = remade_sim s r e i boot given floor k posts

added_tokens : (e : ℕ) (s : Sites) (d : Doing) → (after_doing e d s).seen.tokens ≡ s.seen.tokens
added_tokens e s (Begins i seat lo hi drift) = refl
added_tokens e s (Gets m) = refl
added_tokens e s (Turns i) = refl
added_tokens e s (Speaks i ns) = refl
added_tokens e s (Shuts i seat gate) = refl
added_tokens e s (Adds i t floor) = cond_both (may_add s i t) _ s (λ (z : Sites). z.seen.tokens ≡ s.seen.tokens) (λ _. refl) (λ _. refl)
added_tokens e s (Waits i) = refl

tokens_same : (e : ℕ) (s : Sites) (x : Course) → (after_course e x s).seen.tokens ≡ s.seen.tokens
unfolding after_course
tokens_same e s (Runs d) = added_tokens e s d
tokens_same e s (Breaks true d) = added_tokens e s d
tokens_same e s (Breaks false d) = refl
tokens_same e s (Starts i seats) = cond_both (may_seat s i seats) _ _ (λ (z : Sites). z.seen.tokens ≡ s.seen.tokens) (λ _. refl) (λ _. refl)
tokens_same e s (Gone i) = refl
tokens_same e s (Remade i boot given floor) = cond_both (may_remake s i boot given floor) _ s (λ (z : Sites). z.seen.tokens ≡ s.seen.tokens) (λ _. refl) (λ _. refl)

go_sim : (xs : List Course) (e : ℕ) (s : Sites) (r : Roster) → Posts s.seen.tokens r.cluster → Sim s r → Sim (go e xs s) (serve e (happenings_at e xs s) r)
unfolding go serve happenings_at
go_sim [] e s r posts k = k
go_sim (x ∷ xs) e s r posts k =
    let h = happening_at s x in
    go_sim xs (suc e) (after_course e x s) (after_happening e h r)
    (subst (λ m. Posts m (after_happening e h r).cluster) (sym (tokens_same e s x)) (event_posts s.seen.tokens e (event_of r h) r.cluster posts))
    (course_sim e s r x posts k)

-- ---- what is read of a member

pub seats_take : (k : ℕ) (xs : List Course) (e : ℕ) (s : Sites) → take k (happenings_at e xs s) ≡ happenings_at e (take k xs) s
unfolding happenings_at
seats_take zero [] e s = refl
seats_take zero (x ∷ xs) e s = refl
seats_take (suc k) [] e s = refl
seats_take (suc k) (x ∷ xs) e s = ap (λ l. happening_at s x ∷ l) (seats_take k xs (suc e) (after_course e x s))

seats_length : (xs : List Course) (e : ℕ) (s : Sites) → length (happenings_at e xs s) ≡ length xs
unfolding happenings_at
seats_length [] e s = refl
seats_length (x ∷ xs) e s = ap suc (seats_length xs (suc e) (after_course e x s))

abbrev store_in : Happening → ℕ
store_in (Does d) = 0
store_in (Stops kept d) = 0
store_in (Reopens i) = 0
store_in (Loses i) = 0
store_in (Renews i boot given floor) = suc i

remade_is : (s : Sites) (x : Course) (i boot : ℕ) (given : ℕ → Bool) (floor : ℕ → ℕ) → ((m : ℕ) (ts : List ℕ) (f : ℕ → ℕ) → x ≡ Remade i m ts f → ⊥) → happening_at s x ≡ Renews i boot given floor → ⊥
remade_is s (Runs d) i boot given floor none h = let q = ap store_in h in omega (arith, q)
remade_is s (Breaks kept d) i boot given floor none h = let q = ap store_in h in omega (arith, q)
remade_is s (Starts j seats) i boot given floor none h = let q = ap store_in h in omega (arith, q)
remade_is s (Gone j) i boot given floor none h = let q = ap store_in h in omega (arith, q)
remade_is s (Remade j m ts f) i boot given floor none h =
    cond_both (may_remake s j m ts f) (Renews j m (is_among ts) f) (Does (Rests j)) (λ z. z ≡ Renews i boot given floor → ⊥)
    (λ _ e. let q = ap store_in e in let node : j ≡ i = omega (arith, q) in none m ts f (ap (λ z. Remade z m ts f) node))
    (λ _ e. let q = ap store_in e in omega (arith, q)) h

spares_store : (xs : List Course) (k e : ℕ) (s : Sites) (i boot : ℕ) (given : ℕ → Bool) (floor : ℕ → ℕ) → ((m : ℕ) (ts : List ℕ) (f : ℕ → ℕ) → slice_get xs k ≡ Some (Remade i m ts f) → ⊥)
    → slice_get (happenings_at e xs s) k ≡ Some (Renews i boot given floor) → ⊥
unfolding happenings_at
spares_store [] k e s i boot given floor none h = none-some (Renews i boot given floor) h
spares_store (x ∷ xs) zero e s i boot given floor none h = remade_is s x i boot given floor (λ m ts f q. none m ts f (ap Some q)) (same_Some _ _ h)
spares_store (x ∷ xs) (suc k) e s i boot given floor none h = spares_store xs k (suc e) (after_course e x s) i boot given floor none h

-- ---- the floors that are given

-- a message is no deed that gives rows, nor one that proposes
hearing_is : (P : Deed → Type 0) (s : Sites) (m : ℕ) (o : Option Envelope) → P (Hears m) → ((i : ℕ) → P (Rests i)) → P (deed_of_hearing s m o)
hearing_is P s m None hears rests = hears
hearing_is P s m (Some l) hears rests = cond_both (is_number (number_at s.seen l.receiver (token_of l.message))) (Hears m) (Rests l.receiver) P (λ _. hears) (λ _. rests l.receiver)

given_by : (s : Sites) (t x : ℕ) (d : Doing) → IsAddedFrom t x (Runs d) → IsGivenFrom t x (Does (deed_at s d))
given_by s t x (Begins i seat lo hi drift) h =
    cond_both (ltb seat (rows_of s.seen i)) (Proposes i (s.seen.name i seat) lo hi drift) (Rests i) (λ z. IsGivenFrom t x (Does z)) (λ _. tt) (λ _. tt)
given_by s t x (Gets m) h = hearing_is (λ z. IsGivenFrom t x (Does z)) s m (slice_get s.seen.own.sent m) tt (λ _. tt)
given_by s t x (Turns i) h = tt
given_by s t x (Speaks i ns) h = tt
given_by s t x (Shuts i seat gate) h =
    cond_both (ltb seat (rows_of s.seen i)) (Throttles i (s.seen.name i seat) gate) (Rests i) (λ z. IsGivenFrom t x (Does z)) (λ _. tt) (λ _. tt)
given_by s t x (Adds i u floor) h =
    cond_both (may_add s i u) (Enrols i (λ other. eqb other u) (λ other. floor)) (Rests i) (λ z. IsGivenFrom t x (Does z)) (λ _ on. h (sym (eqb-true t u on))) (λ _. tt)
given_by s t x (Waits i) h = tt

given_in : (s : Sites) (t x : ℕ) (kept : Bool) (d : Doing) → IsAddedFrom t x (Breaks kept d) → IsGivenFrom t x (Stops kept (deed_at s d))
given_in s t x kept (Begins i seat lo hi drift) h =
    cond_both (ltb seat (rows_of s.seen i)) (Proposes i (s.seen.name i seat) lo hi drift) (Rests i) (λ z. IsGivenFrom t x (Stops kept z)) (λ _. tt) (λ _. tt)
given_in s t x kept (Gets m) h = hearing_is (λ z. IsGivenFrom t x (Stops kept z)) s m (slice_get s.seen.own.sent m) tt (λ _. tt)
given_in s t x kept (Turns i) h = tt
given_in s t x kept (Speaks i ns) h = tt
given_in s t x kept (Shuts i seat gate) h =
    cond_both (ltb seat (rows_of s.seen i)) (Throttles i (s.seen.name i seat) gate) (Rests i) (λ z. IsGivenFrom t x (Stops kept z)) (λ _. tt) (λ _. tt)
given_in s t x kept (Adds i u floor) h =
    cond_both (may_add s i u) (Enrols i (λ other. eqb other u) (λ other. floor)) (Rests i) (λ z. IsGivenFrom t x (Stops kept z)) (λ _ on. h (sym (eqb-true t u on))) (λ _. tt)
given_in s t x kept (Waits i) h = tt

given_from : (s : Sites) (t x : ℕ) (y : Course) → IsAddedFrom t x y → IsGivenFrom t x (happening_at s y)
given_from s t x (Runs d) h = given_by s t x d h
given_from s t x (Breaks kept d) h = given_in s t x kept d h
given_from s t x (Starts i seats) h = tt
given_from s t x (Gone i) h = tt
given_from s t x (Remade i boot ts floor) h =
    cond_both (may_remake s i boot ts floor) (Renews i boot (is_among ts) floor) (Does (Rests i)) (λ z. IsGivenFrom t x z) (λ _ _. h) (λ _. tt)

all_given : (t x : ℕ) (xs : List Course) (e : ℕ) (s : Sites) → AreAddedFrom t x xs → (k : ℕ) (y : Happening) → slice_get (happenings_at e xs s) k ≡ Some y → IsGivenFrom t x y
unfolding happenings_at
all_given t x [] e s h k y at = absurd (none-some y at)
all_given t x (z ∷ zs) e s h zero y at = subst (IsGivenFrom t x) (same_Some _ y at) (given_from s t x z (h 0 z refl))
all_given t x (z ∷ zs) e s h (suc k) y at = all_given t x zs (suc e) (after_course e z s) (λ m. h (suc m)) k y at

-- ---- what was proposed, and what may be heard

begun_in : (s : Sites) (p : Acceptance) (d : Doing) → IsDeedOf p (deed_at s d) → IsBegunIn s.seen.name p d
begun_in s p (Begins i seat lo hi drift) h =
    cond_both (ltb seat (rows_of s.seen i)) (Proposes i (s.seen.name i seat) lo hi drift) (Rests i) (λ z. IsDeedOf p z → IsBegunIn s.seen.name p (Begins i seat lo hi drift)) (λ _ q. q) (λ _ q. absurd q) h
begun_in s p (Gets m) h = hearing_is (λ z. IsDeedOf p z → ⊥) s m (slice_get s.seen.own.sent m) (λ q. q) (λ _ q. q) h
begun_in s p (Turns i) h = h
begun_in s p (Speaks i ns) h = h
begun_in s p (Shuts i seat gate) h =
    cond_both (ltb seat (rows_of s.seen i)) (Throttles i (s.seen.name i seat) gate) (Rests i) (λ z. IsDeedOf p z → ⊥) (λ _ q. q) (λ _ q. q) h
begun_in s p (Adds i u floor) h = cond_both (may_add s i u) (Enrols i (λ other. eqb other u) (λ other. floor)) (Rests i) (λ z. IsDeedOf p z → ⊥) (λ _ q. q) (λ _ q. q) h
begun_in s p (Waits i) h = h

begun_by : (s : Sites) (p : Acceptance) (x : Course) → IsDoneIn p (Some (happening_at s x)) → IsBegunBy s.seen.name p (Some x)
begun_by s p (Runs d) h = begun_in s p d h
begun_by s p (Breaks true d) h = begun_in s p d h
begun_by s p (Breaks false d) h = h
begun_by s p (Starts i seats) h = h
begun_by s p (Gone i) h = h
begun_by s p (Remade i boot ts floor) h =
    cond_both (may_remake s i boot ts floor) (Renews i boot (is_among ts) floor) (Does (Rests i)) (λ z. IsDoneIn p (Some z) → ⊥) (λ _ q. q) (λ _ q. q) h

all_begun : (p : Acceptance) (xs : List Course) (k e : ℕ) (s : Sites) → IsDoneIn p (slice_get (happenings_at e xs s) k) → IsBegunBy (go e (take k xs) s).seen.name p (slice_get xs k)
unfolding happenings_at go
all_begun p [] k e s h = absurd h
all_begun p (x ∷ xs) zero e s h = begun_by s p x h
all_begun p (x ∷ xs) (suc k) e s h = all_begun p xs k (suc e) (after_course e x s) h

numbered_fits : (n tokens rows number from : ℕ) (place : PlaceRecord) (m : Message) → number < rows → FitsVoter place tokens from m → FitsVoter place rows from (numbered_message number m)
numbered_fits n tokens rows number from place (Ask p t span) lt h = (lt, h.1, h.2)
numbered_fits n tokens rows number from place (Grant p t span) lt h = (lt, h.1, h.2)
numbered_fits n tokens rows number from place (Deny p t next) lt h = (lt, h.1)
numbered_fits n tokens rows number from place (Floor t next) lt h = lt

-- ---- from the opening on

module _ (n tokens : ℕ) (boot : ℕ → ℕ) (old : List Envelope) (xs : List Course) (may : MayOpen n tokens (blank_opening boot old)) where
  abbrev blank : Sites
  blank = blank_sites n tokens boot old

  abbrev hs : List Happening
  hs = happenings_at 0 xs blank

  blank_posts : Posts tokens (opened n tokens (blank_opening boot old) none_enrolled).cluster
  blank_posts = record {
    nodes = λ node. record { rows = opening_size tokens (λ token. 0); pending = tt };
    sent = all_deliverable n tokens old (λ j m is. (may j m is).0);
  }

  blank_sim : Sim blank (opened n tokens (blank_opening boot old) none_enrolled)
  blank_sim = record {
    members = refl;
    lost = refl;
    least = λ t. refl;
    sent = refl;
    begun = refl;
    accepted = refl;
    nodes = λ i. record {
      content = record {
        one = λ j m a _ _. absurd (omega (arith, a));
        there = λ m a. absurd (omega (arith, a));
        rows = λ m a. absurd (omega (arith, a));
        boot = refl;
        last = refl;
        last_known = λ z e. absurd (none-some z e);
      };
      voter = fresh_named (λ number. 0) 0;
      running = refl;
      last = refl;
      on_is = λ t. refl;
      seated = λ m a. absurd (omega (arith, a));
      within = λ t on. absurd (false≢true on);
      away = λ t on _. absurd (false≢true on);
      free = λ t _. opening_free tokens (λ token. 0) t refl;
    };
  }

  pub start_sims : (ys : List Course) → Sim (go 0 ys blank) (served n tokens (blank_opening boot old) none_enrolled (happenings_at 0 ys blank))
  start_sims ys = go_sim ys 0 blank (opened n tokens (blank_opening boot old) none_enrolled) blank_posts blank_sim

  whole_sim : Sim (go 0 xs blank) (served n tokens (blank_opening boot old) none_enrolled hs)
  whole_sim = start_sims xs

  pub seats_accepted : (go 0 xs blank).seen.own.accepted ≡ taken n tokens (blank_opening boot old) none_enrolled hs
  seats_accepted = sym whole_sim.accepted

  pub seats_sent : (go 0 xs blank).seen.own.sent ≡ posted n tokens (blank_opening boot old) none_enrolled hs
  seats_sent = sym whole_sim.sent

  pub seats_single_use : HaveSingleUse (go 0 xs blank).seen.own.accepted
  seats_single_use = subst HaveSingleUse (sym seats_accepted) (single_use_over n tokens (blank_opening boot old) none_enrolled hs may)

  pub seats_order : KeepRealTimeOrder (go 0 xs blank).seen.own.accepted
  seats_order = subst KeepRealTimeOrder (sym seats_accepted) (order_over n tokens (blank_opening boot old) none_enrolled hs may)

  pub seats_heard : AreDeliverable n tokens (go 0 xs blank).seen.own.sent
  seats_heard = subst (AreDeliverable n tokens) (sym seats_sent) (heard_over n tokens (blank_opening boot old) none_enrolled hs may)

  free_is : (i t k : ℕ) → free_in blank xs i t k ≡ free_before n tokens (blank_opening boot old) none_enrolled hs i t k
  free_is i t k =
      let first = opened n tokens (blank_opening boot old) none_enrolled in
      sym (free_same (go 0 (take k xs) blank) (serve 0 (happenings_at 0 (take k xs) blank) first) i t (start_sims (take k xs)))
      ∙ ap (λ l. (row ((serve 0 l first).cluster.nodes i).content t).next) (sym (seats_take k xs 0 blank))

  pub seats_rise : (node token first later : ℕ) → first ≤ later → KeepsStore xs node first later → free_in blank xs node token first ≤ free_in blank xs node token later
  seats_rise node token first later le keeps =
      subst (λ z. z ≤ free_in blank xs node token later) (sym (free_is node token first))
      (subst (λ z. free_before n tokens (blank_opening boot old) none_enrolled hs node token first ≤ z) (sym (free_is node token later))
      (rise_over n tokens (blank_opening boot old) none_enrolled hs may node token first later le
      (λ event m given floor low high. spares_store xs event 0 blank node m given floor (λ z ts f. keeps event z ts f low high))))

  pub seats_told : (read : ℕ → Bool) → n < size n read + majority_of n → AreTold n read (free_in blank xs) (length xs) (go 0 xs blank).seen.own.accepted
  seats_told read many =
      subst (AreTold n read (free_in blank xs) (length xs)) (sym seats_accepted)
      (λ i p at.
      subst (λ z. p.hi < z)
      (ap (λ m. greatest n (λ node. not (read node)) (λ node. free_before n tokens (blank_opening boot old) none_enrolled hs node p.token m)) (seats_length xs 0 blank)
      ∙ greatest_same n (λ node. not (read node)) (λ node. free_before n tokens (blank_opening boot old) none_enrolled hs node p.token (length xs)) (λ node. free_in blank xs node p.token (length xs))
      (λ node. sym (free_is node p.token (length xs))))
      (told_over n tokens (blank_opening boot old) none_enrolled hs may read many i p at))

  pub seats_majority : HaveMajority n (free_in blank xs) (go 0 xs blank).seen.own.accepted
  seats_majority = subst (HaveMajority n (free_in blank xs)) (sym seats_accepted)
      (λ i p at.
      let h = majority_over n tokens (blank_opening boot old) none_enrolled hs may i p at in
      record {
        nodes = h.nodes;
        many = h.many;
        each = λ m z.
            let x = h.each m z in
            let k = x.1 in (
              x.0,
              record {
                after_it_began = k.after_it_began;
                before_it_ended = k.before_it_ended;
                free = subst (λ f. f ≤ p.lo) (sym (free_is m p.token x.0)) k.free;
                used = λ later lt. subst (λ f. p.hi < f) (sym (free_is m p.token later)) (k.used later lt);
              },
            );
      })

  pub seats_from : (token least : ℕ) → token < tokens → AreAddedFrom token least xs → AreFrom token least (go 0 xs blank).seen.own.accepted
  seats_from token least within from =
      subst (AreFrom token least) (sym seats_accepted)
      (enrolled_from n tokens (blank_opening boot old) none_enrolled hs may token least within ((λ node on. absurd (false≢true on)), all_given token least xs 0 blank from))

  pub seats_proposed : AreBegun blank xs (go 0 xs blank).seen.own.accepted
  seats_proposed = subst (AreBegun blank xs) (sym seats_accepted)
      (λ i p at. all_begun p xs p.began 0 blank (proposed_over n tokens (blank_opening boot old) none_enrolled hs may i p at))

  pub seats_fit : AreHeard n (go 0 xs blank).seen
  seats_fit i l number at is =
      let b = (go 0 xs blank).seen in
      let there = number_there (rows_of b l.receiver) (b.name l.receiver) (token_of l.message) number is in
      let d = seats_heard i l at in
      record { first = d.first; last = d.last; other = d.other; fits = numbered_fits n tokens (rows_of b l.receiver) number l.sender (record { me = l.receiver; n = n }) l.message there.0 d.fits }
