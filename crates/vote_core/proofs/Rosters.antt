-- A run over a roster is a run of the schedule, event by event: so what holds of schedules holds of it.
use Rattle.std.proofs.Common.{◌≡◌, ℕ, zero, suc, ◌+◌, ◌<◌, ◌≤◌, Bool, true, false, not, List, [], ◌∷◌, length, take, Option, Some, None, refl, sym, ap, ◌∙◌, subst, arith}
use Rattle.std.specs.List.{slice_get}
use Rattle.std.proofs.lemmas.Bool.{cond_both}
use Rattle.std.proofs.lemmas.Option.{none-some, same_Some}
use Rattle.otp_core.specs.Acceptance.{Acceptance, HaveSingleUse, KeepRealTimeOrder, majority_of, size}
use Rattle.vote_core.specs.Roster.{Roster, Deed, Proposes, Hears, Ticks, Tells, Throttles, Enrols, Rests, Happening, Does, Stops, Reopens, Loses, Renews, token_of, act_of_hearing, act_of, event_of, after_happening, serve, opened, served, taken, posted, free_before, IsDeedOf, IsDoneIn, AreDone, SparesStore}
use Rattle.vote_core.specs.Rows.{row}
use Rattle.vote_core.specs.Safety.{IsProposalOf, IsProposedIn, HaveMajority, AreTold, AreFrom, AreDeliverable, MayOpen}
use Rattle.vote_core.specs.Schedule.{Envelope, Cluster, Act, Begin, Throttle, Deliver, Idle, Event, Happens, Cut, Restart, Lost, Replaced, Opening, greatest, run, start, floor_before}
use Rattle.vote_core.proofs.Begins.{proposed_holds}
use Rattle.vote_core.proofs.Envelopes.{envelopes_hold}
use Rattle.vote_core.proofs.Passes.{single_use_holds, order_holds, majority_holds, above_holds, rise_holds, told_holds}

-- the events that these are, from the roster on
abbrev pub events_of : ℕ → List Happening → Roster → List Event
events_of e [] r = []
events_of e (x ∷ xs) r = event_of r x ∷ events_of (suc e) xs (after_happening e x r)

pub run_is : (xs : List Happening) (e : ℕ) (r : Roster) → (serve e xs r).cluster ≡ run e (events_of e xs r) r.cluster
unfolding serve run
run_is [] e r = refl
run_is (x ∷ xs) e r = run_is xs (suc e) (after_happening e x r)

take_is : (k : ℕ) (xs : List Happening) (e : ℕ) (r : Roster) → take k (events_of e xs r) ≡ events_of e (take k xs) r
take_is zero [] e r = refl
take_is zero (x ∷ xs) e r = refl
take_is (suc k) [] e r = refl
take_is (suc k) (x ∷ xs) e r = ap (λ l. event_of r x ∷ l) (take_is k xs (suc e) (after_happening e x r))

length_is : (xs : List Happening) (e : ℕ) (r : Roster) → length (events_of e xs r) ≡ length xs
length_is [] e r = refl
length_is (x ∷ xs) e r = ap suc (length_is xs (suc e) (after_happening e x r))

-- the cluster after the first `k` events
before_is : (k : ℕ) (xs : List Happening) (e : ℕ) (r : Roster) → (serve e (take k xs) r).cluster ≡ run e (take k (events_of e xs r)) r.cluster
before_is k xs e r = run_is (take k xs) e r ∙ ap (λ l. run e l r.cluster) (sym (take_is k xs e r))

-- ---- what was proposed

heard_not : (p : Acceptance) (r : Roster) (k : ℕ) (o : Option Envelope) → IsProposalOf p (act_of_hearing r k o) → ⊥
heard_not p r k None h = h
heard_not p r k (Some l) h =
    cond_both (r.enrolled l.receiver (token_of l.message)) (Deliver k) (Idle l.receiver) (λ (a : Act). IsProposalOf p a → ⊥) (λ _ x. x) (λ _ x. x) h

deed_is : (p : Acceptance) (r : Roster) (d : Deed) → IsProposalOf p (act_of r d) → IsDeedOf p d
deed_is p r (Proposes i t lo hi drift) h =
    cond_both (r.enrolled i t) (Begin i t lo hi drift) (Idle i) (λ (a : Act). IsProposalOf p a → IsDeedOf p (Proposes i t lo hi drift)) (λ _ x. x) (λ _ x. absurd x) h
deed_is p r (Hears k) h = absurd (heard_not p r k (slice_get r.cluster.sent k) h)
deed_is p r (Ticks i ts) h = h
deed_is p r (Tells i ts) h = h
deed_is p r (Throttles i t gate) h =
    cond_both (r.enrolled i t) (Throttle i t gate) (Idle i) (λ (a : Act). IsProposalOf p a → IsDeedOf p (Throttles i t gate)) (λ _ x. x) (λ _ x. x) h
deed_is p r (Enrols i given floor) h = h
deed_is p r (Rests i) h = h

happening_is : (p : Acceptance) (r : Roster) (x : Happening) → IsProposedIn p (Some (event_of r x)) → IsDoneIn p (Some x)
happening_is p r (Does d) h = deed_is p r d h
happening_is p r (Stops true d) h = deed_is p r d h
happening_is p r (Stops false d) h = h
happening_is p r (Reopens i) h = h
happening_is p r (Loses i) h = h
happening_is p r (Renews i boot given floor) h = h

done_in : (p : Acceptance) (xs : List Happening) (k e : ℕ) (r : Roster) → IsProposedIn p (slice_get (events_of e xs r) k) → IsDoneIn p (slice_get xs k)
done_in p [] k e r h = h
done_in p (x ∷ xs) zero e r h = happening_is p r x h
done_in p (x ∷ xs) (suc k) e r h = done_in p xs k (suc e) (after_happening e x r) h

-- ---- stores that are made

abbrev node_in : Event → ℕ
node_in (Happens a) = 0
node_in (Cut kept a) = 0
node_in (Restart i) = 0
node_in (Lost i) = 0
node_in (Replaced i boot floor) = suc i

abbrev boot_in : Event → ℕ
boot_in (Happens a) = 0
boot_in (Cut kept a) = 0
boot_in (Restart i) = 0
boot_in (Lost i) = 0
boot_in (Replaced i boot floor) = boot

renewal_is : (r : Roster) (x : Happening) (i boot : ℕ) (floor : ℕ → ℕ) → event_of r x ≡ Replaced i boot floor → ((given : ℕ → Bool) (f : ℕ → ℕ) → x ≡ Renews i boot given f → ⊥) → ⊥
renewal_is r (Does d) i boot floor h none = let q = ap node_in h in absurd (omega (arith, q))
renewal_is r (Stops kept d) i boot floor h none = let q = ap node_in h in absurd (omega (arith, q))
renewal_is r (Reopens j) i boot floor h none = let q = ap node_in h in absurd (omega (arith, q))
renewal_is r (Loses j) i boot floor h none = let q = ap node_in h in absurd (omega (arith, q))
renewal_is r (Renews j b given f) i boot floor h none =
    let q = ap node_in h in
    let node : j ≡ i = omega (arith, q) in
    none given f (ap (λ m. Renews m b given f) node ∙ ap (λ m. Renews i m given f) (ap boot_in h))

spares_is : (xs : List Happening) (k e : ℕ) (r : Roster) (i boot : ℕ) (floor : ℕ → ℕ) → ((given : ℕ → Bool) (f : ℕ → ℕ) → slice_get xs k ≡ Some (Renews i boot given f) → ⊥)
    → slice_get (events_of e xs r) k ≡ Some (Replaced i boot floor) → ⊥
spares_is [] k e r i boot floor none h = none-some (Replaced i boot floor) h
spares_is (x ∷ xs) zero e r i boot floor none h = renewal_is r x i boot floor (same_Some _ _ h) (λ given f q. none given f (ap Some q))
spares_is (x ∷ xs) (suc k) e r i boot floor none h = spares_is xs k (suc e) (after_happening e x r) i boot floor none h

-- ---- the laws

module _ (n tokens : ℕ) (opening : Opening) (enrolled : ℕ → ℕ → Bool) (xs : List Happening) (may : MayOpen n tokens opening) where
  abbrev es : List Event
  es = events_of 0 xs (opened n tokens opening enrolled)

  whole : (served n tokens opening enrolled xs).cluster ≡ run 0 es (start n tokens opening)
  whole = run_is xs 0 (opened n tokens opening enrolled)

  free_is : (i t k : ℕ) → free_before n tokens opening enrolled xs i t k ≡ floor_before n tokens opening es i t k
  free_is i t k = ap (λ (w : Cluster). (row (w.nodes i).content t).next) (before_is k xs 0 (opened n tokens opening enrolled))

  pub single_use_over : HaveSingleUse (taken n tokens opening enrolled xs)
  single_use_over = subst (λ (w : Cluster). HaveSingleUse w.accepted) (sym whole) (single_use_holds n tokens opening es may)

  pub order_over : KeepRealTimeOrder (taken n tokens opening enrolled xs)
  order_over = subst (λ (w : Cluster). KeepRealTimeOrder w.accepted) (sym whole) (order_holds n tokens opening es may)

  pub majority_over : HaveMajority n (free_before n tokens opening enrolled xs) (taken n tokens opening enrolled xs)
  majority_over = subst (λ (w : Cluster). HaveMajority n (free_before n tokens opening enrolled xs) w.accepted) (sym whole)
      (λ i p at.
      let h = majority_holds n tokens opening es may i p at in
      record {
        nodes = h.nodes;
        many = h.many;
        each = λ g m.
            let x = h.each g m in
            let k = x.1 in (
              x.0,
              record {
                after_it_began = k.after_it_began;
                before_it_ended = k.before_it_ended;
                free = subst (λ f. f ≤ p.lo) (sym (free_is g p.token x.0)) k.free;
                used = λ later lt. subst (λ f. p.hi < f) (sym (free_is g p.token later)) (k.used later lt);
              },
            );
      })

  pub proposed_over : AreDone xs (taken n tokens opening enrolled xs)
  proposed_over = subst (λ (w : Cluster). AreDone xs w.accepted) (sym whole)
      (λ i p at. done_in p xs p.began 0 (opened n tokens opening enrolled) (proposed_holds n tokens opening es may i p at))

  pub above_over : (token least : ℕ) → token < tokens → ((node : ℕ) → 1 ≤ node → node ≤ n → least ≤ opening.floor node token) → AreFrom token least (taken n tokens opening enrolled xs)
  above_over token least within from = subst (λ (w : Cluster). AreFrom token least w.accepted) (sym whole) (above_holds n tokens opening es may token least within from)

  pub rise_over : (node token first later : ℕ) → first ≤ later → SparesStore xs node first later
      → free_before n tokens opening enrolled xs node token first ≤ free_before n tokens opening enrolled xs node token later
  rise_over node token first later le spares =
      subst (λ f. f ≤ free_before n tokens opening enrolled xs node token later) (sym (free_is node token first))
      (subst (λ f. floor_before n tokens opening es node token first ≤ f) (sym (free_is node token later))
      (rise_holds n tokens opening es may node token first later le
      (λ event boot floor low high. spares_is xs event 0 (opened n tokens opening enrolled) node boot floor (λ given f. spares event boot given f low high))))

  pub told_over : (read : ℕ → Bool) → n < size n read + majority_of n
      → AreTold n read (free_before n tokens opening enrolled xs) (length xs) (taken n tokens opening enrolled xs)
  told_over read many =
      subst (λ (w : Cluster). AreTold n read (free_before n tokens opening enrolled xs) (length xs) w.accepted) (sym whole)
      (λ i p at.
      subst (λ (w : Cluster). p.hi < greatest n (λ node. not (read node)) (λ node. (row (w.nodes node).content p.token).next))
      (sym (before_is (length xs) xs 0 (opened n tokens opening enrolled)))
      (subst (λ k. p.hi < greatest n (λ node. not (read node)) (λ node. floor_before n tokens opening es node p.token k)) (length_is xs 0 (opened n tokens opening enrolled))
      (told_holds n tokens opening es may read many i p at)))

  pub heard_over : AreDeliverable n tokens (posted n tokens opening enrolled xs)
  heard_over = subst (λ (w : Cluster). AreDeliverable n tokens w.sent) (sym whole) (envelopes_hold n tokens opening es may)
