-- The rounds of a simulation, event by event, and as a whole.
use Rattle.std.proofs.Common.{◌≡◌, ℕ, zero, suc, ◌+◌, ◌<◌, ◌≤◌, Bool, true, false, ◌&&◌, List, [], ◌∷◌, ◌++◌, length, map, drop, take, Some, None, refl, sym, ap, ◌∙◌, subst, arith}
use Rattle.std.specs.List.{slice_get}
use Rattle.std.proofs.Math.Seq.{take-length}
use Rattle.std.proofs.lemmas.Bool.{cond_both, cond-true, cond-false}
use Rattle.std.proofs.lemmas.List.{append-nil, append_assoc, drop_all, length-append, length-map}
use Rattle.std.proofs.lemmas.Option.{none-some, same_Some}
use Rattle.vote_core.specs.Schedule.{Envelope}
use Rattle.oath_node.specs.Machine.{Config}
use Rattle.cluster_sim.specs.Journal.{AreSpelled, AreSpelledAlong, IsRun, Letter, SimulationRecord, letter_of}
use Rattle.cluster_sim.specs.RoundRun.{AreActs, HaveHappened, StaySpelled, deliveries_from, delivery_of}
use Rattle.cluster_sim.specs.Run.{round_line, round_lines}
use Rattle.cluster_sim.specs.Rounds.{RoundLine, deliveries, events_with_rounds, is_between, is_live, line_event, round_events, rounds_events}
use Rattle.cluster_sim.specs.World.{Anew, Cut, Deliver, Happens, Lost, Restart, World, WorldEvent, opening_world, world_after_event, world_after_events, world_of, Start}
use Rattle.cluster_sim.specs.declared.rounds.RoundLine.{RoundLine as CallerLine}
use Rattle.cluster_sim.proofs.Proposals.{handed_append}
use Rattle.cluster_sim.proofs.Seqs.{run_longer}
use Rattle.cluster_sim.proofs.Waves.{run_append}

-- ---- spelling

-- it reads as it was meant now
pub spelled_now : (config : Config) (n : ℕ) (w : World) → StaySpelled config n w → AreSpelled w
unfolding world_after_events
spelled_now config n w h = h [] tt

acts_append : (xs ys : List WorldEvent) → AreActs xs → AreActs ys → AreActs (xs ++ ys)
acts_append [] ys h k = k
acts_append (Happens a ∷ xs) ys h k = acts_append xs ys h k
acts_append (Cut kept a ∷ xs) ys h k = absurd h
acts_append (Restart i ∷ xs) ys h k = absurd h
acts_append (Lost i ∷ xs) ys h k = absurd h
acts_append (Anew i boot floors ∷ xs) ys h k = absurd h

pub deliveries_are_acts : (test : Envelope → Bool) (k : ℕ) (ls : List Envelope) → AreActs (deliveries test k ls)
deliveries_are_acts test k [] = tt
deliveries_are_acts test k (l ∷ ls) =
    cond_both (test l) (Happens (Deliver l.receiver k) ∷ deliveries test (suc k) ls) (deliveries test (suc k) ls) AreActs (λ _. deliveries_are_acts test (suc k) ls) (λ _. deliveries_are_acts test (suc k) ls)

round_is_acts : (config : Config) (live : List ℕ) (n : ℕ) (w : World) (l : RoundLine) → AreActs (round_events config live n w l)
round_is_acts config live n w l =
    acts_append (deliveries (is_between live) (length w.sent) _) (deliveries (is_between live) _ _)
    (deliveries_are_acts (is_between live) (length w.sent) _) (deliveries_are_acts (is_between live) _ _)

-- the datagrams stay spelled after any acts
pub spelled_on : (config : Config) (n m : ℕ) (xs : List WorldEvent) (w : World) → AreActs xs → m ≡ length xs + n → StaySpelled config n w → StaySpelled config m (world_after_events config n xs w)
spelled_on config n m xs w acts is h =
    subst (λ j. StaySpelled config j (world_after_events config n xs w)) (sym is) (λ ys more. subst AreSpelled (run_append config xs ys n w) (h (xs ++ ys) (acts_append xs ys acts more)))

-- ---- events that happened

pub one_happened : (config : Config) (key : List ℕ) (n : ℕ) (x : WorldEvent) (w : World) (s : SimulationRecord) (next : ℕ) → IsRun config key (world_after_event config n x w) s → next ≡ n + 1
    → HaveHappened config key n (x ∷ []) w s next
unfolding world_after_events
one_happened config key n x w s next h is = record { run = h; count = more n next is }
  where
    more : (n m : ℕ) → m ≡ n + 1 → m ≡ 1 + n
    more n m e = omega (arith, e)

none_happened : (config : Config) (key : List ℕ) (n : ℕ) (xs : List WorldEvent) (w : World) (s : SimulationRecord) → xs ≡ [] → IsRun config key w s → HaveHappened config key n xs w s n
unfolding world_after_events
none_happened config key n xs w s none h = subst (λ l. HaveHappened config key n l w s n) (sym none) (record { run = h; count = zero_more n })
  where
    zero_more : (n : ℕ) → n ≡ 0 + n
    zero_more n = omega arith

both_happened : (config : Config) (key : List ℕ) (n m next : ℕ) (xs ys : List WorldEvent) (w : World) (s t : SimulationRecord) → HaveHappened config key n xs w s m
    → HaveHappened config key m ys (world_after_events config n xs w) t next → HaveHappened config key n (xs ++ ys) w t next
both_happened config key n m next xs ys w s t h k =
    record {
      run = subst (λ v. IsRun config key v t) (ap (λ j. world_after_events config j ys (world_after_events config n xs w)) h.count ∙ sym (run_append config xs ys n w)) k.run;
      count = sum (length xs) (length ys) (length (xs ++ ys)) n m next (length-append xs ys) h.count k.count;
    }
  where
    sum : (a b l n m next : ℕ) → l ≡ a + b → m ≡ a + n → next ≡ b + m → next ≡ l + n
    sum a b l n m next p q r = omega (arith, p, q, r)

-- ---- one datagram

drop_none : {A : Type 0} (xs : List A) (k : ℕ) → slice_get xs k ≡ None → drop k xs ≡ []
drop_none [] zero e = refl
drop_none [] (suc k) e = refl
drop_none (x ∷ xs) zero e = absurd (none-some x (sym e))
drop_none (x ∷ xs) (suc k) e = drop_none xs k e

drop_some : {A : Type 0} (xs : List A) (k : ℕ) (x : A) → slice_get xs k ≡ Some x → drop k xs ≡ x ∷ drop (suc k) xs
drop_some [] k x e = absurd (none-some x e)
drop_some (y ∷ xs) zero x e = ap (λ z. z ∷ xs) (same_Some y x e)
drop_some (y ∷ xs) (suc k) x e = drop_some xs k x e

get_none : {A B : Type 0} (f : A → B) (xs : List A) (k : ℕ) → slice_get (map f xs) k ≡ None → slice_get xs k ≡ None
get_none f [] k e = refl
get_none f (x ∷ xs) zero e = absurd (none-some (f x) (sym e))
get_none f (x ∷ xs) (suc k) e = get_none f xs k e

record Mapped {A B : Type 0} (f : A → B) (xs : List A) (k : ℕ) (y : B) : Type 0 where
  from : A
  here : slice_get xs k ≡ Some from
  is : f from ≡ y

get_some : {A B : Type 0} (f : A → B) (xs : List A) (k : ℕ) (y : B) → slice_get (map f xs) k ≡ Some y → Mapped f xs k y
get_some f [] k y e = absurd (none-some y e)
get_some f (x ∷ xs) zero y e = record { from = x; here = refl; is = same_Some (f x) y e }
get_some f (x ∷ xs) (suc k) y e = let m = get_some f xs k y e in record { from = m.from; here = m.here; is = m.is }

-- the datagram of that number alone
delivery_here : (live : List ℕ) (k : ℕ) (w : World) (l : Envelope) → slice_get w.sent k ≡ Some l → delivery_of live k w ≡ deliveries (is_between live) k (l ∷ [])
delivery_here live k w l at = ap (λ ls. deliveries (is_between live) k (take 1 ls)) (drop_some w.sent k l at)

-- there is none
pub none_sent : (config : Config) (key : List ℕ) (live : List ℕ) (k n : ℕ) (w : World) (s : SimulationRecord) → slice_get s.journal.sent k ≡ None → IsRun config key w s
    → HaveHappened config key n (delivery_of live k w) w s n
none_sent config key live k n w s none h =
    none_happened config key n (delivery_of live k w) w s
    (ap (λ ls. deliveries (is_between live) k (take 1 ls)) (drop_none w.sent k (get_none (letter_of key) w.sent k (ap (λ (ls : List Letter). slice_get ls k) (sym h.recorded.sent) ∙ none)))) h

-- the envelope that a datagram of the journal is
sent_as : (config : Config) (key : List ℕ) (k : ℕ) (w : World) (s : SimulationRecord) (d : Letter) → slice_get s.journal.sent k ≡ Some d → IsRun config key w s → Mapped (letter_of key) w.sent k d
sent_as config key k w s d at h = get_some (letter_of key) w.sent k d (ap (λ (ls : List Letter). slice_get ls k) (sym h.recorded.sent) ∙ at)

-- it isn't from a live member to a live member
pub not_between : (config : Config) (key : List ℕ) (live : List ℕ) (k n : ℕ) (w : World) (s : SimulationRecord) (d : Letter) → slice_get s.journal.sent k ≡ Some d → (is_live live d.sender && is_live live d.receiver) ≡ false
    → IsRun config key w s → HaveHappened config key n (delivery_of live k w) w s n
not_between config key live k n w s d at out h =
    let m = sent_as config key k w s d at h in
    let l = m.from in
    let off : is_between live l ≡ false = ap (λ (x : Letter). is_live live x.sender && is_live live x.receiver) m.is ∙ out in
    none_happened config key n (delivery_of live k w) w s (delivery_here live k w l m.here ∙ cond-false (is_between live l) (Happens (Deliver l.receiver k) ∷ []) [] off) h

-- it is
pub between_handed : (config : Config) (key : List ℕ) (live : List ℕ) (k : ℕ) (w : World) (s : SimulationRecord) (d : Letter) → slice_get s.journal.sent k ≡ Some d → (is_live live d.sender && is_live live d.receiver) ≡ true
    → IsRun config key w s → (to : ℕ) → to ≡ d.receiver → delivery_of live k w ≡ Happens (Deliver to k) ∷ []
between_handed config key live k w s d at inside h to is =
    let m = sent_as config key k w s d at h in
    let l = m.from in
    let on : is_between live l ≡ true = ap (λ (x : Letter). is_live live x.sender && is_live live x.receiver) m.is ∙ inside in
    delivery_here live k w l m.here ∙ cond-true (is_between live l) (Happens (Deliver l.receiver k) ∷ []) [] on
    ∙ ap (λ j. Happens (Deliver j k) ∷ []) (ap (λ (x : Letter). x.receiver) m.is ∙ sym is)

-- ---- all datagrams from a number on

-- the envelopes below number `k` were delivered, of the envelopes sent in the world `w`
pub record AreHandedTo (config : Config) (key : List ℕ) (live : List ℕ) (first n : ℕ) (w : World) (k next : ℕ) (s : SimulationRecord) : Type 0 where
  pub now : World
  pub run : IsRun config key now s
  pub ends : world_after_events config next (deliveries_from live k w) now ≡ world_after_events config n (deliveries_from live first w) w
  pub count : length (deliveries_from live k w) + next ≡ length (deliveries_from live first w) + n
  pub spelled : StaySpelled config next now
  pub more : List Envelope
  pub sent : now.sent ≡ w.sent ++ more

pub handed_start : (config : Config) (key : List ℕ) (live : List ℕ) (first n : ℕ) (w : World) (s : SimulationRecord) → IsRun config key w s → StaySpelled config n w → AreHandedTo config key live first n w first n s
handed_start config key live first n w s h spelled = record { now = w; run = h; ends = refl; count = refl; spelled = spelled; more = []; sent = sym (append-nil w.sent) }

get_more : {A : Type 0} (xs ys : List A) (k : ℕ) (x : A) → slice_get xs k ≡ Some x → slice_get (xs ++ ys) k ≡ Some x
get_more [] ys k x h = absurd (none-some x h)
get_more (y ∷ xs) ys zero x h = h
get_more (y ∷ xs) ys (suc k) x h = get_more xs ys k x h

record Found {A : Type 0} (xs : List A) (k : ℕ) : Type 0 where
  item : A
  here : slice_get xs k ≡ Some item

find_at : {A : Type 0} (xs : List A) (k : ℕ) → k < length xs → Found xs k
find_at [] k lt = absurd (omega (arith, lt))
find_at (x ∷ xs) zero lt = record { item = x; here = refl }
find_at (x ∷ xs) (suc k) lt = let f = find_at xs k (omega (arith, lt)) in record { item = f.item; here = f.here }

pub handed_next : (config : Config) (key : List ℕ) (live : List ℕ) (first n : ℕ) (w : World) (k next next' : ℕ) (s t : SimulationRecord) → k < length w.sent → (h : AreHandedTo config key live first n w k next s)
    → HaveHappened config key next (delivery_of live k h.now) h.now t next' → AreHandedTo config key live first n w (k + 1) next' t
handed_next config key live first n w k next next' s t lt h happened =
    let f = find_at w.sent k lt in
    let l = f.item in
    let now = h.now in
    let one = deliveries (is_between live) k (l ∷ []) in
    let rest = deliveries_from live (suc k) w in
    let at_now : slice_get now.sent k ≡ Some l = ap (λ (ls : List Envelope). slice_get ls k) h.sent ∙ get_more w.sent h.more k l f.here in
    let did : HaveHappened config key next one now t next' = subst (λ xs. HaveHappened config key next xs now t next') (delivery_here live k now l at_now) happened in
    let split : deliveries_from live k w ≡ one ++ rest =
    ap (λ ls. deliveries (is_between live) k ls) (drop_some w.sent k l f.here) ∙ handed_append (is_between live) k (l ∷ []) (drop (suc k) w.sent)
    ∙ ap (λ j. one ++ deliveries (is_between live) j (drop (suc k) w.sent)) (after k) in
    let longer = run_longer config next one now in
    let z : suc k ≡ k + 1 = omega arith in
    subst (λ j. AreHandedTo config key live first n w j next' t) z (record {
      now = world_after_events config next one now;
      run = did.run;
      ends = ap (λ j. world_after_events config j rest (world_after_events config next one now)) did.count ∙ sym (run_append config one rest next now)
          ∙ ap (λ xs. world_after_events config next xs now) (sym split) ∙ h.ends;
      count = sum (length one) (length rest) (length (one ++ rest)) next next' (length (deliveries_from live first w) + n) (length-append one rest) did.count (ap (λ (xs : List WorldEvent). length xs + next) (sym split) ∙ h.count);
      spelled = spelled_on config next next' one now (deliveries_are_acts (is_between live) k (l ∷ [])) did.count h.spelled;
      more = h.more ++ longer.0;
      sent = longer.1 ∙ ap (λ ls. ls ++ longer.0) h.sent ∙ append_assoc w.sent h.more longer.0;
    })
  where
    after : (k : ℕ) → 1 + k ≡ suc k
    after k = omega arith

    sum : (a b l n m total : ℕ) → l ≡ a + b → m ≡ a + n → l + n ≡ total → b + m ≡ total
    sum a b l n m total p q r = omega (arith, p, q, r)

pub handed_end : (config : Config) (key : List ℕ) (live : List ℕ) (first n : ℕ) (w : World) (k next : ℕ) (s : SimulationRecord) → length w.sent ≤ k → AreHandedTo config key live first n w k next s
    → HaveHappened config key n (deliveries_from live first w) w s next
unfolding world_after_events
handed_end config key live first n w k next s le h =
    let none : deliveries_from live k w ≡ [] = ap (λ ls. deliveries (is_between live) k ls) (drop_all k w.sent le) in
    record {
      run = subst (λ v. IsRun config key v s) (ap (λ xs. world_after_events config next xs h.now) (sym none) ∙ h.ends) h.run;
      count = total (ap (λ (xs : List WorldEvent). length xs + next) (sym none) ∙ h.count);
    }
  where
    total : {a b : ℕ} → 0 + a ≡ b → a ≡ b
    total e = omega (arith, e)

-- how many datagrams were sent
pub sent_length : (config : Config) (key : List ℕ) (w : World) (s : SimulationRecord) → IsRun config key w s → length s.journal.sent ≡ length w.sent
sent_length config key w s h = ap (λ (ls : List Letter). length ls) h.recorded.sent ∙ length-map w.sent (letter_of key)

-- ---- a round

pub round_happened : (config : Config) (key : List ℕ) (live : List ℕ) (n : ℕ) (w : World) (l : RoundLine) (s s1 s2 t : SimulationRecord) (first second m1 m2 next : ℕ)
    → IsRun config key w s → first ≡ length s.journal.sent → HaveHappened config key n (line_event l ∷ []) w s1 m1 → second ≡ length s1.journal.sent
    → (let w1 = world_after_events config n (line_event l ∷ []) w in
    HaveHappened config key m1 (deliveries_from live first w1) w1 s2 m2
    → HaveHappened config key m2 (deliveries_from live second (world_after_events config m1 (deliveries_from live first w1) w1)) (world_after_events config m1 (deliveries_from live first w1) w1) t next
    → HaveHappened config key n (round_events config live n w l) w t next)
unfolding world_after_events
round_happened config key live n w l s s1 s2 t first second m1 m2 next h at_first asked at_second answered done =
    let w1 = world_after_event config n (line_event l) w in
    let is_first : first ≡ length w.sent = at_first ∙ sent_length config key w s h in
    let is_second : second ≡ length w1.sent = at_second ∙ sent_length config key w1 s1 asked.run in
    let z : m1 ≡ suc n = one_more asked.count in
    let goal : ℕ → ℕ → ℕ → Type 0 = λ i j m.
    (let asks = deliveries_from live i w1 in
    let w2 = world_after_events config m asks w1 in
    HaveHappened config key n (line_event l ∷ asks ++ deliveries_from live j w2) w t next) in
    let all : goal first second m1 =
    both_happened config key n m1 next (line_event l ∷ []) (deliveries_from live first w1 ++ deliveries_from live second (world_after_events config m1 (deliveries_from live first w1) w1)) w s1 t asked
    (both_happened config key m1 m2 next (deliveries_from live first w1) (deliveries_from live second (world_after_events config m1 (deliveries_from live first w1) w1)) w1 s2 t answered done) in
    subst (λ m. goal (length w.sent) (length w1.sent) m) z (subst (λ j. goal (length w.sent) j m1) is_second (subst (λ i. goal i second m1) is_first all))
  where
    one_more : {m n : ℕ} → m ≡ 1 + n → m ≡ suc n
    one_more e = omega (arith, e)

-- ---- all rounds

-- the lines before this place had their rounds
pub record AreRoundsTo (config : Config) (key : List ℕ) (live : List ℕ) (n : ℕ) (w : World) (lines : List CallerLine) (k next : ℕ) (s : SimulationRecord) : Type 0 where
  pub now : World
  pub run : IsRun config key now s
  pub ends : world_after_events config next (rounds_events config live next now (round_lines (drop k lines))) now ≡ world_after_events config n (rounds_events config live n w (round_lines lines)) w
  pub count : length (rounds_events config live next now (round_lines (drop k lines))) + next ≡ length (rounds_events config live n w (round_lines lines)) + n
  pub spelled : StaySpelled config next now

pub rounds_start : (config : Config) (key : List ℕ) (live : List ℕ) (n : ℕ) (w : World) (lines : List CallerLine) (s : SimulationRecord) → IsRun config key w s → StaySpelled config n w → AreRoundsTo config key live n w lines 0 n s
rounds_start config key live n w lines s h spelled = record { now = w; run = h; ends = refl; count = refl; spelled = spelled }

pub rounds_next : (config : Config) (key : List ℕ) (live : List ℕ) (n : ℕ) (w : World) (lines : List CallerLine) (k next next' : ℕ) (line : CallerLine) (s t : SimulationRecord) → slice_get lines k ≡ Some line
    → (h : AreRoundsTo config key live n w lines k next s) → HaveHappened config key next (round_events config live next h.now (round_line line)) h.now t next' → AreRoundsTo config key live n w lines (k + 1) next' t
rounds_next config key live n w lines k next next' line s t at h did =
    let now = h.now in
    let rest = round_lines (drop (suc k) lines) in
    let one = round_events config live next now (round_line line) in
    let later = world_after_events config next one now in
    let more = rounds_events config live (length one + next) later rest in
    let split : rounds_events config live next now (round_lines (drop k lines)) ≡ one ++ more = ap (λ ls. rounds_events config live next now (round_lines ls)) (drop_some lines k line at) in
    let z : suc k ≡ k + 1 = omega arith in
    subst (λ j. AreRoundsTo config key live n w lines j next' t) z (record {
      now = later;
      run = did.run;
      ends = ap (λ j. world_after_events config j (rounds_events config live j later rest) later) did.count ∙ sym (run_append config one more next now)
          ∙ ap (λ xs. world_after_events config next xs now) (sym split) ∙ h.ends;
      count = ap (λ j. length (rounds_events config live j later rest) + j) did.count
          ∙ sum (length one) (length more) (length (one ++ more)) next (length (rounds_events config live n w (round_lines lines)) + n) (length-append one more) (ap (λ (xs : List WorldEvent). length xs + next) (sym split) ∙ h.count);
      spelled = spelled_on config next next' one now (round_is_acts config live next now (round_line line)) did.count h.spelled;
    })
  where
    sum : (a b l n total : ℕ) → l ≡ a + b → l + n ≡ total → b + (a + n) ≡ total
    sum a b l n total p r = omega (arith, p, r)

pub rounds_end : (config : Config) (key : List ℕ) (live : List ℕ) (n : ℕ) (w : World) (lines : List CallerLine) (k next : ℕ) (s : SimulationRecord) → length lines ≤ k → AreRoundsTo config key live n w lines k next s
    → HaveHappened config key n (rounds_events config live n w (round_lines lines)) w s next
unfolding world_after_events
rounds_end config key live n w lines k next s le h =
    let none : rounds_events config live next h.now (round_lines (drop k lines)) ≡ [] = ap (λ ls. rounds_events config live next h.now (round_lines ls)) (drop_all k lines le) in
    record {
      run = subst (λ v. IsRun config key v s) (ap (λ xs. world_after_events config next xs h.now) (sym none) ∙ h.ends) h.run;
      count = total (ap (λ (xs : List WorldEvent). length xs + next) (sym none) ∙ h.count);
    }
  where
    total : {a b : ℕ} → 0 + a ≡ b → a ≡ b
    total e = omega (arith, e)

-- ---- from the start

-- what is spelled along these events and all acts after them stays so
pub stay_spelled : (config : Config) (start : Start) (before : List WorldEvent) (n : ℕ) → n ≡ length before
    → ((acts : List WorldEvent) → AreActs acts → AreSpelledAlong config (before ++ acts) (opening_world config start)) → StaySpelled config n (world_of config start before)
stay_spelled config start before n is all ys acts =
    let w = opening_world config start in
    subst AreSpelled (ap (λ l. world_after_events config 0 l w) (take-length (before ++ ys)) ∙ run_append config before ys 0 w ∙ ap (λ m. world_after_events config m ys (world_of config start before)) (more is))
    (all ys acts (length (before ++ ys)))
  where
    more : {n m : ℕ} → n ≡ m → m + 0 ≡ n
    more e = omega (arith, e)

-- the world after all
pub all_happened : (config : Config) (key : List ℕ) (start : Start) (before : List WorldEvent) (live : List ℕ) (lines : List RoundLine) (n : ℕ) → n ≡ length before → (s : SimulationRecord) (next : ℕ)
    → HaveHappened config key n (rounds_events config live n (world_of config start before) lines) (world_of config start before) s next
    → IsRun config key (world_of config start (events_with_rounds config start before live lines)) s
all_happened config key start before live lines n is s next h =
    let w = world_of config start before in
    let ys = rounds_events config live (length before) w lines in
    let z : length before + 0 ≡ length before = omega arith in
    subst (λ v. IsRun config key v s)
    (ap (λ m. world_after_events config m (rounds_events config live m w lines) w) is ∙ sym (run_append config before ys 0 (opening_world config start) ∙ ap (λ m. world_after_events config m ys w) z)) h.run
