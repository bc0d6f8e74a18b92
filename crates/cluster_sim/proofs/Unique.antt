-- A round delivers each letter in the order of sending until none remains: there is exactly one such list of events.
use Rattle.std.proofs.Common.{◌≡◌, ℕ, zero, suc, ◌+◌, ◌<◌, ◌≤◌, ⊎_elim, Bool, true, false, cond, List, [], ◌∷◌, ◌++◌, length, drop, Option, Some, None, refl, sym, ap, ◌∙◌, subst, arith}
use Rattle.std.specs.List.{slice_get}
use Rattle.std.proofs.lemmas.Bool.{cond_both, cases_lt}
use Rattle.std.proofs.lemmas.Option.{slice_get_past, same_Some}
use Rattle.std.proofs.lemmas.List.{drop_all, drop_at}
use Rattle.cluster_sim.proofs.BelowLaws.{GateLaw, GroundLaw, RulingLaw}
use Rattle.cluster_sim.proofs.Gates.{Gated, all_gated, run_gated}
use Rattle.cluster_sim.proofs.Proposals.{Rounded}
use Rattle.cluster_sim.proofs.RoundLaw.{room_for_more, room_for_one, round_done}
use Rattle.cluster_sim.proofs.Seqs.{run_longer}
use Rattle.cluster_sim.proofs.Sound.{AllSound, run_sound}
use Rattle.cluster_sim.proofs.Turns.{sound_of}
use Rattle.cluster_sim.specs.Rounds.{AreAtLive, AreRounds, HaveNumbers, IsRound, IsSettled, RoundLine, RoundsAreThese, deliveries, is_between, line_event, round_events, rounds_events}
use Rattle.cluster_sim.specs.World.{Deliver, Happens, World, WorldEvent, delivered_event, world_after_act, world_after_event, world_after_events, world_after_turn, world_of}
use Rattle.oath_node.specs.Machine.{Config}
use Rattle.vote_core.specs.Schedule.{Envelope}

-- what was never sent is not delivered
unsent_one : (config : Config) (e k j : ℕ) (w : World) → length w.sent ≤ k → world_after_event config e (Happens (Deliver j k)) w ≡ w
unfolding world_after_event world_after_act world_after_turn
unsent_one config e k j w h = ap (λ o. world_after_turn config e j (delivered_event o) w) (slice_get_past w.sent k h)

unsent_run : (config : Config) (test : Envelope → Bool) (ls : List Envelope) (k e : ℕ) (w : World) → length w.sent ≤ k → world_after_events config e (deliveries test k ls) w ≡ w
unfolding world_after_events
unsent_run config test [] k e w h = refl
unsent_run config test (l ∷ ls) k e w h =
    let rest = deliveries test (suc k) ls in
    cond_both (test l) (Happens (Deliver l.receiver k) ∷ rest) rest (λ xs. world_after_events config e xs w ≡ w)
    (λ _. ap (λ v. world_after_events config (suc e) rest v) (unsent_one config e k l.receiver w h) ∙ unsent_run config test ls (suc k) (suc e) w (omega (arith, h)))
    (λ _. unsent_run config test ls (suc k) e w (omega (arith, h)))

-- letter number k, if it was sent, is the first of the letters from k on
head_is : (xs more : List Envelope) (k : ℕ) (d : Envelope) (ds : List Envelope) → k < length xs → drop k (xs ++ more) ≡ d ∷ ds → slice_get xs k ≡ Some d
head_is [] more k d ds lt h = absurd (omega (arith, lt))
head_is (x ∷ xs) more zero d ds lt h = ap first h
  where
    first : List Envelope → Option Envelope
    first [] = None
    first (y ∷ ys) = Some y
head_is (x ∷ xs) more (suc k) d ds lt h = head_is xs more k d ds (omega (arith, lt)) h

tail_is : (xs : List Envelope) (k : ℕ) (d : Envelope) (ds : List Envelope) → drop k xs ≡ d ∷ ds → drop (suc k) xs ≡ ds
tail_is [] zero d ds h = absurd (nothing h)
  where
    nothing : [] ≡ d ∷ ds → ⊥
    nothing q = omega (arith, ap (λ (l : List Envelope). length l) q)
tail_is [] (suc k) d ds h = absurd (nothing h)
  where
    nothing : [] ≡ d ∷ ds → ⊥
    nothing q = omega (arith, ap (λ (l : List Envelope). length l) q)
tail_is (x ∷ xs) zero d ds h = ap (λ (l : List Envelope). drop 1 l) h
tail_is (x ∷ xs) (suc k) d ds h = tail_is xs k d ds h

-- what is delivered_event on from number k on is all that is sent from number k on
abbrev AllHanded : Config → (Envelope → Bool) → ℕ → ℕ → World → List Envelope → Type 0
AllHanded config test k e w ds = drop k (world_after_events config e (deliveries test k ds) w).sent ≡ ds

-- without a remaining letter nothing is delivered
none_left : (config : Config) (test : Envelope → Bool) (k e : ℕ) (w : World) (ds : List Envelope) → length w.sent ≤ k → AllHanded config test k e w ds → ds ≡ []
none_left config test k e w ds h q = sym q ∙ ap (λ (z : World). drop k z.sent) (unsent_run config test ds k e w h) ∙ drop_all k w.sent h

first_is : (config : Config) (test : Envelope → Bool) (k e : ℕ) (w : World) (d : Envelope) (ds : List Envelope) → k < length w.sent → AllHanded config test k e w (d ∷ ds) → slice_get w.sent k ≡ Some d
first_is config test k e w d ds lt q =
    let more = run_longer config e (deliveries test k (d ∷ ds)) w in
    head_is w.sent more.0 k d ds lt (ap (λ s. drop k s) (sym more.1) ∙ q)

-- one list at most
same_handed : (config : Config) (test : Envelope → Bool) (ds ms : List Envelope) (k e : ℕ) (w : World) → AllHanded config test k e w ds → AllHanded config test k e w ms → ds ≡ ms
unfolding world_after_events
same_handed config test [] [] k e w p q = refl
same_handed config test [] (m ∷ ms) k e w p q = sym (none_left config test k e w (m ∷ ms) (sent_all w.sent k p) q)
  where
    sent_all : (xs : List Envelope) (k : ℕ) → drop k xs ≡ [] → length xs ≤ k
    sent_all [] k h = omega arith
    sent_all (x ∷ xs) zero h = absurd (omega (arith, ap (λ (l : List Envelope). length l) h))
    sent_all (x ∷ xs) (suc k) h = omega (arith, sent_all xs k h)
same_handed config test (d ∷ ds) [] k e w p q = none_left config test k e w (d ∷ ds) (sent_all w.sent k q) p
  where
    sent_all : (xs : List Envelope) (k : ℕ) → drop k xs ≡ [] → length xs ≤ k
    sent_all [] k h = omega arith
    sent_all (x ∷ xs) zero h = absurd (omega (arith, ap (λ (l : List Envelope). length l) h))
    sent_all (x ∷ xs) (suc k) h = omega (arith, sent_all xs k h)
same_handed config test (d ∷ ds) (m ∷ ms) k e w p q =
    ⊎_elim
    (λ (lt : k < length w.sent).
    let same : d ≡ m = same_Some d m (sym (first_is config test k e w d ds lt p) ∙ first_is config test k e w m ms lt q) in
    let q' : AllHanded config test k e w (d ∷ ms) = subst (λ x. AllHanded config test k e w (x ∷ ms)) (sym same) q in
    let rest = deliveries test (suc k) in
    let on = Happens (Deliver d.receiver k) in
    let tails : ds ≡ ms =
    split (test d) (drop k) on (rest ds) (rest ms) p q'
    (λ a b. same_handed config test ds ms (suc k) (suc e) (world_after_event config e on w) (tail_is (world_after_events config (suc e) (rest ds) (world_after_event config e on w)).sent k d ds a) (tail_is (world_after_events config (suc e) (rest ms) (world_after_event config e on w)).sent k d ms b))
    (λ a b. same_handed config test ds ms (suc k) e w (tail_is (world_after_events config e (rest ds) w).sent k d ds a) (tail_is (world_after_events config e (rest ms) w).sent k d ms b)) in
    ap (λ x. x ∷ ds) same ∙ ap (λ l. m ∷ l) tails)
    (λ (le : length w.sent ≤ k). none_left config test k e w (d ∷ ds) le p ∙ sym (none_left config test k e w (m ∷ ms) le q))
    (cases_lt k (length w.sent))
  where
    split : (b : Bool) (f : List Envelope → List Envelope) (on : WorldEvent) (xs ys : List WorldEvent)
        → f (world_after_events config e (cond b (on ∷ xs) xs) w).sent ≡ d ∷ ds → f (world_after_events config e (cond b (on ∷ ys) ys) w).sent ≡ d ∷ ms
        → (f (world_after_events config e (on ∷ xs) w).sent ≡ d ∷ ds → f (world_after_events config e (on ∷ ys) w).sent ≡ d ∷ ms → ds ≡ ms)
        → (f (world_after_events config e xs w).sent ≡ d ∷ ds → f (world_after_events config e ys w).sent ≡ d ∷ ms → ds ≡ ms) → ds ≡ ms
    split true f on xs ys a b yes_it no_it = yes_it a b
    split false f on xs ys a b yes_it no_it = no_it a b

-- ---- rounds

-- what was sent in the round, number by number from the line on
sent_since : (config : Config) (live : List ℕ) (e : ℕ) (w : World) (l : RoundLine) (ds : List Envelope)
    → ds ≡ drop (length w.sent) (world_after_events config e (line_event l ∷ deliveries (is_between live) (length w.sent) ds) w).sent → AllHanded config (is_between live) (length w.sent) (suc e) (world_after_event config e (line_event l) w) ds
unfolding world_after_events
sent_since config live e w l ds h = sym h

pub one_round : (config : Config) (live : List ℕ) (e : ℕ) (w : World) (l : RoundLine) (xs ys : List WorldEvent) → IsRound config live e w l xs → IsRound config live e w l ys → xs ≡ ys
one_round config live e w l xs ys p q =
    let D = λ (zs : List WorldEvent). drop (length w.sent) (world_after_events config e zs w).sent in
    let round = λ (ds : List Envelope). line_event l ∷ deliveries (is_between live) (length w.sent) ds in
    let same = same_handed config (is_between live) (D xs) (D ys) (length w.sent) (suc e) (world_after_event config e (line_event l) w)
    (sent_since config live e w l (D xs) (ap D p)) (sent_since config live e w l (D ys) (ap D q)) in
    p ∙ ap round same ∙ sym q

-- the computed one is such a round
pub is_round : (config : Config) (live : List ℕ) (e : ℕ) (w : World) (l : RoundLine) (xs : List WorldEvent) → Rounded live (line_event l) xs w (world_after_events config e xs w) → IsRound config live e w l xs
is_round config live e w l xs h =
    h.events ∙ ap (λ ds. line_event l ∷ deliveries (is_between live) (length w.sent) ds) (sym (ap (λ s. drop (length w.sent) s) h.sent ∙ drop_at w.sent h.more (length w.sent) refl))

record These (config : Config) (live : List ℕ) (e : ℕ) (w : World) (ls : List RoundLine) : Type 0 where
  are : AreRounds config live e w ls (rounds_events config live e w ls)
  only : (events : List WorldEvent) → AreRounds config live e w ls events → events ≡ rounds_events config live e w ls

these : GroundLaw → GateLaw → RulingLaw → (config : Config) (live : List ℕ) (ls : List RoundLine) (e : ℕ) (w : World) → AllSound (length config.book) w → Gated (length config.book) w → IsSettled config live w → AreAtLive live ls
    → HaveNumbers live w ls → These config live e w ls
these grounds law rules config live [] e w sound gated calm here last = record { are = refl; only = λ events h. h }
these grounds law rules config live (l ∷ ls) e w sound gated calm here last =
    let xs = round_events config live e w l in
    let w1 = world_after_events config e xs w in
    let one = round_done grounds law rules config live e w l sound gated calm here.0 (room_for_one (w.nodes l.node).voter.seq (length ls) (last l.node here.0)) in
    let round = is_round config live e w l xs one.1 in
    let rest = these grounds law rules config live ls (length xs + e) w1 (run_sound config (length config.book) e xs w sound) (run_gated grounds law config e xs w (λ i. (sound i).kept.size) gated) one.0.calm here.1
    (λ i at. room_for_more (w.nodes i).voter.seq (w1.nodes i).voter.seq (length ls) (one.0.seqs i at) (last i at)) in
    let ys = rounds_events config live (length xs + e) w1 ls in
    record {
      are = (xs, ys, refl, round, rest.are);
      only = λ events h.
          let same : h.0 ≡ xs = one_round config live e w l h.0 xs h.3 round in
          let later : AreRounds config live (length xs + e) w1 ls h.1 = subst (λ zs. AreRounds config live (length zs + e) (world_after_events config e zs w) ls h.1) same h.4 in
          h.2 ∙ ap (λ zs. zs ++ h.1) same ∙ ap (λ zs. xs ++ zs) (rest.only h.1 later);
    }

pub rounds_are_these : GroundLaw → GateLaw → RulingLaw → RoundsAreThese
rounds_are_these grounds law rules config start before live lines h =
    let t = these grounds law rules config live lines (length before) (world_of config start before) (sound_of config start before) (all_gated grounds law config start before) h.settled h.at_live h.numbers in
    (t.are, t.only)
