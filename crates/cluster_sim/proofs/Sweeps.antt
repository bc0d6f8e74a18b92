-- Ticks of a live member and the Floors that follow: nothing stays pending there, and the floors rise to its own.
use Rattle.std.proofs.Common.{◌≡◌, ◌≢◌, ℕ, suc, ◌<◌, ◌≤◌, ⊎_elim, true, false, List, [], ◌∷◌, ◌++◌, length, Some, None, refl, sym, ap, ◌∙◌, subst, arith, ltb}
use Rattle.std.specs.List.{slice_get}
use Rattle.std.proofs.lemmas.Bool.{cond_both, ltb-true, ltb-false, and_parts, and_from, both_ways}
use Rattle.cluster_sim.proofs.Sound.{AllSound, happens_sound}
use Rattle.cluster_sim.proofs.Waves.{Stands, hands, is_heard_at, set_all, set_at, set_off, stands_more}
use Rattle.cluster_sim.specs.Rounds.{AreUp, deliveries, is_floor, is_floor_to, is_live, next_at}
use Rattle.cluster_sim.specs.World.{Deliver, Happens, World, place_at, world_after_event, world_after_events, world_with_made}
use Rattle.floor_store.specs.Content.{Content, with_row}
use Rattle.floor_store.specs.Records.{RowRecord}
use Rattle.oath_node.specs.Machine.{Config, NodeState, made_by_vote, token_of}
use Rattle.vote_core.proofs.Basics.{Each, row_cases, row_here}
use Rattle.vote_core.specs.Rows.{row, row_with_next}
use Rattle.vote_core.specs.Schedule.{Envelope, is_member}
use Rattle.vote_core.specs.Voting.{Ballot, on_floor, on_message, quiet_step, raise}
use Rattle.vote_core.specs.declared.message.Message.{Message}
use Rattle.vote_core.specs.declared.message.Message.TheVariants.{Ask, Deny, Floor, Grant}

-- ---- a raised row

raise_up : (t n : ℕ) (c : Content) (u : ℕ) → (row c u).next ≤ (row (raise t n c) u).next
unfolding raise
raise_up t n c u =
    cond_both (ltb (row c t).next n) (with_row c t (row_with_next n (row c t)) None) c (λ (d : Content). (row c u).next ≤ (row d u).next)
    (λ q. let lt = ltb-true (row c t).next n q in
    ⊎_elim (λ (e : row (with_row c t (row_with_next n (row c t)) None) u ≡ row c u). subst (λ (r : RowRecord). (row c u).next ≤ r.next) (sym e) (omega arith))
    (λ (z : (u ≡ t) × (row (with_row c t (row_with_next n (row c t)) None) u ≡ row_with_next n (row c t))).
    subst (λ (r : RowRecord). (row c u).next ≤ r.next) (sym z.1) (subst (λ m. (row c m).next ≤ n) (sym z.0) (omega (arith, lt))))
    (row_cases c t (row_with_next n (row c t)) None u))
    (λ _. omega arith)

raise_reach : (t n : ℕ) (c : Content) → t < length c.rows → n ≤ (row (raise t n c) t).next
unfolding raise
raise_reach t n c lt =
    cond_both (ltb (row c t).next n) (with_row c t (row_with_next n (row c t)) None) c (λ (d : Content). n ≤ (row d t).next)
    (λ _. subst (λ (r : RowRecord). n ≤ r.next) (sym (row_here c t (row_with_next n (row c t)) None lt)) (omega arith))
    (λ q. ltb-false (row c t).next n q)

raise_bound : (B : ℕ → ℕ) (t n : ℕ) (c : Content) → n ≤ B t → ((u : ℕ) → (row c u).next ≤ B u) → (u : ℕ) → (row (raise t n c) u).next ≤ B u
unfolding raise
raise_bound B t n c le h u =
    cond_both (ltb (row c t).next n) (with_row c t (row_with_next n (row c t)) None) c (λ (d : Content). (row d u).next ≤ B u)
    (λ _. ⊎_elim (λ (e : row (with_row c t (row_with_next n (row c t)) None) u ≡ row c u). subst (λ (r : RowRecord). r.next ≤ B u) (sym e) (h u))
    (λ (z : (u ≡ t) × (row (with_row c t (row_with_next n (row c t)) None) u ≡ row_with_next n (row c t))).
    subst (λ (r : RowRecord). r.next ≤ B u) (sym z.1) (subst (λ m. n ≤ B m) (sym z.0) le))
    (row_cases c t (row_with_next n (row c t)) None u))
    (λ _. h u)

-- ---- what a sweep's events do, from world w to world v, with no next above B

abbrev pub Bounded : List ℕ → (ℕ → ℕ) → World → Type 0
Bounded live B w = (j : ℕ) → is_live live j ≡ true → (t : ℕ) → next_at w j t ≤ B t

abbrev pub pending_at : World → ℕ → List Ballot
pending_at w j = (w.nodes j).voter.pending

pub record Levels (live : List ℕ) (B : ℕ → ℕ) (w v : World) : Type 0 where
  pub up : AreUp live v
  pub mono : (j t : ℕ) → next_at w j t ≤ next_at v j t
  pub bound : Bounded live B v
  pub still : (j : ℕ) → is_live live j ≡ true → pending_at w j ≡ [] → pending_at v j ≡ []

pub levels_none : (live : List ℕ) (B : ℕ → ℕ) (w : World) → AreUp live w → Bounded live B w → Levels live B w w
levels_none live B w up bound = record { up = up; mono = λ j t. omega arith; bound = bound; still = λ j l h. h }

pub levels_then : (live : List ℕ) (B : ℕ → ℕ) (w v u : World) → Levels live B w v → Levels live B v u → Levels live B w u
levels_then live B w v u h k = record { up = k.up; mono = λ j t. omega (arith, h.mono j t, k.mono j t); bound = k.bound; still = λ j l z. k.still j l (h.still j l z) }

-- ---- one Floor

abbrev pub FloorFits : ℕ → (ℕ → ℕ) → Message → Type 0
FloorFits tokens B (Ask p t span) = Unit {0}
FloorFits tokens B (Grant p t span) = Unit {0}
FloorFits tokens B (Deny p t next) = Unit {0}
FloorFits tokens B (Floor t next) = (t < tokens) × (next ≤ B t)

-- a letter of node i's to another
pub record OfTick (tokens : ℕ) (B : ℕ → ℕ) (i : ℕ) (l : Envelope) : Type 0 where
  pub from : l.sender ≡ i
  pub other : l.receiver ≢ i
  pub fits : FloorFits tokens B l.message

-- the content of the message has reached node `j`
abbrev pub ReachedBy : World → ℕ → Message → Type 0
ReachedBy v j (Ask p t span) = Unit {0}
ReachedBy v j (Grant p t span) = Unit {0}
ReachedBy v j (Deny p t next) = Unit {0}
ReachedBy v j (Floor t next) = next ≤ next_at v j t

abbrev pub Reached : List ℕ → World → Envelope → Type 0
Reached live v l = is_live live l.receiver ≡ true → ReachedBy v l.receiver l.message

reached_later : (v u : World) (j : ℕ) → ((t : ℕ) → next_at v j t ≤ next_at u j t) → (m : Message) → ReachedBy v j m → ReachedBy u j m
reached_later v u j mono (Ask p t span) h = tt
reached_later v u j mono (Grant p t span) h = tt
reached_later v u j mono (Deny p t next) h = tt
reached_later v u j mono (Floor t next) h = omega (arith, h, mono t)

record Delivered (live : List ℕ) (B : ℕ → ℕ) (i : ℕ) (w v : World) (l : Envelope) : Type 0 where
  levels : Levels live B w v
  n : v.n ≡ w.n
  own : v.nodes i ≡ w.nodes i
  reached : ReachedBy v l.receiver l.message
  more : List Envelope
  sent : v.sent ≡ w.sent ++ more

floor_made : (live : List ℕ) (B : ℕ → ℕ) (tokens i e t n : ℕ) (l : Envelope) (w : World) → AllSound tokens w → AreUp live w → Bounded live B w → is_live live l.receiver ≡ true → l.receiver ≢ i → t < tokens → n ≤ B t → l.message ≡ Floor t n
    → Delivered live B i w (world_with_made e l.receiver (made_by_vote (w.nodes l.receiver).owners None (quiet_step (raise t n (w.nodes l.receiver).content) (w.nodes l.receiver).voter) (w.nodes l.receiver)) w) l
unfolding world_with_made
floor_made live B tokens i e t n l w sound up bound here other known low is =
    let j = l.receiver in
    let x = w.nodes j in
    let o = made_by_vote x.owners None (quiet_step (raise t n x.content) x.voter) x in
    let v = world_with_made e j o w in
    record {
      levels = record {
        up = λ m at. ((up m at).0, set_all (λ m y. is_live live m ≡ true → y.running ≡ true) j o.state w.nodes (λ at. (up j at).1) (λ m at. (up m at).1) m at);
        mono = λ m u. set_all (λ m y. next_at w m u ≤ (row y.content u).next) j o.state w.nodes (raise_up t n x.content u) (λ m. omega arith) m;
        bound = set_all (λ m y. is_live live m ≡ true → (u : ℕ) → (row y.content u).next ≤ B u) j o.state w.nodes (λ _ u. raise_bound B t n x.content low (bound j here) u) bound;
        still = set_all (λ m y. is_live live m ≡ true → pending_at w m ≡ [] → y.voter.pending ≡ []) j o.state w.nodes (λ _ h. h) (λ m _ h. h);
      };
      n = refl;
      own = set_off j i o.state w.nodes (λ q. other (sym q));
      reached = subst (λ m. ReachedBy v j m) (sym is) (subst (λ (y : NodeState). n ≤ (row y.content t).next) (sym (set_at j o.state w.nodes)) (raise_reach t n x.content (subst (λ m. t < m) (sym (sound j).kept.size) known)));
      more = [];
      sent = refl;
    }

floor_delivered : (config : Config) (live : List ℕ) (B : ℕ → ℕ) (i e k : ℕ) (l : Envelope) (w : World) → slice_get w.sent k ≡ Some l → AllSound (length config.book) w → AreUp live w → Bounded live B w
    → is_member w.n i ≡ true → OfTick (length config.book) B i l → is_live live l.receiver ≡ true → (m : Message) → l.message ≡ m → is_floor m ≡ true
    → Delivered live B i w (world_after_event config e (Happens (Deliver l.receiver k)) w) l
unfolding on_message on_floor
floor_delivered config live B i e k l w at sound up bound member h here (Ask p t span) is f = absurd (both_ways false refl f)
floor_delivered config live B i e k l w at sound up bound member h here (Grant p t span) is f = absurd (both_ways false refl f)
floor_delivered config live B i e k l w at sound up bound member h here (Deny p t next) is f = absurd (both_ways false refl f)
floor_delivered config live B i e k l w at sound up bound member h here (Floor t n) is f =
    let j = l.receiver in
    let x = w.nodes j in
    let fits = subst (λ m. FloorFits (length config.book) B m) is h.fits in
    let hears = is_heard_at config w l (λ q. h.other (sym q ∙ h.from)) (ap (λ m. is_member w.n m) h.from ∙ member) (subst (λ m. token_of m < length config.book) (sym is) fits.0) in
    let same = hands config e k l w at (up j here).0 (up j here).1 hears ∙ ap (λ m. world_with_made e j (made_by_vote x.owners None (on_message (place_at w j) l.sender m x.content x.voter) x) w) is in
    subst (λ v. Delivered live B i w v l) (sym same) (floor_made live B (length config.book) i e t n l w sound up bound here h.other fits.0 fits.1 is)

-- ---- all the Floors of a tick

pub record Waved (live : List ℕ) (B : ℕ → ℕ) (i : ℕ) (w v : World) (ls : List Envelope) : Type 0 where
  pub levels : Levels live B w v
  pub own : v.nodes i ≡ w.nodes i
  pub reached : Each (Reached live v) ls

passed_over : (live : List ℕ) (v : World) (l : Envelope) → is_floor_to live l ≡ false → (m : Message) → l.message ≡ m → is_live live l.receiver ≡ true → ReachedBy v l.receiver m
passed_over live v l off (Ask p t span) is here = tt
passed_over live v l off (Grant p t span) is here = tt
passed_over live v l off (Deny p t next) is here = tt
passed_over live v l off (Floor t n) is here = absurd (both_ways (is_floor_to live l) off (and_from (is_floor l.message) (is_live live l.receiver) (ap is_floor is) here))

pub floors_wave : (config : Config) (live : List ℕ) (B : ℕ → ℕ) (i : ℕ) (ls : List Envelope) (k e : ℕ) (w : World) → Stands k ls w.sent → AllSound (length config.book) w → AreUp live w → Bounded live B w
    → is_member w.n i ≡ true → Each (OfTick (length config.book) B i) ls → Waved live B i w (world_after_events config e (deliveries (is_floor_to live) k ls) w) ls
unfolding world_after_events
floors_wave config live B i [] k e w at sound up bound member h = record { levels = levels_none live B w up bound; own = refl; reached = tt }
floors_wave config live B i (l ∷ ls) k e w at sound up bound member h =
    let rest = deliveries (is_floor_to live) (suc k) ls in
    cond_both (is_floor_to live l) (Happens (Deliver l.receiver k) ∷ rest) rest (λ xs. Waved live B i w (world_after_events config e xs w) (l ∷ ls))
    (λ q.
    let parts = and_parts (is_floor l.message) (is_live live l.receiver) q in
    let v = world_after_event config e (Happens (Deliver l.receiver k)) w in
    let one = floor_delivered config live B i e k l w at.0 sound up bound member h.0 parts.1 l.message refl parts.0 in
    let more = floors_wave config live B i ls (suc k) (suc e) v (subst (λ s. Stands (suc k) ls s) (sym one.sent) (stands_more (suc k) ls w.sent one.more at.1))
    (happens_sound config (length config.book) e (Happens (Deliver l.receiver k)) w sound) one.levels.up one.levels.bound (ap (λ m. is_member m i) one.n ∙ member) h.1 in
    record {
      levels = levels_then live B w v (world_after_events config (suc e) rest v) one.levels more.levels;
      own = more.own ∙ one.own;
      reached = (λ _. reached_later v (world_after_events config (suc e) rest v) l.receiver (more.levels.mono l.receiver) l.message one.reached, more.reached);
    })
    (λ q.
    let more = floors_wave config live B i ls (suc k) e w at.1 sound up bound member h.1 in
    record { levels = more.levels; own = more.own; reached = (λ here. passed_over live (world_after_events config e rest w) l q l.message refl here, more.reached) })
