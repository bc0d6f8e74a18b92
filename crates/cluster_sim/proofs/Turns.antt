-- A tick and its Floors, a member's turn, and a sweep.
use Rattle.std.proofs.Common.{◌≡◌, ◌≢◌, ℕ, zero, suc, ◌+◌, ◌<◌, ◌≤◌, ◌⊎◌, inl, inr, ⊎_elim, Bool, true, false, not, cond, List, [], ◌∷◌, ◌++◌, length, map, drop, None, refl, sym, ap, ◌∙◌, subst, arith, eqb, leb, ltb, max}
use Rattle.std.specs.List.{filter, flat_map}
use Rattle.std.proofs.lemmas.Bool.{cond_both, cond-true, cond-false, cases_Bool, not_from_false, ne_eqb, lt-ltb, eqb-true, eq-eqb, ltb-true, ltb-false, leb-true, and_parts, or_cases, or_left, or_right, not-true, both_ways, cases_order, cases_eq, cases_lt}
use Rattle.std.proofs.lemmas.List.{drop_at}
use Rattle.floor_store.specs.Records.{span_of}
use Rattle.cluster_sim.proofs.Sound.{AllSound, IsTurn, happens_sound, no_owners, run_sound, start_sound}
use Rattle.cluster_sim.proofs.Sweeps.{Bounded, FloorFits, Levels, OfTick, Reached, floors_wave, levels_none, levels_then, pending_at}
use Rattle.cluster_sim.proofs.Waves.{is_in, run_append, set_all, set_at, stands_last, ticks}
use Rattle.cluster_sim.specs.Rounds.{AreUp, HasNonePending, SweepLevels, TurnLevels, deliveries, greatest, is_floor_to, is_live, next_at, sweep_events, tick_events, turn_events, turns_events}
use Rattle.cluster_sim.specs.World.{Happens, Ticks, World, WorldEvent, has_store, opening_world, place_at, world_after_events, world_of, world_with_made, Start}
use Rattle.oath_node.specs.Machine.{Config, NodeState, made_by_vote}
use Rattle.otp_core.specs.Acceptance.{size}
use Rattle.vote_core.proofs.Basics.{Each, each_all, each_append, each_filter, each_flat_map, each_map, each_passes, each_weaker}
use Rattle.vote_core.specs.NodeSet.{members, others}
use Rattle.vote_core.specs.Rows.{row}
use Rattle.vote_core.specs.Schedule.{Envelope, envelope_from, is_member}
use Rattle.vote_core.specs.Voting.{Ballot, Voted, asks_again, floor_sends, has_answered, is_young, older_ballot, older_ballots, tick, to_each}
use Rattle.vote_core.specs.declared.message.Message.{Message}
use Rattle.vote_core.specs.declared.message.Message.TheVariants.{Ask, Floor}

-- ---- members

pub member_parts : (n i : ℕ) → is_member n i ≡ true → (1 ≤ i) × (i ≤ n)
member_parts n i h = let p = and_parts (leb 1 i) (leb i n) h in (leb-true 1 i p.0, leb-true i n p.1)

-- what holds of each that passes
pub filter_back : {A : Type 0} (P : A → Type 0) (test : A → Bool) (xs : List A) → Each P (filter test xs) → Each (λ x. test x ≡ true → P x) xs
filter_back P test [] h = tt
filter_back P test (x ∷ xs) h =
    let f = filter test xs in
    let tail : Each P f = ⊎_elim (λ (q : test x ≡ true). (subst (λ l. Each P l) (cond-true (test x) (x ∷ f) f q) h).1) (λ (q : test x ≡ false). subst (λ l. Each P l) (cond-false (test x) (x ∷ f) f q) h) (cases_Bool (test x)) in
    (λ q. (subst (λ l. Each P l) (cond-true (test x) (x ∷ f) f q) h).0, filter_back P test xs tail)

pub each_front : {A : Type 0} (P : A → Type 0) (xs ys : List A) → Each P (xs ++ ys) → Each P xs
each_front P [] ys h = tt
each_front P (x ∷ xs) ys h = (h.0, each_front P xs ys h.1)

pub each_back : {A : Type 0} (P : A → Type 0) (xs ys : List A) → Each P (xs ++ ys) → Each P ys
each_back P [] ys h = h
each_back P (x ∷ xs) ys h = each_back P xs ys h.1

pub map_back : {A B : Type 0} (P : B → Type 0) (f : A → B) (xs : List A) → Each P (map f xs) → Each (λ x. P (f x)) xs
map_back P f [] h = tt
map_back P f (x ∷ xs) h = (h.0, map_back P f xs h.1)

pub members_each : (P : ℕ → Type 0) (n i : ℕ) → Each P (members n) → 1 ≤ i → i ≤ n → P i
members_each P zero i h low high = absurd (omega (arith, low, high))
members_each P (suc n) i h low high =
    ⊎_elim (λ (q : i ≡ suc n). subst (λ m. P m) (sym q) (each_back P (members n) (suc n ∷ []) h).0)
    (λ (ne : i ≡ suc n → ⊥). members_each P n i (each_front P (members n) (suc n ∷ []) h) low (below i n high ne)) (cases_eq i (suc n))
  where
    below : (a b : ℕ) → a ≤ suc b → (a ≡ suc b → ⊥) → a ≤ b
    below a b le ne = ⊎_elim (λ (q : a ≡ suc b). absurd (ne q)) (λ z. ⊎_elim (λ (lt : a < suc b). omega (arith, lt)) (λ (lt : suc b < a). absurd (omega (arith, lt, le))) z) (cases_order a (suc b))

-- what is so of every other member
pub others_each : (P : ℕ → Type 0) (n me j : ℕ) → Each P (others (record { me = me; n = n })) → is_member n j ≡ true → j ≢ me → P j
others_each P n me j h member ne =
    let parts = member_parts n j member in
    members_each (λ g. not (eqb g me) ≡ true → P g) n j (filter_back P (λ g. not (eqb g me)) (members n) h) parts.0 parts.1 (not_from_false (eqb j me) (ne_eqb j me ne))

-- ---- a tick and its Floors

abbrev ticked : World → ℕ → Voted
ticked w i = tick (place_at w i) (w.nodes i).content (w.nodes i).voter

abbrev ticked_world : ℕ → World → ℕ → World
ticked_world e w i = world_with_made e i (made_by_vote (w.nodes i).owners None (ticked w i) (w.nodes i)) w

abbrev letters_of : World → ℕ → List Envelope
letters_of w i = map (envelope_from i) (ticked w i).sends

tick_run : (config : Config) (live : List ℕ) (e : ℕ) (w : World) (i : ℕ) → has_store w i ≡ true → (w.nodes i).running ≡ true
    → world_after_events config e (tick_events config live e w i) w ≡ world_after_events config (suc e) (deliveries (is_floor_to live) (length w.sent) (letters_of w i)) (ticked_world e w i)
unfolding world_after_events world_with_made
tick_run config live e w i member up =
    ap (λ z. world_after_events config (suc e) (deliveries (is_floor_to live) (length w.sent) (drop (length w.sent) z.sent)) z) (ticks config e i w member up)
    ∙ ap (λ ls. world_after_events config (suc e) (deliveries (is_floor_to live) (length w.sent) ls) (ticked_world e w i)) (drop_at w.sent (letters_of w i) (length w.sent) refl)

letters_fit : (tokens : ℕ) (B : ℕ → ℕ) (w : World) (i : ℕ) → length (w.nodes i).content.rows ≡ tokens → ((t : ℕ) → next_at w i t ≤ B t) → Each (OfTick tokens B i) (letters_of w i)
unfolding tick
letters_fit tokens B w i size low =
    let x = w.nodes i in
    let place = place_at w i in
    let t = x.voter.turn in
    let qs = filter is_young (older_ballots x.voter.pending) in
    let P : ℕ × Message → Type 0 = λ s. OfTick tokens B i (envelope_from i s) in
    let fine : (m : Message) → FloorFits tokens B m → (g : ℕ) → not (eqb g i) ≡ true → P (g, m) =
    λ m f g q. record { from = refl; other = λ z. both_ways (eqb g i) (not-true (eqb g i) q) (eq-eqb g i z); fits = f } in
    let each_other : (m : Message) → FloorFits tokens B m → Each (λ g. P (g, m)) (others place) =
    λ m f. each_weaker (λ g. not (eqb g i) ≡ true) (λ g. P (g, m)) (fine m f) (others place) (each_passes (λ g. not (eqb g i)) (members w.n)) in
    each_map (OfTick tokens B i) (envelope_from i) (ticked w i).sends
    (each_append P (flat_map (asks_again place x.content.boot) qs) (floor_sends place x.content t)
    (each_flat_map P (asks_again place x.content.boot) qs (each_all (λ q. Each P (asks_again place x.content.boot q))
    (λ q. each_map P (λ g. (g, Ask (record { node = i; boot = x.content.boot; seq = q.seq }) q.token (span_of q.lo q.hi))) (filter (λ g. not (has_answered q g)) (others place))
    (each_filter (λ g. P (g, Ask (record { node = i; boot = x.content.boot; seq = q.seq }) q.token (span_of q.lo q.hi))) (λ g. not (has_answered q g)) (others place) (each_other (Ask (record { node = i; boot = x.content.boot; seq = q.seq }) q.token (span_of q.lo q.hi)) tt))) qs))
    (cond_both (ltb t (length x.content.rows)) (to_each (Floor t (row x.content t).next) (others place)) [] (λ l. Each P l)
    (λ q. each_map P (λ g. (g, Floor t (row x.content t).next)) (others place) (each_other (Floor t (row x.content t).next) (subst (λ n. t < n) size (ltb-true t (length x.content.rows) q), low t)))
    (λ _. tt)))

pub record Ticked (live : List ℕ) (B : ℕ → ℕ) (tokens i : ℕ) (w v : World) : Type 0 where
  pub levels : Levels live B w v
  pub pending : pending_at v i ≡ filter is_young (map older_ballot (pending_at w i))
  pub turn : (v.nodes i).voter.turn ≡ cond (ltb ((w.nodes i).voter.turn + 1) tokens) ((w.nodes i).voter.turn + 1) 0
  pub reached : (j : ℕ) → is_live live j ≡ true → (w.nodes i).voter.turn < tokens → next_at w i (w.nodes i).voter.turn ≤ next_at v j (w.nodes i).voter.turn

ticked_levels : (live : List ℕ) (B : ℕ → ℕ) (e : ℕ) (w : World) (i : ℕ) → AreUp live w → Bounded live B w → Levels live B w (ticked_world e w i)
unfolding world_with_made tick
ticked_levels live B e w i up bound =
    let x = w.nodes i in
    let o = made_by_vote x.owners None (ticked w i) x in
    record {
      up = λ m at. ((up m at).0, set_all (λ m y. is_live live m ≡ true → y.running ≡ true) i o.state w.nodes (λ at. (up i at).1) (λ m at. (up m at).1) m at);
      mono = λ m u. set_all (λ m y. next_at w m u ≤ (row y.content u).next) i o.state w.nodes (omega arith) (λ m. omega arith) m;
      bound = set_all (λ m y. is_live live m ≡ true → (u : ℕ) → (row y.content u).next ≤ B u) i o.state w.nodes (λ at. bound i at) bound;
      still = set_all (λ m y. is_live live m ≡ true → pending_at w m ≡ [] → y.voter.pending ≡ []) i o.state w.nodes (λ _ h. ap (λ qs. filter is_young (map older_ballot qs)) h) (λ m _ h. h);
    }

ticked_node : (e : ℕ) (w : World) (i : ℕ) → (ticked_world e w i).nodes i ≡ (made_by_vote (w.nodes i).owners None (ticked w i) (w.nodes i)).state
unfolding world_with_made
ticked_node e w i = set_at i (made_by_vote (w.nodes i).owners None (ticked w i) (w.nodes i)).state w.nodes

-- the Floor that was sent, at each other live member
floor_reached : (live : List ℕ) (v : World) (w : World) (i : ℕ) → Each (Reached live v) (letters_of w i) → (w.nodes i).voter.turn < length (w.nodes i).content.rows
    → (j : ℕ) → is_member w.n j ≡ true → j ≢ i → is_live live j ≡ true → next_at w i (w.nodes i).voter.turn ≤ next_at v j (w.nodes i).voter.turn
unfolding tick
floor_reached live v w i h lt j member ne =
    let x = w.nodes i in
    let place = place_at w i in
    let t = x.voter.turn in
    let P : ℕ × Message → Type 0 = λ s. Reached live v (envelope_from i s) in
    let all = each_back P (flat_map (asks_again place x.content.boot) (filter is_young (older_ballots x.voter.pending))) (floor_sends place x.content t) (map_back (Reached live v) (envelope_from i) (ticked w i).sends h) in
    let sends = to_each (Floor t (row x.content t).next) (others place) in
    let floors : Each P sends = subst (λ l. Each P l) (cond-true (ltb t (length x.content.rows)) sends [] (lt-ltb t (length x.content.rows) lt)) all in
    others_each (λ g. P (g, Floor t (row x.content t).next)) w.n i j (map_back P (λ g. (g, Floor t (row x.content t).next)) (others place) floors) member ne

pub tick_levels : (config : Config) (live : List ℕ) (B : ℕ → ℕ) (e : ℕ) (w : World) (i : ℕ) → AllSound (length config.book) w → AreUp live w → Bounded live B w → is_live live i ≡ true
    → Ticked live B (length config.book) i w (world_after_events config e (tick_events config live e w i) w)
unfolding tick world_with_made
tick_levels config live B e w i sound up bound here =
    let x = w.nodes i in
    let tokens = length config.book in
    let member = (up i here).0 in
    let w1 = ticked_world e w i in
    let ls = letters_of w i in
    let first = ticked_levels live B e w i up bound in
    let sound1 : AllSound tokens w1 = subst (λ z. AllSound tokens z) (ticks config e i w member (up i here).1) (happens_sound config tokens e (Happens (Ticks i)) w sound) in
    let wave = floors_wave config live B i ls (length w.sent) (suc e) w1 (stands_last w.sent ls) sound1 first.up first.bound (is_in w i member) (letters_fit tokens B w i (sound i).kept.size (bound i here)) in
    let v = world_after_events config (suc e) (deliveries (is_floor_to live) (length w.sent) ls) w1 in
    let own : v.nodes i ≡ (made_by_vote x.owners None (ticked w i) x).state = wave.own ∙ ticked_node e w i in
    let both = levels_then live B w w1 v first wave.levels in
    subst (λ z. Ticked live B tokens i w z) (sym (tick_run config live e w i member (up i here).1)) (record {
      levels = both;
      pending = ap (λ (y : NodeState). y.voter.pending) own;
      turn = ap (λ (y : NodeState). y.voter.turn) own ∙ ap (λ m. cond (ltb (x.voter.turn + 1) m) (x.voter.turn + 1) 0) (sound i).kept.size;
      reached = λ j at lt.
          ⊎_elim (λ (q : j ≡ i). subst (λ m. next_at w i x.voter.turn ≤ next_at v m x.voter.turn) (sym q) (both.mono i x.voter.turn))
          (λ (ne : j ≡ i → ⊥). floor_reached live v w i wave.reached (subst (λ m. x.voter.turn < m) (sym (sound i).kept.size) lt) j (is_in w j (up j at).0) ne at) (cases_eq j i);
    })

-- ---- eight ticks give up all that was pending

abbrev less : ℕ → ℕ
less zero = zero
less (suc m) = m

abbrev less_by : ℕ → ℕ → ℕ
less_by zero m = m
less_by (suc r) m = less_by r (less m)

less_zero : (r : ℕ) → less_by r 0 ≡ 0
less_zero zero = refl
less_zero (suc r) = less_zero r

less_all : (r m : ℕ) → m ≤ r → less_by r m ≡ 0
less_all zero zero h = refl
less_all zero (suc m) h = absurd (omega (arith, h))
less_all (suc r) zero h = less_zero r
less_all (suc r) (suc m) h = less_all r m (omega (arith, h))

-- no proposal is left after the given number of further ticks
abbrev Left : ℕ → List Ballot → Type 0
Left zero qs = qs ≡ []
Left (suc m) qs = Each (λ (q : Ballot). 8 ≤ q.age + suc m) qs

left_step : (m : ℕ) (qs : List Ballot) → Left m qs → Left (less m) (filter is_young (map older_ballot qs))
left_step zero qs h = ap (λ l. filter is_young (map older_ballot l)) h
left_step (suc zero) qs h = gone qs h
  where
    gone : (l : List Ballot) → Each (λ (q : Ballot). 8 ≤ q.age + 1) l → filter is_young (map older_ballot l) ≡ []
    gone [] k = refl
    gone (q ∷ l) k =
        cond_both (ltb (q.age + 1) 8) (older_ballot q ∷ filter is_young (map older_ballot l)) (filter is_young (map older_ballot l)) (λ z. z ≡ [])
        (λ b. absurd (late q.age k.0 (ltb-true (q.age + 1) 8 b))) (λ _. gone l k.1)
      where
        late : (a : ℕ) → 8 ≤ a + 1 → a + 1 < 8 → ⊥
        late a x y = omega (arith, x, y)
left_step (suc (suc m)) qs h =
    each_filter (λ (q : Ballot). 8 ≤ q.age + suc m) is_young (map older_ballot qs)
    (each_map (λ (q : Ballot). 8 ≤ q.age + suc m) older_ballot qs (each_weaker (λ (q : Ballot). 8 ≤ q.age + suc (suc m)) (λ (q : Ballot). 8 ≤ (q.age + 1) + suc m) (λ q k. omega (arith, k)) qs h))

left_eight : (qs : List Ballot) → Left 8 qs
left_eight qs = each_all (λ (q : Ballot). 8 ≤ q.age + 8) (λ q. omega arith) qs

-- ---- one tick for each token: each token has its turn

-- token t has its turn in the next r ticks, from turn c on
abbrev Due : ℕ → ℕ → ℕ → ℕ → Type 0
Due tokens c t r = ((c ≤ t) × (t < c + r)) ⊎ ((t < c) × (tokens + t < c + r))

not_due : (tokens c t : ℕ) → t < tokens → IsTurn tokens c → Due tokens c t 0 → ⊥
not_due tokens c t lt h (inl d) = omega (arith, d.0, d.1)
not_due tokens c t lt (inl h) (inr d) = omega (arith, h, d.0, d.1)
not_due tokens c t lt (inr h) (inr d) = omega (arith, h, d.0)

all_due : (tokens c t r : ℕ) → t < tokens → tokens ≤ r → Due tokens c t r
all_due tokens c t r lt le = ⊎_elim (λ (a : c < suc t). inl (omega (arith, a), omega (arith, lt, le))) (λ (b : suc t ≤ c). inr (omega (arith, b), omega (arith, b, lt, le))) (cases_lt c (suc t))

due_next : (tokens c t r : ℕ) → t < tokens → c < tokens → (t ≡ c → ⊥) → Due tokens c t (suc r) → Due tokens (cond (ltb (c + 1) tokens) (c + 1) 0) t r
due_next tokens c t r lt h ne (inl d) =
    let more : c < t = above c t d.0 ne in
    cond_both (ltb (c + 1) tokens) (c + 1) 0 (λ m. Due tokens m t r) (λ _. inl (omega (arith, more), omega (arith, d.1))) (λ q. absurd (past c t tokens more lt (ltb-false (c + 1) tokens q)))
  where
    above : (a b : ℕ) → a ≤ b → (b ≡ a → ⊥) → a < b
    above a b le n = ⊎_elim (λ (q : b ≡ a). absurd (n q)) (λ z. ⊎_elim (λ (x : b < a). absurd (omega (arith, x, le))) (λ (x : a < b). x) z) (cases_order b a)

    past : (a b n : ℕ) → a < b → b < n → n ≤ a + 1 → ⊥
    past a b n x y z = omega (arith, x, y, z)
due_next tokens c t r lt h ne (inr d) =
    cond_both (ltb (c + 1) tokens) (c + 1) 0 (λ m. Due tokens m t r)
    (λ _. inr (omega (arith, d.0), omega (arith, d.1)))
    (λ q. inl (omega arith, wrapped (ltb-false (c + 1) tokens q) d.1))
  where
    wrapped : tokens ≤ c + 1 → tokens + t < c + suc r → t < 0 + r
    wrapped x y = omega (arith, x, y, h)

-- ---- a turn

pub record Turned (live : List ℕ) (B : ℕ → ℕ) (tokens i r : ℕ) (w v : World) : Type 0 where
  pub levels : Levels live B w v
  pub left : (m : ℕ) → Left m (pending_at w i) → Left (less_by r m) (pending_at v i)
  pub reached : (j t : ℕ) → is_live live j ≡ true → t < tokens → Due tokens (w.nodes i).voter.turn t r → next_at w i t ≤ next_at v j t

turn_runs : (config : Config) (live : List ℕ) (B : ℕ → ℕ) (r e : ℕ) (w : World) (i : ℕ) → AllSound (length config.book) w → AreUp live w → Bounded live B w → is_live live i ≡ true
    → Turned live B (length config.book) i r w (world_after_events config e (turn_events config live r e w i) w)
unfolding world_after_events
turn_runs config live B zero e w i sound up bound here = record {
  levels = levels_none live B w up bound;
  left = λ m h. h;
  reached = λ j t at lt d. absurd (not_due (length config.book) (w.nodes i).voter.turn t lt (sound i).kept.turn d);
}
turn_runs config live B (suc r) e w i sound up bound here =
    let tokens = length config.book in
    let xs = tick_events config live e w i in
    let w1 = world_after_events config e xs w in
    let c = (w.nodes i).voter.turn in
    let one = tick_levels config live B e w i sound up bound here in
    let rest = turn_runs config live B r (length xs + e) w1 i (run_sound config tokens e xs w sound) one.levels.up one.levels.bound here in
    let v = world_after_events config (length xs + e) (turn_events config live r (length xs + e) w1 i) w1 in
    subst (λ z. Turned live B tokens i (suc r) w z) (sym (run_append config xs (turn_events config live r (length xs + e) w1 i) e w)) (record {
      levels = levels_then live B w w1 v one.levels rest.levels;
      left = λ m h. rest.left (less m) (subst (λ qs. Left (less m) qs) (sym one.pending) (left_step m (pending_at w i) h));
      reached = λ j t at lt d.
          ⊎_elim (λ (q : t ≡ c). subst (λ m. next_at w i m ≤ next_at v j m) (sym q) (far (one.reached j at (subst (λ m. m < tokens) q lt)) (rest.levels.mono j c)))
          (λ (ne : t ≡ c → ⊥).
          far (one.levels.mono i t) (rest.reached j t at lt (subst (λ m. Due tokens m t r) (sym one.turn) (due_next tokens c t r lt (inside (sound i).kept.turn d lt) ne d)))) (cases_eq t c);
    })
  where
    far : {a b c : ℕ} → a ≤ b → b ≤ c → a ≤ c
    far x y = omega (arith, x, y)

    inside : {tokens c t : ℕ} → IsTurn tokens c → Due tokens c t (suc r) → t < tokens → c < tokens
    inside (inl h) d lt = h
    inside (inr z) d lt = omega (arith, z, lt)

-- ---- the greatest

pub greatest_above : (live : List ℕ) (w : World) (i t : ℕ) → is_live live i ≡ true → next_at w i t ≤ greatest live w t
greatest_above [] w i t h = absurd (both_ways false refl h)
greatest_above (j ∷ js) w i t h =
    ⊎_elim (λ (q : eqb j i ≡ true). subst (λ m. next_at w m t ≤ max (next_at w j t) (greatest js w t)) (eqb-true j i q) (omega arith))
    (λ (q : is_live js i ≡ true). omega (arith, greatest_above js w i t q)) (or_cases (eqb j i) (is_live js i) h)

pub greatest_below : (live : List ℕ) (w : World) (t m : ℕ) → ((i : ℕ) → is_live live i ≡ true → next_at w i t ≤ m) → greatest live w t ≤ m
greatest_below [] w t m h = omega arith
greatest_below (j ∷ js) w t m h =
    omega (arith, h j (or_left (eqb j j) (is_live js j) (eq-eqb j j refl)), greatest_below js w t m (λ i at. h i (or_right (eqb j i) (is_live js i) at)))

-- ---- the laws

pub sound_of : (config : Config) (start : Start) (before : List WorldEvent) → AllSound (length config.book) (world_of config start before)
sound_of config start before = run_sound config (length config.book) 0 before (opening_world config start) (start_sound config start)

enough : (tokens : ℕ) → 8 ≤ max tokens 8
enough tokens = omega arith

as_many : (tokens : ℕ) → tokens ≤ max tokens 8
as_many tokens = omega arith

-- a whole turn
pub record Done (live : List ℕ) (B : ℕ → ℕ) (tokens i : ℕ) (w v : World) : Type 0 where
  pub levels : Levels live B w v
  pub none : pending_at v i ≡ []
  pub reached : (j t : ℕ) → is_live live j ≡ true → t < tokens → next_at w i t ≤ next_at v j t

pub turn_done : (config : Config) (live : List ℕ) (B : ℕ → ℕ) (e : ℕ) (w : World) (i : ℕ) → AllSound (length config.book) w → AreUp live w → Bounded live B w → is_live live i ≡ true
    → Done live B (length config.book) i w (world_after_events config e (turn_events config live (max (length config.book) 8) e w i) w)
turn_done config live B e w i sound up bound here =
    let tokens = length config.book in
    let world_after_turn = turn_runs config live B (max tokens 8) e w i sound up bound here in
    record {
      levels = world_after_turn.levels;
      none = subst (λ m. Left m (pending_at (world_after_events config e (turn_events config live (max tokens 8) e w i) w) i)) (less_all (max tokens 8) 8 (enough tokens)) (world_after_turn.left 8 (left_eight (pending_at w i)));
      reached = λ j t at lt. world_after_turn.reached j t at lt (all_due tokens (w.nodes i).voter.turn t (max tokens 8) lt (as_many tokens));
    }

-- the turns of these members
pub record Swept (live : List ℕ) (B : ℕ → ℕ) (tokens : ℕ) (is : List ℕ) (w v : World) : Type 0 where
  pub levels : Levels live B w v
  pub none : Each (λ i. pending_at v i ≡ []) is
  pub reached : Each (λ i. (j t : ℕ) → is_live live j ≡ true → t < tokens → next_at w i t ≤ next_at v j t) is

pub sweep_runs : (config : Config) (live : List ℕ) (B : ℕ → ℕ) (is : List ℕ) (e : ℕ) (w : World) → AllSound (length config.book) w → AreUp live w → Bounded live B w → Each (λ i. is_live live i ≡ true) is
    → Swept live B (length config.book) is w (world_after_events config e (turns_events config live e w is) w)
unfolding world_after_events
sweep_runs config live B [] e w sound up bound h = record { levels = levels_none live B w up bound; none = tt; reached = tt }
sweep_runs config live B (i ∷ is) e w sound up bound h =
    let tokens = length config.book in
    let xs = turn_events config live (max tokens 8) e w i in
    let w1 = world_after_events config e xs w in
    let one = turn_done config live B e w i sound up bound h.0 in
    let rest = sweep_runs config live B is (length xs + e) w1 (run_sound config tokens e xs w sound) one.levels.up one.levels.bound h.1 in
    let v = world_after_events config (length xs + e) (turns_events config live (length xs + e) w1 is) w1 in
    subst (λ z. Swept live B tokens (i ∷ is) w z) (sym (run_append config xs (turns_events config live (length xs + e) w1 is) e w)) (record {
      levels = levels_then live B w w1 v one.levels rest.levels;
      none = (rest.levels.still i h.0 one.none, rest.none);
      reached = (
        λ j t at lt. far (one.reached j t at lt) (rest.levels.mono j t),
        each_weaker (λ m. (j t : ℕ) → is_live live j ≡ true → t < tokens → next_at w1 m t ≤ next_at v j t) (λ m. (j t : ℕ) → is_live live j ≡ true → t < tokens → next_at w m t ≤ next_at v j t)
            (λ m k j t at lt. far (one.levels.mono m t) (k j t at lt)) is rest.reached,
      );
    })
  where
    far : {a b c : ℕ} → a ≤ b → b ≤ c → a ≤ c
    far x y = omega (arith, x, y)

-- what is so of each live one
pub at_live : (P : ℕ → Type 0) (live : List ℕ) (i : ℕ) → Each P live → is_live live i ≡ true → P i
at_live P [] i h q = absurd (both_ways false refl q)
at_live P (j ∷ js) i h q = ⊎_elim (λ (a : eqb j i ≡ true). subst (λ m. P m) (eqb-true j i a) h.0) (λ (b : is_live js i ≡ true). at_live P js i h.1 b) (or_cases (eqb j i) (is_live js i) q)

pub each_live : (js live : List ℕ) → ((i : ℕ) → is_live js i ≡ true → is_live live i ≡ true) → Each (λ i. is_live live i ≡ true) js
each_live [] live h = tt
each_live (j ∷ js) live h = (h j (or_left (eqb j j) (is_live js j) (eq-eqb j j refl)), each_live js live (λ i q. h i (or_right (eqb j i) (is_live js i) q)))

pub none_at : (config : Config) (w : World) (i : ℕ) → AllSound (length config.book) w → pending_at w i ≡ [] → HasNonePending w i
none_at config w i sound h = (h, no_owners (length config.book) (w.nodes i) (sound i) h)

pub turn_levels : TurnLevels
turn_levels config start before live i up here =
    let w = world_of config start before in
    let sound = sound_of config start before in
    let B = greatest live w in
    let xs = turn_events config live (max (length config.book) 8) (length before) w i in
    let v = world_after_events config (length before) xs w in
    let world_after_turn = turn_done config live B (length before) w i sound up (λ j at t. greatest_above live w j t at) here in (
      none_at config v i (run_sound config (length config.book) (length before) xs w sound) world_after_turn.none,
      λ j t at lt. (world_after_turn.reached j t at lt, world_after_turn.levels.mono j t, world_after_turn.levels.bound j at t),
    )

pub sweep_levels : SweepLevels
sweep_levels config start before live up =
    let tokens = length config.book in
    let w = world_of config start before in
    let sound = sound_of config start before in
    let B = greatest live w in
    let xs = sweep_events config live (length before) w in
    let v = world_after_events config (length before) xs w in
    let swept = sweep_runs config live B live (length before) w sound up (λ j at t. greatest_above live w j t at) (each_live live live (λ i q. q)) in (
      swept.levels.up,
      λ j at. (
        none_at config v j (run_sound config tokens (length before) xs w sound) (at_live (λ i. pending_at v i ≡ []) live j swept.none at),
        λ t lt. same (swept.levels.bound j at t)
            (greatest_below live w t (next_at v j t) (λ i here. at_live (λ m. (k u : ℕ) → is_live live k ≡ true → u < tokens → next_at w m u ≤ next_at v k u) live i swept.reached here j t at lt)),
      ),
    )
  where
    same : {a b : ℕ} → a ≤ b → b ≤ a → a ≡ b
    same x y = omega (arith, x, y)
