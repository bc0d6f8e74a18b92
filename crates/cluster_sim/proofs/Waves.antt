-- What happens at a running member, and letters that stand in what was sent.
use Rattle.std.proofs.Common.{◌≡◌, ◌≢◌, ℕ, zero, suc, ◌+◌, ◌<◌, true, not, cond, ◌&&◌, List, [], ◌∷◌, ◌++◌, length, Some, None, refl, sym, ap, ◌∙◌, subst, arith, eqb, ltb}
use Rattle.std.specs.List.{slice_get}
use Rattle.std.proofs.lemmas.Bool.{cond_both, cond-true, cond-false, eqb-true, eq-eqb, ne_eqb, and_from, and_parts, lt-ltb, not_from_false}
use Rattle.std.proofs.lemmas.Option.{none-some}
use Rattle.cluster_sim.specs.World.{Deliver, Happens, Says, Ticks, World, WorldEvent, delivered_event, has_store, place_at, with_state, world_after_act, world_after_event, world_after_events, world_after_turn, world_with_made}
use Rattle.oath_node.specs.Machine.{Client, Config, NodeEvent, NodeState, Peer, Tick, is_heard, made_by_datagram, made_by_event, made_by_ruling, made_by_vote, made_while_running, quiet_made, ruling_at, token_of}
use Rattle.vote_core.specs.Schedule.{Envelope, is_member}
use Rattle.vote_core.specs.Voting.{on_message, tick}
use Rattle.client_lines.specs.Request.{without_lf}

pub run_append : (config : Config) (xs ys : List WorldEvent) (e : ℕ) (w : World) → world_after_events config e (xs ++ ys) w ≡ world_after_events config (length xs + e) ys (world_after_events config e xs w)
unfolding world_after_events
run_append config [] ys e w = let z : e ≡ 0 + e = omega arith in ap (λ m. world_after_events config m ys w) z
run_append config (x ∷ xs) ys e w =
    let z : length xs + suc e ≡ suc (length xs) + e = omega arith in
    run_append config xs ys (suc e) (world_after_event config e x w) ∙ ap (λ m. world_after_events config m ys (world_after_events config (suc e) xs (world_after_event config e x w))) z

-- ---- what happens at a running member

pub acts : (config : Config) (e i : ℕ) (x : NodeEvent) (w : World) → has_store w i ≡ true → (w.nodes i).running ≡ true
    → world_after_turn config e i (Some x) w ≡ world_with_made e i (made_while_running config (place_at w i) x (w.nodes i)) w
unfolding world_after_turn made_by_event
acts config e i x w member up =
    let y = w.nodes i in
    cond-true (has_store w i) (world_with_made e i (cond y.running (made_while_running config (place_at w i) x y) (quiet_made y)) w) w member
    ∙ ap (λ o. world_with_made e i o w) (cond-true y.running (made_while_running config (place_at w i) x y) (quiet_made y) up)

pub ticks : (config : Config) (e i : ℕ) (w : World) → has_store w i ≡ true → (w.nodes i).running ≡ true
    → world_after_event config e (Happens (Ticks i)) w ≡ world_with_made e i (made_by_vote (w.nodes i).owners None (tick (place_at w i) (w.nodes i).content (w.nodes i).voter) (w.nodes i)) w
unfolding world_after_event world_after_act made_while_running
ticks config e i w member up = acts config e i Tick w member up

pub says : (config : Config) (e i client moment : ℕ) (text : List ℕ) (w : World) → has_store w i ≡ true → (w.nodes i).running ≡ true
    → world_after_event config e (Happens (Says i client moment text)) w ≡ world_with_made e i (made_by_ruling (place_at w i) client moment (without_lf text) (ruling_at config (w.nodes i) client moment text) (w.nodes i)) w
unfolding world_after_event world_after_act made_while_running
says config e i client moment text w member up = acts config e i (Client client moment text) w member up

pub hands : (config : Config) (e k : ℕ) (l : Envelope) (w : World) → slice_get w.sent k ≡ Some l → has_store w l.receiver ≡ true → (w.nodes l.receiver).running ≡ true
    → is_heard config (place_at w l.receiver) l.sender l ≡ true
    → world_after_event config e (Happens (Deliver l.receiver k)) w
    ≡ world_with_made e l.receiver (made_by_vote (w.nodes l.receiver).owners None (on_message (place_at w l.receiver) l.sender l.message (w.nodes l.receiver).content (w.nodes l.receiver).voter) (w.nodes l.receiver)) w
unfolding world_after_event world_after_act made_while_running made_by_datagram
hands config e k l w at member up hears =
    let j = l.receiver in
    let x = w.nodes j in
    ap (λ o. world_after_turn config e j (delivered_event o) w) at
    ∙ acts config e j (Peer l.sender (Some l)) w member up
    ∙ ap (λ o. world_with_made e j o w) (cond-true (is_heard config (place_at w j) l.sender l) (made_by_vote x.owners None (on_message (place_at w j) l.sender l.message x.content x.voter) x) (quiet_made x) hears)

-- a node that has its store is a member
pub is_in : (w : World) (i : ℕ) → has_store w i ≡ true → is_member w.n i ≡ true
is_in w i h = (and_parts (not (w.lost i)) (is_member w.n i) h).1

pub is_heard_at : (config : Config) (w : World) (l : Envelope) → l.sender ≢ l.receiver → is_member w.n l.sender ≡ true → token_of l.message < length config.book
    → is_heard config (place_at w l.receiver) l.sender l ≡ true
is_heard_at config w l other member known =
    let a = eqb l.sender l.sender in
    let b = eqb l.receiver l.receiver in
    let c = not (eqb l.sender l.receiver) in
    let d = is_member w.n l.sender in
    let f = ltb (token_of l.message) (length config.book) in
    and_from a (b && (c && (d && f))) (eq-eqb l.sender l.sender refl)
    (and_from b (c && (d && f)) (eq-eqb l.receiver l.receiver refl)
    (and_from c (d && f) (not_from_false (eqb l.sender l.receiver) (ne_eqb l.sender l.receiver other))
    (and_from d f member (lt-ltb (token_of l.message) (length config.book) known))))

-- ---- nodes

pub set_at : (i : ℕ) (x : NodeState) (nodes : ℕ → NodeState) → with_state i x nodes i ≡ x
set_at i x nodes = cond-true (eqb i i) x (nodes i) (eq-eqb i i refl)

pub set_off : (i j : ℕ) (x : NodeState) (nodes : ℕ → NodeState) → j ≢ i → with_state i x nodes j ≡ nodes j
set_off i j x nodes ne = cond-false (eqb j i) x (nodes j) (ne_eqb j i ne)

-- what holds of the new node at i, and of each node as it was, holds of each
pub set_all : (P : ℕ → NodeState → Type 0) (i : ℕ) (x : NodeState) (nodes : ℕ → NodeState) → P i x → ((j : ℕ) → P j (nodes j)) → (j : ℕ) → P j (with_state i x nodes j)
set_all P i x nodes h k j = cond_both (eqb j i) x (nodes j) (λ y. P j y) (λ q. subst (λ m. P m x) (sym (eqb-true j i q)) h) (λ _. k j)

-- ---- letters

-- these letters are numbers k, k + 1 .. of what was sent
abbrev pub Stands : ℕ → List Envelope → List Envelope → Type 0
Stands k [] sent = Unit {0}
Stands k (l ∷ ls) sent = (slice_get sent k ≡ Some l) × Stands (suc k) ls sent

get_more : (xs ys : List Envelope) (k : ℕ) (l : Envelope) → slice_get xs k ≡ Some l → slice_get (xs ++ ys) k ≡ Some l
get_more [] ys k l h = absurd (none-some l h)
get_more (x ∷ xs) ys zero l h = h
get_more (x ∷ xs) ys (suc k) l h = get_more xs ys k l h

pub stands_more : (k : ℕ) (ls sent more : List Envelope) → Stands k ls sent → Stands k ls (sent ++ more)
stands_more k [] sent more h = tt
stands_more k (l ∷ ls) sent more h = (get_more sent more k l h.0, stands_more (suc k) ls sent more h.1)

stands_shift : (k : ℕ) (ls : List Envelope) (x : Envelope) (sent : List Envelope) → Stands k ls sent → Stands (suc k) ls (x ∷ sent)
stands_shift k [] x sent h = tt
stands_shift k (l ∷ ls) x sent h = (h.0, stands_shift (suc k) ls x sent h.1)

stands_all : (ls : List Envelope) → Stands 0 ls ls
stands_all [] = tt
stands_all (l ∷ ls) = (refl, stands_shift 0 ls l ls (stands_all ls))

pub stands_last : (sent ls : List Envelope) → Stands (length sent) ls (sent ++ ls)
stands_last [] ls = stands_all ls
stands_last (x ∷ sent) ls = stands_shift (length sent) ls x (sent ++ ls) (stands_last sent ls)
