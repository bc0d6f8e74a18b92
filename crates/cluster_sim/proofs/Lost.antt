-- Lost and replaced stores, in the functions of a simulation.
use Rattle.std.proofs.Common.{◌≡◌, ◌≢◌, ℕ, zero, suc, ◌+◌, ◌-◌, ◌<◌, ◌≤◌, Bool, true, false, true≢false, not, cond, ◌&&◌, ◌||◌, ⊎_elim, List, [], ◌∷◌, ◌++◌, length, get_or, take, map, Option, Some, None, refl, sym, ap, ◌∙◌, subst, arith, eqb, leb, ltb, set, Equal, Greater}
use Rattle.std.specs.Prelude.{Result, Ok, Err, is_some}
use Rattle.std.proofs.Math.Seq.{take-suc, take-length}
use Rattle.std.proofs.lemmas.Bool.{cases_Bool, cond_both, cond-true, cond-false, and_left, and_right, eq-eqb, eqb-true, ltb-true, ltb-false, leb-true, le-leb, both_ways, ne_eqb, cases_eq, cases_lt}
use Rattle.std.specs.Ordering.{is_lt, nat_cmp}
use Rattle.std.specs.Cmp.{nat_cmp_is}
use Rattle.floor_store.specs.Content.{Content, opening_row}
use Rattle.otp_core.specs.Acceptance.{majority_of, size}
use Rattle.vote_core.specs.NodeSet.{with_node}
use Rattle.vote_core.specs.Rows.{row}
use Rattle.vote_core.specs.Voting.{fresh_voter}
use Rattle.floor_store.specs.Records.{RowRecord}
use Rattle.vote_core.specs.Schedule.{all_most, greater, greatest, is_member, last_boot, opening_rows, without_node}
use Rattle.oath_node.specs.Hosted.{Hosted}
use Rattle.oath_node.specs.Machine.{Config, NodeState}
use Rattle.oath_node.specs.Serving.{IsInMemoryAt}
use Rattle.cluster_sim.specs.Journal.{AreHosts, IsHost, IsLossOf, IsRun, JournalRecord, LossRecord, SimulationRecord, journal_with_anew, journal_with_loss, used_from, used_in}
use Rattle.cluster_sim.specs.Losses.{AreGreatest, are_lost, list_of}
use Rattle.cluster_sim.specs.World.{World, floor_in, has_store, lost_node, may_be_anew, opening_node, with_state, world_after_anew, world_after_loss}
use Rattle.cluster_sim.proofs.HostLemmas.{has_it, here, hosts_set, store_gone, store_there}

one_more : (k : ℕ) → suc k ≡ k + 1
one_more k = omega arith

-- the answer of a comparison
pub lt_from_is_lt : (a b : ℕ) → is_lt (nat_cmp a b) ≡ true → a < b
lt_from_is_lt a b h =
    ⊎_elim (λ (lt : a < b). lt)
    (λ (le : b ≤ a). absurd (true≢false (sym h ∙ ⊎_elim (λ (q : a ≡ b). ap is_lt (sym (nat_cmp_is a b Equal q))) (λ (ne : a ≡ b → ⊥). ap is_lt (sym (nat_cmp_is a b Greater (more le ne)))) (cases_eq a b))))
    (cases_lt a b)
  where
    more : b ≤ a → (a ≡ b → ⊥) → b < a
    more le ne = ⊎_elim (λ (lt : b < a). lt) (λ (ge : a ≤ b). absurd (ne (omega (arith, le, ge)))) (cases_lt b a)

abbrev ok_of : {E : Type 0} → Result ℕ E → ℕ
ok_of (Ok n) = n
ok_of (Err e) = 0

pub same_ok : {E : Type 0} {m n : ℕ} → ◌≡◌ {A = Result ℕ E} (Ok m) (Ok n) → m ≡ n
same_ok is = ap ok_of is

-- ---- what the losses say

used_more : (found : Option ℕ) (xs : List LossRecord) (x : LossRecord) (node : ℕ) → used_from found (xs ++ x ∷ []) node ≡ cond (eqb node x.node) x.used (used_from found xs node)
used_more found [] x node = refl
used_more found (y ∷ xs) x node = used_more (cond (eqb node y.node) y.used found) xs x node

pub used_next : (xs : List LossRecord) (k : ℕ) (d x : LossRecord) (node : ℕ) → k < length xs → x ≡ get_or xs k d
    → used_from None (take (k + 1) xs) node ≡ cond (eqb node x.node) x.used (used_from None (take k xs) node)
used_next xs k d x node h is =
    ap (λ l. used_from None l node) (ap (λ j. take j xs) (sym (one_more k)) ∙ take-suc xs k d h ∙ ap (λ y. take k xs ++ y ∷ []) (sym is)) ∙ used_more None (take k xs) x node

pub used_all : (xs : List LossRecord) (k node : ℕ) (used : Option ℕ) → length xs ≤ k → k ≤ length xs → used ≡ used_from None (take k xs) node → used ≡ used_in xs node
used_all xs k node used low high is = is ∙ ap (λ l. used_from None l node) (ap (λ j. take j xs) (same k (length xs) low high) ∙ take-length xs)
  where
    same : (a b : ℕ) → b ≤ a → a ≤ b → a ≡ b
    same a b x y = omega (arith, x, y)

-- ---- the greatest

greatest_skip : (k : ℕ) (lost : ℕ → Bool) (f : ℕ → ℕ) → lost (suc k) ≡ true → greatest k lost f ≡ greatest (k + 1) lost f
greatest_skip k lost f gone = sym (cond-true (lost (suc k)) (greatest k lost f) (greater (f (suc k)) (greatest k lost f)) gone) ∙ ap (λ j. greatest j lost f) (one_more k)

greatest_with : (k : ℕ) (lost : ℕ → Bool) (f : ℕ → ℕ) → lost (suc k) ≡ false → greater (f (suc k)) (greatest k lost f) ≡ greatest (k + 1) lost f
greatest_with k lost f there = sym (cond-false (lost (suc k)) (greatest k lost f) (greater (f (suc k)) (greatest k lost f)) there) ∙ ap (λ j. greatest j lost f) (one_more k)

-- the node itself
pub greatest_gone : (k gone : ℕ) (lost : ℕ → Bool) (f : ℕ → ℕ) (best : ℕ) → k + 1 ≡ gone → best ≡ greatest k (with_node gone lost) f → best ≡ greatest (k + 1) (with_node gone lost) f
greatest_gone k gone lost f best at is = is ∙ greatest_skip k (with_node gone lost) f (ap (λ b. b || lost (suc k)) (eq-eqb (suc k) gone (one_more k ∙ at)))

-- one more node that lost its store
pub greatest_lost : (config : Config) (key : List ℕ) (w : World) (s : SimulationRecord) (k gone : ℕ) (f : ℕ → ℕ) (best : ℕ) → IsRun config key w s → is_some (used_in s.journal.losses (k + 1)) ≡ true
    → best ≡ greatest k (with_node gone w.lost) f → best ≡ greatest (k + 1) (with_node gone w.lost) f
greatest_lost config key w s k gone f best h at is =
    let lost : w.lost (suc k) ≡ true = ap w.lost (one_more k) ∙ store_gone _ (used_in s.journal.losses (k + 1)) (w.lost (k + 1)) (w.nodes (k + 1)) (h.losses.used (k + 1)) at in
    is ∙ greatest_skip k (with_node gone w.lost) f (or_true (eqb (suc k) gone) (w.lost (suc k)) lost)
  where
    or_true : (a b : Bool) → b ≡ true → (a || b) ≡ true
    or_true true b q = refl
    or_true false b q = q

-- one more node that has its store
pub greatest_there : (config : Config) (key : List ℕ) (w : World) (s : SimulationRecord) (k gone t next : ℕ) (host : Hosted Content) (best new : ℕ) → IsRun config key w s → k < length s.nodes → host ≡ get_or s.nodes k host
    → (k + 1 ≡ gone → ⊥) → is_some (used_in s.journal.losses (k + 1)) ≡ false → next ≡ (row host.store t).next → new ≡ greater next best
    → best ≡ greatest k (with_node gone w.lost) (λ i. (row (w.nodes i).content t).next) → new ≡ greatest (k + 1) (with_node gone w.lost) (λ i. (row (w.nodes i).content t).next)
greatest_there config key w s k gone t next host best new h within at other found next_is new_is is =
    let f : ℕ → ℕ = λ i. (row (w.nodes i).content t).next in
    let there : w.lost (suc k) ≡ false = ap w.lost (one_more k) ∙ store_there _ (used_in s.journal.losses (k + 1)) (w.lost (k + 1)) (w.nodes (k + 1)) (h.losses.used (k + 1)) found in
    let kept : with_node gone w.lost (suc k) ≡ false = ap (λ b. b || w.lost (suc k)) (ne_eqb (suc k) gone (λ q. other (sym (one_more k) ∙ q))) ∙ there in
    let is_host = h.hosts k host (here s.nodes k host within ∙ ap (λ x. Some x) (sym at)) there in
    new_is ∙ ap (λ a. greater a best) (next_is ∙ ap (λ (x : NodeState). (row x.content t).next) is_host.state) ∙ ap (λ b. greater (f (suc k)) b) is ∙ greatest_with k (with_node gone w.lost) f kept

pub greater_less : (next best : ℕ) → best < next → next ≡ greater next best
greater_less next best h = sym (cond-false (leb next best) best next (not_le (leb next best) refl))
  where
    not_le : (b : Bool) → leb next best ≡ b → b ≡ false
    not_le true q = absurd (omega (arith, h, leb-true next best q))
    not_le false q = refl

pub greater_not : (next best : ℕ) → next ≤ best → best ≡ greater next best
greater_not next best h = sym (cond-true (leb next best) best next (le-leb next best h))

pub greatest_all : (config : Config) (key : List ℕ) (w : World) (s : SimulationRecord) (k best : ℕ) (lost : ℕ → Bool) (f : ℕ → ℕ) → IsRun config key w s → length s.nodes ≤ k → k ≤ length s.nodes
    → best ≡ greatest k lost f → best ≡ greatest w.n lost f
greatest_all config key w s k best lost f h low high is = is ∙ ap (λ j. greatest j lost f) (same k (length s.nodes) low high ∙ sym h.n)
  where
    same : (a b : ℕ) → b ≤ a → a ≤ b → a ≡ b
    same a b x y = omega (arith, x, y)

-- ---- of all tokens

get_snoc : (xs : List ℕ) (y : ℕ) (t : ℕ) → t < length xs → get_or (xs ++ y ∷ []) t 0 ≡ get_or xs t 0
get_snoc [] y t h = absurd (omega (arith, h))
get_snoc (x ∷ xs) y zero h = refl
get_snoc (x ∷ xs) y (suc t) h = get_snoc xs y t (omega (arith, h))

get_end : (xs : List ℕ) (y : ℕ) → get_or (xs ++ y ∷ []) (length xs) 0 ≡ y
get_end [] y = refl
get_end (x ∷ xs) y = get_end xs y

length_snoc : (xs : List ℕ) (y : ℕ) → length (xs ++ y ∷ []) ≡ length xs + 1
length_snoc [] y = refl
length_snoc (x ∷ xs) y = let z : suc (length xs + 1) ≡ suc (length xs) + 1 = omega arith in ap suc (length_snoc xs y) ∙ z

pub more_least : (xs ys : List ℕ) (y k : ℕ) → ys ≡ xs ++ y ∷ [] → length xs ≡ k → length ys ≡ k + 1
more_least xs ys y k is len = ap (λ (l : List ℕ). length l) is ∙ length_snoc xs y ∙ ap (λ n. n + 1) len

pub next_least : (w : World) (gone k : ℕ) (xs ys : List ℕ) (y : ℕ) → ys ≡ xs ++ y ∷ [] → length xs ≡ k → y ≡ greatest w.n (with_node gone w.lost) (λ i. (row (w.nodes i).content k).next)
    → AreGreatest w gone k xs → AreGreatest w gone (k + 1) ys
next_least w gone k xs ys y is len new old t lt =
    let P : ℕ → Type 0 = λ u. floor_in ys u ≡ greatest w.n (with_node gone w.lost) (λ i. (row (w.nodes i).content u).next) in
    ⊎_elim (λ (at : eqb t k ≡ true). subst P (sym (eqb-true t k at)) (ap (λ l. get_or l k 0) is ∙ ap (λ j. get_or (xs ++ y ∷ []) j 0) (sym len) ∙ get_end xs y ∙ new))
    (λ (off : eqb t k ≡ false). (let below : t < k = less t k lt (λ q. both_ways (eqb t k) off (eq-eqb t k q)) in
    ap (λ l. get_or l t 0) is ∙ get_snoc xs y t (subst (λ n. t < n) (sym len) below) ∙ old t below)) (cases_Bool (eqb t k))
  where
    less : (a b : ℕ) → a < b + 1 → (a ≡ b → ⊥) → a < b
    less a b h ne = ⊎_elim (λ (q : ltb a b ≡ true). ltb-true a b q) (λ (q : ltb a b ≡ false). absurd (ne (omega (arith, h, ltb-false a b q)))) (cases_Bool (ltb a b))

-- ---- a loss

still_hosts : (config : Config) (key : List ℕ) (n i : ℕ) (x : NodeState) (lost : ℕ → Bool) (nodes : ℕ → NodeState) (hosts : List (Hosted Content)) → AreHosts config key n lost nodes hosts
    → AreHosts config key n (with_node i lost) (with_state i x nodes) hosts
still_hosts config key n i x lost nodes hosts h k host at standing =
    cond_both (eqb (suc k) i) x (nodes (suc k)) (λ y. (eqb (suc k) i || lost (suc k)) ≡ false → IsHost config key (record { me = suc k; n = n }) y host)
    (λ q gone. absurd (true≢false (sym (ap (λ b. b || lost (suc k)) q) ∙ gone)))
    (λ q kept. h k host at (sym (ap (λ b. b || lost (suc k)) q) ∙ kept)) standing

lost_used : (tokens i used : ℕ) (w : World) (j : JournalRecord) (least : List ℕ) → (w.nodes i).content.boot ≡ used → length (w.nodes i).content.rows ≡ tokens
    → ((k : ℕ) → IsLossOf tokens (used_in j.losses k) (w.lost k) (w.nodes k))
    → (k : ℕ) → IsLossOf tokens (used_in (journal_with_loss i used least j).losses k) (with_node i w.lost k) (with_state i (lost_node (w.nodes i)) w.nodes k)
lost_used tokens i used w j least boot rows h k =
    subst (λ o. IsLossOf tokens o (with_node i w.lost k) (with_state i (lost_node (w.nodes i)) w.nodes k)) (sym (used_more None j.losses (record { node = i; used = Some used }) k)) (split (eqb k i) refl)
  where
    split : (b : Bool) → eqb k i ≡ b → IsLossOf tokens (cond b (Some used) (used_in j.losses k)) (b || w.lost k) (cond b (lost_node (w.nodes i)) (w.nodes k))
    split true q = (refl, ap (λ n. n + 1) boot, rows)
    split false q = h k

pub lost_run : (config : Config) (key : List ℕ) (w : World) (hosts : List (Hosted Content)) (j : JournalRecord) (k i used : ℕ) (host : Hosted Content) (least : List ℕ) → suc k ≡ i → k < length hosts → host ≡ get_or hosts k host
    → is_member w.n i ≡ true → is_some (used_in j.losses i) ≡ false → host.store.boot ≡ used → length host.store.rows ≡ length host.book → AreGreatest w i (length host.store.rows) least
    → IsRun config key w (record { nodes = hosts; journal = j }) → IsRun config key (world_after_loss i w) (record { nodes = hosts; journal = journal_with_loss i used least j })
unfolding world_after_loss
lost_run config key w hosts j k i used host least at within is member found boot sized greatest_is h =
    let tokens = length config.book in
    let there = store_there tokens (used_in j.losses i) (w.lost i) (w.nodes i) (h.losses.used i) found in
    let is_host = h.hosts k host (here hosts k host within ∙ ap (λ x. Some x) (sym is)) (ap w.lost at ∙ there) in
    let state = is_host.state ∙ ap w.nodes at in
    let rows : length (w.nodes i).content.rows ≡ tokens = ap (λ (x : NodeState). length x.content.rows) (sym state) ∙ sized ∙ ap (λ l. length l) is_host.book in
    let all : length host.store.rows ≡ tokens = sized ∙ ap (λ l. length l) is_host.book in
    subst (λ (x : World). IsRun config key x (record { nodes = hosts; journal = journal_with_loss i used least j })) (sym (cond-true (has_store w i) _ w (sym (has_it w i there) ∙ member)))
    (record {
      n = h.n;
      hosts = still_hosts config key w.n i (lost_node (w.nodes i)) w.lost w.nodes hosts h.hosts;
      recorded = record { sent = h.recorded.sent; starts = h.recorded.starts; passes = h.recorded.passes; answers = h.recorded.answers };
      losses = record {
        used = lost_used tokens i used w j least (ap (λ (x : NodeState). x.content.boot) (sym state) ∙ boot) rows h.losses.used;
        least = λ t lt. greatest_is t (subst (λ n. t < n) (sym all) lt);
      };
    })

-- a loss at no member, or at a node that has no store
pub unlost_run : (config : Config) (key : List ℕ) (w : World) (s : SimulationRecord) (i : ℕ) → has_store w i ≡ false → IsRun config key w s → IsRun config key (world_after_loss i w) s
unfolding world_after_loss
unlost_run config key w s i out h = subst (λ (x : World). IsRun config key x s) (sym (cond-false (has_store w i) _ w out)) h

-- ---- how many are lost

size_of : (n : ℕ) (f g : ℕ → Bool) → ((i : ℕ) → f i ≡ g i) → size n f ≡ size n g
size_of zero f g h = refl
size_of (suc n) f g h = ap (λ b. cond b 1 0 + size n f) (h (suc n)) ∙ ap (λ m. cond (g (suc n)) 1 0 + m) (size_of n f g h)

pub lost_is : (tokens : ℕ) (o : Option ℕ) (lost : Bool) (x : NodeState) → IsLossOf tokens o lost x → is_some o ≡ lost
lost_is tokens None lost x h = sym h
lost_is tokens (Some used) lost x h = sym h.0

pub size_lost : (config : Config) (key : List ℕ) (w : World) (s : SimulationRecord) (n : ℕ) → IsRun config key w s → size n (are_lost s.journal.losses) ≡ size n w.lost
size_lost config key w s n h = size_of n (are_lost s.journal.losses) w.lost (λ i. lost_is (length config.book) (used_in s.journal.losses i) (w.lost i) (w.nodes i) (h.losses.used i))

size_more : (n : ℕ) (f : ℕ → Bool) → size (n + 1) f ≡ cond (f (suc n)) 1 0 + size n f
size_more n f = ap (λ m. size m f) (sym (one_more n))

pub size_with : (n : ℕ) (f : ℕ → Bool) (count new : ℕ) → f (n + 1) ≡ true → new ≡ count + 1 → count ≡ size n f → new ≡ size (n + 1) f
size_with n f count new on new_is h =
    new_is ∙ plus count (size n f) h ∙ ap (λ b. cond b 1 0 + size n f) (sym (ap f (one_more n) ∙ on)) ∙ sym (size_more n f)
  where
    plus : (a b : ℕ) → a ≡ b → a + 1 ≡ 1 + b
    plus a b e = omega (arith, e)

pub size_without : (n : ℕ) (f : ℕ → Bool) (count new : ℕ) → f (n + 1) ≡ false → new ≡ count → count ≡ size n f → new ≡ size (n + 1) f
size_without n f count new off new_is h =
    new_is ∙ h ∙ none (size n f) ∙ ap (λ b. cond b 1 0 + size n f) (sym (ap f (one_more n) ∙ off)) ∙ sym (size_more n f)
  where
    none : (a : ℕ) → a ≡ 0 + a
    none a = omega arith

pub count_all : (n k : ℕ) (f : ℕ → Bool) (count : ℕ) → n ≤ k → k ≤ n → count ≡ size k f → count ≡ size n f
count_all n k f count low high h = let z : k ≡ n = omega (arith, low, high) in h ∙ ap (λ m. size m f) z

-- ---- enough

pub not_enough : (tokens k : ℕ) (one other : ℕ → ℕ) → k < tokens → other k < one k → all_most tokens one other ≡ false
not_enough zero k one other h less = absurd (omega (arith, h))
not_enough (suc t) k one other h less =
    ⊎_elim (λ (at : eqb k t ≡ true). and_left (leb (one t) (other t)) (all_most t one other) (above (leb (one t) (other t)) refl (subst (λ m. other m < one m) (eqb-true k t at) less)))
    (λ (off : eqb k t ≡ false). and_right (leb (one t) (other t)) (all_most t one other) (not_enough t k one other (below k t h (λ q. both_ways (eqb k t) off (eq-eqb k t q))) less)) (cases_Bool (eqb k t))
  where
    above : (b : Bool) → leb (one t) (other t) ≡ b → other t < one t → b ≡ false
    above true q lt = absurd (omega (arith, lt, leb-true (one t) (other t) q))
    above false q lt = refl

    below : (a b : ℕ) → a < suc b → (a ≡ b → ⊥) → a < b
    below a b h ne = ⊎_elim (λ (q : ltb a b ≡ true). ltb-true a b q) (λ (q : ltb a b ≡ false). absurd (ne (omega (arith, h, ltb-false a b q)))) (cases_Bool (ltb a b))

-- the least ones of a world are those that the journal has
same_most : (tokens : ℕ) (a b f : ℕ → ℕ) → ((t : ℕ) → t < tokens → a t ≡ b t) → all_most tokens a f ≡ all_most tokens b f
same_most zero a b f h = refl
same_most (suc t) a b f h = ap (λ n. leb n (f t) && all_most t a f) (h t (omega arith)) ∙ ap (λ c. leb (b t) (f t) && c) (same_most t a b f (λ u lt. h u (omega (arith, lt))))

-- ---- a replacement store

-- the content of a lost store
pub record IsGone (config : Config) (w : World) (i used : ℕ) : Type 0 where
  pub lost : w.lost i ≡ true
  pub boot : (w.nodes i).content.boot ≡ used + 1
  pub rows : length (w.nodes i).content.rows ≡ length config.book

pub is_gone : (config : Config) (key : List ℕ) (w : World) (s : SimulationRecord) (i used : ℕ) → IsRun config key w s → Some used ≡ used_in s.journal.losses i → IsGone config w i used
is_gone config key w s i used h at =
    let l = subst (λ o. IsLossOf (length config.book) o (w.lost i) (w.nodes i)) (sym at) (h.losses.used i) in
    record { lost = l.0; boot = l.1; rows = l.2 }

above : (a b : ℕ) → leb (a + 1) b ≡ ltb a b
above a b =
    ⊎_elim (λ (q : ltb a b ≡ true). (let z : a + 1 ≤ b = omega (arith, ltb-true a b q) in le-leb (a + 1) b z ∙ sym q))
    (λ (q : ltb a b ≡ false). below (leb (a + 1) b) refl (ltb-false a b q) ∙ sym q) (cases_Bool (ltb a b))
  where
    below : (c : Bool) → leb (a + 1) b ≡ c → b ≤ a → leb (a + 1) b ≡ false
    below true q le = absurd (omega (arith, leb-true (a + 1) b q, le))
    below false q le = q

-- the test, by what the journal has
pub may_is : (config : Config) (key : List ℕ) (w : World) (s : SimulationRecord) (i used boot : ℕ) (floor : ℕ → ℕ) → IsRun config key w s → is_member w.n i ≡ true → IsGone config w i used
    → may_be_anew w i boot floor
    ≡ (ltb (size (length s.nodes) (are_lost s.journal.losses)) (majority_of (length s.nodes)) && (ltb used boot && (leb boot last_boot && all_most (length config.book) (floor_in s.journal.least) floor)))
may_is config key w s i used boot floor h member gone =
    ap (λ b. (b && w.lost i) && (ltb (size w.n w.lost) (majority_of w.n) && (leb (w.nodes i).content.boot boot && (leb boot last_boot && all_most (length (w.nodes i).content.rows) w.least floor)))) member
    ∙ ap (λ b. b && (ltb (size w.n w.lost) (majority_of w.n) && (leb (w.nodes i).content.boot boot && (leb boot last_boot && all_most (length (w.nodes i).content.rows) w.least floor)))) gone.lost
    ∙ ap (λ m. ltb (size m w.lost) (majority_of m) && (leb (w.nodes i).content.boot boot && (leb boot last_boot && all_most (length (w.nodes i).content.rows) w.least floor))) h.n
    ∙ ap (λ m. ltb m (majority_of (length s.nodes)) && (leb (w.nodes i).content.boot boot && (leb boot last_boot && all_most (length (w.nodes i).content.rows) w.least floor))) (sym (size_lost config key w s (length s.nodes) h))
    ∙ ap (λ m. few && (leb m boot && (leb boot last_boot && all_most (length (w.nodes i).content.rows) w.least floor))) gone.boot
    ∙ ap (λ b. few && (b && (leb boot last_boot && all_most (length (w.nodes i).content.rows) w.least floor))) (above used boot)
    ∙ ap (λ m. few && (ltb used boot && (leb boot last_boot && all_most m w.least floor))) gone.rows
    ∙ ap (λ b. few && (ltb used boot && (leb boot last_boot && b))) (sym (same_most (length config.book) (floor_in s.journal.least) w.least floor h.losses.least))
  where
    few : Bool
    few = ltb (size (length s.nodes) (are_lost s.journal.losses)) (majority_of (length s.nodes))

pub unmade_run : (config : Config) (key : List ℕ) (w : World) (s : SimulationRecord) (e i boot : ℕ) (floor : ℕ → ℕ) → may_be_anew w i boot floor ≡ false → IsRun config key w s → IsRun config key (world_after_anew e i boot floor w) s
unfolding world_after_anew
unmade_run config key w s e i boot floor fails h = subst (λ (x : World). IsRun config key x s) (sym (cond-false (may_be_anew w i boot floor) _ w fails)) h

-- a replacement at no member, or at a node that has its store
pub no_anew_out : (w : World) (i boot : ℕ) (floor : ℕ → ℕ) → is_member w.n i ≡ false → may_be_anew w i boot floor ≡ false
no_anew_out w i boot floor out = and_left (is_member w.n i && w.lost i) _ (and_left (is_member w.n i) (w.lost i) out)

pub no_anew_there : (w : World) (i boot : ℕ) (floor : ℕ → ℕ) → w.lost i ≡ false → may_be_anew w i boot floor ≡ false
no_anew_there w i boot floor there = and_left (is_member w.n i && w.lost i) _ (and_right (is_member w.n i) (w.lost i) there)

-- the rows of a list
rows_of : (n : ℕ) (floor : ℕ → ℕ) → map opening_row (list_of n floor) ≡ opening_rows n floor
rows_of zero floor = refl
rows_of (suc n) floor = map_snoc (list_of n floor) (floor n) ∙ ap (λ l. l ++ opening_row (floor n) ∷ []) (rows_of n floor)
  where
    map_snoc : (xs : List ℕ) (y : ℕ) → map opening_row (xs ++ y ∷ []) ≡ map opening_row xs ++ opening_row y ∷ []
    map_snoc [] y = refl
    map_snoc (x ∷ xs) y = ap (λ l. opening_row x ∷ l) (map_snoc xs y)

pub length_list : (n : ℕ) (floor : ℕ → ℕ) → length (list_of n floor) ≡ n
length_list zero floor = refl
length_list (suc n) floor = length_snoc (list_of n floor) (floor n) ∙ ap (λ m. m + 1) (length_list n floor) ∙ sym (one_more n)

anew_used : (tokens i : ℕ) (x : NodeState) (w : World) (j : JournalRecord) → ((k : ℕ) → IsLossOf tokens (used_in j.losses k) (w.lost k) (w.nodes k))
    → (k : ℕ) → IsLossOf tokens (used_in (journal_with_anew i j).losses k) (without_node i w.lost k) (with_state i x w.nodes k)
anew_used tokens i x w j h k =
    subst (λ o. IsLossOf tokens o (without_node i w.lost k) (with_state i x w.nodes k)) (sym (used_more None j.losses (record { node = i; used = None }) k)) (split (eqb k i))
  where
    split : (b : Bool) → IsLossOf tokens (cond b None (used_in j.losses k)) (not b && w.lost k) (cond b x (w.nodes k))
    split true = refl
    split false = h k

pub anew_run : (config : Config) (key : List ℕ) (w : World) (hosts : List (Hosted Content)) (j : JournalRecord) (e k i boot : ℕ) (floor : ℕ → ℕ) (list : List ℕ) (new : Hosted Content) → suc k ≡ i → length (set hosts k new) ≡ length hosts
    → may_be_anew w i boot floor ≡ true → length (w.nodes i).content.rows ≡ length config.book → 1 ≤ boot → list ≡ list_of (length config.book) floor
    → IsInMemoryAt (boot - 1) config.book config.limits (record { me = i; n = length hosts }) key list new
    → IsRun config key w (record { nodes = hosts; journal = j }) → IsRun config key (world_after_anew e i boot floor w) (record { nodes = set hosts k new; journal = journal_with_anew i j })
unfolding world_after_anew
anew_run config key w hosts j e k i boot floor list new at len may rows low lists is h =
    let tokens = length config.book in
    let x = opening_node boot (length (w.nodes i).content.rows) floor in
    let place_is = is.place_is ∙ ap (λ m. record { me = m; n = length hosts }) (sym at) ∙ ap (λ m. record { me = suc k; n = m }) (sym h.n) in
    let state = is.state ∙ ap (λ l. opened (boot - 1) (map opening_row l)) lists ∙ ap (λ l. opened (boot - 1) l) (rows_of tokens floor ∙ ap (λ m. opening_rows m floor) (sym rows)) ∙ ap (λ m. at_boot m (opening_rows (length (w.nodes i).content.rows) floor)) (back boot low) in
    let host : IsHost config key (record { me = suc k; n = w.n }) x new = record { state = state; book = is.book_is; limits = is.limits_are; key_is = is.key_is; place = place_is } in
    subst (λ (y : World). IsRun config key y (record { nodes = set hosts k new; journal = journal_with_anew i j })) (sym (cond-true (may_be_anew w i boot floor) _ w may))
    (record {
      n = h.n ∙ sym len;
      hosts = subst (λ m. AreHosts config key w.n (without_node m w.lost) (with_state m x w.nodes) (set hosts k new)) at
          (hosts_set config key w.n k w.lost (without_node (suc k) w.lost) w.nodes hosts x new (λ l ne standing. kept l ne standing) h.hosts host);
      recorded = record { sent = h.recorded.sent; starts = h.recorded.starts; passes = h.recorded.passes ∙ sym (no_more _); answers = h.recorded.answers };
      losses = record { used = anew_used tokens i x w j h.losses.used; least = h.losses.least };
    })
  where
    opened : ℕ → List RowRecord → NodeState
    opened b l = record { content = record { rows = l; boot = b + 1; last = None }; voter = fresh_voter; owners = []; answers = []; running = true }

    at_boot : ℕ → List RowRecord → NodeState
    at_boot b l = record { content = record { rows = l; boot = b; last = None }; voter = fresh_voter; owners = []; answers = []; running = true }

    back : (b : ℕ) → 1 ≤ b → b - 1 + 1 ≡ b
    back b h = omega (arith, h)

    kept : (l : ℕ) → l ≢ k → without_node (suc k) w.lost (suc l) ≡ false → w.lost (suc l) ≡ false
    kept l ne standing = sym (ap (λ b. not b && w.lost (suc l)) (ne_eqb (suc l) (suc k) (λ q. ne (omega (arith, q))))) ∙ standing

    no_more : {A : Type 0} (xs : List A) → xs ++ [] ≡ xs
    no_more [] = refl
    no_more (x ∷ xs) = ap (λ l. x ∷ l) (no_more xs)
