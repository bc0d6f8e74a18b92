-- What a node is that opens over a store in memory.
use mathlib.Core.Path.{fun_ext}
use Rattle.std.proofs.Common.{false, ◌≡◌, ℕ, zero, suc, ◌+◌, ◌-◌, ◌<◌, ◌≤◌, List, [], ◌∷◌, ◌++◌, length, take, get_or, map, Some, None, refl, sym, ap, ◌∙◌, subst, arith}
use Rattle.std.specs.Global.{Vec}
use Rattle.std.specs.List.{slice_get}
use Rattle.std.specs.Prelude.{slice_index_or}
use Rattle.std.proofs.lemmas.List.{get_or-map, length-map}
use Rattle.std.proofs.lemmas.Option.{none-some, same_Some, slice_get-get_or}
use Rattle.std.proofs.Math.Seq.{take-suc, take-length}
use Rattle.floor_store.specs.Content.{Content, opening_content, opening_row}
use Rattle.floor_store.specs.Records.{RowRecord}
use Rattle.vote_core.specs.NodeSet.{PlaceRecord}
use Rattle.vote_core.specs.Schedule.{opening_rows}
use Rattle.oath_node.specs.Serving.{IsInMemory}
use Rattle.oath_node.specs.Hosted.{Hosted}
use Rattle.oath_node.specs.Machine.{Config, opened_node}
use Rattle.cluster_sim.specs.Journal.{AreHosts, IsHost, IsRun, no_journal}
use Rattle.cluster_sim.specs.Run.{floor_lists}
use Rattle.cluster_sim.specs.World.{first_start, floor_at, floor_in, opening_node, opening_world}

map_snoc : {A B : Type 0} (f : A → B) (xs : List A) (y : A) → map f (xs ++ y ∷ []) ≡ map f xs ++ f y ∷ []
map_snoc f [] y = refl
map_snoc f (x ∷ xs) y = ap (λ l. f x ∷ l) (map_snoc f xs y)

rows_up_to : (floors : List ℕ) (k : ℕ) → k ≤ length floors → opening_rows k (λ t. slice_index_or floors t 0) ≡ map opening_row (take k floors)
rows_up_to [] zero h = refl
rows_up_to (x ∷ floors) zero h = refl
rows_up_to floors (suc k) h =
    ap (λ (l : List RowRecord). l ++ opening_row (get_or floors k 0) ∷ []) (rows_up_to floors k (omega (arith, h)))
    ∙ sym (map_snoc opening_row (take k floors) (get_or floors k 0))
    ∙ ap (λ (l : List ℕ). map opening_row l) (sym (take-suc floors k 0 (omega (arith, h))))

-- the rows of all floors
all_rows : (floors : List ℕ) (n : ℕ) → length floors ≡ n → opening_rows n (λ t. slice_index_or floors t 0) ≡ map opening_row floors
all_rows floors n len =
    ap (λ k. opening_rows k (λ t. slice_index_or floors t 0)) (sym len)
    ∙ rows_up_to floors (length floors) (omega arith)
    ∙ ap (λ (l : List ℕ). map opening_row l) (take-length floors)

opened_is : (floors : List ℕ) (n : ℕ) → length floors ≡ n → opened_node (opening_content floors) ≡ opening_node 1 n (floor_in floors)
opened_is floors n len = ap (λ (rows : List RowRecord). opened_node (record { rows = rows; boot = 0; last = None })) (sym (all_rows floors n len))

opened_host : (config : Config) (key : List ℕ) (place : PlaceRecord) (floors : List ℕ) (n : ℕ) (node : Hosted Content) → length floors ≡ n
    → IsInMemory config.book config.limits place key floors node → IsHost config key place (opening_node 1 n (floor_in floors)) node
opened_host config key place floors n node len h = record {
  state = h.state ∙ opened_is floors n len;
  book = h.book_is;
  limits = h.limits_are;
  key_is = h.key_is;
  place = h.place_is;
}

-- ---- all nodes

-- an element of a list with one more
of_snoc : {X : Type 0} (P : ℕ → X → Type 0) (xs : List X) (y : X) → ((j : ℕ) (x : X) → slice_get xs j ≡ Some x → P j x) → P (length xs) y
    → (j : ℕ) (x : X) → slice_get (xs ++ y ∷ []) j ≡ Some x → P j x
of_snoc P [] y old new zero x e = subst (P zero) (same_Some y x e) new
of_snoc P [] y old new (suc j) x e = absurd (none-some x e)
of_snoc P (a ∷ xs) y old new zero x e = old zero x e
of_snoc P (a ∷ xs) y old new (suc j) x e = of_snoc (λ i z. P (suc i) z) xs y (λ i z f. old (suc i) z f) new j x e

-- `count` nodes are open
pub record AreOpen (config : Config) (key : List ℕ) (lists : List (Vec ℕ)) (count : ℕ) (hosts : List (Hosted Content)) : Type 0 where
  pub size : length hosts ≡ count
  pub hosts_are : AreHosts config key (length lists) (opening_world config (first_start (floor_lists lists))).lost (opening_world config (first_start (floor_lists lists))).nodes hosts

pub none_open : (config : Config) (key : List ℕ) (lists : List (Vec ℕ)) (hosts : List (Hosted Content)) → hosts ≡ [] → AreOpen config key lists 0 hosts
none_open config key lists hosts is = record {
  size = ap (λ (l : List (Hosted Content)). length l) is;
  hosts_are = λ k h e. absurd (none-some h (ap (λ (l : List (Hosted Content)). slice_get l k) (sym is) ∙ e));
}

-- the floors of the node at a place
floor_is : (lists : List (Vec ℕ)) (k : ℕ) (d : Vec ℕ) → k < length lists → (t : ℕ) → slice_index_or (get_or lists k d).items t 0 ≡ floor_at (floor_lists lists) (suc k) t
floor_is lists k d h t =
    ap (λ (l : List ℕ). slice_index_or l t 0) (sym (get_or-map (λ (v : Vec ℕ). v.items) lists k d [] h))
    ∙ ap (λ j. slice_index_or (slice_index_or (floor_lists lists) j []) t 0) (before k)
  where
    before : (k : ℕ) → k ≡ suc k - 1
    before k = omega arith

one_open : (config : Config) (key : List ℕ) (lists : List (Vec ℕ)) (k : ℕ) (d : Vec ℕ) (floors : List ℕ) (place : PlaceRecord) (old new : List (Hosted Content)) (h : Hosted Content) → k < length lists
    → floors ≡ (get_or lists k d).items → place ≡ record { me = k + 1; n = length lists } → new ≡ old ++ h ∷ [] → IsHost config key place (opening_node 1 (length config.book) (floor_in floors)) h
    → AreOpen config key lists k old → AreOpen config key lists (k + 1) new
one_open config key lists k d floors place old new h within are at is host opened = record {
  size = ap (λ (l : List (Hosted Content)). length l) is ∙ grown old h ∙ more (length old) k opened.size;
  hosts_are = subst (AreHosts config key (length lists) (opening_world config (first_start (floor_lists lists))).lost (opening_world config (first_start (floor_lists lists))).nodes) (sym is)
      (of_snoc (λ j y. (opening_world config (first_start (floor_lists lists))).lost (suc j) ≡ false → IsHost config key (record { me = suc j; n = length lists }) ((opening_world config (first_start (floor_lists lists))).nodes (suc j)) y) old h opened.hosts_are
      (λ _. subst (λ j. IsHost config key (record { me = suc j; n = length lists }) ((opening_world config (first_start (floor_lists lists))).nodes (suc j)) h) (sym opened.size) here));
}
  where
    grown : (xs : List (Hosted Content)) (y : Hosted Content) → length (xs ++ y ∷ []) ≡ suc (length xs)
    grown [] y = refl
    grown (x ∷ xs) y = ap suc (grown xs y)

    more : (m k : ℕ) → m ≡ k → suc m ≡ k + 1
    more m k e = omega (arith, e)

    next : (k : ℕ) → k + 1 ≡ suc k
    next k = omega arith

    same : (λ t. slice_index_or floors t 0) ≡ floor_at (floor_lists lists) (suc k)
    same = fun_ext (λ t. ap (λ (l : List ℕ). slice_index_or l t 0) are ∙ floor_is lists k d within t)

    here : IsHost config key (record { me = suc k; n = length lists }) ((opening_world config (first_start (floor_lists lists))).nodes (suc k)) h
    here =
        subst (λ (f : ℕ → ℕ). IsHost config key (record { me = suc k; n = length lists }) (opening_node 1 (length config.book) f) h) same
        (subst (λ (p : PlaceRecord). IsHost config key p (opening_node 1 (length config.book) (floor_in floors)) h) (at ∙ ap (λ j. record { me = j; n = length lists }) (next k)) host)

pub next_open : (config : Config) (key : List ℕ) (lists : List (Vec ℕ)) (k : ℕ) (d : Vec ℕ) (floors : List ℕ) (place : PlaceRecord) (old new : List (Hosted Content)) (h : Hosted Content) → k < length lists
    → floors ≡ (get_or lists k d).items → place ≡ record { me = k + 1; n = length lists } → new ≡ old ++ h ∷ []
    → ((j : ℕ) (list : Vec ℕ) → slice_get lists j ≡ Some list → length list.items ≡ length config.book) → IsInMemory config.book config.limits place key floors h
    → AreOpen config key lists k old → AreOpen config key lists (k + 1) new
next_open config key lists k d floors place old new h within are at is each opened old_open =
    let len : length floors ≡ length config.book = ap (λ (l : List ℕ). length l) are ∙ each k (get_or lists k d) (slice_get-get_or lists k d within) in
    one_open config key lists k d floors place old new h within are at is (opened_host config key place floors (length config.book) h len opened) old_open

pub all_open : (config : Config) (key : List ℕ) (lists : List (Vec ℕ)) (count : ℕ) (hosts : List (Hosted Content)) → length lists ≤ count → count ≤ length lists → AreOpen config key lists count hosts
    → IsRun config key (opening_world config (first_start (floor_lists lists))) (record { nodes = hosts; journal = no_journal })
all_open config key lists count hosts low high opened = record {
  n = length-map lists (λ (v : Vec ℕ). v.items) ∙ same (length lists) count (length hosts) low high opened.size;
  hosts = subst (λ n. AreHosts config key n (opening_world config (first_start (floor_lists lists))).lost (opening_world config (first_start (floor_lists lists))).nodes hosts) (sym (length-map lists (λ (v : Vec ℕ). v.items))) opened.hosts_are;
  recorded = record { sent = refl; starts = λ _. refl; passes = refl; answers = refl };
  losses = record { used = λ _. refl; least = λ _ _. refl };
}
  where
    same : (n k m : ℕ) → n ≤ k → k ≤ n → m ≡ k → n ≡ m
    same n k m a b c = omega (arith, a, b, c)
