-- The server that a settled world stands for: what is read of it, and what one line changes.
use Rattle.std.proofs.Common.{◌≡◌, ℕ, ℤ, pos, ◌<◌, ⊎_elim, true, false, cond, ◌||◌, List, [], ◌∷◌, get_or, length, map, set, None, refl, sym, ap, ◌∙◌, subst, arith, eqb}
use mathlib.Core.Path.{fun_ext}
use Rattle.std.specs.List.{range_with_len}
use Rattle.std.proofs.lemmas.Bool.{cond_both, eqb-true, eqb-false, eq-eqb, both_ways}
use Rattle.std.proofs.lemmas.List.{ext_get_or, get_or-set_other, get_or-set_same, length-map, length-set}
use Rattle.std.proofs.lemmas.List.FromFn.{get_or-map-range_with_len, length-map-range_with_len}
use Rattle.std.proofs.Math.ListN.{get_or-map}
use Rattle.otp_core.specs.Gate.{GateRecord}
use Rattle.admit_core.specs.Throttle.{Result}
use Rattle.answer_ring.specs.Answers.{KeptAnswer}
use Rattle.cluster_sim.specs.FrontEnds.{with_server_at}
use Rattle.cluster_sim.specs.Results.{results_in}
use Rattle.cluster_sim.specs.Rounds.{IsAscending, first_of, front_at, is_live, results_at, server_of}
use Rattle.cluster_sim.specs.World.{World}
use Rattle.floor_store.specs.Content.{Content}
use Rattle.floor_store.specs.Records.{RowRecord}
use Rattle.oath_node.specs.Alone.{drifts_in, floors_in}
use Rattle.oath_node.specs.ReferenceServer.{Front, with_result}
use Rattle.vote_core.proofs.Basics.{Each, each_weaker, row_cases}
use Rattle.vote_core.specs.Rows.{no_row, row, row_with_gate}
use Rattle.vote_core.specs.Schedule.{content_with_gate}

-- the drift that a node keeps of a token
abbrev pub drift_at : World → ℕ → ℕ → ℤ
drift_at world node token = (row (world.nodes node).content token).drift

pub ascending_above : (i : ℕ) (js : List ℕ) → IsAscending (i ∷ js) → Each (λ j. i < j) js
ascending_above i [] h = tt
ascending_above i (j ∷ js) h = (h.0, each_weaker (λ k. j < k) (λ k. i < k) (λ k lt. omega (arith, lt, h.0)) js (ascending_above j js h.1))

pub ascending_rest : (i : ℕ) (js : List ℕ) → IsAscending (i ∷ js) → IsAscending js
ascending_rest i [] h = tt
ascending_rest i (j ∷ js) h = h.1

-- what is seen of the other nodes is as it was
pub record OthersSame (i : ℕ) (w v : World) : Type 0 where
  pub answers : (j : ℕ) → (j ≡ i → ⊥) → (v.nodes j).answers ≡ (w.nodes j).answers
  pub results : (j u : ℕ) → (j ≡ i → ⊥) → results_in v.history j u ≡ results_in w.history j u
  pub drifts : (j u : ℕ) → (j ≡ i → ⊥) → drift_at v j u ≡ drift_at w j u

pub first_live : (live : List ℕ) (i : ℕ) → is_live live i ≡ true → is_live live (first_of live) ≡ true
first_live [] i h = absurd (both_ways false refl h)
first_live (j ∷ js) i h = ap (λ b. b || is_live js j) (eq-eqb j j refl)

-- the gate alone changes
pub gated_next : (c : Content) (t : ℕ) (g : GateRecord) (u : ℕ) → (row (content_with_gate t g c) u).next ≡ (row c u).next
gated_next c t g u =
    ⊎_elim (λ (e : row (content_with_gate t g c) u ≡ row c u). ap (λ (x : RowRecord). x.next) e)
    (λ (w : (u ≡ t) × (row (content_with_gate t g c) u ≡ row_with_gate g (row c t))). ap (λ (x : RowRecord). x.next) w.1 ∙ ap (λ m. (row c m).next) (sym w.0))
    (row_cases c t (row_with_gate g (row c t)) None u)

pub gated_drift : (c : Content) (t : ℕ) (g : GateRecord) (u : ℕ) → (row (content_with_gate t g c) u).drift ≡ (row c u).drift
gated_drift c t g u =
    ⊎_elim (λ (e : row (content_with_gate t g c) u ≡ row c u). ap (λ (x : RowRecord). x.drift) e)
    (λ (w : (u ≡ t) × (row (content_with_gate t g c) u ≡ row_with_gate g (row c t))). ap (λ (x : RowRecord). x.drift) w.1 ∙ ap (λ m. (row c m).drift) (sym w.0))
    (row_cases c t (row_with_gate g (row c t)) None u)

-- ---- what the rows of a node say, as lists by token

get_set : {A : Type 0} (xs : List A) (t : ℕ) (x d : A) (u : ℕ) → u < length xs → get_or (set xs t x) u d ≡ cond (eqb t u) x (get_or xs u d)
get_set xs t x d u lt =
    cond_both (eqb t u) x (get_or xs u d) (λ z. get_or (set xs t x) u d ≡ z)
    (λ e. let same = eqb-true t u e in ap (λ m. get_or (set xs t x) m d) (sym same) ∙ get_or-set_same xs t x d (subst (λ m. m < length xs) (sym same) lt))
    (λ e. get_or-set_other xs t u x d (λ q. eqb-false t u e (sym q)))

rows_same : {A : Type 0} (f : RowRecord → A) (c d : Content) → length d.rows ≡ length c.rows → ((u : ℕ) → f (row d u) ≡ f (row c u)) → map f d.rows ≡ map f c.rows
rows_same f c d size h =
    ext_get_or (f no_row) (map f d.rows) (map f c.rows) (length-map d.rows f ∙ size ∙ sym (length-map c.rows f))
    (λ u _. get_or-map f d.rows u no_row ∙ h u ∙ sym (get_or-map f c.rows u no_row))

rows_put : {A : Type 0} (f : RowRecord → A) (c d : Content) (t : ℕ) (x : A) → length d.rows ≡ length c.rows → ((u : ℕ) → f (row d u) ≡ cond (eqb t u) x (f (row c u))) → map f d.rows ≡ set (map f c.rows) t x
rows_put f c d t x size h =
    let same : length (map f d.rows) ≡ length (map f c.rows) = length-map d.rows f ∙ size ∙ sym (length-map c.rows f) in
    ext_get_or (f no_row) (map f d.rows) (set (map f c.rows) t x) (same ∙ sym (length-set (map f c.rows) t x))
    (λ u lt. get_or-map f d.rows u no_row ∙ h u ∙ ap (λ z. cond (eqb t u) x z) (sym (get_or-map f c.rows u no_row)) ∙ sym (get_set (map f c.rows) t x (f no_row) u (subst (λ n. u < n) same lt)))

pub floors_same : (c d : Content) → length d.rows ≡ length c.rows → ((u : ℕ) → (row d u).next ≡ (row c u).next) → floors_in d ≡ floors_in c
floors_same c d size h = rows_same (λ (r : RowRecord). r.next) c d size h

pub floors_put : (c d : Content) (t x : ℕ) → length d.rows ≡ length c.rows → ((u : ℕ) → (row d u).next ≡ cond (eqb t u) x (row c u).next) → floors_in d ≡ set (floors_in c) t x
floors_put c d t x size h = rows_put (λ (r : RowRecord). r.next) c d t x size h

pub drifts_same : (c d : Content) → length d.rows ≡ length c.rows → ((u : ℕ) → (row d u).drift ≡ (row c u).drift) → drifts_in d ≡ drifts_in c
drifts_same c d size h = rows_same (λ (r : RowRecord). r.drift) c d size h

pub drifts_put : (c d : Content) (t : ℕ) (x : ℤ) → length d.rows ≡ length c.rows → ((u : ℕ) → (row d u).drift ≡ cond (eqb t u) x (row c u).drift) → drifts_in d ≡ set (drifts_in c) t x
drifts_put c d t x size h = rows_put (λ (r : RowRecord). r.drift) c d t x size h

-- the floor, the drift and the results of one token
pub floor_is : (c : Content) (t : ℕ) → get_or (floors_in c) t 0 ≡ (row c t).next
floor_is c t = get_or-map (λ (r : RowRecord). r.next) c.rows t no_row

pub drift_is : (c : Content) (t : ℕ) → get_or (drifts_in c) t (pos 0) ≡ (row c t).drift
drift_is c t = get_or-map (λ (r : RowRecord). r.drift) c.rows t no_row

pub result_is : (w : World) (i t : ℕ) → t < length (w.nodes i).content.rows → get_or (results_at w i) t [] ≡ results_in w.history i t
result_is w i t lt = get_or-map-range_with_len (λ u. results_in w.history i u) 0 (length (w.nodes i).content.rows) t t [] lt (omega arith)

-- ---- the results of a node, as a list by token

-- each node has its old number of rows
abbrev pub SameRows : World → World → Type 0
SameRows w v = (j : ℕ) → length (v.nodes j).content.rows ≡ length (w.nodes j).content.rows

pub results_same : (w v : World) (i : ℕ) → SameRows w v → ((u : ℕ) → results_in v.history i u ≡ results_in w.history i u) → results_at v i ≡ results_at w i
results_same w v i size h =
    ap (λ n. map (λ u. results_in v.history i u) (range_with_len 0 n)) (size i)
    ∙ ap (λ (f : ℕ → List Result). map f (range_with_len 0 (length (w.nodes i).content.rows))) (fun_ext h)

listed_put : (n t : ℕ) (f g : ℕ → List Result) (x : Result) → t < n → ((u : ℕ) → g u ≡ cond (eqb t u) (x ∷ f u) (f u))
    → map g (range_with_len 0 n) ≡ with_result (map f (range_with_len 0 n)) t x
listed_put n t f g x known h =
    let xs = map f (range_with_len 0 n) in
    let ys = map g (range_with_len 0 n) in
    let long = length-map-range_with_len f 0 n in
    let long' = length-map-range_with_len g 0 n in
    let read : (u : ℕ) → u < n → get_or xs u [] ≡ f u = λ u lt. get_or-map-range_with_len f 0 n u u [] lt (omega arith) in
    ext_get_or [] ys (with_result xs t x) (long' ∙ sym long ∙ sym (length-set xs t (x ∷ get_or xs t [])))
    (λ u lt.
    let within : u < n = subst (λ m. u < m) long' lt in
    let at : get_or (with_result xs t x) u [] ≡ cond (eqb t u) (x ∷ get_or xs t []) (get_or xs u []) = get_set xs t (x ∷ get_or xs t []) [] u (subst (λ m. u < m) (sym long) within) in
    get_or-map-range_with_len g 0 n u u [] within (omega arith) ∙ h u
    ∙ cond_both (eqb t u) (x ∷ f u) (f u) (λ z. z ≡ cond (eqb t u) (x ∷ get_or xs t []) (get_or xs u []))
    (λ e. ap (λ m. x ∷ f m) (sym (eqb-true t u e)) ∙ ap (λ rs. x ∷ rs) (sym (read t known)) ∙ sym (cond_yes (eqb t u) (x ∷ get_or xs t []) (get_or xs u []) e))
    (λ e. sym (read u within) ∙ sym (cond_no (eqb t u) (x ∷ get_or xs t []) (get_or xs u []) e))
    ∙ sym at)
  where
    cond_yes : {A : Type 0} (b : _) (x y : A) → b ≡ true → cond b x y ≡ x
    cond_yes true x y e = refl
    cond_yes false x y e = absurd cc

    cond_no : {A : Type 0} (b : _) (x y : A) → b ≡ false → cond b x y ≡ y
    cond_no true x y e = absurd cc
    cond_no false x y e = refl

pub results_put : (w v : World) (i t : ℕ) (x : Result) → SameRows w v → t < length (w.nodes i).content.rows
    → ((u : ℕ) → results_in v.history i u ≡ cond (eqb t u) (x ∷ results_in w.history i u) (results_in w.history i u)) → results_at v i ≡ with_result (results_at w i) t x
results_put w v i t x size known h =
    ap (λ n. map (λ u. results_in v.history i u) (range_with_len 0 n)) (size i)
    ∙ listed_put (length (w.nodes i).content.rows) t (λ u. results_in w.history i u) (λ u. results_in v.history i u) x known h

-- ---- the server, by what changed

-- one front end, by what is seen of its node
pub front_is : (v : World) (i : ℕ) (results : List (List Result)) (drifts : List ℤ) (answers : List KeptAnswer) → results_at v i ≡ results → drifts_in (v.nodes i).content ≡ drifts
    → (v.nodes i).answers ≡ answers → front_at v i ≡ record { results = results; drifts = drifts; answers = answers }
front_is v i results drifts answers p d q =
    ap (λ (f : List (List Result)). record { results = f; drifts = drifts_in (v.nodes i).content; answers = (v.nodes i).answers }) p
    ∙ ap (λ (f : List ℤ). record { results = results; drifts = f; answers = (v.nodes i).answers }) d
    ∙ ap (λ (a : List KeptAnswer). record { results = results; drifts = drifts; answers = a }) q

-- all others are as they were
pub server_moved : (live : List ℕ) (i : ℕ) (w v : World) (floors : List ℕ) (front : Front) → OthersSame i w v → SameRows w v → floors_in (v.nodes (first_of live)).content ≡ floors → front_at v i ≡ front
    → server_of live v ≡ with_server_at i (record { floors = floors; front = front }) (server_of live w)
server_moved live i w v floors front h size p q =
    ap (λ (f : List ℕ). record { floors = f; fronts = front_at v }) p
    ∙ ap (λ (f : ℕ → Front). record { floors = floors; fronts = f }) (fun_ext each)
  where
    each : (j : ℕ) → front_at v j ≡ cond (eqb j i) front (front_at w j)
    each j =
        cond_both (eqb j i) front (front_at w j) (λ f. front_at v j ≡ f)
        (λ z. ap (λ m. front_at v m) (eqb-true j i z) ∙ q)
        (λ z.
        let off = eqb-false j i z in
        front_is v j (results_at w j) (drifts_in (w.nodes j).content) (w.nodes j).answers (results_same w v j size (λ u. h.results j u off))
        (drifts_same (w.nodes j).content (v.nodes j).content (size j) (λ u. h.drifts j u off)) (h.answers j off))
