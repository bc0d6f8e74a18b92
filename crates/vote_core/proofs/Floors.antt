-- No floor falls below one that every node opened with.
use Rattle.std.proofs.Common.{◌≡◌, ℕ, zero, suc, ◌<◌, ◌≤◌, true, false, not, ◌&&◌, List, [], ◌∷◌, length, Some, sym, ◌∙◌, subst, arith, eqb, leb, ltb, ◌+◌, ap}
use Rattle.std.specs.List.{slice_get}
use Rattle.std.proofs.lemmas.Bool.{cond_both, eqb-true, ltb-true, leb-true, and_parts, not-true, false≢true}
use Rattle.std.proofs.lemmas.Option.{none-some, same_Some}
use Rattle.floor_store.specs.Records.{RowRecord}
use Rattle.otp_core.specs.Acceptance.{majority_of, size}
use Rattle.vote_core.specs.NodeSet.{with_node}
use Rattle.vote_core.specs.Rows.{row}
use Rattle.vote_core.specs.Safety.{MayOpen}
use Rattle.vote_core.specs.Schedule.{Member, Cluster, Event, Happens, Cut, Restart, Lost, Replaced, Opening, is_member, has_store, lost_member, all_most, opening_member, may_replace, after_act, node_of, after_restart, after_loss, after_replacement, with_sent_of, last_boot, after_event, run, start}
use Rattle.vote_core.proofs.Basics.{same_size, rest_size, has_member, greatest_above, all_most_at, opening_floor}
use Rattle.vote_core.proofs.Calms.{Leaves, acts_leave, restart_leaves, unsent_leaves, leaves_both}
use Rattle.vote_core.proofs.Kept.{History, Kept}
use Rattle.vote_core.proofs.Runs.{Follows, follows_now, follows_on, happens_keeps, happens_n, born_after, all_follow, history_of, start_keeps}

-- the floor of the token is at least `x` at each member, and on each later replacement store
pub record Over (t x : ℕ) (w : Cluster) : Type 0 where
  pub rows : (i : ℕ) → 1 ≤ i → i ≤ w.n → x ≤ (row (w.nodes i).content t).next
  pub least : size w.n w.lost < majority_of w.n → (i : ℕ) → w.lost i ≡ true → x ≤ w.least t

over_leaves : (t x : ℕ) (w new : Cluster) → new.n ≡ w.n → Leaves w new → Over t x w → Over t x new
over_leaves t x w new same h k = record {
  rows = λ i low high. omega (arith, k.rows i low (omega (arith, high, same)), h.rise i t);
  least = λ few i lost.
      let count = same_size w.n new.lost w.lost h.lost in
      let was : size w.n w.lost < majority_of w.n = omega (arith, count, subst (λ m. size m new.lost < majority_of m) same few) in
      omega (arith, k.least was i (sym (h.lost i) ∙ lost), h.least t);
}

over_loss : (t x k : ℕ) (w : Cluster) → Over t x w → Over t x (after_loss k w)
unfolding after_loss
over_loss t x k w over =
    let lost = with_node k w.lost in
    let floor = λ (i : ℕ). (row (w.nodes i).content t).next in
    cond_both (has_store w k) _ w (λ c. Over t x c)
    (λ q.
    let member = and_parts (leb 1 k) (leb k w.n) (and_parts (not (w.lost k)) (is_member w.n k) q).1 in
    record {
      rows = λ i low high.
          cond_both (eqb i k) (lost_member (w.nodes k)) (w.nodes i) (λ (y : Member). x ≤ (row y.content t).next)
          (λ e. let is = eqb-true i k e in subst (λ m. x ≤ (row (w.nodes m).content t).next) is (over.rows i low high))
          (λ _. over.rows i low high);
      least = λ few _ _.
          let one = has_member w.n (λ i. not (lost i)) (omega (arith, rest_size w.n lost, few, leb-true 1 k member.0, leb-true k w.n member.1)) in
          let told = greatest_above w.n lost floor one.0 one.1 one.2 (not-true (lost one.0) one.3) in
          omega (arith, told, over.rows one.0 one.1 one.2);
    })
    (λ _. over)

over_replacement : (t x tokens k boot : ℕ) (floor : ℕ → ℕ) (w : Cluster) → t < tokens → length (w.nodes k).content.rows ≡ tokens → Over t x w → Over t x (after_replacement k boot floor w)
unfolding after_replacement
over_replacement t x tokens k boot floor w within rows over =
    let count = length (w.nodes k).content.rows in
    let new = opening_member boot count floor in
    cond_both (may_replace w k boot floor) _ w (λ c. Over t x c)
    (λ may.
    let a = and_parts (is_member w.n k && w.lost k) _ may in
    let lost = and_parts (is_member w.n k) (w.lost k) a.0 in
    let b = and_parts (ltb (size w.n w.lost) (majority_of w.n)) _ a.1 in
    let c = and_parts (leb (w.nodes k).content.boot boot) _ b.1 in
    let d = and_parts (leb boot last_boot) (all_most count w.least floor) c.1 in
    let few = ltb-true (size w.n w.lost) (majority_of w.n) b.0 in
    let least = over.least few k lost.1 in
    let inside : t < count = omega (arith, within, rows) in
    let most = all_most_at count w.least floor t d.1 inside in
    record {
      rows = λ i low high.
          cond_both (eqb i k) new (w.nodes i) (λ (y : Member). x ≤ (row y.content t).next)
          (λ _. omega (arith, least, most, opening_floor count floor t inside)) (λ _. over.rows i low high);
      least = λ _ _ _. least;
    })
    (λ _. over)

over_after : (R : History) (e tokens t x : ℕ) (event : Event) (w : Cluster) → t < tokens → Kept R e tokens w → (after_event e event w).n ≡ w.n → Over t x w → Over t x (after_event e event w)
unfolding after_event
over_after R e tokens t x (Happens a) w within k same over = over_leaves t x w (after_act e a w) same (acts_leave R e a w k.sent) over
over_after R e tokens t x (Cut true a) w within k same over =
    let unsent = with_sent_of w (after_act e a w) in
    let new = after_restart (node_of a w) unsent in
    over_leaves t x w new same (leaves_both w unsent new (unsent_leaves w (after_act e a w) (acts_leave R e a w k.sent)) (restart_leaves unsent (node_of a w))) over
over_after R e tokens t x (Cut false a) w within k same over = over_leaves t x w (after_restart (node_of a w) w) same (restart_leaves w (node_of a w)) over
over_after R e tokens t x (Restart i) w within k same over = over_leaves t x w (after_restart (Some i) w) same (restart_leaves w (Some i)) over
over_after R e tokens t x (Lost i) w within k same over = over_loss t x i w over
over_after R e tokens t x (Replaced i boot floor) w within k same over = over_replacement t x tokens i boot floor w within (k.nodes i).rows over

over_run : (R : History) (tokens t x : ℕ) (xs : List Event) (e : ℕ) (w : Cluster) (born : ℕ → ℕ) → t < tokens → Follows R e xs w born → Kept R e tokens w → Over t x w → Over t x (run e xs w)
unfolding run
over_run R tokens t x [] e w born within follows k over = over
over_run R tokens t x (event ∷ xs) e w born within follows k over =
    let next = follows_on R e event xs w born follows in
    let new = follows_now R (suc e) xs (after_event e event w) (born_after event w born) next in
    over_run R tokens t x xs (suc e) (after_event e event w) (born_after event w born) within next
    (happens_keeps R e tokens event w born k new.0 (follows_now R e (event ∷ xs) w born follows).1 new.1)
    (over_after R e tokens t x event w within k (happens_n e event w) over)

pub over_all : (n tokens : ℕ) (opening : Opening) (events : List Event) → MayOpen n tokens opening → (t x : ℕ) → t < tokens
    → ((i : ℕ) → 1 ≤ i → i ≤ n → x ≤ opening.floor i t) → Over t x (run 0 events (start n tokens opening))
over_all n tokens opening events may t x within from =
    let R = history_of n tokens opening events in
    let follows = all_follow n tokens opening events in
    let now = follows_now R 0 events (start n tokens opening) opening.boot follows in
    over_run R tokens t x events 0 (start n tokens opening) opening.boot within follows (start_keeps R n tokens opening may now.0 now.1)
    (record {
      rows = λ i low high. omega (arith, from i low high, opening_floor tokens (opening.floor i) t within);
      least = λ _ i lost. absurd (false≢true lost);
    })

-- ---- the floors of a node rise, as long as no store is made for it

-- the event makes no store for the node
abbrev pub Spares : ℕ → Event → Type 0
Spares i event = (boot : ℕ) (floor : ℕ → ℕ) → event ≡ Replaced i boot floor → ⊥

loss_rise : (i t k : ℕ) (w : Cluster) → (row (w.nodes i).content t).next ≤ (row ((after_loss k w).nodes i).content t).next
unfolding after_loss
loss_rise i t k w =
    cond_both (has_store w k) _ w (λ (c : Cluster). (row (w.nodes i).content t).next ≤ (row (c.nodes i).content t).next)
    (λ _. cond_both (eqb i k) (lost_member (w.nodes k)) (w.nodes i) (λ (y : Member). (row (w.nodes i).content t).next ≤ (row y.content t).next)
    (λ q. let is = eqb-true i k q in subst (λ m. (row (w.nodes m).content t).next ≤ (row (w.nodes k).content t).next) (sym is) (omega arith)) (λ _. omega arith))
    (λ _. omega arith)

replacement_rise : (i t k boot : ℕ) (floor : ℕ → ℕ) (w : Cluster) → (i ≡ k → ⊥) → (row (w.nodes i).content t).next ≤ (row ((after_replacement k boot floor w).nodes i).content t).next
unfolding after_replacement
replacement_rise i t k boot floor w other =
    cond_both (may_replace w k boot floor) _ w (λ (c : Cluster). (row (w.nodes i).content t).next ≤ (row (c.nodes i).content t).next)
    (λ _. cond_both (eqb i k) (opening_member boot (length (w.nodes k).content.rows) floor) (w.nodes i) (λ (y : Member). (row (w.nodes i).content t).next ≤ (row y.content t).next)
    (λ q. absurd (other (eqb-true i k q))) (λ _. omega arith))
    (λ _. omega arith)

rise_after : (R : History) (e tokens i t : ℕ) (event : Event) (w : Cluster) → Kept R e tokens w → Spares i event → (row (w.nodes i).content t).next ≤ (row ((after_event e event w).nodes i).content t).next
unfolding after_event
rise_after R e tokens i t (Happens a) w k spares = (acts_leave R e a w k.sent).rise i t
rise_after R e tokens i t (Cut true a) w k spares =
    let unsent = with_sent_of w (after_act e a w) in
    (leaves_both w unsent (after_restart (node_of a w) unsent) (unsent_leaves w (after_act e a w) (acts_leave R e a w k.sent)) (restart_leaves unsent (node_of a w))).rise i t
rise_after R e tokens i t (Cut false a) w k spares = (restart_leaves w (node_of a w)).rise i t
rise_after R e tokens i t (Restart j) w k spares = (restart_leaves w (Some j)).rise i t
rise_after R e tokens i t (Lost j) w k spares = loss_rise i t j w
rise_after R e tokens i t (Replaced j boot floor) w k spares = replacement_rise i t j boot floor w (λ is. spares boot floor (ap (λ m. Replaced m boot floor) (sym is)))

pub rise_run : (R : History) (tokens i t : ℕ) (xs : List Event) (e : ℕ) (w : Cluster) (born : ℕ → ℕ) → Follows R e xs w born → Kept R e tokens w
    → (k y : ℕ) (event : Event) → y ≡ e + k → slice_get xs k ≡ Some event → Spares i event → (R.at i t y).next ≤ (R.at i t (suc y)).next
rise_run R tokens i t [] e w born follows kept k y event at is spares = absurd (none-some event is)
rise_run R tokens i t (x ∷ xs) e w born follows kept zero y event at is spares =
    let same : e ≡ y = omega (arith, at) in
    let here = follows_now R e (x ∷ xs) w born follows in
    let next = follows_now R (suc e) xs (after_event e x w) (born_after x w born) (follows_on R e x xs w born follows) in
    let rise = rise_after R e tokens i t x w kept (subst (λ a. Spares i a) (sym (same_Some x event is)) spares) in
    subst (λ m. (R.at i t m).next ≤ (R.at i t (suc m)).next) same
    (subst (λ (r : RowRecord). r.next ≤ (R.at i t (suc e)).next) (sym (here.0.rows i t))
    (subst (λ (r : RowRecord). (row (w.nodes i).content t).next ≤ r.next) (sym (next.0.rows i t)) rise))
rise_run R tokens i t (x ∷ xs) e w born follows kept (suc k) y event at is spares =
    let next = follows_on R e x xs w born follows in
    let new = follows_now R (suc e) xs (after_event e x w) (born_after x w born) next in
    rise_run R tokens i t xs (suc e) (after_event e x w) (born_after x w born) next
    (happens_keeps R e tokens x w born kept new.0 (follows_now R e (x ∷ xs) w born follows).1 new.1) k y event (omega (arith, at)) is spares
