-- A loss and a replacement of a store keep the invariant.
use Rattle.std.proofs.Common.{◌≡◌, ◌≢◌, ℕ, suc, ◌+◌, ◌<◌, ◌≤◌, ◌⊎◌, inl, inr, ⊎_elim, true, false, not, ◌&&◌, length, Some, refl, sym, ap, ◌∙◌, subst, arith, eqb, leb, ltb}
use Rattle.std.proofs.lemmas.Bool.{cond_both, cond-true, eqb-true, eqb-false, eq-eqb, ltb-true, leb-true, and_parts, or_cases, not-true, cases_Bool, false≢true}
use Rattle.std.proofs.lemmas.Option.{none-some}
use Rattle.floor_store.specs.Records.{ProposalRecord, RowRecord, span_of}
use Rattle.otp_core.specs.Acceptance.{Acceptance, majority_of, size}
use Rattle.vote_core.specs.NodeSet.{with_node}
use Rattle.vote_core.specs.Rows.{row}
use Rattle.vote_core.specs.Schedule.{Member, Begun, Cluster, is_member, has_store, set_node, lost_member, greatest, after_loss, all_most, may_replace, opening_member, without_node, after_replacement, last_boot}
use Rattle.vote_core.proofs.Basics.{each_weaker, same_size, one_left, greatest_above, all_most_at, opening_size, opening_grant, opening_floor}
use Rattle.vote_core.proofs.Kept.{History, Book, Past, Few, Stands, NodeKept, PassKept, At, Kept, Extends, sent_later, pending_later, holds_later, granted_later, granted_stands}
use Rattle.vote_core.proofs.Worlds.{swap_pass, earlier_boot}

-- a pass stays kept if everything that its voters granted stays granted
pass_stands : (R : History) (e n : ℕ) (B : Book) (nodes : ℕ → Member) (p : Acceptance) → (k : PassKept R e n B nodes p) → ((g : ℕ) → k.voters g ≡ true → Stands R (suc e) g p.token p.hi) → PassKept R (suc e) n B nodes p
pass_stands R e n B nodes p k h = record {
  proposal = k.proposal;
  begun = k.begun;
  own = k.own;
  gone = k.gone;
  voters = k.voters;
  enough = k.enough;
  marks = λ g m. granted_later (suc p.ended) (omega arith) (k.marks g m) (h g m);
}

-- ---- a loss

-- the cluster after the loss of a store that was there
lossy : ℕ → Cluster → Cluster
lossy k w = record w {
  nodes = set_node k (lost_member (w.nodes k)) w.nodes;
  lost = with_node k w.lost;
  least = λ t. greatest w.n (with_node k w.lost) (λ i. (row (w.nodes i).content t).next);
}

-- what is known of the history at a loss
record Loss (R : History) (e tokens k : ℕ) (w : Cluster) : Type 0 where
  now : Kept R e tokens w
  then : At R (suc e) (lossy k w)
  born : R.born k (suc e) ≡ (w.nodes k).content.boot + 1
  others : (i : ℕ) → i ≢ k → R.born i (suc e) ≡ R.born i e

lost_rows : (k : ℕ) (w : Cluster) (i t : ℕ) → row ((lossy k w).nodes i).content t ≡ row (w.nodes i).content t
unfolding lossy
lost_rows k w i t =
    cond_both (eqb i k) (lost_member (w.nodes k)) (w.nodes i) (λ (y : Member). row y.content t ≡ row (w.nodes i).content t)
    (λ q. ap (λ m. row (w.nodes m).content t) (sym (eqb-true i k q))) (λ _. refl)

loss_at : {R : History} {e tokens k : ℕ} {w : Cluster} → Loss R e tokens k w → (i t : ℕ) → R.at i t (suc e) ≡ R.at i t e
loss_at {R} {e} {tokens} {k} {w} h i t = h.then.rows i t ∙ lost_rows k w i t ∙ sym (h.now.at.rows i t)

loss_born : {R : History} {e tokens k : ℕ} {w : Cluster} → Loss R e tokens k w → (i : ℕ) → R.born i e ≤ R.born i (suc e)
loss_born {R} {e} {tokens} {k} {w} h i =
    ⊎_elim
    (λ (q : eqb i k ≡ true).
    let same = eqb-true i k q in
    subst (λ m. R.born m e ≤ R.born m (suc e)) (sym same) (omega (arith, (h.now.nodes k).born, h.born)))
    (λ (q : eqb i k ≡ false). omega (arith, h.others i (eqb-false i k q)))
    (cases_Bool (eqb i k))

-- a proposal of the node that is lost is past
own_past : {R : History} {e tokens k : ℕ} {w : Cluster} → Loss R e tokens k w → (p : ProposalRecord) (b : Begun) → w.begun p ≡ Some b → p.node ≡ k → Past R (suc e) p
own_past {R} {e} {tokens} {k} {w} h p b at is =
    let early : p.boot < (w.nodes k).content.boot + 1 =
    ⊎_elim (λ (lt : p.boot < (w.nodes k).content.boot). let r : p.boot < (w.nodes k).content.boot + 1 = omega (arith, lt) in r)
    (λ (q : (p.boot ≡ (w.nodes k).content.boot) × (p.seq < (w.nodes k).voter.seq)). let r : p.boot < (w.nodes k).content.boot + 1 = omega (arith, q.0) in r)
    ((h.now.nodes k).earlier p b at is) in
    subst (λ m. p.boot < R.born m (suc e)) (sym is) (omega (arith, early, h.born))

still_past : {R : History} {e tokens k : ℕ} {w : Cluster} → Loss R e tokens k w → (p : ProposalRecord) → Past R e p → Past R (suc e) p
still_past h p past = omega (arith, past, loss_born h p.node)

lost_past : {R : History} {e tokens k : ℕ} {w : Cluster} → Loss R e tokens k w → (p : ProposalRecord) (b : Begun) → w.begun p ≡ Some b → R.lost p.node (suc e) ≡ true → Past R (suc e) p
unfolding lossy
lost_past {R} {e} {tokens} {k} {w} h p b at lost =
    ⊎_elim (λ (q : eqb p.node k ≡ true). own_past h p b at (eqb-true p.node k q))
    (λ (q : w.lost p.node ≡ true). still_past h p (h.now.book.gone p b at (h.now.at.lost p.node ∙ q)))
    (or_cases (eqb p.node k) (w.lost p.node) (sym (h.then.lost p.node) ∙ lost))

-- the least floor includes the floor of a node that has its store
left_below : {R : History} {e tokens k : ℕ} {w : Cluster} → Loss R e tokens k w → (i t hi : ℕ) → 1 ≤ i → i ≤ R.n → R.lost i (suc e) ≡ false → hi < (R.at i t e).next → hi < R.least t (suc e)
unfolding lossy
left_below {R} {e} {tokens} {k} {w} h i t hi low high left above =
    let told = greatest_above w.n (with_node k w.lost) (λ j. (row (w.nodes j).content t).next) i low (omega (arith, high, h.now.at.n)) (sym (h.then.lost i) ∙ left) in
    let here : (R.at i t e).next ≡ (row (w.nodes i).content t).next = ap (λ (r : RowRecord). r.next) (h.now.at.rows i t) in
    omega (arith, above, here, told, h.then.least t)

loss_above : {R : History} {e tokens k : ℕ} {w : Cluster} → Loss R e tokens k w → (g t hi : ℕ) → Stands R e g t hi → hi < (R.at g t (suc e)).next
loss_above {R} {e} h g t hi s = subst (λ (r : RowRecord). hi < r.next) (sym (loss_at h g t)) s.above

-- a proposal is past, or the least floor is above its factors
covered : {R : History} {e tokens k : ℕ} {w : Cluster} → Loss R e tokens k w → (p : ProposalRecord) (b : Begun) → w.begun p ≡ Some b → Past R (suc e) p ⊎ (b.hi < R.least b.token (suc e))
covered {R} {e} {tokens} {k} {w} h p b at =
    ⊎_elim (λ (lost : R.lost p.node (suc e) ≡ true). inl (lost_past h p b at lost))
    (λ (left : R.lost p.node (suc e) ≡ false).
    let m = h.now.book.member p b at in
    ⊎_elim (λ (past : Past R e p). inl (still_past h p past))
    (λ (above : b.hi < (R.at p.node b.token e).next). inr (left_below h p.node b.token b.hi m.0 m.1 left above))
    (h.now.book.own p b at))
    (cases_Bool (R.lost p.node (suc e)))

loss_extends : {R : History} {e tokens k : ℕ} {w : Cluster} → Loss R e tokens k w → Extends R e w.begun w.begun
loss_extends {R} {e} {tokens} {k} {w} h = record {
  book = λ p b at. at;
  born = loss_born h;
  stands = λ g p t lo hi first at s.
      ⊎_elim (λ (past : Past R (suc e) p). inl past)
      (λ (below : hi < R.least t (suc e)). inr (record { above = loss_above h g t hi s; safe = λ _ _. below }))
      (covered h p _ at);
}

-- the majority of a pass has one that is left
pass_told : {R : History} {e tokens k : ℕ} {w : Cluster} → Loss R e tokens k w → (p : Acceptance) → PassKept R e w.n w.begun w.nodes p → Few R (suc e) → p.hi < R.least p.token (suc e)
pass_told {R} {e} {tokens} {k} {w} h p q few =
    let one = one_left R.n q.voters (λ i. R.lost i (suc e)) (subst (λ m. majority_of m ≤ size m q.voters) (sym h.now.at.n) q.enough) few in
    left_below h one.0 p.token p.hi one.1 one.2 (not-true (R.lost one.0 (suc e)) one.4) (granted_stands (q.marks one.0 one.3)).above

loss_node : {R : History} {e tokens k : ℕ} {w : Cluster} → Loss R e tokens k w → (j : ℕ) → NodeKept R (suc e) tokens w.begun j ((lossy k w).nodes j).content ((lossy k w).nodes j).voter
unfolding lossy
loss_node {R} {e} {tokens} {k} {w} h j =
    cond_both (eqb j k) (lost_member (w.nodes k)) (w.nodes j) (λ (y : Member). NodeKept R (suc e) tokens w.begun j y.content y.voter)
    (λ q.
    subst (λ m. NodeKept R (suc e) tokens w.begun m (lost_member (w.nodes k)).content (lost_member (w.nodes k)).voter) (sym (eqb-true j k q))
    (let old = h.now.nodes k in
    record {
      rows = old.rows;
      born = omega (arith, h.born);
      grants = λ t p lo hi g. holds_later (loss_extends h) (old.grants t p lo hi g);
      earlier = earlier_boot w.begun k (w.nodes k).content.boot (w.nodes k).voter.seq old.earlier;
      pending = tt;
    }))
    (λ q.
    let old = h.now.nodes j in
    let born : R.born j (suc e) ≤ (w.nodes j).content.boot = omega (arith, h.others j (eqb-false j k q), old.born) in
    record {
      rows = old.rows;
      born = born;
      grants = λ t p lo hi g. holds_later (loss_extends h) (old.grants t p lo hi g);
      earlier = old.earlier;
      pending = pending_later R e w.begun w.begun (loss_extends h) j (w.nodes j).content.boot born (w.nodes j).voter.pending old.pending;
    })

lossy_keeps : {R : History} {e tokens k : ℕ} {w : Cluster} → Loss R e tokens k w → Kept R (suc e) tokens (lossy k w)
unfolding lossy
lossy_keeps {R} {e} {tokens} {k} {w} h = record {
  at = h.then;
  book = record {
    before = λ p b at. omega (arith, h.now.book.before p b at);
    once = h.now.book.once;
    token = h.now.book.token;
    span = h.now.book.span;
    member = h.now.book.member;
    own = λ p b at.
        ⊎_elim (λ (past : Past R e p). inl (still_past h p past))
        (λ (above : b.hi < (R.at p.node b.token e).next). inr (subst (λ (r : RowRecord). b.hi < r.next) (sym (loss_at h p.node b.token)) above))
        (h.now.book.own p b at);
    gone = lost_past h;
  };
  nodes = loss_node h;
  sent = sent_later R e w.begun w.begun (loss_extends h) w.sent h.now.sent;
  accepted = each_weaker (PassKept R e w.n w.begun w.nodes) (PassKept R (suc e) w.n w.begun (set_node k (lost_member (w.nodes k)) w.nodes))
      (λ p q.
      swap_pass R (suc e) w.n w.begun w.nodes k (lost_member (w.nodes k)) (λ _ _ _ _. tt) p
      (pass_stands R e w.n w.begun w.nodes p q
      (λ g m. record { above = loss_above h g p.token p.hi (granted_stands (q.marks g m)); safe = λ _ few. pass_told h p q few })))
      w.accepted h.now.accepted;
  distinct = h.now.distinct;
}

pub loss_keeps : (R : History) (e tokens k : ℕ) (w : Cluster) → has_store w k ≡ true → Kept R e tokens w → At R (suc e) (after_loss k w)
    → R.born k (suc e) ≡ (w.nodes k).content.boot + 1 → ((i : ℕ) → i ≢ k → R.born i (suc e) ≡ R.born i e) → Kept R (suc e) tokens (after_loss k w)
unfolding after_loss lossy
loss_keeps R e tokens k w there now then born others =
    cond_both (has_store w k) (lossy k w) w (λ x. At R (suc e) x → Kept R (suc e) tokens x)
    (λ _ at. lossy_keeps (record { now = now; then = at; born = born; others = others }))
    (λ q _. absurd (false≢true (sym q ∙ there)))
    then

-- ---- a replacement store

-- the cluster after a store is replaced
renewed : ℕ → ℕ → (ℕ → ℕ) → Cluster → Cluster
renewed k boot floor w = record w {
  nodes = set_node k (opening_member boot (length (w.nodes k).content.rows) floor) w.nodes;
  lost = without_node k w.lost;
}

record Renewal (R : History) (e tokens k boot : ℕ) (floor : ℕ → ℕ) (w : Cluster) : Type 0 where
  now : Kept R e tokens w
  then : At R (suc e) (renewed k boot floor w)
  born : (i : ℕ) → R.born i (suc e) ≡ R.born i e
  lost : w.lost k ≡ true
  few : size w.n w.lost < majority_of w.n
  above : (w.nodes k).content.boot ≤ boot
  most : (t : ℕ) → t < tokens → w.least t ≤ floor t

-- a node that is lost now was lost before, and is another
was_lost : {R : History} {e tokens k boot : ℕ} {floor : ℕ → ℕ} {w : Cluster} → Renewal R e tokens k boot floor w → (i : ℕ) → R.lost i (suc e) ≡ true → R.lost i e ≡ true
unfolding renewed
was_lost {R} {e} {tokens} {k} {boot} {floor} {w} h i lost = h.now.at.lost i ∙ (and_parts (not (eqb i k)) (w.lost i) (sym (h.then.lost i) ∙ lost)).1

few_before : {R : History} {e tokens k boot : ℕ} {floor : ℕ → ℕ} {w : Cluster} → Renewal R e tokens k boot floor w → Few R e
few_before {R} {e} {tokens} {k} {boot} {floor} {w} h =
    let same : size w.n (λ i. R.lost i e) ≡ size w.n w.lost = same_size w.n (λ i. R.lost i e) w.lost h.now.at.lost in
    subst (λ m. size m (λ i. R.lost i e) < majority_of m) (sym h.now.at.n) (omega (arith, same, h.few))

renewed_at : {R : History} {e tokens k boot : ℕ} {floor : ℕ → ℕ} {w : Cluster} → Renewal R e tokens k boot floor w → (i t : ℕ) → i ≢ k → R.at i t (suc e) ≡ R.at i t e
unfolding renewed
renewed_at {R} {e} {tokens} {k} {boot} {floor} {w} h i t other =
    h.then.rows i t
    ∙ cond_both (eqb i k) (opening_member boot (length (w.nodes k).content.rows) floor) (w.nodes i) (λ (y : Member). row y.content t ≡ row (w.nodes i).content t)
    (λ q. absurd (other (eqb-true i k q))) (λ _. refl)
    ∙ sym (h.now.at.rows i t)

renewed_floor : {R : History} {e tokens k boot : ℕ} {floor : ℕ → ℕ} {w : Cluster} → Renewal R e tokens k boot floor w → (t : ℕ) → t < tokens → (R.at k t (suc e)).next ≡ floor t
unfolding renewed
renewed_floor {R} {e} {tokens} {k} {boot} {floor} {w} h t within =
    let rows = (h.now.nodes k).rows in
    ap (λ (r : RowRecord). r.next)
    (h.then.rows k t
    ∙ ap (λ (y : Member). row y.content t) (cond-true (eqb k k) (opening_member boot (length (w.nodes k).content.rows) floor) (w.nodes k) (eq-eqb k k refl)))
    ∙ opening_floor (length (w.nodes k).content.rows) floor t (omega (arith, within, rows))

renewed_stands : {R : History} {e tokens k boot : ℕ} {floor : ℕ → ℕ} {w : Cluster} → Renewal R e tokens k boot floor w → (g t hi : ℕ) → t < tokens → Stands R e g t hi → Stands R (suc e) g t hi
unfolding renewed
renewed_stands {R} {e} {tokens} {k} {boot} {floor} {w} h g t hi within s = record {
  above =
      ⊎_elim
      (λ (q : eqb g k ≡ true).
      let is : g ≡ k = eqb-true g k q in
      let below = s.safe (h.now.at.lost g ∙ ap w.lost is ∙ h.lost) (few_before h) in
      subst (λ m. hi < (R.at m t (suc e)).next) (sym is) (omega (arith, below, h.now.at.least t, h.most t within, renewed_floor h t within)))
      (λ (q : eqb g k ≡ false). subst (λ (r : RowRecord). hi < r.next) (sym (renewed_at h g t (eqb-false g k q))) s.above)
      (cases_Bool (eqb g k));
  safe = λ lost _.
      let below = s.safe (was_lost h g lost) (few_before h) in
      omega (arith, below, least_same h);
}
  where
    least_same : Renewal R e tokens k boot floor w → R.least t (suc e) ≡ R.least t e
    least_same r = r.then.least t ∙ sym (r.now.at.least t)

renewed_extends : {R : History} {e tokens k boot : ℕ} {floor : ℕ → ℕ} {w : Cluster} → Renewal R e tokens k boot floor w → Extends R e w.begun w.begun
renewed_extends h = record {
  book = λ p b at. at;
  born = λ i. omega (arith, h.born i);
  stands = λ g p t lo hi first at s. inr (renewed_stands h g t hi (h.now.book.token p _ at) s);
}

renewed_past : {R : History} {e tokens k boot : ℕ} {floor : ℕ → ℕ} {w : Cluster} → Renewal R e tokens k boot floor w → (p : ProposalRecord) → Past R e p → Past R (suc e) p
renewed_past h p past = omega (arith, past, h.born p.node)

renewed_node : {R : History} {e tokens k boot : ℕ} {floor : ℕ → ℕ} {w : Cluster} → Renewal R e tokens k boot floor w → (j : ℕ)
    → NodeKept R (suc e) tokens w.begun j ((renewed k boot floor w).nodes j).content ((renewed k boot floor w).nodes j).voter
unfolding renewed
renewed_node {R} {e} {tokens} {k} {boot} {floor} {w} h j =
    let size = length (w.nodes k).content.rows in
    let new = opening_member boot size floor in
    let old = h.now.nodes k in
    cond_both (eqb j k) new (w.nodes j) (λ (y : Member). NodeKept R (suc e) tokens w.begun j y.content y.voter)
    (λ q.
    subst (λ m. NodeKept R (suc e) tokens w.begun m new.content new.voter) (sym (eqb-true j k q))
    (record {
      rows = opening_size size floor ∙ old.rows;
      born = omega (arith, h.born k, old.born, h.above);
      grants = λ t p lo hi g. absurd (none-some (p, span_of lo hi) (sym (opening_grant size floor t) ∙ g));
      earlier = λ p b at is.
          inl (omega (arith, subst (λ m. p.boot < R.born m e) is (h.now.book.gone p b at (h.now.at.lost p.node ∙ ap w.lost is ∙ h.lost)), old.born, h.above));
      pending = tt;
    }))
    (λ q.
    let other = h.now.nodes j in
    let born : R.born j (suc e) ≤ (w.nodes j).content.boot = omega (arith, h.born j, other.born) in
    record {
      rows = other.rows;
      born = born;
      grants = λ t p lo hi g. holds_later (renewed_extends h) (other.grants t p lo hi g);
      earlier = other.earlier;
      pending = pending_later R e w.begun w.begun (renewed_extends h) j (w.nodes j).content.boot born (w.nodes j).voter.pending other.pending;
    })

renewed_keeps : {R : History} {e tokens k boot : ℕ} {floor : ℕ → ℕ} {w : Cluster} → Renewal R e tokens k boot floor w → Kept R (suc e) tokens (renewed k boot floor w)
unfolding renewed
renewed_keeps {R} {e} {tokens} {k} {boot} {floor} {w} h = record {
  at = h.then;
  book = record {
    before = λ p b at. omega (arith, h.now.book.before p b at);
    once = h.now.book.once;
    token = h.now.book.token;
    span = h.now.book.span;
    member = h.now.book.member;
    own = λ p b at.
        ⊎_elim (λ (past : Past R e p). inl (renewed_past h p past))
        (λ (above : b.hi < (R.at p.node b.token e).next).
        ⊎_elim (λ (q : eqb p.node k ≡ true). inl (renewed_past h p (h.now.book.gone p b at (h.now.at.lost p.node ∙ ap w.lost (eqb-true p.node k q) ∙ h.lost))))
        (λ (q : eqb p.node k ≡ false). inr (subst (λ (r : RowRecord). b.hi < r.next) (sym (renewed_at h p.node b.token (eqb-false p.node k q))) above))
        (cases_Bool (eqb p.node k)))
        (h.now.book.own p b at);
    gone = λ p b at lost. renewed_past h p (h.now.book.gone p b at (was_lost h p.node lost));
  };
  nodes = renewed_node h;
  sent = sent_later R e w.begun w.begun (renewed_extends h) w.sent h.now.sent;
  accepted = each_weaker (PassKept R e w.n w.begun w.nodes) (PassKept R (suc e) w.n w.begun (set_node k (opening_member boot (length (w.nodes k).content.rows) floor) w.nodes))
      (λ p q.
      swap_pass R (suc e) w.n w.begun w.nodes k (opening_member boot (length (w.nodes k).content.rows) floor) (λ _ _ _ _. tt) p
      (pass_stands R e w.n w.begun w.nodes p q
      (λ g m. renewed_stands h g p.token p.hi (h.now.book.token q.proposal _ q.begun) (granted_stands (q.marks g m)))))
      w.accepted h.now.accepted;
  distinct = h.now.distinct;
}

pub replacement_keeps : (R : History) (e tokens k boot : ℕ) (floor : ℕ → ℕ) (w : Cluster) → may_replace w k boot floor ≡ true → Kept R e tokens w → At R (suc e) (after_replacement k boot floor w)
    → ((i : ℕ) → R.born i (suc e) ≡ R.born i e) → Kept R (suc e) tokens (after_replacement k boot floor w)
unfolding after_replacement renewed
replacement_keeps R e tokens k boot floor w may now then born =
    let count = length (w.nodes k).content.rows in
    let a = and_parts (is_member w.n k && w.lost k) _ may in
    let lost = and_parts (is_member w.n k) (w.lost k) a.0 in
    let b = and_parts (ltb (size w.n w.lost) (majority_of w.n)) _ a.1 in
    let c = and_parts (leb (w.nodes k).content.boot boot) _ b.1 in
    let d = and_parts (leb boot last_boot) (all_most count w.least floor) c.1 in
    cond_both (may_replace w k boot floor) (renewed k boot floor w) w (λ x. At R (suc e) x → Kept R (suc e) tokens x)
    (λ _ at. renewed_keeps (record {
      now = now;
      then = at;
      born = born;
      lost = lost.1;
      few = ltb-true (size w.n w.lost) (majority_of w.n) b.0;
      above = leb-true (w.nodes k).content.boot boot c.0;
      most = λ t within. all_most_at count w.least floor t d.1 (omega (arith, within, (now.nodes k).rows));
    }))
    (λ q _. absurd (false≢true (sym q ∙ may)))
    then
