-- No acceptance is of a factor below the floors with which its token was enrolled.
use Rattle.std.proofs.Common.{◌≡◌, ℕ, ℤ, suc, ◌+◌, ◌^◌, ◌<◌, ◌≤◌, ⊎_elim, Bool, true, false, not, cond, ◌&&◌, ◌||◌, List, [], ◌∷◌, length, Option, Some, None, refl, sym, ap, ◌∙◌, subst, arith, eqb, leb, ltb}
use Rattle.std.specs.List.{slice_get}
use Rattle.std.proofs.lemmas.Bool.{cond_both, cond-true, cond-false, eqb-true, eqb-false, leb-true, ltb-false, and_parts, or_cases, false≢true}
use Rattle.std.proofs.lemmas.Option.{none-some, same_Some}
use Rattle.floor_store.specs.Records.{ProposalRecord, RowRecord}
use Rattle.vote_core.specs.Calls.{FitsVoter}
use Rattle.vote_core.specs.Roster.{Roster, Deed, Proposes, Hears, Ticks, Tells, Throttles, Enrols, Rests, Happening, Does, Stops, Reopens, Loses, Renews, token_of, act_of_hearing, is_new, act_of, renewed_floor, event_of, with_tokens, enrolled_by, enrolled_after, after_happening, serve, opened, taken, IsGivenFrom, IsEnrolledFrom}
use Rattle.vote_core.specs.Rows.{row}
use Rattle.vote_core.specs.Safety.{AreFrom, IsDeliverable, MayOpen}
use Rattle.vote_core.specs.Schedule.{Member, Envelope, Begun, Cluster, Begin, Deliver, Idle, Throttle, Opening, raised_member, has_store, is_running, place_of, set_node, with_member, stopped_member, cluster_after, with_proposal_begun, may_begin, after_proposal, after_act, node_of, may_replace, opening_member, without_node, after_replacement, with_sent_of, after_event, run, start}
use Rattle.vote_core.specs.Voting.{propose, same_proposal}
use Rattle.vote_core.specs.declared.message.Message.{Message}
use Rattle.vote_core.specs.declared.message.Message.TheVariants.{Ask, Grant, Deny, Floor}
use Rattle.vote_core.proofs.Basics.{each_get, opening_size, opening_floor}
use Rattle.vote_core.proofs.Begins.{restart_book, loss_book, replacement_book, delivered_book}
use Rattle.vote_core.proofs.Calms.{Ordered, act_leaves}
use Rattle.vote_core.proofs.Envelopes.{Posts, event_posts, all_deliverable}
use Rattle.vote_core.proofs.Frames.{raise_row, raised_row}
use Rattle.vote_core.proofs.Kept.{Book, named, PassKept}
use Rattle.vote_core.proofs.Rosters.{events_of, run_is}
use Rattle.vote_core.proofs.Runs.{rows_restart, history_of, all_kept}
use Rattle.vote_core.proofs.Unknown.{loss_row}

-- what was begun of the token is of no factor below this
abbrev BookFrom : ℕ → ℕ → Book → Type 0
BookFrom t x B = (p : ProposalRecord) (b : Begun) → B p ≡ Some b → b.token ≡ t → x ≤ b.lo

record From (t x : ℕ) (r : Roster) : Type 0 where
  rows : (j : ℕ) → r.enrolled j t ≡ true → x ≤ (row (r.cluster.nodes j).content t).next
  book : BookFrom t x r.cluster.begun

-- ---- what is begun

begun_from : (t x e : ℕ) (r : Roster) (i u lo hi : ℕ) (drift : ℤ) → From t x r → r.enrolled i u ≡ true → BookFrom t x (after_act e (Begin i u lo hi drift) r.cluster).begun
unfolding after_act after_proposal with_proposal_begun cluster_after
begun_from t x e r i u lo hi drift k on =
    let w = r.cluster in
    let c = (w.nodes i).content in
    let v = (w.nodes i).voter in
    let b : Begun = record { token = u; lo = lo; hi = hi; event = e } in
    let s = propose (place_of w i) u lo hi drift c v in
    cond_both (may_begin w i u lo hi) (after_proposal e i u lo hi drift w) w (λ (y : Cluster). BookFrom t x y.begun)
    (λ may.
    let span = eqb hi lo || eqb hi (lo + 1) in
    let few = ltb (length v.pending) 32 in
    let one = and_parts (is_running w i) (ltb u (length c.rows) && (leb (row c u).next lo && (span && few))) may in
    let two = and_parts (ltb u (length c.rows)) (leb (row c u).next lo && (span && few)) one.1 in
    let three = and_parts (leb (row c u).next lo) (span && few) two.1 in
    let low = leb-true (row c u).next lo three.0 in
    cond_both (ltb v.seq (2 ^ 62)) (cluster_after e i s (with_proposal_begun e i u lo hi w)) (with_member i (stopped_member (w.nodes i)) w) (λ (y : Cluster). BookFrom t x y.begun)
    (λ _ p d at token.
    cond_both (same_proposal p (named i c.boot v.seq)) (Some b) (w.begun p) (λ o. o ≡ Some d → x ≤ d.lo)
    (λ _ z.
    let same = same_Some b d z in
    let is : u ≡ t = ap (λ (y : Begun). y.token) same ∙ token in
    let above = k.rows i (sym (ap (r.enrolled i) is) ∙ on) in
    let here : (row c t).next ≡ (row c u).next = ap (λ m. (row c m).next) (sym is) in
    let lo_is : lo ≡ d.lo = ap (λ (y : Begun). y.lo) same in
    omega (arith, above, here, low, lo_is))
    (λ _ z. k.book p d z token) at)
    (λ _. k.book))
    (λ _. k.book)

hearing_book : (t x e : ℕ) (r : Roster) (m : ℕ) (o : Option Envelope) → From t x r → BookFrom t x (after_act e (act_of_hearing r m o) r.cluster).begun
unfolding after_act
hearing_book t x e r m None k = delivered_book e (slice_get r.cluster.sent m) r.cluster (BookFrom t x) k.book
hearing_book t x e r m (Some l) k =
    cond_both (r.enrolled l.receiver (token_of l.message)) (Deliver m) (Idle l.receiver) (λ a. BookFrom t x (after_act e a r.cluster).begun)
    (λ _. delivered_book e (slice_get r.cluster.sent m) r.cluster (BookFrom t x) k.book) (λ _. k.book)

deed_book : (t x e : ℕ) (r : Roster) (d : Deed) → From t x r → BookFrom t x (after_act e (act_of r d) r.cluster).begun
unfolding after_act cluster_after
deed_book t x e r (Proposes i u lo hi drift) k =
    cond_both (r.enrolled i u) (Begin i u lo hi drift) (Idle i) (λ a. BookFrom t x (after_act e a r.cluster).begun) (λ on. begun_from t x e r i u lo hi drift k on) (λ _. k.book)
deed_book t x e r (Hears m) k = hearing_book t x e r m (slice_get r.cluster.sent m) k
deed_book t x e r (Ticks i told) k = cond_both (is_running r.cluster i) _ r.cluster (λ (y : Cluster). BookFrom t x y.begun) (λ _. k.book) (λ _. k.book)
deed_book t x e r (Tells i told) k = cond_both (is_running r.cluster i) _ r.cluster (λ (y : Cluster). BookFrom t x y.begun) (λ _. k.book) (λ _. k.book)
deed_book t x e r (Throttles i u gate) k =
    cond_both (r.enrolled i u) (Throttle i u gate) (Idle i) (λ a. BookFrom t x (after_act e a r.cluster).begun)
    (λ _. cond_both (is_running r.cluster i) _ r.cluster (λ (y : Cluster). BookFrom t x y.begun) (λ _. k.book) (λ _. k.book)) (λ _. k.book)
deed_book t x e r (Enrols i given floor) k = cond_both (has_store r.cluster i) _ r.cluster (λ (y : Cluster). BookFrom t x y.begun) (λ _. k.book) (λ _. k.book)
deed_book t x e r (Rests i) k = k.book

-- ---- the rows

all_ordered : (tokens : ℕ) (w : Cluster) → Posts tokens w → (k : ℕ) (l : Envelope) → slice_get w.sent k ≡ Some l → Ordered l.message
all_ordered tokens w h k l at = of l.message l.receiver l.sender (each_get (IsDeliverable w.n tokens) w.sent k l h.sent at).fits
  where
    of : (m : Message) (to from : ℕ) → FitsVoter (record { me = to; n = w.n }) tokens from m → Ordered m
    of (Ask p t span) to from fits = fits.1.ordered
    of (Grant p t span) to from fits = tt
    of (Deny p t next) to from fits = tt
    of (Floor t next) to from fits = tt

-- what an enrolment makes of a row is at least the floor that is given
new_row : (t x e : ℕ) (r : Roster) (i : ℕ) (given : ℕ → Bool) (floor : ℕ → ℕ) → has_store r.cluster i ≡ true → t < length (r.cluster.nodes i).content.rows → (given t ≡ true → x ≤ floor t) → is_new r i given floor t ≡ true
    → x ≤ (row ((after_act e (act_of r (Enrols i given floor)) r.cluster).nodes i).content t).next
unfolding after_act
new_row t x e r i given floor has within from new =
    let w = r.cluster in
    let c = (w.nodes i).content in
    let f = λ (u : ℕ). cond (is_new r i given floor u) (floor u) 0 in
    let parts = and_parts (given t) (not (r.enrolled i t) && leb (row c t).next (floor t)) new in
    let low = from parts.0 in
    let here : f t ≡ floor t = cond-true (is_new r i given floor t) (floor t) 0 new in
    let above : floor t ≤ (raised_row (f t) (row c t)).next =
    cond_both (ltb (row c t).next (f t)) _ (row c t) (λ (y : RowRecord). floor t ≤ y.next) (λ _. omega (arith, here)) (λ q. omega (arith, here, ltb-false (row c t).next (f t) q)) in
    let raised = raise_row (length c.rows) t f c within (omega arith) in
    cond_both (has_store w i) (with_member i (raised_member f (w.nodes i)) w) w (λ (y : Cluster). x ≤ (row (y.nodes i).content t).next)
    (λ _. cond_both (eqb i i) (raised_member f (w.nodes i)) (w.nodes i) (λ (y : Member). x ≤ (row y.content t).next)
    (λ _. subst (λ (y : RowRecord). x ≤ y.next) (sym raised) (omega (arith, low, above))) (λ q. absurd (eqb-false i i q refl)))
    (λ q. absurd (false≢true (sym q ∙ has)))

-- a token enrolled after an action was enrolled before, or is new at the action's node
deed_enrolls : (r : Roster) (d : Deed) (j t : ℕ) (P : Type 0) → enrolled_by r d j t ≡ true → (r.enrolled j t ≡ true → P)
    → ((i : ℕ) (given : ℕ → Bool) (floor : ℕ → ℕ) → d ≡ Enrols i given floor → has_store r.cluster i ≡ true → j ≡ i → is_new r i given floor t ≡ true → P) → P
deed_enrolls r (Proposes i u lo hi drift) j t P h old new = old h
deed_enrolls r (Hears m) j t P h old new = old h
deed_enrolls r (Ticks i told) j t P h old new = old h
deed_enrolls r (Tells i told) j t P h old new = old h
deed_enrolls r (Throttles i u gate) j t P h old new = old h
deed_enrolls r (Enrols i given floor) j t P h old new =
    let f = λ (u : ℕ). r.enrolled i u || is_new r i given floor u in
    cond_both (has_store r.cluster i) (with_tokens i f r.enrolled) r.enrolled (λ E. E j t ≡ true → P)
    (λ has. cond_both (eqb j i) f (r.enrolled j) (λ g. g t ≡ true → P)
    (λ q z.
    let is = eqb-true j i q in
    ⊎_elim (λ (on : r.enrolled i t ≡ true). old (ap (λ m. r.enrolled m t) is ∙ on)) (λ (fresh : is_new r i given floor t ≡ true). new i given floor refl has is fresh)
    (or_cases (r.enrolled i t) (is_new r i given floor t) z))
    (λ _ z. old z))
    (λ _ z. old z) h
deed_enrolls r (Rests i) j t P h old new = old h

abbrev GivesFrom : ℕ → ℕ → Deed → Type 0
GivesFrom t x (Enrols i given floor) = given t ≡ true → x ≤ floor t
GivesFrom t x d = Unit {0}

deed_rows : (t x tokens e : ℕ) (r : Roster) (d : Deed) → t < tokens → Posts tokens r.cluster → From t x r → GivesFrom t x d
    → (j : ℕ) → enrolled_by r d j t ≡ true → x ≤ (row ((after_act e (act_of r d) r.cluster).nodes j).content t).next
deed_rows t x tokens e r d within posts k gives j on =
    deed_enrolls r d j t (x ≤ (row ((after_act e (act_of r d) r.cluster).nodes j).content t).next) on
    (λ old. let rise = (act_leaves e (act_of r d) r.cluster (all_ordered tokens r.cluster posts)).rise j t in omega (arith, k.rows j old, rise))
    (λ i given floor is has node new.
    let size = (posts.nodes i).rows in
    subst (λ m. x ≤ (row ((after_act e (act_of r d) r.cluster).nodes m).content t).next) (sym node)
    (subst (λ y. x ≤ (row ((after_act e (act_of r y) r.cluster).nodes i).content t).next) (sym is)
    (new_row t x e r i given floor has (omega (arith, within, size)) (subst (GivesFrom t x) is gives) new)))

-- ---- what happens

happens_from : (t x tokens e : ℕ) (r : Roster) (y : Happening) → t < tokens → Posts tokens r.cluster → IsGivenFrom t x y → From t x r → From t x (after_happening e y r)
unfolding after_event after_replacement
happens_from t x tokens e r (Does d) within posts from k =
    record { rows = deed_rows t x tokens e r d within posts k (of d from); book = deed_book t x e r d k }
  where
    of : (d : Deed) → IsGivenFrom t x (Does d) → GivesFrom t x d
    of (Proposes i u lo hi drift) h = tt
    of (Hears m) h = tt
    of (Ticks i told) h = tt
    of (Tells i told) h = tt
    of (Throttles i u gate) h = tt
    of (Enrols i given floor) h = h
    of (Rests i) h = tt
happens_from t x tokens e r (Stops true d) within posts from k =
    let unsent = with_sent_of r.cluster (after_act e (act_of r d) r.cluster) in
    record {
      rows = λ j on.
          subst (λ (z : RowRecord). x ≤ z.next) (sym (rows_restart unsent (node_of (act_of r d) r.cluster) j t))
          (deed_rows t x tokens e r d within posts k (of d from) j on);
      book = restart_book (node_of (act_of r d) r.cluster) unsent (BookFrom t x) (deed_book t x e r d k);
    }
  where
    of : (d : Deed) → IsGivenFrom t x (Stops true d) → GivesFrom t x d
    of (Proposes i u lo hi drift) h = tt
    of (Hears m) h = tt
    of (Ticks i told) h = tt
    of (Tells i told) h = tt
    of (Throttles i u gate) h = tt
    of (Enrols i given floor) h = h
    of (Rests i) h = tt
happens_from t x tokens e r (Stops false d) within posts from k = record {
  rows = λ j on. subst (λ (z : RowRecord). x ≤ z.next) (sym (rows_restart r.cluster (node_of (act_of r d) r.cluster) j t)) (k.rows j on);
  book = restart_book (node_of (act_of r d) r.cluster) r.cluster (BookFrom t x) k.book;
}
happens_from t x tokens e r (Reopens i) within posts from k = record {
  rows = λ j on. subst (λ (z : RowRecord). x ≤ z.next) (sym (rows_restart r.cluster (Some i) j t)) (k.rows j on);
  book = restart_book (Some i) r.cluster (BookFrom t x) k.book;
}
happens_from t x tokens e r (Loses i) within posts from k = record {
  rows = λ j on. subst (λ (z : RowRecord). x ≤ z.next) (sym (loss_row i r.cluster j t)) (k.rows j on);
  book = loss_book i r.cluster (BookFrom t x) k.book;
}
happens_from t x tokens e r (Renews i boot given floor) within posts from k = record {
  rows = renewed_rows;
  book = replacement_book i boot (renewed_floor r.cluster given floor) r.cluster (BookFrom t x) k.book;
}
  where
    new_rows : given t ≡ true → x ≤ (row (opening_member boot (length (r.cluster.nodes i).content.rows) (renewed_floor r.cluster given floor)).content t).next
    new_rows on =
        let many = (posts.nodes i).rows in
        let low = from on in
        let is : renewed_floor r.cluster given floor t ≡ floor t = cond-true (given t) (floor t) (r.cluster.least t) on in
        omega (arith, low, is, opening_floor (length (r.cluster.nodes i).content.rows) (renewed_floor r.cluster given floor) t (omega (arith, within, many)))

    renewed_rows : (j : ℕ) → enrolled_after r (Renews i boot given floor) j t ≡ true
        → x ≤ (row ((after_replacement i boot (renewed_floor r.cluster given floor) r.cluster).nodes j).content t).next
    renewed_rows j on = by (may_replace r.cluster i boot (renewed_floor r.cluster given floor)) on
      where
        by : (b : Bool) → (cond b (with_tokens i given r.enrolled) r.enrolled) j t ≡ true
            → x ≤ (row ((cond b (record r.cluster { nodes = set_node i (opening_member boot (length (r.cluster.nodes i).content.rows) (renewed_floor r.cluster given floor)) r.cluster.nodes; lost = without_node i r.cluster.lost }) r.cluster).nodes j).content t).next
        by true h =
            cond_both (eqb j i) (opening_member boot (length (r.cluster.nodes i).content.rows) (renewed_floor r.cluster given floor)) (r.cluster.nodes j)
            (λ (y : Member). x ≤ (row y.content t).next)
            (λ q. new_rows (sym (ap (λ (g : ℕ → Bool). g t) (cond-true (eqb j i) given (r.enrolled j) q)) ∙ h))
            (λ q. k.rows j (sym (ap (λ (g : ℕ → Bool). g t) (cond-false (eqb j i) given (r.enrolled j) q)) ∙ h))
        by false h = k.rows j h

from_run : (t x tokens : ℕ) (xs : List Happening) (e : ℕ) (r : Roster) → t < tokens → ((k : ℕ) (y : Happening) → slice_get xs k ≡ Some y → IsGivenFrom t x y) → Posts tokens r.cluster → From t x r → From t x (serve e xs r)
unfolding serve
from_run t x tokens [] e r within from posts k = k
from_run t x tokens (y ∷ xs) e r within from posts k =
    from_run t x tokens xs (suc e) (after_happening e y r) within (λ m. from (suc m)) (event_posts tokens e (event_of r y) r.cluster posts)
    (happens_from t x tokens e r y within posts (from 0 y refl) k)

pub enrolled_from : (n tokens : ℕ) (opening : Opening) (enrolled : ℕ → ℕ → Bool) (xs : List Happening) → MayOpen n tokens opening → (token least : ℕ) → token < tokens
    → IsEnrolledFrom token least opening enrolled xs → AreFrom token least (taken n tokens opening enrolled xs)
enrolled_from n tokens opening enrolled xs may token least within from i p at same =
    let first = opened n tokens opening enrolled in
    let es = events_of 0 xs first in
    let whole = run_is xs 0 first in
    let all = all_kept n tokens opening es may in
    let w = run 0 es (start n tokens opening) in
    let R = history_of n tokens opening es in
    let kp = each_get (PassKept R (length es) w.n w.begun w.nodes) w.accepted i p all.accepted (subst (λ (c : Cluster). slice_get c.accepted i ≡ Some p) whole at) in
    let k = from_run token least tokens xs 0 first within from.1
    (record { nodes = λ node. record { rows = opening_size tokens (opening.floor node); pending = tt }; sent = all_deliverable n tokens opening.old (λ j m is. (may j m is).0) })
    (record {
      rows = λ j on. let low = from.0 j on in omega (arith, low, opening_floor tokens (opening.floor j) token within);
      book = λ q b h _. absurd (none-some b h);
    }) in
    let b : Begun = record { token = p.token; lo = p.lo; hi = p.hi; event = p.began } in
    k.book kp.proposal b (subst (λ (c : Cluster). c.begun kp.proposal ≡ Some b) (sym whole) kp.begun) same
