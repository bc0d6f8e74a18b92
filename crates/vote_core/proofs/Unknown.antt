-- The rows of tokens that are not enrolled are bounds, and what an enrolment makes of one.
use Rattle.std.proofs.Common.{◌≡◌, ℕ, zero, suc, ◌<◌, ◌≤◌, ◌⊎◌, inl, inr, ⊎_elim, Bool, true, false, not, cond, ◌&&◌, ◌||◌, List, [], ◌∷◌, length, take, get_or, Option, Some, None, refl, sym, ap, ◌∙◌, subst, arith, eqb, leb, ltb, ◌^◌}
use Rattle.std.specs.List.{slice_get}
use Rattle.std.proofs.lemmas.Bool.{cond_both, cond-true, cond-false, eqb-true, eqb-false, leb-true, leb-false, ltb-false, and_parts, and_from, not-true, cases_Bool, cases_lt, false≢true}
use Rattle.std.proofs.lemmas.Option.{none-some, same_Some}
use Rattle.floor_store.specs.Content.{opening_row}
use Rattle.floor_store.specs.Records.{RowRecord}
use Rattle.vote_core.specs.NodeSet.{with_node}
use Rattle.vote_core.specs.Roster.{Roster, Deed, Proposes, Hears, Ticks, Tells, Throttles, Enrols, Rests, Happening, Does, Stops, Reopens, Loses, Renews, token_of, act_of_hearing, is_new, act_of, renewed_floor, event_of, with_tokens, enrolled_by, enrolled_after, after_happening, serve, opened, served, AreGivenAll, AreUnbound}
use Rattle.vote_core.specs.Rows.{row, no_row}
use Rattle.vote_core.specs.Safety.{MayOpen}
use Rattle.vote_core.specs.Schedule.{Member, Envelope, Cluster, Act, Begin, Deliver, Tick, Throttle, Idle, TickTelling, Tell, Raise, Opening, raised_member, is_member, has_store, is_running, set_node, with_member, cluster_after, with_proposal_begun, may_begin, after_proposal, after_delivery, after_act, node_of, restarted_member, after_restart, lost_member, greater, greatest, after_loss, may_replace, opening_rows, opening_member, without_node, after_replacement, with_sent_of, after_event}
use Rattle.vote_core.specs.Voting.{raise_all}
use Rattle.vote_core.proofs.Basics.{Each, each_append, each_get_or, opening_size, opening_floor}
use Rattle.vote_core.proofs.Frames.{Spared, act_row, raise_row, raised_row, swap_row}
use Rattle.vote_core.proofs.Rosters.{events_of, run_is}
use Rattle.vote_core.proofs.Runs.{rows_restart, all_kept}

-- ---- the effects of an action

or_false : (a b : Bool) → (a || b) ≡ false → (a ≡ false) × (b ≡ false)
or_false true b h = absurd (false≢true (sym h))
or_false false b h = (refl, h)

-- a token enrolled before an action is enrolled after it
deed_grows : (r : Roster) (d : Deed) (j u : ℕ) → enrolled_by r d j u ≡ false → r.enrolled j u ≡ false
deed_grows r (Proposes i t lo hi drift) j u h = h
deed_grows r (Hears k) j u h = h
deed_grows r (Ticks i told) j u h = h
deed_grows r (Tells i told) j u h = h
deed_grows r (Throttles i t gate) j u h = h
deed_grows r (Enrols i given floor) j u h =
    let f = λ (t : ℕ). r.enrolled i t || is_new r i given floor t in
    cond_both (has_store r.cluster i) (with_tokens i f r.enrolled) r.enrolled (λ E. E j u ≡ false → r.enrolled j u ≡ false)
    (λ _. cond_both (eqb j i) f (r.enrolled j) (λ g. g u ≡ false → r.enrolled j u ≡ false)
    (λ q z. ap (λ m. r.enrolled m u) (eqb-true j i q) ∙ (or_false (r.enrolled i u) (is_new r i given floor u) z).0) (λ _ z. z))
    (λ _ z. z) h
deed_grows r (Rests i) j u h = h

-- what was not enrolled is not new
not_new : (r : Roster) (i : ℕ) (given : ℕ → Bool) (floor : ℕ → ℕ) (j u : ℕ) → enrolled_by r (Enrols i given floor) j u ≡ false → has_store r.cluster i ≡ true → j ≡ i → is_new r i given floor u ≡ false
not_new r i given floor j u h has is =
    let f = λ (t : ℕ). r.enrolled i t || is_new r i given floor t in
    cond_both (has_store r.cluster i) (with_tokens i f r.enrolled) r.enrolled (λ E. E j u ≡ false → is_new r i given floor u ≡ false)
    (λ _. cond_both (eqb j i) f (r.enrolled j) (λ g. g u ≡ false → is_new r i given floor u ≡ false)
    (λ _ z. (or_false (r.enrolled i u) (is_new r i given floor u) z).1) (λ q _. absurd (eqb-false j i q is)))
    (λ q _. absurd (false≢true (sym q ∙ has))) h

other_token : (r : Roster) (i t j u : ℕ) → r.enrolled i t ≡ true → r.enrolled j u ≡ false → j ≡ i → u ≡ t → ⊥
other_token r i t j u on off node token = false≢true (sym off ∙ ap (λ m. r.enrolled m u) node ∙ ap (r.enrolled i) token ∙ on)

hearing_spared : (r : Roster) (k : ℕ) (o : Option Envelope) (j u : ℕ) → slice_get r.cluster.sent k ≡ o → r.enrolled j u ≡ false → Spared (act_of_hearing r k o) r.cluster j u
hearing_spared r k None j u is off = λ l at. absurd (none-some l (sym is ∙ at))
hearing_spared r k (Some l) j u is off =
    cond_both (r.enrolled l.receiver (token_of l.message)) (Deliver k) (Idle l.receiver) (λ a. Spared a r.cluster j u)
    (λ on m at node token.
    let same : l ≡ m = same_Some l m (sym is ∙ at) in
    other_token r l.receiver (token_of l.message) j u on off (node ∙ ap (λ (x : Envelope). x.receiver) (sym same)) (token ∙ ap (λ (x : Envelope). token_of x.message) (sym same)))
    (λ _. tt)

deed_spared : (r : Roster) (d : Deed) (j u : ℕ) → enrolled_by r d j u ≡ false → r.enrolled j u ≡ false → Spared (act_of r d) r.cluster j u
deed_spared r (Proposes i t lo hi drift) j u h off =
    cond_both (r.enrolled i t) (Begin i t lo hi drift) (Idle i) (λ a. Spared a r.cluster j u) (λ on. other_token r i t j u on off) (λ _. tt)
deed_spared r (Hears k) j u h off = hearing_spared r k (slice_get r.cluster.sent k) j u refl off
deed_spared r (Ticks i told) j u h off = tt
deed_spared r (Tells i told) j u h off = tt
deed_spared r (Throttles i t gate) j u h off =
    cond_both (r.enrolled i t) (Throttle i t gate) (Idle i) (λ a. Spared a r.cluster j u) (λ on. other_token r i t j u on off) (λ _. tt)
deed_spared r (Enrols i given floor) j u h off = λ has is. cond-false (is_new r i given floor u) (floor u) 0 (not_new r i given floor j u h has is)
deed_spared r (Rests i) j u h off = tt

pub loss_row : (i : ℕ) (w : Cluster) (j u : ℕ) → row ((after_loss i w).nodes j).content u ≡ row (w.nodes j).content u
unfolding after_loss
loss_row i w j u =
    cond_both (has_store w i) _ w (λ (x : Cluster). row (x.nodes j).content u ≡ row (w.nodes j).content u)
    (λ _. swap_row i (lost_member (w.nodes i)) w j u (λ _. refl)) (λ _. refl)

-- ---- what holds of each row that is not enrolled

abbrev pub OfRows : (RowRecord → Type 0) → Roster → Type 0
OfRows P r = (j u : ℕ) → r.enrolled j u ≡ false → P (row (r.cluster.nodes j).content u)

moved : (P : RowRecord → Type 0) {x y : RowRecord} → y ≡ x → P x → P y
moved P e h = subst P (sym e) h

-- a store that is made has it of what it is not given
abbrev OfNew : (RowRecord → Type 0) → Roster → Happening → Type 0
OfNew P r (Renews i boot given floor) =
    (u : ℕ) → given u ≡ false → may_replace r.cluster i boot (renewed_floor r.cluster given floor) ≡ true
    → P (row (opening_member boot (length (r.cluster.nodes i).content.rows) (renewed_floor r.cluster given floor)).content u)
OfNew P r x = Unit {0}

rows_after : (P : RowRecord → Type 0) (e : ℕ) (r : Roster) (x : Happening) → OfNew P r x → OfRows P r → OfRows P (after_happening e x r)
unfolding after_event after_replacement
rows_after P e r (Does d) new k j u h =
    let off = deed_grows r d j u h in
    moved P (act_row e (act_of r d) r.cluster j u (deed_spared r d j u h off)) (k j u off)
rows_after P e r (Stops true d) new k j u h =
    let off = deed_grows r d j u h in
    moved P (rows_restart (with_sent_of r.cluster (after_act e (act_of r d) r.cluster)) (node_of (act_of r d) r.cluster) j u
    ∙ act_row e (act_of r d) r.cluster j u (deed_spared r d j u h off)) (k j u off)
rows_after P e r (Stops false d) new k j u h = moved P (rows_restart r.cluster (node_of (act_of r d) r.cluster) j u) (k j u h)
rows_after P e r (Reopens i) new k j u h = moved P (rows_restart r.cluster (Some i) j u) (k j u h)
rows_after P e r (Loses i) new k j u h = moved P (loss_row i r.cluster j u) (k j u h)
rows_after P e r (Renews i boot given floor) new k j u h =
    let w = r.cluster in
    let f = renewed_floor w given floor in
    let x = opening_member boot (length (w.nodes i).content.rows) f in
    let b = may_replace w i boot f in
    ⊎_elim
    (λ (yes : b ≡ true).
    moved P (ap (λ (c : Cluster). row (c.nodes j).content u) (cond-true b _ w yes))
    (cond_both (eqb j i) x (w.nodes j) (λ (y : Member). P (row y.content u))
    (λ q. new u (at_node given (r.enrolled) i j u q (sym (ap (λ (E : ℕ → ℕ → Bool). E j u) (cond-true b (with_tokens i given r.enrolled) r.enrolled yes)) ∙ h)) yes)
    (λ q. k j u (off_node given (r.enrolled) i j u q (sym (ap (λ (E : ℕ → ℕ → Bool). E j u) (cond-true b (with_tokens i given r.enrolled) r.enrolled yes)) ∙ h)))))
    (λ (no : b ≡ false).
    moved P (ap (λ (c : Cluster). row (c.nodes j).content u) (cond-false b _ w no))
    (k j u (sym (ap (λ (E : ℕ → ℕ → Bool). E j u) (cond-false b (with_tokens i given r.enrolled) r.enrolled no)) ∙ h)))
    (cases_Bool b)
  where
    at_node : (g : ℕ → Bool) (E : ℕ → ℕ → Bool) (a b v : ℕ) → eqb b a ≡ true → with_tokens a g E b v ≡ false → g v ≡ false
    at_node g E a b v q z = sym (ap (λ (f : ℕ → Bool). f v) (cond-true (eqb b a) g (E b) q)) ∙ z

    off_node : (g : ℕ → Bool) (E : ℕ → ℕ → Bool) (a b v : ℕ) → eqb b a ≡ false → with_tokens a g E b v ≡ false → E b v ≡ false
    off_node g E a b v q z = sym (ap (λ (f : ℕ → Bool). f v) (cond-false (eqb b a) g (E b) q)) ∙ z

-- ---- bounds

abbrev pub IsBound : RowRecord → Type 0
IsBound x = x ≡ opening_row x.next

opening_bounds : (k : ℕ) (floor : ℕ → ℕ) → Each IsBound (opening_rows k floor)
opening_bounds zero floor = tt
opening_bounds (suc k) floor = each_append IsBound (opening_rows k floor) _ (opening_bounds k floor) (refl, tt)

pub opening_bound : (k : ℕ) (floor : ℕ → ℕ) (u : ℕ) → IsBound (get_or (opening_rows k floor) u no_row)
opening_bound k floor u = each_get_or IsBound (opening_rows k floor) u no_row (opening_bounds k floor) refl

new_bounds : (r : Roster) (x : Happening) → OfNew IsBound r x
new_bounds r (Does d) = tt
new_bounds r (Stops kept d) = tt
new_bounds r (Reopens i) = tt
new_bounds r (Loses i) = tt
new_bounds r (Renews i boot given floor) = λ u _ _. opening_bound (length (r.cluster.nodes i).content.rows) (renewed_floor r.cluster given floor) u

bounds_run : (xs : List Happening) (e : ℕ) (r : Roster) → OfRows IsBound r → OfRows IsBound (serve e xs r)
unfolding serve
bounds_run [] e r k = k
bounds_run (x ∷ xs) e r k = bounds_run xs (suc e) (after_happening e x r) (rows_after IsBound e r x (new_bounds r x) k)

pub untouched_over : (n tokens : ℕ) (opening : Opening) (enrolled : ℕ → ℕ → Bool) (xs : List Happening) → OfRows IsBound (served n tokens opening enrolled xs)
untouched_over n tokens opening enrolled xs = bounds_run xs 0 (opened n tokens opening enrolled) (λ j u _. opening_bound tokens (opening.floor j) u)

-- ---- an enrolment

rows_are : (n tokens : ℕ) (opening : Opening) (enrolled : ℕ → ℕ → Bool) (xs : List Happening) → MayOpen n tokens opening → (j : ℕ) → length ((served n tokens opening enrolled xs).cluster.nodes j).content.rows ≡ tokens
rows_are n tokens opening enrolled xs may j =
    let es = events_of 0 xs (opened n tokens opening enrolled) in
    subst (λ (w : Cluster). length (w.nodes j).content.rows ≡ tokens) (sym (run_is xs 0 (opened n tokens opening enrolled)))
    ((all_kept n tokens opening es may).nodes j).rows

pub bound_raised : (x : RowRecord) (floor : ℕ) → IsBound x → x.next ≤ floor → raised_row floor x ≡ opening_row floor
bound_raised x floor b le =
    ⊎_elim
    (λ (lt : x.next < floor). ap (raised_row floor) b ∙ cond_both (ltb x.next floor) (opening_row floor) (opening_row x.next) (λ y. y ≡ opening_row floor) (λ _. refl) (λ q. absurd (omega (arith, lt, ltb-false x.next floor q))))
    (λ (ge : floor ≤ x.next).
    let same : x.next ≡ floor = omega (arith, le, ge) in
    ap (raised_row floor) b ∙ cond_both (ltb x.next floor) (opening_row floor) (opening_row x.next) (λ y. y ≡ opening_row floor) (λ _. refl) (λ _. ap opening_row same))
    (cases_lt x.next floor)

pub enrols_row : (e : ℕ) (r : Roster) (i : ℕ) (given : ℕ → Bool) (floor : ℕ → ℕ) (u : ℕ) → has_store r.cluster i ≡ true → u < length (r.cluster.nodes i).content.rows → IsBound (row (r.cluster.nodes i).content u) → is_new r i given floor u ≡ true
    → row ((after_happening e (Does (Enrols i given floor)) r).cluster.nodes i).content u ≡ opening_row (floor u)
unfolding after_event after_act
enrols_row e r i given floor u has within bound new =
    let w = r.cluster in
    let c = (w.nodes i).content in
    let f = λ (t : ℕ). cond (is_new r i given floor t) (floor t) 0 in
    let parts = and_parts (given u) (not (r.enrolled i u) && leb (row c u).next (floor u)) new in
    let more = and_parts (not (r.enrolled i u)) (leb (row c u).next (floor u)) parts.1 in
    let raised : row (raise_all (length c.rows) f c) u ≡ opening_row (floor u) =
    raise_row (length c.rows) u f c within (omega arith)
    ∙ ap (λ m. raised_row m (row c u)) (cond-true (is_new r i given floor u) (floor u) 0 new)
    ∙ bound_raised (row c u) (floor u) bound (leb-true (row c u).next (floor u) more.1) in
    cond_both (has_store w i) (with_member i (raised_member f (w.nodes i)) w) w (λ (x : Cluster). row (x.nodes i).content u ≡ opening_row (floor u))
    (λ _. cond_both (eqb i i) (raised_member f (w.nodes i)) (w.nodes i) (λ (y : Member). row y.content u ≡ opening_row (floor u)) (λ _. raised) (λ q. absurd (eqb-false i i q refl)))
    (λ q. absurd (false≢true (sym q ∙ has)))

pub gets_over : (n tokens : ℕ) (opening : Opening) (enrolled : ℕ → ℕ → Bool) (xs : List Happening) → MayOpen n tokens opening → (event node : ℕ) (given : ℕ → Bool) (floor : ℕ → ℕ) (token : ℕ) → token < tokens
    → has_store (served n tokens opening enrolled xs).cluster node ≡ true → is_new (served n tokens opening enrolled xs) node given floor token ≡ true
    → row ((after_happening event (Does (Enrols node given floor)) (served n tokens opening enrolled xs)).cluster.nodes node).content token ≡ opening_row (floor token)
gets_over n tokens opening enrolled xs may event node given floor token within has new =
    let r = served n tokens opening enrolled xs in
    let size = rows_are n tokens opening enrolled xs may node in
    let parts = and_parts (given token) (not (r.enrolled node token) && leb (row (r.cluster.nodes node).content token).next (floor token)) new in
    let more = and_parts (not (r.enrolled node token)) (leb (row (r.cluster.nodes node).content token).next (floor token)) parts.1 in
    enrols_row event r node given floor token has (omega (arith, within, size)) (untouched_over n tokens opening enrolled xs node token (not-true (r.enrolled node token) more.0)) new

-- ---- what is the same after an act: the members, the lost ones, and what was taken down

record Same (w x : Cluster) : Type 0 where
  members : x.n ≡ w.n
  lost : x.lost ≡ w.lost
  least : x.least ≡ w.least

same_self : (w : Cluster) → Same w w
same_self w = record { members = refl; lost = refl; least = refl }

act_same : (e : ℕ) (a : Act) (w : Cluster) → Same w (after_act e a w)
unfolding after_act cluster_after after_delivery after_proposal with_proposal_begun
act_same e (Begin i t lo hi drift) w =
    cond_both (may_begin w i t lo hi) _ w (λ x. Same w x)
    (λ _. cond_both (ltb (w.nodes i).voter.seq (2 ^ 62)) _ _ (λ x. Same w x) (λ _. record { members = refl; lost = refl; least = refl }) (λ _. record { members = refl; lost = refl; least = refl })) (λ _. same_self w)
act_same e (Deliver k) w = delivered e (slice_get w.sent k) w
  where
    delivered : (m : ℕ) (o : Option Envelope) (y : Cluster) → Same y (after_delivery m o y)
    delivered m None y = same_self y
    delivered m (Some l) y = cond_both (is_running y l.receiver) _ y (λ x. Same y x) (λ _. record { members = refl; lost = refl; least = refl }) (λ _. same_self y)
act_same e (Tick i) w = cond_both (is_running w i) _ w (λ x. Same w x) (λ _. record { members = refl; lost = refl; least = refl }) (λ _. same_self w)
act_same e (Throttle i t gate) w = cond_both (is_running w i) _ w (λ x. Same w x) (λ _. record { members = refl; lost = refl; least = refl }) (λ _. same_self w)
act_same e (Idle i) w = same_self w
act_same e (TickTelling i told) w = cond_both (is_running w i) _ w (λ x. Same w x) (λ _. record { members = refl; lost = refl; least = refl }) (λ _. same_self w)
act_same e (Tell i told) w = cond_both (is_running w i) _ w (λ x. Same w x) (λ _. record { members = refl; lost = refl; least = refl }) (λ _. same_self w)
act_same e (Raise i floor) w = cond_both (has_store w i) _ w (λ x. Same w x) (λ _. record { members = refl; lost = refl; least = refl }) (λ _. same_self w)

restart_same : (o : Option ℕ) (w x : Cluster) → Same w x → Same w (after_restart o x)
unfolding after_restart
restart_same None w x h = h
restart_same (Some i) w x h = cond_both (has_store x i) (with_member i (restarted_member (x.nodes i)) x) x (λ y. Same w y) (λ _. record { members = h.members; lost = h.lost; least = h.least }) (λ _. h)

-- ---- tokens that are free

abbrev pub IsFree : RowRecord → Type 0
IsFree x = x ≡ opening_row 0

-- a member that is left has the token enrolled
record Has (r : Roster) (t : ℕ) : Type 0 where
  node : ℕ
  first : 1 ≤ node
  last : node ≤ r.cluster.n
  left : r.cluster.lost node ≡ false
  on : r.enrolled node t ≡ true

record Free (r : Roster) : Type 0 where
  rows : OfRows IsFree r
  least : (t : ℕ) → (r.cluster.least t ≡ 0) ⊎ Has r t

-- what a store that is made has to be given
abbrev GivesAll : Roster → Happening → Type 0
GivesAll r (Renews i boot given floor) = (other token : ℕ) → has_store r.cluster other ≡ true → r.enrolled other token ≡ true → given token ≡ true
GivesAll r x = Unit {0}

has_given : (r : Roster) (t : ℕ) (given : ℕ → Bool) → ((other token : ℕ) → has_store r.cluster other ≡ true → r.enrolled other token ≡ true → given token ≡ true) → Has r t → given t ≡ true
has_given r t given all h =
    all h.node t
    (and_from (not (r.cluster.lost h.node)) (is_member r.cluster.n h.node) (ap not h.left) (and_from (leb 1 h.node) (leb h.node r.cluster.n) (le-true 1 h.node h.first) (le-true h.node r.cluster.n h.last)))
    h.on
  where
    le-true : (a b : ℕ) → a ≤ b → leb a b ≡ true
    le-true a b le = cond_both (leb a b) true false (λ x. leb a b ≡ true) (λ q. q) (λ q. absurd (omega (arith, le, leb-false a b q)))

pub opening_beyond : (xs : List RowRecord) (u : ℕ) → length xs ≤ u → get_or xs u no_row ≡ no_row
opening_beyond [] u h = refl
opening_beyond (x ∷ xs) zero h = absurd (omega arith)
opening_beyond (x ∷ xs) (suc u) h = opening_beyond xs u (omega (arith, h))

pub opening_free : (k : ℕ) (floor : ℕ → ℕ) (u : ℕ) → floor u ≡ 0 → IsFree (get_or (opening_rows k floor) u no_row)
opening_free k floor u z =
    ⊎_elim
    (λ (lt : u < k). opening_bound k floor u ∙ ap opening_row (opening_floor k floor u lt ∙ z))
    (λ (ge : k ≤ u). let size = opening_size k floor in opening_beyond (opening_rows k floor) u (omega (arith, size, ge)))
    (cases_lt u k)

new_free : (r : Roster) (x : Happening) → Free r → GivesAll r x → OfNew IsFree r x
new_free r (Does d) k all = tt
new_free r (Stops kept d) k all = tt
new_free r (Reopens i) k all = tt
new_free r (Loses i) k all = tt
new_free r (Renews i boot given floor) k all = λ u off _.
    let w = r.cluster in
    let zero_there : w.least u ≡ 0 = ⊎_elim (λ (z : w.least u ≡ 0). z) (λ (h : Has r u). absurd (false≢true (sym off ∙ has_given r u given all h))) (k.least u) in
    opening_free (length (w.nodes i).content.rows) (renewed_floor w given floor) u (cond-false (given u) (floor u) (w.least u) off ∙ zero_there)

greatest_cases : (n : ℕ) (lost : ℕ → Bool) (number : ℕ → ℕ) → (greatest n lost number ≡ 0) ⊎ ((i : ℕ) × (1 ≤ i) × (i ≤ n) × (lost i ≡ false) × (0 < number i))
greatest_cases zero lost number = inl refl
greatest_cases (suc n) lost number =
    let further : (greatest n lost number ≡ 0) ⊎ ((i : ℕ) × (1 ≤ i) × (i ≤ n) × (lost i ≡ false) × (0 < number i))
    → (greatest n lost number ≡ 0) ⊎ ((i : ℕ) × (1 ≤ i) × (i ≤ suc n) × (lost i ≡ false) × (0 < number i)) =
    λ c. ⊎_elim (λ (z : greatest n lost number ≡ 0). inl z)
    (λ (h : (i : ℕ) × (1 ≤ i) × (i ≤ n) × (lost i ≡ false) × (0 < number i)). inr (h.0, h.1, omega (arith, h.2), h.3, h.4)) c in
    cond_both (lost (suc n)) (greatest n lost number) (greater (number (suc n)) (greatest n lost number))
    (λ m. (m ≡ 0) ⊎ ((i : ℕ) × (1 ≤ i) × (i ≤ suc n) × (lost i ≡ false) × (0 < number i)))
    (λ _. further (greatest_cases n lost number))
    (λ off.
    ⊎_elim
    (λ (some : 0 < number (suc n)). inr (suc n, omega arith, omega arith, off, some))
    (λ (none : number (suc n) ≤ 0).
    ⊎_elim
    (λ (z : greatest n lost number ≡ 0).
    inl (cond_both (leb (number (suc n)) (greatest n lost number)) (greatest n lost number) (number (suc n)) (λ m. m ≡ 0) (λ _. z) (λ _. omega (arith, none))))
    (λ (h : (i : ℕ) × (1 ≤ i) × (i ≤ suc n) × (lost i ≡ false) × (0 < number i)). inr h)
    (further (greatest_cases n lost number)))
    (cases_lt 0 (number (suc n))))

-- a token enrolled at a node stays enrolled through an action
deed_keeps : (r : Roster) (d : Deed) (j u : ℕ) → r.enrolled j u ≡ true → enrolled_by r d j u ≡ true
deed_keeps r d j u on =
    ⊎_elim (λ (yes : enrolled_by r d j u ≡ true). yes)
    (λ (no : enrolled_by r d j u ≡ false). absurd (false≢true (sym (deed_grows r d j u no) ∙ on)))
    (cases_Bool (enrolled_by r d j u))

has_still : (r : Roster) (x : Cluster) (E : ℕ → ℕ → Bool) (t : ℕ) → Same r.cluster x → ((j : ℕ) → r.enrolled j t ≡ true → E j t ≡ true) → (r.cluster.least t ≡ 0) ⊎ Has r t → (x.least t ≡ 0) ⊎ Has (record { cluster = x; enrolled = E }) t
has_still r x E t same grows k =
    ⊎_elim (λ (z : r.cluster.least t ≡ 0). inl (ap (λ (f : ℕ → ℕ). f t) same.least ∙ z))
    (λ (h : Has r t).
    let count = same.members in
    inr (record { node = h.node; first = h.first; last = omega (arith, h.last, count); left = ap (λ (f : ℕ → Bool). f h.node) same.lost ∙ h.left; on = grows h.node h.on }))
    k

loss_least : (r : Roster) (i t : ℕ) → Free r → ((after_loss i r.cluster).least t ≡ 0) ⊎ Has (record { cluster = after_loss i r.cluster; enrolled = r.enrolled }) t
unfolding after_loss
loss_least r i t k =
    let w = r.cluster in
    let lost = with_node i w.lost in
    let next = λ (j : ℕ). (row (w.nodes j).content t).next in
    cond_both (has_store w i) _ w (λ (x : Cluster). (x.least t ≡ 0) ⊎ Has (record { cluster = x; enrolled = r.enrolled }) t)
    (λ _.
    ⊎_elim (λ (z : greatest w.n lost next ≡ 0). inl z)
    (λ (h : (j : ℕ) × (1 ≤ j) × (j ≤ w.n) × (lost j ≡ false) × (0 < next j)).
    inr (record {
      node = h.0;
      first = h.1;
      last = h.2;
      left = h.3;
      on = ⊎_elim (λ (on : r.enrolled h.0 t ≡ true). on)
          (λ (off : r.enrolled h.0 t ≡ false). let z = ap (λ (x : RowRecord). x.next) (k.rows h.0 t off) in absurd (omega (arith, h.4, z)))
          (cases_Bool (r.enrolled h.0 t));
    }))
    (greatest_cases w.n lost next))
    (λ _. ⊎_elim (λ (z : w.least t ≡ 0). inl z) (λ (h : Has r t). inr (record { node = h.node; first = h.first; last = h.last; left = h.left; on = h.on })) (k.least t))

renewal_least : (r : Roster) (i boot : ℕ) (given : ℕ → Bool) (floor : ℕ → ℕ) (t : ℕ) → Free r → GivesAll r (Renews i boot given floor)
    → ((after_replacement i boot (renewed_floor r.cluster given floor) r.cluster).least t ≡ 0)
    ⊎ Has (record { cluster = after_replacement i boot (renewed_floor r.cluster given floor) r.cluster; enrolled = enrolled_after r (Renews i boot given floor) }) t
unfolding after_replacement
renewal_least r i boot given floor t k all =
    let w = r.cluster in
    let b = may_replace w i boot (renewed_floor w given floor) in
    let new : Cluster = record w { nodes = set_node i (opening_member boot (length (w.nodes i).content.rows) (renewed_floor w given floor)) w.nodes; lost = without_node i w.lost } in
    by b new
    (λ _. ⊎_elim (λ (z : w.least t ≡ 0). inl z)
    (λ (h : Has r t).
    inr (record {
      node = h.node;
      first = h.first;
      last = h.last;
      left = both_off (not (eqb h.node i)) (w.lost h.node) h.left;
      on = cond_both (eqb h.node i) given (r.enrolled h.node) (λ (g : ℕ → Bool). g t ≡ true) (λ _. has_given r t given all h) (λ _. h.on);
    }))
    (k.least t))
    (⊎_elim (λ (z : w.least t ≡ 0). inl z) (λ (h : Has r t). inr (record { node = h.node; first = h.first; last = h.last; left = h.left; on = h.on })) (k.least t))
  where
    both_off : (a b : Bool) → b ≡ false → (a && b) ≡ false
    both_off true b h = h
    both_off false b h = refl

    by : (b : Bool) (new : Cluster)
        → (b ≡ true → (new.least t ≡ 0) ⊎ Has (record { cluster = new; enrolled = with_tokens i given r.enrolled }) t)
        → ((r.cluster.least t ≡ 0) ⊎ Has (record { cluster = r.cluster; enrolled = r.enrolled }) t)
        → ((cond b new r.cluster).least t ≡ 0) ⊎ Has (record { cluster = cond b new r.cluster; enrolled = cond b (with_tokens i given r.enrolled) r.enrolled }) t
    by true new there here = there refl
    by false new there here = here

free_after : (e : ℕ) (r : Roster) (x : Happening) → Free r → GivesAll r x → Free (after_happening e x r)
unfolding after_event
free_after e r x k all = record { rows = rows_after IsFree e r x (new_free r x k all) k.rows; least = λ t. of x t all }
  where
    of : (y : Happening) (t : ℕ) → GivesAll r y → ((after_event e (event_of r y) r.cluster).least t ≡ 0) ⊎ Has (after_happening e y r) t
    of (Does d) t _ = has_still r (after_act e (act_of r d) r.cluster) (enrolled_by r d) t (act_same e (act_of r d) r.cluster) (λ j. deed_keeps r d j t) (k.least t)
    of (Stops true d) t _ =
        let acted = act_same e (act_of r d) r.cluster in
        has_still r _ (enrolled_by r d) t
        (restart_same (node_of (act_of r d) r.cluster) r.cluster (with_sent_of r.cluster (after_act e (act_of r d) r.cluster)) (record { members = acted.members; lost = acted.lost; least = acted.least }))
        (λ j. deed_keeps r d j t) (k.least t)
    of (Stops false d) t _ = has_still r _ r.enrolled t (restart_same (node_of (act_of r d) r.cluster) r.cluster r.cluster (same_self r.cluster)) (λ _ h. h) (k.least t)
    of (Reopens i) t _ = has_still r _ r.enrolled t (restart_same (Some i) r.cluster r.cluster (same_self r.cluster)) (λ _ h. h) (k.least t)
    of (Loses i) t _ = loss_least r i t k
    of (Renews i boot given floor) t all = renewal_least r i boot given floor t k all

-- all stores that are made from the roster on are given all
abbrev AllGiven : ℕ → List Happening → Roster → Type 0
AllGiven e xs r = (event node boot : ℕ) (given : ℕ → Bool) (floor : ℕ → ℕ) → slice_get xs event ≡ Some (Renews node boot given floor)
    → (other token : ℕ) → has_store (serve e (take event xs) r).cluster other ≡ true → (serve e (take event xs) r).enrolled other token ≡ true → given token ≡ true

free_run : (xs : List Happening) (e : ℕ) (r : Roster) → AllGiven e xs r → Free r → Free (serve e xs r)
unfolding serve
free_run [] e r all k = k
free_run (x ∷ xs) e r all k = free_run xs (suc e) (after_happening e x r) (λ event. all (suc event)) (free_after e r x k (first x (λ node boot given floor at. all 0 node boot given floor at)))
  where
    of : (y : Happening) → ((node boot : ℕ) (given : ℕ → Bool) (floor : ℕ → ℕ) → y ≡ Renews node boot given floor
        → (other token : ℕ) → has_store r.cluster other ≡ true → r.enrolled other token ≡ true → given token ≡ true) → GivesAll r y
    of (Does d) h = tt
    of (Stops kept d) h = tt
    of (Reopens i) h = tt
    of (Loses i) h = tt
    of (Renews i boot given floor) h = h i boot given floor refl

    first : (y : Happening) → ((node boot : ℕ) (given : ℕ → Bool) (floor : ℕ → ℕ) → Some x ≡ Some (Renews node boot given floor)
        → (other token : ℕ) → has_store r.cluster other ≡ true → r.enrolled other token ≡ true → given token ≡ true) → GivesAll r x
    first y h = of x (λ node boot given floor at. h node boot given floor (ap Some at))

pub free_over : (n tokens : ℕ) (opening : Opening) (enrolled : ℕ → ℕ → Bool) (xs : List Happening) → AreUnbound opening enrolled → AreGivenAll n tokens opening enrolled xs
    → OfRows IsFree (served n tokens opening enrolled xs)
free_over n tokens opening enrolled xs unbound all =
    (free_run xs 0 (opened n tokens opening enrolled) all (record {
      rows = λ j u off. opening_free tokens (opening.floor j) u (unbound j u off);
      least = λ t. inl refl;
    })).rows
