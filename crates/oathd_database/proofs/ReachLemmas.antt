-- Files that were read after the last loss reach what it took down.
use Rattle.std.proofs.Common.{◌≡◌, ℕ, ℤ, zero, suc, ◌+◌, ◌-◌, ◌^◌, ◌<◌, ◌≤◌, ◌⊎◌, inl, inr, Bool, true, false, cond, ◌||◌, List, [], ◌∷◌, length, take, get_or, Option, Some, None, refl, sym, ap, subst, ◌∙◌, arith, add-one, eqb, leb, ltb}
use Rattle.std.specs.Prelude.{IfSome, slice_get, slice_index, find, option_map, unwrap_or}
use Rattle.std.specs.Option.{option_or}
use Rattle.std.specs.Str.{bytes_eq}
use Rattle.std.proofs.lemmas.Bool.{cond_both, cases_Bool, eqb-true, eqb-false, le-leb, leb-true, leb-false, and_from, false≢true}
use Rattle.std.proofs.lemmas.Option.{none-some, same_Some, slice_get_cases, slice_get_within}
use Rattle.floor_store.specs.Records.{RowRecord}
use Rattle.token_file.specs.Credential.{Credential, place_from, place_of}
use Rattle.vote_core.specs.Rows.{no_row, row}
use Rattle.vote_core.specs.Safety.{KeepsStore, MayOpen}
use Rattle.vote_core.specs.Schedule.{Act, Begin, Deliver, Tick, Throttle, Idle, TickTelling, Tell, Raise, Cluster, Envelope, Event, Happens, Cut, Restart, Lost, Replaced, Opening, after_act, after_delivery, after_event, after_loss, after_proposal, after_replacement, after_restart, all_most, cluster_after, cluster_before, floor_before, greatest, has_store, is_running, may_begin, may_replace, node_of, run, start, with_proposal_begun, with_sent_of}
use Rattle.vote_core.proofs.Runs.{all_members}
use Rattle.floors_file.specs.Floors.{FloorRecord, FloorsRecord}
use Rattle.floors_file.specs.Gathered.{count_fault, files_fault, floor_in, gathered_floors, greater, greater_of, greatest_of, is_among, is_of_files, lost_fault, members_of, missing_from}
use Rattle.floors_file.specs.declared.gathered.Asked.{Asked}
use Rattle.floors_file.specs.declared.gathered.FilesFault.{FilesFault}
use Rattle.floors_file.specs.declared.gathered.FilesFault.TheVariants.{Missing, NotLost}
use Rattle.oathd_database.specs.Floors.{told_rows}
use Rattle.oathd_database.specs.Reach.{AreFound, AreReadAfter, IsLastLoss, IsReadAfter}

-- ---- what a loss took down stays until the next one

delivered_least : (e t : ℕ) (o : Option Envelope) (w : Cluster) → (after_delivery e o w).least t ≡ w.least t
unfolding after_delivery cluster_after
delivered_least e t None w = refl
delivered_least e t (Some l) w = cond_both (is_running w l.receiver) _ w (λ (x : Cluster). x.least t ≡ w.least t) (λ _. refl) (λ _. refl)

proposed_least : (e t i token lo hi : ℕ) (drift : ℤ) (w : Cluster) → (after_proposal e i token lo hi drift w).least t ≡ w.least t
unfolding after_proposal with_proposal_begun cluster_after
proposed_least e t i token lo hi drift w =
    cond_both (ltb (w.nodes i).voter.seq (2 ^ 62)) _ _ (λ (x : Cluster). x.least t ≡ w.least t) (λ _. refl) (λ _. refl)

act_least : (e t : ℕ) (a : Act) (w : Cluster) → (after_act e a w).least t ≡ w.least t
unfolding after_act cluster_after
act_least e t (Begin i token lo hi drift) w =
    cond_both (may_begin w i token lo hi) _ w (λ (x : Cluster). x.least t ≡ w.least t) (λ _. proposed_least e t i token lo hi drift w) (λ _. refl)
act_least e t (Deliver k) w = delivered_least e t (slice_get w.sent k) w
act_least e t (Tick i) w = cond_both (is_running w i) _ w (λ (x : Cluster). x.least t ≡ w.least t) (λ _. refl) (λ _. refl)
act_least e t (Throttle i token gate) w = cond_both (is_running w i) _ w (λ (x : Cluster). x.least t ≡ w.least t) (λ _. refl) (λ _. refl)
act_least e t (Idle i) w = refl
act_least e t (TickTelling i told) w = cond_both (is_running w i) _ w (λ (x : Cluster). x.least t ≡ w.least t) (λ _. refl) (λ _. refl)
act_least e t (Tell i told) w = cond_both (is_running w i) _ w (λ (x : Cluster). x.least t ≡ w.least t) (λ _. refl) (λ _. refl)
act_least e t (Raise i floor) w = cond_both (has_store w i) _ w (λ (x : Cluster). x.least t ≡ w.least t) (λ _. refl) (λ _. refl)

restart_least : (t : ℕ) (o : Option ℕ) (w : Cluster) → (after_restart o w).least t ≡ w.least t
unfolding after_restart
restart_least t None w = refl
restart_least t (Some i) w = cond_both (has_store w i) _ w (λ (x : Cluster). x.least t ≡ w.least t) (λ _. refl) (λ _. refl)

replacement_least : (t i boot : ℕ) (floor : ℕ → ℕ) (w : Cluster) → (after_replacement i boot floor w).least t ≡ w.least t
unfolding after_replacement
replacement_least t i boot floor w = cond_both (may_replace w i boot floor) _ w (λ (x : Cluster). x.least t ≡ w.least t) (λ _. refl) (λ _. refl)

event_least : (e t : ℕ) (x : Event) (w : Cluster) → ((node : ℕ) → x ≡ Lost node → ⊥) → (after_event e x w).least t ≡ w.least t
unfolding after_event
event_least e t (Happens a) w none = act_least e t a w
event_least e t (Cut true a) w none = restart_least t (node_of a w) (with_sent_of w (after_act e a w)) ∙ act_least e t a w
event_least e t (Cut false a) w none = restart_least t (node_of a w) w
event_least e t (Restart i) w none = restart_least t (Some i) w
event_least e t (Lost i) w none = absurd (none i refl)
event_least e t (Replaced i boot floor) w none = replacement_least t i boot floor w

-- a run of one event more
run_more : (xs : List Event) (k e at : ℕ) (x : Event) (w : Cluster) → slice_get xs k ≡ Some x → at ≡ e + k
    → run e (take (suc k) xs) w ≡ after_event at x (run e (take k xs) w)
unfolding run
run_more [] k e at x w is place = absurd (none-some x is)
run_more (y ∷ xs) zero e at x w is place =
    let here : e ≡ at = omega (arith, place) in
    ap (λ m. after_event m y w) here ∙ ap (λ z. after_event at z w) (same_Some y x is)
run_more (y ∷ xs) (suc k) e at x w is place = run_more xs k (suc e) at x (after_event e y w) is (omega (arith, place))

-- what a loss takes down
loss_takes : (node : ℕ) (w : Cluster) → has_store w node ≡ true → (t : ℕ)
    → (after_loss node w).least t ≡ greatest w.n (after_loss node w).lost (λ other. (row (w.nodes other).content t).next)
unfolding after_loss
loss_takes node w had t =
    cond_both (has_store w node) _ w (λ (x : Cluster). x.least t ≡ greatest w.n x.lost (λ other. (row (w.nodes other).content t).next))
    (λ _. refl) (λ gone. absurd (false≢true (sym gone ∙ had)))

loss_is : (e node : ℕ) (w : Cluster) → after_event e (Lost node) w ≡ after_loss node w
unfolding after_event
loss_is e node w = refl

module _ (n tokens : ℕ) (opening : Opening) (events : List Event) where
  event_after : (k : ℕ) (x : Event) → slice_get events k ≡ Some x
      → cluster_before n tokens opening events (suc k) ≡ after_event k x (cluster_before n tokens opening events k)
  event_after k x is = run_more events k 0 k x (start n tokens opening) is (omega arith)

  module _ (loss : ℕ) (last : IsLastLoss n tokens opening events loss) where
    least_stays : (d k t : ℕ) → k ≡ suc loss + d → k ≤ length events
        → (cluster_before n tokens opening events k).least t ≡ (cluster_before n tokens opening events (suc loss)).least t
    least_stays zero k t at within =
        let same : k ≡ suc loss = omega (arith, at) in ap (λ m. (cluster_before n tokens opening events m).least t) same
    least_stays (suc d) k t at within =
        next (slice_get_cases events (suc loss + d)).1 (least_stays d (suc loss + d) t refl (omega (arith, at, within)))
      where
        next : ((x : Event) × (suc loss + d < length events) × (slice_get events (suc loss + d) ≡ Some x) × (get_or events (suc loss + d) x ≡ x)) ⊎ ((length events ≤ suc loss + d) × (slice_get events (suc loss + d) ≡ None))
            → (cluster_before n tokens opening events (suc loss + d)).least t ≡ (cluster_before n tokens opening events (suc loss)).least t
            → (cluster_before n tokens opening events k).least t ≡ (cluster_before n tokens opening events (suc loss)).least t
        next (inl found) before =
            let same : k ≡ suc (suc loss + d) = omega (arith, at) in
            ap (λ m. (cluster_before n tokens opening events m).least t) same
            ∙ ap (λ (c : Cluster). c.least t) (event_after (suc loss + d) found.0 found.2)
            ∙ event_least (suc loss + d) t found.0 (cluster_before n tokens opening events (suc loss + d))
            (λ node is. last.last (suc loss + d) node (omega arith) (found.2 ∙ ap Some is))
            ∙ before
        next (inr past) before = absurd (omega (arith, past.0, at, within))

    least_taken : (t : ℕ) → (cluster_before n tokens opening events (suc loss)).least t
        ≡ greatest n (cluster_before n tokens opening events (suc loss)).lost (λ other. floor_before n tokens opening events other t loss)
    least_taken t =
        let w = cluster_before n tokens opening events loss in
        let floors = λ (other : ℕ). floor_before n tokens opening events other t loss in
        let now = event_after loss (Lost last.node) last.is ∙ loss_is loss last.node w in
        subst (λ (c : Cluster). c.least t ≡ greatest n c.lost floors) (sym now)
        (subst (λ m. (after_loss last.node w).least t ≡ greatest m (after_loss last.node w).lost floors) (all_members n tokens opening (take loss events))
        (loss_takes last.node w last.had t))

    pub least_is : (t : ℕ) → (cluster_before n tokens opening events (length events)).least t
        ≡ greatest n (cluster_before n tokens opening events (loss + 1)).lost (λ other. floor_before n tokens opening events other t loss)
    least_is t =
        let within = slice_get_within events loss (Lost last.node) last.is in
        let rest = length events - suc loss in
        rw add-one (least_stays rest (length events) t (omega (arith, within)) (omega arith) ∙ least_taken t)

-- ---- of what is not lost nothing is missed

pub greatest_within : (n x : ℕ) (lost : ℕ → Bool) (number : ℕ → ℕ) → ((i : ℕ) → 1 ≤ i → i ≤ n → lost i ≡ false → number i ≤ x) → greatest n lost number ≤ x
greatest_within zero x lost number each = omega arith
greatest_within (suc n) x lost number each =
    let rest = greatest_within n x lost number (λ i first within there. each i first (omega (arith, within)) there) in
    cond_both (lost (suc n)) (greatest n lost number) _ (λ m. m ≤ x) (λ _. rest)
    (λ there. cond_both (leb (number (suc n)) (greatest n lost number)) (greatest n lost number) (number (suc n)) (λ m. m ≤ x) (λ _. rest)
    (λ _. each (suc n) (omega arith) (omega arith) there))

all_most_is : (n : ℕ) (one other : ℕ → ℕ) → ((t : ℕ) → t < n → one t ≤ other t) → all_most n one other ≡ true
all_most_is zero one other each = refl
all_most_is (suc t) one other each =
    let top = each t (omega arith) in
    let rest = all_most_is t one other (λ u within. each u (omega (arith, within))) in
    and_from (leb (one t) (other t)) (all_most t one other) (le-leb (one t) (other t) top) rest

missing_none : (lost : List ℕ) (files : List FloorsRecord) (count node i : ℕ) → missing_from lost files node count ≡ None → node ≤ i → i < node + count
    → (is_among i lost || is_of_files i files) ≡ true
missing_none lost files zero node i none low high = absurd (omega (arith, low, high))
missing_none lost files (suc count) node i none low high =
    here (is_among node lost || is_of_files node files) refl (λ rest above. missing_none lost files count (node + 1) i rest above (omega (arith, high)))
  where
    here : (b : Bool) → (is_among node lost || is_of_files node files) ≡ b
        → (missing_from lost files (node + 1) count ≡ None → node + 1 ≤ i → (is_among i lost || is_of_files i files) ≡ true)
        → (is_among i lost || is_of_files i files) ≡ true
    here true there on =
        let rest : missing_from lost files (node + 1) count ≡ None =
        sym (ap (λ b. cond b (missing_from lost files (node + 1) count) (Some (Missing node))) there) ∙ none in
        elim (cases_Bool (eqb node i)) [
          | inl same ↦ subst (λ m. (is_among m lost || is_of_files m files) ≡ true) (eqb-true node i same) there
          | inr other ↦ let differ = eqb-false node i other in on rest (omega (arith, low, differ))
        ]
    here false there on =
        absurd (none-some (Missing node) (sym (sym (ap (λ b. cond b (missing_from lost files (node + 1) count) (Some (Missing node))) there) ∙ none)))

pub or_none : {A : Type 0} (a b : Option A) → option_or a b ≡ None → (a ≡ None) × (b ≡ None)
or_none None b h = (refl, h)
or_none (Some x) b h = absurd (none-some x (sym h))

pub lost_none : (asked : Asked) (node : ℕ) (lost : List ℕ) (book : List Credential) (files : List FloorsRecord) → lost_fault asked node lost book files ≡ None
    → missing_from lost files 1 (members_of files) ≡ None
lost_none asked node lost book files none = here (is_among node lost) refl
  where
    faults : Option FilesFault
    faults = option_or (files_fault asked lost true book files 0 files)
        (option_or (missing_from lost files 1 (members_of files)) (count_fault (members_of files) (length lost) (length files)))

    here : (b : Bool) → is_among node lost ≡ b → missing_from lost files 1 (members_of files) ≡ None
    here true is =
        let all = or_none (files_fault asked lost true book files 0 files) _ (sym (ap (λ b. cond b faults (Some NotLost)) is) ∙ none) in
        (or_none (missing_from lost files 1 (members_of files)) _ all.1).0
    here false is = absurd (none-some NotLost (sym (sym (ap (λ b. cond b faults (Some NotLost)) is) ∙ none)))

pub file_of : (node : ℕ) (files : List FloorsRecord) → is_of_files node files ≡ true
    → (place : ℕ) × (file : FloorsRecord) × (slice_get files place ≡ Some file) × (file.head.node ≡ node)
file_of node [] none = absurd (false≢true none)
file_of node (file ∷ files) is = here (eqb file.head.node node) refl (file_of node files)
  where
    here : (b : Bool) → eqb file.head.node node ≡ b
        → (is_of_files node files ≡ true → (place : ℕ) × (found : FloorsRecord) × (slice_get files place ≡ Some found) × (found.head.node ≡ node))
        → (place : ℕ) × (found : FloorsRecord) × (slice_get (file ∷ files) place ≡ Some found) × (found.head.node ≡ node)
    here true same behind = (0, file, refl, eqb-true file.head.node node same)
    here false other behind =
        let rest = behind (sym (ap (λ b. b || is_of_files node files) other) ∙ is) in
        (suc rest.0, rest.1, rest.2, rest.3)

-- ---- a file has what its node has

place_above : (from place : ℕ) (name : List ℕ) (book : List Credential) → place_from from name book ≡ Some place → from ≤ place
place_above from place name [] is = absurd (none-some place is)
place_above from place name (token ∷ book) is = here (bytes_eq token.name name) refl (place_above (from + 1) place name book)
  where
    here : (b : Bool) → bytes_eq token.name name ≡ b → (place_from (from + 1) name book ≡ Some place → from + 1 ≤ place) → from ≤ place
    here true same behind =
        let at : from ≡ place = same_Some from place (sym (ap (λ b. cond b (Some from) (place_from (from + 1) name book)) same) ∙ is) in omega (arith, at)
    here false other behind =
        let on = behind (sym (ap (λ b. cond b (Some from) (place_from (from + 1) name book)) other) ∙ is) in omega (arith, on)

-- the row of a token after the first one
told_behind : (from place : ℕ) (name : List ℕ) (book : List Credential) (top : RowRecord) (rows : List RowRecord)
    → ((t : ℕ) → place ≡ from + 1 + t → t < length rows → floor_in name (told_rows book rows) ≡ Some (get_or rows t no_row).next)
    → (t : ℕ) → place ≡ from + t → t < suc (length rows) → place_from (from + 1) name book ≡ Some place
    → floor_in name (told_rows book rows) ≡ Some (get_or (top ∷ rows) t no_row).next
told_behind from place name book top rows on zero at within is =
    let above = place_above (from + 1) place name book is in absurd (omega (arith, at, above))
told_behind from place name book top rows on (suc t) at within is = on t (omega (arith, at)) (omega (arith, within))

pub told_floor : (from place t : ℕ) (name : List ℕ) (book : List Credential) (rows : List RowRecord) → place_from from name book ≡ Some place → place ≡ from + t
    → t < length rows → floor_in name (told_rows book rows) ≡ Some (get_or rows t no_row).next
told_floor from place t name [] rows is at within = absurd (none-some place is)
told_floor from place t name (token ∷ book) [] is at within = absurd (omega (arith, within))
told_floor from place t name (token ∷ book) (top ∷ rows) is at within =
    here (bytes_eq token.name name) refl (λ left u. told_floor (from + 1) place u name book rows left)
  where
    here : (b : Bool) → bytes_eq token.name name ≡ b
        → (place_from (from + 1) name book ≡ Some place → (u : ℕ) → place ≡ from + 1 + u → u < length rows
        → floor_in name (told_rows book rows) ≡ Some (get_or rows u no_row).next)
        → floor_in name (told_rows (token ∷ book) (top ∷ rows)) ≡ Some (get_or (top ∷ rows) t no_row).next
    here true same on =
        let zeroth : from ≡ place = same_Some from place (sym (ap (λ b. cond b (Some from) (place_from (from + 1) name book)) same) ∙ is) in
        let none : t ≡ 0 = omega (arith, zeroth, at) in
        let first : FloorRecord = record { user = token.name; next = top.next } in
        ap (λ b. option_map (λ (row : FloorRecord). row.next) (cond b (Some first) (find (λ row. bytes_eq row.user name) (told_rows book rows)))) same
        ∙ ap (λ m. Some (get_or (top ∷ rows) m no_row).next) (sym none)
    here false other on =
        let first : FloorRecord = record { user = token.name; next = top.next } in
        let left = sym (ap (λ b. cond b (Some from) (place_from (from + 1) name book)) other) ∙ is in
        ap (λ b. option_map (λ (row : FloorRecord). row.next) (cond b (Some first) (find (λ row. bytes_eq row.user name) (told_rows book rows)))) other
        ∙ told_behind from place name book top rows (on left) t at within left

-- the greatest of files is no less than one of them
pub greatest_least : (user : List ℕ) (files : List FloorsRecord) (place x : ℕ) (file : FloorsRecord) → slice_get files place ≡ Some file
    → floor_in user file.rows ≡ Some x → (y : ℕ) × (greatest_of user files ≡ Some y) × (x ≤ y)
greatest_least user [] place x file is has = absurd (none-some file is)
greatest_least user (first ∷ files) zero x file is has =
    one (greatest_of user files) (ap (λ o. greater_of o (greatest_of user files)) (ap (λ (f : FloorsRecord). floor_in user f.rows) (same_Some first file is) ∙ has))
  where
    one : (rest : Option ℕ) → greatest_of user (first ∷ files) ≡ greater_of (Some x) rest → (y : ℕ) × (greatest_of user (first ∷ files) ≡ Some y) × (x ≤ y)
    one None e = (x, e, omega arith)
    one (Some z) e = (greater x z, e, cond_both (leb x z) z x (λ m. x ≤ m) (λ q. leb-true x z q) (λ _. omega arith))
greatest_least user (first ∷ files) (suc place) x file is has =
    let rest = greatest_least user files place x file is has in
    one (floor_in user first.rows) rest.0 rest.2 (ap (greater_of (floor_in user first.rows)) rest.1)
  where
    one : (own : Option ℕ) (y : ℕ) → x ≤ y → greatest_of user (first ∷ files) ≡ greater_of own (Some y) → (z : ℕ) × (greatest_of user (first ∷ files) ≡ Some z) × (x ≤ z)
    one None y le e = (y, e, le)
    one (Some z) y le e =
        (greater z y, e, cond_both (leb z y) y z (λ m. x ≤ m) (λ _. le) (λ q. let below = leb-false z y q in omega (arith, below, le)))

-- what is gathered for a token
pub gathered_at : (files : List FloorsRecord) (book : List Credential) (own : List ℕ) (t y : ℕ) (token : Credential) → slice_get book t ≡ Some token
    → length own ≡ length book → greatest_of token.name files ≡ Some y → slice_index (gathered_floors files book own) t ≡ y
gathered_at files [] own t y token is each most = absurd (none-some token is)
gathered_at files (first ∷ book) [] t y token is each most = absurd (omega (arith, each))
gathered_at files (first ∷ book) (floor ∷ own) zero y token is each most =
    ap (λ (c : Credential). unwrap_or (greatest_of c.name files) floor) (same_Some first token is) ∙ ap (λ o. unwrap_or o floor) most
gathered_at files (first ∷ book) (floor ∷ own) (suc t) y token is each most = gathered_at files book own t y token is (omega (arith, each)) most

-- ---- together

-- the floor of a token at a node only rises while the node keeps its store
abbrev pub FloorsRise : Type 0
FloorsRise = (n tokens : ℕ) (opening : Opening) (events : List Event) → MayOpen n tokens opening
    → (node token first later : ℕ) → first ≤ later → KeepsStore events node first later
    → floor_before n tokens opening events node token first ≤ floor_before n tokens opening events node token later

pub some_at : {A : Type 0} (answer : Option A) (x : A) (P : A → Type 0) → answer ≡ Some x → IfSome answer P → P x
some_at answer x P is h = subst (λ o. IfSome o P) is h

module _ (rise : FloorsRise) (n tokens : ℕ) (opening : Opening) (events : List Event) (may : MayOpen n tokens opening)
    (loss : ℕ) (last : IsLastLoss n tokens opening events loss) (book : List Credential) (own : List ℕ) (files : List FloorsRecord)
    (found : AreFound book) (each : length own ≡ length book) (read : AreReadAfter n tokens opening events loss book files) where
  -- the gathered factor is no less than what one of the files' nodes had at the loss
  reached_by : (t : ℕ) (token : Credential) → slice_get book t ≡ Some token → (place : ℕ) (file : FloorsRecord) → slice_get files place ≡ Some file
      → floor_before n tokens opening events file.head.node t loss ≤ slice_index (gathered_floors files book own) t
  reached_by t token is place file at =
      let told = some_at (slice_get files place) file (λ f. IsReadAfter n tokens opening events loss book f) at (read place) in
      let rows = ((cluster_before n tokens opening events told.event).nodes file.head.node).content.rows in
      let own_place = some_at (slice_get book t) token (λ (c : Credential). place_of c.name book ≡ Some t) is (found t) in
      let within = slice_get_within book t token is in
      let has : floor_in token.name file.rows ≡ Some (get_or rows t no_row).next =
      ap (floor_in token.name) told.told ∙ told_floor 0 t t token.name book rows own_place (omega arith) (omega (arith, within, told.each)) in
      let most = greatest_least token.name files place (get_or rows t no_row).next file at has in
      let gathered = gathered_at files book own t most.0 token is each most.1 in
      let rose = rise n tokens opening events may file.head.node t loss told.event (omega (arith, told.later)) told.kept in
      omega (arith, gathered, most.2, rose)

  pub reached : (asked : Asked) (node : ℕ) (lost : List ℕ) → lost_fault asked node lost book files ≡ None → members_of files ≡ n
      → ((other : ℕ) → is_among other lost ≡ true → (cluster_before n tokens opening events (loss + 1)).lost other ≡ true)
      → all_most (length book) (cluster_before n tokens opening events (length events)).least (slice_index (gathered_floors files book own)) ≡ true
  reached asked node lost none members named =
      all_most_is (length book) (cluster_before n tokens opening events (length events)).least (slice_index (gathered_floors files book own))
      (λ t within. at t (slice_get_cases book t).1 within)
    where
      there : (i : ℕ) → 1 ≤ i → i ≤ n → (cluster_before n tokens opening events (loss + 1)).lost i ≡ false → is_of_files i files ≡ true
      there i first within not_lost =
          let is = missing_none lost files (members_of files) 1 i (lost_none asked node lost book files none) first (omega (arith, within, members)) in
          elim (cases_Bool (is_among i lost)) [
            | inl among ↦ absurd (false≢true (sym not_lost ∙ named i among))
            | inr other ↦ sym (ap (λ b. b || is_of_files i files) other) ∙ is
          ]

      most : (t : ℕ) (token : Credential) → slice_get book t ≡ Some token → (i : ℕ) → 1 ≤ i → i ≤ n
          → (cluster_before n tokens opening events (loss + 1)).lost i ≡ false
          → floor_before n tokens opening events i t loss ≤ slice_index (gathered_floors files book own) t
      most t token is i first within not_lost =
          let file = file_of i files (there i first within not_lost) in
          subst (λ m. floor_before n tokens opening events m t loss ≤ slice_index (gathered_floors files book own) t) file.3
          (reached_by t token is file.0 file.1 file.2)

      at : (t : ℕ) → ((x : Credential) × (t < length book) × (slice_get book t ≡ Some x) × (get_or book t x ≡ x)) ⊎ ((length book ≤ t) × (slice_get book t ≡ None))
          → t < length book → (cluster_before n tokens opening events (length events)).least t ≤ slice_index (gathered_floors files book own) t
      at t (inl token) within =
          let least = least_is n tokens opening events loss last t in
          let below = greatest_within n (slice_index (gathered_floors files book own) t) (cluster_before n tokens opening events (loss + 1)).lost
          (λ other. floor_before n tokens opening events other t loss) (most t token.0 token.2) in
          omega (arith, least, below)
      at t (inr past) within = absurd (omega (arith, past.0, within))
