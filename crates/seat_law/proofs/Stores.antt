-- A start with other seats is a restart of the roster. A loss and a replacement store are those of the roster.
use Rattle.std.proofs.Common.{◌≡◌, ℕ, zero, suc, ◌+◌, ◌<◌, ◌≤◌, ◌⊎◌, ⊎_elim, Bool, true, false, not, cond, ◌&&◌, ◌||◌, List, [], ◌∷◌, length, Option, Some, None, refl, sym, ap, ◌∙◌, subst, arith, eqb, leb, ltb}
use Rattle.std.specs.Prelude.{option_map}
use Rattle.std.specs.List.{list_all}
use Rattle.std.specs.Option.{option_and_then, option_or}
use Rattle.std.proofs.lemmas.Bool.{cond-true, cond-false, eqb-true, ltb-true, leb-true, and_parts, and_from, cases_Bool, cases_lt, false≢true}
use Rattle.std.proofs.lemmas.List.{get_or-map, length-map}
use Rattle.std.proofs.lemmas.Option.{none-some, same_Some}
use Rattle.floor_store.specs.Content.{Content, opening_row, with_next_boot}
use Rattle.floor_store.specs.Records.{PassRecord, RowRecord}
use Rattle.otp_core.specs.Acceptance.{majority_of, size}
use Rattle.seated_store.specs.Seats.{with_token}
use Rattle.vote_core.specs.Books.{are_apart, is_number, number_of}
use Rattle.vote_core.specs.NodeSet.{with_node}
use Rattle.vote_core.specs.Numbers.{named_pass}
use Rattle.vote_core.specs.Roster.{Roster, Does, Renews, Rests, after_happening, renewed_floor, with_tokens}
use Rattle.vote_core.specs.Rows.{no_row, row}
use Rattle.vote_core.specs.Schedule.{Member, after_act, after_event, after_loss, after_replacement, after_restart, all_most, greater, greatest, has_store, is_member, last_boot, lost_member, may_replace, opening_member, opening_rows, restarted_member, set_node, stopped_member, with_member, without_node}
use Rattle.vote_core.specs.Voting.{fresh_voter}
use Rattle.vote_core.proofs.Basics.{all_most_at, opening_floor, opening_size}
use Rattle.vote_core.proofs.Envelopes.{Posts}
use Rattle.vote_core.proofs.Names.{by_test}
use Rattle.vote_core.proofs.Unknown.{opening_beyond, opening_bound, opening_free}
use Rattle.seat_law.specs.Below.{Site}
use Rattle.seat_law.specs.Seats.{Sites, after_remaking, after_start, free_of, is_among, made_floor, may_remake, may_seat, own_lost, seat_content, seat_name, seated_pass, stored_last, stored_row, with_last, with_own, with_rows, with_seats}
use Rattle.seat_law.proofs.Relation.{NodeSim, Sim, free_same, fresh_named, member_sim, next_named, number_lacks, number_there, option_cases, stopped_node, store_same, stored_is, swapped, two_sim, with_process}
use Rattle.seat_law.proofs.Doings.{le_true}

-- ---- a restart

restarted_node : {T : ℕ} {x : Site} {canon : Member} {on : ℕ → Bool} → NodeSim T x canon on → NodeSim T (with_process x (restarted_member x.member)) (restarted_member canon) on
restarted_node {T} {x} {canon} {on} h =
    choice (ltb x.member.content.boot last_boot) (ltb canon.content.boot last_boot) (ap (λ m. ltb m last_boot) h.content.boot)
  where
    choice : (m m' : Bool) → m' ≡ m
        → NodeSim T (with_process x (cond m (record { content = with_next_boot x.member.content; voter = fresh_voter; running = true }) (stopped_member x.member)))
        (cond m' (record { content = with_next_boot canon.content; voter = fresh_voter; running = true }) (stopped_member canon)) on
    choice true true e = record {
      content = next_named h.content;
      voter = fresh_named x.name (length x.member.content.rows);
      running = refl;
      last = h.last;
      on_is = h.on_is;
      seated = h.seated;
      within = h.within;
      away = h.away;
      free = h.free;
    }
    choice false false e = stopped_node h
    choice true false e = absurd (false≢true e)
    choice false true e = absurd (false≢true (sym e))

pub restart_sim : (s : Sites) (r : Roster) (o : Option ℕ) → Sim s r → Sim (with_own (after_restart o s.seen.own) s) (record r { cluster = after_restart o r.cluster })
unfolding after_restart
restart_sim s r None k = k
restart_sim s r (Some i) k =
    two_sim s r (has_store s.seen.own i) (has_store r.cluster i) _ _ _ _ (store_same i k)
    (λ _. member_sim s r i (restarted_member (s.seen.own.nodes i)) (restarted_member (r.cluster.nodes i)) k (restarted_node (k.nodes i))) (λ _. k)

-- ---- a start with other seats

last_place : (m k : ℕ) → k < suc m → (k < m) ⊎ (k ≡ m)
last_place m k l = grind arith

no_number : (o : Option ℕ) → not (is_number o) ≡ true → o ≡ None
no_number None h = refl
no_number (Some x) h = absurd (false≢true h)

pub names_apart : (c : ℕ) (name : ℕ → ℕ) (j m : ℕ) → are_apart c name ≡ true → j < c → m < c → name j ≡ name m → j ≡ m
names_apart zero name j m h a d e = absurd (omega (arith, a))
names_apart (suc c) name j m h a d e =
    let parts = and_parts (not (is_number (number_of c name (name c)))) (are_apart c name) h in
    let none = no_number (number_of c name (name c)) parts.0 in
    ⊎_elim
    (λ (x : j < c). ⊎_elim (λ (y : m < c). names_apart c name j m parts.1 x y e) (λ (y : m ≡ c). absurd (number_lacks c name (name c) none j x (e ∙ ap name y))) (last_place c m d))
    (λ (x : j ≡ c). ⊎_elim (λ (y : m < c). absurd (number_lacks c name (name c) none m y (sym e ∙ ap name x))) (λ (y : m ≡ c). x ∙ sym y) (last_place c m d))
    (last_place c j a)

all_at : (test : ℕ → Bool) (seats : List ℕ) (k : ℕ) → list_all test seats ≡ true → k < length seats → test (seat_name seats k) ≡ true
all_at test [] k h lt = absurd (omega (arith, lt))
all_at test (t ∷ seats) zero h lt = (and_parts (test t) (list_all test seats) h).0
all_at test (t ∷ seats) (suc k) h lt = all_at test seats k (and_parts (test t) (list_all test seats) h).1 (omega (arith, lt))

-- a pass by its seat is, under its name, the pass
pass_back : (seats : List ℕ) (o : Option PassRecord) → option_or (option_map (named_pass (seat_name seats)) (option_and_then (seated_pass seats) o)) o ≡ o
pass_back seats None = refl
pass_back seats (Some p) =
    ⊎_elim
    (λ (none : number_of (length seats) (seat_name seats) p.token ≡ None). ap back none)
    (λ (some : (m : ℕ) × (number_of (length seats) (seat_name seats) p.token ≡ Some m)).
    ap back some.1 ∙ ap (λ m. Some (with_token p m)) (number_there (length seats) (seat_name seats) p.token some.0 some.1).1)
    (option_cases (number_of (length seats) (seat_name seats) p.token))
  where
    back : Option ℕ → Option PassRecord
    back o = option_or (option_map (named_pass (seat_name seats)) (option_map (with_token p) o)) (Some p)

pass_seated : (seats : List ℕ) (o : Option PassRecord) (z : PassRecord) → option_and_then (seated_pass seats) o ≡ Some z → z.token < length seats
pass_seated seats None z e = absurd (none-some z e)
pass_seated seats (Some p) z e =
    ⊎_elim
    (λ (none : number_of (length seats) (seat_name seats) p.token ≡ None). absurd (none-some z (sym (ap (option_map (with_token p)) none) ∙ e)))
    (λ (some : (m : ℕ) × (number_of (length seats) (seat_name seats) p.token ≡ Some m)).
    subst (λ (w : PassRecord). w.token < length seats) (same_Some (with_token p some.0) z (sym (ap (option_map (with_token p)) some.1) ∙ e))
    (number_there (length seats) (seat_name seats) p.token some.0 some.1).0)
    (option_cases (number_of (length seats) (seat_name seats) p.token))

module _ (s : Sites) (r : Roster) (i : ℕ) (seats : List ℕ) (k : Sim s r) (posts : Posts s.seen.tokens r.cluster) (may : may_seat s i seats ≡ true) where
  abbrev canon : Member
  canon = r.cluster.nodes i

  abbrev content : Content
  content = seat_content s i seats

  abbrev started : Member
  started = record { content = with_next_boot content; voter = fresh_voter; running = true }

  abbrev site : Site
  site = record { name = seat_name seats; member = started; enrolled = s.enrolled i; aside = stored_row s i; last = stored_last s i }

  has : (has_store s.seen.own i ≡ true) × (ltb content.boot last_boot ≡ true)
  has = and_parts (has_store s.seen.own i) (ltb content.boot last_boot) (and_parts _ _ may).0

  good : (are_apart (length seats) (seat_name seats) ≡ true) × (list_all (s.enrolled i) seats ≡ true)
  good = and_parts (are_apart (length seats) (seat_name seats)) (list_all (s.enrolled i) seats) (and_parts _ _ may).1

  long : length content.rows ≡ length seats
  long = length-map seats (stored_row s i)

  known : (m : ℕ) → m < length content.rows → s.enrolled i (seat_name seats m) ≡ true
  known m lt = all_at (s.enrolled i) seats m good.1 (omega (arith, lt, long))

  seated_node : NodeSim s.seen.tokens site (record { content = with_next_boot canon.content; voter = fresh_voter; running = true }) (r.enrolled i)
  seated_node =
      let h = k.nodes i in
      let many = (posts.nodes i).rows in
      record {
        content = record {
          one = λ j m a d e. names_apart (length seats) (seat_name seats) j m good.0 (omega (arith, a, long)) (omega (arith, d, long)) e;
          there = λ m a. let low = h.within (seat_name seats m) (known m a) in omega (arith, low, many);
          rows = λ m a. stored_is s i (seat_name seats m) h (known m a) ∙ sym (get_or-map (stored_row s i) seats m 0 no_row (omega (arith, a, long)));
          boot = ap (λ m. m + 1) h.content.boot;
          last = refl;
          last_known = λ z e. let low = pass_seated seats (stored_last s i) z e in omega (arith, low, long);
        };
        voter = fresh_named (seat_name seats) (length content.rows);
        running = refl;
        last = h.last ∙ sym (pass_back seats (stored_last s i));
        on_is = h.on_is;
        seated = known;
        within = h.within;
        away = λ t mine _. stored_is s i t h mine;
        free = h.free;
      }

  -- what the two members are after the restart
  own_is : restarted_member (record (s.seen.own.nodes i) { content = content }) ≡ started
  own_is = cond-true (ltb content.boot last_boot) started (stopped_member (record (s.seen.own.nodes i) { content = content })) has.1

  canon_is : restarted_member canon ≡ record { content = with_next_boot canon.content; voter = fresh_voter; running = true }
  canon_is = cond-true (ltb canon.content.boot last_boot) _ (stopped_member canon) (ap (λ m. ltb m last_boot) (k.nodes i).content.boot ∙ has.1)

  seats_sim : Sim (with_seats i seats s) (record r { cluster = after_restart (Some i) r.cluster })
  unfolding after_restart
  seats_sim =
      subst (λ m. Sim (with_seats i seats s) (record r { cluster = cond m (with_member i (restarted_member canon) r.cluster) r.cluster })) (sym (store_same i k ∙ has.0))
      (record {
        members = k.members;
        lost = k.lost;
        least = k.least;
        sent = k.sent;
        begun = k.begun;
        accepted = k.accepted;
        nodes = λ j.
            by_seats (λ (a : ℕ → ℕ) (m : Member) (b : ℕ → RowRecord) (l : Option PassRecord) (p : Member).
            NodeSim s.seen.tokens (record { name = a; member = m; enrolled = s.enrolled j; aside = b; last = l }) p (r.enrolled j)) (eqb j i)
            (seat_name seats) (s.seen.name j) _ (s.seen.own.nodes j) (stored_row s i) (s.aside j) (stored_last s i) (s.last j) _ (r.cluster.nodes j)
            (λ q. subst (λ z. NodeSim s.seen.tokens (record { name = seat_name seats; member = restarted_member (record (s.seen.own.nodes i) { content = content }); enrolled = s.enrolled z; aside = stored_row s i; last = stored_last s i }) (restarted_member canon) (r.enrolled z)) (sym (eqb-true j i q))
            (subst (λ m. NodeSim s.seen.tokens (with_process site m) (restarted_member canon) (r.enrolled i)) (sym own_is)
            (subst (λ m. NodeSim s.seen.tokens site m (r.enrolled i)) (sym canon_is) seated_node)))
            (λ _. k.nodes j);
      })
    where
      by_seats : (R : (ℕ → ℕ) → Member → (ℕ → RowRecord) → Option PassRecord → Member → Type 0) (m : Bool) (a a' : ℕ → ℕ) (x x' : Member) (b b' : ℕ → RowRecord) (l l' : Option PassRecord) (p p' : Member)
          → (m ≡ true → R a x b l p) → (m ≡ false → R a' x' b' l' p') → R (cond m a a') (cond m x x') (cond m b b') (cond m l l') (cond m p p')
      by_seats R true a a' x x' b b' l l' p p' one other = one refl
      by_seats R false a a' x x' b b' l l' p p' one other = other refl

start_by : (s : Sites) (r : Roster) (i : ℕ) (seats : List ℕ) (m : Bool) → may_seat s i seats ≡ m → Sim s r → Posts s.seen.tokens r.cluster
    → Sim (cond m (with_seats i seats s) (with_own (after_restart (Some i) s.seen.own) s)) (record r { cluster = after_restart (Some i) r.cluster })
start_by s r i seats true may k posts = seats_sim s r i seats k posts may
start_by s r i seats false may k posts = restart_sim s r (Some i) k

pub start_sim : (s : Sites) (r : Roster) (i : ℕ) (seats : List ℕ) → Sim s r → Posts s.seen.tokens r.cluster → Sim (after_start i seats s) (record r { cluster = after_restart (Some i) r.cluster })
start_sim s r i seats k posts = start_by s r i seats (may_seat s i seats) refl k posts

-- ---- a loss

pub greatest_same : (n : ℕ) (lost : ℕ → Bool) (one other : ℕ → ℕ) → ((i : ℕ) → one i ≡ other i) → greatest n lost one ≡ greatest n lost other
greatest_same zero lost one other h = refl
greatest_same (suc n) lost one other h =
    ap (λ m. cond (lost (suc n)) m (greater (one (suc n)) m)) (greatest_same n lost one other h)
    ∙ ap (λ m. cond (lost (suc n)) (greatest n lost other) (greater m (greatest n lost other))) (h (suc n))

lost_node : {T : ℕ} {x : Site} {canon : Member} {on : ℕ → Bool} → NodeSim T x canon on → NodeSim T (with_process x (lost_member x.member)) (lost_member canon) on
lost_node {T} {x} h = record {
  content = next_named h.content;
  voter = fresh_named x.name (length x.member.content.rows);
  running = refl;
  last = h.last;
  on_is = h.on_is;
  seated = h.seated;
  within = h.within;
  away = h.away;
  free = h.free;
}

pub gone_sim : (s : Sites) (r : Roster) (i : ℕ) → Sim s r → Sim (with_own (own_lost i s) s) (record r { cluster = after_loss i r.cluster })
unfolding after_loss
gone_sim s r i k =
    two_sim s r (has_store s.seen.own i) (has_store r.cluster i) _ _ _ _ (store_same i k)
    (λ _. record {
      members = k.members;
      lost = ap (with_node i) k.lost;
      least = λ t.
          greatest_same r.cluster.n (with_node i r.cluster.lost) (λ j. (row (r.cluster.nodes j).content t).next) (λ j. free_of s j t) (λ j. free_same s r j t k)
          ∙ ap (λ m. greatest m (with_node i r.cluster.lost) (λ j. free_of s j t)) k.members ∙ ap (λ l. greatest s.seen.own.n (with_node i l) (λ j. free_of s j t)) k.lost;
      sent = k.sent;
      begun = k.begun;
      accepted = k.accepted;
      nodes = swapped s r i (lost_member (s.seen.own.nodes i)) (lost_member (r.cluster.nodes i)) k (lost_node (k.nodes i));
    })
    (λ _. k)

-- ---- a replacement store

all_most_more : (n : ℕ) (one one' other other' : ℕ → ℕ) → ((t : ℕ) → one' t ≡ one t) → ((t : ℕ) → other t ≤ other' t) → all_most n one other ≡ true → all_most n one' other' ≡ true
all_most_more zero one one' other other' h l m = refl
all_most_more (suc t) one one' other other' h l m =
    let parts = and_parts (leb (one t) (other t)) (all_most t one other) m in
    let low = leb-true (one t) (other t) parts.0 in
    let same = h t in
    let more = l t in
    and_from (leb (one' t) (other' t)) (all_most t one' other') (le_true (one' t) (other' t) (omega (arith, low, same, more))) (all_most_more t one one' other other' h l parts.1)

opening_at : (n : ℕ) (floor : ℕ → ℕ) (u : ℕ) → u < n → row (record { rows = opening_rows n floor; boot = 0; last = None }) u ≡ opening_row (floor u)
opening_at n floor u lt = opening_bound n floor u ∙ ap opening_row (opening_floor n floor u lt)

among_is_known : (T : ℕ) (given : List ℕ) (t : ℕ) → list_all (λ token. ltb token T) given ≡ true → is_among given t ≡ true → t < T
among_is_known T [] t h among = absurd (false≢true among)
among_is_known T (u ∷ given) t h among =
    let parts = and_parts (ltb u T) (list_all (λ token. ltb token T) given) h in
    ⊎_elim (λ (q : eqb u t ≡ true). subst (λ m. m < T) (eqb-true u t q) (ltb-true u T parts.0))
    (λ (q : eqb u t ≡ false). among_is_known T given t parts.1 (sym (ap (λ m. m || is_among given t) q) ∙ among)) (cases_Bool (eqb u t))

remade_by : (s : Sites) (r : Roster) (e i boot : ℕ) (given : List ℕ) (floor : ℕ → ℕ) (m : Bool) → may_remake s i boot given floor ≡ m → Sim s r → Posts s.seen.tokens r.cluster
    → Sim (cond m (record s {
      seen = record s.seen { own = record s.seen.own { nodes = set_node i (opening_member boot 0 (λ seat. 0)) s.seen.own.nodes; lost = without_node i s.seen.own.lost } };
      enrolled = with_tokens i (is_among given) s.enrolled;
      aside = with_rows i (λ token. opening_row (floor token)) s.aside;
      last = with_last i None s.last;
    }) s) (after_happening e (cond m (Renews i boot (is_among given) floor) (Does (Rests i))) r)
unfolding after_event after_act after_replacement
remade_by s r e i boot given floor false may k posts = k
remade_by s r e i boot given floor true may k posts =
    let R = r.cluster in
    let O = s.seen.own in
    let T = s.seen.tokens in
    let canon = (R.nodes i).content in
    let f = renewed_floor R (is_among given) floor in
    let names = and_parts (list_all (λ token. ltb token T) given) _ may in
    let one = and_parts (is_member O.n i && O.lost i) _ names.1 in
    let gone = and_parts (is_member O.n i) (O.lost i) one.0 in
    let two = and_parts (ltb (size O.n O.lost) (majority_of O.n)) _ one.1 in
    let three = and_parts (leb (O.nodes i).content.boot boot) _ two.1 in
    let most = and_parts (leb boot last_boot) (all_most T O.least (made_floor given floor)) three.1 in
    let rows_are : length canon.rows ≡ T = (posts.nodes i).rows in
    let more : (t : ℕ) → made_floor given floor t ≤ f t =
    λ t. by_test (λ (u v : ℕ). u ≤ v) (is_among given t) (floor t) 0 (floor t) (R.least t) (λ _. omega arith) (λ _. omega arith) in
    let allowed : may_replace R i boot f ≡ true =
    and_from (is_member R.n i && R.lost i) _ (and_from (is_member R.n i) (R.lost i) (ap (λ z. is_member z i) k.members ∙ gone.0) (ap (λ (l : ℕ → Bool). l i) k.lost ∙ gone.1))
    (and_from (ltb (size R.n R.lost) (majority_of R.n)) _ (ap (λ z. ltb (size z R.lost) (majority_of z)) k.members ∙ ap (λ l. ltb (size O.n l) (majority_of O.n)) k.lost ∙ two.0)
    (and_from (leb canon.boot boot) _ (ap (λ z. leb z boot) (k.nodes i).content.boot ∙ three.0)
    (and_from (leb boot last_boot) _ most.0
    (subst (λ z. all_most z R.least f ≡ true) (sym rows_are) (all_most_more T O.least R.least (made_floor given floor) f k.least more most.1))))) in
    let x = opening_member boot 0 (λ seat. 0) in
    let y = opening_member boot (length canon.rows) f in
    let all = opening_size (length canon.rows) f in
    let rows : ℕ → RowRecord = λ token. opening_row (floor token) in
    let site : Site = record { name = s.seen.name i; member = x; enrolled = is_among given; aside = rows; last = None } in
    let known : (t : ℕ) → is_among given t ≡ true → t < T = λ t mine. among_is_known T given t names.0 mine in
    let node : NodeSim T site y (is_among given) = record {
      content = record {
        one = λ j m a d e. absurd (omega (arith, a));
        there = λ m a. absurd (omega (arith, a));
        rows = λ m a. absurd (omega (arith, a));
        boot = refl;
        last = refl;
        last_known = λ z e. absurd (none-some z e);
      };
      voter = fresh_named (s.seen.name i) 0;
      running = refl;
      last = refl;
      on_is = λ t. refl;
      seated = λ m a. absurd (omega (arith, a));
      within = known;
      away = λ t mine _.
          let low = known t mine in
          opening_at (length canon.rows) f t (omega (arith, low, rows_are)) ∙ ap opening_row (cond-true (is_among given t) (floor t) (R.least t) mine);
      free = λ t off.
          ⊎_elim
          (λ (lt : t < T).
          let low = all_most_at T O.least (made_floor given floor) t most.1 lt in
          let nothing : made_floor given floor t ≡ 0 = cond-false (is_among given t) (floor t) 0 off in
          let same = k.least t in
          opening_free (length canon.rows) f t (cond-false (is_among given t) (floor t) (R.least t) off ∙ none_left (R.least t) (O.least t) (made_floor given floor t) same low nothing))
          (λ (ge : T ≤ t). opening_beyond (opening_rows (length canon.rows) f) t (omega (arith, ge, all, rows_are)))
          (cases_lt t T);
    } in
    subst (λ m. Sim (record s {
      seen = record s.seen { own = record O { nodes = set_node i x O.nodes; lost = without_node i O.lost } };
      enrolled = with_tokens i (is_among given) s.enrolled;
      aside = with_rows i rows s.aside;
      last = with_last i None s.last;
    })
    (record { cluster = cond m (record R { nodes = set_node i y R.nodes; lost = without_node i R.lost }) R; enrolled = cond m (with_tokens i (is_among given) r.enrolled) r.enrolled }))
    (sym allowed)
    (record {
      members = k.members;
      lost = ap (without_node i) k.lost;
      least = k.least;
      sent = k.sent;
      begun = k.begun;
      accepted = k.accepted;
      nodes = λ j.
          by_store (λ (n : ℕ → ℕ) (m : Member) (a : ℕ → Bool) (b : ℕ → RowRecord) (l : Option PassRecord). NodeSim T (record { name = n; member = m; enrolled = a; aside = b; last = l })) (eqb j i)
          (s.seen.name j) x (O.nodes j) (is_among given) (s.enrolled j) rows (s.aside j) None (s.last j) y (R.nodes j) (is_among given) (r.enrolled j)
          (λ q. subst (λ z. NodeSim T (record site { name = s.seen.name z }) y (is_among given)) (sym (eqb-true j i q)) node) (λ _. k.nodes j);
    })
  where
    none_left : (a c d : ℕ) → a ≡ c → c ≤ d → d ≡ 0 → a ≡ 0
    none_left a c d p q z = omega (arith, p, q, z)

    by_store : (R : (ℕ → ℕ) → Member → (ℕ → Bool) → (ℕ → RowRecord) → Option PassRecord → Member → (ℕ → Bool) → Type 0) (m : Bool) (n : ℕ → ℕ) (x x' : Member) (a a' : ℕ → Bool) (b b' : ℕ → RowRecord) (l l' : Option PassRecord) (p p' : Member) (on on' : ℕ → Bool)
        → (m ≡ true → R n x a b l p on) → (m ≡ false → R n x' a' b' l' p' on') → R n (cond m x x') (cond m a a') (cond m b b') (cond m l l') (cond m p p') (cond m on on')
    by_store R true n x x' a a' b b' l l' p p' on on' one other = one refl
    by_store R false n x x' a a' b b' l l' p p' on on' one other = other refl

pub remade_sim : (s : Sites) (r : Roster) (e i boot : ℕ) (given : List ℕ) (floor : ℕ → ℕ) → Sim s r → Posts s.seen.tokens r.cluster
    → Sim (after_remaking i boot given floor s) (after_happening e (cond (may_remake s i boot given floor) (Renews i boot (is_among given) floor) (Does (Rests i))) r)
remade_sim s r e i boot given floor k posts = remade_by s r e i boot given floor (may_remake s i boot given floor) refl k posts
