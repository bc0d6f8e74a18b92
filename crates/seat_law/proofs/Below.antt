-- A start, a put and a row more are over the model what they are over a store that is seen through seats.
use Rattle.std.proofs.Common.{◌≡◌, ℕ, zero, suc, ◌<◌, ◌⊎◌, ⊎_elim, Bool, true, false, not, cond, ◌&&◌, ◌||◌, List, [], ◌∷◌, length, map, Option, Some, None, refl, sym, ap, ◌∙◌, subst, arith, eqb, ltb}
use Rattle.std.specs.Prelude.{option_map}
use Rattle.std.specs.List.{list_all, position_or_len, slice_get}
use Rattle.std.specs.Option.{option_and_then, option_or}
use Rattle.std.proofs.lemmas.Bool.{cases_Bool, cond_both, cond-true, cond-false, eqb-true, eq-eqb, ltb-true, and_parts, and_from, not-true, false≢true}
use Rattle.std.proofs.lemmas.List.{get_or-map, length-map}
use Rattle.std.proofs.lemmas.List.Sums.{passes_at_first}
use Rattle.std.proofs.lemmas.Option.{none-some, same_Some, slice_get-get_or}
use Rattle.floor_store.specs.Content.{Content, opening_content_at, opening_row, with_next_boot, with_row}
use Rattle.floor_store.specs.Records.{PassRecord, RowRecord}
use Rattle.seated_store.specs.Seats.{AreSeats, IsSeen, pass_above, pass_below, row_at, seated_content, seated_rows, token_of, with_token}
use Rattle.seated_store.proofs.SeatLemmas.{seen_pass_put, seen_put, token_of_seat}
use Rattle.vote_core.specs.Books.{are_apart, is_number, number_of, with_name}
use Rattle.vote_core.specs.Numbers.{named_pass, with_new_row}
use Rattle.vote_core.specs.Rows.{no_row, row}
use Rattle.vote_core.specs.Schedule.{Cluster, Member, after_restart, opening_member, has_store, last_boot, restarted_member, stopped_member, with_member}
use Rattle.vote_core.specs.Voting.{VoterState, fresh_voter}
use Rattle.vote_core.proofs.Basics.{get_before, get_last, length_open, put_size}
use Rattle.vote_core.proofs.Frames.{only_put}
use Rattle.vote_core.proofs.Names.{is_below, not_eqb, same_or_not}
use Rattle.seat_law.specs.Below.{IsBelow, Site, put_below, site_of}
use Rattle.seat_law.specs.Seats.{row_at as stored_at, Sites, after_remaking, is_among, may_remake, after_adding, after_start, may_add, may_seat, seat_content, seat_name, seated_pass, stored_last, stored_row, with_opening, with_own, with_seats}
use Rattle.seat_law.proofs.Relation.{number_lacks, number_there, option_cases}
use Rattle.seat_law.proofs.Stores.{names_apart}

last_place : (m k : ℕ) → k < suc m → (k < m) ⊎ (k ≡ m)
last_place m k l = grind arith

number_is : (c : ℕ) (name : ℕ → ℕ) (t k : ℕ) → k < c → name k ≡ t → is_number (number_of c name t) ≡ true
number_is c name t k lt is =
    ⊎_elim (λ (h : number_of c name t ≡ None). absurd (number_lacks c name t h k lt is))
    (λ (h : (x : ℕ) × (number_of c name t ≡ Some x)). ap is_number h.1) (option_cases (number_of c name t))

number_same : (c : ℕ) (name name' : ℕ → ℕ) (t : ℕ) → ((k : ℕ) → k < c → name' k ≡ name k) → number_of c name' t ≡ number_of c name t
number_same zero name name' t h = refl
number_same (suc c) name name' t h =
    ap (λ m. cond (eqb m t) (Some c) (number_of c name' t)) (h c (omega arith))
    ∙ ap (λ o. cond (eqb (name c) t) (Some c) o) (number_same c name name' t (λ k lt. h k (omega (arith, lt))))

apart_from : (c : ℕ) (name : ℕ → ℕ) → ((j k : ℕ) → j < c → k < c → name j ≡ name k → j ≡ k) → are_apart c name ≡ true
apart_from zero name h = refl
apart_from (suc c) name h =
    and_from (not (is_number (number_of c name (name c)))) (are_apart c name)
    (⊎_elim (λ (none : number_of c name (name c) ≡ None). ap (λ o. not (is_number o)) none)
    (λ (some : (m : ℕ) × (number_of c name (name c) ≡ Some m)).
    let there = number_there c name (name c) some.0 some.1 in
    let same = h some.0 c (omega (arith, there.0)) (omega arith) there.1 in
    absurd (omega (arith, there.0, same)))
    (option_cases (number_of c name (name c))))
    (apart_from c name (λ j k a b e. h j k (omega (arith, a)) (omega (arith, b)) e))

-- ---- seats

seat_at : (seats : List ℕ) (k : ℕ) → k < length seats → slice_get seats k ≡ Some (seat_name seats k)
seat_at seats k lt = slice_get-get_or seats k 0 lt

seat_within : (rows : ℕ) (seats : List ℕ) (k : ℕ) → AreSeats rows seats → k < length seats → seat_name seats k < rows
seat_within rows seats k are lt = are.within k (seat_name seats k) (seat_at seats k lt)

-- the seat of a row that is seen
token_at : (seats : List ℕ) (k m : ℕ) → token_of seats k ≡ Some m → (m < length seats) × (seat_name seats m ≡ k)
token_at seats k m is =
    let place = position_or_len (λ other. eqb other k) seats in
    cond_both (ltb place (length seats)) (Some place) None (λ o. o ≡ Some m → (m < length seats) × (seat_name seats m ≡ k))
    (λ q e.
    let lt = ltb-true place (length seats) q in
    let same = same_Some place m e in
    (subst (λ z. z < length seats) same lt, subst (λ z. seat_name seats z ≡ k) same (eqb-true (seat_name seats place) k (passes_at_first (λ other. eqb other k) seats 0 lt))))
    (λ _ e. absurd (none-some m e)) is

-- the name of a seat among the names of seats
named_seat : (name : ℕ → ℕ) (seats : List ℕ) (k : ℕ) → k < length seats → seat_name (map name seats) k ≡ name (seat_name seats k)
named_seat name seats k lt = get_or-map name seats k 0 0 lt

map_same : {A : Type 0} (f g : ℕ → A) (seats : List ℕ) → ((k : ℕ) → k < length seats → f (seat_name seats k) ≡ g (seat_name seats k)) → map f seats ≡ map g seats
map_same f g [] h = refl
map_same f g (x ∷ seats) h = ap (λ y. y ∷ map f seats) (h 0 (omega arith)) ∙ ap (λ l. g x ∷ l) (map_same f g seats (λ k lt. h (suc k) (omega (arith, lt))))

map_map : {A : Type 0} (f : ℕ → A) (name : ℕ → ℕ) (seats : List ℕ) → map f (map name seats) ≡ map (λ k. f (name k)) seats
map_map f name [] = refl
map_map f name (x ∷ seats) = ap (λ l. f (name x) ∷ l) (map_map f name seats)

-- ---- a store below

module _ (s : Sites) (i : ℕ) (name : ℕ → ℕ) (seats : List ℕ) (c : Content) (b : IsBelow (site_of s i) name seats c) where
  abbrev own : Content
  own = (s.seen.own.nodes i).content

  long : length own.rows ≡ length seats
  long = ap (λ (d : Content). length d.rows) b.seen ∙ length-map seats (row_at c.rows)

  -- the model's row of a token is the store's
  stored : (k : ℕ) → k < length c.rows → stored_row s i (name k) ≡ row c k
  stored k lt =
      ⊎_elim
      (λ (none : number_of (length own.rows) (s.seen.name i) (name k) ≡ None).
      ap (λ o. stored_at s i (name k) o) none
      ∙ ⊎_elim (λ (no : token_of seats k ≡ None). sym (b.aside k lt no))
      (λ (some : (m : ℕ) × (token_of seats k ≡ Some m)).
      let at = token_at seats k some.0 some.1 in
      absurd (number_lacks (length own.rows) (s.seen.name i) (name k) none some.0 (omega (arith, at.0, long)) (b.names some.0 at.0 ∙ ap name at.1)))
      (option_cases (token_of seats k)))
      (λ (some : (m : ℕ) × (number_of (length own.rows) (s.seen.name i) (name k) ≡ Some m)).
      let there = number_there (length own.rows) (s.seen.name i) (name k) some.0 some.1 in
      let low : some.0 < length seats = omega (arith, there.0, long) in
      let same : seat_name seats some.0 ≡ k = b.one (seat_name seats some.0) k (seat_within (length c.rows) seats some.0 b.are low) lt (sym (b.names some.0 low) ∙ there.1) in
      ap (λ o. stored_at s i (name k) o) some.1
      ∙ ap (λ (d : Content). row d some.0) b.seen
      ∙ get_or-map (row_at c.rows) seats some.0 0 no_row low
      ∙ ap (row_at c.rows) same)
      (option_cases (number_of (length own.rows) (s.seen.name i) (name k)))

  module _ (others : List ℕ) (are : AreSeats (length c.rows) others) where
    abbrev tokens : List ℕ
    tokens = map name others

    many : length tokens ≡ length others
    many = length-map others name

    -- the seat of a token is the seat of its row
    same_seat : (q : ℕ) → q < length c.rows → number_of (length tokens) (seat_name tokens) (name q) ≡ token_of others q
    same_seat q lt =
        ⊎_elim
        (λ (none : number_of (length tokens) (seat_name tokens) (name q) ≡ None).
        none ∙ ⊎_elim (λ (no : token_of others q ≡ None). sym no)
        (λ (some : (m : ℕ) × (token_of others q ≡ Some m)).
        let at = token_at others q some.0 some.1 in
        absurd (number_lacks (length tokens) (seat_name tokens) (name q) none some.0 (omega (arith, at.0, many)) (named_seat name others some.0 at.0 ∙ ap name at.1)))
        (option_cases (token_of others q)))
        (λ (some : (m : ℕ) × (number_of (length tokens) (seat_name tokens) (name q) ≡ Some m)).
        let there = number_there (length tokens) (seat_name tokens) (name q) some.0 some.1 in
        let low : some.0 < length others = omega (arith, there.0, many) in
        let same = b.one (seat_name others some.0) q (seat_within (length c.rows) others some.0 are low) lt (sym (named_seat name others some.0 low) ∙ there.1) in
        some.1 ∙ sym (token_of_seat (length c.rows) others some.0 q are (seat_at others some.0 low ∙ ap Some same)))
        (option_cases (number_of (length tokens) (seat_name tokens) (name q)))

    last_is : (o : Option PassRecord) → ((z : PassRecord) → o ≡ Some z → z.token < length c.rows) → option_and_then (seated_pass tokens) (option_map (named_pass name) o) ≡ option_and_then (pass_above others) o
    last_is None known = refl
    last_is (Some p) known = ap (option_map (with_token p)) (same_seat p.token (known p refl))

    -- what the process sees is what `seated_store` shows
    pub content_is : seat_content s i tokens ≡ seated_content others c
    content_is =
        ap (λ rows. record { rows = rows; boot = own.boot; last = option_and_then (seated_pass tokens) (stored_last s i) })
        (map_map (stored_row s i) name others
        ∙ map_same (λ k. stored_row s i (name k)) (row_at c.rows) others (λ k lt. stored (seat_name others k) (seat_within (length c.rows) others k are lt)))
        ∙ ap (λ m. record { rows = seated_rows others c.rows; boot = m; last = option_and_then (seated_pass tokens) (stored_last s i) }) (ap (λ (d : Content). d.boot) b.seen)
        ∙ ap (λ l. record { rows = seated_rows others c.rows; boot = c.boot; last = l })
        (ap (option_and_then (seated_pass tokens)) (sym b.last) ∙ last_is c.last b.last_known)

    all_enrolled : (xs : List ℕ) → ((k : ℕ) → k < length xs → seat_name xs k < length c.rows) → list_all (s.enrolled i) (map name xs) ≡ true
    all_enrolled [] h = refl
    all_enrolled (x ∷ xs) h =
        and_from (s.enrolled i (name x)) (list_all (s.enrolled i) (map name xs))
        (b.enrolled (name x) ∙ number_is (length c.rows) name (name x) x (h 0 (omega arith)) refl)
        (all_enrolled xs (λ k lt. h (suc k) (omega (arith, lt))))

    pub may : has_store s.seen.own i ≡ true → c.boot < last_boot → may_seat s i tokens ≡ true
    may has low =
        and_from (has_store s.seen.own i && ltb own.boot last_boot) _
        (and_from (has_store s.seen.own i) (ltb own.boot last_boot) has (ap (λ (d : Content). ltb d.boot last_boot) b.seen ∙ is_below c.boot last_boot low))
        (and_from (are_apart (length tokens) (seat_name tokens)) (list_all (s.enrolled i) tokens)
        (apart_from (length tokens) (seat_name tokens)
        (λ j k a d e.
        let j' : j < length others = omega (arith, a, many) in
        let k' : k < length others = omega (arith, d, many) in
        let same = b.one (seat_name others j) (seat_name others k) (seat_within (length c.rows) others j are j') (seat_within (length c.rows) others k are k')
        (sym (named_seat name others j j') ∙ e ∙ named_seat name others k k') in
        are.apart j k (seat_name others k) (seat_at others j j' ∙ ap Some same) (seat_at others k k')))
        (all_enrolled others (λ k lt. seat_within (length c.rows) others k are lt)))

    abbrev started : Site
    started = record {
      name = seat_name tokens;
      member = record { content = with_next_boot (seat_content s i tokens); voter = fresh_voter; running = true };
      enrolled = s.enrolled i;
      aside = stored_row s i;
      last = stored_last s i;
    }

    pass_back : (o : Option PassRecord) → option_or (option_map (named_pass (seat_name tokens)) (option_and_then (seated_pass tokens) o)) o ≡ o
    pass_back None = refl
    pass_back (Some p) =
        ⊎_elim
        (λ (none : number_of (length tokens) (seat_name tokens) p.token ≡ None). ap back none)
        (λ (some : (m : ℕ) × (number_of (length tokens) (seat_name tokens) p.token ≡ Some m)).
        ap back some.1 ∙ ap (λ m. Some (with_token p m)) (number_there (length tokens) (seat_name tokens) p.token some.0 some.1).1)
        (option_cases (number_of (length tokens) (seat_name tokens) p.token))
      where
        back : Option ℕ → Option PassRecord
        back o = option_or (option_map (named_pass (seat_name tokens)) (option_map (with_token p) o)) (Some p)

    started_below : IsBelow started name others (with_next_boot c)
    started_below = record {
      are = are;
      one = b.one;
      seen = ap with_next_boot content_is;
      names = λ k lt. named_seat name others k lt;
      aside = λ k lt no. sym (stored k lt);
      enrolled = b.enrolled;
      last = b.last ∙ sym (pass_back (stored_last s i));
      last_known = b.last_known;
    }

    pub start_below : has_store s.seen.own i ≡ true → c.boot < last_boot → IsBelow (site_of (after_start i tokens s) i) name others (with_next_boot c)
    start_below has low =
        let member = record (s.seen.own.nodes i) { content = seat_content s i tokens } in
        let is : restarted_member member ≡ started.member =
        cond-true (ltb own.boot last_boot) started.member (stopped_member member) (ap (λ (d : Content). ltb d.boot last_boot) b.seen ∙ is_below c.boot last_boot low) in
        subst (λ (z : Sites). IsBelow (site_of z i) name others (with_next_boot c)) (sym (cond-true (may_seat s i tokens) (with_seats i tokens s) _ (may has low)))
        (subst (λ m. IsBelow (record {
          name = cond m (seat_name tokens) (s.seen.name i);
          member = cond m (restarted_member member) (s.seen.own.nodes i);
          enrolled = s.enrolled i;
          aside = cond m (stored_row s i) (s.aside i);
          last = cond m (stored_last s i) (s.last i);
        }) name others (with_next_boot c)) (sym (eq-eqb i i refl))
        (subst (λ (m : Member). IsBelow (record started { member = m }) name others (with_next_boot c)) (sym is) started_below))

  -- ---- a restart with the same seats

  pub restart_below : has_store s.seen.own i ≡ true → c.boot < last_boot → IsBelow (site_of (with_own (after_restart (Some i) s.seen.own) s) i) name seats (with_next_boot c)
  unfolding after_restart
  restart_below has low =
      let old = s.seen.own.nodes i in
      let after : Member = record { content = with_next_boot own; voter = fresh_voter; running = true } in
      let is : restarted_member old ≡ after =
      cond-true (ltb own.boot last_boot) after (stopped_member old) (ap (λ (d : Content). ltb d.boot last_boot) b.seen ∙ is_below c.boot last_boot low) in
      subst (λ (w : Cluster). IsBelow (site_of (with_own w s) i) name seats (with_next_boot c)) (sym (cond-true (has_store s.seen.own i) (with_member i (restarted_member old) s.seen.own) s.seen.own has))
      (subst (λ m. IsBelow (record (site_of s i) { member = cond m (restarted_member old) old }) name seats (with_next_boot c)) (sym (eq-eqb i i refl))
      (subst (λ (m : Member). IsBelow (record (site_of s i) { member = m }) name seats (with_next_boot c)) (sym is)
      (record {
        are = b.are;
        one = b.one;
        seen = ap with_next_boot b.seen;
        names = b.names;
        aside = b.aside;
        enrolled = b.enrolled;
        last = b.last;
        last_known = b.last_known;
      })))

  -- ---- a put

  module _ (k : ℕ) (lt : k < length seats) (new : RowRecord) where
    abbrev p : ℕ
    p = seat_name seats k

    abbrev put : Option PassRecord → Content
    put pass = put_below seats k new pass c

    size : (pass : Option PassRecord) → length (put pass).rows ≡ length c.rows
    size pass = put_size c p new (option_and_then (pass_below seats) pass)

    below_is : (q : PassRecord) → q.token < length seats → pass_below seats q ≡ Some (with_token q (seat_name seats q.token))
    below_is q low = ap (option_map (with_token q)) (seat_at seats q.token low)

    shown : (pass : Option PassRecord) → IsSeen seats pass → with_row own k new pass ≡ seated_content seats (put pass)
    shown None seen = ap (λ d. with_row d k new None) b.seen ∙ sym (seen_put seats c k p new b.are (seat_at seats k lt))
    shown (Some q) seen =
        let below = with_token q (seat_name seats q.token) in
        ap (λ d. with_row d k new (Some q)) b.seen ∙ sym (seen_pass_put seats c k p new q below b.are (seat_at seats k lt) (below_is q seen))
        ∙ ap (λ o. seated_content seats (with_row c p new o)) (sym (below_is q seen))

    last_after : (pass : Option PassRecord) → IsSeen seats pass
        → option_map (named_pass name) (put pass).last ≡ option_or (option_map (named_pass (s.seen.name i)) (option_or pass own.last)) (s.last i)
    last_after None seen = b.last
    last_after (Some q) seen =
        ap (λ o. option_map (named_pass name) (option_or o c.last)) (below_is q seen)
        ∙ ap (λ m. Some (with_token q m)) (sym (b.names q.token seen))

    known_after : (pass : Option PassRecord) → IsSeen seats pass → (z : PassRecord) → (put pass).last ≡ Some z → z.token < length c.rows
    known_after None seen z e = b.last_known z e
    known_after (Some q) seen z e =
        subst (λ (w : PassRecord). w.token < length c.rows)
        (same_Some (with_token q (seat_name seats q.token)) z (sym (ap (λ o. option_or o c.last) (below_is q seen)) ∙ e))
        (seat_within (length c.rows) seats q.token b.are seen)

    pub put_is_below : (pass : Option PassRecord) (voter : VoterState) (running : Bool) → IsSeen seats pass
        → IsBelow (site_of (with_own (with_member i (record { content = with_row own k new pass; voter = voter; running = running }) s.seen.own) s) i) name seats (put pass)
    put_is_below pass voter running seen =
        let many = size pass in
        subst (λ m. IsBelow (record (site_of s i) { member = cond m (record { content = with_row own k new pass; voter = voter; running = running }) (s.seen.own.nodes i) }) name seats (put pass)) (sym (eq-eqb i i refl))
        (record {
          are = subst (λ m. AreSeats m seats) (sym many) b.are;
          one = λ j m a d e. b.one j m (omega (arith, a, many)) (omega (arith, d, many)) e;
          seen = shown pass seen;
          names = b.names;
          aside = λ j a no.
              only_put c p new (option_and_then (pass_below seats) pass) j
              (λ e. none-some k (sym no ∙ ap (token_of seats) e ∙ token_of_seat (length c.rows) seats k p b.are (seat_at seats k lt)))
              ∙ b.aside j (omega (arith, a, many)) no;
          enrolled = λ t. subst (λ m. s.enrolled i t ≡ is_number (number_of m name t)) (sym many) (b.enrolled t);
          last = last_after pass seen;
          last_known = λ z e. let low = known_after pass seen z e in omega (arith, low, many);
        })

  -- ---- a row more

  module _ (t floor : ℕ) (mine : may_add s i t ≡ true) where
    abbrev len : ℕ
    len = length c.rows

    abbrev name' : ℕ → ℕ
    name' = with_name len t name

    abbrev more : Content
    more = with_new_row floor c

    rows_are : length more.rows ≡ suc len
    rows_are = length_open c.rows (opening_row floor)

    unknown : s.enrolled i t ≡ false
    unknown = not-true (s.enrolled i t) (and_parts (ltb t s.seen.tokens) (not (s.enrolled i t)) (and_parts (has_store s.seen.own i) _ mine).1).1

    below : (k : ℕ) → k < len → name' k ≡ name k
    below k lt = cond-false (eqb k len) t (name k) (not_eqb k len (λ e. omega (arith, lt, e)))

    here : name' len ≡ t
    here = cond-true (eqb len len) t (name len) (eq-eqb len len refl)

    not_t : (k : ℕ) → k < len → name k ≡ t → ⊥
    not_t k lt e = false≢true (sym unknown ∙ b.enrolled t ∙ number_is len name t k lt e)

    one_more : (j k : ℕ) → j < suc len → k < suc len → name' j ≡ name' k → j ≡ k
    one_more j k a d e =
        ⊎_elim
        (λ (x : j < len). ⊎_elim (λ (y : k < len). b.one j k x y (sym (below j x) ∙ e ∙ below k y)) (λ (y : k ≡ len). absurd (not_t j x (sym (below j x) ∙ e ∙ ap name' y ∙ here))) (last_place len k d))
        (λ (x : j ≡ len). ⊎_elim (λ (y : k < len). absurd (not_t k y (sym (below k y) ∙ sym e ∙ ap name' x ∙ here))) (λ (y : k ≡ len). x ∙ sym y) (last_place len k d))
        (last_place len j a)

    last_same : (o : Option PassRecord) → ((z : PassRecord) → o ≡ Some z → z.token < len) → option_map (named_pass name') o ≡ option_map (named_pass name) o
    last_same None h = refl
    last_same (Some z) h = ap (λ m. Some (record z { token = m })) (below z.token (h z refl))

    or_both : (a m : Bool) → m ≡ true → (a || m) ≡ true
    or_both true m h = refl
    or_both false m h = h

    or_one : (a m : Bool) → m ≡ false → (a || m) ≡ a
    or_one true m h = refl
    or_one false m h = h

    on_more : (u : ℕ) → (s.enrolled i u || eqb u t) ≡ is_number (number_of (suc len) name' u)
    on_more u =
        ⊎_elim
        (λ (e : u ≡ t).
        subst (λ z. (s.enrolled i z || eqb z t) ≡ is_number (number_of (suc len) name' z)) (sym e)
        (or_both (s.enrolled i t) (eqb t t) (eq-eqb t t refl)
        ∙ sym (ap is_number (cond-true (eqb (name' len) t) (Some len) (number_of len name' t) (eq-eqb (name' len) t here)))))
        (λ (ne : u ≡ t → ⊥).
        or_one (s.enrolled i u) (eqb u t) (not_eqb u t ne) ∙ b.enrolled u
        ∙ sym (ap is_number (cond-false (eqb (name' len) u) (Some len) (number_of len name' u) (not_eqb (name' len) u (λ e. ne (sym e ∙ here))) ∙ number_same len name name' u below)))
        (same_or_not u t)

    aside_more : (k : ℕ) → k < suc len → token_of seats k ≡ None → row more k ≡ with_opening t floor (s.aside i) (name' k)
    aside_more k lt unseen =
        ⊎_elim
        (λ (x : k < len).
        get_before c.rows (opening_row floor ∷ []) k no_row x ∙ b.aside k x unseen
        ∙ sym (ap (with_opening t floor (s.aside i)) (below k x) ∙ cond-false (eqb (name k) t) (opening_row floor) (s.aside i (name k)) (not_eqb (name k) t (not_t k x))))
        (λ (x : k ≡ len).
        get_last c.rows (opening_row floor) no_row k x
        ∙ sym (ap (λ z. with_opening t floor (s.aside i) (name' z)) x ∙ ap (with_opening t floor (s.aside i)) here ∙ cond-true (eqb t t) (opening_row floor) (s.aside i t) (eq-eqb t t refl)))
        (last_place len k lt)

    pub added_below : IsBelow (site_of (after_adding i t floor s) i) name' seats more
    added_below =
        subst (λ (z : Sites). IsBelow (site_of z i) name' seats more) (sym (cond-true (may_add s i t) _ s mine))
        (subst (λ m. IsBelow (record (site_of s i) {
          enrolled = cond m (λ other. s.enrolled i other || eqb other t) (s.enrolled i);
          aside = cond m (with_opening t floor (s.aside i)) (s.aside i);
        }) name' seats more) (sym (eq-eqb i i refl))
        (record {
          are = record { within = λ j seat at. let low = b.are.within j seat at in omega (arith, low, rows_are); apart = b.are.apart };
          one = λ j k a d e. one_more j k (omega (arith, a, rows_are)) (omega (arith, d, rows_are)) e;
          seen = b.seen ∙ ap (λ rows. record (seated_content seats c) { rows = rows })
              (map_same (row_at c.rows) (row_at more.rows) seats
              (λ k lt. sym (get_before c.rows (opening_row floor ∷ []) (seat_name seats k) (opening_row 0) (seat_within len seats k b.are lt))));
          names = λ k lt. b.names k lt ∙ sym (below (seat_name seats k) (seat_within len seats k b.are lt));
          aside = λ k a no. aside_more k (omega (arith, a, rows_are)) no;
          enrolled = λ u. subst (λ m. (s.enrolled i u || eqb u t) ≡ is_number (number_of m name' u)) (sym rows_are) (on_more u);
          last = last_same c.last b.last_known ∙ b.last;
          last_known = λ z e. let low = b.last_known z e in omega (arith, low, rows_are);
        }))

-- ---- a replacement store

among_at : (given : List ℕ) (t : ℕ) → is_among given t ≡ true → (k : ℕ) × (k < length given) × (seat_name given k ≡ t)
among_at [] t h = absurd (false≢true h)
among_at (x ∷ given) t h =
    ⊎_elim (λ (q : eqb x t ≡ true). (0, omega arith, eqb-true x t q))
    (λ (q : eqb x t ≡ false).
    let rest = among_at given t (sym (ap (λ m. m || is_among given t) q) ∙ h) in
    let lt = rest.1 in (suc rest.0, omega (arith, lt), rest.2))
    (cases_Bool (eqb x t))

at_among : (given : List ℕ) (t k : ℕ) → k < length given → seat_name given k ≡ t → is_among given t ≡ true
at_among [] t k lt e = absurd (omega (arith, lt))
at_among (x ∷ given) t zero lt e = ap (λ m. m || is_among given t) (eq-eqb x t e)
at_among (x ∷ given) t (suc k) lt e = or_both (eqb x t) (is_among given t) (at_among given t k (omega (arith, lt)) e)
  where
    or_both : (a m : Bool) → m ≡ true → (a || m) ≡ true
    or_both true m h = refl
    or_both false m h = h

among_number : (given : List ℕ) (t : ℕ) → is_among given t ≡ is_number (number_of (length given) (seat_name given) t)
among_number given t =
    ⊎_elim
    (λ (none : number_of (length given) (seat_name given) t ≡ None).
    ⊎_elim (λ (q : is_among given t ≡ true). let at = among_at given t q in absurd (number_lacks (length given) (seat_name given) t none at.0 at.1 at.2))
    (λ (q : is_among given t ≡ false). q ∙ sym (ap is_number none)) (cases_Bool (is_among given t)))
    (λ (some : (m : ℕ) × (number_of (length given) (seat_name given) t ≡ Some m)).
    let there = number_there (length given) (seat_name given) t some.0 some.1 in
    at_among given t some.0 there.0 there.1 ∙ sym (ap is_number some.1))
    (option_cases (number_of (length given) (seat_name given) t))

pub remade_below : (s : Sites) (i boot : ℕ) (given : List ℕ) (floor : ℕ → ℕ) → may_remake s i boot given floor ≡ true → are_apart (length given) (seat_name given) ≡ true
    → IsBelow (site_of (after_remaking i boot given floor s) i) (seat_name given) [] (opening_content_at boot (map floor given))
remade_below s i boot given floor may apart =
    let c = opening_content_at boot (map floor given) in
    let many : length c.rows ≡ length given = length-map (map floor given) opening_row ∙ length-map given floor in
    subst (λ (z : Sites). IsBelow (site_of z i) (seat_name given) [] c) (sym (cond-true (may_remake s i boot given floor) _ s may))
    (subst (λ m. IsBelow (record {
      name = s.seen.name i;
      member = cond m (opening_member boot 0 (λ seat. 0)) (s.seen.own.nodes i);
      enrolled = cond m (is_among given) (s.enrolled i);
      aside = cond m (λ token. opening_row (floor token)) (s.aside i);
      last = cond m None (s.last i);
    }) (seat_name given) [] c) (sym (eq-eqb i i refl))
    (record {
      are = record { within = λ j seat at. absurd (none-some seat at); apart = λ j k seat at other. absurd (none-some seat at) };
      one = λ j k a d e. names_apart (length given) (seat_name given) j k apart (omega (arith, a, many)) (omega (arith, d, many)) e;
      seen = refl;
      names = λ k a. absurd (omega (arith, a));
      aside = λ k a unseen.
          let low : k < length given = omega (arith, a, many) in
          get_or-map opening_row (map floor given) k 0 no_row (let size = length-map given floor in omega (arith, low, size)) ∙ ap opening_row (get_or-map floor given k 0 0 low);
      enrolled = λ t. among_number given t ∙ sym (ap (λ m. is_number (number_of m (seat_name given) t)) many);
      last = refl;
      last_known = λ z e. absurd (none-some z e);
    }))
