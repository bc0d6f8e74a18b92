-- Seats of tokens by their names, one token after the other.
use Rattle.std.proofs.Common.{◌≡◌, ℕ, zero, suc, ◌+◌, ◌<◌, ◌≤◌, Bool, true, false, cond, not, List, [], ◌∷◌, ◌++◌, length, map, slice_get, get_or, take, Option, Some, None, is_some, unwrap_or, BTreeMap, refl, sym, ap, subst, ◌∙◌, append-nil, append_assoc, inl, inr, arith}
use Rattle.std.specs.Ordering.{nat_cmp}
use Rattle.std.specs.Cmp.Lexicographic.{slice_cmp}
use Rattle.std.specs.BTreeMap as tree
use Rattle.std.proofs.lemmas.Bool.{cases_order}
use Rattle.std.proofs.lemmas.List.{length-map, length-append, length-take-le, map-append, take_more}
use Rattle.std.proofs.lemmas.List.Elements.{filter-append}
use Rattle.std.proofs.lemmas.Option.{get_or_from_slice_get, slice_get_within}
use Rattle.roster_sql.specs.declared.entry.Entry.{Entry}
use Rattle.named_store.specs.Seating.{AreDistinct, AreNew, AreSeatsOf, HasRowsOf, IsRowOf, has_name, name_at, new_entries, new_from, new_places, rows_after}
use Rattle.named_store.proofs.IndexLemmas.{has_named, name_behind, name_stays, name_within, some_is}

-- the tokens so far have seats, and the new ones among them are known
pub record AreSeated (roster done : List Entry) (seats places : List ℕ) (entries : List Entry) : Type 0 where
  pub named : map (name_at (rows_after roster done)) seats ≡ map (λ e. Some e.name) done
  pub new : AreNew roster done places entries
  pub few : length entries ≤ length done

pub none_seated : (roster : List Entry) → AreSeated roster [] [] [] []
none_seated roster = record { named = refl; new = record { all_places = refl; all_entries = refl }; few = omega arith }

-- ---- the new tokens, with one more token

new_entries_more : (roster done : List Entry) (e : Entry) (t : Bool) → has_name roster e.name ≡ t
    → new_entries roster (done ++ e ∷ []) ≡ new_entries roster done ++ cond (not t) (e ∷ []) []
new_entries_more roster done e t is =
    filter-append (λ x. not (has_name roster x.name)) done (e ∷ []) ∙ ap (λ b. new_entries roster done ++ cond (not b) (e ∷ []) []) is

one_place : (t : Bool) (p : ℕ) (a b c : List ℕ) → a ≡ b ++ c → cond t a (p ∷ a) ≡ cond t b (p ∷ b) ++ c
one_place true p a b c is = is
one_place false p a b c is = ap (λ (l : List ℕ). p ∷ l) is

new_from_more : (p : ℕ) (roster done : List Entry) (e : Entry)
    → new_from p roster (done ++ e ∷ []) ≡ new_from p roster done ++ new_from (p + length done) roster (e ∷ [])
new_from_more p roster [] e = let zero_is : p ≡ p + 0 = omega arith in ap (λ n. new_from n roster (e ∷ [])) zero_is
new_from_more p roster (x ∷ done) e =
    let next : p + 1 + length done ≡ p + suc (length done) = omega arith in
    one_place (has_name roster x.name) p (new_from (p + 1) roster (done ++ e ∷ [])) (new_from (p + 1) roster done) (new_from (p + suc (length done)) roster (e ∷ []))
    (new_from_more (p + 1) roster done e ∙ ap (λ n. new_from (p + 1) roster done ++ new_from n roster (e ∷ [])) next)

new_places_more : (roster done : List Entry) (e : Entry) (t : Bool) (n : ℕ) → has_name roster e.name ≡ t → n ≡ length done
    → new_places roster (done ++ e ∷ []) ≡ new_places roster done ++ cond t [] (n ∷ [])
new_places_more roster done e t n is long =
    let from : 0 + length done ≡ n = omega (arith, long) in
    new_from_more 0 roster done e ∙ (λ i. new_places roster done ++ cond (is i) [] (from i ∷ []))

-- the names of seats stay when rows are appended
names_stay : (rows more : List Entry) (seats : List ℕ) (done : List Entry) → map (name_at rows) seats ≡ map (λ e. Some e.name) done
    → map (name_at (rows ++ more)) seats ≡ map (λ e. Some e.name) done
names_stay rows more [] done is = is
names_stay rows more (seat ∷ seats) [] is = absurd cc
names_stay rows more (seat ∷ seats) (e ∷ done) is =
    let first : name_at rows seat ≡ Some e.name = cc in
    let rest : map (name_at rows) seats ≡ map (λ x. Some x.name) done = cc in
    let there = name_stays rows more seat e.name first in
    let others = names_stay rows more seats done rest in λ i. there i ∷ others i

-- a token that a row has
pub seat_known : (roster done : List Entry) (seats places : List ℕ) (entries : List Entry) (e : Entry) (row : ℕ) → name_at roster row ≡ Some e.name
    → AreSeated roster done seats places entries → AreSeated roster (done ++ e ∷ []) (seats ++ row ∷ []) places entries
seat_known roster done seats places entries e row at was =
    let has : has_name roster e.name ≡ true = has_named roster row e.name e at in
    let same : new_entries roster (done ++ e ∷ []) ≡ new_entries roster done =
    new_entries_more roster done e true has ∙ append-nil (new_entries roster done) in
    let known : name_at (rows_after roster done) row ≡ Some e.name = name_stays roster (new_entries roster done) row e.name at in
    record {
      named = ap (λ (es : List Entry). map (name_at (roster ++ es)) (seats ++ row ∷ [])) same ∙ map-append (name_at (rows_after roster done)) seats (row ∷ [])
          ∙ (λ i. was.named i ++ known i ∷ []) ∙ sym (map-append (λ x. Some x.name) done (e ∷ []));
      new = record {
        all_places = was.new.all_places ∙ sym (new_places_more roster done e true (length done) has refl ∙ append-nil (new_places roster done));
        all_entries = was.new.all_entries ∙ sym same;
      };
      few = omega (arith, was.few, length-append done (e ∷ []));
    }

-- a token that no row has
pub seat_new : (roster done : List Entry) (seats places : List ℕ) (entries : List Entry) (e : Entry) (row place : ℕ) → has_name roster e.name ≡ false
    → row ≡ length roster + length entries → place ≡ length done
    → AreSeated roster done seats places entries → AreSeated roster (done ++ e ∷ []) (seats ++ row ∷ []) (places ++ place ∷ []) (entries ++ e ∷ [])
seat_new roster done seats places entries e row place none behind long was =
    let rows : List Entry = rows_after roster done in
    let more : new_entries roster (done ++ e ∷ []) ≡ new_entries roster done ++ e ∷ [] = new_entries_more roster done e false none in
    let after : rows_after roster (done ++ e ∷ []) ≡ rows ++ e ∷ [] =
    ap (λ (es : List Entry). roster ++ es) more ∙ sym (append_assoc roster (new_entries roster done) (e ∷ [])) in
    let many : length rows ≡ length roster + length (new_entries roster done) = length-append roster (new_entries roster done) in
    let last : row ≡ length rows = behind ∙ ap (λ (es : List Entry). length roster + length es) was.new.all_entries ∙ sym many in
    let there : name_at (rows ++ e ∷ []) row ≡ Some e.name = ap (name_at (rows ++ e ∷ [])) last ∙ name_behind rows e in
    let stay = names_stay rows (e ∷ []) seats done was.named in
    record {
      named = ap (λ (all : List Entry). map (name_at all) (seats ++ row ∷ [])) after ∙ map-append (name_at (rows ++ e ∷ [])) seats (row ∷ [])
          ∙ (λ i. stay i ++ there i ∷ []) ∙ sym (map-append (λ x. Some x.name) done (e ∷ []));
      new = record {
        all_places = ap (λ (l : List ℕ). l ++ place ∷ []) was.new.all_places ∙ sym (new_places_more roster done e false place none long);
        all_entries = ap (λ (es : List Entry). es ++ e ∷ []) was.new.all_entries ∙ sym more;
      };
      few = omega (arith, was.few, length-append done (e ∷ []), length-append entries (e ∷ []));
    }

-- ---- no two seats are the same

record IsNamedAt (rows names : List Entry) (i seat : ℕ) : Type 0 where
  entry : Entry
  there : slice_get names i ≡ Some entry
  named : name_at rows seat ≡ Some entry.name

named_at : (rows : List Entry) (seats : List ℕ) (names : List Entry) → map (name_at rows) seats ≡ map (λ e. Some e.name) names
    → (i seat : ℕ) → slice_get seats i ≡ Some seat → IsNamedAt rows names i seat
named_at rows [] names is i seat at = absurd cc
named_at rows (s ∷ seats) [] is i seat at = absurd cc
named_at rows (s ∷ seats) (e ∷ names) is zero seat at =
    let first : name_at rows s ≡ Some e.name = cc in
    let same : s ≡ seat = cc in
    record { entry = e; there = refl; named = subst (λ (n : ℕ). name_at rows n ≡ Some e.name) same first }
named_at rows (s ∷ seats) (e ∷ names) is (suc i) seat at =
    let rest : map (name_at rows) seats ≡ map (λ x. Some x.name) names = cc in
    let it = named_at rows seats names rest i seat at in record { entry = it.entry; there = it.there; named = it.named }

apart_at : (names : List Entry) (i j : ℕ) (a b : Entry) → AreDistinct names → slice_get names i ≡ Some a → slice_get names j ≡ Some b
    → a.name ≡ b.name → i < j → ⊥
apart_at names i j a b distinct at_a at_b same before =
    let left : get_or names i a ≡ a = get_or_from_slice_get names i a a at_a in
    let right : get_or names j a ≡ b = get_or_from_slice_get names j b a at_b in
    distinct i j a before (slice_get_within names j b at_b) (ap (λ (e : Entry). e.name) left ∙ same ∙ sym (ap (λ (e : Entry). e.name) right))

pub seats_are : (roster names : List Entry) (seats places : List ℕ) (entries : List Entry) → AreDistinct names
    → AreSeated roster names seats places entries → AreSeatsOf roster names seats
seats_are roster names seats places entries distinct all =
    let rows : List Entry = rows_after roster names in
    record {
      named = all.named;
      apart = record {
        within = λ i seat at. let it = named_at rows seats names all.named i seat at in name_within rows seat it.entry.name it.named;
        apart = λ i j seat at_i at_j.
            let one = named_at rows seats names all.named i seat at_i in
            let two = named_at rows seats names all.named j seat at_j in
            let same : one.entry.name ≡ two.entry.name = some_is one.entry.name two.entry.name (sym one.named ∙ two.named) in
            elim (cases_order i j) [
              | inl e ↦ e
              | inr (inl before) ↦ absurd (apart_at names i j one.entry two.entry distinct one.there two.there same before)
              | inr (inr after) ↦ absurd (apart_at names j i two.entry one.entry distinct two.there one.there (sym same) after)
            ];
      };
    }

-- one token more, by what the index has of its name
pub seat_by_index : (roster names : List Entry) (n : ℕ) (d : Entry) (seats places : List ℕ) (entries : List Entry) (row : ℕ) → n < length names
    → name_at roster row ≡ Some (get_or names n d).name → AreSeated roster (take n names) seats places entries
    → AreSeated roster (take (n + 1) names) (seats ++ row ∷ []) places entries
seat_by_index roster names n d seats places entries row low at was =
    subst (λ done. AreSeated roster done (seats ++ row ∷ []) places entries) (sym (take_more names n d low))
    (seat_known roster (take n names) seats places entries (get_or names n d) row at was)

pub seat_behind : (roster names : List Entry) (n : ℕ) (d : Entry) (seats places : List ℕ) (entries : List Entry) (row : ℕ) → n < length names
    → has_name roster (get_or names n d).name ≡ false → row ≡ length roster + length entries → AreSeated roster (take n names) seats places entries
    → AreSeated roster (take (n + 1) names) (seats ++ row ∷ []) (places ++ n ∷ []) (entries ++ get_or names n d ∷ [])
seat_behind roster names n d seats places entries row low none behind was =
    let long : n ≡ length (take n names) = sym (length-take-le n names (omega (arith, low))) in
    subst (λ done. AreSeated roster done (seats ++ row ∷ []) (places ++ n ∷ []) (entries ++ get_or names n d ∷ [])) (sym (take_more names n d low))
    (seat_new roster (take n names) seats places entries (get_or names n d) row n none behind long was)

-- one token more, whether a row has its name or not
pub seat_step : (roster names : List Entry) (n : ℕ) (e : Entry) (seats places new_seats more_places : List ℕ) (entries more_entries : List Entry) (row : Option ℕ)
    → n < length names → e ≡ get_or names n e → IsRowOf roster e.name row → new_seats ≡ seats ++ unwrap_or row (length roster + length entries) ∷ []
    → more_places ≡ cond (is_some row) places (places ++ n ∷ []) → more_entries ≡ cond (is_some row) entries (entries ++ e ∷ [])
    → AreSeated roster (take n names) seats places entries → AreSeated roster (take (n + 1) names) new_seats more_places more_entries
seat_step roster names n e seats places new_seats more_places entries more_entries None low is none seats_are places_are entries_are was =
    let absent : has_name roster (get_or names n e).name ≡ false = ap (λ (x : Entry). has_name roster x.name) (sym is) ∙ none in
    subst (λ (l : List ℕ). AreSeated roster (take (n + 1) names) l more_places more_entries) (sym seats_are)
    (subst (λ (l : List ℕ). AreSeated roster (take (n + 1) names) (seats ++ (length roster + length entries) ∷ []) l more_entries) (sym places_are)
    (subst (λ (l : List Entry). AreSeated roster (take (n + 1) names) (seats ++ (length roster + length entries) ∷ []) (places ++ n ∷ []) l)
    (sym (entries_are ∙ ap (λ (x : Entry). entries ++ x ∷ []) is))
    (seat_behind roster names n e seats places entries (length roster + length entries) low absent refl was)))
seat_step roster names n e seats places new_seats more_places entries more_entries (Some row) low is at seats_are places_are entries_are was =
    let there : name_at roster row ≡ Some (get_or names n e).name = at ∙ ap (λ (x : Entry). Some x.name) is in
    subst (λ (l : List ℕ). AreSeated roster (take (n + 1) names) l more_places more_entries) (sym seats_are)
    (subst (λ (l : List ℕ). AreSeated roster (take (n + 1) names) (seats ++ row ∷ []) l more_entries) (sym places_are)
    (subst (λ (l : List Entry). AreSeated roster (take (n + 1) names) (seats ++ row ∷ []) places l) (sym entries_are)
    (seat_by_index roster names n e seats places entries row low there was)))

-- the same, by what was read of a token and of the index
pub seat_read : {e : Entry} (roster names : List Entry) (n : ℕ) (seats places new_seats more_places : List ℕ) (entries more_entries : List Entry) (row : Option ℕ)
    (index : BTreeMap (List ℕ) ℕ) → more_entries ≡ cond (is_some row) entries (entries ++ e ∷ []) → row ≡ tree.get (slice_cmp nat_cmp) index e.name
    → HasRowsOf roster index → n < length names → e ≡ get_or names n e → new_seats ≡ seats ++ unwrap_or row (length roster + length entries) ∷ []
    → more_places ≡ cond (is_some row) places (places ++ n ∷ []) → AreSeated roster (take n names) seats places entries
    → AreSeated roster (take (n + 1) names) new_seats more_places more_entries
seat_read {e} roster names n seats places new_seats more_places entries more_entries row index entries_are got has low is seats_are places_are was =
    seat_step roster names n e seats places new_seats more_places entries more_entries row low is (subst (IsRowOf roster e.name) (sym got) (has e.name))
    seats_are places_are entries_are was

-- as many seats as tokens
pub as_many_seats : (roster names : List Entry) (seats : List ℕ) → AreSeatsOf roster names seats → length seats ≡ length names
as_many_seats roster names seats it =
    sym (length-map seats (name_at (rows_after roster names))) ∙ ap (λ (l : List (Option (List ℕ))). length l) it.named ∙ length-map names (λ e. Some e.name)
