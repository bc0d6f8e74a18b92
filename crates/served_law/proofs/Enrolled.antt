-- The new rows of an opening by names, enrolled one after the other, behind the rows that it raises.
use Rattle.std.proofs.Common.{◌≡◌, ℕ, zero, suc, ◌+◌, ◌<◌, Bool, true, false, cond, not, List, [], ◌∷◌, ◌++◌, length, map, ltb, Some, None, refl, sym, ap, subst, ◌∙◌, append_assoc, append-nil, arith}
use Rattle.std.specs.Prelude.{Contains, slice_get}
use Rattle.std.specs.Option.{option_map}
use Rattle.std.proofs.lemmas.Bool.{and_from, cond_both, lt-ltb}
use Rattle.std.proofs.lemmas.List.{length-map, map-append}
use Rattle.std.proofs.lemmas.Option.{none-some}
use Rattle.sqlite.specs.Store.{Ghosts}
use Rattle.sqlite.specs.Held as sql
use Rattle.otp_core.specs.Limits.{Limits}
use Rattle.token_file.specs.Credential.{Credential}
use Rattle.floor_store.specs.Content.{Content, opening_row}
use Rattle.floor_sql.specs.Held.{SqlHeld}
use Rattle.floor_sql.specs.Staged.{with_puts}
use Rattle.floor_sql.specs.declared.put.Put.{Put}
use Rattle.roster_sql.specs.Enrolled.{with_floors}
use Rattle.roster_sql.specs.declared.entry.Entry.{Entry}
use Rattle.seated_store.specs.Seated.{SeatedRecord}
use Rattle.named_store.specs.Entries.{entries_of}
use Rattle.named_store.specs.Floors.{seeded_floor}
use Rattle.named_store.specs.Opened.{floors_in, new_floors, rises}
use Rattle.named_store.specs.Seating.{has_name, name_at, new_entries, new_from, new_places, rows_after}
use Rattle.named_store.specs.declared.opening.RowCounts.{RowCounts}
use Rattle.named_store.proofs.IndexLemmas.{name_stays}
use Rattle.oathd_roster.specs.Enrolment.{enrolment_floors}
use Rattle.oathd_roster.specs.Opened.{HasOpenedNamed}
use Rattle.oathd_roster.specs.declared.cluster.NamedCluster.{NamedCluster}
use Rattle.vote_core.specs.Books.{is_number}
use Rattle.book_law.specs.Lives.{Down, Enrols, Process, Setting, Store, has_row, may_enrol, row_of, store_at, store_with_row}
use Rattle.book_law.specs.Uses.{AreUses, store_after, written_store}
use Rattle.name_law.specs.Datagrams.{AreNames}
use Rattle.served_law.specs.Enrolled.{IsEnrolledFrom, enrolments, opening_uses, raises}
use Rattle.served_law.specs.Seated.{AreKnown, HasKnownRows, row_names, store_by_names, token_of}
use Rattle.served_law.proofs.Raised.{AreApartSeats, all_raised, raises_keep_boot}
use Rattle.served_law.proofs.Rows.{AreApart, after_apart, apart, one_roster}
use Rattle.served_law.proofs.Seated.{known_names, row_name}
use Rattle.served_law.proofs.Tokens.{token_absent, token_low}
use Rattle.served_law.proofs.Uses.{after_append, uses_append}

-- ---- rows in front of others

get_left : (xs ys : List Entry) (i : ℕ) (x : Entry) → slice_get xs i ≡ Some x → slice_get (xs ++ ys) i ≡ Some x
get_left [] ys i x at = absurd (none-some x at)
get_left (y ∷ xs) ys zero x at = at
get_left (y ∷ xs) ys (suc i) x at = get_left xs ys i x at

get_behind : (xs ys : List Entry) (x : Entry) → slice_get (xs ++ x ∷ ys) (length xs) ≡ Some x
get_behind [] ys x = refl
get_behind (y ∷ xs) ys x = get_behind xs ys x

name_within : (rows : List Entry) (i : ℕ) (name : List ℕ) → name_at rows i ≡ Some name → i < length rows
name_within [] i name at = absurd (none-some name at)
name_within (x ∷ rows) zero name at = omega arith
name_within (x ∷ rows) (suc i) name at = let low = name_within rows i name at in omega (arith, low)

-- ---- one enrolment

more_row : (names : List (List ℕ)) (former : List Entry) (content : Content) (e : Entry) (floor : ℕ)
    → store_with_row (token_of names e.name) floor (store_by_names names former content)
    ≡ store_by_names names (former ++ e ∷ []) (with_floors (floor ∷ []) content)
more_row names former content e floor =
    let own = map-append (λ (row : Entry). row.name) former (e ∷ []) in
    let tokens = ap (map (token_of names)) own ∙ map-append (token_of names) (row_names former) (e.name ∷ []) in
    λ i. record { names = sym tokens i; content = with_floors (floor ∷ []) content }

one_enrolled : (setting : Setting) (node : ℕ) (names : List (List ℕ)) (former new : List Entry) (content : Content) (e : Entry) (floor : ℕ)
    → AreNames names → setting.tokens ≡ length names → AreKnown names (former ++ e ∷ new) → AreApart (former ++ e ∷ new)
    → written_store setting (Enrols node (token_of names e.name) floor) (store_by_names names former content)
    ≡ store_by_names names (former ++ e ∷ []) (with_floors (floor ∷ []) content)
one_enrolled setting node names former new content e floor are members known apart =
    let token : ℕ = token_of names e.name in
    let store : Store = store_by_names names former content in
    let mine : Contains names e.name = known (length former) e (get_behind former new e) in
    let low : token < setting.tokens = (let l = token_low names e.name are mine in omega (arith, l, members)) in
    let behind : name_at (former ++ e ∷ new) (length former) ≡ Some e.name = ap (option_map (λ (x : Entry). x.name)) (get_behind former new e) in
    let absent : row_of store token ≡ None =
    token_absent names (row_names former) e.name are (known_names names former (λ i x at. known i x (get_left former (e ∷ new) i x at))) mine
    (λ i at.
    let here : name_at former i ≡ Some e.name = sym (row_name former i) ∙ at in
    let same = apart i (length former) e.name (name_stays former (e ∷ new) i e.name here) behind in
    let within = name_within former i e.name here in
    omega (arith, same, within)) in
    let may : may_enrol setting token store ≡ true =
    and_from (ltb token setting.tokens) (not (has_row store token)) (lt-ltb token setting.tokens low) (ap (λ o. not (is_number o)) absent) in
    ap (λ (b : Bool). store_at (cond b (Down (store_with_row token floor store)) (Down store))) may ∙ more_row names former content e floor

-- ---- all enrolments

more_rows : (content : Content) (floor : ℕ) (floors : List ℕ) → with_floors floors (with_floors (floor ∷ []) content) ≡ with_floors (floor ∷ floors) content
more_rows content floor floors =
    let rows = append_assoc content.rows (opening_row floor ∷ []) (map opening_row floors) in
    λ i. record content { rows = rows i }

no_rows : (content : Content) → content ≡ with_floors [] content
no_rows content = let rows = append-nil content.rows in λ i. record content { rows = sym rows i }

all_enrolled : (setting : Setting) (node : ℕ) (names : List (List ℕ)) (former new : List Entry) (content : Content) (floors : List ℕ)
    → AreNames names → setting.tokens ≡ length names → AreKnown names (former ++ new) → AreApart (former ++ new) → length new ≡ length floors
    → AreUses setting node (store_by_names names former content) (enrolments node names new floors)
    × (store_after setting (enrolments node names new floors) (store_by_names names former content) ≡ store_by_names names (former ++ new) (with_floors floors content))
all_enrolled setting node names former [] content [] are members known apart long =
    (tt, (λ i. store_by_names names (sym (append-nil former) i) (no_rows content i)))
all_enrolled setting node names former [] content (floor ∷ floors) are members known apart long = absurd (omega (arith, long))
all_enrolled setting node names former (e ∷ new) content [] are members known apart long = absurd (omega (arith, long))
all_enrolled setting node names former (e ∷ new) content (floor ∷ floors) are members known apart long =
    let rows : (former ++ e ∷ []) ++ new ≡ former ++ e ∷ new = append_assoc former (e ∷ []) new in
    let more : Content = with_floors (floor ∷ []) content in
    let one = one_enrolled setting node names former new content e floor are members known apart in
    let rest = all_enrolled setting node names (former ++ e ∷ []) new more floors are members (subst (AreKnown names) (sym rows) known) (subst AreApart (sym rows) apart) (omega (arith, long)) in (
      (refl, subst (λ (s : Store). AreUses setting node s (enrolments node names new floors)) (sym one) rest.0),
      ap (store_after setting (enrolments node names new floors)) one ∙ rest.1 ∙ (λ i. store_by_names names (rows i) (more_rows content floor floors i)),
    )

-- ---- the uses of an opening leave the boot

enrolments_keep_boot : (setting : Setting) (node : ℕ) (names : List (List ℕ)) (new : List Entry) (floors : List ℕ) (store : Store)
    → (store_after setting (enrolments node names new floors) store).content.boot ≡ store.content.boot
enrolments_keep_boot setting node names [] floors store = refl
enrolments_keep_boot setting node names (e ∷ new) [] store = refl
enrolments_keep_boot setting node names (e ∷ new) (floor ∷ floors) store =
    enrolments_keep_boot setting node names new floors (written_store setting (Enrols node (token_of names e.name) floor) store)
    ∙ cond_both (may_enrol setting (token_of names e.name) store) (Down (store_with_row (token_of names e.name) floor store)) (Down store)
    (λ (p : Process). (store_at p).content.boot ≡ store.content.boot) (λ _. refl) (λ _. refl)

pub boot_kept : (setting : Setting) (node : ℕ) (names : List (List ℕ)) (former : List Entry) (puts : List Put) (new : List Entry) (floors : List ℕ) (store : Store)
    → (store_after setting (opening_uses node names former puts new floors) store).content.boot ≡ store.content.boot
boot_kept setting node names former puts new floors store =
    ap (λ (s : Store). s.content.boot) (after_append setting (raises node names former puts) (enrolments node names new floors) store)
    ∙ enrolments_keep_boot setting node names new floors (store_after setting (raises node names former puts) store)
    ∙ raises_keep_boot setting node names former puts store

-- ---- raises, and enrolments after them

-- the uses of an opening do what it does
record AreOpened (setting : Setting) (node : ℕ) (names : List (List ℕ)) (roster new : List Entry) (c : Content) (puts : List Put) (floors : List ℕ) : Type 0 where
  uses : AreUses setting node (store_by_names names roster c) (opening_uses node names roster puts new floors)
  after : store_after setting (opening_uses node names roster puts new floors) (store_by_names names roster c)
      ≡ store_by_names names (roster ++ new) (with_floors floors (with_puts c puts))

all_opened : (setting : Setting) (node : ℕ) (names : List (List ℕ)) (roster new : List Entry) (c : Content) (seats floors : List ℕ)
    → AreNames names → setting.tokens ≡ length names → AreKnown names (roster ++ new) → AreApart roster → AreApart (roster ++ new) → AreApartSeats seats → length new ≡ length floors
    → AreOpened setting node names roster new c (rises roster seats c) floors
all_opened setting node names roster new c seats floors are members known apart all_apart once long =
    let puts : List Put = rises roster seats c in
    let store : Store = store_by_names names roster c in
    let raised = all_raised setting node names roster c are (λ i x at. known i x (get_left roster new i x at)) apart seats c once (λ i t at. refl) in
    let enrolled = all_enrolled setting node names roster new (with_puts c puts) floors are members known all_apart long in
    record {
      uses = uses_append setting node (raises node names roster puts) (enrolments node names new floors) store raised.uses
          (subst (λ (s : Store). AreUses setting node s (enrolments node names new floors)) (sym raised.after) enrolled.0);
      after = after_append setting (raises node names roster puts) (enrolments node names new floors) store
          ∙ ap (store_after setting (enrolments node names new floors)) raised.after ∙ enrolled.1;
    }

-- ---- the opening

one_long : (b : Bool) (e : Entry) (n : ℕ) (new : List Entry) (places : List ℕ) → length new ≡ length places → length (cond (not b) (e ∷ new) new) ≡ length (cond b places (n ∷ places))
one_long true e n new places long = long
one_long false e n new places long = ap suc long

places_long : (n : ℕ) (roster names : List Entry) → length (new_entries roster names) ≡ length (new_from n roster names)
places_long n roster [] = refl
places_long n roster (e ∷ names) =
    one_long (has_name roster e.name) e n (new_entries roster names) (new_from (n + 1) roster names) (places_long (n + 1) roster names)

floors_long : (roster names : List Entry) (floors : List ℕ) (c : Content) → length (new_entries roster names) ≡ length (new_floors roster names floors c)
floors_long roster names floors c =
    places_long 0 roster names ∙ sym (length-map (new_places roster names) (seeded_floor roster (floors_in c) names floors))

module _ {S : Type 0} (g : Ghosts S) (finds : sql.Held S → Type 0) (cluster : NamedCluster) where
  pub enrolled_opened : (limits : Limits) (moment node : ℕ) (book : List Credential) (floors : List ℕ) (store : SeatedRecord (SqlHeld S)) (counts : RowCounts)
      (names : List (List ℕ)) (rows : List Entry) (setting : Setting) (opened : HasOpenedNamed g finds cluster limits moment node book floors store counts)
      → HasKnownRows g cluster.bond names store.inner rows → setting.tokens ≡ length names
      → IsEnrolledFrom g setting node cluster.bond names opened.conn store.inner rows
  enrolled_opened limits moment node book floors store counts names rows setting opened its members =
      let entries : List Entry = entries_of cluster.salt book in
      let has = opened.seated.tables its.clean in
      let grown = has.grown in
      let enrolled : List ℕ = enrolment_floors cluster limits moment book floors in
      let new : List Entry = new_entries has.roster entries in
      let held = grown.now in
      let long : length (rows_after has.roster entries) ≡ length rows = held.counted ∙ ap (λ (c : Content). length c.rows) (sym grown.seen) ∙ sym its.has.holds.counted in
      let same : rows_after has.roster entries ≡ rows = one_roster (sql.state g store.inner.conn).now.trees (rows_after has.roster entries) rows held.roster its.has.holds.roster long in
      let all = all_opened setting node names has.roster new grown.content store.seats (new_floors has.roster entries enrolled grown.content) its.are_names members
      (subst (AreKnown names) (sym same) its.known) (apart has.roster has.distinct) (after_apart has.roster entries has.distinct opened.names_apart) has.seated.apart.apart (floors_long has.roster entries enrolled grown.content) in
      record {
        former = has.roster;
        content = grown.content;
        passes = grown.passes;
        was = grown.was;
        of_node = grown.of_node;
        puts = rises has.roster store.seats grown.content;
        new = new;
        floors = new_floors has.roster entries enrolled grown.content;
        each = floors_long has.roster entries enrolled grown.content;
        uses = all.uses;
        after = all.after ∙ (λ i. store_by_names names (same i) (sym grown.seen i));
      }
