-- The store that is opened by names, as a store of a history: its rows are found by their tokens, and its seats by those of the book.
use Rattle.std.proofs.Common.{◌≡◌, ℕ, zero, suc, Bool, true, ◌&&◌, List, [], ◌∷◌, length, map, eqb, Option, Some, None, refl, sym, ap, subst, ◌∙◌}
use Rattle.std.specs.Prelude.{Contains, slice_get, Result}
use Rattle.std.specs.List.{list_all}
use Rattle.std.specs.Option.{option_map}
use Rattle.std.proofs.lemmas.Bool.{and_from, eq-eqb}
use Rattle.std.proofs.lemmas.List.{length-map}
use Rattle.std.proofs.lemmas.Option.{none-some, same_Some, slice_get-map}
use Rattle.sqlite.specs.Store.{Ghosts}
use Rattle.sqlite.specs.Held as sql
use Rattle.sqlite.specs.State.{HasCleanDisk}
use Rattle.otp_core.specs.Limits.{Limits}
use Rattle.token_file.specs.Credential.{Credential}
use Rattle.token_names.specs.Names.{name_of, names_of}
use Rattle.floor_store.specs.Content.{Content}
use Rattle.floor_sql.specs.Held.{SqlHeld, sql_held}
use Rattle.roster_sql.specs.Roster.{BondRecord, HoldsNamed}
use Rattle.roster_sql.specs.declared.entry.Entry.{Entry}
use Rattle.seated_store.specs.Seated.{SeatedRecord}
use Rattle.named_store.specs.Entries.{entries_of}
use Rattle.named_store.specs.Opened.{HasSeats}
use Rattle.named_port.specs.Translator.{new_translator}
use Rattle.named_store.specs.Seating.{AreDistinct, name_at, rows_after}
use Rattle.named_store.specs.declared.opening.RowCounts.{RowCounts}
use Rattle.oath_node.specs.declared.turns.Served.{Served}
use Rattle.node_serving.specs.NodeKey.{tag_key}
use Rattle.oathd_database.specs.declared.fault.Fault.{Fault}
use Rattle.node_serving.specs.declared.serving.Serving.{Serving}
use Rattle.oathd_roster.specs.Enrolment.{enrolment_floors}
use Rattle.oathd_roster.specs.Opened.{HasOpenedNamed}
use Rattle.store_serving.specs.Served.{HasServedNamed}
use Rattle.oathd_roster.specs.declared.cluster.NamedCluster.{NamedCluster}
use Rattle.vote_wire.specs.Key.{bare}
use Rattle.vote_core.specs.Books.{are_apart, is_number}
use Rattle.seat_law.specs.Seats.{seat_name}
use Rattle.book_law.specs.Lives.{Setting, Store, Terms, do_fit, has_row, place_in, places_of, row_of, row_or_first}
use Rattle.book_law.specs.Uses.{IsSeatedMember}
use Rattle.name_law.specs.Datagrams.{AreNames, own_names}
use Rattle.name_law.specs.Ports.{first_translator}
use Rattle.served_law.specs.Seated.{AreKnown, HasKnownRows, HasRows, IsSeatedStore, row_names, served_terms, store_by_names, token_of, tokens_of}
use Rattle.served_law.proofs.Rows.{AreApart, after_apart, apart, one_roster}
use Rattle.served_law.proofs.Tokens.{AreOnce, IsKnownAt, name_of_token, token_place, tokens_apart}

-- ---- the names in rows

pub row_name : (rows : List Entry) (i : ℕ) → slice_get (row_names rows) i ≡ name_at rows i
row_name rows i = slice_get-map (λ (row : Entry). row.name) rows i

pub once : (rows : List Entry) → AreApart rows → AreOnce (row_names rows)
once rows are i j name at_i at_j = are i j name (sym (row_name rows i) ∙ at_i) (sym (row_name rows j) ∙ at_j)

known_at : (names : List (List ℕ)) (rows : List Entry) → AreKnown names rows → (i : ℕ) (name : List ℕ) → name_at rows i ≡ Some name → Contains names name
known_at names rows known i name at = go (slice_get rows i) refl at
  where
    go : (o : Option Entry) → slice_get rows i ≡ o → option_map (λ (e : Entry). e.name) o ≡ Some name → Contains names name
    go None e h = absurd (none-some name h)
    go (Some entry) e h = subst (Contains names) (same_Some entry.name name h) (known i entry e)

pub known_names : (names : List (List ℕ)) (rows : List Entry) → AreKnown names rows → IsKnownAt names (row_names rows)
known_names names rows known i name at = known_at names rows known i name (sym (row_name rows i) ∙ at)

-- ---- the seats of tokens

-- the rows of the tokens with the names of the entries are these seats, and all are there
pub record AreFound (found : Store) (tokens seats : List ℕ) : Type 0 where
  places : places_of found tokens ≡ seats
  all : list_all (has_row found) tokens ≡ true

found_all : (names : List (List ℕ)) (rows : List Entry) (content : Content) → AreNames names → AreKnown names rows → AreApart rows
    → (seats : List ℕ) (entries : List Entry) → map (name_at rows) seats ≡ map (λ e. Some e.name) entries
    → AreFound (store_by_names names rows content) (tokens_of names (row_names entries)) seats
found_all names rows content are known apart [] [] named = record { places = refl; all = refl }
found_all names rows content are known apart [] (e ∷ entries) named = absurd cc
found_all names rows content are known apart (seat ∷ seats) [] named = absurd cc
found_all names rows content are known apart (seat ∷ seats) (e ∷ entries) named =
    let first : name_at rows seat ≡ Some e.name = cc in
    let others : map (name_at rows) seats ≡ map (λ x. Some x.name) entries = cc in
    let rest = found_all names rows content are known apart seats entries others in
    let found : Store = store_by_names names rows content in
    let row : row_of found (token_of names e.name) ≡ Some seat =
    token_place names (row_names rows) seat e.name are (known_names names rows known) (once rows apart) (row_name rows seat ∙ first) in
    record {
      places = (let place = ap row_or_first row in λ i. place i ∷ rest.places i);
      all = and_from (has_row found (token_of names e.name)) (list_all (has_row found) (tokens_of names (row_names entries))) (ap is_number row) rest.all;
    }

-- the entries of seats have known names
seats_known : (names : List (List ℕ)) (rows : List Entry) → AreKnown names rows
    → (seats : List ℕ) (entries : List Entry) → map (name_at rows) seats ≡ map (λ e. Some e.name) entries → IsKnownAt names (row_names entries)
seats_known names rows known [] [] named i name at = absurd (none-some name at)
seats_known names rows known [] (e ∷ entries) named i name at = absurd cc
seats_known names rows known (seat ∷ seats) [] named i name at = absurd cc
seats_known names rows known (seat ∷ seats) (e ∷ entries) named zero name at =
    let first : name_at rows seat ≡ Some e.name = cc in
    known_at names rows known seat name (first ∙ at)
seats_known names rows known (seat ∷ seats) (e ∷ entries) named (suc i) name at =
    let others : map (name_at rows) seats ≡ map (λ x. Some x.name) entries = cc in
    seats_known names rows known seats entries others i name at

-- ---- the names of a book

pub book_names : (salt : List ℕ) (book : List Credential) → row_names (entries_of salt book) ≡ names_of salt book
book_names salt [] = refl
book_names salt (one ∷ book) = let rest = book_names salt book in λ i. name_of salt one ∷ rest i

-- what is known of a book whose tokens have seats in rows
pub record IsSeatedBook (names : List (List ℕ)) (rows : List Entry) (content : Content) (salt : List ℕ) (book : List Credential) (seats : List ℕ) : Type 0 where
  found : AreFound (store_by_names names rows content) (tokens_of names (names_of salt book)) seats
  apart : are_apart (length (tokens_of names (names_of salt book))) (seat_name (tokens_of names (names_of salt book))) ≡ true
  known : IsKnownAt names (names_of salt book)

seated_book : (names : List (List ℕ)) (rows : List Entry) (content : Content) (salt : List ℕ) (book : List Credential) (seats : List ℕ)
    → AreNames names → AreKnown names rows → AreApart rows → AreDistinct (entries_of salt book)
    → map (name_at rows) seats ≡ map (λ e. Some e.name) (entries_of salt book) → IsSeatedBook names rows content salt book seats
seated_book names rows content salt book seats are known rows_apart distinct named =
    let entries : List Entry = entries_of salt book in
    let all_known : IsKnownAt names (row_names entries) = seats_known names rows known seats entries named in
    let same : row_names entries ≡ names_of salt book = book_names salt book in
    record {
      found = subst (λ (own : List (List ℕ)). AreFound (store_by_names names rows content) (tokens_of names own) seats) same (found_all names rows content are known rows_apart seats entries named);
      apart = subst (λ (own : List (List ℕ)). are_apart (length (tokens_of names own)) (seat_name (tokens_of names own)) ≡ true) same
          (tokens_apart names (row_names entries) are all_known (once entries (apart entries distinct)));
      known = subst (IsKnownAt names) same all_known;
    }

-- the terms fit
fit : (names : List (List ℕ)) (rows : List Entry) (content : Content) (salt : List ℕ) (book : List Credential) (seats : List ℕ) (terms : Terms)
    → IsSeatedBook names rows content salt book seats → terms.config.book ≡ book → terms.seats ≡ tokens_of names (names_of salt book)
    → do_fit terms (store_by_names names rows content) ≡ true
fit names rows content salt book seats terms is of_book of_seats =
    let found : Store = store_by_names names rows content in
    let tokens : List ℕ = tokens_of names (names_of salt book) in
    let long : length tokens ≡ length book = length-map (names_of salt book) (token_of names) ∙ length-map book (name_of salt) in
    let whole : (eqb (length tokens) (length book) && (are_apart (length tokens) (seat_name tokens) && list_all (has_row found) tokens)) ≡ true =
    and_from (eqb (length tokens) (length book)) (are_apart (length tokens) (seat_name tokens) && list_all (has_row found) tokens) (eq-eqb (length tokens) (length book) long)
    (and_from (are_apart (length tokens) (seat_name tokens)) (list_all (has_row found) tokens) is.apart is.found.all) in
    subst (λ (b : List Credential). (eqb (length terms.seats) (length b) && (are_apart (length terms.seats) (seat_name terms.seats) && list_all (has_row found) terms.seats)) ≡ true) (sym of_book)
    (subst (λ (l : List ℕ). (eqb (length l) (length book) && (are_apart (length l) (seat_name l) && list_all (has_row found) l)) ≡ true) (sym of_seats) whole)

-- ---- the opened store

module _ {S : Type 0} (g : Ghosts S) (node : ℕ) (salt : List ℕ) (book : List Credential) (floors : List ℕ) (own : BondRecord) where
  -- the rows of an opened store are those after the new tokens were enrolled
  pub opened_rows : (old : sql.Held S) (store : SeatedRecord (SqlHeld S))
      → HasSeats node (entries_of salt book) floors own (sql.state g old).now (sql.state g store.inner.conn).now store.inner.mirror store.seats
      → (rows : List Entry) × HasRows g own store.inner rows
  opened_rows old store has =
      let grown = has.grown in (
        rows_after has.roster (entries_of salt book),
        record {
          passes = grown.passes;
          holds = subst (λ (c : Content). HoldsNamed (sql.state g store.inner.conn).now c grown.passes (rows_after has.roster (entries_of salt book)) own) (sym grown.seen) grown.now;
        },
      )

  pub seated_rows : (names : List (List ℕ)) (old : sql.Held S) (store : SeatedRecord (SqlHeld S)) (rows : List Entry)
      → HasSeats node (entries_of salt book) floors own (sql.state g old).now (sql.state g store.inner.conn).now store.inner.mirror store.seats
      → AreDistinct (entries_of salt book) → HasKnownRows g own names store.inner rows → IsSeatedBook names rows store.inner.mirror salt book store.seats
  unfolding opened_rows
  seated_rows names old store rows has distinct its =
      let opened = opened_rows old store has in
      let held = opened.1.holds in
      let long : length opened.0 ≡ length rows = held.counted ∙ sym its.has.holds.counted in
      let same : opened.0 ≡ rows = one_roster (sql.state g store.inner.conn).now.trees opened.0 rows held.roster its.has.holds.roster long in
      let are_apart : AreApart rows = subst AreApart same (after_apart has.roster (entries_of salt book) has.distinct distinct) in
      let named : map (name_at rows) store.seats ≡ map (λ e. Some e.name) (entries_of salt book) =
      subst (λ (all : List Entry). map (name_at all) store.seats ≡ map (λ e. Some e.name) (entries_of salt book)) same has.seated.named in
      seated_book names rows store.inner.mirror salt book store.seats its.are_names its.known are_apart distinct named

  pub seated_store : (names : List (List ℕ)) (store : SeatedRecord (SqlHeld S)) (rows : List Entry) (terms : Terms)
      → IsSeatedBook names rows store.inner.mirror salt book store.seats → terms.config.book ≡ book → terms.seats ≡ tokens_of names (names_of salt book)
      → IsSeatedStore (sql_held g) terms (store_by_names names rows store.inner.mirror) store
  seated_store names store rows terms is of_book of_seats = record {
    fits = fit names rows store.inner.mirror salt book store.seats terms is of_book of_seats;
    content = refl;
    seats = ap (places_of (store_by_names names rows store.inner.mirror)) of_seats ∙ is.found.places;
  }

-- ---- the names of the book, as those of its seats

pub own_names_are : (names own : List (List ℕ)) → AreNames names → IsKnownAt names own → own_names names (tokens_of names own) ≡ own
own_names_are names [] are known = refl
own_names_are names (name ∷ own) are known =
    let first = name_of_token names name are (known 0 name refl) in
    let rest = own_names_are names own are (λ i. known (suc i)) in
    λ i. first i ∷ rest i

-- ---- what a command opens, and a node that it serves

module _ {S : Type 0} (g : Ghosts S) (finds : sql.Held S → Type 0) (cluster : NamedCluster) where
  pub rows_of_opened : (limits : Limits) (moment node : ℕ) (book : List Credential) (floors : List ℕ) (store : SeatedRecord (SqlHeld S)) (counts : RowCounts)
      → HasOpenedNamed g finds cluster limits moment node book floors store counts → HasCleanDisk (sql.state g store.inner.conn)
      → (rows : List Entry) × HasRows g cluster.bond store.inner rows
  rows_of_opened limits moment node book floors store counts opened clean =
      opened_rows g node cluster.salt book (enrolment_floors cluster limits moment book floors) cluster.bond opened.conn store (opened.seated.tables clean)

  pub book_of_opened : (limits : Limits) (moment node : ℕ) (book : List Credential) (floors : List ℕ) (store : SeatedRecord (SqlHeld S)) (counts : RowCounts)
      (names : List (List ℕ)) (rows : List Entry) → HasOpenedNamed g finds cluster limits moment node book floors store counts
      → HasKnownRows g cluster.bond names store.inner rows → IsSeatedBook names rows store.inner.mirror cluster.salt book store.seats
  book_of_opened limits moment node book floors store counts names rows opened its =
      seated_rows g node cluster.salt book (enrolment_floors cluster limits moment book floors) cluster.bond names opened.conn store rows (opened.seated.tables its.clean) opened.names_apart its

  pub seated_opened : (limits : Limits) (moment node : ℕ) (book : List Credential) (floors : List ℕ) (store : SeatedRecord (SqlHeld S)) (counts : RowCounts)
      (names : List (List ℕ)) (rows : List Entry) (terms : Terms) → HasOpenedNamed g finds cluster limits moment node book floors store counts
      → HasKnownRows g cluster.bond names store.inner rows → terms.config.book ≡ book → terms.seats ≡ tokens_of names (names_of cluster.salt book)
      → IsSeatedStore (sql_held g) terms (store_by_names names rows store.inner.mirror) store
  seated_opened limits moment node book floors store counts names rows terms opened its of_book of_seats =
      seated_store g node cluster.salt book (enrolment_floors cluster limits moment book floors) cluster.bond names store rows terms
      (book_of_opened limits moment node book floors store counts names rows opened its) of_book of_seats

  pub translator_of_opened : (moment node : ℕ) (serving : Serving) (book : List Credential) (floors : List ℕ) (store : SeatedRecord (SqlHeld S)) (counts : RowCounts)
      (names : List (List ℕ)) (rows : List Entry) (boot : ℕ) (known : List ℕ) → HasOpenedNamed g finds cluster serving.settings moment node book floors store counts
      → HasKnownRows g cluster.bond names store.inner rows
      → new_translator (tag_key serving.key book) (names_of cluster.salt book) node boot known ≡ first_translator names node (served_terms names cluster serving book) boot known
  translator_of_opened moment node serving book floors store counts names rows boot known opened its =
      let is = book_of_opened serving.settings moment node book floors store counts names rows opened its in
      ap (λ (own : List (List ℕ)). new_translator (tag_key serving.key book) own node boot known)
      (sym (own_names_are names (names_of cluster.salt book) its.are_names is.known))

  pub seated_member : (moment : ℕ) (serving : Serving) (answers : ℕ → Bool → Bool → Type 0) (result : Result Served Fault) (text : List ℕ)
      (names : List (List ℕ)) (rows : List Entry) (setting : Setting) (run : HasServedNamed g finds cluster moment serving answers result text)
      → HasKnownRows g cluster.bond names run.found.inner rows → setting.n ≡ serving.place.n
      → IsSeatedMember (sql_held g) setting serving.place.me (served_terms names cluster serving run.import.book) bare
      (store_by_names names rows run.found.inner.mirror) run.found run.over.first
  seated_member moment serving answers result text names rows setting run its members =
      let is = seated_opened serving.settings moment serving.place.me run.import.book run.import.floors run.found run.counts names rows
      (served_terms names cluster serving run.import.book) run.opened its refl refl in
      let in_setting : serving.place ≡ place_in setting serving.place.me = λ i. record { me = serving.place.me; n = sym members i } in
      record {
        config = λ i. record { book = run.over.of_book i; limits = run.over.of_limits i };
        key = run.over.of_key;
        place = run.over.of_place ∙ in_setting;
        fits = is.fits;
        content = is.content;
        seats = is.seats;
      }
