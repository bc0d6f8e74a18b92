-- The rows that an opening by names raises, raised one after the other.
use Rattle.std.proofs.Common.{◌≡◌, ℕ, suc, ◌<◌, Bool, true, false, cond, nat_lt, List, [], ◌∷◌, length, slice_index_or, Option, Some, None, refl, sym, ap, subst, ◌∙◌, arith}
use Rattle.std.specs.Prelude.{slice_get}
use Rattle.std.specs.List.{cons_option}
use Rattle.std.specs.Option.{option_map}
use Rattle.std.proofs.lemmas.Bool.{cond_both, ltb-true}
use Rattle.std.proofs.lemmas.List.{get_or-set_other}
use Rattle.std.proofs.lemmas.Option.{slice_get-get_or}
use Rattle.floor_store.specs.Content.{Content, opening_row, with_row}
use Rattle.floor_store.specs.Records.{RowRecord}
use Rattle.floor_sql.specs.Staged.{with_puts}
use Rattle.floor_sql.specs.declared.put.Put.{Put}
use Rattle.roster_sql.specs.declared.entry.Entry.{Entry}
use Rattle.seated_store.specs.Seats.{row_at}
use Rattle.named_store.specs.Floors.{no_entry, raised_floor}
use Rattle.named_store.specs.Opened.{floors_in, rises}
use Rattle.vote_core.specs.Rows.{row}
use Rattle.vote_core.specs.Voting.{raise}
use Rattle.book_law.specs.Lives.{Raises, Setting, Store, content_raised, row_of}
use Rattle.book_law.specs.Uses.{AreUses, store_after, written_store}
use Rattle.name_law.specs.Datagrams.{AreNames}
use Rattle.served_law.specs.Enrolled.{raises}
use Rattle.served_law.specs.Seated.{AreKnown, row_names, store_by_names, token_of}
use Rattle.served_law.proofs.Rows.{AreApart}
use Rattle.served_law.proofs.Seated.{known_names, once, row_name}
use Rattle.served_law.proofs.Tokens.{token_place}

-- ---- one raise

raised_row_is : (d : Content) (t floor : ℕ) (own : RowRecord) → row d t ≡ own → nat_lt own.next floor ≡ true
    → raise t floor d ≡ with_row d t (record own { next = floor }) None
unfolding raise
raised_row_is d t floor own is less =
    (λ i. cond (nat_lt (is i).next floor) (with_row d t (record (is i) { next = floor }) None) d)
    ∙ ap (λ (b : Bool). cond b (with_row d t (record own { next = floor }) None) d) less

one_raised : (setting : Setting) (node : ℕ) (names : List (List ℕ)) (former : List Entry) (d : Content) (t floor : ℕ) (own : RowRecord) (e : Entry)
    → AreNames names → AreKnown names former → AreApart former → slice_get former t ≡ Some e → row d t ≡ own → nat_lt own.next floor ≡ true
    → written_store setting (Raises node (token_of names e.name) floor) (store_by_names names former d)
    ≡ store_by_names names former (with_row d t (record own { next = floor }) None)
one_raised setting node names former d t floor own e are known apart at is less =
    let store : Store = store_by_names names former d in
    let place : row_of store (token_of names e.name) ≡ Some t =
    token_place names (row_names former) t e.name are (known_names names former known) (once former apart)
    (row_name former t ∙ ap (option_map (λ (x : Entry). x.name)) at) in
    ap (λ (o : Option ℕ). store_by_names names former (content_raised o floor d)) place
    ∙ ap (store_by_names names former) (raised_row_is d t floor own is less)

-- ---- all raises

-- no two of the seats are the same
abbrev pub AreApartSeats : List ℕ → Type 0
AreApartSeats seats = (i j seat : ℕ) → slice_get seats i ≡ Some seat → slice_get seats j ≡ Some seat → i ≡ j

module _ (setting : Setting) (node : ℕ) (names : List (List ℕ)) (roster : List Entry) (c : Content)
    (are : AreNames names) (known : AreKnown names roster) (apart : AreApart roster) where
  -- the raises do what the puts do
  pub record AreRaised (puts : List Put) (d : Content) : Type 0 where
    pub uses : AreUses setting node (store_by_names names roster d) (raises node names roster puts)
    pub after : store_after setting (raises node names roster puts) (store_by_names names roster d) ≡ store_by_names names roster (with_puts d puts)

  -- the greatest floor of a row's seed
  abbrev top : ℕ → ℕ
  top t = raised_floor roster (floors_in c) (slice_index_or roster t no_entry).seed (row_at c.rows t).next

  abbrev raised_row : ℕ → RowRecord
  raised_row t = record (row_at c.rows t) { next = top t }

  abbrev seat_put : ℕ → Put
  seat_put t = record { token = t; row = raised_row t; pass = None }

  -- the rows of seats are as they were at first
  abbrev AreAsFirst : Content → List ℕ → Type 0
  AreAsFirst d seats = (i t : ℕ) → slice_get seats i ≡ Some t → row_at d.rows t ≡ row_at c.rows t

  put_raised : (d : Content) (t : ℕ) (puts : List Put) → t < length roster → row_at d.rows t ≡ row_at c.rows t → nat_lt (row_at c.rows t).next (top t) ≡ true
      → AreRaised puts (with_row d t (raised_row t) None) → AreRaised (seat_put t ∷ puts) d
  put_raised d t puts inside same less rest =
      let one = one_raised setting node names roster d t (top t) (row_at c.rows t) (slice_index_or roster t no_entry) are known apart
      (slice_get-get_or roster t no_entry inside) same less in
      record {
        uses = (refl, subst (λ (s : Store). AreUses setting node s (raises node names roster puts)) (sym one) rest.uses);
        after = ap (store_after setting (raises node names roster puts)) one ∙ rest.after;
      }

  pub all_raised : (seats : List ℕ) (d : Content) → AreApartSeats seats → AreAsFirst d seats → AreRaised (rises roster seats c) d
  all_raised [] d once first = record { uses = tt; after = refl }
  all_raised (t ∷ seats) d once first =
      go (λ e as_first. all_raised seats e (λ i j seat at_i at_j. let same : suc i ≡ suc j = once (suc i) (suc j) seat at_i at_j in omega (arith, same)) as_first)
      (nat_lt t (length roster)) (nat_lt (row_at c.rows t).next (top t)) refl refl
    where
      -- the rows of the other seats stay
      stay : AreAsFirst (with_row d t (raised_row t) None) seats
      stay i u at =
          get_or-set_other d.rows t u (raised_row t) (opening_row 0)
          (λ same. let e : suc i ≡ 0 = once (suc i) 0 u at (ap (λ n. Some n) (sym same)) in omega (arith, e))
          ∙ first (suc i) u at

      go : ((e : Content) → AreAsFirst e seats → AreRaised (rises roster seats c) e) → (a b : Bool) → nat_lt t (length roster) ≡ a
          → nat_lt (row_at c.rows t).next (top t) ≡ b → AreRaised (cons_option (cond a (cond b (Some (seat_put t)) None) None) (rises roster seats c)) d
      go more true true inside less =
          put_raised d t (rises roster seats c) (ltb-true t (length roster) inside) (first 0 t refl) less (more (with_row d t (raised_row t) None) stay)
      go more true false inside less = more d (λ i. first (suc i))
      go more false b inside less = more d (λ i. first (suc i))

-- ---- raises leave the boot

raise_boot : (t floor : ℕ) (d : Content) → (raise t floor d).boot ≡ d.boot
unfolding raise
raise_boot t floor d =
    cond_both (nat_lt (row d t).next floor) (with_row d t (record (row d t) { next = floor }) None) d (λ (e : Content). e.boot ≡ d.boot) (λ _. refl) (λ _. refl)

raised_boot : (o : Option ℕ) (floor : ℕ) (d : Content) → (content_raised o floor d).boot ≡ d.boot
raised_boot None floor d = refl
raised_boot (Some t) floor d = raise_boot t floor d

pub raises_keep_boot : (setting : Setting) (node : ℕ) (names : List (List ℕ)) (former : List Entry) (puts : List Put) (store : Store)
    → (store_after setting (raises node names former puts) store).content.boot ≡ store.content.boot
raises_keep_boot setting node names former [] store = refl
raises_keep_boot setting node names former (put ∷ puts) store =
    let token : ℕ = token_of names (slice_index_or former put.token no_entry).name in
    raises_keep_boot setting node names former puts (written_store setting (Raises node token put.row.next) store)
    ∙ raised_boot (row_of store token) put.row.next store.content
