-- Calls of the store below, seen through seats.
use Rattle.std.proofs.Common.{◌≡◌, ◌⊎◌, inl, inr, ℕ, List, Bool, true, false, Some, None, Result, Ok, Err, OnOk, OnErr, refl, sym, subst, ap, ◌∙◌, slice_get, get_or, arith}
use Rattle.std.proofs.lemmas.List.{length-map}
use Rattle.std.proofs.lemmas.Option.{get_or_from_slice_get}
use Rattle.floor_store.specs.Content.{Content, with_row}
use Rattle.floor_store.specs.Held.{Held, Makes, OldOrNew, Puts}
use Rattle.floor_store.specs.Records.{PassRecord, RowRecord}
use Rattle.floor_store.specs.declared.fault.StoreFault.{StoreFault}
use Rattle.floor_store.specs.declared.fault.StoreFault.TheVariants.{Unusable}
use Rattle.seated_store.specs.Seated.{PutsBelow, SeatedRecord, seated_held}
use Rattle.seated_store.specs.Seats.{pass_below, row_at, seated_content}
use Rattle.seated_store.proofs.SeatLemmas.{has_seat, no_seat}

-- a seated store of these parts
abbrev pub seated_in : {S : Type 0} → S → List ℕ → Bool → SeatedRecord S
seated_in inner seats is_unusable = record { inner = inner; seats = seats; is_unusable = is_unusable }

-- a fact that follows from another one, after Ok and after Err
ok_map : {A E P Q : Type 0} (r : Result A E) → (P → Q) → OnOk r P → OnOk r Q
ok_map (Ok x) f h = f h
ok_map (Err e) f h = h

err_map : {A E P Q : Type 0} (r : Result A E) → (P → Q) → OnErr r P → OnErr r Q
err_map (Ok x) f h = h
err_map (Err e) f h = f h

-- a content that is old or new is seen as old or new
seen_old_or_new : (seats : List ℕ) (old made now seen : Content) → seated_content seats made ≡ seen
    → OldOrNew old made now → OldOrNew (seated_content seats old) seen (seated_content seats now)
seen_old_or_new seats old made now seen is (inl e) = inl (ap (seated_content seats) e)
seen_old_or_new seats old made now seen is (inr e) = inr (ap (seated_content seats) e ∙ is)

seen_makes : {S A E : Type 0} (held : S → Held) (was now : S) (seats : List ℕ) (made seen : Content) (r : Result A E)
    → seated_content seats made ≡ seen → Makes held was now made r
    → Makes (seated_held held) (seated_in was seats false) (seated_in now seats false) seen r
seen_makes {S} held was now seats made seen r is h =
    record {
      ok = λ clean. ok_map r (λ e. ap (seated_content seats) e ∙ is) (h.ok clean);
      err = λ clean. err_map r (seen_old_or_new seats (held was).content made (held now).content seen is) (h.err clean);
      stays = λ broken. ap (λ (s : S). seated_in s seats false) (h.stays broken);
      count = let n = h.count in omega (arith, n);
      clean = h.clean;
      tokens = length-map seats (row_at (held now).content.rows) ∙ sym (length-map seats (row_at (held was).content.rows));
    }

seen_left : (old now : Content → Type 0) (seats : List ℕ) (made seen : Content) → seated_content seats made ≡ seen
    → ((c : Content) → now c → old c ⊎ (c ≡ made)) → (left below : Content) → now below → left ≡ seated_content seats below
    → ((c : Content) × old c × (left ≡ seated_content seats c)) ⊎ (left ≡ seen)
seen_left old now seats made seen is h left below leaves e =
    elim (h below leaves) [ inl was ↦ inl (below, was, e) | inr new ↦ inr (e ∙ ap (seated_content seats) new ∙ is) ]

-- a put below is a put of what is seen of it
pub seen_puts : {S A E : Type 0} (held : S → Held) (was now : S) (seats : List ℕ) (is_unusable : Bool) (made seen : Content) (r : Result A E)
    → is_unusable ≡ false → seated_content seats made ≡ seen → Puts held was now made r
    → Puts (seated_held held) (seated_in was seats is_unusable) (seated_in now seats is_unusable) seen r
seen_puts held was now seats is_unusable made seen r works is h =
    subst (λ u. Puts (seated_held held) (seated_in was seats u) (seated_in now seats u) seen r) (sym works) (record {
      makes = seen_makes held was now seats made seen r is h.makes;
      left = λ c l. seen_left (held was).leaves (held now).leaves seats made seen is h.left c l.0 l.1 l.2;
      intact = h.intact;
    })

-- a put of a row and a pass below is one by the token's seat
pub pass_puts_below : {S A : Type 0} (held : S → Held) (was now : S) (seats : List ℕ) (is_unusable : Bool) (token seat : ℕ)
    (row : RowRecord) (pass below : PassRecord) (r : Result A StoreFault) → is_unusable ≡ false
    → slice_get seats token ≡ Some seat → pass_below seats pass ≡ Some below
    → Puts held was now (with_row (held was).content seat row (Some below)) r
    → PutsBelow held (seated_in was seats is_unusable) (seated_in now seats is_unusable) token row (Some pass) r
pass_puts_below held was now seats is_unusable token seat row pass below r works at is h =
    record {
      seen = λ _. record {
        called = λ _.
            subst (λ p. Puts held was now (with_row (held was).content (get_or seats token 0) row p) r) (sym is)
            (subst (λ n. Puts held was now (with_row (held was).content n row (Some below)) r)
            (sym (get_or_from_slice_get seats token seat 0 at)) h);
        refused = λ broken. let e : true ≡ false = sym broken ∙ works in absurd cc;
        seats = refl;
        fault = refl;
      };
      unseen = λ unseen. absurd (unseen (has_seat seats pass below is));
    }

-- a pass of a token without a seat leaves the store below as it was
pub pass_puts_nothing : {S A : Type 0} (held : S → Held) (was : S) (seats : List ℕ) (is_unusable : Bool) (token : ℕ) (row : RowRecord) (pass : PassRecord)
    → pass_below seats pass ≡ None
    → PutsBelow {A = A} held (seated_in was seats is_unusable) (seated_in was seats true) token row (Some pass) (Err Unusable)
pass_puts_nothing held was seats is_unusable token row pass is =
    record {
      seen = λ low. absurd (no_seat seats pass is low);
      unseen = λ _. (refl, refl, refl);
    }
