-- The writes of commands over a store are actions, and so are openings that a stop cuts off.
use Rattle.std.proofs.Common.{◌≡◌, ℕ, zero, suc, ◌+◌, ◌^◌, ◌<◌, ◌⊎◌, inl, inr, ⊎_elim, Bool, true, false, List, [], ◌∷◌, Some, None, refl, sym, ap, ◌∙◌, subst, arith, eqb, ltb, get_or}
use Rattle.std.specs.Prelude.{Result, Ok}
use Rattle.std.specs.List.{slice_get}
use Rattle.std.proofs.lemmas.Bool.{cond-true, eq-eqb, lt-ltb}
use Rattle.std.proofs.lemmas.Option.{none-some, same_Some}
use Rattle.otp_core.specs.Gate.{clear_gate}
use Rattle.floor_store.specs.Content.{Content, with_next_boot, with_row}
use Rattle.floor_store.specs.Held.{Commits, Held, IsSettled, MayPut, MayWrite, RaisesBoot}
use Rattle.floor_store.specs.Range.{IsCount}
use Rattle.floor_store.specs.Records.{RowRecord}
use Rattle.floor_store.specs.declared.fault.StoreFault.{StoreFault}
use Rattle.vote_core.specs.Rows.{no_row, row_with_gate}
use Rattle.vote_core.specs.Schedule.{last_boot}
use Rattle.vote_core.specs.Voting.{raise}
use Rattle.book_law.specs.Lives.{Down, FailsToOpen, Process, Raises, Setting, Store, Unlocks, content_raised, content_unlocked, process_after, row_of, store_raised}
use Rattle.book_law.specs.Uses.{own_process}
use Rattle.book_law.specs.Writes.{kept_in, raises_of, store_with_raises}

-- a node without a process, with a store of these rows' tokens
abbrev down_with : List ℕ → Content → Process
down_with names content = Down (record { names = names; content = content })

-- ---- an unlocking

found_row : (rows : List RowRecord) (number : ℕ) (old : RowRecord) → slice_get rows number ≡ Some old → get_or rows number no_row ≡ old
found_row [] number old at = absurd (none-some old at)
found_row (r ∷ rows) zero old at = same_Some r old at
found_row (r ∷ rows) (suc number) old at = found_row rows number old at

unlocked_is : {S : Type 0} (held : S → Held) (setting : Setting) (event node token number : ℕ) (names : List ℕ) (store : S) (old : RowRecord) → row_of (kept_in held names store) token ≡ Some number → slice_get (held store).content.rows number ≡ Some old
    → process_after setting event (Unlocks node token) (Down (kept_in held names store)) ≡ down_with names (with_row (held store).content number (row_with_gate clear_gate old) None)
unlocked_is held setting event node token number names store old there at =
    let c = (held store).content in
    ap (λ o. down_with names (content_unlocked o c)) there
    ∙ ap (λ r. down_with names (with_row c number (row_with_gate clear_gate r) None)) (found_row c.rows number old at)

pub unlocks : {S : Type 0} (held : S → Held) (setting : Setting) (event node token number : ℕ) (names : List ℕ) (store new : S) (old : RowRecord) → row_of (kept_in held names store) token ≡ Some number → slice_get (held store).content.rows number ≡ Some old
    → MayWrite {A = Unit {0}} {E = StoreFault} held store new (with_row (held store).content number (row_with_gate clear_gate old) None) (Ok tt) → (held new).is_clean
    → process_after setting event (Unlocks node token) (Down (kept_in held names store)) ≡ Down (kept_in held names new)
unlocks held setting event node token number names store new old there at w clean =
    unlocked_is held setting event node token number names store old there at ∙ ap (λ c. down_with names c) (sym (w.makes.ok clean))

pub stops_unlocking : {S : Type 0} (held : S → Held) (setting : Setting) (event node token number : ℕ) (names : List ℕ) (store new : S) (old : RowRecord) (result : Result (Unit {0}) StoreFault) (content : Content)
    → row_of (kept_in held names store) token ≡ Some number → slice_get (held store).content.rows number ≡ Some old
    → MayWrite held store new (with_row (held store).content number (row_with_gate clear_gate old) None) result → (held new).is_clean → (held new).leaves content
    → (held store).leaves content ⊎ (process_after setting event (Unlocks node token) (Down (kept_in held names store)) ≡ down_with names content)
stops_unlocking held setting event node token number names store new old result content there at w clean leaves =
    let made = with_row (held store).content number (row_with_gate clear_gate old) None in
    ⊎_elim
    (λ (p : (held store).leaves content). inl p)
    (λ (q : content ≡ made). inr (unlocked_is held setting event node token number names store old there at ∙ ap (λ c. down_with names c) (sym q)))
    (w.left clean content leaves)

-- ---- a raised floor

raised_is : {S : Type 0} (held : S → Held) (setting : Setting) (event node token number floor : ℕ) (names : List ℕ) (store : S) → row_of (kept_in held names store) token ≡ Some number
    → process_after setting event (Raises node token floor) (Down (kept_in held names store)) ≡ down_with names (raise number floor (held store).content)
raised_is held setting event node token number floor names store there = ap (λ o. down_with names (content_raised o floor (held store).content)) there

pub raises : {S : Type 0} (held : S → Held) (setting : Setting) (event node token number floor : ℕ) (names : List ℕ) (store new : S) → row_of (kept_in held names store) token ≡ Some number
    → MayPut {A = Unit {0}} {E = StoreFault} held store new (raise number floor (held store).content) (Ok tt) → (held new).is_clean
    → process_after setting event (Raises node token floor) (Down (kept_in held names store)) ≡ Down (kept_in held names new)
raises held setting event node token number floor names store new there w clean =
    raised_is held setting event node token number floor names store there ∙ ap (λ c. down_with names c) (sym (w.makes.ok clean))

pub stops_raising : {S : Type 0} (held : S → Held) (setting : Setting) (event node token number floor : ℕ) (names : List ℕ) (store new : S) (result : Result (Unit {0}) StoreFault) (content : Content)
    → row_of (kept_in held names store) token ≡ Some number
    → MayPut held store new (raise number floor (held store).content) result → (held store).is_clean → (held new).leaves content
    → (held store).leaves content ⊎ (process_after setting event (Raises node token floor) (Down (kept_in held names store)) ≡ down_with names content)
stops_raising held setting event node token number floor names store new result content there w clean leaves =
    ⊎_elim
    (λ (p : (held store).leaves content). inl p)
    (λ (q : content ≡ raise number floor (held store).content). inr (raised_is held setting event node token number floor names store there ∙ ap (λ c. down_with names c) (sym q)))
    (w.left clean content leaves)

pub commits : {S : Type 0} (held : S → Held) (store new : S) → Commits {A = Unit {0}} {E = StoreFault} held store new (Ok tt) → (held new).is_clean
    → ((held new).content ≡ (held store).content) × IsSettled (held new)
commits held store new w clean = (w.makes.ok clean, w.settled clean)

pub raises_in_order : (setting : Setting) (node first : ℕ) (told : List (ℕ × ℕ)) (store : Store) → own_process setting node first (raises_of node told) (Down store) ≡ Down (store_with_raises told store)
unfolding own_process
raises_in_order setting node first [] store = refl
raises_in_order setting node first (x ∷ told) store =
    ap (λ a. own_process setting node (suc first) (raises_of node told) a) (cond-true (eqb node node) (Down (store_raised x.0 x.1 store)) (Down store) (eq-eqb node node refl))
    ∙ raises_in_order setting node (suc first) told (store_raised x.0 x.1 store)

-- ---- an opening that a stop cuts off

below_last : (boot : ℕ) → boot + 1 < 2 ^ 62 → boot < last_boot
below_last boot h = omega arith

pub half_opens : {S A : Type 0} (held : S → Held) (setting : Setting) (event node : ℕ) (names : List ℕ) (store left : S) (result : Result A StoreFault) (c : Content) → RaisesBoot held store left result → IsSettled (held store) → (held left).leaves c → IsCount c.boot
    → (raised : Bool) × (process_after setting event (FailsToOpen node raised) (Down (kept_in held names store)) ≡ down_with names c)
half_opens held setting event node names store left result c r settled leaves count =
    let d = (held store).content in
    ⊎_elim
    (λ (old : (held store).leaves c). (false, ap (λ x. down_with names x) (sym (settled c old))))
    (λ (new : c ≡ with_next_boot d).
    let low : d.boot + 1 < 2 ^ 62 = subst (λ (x : Content). x.boot < 2 ^ 62) new count in
    (true, cond-true (ltb d.boot last_boot) (down_with names (with_next_boot d)) (down_with names d) (lt-ltb d.boot last_boot (below_last d.boot low)) ∙ ap (λ x. down_with names x) (sym new)))
    (r.writes.left c leaves)
