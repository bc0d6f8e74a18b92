-- The line grammar, and the reader of lines as a function.
use Rattle.std.proofs.Common.{◌≡◌, ℕ, ◌<◌, ◌≤◌, Bool, true, false, cond, List, [], ◌∷◌, length, Option, Some, None, refl, sym, ◌∙◌, inl, inr}
use Rattle.std.specs.Prelude.{All, IsTrue, ◌&&◌, ◌||◌, nat_le, codes}
use Rattle.std.specs.Bool.{Decides}
use Rattle.std.specs.Char.{is_ascii_alphanumeric, is_ascii_digit, IsAsciiAlphanumeric, IsAsciiDigit}
use Rattle.std.specs.Int.{is_in_range, IsInRange}
use Rattle.std.specs.List.{list_all}
use Rattle.std.specs.Str.{bytes_eq}
use Rattle.std.proofs.lemmas.Bool.{leb-true, le-leb, lt-leb, or_cases, or_left, or_right}
use Rattle.std.proofs.lemmas.Bool.Decides.{Decides-and, Decides-by_and}
use Rattle.std.proofs.lemmas.Slice.Eq.{bytes_eq-Decides}
use Rattle.otp_core.specs.Code.{IsCode}
use Rattle.otp_core.specs.Submission.{Submission, Check, Resync}
use Rattle.field_text.specs.Word.{is_word}
use Rattle.client_lines.specs.Field.{IsNonce}
use Rattle.client_lines.specs.Request.{Request, IsRequest, IsLine, Reads, has_length, is_nonce, is_code, are_common, given_in, request_of, request_at, fields_of, without_lf}

decides_le : (a b : ℕ) → Decides (nat_le a b) (a ≤ b)
decides_le a b = (leb-true a b, le-leb a b)

decides_range : (lo hi c : ℕ) → Decides (is_in_range lo hi c) (IsInRange lo hi c)
decides_range lo hi c = Decides-and (nat_le lo c) (nat_le c hi) (decides_le lo c) (decides_le c hi)

decides_length : (least most : ℕ) (text : List ℕ) → Decides (has_length least most text) ((least ≤ length text) × (length text ≤ most))
decides_length least most text = Decides-and (nat_le least (length text)) (nat_le (length text) most) (decides_le least (length text)) (decides_le (length text) most)

decides_alphanumeric : (c : ℕ) → Decides (is_ascii_alphanumeric c) (IsAsciiAlphanumeric c)
decides_alphanumeric c =
    let d = decides_range 48 57 c in
    let u = decides_range 65 90 c in
    let l = decides_range 97 122 c in
    let digit = is_in_range 48 57 c in
    let upper = is_in_range 65 90 c in
    let lower = is_in_range 97 122 c in (
      λ e. elim (or_cases (digit || upper) lower e) [
        | inl w ↦ elim (or_cases digit upper w) [ inl x ↦ inl (inl (d.0 x)) | inr x ↦ inl (inr (u.0 x)) ]
        | inr w ↦ inr (l.0 w)
      ],
      λ h. elim h [
        | inl w ↦ or_left (digit || upper) lower (elim w [ inl x ↦ or_left digit upper (d.1 x) | inr x ↦ or_right digit upper (u.1 x) ])
        | inr w ↦ or_right (digit || upper) lower (l.1 w)
      ],
    )

-- a text of some length, each byte of which passes a test
decides_text : (least most : ℕ) (p : ℕ → Bool) (P : ℕ → Type 0) → ((b : ℕ) → Decides (p b) (P b)) → (text : List ℕ)
    → Decides (has_length least most text && list_all p text) ((least ≤ length text) × (length text ≤ most) × All P text)
decides_text least most p P each text =
    let d = Decides-and _ _ (decides_length least most text) (Decides-by_and p P (list_all p) each refl (λ _ _. refl) text) in
    (λ e. (let h = d.0 e in (h.0.0, h.0.1, h.1)), λ h. d.1 ((h.0, h.1), h.2))

decides_nonce : (text : List ℕ) → Decides (is_nonce text) (IsNonce text)
decides_nonce text = decides_text 1 20 is_ascii_alphanumeric IsAsciiAlphanumeric decides_alphanumeric text

decides_word : (text : List ℕ) → Decides (is_word text) (IsTrue (is_word text))
decides_word text = (λ e. e, λ h. h)

decides_code : (text : List ℕ) → Decides (is_code text) (IsCode text)
decides_code text = decides_text 6 8 is_ascii_digit IsAsciiDigit (decides_range 48 57) text

decides_common : (nonce user password : List ℕ) → Decides (are_common nonce user password) (IsNonce nonce × (IsTrue (is_word user) × IsTrue (is_word password)))
decides_common nonce user password = Decides-and _ _ (decides_nonce nonce) (Decides-and _ _ (decides_word user) (decides_word password))

decides_check : (word nonce user code password : List ℕ)
    → Decides (bytes_eq word (codes "CHECK") && (are_common nonce user password && is_code code))
    ((word ≡ codes "CHECK") × ((IsNonce nonce × (IsTrue (is_word user) × IsTrue (is_word password))) × IsCode code))
decides_check word nonce user code password =
    Decides-and _ _ (bytes_eq-Decides word (codes "CHECK")) (Decides-and _ _ (decides_common nonce user password) (decides_code code))

decides_resync : (word nonce user first second password : List ℕ)
    → Decides (bytes_eq word (codes "RESYNC") && (are_common nonce user password && (is_code first && is_code second)))
    ((word ≡ codes "RESYNC") × ((IsNonce nonce × (IsTrue (is_word user) × IsTrue (is_word password))) × (IsCode first × IsCode second)))
decides_resync word nonce user first second password =
    Decides-and _ _ (bytes_eq-Decides word (codes "RESYNC"))
    (Decides-and _ _ (decides_common nonce user password) (Decides-and _ _ (decides_code first) (decides_code second)))

-- a test that was passed
some_if : {A : Type 0} (b : Bool) (x y : A) → cond b (Some x) None ≡ Some y → (b ≡ true) × (x ≡ y)
some_if true x y e = (refl, cc)
some_if false x y e = absurd cc

some_at : {A : Type 0} (b : Bool) (x y : A) → b ≡ true → y ≡ x → cond b (Some x) None ≡ Some y
some_at true x y e h = cc
some_at false x y e h = absurd cc

abbrev request : List ℕ → List ℕ → Submission → List ℕ → Request
request nonce user submission password = record { nonce = nonce; user = user; submission = submission; password = given_in password }

-- what is read is in the grammar
pub request_takes : (fields : List (List ℕ)) (r : Request) → request_of fields ≡ Some r → IsRequest fields r
request_takes [] r e = absurd cc
request_takes (a ∷ []) r e = absurd cc
request_takes (a ∷ b ∷ []) r e = absurd cc
request_takes (a ∷ b ∷ c ∷ []) r e = absurd cc
request_takes (a ∷ b ∷ c ∷ d ∷ []) r e = absurd cc
request_takes (word ∷ nonce ∷ user ∷ code ∷ password ∷ []) r e =
    let s = some_if _ (request nonce user (Check code) password) r e in
    let h = (decides_check word nonce user code password).0 s.0 in
    record { is_check = h.0; is_nonce = h.1.0.0; is_user = h.1.0.1.0; is_code = h.1.1; is_password = h.1.0.1.1; value = sym s.1 }
request_takes (word ∷ nonce ∷ user ∷ first ∷ second ∷ password ∷ []) r e =
    let s = some_if _ (request nonce user (Resync first second) password) r e in
    let h = (decides_resync word nonce user first second password).0 s.0 in
    record {
      is_resync = h.0;
      is_nonce = h.1.0.0;
      is_user = h.1.0.1.0;
      is_first = h.1.1.0;
      is_second = h.1.1.1;
      is_password = h.1.0.1.1;
      value = sym s.1;
    }
request_takes (a ∷ b ∷ c ∷ d ∷ f ∷ g ∷ k ∷ more) r e = absurd cc

-- what is in the grammar is read
pub request_again : (fields : List (List ℕ)) (r : Request) → IsRequest fields r → request_of fields ≡ Some r
request_again [] r h = absurd h
request_again (a ∷ []) r h = absurd h
request_again (a ∷ b ∷ []) r h = absurd h
request_again (a ∷ b ∷ c ∷ []) r h = absurd h
request_again (a ∷ b ∷ c ∷ d ∷ []) r h = absurd h
request_again (word ∷ nonce ∷ user ∷ code ∷ password ∷ []) r h =
    some_at _ (request nonce user (Check code) password) r
    ((decides_check word nonce user code password).1 (h.is_check, ((h.is_nonce, (h.is_user, h.is_password)), h.is_code))) h.value
request_again (word ∷ nonce ∷ user ∷ first ∷ second ∷ password ∷ []) r h =
    some_at _ (request nonce user (Resync first second) password) r
    ((decides_resync word nonce user first second password).1
    (h.is_resync, ((h.is_nonce, (h.is_user, h.is_password)), (h.is_first, h.is_second)))) h.value
request_again (a ∷ b ∷ c ∷ d ∷ f ∷ g ∷ k ∷ more) r h = absurd h

pub reads_exactly : (fields : List (List ℕ)) (result : Option Request) → Reads fields result → result ≡ request_of fields
reads_exactly fields (Some r) h = sym (request_again fields r h)
reads_exactly fields None h = nothing fields (request_of fields) refl h
  where
    nothing : (fields : List (List ℕ)) (read : Option Request) → request_of fields ≡ read → ((r : Request) → IsRequest fields r → ⊥) → None ≡ read
    nothing fields None e h = refl
    nothing fields (Some r) e h = absurd (h r (request_takes fields r e))

pub line_read : (bytes : List ℕ) (result : Option Request) → length bytes ≤ 256 → Reads (fields_of (without_lf bytes)) result → result ≡ request_at bytes
line_read bytes result le h = reads_exactly (fields_of (without_lf bytes)) result h ∙ rw (le-leb (length bytes) 256 le) refl

pub line_too_long : (bytes : List ℕ) → 256 < length bytes → None ≡ request_at bytes
line_too_long bytes lt = rw (lt-leb (length bytes) 256 lt) refl

only_when : (b : Bool) (x : Option Request) (r : Request) → cond b x None ≡ Some r → (b ≡ true) × (x ≡ Some r)
only_when true x r e = (refl, e)
only_when false x r e = absurd cc

-- what the reader gives is in the line grammar
pub line_of_request : (bytes : List ℕ) (r : Request) → request_at bytes ≡ Some r → IsLine bytes r
line_of_request bytes r e =
    let read = only_when (nat_le (length bytes) 256) (request_of (fields_of (without_lf bytes))) r e in
    (leb-true (length bytes) 256 read.0, request_takes (fields_of (without_lf bytes)) r read.1)

-- what is in the line grammar is given by the reader
pub request_of_line : (bytes : List ℕ) (r : Request) → IsLine bytes r → request_at bytes ≡ Some r
request_of_line bytes r h =
    rw (le-leb (length bytes) 256 h.0) (request_again (fields_of (without_lf bytes)) r h.1)
