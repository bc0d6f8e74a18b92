-- The laws of base32: a text spells one secret, and what is written is read again.
use Rattle.std.proofs.Common.{◌≡◌, ◌≢◌, ℕ, zero, suc, ◌+◌, ◌*◌, ◌/◌, ◌%◌, ◌^◌, ◌<◌, ◌≤◌, ◌==◌, ◌||◌, Bool, false, cond, List, [], ◌∷◌, ◌++◌, Option, Some, None, length, take, drop, map, replicate, get_or, refl, sym, ap, ◌∙◌, subst, append_assoc, arith}
use Rattle.std.proofs.Math.Nat.{le_refl}
use Rattle.std.proofs.lemmas.Bool.Decides.{nat_tests}
use Rattle.std.proofs.lemmas.List.{drop_at, length-replicate, take_at}
use Rattle.std.proofs.lemmas.Nat.{div-add-mod', mod_below, pow_pos, shr_below}
use Rattle.std.specs.List.{AllByRecursion, cons_option, filter_map, position_from}
use Rattle.hex.specs.Hex.{IsBytes}
use Rattle.otp_core.specs.Range.{IsSecret}
use Rattle.secret_text.specs.Base32.{Spells, base32_text, count_refusal, is_bad, is_padding, padding_len, refusal_at, refusal_of, symbol_of, symbol_value, text_before_padding, values_of}
use Rattle.secret_text.specs.Bits.{bits_of, bits_of_each}
use Rattle.secret_text.proofs.BitsLemmas.{bits_of-low, length-bits_of, length-bits_of_each, length_of_pair}
use Rattle.secret_text.proofs.WriteLemmas.{IsCanonical, canonical}

-- each is a byte
abbrev AreBytes : List ℕ → Type 0
AreBytes bytes = AllByRecursion (λ byte. byte < 2 ^ 8) bytes

AreBytes-bytes : (bytes : List ℕ) → IsBytes bytes → AreBytes bytes
AreBytes-bytes [] h = tt
AreBytes-bytes (b ∷ bytes) h = (h 0, AreBytes-bytes bytes (λ i. h (suc i)))

-- the low bits are the bits of the low part
bits_of-rest : (len a : ℕ) → bits_of len a ≡ bits_of len (a % 2 ^ len)
bits_of-rest len a =
    ap (bits_of len) (sym (div-add-mod' a (2 ^ len))) ∙ bits_of-low len len (a / 2 ^ len) (a % 2 ^ len) (le_refl len)

-- the top bit is a bit
top_below : (len a : ℕ) → a < 2 ^ suc len → a / 2 ^ len < 2
top_below len a below =
    let e : suc len ≡ 1 + len = omega arith in
    let P : ℕ → Type 0 = λ n. a < 2 ^ n in
    shr_below a 1 len (subst P e below)

-- two bits with one remainder by 2
same_bit : (x y : ℕ) → x < 2 → y < 2 → x % 2 ≡ y % 2 → x ≡ y
same_bit x y hx hy e = omega arith

-- equal bits are equal numbers
bits_of-same : (len a b : ℕ) → a < 2 ^ len → b < 2 ^ len → bits_of len a ≡ bits_of len b → a ≡ b
unfolding bits_of
bits_of-same zero a b ha hb e = omega arith
bits_of-same (suc len) a b ha hb e =
    let qa : a / 2 ^ len < 2 = top_below len a ha in
    let qb : b / 2 ^ len < 2 = top_below len b hb in
    let first : a / 2 ^ len % 2 ≡ b / 2 ^ len % 2 = ap (λ (xs : List ℕ). get_or xs 0 0) e in
    let others : bits_of len a ≡ bits_of len b = ap (λ (xs : List ℕ). drop 1 xs) e in
    let low = bits_of-same len (a % 2 ^ len) (b % 2 ^ len) (mod_below a (2 ^ len) (pow_pos len))
    (mod_below b (2 ^ len) (pow_pos len)) (sym (bits_of-rest len a) ∙ others ∙ bits_of-rest len b) in
    let high : a / 2 ^ len ≡ b / 2 ^ len = same_bit (a / 2 ^ len) (b / 2 ^ len) qa qb first in
    sym (div-add-mod' a (2 ^ len)) ∙ ap (λ (n : ℕ). n * 2 ^ len + a % 2 ^ len) high
    ∙ ap (λ (r : ℕ). b / 2 ^ len * 2 ^ len + r) low ∙ div-add-mod' b (2 ^ len)

-- two equal lists whose first parts have the same length are equal in both parts
split_same : (a b c d : List ℕ) → length a ≡ length b → a ++ c ≡ b ++ d → (a ≡ b) × (c ≡ d)
split_same a b c d len e = (
  sym (take_at a c (length b) len) ∙ ap (λ (xs : List ℕ). take (length b) xs) e ∙ take_at b d (length b) refl,
  sym (drop_at a c (length b) len) ∙ ap (λ (xs : List ℕ). drop (length b) xs) e ∙ drop_at b d (length b) refl,
)

-- fewer than five bits are no byte
longer : (y : ℕ) (ys s t : List ℕ) → length s < 5 → s ≡ bits_of_each 8 (y ∷ ys) ++ t → ⊥
longer y ys s t few e =
    let len = length_of_pair s (bits_of_each 8 (y ∷ ys)) t e in
    let eights = length-bits_of_each 8 (y ∷ ys) in
    omega arith

-- equal bits, up to a few more, are equal bytes
same_bytes : (xs ys s t : List ℕ) → AreBytes xs → AreBytes ys → length s < 5 → length t < 5
    → bits_of_each 8 xs ++ s ≡ bits_of_each 8 ys ++ t → xs ≡ ys
same_bytes [] [] s t hx hy fs ft e = refl
same_bytes [] (y ∷ ys) s t hx hy fs ft e = absurd (longer y ys s t fs e)
same_bytes (x ∷ xs) [] s t hx hy fs ft e = absurd (longer x xs t s ft (sym e))
same_bytes (x ∷ xs) (y ∷ ys) s t hx hy fs ft e =
    let parts = split_same (bits_of 8 x) (bits_of 8 y) (bits_of_each 8 xs ++ s) (bits_of_each 8 ys ++ t)
    (length-bits_of 8 x ∙ sym (length-bits_of 8 y))
    (sym (append_assoc (bits_of 8 x) (bits_of_each 8 xs) s) ∙ e ∙ append_assoc (bits_of 8 y) (bits_of_each 8 ys) t) in
    ap (λ (v : ℕ). v ∷ xs) (bits_of-same 8 x y hx.0 hy.0 parts.0)
    ∙ ap (λ (zs : List ℕ). y ∷ zs) (same_bytes xs ys s t hx.1 hy.1 fs ft parts.1)

-- ---- what is written

-- the character of a value has that value
symbol_value-symbol_of : (v : ℕ) → v < 32 → symbol_value (symbol_of v) ≡ Some v
symbol_value-symbol_of v below = grind (arith, nat_tests)

-- and is neither a space nor a `=`
symbol_of-not_blank : (v : ℕ) → v < 32 → (symbol_of v == 32 || symbol_of v == 61) ≡ false
symbol_of-not_blank v below = grind (arith, nat_tests)

-- nothing but `=`, at most six
text_before_padding-pads : (k : ℕ) → k ≤ 6 → text_before_padding (replicate k 61) ≡ []
text_before_padding-pads zero h = refl
text_before_padding-pads (suc zero) h = refl
text_before_padding-pads (suc (suc zero)) h = refl
text_before_padding-pads (suc (suc (suc zero))) h = refl
text_before_padding-pads (suc (suc (suc (suc zero)))) h = refl
text_before_padding-pads (suc (suc (suc (suc (suc zero))))) h = refl
text_before_padding-pads (suc (suc (suc (suc (suc (suc zero)))))) h = refl
text_before_padding-pads (suc (suc (suc (suc (suc (suc (suc k))))))) h = absurd (omega arith)

-- the characters stay, and the padding goes
text_before_padding-written : (values : List ℕ) (k : ℕ) → AllByRecursion (λ v. v < 32) values → k ≤ 6
    → text_before_padding (map symbol_of values ++ replicate k 61) ≡ map symbol_of values
text_before_padding-written [] k h few = text_before_padding-pads k few
text_before_padding-written (v ∷ values) k h few =
    let rest = map symbol_of values ++ replicate k 61 in
    let stays : is_padding (symbol_of v ∷ rest) ≡ false = rw (symbol_of-not_blank v h.0) refl in
    ap (λ (b : Bool). cond b [] (symbol_of v ∷ text_before_padding rest)) stays
    ∙ ap (λ (xs : List ℕ). symbol_of v ∷ xs) (text_before_padding-written values k h.1 few)

-- each value is read again
filter_map-written : (values : List ℕ) → AllByRecursion (λ v. v < 32) values
    → filter_map symbol_value (map symbol_of values) ≡ values
filter_map-written [] h = refl
filter_map-written (v ∷ values) h =
    ap (λ (o : Option ℕ). cons_option o (filter_map symbol_value (map symbol_of values))) (symbol_value-symbol_of v h.0)
    ∙ ap (λ (xs : List ℕ). v ∷ xs) (filter_map-written values h.1)

-- no character is bad
is_bad-symbol_of : (v : ℕ) → v < 32 → is_bad (symbol_of v) ≡ false
is_bad-symbol_of v below = grind (arith, nat_tests, symbol_value-symbol_of v below)

position_from-written : (values : List ℕ) (i : ℕ) → AllByRecursion (λ v. v < 32) values
    → position_from is_bad i (map symbol_of values) ≡ None
position_from-written [] i h = refl
position_from-written (v ∷ values) i h =
    ap (λ (b : Bool). cond b (Some i) (position_from is_bad (i + 1) (map symbol_of values))) (is_bad-symbol_of v h.0)
    ∙ position_from-written values (i + 1) h.1

-- a last group has at most six `=`
padding_len-few : (n : ℕ) → padding_len n ≤ 6
padding_len-few n = grind (arith, nat_tests)

-- the characters of 1 to 128 bytes are a number that is taken
count_refusal-written : (m n fill : ℕ) → 1 ≤ n → n ≤ 128 → fill < 5 → 5 * m ≡ 8 * n + fill → count_refusal m ≡ None
count_refusal-written m n fill low high few e =
    let some : m ≢ 0 = omega arith in
    let not_1 : m % 8 ≢ 1 = omega arith in
    let not_3 : m % 8 ≢ 3 = omega arith in
    let not_6 : m % 8 ≢ 6 = omega arith in
    let fits : m ≤ 205 = omega arith in
    grind (arith, nat_tests)

-- the values are read again
values_of-written : (secret text : List ℕ) → (h : IsCanonical secret text)
    → (text_before_padding text ≡ map symbol_of h.values) × (values_of text ≡ h.values)
values_of-written secret text h =
    let front : text_before_padding text ≡ map symbol_of h.values =
    ap text_before_padding h.spelled ∙ text_before_padding-written h.values (padding_len (length secret)) h.below_32 (padding_len-few (length secret)) in
    (front, ap (filter_map symbol_value) front ∙ filter_map-written h.values h.below_32)

-- what is written is not refused
pub taken : (secret : List ℕ) → IsSecret secret → refusal_of (base32_text secret) ≡ None
taken secret len =
    let h = canonical secret in
    let text = base32_text secret in
    let read = values_of-written secret text h in
    let good : position_from is_bad 0 (text_before_padding text) ≡ None =
    ap (λ (xs : List ℕ). position_from is_bad 0 xs) read.0 ∙ position_from-written h.values 0 h.below_32 in
    let fives = length-bits_of_each 5 h.values in
    let eights = length-bits_of_each 8 secret in
    let both = length_of_pair (bits_of_each 5 h.values) (bits_of_each 8 secret) (replicate h.zeros 0) h.same_bits in
    let filled = length-replicate {A = ℕ} h.zeros 0 in
    let few : h.zeros < 5 = h.few in
    let total : 5 * length h.values ≡ 8 * length secret + h.zeros = omega arith in
    let count = ap (λ (xs : List ℕ). count_refusal (length xs)) read.1
    ∙ count_refusal-written (length h.values) (length secret) h.zeros len.0 len.1 few total in
    ap (λ (o : Option ℕ). refusal_at o (length (values_of text))) good ∙ count

-- it spells the secret
pub spelled : (secret : List ℕ) → IsBytes secret → Spells (base32_text secret) secret
spelled secret bytes =
    let h = canonical secret in
    let few : h.zeros < 5 = h.few in
    let len = length-replicate {A = ℕ} h.zeros 0 in
    record {
      are_bytes = bytes;
      rest = replicate h.zeros 0;
      short = omega arith;
      same_bits = ap (bits_of_each 5) (values_of-written secret (base32_text secret) h).1 ∙ h.same_bits;
    }

-- and no other
pub alone : (secret other : List ℕ) → IsBytes secret → Spells (base32_text secret) other → other ≡ secret
alone secret other bytes h =
    let own = spelled secret bytes in
    same_bytes other secret h.rest own.rest (AreBytes-bytes other h.are_bytes) (AreBytes-bytes secret bytes)
    h.short own.short (sym h.same_bits ∙ own.same_bits)
