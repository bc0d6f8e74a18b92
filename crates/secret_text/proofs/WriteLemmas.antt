-- The canonical text of a secret.
use Rattle.std.proofs.Common.{◌≡◌, ℕ, zero, suc, ◌+◌, ◌-◌, ◌*◌, ◌/◌, ◌%◌, ◌<◌, List, [], ◌∷◌, ◌++◌, length, map, replicate, refl, sym, ap, ◌∙◌, arith}
use Rattle.std.proofs.lemmas.List.{length-replicate}
use Rattle.std.specs.List.{AllByRecursion}
use Rattle.secret_text.specs.Base32.{base32_text, filled_bits, fives_of, padding_len, symbol_of}
use Rattle.secret_text.specs.Bits.{bits_of, bits_of_each}
use Rattle.secret_text.proofs.BitsLemmas.{length-bits_of_each, length_of_pair}

-- The text has upper case characters, followed by the padding. Their bits are the secret's and fewer than five zeros.
pub record IsCanonical (secret text : List ℕ) : Type 0 where
  pub values : List ℕ
  pub below_32 : AllByRecursion (λ value. value < 32) values
  pub zeros : ℕ
  pub few : zeros < 5
  pub same_bits : bits_of_each 5 values ≡ bits_of_each 8 secret ++ replicate zeros 0
  pub spelled : text ≡ map symbol_of values ++ replicate (padding_len (length secret)) 61

-- ---- numbers of five bits

-- a number below 32 is the sum of its bits
five_bits : (v : ℕ) → v < 32
    → 16 * (v / 16 % 2) + 8 * (v / 8 % 2) + 4 * (v / 4 % 2) + 2 * (v / 2 % 2) + v / 1 % 2 ≡ v
five_bits v below = omega arith

-- the numbers of the bits of numbers
fives_of-bits : (values : List ℕ) → AllByRecursion (λ v. v < 32) values → fives_of (bits_of_each 5 values) ≡ values
unfolding bits_of
fives_of-bits [] h = refl
fives_of-bits (v ∷ values) h =
    ap (λ (n : ℕ). n ∷ fives_of (bits_of_each 5 values)) (five_bits v h.0)
    ∙ ap (λ (ns : List ℕ). v ∷ ns) (fives_of-bits values h.1)

-- `fill` zeros fill the last group
fill_len : (m len fill : ℕ) → fill < 5 → 5 * m ≡ len + fill → fill ≡ (5 - len % 5) % 5
fill_len m len fill few e = omega arith

-- a canonical text is the one that is defined
pub text_of_canonical : (secret text : List ℕ) → IsCanonical secret text → text ≡ base32_text secret
text_of_canonical secret text h =
    let bits = bits_of_each 8 secret in
    let few : h.zeros < 5 = h.few in
    let both = length_of_pair (bits_of_each 5 h.values) bits (replicate h.zeros 0) h.same_bits in
    let fives = length-bits_of_each 5 h.values in
    let zeros = length-replicate {A = ℕ} h.zeros 0 in
    let fill : h.zeros ≡ (5 - length bits % 5) % 5 = fill_len (length h.values) (length bits) h.zeros few (omega arith) in
    let same : bits_of_each 5 h.values ≡ filled_bits bits = h.same_bits ∙ ap (λ (n : ℕ). bits ++ replicate n 0) fill in
    let values : h.values ≡ fives_of (filled_bits bits) = sym (fives_of-bits h.values h.below_32) ∙ ap fives_of same in
    h.spelled ∙ ap (λ (ns : List ℕ). map symbol_of ns ++ replicate (padding_len (length secret)) 61) values

-- ---- the bits of numbers of five bits

-- each is 0 or 1
abbrev AreBits : List ℕ → Type 0
AreBits bits = AllByRecursion (λ bit. bit < 2) bits

AreBits-append : (a b : List ℕ) → AreBits a → AreBits b → AreBits (a ++ b)
AreBits-append [] b ha hb = hb
AreBits-append (x ∷ a) b ha hb = (ha.0, AreBits-append a b ha.1 hb)

AreBits-bits_of : (len n : ℕ) → AreBits (bits_of len n)
unfolding bits_of
AreBits-bits_of zero n = tt
AreBits-bits_of (suc len) n = (omega arith, AreBits-bits_of len n)

AreBits-bits_of_each : (len : ℕ) (ns : List ℕ) → AreBits (bits_of_each len ns)
AreBits-bits_of_each len [] = tt
AreBits-bits_of_each len (n ∷ ns) =
    AreBits-append (bits_of len n) (bits_of_each len ns) (AreBits-bits_of len n) (AreBits-bits_of_each len ns)

AreBits-zeros : (n : ℕ) → AreBits (replicate n 0)
AreBits-zeros zero = tt
AreBits-zeros (suc n) = (omega arith, AreBits-zeros n)

-- five bits are the bits of their number
bits_of-five : (a b c d e : ℕ) → a < 2 → b < 2 → c < 2 → d < 2 → e < 2
    → bits_of 5 (16 * a + 8 * b + 4 * c + 2 * d + e) ≡ a ∷ b ∷ c ∷ d ∷ e ∷ []
unfolding bits_of
bits_of-five a b c d e ha hb hc hd he =
    let n = 16 * a + 8 * b + 4 * c + 2 * d + e in
    let b4 : n / 16 % 2 ≡ a = omega arith in
    let b3 : n / 8 % 2 ≡ b = omega arith in
    let b2 : n / 4 % 2 ≡ c = omega arith in
    let b1 : n / 2 % 2 ≡ d = omega arith in
    let b0 : n / 1 % 2 ≡ e = omega arith in
    ap (λ (v : ℕ). v ∷ n / 8 % 2 ∷ n / 4 % 2 ∷ n / 2 % 2 ∷ n / 1 % 2 ∷ []) b4
    ∙ ap (λ (v : ℕ). a ∷ v ∷ n / 4 % 2 ∷ n / 2 % 2 ∷ n / 1 % 2 ∷ []) b3
    ∙ ap (λ (v : ℕ). a ∷ b ∷ v ∷ n / 2 % 2 ∷ n / 1 % 2 ∷ []) b2
    ∙ ap (λ (v : ℕ). a ∷ b ∷ c ∷ v ∷ n / 1 % 2 ∷ []) b1
    ∙ ap (λ (v : ℕ). a ∷ b ∷ c ∷ d ∷ v ∷ []) b0

-- The numbers of whole groups are below 32, and have the bits of the groups.
record AreFives (bits values : List ℕ) : Type 0 where
  below_32 : AllByRecursion (λ v. v < 32) values
  same_bits : bits_of_each 5 values ≡ bits

fives_of-groups : (m : ℕ) (bits : List ℕ) → AreBits bits → length bits ≡ 5 * m → AreFives bits (fives_of bits)
fives_of-groups zero [] h len = record { below_32 = tt; same_bits = refl }
fives_of-groups zero (a ∷ bits) h len = absurd (omega arith)
fives_of-groups (suc m) [] h len = absurd (omega arith)
fives_of-groups (suc m) (a ∷ []) h len = absurd (omega arith)
fives_of-groups (suc m) (a ∷ b ∷ []) h len = absurd (omega arith)
fives_of-groups (suc m) (a ∷ b ∷ c ∷ []) h len = absurd (omega arith)
fives_of-groups (suc m) (a ∷ b ∷ c ∷ d ∷ []) h len = absurd (omega arith)
fives_of-groups (suc m) (a ∷ b ∷ c ∷ d ∷ e ∷ rest) (ha, (hb, (hc, (hd, (he, hs))))) len =
    let more = fives_of-groups m rest hs (omega arith) in
    record {
      below_32 = (omega arith, more.below_32);
      same_bits = ap (λ (xs : List ℕ). xs ++ bits_of_each 5 (fives_of rest)) (bits_of-five a b c d e ha hb hc hd he)
          ∙ ap (λ (xs : List ℕ). a ∷ b ∷ c ∷ d ∷ e ∷ xs) more.same_bits;
    }

-- the text that is defined is canonical
pub canonical : (secret : List ℕ) → IsCanonical secret (base32_text secret)
canonical secret =
    let bits = bits_of_each 8 secret in
    let zeros = (5 - length bits % 5) % 5 in
    let m = (length bits + zeros) / 5 in
    let fill = length-replicate {A = ℕ} zeros 0 in
    let both = length_of_pair (filled_bits bits) bits (replicate zeros 0) refl in
    let len : length (filled_bits bits) ≡ 5 * m = omega arith in
    let good = AreBits-append bits (replicate zeros 0) (AreBits-bits_of_each 8 secret) (AreBits-zeros zeros) in
    let groups = fives_of-groups m (filled_bits bits) good len in
    record {
      values = fives_of (filled_bits bits);
      below_32 = groups.below_32;
      zeros = zeros;
      few = omega arith;
      same_bits = groups.same_bits;
      spelled = refl;
    }
