-- The first byte of a text that is no hexadecimal digit.
use Rattle.std.proofs.Common.{◌≡◌, ℕ, zero, suc, ◌+◌, ◌%◌, ◌<◌, ◌≤◌, ◌≢◌, Bool, true, false, cond, not, List, [], ◌∷◌, length, take, slice_index, Option, Some, None, Ok, Err, inl, inr, refl, sym, ap, ◌∙◌, arith}
use Rattle.std.proofs.lemmas.Bool.Decides.{nat_tests}
use Rattle.std.proofs.lemmas.List.Elements.{All-head, All-tail}
use Rattle.std.specs.List.{AllPass, position_from}
use Rattle.std.specs.Option.{option_map}
use Rattle.hex.specs.Hex.{decode_of, is_hex_digit}
use Rattle.hex.specs.declared.error.FromHexError.{FromHexError}
use Rattle.hex.proofs.HexLemmas.{decode_of-err, decode_of-ok}
use Rattle.secret_text.specs.Hexadecimal.{hex_fault, hex_refusal_of, is_no_digit}
use Rattle.secret_text.specs.declared.fault.SecretFault.TheVariants.{BadCharacter}

-- a digit
abbrev IsDigit : ℕ → Type 0
IsDigit c = is_hex_digit c ≡ true

-- digits alone
position_from-digits : (text : List ℕ) (i : ℕ) → AllPass is_hex_digit text → position_from is_no_digit i text ≡ None
position_from-digits [] i h = refl
position_from-digits (c ∷ rest) i h =
    ap (λ (b : Bool). cond (not b) (Some i) (position_from is_no_digit (i + 1) rest)) (All-head IsDigit c rest h)
    ∙ position_from-digits rest (i + 1) (All-tail IsDigit c rest h)

-- digits, followed by a byte that is no digit
position_from-bad : (text : List ℕ) (i place : ℕ) → place < length text → is_hex_digit (slice_index text place) ≡ false
    → AllPass is_hex_digit (take place text) → position_from is_no_digit i text ≡ Some (i + place)
position_from-bad [] i place within bad h = absurd (omega arith)
position_from-bad (c ∷ rest) i zero within bad h =
    let same : i ≡ i + 0 = omega arith in
    ap (λ (b : Bool). cond (not b) (Some i) (position_from is_no_digit (i + 1) rest)) bad ∙ ap Some same
position_from-bad (c ∷ rest) i (suc place) within bad h =
    let sum : i + 1 + place ≡ i + suc place = omega arith in
    ap (λ (b : Bool). cond (not b) (Some i) (position_from is_no_digit (i + 1) rest)) (All-head IsDigit c (take place rest) h)
    ∙ position_from-bad rest (i + 1) place (omega arith) bad (All-tail IsDigit c (take place rest) h) ∙ ap Some sum

-- a text that decodes has no bad digit
no_bad_digit : (text bytes : List ℕ) → decode_of text ≡ Ok bytes
    → option_map BadCharacter (position_from is_no_digit 0 text) ≡ None
no_bad_digit text bytes h =
    ap (λ (o : Option ℕ). option_map BadCharacter o) (position_from-digits text 0 (decode_of-ok text bytes h).1)

-- one that does not has the one that the error names
bad_digit : (text : List ℕ) (e : FromHexError) → length text % 2 ≡ 0 → decode_of text ≡ Err e
    → option_map BadCharacter (position_from is_no_digit 0 text) ≡ Some (hex_fault e)
bad_digit text e even h =
    elim (decode_of-err text e h) [
      | inl odd ↦ absurd (omega (arith, odd.0))
      | inr bad ↦
          ap (λ (o : Option ℕ). option_map BadCharacter o) (position_from-bad text 0 bad.0 bad.2 bad.3 bad.4)
          ∙ ap (λ (error : FromHexError). Some (hex_fault error)) (sym bad.1)
    ]

-- a text whose length is right is refused for a digit alone
refusal-digits : (text : List ℕ) → length text ≢ 0 → length text % 2 ≢ 1 → length text ≤ 256
    → hex_refusal_of text ≡ option_map BadCharacter (position_from is_no_digit 0 text)
refusal-digits text some even fits = grind (arith, nat_tests)

-- the refusal of a text that decodes
pub refusal-ok : (text bytes : List ℕ) → 0 < length text → length text % 2 ≡ 0 → length text ≤ 256
    → decode_of text ≡ Ok bytes → hex_refusal_of text ≡ None
refusal-ok text bytes some even fits h =
    refusal-digits text (omega arith) (omega arith) fits ∙ no_bad_digit text bytes h

-- and of one that does not
pub refusal-err : (text : List ℕ) (e : FromHexError) → 0 < length text → length text % 2 ≡ 0 → length text ≤ 256
    → decode_of text ≡ Err e → hex_refusal_of text ≡ Some (hex_fault e)
refusal-err text e some even fits h =
    refusal-digits text (omega arith) (omega arith) fits ∙ bad_digit text e even h
