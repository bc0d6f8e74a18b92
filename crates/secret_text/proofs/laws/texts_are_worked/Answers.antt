-- The texts are computed; what spells nothing is refuted by its bits.
use Rattle.std.proofs.Common.{◌≡◌, ℕ, zero, suc, ◌<◌, List, [], ◌∷◌, length, slice_index, codes, lit<, refl, sym, ap, ◌∙◌, arith}
use Rattle.hex.specs.Hex.{IsBytes}
use Rattle.secret_text.specs.Bits.{bits_of}
use Rattle.secret_text.proofs.laws.texts_are_worked.Goals as goal

bytes_then : (byte : ℕ) (bytes : List ℕ) → byte < 256 → IsBytes bytes → IsBytes (byte ∷ bytes)
bytes_then byte bytes first rest zero = first
bytes_then byte bytes first rest (suc i) = rest i

no_bytes : IsBytes []
no_bytes i = lit< tt

pub returns-clause-bits : goal.returns-clause-bits
unfolding bits_of
returns-clause-bits c = refl

pub returns-clause-written : goal.returns-clause-written
unfolding bits_of
returns-clause-written c = refl

pub returns-clause-values : goal.returns-clause-values
returns-clause-values c = refl

pub returns-clause-alphabet : goal.returns-clause-alphabet
returns-clause-alphabet c = refl

pub returns-clause-allowed : goal.returns-clause-allowed
returns-clause-allowed c = refl

pub returns-clause-fronts : goal.returns-clause-fronts
returns-clause-fronts c = refl

pub returns-clause-taken : goal.returns-clause-taken
returns-clause-taken c = refl

pub returns-clause-bad_characters : goal.returns-clause-bad_characters
returns-clause-bad_characters c = refl

pub returns-clause-other_faults : goal.returns-clause-other_faults
returns-clause-other_faults c = refl

pub returns-clause-counts : goal.returns-clause-counts
returns-clause-counts c = refl

pub returns-clause-high_counts : goal.returns-clause-high_counts
returns-clause-high_counts c = refl

pub returns-clause-hex_taken : goal.returns-clause-hex_taken
returns-clause-hex_taken c = refl

pub returns-clause-hex_digits : goal.returns-clause-hex_digits
returns-clause-hex_digits c = refl

pub returns-clause-hex_faults : goal.returns-clause-hex_faults
returns-clause-hex_faults c = refl

pub returns-clause-hex_errors : goal.returns-clause-hex_errors
returns-clause-hex_errors c = refl

f_is_byte : IsBytes (codes "f")
f_is_byte = bytes_then 102 [] (lit< tt) no_bytes

foobar_are_bytes : IsBytes (codes "foobar")
foobar_are_bytes = bytes_then 102 (codes "oobar") (lit< tt) (bytes_then 111 (codes "obar") (lit< tt) (bytes_then 111 (codes "bar") (lit< tt) (bytes_then 98 (codes "ar") (lit< tt) (bytes_then 97 (codes "r") (lit< tt) (bytes_then 114 [] (lit< tt) no_bytes)))))

pub returns-clause-spells : goal.returns-clause-spells
unfolding bits_of
returns-clause-spells c = (
  record { are_bytes = f_is_byte; rest = 0 ∷ 0 ∷ []; short = lit< tt; same_bits = refl },
  record { are_bytes = f_is_byte; rest = 0 ∷ 1 ∷ []; short = lit< tt; same_bits = refl },
  record { are_bytes = foobar_are_bytes; rest = 0 ∷ 0 ∷ []; short = lit< tt; same_bits = refl },
)

-- the number of bits of the rest
rest_len : (rest bits : List ℕ) (len : ℕ) → bits ≡ rest → length bits ≡ len → length rest ≡ len
rest_len rest bits len e of_len = ap length (sym e) ∙ of_len

pub returns-clause-spells_no_other : goal.returns-clause-spells_no_other
unfolding bits_of
returns-clause-spells_no_other c = (
  λ h. let e : 0 ≡ 1 = ap (λ bits. slice_index bits 7) h.same_bits in omega (arith, e),
  λ h. let e = rest_len h.rest _ 10 h.same_bits refl in let short : length h.rest < 5 = h.short in omega (arith, e, short),
  λ h. let e = rest_len h.rest _ 5 h.same_bits refl in let short : length h.rest < 5 = h.short in omega (arith, e, short),
  λ h. let e : 358 < 256 = h.are_bytes 0 in omega (arith, e),
)
