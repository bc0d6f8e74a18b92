-- Base32 (RFC 4648, section 6): lenient reading, canonical writing. 32 is the space, 61 is `=`.
use Rattle.std.specs.Prelude.{◌≡◌, ℕ, ◌+◌, ◌-◌, ◌*◌, ◌%◌, ◌<◌, ◌==◌, ◌&&◌, ◌||◌, not, nat_lt, nat_le, Bool, if◌then◌else◌, List, [], ◌∷◌, ◌++◌, length, map, replicate, count_by, Option, Some, None, is_some}
use Rattle.std.specs.List.{AllByRecursion, filter_map, list_all, position_from}
use Rattle.std.specs.Int.{is_in_range}
use Rattle.hex.specs.Hex.{IsBytes}
use Rattle.secret_text.specs.Bits.{bits_of_each}
use Rattle.secret_text.specs.declared.fault.SecretFault.{SecretFault}
use Rattle.secret_text.specs.declared.fault.SecretFault.TheVariants.{BadCharacter, BadLength, TooLong, Empty}

-- the value of a character, in either case: `A` to `Z` are 0 to 25, `2` to `7` are 26 to 31 (table 3)
abbrev pub symbol_value : ℕ → Option ℕ
symbol_value c =
    if is_in_range 65 90 c then Some (c - 65)
    else if is_in_range 97 122 c then Some (c - 97)
    else if is_in_range 50 55 c then Some (c - 24)
    else None

-- the character of a value
abbrev pub symbol_of : ℕ → ℕ
symbol_of value = if nat_lt value 26 then value + 65 else value + 24

-- ---- reading

-- whether a text is padding, as the end of a text may be: spaces, and at most six `=`
abbrev pub is_padding : List ℕ → Bool
is_padding text =
    list_all (λ c. c == 32 || c == 61) text && nat_le (count_by (λ c. c == 61) text) 6

-- the text before its padding
abbrev pub text_before_padding : List ℕ → List ℕ
text_before_padding [] = []
text_before_padding (c ∷ rest) = if is_padding (c ∷ rest) then [] else c ∷ text_before_padding rest

-- whether a byte before the padding is neither a space nor a character of the alphabet
abbrev pub is_bad : ℕ → Bool
is_bad c = not (c == 32) && not (is_some (symbol_value c))

-- the values of the characters of a text
abbrev pub values_of : List ℕ → List ℕ
values_of text = filter_map symbol_value (text_before_padding text)

-- whether the last of `count` characters end within a byte
abbrev pub is_cut : ℕ → Bool
is_cut count = count % 8 == 1 || count % 8 == 3 || count % 8 == 6

-- the reason why `count` characters are not a secret, or None
abbrev pub count_refusal : ℕ → Option SecretFault
count_refusal count =
    if count == 0 then Some Empty
    else if is_cut count then Some BadLength
    else if nat_lt 205 count then Some TooLong
    else None

-- the reason why a text is refused, by the place of its first bad character and its number of characters
abbrev pub refusal_at : Option ℕ → ℕ → Option SecretFault
refusal_at (Some place) count = Some (BadCharacter place)
refusal_at None count = count_refusal count

-- the reason why a text is refused, or None
abbrev pub refusal_of : List ℕ → Option SecretFault
refusal_of text = refusal_at (position_from is_bad 0 (text_before_padding text)) (length (values_of text))

-- The text spells the secret. The bits of its characters, five each, are the bits of the secret's bytes, eight each,
-- and fewer than five more.
pub record Spells (text secret : List ℕ) : Type 0 where
  pub are_bytes : IsBytes secret
  pub rest : List ℕ
  pub short : length rest < 5
  pub same_bits : bits_of_each 5 (values_of text) ≡ bits_of_each 8 secret ++ rest

-- ---- writing

-- the number of `=` after the characters of `count` bytes (the cases of the last group)
abbrev pub padding_len : ℕ → ℕ
padding_len count =
    if count % 5 == 1 then 6
    else if count % 5 == 2 then 4
    else if count % 5 == 3 then 3
    else if count % 5 == 4 then 1
    else 0

-- the bits, followed by the zeros that fill their last group of five
abbrev pub filled_bits : List ℕ → List ℕ
filled_bits bits = bits ++ replicate ((5 - length bits % 5) % 5) 0

-- each group of five bits as a number, the high bit first
abbrev pub fives_of : List ℕ → List ℕ
fives_of (a ∷ b ∷ c ∷ d ∷ e ∷ rest) = (16 * a + 8 * b + 4 * c + 2 * d + e) ∷ fives_of rest
fives_of _ = []

-- the canonical text of a secret: upper case characters and the padding
abbrev pub base32_text : List ℕ → List ℕ
base32_text secret =
    map symbol_of (fives_of (filled_bits (bits_of_each 8 secret))) ++ replicate (padding_len (length secret)) 61

-- A step of writing: the characters of the text and then the waiting bits are the bits.
pub record IsWritten (text waiting bits : List ℕ) : Type 0 where
  pub values : List ℕ
  pub below_32 : AllByRecursion (λ value. value < 32) values
  pub spelled : text ≡ map symbol_of values
  pub same_bits : bits_of_each 5 values ++ waiting ≡ bits
