-- The fields of a line after its word, and their values.
use Rattle.std.specs.Prelude.{ℕ, nat_le, ◌&&◌, Bool, List, length, [], ◌∷◌, Option, Some, None, Result, Ok, Err, codes, if◌then◌else◌}
use Rattle.std.specs.Borrow.{Bor}
use Rattle.std.specs.Str.{bytes_eq}
use Rattle.hex.specs.Hex.{decode_of}
use Rattle.hex.specs.declared.error.FromHexError.{FromHexError}
use Rattle.field_text.specs.Number.{number_of}
use Rattle.secret_text.specs.declared.fault.SecretFault.{SecretFault}
use Rattle.field_text.specs.Word.{is_word}
use Rattle.vote_wire.specs.Key.{key_refusal_of}
use Rattle.cluster_file.specs.declared.fault.LineFault.{LineFault}
use Rattle.cluster_file.specs.declared.fault.LineFault.TheVariants.{MissingField, SurplusField, Twice, BadNumber, BadKey, BadLife, BadNames, BadNewTokens}
use Rattle.cluster_file.specs.declared.word.Word.{Word}
use Rattle.cluster_file.specs.declared.word.Word.TheVariants.{Member, LookAhead, Skew, Range, Drift, KeyFile, Key, Life, Names, NewTokens}

-- the result of the next step, or the first fault
infixl 10 ◌>>=◌
abbrev pub ◌>>=◌ : {A B E : Type 0} → Result A E → (A → Result B E) → Result B E
Ok x >>= next = next x
Err fault >>= next = Err fault

-- the word of a line, by its first field
abbrev pub word_of : List ℕ → Option Word
word_of text =
    if bytes_eq text (codes "member") then Some Member
    else if bytes_eq text (codes "look-ahead") then Some LookAhead
    else if bytes_eq text (codes "skew") then Some Skew
    else if bytes_eq text (codes "range") then Some Range
    else if bytes_eq text (codes "drift") then Some Drift
    else if bytes_eq text (codes "key-file") then Some KeyFile
    else if bytes_eq text (codes "key") then Some Key
    else if bytes_eq text (codes "life") then Some Life
    else if bytes_eq text (codes "names") then Some Names
    else if bytes_eq text (codes "new-tokens") then Some NewTokens
    else None

-- the field of a list of one
abbrev pub one_field : List (List ℕ) → Result (List ℕ) LineFault
one_field [] = Err MissingField
one_field (field ∷ []) = Ok field
one_field (field ∷ other ∷ rest) = Err SurplusField

-- the fields of a list of two
abbrev pub two_fields : List (List ℕ) → Result (List ℕ × List ℕ) LineFault
two_fields [] = Err MissingField
two_fields (first ∷ []) = Err MissingField
two_fields (first ∷ second ∷ []) = Ok (first, second)
two_fields (first ∷ second ∷ other ∷ rest) = Err SurplusField

-- the value of a field or its fault
abbrev pub field_value : Result (Bor (List ℕ)) LineFault → Result (List ℕ) LineFault
field_value (Ok field) = Ok field.now
field_value (Err fault) = Err fault

-- the values of two fields or their fault
abbrev pub fields_value : Result (Bor (List ℕ) × Bor (List ℕ)) LineFault → Result (List ℕ × List ℕ) LineFault
fields_value (Ok fields) = Ok (fields.0.now, fields.1.now)
fields_value (Err fault) = Err fault

-- the value of a line, if no earlier line gave the same one
abbrev pub unless_given : {A B : Type 0} → Option A → Result B LineFault → Result B LineFault
unless_given None said = said
unless_given (Some before) said = Err Twice

-- the number, if it is at most `most`
abbrev pub number_up_to : ℕ → Option ℕ → Result ℕ LineFault
number_up_to most None = Err BadNumber
number_up_to most (Some number) = if nat_le number most then Ok number else Err BadNumber

-- the number of a setting
abbrev pub setting_of : ℕ → Option ℕ → List (List ℕ) → Result ℕ LineFault
setting_of most before fields = do
  text ← one_field fields
  unless_given before (number_up_to most (number_of text))

-- the key of hexadecimal digits, if they aren't refused
abbrev pub key_unless_refused : Option SecretFault → Result (List ℕ) FromHexError → Result (List ℕ) LineFault
key_unless_refused None (Ok key) = Ok key
key_unless_refused None (Err error) = Err BadKey
key_unless_refused (Some refusal) decoded = Err BadKey

-- the key of 16 to 64 bytes of a text in hexadecimal
abbrev pub key_of : List ℕ → Result (List ℕ) LineFault
key_of text = key_unless_refused (key_refusal_of text) (decode_of text)

-- the `life` of the databases: a word of 1 to 64 bytes without a blank
abbrev pub life_of : List ℕ → Result (List ℕ) LineFault
life_of text = if is_word text then Ok text else Err BadLife

-- whether a text is a salt: a word of 12 to 64 bytes
abbrev pub is_salt : List ℕ → Bool
is_salt text = nat_le 12 (length text) && is_word text

-- the salt of the tokens' names
abbrev pub salt_of : List ℕ → Result (List ℕ) LineFault
salt_of text = if is_salt text then Ok text else Err BadNames

-- the one value of `new-tokens`, which is `fresh`
abbrev pub fresh_of : List ℕ → Result Unit LineFault
fresh_of text = if bytes_eq text (codes "fresh") then Ok tt else Err BadNewTokens
