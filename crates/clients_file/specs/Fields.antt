-- The fields of a line after its word, and their values.
use Rattle.std.specs.Prelude.{ℕ, nat_le, ◌&&◌, List, [], ◌∷◌, Option, Some, None, Result, Ok, Err, codes, if◌then◌else◌}
use Rattle.std.specs.Borrow.{Bor}
use Rattle.std.specs.Str.{bytes_eq}
use Rattle.hex.specs.Hex.{decode_of}
use Rattle.hex.specs.declared.error.FromHexError.{FromHexError}
use Rattle.secret_text.specs.declared.fault.SecretFault.{SecretFault}
use Rattle.sealed_wire.specs.Key.{key_refusal_of}
use Rattle.clients_file.specs.declared.fault.LineFault.{LineFault}
use Rattle.clients_file.specs.declared.fault.LineFault.TheVariants.{MissingField, SurplusField, BadNumber, BadKey}
use Rattle.clients_file.specs.declared.word.Word.{Word}
use Rattle.clients_file.specs.declared.word.Word.TheVariants.{Client, Operator, Reader, Plain, Ahead, Failures}

-- the result of the next step, or the first fault
infixl 10 ◌>>=◌
abbrev pub ◌>>=◌ : {A B E : Type 0} → Result A E → (A → Result B E) → Result B E
Ok x >>= next = next x
Err fault >>= next = Err fault

-- the word of a line, by its first field
abbrev pub word_of : List ℕ → Option Word
word_of text =
    if bytes_eq text (codes "client") then Some Client
    else if bytes_eq text (codes "operator") then Some Operator
    else if bytes_eq text (codes "reader") then Some Reader
    else if bytes_eq text (codes "plain") then Some Plain
    else if bytes_eq text (codes "ahead") then Some Ahead
    else if bytes_eq text (codes "failures") then Some Failures
    else None

-- the field of a list of one
abbrev pub one_field : List (List ℕ) → Result (List ℕ) LineFault
one_field [] = Err MissingField
one_field (field ∷ []) = Ok field
one_field (field ∷ other ∷ rest) = Err SurplusField

-- the fields of a list of two
abbrev pub two_fields : List (List ℕ) → Result (List ℕ × List ℕ) LineFault
two_fields [] = Err MissingField
two_fields (first ∷ []) = Err MissingField
two_fields (first ∷ second ∷ []) = Ok (first, second)
two_fields (first ∷ second ∷ other ∷ rest) = Err SurplusField

-- the value of a field or its fault
abbrev pub field_value : Result (Bor (List ℕ)) LineFault → Result (List ℕ) LineFault
field_value (Ok field) = Ok field.now
field_value (Err fault) = Err fault

-- the values of two fields or their fault
abbrev pub fields_value : Result (Bor (List ℕ) × Bor (List ℕ)) LineFault → Result (List ℕ × List ℕ) LineFault
fields_value (Ok fields) = Ok (fields.0.now, fields.1.now)
fields_value (Err fault) = Err fault

-- the number, if it is at least `least` and at most `most`
abbrev pub number_within : ℕ → ℕ → Option ℕ → Result ℕ LineFault
number_within least most None = Err BadNumber
number_within least most (Some number) =
    if nat_le least number && nat_le number most then Ok number else Err BadNumber

-- the key of hexadecimal digits, if they aren't refused
abbrev pub key_unless_refused : Option SecretFault → Result (List ℕ) FromHexError → Result (List ℕ) LineFault
key_unless_refused None (Ok key) = Ok key
key_unless_refused None (Err error) = Err BadKey
key_unless_refused (Some refusal) decoded = Err BadKey

-- the key of 16 to 64 bytes of a text in hexadecimal
abbrev pub key_of : List ℕ → Result (List ℕ) LineFault
key_of text = key_unless_refused (key_refusal_of text) (decode_of text)
