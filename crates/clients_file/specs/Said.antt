-- The values that the lines of a clients file give.
use Rattle.std.specs.Prelude.{ℕ, ◌+◌, ◌==◌, nat_le, Bool, false, List, [], ◌∷◌, ◌++◌, length, Option, Some, None, Result, Ok, Err, if◌then◌else◌}
use Rattle.std.specs.List.{list_any}
use Rattle.std.specs.Str.{bytes_eq}
use Rattle.field_text.specs.Number.{number_of}
use Rattle.hmac_core.specs.Hmac.{with_zeros}
use Rattle.sealed_wire.specs.declared.right.Right.{Right}
use Rattle.sealed_wire.specs.declared.right.Right.TheVariants as right
use Rattle.clients_file.specs.declared.clients.ClientEntry.{ClientEntry}
use Rattle.clients_file.specs.declared.clients.OperatorEntry.{OperatorEntry}
use Rattle.clients_file.specs.declared.fault.LineFault.{LineFault}
use Rattle.clients_file.specs.declared.fault.LineFault.TheVariants.{UnknownWord, Twice, SameKey, TooMany}
use Rattle.clients_file.specs.declared.word.Word.{Word}
use Rattle.clients_file.specs.declared.word.Word.TheVariants.{Client, Operator, Reader, Plain, Ahead, Failures}
use Rattle.clients_file.specs.Address.{loopback_of, octets_of}
use Rattle.clients_file.specs.Fields.{◌>>=◌, key_of, number_within, one_field, two_fields, word_of}

-- the values of some lines: the clients, the operators and the plain addresses in order, the given seconds ahead, and
-- the given limit of failures
pub record Said : Type 0 where
  pub clients : List ClientEntry
  pub operators : List OperatorEntry
  pub plain : List ℕ
  pub ahead : Option ℕ
  pub failures : Option ℕ

-- the values of no line
abbrev pub nothing_said : Said
nothing_said = record { clients = []; operators = []; plain = []; ahead = None; failures = None }

-- whether one of the clients has a number
abbrev pub has_number : ℕ → List ClientEntry → Bool
has_number number clients = list_any (λ client. client.number == number) clients

-- The key of HMAC-SHA-256: a key of at most 64 bytes, padded with zeros to a block (RFC 2104, section 2). Two keys with
-- the same block have the same tags.
abbrev pub block_of : List ℕ → List ℕ
block_of key = with_zeros 64 key

-- whether one of the clients has a key with the block
abbrev pub has_block : List ℕ → List ClientEntry → Bool
has_block block clients = list_any (λ client. bytes_eq (block_of client.key) block) clients

-- whether one of the operators has a number
abbrev pub has_operator : ℕ → List OperatorEntry → Bool
has_operator number operators = list_any (λ operator. operator.number == number) operators

-- whether one of the operators has a key with the block
abbrev pub operators_have : List ℕ → List OperatorEntry → Bool
operators_have block operators = list_any (λ operator. bytes_eq (block_of operator.key) block) operators

-- the number of a text, 0 to 65535, which no client and no operator has
abbrev pub new_number : List ClientEntry → List OperatorEntry → List ℕ → Result ℕ LineFault
new_number clients operators text = do
  number ← number_within 0 65535 (number_of text)
  if has_number number clients then Err Twice
      else if has_operator number operators then Err Twice
      else Ok number

-- the key of a text, which no client and no operator has
abbrev pub new_key : List ClientEntry → List OperatorEntry → List ℕ → Result (List ℕ) LineFault
new_key clients operators text = do
  key ← key_of text
  if has_block (block_of key) clients then Err SameKey
      else if operators_have (block_of key) operators then Err SameKey
      else Ok key

-- the value, if there are fewer than `most` earlier ones
abbrev pub if_room : {A : Type 0} → ℕ → ℕ → A → Result A LineFault
if_room most len value = if nat_le most len then Err TooMany else Ok value

-- the number and the key of a line: at most 64 of clients and operators
abbrev pub client_of : List ClientEntry → List OperatorEntry → List (List ℕ) → Result ClientEntry LineFault
client_of clients operators fields = do
  texts ← two_fields fields
  number ← new_number clients operators texts.0
  key ← new_key clients operators texts.1
  if_room 64 (length clients + length operators) (record { number = number; key = key })

-- an operator with a right, and with the number and the key of a line
abbrev pub operator_with : Right → ClientEntry → OperatorEntry
operator_with right entry = record { number = entry.number; key = entry.key; right = right }

-- the plain address of a line: at most 16
abbrev pub plain_of : List ℕ → List (List ℕ) → Result ℕ LineFault
plain_of plain fields = do
  text ← one_field fields
  address ← loopback_of (octets_of text)
  if_room 16 (length plain) address

-- the value, if no earlier line gave one
abbrev pub unless_given : {A : Type 0} → Option A → A → Result A LineFault
unless_given None value = Ok value
unless_given (Some before) value = Err Twice

-- the seconds ahead of a line: 1 to 60
abbrev pub ahead_of : Option ℕ → List (List ℕ) → Result ℕ LineFault
ahead_of before fields = do
  text ← one_field fields
  seconds ← number_within 1 60 (number_of text)
  unless_given before seconds

-- the limit of failures of a line: 1 to 65535
abbrev pub failures_of : Option ℕ → List (List ℕ) → Result ℕ LineFault
failures_of before fields = do
  text ← one_field fields
  failures ← number_within 1 65535 (number_of text)
  unless_given before failures

-- the values after a line of an operator with a right
abbrev pub after_operator : Said → Right → List (List ℕ) → Result Said LineFault
after_operator said right fields = do
  entry ← client_of said.clients said.operators fields
  Ok (record said { operators = said.operators ++ operator_with right entry ∷ [] })

-- the values after a line of a word
abbrev pub after_word : Said → Word → List (List ℕ) → Result Said LineFault
after_word said Client fields = do
  client ← client_of said.clients said.operators fields
  Ok (record said { clients = said.clients ++ client ∷ [] })
after_word said Operator fields = after_operator said right.Operator fields
after_word said Reader fields = after_operator said right.Reader fields
after_word said Plain fields = do
  address ← plain_of said.plain fields
  Ok (record said { plain = said.plain ++ address ∷ [] })
after_word said Ahead fields = do
  seconds ← ahead_of said.ahead fields
  Ok (record said { ahead = Some seconds })
after_word said Failures fields = do
  failures ← failures_of said.failures fields
  Ok (record said { failures = Some failures })

-- the values after a line of a word, or a fault if its first field is not one
abbrev pub after_named : Said → Option Word → List (List ℕ) → Result Said LineFault
after_named said None fields = Err UnknownWord
after_named said (Some word) fields = after_word said word fields

-- whether a word begins a remark
abbrev pub is_remark : List ℕ → Bool
is_remark [] = false
is_remark (byte ∷ bytes) = byte == 35

-- the values after a line of the given fields
abbrev pub after_fields : Said → List (List ℕ) → Result Said LineFault
after_fields said [] = Ok said
after_fields said (word ∷ fields) = if is_remark word then Ok said else after_named said (word_of word) fields
