-- The values that the lines of a cluster file give.
use Rattle.std.specs.Prelude.{ℕ, ◌+◌, ◌==◌, nat_le, Bool, true, false, not, List, [], ◌∷◌, ◌++◌, length, Option, Some, None, Result, Ok, Err, if◌then◌else◌}
use Rattle.field_text.specs.Number.{number_of}
use Rattle.cluster_file.specs.declared.fault.LineFault.{LineFault}
use Rattle.cluster_file.specs.declared.fault.LineFault.TheVariants.{UnknownWord, TooManyMembers, MemberNumber, BadAddress, TwiceAddress, Twice}
use Rattle.cluster_file.specs.declared.cluster.KeySource.{KeySource}
use Rattle.cluster_file.specs.declared.cluster.KeySource.TheVariants as source
use Rattle.cluster_file.specs.declared.word.Word.{Word}
use Rattle.cluster_file.specs.declared.word.Word.TheVariants.{Member, LookAhead, Skew, Range, Drift, KeyFile, Key, Life, Names, NewTokens}
use Rattle.cluster_file.specs.Address.{Address, address_of, is_among}
use Rattle.cluster_file.specs.Fields.{◌>>=◌, fresh_of, key_of, life_of, one_field, salt_of, setting_of, two_fields, unless_given, word_of}

-- the place of the key: the file at a path, or the cluster file itself
pub data KeyPlace : Type 0 where
  InFile : (path : List ℕ) → KeyPlace
  Given : (key : List ℕ) → KeyPlace

-- the place of a key source
abbrev pub key_place : KeySource → KeyPlace
key_place (source.File path) = InFile path.now
key_place (source.Given key) = Given key

-- the values of some lines: the members in order, the given settings, key, life and salt, and whether a line gives
-- `new-tokens`
pub record Said : Type 0 where
  pub members : List Address
  pub look_ahead : Option ℕ
  pub skew : Option ℕ
  pub range : Option ℕ
  pub drift : Option ℕ
  pub key : Option KeyPlace
  pub life : Option (List ℕ)
  pub names : Option (List ℕ)
  pub fresh : Bool

-- the values of no line
abbrev pub nothing_said : Said
nothing_said =
    record {
      members = [];
      look_ahead = None;
      skew = None;
      range = None;
      drift = None;
      key = None;
      life = None;
      names = None;
      fresh = false;
    }

-- whether a number that was read, or None, is the given one
abbrev pub is_number : Option ℕ → ℕ → Bool
is_number None number = false
is_number (Some read) number = read == number

-- the member of an address, if no other member has the address
abbrev pub new_member : List Address → Option Address → Result Address LineFault
new_member members None = Err BadAddress
new_member members (Some address) = if is_among address members then Err TwiceAddress else Ok address

-- the member with the next number, by the texts of its number and its address
abbrev pub next_member : List Address → List ℕ → List ℕ → Result Address LineFault
next_member members number address =
    if nat_le 9 (length members) then Err TooManyMembers
    else if not (is_number (number_of number) (length members + 1)) then Err MemberNumber
    else new_member members (address_of address)

-- the member of a line
abbrev pub member_of : List Address → List (List ℕ) → Result Address LineFault
member_of members fields = do
  texts ← two_fields fields
  next_member members texts.0 texts.1

-- the path of a key
abbrev pub path_of : Option KeyPlace → List (List ℕ) → Result (List ℕ) LineFault
path_of before fields = do
  path ← one_field fields
  unless_given before (Ok path)

-- the bytes of a key
abbrev pub bytes_of : Option KeyPlace → List (List ℕ) → Result (List ℕ) LineFault
bytes_of before fields = do
  text ← one_field fields
  unless_given before (key_of text)

-- the life of a line
abbrev pub life_in : Option (List ℕ) → List (List ℕ) → Result (List ℕ) LineFault
life_in before fields = do
  text ← one_field fields
  unless_given before (life_of text)

-- the salt of a line
abbrev pub names_in : Option (List ℕ) → List (List ℕ) → Result (List ℕ) LineFault
names_in before fields = do
  text ← one_field fields
  unless_given before (salt_of text)

-- the value of `new-tokens` in a line, if no earlier line gave it
abbrev pub fresh_in : Bool → List (List ℕ) → Result Unit LineFault
fresh_in before fields = do
  text ← one_field fields
  if before then Err Twice else fresh_of text

-- the values after a line of a word
abbrev pub after_word : Said → Word → List (List ℕ) → Result Said LineFault
after_word said Member fields = do
  member ← member_of said.members fields
  Ok (record said { members = said.members ++ member ∷ [] })
after_word said LookAhead fields = do
  number ← setting_of 100 said.look_ahead fields
  Ok (record said { look_ahead = Some number })
after_word said Skew fields = do
  number ← setting_of 10 said.skew fields
  Ok (record said { skew = Some number })
after_word said Range fields = do
  number ← setting_of 1000 said.range fields
  Ok (record said { range = Some number })
after_word said Drift fields = do
  number ← setting_of 10 said.drift fields
  Ok (record said { drift = Some number })
after_word said KeyFile fields = do
  path ← path_of said.key fields
  Ok (record said { key = Some (InFile path) })
after_word said Key fields = do
  key ← bytes_of said.key fields
  Ok (record said { key = Some (Given key) })
after_word said Life fields = do
  life ← life_in said.life fields
  Ok (record said { life = Some life })
after_word said Names fields = do
  salt ← names_in said.names fields
  Ok (record said { names = Some salt })
after_word said NewTokens fields = do
  given ← fresh_in said.fresh fields
  Ok (record said { fresh = true })

-- the values after a line of a word, or a fault if its first field is not one
abbrev pub after_named : Said → Option Word → List (List ℕ) → Result Said LineFault
after_named said None fields = Err UnknownWord
after_named said (Some word) fields = after_word said word fields

-- whether a word begins a remark
abbrev pub is_remark : List ℕ → Bool
is_remark [] = false
is_remark (byte ∷ bytes) = byte == 35

-- the values after a line of the given fields
abbrev pub after_fields : Said → List (List ℕ) → Result Said LineFault
after_fields said [] = Ok said
after_fields said (word ∷ fields) = if is_remark word then Ok said else after_named said (word_of word) fields
