-- Rows of a users file as the program writes them: one TAB between fields, and an LF at the end. Floor: the first free
-- factor of a token.
use Rattle.std.specs.Prelude.{ℕ, List, [], ◌∷◌, ◌++◌, codes, IsTrue}
use Rattle.std.specs.List.{join_with_byte}
use Rattle.std.specs.Fmt.{decimal}
use Rattle.hex.specs.Hex.{IsBytes, encode_lower}
use Rattle.hmac_core.specs.declared.hash.Hash.{Hash}
use Rattle.hmac_core.specs.declared.hash.Hash.TheVariants.{Sha1, Sha256, Sha512}
use Rattle.otp_core.specs.Range.{IsSecret}
use Rattle.otp_core.specs.declared.digits.Digits.{Digits}
use Rattle.otp_core.specs.declared.digits.Digits.TheVariants.{Six, Seven, Eight}
use Rattle.token_file.specs.declared.token.Kind.{Kind}
use Rattle.token_file.specs.declared.token.Kind.TheVariants.{Event, Time30, Time60}
use Rattle.token_file.specs.declared.token.Password.{Password}
use Rattle.token_file.specs.declared.token.Password.TheVariants.{NoneAllowed, NotChecked, Equal}
use Rattle.token_file.specs.Credential.{Credential, is_credential}

-- the word of a kind
abbrev pub kind_word : Kind → List ℕ
kind_word Event = codes "HOTP/E"
kind_word Time30 = codes "HOTP/T30"
kind_word Time60 = codes "HOTP/T60"

-- the part of a type's word for the digits
abbrev pub digits_word : Digits → List ℕ
digits_word Six = codes "/6"
digits_word Seven = codes "/7"
digits_word Eight = codes "/8"

-- the part of a type's word for the hash: SHA-1 isn't named
abbrev pub hash_word : Hash → List ℕ
hash_word Sha1 = []
hash_word Sha256 = codes "/SHA256"
hash_word Sha512 = codes "/SHA512"

-- the word of a type, always with its digits, as `HOTP/E/6`, `HOTP/T30/8` and `HOTP/T60/7/SHA256`
abbrev pub type_word : Kind → Digits → Hash → List ℕ
type_word kind digits hash = kind_word kind ++ digits_word digits ++ hash_word hash

-- the column of the password: `-`, `+` or the password
abbrev pub password_column : Password → List ℕ
password_column NoneAllowed = 45 ∷ []
password_column NotChecked = 43 ∷ []
password_column (Equal password) = password.items

-- the fields after the secret: the floor of an event token, and none of a time token
abbrev pub factor_fields : Kind → ℕ → List (List ℕ)
factor_fields Event next = decimal next ∷ []
factor_fields Time30 next = []
factor_fields Time60 next = []

-- the fields of the row of a token and its floor
abbrev pub written_fields : Credential → ℕ → List (List ℕ)
written_fields credential next =
    type_word credential.kind credential.digits credential.hash
    ∷ credential.name ∷ password_column credential.password ∷ encode_lower credential.secret
    ∷ factor_fields credential.kind next

-- the line of a token and its floor
abbrev pub row_line : Credential → ℕ → List ℕ
row_line credential next = join_with_byte 9 (written_fields credential next)

-- the line with its LF
abbrev pub row_text : Credential → ℕ → List ℕ
row_text credential next = row_line credential next ++ 10 ∷ []

-- the counter in the line of a token: 0 for a time token, which counts no events
abbrev pub written_counter : Kind → ℕ → ℕ
written_counter Event next = next
written_counter Time30 next = 0
written_counter Time60 next = 0

-- the parts of every token fit together, and its secret is 1 to 128 bytes
pub record IsCredential (credential : Credential) : Type 0 where
  pub parts : IsTrue (is_credential credential.name credential.password credential.kind credential.hash)
  pub secret : IsSecret credential.secret
  pub bytes : IsBytes credential.secret
