-- Worked cases: lines of a users file, and their tokens.
use Rattle.std.specs.Prelude.{ℕ, List, [], ◌∷◌, ◌++◌, replicate, codes, Option, Some}
use Rattle.hmac_core.specs.declared.hash.Hash.{Hash}
use Rattle.hmac_core.specs.declared.hash.Hash.TheVariants.{Sha1}
use Rattle.otp_core.specs.Examples.{secret_of_20}
use Rattle.otp_core.specs.declared.digits.Digits.{Digits}
use Rattle.otp_core.specs.declared.digits.Digits.TheVariants.{Six}
use Rattle.token_file.specs.declared.token.Kind.{Kind}
use Rattle.token_file.specs.declared.token.Kind.TheVariants.{Event, Time60}
use Rattle.token_file.specs.declared.token.Password.{Password}
use Rattle.token_file.specs.declared.token.Password.TheVariants.{NoneAllowed, Equal}
use Rattle.token_file.specs.declared.type_word.TokenType.{TokenType}
use Rattle.token_file.specs.declared.fault.LineFault.{LineFault}
use Rattle.token_file.specs.declared.fault.LineFault.TheVariants.{MissingField, BadSecret, BadCounter, DuplicateUser, NameTooLong, TooMany, LineTooLong, Read, Memory, FileTooLong}
use Rattle.token_file.specs.Credential.{Credential}
use Rattle.token_file.specs.Fields.{fields_of}
use Rattle.token_file.specs.Row.{Row, row_of}
use Rattle.token_file.specs.UsersFile.{Import, Instant}
use Rattle.token_file.specs.WrittenFile.{WrittenRow}

-- the type that a word names, by its parts
abbrev pub named : Kind → Digits → Hash → Option TokenType
named kind digits hash = Some (record { kind = kind; digits = digits; hash = hash })

-- the row of a line
abbrev pub row_of_line : List ℕ → Row
row_of_line line = row_of (fields_of line)

-- a password that is checked
abbrev pub password : List ℕ → Password
password bytes = Equal (record { items = bytes })

-- a token of a user, with the secret 0x31
abbrev pub token_of : List ℕ → Password → Kind → Digits → Hash → Credential
token_of name password kind digits hash =
    record { name = name; password = password; secret = 0x31 ∷ []; kind = kind; digits = digits; hash = hash }

-- an event token of a user, of six digits, without a password
abbrev pub event_token : List ℕ → Credential
event_token name = token_of name NoneAllowed Event Six Sha1

-- a time token of a user, of six digits, without a password
abbrev pub time_token : Kind → Credential
time_token kind = token_of (codes "u") NoneAllowed kind Six Sha1

-- an event token with the secret of RFC 4226, appendix D
abbrev pub appendix_token : Digits → Credential
appendix_token digits =
    record {
      name = codes "u";
      password = NoneAllowed;
      secret = secret_of_20;
      kind = Event;
      digits = digits;
      hash = Sha1;
    }

-- the columns of an event token with a name, a column of the password and a secret
abbrev pub columns : List ℕ → List ℕ → List ℕ → List (List ℕ)
columns name password secret = codes "HOTP" ∷ name ∷ password ∷ secret ∷ []

-- `len` bytes `u`
abbrev pub word_of : ℕ → List ℕ
word_of len = replicate len 117

-- `len` bytes of a comment
abbrev pub comment_of : ℕ → List ℕ
comment_of len = replicate len 35

-- an import at moment 59, with a skew of 1
abbrev pub at_59 : Instant
at_59 = record { skew = 1; moment = 59 }

-- `count` tokens of the same name
abbrev pub many_tokens : ℕ → Import
many_tokens count = record { book = replicate count (event_token (codes "u")); floors = replicate count 0 }

-- a row for each of two users, with an LF after the first alone: 24 bytes with the second's
abbrev pub two_rows : List ℕ
two_rows = codes "HOTP a - 31" ++ 10 ∷ codes "HOTP b - 31" ++ 10 ∷ []

-- each fault
abbrev pub faults : List LineFault
faults =
    MissingField ∷ BadSecret ∷ BadCounter ∷ DuplicateUser ∷ NameTooLong ∷ TooMany ∷ LineTooLong ∷ FileTooLong ∷ Read
    ∷ Memory ∷ []

-- a token and its floor
abbrev pub row : Credential → ℕ → WrittenRow
row credential next = record { credential = credential; next = next }

-- an event token without a free factor, and a time token
abbrev pub written_rows : List WrittenRow
written_rows = row (event_token (codes "a")) 4611686018427387904 ∷ row (time_token Time60) 7 ∷ []
