-- A client's line: its fields, divided by single spaces, and its request.
use Rattle.std.specs.Prelude.{◌≡◌, ℕ, ◌-◌, ◌≤◌, ◌==◌, ◌&&◌, nat_le, Bool, IsTrue, if◌then◌else◌, List, [], ◌∷◌, length, take, slice_index, Option, Some, None, codes}
use Rattle.std.specs.Char.{is_ascii_alphanumeric, is_ascii_digit}
use Rattle.std.specs.List.{slice_split, list_all}
use Rattle.std.specs.Str.{bytes_eq}
use Rattle.otp_core.specs.Code.{IsCode}
use Rattle.field_text.specs.Word.{is_word}
use Rattle.otp_core.specs.Submission.{Submission, Check, Resync}
use Rattle.client_lines.specs.Field.{IsNonce}

-- the request of a line: the codes that it submits for a user, and the password or None
pub record Request : Type 0 where
  pub nonce : List ℕ
  pub user : List ℕ
  pub submission : Submission
  pub password : Option (List ℕ)

-- the bytes without one LF at the end
abbrev pub without_lf : List ℕ → List ℕ
without_lf bytes = if slice_index bytes (length bytes - 1) == 10 then take (length bytes - 1) bytes else bytes

-- the fields of a text, divided by single spaces
abbrev pub fields_of : List ℕ → List (List ℕ)
fields_of text = slice_split (λ byte. byte == 32) text

-- the password of a field: None for `-` alone
abbrev pub given_in : List ℕ → Option (List ℕ)
given_in text = if bytes_eq text (codes "-") then None else Some text

-- the request of a CHECK with these fields
pub record IsCheck (word nonce user code password : List ℕ) (request : Request) : Type 0 where
  pub is_check : word ≡ codes "CHECK"
  pub is_nonce : IsNonce nonce
  pub is_user : IsTrue (is_word user)
  pub is_code : IsCode code
  pub is_password : IsTrue (is_word password)
  pub value : request ≡ record {
    nonce = nonce;
    user = user;
    submission = Check code;
    password = given_in password;
  }

-- the request of a RESYNC with these fields
pub record IsResync (word nonce user first second password : List ℕ) (request : Request) : Type 0 where
  pub is_resync : word ≡ codes "RESYNC"
  pub is_nonce : IsNonce nonce
  pub is_user : IsTrue (is_word user)
  pub is_first : IsCode first
  pub is_second : IsCode second
  pub is_password : IsTrue (is_word password)
  pub value : request ≡ record {
    nonce = nonce;
    user = user;
    submission = Resync first second;
    password = given_in password;
  }

-- the request of the five or six fields of a line
abbrev pub IsRequest : List (List ℕ) → Request → Type 0
IsRequest (word ∷ nonce ∷ user ∷ code ∷ password ∷ []) request = IsCheck word nonce user code password request
IsRequest (word ∷ nonce ∷ user ∷ first ∷ second ∷ password ∷ []) request =
    IsResync word nonce user first second password request
IsRequest _ request = ⊥

-- the line grammar: at most 256 bytes with the LF
abbrev pub IsLine : List ℕ → Request → Type 0
IsLine bytes request = (length bytes ≤ 256) × IsRequest (fields_of (without_lf bytes)) request

-- ---- the definitions as functions

-- from `least` to `most` bytes
abbrev pub has_length : ℕ → ℕ → List ℕ → Bool
has_length least most text = nat_le least (length text) && nat_le (length text) most

-- 1 to 20 ASCII letters or digits
abbrev pub is_nonce : List ℕ → Bool
is_nonce text = has_length 1 20 text && list_all is_ascii_alphanumeric text

-- 6 to 8 ASCII digits
abbrev pub is_code : List ℕ → Bool
is_code text = has_length 6 8 text && list_all is_ascii_digit text

-- the common fields of both kinds of lines are in the grammar
abbrev pub are_common : List ℕ → List ℕ → List ℕ → Bool
are_common nonce user password = is_nonce nonce && (is_word user && is_word password)

-- the request of the fields of a line, or None if they are not in the grammar
abbrev pub request_of : List (List ℕ) → Option Request
request_of (word ∷ nonce ∷ user ∷ code ∷ password ∷ []) =
    if bytes_eq word (codes "CHECK") && (are_common nonce user password && is_code code)
    then Some (record { nonce = nonce; user = user; submission = Check code; password = given_in password })
    else None
request_of (word ∷ nonce ∷ user ∷ first ∷ second ∷ password ∷ []) =
    if bytes_eq word (codes "RESYNC") && (are_common nonce user password && (is_code first && is_code second))
    then Some (record { nonce = nonce; user = user; submission = Resync first second; password = given_in password })
    else None
request_of _ = None

-- the request of a line, or None if it is not in the grammar
abbrev pub request_at : List ℕ → Option Request
request_at bytes = if nat_le (length bytes) 256 then request_of (fields_of (without_lf bytes)) else None

-- the result of a reader of fields; private contracts alone cite it
abbrev pub Reads : List (List ℕ) → Option Request → Type 0
Reads fields (Some request) = IsRequest fields request
Reads fields None = (request : Request) → IsRequest fields request → ⊥
