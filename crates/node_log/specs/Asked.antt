-- The lines without an answer that a log remembers.
use Rattle.std.specs.Prelude.{ℕ, ◌==◌, ◌&&◌, nat_lt, Bool, if◌then◌else◌, List, [], ◌∷◌, ◌++◌, length, drop, position, Option, Some, None, option_map, slice_get}
use Rattle.std.specs.List.{remove, slice_split}
use Rattle.std.specs.Str.{bytes_eq}
use Rattle.client_lines.specs.Request.{Request, request_at}

-- a line without an answer: the client, the nonce and the user, without codes and passwords
pub record AskedLine : Type 0 where
  pub client : ℕ
  pub nonce : List ℕ
  pub user : List ℕ

-- the remembered values of a request
abbrev pub asked_by : ℕ → Request → AskedLine
asked_by client request = record { client = client; nonce = request.nonce; user = request.user }

-- the lines with one more at the end; it replaces the first line if there are 96
abbrev pub with_one : List AskedLine → AskedLine → List AskedLine
with_one asked one = if nat_lt (length asked) 96 then asked ++ one ∷ [] else drop 1 asked ++ one ∷ []

-- the lines with a request at the end, if the line was in the grammar
abbrev pub with_request : ℕ → Option Request → List AskedLine → List AskedLine
with_request client None asked = asked
with_request client (Some request) asked = with_one asked (asked_by client request)

-- the lines with a client's line at the end, if it is in the grammar
abbrev pub with_line : ℕ → List ℕ → List AskedLine → List AskedLine
with_line client bytes asked = with_request client (request_at bytes) asked

-- the second of the fields between single spaces: the nonce of an answer
abbrev pub second_of : List (List ℕ) → List ℕ
second_of (first ∷ second ∷ rest) = second
second_of _ = []

abbrev pub nonce_of : List ℕ → List ℕ
nonce_of answer = second_of (slice_split (λ byte. byte == 32) answer)

-- whether a line is from the client and has the nonce
abbrev pub is_of : ℕ → List ℕ → AskedLine → Bool
is_of client nonce asked = asked.client == client && bytes_eq asked.nonce nonce

-- the place of the oldest line that an answer to a client answers, or None
abbrev pub place_of : ℕ → List ℕ → List AskedLine → Option ℕ
place_of client answer asked = position (is_of client (nonce_of answer)) asked

-- the user of the line at a place
abbrev pub user_at : Option ℕ → List AskedLine → Option (List ℕ)
user_at None asked = None
user_at (Some place) asked = option_map (λ line. line.user) (slice_get asked place)

-- the lines without the line at a place
abbrev pub without : Option ℕ → List AskedLine → List AskedLine
without None asked = asked
without (Some place) asked = remove asked place
