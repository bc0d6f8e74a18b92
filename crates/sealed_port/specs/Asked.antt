-- The opened lines without an answer that a gate remembers.
use Rattle.std.specs.Prelude.{ℕ, ◌==◌, ◌&&◌, not, nat_lt, Bool, if◌then◌else◌, List, [], ◌∷◌, ◌++◌, length, drop, position, Option, Some, None, is_some, slice_get, codes}
use Rattle.std.specs.List.{list_any, remove, slice_split}
use Rattle.std.specs.Str.{bytes_eq}
use Rattle.client_lines.specs.Request.{Request, request_at}

-- a line without an answer: its client, its nonce, the address for its answer, its moment and its tag
pub record AskedRecord : Type 0 where
  pub client : ℕ
  pub nonce : List ℕ
  pub line : List ℕ
  pub address : ℕ
  pub moment : ℕ
  pub tag : List ℕ

-- the nonce of the answer to a line: `-` if the line is not in the grammar
abbrev pub nonce_by : Option Request → List ℕ
nonce_by None = codes "-"
nonce_by (Some request) = request.nonce

abbrev pub nonce_in : List ℕ → List ℕ
nonce_in line = nonce_by (request_at line)

-- the second of the fields between single spaces: the nonce of an answer
abbrev pub second_of : List (List ℕ) → List ℕ
second_of (first ∷ second ∷ rest) = second
second_of _ = []

abbrev pub nonce_of : List ℕ → List ℕ
nonce_of answer = second_of (slice_split (λ byte. byte == 32) answer)

-- whether a line is from the client and has the nonce
abbrev pub is_of : ℕ → List ℕ → AskedRecord → Bool
is_of client nonce asked = (asked.client == client) && bytes_eq asked.nonce nonce

-- whether a line is another line of the client with the nonce
abbrev pub is_another : ℕ → List ℕ → List ℕ → AskedRecord → Bool
is_another client nonce line asked = is_of client nonce asked && not (bytes_eq asked.line line)

-- whether another line of the client with the same nonce waits for its answer
abbrev pub clashes : ℕ → List ℕ → List AskedRecord → Bool
clashes client line asked = list_any (is_another client (nonce_in line) line) asked

-- the lines with one more at the end; it replaces the first line if there are 96
abbrev pub with_one : List AskedRecord → AskedRecord → List AskedRecord
with_one asked one = if nat_lt (length asked) 96 then asked ++ one ∷ [] else drop 1 asked ++ one ∷ []

-- the lines without the line at a place
abbrev pub without : Option ℕ → List AskedRecord → List AskedRecord
without None asked = asked
without (Some place) asked = remove asked place

-- the line at a place
abbrev pub line_at : Option ℕ → List AskedRecord → Option AskedRecord
line_at None asked = None
line_at (Some place) asked = slice_get asked place

-- the place of the oldest line of a client with a nonce, or None
abbrev pub place_of : ℕ → List ℕ → List AskedRecord → Option ℕ
place_of client nonce asked = position (is_of client nonce) asked

-- whether a line of a client with the nonce of a line waits for its answer
abbrev pub waits : ℕ → List ℕ → List AskedRecord → Bool
waits client line asked = is_some (place_of client (nonce_in line) asked)

-- the lines with one more, which replaces a line of its client with its nonce
abbrev pub remembered : List AskedRecord → AskedRecord → List AskedRecord
remembered asked one = with_one (without (place_of one.client one.nonce asked) asked) one
