-- What the command `check` notes of files that it takes.
use Rattle.std.specs.Prelude.{ℕ, ◌-◌, ◌/◌, ◌%◌, ◌==◌, ◌&&◌, nat_le, List, [], ◌++◌, map, take, Option, Some, None, codes, if◌then◌else◌}
use Rattle.std.specs.Fmt.{decimal}
use Rattle.std.specs.Io.KnownBytes.{Appends}
use Rattle.otp_core.specs.Limits.{Limits}
use Rattle.token_file.specs.Credential.{Credential}
use Rattle.shared_secrets.specs.Repeat.{IsSharedIn}
use Rattle.shared_secrets.specs.Seed.{seeds_of}
use Rattle.shared_secrets.specs.declared.shared.SharedSecret.{SharedSecret}
use Rattle.oathd_tasks.specs.Check.{HasTokens}
use Rattle.oathd_tasks.specs.Tally.{Found, Tally, tally_of}

-- a byte of a word as it is printed: a graphic byte of ASCII, or `?`
abbrev pub printed : ℕ → ℕ
printed byte = if nat_le 33 byte && nat_le byte 126 then byte else 63

-- a word of a file as it is printed: its first 64 bytes
abbrev pub shown : List ℕ → List ℕ
shown word = map printed (take 64 word)

-- the beginning of a note on a file
unfoldable pub head : List ℕ → List ℕ
head path = codes "oathd: note: " ++ path ++ codes ": "

-- a row that was found: its line and its first field
unfoldable pub row_text : Found → List ℕ
row_text found = codes "line " ++ decimal found.line ++ codes ": " ++ shown found.word

-- the note on ignored rows, with the number and the first field of the first one
unfoldable pub found_text : List ℕ → ℕ → Found → List ℕ
found_text path count found =
    head path ++ codes "ignored " ++ decimal count ++ codes ", first " ++ row_text found
    ++ codes "\n  a row begins with a type, as HOTP or HOTP/T30, and a comment with #\n"

-- the note on a type in another case
unfoldable pub case_text : List ℕ → Found → List ℕ
case_text path found =
    head path ++ row_text found ++ codes " is ignored: a type is in upper case\n"

-- the note on a book without tokens
unfoldable pub empty_text : List ℕ → List ℕ
empty_text path = head path ++ codes "no row has a token: each login is refused as UNKNOWN\n"

-- a text for what was found, if anything was
abbrev pub if_found : (Found → List ℕ) → Option Found → List ℕ
if_found text None = []
if_found text (Some found) = text found

-- the notes on the rows of a users file
abbrev pub rows_text : List ℕ → Tally → List ℕ
rows_text path tally =
    if_found (found_text path tally.ignored) tally.first
    ++ if_found (case_text path) tally.in_another_case
    ++ (if tally.has_token then [] else empty_text path)

-- the note on an even number of members
unfoldable pub members_text : List ℕ → ℕ → List ℕ
members_text path members =
    head path ++ decimal members ++ codes " members bear the loss of " ++ decimal ((members - 1) / 2) ++ codes ", as "
    ++ decimal (members - 1) ++ codes " would: take an odd number\n"

-- the note on the number of members: an even number bears no more losses than one member less
abbrev pub count_text : List ℕ → ℕ → List ℕ
count_text path members = if members % 2 == 0 then members_text path members else []

-- the note on two rows with one secret
unfoldable pub shared_text : List ℕ → SharedSecret → List ℕ
shared_text path rows =
    head path ++ codes "rows " ++ decimal rows.first ++ codes " and " ++ decimal rows.second
    ++ codes " have one secret: each accepts its codes\n"

-- the note on two rows with one secret, if there are any
abbrev pub if_shared : List ℕ → Option SharedSecret → List ℕ
if_shared path None = []
if_shared path (Some rows) = shared_text path rows

-- the notes on a users file with these rows of one secret, and on a cluster file, each with its path
abbrev pub notes_text : List ℕ → List ℕ → Option SharedSecret → List ℕ → ℕ → List ℕ
notes_text users rows shared cluster members =
    rows_text users (tally_of rows) ++ if_shared users shared ++ count_text cluster members

-- The rows of a users file that have one secret, as a node with these limits reads it: the same kind and secret.
pub record IsSharedOf (limits : Limits) (rows : List ℕ) (shared : Option SharedSecret) : Type 0 where
  pub book : List Credential
  pub has_tokens : HasTokens limits book rows
  pub is : IsSharedIn (seeds_of book) shared

-- The notes on a users file and a cluster file are written, with the rows that have one secret.
pub record AreNoted (limits : Limits) (users rows cluster : List ℕ) (members : ℕ) (old new : Option (List ℕ)) : Type 0 where
  pub shared : Option SharedSecret
  pub is : IsSharedOf limits rows shared
  pub written : Appends old new (notes_text users rows shared cluster members)
