-- Where the fault of a check is, and what to do about it and about a clients file.
use Rattle.std.specs.Prelude.{ℕ, ◌-◌, Bool, true, false, List, [], ◌∷◌, ◌++◌, Option, Some, None, is_none, slice_get, unwrap_or, codes}
use Rattle.std.specs.Fmt.{decimal}
use Rattle.secret_text.specs.Base32.{refusal_of}
use Rattle.token_file.specs.Fields.{fields_of, lines_of}
use Rattle.token_file.specs.declared.fault.FileFault.{FileFault}
use Rattle.token_file.specs.declared.fault.LineFault as users_line
use Rattle.token_file.specs.declared.fault.LineFault.TheVariants as users
use Rattle.clients_file.specs.declared.fault.LineFault as clients_line
use Rattle.clients_file.specs.declared.fault.LineFault.TheVariants as clients
use Rattle.cluster_file.specs.declared.fault.LineFault.{LineFault}
use Rattle.cluster_file.specs.declared.fault.LineFault.TheVariants.{UnknownWord, MissingField, SurplusField, TooManyMembers, MemberNumber, BadAddress, TwiceAddress, Twice, BadNumber, BadKey, BadLife, NoMember, NoKey, NoLife, TooLong, Memory, BadNames, BadNewTokens, NoNames}
use Rattle.oathd_lines.specs.declared.fault.Fault.TheVariants as lines
use Rattle.oathd_tasks.specs.declared.fault.Fault.{Fault}
use Rattle.oathd_tasks.specs.declared.fault.Fault.TheVariants.{Run, CannotReadFile, ClusterFile, KeyPath, ByteOrderMark}
use Rattle.oathd_tasks.specs.declared.advice.Sources as code
use Rattle.oathd_tasks.specs.Notes.{shown}

-- ---- What to do

-- the advice for a fault of a users file, by whether the secret is base32
abbrev pub users_advice : users_line.LineFault → Bool → List ℕ
users_advice users.BadSecret true =
    codes "the secret is base32, and oathd reads hexadecimal: oathtool -v -b SECRET of OATH Toolkit prints it so"
users_advice users.BadSecret false = codes "a secret has 2 to 256 hexadecimal digits, two for each byte"
users_advice users.MissingField is_base32 =
    codes "a row has a type, a user, a password column (- for none) and a secret"
users_advice users.BadCounter is_base32 =
    codes "the counter of an event token has 1 to 19 decimal digits, and is at most 4611686018427387904"
users_advice users.DuplicateUser is_base32 = codes "one token for each user, and an earlier row has this one"
users_advice users.NameTooLong is_base32 = codes "a user and a password column have 1 to 64 bytes"
users_advice users.TooMany is_base32 = codes "a users file has at most 10000 tokens"
users_advice users.LineTooLong is_base32 = codes "a line has at most 4096 bytes"
users_advice users.Read is_base32 = codes "the file could not be read to its end"
users_advice users.Memory is_base32 = codes "the allocator refused memory"
users_advice users.FileTooLong is_base32 = codes "a users file has at most 16777216 bytes"

-- the advice for a fault of a cluster file
abbrev pub cluster_advice : LineFault → List ℕ
cluster_advice UnknownWord =
    codes "a line begins with member, look-ahead, skew, range, drift, key, key-file, life, names or new-tokens, and a space"
cluster_advice MissingField = codes "a line has a word and its value, and that of a member a number and an address"
cluster_advice SurplusField = codes "a line has a word and its value, and that of a member a number and an address"
cluster_advice TooManyMembers = codes "a cluster has at most 9 members"
cluster_advice MemberNumber = codes "members are numbered in order, from 1 on"
cluster_advice BadAddress = codes "an address is an IPv4 address with a port, as 192.0.2.1:7101"
cluster_advice TwiceAddress = codes "each member has its own address"
cluster_advice Twice = codes "a value is given once"
cluster_advice BadNumber = codes "look-ahead is 0 to 100, skew 0 to 10, range 0 to 1000, drift 0 to 10"
cluster_advice BadKey = codes "a key has 32 to 128 hexadecimal digits, two for each byte: oathd new-key prints one"
cluster_advice BadLife = codes "a life has 1 to 64 bytes"
cluster_advice NoMember = codes "add a line for each member, as member 1 ADDRESS:PORT"
cluster_advice NoKey = codes "add a line key-file PATH"
cluster_advice NoLife = codes "add a line life NAME, with a new name for each new set of databases"
cluster_advice TooLong = codes "a cluster file has at most 65536 bytes"
cluster_advice Memory = codes "the allocator refused memory"
cluster_advice BadNames = codes "names has 12 to 64 bytes, and is the same word at all members for good"
cluster_advice BadNewTokens = codes "new-tokens is fresh, or the line is left out"
cluster_advice NoNames = codes "new-tokens stands beside a line names WORD"

-- the advice for a fault of a clients file
abbrev pub clients_advice : clients_line.LineFault → List ℕ
clients_advice clients.UnknownWord = codes "a line begins with client, plain, ahead or failures, and a space"
clients_advice clients.MissingField =
    codes "a line has a word and its value, and that of a client a number and a key"
clients_advice clients.SurplusField =
    codes "a line has a word and its value, and that of a client a number and a key"
clients_advice clients.BadNumber = codes "client is 0 to 65535, ahead 1 to 60, failures 1 to 65535"
clients_advice clients.Twice = codes "each client has its own number, and ahead and failures are given once"
clients_advice clients.BadKey =
    codes "a key has 32 to 128 hexadecimal digits, two for each byte: oathd new-key prints one"
clients_advice clients.SameKey = codes "each client has its own key: oathd new-key prints one"
clients_advice clients.BadAddress = codes "an address is an IPv4 address without a port, as 127.0.0.1"
clients_advice clients.NotLoopback =
    codes "plain takes addresses of 127.0.0.0/8 alone: give others a line client NUMBER KEY"
clients_advice clients.TooMany = codes "a clients file has at most 64 clients and 16 plain addresses"
clients_advice clients.NoClient =
    codes "add a line client NUMBER KEY, with a key of oathd new-key, or a line plain 127.0.0.1"
clients_advice clients.TooLong = codes "a clients file has at most 65536 bytes"
clients_advice clients.Memory = codes "the allocator refused memory"

-- the advice for a key
abbrev pub key_advice : List ℕ
key_advice = codes "a key has 32 to 128 hexadecimal digits, two for each byte: oathd new-key prints one"

-- the advice for the path of a key
abbrev pub path_advice : List ℕ
path_advice = codes "the path of the key is to be UTF-8: rename the file"

-- the advice for a byte order mark
abbrev pub mark_advice : List ℕ
mark_advice = codes "the file begins with a byte order mark: save the file as UTF-8 without one"

-- ---- Where it is

-- the user of a row, if it has a second field
abbrev pub user_in : List (List ℕ) → Option (List ℕ)
user_in (type ∷ user ∷ rest) = Some user
user_in fields = None

-- whether the secret of a row is base32
abbrev pub is_base32_in : List (List ℕ) → Bool
is_base32_in (type ∷ user ∷ password ∷ secret ∷ rest) = is_none (refusal_of secret)
is_base32_in fields = false

-- a line of a text by its number, from 1
abbrev pub line_at : List ℕ → ℕ → List ℕ
line_at text number = unwrap_or (slice_get (lines_of text) (number - 1)) []

-- the fields of the row of a fault, and the advice for it
abbrev pub row_fields : List ℕ → FileFault → List (List ℕ)
row_fields rows fault = fields_of (line_at rows fault.line)

abbrev pub row_advice : List ℕ → FileFault → List ℕ
row_advice rows fault = users_advice fault.kind (is_base32_in (row_fields rows fault))

-- a place in a file: its path, a line and a user
abbrev pub line_part : Option ℕ → List ℕ
line_part None = []
line_part (Some line) = codes " line " ++ decimal line

abbrev pub user_part : Option (List ℕ) → List ℕ
user_part None = []
user_part (Some user) = codes ", user " ++ shown user

-- a line of advice: two spaces, the place, and what to do
unfoldable pub advice_line : List ℕ → Option ℕ → Option (List ℕ) → List ℕ → List ℕ
advice_line path line user advice =
    codes "  " ++ path ++ line_part line ++ user_part user ++ codes ": " ++ advice ++ codes "\n"

-- the files of a check: the path and the text of the users file, the paths of the cluster file and of the key file, and
-- why the file that could not be read cannot be read now
pub record Sources : Type 0 where
  pub users : List ℕ
  pub rows : List ℕ
  pub cluster : List ℕ
  pub key : List ℕ
  pub reason : List ℕ

-- the record of a value of the code
abbrev pub sources_value : code.Sources → Sources
sources_value sources =
    record {
      users = sources.users.now;
      rows = sources.rows.now;
      cluster = sources.cluster.now;
      key = sources.key.now;
      reason = sources.reason.now;
    }

-- the advice for a fault at a line of the users file
abbrev pub users_text : Sources → FileFault → List ℕ
users_text sources fault =
    advice_line sources.users (Some fault.line) (user_in (row_fields sources.rows fault))
    (row_advice sources.rows fault)

-- the advice for the fault of a check: none for a fault of the output, the memory or another command
abbrev pub advice_text : Sources → Fault → List ℕ
advice_text sources (Run (lines.Users fault)) = users_text sources fault
advice_text sources (Run (lines.BadKey fault)) = advice_line sources.key None None key_advice
advice_text sources (CannotReadFile path) = advice_line path.now None None sources.reason
advice_text sources (ClusterFile fault) = advice_line sources.cluster (Some fault.line) None (cluster_advice fault.kind)
advice_text sources KeyPath = advice_line sources.cluster None None path_advice
advice_text sources ByteOrderMark = advice_line sources.users (Some 1) None mark_advice
advice_text sources fault = []
