-- The values that must be equal at all members of a cluster, as one text.
use Rattle.std.specs.Prelude.{ℕ, ◌+◌, List, [], ◌∷◌, ◌++◌, codes, Option, Some, None, IfSome, IsTrue}
use Rattle.std.specs.Fmt.{decimal}
use Rattle.std.specs.List.{flat_map, AllByRecursion}
use Rattle.otp_core.specs.Limits.{Limits, AreLimits}
use Rattle.token_file.specs.Credential.{Credential}
use Rattle.field_text.specs.Word.{is_word}
use Rattle.token_file.specs.Writing.{IsCredential, row_text}
use Rattle.token_names.specs.Names.{IsSalt}
use Rattle.cluster_file.specs.Address.{Address, IsAddress, address_text}
use Rattle.cluster_file.specs.ClusterFile.{ClusterRecord}

-- The life, the members in order, the settings, and the tokens in order, without the tokens' counters. Members that
-- know tokens by names share the salt of the names.
pub record Shared : Type 0 where
  pub names : Option (List ℕ)
  pub life : List ℕ
  pub members : List Address
  pub settings : Limits
  pub book : List Credential

-- the tokens that members share: all of a book, or none if they know tokens by names
abbrev pub shared_book : Option (List ℕ) → List Credential → List Credential
shared_book None book = book
shared_book (Some names) book = []

-- the shared values of a cluster with a book
abbrev pub shared_of : ClusterRecord → List Credential → Shared
shared_of cluster book =
    record {
      names = cluster.names;
      life = cluster.life;
      members = cluster.members;
      settings = cluster.settings;
      book = shared_book cluster.names book;
    }

-- the ranges of the shared values of a cluster file and a users file
pub record IsShared (shared : Shared) : Type 0 where
  pub names : IfSome shared.names IsSalt
  pub life : IsTrue (is_word shared.life)
  pub members : AllByRecursion IsAddress shared.members
  pub settings : AreLimits shared.settings
  pub book : AllByRecursion IsCredential shared.book

-- a word, a space, a text and an LF
unfoldable pub word_line : List ℕ → List ℕ → List ℕ
word_line word text = word ++ 32 ∷ text ++ 10 ∷ []

-- the line of a member with its number
unfoldable pub member_line : ℕ → Address → List ℕ
member_line number member = codes "member " ++ decimal number ++ 32 ∷ address_text member ++ 10 ∷ []

-- the lines of members, from a number on
abbrev pub members_text : ℕ → List Address → List ℕ
members_text number [] = []
members_text number (member ∷ members) = member_line number member ++ members_text (number + 1) members

-- the four settings, each on a line
unfoldable pub settings_text : Limits → List ℕ
settings_text settings =
    word_line (codes "look-ahead") (decimal settings.look_ahead) ++ word_line (codes "skew") (decimal settings.skew)
    ++ word_line (codes "range") (decimal settings.range) ++ word_line (codes "drift") (decimal settings.drift)

-- the row of a token, an event token's with the counter 0
abbrev pub untaken_row : Credential → List ℕ
untaken_row credential = row_text credential 0

-- the rows of the tokens
unfoldable pub book_text : List Credential → List ℕ
book_text book = flat_map untaken_row book

-- the line of the names, if the members know tokens by names
abbrev pub names_text : Option (List ℕ) → List ℕ
names_text None = []
names_text (Some names) = word_line (codes "names") names

-- the version: 1, or 2 if the members know tokens by names
abbrev pub version_of : Option (List ℕ) → List ℕ
version_of None = codes "1"
version_of (Some names) = codes "2"

-- the whole text: the version, the names, the life, the members, the settings and the rows
abbrev pub shared_text : Shared → List ℕ
shared_text shared =
    word_line (codes "wakdulg") (version_of shared.names) ++ names_text shared.names
    ++ word_line (codes "life") shared.life ++ members_text 1 shared.members ++ settings_text shared.settings
    ++ book_text shared.book
