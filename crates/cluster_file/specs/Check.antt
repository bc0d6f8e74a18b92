-- The texts that two sites compare: the shared values of a cluster's members, without the users and the key.
use Rattle.std.specs.Prelude.{ℕ, ◌+◌, Bool, true, false, List, [], ◌∷◌, ◌++◌, length, codes, Option, Some, None, if◌then◌else◌}
use Rattle.std.specs.Fmt.{decimal}
use Rattle.token_file.specs.Credential.{Credential}
use Rattle.token_file.specs.Writing.{kind_word}
use Rattle.token_file.specs.declared.token.Kind.{Kind}
use Rattle.token_file.specs.declared.token.Kind.TheVariants.{Event, Time30, Time60}
use Rattle.cluster_file.specs.ClusterFile.{ClusterRecord}
use Rattle.cluster_file.specs.Key.{fingerprint_of, shared_key_of}
use Rattle.cluster_file.specs.Rows.{book_print_of}
use Rattle.cluster_file.specs.Shared.{Shared, members_text, names_text, settings_text, shared_of, word_line}

-- whether two kinds are equal
abbrev pub is_kind : Kind → Kind → Bool
is_kind Event Event = true
is_kind Time30 Time30 = true
is_kind Time60 Time60 = true
is_kind kind other = false

-- the number of tokens of a kind in a book
abbrev pub kind_count : Kind → List Credential → ℕ
kind_count kind [] = 0
kind_count kind (token ∷ book) = (if is_kind kind token.kind then 1 else 0) + kind_count kind book

-- the line of a kind: `tokens KIND COUNT`
unfoldable pub count_line : Kind → List Credential → List ℕ
count_line kind book = codes "tokens " ++ word_line (kind_word kind) (decimal (kind_count kind book))

-- the lines of the three kinds
unfoldable pub counts_text : List Credential → List ℕ
counts_text book = count_line Event book ++ count_line Time30 book ++ count_line Time60 book

-- the life, the names, the members and the settings, each on a line
abbrev pub values_text : Shared → List ℕ
values_text shared =
    word_line (codes "life") shared.life ++ names_text shared.names ++ members_text 1 shared.members
    ++ settings_text shared.settings

-- the lines of the three kinds, or nothing if the members know tokens by names and share none
abbrev pub shared_counts : Option (List ℕ) → List Credential → List ℕ
shared_counts None book = counts_text book
shared_counts (Some names) book = []

-- the shared values and the numbers of the shared tokens, each on a line, followed by a fingerprint
abbrev pub summary_text : Shared → List ℕ → List ℕ
summary_text shared fingerprint =
    values_text shared ++ shared_counts shared.names shared.book ++ word_line (codes "fingerprint") fingerprint

-- the number of a book's rows, if the members know tokens by names
abbrev pub rows_line : Option (List ℕ) → List Credential → List ℕ
rows_line None book = []
rows_line (Some names) book = word_line (codes "rows") (decimal (length book))

-- the line of a book's print, if the members know tokens by names
abbrev pub print_line : Option (List ℕ) → List ℕ → List ℕ
print_line None print = []
print_line (Some names) print = word_line (codes "book") print

-- the shared values and the numbers of a book's tokens, each on a line, followed by a fingerprint and the book's print
abbrev pub named_summary_text : ClusterRecord → List Credential → List ℕ → List ℕ → List ℕ
named_summary_text cluster book fingerprint print =
    values_text (shared_of cluster book) ++ counts_text book ++ rows_line cluster.names book
    ++ word_line (codes "fingerprint") fingerprint ++ print_line cluster.names print

-- the printed text of a check of members with a key: their shared values, with the fingerprint of their shared key
abbrev pub check_text : List ℕ → Shared → List ℕ
check_text key shared = summary_text shared (fingerprint_of (shared_key_of key shared))

-- the same with the print of a book under the shared key
abbrev pub named_check_text : List ℕ → ClusterRecord → List Credential → List ℕ
named_check_text key cluster book =
    let shared_key = shared_key_of key (shared_of cluster book) in
    named_summary_text cluster book (fingerprint_of shared_key) (book_print_of shared_key book)
