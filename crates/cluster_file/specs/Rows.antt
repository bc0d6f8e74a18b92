-- The print of a book's rows, which people compare. It is the same in any order of the rows.
use Rattle.std.specs.Prelude.{◌≡◌, ℕ, List, [], ◌∷◌, ◌++◌, map, Contains, codes, if◌then◌else◌}
use Rattle.std.specs.Cmp.Lexicographic.{slice_cmp}
use Rattle.std.specs.List.{flat_map}
use Rattle.std.specs.Ordering.{is_lt, nat_cmp}
use Rattle.token_file.specs.Credential.{Credential}
use Rattle.vote_wire.specs.Key.{tag_of}
use Rattle.cluster_file.specs.Key.{print_of}
use Rattle.cluster_file.specs.Shared.{untaken_row}

-- the MAC of a row: the first 16 bytes of HMAC-SHA-256 under the shared key
abbrev pub row_mac : List ℕ → Credential → List ℕ
row_mac shared_key credential = tag_of shared_key (untaken_row credential)

-- ascending MACs and one more, which follows those below it
abbrev pub placed : List ℕ → List (List ℕ) → List (List ℕ)
placed mac [] = mac ∷ []
placed mac (first ∷ others) =
    if is_lt (slice_cmp nat_cmp first mac) then first ∷ placed mac others else mac ∷ first ∷ others

-- MACs in the ascending order of their bytes
abbrev pub in_order : List (List ℕ) → List (List ℕ)
in_order [] = []
in_order (mac ∷ macs) = placed mac (in_order macs)

-- the word `book` followed by MACs
abbrev pub macs_text : List (List ℕ) → List ℕ
macs_text macs = codes "book" ++ flat_map (λ mac. mac) macs

-- the text of a book's rows: their MACs in ascending order
abbrev pub rows_text : List ℕ → List Credential → List ℕ
rows_text shared_key book = macs_text (in_order (map (row_mac shared_key) book))

-- the print of a book's rows
abbrev pub book_print_of : List ℕ → List Credential → List ℕ
book_print_of shared_key book = print_of shared_key (rows_text shared_key book)

-- a token of the one book and a token of the other one, with different rows and the same MAC
pub record RowsCollide (shared_key : List ℕ) (book other : List Credential) : Type 0 where
  pub row : Credential
  pub other_row : Credential
  pub in_book : Contains book row
  pub in_other : Contains other other_row
  pub different : untaken_row row ≡ untaken_row other_row → ⊥
  pub same : row_mac shared_key row ≡ row_mac shared_key other_row

-- two different texts with the same print
pub record PrintsCollide (shared_key text other : List ℕ) : Type 0 where
  pub different : text ≡ other → ⊥
  pub same : print_of shared_key text ≡ print_of shared_key other
