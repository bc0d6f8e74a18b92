-- The entries of the rows so far, and their names.
use Rattle.std.proofs.Common.{◌≡◌, ◌<◌, ℕ, ◌+◌, List, [], ◌∷◌, ◌++◌, length, take, map, Some, refl, sym, ap, subst, ◌∙◌, get_or, slice_get, option_map, arith}
use Rattle.std.proofs.lemmas.List.{get_or-map, length-map, map_more}
use Rattle.std.proofs.lemmas.Option.{get_or_from_slice_get, slice_get-map, slice_get_read, slice_get_within}
use Rattle.roster_sql.specs.declared.entry.Entry.{Entry}
use Rattle.token_file.specs.Credential.{Credential}
use Rattle.token_names.specs.Names as names
use Rattle.token_names.specs.Names.{name_of, names_of}
use Rattle.token_names.specs.Seed.{seed_of}
use Rattle.named_store.specs.Entries.{entries_of, entry_under}
use Rattle.named_store.specs.Seating.{AreDistinct}

same_some : {T : Type 0} (a b : T) → Some a ≡ Some b → a ≡ b
same_some a b e = search e

-- the name in a row of the names is that of the token there
name_there : (salt : List ℕ) (book : List Credential) (row : ℕ) (token : Credential) (all : List (List ℕ)) (name : List ℕ)
    → slice_get book row ≡ Some token → all ≡ names_of salt book → name ≡ get_or all row name → name ≡ name_of salt token
name_there salt book row token all name at is here =
    let within = slice_get_within book row token at in
    let low : row < length all = omega (arith, within, ap length is, length-map book (name_of salt)) in
    let own : slice_get all row ≡ Some (name_of salt token) =
    ap (λ (l : List (List ℕ)). slice_get l row) is ∙ slice_get-map (name_of salt) book row ∙ ap (option_map (name_of salt)) at in
    same_some name (name_of salt token) (sym (slice_get_read all (length all) row name refl low here) ∙ own)

-- one more row has its entry
pub one_more : (salt : List ℕ) (book : List Credential) (row : ℕ) (token : Credential) (all : List (List ℕ)) (name seed : List ℕ)
    (before after : List Entry) → slice_get book row ≡ Some token → all ≡ names_of salt book → name ≡ get_or all row name
    → seed ≡ seed_of salt token → before ≡ entries_of salt (take row book) → after ≡ before ++ record { name = name; seed = seed } ∷ []
    → after ≡ entries_of salt (take (row + 1) book)
one_more salt book row token all name seed before after at is here seeded listed pushed =
    let named = name_there salt book row token all name at is here in
    let last : get_or book row token ≡ token = get_or_from_slice_get book row token token at in
    pushed
    ∙ ap (λ (l : List Entry). l ++ record { name = name; seed = seed } ∷ []) listed
    ∙ ap (λ (n : List ℕ). entries_of salt (take row book) ++ record { name = n; seed = seed } ∷ []) named
    ∙ ap (λ (s : List ℕ). entries_of salt (take row book) ++ record { name = name_of salt token; seed = s } ∷ []) seeded
    ∙ ap (λ (c : Credential). entries_of salt (take row book) ++ entry_under salt c ∷ []) (sym last)
    ∙ sym (map_more (entry_under salt) book row token (slice_get_within book row token at))

-- the names of the entries are the names of the book
names_are : (salt : List ℕ) (book : List Credential) → map (λ (e : Entry). e.name) (entries_of salt book) ≡ names_of salt book
names_are salt [] = refl
names_are salt (token ∷ book) = ap (λ (l : List (List ℕ)). name_of salt token ∷ l) (names_are salt book)

name_at : (entries : List Entry) (i : ℕ) (d : Entry) → i < length entries
    → (get_or entries i d).name ≡ get_or (map (λ (e : Entry). e.name) entries) i d.name
name_at entries i d low = sym (get_or-map (λ (e : Entry). e.name) entries i d d.name low)

-- entries with different names are different
pub distinct_entries : (salt : List ℕ) (book : List Credential) → names.AreDistinct (names_of salt book) → AreDistinct (entries_of salt book)
distinct_entries salt book distinct i j d before within same =
    let entries = entries_of salt book in
    let name : Entry → List ℕ = λ e. e.name in
    let apart = subst names.AreDistinct (sym (names_are salt book)) distinct in
    apart i j d.name before (omega (arith, within, length-map entries name))
    (sym (name_at entries i d (omega (arith, before, within))) ∙ same ∙ name_at entries j d within)
