-- Equal prints of books.
use Rattle.std.proofs.Common.{◌≡◌, ◌⊎◌, inl, inr, ℕ, suc, ◌+◌, ◌≤◌, Bool, true, false, List, [], ◌∷◌, ◌++◌, length, map, take, drop, refl, sym, ap, subst, ◌∙◌, arith, length-append, true≢false}
use Rattle.std.specs.Prelude.{codes, Contains, Some, slice_get}
use Rattle.std.specs.List.{AllByRecursion, flat_map, sum_by}
use Rattle.std.specs.List.Sorted.{IsPermutation}
use Rattle.std.specs.Str.{bytes_eq}
use Rattle.std.proofs.Math.Seq.{drop-append_seam, take-append_seam}
use Rattle.std.proofs.lemmas.List.{append_cancel_left, map-append, take_more}
use Rattle.std.proofs.lemmas.List.Sorted.{Contains-permutation, IsPermutation-cons, IsPermutation-map, IsPermutation-middle, IsPermutation-refl, IsPermutation-sym, IsPermutation-trans, sum_by-IsPermutation}
use Rattle.std.proofs.lemmas.List.Sums.{sum_by-cons}
use Rattle.std.proofs.lemmas.Option.{get_or_from_slice_get, slice_get_within}
use Rattle.std.proofs.lemmas.Slice.Eq.{bytes_eq-Decides}
use Rattle.token_file.specs.Credential.{Credential}
use Rattle.token_file.specs.Writing.{IsCredential}
use Rattle.vote_wire.proofs.TagLemmas.{length-tag_of}
use Rattle.cluster_file.specs.Key.{print_of}
use Rattle.cluster_file.specs.Rows.{PrintsCollide, RowsCollide, book_print_of, in_order, macs_text, row_mac, rows_text}
use Rattle.cluster_file.specs.Shared.{book_text, untaken_row}
use Rattle.cluster_file.proofs.OrderLemmas.{all_in_order, in_order_moves, in_order_same, one, one_itself}
use Rattle.cluster_file.proofs.SharedLemmas.{books_same}

-- the MACs of one more row
pub one_more : (key : List ℕ) (book : List Credential) (row : ℕ) (token : Credential) (mac : List ℕ) (before new : List (List ℕ))
    → slice_get book row ≡ Some token → mac ≡ row_mac key token → before ≡ map (row_mac key) (take row book) → new ≡ before ++ mac ∷ []
    → new ≡ map (row_mac key) (take (row + 1) book)
one_more key book row token mac before new at is so_far pushed =
    let low = slice_get_within book row token at in
    let rows = take_more book row token low ∙ ap (λ (t : Credential). take row book ++ t ∷ []) (get_or_from_slice_get book row token token at) in
    pushed ∙ ap (λ macs. macs ++ mac ∷ []) so_far ∙ ap (λ last. map (row_mac key) (take row book) ++ last ∷ []) is
    ∙ sym (ap (map (row_mac key)) rows ∙ map-append (row_mac key) (take row book) (token ∷ []))

-- ---- the same rows in another order

pub prints_agree : (key : List ℕ) (a b : List Credential) → IsPermutation a b → book_print_of key a ≡ book_print_of key b
prints_agree key a b moved =
    let macs = IsPermutation-map (row_mac key) a b moved in
    ap (λ macs. print_of key (macs_text macs))
    (in_order_same (map (row_mac key) a) (map (row_mac key) b) (λ mac. sym (sum_by-IsPermutation (one mac) (map (row_mac key) a) (map (row_mac key) b) macs)))

-- ---- the MACs of a text

-- a MAC of a row has 16 bytes
abbrev HasMacLen : List ℕ → Type 0
HasMacLen mac = length mac ≡ 16

macs_are : (key : List ℕ) (book : List Credential) → AllByRecursion HasMacLen (map (row_mac key) book)
macs_are key [] = tt
macs_are key (row ∷ book) = (length-tag_of key (untaken_row row), macs_are key book)

abbrev joined : List (List ℕ) → List ℕ
joined macs = flat_map (λ mac. mac) macs

-- a text splits in one way into MACs
macs_same : (xs ys : List (List ℕ)) → AllByRecursion HasMacLen xs → AllByRecursion HasMacLen ys → joined xs ≡ joined ys → xs ≡ ys
macs_same [] [] h k e = refl
macs_same [] (y ∷ ys) h k e =
    let none : 0 ≡ length (y ++ joined ys) = ap length e in
    absurd (omega (arith, none, length-append y (joined ys), k.0))
macs_same (x ∷ xs) [] h k e =
    let none : length (x ++ joined xs) ≡ 0 = ap length e in
    absurd (omega (arith, none, length-append x (joined xs), h.0))
macs_same (x ∷ xs) (y ∷ ys) h k e =
    let lengths : length x ≡ length y = h.0 ∙ sym k.0 in
    let first : x ≡ y = sym (take-append_seam x (joined xs)) ∙ ap (λ n. take n (x ++ joined xs)) lengths ∙ ap (take (length y)) e ∙ take-append_seam y (joined ys) in
    let rest : joined xs ≡ joined ys = sym (drop-append_seam x (joined xs)) ∙ ap (λ n. drop n (x ++ joined xs)) lengths ∙ ap (drop (length y)) e ∙ drop-append_seam y (joined ys) in
    let others = macs_same xs ys h.1 k.1 rest in
    cc

-- ---- a row with a MAC

record HasRow (key mac : List ℕ) (book : List Credential) : Type 0 where
  front : List Credential
  row : Credential
  behind : List Credential
  split : book ≡ front ++ row ∷ behind
  same : mac ≡ row_mac key row

row_of_mac : (key mac : List ℕ) (book : List Credential) → 1 ≤ sum_by (one mac) (map (row_mac key) book) → HasRow key mac book
row_of_mac key mac [] some = let none : 1 ≤ 0 = some in absurd (omega (arith, none))
row_of_mac key mac (row ∷ book) some = by (bytes_eq mac (row_mac key row)) refl (row_of_mac key mac book)
  where
    by : (test : Bool) → bytes_eq mac (row_mac key row) ≡ test
        → (1 ≤ sum_by (one mac) (map (row_mac key) book) → HasRow key mac book) → HasRow key mac (row ∷ book)
    by true is behind = record { front = []; row = row; behind = book; split = refl; same = (bytes_eq-Decides mac (row_mac key row)).0 is }
    by false is behind =
        let zero_of : one mac (row_mac key row) ≡ 0 = rw is refl in
        let found = behind (omega (arith, some, zero_of, sum_by-cons (one mac) (row_mac key row) (map (row_mac key) book))) in
        record { front = row ∷ found.front; row = found.row; behind = found.behind; split = ap (λ rows. row ∷ rows) found.split; same = found.same }

-- ---- the rows of equal MACs

-- a row, and all others
parted : (front behind : List Credential) (row : Credential) → AllByRecursion IsCredential (front ++ row ∷ behind)
    → IsCredential row × AllByRecursion IsCredential (front ++ behind)
parted [] behind row h = h
parted (x ∷ front) behind row h = let k = parted front behind row h.1 in (k.0, (h.0, k.1))

row_same : (x y : Credential) → IsCredential x → IsCredential y → untaken_row x ≡ untaken_row y → x ≡ y
unfolding book_text
row_same x y h k e =
    let same : x ∷ [] ≡ y ∷ [] = books_same (x ∷ []) (y ∷ []) (h, tt) (k, tt) (ap (λ row. row ++ []) e) in
    cc

behind_first : {X : Type 0} (first x : X) (xs : List X) → Contains xs x → Contains (first ∷ xs) x
behind_first first x xs (k, within, is) = (suc k, omega (arith, within), is)

-- the counts of the MACs of two books are equal
abbrev HaveSameMacs : List ℕ → List Credential → List Credential → Type 0
HaveSameMacs key a b = (mac : List ℕ) → sum_by (one mac) (map (row_mac key) a) ≡ sum_by (one mac) (map (row_mac key) b)

-- the same rows, or two that collide
abbrev Match : List ℕ → List Credential → List Credential → Type 0
Match key a b = IsPermutation a b ⊎ RowsCollide key a b

-- a row of the other book first
turned : (front behind : List Credential) (row : Credential) → IsPermutation (row ∷ (front ++ behind)) (front ++ row ∷ behind)
turned front behind row = IsPermutation-sym (front ++ row ∷ behind) (row ∷ (front ++ behind)) (IsPermutation-middle front row behind)

fewer : (key : List ℕ) (x row : Credential) (a front behind : List Credential) → row_mac key x ≡ row_mac key row
    → HaveSameMacs key (x ∷ a) (front ++ row ∷ behind) → HaveSameMacs key a (front ++ behind)
fewer key x row a front behind same counts mac =
    let rest = front ++ behind in
    let all_of = sum_by-IsPermutation (one mac) (map (row_mac key) (row ∷ rest)) (map (row_mac key) (front ++ row ∷ behind))
    (IsPermutation-map (row_mac key) (row ∷ rest) (front ++ row ∷ behind) (turned front behind row)) in
    let left = sum_by-cons (one mac) (row_mac key x) (map (row_mac key) a) in
    let right = sum_by-cons (one mac) (row_mac key row) (map (row_mac key) rest) in
    let ones = ap (one mac) same in
    omega (arith, all_of, left, right, counts mac, ones)

with_others : (key : List ℕ) (x row : Credential) (a front behind : List Credential) → x ≡ row → Match key a (front ++ behind)
    → Match key (x ∷ a) (front ++ row ∷ behind)
with_others key x row a front behind is (inl p) =
    let rest = front ++ behind in
    inl (IsPermutation-trans (x ∷ a) (row ∷ rest) (front ++ row ∷ behind)
    (subst (λ (first : Credential). IsPermutation (x ∷ a) (first ∷ rest)) is (IsPermutation-cons x a rest p)) (turned front behind row))
with_others key x row a front behind is (inr c) =
    let rest = front ++ behind in
    inr (record {
      row = c.row;
      other_row = c.other_row;
      in_book = behind_first x c.row a c.in_book;
      in_other = Contains-permutation (row ∷ rest) (front ++ row ∷ behind) c.other_row (turned front behind row)
          (behind_first row c.other_row rest c.in_other);
      different = c.different;
      same = c.same;
    })

-- a book with a row whose MAC a row of the other book has
with_row : (key : List ℕ) (x row : Credential) (a front behind : List Credential) → row_mac key x ≡ row_mac key row
    → (untaken_row x ≡ untaken_row row → Match key (x ∷ a) (front ++ row ∷ behind)) → Match key (x ∷ a) (front ++ row ∷ behind)
with_row key x row a front behind same equal = by (bytes_eq (untaken_row x) (untaken_row row)) refl
  where
    by : (test : Bool) → bytes_eq (untaken_row x) (untaken_row row) ≡ test → Match key (x ∷ a) (front ++ row ∷ behind)
    by true is = equal ((bytes_eq-Decides (untaken_row x) (untaken_row row)).0 is)
    by false is = inr (record {
      row = x;
      other_row = row;
      in_book = (0, omega arith, refl);
      in_other = Contains-permutation (row ∷ (front ++ behind)) (front ++ row ∷ behind) row (turned front behind row) (0, omega arith, refl);
      different = λ e. true≢false (sym ((bytes_eq-Decides (untaken_row x) (untaken_row row)).1 e) ∙ is);
      same = same;
    })

pub matched : (key : List ℕ) (a b : List Credential) → AllByRecursion IsCredential a → AllByRecursion IsCredential b
    → HaveSameMacs key a b → Match key a b
matched key [] [] h k e = inl (IsPermutation-refl [])
matched key [] (y ∷ b) h k e =
    let mac = row_mac key y in
    let none : 0 ≡ sum_by (one mac) (map (row_mac key) (y ∷ b)) = e mac in
    absurd (omega (arith, none, sum_by-cons (one mac) mac (map (row_mac key) b), one_itself mac))
matched key (x ∷ a) b h k e =
    let mac = row_mac key x in
    let found = row_of_mac key mac b (omega (arith, e mac, sum_by-cons (one mac) mac (map (row_mac key) a), one_itself mac)) in
    let parts = parted found.front found.behind found.row (subst (AllByRecursion IsCredential) found.split k) in
    let counts = subst (HaveSameMacs key (x ∷ a)) found.split e in
    subst (Match key (x ∷ a)) (sym found.split)
    (with_row key x found.row a found.front found.behind found.same (λ rows.
    with_others key x found.row a found.front found.behind (row_same x found.row h.0 parts.0 rows)
    (matched key a (found.front ++ found.behind) h.1 parts.1 (fewer key x found.row a found.front found.behind found.same counts))))

-- ---- equal prints

pub prints_tell : (key : List ℕ) (a b : List Credential) → AllByRecursion IsCredential a → AllByRecursion IsCredential b
    → book_print_of key a ≡ book_print_of key b
    → IsPermutation a b ⊎ (RowsCollide key a b ⊎ PrintsCollide key (rows_text key a) (rows_text key b))
prints_tell key a b h k e = by (bytes_eq (rows_text key a) (rows_text key b)) refl
  where
    macs_of : List Credential → List (List ℕ)
    macs_of book = map (row_mac key) book

    or_prints : IsPermutation a b ⊎ RowsCollide key a b
        → IsPermutation a b ⊎ (RowsCollide key a b ⊎ PrintsCollide key (rows_text key a) (rows_text key b))
    or_prints (inl p) = inl p
    or_prints (inr c) = inr (inl c)

    same_counts : in_order (macs_of a) ≡ in_order (macs_of b) → (mac : List ℕ) → sum_by (one mac) (macs_of a) ≡ sum_by (one mac) (macs_of b)
    same_counts same mac =
        sym (sum_by-IsPermutation (one mac) (macs_of a) (in_order (macs_of a)) (in_order_moves (macs_of a)))
        ∙ ap (sum_by (one mac)) same ∙ sum_by-IsPermutation (one mac) (macs_of b) (in_order (macs_of b)) (in_order_moves (macs_of b))

    by : (test : Bool) → bytes_eq (rows_text key a) (rows_text key b) ≡ test
        → IsPermutation a b ⊎ (RowsCollide key a b ⊎ PrintsCollide key (rows_text key a) (rows_text key b))
    by true is =
        let texts = (bytes_eq-Decides (rows_text key a) (rows_text key b)).0 is in
        let macs = append_cancel_left (codes "book") (joined (in_order (macs_of a))) (joined (in_order (macs_of b))) texts in
        let same = macs_same (in_order (macs_of a)) (in_order (macs_of b)) (all_in_order HasMacLen (macs_of a) (macs_are key a)) (all_in_order HasMacLen (macs_of b) (macs_are key b)) macs in
        or_prints (matched key a b h k (same_counts same))
    by false is = inr (inr (record {
      different = λ texts. true≢false (sym ((bytes_eq-Decides (rows_text key a) (rows_text key b)).1 texts) ∙ is);
      same = e;
    }))
