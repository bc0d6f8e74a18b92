-- The one test of the table `self`, and the nodes that it is read from.
use Rattle.std.proofs.Common.{◌≡◌, ◌⊎◌, inl, inr, ℕ, zero, suc, pos, List, [], ◌∷◌, length, slice_get, slice_index_or, get_or, ◌<◌, Some, refl, sym, ap, ◌∙◌}
use Rattle.sqlite_value.specs.declared.value.Value.TheVariants.{Null, Int}
use Rattle.sqlite.specs.Collation.TheVariants.{Binary as bytes}
use Rattle.sqlite.specs.Term.{Term, lit, col, op2}
use Rattle.sqlite_sql.specs.declared.ops.BinaryOp.TheVariants.{Compare}
use Rattle.sqlite_sql.specs.declared.ops.CompareOp.TheVariants.{Eq}
use Rattle.sqlite_schema.specs.Code.{op_term, term_to, term_in, terms_in}
use Rattle.sqlite_schema.specs.declared.code.Op.{Op}
use Rattle.sqlite_schema.specs.declared.code.Op.TheVariants.{Literal, Column, Unary, Binary, Case}
use Rattle.floor_sql.specs.Schema.{id_checks}
use Rattle.std.proofs.lemmas.Option.{slice_get-get_or}
use Rattle.floor_sql.proofs.PassLemmas.{low_index}
use Rattle.floor_sql.proofs.UpdateLemmas.{map_only}

index_at : (ops : List Op) (i : ℕ) (op : Op) → slice_get ops i ≡ Some op → slice_index_or ops i (Literal Null) ≡ op
index_at [] i op got = absurd (cc)
index_at (x ∷ ops) zero op got = cc
index_at (x ∷ ops) (suc i) op got = index_at ops i op got

got_at : (ops : List Op) (i : ℕ) (op : Op) → slice_index_or ops i (Literal Null) ≡ op → (slice_get ops i ≡ Some op) ⊎ (op ≡ Literal Null)
got_at [] i op is = inr (sym is)
got_at (x ∷ ops) zero op is = inl (ap Some is)
got_at (x ∷ ops) (suc i) op is = got_at ops i op is

-- the nodes of the test
pub record AreNodes (ops : List Op) (roots : List ℕ) (root left right : ℕ) : Type 0 where
  pub one : roots ≡ root ∷ []
  pub top : slice_get ops root ≡ Some (Binary (Compare Eq bytes) left right)
  pub column : slice_get ops left ≡ Some (Column 1 0)
  pub number : slice_get ops right ≡ Some (Literal (Int (pos 1)))

pub checks_read : (ops : List Op) (roots : List ℕ) (root left right : ℕ) → AreNodes ops roots root left right → terms_in ops roots ≡ id_checks
checks_read ops roots root left right it = ap (terms_in ops) it.one ∙ ap (λ t. t ∷ []) (go ops it.top it.column it.number)
  where
    go : (xs : List Op) → slice_get xs root ≡ Some (Binary (Compare Eq bytes) left right) → slice_get xs left ≡ Some (Column 1 0)
        → slice_get xs right ≡ Some (Literal (Int (pos 1))) → term_in xs root ≡ op2 (Compare Eq bytes) (col 1 0) (lit (Int (pos 1)))
    go [] top column number = absurd (cc)
    go (x ∷ []) top column number =
        let a = index_at (x ∷ []) root _ top in let b = index_at (x ∷ []) left _ column in absurd (alone root left top column)
      where
        alone : (r l : ℕ) → slice_get (x ∷ []) r ≡ Some (Binary (Compare Eq bytes) left right) → slice_get (x ∷ []) l ≡ Some (Column 1 0) → ⊥
        alone zero zero p q = cc
        alone (suc r) l p q = cc
        alone zero (suc l) p q = cc
    go (x ∷ y ∷ more) top column number =
        rw (index_at (x ∷ y ∷ more) root _ top, index_at (x ∷ y ∷ more) left _ column, index_at (x ∷ y ∷ more) right _ number) refl

top_is : (below : ℕ → Term) (op : Op) → op_term below op ≡ op2 (Compare Eq bytes) (col 1 0) (lit (Int (pos 1)))
    → (left : ℕ) × (right : ℕ) × (op ≡ Binary (Compare Eq bytes) left right) × (below left ≡ col 1 0) × (below right ≡ lit (Int (pos 1)))
top_is below (Literal v) is = absurd (cc)
top_is below (Column slot at) is = absurd (cc)
top_is below (Unary op a) is = absurd (cc)
top_is below (Binary op a b) is = (a, b, ap (λ o. Binary o a b) (cc), cc, cc)
top_is below (Case t a b) is = absurd (cc)

column_is : (below : ℕ → Term) (op : Op) → op_term below op ≡ col 1 0 → op ≡ Column 1 0
column_is below (Literal v) is = absurd (cc)
column_is below (Column slot at) is = cc
column_is below (Unary op a) is = absurd (cc)
column_is below (Binary op a b) is = absurd (cc)
column_is below (Case t a b) is = absurd (cc)

number_is : (below : ℕ → Term) (op : Op) → op_term below op ≡ lit (Int (pos 1)) → op ≡ Literal (Int (pos 1))
number_is below (Literal v) is = cc
number_is below (Column slot at) is = absurd (cc)
number_is below (Unary op a) is = absurd (cc)
number_is below (Binary op a b) is = absurd (cc)
number_is below (Case t a b) is = absurd (cc)

column_node : (ops : List Op) (depth at : ℕ) → term_to ops depth at ≡ col 1 0 → slice_get ops at ≡ Some (Column 1 0)
column_node ops zero at is = absurd (cc)
column_node ops (suc depth) at is =
    let op = column_is (term_to ops depth) (slice_index_or ops at (Literal Null)) is in
    elim (got_at ops at (Column 1 0) op) [ inl got ↦ got | inr none ↦ absurd (cc) ]

number_node : (ops : List Op) (depth at : ℕ) → term_to ops depth at ≡ lit (Int (pos 1)) → slice_get ops at ≡ Some (Literal (Int (pos 1)))
number_node ops zero at is = absurd (cc)
number_node ops (suc depth) at is =
    let op = number_is (term_to ops depth) (slice_index_or ops at (Literal Null)) is in
    elim (got_at ops at (Literal (Int (pos 1))) op) [ inl got ↦ got | inr none ↦ absurd (cc) ]

top_nodes : (ops : List Op) (roots : List ℕ) (depth root : ℕ) → roots ≡ root ∷ [] → term_to ops depth root ≡ op2 (Compare Eq bytes) (col 1 0) (lit (Int (pos 1)))
    → (left : ℕ) × (right : ℕ) × AreNodes ops roots root left right
top_nodes ops roots zero root one is = absurd (cc)
top_nodes ops roots (suc depth) root one is =
    let top = top_is (term_to ops depth) (slice_index_or ops root (Literal Null)) is in (
      top.0,
      top.1,
      record {
        one = one;
        top = elim (got_at ops root _ top.2) [ inl got ↦ got | inr none ↦ absurd (cc) ];
        column = column_node ops depth top.0 top.3;
        number = number_node ops depth top.1 top.4;
      },
    )

pub checks_nodes : (ops : List Op) (roots : List ℕ) → terms_in ops roots ≡ id_checks → (root : ℕ) × (left : ℕ) × (right : ℕ) × AreNodes ops roots root left right
checks_nodes ops roots is =
    let root = map_only (term_in ops) roots _ is in
    let it = top_nodes ops roots (length ops) root.0 root.1 root.2 in
    (root.0, it.0, it.1, it.2)

-- the node at a place
at_place : (ops : List Op) (i : ℕ) (op : Op) → slice_get ops i ≡ Some op → (i < length ops) × ((d : Op) → d ≡ get_or ops i d → d ≡ op)
at_place ops i op got =
    let low = low_index ops i op got in (
      low,
      λ d is. let there = slice_get-get_or ops i d low in let same : Some (get_or ops i d) ≡ Some op = sym there ∙ got in
          let here : get_or ops i d ≡ op = cc in is ∙ here,
    )

-- if the root compares two sides for equality, they are the key and the number
pub checks_found : (ops : List Op) (roots : List ℕ) (root left right : ℕ) (top : Op) → roots ≡ root ∷ []
    → terms_in ops roots ≡ id_checks → root < length ops → top ≡ get_or ops root top → top ≡ Binary (Compare Eq bytes) left right
    → (left < length ops) × (right < length ops) × ((d : Op) → d ≡ get_or ops left d → d ≡ Column 1 0)
    × ((d : Op) → d ≡ get_or ops right d → d ≡ Literal (Int (pos 1)))
checks_found ops roots root left right top one is low place equality =
    let it = checks_nodes ops roots is in
    let same : it.0 ≡ root = let all = sym it.3.one ∙ one in cc in
    let got : slice_get ops root ≡ Some (Binary (Compare Eq bytes) left right) =
    slice_get-get_or ops root top low ∙ ap Some (sym place ∙ equality) in
    let both : Some (Binary (Compare Eq bytes) it.1 it.2) ≡ Some (Binary (Compare Eq bytes) left right) =
    sym it.3.top ∙ ap (slice_get ops) same ∙ got in
    let l : it.1 ≡ left = cc in
    let r : it.2 ≡ right = cc in
    let a = at_place ops left (Column 1 0) (ap (slice_get ops) (sym l) ∙ it.3.column) in
    let b = at_place ops right (Literal (Int (pos 1))) (ap (slice_get ops) (sym r) ∙ it.3.number) in
    (a.0, b.0, a.1, b.1)

-- the nodes are the nodes of the check
pub checks_made : (ops : List Op) (roots : List ℕ) (root left right : ℕ) (top key number : Op) → roots ≡ root ∷ []
    → root < length ops → top ≡ get_or ops root top → top ≡ Binary (Compare Eq bytes) left right
    → left < length ops → key ≡ get_or ops left key → key ≡ Column 1 0
    → right < length ops → number ≡ get_or ops right number → number ≡ Literal (Int (pos 1)) → terms_in ops roots ≡ id_checks
checks_made ops roots root left right top key number one low place is low_left place_left is_left low_right place_right is_right =
    checks_read ops roots root left right (record {
      one = one;
      top = slice_get-get_or ops root top low ∙ ap Some (sym place ∙ is);
      column = slice_get-get_or ops left key low_left ∙ ap Some (sym place_left ∙ is_left);
      number = slice_get-get_or ops right number low_right ∙ ap Some (sym place_right ∙ is_right);
    })
