-- The content that tables hold, and what a change makes of it.
use Rattle.std.proofs.Common.{◌≡◌, ℕ, zero, suc, pos, ◌+◌, List, [], ◌∷◌, ◌++◌, length, find, map, slice_set, Option, Some, None, refl, sym, ap, ◌∙◌, subst, subst₂, append-nil, arith}
use Rattle.std.specs.Option.{option_to_list}
use Rattle.std.specs.List.Sorted.{IsPermutation}
use Rattle.std.specs.List.{last_or}
use Rattle.sqlite.specs.declared.types.Value.TheVariants.{Int}
use Rattle.sqlite.specs.Order.{Row}
use Rattle.sqlite.specs.Tree.{Trees, has_rowid, without_rowid}
use Rattle.sqlite.specs.Effect.{Database}
use Rattle.floor_store.specs.Records.{ProposalRecord, RowRecord, PassRecord, SpanRecord}
use Rattle.floor_store.specs.Content.{Content, with_row, with_next_boot}
use Rattle.floor_sql.specs.Schema.{schema_of, version_of}
use Rattle.floor_sql.specs.declared.schema.Format.{Format}
use Rattle.floor_sql.specs.Stored.{HasRow, Holds, HoldsSelf, HoldsRow, HoldsRows, HoldsPasses, HoldsVersion, IsAppended, PutsRow, Puts, Raises, floor_columns, floor_values, row_values, grant_values, drift_columns, drift_values, self_columns, version_values, version_row, pass_columns, pass_row, pass_rows}
use Rattle.floor_sql.proofs.HoldLemmas.{rows_put, same_grant}
use Rattle.floor_sql.proofs.RowLemmas.{find-put_row}
use Rattle.floor_sql.proofs.PassLemmas.{passes_appended, last_appended, same_items, same_passes}

-- the columns of a row, with its drift, are of one row
pub same_row : (a b : RowRecord) → row_values a ≡ row_values b → a.drift ≡ b.drift → a ≡ b
same_row a b e drift = go a.grant b.grant refl refl e
  where
    made : a.next ≡ b.next → a.grant ≡ b.grant → a.gate.fails ≡ b.gate.fails → a.gate.until ≡ b.gate.until → a ≡ b
    made next grant fails until = λ i. record { next = next i; grant = grant i; gate = record { fails = fails i; until = until i }; drift = drift i }

    go : (x y : Option (ProposalRecord × SpanRecord)) → a.grant ≡ x → b.grant ≡ y
        → Int (pos a.next) ∷ grant_values x ++ Int (pos a.gate.fails) ∷ Int (pos a.gate.until) ∷ [] ≡ Int (pos b.next) ∷ grant_values y ++ Int (pos b.gate.fails) ∷ Int (pos b.gate.until) ∷ [] → a ≡ b
    go None None is_x is_y h = made (cc) (is_x ∙ sym is_y) (cc) (cc)
    go None (Some y) is_x is_y h = absurd (cc)
    go (Some x) None is_x is_y h = absurd (cc)
    go (Some x) (Some y) is_x is_y h =
        let grant : grant_values (Some x) ≡ grant_values (Some y) = cc in
        made (cc) (is_x ∙ same_grant (Some x) (Some y) grant ∙ sym is_y) (cc) (cc)

-- the row with a key has one list of columns
pub one_shown : (rows : List Row) (key : ℕ) (columns : Row → Row) (a b : Row) → HasRow rows key columns a → HasRow rows key columns b → a ≡ b
one_shown rows key columns a b one two =
    let both : Some one.found ≡ Some two.found = sym one.place ∙ two.place in
    let found : one.found ≡ two.found = cc in
    sym one.shows ∙ ap columns found ∙ two.shows

one_self : (f g : Format) (trees : Trees) (m n a b p q : ℕ) → HoldsSelf f trees m a p → HoldsSelf g trees n b q
    → (version_of f ≡ version_of g) × (m ≡ n) × (a ≡ b) × (p ≡ q)
one_self f g trees m n a b p q one two =
    let same : version_values (version_of f) m a p ≡ version_values (version_of g) n b q = one_shown (trees 0) 1 self_columns _ _ one two in
    (cc, cc, cc, cc)

one_row : (trees : Trees) (token : ℕ) (r s : RowRecord) → HoldsRow trees token r → HoldsRow trees token s → r ≡ s
one_row trees token r s one two =
    let floor : floor_values token r ≡ floor_values token s = one_shown (trees 1) token floor_columns _ _ one.floor two.floor in
    let drift : drift_values token r.drift ≡ drift_values token s.drift = one_shown (trees 3) token drift_columns _ _ one.drift two.drift in
    let values : row_values r ≡ row_values s = cc in
    same_row r s values (cc)

-- tables hold one content
pub one_content : (f g : Format) (trees : Trees) (a b : Content) (xs ys : List PassRecord) → Holds f trees a xs → Holds g trees b ys → a ≡ b
one_content f g trees a b xs ys one two =
    let self = one_self f g trees one.node two.node (length a.rows) (length b.rows) a.boot b.boot one.self two.self in
    let boot : a.boot ≡ b.boot = self.3 in
    let rows : a.rows ≡ b.rows = same_items a.rows b.rows self.2 (λ i r s at_a at_b. one_row trees i r s (one.rows i r at_a) (two.rows i s at_b)) in
    let last : a.last ≡ b.last = one.last ∙ ap (last_or None) (same_passes trees xs ys one.pass two.pass) ∙ sym two.last in
    λ i. record { rows = rows i; boot = boot i; last = last i }

pub length_set : {X : Type 0} (xs : List X) (i : ℕ) (v : X) → length (slice_set xs i v) ≡ length xs
length_set [] i v = refl
length_set (x ∷ xs) zero v = refl
length_set (x ∷ xs) (suc i) v = ap suc (length_set xs i v)

-- the effect of the change on tables of a format that hold the content `c` and `count` passes
abbrev pub Alters : (Database → Database → Type 0) → Content → ℕ → Content → List PassRecord → Type 0
Alters IsChange c count after more = (format : Format) (old new : Database) (passes : List PassRecord) → old.schema ≡ schema_of format → Holds format old.trees c passes → length passes ≡ count → IsChange old new
    → (new.schema ≡ schema_of format) × Holds format new.trees after (passes ++ more)

-- a row stays if its table stays
pub row_stays : (old new : List Row) (key : ℕ) (columns : Row → Row) (values : Row) → new ≡ old → HasRow old key columns values → HasRow new key columns values
row_stays old new key columns values same it = subst (λ rows. HasRow rows key columns values) (sym same) it

pub self_stays : (format : Format) (old new : Trees) (node tokens boot : ℕ) → new 0 ≡ old 0 → HoldsSelf format old node tokens boot → HoldsSelf format new node tokens boot
self_stays format old new node tokens boot same it = row_stays (old 0) (new 0) 1 self_columns (version_values (version_of format) node tokens boot) same it

pub rows_stay : (old new : Trees) (rows : List RowRecord) → new 1 ≡ old 1 → new 3 ≡ old 3 → HoldsRows old rows → HoldsRows new rows
rows_stay old new rows floors drifts held token row got =
    let it = held token row got in
    record {
      floor = row_stays (old 1) (new 1) token floor_columns (floor_values token row) floors it.floor;
      drift = row_stays (old 3) (new 3) token drift_columns (drift_values token row.drift) drifts it.drift;
    }

pub passes_stay : (old new : Trees) (passes : List PassRecord) → new 2 ≡ old 2 → HoldsPasses old passes → HoldsPasses new passes
passes_stay old new passes same held = subst (λ rows. IsPermutation (pass_rows 1 passes) (map pass_columns rows)) (sym same) held

row_put : (format : Format) (token : ℕ) (row : RowRecord) (c : Content) (old new : Database) (passes : List PassRecord) → Holds format old.trees c passes
    → PutsRow token row old new → Holds format new.trees (with_row c token row None) passes
row_put format token row c old new passes it change = record {
  rows = rows_put old new token row c.rows change it.rows;
  node = it.node;
  self = subst (λ n. HoldsSelf format new.trees it.node n c.boot) (sym (length_set c.rows token row))
      (self_stays format old.trees new.trees it.node (length c.rows) c.boot (change.2.others 0 (λ (e : 0 ≡ 3). omega arith) ∙ change.1.others 0 (λ (e : 0 ≡ 1). omega arith)) it.self);
  pass = passes_stay old.trees new.trees passes (change.2.others 2 (λ (e : 2 ≡ 3). omega arith) ∙ change.1.others 2 (λ (e : 2 ≡ 1). omega arith)) it.pass;
  last = it.last;
}

pass_put : (format : Format) (number : ℕ) (p : PassRecord) (c : Content) (old new : Database) (passes : List PassRecord) → number ≡ length passes + 1
    → Holds format old.trees c passes → IsAppended (pass_row number p) old new → Holds format new.trees (record c { last = Some p }) (passes ++ p ∷ [])
pass_put format number p c old new passes is it change = record {
  rows = rows_stay old.trees new.trees c.rows (change.others 1 (λ (e : 1 ≡ 2). omega arith)) (change.others 3 (λ (e : 3 ≡ 2). omega arith)) it.rows;
  node = it.node;
  self = self_stays format old.trees new.trees it.node (length c.rows) c.boot (change.others 0 (λ (e : 0 ≡ 2). omega arith)) it.self;
  pass = passes_appended old new number passes p is it.pass change;
  last = sym (last_appended None passes p);
}

pub puts : (token : ℕ) (row : RowRecord) (count : ℕ) (pass : Option PassRecord) (c : Content) → Alters (Puts token row (count + 1) pass) c count (with_row c token row pass) (option_to_list pass)
puts token row count None c format old new passes schema it counted change =
    (change.2.schema ∙ change.1.schema ∙ schema, subst (Holds format new.trees (with_row c token row None)) (sym (append-nil passes)) (row_put format token row c old new passes it change))
puts token row count (Some p) c format old new passes schema it counted change =
    let first = row_put format token row c old change.0 passes it change.1 in
    let row_schema : change.0.schema ≡ schema_of format = change.1.2.schema ∙ change.1.1.schema ∙ schema in
    (change.2.schema ∙ row_schema, pass_put format (count + 1) p (with_row c token row None) change.0 new passes (ap (λ n. n + 1) (sym counted)) first change.2)

pub raises : (count : ℕ) (c : Content) → Alters (Raises (c.boot + 1)) c count (with_next_boot c) []
raises count c format old new passes schema it counted change =
    let former = change.was.0 in
    let was = change.was.1 in
    let same = one_self former format old.trees was.node it.node was.tokens (length c.rows) was.boot c.boot was.held it.self in
    let row = version_row (version_of former) was.node was.tokens (c.boot + 1) in
    let former_held : HoldsSelf former new.trees was.node was.tokens (c.boot + 1) =
    record {
      found = row;
      place =
          ap (find (has_rowid (pos 1))) change.self ∙ find-put_row (pos 1) row refl (without_rowid (pos 1) (old.trees 0));
      shows = refl;
    } in
    let held : HoldsSelf format new.trees was.node was.tokens (c.boot + 1) = subst (λ v. HoldsVersion new.trees v was.node was.tokens (c.boot + 1)) same.0 former_held in
    let now : Holds format new.trees (with_next_boot c) passes = record {
      rows = rows_stay old.trees new.trees c.rows (change.others 1 (λ (e : 1 ≡ 0). omega arith)) (change.others 3 (λ (e : 3 ≡ 0). omega arith)) it.rows;
      node = it.node;
      self = subst₂ (λ m n. HoldsSelf format new.trees m n (c.boot + 1)) same.1 same.2 held;
      pass = passes_stay old.trees new.trees passes (change.others 2 (λ (e : 2 ≡ 0). omega arith)) it.pass;
      last = it.last;
    } in
    (change.schema ∙ schema, subst (Holds format new.trees (with_next_boot c)) (sym (append-nil passes)) now)
