-- A store in which the new tokens are enrolled.
use Rattle.std.proofs.Common.{◌≡◌, ℕ, suc, ◌+◌, ◌<◌, Bool, true, false, cond, not, nat_lt, slice_index_or, Option, Some, None, List, [], ◌∷◌, ◌++◌, length, map, All, refl, sym, ap, subst, ◌∙◌, append-nil, arith}
use Rattle.std.proofs.lemmas.List.Elements.{All-cons, All-nil}
use Rattle.sqlite.specs.Effect.{Database}
use Rattle.std.specs.List.{cons_option}
use Rattle.floor_store.specs.Content.{Content}
use Rattle.floor_store.specs.Records.{PassRecord}
use Rattle.seated_store.specs.Seats.{row_at}
use Rattle.floor_sql.specs.Held.{HasTablesAs}
use Rattle.floor_sql.specs.declared.schema.Format.TheVariants.{Named}
use Rattle.floor_sql.specs.Staged.{passes_in, with_puts}
use Rattle.floor_sql.specs.declared.put.Put.{Put}
use Rattle.floor_sql.proofs.ContentLemmas.{one_content}
use Rattle.roster_sql.specs.Enrolled.{Enrols, with_floors}
use Rattle.roster_sql.specs.Made.{IsStoreOf}
use Rattle.roster_sql.specs.Roster.{BondRecord, HoldsBond, HoldsNamed, HoldsRoster}
use Rattle.roster_sql.specs.declared.entry.Entry.{Entry}
use Rattle.named_store.specs.Floors.{no_entry, raised_floor, seeded_floor}
use Rattle.named_store.specs.Opened.{EnrolsNew, HasGrown, HasNames, floors_in, new_floors, rises, with_new}
use Rattle.named_store.specs.Seating.{has_name, new_entries, new_from, new_places, rows_after}

-- what the reads show of one store
pub has_names : (db : Database) (node own tokens : ℕ) (roster : List Entry) (bond : BondRecord) → own ≡ node → length roster ≡ tokens
    → IsStoreOf Named db own tokens → HoldsRoster db.trees roster → HoldsBond db.trees bond → HasNames db node roster bond
has_names db node own tokens roster bond same counted store held bound = record {
  store = subst (λ n. IsStoreOf Named db node n) (sym counted) (subst (λ n. IsStoreOf Named db n tokens) same store);
  entries = held;
  bond = bound;
}

-- ---- places and entries of the new tokens go together

as_many : (t : Bool) (p : ℕ) (e : Entry) (places : List ℕ) (entries : List Entry) → length places ≡ length entries
    → length (cond t places (p ∷ places)) ≡ length (cond (not t) (e ∷ entries) entries)
as_many true p e places entries is = is
as_many false p e places entries is = ap suc is

pub as_many_from : (p : ℕ) (roster names : List Entry) → length (new_from p roster names) ≡ length (new_entries roster names)
as_many_from p roster [] = refl
as_many_from p roster (e ∷ names) =
    as_many (has_name roster e.name) p e (new_from (p + 1) roster names) (new_entries roster names) (as_many_from (p + 1) roster names)

rest_within : (t : Bool) (p n : ℕ) (places : List ℕ) → All (λ place. place < p + 1 + n) places → All (λ place. place < p + suc n) (cond t places (p ∷ places))
rest_within true p n places all = λ k d low. let x = all k d low in omega (arith, x)
rest_within false p n places all =
    All-cons (λ place. place < p + suc n) p places (omega arith) (λ k d low. let x = all k d low in omega (arith, x))

within_from : (p : ℕ) (roster names : List Entry) → All (λ place. place < p + length names) (new_from p roster names)
within_from p roster [] = All-nil (λ place. place < p + 0)
within_from p roster (e ∷ names) =
    rest_within (has_name roster e.name) p (length names) (new_from (p + 1) roster names) (within_from (p + 1) roster names)

-- each place is one of the tokens
pub places_within : (roster names : List Entry) → All (λ place. place < length names) (new_places roster names)
places_within roster names = λ k d low. let x = within_from 0 roster names k d low in omega (arith, x)

pub is_nil : {A : Type 0} (xs : List A) → length xs ≡ 0 → xs ≡ []
is_nil [] is = refl
is_nil (x ∷ xs) is = absurd cc

-- ---- the tables

-- no put has a pass
no_pass : (roster : List Entry) (seats : List ℕ) (c : Content) → passes_in (rises roster seats c) ≡ []
no_pass roster [] c = refl
no_pass roster (seat ∷ seats) c = go (nat_lt seat (length roster)) (nat_lt (row_at c.rows seat).next floor) (no_pass roster seats c)
  where
    floor : ℕ
    floor = raised_floor roster (floors_in c) (slice_index_or roster seat no_entry).seed (row_at c.rows seat).next

    put : Put
    put = record { token = seat; row = record (row_at c.rows seat) { next = floor }; pass = None }

    go : (t u : Bool) → passes_in (rises roster seats c) ≡ []
        → passes_in (cons_option (cond t (cond u (Some put) None) None) (rises roster seats c)) ≡ []
    go true true is = is
    go true false is = is
    go false u is = is

module _ (node : ℕ) (roster names : List Entry) (floors seats : List ℕ) where
  -- what a store with these entries holds
  pub holds_named : (own : BondRecord) (db : Database) (c : Content) (count : ℕ) → HasNames db node roster own
      → (tables : HasTablesAs Named db node (length roster) c count) → HoldsNamed db c tables.passes roster own
  holds_named own db c count has tables =
      record { schema = has.store.schema; holds = tables.holds; roster = has.entries; counted = sym tables.of_tokens; bond = has.bond }

  nothing_new : (c : Content) → new_places roster names ≡ [] → rises roster seats c ≡ [] → with_new roster names floors seats c ≡ c
  nothing_new c none low = let same : new_floors roster names floors c ≡ [] = ap (λ (l : List ℕ). map (seeded_floor roster (floors_in c) names floors) l) none in
      (λ i. with_floors (same i) (with_puts c (low i))) ∙ (λ i. record { rows = append-nil c.rows i; boot = c.boot; last = c.last })

  -- nothing is new
  pub grown_none : (own : BondRecord) (old new : Database) (c : Content) (count : ℕ) → new ≡ old → new_entries roster names ≡ [] → rises roster seats c ≡ []
      → HasNames old node roster own → HasTablesAs Named old node (length roster) c count → HasGrown node roster names floors seats own old new c
  unfolding holds_named
  grown_none own old new c count same none low has tables =
      let was = holds_named own old c count has tables in
      let places : new_places roster names ≡ [] = is_nil (new_places roster names) (as_many_from 0 roster names ∙ ap (λ (es : List Entry). length es) none) in
      let content : with_new roster names floors seats c ≡ c = nothing_new c places low in
      let rows : rows_after roster names ≡ roster = ap (λ (es : List Entry). roster ++ es) none ∙ append-nil roster in
      let Now : Database → Content → List Entry → Type 0 = λ db d r. (h : HoldsNamed db d tables.passes r own) × (h.holds.node ≡ node) in
      let now : Now new (with_new roster names floors seats c) (rows_after roster names) =
      subst (λ db. Now db (with_new roster names floors seats c) (rows_after roster names)) (sym same)
      (subst (λ d. Now old d (rows_after roster names)) (sym content) (subst (λ r. Now old c r) (sym rows) (was, tables.of_node))) in
      record { content = c; passes = tables.passes; was = was; now = now.0; of_node = tables.of_node; same_node = now.1; seen = sym content }

  -- tokens are enrolled
  pub grown_enrolled : (own : BondRecord) (old mid new : Database) (c d : Content) (count number tokens : ℕ) (puts : List Put) (fresh : List ℕ) (entries : List Entry)
      → mid ≡ old → puts ≡ rises roster seats c → fresh ≡ new_floors roster names floors c → entries ≡ new_entries roster names → HasNames old node roster own
      → HasTablesAs Named old node (length roster) c count → Enrols node (length roster) count puts fresh entries mid new
      → HasTablesAs Named new node tokens d number → HasGrown node roster names floors seats own old new d
  unfolding holds_named
  grown_enrolled own old mid new c d count number tokens puts fresh entries same puts_are floors_are entries_are has tables enrols after =
      let was = holds_named own old c count has tables in
      let Becomes : List Put → List ℕ → List Entry → Database → Type 0 = λ ps fs es db. Enrols node (length roster) count ps fs es db new in
      let change : Becomes (rises roster seats c) (new_floors roster names floors c) (new_entries roster names) old =
      subst (λ db. Becomes (rises roster seats c) (new_floors roster names floors c) (new_entries roster names) db) same
      (subst (λ ps. Becomes ps (new_floors roster names floors c) (new_entries roster names) mid) puts_are
      (subst (λ fs. Becomes puts fs (new_entries roster names) mid) floors_are
      (subst (λ es. Becomes puts fresh es mid) entries_are enrols))) in
      let Now : List PassRecord → Type 0 = λ ps.
      (h : HoldsNamed new (with_new roster names floors seats c) ps (rows_after roster names) own) × (h.holds.node ≡ node) in
      let none : tables.passes ++ passes_in (rises roster seats c) ≡ tables.passes = ap (λ (ps : List PassRecord). tables.passes ++ ps) (no_pass roster seats c) ∙ append-nil tables.passes in
      let now : Now tables.passes = subst Now none (change.same c tables.passes roster own was tables.counted) in
      record {
        content = c;
        passes = tables.passes;
        was = was;
        now = now.0;
        of_node = tables.of_node;
        same_node = now.1;
        seen = one_content Named Named new.trees d (with_new roster names floors seats c) after.passes tables.passes after.holds now.0.holds;
      }

  -- the enrolment of the new tokens
  pub enrols_new : (old new : Database) (c : Content) (count : ℕ) (puts : List Put) (fresh : List ℕ) (entries : List Entry) → puts ≡ rises roster seats c → fresh ≡ new_floors roster names floors c
      → entries ≡ new_entries roster names → HasTablesAs Named old node (length roster) c count → Enrols node (length roster) count puts fresh entries old new
      → EnrolsNew node roster names floors seats old new
  enrols_new old new c count puts fresh entries puts_are floors_are entries_are tables enrols = record {
    content = c;
    passes = tables.passes;
    holds = tables.holds;
    enrols = subst (λ (n : ℕ). Becomes n (rises roster seats c) (new_floors roster names floors c) (new_entries roster names)) (sym tables.counted)
        (subst (λ ps. Becomes count ps (new_floors roster names floors c) (new_entries roster names)) puts_are
        (subst (λ fs. Becomes count puts fs (new_entries roster names)) floors_are
        (subst (λ es. Becomes count puts fresh es) entries_are enrols)));
  }
    where
      Becomes : ℕ → List Put → List ℕ → List Entry → Type 0
      Becomes n ps fs es = Enrols node (length roster) n ps fs es old new
