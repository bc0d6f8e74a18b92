-- A usable table is read. The connection refuses no query because of the table.
use Rattle.std.proofs.Common.{◌≡◌, ◌≢◌, inl, inr, ℕ, pos, if◌then◌else◌, Bool, true, false, cond, List, [], ◌∷◌, ◌++◌, map, filter, find, Option, Some, None, refl, sym, ap, subst, ◌∙◌}
use Rattle.std.specs.List.Sorted.{IsPermutation}
use Rattle.sqlite_trees.specs.declared.error.StoreError.{StoreError}
use Rattle.sqlite_trees.specs.declared.error.StoreError.TheVariants.{OutOfMemory, Io, Corrupt, Full, Broken, Unstorable}
use Rattle.sqlite_schema.specs.declared.command.Command.{Command}
use Rattle.sqlite_schema.specs.declared.command.Command.TheVariants.{Select, Insert, InsertOr, Update, Delete, CreateTable, CreateIndex, DropTable, DropIndex, Begin, Commit, Rollback, Savepoint as Save, Release, RollbackTo, Nothing, CreateView, DropView, Rows}
use Rattle.sqlite_schema.specs.declared.command.Returning.{Returning}
use Rattle.sqlite_resolve.specs.declared.compiled.Compiled.{Compiled}
use Rattle.sqlite.specs.declared.types.Value.TheVariants.{Null, Int}
use Rattle.sqlite.specs.declared.error.Error.{Error}
use Rattle.sqlite.proofs.Callers.{one_permutation, reads_as}
use Rattle.sqlite.specs.Order.{Row}
use Rattle.sqlite.specs.Term.{Term, eval_all}
use Rattle.sqlite.specs.Query.{IsAnswer, Output, output}
use Rattle.sqlite.specs.Program.{overlay}
use Rattle.sqlite.specs.Tree.{Trees, has_rowid}
use Rattle.sqlite.specs.Effect.{Database, RefusesToRead}
use Rattle.sqlite.specs.Listing.{understood}
use Rattle.sqlite.specs.Given.{IsPlain}
use Rattle.sqlite.specs.State.{State, Shown, IsNotRun, IsNoStatement, FailsToQuery, FailsToShow, store_error}
use Rattle.floor_store.specs.declared.fault.StoreFault.TheVariants.{Memory, Disk, Unusable}
use Rattle.floor_sql.specs.Schema.{IsOfStore, schema_of, IsOfFormat}
use Rattle.floor_sql.specs.Stored.{HoldsVersion, self_columns, floor_columns, drift_columns, version_values}
use Rattle.floor_sql.specs.Shown.{self_shown, floor_shown, drift_shown}
use Rattle.floor_sql.specs.Refusals.{is_want_of_memory, is_of_schema, fault_of}
use Rattle.floor_sql.specs.Text.{select_self, select_floor, select_drift}
use Rattle.floor_sql.specs.Usable.{HasOnly, HasUsableVersion}
use Rattle.floor_sql.proofs.ListLemmas.{kept_by}
use Rattle.floor_sql.proofs.UpdateLemmas.{picks}
use Rattle.floor_sql.proofs.ReadLemmas.{by_param_picks, by_one_picks}
use Rattle.floor_sql.proofs.TextLemmas.{query_over, by_param, by_one, self_read, select_self_is, select_self_plain, floor_read, select_floor_is, select_floor_plain, drift_read, select_drift_is, select_drift_plain}

-- ---- a refusal of the connection

pub of_statement : (s : State) (sql : List ℕ) (params : Row) (e : Error) → IsPlain (understood s.now.schema sql) → IsNoStatement s sql params e → is_of_schema e ≡ false
of_statement s sql params e plain (inl h) = absurd (subst IsPlain h.1 plain)
of_statement s sql params e plain (inr h) = elim h.2 [
  | inl more ↦ ap is_of_schema more.1
  | inr other ↦ elim other [ inl count ↦ ap is_of_schema count.1 | inr clock ↦ ap is_of_schema clock.1 ]
]

pub of_store : (cause : StoreError) → is_of_schema (store_error cause) ≡ false
of_store OutOfMemory = refl
of_store Io = refl
of_store Corrupt = refl
of_store Full = refl
of_store Broken = refl
of_store Unstorable = refl

of_read : (limit : Option ℕ) (command : Command) (db : Database) (params : Row) (e : Error) → RefusesToRead limit command db params e → is_of_schema e ≡ false
of_read limit (Select q names) db params e h = elim h [
  | inl kind ↦ ap is_of_schema kind.0
  | inr other ↦ elim other [ inl sum ↦ ap is_of_schema sum.0 | inr steps ↦ ap is_of_schema steps.0 ]
]
of_read limit (Rows values width names) db params e h = ap is_of_schema h.0
of_read limit (Insert at from) db params e h = ap is_of_schema h
of_read limit (InsertOr at how from clauses) db params e h = ap is_of_schema h
of_read limit (Update at q) db params e h = ap is_of_schema h
of_read limit (Delete at q) db params e h = ap is_of_schema h
of_read limit CreateTable db params e h = ap is_of_schema h
of_read limit (CreateIndex at) db params e h = ap is_of_schema h
of_read limit (DropTable at) db params e h = ap is_of_schema h
of_read limit (DropIndex at) db params e h = ap is_of_schema h
of_read limit Begin db params e h = ap is_of_schema h
of_read limit Commit db params e h = ap is_of_schema h
of_read limit Rollback db params e h = ap is_of_schema h
of_read limit (Save name) db params e h = ap is_of_schema h
of_read limit (Release name) db params e h = ap is_of_schema h
of_read limit (RollbackTo name) db params e h = ap is_of_schema h
of_read limit Nothing db params e h = ap is_of_schema h
of_read limit CreateView db params e h = ap is_of_schema h
of_read limit (DropView at) db params e h = ap is_of_schema h

of_show : (old new : State) (sql : List ℕ) (c : Compiled) (params : Row) (e : Error) (r : Option Returning) → r ≡ None → FailsToShow old new sql c params e r → is_of_schema e ≡ false
of_show old new sql c params e None none h = of_read old.step_limit c.command h.0 params e h.2
of_show old new sql c params e (Some what) none h = absurd (cc)

-- a query that is understood is refused for another cause
of_query : (sql : List ℕ) (params : Row) (old new : State) (e : Error) → IsPlain (understood old.now.schema sql) → FailsToQuery sql params old new e → is_of_schema e ≡ false
unfolding FailsToQuery IsNotRun
of_query sql params old new e plain (inl (inl h)) = of_statement old sql params e plain h.0
of_query sql params old new e plain (inl (inr h)) = ap is_of_schema h.1 ∙ of_store h.0
of_query sql params old new e plain (inr h) =
    let none = (subst IsPlain h.1.is plain).0 in
    of_show old new sql h.0 _ e _ none h.2

pub of_fault : (a b : Bool) → b ≡ false → (if a then Memory else if b then Unusable else Disk) ≢ Unusable
of_fault true b none is = cc
of_fault false true none is = cc
of_fault false false none is = cc

pub no_fault_of_table : (sql : List ℕ) (params : Row) (old new : State) (e : Error) → IsPlain (understood old.now.schema sql) → FailsToQuery sql params old new e → fault_of e ≢ Unusable
no_fault_of_table sql params old new e plain h = of_fault (is_want_of_memory e) (is_of_schema e) (of_query sql params old new e plain h)

-- ---- the one row of a key

module _ {X Y : Type 0} (p : X → Bool) (f : X → Y) where
  none_kept : (xs : List X) → filter p xs ≡ [] → kept_by p f xs ≡ []
  none_kept [] is = refl
  none_kept (a ∷ xs) is = go (p a) is (none_kept xs)
    where
      go : (b : Bool) → cond b (a ∷ filter p xs) (filter p xs) ≡ [] → (filter p xs ≡ [] → kept_by p f xs ≡ []) → cond b (f a ∷ []) [] ++ kept_by p f xs ≡ []
      go true all on = absurd (cc)
      go false all on = on all

  only_kept : (xs : List X) (x : X) → filter p xs ≡ x ∷ [] → kept_by p f xs ≡ f x ∷ []
  only_kept [] x is = absurd (cc)
  only_kept (a ∷ xs) x is = go (p a) is (only_kept xs x)
    where
      go : (b : Bool) → cond b (a ∷ filter p xs) (filter p xs) ≡ x ∷ [] → (filter p xs ≡ x ∷ [] → kept_by p f xs ≡ f x ∷ []) → cond b (f a ∷ []) [] ++ kept_by p f xs ≡ f x ∷ []
      go true all on =
          let same : a ≡ x = cc in
          let rest : filter p xs ≡ [] = cc in
          ap (λ ys. f a ∷ ys) (none_kept xs rest) ∙ ap (λ y. f y ∷ []) same
      go false all on = on all

pub filter_same : {X : Type 0} (p q : X → Bool) → ((x : X) → p x ≡ q x) → (xs : List X) → filter p xs ≡ filter q xs
filter_same p q same [] = refl
filter_same p q same (x ∷ xs) = ap (λ b. cond b (x ∷ filter p xs) (filter p xs)) (same x) ∙ ap (λ ys. cond (q x) (x ∷ ys) ys) (filter_same p q same xs)

-- if exactly one row passes the test, the query shows it
pub only_shown : (filter_by project : List Term) (params : Row) (tree : ℕ) (trees : Trees) (rows : List Row) (found : Row) → overlay trees [] tree ≡ trees tree
    → IsAnswer (query_over tree filter_by project) (overlay trees []) params rows → filter (picks filter_by params) (trees tree) ≡ found ∷ []
    → rows ≡ eval_all project (params ∷ found ∷ []) ∷ []
only_shown filter_by project params tree trees rows found over a one =
    let q = query_over tree filter_by project in
    let env : List Row = params ∷ found ∷ [] in
    let kept : kept_by (picks filter_by params) (λ x. params ∷ x ∷ []) (trees tree) ≡ env ∷ [] = only_kept (picks filter_by params) (λ x. params ∷ x ∷ []) (trees tree) found one in
    let staged : a.staged ≡ env ∷ [] = a.grouped ∙ subst (λ rows. kept_by (picks filter_by params) (λ x. params ∷ x ∷ []) rows ≡ env ∷ []) (sym over) kept in
    let out : a.kept ≡ output q env ∷ [] = a.distinct ∙ ap (map (output q)) staged in
    let ordered : a.ordered ≡ output q env ∷ [] = one_permutation (output q env) a.ordered (subst (λ os. IsPermutation os a.ordered) out a.same) in
    a.shown ∙ ap (map (λ (o : Output). o.1)) ordered

pub self_shows : (old new : State) (rows : List Row) (values : Row) → IsOfStore old.now.schema → Shown select_self [] old new rows
    → HasOnly (old.now.trees 0) 1 self_columns values → (shown : Row) × (rows ≡ shown ∷ []) × (self_shown shown ≡ values)
self_shows old new rows values has h it =
    let db = old.now.trees in
    let schema = old.now.schema in
    let is = select_self_is schema has in
    let read = reads_as select_self [] old new schema refl _ is.0 (select_self_plain schema has) is.1 rows h in
    let one = filter_same (picks by_one []) (has_rowid (pos 1)) (by_one_picks []) (db 0) ∙ it.only in
    (self_columns it.found, only_shown by_one self_read [] 0 db rows it.found refl (read.answer Null) one, it.shows)

pub floor_shows : (old new : State) (rows : List Row) (token : ℕ) (values : Row) → IsOfStore old.now.schema → Shown select_floor (Int (pos token) ∷ []) old new rows
    → HasOnly (old.now.trees 1) token floor_columns values → (shown : Row) × (rows ≡ shown ∷ []) × (floor_shown shown ≡ values)
floor_shows old new rows token values has h it =
    let db = old.now.trees in
    let params : Row = Int (pos token) ∷ [] in
    let schema = old.now.schema in
    let is = select_floor_is schema has in
    let read = reads_as select_floor params old new schema refl _ is.0 (select_floor_plain schema has) is.1 rows h in
    let one = filter_same (picks by_param params) (has_rowid (pos token)) (by_param_picks (pos token) []) (db 1) ∙ it.only in
    (floor_columns it.found, only_shown by_param floor_read params 1 db rows it.found refl (read.answer Null) one, it.shows)

pub drift_shows : (old new : State) (rows : List Row) (token : ℕ) (values : Row) → IsOfFormat old.now.schema → Shown select_drift (Int (pos token) ∷ []) old new rows
    → HasOnly (old.now.trees 3) token drift_columns values → (shown : Row) × (rows ≡ shown ∷ []) × (drift_shown shown ≡ values)
drift_shows old new rows token values has h it =
    let db = old.now.trees in
    let params : Row = Int (pos token) ∷ [] in
    let read = reads_as select_drift params old new (schema_of has.0) has.1 _ (select_drift_is has.0).0 (select_drift_plain has.0) (select_drift_is has.0).1 rows h in
    let one = filter_same (picks by_param params) (has_rowid (pos token)) (by_param_picks (pos token) []) (db 3) ∙ it.only in
    (drift_columns it.found, only_shown by_param drift_read params 3 db rows it.found refl (read.answer Null) one, it.shows)

pub find_only : {X : Type 0} (p : X → Bool) (xs : List X) (found : X) → filter p xs ≡ found ∷ [] → find p xs ≡ Some found
find_only p [] found is = absurd (cc)
find_only p (x ∷ xs) found is = go (p x) is (find_only p xs found)
  where
    go : (b : Bool) → cond b (x ∷ filter p xs) (filter p xs) ≡ found ∷ [] → (filter p xs ≡ found ∷ [] → find p xs ≡ Some found)
        → cond b (Some x) (find p xs) ≡ Some found
    go true all on = let first : x ≡ found = cc in ap Some first
    go false all on = on all

-- the one row of `self` names one node and one number of tokens
pub self_is : (trees : Trees) (version own count boot node tokens : ℕ) → HoldsVersion trees version own count boot → HasUsableVersion trees version node tokens
    → (own ≡ node) × (count ≡ tokens)
self_is trees version own count boot node tokens it has =
    let both : Some it.found ≡ Some has.only.found = sym it.place ∙ find_only (has_rowid (pos 1)) (trees 0) has.only.found has.only.only in
    let found : it.found ≡ has.only.found = cc in
    let same : version_values version own count boot ≡ version_values version node tokens has.boot = sym it.shows ∙ ap self_columns found ∙ has.only.shows in
    (cc, cc)
