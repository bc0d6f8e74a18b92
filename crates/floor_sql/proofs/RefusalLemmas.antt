-- A statement that is understood is refused for another cause than its text.
use Rattle.std.proofs.Common.{◌≡◌, ◌≢◌, ◌⊎◌, inl, inr, ℕ, ℤ, List, [], append-nil, Bool, true, false, MatchBool, Option, Some, None, option_map, fold, slice_get, Ok, Err, Result, IsOk, refl, sym, ap, subst, subst₂, ◌∙◌}
use Rattle.sqlite_schema.specs.declared.command.Command.{Command}
use Rattle.sqlite_schema.specs.declared.command.Command.TheVariants.{Insert, Update, CreateTable}
use Rattle.sqlite_schema.specs.declared.command.Source.{Source}
use Rattle.sqlite_schema.specs.declared.command.Source.TheVariants as source
use Rattle.sqlite_schema.specs.declared.program.Program.{Program}
use Rattle.sqlite_schema.specs.declared.schema.Constraint.TheVariants.{ForeignKey}
use Rattle.sqlite_schema.specs.declared.schema.Keys.{Keys}
use Rattle.sqlite_schema.specs.declared.schema.Schema.{Schema}
use Rattle.sqlite_schema.specs.declared.schema.Table.{Table}
use Rattle.sqlite_resolve.specs.declared.compiled.Compiled.{Compiled}
use Rattle.sqlite_rules.specs.declared.error.Refusal.{Refusal}
use Rattle.sqlite_rules.specs.declared.error.Refusal.TheVariants.{Violates, Mismatch, NoRowid, BadReference, TooDeep}
use Rattle.sqlite_catalog.specs.declared.error.Refusal as alter
use Rattle.sqlite_catalog.specs.declared.error.Refusal.TheVariants as why
use Rattle.sqlite_catalog.specs.Calls.{RefusesTable}
use Rattle.sqlite.specs.Compile.{table_defined_by}
use Rattle.sqlite.specs.Order.{Row}
use Rattle.sqlite.specs.Tree.{Trees}
use Rattle.sqlite.specs.Edit.{Edit, edit_of}
use Rattle.sqlite.specs.declared.run.Mode.{Mode}
use Rattle.sqlite.specs.declared.error.Error.{Error}
use Rattle.sqlite.specs.declared.error.Error.TheVariants.{SqliteFailure, InvalidQuery, ExecuteReturnedResults}
use Rattle.sqlite.specs.declared.error.ErrorCode.TheVariants as code
use Rattle.sqlite.specs.Effect.{Database, RefusesQuery, edit_error, alter_error}
use Rattle.sqlite.specs.Rows.{Part, Task, Written, Gives, Sourced, Edited, sequence, Counter, CounterIn, Counts, CountsIn, Inserts, Updates, higher, count_of, rowids_for}
use Rattle.sqlite.specs.Does.{Does, AtPlace, MakesTable, MakesSequence, OnRows, Concludes, sequence_text}
use Rattle.sqlite.specs.Given.{IsPlain}
use Rattle.sqlite.specs.Listing.{understood}
use Rattle.sqlite.specs.State.{State, mode_of, IsNotRun, IsMisplaced, RunsCommand, ExecutesIn, ExecutesInside, IsUnchanged, shows_rows, text_of}
use Rattle.sqlite.specs.Clock.{timed}
use Rattle.sqlite.specs.Steps.{FailsToCommit}
use Rattle.sqlite.proofs.Callers.{command_of, statement_of}
use Rattle.floor_store.specs.declared.fault.StoreFault.{StoreFault}
use Rattle.floor_store.specs.declared.fault.StoreFault.TheVariants.{Unusable}
use Rattle.floor_sql.specs.Refusals.{is_want_of_memory, is_of_schema, fault_of, IsFaultOf}
use Rattle.floor_sql.proofs.TextLemmas.{sequence_is}
use Rattle.floor_sql.proofs.UsableLemmas.{of_statement, of_store, of_fault}

-- ---- the parts of a statement

then_free : {A B : Type 0} {e : Error} {Stops : Option Error → Type 0} {Goes Rest : A → Type 0}
    → ((stop : Option Error) × Stops stop × (◌≡◌ {A = Result B (Option Error)} (Err (Some e)) (Err stop))) ⊎ ((a : A) × Goes a × Rest a)
    → (Stops (Some e) → is_of_schema e ≡ false) → ((a : A) → Rest a → is_of_schema e ≡ false) → is_of_schema e ≡ false
then_free {e = e} {Stops = Stops} (inl h) stop next =
    let same : ◌≡◌ {A = Option Error} h.0 (Some e) = let is = h.2 in cc in
    stop (subst Stops same h.1)
then_free (inr h) stop next = next h.0 h.2

match_free : {X Y : Type 0} (e : Error) (b : Bool) → MatchBool b X Y → (X → is_of_schema e ≡ false) → (Y → is_of_schema e ≡ false) → is_of_schema e ≡ false
match_free e true h first second = first h
match_free e false h first second = second h

of_edit : (refusal : Refusal) → is_of_schema (edit_error refusal) ≡ false
of_edit (Violates rule) = refl
of_edit Mismatch = refl
of_edit NoRowid = refl
of_edit BadReference = refl
of_edit TooDeep = refl

edited_free : (schema : Schema) (keys : Keys) (db : Trees) (edit : Edit) (e : Error) → Edited schema keys db edit (Err (Some e)) → is_of_schema e ≡ false
edited_free schema keys db edit e h = go h.0 h.2
  where
    go : (refusal : Option Refusal) → Some e ≡ option_map edit_error refusal → is_of_schema e ≡ false
    go None is = absurd (cc)
    go (Some refusal) is = let same : e ≡ edit_error refusal = cc in ap is_of_schema same ∙ of_edit refusal

query_free : (limit : Option ℕ) (db : Database) (q : Program) (params : Row) (e : Error) → RefusesQuery limit db q params e → is_of_schema e ≡ false
query_free limit db q params e (inl kind) = ap is_of_schema kind.0
query_free limit db q params e (inr (inl sum)) = ap is_of_schema sum.0
query_free limit db q params e (inr (inr steps)) = ap is_of_schema steps.0

sourced_free : (limit : Option ℕ) (db : Database) (params : Row) (from : Source) (e : Error) → Sourced limit db params from (Err (Some e)) → is_of_schema e ≡ false
sourced_free limit db params (source.Values terms width) e (inl kind) = ap is_of_schema kind.0
sourced_free limit db params (source.Values terms width) e (inr steps) = ap is_of_schema steps.0
sourced_free limit db params (source.Query q) e h = query_free limit db q params e h

counter_free : (task : Task) (db : Trees) (counters : Option Table) (e : Error) → CounterIn task db counters (Err (Some e)) → is_of_schema e ≡ false
counter_free task db None e h = let same : e ≡ InvalidQuery = cc in ap is_of_schema same
counter_free task db (Some counters) e h = absurd (cc)

counts_free : (task : Task) (db : Trees) (counter : Option Row) (top : ℤ) (counters : Option Table) (e : Error) → CountsIn task db counter top counters (Err (Some e)) → is_of_schema e ≡ false
counts_free task db counter top None e h = let same : e ≡ InvalidQuery = cc in ap is_of_schema same
counts_free task db counter top (Some counters) e h = edited_free task.schema task.keys db _ e h

gives_free : {A : Type 0} (a : A) (e : Error) → Gives a (Err (Some e)) → is_of_schema e ≡ false
gives_free a e h = absurd (cc)

counter_part : (task : Task) (db : Trees) (e : Error) → Counter task db (Err (Some e)) → is_of_schema e ≡ false
counter_part task db e h = match_free e task.table.is_counted h (counter_free task db (sequence task.schema) e) (gives_free None e)

counts_part : (task : Task) (db : Trees) (counter : Option Row) (top : ℤ) (e : Error) → Counts task db counter top (Err (Some e)) → is_of_schema e ≡ false
counts_part task db counter top e h = match_free e _ h (counts_free task db counter top (sequence task.schema) e) (gives_free db e)

inserts_free : (task : Task) (from : Source) (db : Trees) (e : Error) → Inserts task from db (Err (Some e)) → is_of_schema e ≡ false
inserts_free task from db e h =
    then_free h (λ stop. sourced_free task.limit (record { schema = task.schema; trees = db }) _ from e stop)
    (λ rows given. then_free given (λ stop. counter_part task db e stop)
    (λ counter counted. then_free counted (λ stop. edited_free _ _ _ _ e stop)
    (λ mid edited. then_free edited
    (λ stop. counts_part task mid counter
    (fold higher (count_of counter) (edit_of db task.table [] (rowids_for task.table (count_of counter)) 0 rows).news) e stop) (λ next done. absurd (cc)))))

updates_free : (task : Task) (q : Program) (params : Row) (db : Trees) (e : Error) → Updates task q params db (Err (Some e)) → is_of_schema e ≡ false
updates_free task q params db e h =
    then_free h (λ stop. query_free task.limit (record { schema = task.schema; trees = db }) q params e stop)
    (λ rows given. then_free given (λ stop. edited_free _ _ _ _ e stop) (λ next done. absurd (cc)))

concludes_free : (task : Task) (mode : Mode) (w : Written) (e : Error) → Concludes task mode None w (Err (Some e)) → is_of_schema e ≡ false
concludes_free task mode w e h = then_free h (λ stop. let same : e ≡ SqliteFailure (code.ConstraintViolation ForeignKey) = let is = stop.1 in cc in ap is_of_schema same)
    (λ in_doubt given. then_free given (λ stop. absurd (cc)) (λ rows done. absurd (cc)))

makes_free : (text : List ℕ) → IsOk (table_defined_by text) → (db : Database) (e : Error) → MakesTable text db (Err (Some e)) → is_of_schema e ≡ false
makes_free text is db e (inl h) = ap is_of_schema h.1
makes_free text is db e (inr h) = go h.0 h.1 h.2
  where
    go : (reason : alter.Refusal) → RefusesTable db.schema text reason → e ≡ alter_error reason → is_of_schema e ≡ false
    go (why.Invalid fault) refused same = let bad = subst IsOk refused is in absurd (cc)
    go why.NameTaken refused same = ap is_of_schema same
    go why.BadName refused same = ap is_of_schema same
    go why.BadKey refused same = ap is_of_schema same
    go why.BadText refused same = ap is_of_schema same
    go why.TooBig refused same = ap is_of_schema same
    go (why.Violates rule) refused same = ap is_of_schema same

-- ---- what a statement does

-- the commands of a store, of which a table is made by a text that defines one
abbrev pub IsOwn : List ℕ → Command → Type 0
IsOwn text (Insert at from) = Unit {0}
IsOwn text (Update at q) = Unit {0}
IsOwn text CreateTable = IsOk (table_defined_by text)
IsOwn text _ = ⊥

at_place_free : {X A : Type 0} (P : X → Part A) (x : Option X) (e : Error) → AtPlace P x (Err (Some e)) → ((a : X) → P a (Err (Some e)) → is_of_schema e ≡ false) → is_of_schema e ≡ false
at_place_free P None e h next = let same : e ≡ InvalidQuery = cc in ap is_of_schema same
at_place_free P (Some x) e h next = next x h

sequence_part : (db : Database) (e : Error) → MakesSequence db (Err (Some e)) → is_of_schema e ≡ false
sequence_part db e h = match_free e _ h (makes_free sequence_text sequence_is db e) (gives_free db e)

inserted_free : (task : Task) (mode : Mode) (at : ℕ) (from : Source) (db : Trees) (e : Error) → OnRows task mode None (Insert at from) db (Err (Some e)) → is_of_schema e ≡ false
inserted_free task mode at from db e h = then_free h (λ stop. inserts_free task from db e stop) (λ w done. concludes_free task mode w e done)

updated_free : (task : Task) (mode : Mode) (at : ℕ) (q : Program) (db : Trees) (e : Error) → OnRows task mode None (Update at q) db (Err (Some e)) → is_of_schema e ≡ false
updated_free task mode at q db e h = then_free h (λ stop. updates_free task q task.params db e stop) (λ w done. concludes_free task mode w e done)

abbrev task_of : Option ℕ → Mode → Row → Database → Table → Task
task_of limit mode params db table = record { limit = limit; keys = mode.keys; schema = db.schema; table = table; params = params }

does_free : (limit : Option ℕ) (mode : Mode) (params : Row) (db : Database) (text : List ℕ) (command : Command) (e : Error) → IsOwn text command
    → Does limit mode params db text None command (Err (Some e)) → is_of_schema e ≡ false
does_free limit mode params db text (Insert at from) e own h =
    at_place_free (λ table. OnRows (task_of limit mode params db table) mode None (Insert at from) db.trees) (slice_get db.schema.tables at) e h
    (λ table on. inserted_free (task_of limit mode params db table) mode at from db.trees e on)
does_free limit mode params db text (Update at q) e own h =
    at_place_free (λ table. OnRows (task_of limit mode params db table) mode None (Update at q) db.trees) (slice_get db.schema.tables at) e h
    (λ table on. updated_free (task_of limit mode params db table) mode at q db.trees e on)
does_free limit mode params db text CreateTable e own h =
    then_free h (λ stop. then_free stop (λ first. makes_free text own db e first) (λ after counted. sequence_part after e counted))
    (λ after done. absurd (cc))
does_free limit mode params db text _ e own h = absurd own

misplaced_free : (s : State) (command : Command) (e : Error) → IsMisplaced s command e → is_of_schema e ≡ false
misplaced_free s command e (inl h) = ap is_of_schema h.0
misplaced_free s command e (inr h) = ap is_of_schema h.0

module _ (sql : List ℕ) (params : Row) (old new : State) (schema : Schema) (has : old.now.schema ≡ schema) (command : Command) (is : command_of (understood schema sql) ≡ command)
    (plain : IsPlain (understood schema sql)) (own : IsOwn (statement_of sql (understood schema sql)) command) (e : Error) where
  command_free : (c : Compiled) → understood old.now.schema sql ≡ Ok c → (now : ℕ) → RunsCommand old new sql c (timed params c.formats now) (Err e) → is_of_schema e ≡ false
  command_free c known now (inl (inl misplaced, same)) = misplaced_free old c.command e misplaced
  command_free c known now (inl (inr may, same)) =
      let all = sym known ∙ ap (λ s. understood s sql) has in
      let bare = subst IsPlain (sym all) plain in
      let run : Does old.step_limit (mode_of old) params old.now (text_of sql c) None c.command (Err (Some e)) = rw (bare.0, bare.1, append-nil params) at may.1 in
      let whole = subst₂ (λ k t. Does old.step_limit (mode_of old) params old.now t None k (Err (Some e))) (ap command_of all ∙ is) (ap (statement_of sql) all) run in
      does_free old.step_limit (mode_of old) params old.now _ command e own whole
  command_free c known now (inr fails) = ap is_of_schema fails.1 ∙ of_store fails.0

  alone_free : (shows : Bool) (c : Compiled) → understood old.now.schema sql ≡ Ok c → (now : ℕ)
      → MatchBool shows ((◌≡◌ {A = Result ℕ Error} (Err e) (Err ExecuteReturnedResults)) × IsUnchanged old new)
      (RunsCommand old new sql c (timed params c.formats now) (Err e)) → is_of_schema e ≡ false
  alone_free true c known now h = let same : e ≡ ExecuteReturnedResults = let one = h.0 in cc in ap is_of_schema same
  alone_free false c known now h = command_free c known now h

  pub inside_free : ExecutesInside 0 sql params old new (Err e) → is_of_schema e ≡ false
  unfolding ExecutesIn IsNotRun
  inside_free (inl (inl (inl h), left)) = of_statement old sql params e (subst (λ s. IsPlain (understood s sql)) (sym has) plain) h.0
  inside_free (inl (inl (inr fails), left)) = ap is_of_schema fails.1 ∙ of_store fails.0
  inside_free (inl (inr run, left)) = alone_free (shows_rows false run.0) run.0 run.1.is run.1.now run.2
  inside_free (inr h) = ap is_of_schema h.1

pub not_of_text : (e : Error) → is_of_schema e ≡ false → fault_of e ≢ Unusable
not_of_text e free = of_fault (is_want_of_memory e) (is_of_schema e) free

pub commit_free : (old new : State) (e : Error) → FailsToCommit old new e → is_of_schema e ≡ false
commit_free old new e (inl fails) = ap is_of_schema fails.1 ∙ of_store fails.0
commit_free old new e (inr h) = ap is_of_schema h.0

pub never_of_text : (sql : List ℕ) (params : Row) (old new : State) (schema : Schema) → old.now.schema ≡ schema → (command : Command) → command_of (understood schema sql) ≡ command
    → IsPlain (understood schema sql) → IsOwn (statement_of sql (understood schema sql)) command → (fault : StoreFault)
    → IsFaultOf (λ error. ExecutesInside 0 sql params old new (Err error)) fault → fault ≢ Unusable
never_of_text sql params old new schema has command is plain own fault cause =
    subst (λ f. f ≢ Unusable) (sym cause.is) (not_of_text cause.error (inside_free sql params old new schema has command is plain own cause.error cause.refused))
