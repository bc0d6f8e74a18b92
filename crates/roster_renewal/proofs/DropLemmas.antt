-- What a statement that drops a table makes of the tables, and that it is refused for another cause than its text.
use Rattle.std.proofs.Common.{◌≡◌, ◌≢◌, ◌⊎◌, inl, inr, ℕ, List, [], Bool, true, false, MatchBool, Option, Some, None, option_map, Ok, Err, Result, refl, sym, ap, subst, subst₂, ◌∙◌}
use Rattle.sqlite_schema.specs.declared.command.Command.{Command}
use Rattle.sqlite_schema.specs.declared.command.Command.TheVariants.{DropTable}
use Rattle.sqlite_schema.specs.declared.schema.Constraint.TheVariants.{ForeignKey}
use Rattle.sqlite_schema.specs.declared.schema.Keys.{Keys}
use Rattle.sqlite_schema.specs.declared.schema.Schema.{Schema}
use Rattle.sqlite_schema.specs.declared.schema.Table.{Table}
use Rattle.sqlite_resolve.specs.declared.compiled.Compiled.{Compiled}
use Rattle.sqlite_rules.specs.declared.error.Refusal.{Refusal}
use Rattle.sqlite_rules.specs.declared.error.Refusal.TheVariants.{Violates, Mismatch, NoRowid, BadReference, TooDeep}
use Rattle.sqlite.specs.Clock.{timed}
use Rattle.sqlite.specs.Does.{AtPlace, Does, Drops, Empties, Tally, Uncounts, is_acted_on}
use Rattle.sqlite.specs.Edit.{Edit}
use Rattle.sqlite.specs.Effect.{Database, edit_error}
use Rattle.sqlite.specs.Listing.{understood}
use Rattle.sqlite.specs.Rows.{Edited, Gives, Task}
use Rattle.sqlite.specs.State.{State, mode_of, IsNotRun, IsMisplaced, IsUnchanged, RunsCommand, Executes, ExecutesIn, ExecutesInside, shows_rows, text_of}
use Rattle.sqlite.specs.Tree.{Trees}
use Rattle.sqlite.specs.declared.error.Error.{Error}
use Rattle.sqlite.specs.declared.error.Error.TheVariants.{ExecuteReturnedResults, SqliteFailure}
use Rattle.sqlite.specs.declared.error.ErrorCode.TheVariants as code
use Rattle.sqlite.specs.declared.run.Mode.{Mode}
use Rattle.sqlite.proofs.Callers.{IsPlain, command_of, runs_as, statement_of}
use Rattle.floor_store.specs.declared.fault.StoreFault.{StoreFault}
use Rattle.floor_store.specs.declared.fault.StoreFault.TheVariants.{Unusable}
use Rattle.floor_sql.specs.Refusals.{IsFaultOf, is_of_schema}
use Rattle.floor_sql.proofs.RefusalLemmas.{not_of_text}
use Rattle.floor_sql.proofs.UpdateLemmas.{same_value, went}
use Rattle.floor_sql.proofs.UsableLemmas.{of_statement, of_store}
use Rattle.roster_renewal.proofs.TextLemmas.{IsDrop}

-- ---- the parts of the statement

then_free : {A B : Type 0} {e : Error} {Stops : Option Error → Type 0} {Goes Rest : A → Type 0}
    → ((stop : Option Error) × Stops stop × (◌≡◌ {A = Result B (Option Error)} (Err (Some e)) (Err stop))) ⊎ ((a : A) × Goes a × Rest a)
    → (Stops (Some e) → is_of_schema e ≡ false) → ((a : A) → Rest a → is_of_schema e ≡ false) → is_of_schema e ≡ false
then_free {e = e} {Stops = Stops} (inl h) stop next =
    let same : ◌≡◌ {A = Option Error} h.0 (Some e) = let is = h.2 in cc in
    stop (subst Stops same h.1)
then_free (inr h) stop next = next h.0 h.2

of_edit : (refusal : Refusal) → is_of_schema (edit_error refusal) ≡ false
of_edit (Violates rule) = refl
of_edit Mismatch = refl
of_edit NoRowid = refl
of_edit BadReference = refl
of_edit TooDeep = refl

edited_free : (schema : Schema) (keys : Keys) (db : Trees) (edit : Edit) (e : Error) → Edited schema keys db edit (Err (Some e)) → is_of_schema e ≡ false
edited_free schema keys db edit e h = go h.0 h.2
  where
    go : (refusal : Option Refusal) → Some e ≡ option_map edit_error refusal → is_of_schema e ≡ false
    go None is = absurd (cc)
    go (Some refusal) is = let same : e ≡ edit_error refusal = cc in ap is_of_schema same ∙ of_edit refusal

match_free : {X Y : Type 0} (e : Error) (b : Bool) → MatchBool b X Y → (X → is_of_schema e ≡ false) → (Y → is_of_schema e ≡ false) → is_of_schema e ≡ false
match_free e true h first second = first h
match_free e false h first second = second h

gives_free : {A : Type 0} (a : A) (e : Error) → Gives a (Err (Some e)) → is_of_schema e ≡ false
gives_free a e h = absurd (cc)

emptied_free : (task : Task) (db : Trees) (e : Error) → Empties task db (Err (Some e)) → is_of_schema e ≡ false
emptied_free task db e h = match_free e (is_acted_on task.schema task.keys task.table) h (edited_free task.schema task.keys db _ e) (gives_free db e)

-- the table counts no rowids
uncounted_free : (task : Task) (db : Trees) (e : Error) → task.table.is_counted ≡ false → Uncounts task db (Err (Some e)) → is_of_schema e ≡ false
uncounted_free task db e plain h = gives_free db e (rw plain at h)

drops_free : (task : Task) (mode : Mode) (db : Trees) (e : Error) → task.table.is_counted ≡ false → Drops task mode db (Err (Some e)) → is_of_schema e ≡ false
drops_free task mode db e plain h =
    then_free h (λ stop. emptied_free task db e stop)
    (λ emptied rest. then_free rest (λ stop. uncounted_free task emptied e plain stop)
    (λ now rest. then_free rest (λ stop. let same : e ≡ SqliteFailure (code.ConstraintViolation ForeignKey) = let is = stop.1 in cc in ap is_of_schema same)
    (λ in_doubt rest. then_free rest (λ none. absurd none) (λ after done. gives_free _ e done))))

-- ---- the whole statement

abbrev task_of : Option ℕ → Mode → Schema → Table → Task
task_of limit mode schema table = record { limit = limit; keys = mode.keys; schema = schema; table = table; params = [] }

misplaced_free : (s : State) (command : Command) (e : Error) → IsMisplaced s command e → is_of_schema e ≡ false
misplaced_free s command e (inl h) = ap is_of_schema h.0
misplaced_free s command e (inr h) = ap is_of_schema h.0

module _ {text : List ℕ} {schema rest : Schema} (drop : IsDrop text schema rest) (old new : State) (has : old.now.schema ≡ schema) where
  -- what the command does to the table
  on_table : (out : Result (Tally × Database) (Option Error)) → Does old.step_limit (mode_of old) [] old.now (statement_of text (understood schema text)) None (DropTable drop.at) out
      → Drops (task_of old.step_limit (mode_of old) schema drop.table) (mode_of old) old.now.trees out
  on_table out h =
      let does = subst (λ s. Does old.step_limit (mode_of old) [] (record old.now { schema = s }) (statement_of text (understood schema text)) None (DropTable drop.at) out) has h in
      subst (λ found. AtPlace (λ table. Drops (task_of old.step_limit (mode_of old) schema table) (mode_of old) old.now.trees) found out) drop.there does

  -- the schema lacks the table afterwards
  pub drops : (count : ℕ) → Executes text [] old new (Ok count) → new.now.schema ≡ rest
  drops count h =
      let w = runs_as text [] old new schema has (DropTable drop.at) drop.is drop.plain count h in
      let emptied = went (on_table (Ok (w.tally, new.now)) w.changed) in
      let counted = went emptied.2 in
      let tested = went counted.2 in
      let left = went tested.2 in
      ap (λ (p : Tally × Database). p.1.schema) (same_value left.2) ∙ left.1.0 ∙ drop.left

  module _ (e : Error) where
    command_free : (c : Compiled) → understood old.now.schema text ≡ Ok c → (now : ℕ) → RunsCommand old new text c (timed [] c.formats now) (Err e) → is_of_schema e ≡ false
    command_free c known now (inl (inl misplaced, same)) = misplaced_free old c.command e misplaced
    command_free c known now (inl (inr may, same)) =
        let all = sym known ∙ ap (λ s. understood s text) has in
        let bare = subst IsPlain (sym all) drop.plain in
        let run : Does old.step_limit (mode_of old) [] old.now (text_of text c) None c.command (Err (Some e)) = rw (bare.0, bare.1) at may.1 in
        let whole = subst₂ (λ k t. Does old.step_limit (mode_of old) [] old.now t None k (Err (Some e))) (ap command_of all ∙ drop.is) (ap (statement_of text) all) run in
        drops_free (task_of old.step_limit (mode_of old) schema drop.table) (mode_of old) old.now.trees e drop.uncounted (on_table (Err (Some e)) whole)
    command_free c known now (inr fails) = ap is_of_schema fails.1 ∙ of_store fails.0

    alone_free : (shows : Bool) (c : Compiled) → understood old.now.schema text ≡ Ok c → (now : ℕ)
        → MatchBool shows ((◌≡◌ {A = Result ℕ Error} (Err e) (Err ExecuteReturnedResults)) × IsUnchanged old new)
        (RunsCommand old new text c (timed [] c.formats now) (Err e)) → is_of_schema e ≡ false
    alone_free true c known now h = let same : e ≡ ExecuteReturnedResults = let one = h.0 in cc in ap is_of_schema same
    alone_free false c known now h = command_free c known now h

    inside_free : ExecutesInside 0 text [] old new (Err e) → is_of_schema e ≡ false
    unfolding ExecutesIn IsNotRun
    inside_free (inl (inl (inl h), left)) = of_statement old text [] e (subst (λ s. IsPlain (understood s text)) (sym has) drop.plain) h.0
    inside_free (inl (inl (inr fails), left)) = ap is_of_schema fails.1 ∙ of_store fails.0
    inside_free (inl (inr run, left)) = alone_free (shows_rows false run.0) run.0 run.1.is run.1.now run.2
    inside_free (inr h) = ap is_of_schema h.1

  pub never_of_text : (fault : StoreFault) → IsFaultOf (λ error. ExecutesInside 0 text [] old new (Err error)) fault → fault ≢ Unusable
  never_of_text fault cause = subst (λ f. f ≢ Unusable) (sym cause.is) (not_of_text cause.error (inside_free cause.error cause.refused))
