-- Tables hold one content and one list of passes.
use Rattle.std.proofs.Common.{◌≡◌, ◌<◌, ◌+◌, ℕ, zero, suc, List, [], ◌∷◌, ◌++◌, length, slice_get, Some, None, refl, ap, sym, ◌∙◌, subst, arith}
use Rattle.sqlite.specs.Effect.{Database}
use Rattle.sqlite.specs.Held.{state}
use Rattle.sqlite.specs.Order.{Row}
use Rattle.sqlite.specs.Tree.{Trees}
use Rattle.sqlite_value.specs.Order.{value_cmp}
use Rattle.floor_store.specs.Content.{Content}
use Rattle.floor_store.specs.Examples.{free_row, old_pass}
use Rattle.floor_store.specs.Records.{PassRecord, RowRecord}
use Rattle.floor_sql.specs.Broken.{db_at, put_of, showing, small_content, tables_at, token_content, token_db, trees_of}
use Rattle.floor_sql.specs.Held.{Mirrors}
use Rattle.floor_sql.specs.Staged.{HasRowOnce, passes_in, with_puts}
use Rattle.sqlite.specs.Schema.{Schema}
use Rattle.floor_sql.specs.Schema.{schema_of, undrifted_schema, version_of}
use Rattle.floor_sql.specs.declared.schema.Format.{Format}
use Rattle.floor_sql.specs.declared.schema.Format.TheVariants.{Numbered, Named}
use Rattle.floor_sql.specs.Stored.{HasOneRow, Holds, self_row}
use Rattle.floor_sql.specs.declared.put.Put.{Put}
use Rattle.floor_sql.proofs.BrokenLemmas.{count_of_none, none_holds, own_row_is, token_holds}
use Rattle.floor_sql.proofs.ContentLemmas.{one_content}
use Rattle.floor_sql.proofs.PassLemmas.{same_passes}
use Rattle.floor_sql.proofs.laws.stores_can_be_broken.Goals as goal

pub returns-clause-mirrors : goal.returns-clause-mirrors
returns-clause-mirrors g c = record { format = Numbered; schema = refl; passes = []; holds = none_holds 4; counted = refl; settled = refl }

-- the boot of tables without a token is the boot of the content that they hold
boot_held : (format : Format) (now : ℕ) (content : Content) (passes : List PassRecord) → Holds format (tables_at now []) content passes → now ≡ content.boot
boot_held format now content passes h = (own_row_is 2 1 0 now (version_of format) h.node (length content.rows) content.boot h.self).3

-- and they hold no pass
count_held : (format : Format) (now : ℕ) (content : Content) (passes : List PassRecord) → Holds format (tables_at now []) content passes → length passes ≡ 0
count_held format now content passes h = count_of_none passes h.pass

-- the tables of version 1 are of no format
of_no_format : (format : Format) → undrifted_schema ≡ schema_of format → ⊥
of_no_format Numbered e = let tables : 3 ≡ 4 = ap (λ (schema : Schema). length schema.tables) e in omega (arith, tables)
of_no_format Named e = let tables : 3 ≡ 6 = ap (λ (schema : Schema). length schema.tables) e in omega (arith, tables)

pub returns-clause-mirrors_schema : goal.returns-clause-mirrors_schema
returns-clause-mirrors_schema g c h = of_no_format h.format h.schema

pub returns-clause-mirrors_holds : goal.returns-clause-mirrors_holds
returns-clause-mirrors_holds g c = λ boot h.
    let e = boot_held h.format (boot + 1) (small_content boot) h.passes h.holds in omega (arith, e)

pub returns-clause-mirrors_count : goal.returns-clause-mirrors_count
returns-clause-mirrors_count g c = λ boot h.
    let none = count_held h.format boot (small_content boot) h.passes h.holds in
    let counted : length h.passes ≡ 1 = h.counted in
    omega (arith, none, counted)

-- the boots of databases without a token distinguish them
same_boot : (a b : ℕ) → db_at a [] ≡ db_at b [] → a ≡ b
same_boot a b e = let rows : self_row 1 0 a ∷ [] ≡ self_row 1 0 b ∷ [] = ap (λ (db : Database). db.trees 0) e in cc

pub returns-clause-mirrors_settled : goal.returns-clause-mirrors_settled
returns-clause-mirrors_settled g c = λ boot h. let e = same_boot boot (boot + 1) h.settled in omega (arith, e)

pub returns-clause-last : goal.returns-clause-last
returns-clause-last g c = λ next. record {
  base = token_content (free_row 9);
  replayed = refl;
  tables = record { format = Numbered; schema = refl; passes = []; holds = token_holds; counted = refl; settled = refl };
}

-- the same of tables that mirror a content
boot_mirrored : (now count : ℕ) (content : Content) → Mirrors (showing (db_at now []) (db_at now [])) content count → now ≡ content.boot
boot_mirrored now count content h = boot_held h.format now content h.passes h.holds

count_mirrored : (now count : ℕ) (content : Content) → Mirrors (showing (db_at now []) (db_at now [])) content count → count ≡ 0
count_mirrored now count content h =
    let none = count_held h.format now content h.passes h.holds in
    let counted : length h.passes ≡ count = h.counted in
    omega (arith, none, counted)

boot_of : (a b : Content) → a ≡ b → a.boot ≡ b.boot
boot_of a b e = ap (λ (content : Content). content.boot) e

pub returns-clause-last_replayed : goal.returns-clause-last_replayed
returns-clause-last_replayed g c = λ boot h.
    let held = boot_mirrored boot 0 h.base h.tables in
    let base = boot_of (small_content (boot + 1)) h.base h.replayed in
    omega (arith, held, base)

pub returns-clause-last_tables : goal.returns-clause-last_tables
returns-clause-last_tables g c = λ boot h. let e = count_mirrored boot 1 h.base h.tables in omega (arith, e)

pub returns-clause-committed : goal.returns-clause-committed
returns-clause-committed g c = λ store was boot h.
    let trees = (state g.S.Store store.conn).committed.trees in
    let base = one_content was.format h.format trees was.base h.base [] [] was.holds h.holds in
    let mirror = was.replayed ∙ ap (λ (content : Content). with_puts content store.staged) base ∙ sym h.replayed in
    let same : store.mirror.boot ≡ 5 = ap (λ (content : Content). content.boot) mirror in
    omega (arith, boot, same)

pub returns-clause-committed_holds : goal.returns-clause-committed_holds
returns-clause-committed_holds g c = λ store was h.
    let trees = (state g.S.Store store.conn).committed.trees in
    let passes : [] ≡ old_pass ∷ [] = same_passes trees [] (old_pass ∷ []) was.holds.pass h.holds.pass in
    absurd cc

pub returns-clause-audit : goal.returns-clause-audit
returns-clause-audit g c = λ store was none. record { passes = []; committed = was; waiting = ap passes_in (sym none) }

pub returns-clause-audit_waiting : goal.returns-clause-audit_waiting
returns-clause-audit_waiting g c = λ store was none h.
    let trees = (state g.S.Store store.conn).committed.trees in
    let passes : h.passes ≡ [] = same_passes trees h.passes [] h.committed.holds.pass was.holds.pass in
    let all : old_pass ∷ [] ≡ passes_in store.staged =
    h.waiting ∙ ap (λ (passes : List PassRecord). passes ++ passes_in store.staged) passes in
    let e : old_pass ∷ [] ≡ [] = all ∙ ap passes_in none in
    absurd cc

-- the single put's token has each of its rows once
one_put : (trees : Trees) (put : Put) → HasRowOnce trees put.token → (place : ℕ) (other : Put)
    → slice_get (put ∷ []) place ≡ Some other → HasRowOnce trees other.token
one_put trees put is zero other e =
    let same : put ≡ other = cc in subst (λ (put : Put). HasRowOnce trees put.token) same is
one_put trees put is (suc place) other e = absurd cc

once : HasRowOnce token_db.trees 0
unfolding value_cmp lib.Ieee.is_nan lib.Ieee.lt
once = record { floor = record { found = _; only = refl }; drift = record { found = _; only = refl } }

pub returns-clause-rows : goal.returns-clause-rows
returns-clause-rows g c = one_put token_db.trees (put_of 0 (free_row 10) None) once

-- an empty table has no row with the key
none_once : (key : ℕ) → HasOneRow [] key → ⊥
none_once key h = let only = h.only in absurd cc

pub returns-clause-rows_floor : goal.returns-clause-rows_floor
returns-clause-rows_floor g c = λ next h. none_once 0 (h 0 (put_of 0 (free_row next) None) refl).floor

pub returns-clause-rows_two : goal.returns-clause-rows_two
unfolding value_cmp lib.Ieee.is_nan lib.Ieee.lt
returns-clause-rows_two g c h =
    let lengths : 2 ≡ 1 = ap (length {A = Row}) (h 0 (put_of 0 (free_row 10) None) refl).floor.only in
    omega (arith, lengths)

pub returns-clause-rows_drift : goal.returns-clause-rows_drift
returns-clause-rows_drift g c = λ next h. none_once 0 (h 0 (put_of 0 (free_row next) None) refl).drift

-- the one put is of the first token
in_tokens : (put : Put) → put.token < 1 → (place : ℕ) (other : Put) → slice_get (put ∷ []) place ≡ Some other → other.token < 1
in_tokens put is zero other e = let same : put ≡ other = cc in subst (λ (put : Put). put.token < 1) same is
in_tokens put is (suc place) other e = absurd cc

pub returns-clause-can_put : goal.returns-clause-can_put
returns-clause-can_put g c = record {
  format = Numbered;
  content = token_content (free_row 9);
  passes = [];
  schema = refl;
  holds = token_holds;
  counted = refl;
  tokens = in_tokens (put_of 0 (free_row 10) None) (omega arith);
}

-- tables without a row hold nothing
none_held : (format : Format) (content : Content) (passes : List PassRecord) → Holds format (trees_of [] [] [] []) content passes → ⊥
none_held format content passes h = let place = h.self.place in absurd cc

pub returns-clause-can_put_schema : goal.returns-clause-can_put_schema
returns-clause-can_put_schema g c h = of_no_format h.format h.schema

pub returns-clause-can_put_holds : goal.returns-clause-can_put_holds
returns-clause-can_put_holds g c = λ count h. none_held h.format h.content h.passes h.holds

pub returns-clause-can_put_count : goal.returns-clause-can_put_count
returns-clause-can_put_count g c = λ boot h.
    let none = count_held h.format boot h.content h.passes h.holds in
    let counted : length h.passes ≡ 1 = h.counted in
    omega (arith, none, counted)

-- the one put is of a row
first_low : (rows : List RowRecord) → ((place : ℕ) (put : Put) → slice_get (put_of 0 (free_row 10) None ∷ []) place ≡ Some put
    → put.token < length rows) → 0 < length rows
first_low rows low = low 0 (put_of 0 (free_row 10) None) refl

pub returns-clause-can_put_token : goal.returns-clause-can_put_token
returns-clause-can_put_token g c = λ boot h.
    let tokens = (own_row_is 2 1 0 boot (version_of h.format) h.holds.node (length h.content.rows) h.content.boot h.holds.self).2 in
    let low = first_low h.content.rows h.tokens in
    omega (arith, tokens, low)
