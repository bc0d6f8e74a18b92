-- The store is made with the rows that were found, or the database is as before.
use Rattle.std.proofs.Common.{Err, List, length, map, ap, refl, ◌∙◌, arith}
use Rattle.std.proofs.lemmas.Result.{err_from_is_err_and}
use Rattle.floor_sql.specs.Created.{has_own_table}
use Rattle.floors_file.specs.Named.{named_value}
use Rattle.floors_file.specs.NamedGathered.{gathered_rows}
use Rattle.roster_sql.specs.declared.entry.Entry.{Entry}
use Rattle.named_floors.specs.Made.{OpensRemade}
use Rattle.named_floors.proofs.MadeLemmas.{known_fault, known_store, made_done, made_failed, made_none, opens_as}
use Rattle.named_floors.proofs.making.make_from_floors.Goals as goal

pub returns-in_err-rows-clause-made : goal.returns-in_err-rows-clause-made
returns-in_err-rows-clause-made g c =
    let gathered = gathered_rows (map named_value c.args.files.now) in
    let names = c.args.names.now in
    let end = err_from_is_err_and c.from_residual.result c.from_residual.ensures.1 in
    made_none g.S.Store gathered names (OpensRemade c.args.node c.args.boot gathered names c.args.floors.now c.args.own.now) c.args.conn.now
    c.in_err-rows.field-0.0 c.from_residual.result c.requires.idle (end.1 ∙ ap Err end.2) c.in_err-rows.ensures.cause

pub returns-in_err-rows-clause-known : goal.returns-in_err-rows-clause-known
returns-in_err-rows-clause-known g c =
    let end = err_from_is_err_and c.from_residual.result c.from_residual.ensures.1 in
    known_fault (gathered_rows (map named_value c.args.files.now)) c.args.names.now c.in_err-rows.field-0.0 c.from_residual.result (end.1 ∙ ap Err end.2)
    c.in_err-rows.ensures.cause

pub returns-in_err-make_named-clause-known : goal.returns-in_err-make_named-clause-known
returns-in_err-make_named-clause-known g c =
    let last = c.from_residual-in_err-make_named.result in
    let end = err_from_is_err_and last c.from_residual-in_err-make_named.ensures.1 in
    known_store (gathered_rows (map named_value c.args.files.now)) c.args.names.now _ last (end.1 ∙ ap Err end.2)

pub returns-in_err-make_named-clause-made : goal.returns-in_err-make_named-clause-made
returns-in_err-make_named-clause-made g c =
    let gathered = gathered_rows (map named_value c.args.files.now) in
    let names = c.args.names.now in
    let old = c.args.conn.now in
    let new = c.make_named.new.conn in
    let made = opens_as g.S.Store old new c.make_named.result c.args.node c.args.boot c.args.own.now
    (c.deref.ensures.value ∙ c.in_ok-rows.ensures.floors) (c.deref-2.ensures.value ∙ c.in_ok-rows.ensures.entries) c.make_named.ensures.made in
    let last = c.from_residual-in_err-make_named.result in
    let end = err_from_is_err_and last c.from_residual-in_err-make_named.ensures.1 in
    made_failed g.S.Store gathered names (OpensRemade c.args.node c.args.boot gathered names c.args.floors.now c.args.own.now) old new
    c.make_named.result c.in_err-make_named.field-0.0 last c.requires.idle c.in_err-make_named.was (end.1 ∙ ap Err end.2) made
    c.make_named.ensures.found (has_own_table old.schema) refl

pub returns-clause-made : goal.returns-clause-made
returns-clause-made g c =
    let gathered = gathered_rows (map named_value c.args.files.now) in
    let names = c.args.names.now in
    let old = c.args.conn.now in
    let new = c.make_named.new.conn in
    let made = opens_as g.S.Store old new c.make_named.result c.args.node c.args.boot c.args.own.now
    (c.deref.ensures.value ∙ c.in_ok-rows.ensures.floors) (c.deref-2.ensures.value ∙ c.in_ok-rows.ensures.entries) c.make_named.ensures.made in
    made_done g.S.Store gathered names (OpensRemade c.args.node c.args.boot gathered names c.args.floors.now c.args.own.now) old new
    c.make_named.result c.in_ok-make_named.field-0 tt c.in_ok-make_named.was made c.make_named.ensures.found (has_own_table old.schema) refl

pub returns-clause-few : goal.returns-clause-few
returns-clause-few g c =
    let entries = ap (λ (l : List Entry). length l) c.in_ok-rows.ensures.entries in
    omega (arith, entries, c.in_ok-rows.ensures.few, c.in_ok-rows.ensures.counted)
