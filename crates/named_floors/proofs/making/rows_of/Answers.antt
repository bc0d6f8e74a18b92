-- The rows are few, with an entry for each floor. If there are none, two tokens have one name, or there are too many.
use Rattle.std.proofs.Common.{ℕ, List, length, map, ap, ◌∙◌, arith}
use Rattle.floors_file.specs.Named.{named_value}
use Rattle.floors_file.specs.NamedGathered.{gathered_rows}
use Rattle.roster_sql.specs.declared.entry.Entry.{Entry}
use Rattle.named_floors.proofs.MadeLemmas.{as_many_rows, rows_fail}
use Rattle.named_floors.proofs.making.rows_of.Goals as goal

pub returns-in_err-rows-clause-cause : goal.returns-in_err-rows-clause-cause
returns-in_err-rows-clause-cause c =
    let files = map named_value c.args.files.now in
    rows_fail (gathered_rows files) c.deref.result.now c.args.names.now c.from_residual-in_err-rows.result c.in_err-rows.field-0.0
    (c.deref.ensures.value ∙ c.in_ok-gathered.ensures.rows) (c.gathered_are_greatest.ensures files).different c.from_residual-in_err-rows.ensures.1
    c.in_err-rows.ensures.failure c.in_err-rows.ensures.unusable

pub returns-clause-few : goal.returns-clause-few
returns-clause-few c =
    let pairs = as_many_rows c.deref.result.now c.args.names.now c.args.floors.now in
    let entries = ap (λ (l : List Entry). length l) c.in_ok-rows.ensures.entries in
    let floors = ap (λ (l : List ℕ). length l) c.in_ok-rows.ensures.floors in
    omega (arith, pairs, entries, floors)

pub returns-clause-counted : goal.returns-clause-counted
returns-clause-counted c =
    let pairs = as_many_rows c.deref.result.now c.args.names.now c.args.floors.now in
    let entries = ap (λ (l : List Entry). length l) c.in_ok-rows.ensures.entries in
    let floors = ap (λ (l : List ℕ). length l) c.in_ok-rows.ensures.floors in
    omega (arith, pairs, entries, floors)
