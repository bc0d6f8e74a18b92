use Rattle.std.proofs.Common.{◌∙◌, arith}
use Rattle.floor_sql.proofs.write.put.Goals as goal

pub append_pass-requires-clause-inside : goal.append_pass-requires-clause-inside
append_pass-requires-clause-inside g c = c.in_ok-update_row.ensures.steps.goes

pub append_pass-requires-clause-schema : goal.append_pass-requires-clause-schema
append_pass-requires-clause-schema g c clean =
    let there = c.requires.there (omega (arith, c.update_row.ensures.steps.crash.clean)) in
    let made = c.in_ok-update_row.ensures.made clean in
    (there.schema.0, made.2.schema ∙ made.1.schema ∙ there.schema.1)
