use Rattle.std.proofs.Common.{◌∙◌, List, ap, sym}
use Rattle.std.specs.Prelude.{slice_get}
use Rattle.roster_sql.specs.declared.entry.Entry.{Entry}
use Rattle.oathd_roster.specs.Enrolled.{is_row}
use Rattle.oathd_roster.proofs.EnrolledLemmas.{line_read, line_unread}
use Rattle.oathd_roster.proofs.enrolled.is_enrolled.Goals as goal

pub returns-in-Ok : goal.returns-in-Ok
returns-in-Ok c = λ roster has.
    let users = c.in-Ok.named.users in
    line_read c.args.salt.now c.args.settings roster c.args.line.now users.book users.floors.items c.in-Ok.named.entries.items c.has_first.result
    c.in-Ok.ensures.imported c.in-Ok.ensures.entries
    (c.has_first.ensures roster has ∙ ap (λ (entries : List Entry). is_row roster (slice_get entries 0)) c.deref.ensures.value)

pub returns-in-Err-Command-Users : goal.returns-in-Err-Command-Users
returns-in-Err-Command-Users c = λ roster has.
    let arm = c.in-Err-Command-Users in
    line_unread c.args.salt.now c.args.settings roster c.args.line.now arm.field-0 arm.field-0-0 arm.fault arm.field-0-is arm.field-0-0-is
    arm.ensures.fault (sym c.is_of_text.ensures ∙ c.if-is_of_text.true)
