use Rattle.std.proofs.Common.{sym, ◌∙◌}
use Rattle.floors_file.proofs.NamedRowsLemmas.{merged_at, merged_pushed}
use Rattle.floors_file.proofs.named_rows.NamedRows.merge.Goals as goal

pub returns-in-Some : goal.returns-in-Some
returns-in-Some c = c.raise.ensures ∙ sym (merged_at c.in-Some.place c.args.self.now c.args.row (sym c.in-Some.ensures.place))

pub returns-in-None : goal.returns-in-None
returns-in-None c = merged_pushed c.push.result c.args.self.now c.push.new.self c.args.row c.in-None.ensures.place c.push.ensures.ok
