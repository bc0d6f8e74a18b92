use Rattle.std.proofs.Common.{◌∙◌}
use Rattle.std.specs.Prelude.{codes}
use Rattle.std.specs.Fmt.{decimal}
use Rattle.log_writer.proofs.WaitingLemmas.{line_pushed}
use Rattle.log_writer.proofs.waiting.push_line.Goals as goal

pub returns : goal.returns
returns c =
    line_pushed c.args.text.now.items _ _ _ (codes "dropped lines=") (decimal c.args.number) _ c.push_all.ensures.items
    c.push_all-2.ensures.items (c.as_bytes.ensures.value ∙ c.format.ensures.text) c.push_all-3.ensures.items
