use Rattle.oathtool_core.proofs.TimeLemmas.{marks_of_len}
use Rattle.oathtool_core.proofs.time.has_date_marks.Goals as goal

pub returns : goal.returns
returns c =
    rw (
      c.is_at.ensures,
      c.is_at-2.ensures,
      c.is_at-3.ensures,
      c.is_at-4.ensures,
      c.is_at-5.ensures,
      c.is_at-6.ensures,
      c.is_at-7.ensures,
      c.is_at-8.ensures,
      c.is_at-9.ensures,
    ) (marks_of_len c.args.text.now c.if-text-ne23.false)
