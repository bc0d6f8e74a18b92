use Rattle.std.proofs.Common.{None, sym, ap, ◌∙◌, arith}
use Rattle.std.specs.Prelude.{unwrap_or, length}
use Rattle.token_file.proofs.FieldLemmas.{first_start, start_is, field_is, field_has, end_bound}
use Rattle.cluster_file.proofs.fields.first_field.Goals as goal

pub returns-in_err-first_visible-clause-fields : goal.returns-in_err-first_visible-clause-fields
returns-in_err-first_visible-clause-fields c = rw c.from_residual.ensures (first_start c.args.line.now 0 None (sym c.first_visible.ensures ∙ c.in_err-first_visible.was))

pub split_at-requires : goal.split_at-requires
split_at-requires c = omega (arith, (start_is c.args.line.now c.in_ok-first_visible.field-0 (sym c.first_visible.ensures ∙ c.in_ok-first_visible.was)).bound)

pub split_at-requires-2 : goal.split_at-requires-2
split_at-requires-2 c =
    rw c.unwrap_or.ensures (rw c.first_blank.ensures (end_bound c.split_at.result.1.now))

pub returns : goal.returns
returns c =
    let start = start_is c.args.line.now c.in_ok-first_visible.field-0 (sym c.first_visible.ensures ∙ c.in_ok-first_visible.was) in
    let rest = c.split_at.result.1.now in
    let end = c.unwrap_or.ensures ∙ ap (λ r. unwrap_or r (length rest)) c.first_blank.ensures in
    let word = field_has c.args.line.now rest c.in_ok-first_visible.field-0 c.unwrap_or.result start c.split_at.ensures.back end in
    record {
      fields = rw (c.split_at-2.ensures.front, c.split_at-2.ensures.back)
          (field_is c.args.line.now rest c.in_ok-first_visible.field-0 c.unwrap_or.result start c.split_at.ensures.back end);
      len = rw c.split_at-2.ensures.front word.some;
    }
