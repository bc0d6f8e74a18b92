use Rattle.std.proofs.Common.{inl, inr, refl, ◌∙◌, ap}
use Rattle.client_lines.specs.Request.{without_lf}
use Rattle.oathd_lines.specs.Secret.{EndsWithText}
use Rattle.oathd_tasks.proofs.FlushLemmas.{flush_kept, text_kept}
use Rattle.oathd_tasks.proofs.SecretLemmas.{digits_known, unread_input}
use Rattle.oathd_tasks.proofs.secret_input.print_secret_of.Goals as goal

pub returns : goal.returns
returns g c =
    let old = g.O.Write.contents c.args.held.now in
    let mid = g.O.Write.contents c.print_secret-end.new.writer in
    let new = g.O.Write.contents c.flushed.new.writer in
    let hex = c.without_lf.result.now in
    inl (
      hex,
      digits_known (g.R.Read.remaining c.args.reader.now) c.in_ok-text.text.items hex c.in_ok-text.ensures.text
          (c.without_lf.ensures ∙ ap without_lf c.deref.ensures.value),
      flush_kept (λ end out. EndsWithText hex end old out) c.print_secret-end.result c.flushed.result mid new
          c.print_secret-end.ensures.ends (λ end h k. text_kept hex end old mid new h k)
          c.flushed.ensures.bytes c.flushed.ensures.ok c.flushed.ensures.fault,
    )

pub returns-in_err-text : goal.returns-in_err-text
returns-in_err-text g c =
    inr (unread_input c.from_residual.result c.in_err-text.field-0.0 c.from_residual.ensures.1 c.in_err-text.ensures.fault, refl)
