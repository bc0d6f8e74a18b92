use Rattle.std.proofs.Common.{Option, sym, ap, subst, ◌∙◌}
use Rattle.otp_core.specs.Submission.{Submission}
use Rattle.admit_core.specs.Password.{PasswordFits}
use Rattle.floor_store.specs.Records.{SpanRecord}
use Rattle.oath_node.specs.Rules.{fit_ruling, fitting_span}
use Rattle.oath_node.proofs.FitLemmas.{open_fit}
use Rattle.oath_node.proofs.rules.open_ruling.Goals as goal

pub returns-clause-value : goal.returns-clause-value
returns-clause-value c =
    let a = c.args in
    let token = a.token.now in
    let given = subst (λ g. PasswordFits token.password g) c.password.ensures (c.password_fits.ensures.0 c.if-not-password_fits.false) in
    c.fit_ruling.ensures.value
    ∙ ap (λ (fit : Option SpanRecord). fit_ruling token.kind a.settings a.moment a.request a.id fit)
    (c.find_fit-fit.ensures ∙ ap (λ (s : Submission). fitting_span token a.settings a.next a.drift a.moment s) c.codes.ensures)
    ∙ sym (open_fit a.settings a.next a.drift a.moment a.request a.id token given (λ last. c.if-value-eq-FACTORS_END.false (c.value.ensures.value ∙ last)))
