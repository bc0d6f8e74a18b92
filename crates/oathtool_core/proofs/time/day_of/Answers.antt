use Rattle.std.proofs.Common.{◌≡◌, pos, rules, FitsSigned, w8, w16, to_z-of_z}
use Rattle.oathtool_core.proofs.RunLemmas.{on_error}
use Rattle.oathtool_core.proofs.TimeLemmas.{no_day}
use Rattle.oathtool_core.proofs.time.day_of.Goals as goal

pub returns-in_err-new-clause-none : goal.returns-in_err-new-clause-none
returns-in_err-new-clause-none c =
    let year : c.in_ok-year.year ≡ pos c.args.fields.now.year = search rules in
    let month : c.in_ok-month.month ≡ pos c.args.fields.now.month = search rules in
    let day : c.in_ok-day.day ≡ pos c.args.fields.now.day = search rules in
    let year_fits : FitsSigned w16 c.in_ok-year.year = search rules in
    let month_fits : FitsSigned w8 c.in_ok-month.month = search rules in
    let day_fits : FitsSigned w8 c.in_ok-day.day = search rules in
    let succeeds = simp to_z-of_z at c.in_err-new.ensures.succeeds in
    on_error c.from_residual-in_err-new.result _
    (no_day c.args.fields.now c.in_ok-year.year c.in_ok-month.month c.in_ok-day.day year month day
    (λ h. let ok = succeeds.1 h in absurd (cc ok)))
