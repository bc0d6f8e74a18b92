use Rattle.std.proofs.Common.{List, ℕ, ◌++◌, Option, ap, subst, sym, ◌∙◌}
use Rattle.operator_text.specs.Pages.{lines_in}
use Rattle.operator_text.specs.Reading.{page_at}
use Rattle.oathd_asking.specs.Report.{page_request}
use Rattle.oathd_asking.specs.Sent.{IsReportOn}
use Rattle.oathd_asking.proofs.PageLemmas.{IsFront, front_first, front_more}
use Rattle.oathd_asking.proofs.report.text_from.Goals as goal

pub loop-init : goal.loop-init
loop-init g c =
    front_first c.args.node.operator.now c.args.node.number c.args.report c.add_page.new.text.items c.args.first.now c.in_ok-next.next
    c.requires c.in_ok-next.ensures.page c.in_ok-next.ensures.onward
    (c.in_ok-next.ensures.text ∙ ap (λ (l : List ℕ). l ++ lines_in (page_at c.args.first.now)) c.new-text.ensures.items)

pub loop-preserved : goal.loop-preserved
loop-preserved g c =
    let operator = c.args.node.operator.now in
    let node = c.args.node.number in
    let report = c.args.report in
    let front = subst (λ (n : Option ℕ). IsFront operator node report c.loop.text.items n) c.in-Some.is c.loop.invariant in
    let on = subst (λ (p : List ℕ). IsReportOn operator node (page_request report c.in-Some.from) p) (sym c.deref.ensures.0) c.in_ok-page.ensures.page in
    front_more operator node report c.loop.text.items c.add_page-in-loop.new.text.items c.deref.result.now c.in-Some.from c.in_ok-next-2.next front on
    c.in_ok-next-2.ensures.page c.in_ok-next-2.ensures.onward c.in_ok-next-2.ensures.text
