use Rattle.std.proofs.Common.{ap, sym, ◌∙◌}
use Rattle.vote_core.specs.Voting.{same_proposal}
use Rattle.cluster_sim.specs.Journal.{StartRecord}
use Rattle.cluster_sim.proofs.Starts.{all_lead, found_start, no_start, other_start}
use Rattle.cluster_sim.proofs.journal.start_event_of.Goals as goal

pub loop-place-init : goal.loop-place-init
loop-place-init c = all_lead c.args.starts.now c.args.proposal

pub returns-then-eq : goal.returns-then-eq
returns-then-eq c =
    let start = c.start.view_is ∙ c.index-starts-place.is in
    ap (λ (s : StartRecord). s.event) start
    ∙ found_start c.args.starts.now c.args.proposal c.loop-place.place c.index-starts-place.result c.loop-place-test.true c.loop-place.auto.place c.loop-place.invariant
    (ap (λ (s : StartRecord). same_proposal c.args.proposal s.proposal) (sym start) ∙ sym c.eq.ensures ∙ c.if-eq.true)

pub loop-place-preserved : goal.loop-place-preserved
loop-place-preserved c =
    let start = c.start.view_is ∙ c.index-starts-place.is in
    other_start c.args.starts.now c.args.proposal c.loop-place.place c.index-starts-place.result c.loop-place-test.true c.loop-place.auto.place c.loop-place.invariant
    (ap (λ (s : StartRecord). same_proposal c.args.proposal s.proposal) (sym start) ∙ sym c.eq.ensures ∙ c.if-eq.false)

pub returns : goal.returns
returns c = no_start c.args.starts.now c.args.proposal c.loop-place.place c.loop-place-test.false c.loop-place.invariant
