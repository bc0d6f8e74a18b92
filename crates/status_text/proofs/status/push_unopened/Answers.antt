use Rattle.status_text.proofs.status.push_unopened.Goals as goal

pub returns-clause-each : goal.returns-clause-each
returns-clause-each c all =
    c.push_cause-6.ensures.each (c.push_cause-5.ensures.each (c.push_cause-4.ensures.each (c.push_cause-3.ensures.each (c.push_cause-2.ensures.each (c.push_cause.ensures.each all)))))
