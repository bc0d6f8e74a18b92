use Rattle.std.proofs.Common.{append_assoc}
use Rattle.status_text.proofs.status.push_refused.Goals as goal

pub returns-clause-items : goal.returns-clause-items
returns-clause-items c =
    rw (
      c.push_refusal-10.ensures.items,
      c.push_refusal-9.ensures.items,
      c.push_refusal-8.ensures.items,
      c.push_refusal-7.ensures.items,
      c.push_refusal-6.ensures.items,
      c.push_refusal-5.ensures.items,
      c.push_refusal-4.ensures.items,
      c.push_refusal-3.ensures.items,
      c.push_refusal-2.ensures.items,
      c.push_refusal.ensures.items,
    ) (simp append_assoc)

pub returns-clause-each : goal.returns-clause-each
returns-clause-each c all =
    let five = c.push_refusal-5.ensures.each (c.push_refusal-4.ensures.each (c.push_refusal-3.ensures.each (c.push_refusal-2.ensures.each (c.push_refusal.ensures.each all)))) in
    c.push_refusal-10.ensures.each (c.push_refusal-9.ensures.each (c.push_refusal-8.ensures.each (c.push_refusal-7.ensures.each (c.push_refusal-6.ensures.each five))))
