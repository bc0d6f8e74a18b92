use Rattle.std.proofs.Common.{append_assoc}
use Rattle.status_text.proofs.status.push_commits.Goals as goal

pub returns-clause-items : goal.returns-clause-items
returns-clause-items c =
    rw (
      c.push_commit-8.ensures.items,
      c.push_commit-7.ensures.items,
      c.push_commit-6.ensures.items,
      c.push_commit-5.ensures.items,
      c.push_commit-4.ensures.items,
      c.push_commit-3.ensures.items,
      c.push_commit-2.ensures.items,
      c.push_commit.ensures.items,
    ) (simp append_assoc)

pub returns-clause-each : goal.returns-clause-each
returns-clause-each c all =
    let four = c.push_commit-4.ensures.each (c.push_commit-3.ensures.each (c.push_commit-2.ensures.each (c.push_commit.ensures.each all))) in
    c.push_commit-8.ensures.each (c.push_commit-7.ensures.each (c.push_commit-6.ensures.each (c.push_commit-5.ensures.each four)))
