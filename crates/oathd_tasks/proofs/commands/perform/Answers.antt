use Rattle.std.proofs.Common.{Some, subst, sym}
use Rattle.oathd_words.specs.declared.words.Task.{Task}
use Rattle.oathd_tasks.specs.Nodes.{EndsAsAsked}
use Rattle.oathd_tasks.proofs.CheckLemmas.{any_check}
use Rattle.oathd_tasks.proofs.commands.perform.Goals as goal

pub returns-in-Check : goal.returns-in-Check
returns-in-Check g c =
    let old = g.O.Write.contents c.args.held.now in
    let new = g.O.Write.contents c.check.new.held in
    record {
      ends = subst (λ (task : Task). EndsAsAsked task c.args.cluster.now (g.R.Read.remaining c.args.reader.now) c.check.result old new)
          (sym c.in-Check.is) (any_check c.args.cluster.now (Some c.check.new.rows.items) c.check.result old new c.check.ensures);
    }
