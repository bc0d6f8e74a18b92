use Rattle.std.proofs.Common.{◌+◌, length, sym, subst, ◌∙◌, arith}
use Rattle.sqlite.specs.Effect.{Database}
use Rattle.sqlite.specs.Held.{state}
use Rattle.sqlite.specs.State.{HasCleanDisk}
use Rattle.floor_sql.specs.Held.{HasTablesAs}
use Rattle.floor_sql.specs.declared.schema.Format.TheVariants.{Named}
use Rattle.roster_sql.specs.Enrolled.{Enrols}
use Rattle.named_store.proofs.RefusedLemmas.{both_ok, err_weaker, refused_made, survives_made}
use Rattle.named_store.proofs.opening.enrol_and_open.Goals as goal

pub returns-clause-enrolled : goal.returns-clause-enrolled
returns-clause-enrolled g c =
    let old = state g.S.Store c.args.conn in
    let mid = state g.S.Store c.enrol.new.conn in
    let node = c.args.node in
    let tokens = c.args.tokens in
    let count = c.args.count in
    let puts = c.args.puts.now in
    let floors = c.args.floors.now in
    let entries = c.args.entries.now in
    both_ok c.open_counted.result _ _ _ (λ store opened rows.
    let new = state g.S.Store store.conn in
    record {
      enrols = λ clean.
          let early : HasCleanDisk mid = omega (arith, opened.kept.survives.clean) in
          let done = c.in_default.ensures.ok early in
          subst (λ (db : Database). Enrols node tokens count puts floors entries old.now db) (sym ((opened.kept.read clean).now ∙ done.now)) done.committed;
      content = λ clean.
          subst (λ (db : Database). HasTablesAs Named db node (tokens + length floors) store.mirror store.passes) (sym (opened.kept.read clean).now) (opened.content clean);
      rows = rows;
      sound = opened.sound;
      survives = survives_made g.S.Store c.args.conn c.enrol.new.conn store.conn (Enrols node tokens count puts floors entries) c.enrol.ensures.crash opened.kept.survives;
    }) c.open_counted.ensures.content c.open_counted.ensures.rows

pub returns-clause-refused : goal.returns-clause-refused
returns-clause-refused g c =
    err_weaker c.open_counted.result _ _ (λ e back.
    refused_made g.S.Store c.args.conn c.enrol.new.conn e.0 (Enrols c.args.node c.args.tokens c.args.count c.args.puts.now c.args.floors.now c.args.entries.now)
    c.in_default.ensures.ok c.enrol.ensures.crash back) c.open_counted.ensures.refused

pub enrol-requires-clause-can : goal.enrol-requires-clause-can
enrol-requires-clause-can g c clean = record { can = λ some. c.requires.can clean }
