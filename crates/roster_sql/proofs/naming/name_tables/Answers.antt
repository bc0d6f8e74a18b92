use Rattle.std.proofs.Common.{rules, arith}
use Rattle.sqlite.specs.Held.{state}
use Rattle.sqlite.specs.State.{HasCleanDisk}
use Rattle.roster_sql.specs.Made.{Names, NamesNode}
use Rattle.roster_sql.proofs.CommitLemmas.{commits_after, survives_after}
use Rattle.roster_sql.proofs.NamesLemmas.{of_node}
use Rattle.roster_sql.proofs.naming.name_tables.Goals as goal

pub returns-in_err-check_tables : goal.returns-in_err-check_tables
returns-in_err-check_tables g c = record {
  idle = search rules;
  ok = search rules;
  err = search rules;
  failure = search rules;
  unusable = search rules;
  crash = search rules;
}

pub returns-in_err-write_names : goal.returns-in_err-write_names
returns-in_err-write_names g c =
    let old = state g.S.Store c.args.conn.now in
    let mid = state g.S.Store c.check_tables.new.conn in
    let new = state g.S.Store c.write_names.new.conn in
    let read = c.in_ok-check_tables.ensures in
    let node = c.args.node in
    let entries = c.args.entries.now in
    let own = c.args.own.now in
    record {
      idle = search rules;
      ok = search rules;
      err = search rules;
      failure = search rules;
      unusable = search rules;
      crash = survives_after (Names entries own) (NamesNode node entries own) old mid new (λ clean. (read.only.read clean).now)
          (λ clean db. of_node node entries own old.now db (read.value clean)) read.only.crash c.write_names.ensures.crash;
    }

pub returns : goal.returns
returns g c =
    let old = state g.S.Store c.args.conn.now in
    let mid = state g.S.Store c.check_tables.new.conn in
    let new = state g.S.Store c.write_names.new.conn in
    let read = c.in_ok-check_tables.ensures in
    let node = c.args.node in
    let entries = c.args.entries.now in
    let own = c.args.own.now in
    record {
      idle = search rules;
      ok = λ clean.
          let early : HasCleanDisk mid = omega (arith, c.write_names.ensures.crash.clean) in
          commits_after (Names entries own) (NamesNode node entries own) old mid new (read.only.read early).now
          (λ db. of_node node entries own old.now db (read.value early)) (c.in_ok-write_names.ensures.ok clean);
      err = search rules;
      failure = search rules;
      unusable = search rules;
      crash = survives_after (Names entries own) (NamesNode node entries own) old mid new (λ clean. (read.only.read clean).now)
          (λ clean db. of_node node entries own old.now db (read.value clean)) read.only.crash c.write_names.ensures.crash;
    }
