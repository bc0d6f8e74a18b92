use Rattle.std.proofs.Common.{rules, arith}
use Rattle.sqlite.specs.Held.{state}
use Rattle.sqlite.specs.State.{HasCleanDisk}
use Rattle.roster_sql.specs.Enrolled.{Enrols, Grows}
use Rattle.roster_sql.proofs.CommitLemmas.{commits_after, survives_after}
use Rattle.roster_sql.proofs.EnrolLemmas.{enrolled}
use Rattle.roster_sql.proofs.enrolling.enrol.Goals as goal

pub returns-in_err-check_tables : goal.returns-in_err-check_tables
returns-in_err-check_tables g c = record {
  idle = search rules;
  ok = search rules;
  err = search rules;
  failure = search rules;
  unusable = search rules;
  crash = search rules;
}

pub returns-in_err-write_tokens : goal.returns-in_err-write_tokens
returns-in_err-write_tokens g c =
    let old = state g.S.Store c.args.conn.now in
    let mid = state g.S.Store c.check_tables.new.conn in
    let new = state g.S.Store c.write_tokens.new.conn in
    let read = c.in_ok-check_tables.ensures in
    let node = c.args.node in
    let tokens = c.args.tokens in
    let count = c.args.count in
    let puts = c.args.puts.now in
    let floors = c.args.floors.now in
    let entries = c.args.entries.now in
    record {
      idle = search rules;
      ok = search rules;
      err = search rules;
      failure = search rules;
      unusable = search rules;
      crash = survives_after (Grows tokens count puts floors entries) (Enrols node tokens count puts floors entries) old mid new (λ clean. (read.only.read clean).now)
          (λ clean db. enrolled node tokens count puts floors entries old.now db (read.value clean)) read.only.crash c.write_tokens.ensures.crash;
    }

pub returns : goal.returns
returns g c =
    let old = state g.S.Store c.args.conn.now in
    let mid = state g.S.Store c.check_tables.new.conn in
    let new = state g.S.Store c.write_tokens.new.conn in
    let read = c.in_ok-check_tables.ensures in
    let node = c.args.node in
    let tokens = c.args.tokens in
    let count = c.args.count in
    let puts = c.args.puts.now in
    let floors = c.args.floors.now in
    let entries = c.args.entries.now in
    record {
      idle = search rules;
      ok = λ clean.
          let early : HasCleanDisk mid = omega (arith, c.write_tokens.ensures.crash.clean) in
          commits_after (Grows tokens count puts floors entries) (Enrols node tokens count puts floors entries) old mid new (read.only.read early).now
          (λ db. enrolled node tokens count puts floors entries old.now db (read.value early)) (c.in_ok-write_tokens.ensures.ok clean);
      err = search rules;
      failure = search rules;
      unusable = search rules;
      crash = survives_after (Grows tokens count puts floors entries) (Enrols node tokens count puts floors entries) old mid new (λ clean. (read.only.read clean).now)
          (λ clean db. enrolled node tokens count puts floors entries old.now db (read.value clean)) read.only.crash c.write_tokens.ensures.crash;
    }
