use Rattle.std.proofs.Common.{rules, arith}
use Rattle.sqlite.specs.Held.{state}
use Rattle.sqlite.specs.State.{HasCleanDisk}
use Rattle.floor_sql.proofs.MigrateLemmas.{commits_migrated, migrated_survives}
use Rattle.floor_sql.proofs.migrate.migrate_tables.Goals as goal

pub returns-in_err-check_tables : goal.returns-in_err-check_tables
returns-in_err-check_tables g c = record {
  idle = search rules;
  ok = search rules;
  err = search rules;
  failure = search rules;
  unusable = search rules;
  crash = search rules;
}

pub returns-in_err-write_version : goal.returns-in_err-write_version
returns-in_err-write_version g c =
    let old = state g.S.Store c.args.conn.now in
    let mid = state g.S.Store c.check_tables.new.conn in
    let new = state g.S.Store c.write_version.new.conn in
    let read = c.in_ok-check_tables.ensures in
    record {
      idle = search rules;
      ok = search rules;
      err = search rules;
      failure = search rules;
      unusable = search rules;
      crash = migrated_survives old mid new c.args.node c.args.tokens (λ clean. (read.only.read clean).now) read.value
          read.only.crash c.write_version.ensures.crash;
    }

pub returns : goal.returns
returns g c =
    let old = state g.S.Store c.args.conn.now in
    let mid = state g.S.Store c.check_tables.new.conn in
    let new = state g.S.Store c.write_version.new.conn in
    let read = c.in_ok-check_tables.ensures in
    record {
      idle = search rules;
      ok = λ clean.
          let early : HasCleanDisk mid = omega (arith, c.write_version.ensures.crash.clean) in
          commits_migrated old mid new c.args.node c.args.tokens (read.only.read early).now (read.value early)
          (c.in_ok-write_version.ensures.ok clean);
      err = search rules;
      failure = search rules;
      unusable = search rules;
      crash = migrated_survives old mid new c.args.node c.args.tokens (λ clean. (read.only.read clean).now) read.value
          read.only.crash c.write_version.ensures.crash;
    }
