use Rattle.std.proofs.Common.{◌≡◌, true, subst, rules}
use Rattle.sqlite.specs.Held.{state}
use Rattle.sqlite.specs.State.{HasCleanDisk, Survives}
use Rattle.floor_sql.specs.Stored.{Commits, MayCommit}
use Rattle.floor_sql.proofs.CommitLemmas.{commits, may_commit}
use Rattle.roster_renewal.specs.Renewed.{Renews}
use Rattle.roster_renewal.proofs.renewing.renew.Goals as goal

pub returns-in-Ok-commit : goal.returns-in-Ok-commit
returns-in-Ok-commit g c =
    let old = c.args.conn.now in
    let mid = c.renew_tables.new.tx.conn.now in
    let end = c.commit.new.self.0 in
    let IsChange = Renews c.args.node c.args.boot c.args.floors.now c.args.entries.now c.args.own.now c.args.puts.now in
    let s0 = state g.S.Store old in
    let begun = c.transaction-tx.ensures.begun in
    let ran = λ (early : HasCleanDisk (state g.S.Store mid)).
    let made : IsChange (state g.S.Store (record old { in_transaction = true })).now (state g.S.Store mid).now =
    rw begun at (c.in-Ok.ensures.made early) in made in
    let inside : Survives (state g.S.Store (record old { in_transaction = true })) (state g.S.Store mid) (λ _. ⊥) =
    rw begun at c.renew_tables.ensures.steps.crash in
    let same : end ≡ c.conn-2-1.given.0 = search rules in
    record {
      idle = search rules;
      ok = λ clean.
          let late : HasCleanDisk (state g.S.Store end) = search rules in
          subst (λ h. Commits IsChange s0 (state g.S.Store h)) same
          (commits g.S.Store IsChange old mid end ran c.commit.ensures.survives late (c.in-Ok-commit.ensures.ok late).1);
      err = search rules;
      failure = search rules;
      unusable = search rules;
      crash = subst (λ h. Survives s0 (state g.S.Store h) (MayCommit IsChange s0)) same
          (may_commit g.S.Store IsChange old mid end ran c.commit.ensures.survives inside);
    }

pub returns-in-Err-commit : goal.returns-in-Err-commit
returns-in-Err-commit g c =
    let old = c.args.conn.now in
    let mid = c.renew_tables.new.tx.conn.now in
    let end = c.commit.new.self.0 in
    let IsChange = Renews c.args.node c.args.boot c.args.floors.now c.args.entries.now c.args.own.now c.args.puts.now in
    let s0 = state g.S.Store old in
    let begun = c.transaction-tx.ensures.begun in
    let ran = λ (early : HasCleanDisk (state g.S.Store mid)).
    let made : IsChange (state g.S.Store (record old { in_transaction = true })).now (state g.S.Store mid).now =
    rw begun at (c.in-Ok.ensures.made early) in made in
    let inside : Survives (state g.S.Store (record old { in_transaction = true })) (state g.S.Store mid) (λ _. ⊥) =
    rw begun at c.renew_tables.ensures.steps.crash in
    let same : end ≡ c.conn-2-1.given.0 = search rules in
    record {
      idle = search rules;
      ok = search rules;
      err = search rules;
      failure = search rules;
      unusable = search rules;
      crash = subst (λ h. Survives s0 (state g.S.Store h) (MayCommit IsChange s0)) same
          (may_commit g.S.Store IsChange old mid end ran c.commit.ensures.survives inside);
    }
