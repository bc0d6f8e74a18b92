use Rattle.std.proofs.Common.{◌≡◌, [], None, rules, arith, subst}
use Rattle.std.proofs.lemmas.Grind.{common_steps}
use Rattle.floor_sql.specs.Held.{IsKept}
use Rattle.floor_sql.proofs.KeepLemmas.{idle_commits, idle_kept}
use Rattle.floor_sql.proofs.store.SqlStoreFloorStore.commit.Goals as goal

pub returns-then-is_empty-clause-commits : goal.returns-then-is_empty-clause-commits
returns-then-is_empty-clause-commits g c =
    let was = c.self.inside in
    let store = g.S.Store in
    let none : was.fault ≡ None = search rules in
    let nothing : was.staged.items ≡ [] = grind (arith, common_steps) in
    let kept : IsKept store was.conn was.mirror was.passes None =
    subst (IsKept store was.conn was.mirror was.passes) none (idle_kept store was.conn was.mirror was.staged.items was.passes was.fault c.self.invariant.0 nothing) in
    rw (← c.self.view_is) (idle_commits store was.conn was.mirror was.staged.items was.passes was.fault (tt {0}) none kept
    (λ trees is_open may. g.met.S.Store.settled was.conn.store trees is_open may))
