use Rattle.std.proofs.Common.{◌≡◌, Some, rules}
use Rattle.floor_sql.proofs.KeepLemmas.{broken_raises}
use Rattle.floor_sql.proofs.store.SqlStoreFloorStore.raise_boot.Goals as goal

-- a store that is broken does not answer that the boots are spent
pub returns-in-Some-clause-raises : goal.returns-in-Some-clause-raises
returns-in-Some-clause-raises g c =
    let is : c.self.inside.fault ≡ Some c.in-Some.fault = search rules in
    rw (← c.self.view_is) (broken_raises g.S.Store _ c.in-Some.fault is
    (c.self.invariant.0.kept.failing c.in-Some.fault is))
