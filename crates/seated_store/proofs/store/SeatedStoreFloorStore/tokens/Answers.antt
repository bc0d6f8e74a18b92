-- There are at most as many seats as rows below.
use Rattle.std.proofs.Common.{arith}
use Rattle.seated_store.proofs.SeatLemmas.{few_seats}
use Rattle.seated_store.proofs.store.SeatedStoreFloorStore.tokens.Goals as goal

pub overflow_cast-result : goal.overflow_cast-result
overflow_cast-result g c =
    let few = few_seats _ _ c.self.invariant.0 in omega (arith, few, c.len.ensures, c.self.invariant.1)

pub returns-clause-limit : goal.returns-clause-limit
returns-clause-limit g c =
    let few = few_seats _ _ c.self.invariant.0 in omega (arith, few, c.len.ensures, c.self.invariant.1)
