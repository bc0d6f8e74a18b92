-- A store with three rows isn't one without rows, and each other condition is a field or a part.
use Rattle.std.proofs.Common.{◌≡◌, List, [], ◌∷◌, ◌++◌, length, refl, ap, arith}
use Rattle.book_law.specs.Lives.{Store, Unlocks}
use Rattle.book_law.specs.Uses.{StoreUse, Writes}
use Rattle.served_law.specs.Examples.{rows_of}
use Rattle.served_law.proofs.run_laws.named_uses_can_be_broken.Goals as goal

pub returns-clause-holds_another : goal.returns-clause-holds_another
returns-clause-holds_another g c = λ own conn content passes held h.
    let e : 3 ≡ 0 = ap (λ (store : Store). length store.names) (h content passes (rows_of 0xbb 0xcc 0xaa) held) in omega (arith, e)

pub returns-clause-nothing : goal.returns-clause-nothing
returns-clause-nothing g c = tt

pub returns-clause-writes : goal.returns-clause-writes
returns-clause-writes g c = (refl, (refl, tt))

pub returns-clause-writes_elsewhere : goal.returns-clause-writes_elsewhere
returns-clause-writes_elsewhere g c h = let e : 1 ≡ 2 = h.0 in omega (arith, e)

pub returns-clause-are_of_nothing : goal.returns-clause-are_of_nothing
returns-clause-are_of_nothing g c = λ uses h. h

pub returns-clause-are_of_writes : goal.returns-clause-are_of_writes
returns-clause-are_of_writes g c = (Writes (Unlocks 1 0) ∷ [], refl, ([], refl, refl))

pub returns-clause-are_of_no_writes : goal.returns-clause-are_of_no_writes
returns-clause-are_of_no_writes g c h = let e = h.1 in absurd cc

pub returns-clause-later_writes : goal.returns-clause-later_writes
returns-clause-later_writes g c = λ setting node names store later floor token are. are.1

pub returns-clause-unasked_run : goal.returns-clause-unasked_run
returns-clause-unasked_run g c = tt

pub returns-clause-asked_run : goal.returns-clause-asked_run
returns-clause-asked_run g c = λ until left is_waiting ends h. h

pub returns-clause-run_elsewhere : goal.returns-clause-run_elsewhere
returns-clause-run_elsewhere g c = λ setting names store run two h. let e = h.of_node in omega (arith, two, e)

pub returns-clause-run_over_another : goal.returns-clause-run_over_another
returns-clause-run_over_another g c = λ setting node names store run none h. none h.served.opened.conn h.holds

pub returns-clause-later_run : goal.returns-clause-later_run
returns-clause-later_run g c = λ setting node names store later run are. are.1

pub returns-clause-are_of_run : goal.returns-clause-are_of_run
returns-clause-are_of_run g c = λ setting node names store run is uses are. are.recorded

pub returns-clause-are_of_run_that_finds : goal.returns-clause-are_of_run_that_finds
returns-clause-are_of_run_that_finds g c = λ setting node names store run is uses are. are.found

not_empty : (first rest : List StoreUse) (one : StoreUse) → [] ≡ first ++ one ∷ rest → ⊥
not_empty [] rest one e = absurd cc
not_empty (other ∷ first) rest one e = absurd cc

pub returns-clause-are_of_no_process : goal.returns-clause-are_of_no_process
returns-clause-are_of_no_process g c = λ setting node names store run is h. not_empty _ _ _ h.are

pub returns-clause-uses_are_of : goal.returns-clause-uses_are_of
returns-clause-uses_are_of g c = λ setting node names store named are has. has.are_of

pub returns-clause-uses_are_uses : goal.returns-clause-uses_are_uses
returns-clause-uses_are_uses g c = λ setting node names store named are has. has.are_uses
