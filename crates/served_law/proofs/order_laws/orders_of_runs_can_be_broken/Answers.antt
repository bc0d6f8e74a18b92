-- Each condition is a field, or a list differs.
use Rattle.std.proofs.Common.{◌≡◌, List, [], ◌∷◌, ◌++◌, refl}
use Rattle.book_law.specs.Lives.{Unlocks}
use Rattle.order_law.specs.Steps.{Does, Loses, Step}
use Rattle.served_law.proofs.order_laws.orders_of_runs_can_be_broken.Goals as goal

pub returns-clause-of_one_process : goal.returns-clause-of_one_process
returns-clause-of_one_process g c = λ setting node names store run is steps are. are.of_one

pub returns-clause-recorded : goal.returns-clause-recorded
returns-clause-recorded g c = λ setting node names store run is steps are. are.recorded

pub returns-clause-finds : goal.returns-clause-finds
returns-clause-finds g c = λ setting node names store run is steps are. are.found

pub returns-clause-leaves : goal.returns-clause-leaves
returns-clause-leaves g c = λ setting node names store run is steps are. are.after

pub returns-clause-are : goal.returns-clause-are
returns-clause-are g c = λ setting node names store run is steps are. are.are

not_empty : (first rest : List Step) (one : Step) → [] ≡ first ++ one ∷ rest → ⊥
not_empty [] rest one e = absurd cc
not_empty (other ∷ first) rest one e = absurd cc

pub returns-clause-of_no_steps : goal.returns-clause-of_no_steps
returns-clause-of_no_steps g c = λ setting node names store run is are. not_empty _ _ _ are.are

pub returns-clause-nothing : goal.returns-clause-nothing
returns-clause-nothing g c = λ steps h. h

pub returns-clause-writes : goal.returns-clause-writes
returns-clause-writes g c = (Does (Unlocks 1 0) ∷ [], refl, ([], refl, refl))

pub returns-clause-no_writes : goal.returns-clause-no_writes
returns-clause-no_writes g c h = let e = h.1 in absurd cc

same_rest : (one other : Step) (first rest : List Step) → one ∷ first ≡ other ∷ rest → first ≡ rest
same_rest one other first rest e = cc

pub returns-clause-one_write : goal.returns-clause-one_write
returns-clause-one_write g c h =
    let e : [] ≡ h.0 = same_rest _ _ [] h.0 h.1 in
    let f = h.2.1 in
    absurd cc

pub returns-clause-another_order : goal.returns-clause-another_order
returns-clause-another_order g c h = let e = h.1 in absurd cc

pub returns-clause-first_run : goal.returns-clause-first_run
returns-clause-first_run g c = λ setting node names store run later are steps of. (of.2, of.3)

pub returns-clause-after_the_run : goal.returns-clause-after_the_run
returns-clause-after_the_run g c = λ setting node names store run later are steps of. of.4

pub returns-clause-steps_are_of : goal.returns-clause-steps_are_of
returns-clause-steps_are_of g c = λ setting node names store named are has. has.are_of

pub returns-clause-steps_are_steps : goal.returns-clause-steps_are_steps
returns-clause-steps_are_steps g c = λ setting node names store named are has. has.are_steps

pub returns-clause-first : goal.returns-clause-first
returns-clause-first g c = record { later = Loses ∷ []; all_are = refl }

pub returns-clause-not_first : goal.returns-clause-not_first
returns-clause-not_first g c h = let e = h.all_are in absurd cc
