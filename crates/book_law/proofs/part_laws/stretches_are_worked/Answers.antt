-- A turn whose receive failed is one receive.
use Rattle.std.proofs.Common.{inr, ⊎_elim, [], ◌∷◌, refl, arith}
use Rattle.std.specs.Prelude.{Ok, Some}
use Rattle.floor_store.specs.Broken.{small_held}
use Rattle.oath_node.specs.Broken.{small_node}
use Rattle.oath_node.specs.TurnServing.{Serves}
use Rattle.oath_node.specs.Turns.{Failure}
use Rattle.book_law.specs.PartExamples.{fault_came, nothing_came}
use Rattle.book_law.proofs.part_laws.stretches_are_worked.Goals as goal

one_fault : Serves small_held small_node small_node nothing_came fault_came (Some []) (Some []) 1 (Ok (record { received = 0; replied = 0 }))
one_fault = record {
  batches = (Failure ∷ []) ∷ [];
  formed = (record { before = []; last = Failure; is = refl; goes_on = tt }, tt);
  moments = refl;
  receives = refl;
  most = omega arith;
  all = refl;
  exact = λ clean. (record { state = refl; entries = refl }, refl, refl);
  settled = λ clean settled. settled;
  same = record { book = refl; limits = refl; key = refl; place = refl };
}

pub returns-clause-none : goal.returns-clause-none
returns-clause-none c = (refl, refl)

pub returns-clause-one : goal.returns-clause-one
returns-clause-one c = ((refl, refl), one_fault, inr refl, refl)

pub returns-clause-nothing : goal.returns-clause-nothing
returns-clause-nothing c = inr refl

pub returns-clause-unlocks : goal.returns-clause-unlocks
returns-clause-unlocks c = record {
  state = λ clean. refl;
  runs = (refl, refl);
  writes = record {
    makes = record {
      ok = λ clean. refl;
      err = λ clean. tt;
      stays = λ broken. absurd cc;
      count = omega arith;
      clean = λ clean. clean;
      tokens = refl;
    };
    left = λ clean content l. inr (⊎_elim (λ e. e) (λ e. e) l);
    settled = λ clean settled content l. ⊎_elim (λ e. e) (λ e. e) l;
    intact = λ works. refl;
  };
  settled = λ clean content l. ⊎_elim (λ e. e) (λ e. e) l;
  fails = tt;
  stopped = (λ e. absurd cc, λ e. absurd cc);
  others = refl;
}
