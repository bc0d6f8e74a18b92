use Rattle.std.proofs.Common.{◌≡◌, inr, ⊎_elim, refl, ap, arith}
use Rattle.floor_store.specs.Content.{Content}
use Rattle.vote_core.specs.Rows.{row}
use Rattle.oath_node.specs.Machine.{NodeState}
use Rattle.oath_node.specs.UnlockExamples.{both_closed}
use Rattle.oath_node.proofs.unlock_laws.unlocks_can_be_broken.Goals as goal

pub returns-clause-unlocks : goal.returns-clause-unlocks
returns-clause-unlocks c = record {
  state = λ clean. refl;
  runs = (refl, refl);
  writes = record {
    makes = record {
      ok = λ clean. refl;
      err = λ clean. tt;
      stays = λ broken. absurd cc;
      count = omega arith;
      clean = λ clean. clean;
      tokens = refl;
    };
    left = λ clean content l. inr (⊎_elim (λ e. e) (λ e. e) l);
    settled = λ clean settled content l. ⊎_elim (λ e. e) (λ e. e) l;
    intact = λ works. refl;
  };
  settled = λ clean content l. ⊎_elim (λ e. e) (λ e. e) l;
  fails = tt;
  stopped = (λ e. absurd cc, λ e. absurd cc);
  others = refl;
}

pub returns-clause-state_stays : goal.returns-clause-state_stays
returns-clause-state_stays c h =
    let e : 2 ≡ 0 = ap (λ (x : NodeState). (row x.content 0).gate.fails) (h.state refl) in
    omega (arith, e)

pub returns-clause-state_another : goal.returns-clause-state_another
returns-clause-state_another c h =
    let e : 0 ≡ 2 = ap (λ (x : NodeState). (row x.content 0).gate.fails) (h.state refl) in
    omega (arith, e)

pub returns-clause-state_floor : goal.returns-clause-state_floor
returns-clause-state_floor c h =
    let e : 4 ≡ 5 = ap (λ (x : NodeState). (row x.content 0).next) (h.state refl) in
    omega (arith, e)

pub returns-clause-settled : goal.returns-clause-settled
returns-clause-settled c h =
    let e : 2 ≡ 0 = ap (λ (x : Content). (row x 0).gate.fails) (h.settled refl both_closed (inr refl)) in
    omega (arith, e)
