use Rattle.std.proofs.Common.{inl, inr, ⊎_elim, refl, ap, arith}
use Rattle.floor_store.specs.Broken.{SmallStore, small_held}
use Rattle.oath_node.specs.Broken.{fallen_node, keyed}
use Rattle.oath_node.specs.Hosted.{Hosted}
use Rattle.node_serving.specs.StretchExamples.{goes_on}
use Rattle.node_serving.proofs.StretchLemmas.{operator_same}
use Rattle.node_serving.proofs.stretch_laws.acts_can_be_broken.Goals as goal

pub returns-clause-nothing : goal.returns-clause-nothing
returns-clause-nothing c = inr (inr (refl, refl))

pub returns-clause-unlocks : goal.returns-clause-unlocks
returns-clause-unlocks c = inl (
  0,
  record {
    state = λ clean. refl;
    runs = (refl, refl);
    writes = record {
      makes = record {
        ok = λ clean. refl;
        err = λ clean. tt;
        stays = λ broken. absurd cc;
        count = omega arith;
        clean = λ clean. clean;
        tokens = refl;
      };
      left = λ clean content l. inr (⊎_elim (λ e. e) (λ e. e) l);
      settled = λ clean settled content l. ⊎_elim (λ e. e) (λ e. e) l;
      intact = λ works. refl;
    };
    settled = λ clean content l. ⊎_elim (λ e. e) (λ e. e) l;
    fails = tt;
    stopped = (λ e. absurd cc, λ e. absurd cc);
    others = refl;
  },
)

pub returns-clause-another_key : goal.returns-clause-another_key
returns-clause-another_key c h = let e = (operator_same small_held fallen_node (keyed fallen_node) goes_on h).key in absurd cc

pub returns-clause-stops_without_a_fault : goal.returns-clause-stops_without_a_fault
returns-clause-stops_without_a_fault c h =
    elim h [
      | inl unlocks ↦ let e = unlocks.1.runs.1 in absurd cc
      | inr other ↦ elim other [
        | inl reads ↦ let e = reads.runs.1 in absurd cc
        | inr none ↦ let e = ap (λ (node : Hosted SmallStore). node.running) none.1 in absurd cc
      ]
    ]

pub returns-clause-fails_and_runs : goal.returns-clause-fails_and_runs
returns-clause-fails_and_runs c h =
    elim h [
      | inl unlocks ↦ let e = unlocks.1.stopped.0 refl in absurd cc
      | inr other ↦ elim other [
        | inl reads ↦ let e = reads.stopped.0 refl in absurd cc
        | inr none ↦ let e = none.0 in absurd cc
      ]
    ]

pub returns-clause-no_act : goal.returns-clause-no_act
returns-clause-no_act c = λ a b result x. x
