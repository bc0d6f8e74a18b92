-- What a report that ends in rounds says.
use Rattle.std.proofs.Common.{◌≡◌, ◌+◌, ◌*◌, ◌<◌, ◌++◌, length, ap, sym, subst, ◌∙◌, arith}
use Rattle.cluster_sim.proofs.BelowLaws.{GateLaw, GroundLaw, RulingLaw}
use Rattle.cluster_sim.proofs.RoundLaw.{rounds_are_the_reference, sweep_settles}
use Rattle.cluster_sim.proofs.Seqs.{run_n}
use Rattle.cluster_sim.proofs.Unique.{rounds_are_these}
use Rattle.cluster_sim.proofs.Waves.{run_append}
use Rattle.cluster_sim.specs.Rounds.{IsSettled, RoundsReported, SweepEndSettles, rounds_events}
use Rattle.cluster_sim.specs.World.{World, opening_world, world_after_events, world_of}

pub rounds_reported : GroundLaw → GateLaw → RulingLaw → RoundsReported
rounds_reported grounds law rules config start before rounds live lines h are =
    let w = world_of config start before in
    let ys = rounds_events config live (length before) w lines in
    let done = rounds_are_the_reference grounds law rules config start before live lines h in
    let z : length before + 0 ≡ length before = omega arith in
    let same : rounds ≡ ys = (rounds_are_these grounds law rules config start before live lines h).1 rounds are in
    record {
      more = done.answers;
      told = ap (λ xs. (world_of config start (before ++ xs)).told) same
          ∙ ap (λ (v : World). v.told) (run_append config before ys 0 (opening_world config start) ∙ ap (λ m. world_after_events config m ys w) z) ∙ done.told;
      are = done.are;
      settled = subst (λ xs. IsSettled config live (world_of config start (before ++ xs))) (sym same)
          (subst (λ v. IsSettled config live v) (sym (run_append config before ys 0 (opening_world config start) ∙ ap (λ m. world_after_events config m ys w) z)) done.settled);
    }

-- ---- events that end in a sweep

pub sweep_end_settles : SweepEndSettles
sweep_end_settles config start events live h =
    subst (λ xs. IsSettled config live (world_of config start xs)) (sym h.are)
    (sweep_settles config start h.before live h.ascending (subst (λ m. m < 2 * length live) (sym (run_n config 0 h.before (opening_world config start))) h.majority) h.up)
