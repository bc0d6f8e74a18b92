use Rattle.std.proofs.Common.{◌<◌, ◌∙◌, ◌++◌, ◌∷◌, [], refl, arith}
use Rattle.oathd_serving.proofs.ReloadLemmas.{boots_more, fewer_left}
use Rattle.oathd_serving.proofs.reload.serve_boots.Goals as goal

pub loop-boot-init : goal.loop-boot-init
loop-boot-init g c = record {
  few = omega (arith, c.in_ok-boot.ensures.boot.left_are, c.args.serving.few);
  later = ([], refl);
  unlogged = λ quiet. c.serve_boot.ensures.unlogged quiet;
}

pub loop-boot-smaller : goal.loop-boot-smaller
loop-boot-smaller g c = fewer_left _ _ c.loop-boot-test.true c.in_ok-boot-2.ensures.fewer

pub loop-boot-preserved : goal.loop-boot-preserved
loop-boot-preserved g c =
    let boots = c.loop-boot.invariant.later in
    let less : c.in_ok-boot-2.boot.turns < c.loop-boot.boot.turns = fewer_left _ _ c.loop-boot-test.true c.in_ok-boot-2.ensures.fewer in
    record {
      few = omega (arith, less, c.loop-boot.invariant.few);
      later = (boots.0 ++ c.in_ok-boot-2.boot ∷ [], boots_more _ _ _ _ boots.0 boots.1 c.in_ok-boot-2.ensures.boot);
      unlogged = λ quiet. c.serve_boot-in-loop-boot.ensures.unlogged quiet ∙ c.loop-boot.invariant.unlogged quiet;
    }

pub returns-clause-boots : goal.returns-clause-boots
returns-clause-boots g c = record {
  first = _;
  of_turns = refl;
  next = c.in_ok-boot.boot;
  is_first = c.in_ok-boot.ensures.boot;
  last = c.loop-boot.boot;
  later = c.loop-boot.invariant.later.0;
  boots = c.loop-boot.invariant.later.1;
  none_left = omega (arith, c.loop-boot-test.false);
}
