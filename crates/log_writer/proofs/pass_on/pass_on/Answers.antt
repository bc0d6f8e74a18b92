use Rattle.std.proofs.Common.{◌-◌, ◌++◌, length, take, drop, sym, ap, subst, ◌∙◌, arith, length-take, take-add, take-take}
use Rattle.std.specs.Io.KnownBytes.{Appends}
use Rattle.std.proofs.KnownBytes.{Appends-trans}
use Rattle.log_writer.proofs.pass_on.pass_on.Goals as goal

pub loop-passed-preserved : goal.loop-passed-preserved
loop-passed-preserved g c =
    let done = c.loop-passed.passed in
    let n = c.in-Some.more in
    let xs = c.args.text.now in
    let before = c.loop-passed.invariant in
    let fits = c.in-Some.ensures.bound in
    let most = length-take (length xs - done) (drop done xs) in
    let joined = ap (λ l. take done xs ++ l) (take-take n (length xs - done) (drop done xs) (omega arith)) ∙ sym (take-add done n xs) in
    (omega arith, subst (Appends _ _) joined (Appends-trans _ _ _ _ _ before.1 c.in-Some.ensures.some))
