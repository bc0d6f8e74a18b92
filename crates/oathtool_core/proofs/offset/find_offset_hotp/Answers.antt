use Rattle.std.proofs.Common.{ℕ, ◌+◌, arith, below_more, subst, sym}
use Rattle.oathtool_core.specs.Codes.{Matches}
use Rattle.oathtool_core.proofs.offset.find_offset_hotp.Goals as goal

pub loop-offset-preserved : goal.loop-offset-preserved
loop-offset-preserved c =
    below_more (λ (less : ℕ). Matches c.args.generator c.args.otp.now (c.args.first + less) → ⊥) c.loop-offset.offset c.loop-offset.invariant
    (λ m. let here : Matches c.args.generator c.args.otp.now c.factor_after.result =
    subst (λ (k : ℕ). Matches c.args.generator c.args.otp.now k) (sym c.factor_after.ensures) m in
    let yes_it_is = c.matches.ensures.1 here in cc)

pub returns-clause-none : goal.returns-clause-none
returns-clause-none c = λ offset within m. c.loop-offset.invariant offset (omega arith) m
