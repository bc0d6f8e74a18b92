use Rattle.std.proofs.Common.{◌≡◌, List, ℕ, Some, ap, sym}
use Rattle.oathtool_core.specs.Run.{otp_text}
use Rattle.oathtool_core.proofs.RunLemmas.{ends_stopped, ends_unmatched}
use Rattle.oathtool_core.proofs.emulator.run.Goals as goal

pub returns-in_err-plan : goal.returns-in_err-plan
returns-in_err-plan g c = record {
  ends = ends_stopped c.args.words.now c.args.clock c.from_residual.result c.in_err-plan.field-0.0 (g.W.Write.contents c.args.writer.now)
      c.from_residual.ensures.1 c.in_err-plan.ensures.stops;
}

pub returns-in-None : goal.returns-in-None
returns-in-None g c =
    let otp : otp_text c.args.words.now ≡ Some c.as_bytes.result.now =
    rw c.in-Some.is (ap (λ (t : List ℕ). Some t) (sym c.as_bytes.ensures.value)) in
    record {
      ends = ends_unmatched c.args.words.now c.args.clock c.in_ok-plan.plan c.generator-generator.result c.as_bytes.result.now
          (g.W.Write.contents c.args.writer.now) c.in_ok-plan.ensures.ready c.generator-generator.ensures c.in-Hotp.is otp
          c.in-None.ensures.none;
    }
