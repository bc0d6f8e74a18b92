use Rattle.std.proofs.Common.{length, ap, arith}
use Rattle.oathd_asking.proofs.sent.Sent.new.Goals as goal

pub invariant_of-result : goal.invariant_of-result
invariant_of-result c = record {
  is_sealed = tt;
  are_sealed = λ k d within. absurd (omega (arith, within, ap length c.new.ensures));
  is_report = tt;
  is_of_kept_text = tt;
}
