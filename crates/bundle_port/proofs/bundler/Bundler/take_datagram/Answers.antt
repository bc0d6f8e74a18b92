use Rattle.std.proofs.Common.{◌∙◌, leb, length, take, ap}
use Rattle.bundle_port.specs.Bundler.{LeftRecord}
use Rattle.bundle_port.proofs.WaitingLemmas.{have_parts}
use Rattle.bundle_port.proofs.bundler.Bundler.take_datagram.Goals as goal

pub hand_in-requires : goal.hand_in-requires
hand_in-requires c =
    ap (λ (left : LeftRecord). leb 1 (length left.parts)) c.fill.ensures ∙ have_parts (take c.args.len c.args.buffer.now)
