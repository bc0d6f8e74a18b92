use Rattle.std.proofs.Common.{◌∙◌, ℕ, eqb, leb, length, ap}
use Rattle.bundle_port.specs.Bundler.{LeftRecord}
use Rattle.bundle_port.proofs.WaitingLemmas.{is_none_left}
use Rattle.bundle_port.proofs.left.Left.is_empty.Goals as goal

pub returns : goal.returns
returns c =
    ap (λ (len : ℕ). leb len c.self.inside.start) c.len.ensures.value
    ∙ is_none_left c.self.inside.bytes.items c.self.inside.start c.self.invariant
    ∙ ap (λ (left : LeftRecord). eqb (length left.parts) 0) c.self.view_is
