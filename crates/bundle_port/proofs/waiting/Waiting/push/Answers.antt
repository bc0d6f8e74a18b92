use Rattle.std.proofs.Common.{[], ◌∷◌, ◌++◌, ◌∙◌, List, ℕ, ap}
use Rattle.bundle_port.proofs.WaitingLemmas.{appended, appended_kept}
use Rattle.bundle_port.proofs.waiting.Waiting.push.Goals as goal

pub invariant_of-self : goal.invariant_of-self
invariant_of-self c =
    appended_kept c.self.inside.bytes.items c.push.new.self.items c.append.new.bytes.items c.args.part.now
    c.self.invariant c.push.ensures.items c.append.ensures c.requires.part

pub returns : goal.returns
returns c =
    appended c.self.inside.bytes.items c.push.new.self.items c.append.new.bytes.items c.args.part.now
    c.self.invariant c.push.ensures.items c.append.ensures c.requires.part
    ∙ ap (λ (parts : List (List ℕ)). parts ++ c.args.part.now ∷ []) c.self.view_is
