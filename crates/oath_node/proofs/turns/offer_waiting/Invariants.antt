use Rattle.std.proofs.Common.{◌≡◌, take}
use Rattle.oath_node.specs.TurnSteps.{items_in}
use Rattle.oath_node.proofs.GrowLemmas.{AreOffered}
use Rattle.oath_node.proofs.turns.offer_waiting.Given as goal

-- the port got the items taken until now, and their replies are counted; its setup stays
abbrev pub invariant-loop-outputs : goal.invariant-loop-outputs
invariant-loop-outputs g l =
    AreOffered (g.P.Port.events l.initial.port) (g.P.Port.events l.port) (items_in (take l.outputs-index l.waiting)) l.replies
    × (g.P.Port.setup l.port ≡ g.P.Port.setup l.initial.port)
