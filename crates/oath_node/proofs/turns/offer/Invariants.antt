use Rattle.std.proofs.Common.{◌≡◌, ◌<◌, ◌≤◌, ◌^◌, ◌++◌, map}
use Rattle.datagram_port.specs.Port.{Grows}
use Rattle.oath_node.specs.TurnSteps.{reply_count}
use Rattle.oath_node.specs.Turns.{offer_of}
use Rattle.oath_node.proofs.turns.offer.Given as goal

-- the port got the items taken until now, and their replies are counted; its setup stays
abbrev pub invariant-loop-item : goal.invariant-loop-item
invariant-loop-item g l =
    Grows (g.P.Port.events l.initial.port) (g.P.Port.events l.port) (map offer_of l.yielded)
    × (l.replies ≤ reply_count l.yielded) × (reply_count l.yielded < 2 ^ 64 → l.replies ≡ reply_count l.yielded)
    × (l.yielded ++ l.item-iterator ≡ l.outputs.items) × (g.P.Port.setup l.port ≡ g.P.Port.setup l.initial.port)
