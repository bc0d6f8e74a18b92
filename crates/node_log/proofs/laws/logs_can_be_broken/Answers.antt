-- What is remembered of a record is computed, and differs.
use Rattle.std.proofs.Common.{◌≡◌, List, [], ◌∷◌, codes, refl}
use Rattle.datagram_port.specs.Port.{PortEvent, Received}
use Rattle.datagram_port.specs.declared.port.Sender.TheVariants.{Client}
use Rattle.node_log.specs.Examples.{ann}
use Rattle.node_log.proofs.laws.logs_can_be_broken.Goals as goal

pub returns-clause-remembers_more : goal.returns-clause-remembers_more
returns-clause-remembers_more c h = let asked : ann ∷ [] ≡ [] = h.remembered [] refl in absurd cc

-- the one entry is a line of ann's
abbrev entries : List PortEvent
entries = Received (Client 7) (codes "CHECK k1 ann 755224 -") ∷ []

pub returns-clause-remembers_less : goal.returns-clause-remembers_less
returns-clause-remembers_less c h = let asked : [] ≡ ann ∷ [] = h.remembered entries refl in absurd cc
