use Rattle.std.proofs.Common.{◌≡◌, take}
use Rattle.named_store.specs.Floors.{seeded_floors}
use Rattle.named_store.proofs.floors.seeded_floors.Given as goal

abbrev pub invariant-loop-place : goal.invariant-loop-place
invariant-loop-place l = l.all.items ≡ seeded_floors l.roster l.held l.names l.floors (take l.place-index l.places)
