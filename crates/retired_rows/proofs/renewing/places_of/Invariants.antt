use Rattle.retired_rows.proofs.RenewLemmas.{HasPlacesFrom}
use Rattle.retired_rows.proofs.renewing.places_of.Given as goal

-- the index has the places of the rows from the last place on
abbrev pub invariant-loop-place : goal.invariant-loop-place
invariant-loop-place l = HasPlacesFrom l.place l.kept l.places
