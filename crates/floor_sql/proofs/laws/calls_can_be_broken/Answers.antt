-- What else a stop leaves is asked of the store that says it leaves nothing else.
use Rattle.floor_store.specs.Held.{IsSettled}
use Rattle.floor_sql.specs.Held.{sql_held}
use Rattle.floor_sql.proofs.laws.calls_can_be_broken.Goals as goal

pub returns-clause-sound_settled : goal.returns-clause-sound_settled
returns-clause-sound_settled g c = λ store content left other sound.
    let settled : IsSettled (sql_held g.S.Store store) = sound.settled in
    other (settled content left)
