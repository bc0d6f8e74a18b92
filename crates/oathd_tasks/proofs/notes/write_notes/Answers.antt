use Rattle.std.proofs.Common.{Result, Ok, Err}
use Rattle.std.specs.Prelude.{OnOk}
use Rattle.oathd_tasks.proofs.notes.write_notes.Goals as goal

-- what holds at the end of a write that succeeded
at_ok : {E : Type 0} (result : Result Unit E) (P Q : Type 0) → OnOk result P → (P → Q) → OnOk result Q
at_ok (Ok done) P Q holds gives = gives holds
at_ok (Err fault) P Q holds gives = tt

pub returns-in-Ok : goal.returns-in-Ok
returns-in-Ok g c =
    at_ok c.write_each.result _ _ c.write_each.ensures
    (λ written. record { shared = c.in-Ok.shared; is = c.in-Ok.ensures; written = written })
