-- Examples: a cluster of one node that is replaced, and stores with gates.
use Rattle.std.specs.Prelude.{ℕ, pos, List, [], ◌∷◌, Some, codes}
use Rattle.otp_core.specs.Gate.{GateRecord}
use Rattle.floor_store.specs.Records.{RowRecord, span_of}
use Rattle.floor_store.specs.Content.{Content}
use Rattle.vote_core.specs.Schedule.{Opening}
use Rattle.floors_file.specs.Floors.{FloorsRecord}

-- the floors file of the only node in its second boot, with all factors of its token below `next` used
abbrev pub told_alone : ℕ → FloorsRecord
told_alone next = record {
  head = record { node = 1; members = 1; boot = 2; moment = 0 };
  rows = record { user = codes "a"; next = next } ∷ [];
}

-- nodes that open at a boot, with one floor (first free factor) for all tokens, and with nothing on its way
abbrev pub opening_at : ℕ → ℕ → Opening
opening_at boot next = record { boot = λ node. boot; floor = λ node token. next; old = [] }

-- a gate with `fails` failures that is closed until a moment
abbrev pub gate_with : ℕ → ℕ → GateRecord
gate_with fails until = record { fails = fails; until = until }

-- a row with a gate; no other part is as at the opening
abbrev pub row_with : GateRecord → RowRecord
row_with gate = record {
  next = 7;
  grant = Some (record { node = 1; boot = 2; seq = 3 }, span_of 6 6);
  gate = gate;
  drift = pos 4;
}

-- a store at boot 5 with a last pass
abbrev pub store_with : List RowRecord → Content
store_with rows =
    record { rows = rows; boot = 5; last = Some (record { token = 0; lo = 6; hi = 6; boot = 2; seq = 3 }) }

-- the rows of two tokens that both have failures
abbrev pub two_closed : List RowRecord
two_closed = row_with (gate_with 3 115) ∷ row_with (gate_with 1 105) ∷ []
