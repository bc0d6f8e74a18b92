-- Inputs and simulations of the worked cases. No contract cites them.
use Rattle.std.specs.Prelude.{ℕ, List, [], ◌++◌, codes}
use Rattle.otp_core.specs.Limits.{default_limits, limits_of}
use Rattle.oathd_sim.specs.Sim.{IsCutSo, Setup, output_of, sim_of}
use Rattle.oathd_sim.specs.declared.fault.Fault.{Fault}

-- a users file of a time token, and a client's line with `code` at the fifth step of its clock
abbrev pub time_script : List ℕ → List ℕ
time_script code =
    codes "HOTP/T30 silver - 3132333435363738393031323334353637383930\n%%\nclient 1 7 150 CHECK 1 silver " ++ code
    ++ codes " -\n"

-- the output for this input of a node with a skew, whose users are imported at the fifth step
abbrev pub printed_at_step_5 : ℕ → List ℕ → List ℕ
printed_at_step_5 skew code =
    output_of (sim_of (record { nodes = 1; limits = limits_of 10 skew 100; moment = 150; key = [] }) 199 299
    (time_script code))

-- one node under a key, whose users are imported at moment 0
abbrev pub one_node : List ℕ → Setup
one_node key = record { nodes = 1; limits = default_limits; moment = 0; key = key }

-- an input of 18 bytes, whose script is one line of 15 bytes
abbrev pub line_of_15 : List ℕ
line_of_15 = codes "%%\nclient 1 7 9 ab"

-- The fault names the line in which the input was cut off. `read` was read of it, its users file has at most `longest`
-- bytes, and the users are imported at the moment.
abbrev pub IsCutAt : ℕ → ℕ → ℕ → List ℕ → Fault → Type 0
IsCutAt moment longest limit read fault = IsCutSo default_limits moment longest limit read fault
