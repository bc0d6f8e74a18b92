-- Inputs and runs of the worked cases.
use Rattle.std.specs.Prelude.{ℕ, List, [], ◌∷◌, ◌++◌, Option, Some, codes}
use Rattle.otp_core.specs.Limits.{default_limits, limits_of}
use Rattle.oath_node.specs.ReferenceServer.{Line}
use Rattle.token_file.specs.declared.fault.FileFault.{FileFault}
use Rattle.token_file.specs.declared.fault.LineFault.{LineFault}
use Rattle.oathd_lines.specs.Client.{LinesRead}
use Rattle.oathd_lines.specs.Run.{IsCutSo, Run, Answered, run_of}
use Rattle.oathd_lines.specs.declared.fault.Fault.{Fault}

-- a line of a client
abbrev pub line_saying : ℕ → ℕ → List ℕ → Line
line_saying client moment text = record { client = client; moment = moment; text = text }

-- the lines of clients before a bad one
abbrev pub lines_before : Option ℕ → List Line → LinesRead
lines_before bad lines = record { good = lines; bad = bad }

-- a fault of a line of a users file
abbrev pub fault_at : ℕ → LineFault → FileFault
fault_at line kind = record { line = line; kind = kind }

-- the run of a server with default settings; `longest` bytes at most for a users file, `limit` for the input
abbrev pub run_at_most : ℕ → ℕ → List ℕ → Run
run_at_most longest limit text =
    run_of (record { limits = default_limits; moment = 0 }) longest limit text

-- the run of an input with two answers, whose seventh line is bad
abbrev pub answered : Run
answered = Answered (codes "OK 1 0" ∷ codes "NO 2 INVALID" ∷ []) (Some 7)

-- a users file of a time token, and a client's line with `code` at the fifth step of its clock
abbrev pub time_line : List ℕ → List ℕ
time_line code =
    codes "HOTP/T30 silver - 3132333435363738393031323334353637383930\n%%\n7 150 CHECK 1 silver " ++ code
    ++ codes " -\n"

-- the run of this input by a server with a skew, whose users are imported at the fifth step
abbrev pub run_at_step_5 : ℕ → List ℕ → Run
run_at_step_5 skew code = run_of (record { limits = limits_of 10 skew 100; moment = 150 }) 199 299 (time_line code)

-- The fault names the line in which the input was cut off. `read` was read of it, its users file has at most `longest`
-- bytes, and the users are imported at the moment.
abbrev pub IsCutAt : ℕ → ℕ → ℕ → List ℕ → Fault → Type 0
IsCutAt moment longest limit read fault =
    IsCutSo (record { limits = default_limits; moment = moment }) longest limit read fault
