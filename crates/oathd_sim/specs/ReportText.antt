-- The report of a run, as text.
use Rattle.std.specs.Prelude.{ℕ, List, ◌++◌, codes}
use Rattle.std.specs.Fmt.{decimal}
use Rattle.std.specs.List.{flat_map}
use Rattle.program_edge.specs.Line.{line_of}
use Rattle.otp_core.specs.Acceptance.{Acceptance}
use Rattle.cluster_sim.specs.World.{ReportValue, Answer}

-- a space followed by a number
abbrev pub spaced_number : ℕ → List ℕ
spaced_number number = codes " " ++ decimal number

-- an accepted submission: `pass BEGAN ENDED NODE TOKEN LO HI`
abbrev pub pass_line : Acceptance → List ℕ
pass_line pass = line_of (
    codes "pass" ++ spaced_number pass.began ++ spaced_number pass.ended
    ++ spaced_number pass.node ++ spaced_number pass.token ++ spaced_number pass.lo ++ spaced_number pass.hi
    )

-- an answer to a client: `answer EVENT NODE CLIENT TEXT`
abbrev pub answer_line : Answer → List ℕ
answer_line answer = line_of (
    codes "answer" ++ spaced_number answer.event ++ spaced_number answer.node ++ spaced_number answer.client
    ++ codes " " ++ answer.bytes
    )

-- the number of datagrams sent: `sent COUNT`
abbrev pub sent_line : ℕ → List ℕ
sent_line count = line_of (codes "sent" ++ spaced_number count)

-- the passes in order, then the answers in order, then the number of datagrams sent
abbrev pub report_text : ReportValue → List ℕ
report_text report = flat_map pass_line report.passes ++ flat_map answer_line report.answers ++ sent_line report.sent
