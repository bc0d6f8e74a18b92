-- Worked scripts of nodes with the one token of RFC 4226, Appendix D. Floor: the first free factor of a token.
use Rattle.std.specs.Prelude.{ℕ, ℤ, pos, zero, suc, ◌+◌, ◌++◌, List, [], ◌∷◌, map, Option, Bool, true, false, Some, None, codes, replicate}
use Rattle.floor_store.specs.Records.{span_of}
use Rattle.hmac_core.specs.declared.hash.Hash.TheVariants.{Sha1}
use Rattle.otp_core.specs.Acceptance.{Acceptance}
use Rattle.otp_core.specs.declared.digits.Digits.TheVariants.{Six}
use Rattle.token_file.specs.Credential.{Credential}
use Rattle.token_file.specs.declared.token.Kind.TheVariants.{Event, Time30}
use Rattle.token_file.specs.declared.token.Password.TheVariants.{NoneAllowed, Equal}
use Rattle.vote_core.specs.Schedule.{Envelope}
use Rattle.vote_core.specs.declared.message.Message.TheVariants.{Ask}
use Rattle.oath_node.specs.Machine.{Config}
use Rattle.client_lines.specs.Answer.{answer_bytes}
use Rattle.client_lines.specs.declared.answer.Answer.TheVariants.{BadLine, Reply}
use Rattle.client_lines.specs.declared.answer.Outcome.{Outcome}
use Rattle.cluster_sim.specs.Answered.{AreAnswered, NamePasses, TellTruth}
use Rattle.cluster_sim.specs.Drifts.{drift_after, moment_in}
use Rattle.cluster_sim.specs.Justified.{IsJustified}
use Rattle.cluster_sim.specs.World.{WorldEvent, Happens, Cut, Restart, Says, Deliver, Ticks, Noise, Answer, ReportValue, Start, first_start}

-- a user with the secret of the appendix
abbrev pub user_named : List ℕ → Credential
user_named name = record {
  name = name;
  password = NoneAllowed;
  secret = codes "12345678901234567890";
  kind = Event;
  digits = Six;
  hash = Sha1;
}

-- a look-ahead of 5 and a range of 9, over the given book
abbrev pub config_with : List Credential → Config
config_with book = record { book = book; limits = record { look_ahead = 5; skew = 1; range = 9; drift = 0 } }

-- one user
abbrev pub config : Config
config = config_with (user_named (codes "silver") ∷ [])

-- three nodes with the floor 0
abbrev pub three : Start
three = first_start ((0 ∷ []) ∷ (0 ∷ []) ∷ (0 ∷ []) ∷ [])

-- four nodes with the floor 0
abbrev pub four : Start
four = first_start (replicate 4 (0 ∷ []))

-- five nodes with the floor 0
abbrev pub five : Start
five = first_start (replicate 5 (0 ∷ []))

-- a client's line at a moment
abbrev pub line_at : ℕ → ℕ → ℕ → List ℕ → WorldEvent
line_at node client moment line = Happens (Says node client moment line)

-- the delivery of the datagram of that number to a node
abbrev pub delivery : ℕ → ℕ → WorldEvent
delivery node k = Happens (Deliver node k)

-- a tick of a node
abbrev pub tick_of : ℕ → WorldEvent
tick_of node = Happens (Ticks node)

-- the reply to a client's line with the nonce
abbrev pub told_outcome : ℕ → ℕ → ℕ → List ℕ → Outcome → Answer
told_outcome event node client nonce outcome =
    record { event = event; node = node; client = client; bytes = answer_bytes (Reply nonce outcome) }

-- the reply to a client's bad line
abbrev pub told_bad_line : ℕ → ℕ → ℕ → Answer
told_bad_line event node client =
    record { event = event; node = node; client = client; bytes = answer_bytes BadLine }

-- a report: the acceptances, the replies, and the number of datagrams sent
abbrev pub report_with : List Acceptance → List Answer → ℕ → ReportValue
report_with passes answers sent = record { passes = passes; answers = answers; sent = sent }

-- an acceptance of the one user
abbrev pub acceptance : ℕ → ℕ → ℕ → ℕ → ℕ → Acceptance
acceptance began ended node lo hi =
    record { began = began; ended = ended; node = node; token = 0; lo = lo; hi = hi }

-- ---- clusters

-- client 7 sends the first code to node 1
abbrev pub first_at_1 : WorldEvent
first_at_1 = line_at 1 7 1000 (codes "CHECK a silver 755224 -")

-- client 8 sends it to node 2
abbrev pub first_at_2 : WorldEvent
first_at_2 = line_at 2 8 1000 (codes "CHECK b silver 755224 -")

-- node 3 grants node 1's proposal alone
abbrev pub two_submissions : List WorldEvent
two_submissions =
    first_at_1 ∷ first_at_2 ∷ delivery 3 1 ∷ delivery 3 3 ∷ delivery 1 4 ∷ delivery 2 5 ∷ delivery 1 2 ∷ delivery 2 6
    ∷ []

-- two of four nodes grant the one proposal, and two the other: neither has a majority
abbrev pub split_two_to_two : List WorldEvent
split_two_to_two =
    first_at_1 ∷ first_at_2 ∷ delivery 3 1 ∷ delivery 4 5 ∷ delivery 1 6 ∷ delivery 2 7 ∷ delivery 2 0 ∷ delivery 4 2
    ∷ delivery 1 8 ∷ delivery 1 9 ∷ delivery 1 3 ∷ delivery 3 4 ∷ delivery 2 10 ∷ delivery 2 11 ∷ []

-- node 3 stops inside the step in which it grants, and is then asked again
abbrev pub stop_after_the_commit : Bool → List WorldEvent
stop_after_the_commit kept =
    first_at_1 ∷ Cut kept (Deliver 3 1) ∷ delivery 3 1 ∷ first_at_2 ∷ delivery 3 4 ∷ delivery 1 2 ∷ delivery 2 5 ∷ []

-- node 1 restarts before a Grant of its old boot arrives
abbrev pub old_grants : List WorldEvent
old_grants =
    first_at_1 ∷ delivery 2 0 ∷ Restart 1 ∷ delivery 1 2 ∷ delivery 1 2
    ∷ line_at 1 7 1010 (codes "CHECK a silver 755224 -") ∷ line_at 1 7 1015 (codes "CHECK c silver 287082 -")
    ∷ delivery 2 3 ∷ delivery 1 5 ∷ []

-- no datagram arrives
abbrev pub eight_ticks : List WorldEvent
eight_ticks =
    first_at_1 ∷ tick_of 1 ∷ tick_of 1 ∷ tick_of 1 ∷ tick_of 1 ∷ tick_of 1 ∷ tick_of 1 ∷ tick_of 1 ∷ tick_of 1 ∷ []

-- another node accepts the next factor
abbrev pub second_factor_elsewhere : List WorldEvent
second_factor_elsewhere =
    first_at_1 ∷ delivery 2 0 ∷ delivery 1 2 ∷ line_at 2 8 1000 (codes "CHECK b silver 287082 -") ∷ delivery 1 3
    ∷ delivery 2 5 ∷ []

-- one of five nodes grants twice, which counts once
abbrev pub one_voter_twice : List WorldEvent
one_voter_twice =
    first_at_1 ∷ delivery 2 0 ∷ delivery 1 4 ∷ delivery 1 4 ∷ delivery 3 1 ∷ delivery 1 5 ∷ []

-- two consecutive codes against the first of them
abbrev pub span_against_one : List WorldEvent
span_against_one =
    first_at_1 ∷ line_at 2 8 1000 (codes "RESYNC b silver 755224 287082 -") ∷ delivery 3 1 ∷ delivery 3 3
    ∷ delivery 1 4 ∷ delivery 1 2 ∷ delivery 2 5 ∷ delivery 2 6 ∷ []

-- a datagram from node 1 to node 2 that asks for the first factor
abbrev pub forged_ask : Envelope
forged_ask =
    record { sender = 1; receiver = 2; message = Ask (record { node = 1; boot = 1; seq = 0 }) 0 (span_of 0 0) }

-- Events without effect: a datagram at another node, bytes without an envelope, a stop inside noise, and a line at an
-- unknown node. Two more are bytes with the cluster's key, from the address of their sender and of another node. The
-- last event is a stop that keeps an acceptance.
abbrev pub nothing_happens : List WorldEvent
nothing_happens =
    first_at_1 ∷ delivery 3 0 ∷ Happens (Noise 2 1 None) ∷ Happens (Noise 2 1 (Some forged_ask))
    ∷ Happens (Noise 2 3 (Some forged_ask)) ∷ Cut true (Noise 2 1 None)
    ∷ line_at 4 7 1000 (codes "CHECK a silver 755224 -") ∷ delivery 2 0 ∷ Cut true (Deliver 1 2)
    ∷ line_at 1 7 1000 (codes "CHECK a silver 755224 -") ∷ []

-- node 1 stops inside the step in which it accepts, and loses the acceptance
abbrev pub stop_before_accepting : List WorldEvent
stop_before_accepting = first_at_1 ∷ delivery 2 0 ∷ Cut false (Deliver 1 2) ∷ first_at_1 ∷ []

-- a stop inside the delivery of a datagram that was never sent has no effect
abbrev pub stop_of_nothing : List WorldEvent
stop_of_nothing = first_at_1 ∷ Cut true (Deliver 1 99) ∷ delivery 2 0 ∷ delivery 1 2 ∷ []

-- node 1 stops inside noise while a line waits
abbrev pub stop_in_noise : List WorldEvent
stop_in_noise = first_at_1 ∷ Cut true (Noise 1 2 None) ∷ delivery 2 0 ∷ delivery 1 2 ∷ []

-- node 1 stops inside a tick while a line waits
abbrev pub stop_in_a_tick : List WorldEvent
stop_in_a_tick = first_at_1 ∷ Cut true (Ticks 1) ∷ delivery 2 0 ∷ delivery 1 2 ∷ []

-- node 1 stops inside a line, which arrives again
abbrev pub stop_in_a_line : Bool → List WorldEvent
stop_in_a_line kept = Cut kept (Says 1 7 1000 (codes "CHECK a silver 755224 -")) ∷ first_at_1 ∷ []

-- ---- a single node

-- one node with the floor 0
abbrev pub alone : Start
alone = first_start ((0 ∷ []) ∷ [])

-- the lines to a fresh token
abbrev pub fresh_token : List WorldEvent
fresh_token =
    line_at 1 7 100 (codes "CHECK 1 silver 755224 -")
    ∷ line_at 1 7 100 (codes "CHECK 2 silver 755224 -")
    ∷ line_at 1 7 100 (codes "CHECK 1 silver 755224 -" ++ 10 ∷ [])
    ∷ line_at 1 8 104 (codes "CHECK 1 silver 755224 -")
    ∷ line_at 1 8 105 (codes "CHECK 3 silver 755224 -")
    ∷ line_at 1 7 114 (codes "CHECK 4 silver 359152 -")
    ∷ line_at 1 7 115 (codes "CHECK 5 silver 359152 -")
    ∷ line_at 1 7 116 (codes "CHECK 6 gold 287082 -")
    ∷ line_at 1 7 117 (codes "CHECK 7 silver 12345 -")
    ∷ line_at 1 7 1099511627776 (codes "CHECK 8 silver 969429 -")
    ∷ []

-- a refusal is given again, and counted once
abbrev pub refusal_again : List WorldEvent
refusal_again =
    line_at 1 7 100 (codes "CHECK 1 silver 000000 -")
    ∷ line_at 1 7 101 (codes "CHECK 1 silver 000000 -")
    ∷ line_at 1 7 105 (codes "CHECK 2 silver 755224 -")
    ∷ []

-- two consecutive codes
abbrev pub resynchronization : List WorldEvent
resynchronization =
    line_at 1 7 100 (codes "RESYNC 4 silver 287922 399871 -")
    ∷ line_at 1 7 105 (codes "RESYNC 5 silver 162583 399871 -")
    ∷ []

-- a failure also counts after a restart
abbrev pub gate_survives_restart : List WorldEvent
gate_survives_restart =
    line_at 1 7 100 (codes "CHECK 1 silver 000000 -")
    ∷ Restart 1
    ∷ line_at 1 7 104 (codes "CHECK 1 silver 755224 -")
    ∷ line_at 1 7 105 (codes "CHECK 3 silver 755224 -")
    ∷ []

-- one user with a password
abbrev pub with_password : Config
with_password =
    config_with (record (user_named (codes "silver")) { password = Equal (record { items = codes "pw" }) } ∷ [])

-- a line without the password, and one with it
abbrev pub password_column : List WorldEvent
password_column =
    line_at 1 7 100 (codes "CHECK 1 silver 755224 -") ∷ line_at 1 7 105 (codes "CHECK 2 silver 755224 pw") ∷ []

-- one node without a factor left
abbrev pub exhausted : Start
exhausted = first_start ((4611686018427387904 ∷ []) ∷ [])

-- ---- many users

-- the name of the user of that number: "u" and a letter
abbrev pub letter_user : ℕ → List ℕ
letter_user number = 117 ∷ (64 + number) ∷ []

-- the given number of users, all with the same secret
abbrev pub letter_users : ℕ → List Credential
letter_users zero = []
letter_users (suc number) = letter_users number ++ user_named (letter_user (suc number)) ∷ []

-- a line for each of the given number of users
abbrev pub letter_lines : ℕ → List WorldEvent
letter_lines zero = []
letter_lines (suc number) =
    letter_lines number
    ++ line_at 1 7 1000 (codes "CHECK n " ++ letter_user (suc number) ++ codes " 755224 -") ∷ []

-- 33 users
abbrev pub many_users : Config
many_users = config_with (letter_users 33)

-- three nodes with the floor 0 of every token
abbrev pub many_floors : Start
many_floors = first_start ([] ∷ [] ∷ [] ∷ [])

-- ---- drifts

-- one user with a token of 30 seconds, and a drift of up to `steps` steps
abbrev pub clock_config : ℕ → Config
clock_config steps = record {
  book = record (user_named (codes "silver")) { kind = Time30 } ∷ [];
  limits = record { look_ahead = 5; skew = 1; range = 9; drift = steps };
}

-- one node with the floor 2
abbrev pub clock_alone : Start
clock_alone = first_start ((2 ∷ []) ∷ [])

-- three nodes with the floor 2
abbrev pub clock_three : Start
clock_three = first_start ((2 ∷ []) ∷ (2 ∷ []) ∷ (2 ∷ []) ∷ [])

-- the code of the step before the present one, at node 1
abbrev pub one_behind : WorldEvent
one_behind = line_at 1 7 120 (codes "CHECK 1 silver 969429 -")

-- the code of two steps before the present one, at a node
abbrev pub two_behind : ℕ → WorldEvent
two_behind node = line_at node 7 180 (codes "CHECK 2 silver 338314 -")

-- the same codes, followed by the codes of three steps before and of the present step
abbrev pub clock_lines : List WorldEvent
clock_lines =
    one_behind ∷ two_behind 1 ∷ line_at 1 7 240 (codes "CHECK 3 silver 254676 -")
    ∷ line_at 1 7 270 (codes "CHECK 4 silver 520489 -") ∷ []

-- node 1 of three accepts the first of these codes; the next one arrives at node 2, and later at node 1
abbrev pub clock_among : List WorldEvent
clock_among =
    one_behind ∷ delivery 2 0 ∷ delivery 1 2 ∷ two_behind 2 ∷ two_behind 1 ∷ delivery 2 3 ∷ delivery 1 5 ∷ []

-- node 1 stops inside the step in which it accepts the code, and the next one arrives
abbrev pub clock_stopped : Bool → List WorldEvent
clock_stopped kept = one_behind ∷ delivery 2 0 ∷ Cut kept (Deliver 1 2) ∷ two_behind 1 ∷ []

-- a single node stops inside the line of the first code, which it accepts
abbrev pub clock_line_stopped : List WorldEvent
clock_line_stopped = Cut true (Says 1 7 120 (codes "CHECK 1 silver 969429 -")) ∷ []

-- the moments in events of each kind other than lines
abbrev pub moments_of_others : List (Option ℕ)
moments_of_others =
    map (λ event. moment_in (Some event))
    (delivery 1 0 ∷ tick_of 1 ∷ Happens (Noise 1 2 None) ∷ Restart 1 ∷ [])

-- the drift of a token at node 1 after the acceptances of the cluster's lines, from 7 on
abbrev pub drift_of_passes : ℕ → List Acceptance → ℤ
drift_of_passes token passes = drift_after (clock_config 10) clock_among 1 token (pos 7) passes

-- ---- the promises of a run

-- whether an acceptance of a run of the events at three nodes is justified
abbrev pub IsJustifiedAmong : List WorldEvent → Acceptance → Type 0
IsJustifiedAmong events accepted = IsJustified config three events accepted

-- whether an acceptance of the fresh token at one node is justified
abbrev pub IsJustifiedAlone : Acceptance → Type 0
IsJustifiedAlone accepted = IsJustified config alone fresh_token accepted

-- whether an acceptance of the token with the late clock is justified
abbrev pub IsJustifiedByClock : Acceptance → Type 0
IsJustifiedByClock accepted = IsJustified (clock_config 10) clock_alone clock_lines accepted

-- node 1 accepts the first factor in event 2, which began with the line of client 7 in event 0
abbrev pub first_pass : Acceptance
first_pass = acceptance 0 2 1 0 0

-- whether a reply is true, if the first pass is the only acceptance
abbrev pub IsToldTruly : Answer → Type 0
IsToldTruly told = TellTruth second_factor_elsewhere (first_pass ∷ []) (told ∷ [])

-- whether a reply names its acceptance, if the first pass is the only acceptance
abbrev pub NamesItsPass : Answer → Type 0
NamesItsPass told = NamePasses second_factor_elsewhere (first_pass ∷ []) (told ∷ [])

-- whether the first pass is answered, if these are all replies
abbrev pub IsAnsweredBy : List Answer → Type 0
IsAnsweredBy answers = AreAnswered second_factor_elsewhere answers (first_pass ∷ [])
