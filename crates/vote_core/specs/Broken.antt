-- Small calls of a voter, openings and events, each of which breaks one field of a promise. No contract cites them.
use Rattle.std.specs.Prelude.{ℕ, pos, List, [], Option, Some, None, Result, Ok, Err}
use Rattle.floor_store.specs.Content.{Content, with_next_boot}
use Rattle.floor_store.specs.Records.{ProposalRecord}
use Rattle.floor_store.specs.declared.fault.StoreFault.{StoreFault}
use Rattle.floor_store.specs.declared.fault.StoreFault.TheVariants.{Disk}
use Rattle.vote_core.specs.Cases.{own_floors, place, proposal}
use Rattle.vote_core.specs.Schedule.{Envelope, Event, Opening, Replaced}
use Rattle.vote_core.specs.State.{BallotRecord, VoterRecord}
use Rattle.vote_core.specs.Voting.{VoterState, Voted}
use Rattle.vote_core.specs.declared.step.Step.{Step}

-- a voter of a single node, with no token, at boot 0
abbrev pub lone_voter : VoterRecord
lone_voter = record { place = place 1 1; tokens = 0; boot = 0; ballots = []; seq = 0; turn = 0 }

-- a ballot of one factor without answers
abbrev pub small_ballot : BallotRecord
small_ballot = record { seq = 0; token = 0; lo = 5; hi = 5; drift = pos 0; age = 0; granting = 0; denying = 0 }

-- a step that leaves the given content, and does nothing else
abbrev pub leaving : Content → VoterState → Voted
leaving content voter = record { content = content; voter = voter; sends = []; begun = None; decisions = [] }

-- a step that changes nothing
abbrev pub no_step : Content → VoterState → Voted
no_step content voter = leaving content voter

-- a step that raises the boot, which no call of a voter does
abbrev pub boot_step : Content → VoterState → Voted
boot_step content voter = leaving (with_next_boot content) voter

-- the result of a call that sends and decides nothing, and began the given proposal
abbrev pub begins : Option ProposalRecord → Result (Step 1 1) StoreFault
begins begun = Ok (record { sends = record { items = [] }; begun = begun; decisions = record { items = [] } })

-- the first proposal of the voter
abbrev pub begun_one : Option ProposalRecord
begun_one = Some (proposal 1 0 0)

-- the result of a call that met a disk failure
abbrev pub disk_failed : Result (Step 1 1) StoreFault
disk_failed = Err Disk

-- an opening of nodes, each at the boot of its number, with the given messages on their way
abbrev pub opening_with : List Envelope → Opening
opening_with old = record { boot = λ node. node; floor = own_floors; old = old }

-- the replacement of the node's store
abbrev pub replaced : ℕ → Event
replaced node = Replaced node 2 (λ token. 0)
