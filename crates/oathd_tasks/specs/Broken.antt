-- Minimal words, files and faults of the commands without a database, which keep or break one part of a promise. No
-- contract cites them.
use Rattle.std.specs.Prelude.{ℕ, List, [], ◌∷◌, ◌++◌, Option, None, Some, Result, Ok, Err, codes, replicate}
use Rattle.std.specs.Borrow.{Bor}
use Rattle.otp_core.specs.Limits.{Limits, default_limits, limits_of}
use Rattle.token_file.specs.Credential.{Credential}
use Rattle.token_file.specs.Examples.{event_token}
use Rattle.cluster_file.specs.Check.{named_check_text}
use Rattle.cluster_file.specs.ClusterFile.{ClusterRecord}
use Rattle.cluster_file.specs.Examples.{small_cluster, small_file, text_of, zeros}
use Rattle.cluster_file.specs.Said.{Given as GivenKey}
use Rattle.cluster_file.specs.declared.fault.LineFault.{LineFault}
use Rattle.clients_file.specs.declared.fault.LineFault as clients_line
use Rattle.token_file.specs.declared.fault.LineFault as users_line
use Rattle.oathd_lines.specs.declared.fault.Fault as lines_fault
use Rattle.oathd_lines.specs.declared.fault.Fault.TheVariants as lines_faults
use Rattle.oathd_sim.specs.Sim.{Setup}
use Rattle.oathd_words.specs.declared.nodes_words.NodesWords.{NodesWords}
use Rattle.oathd_words.specs.declared.nodes_words.NodesWords.TheVariants.{Given, Named}
use Rattle.oathd_tasks.specs.Advice.{Sources}
use Rattle.oathd_tasks.specs.Nodes.{EndsWithSetup}
use Rattle.oathd_tasks.specs.Tally.{Found}
use Rattle.oathd_tasks.specs.declared.fault.Fault.{Fault}
use Rattle.oathd_tasks.specs.declared.fault.Fault.TheVariants.{Run, ClusterFile, ClientsFile}

-- ---- Faults and ends

-- the end of a command that succeeded
abbrev pub done : Result Unit Fault
done = Ok tt

-- the end of a command by a fault
abbrev pub ended_by : Fault → Result Unit Fault
ended_by fault = Err fault

-- the end of a command by a fault of a run over lines
abbrev pub run_ended_by : lines_fault.Fault → Result Unit Fault
run_ended_by fault = Err (Run fault)

-- a fault of a line of a cluster file
abbrev pub file_fault : ℕ → LineFault → Fault
file_fault line kind = ClusterFile (record { line = line; kind = kind })

-- a fault of a line of a clients file
abbrev pub clients_fault : ℕ → clients_line.LineFault → Fault
clients_fault line kind = ClientsFile (record { line = line; kind = kind })

-- ---- Words

-- a word of the command line
abbrev pub word : List ℕ → Bor (List ℕ)
word text = record { ref_ptr = (0, 0); now = text }

-- no path
abbrev pub no_path : Option (List ℕ)
no_path = None

-- `count` nodes, given by options without a key
abbrev pub given_nodes : ℕ → NodesWords
given_nodes count = Given count default_limits None

-- two nodes with a key file
abbrev pub nodes_with_key : NodesWords
nodes_with_key = Given 2 default_limits (Some (word []))

-- the nodes of a cluster file
abbrev pub named_nodes : NodesWords
named_nodes = Named (word [])

-- ---- Setups

-- a setup with a number of nodes, limits and a moment, under 32 zeros
abbrev pub setup_of : ℕ → Limits → ℕ → Setup
setup_of nodes limits moment = record { nodes = nodes; limits = limits; moment = moment; key = replicate 32 0 }

-- a setup under another key
abbrev pub keyed : List ℕ → Setup → Setup
keyed key setup = record setup { key = key }

-- two nodes with the default settings, at moment 5
abbrev pub usual_setup : Setup
usual_setup = setup_of 2 default_limits 5

-- settings that are not the default ones
abbrev pub narrow_limits : Limits
narrow_limits = limits_of 10 0 100

-- the end of a command over two nodes, given by options, at moment 5
abbrev pub EndsGiven : (Setup → Type 0) → Result Unit Fault → List ℕ → Type 0
EndsGiven EndsWith result new = EndsWithSetup (given_nodes 2) 5 [] EndsWith result (Some []) (Some new)

-- the end of a command over the nodes of a cluster file with `text`, at moment 5
abbrev pub EndsNamed : List ℕ → (Setup → Type 0) → Result Unit Fault → List ℕ → Type 0
EndsNamed text EndsWith result new = EndsWithSetup named_nodes 5 text EndsWith result (Some []) (Some new)

-- ---- Cluster files

-- a cluster file of one member with the default settings, whose key is in a key file
abbrev pub small_text : List ℕ
small_text = text_of small_file

-- a cluster file of one member with a key of 16 zeros
abbrev pub keyed_text : List ℕ
keyed_text = text_of (codes "member 1 192.0.2.1:7101" ∷ (codes "key " ++ zeros 32) ∷ codes "life a" ∷ [])

-- the cluster of this file
abbrev pub keyed_cluster : ClusterRecord
keyed_cluster = record small_cluster { key = GivenKey (replicate 16 0) }

-- a book of one token
abbrev pub one_token : List Credential
one_token = event_token (codes "a") ∷ []

-- a users file whose first and third row have one secret
abbrev pub shared_rows : List ℕ
shared_rows = codes "HOTP a - 31\nHOTP/T30 b - 31\nHOTP c - 31"

-- the output of a check of the small cluster with a book, under an empty key
abbrev pub checked : List Credential → List ℕ
checked book = named_check_text [] small_cluster book

-- a users file whose first row a byte order mark hides
abbrev pub marked : List ℕ
marked = 239 ∷ 187 ∷ 191 ∷ codes "HOTP a - 31"

-- ---- Notes and advice

-- what was found at a line
abbrev pub found_at : ℕ → List ℕ → Option Found
found_at line word = Some (record { line = line; word = word })

-- the fields of a row with a secret
abbrev pub given_row : List ℕ → List (List ℕ)
given_row [] = codes "HOTP" ∷ codes "a" ∷ codes "-" ∷ []
given_row secret = codes "HOTP" ∷ codes "a" ∷ codes "-" ∷ secret ∷ []

-- a fault of a line of a users file
abbrev pub users_fault : ℕ → users_line.LineFault → Fault
users_fault line kind = Run (lines_faults.Users (record { line = line; kind = kind }))

-- the files of a check, whose users file has `rows`
abbrev pub told_sources : List ℕ → Sources
told_sources rows =
    record { users = codes "u"; rows = rows; cluster = codes "c"; key = codes "k"; reason = codes "r" }
