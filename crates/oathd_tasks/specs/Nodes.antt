-- The ends of the commands without a database.
use Rattle.std.specs.Prelude.{◌≡◌, ◌≤◌, ◌⊎◌, ℕ, ◌+◌, List, length, replicate, take, Option, None, Result, Ok, Err, IfNone, IfSome, IsErrAnd}
use Rattle.otp_core.specs.Range.{IsMoment}
use Rattle.cluster_file.specs.ClusterFile.{ClusterRecord, cluster_of}
use Rattle.oathd_lines.specs.Run.{EndsSo, run_of_input}
use Rattle.oathd_lines.specs.Secret.{EndsWithText}
use Rattle.oathd_lines.specs.declared.fault.Fault as lines_fault
use Rattle.oathd_lines.specs.declared.fault.Fault.TheVariants as lines
use Rattle.client_lines.specs.Request.{without_lf}
use Rattle.oathd_cluster.specs.Run as cluster
use Rattle.oathd_cluster.specs.Line.{LinesRead, node_lines}
use Rattle.oathd_sim.specs.Sim as sim
use Rattle.oathd_sim.specs.Sim.{Setup}
use Rattle.oathd_words.specs.declared.nodes_words.NodesWords.{NodesWords}
use Rattle.oathd_words.specs.declared.nodes_words.NodesWords.TheVariants.{Given, Named}
use Rattle.oathd_words.specs.declared.words.Task.{Task}
use Rattle.oathd_words.specs.declared.words.Task.TheVariants.{Lines, Sim as SimTask, Cluster as ClusterTask, Store, Ask, Survey, Check, NewKey, NewCluster, Secret, SecretOfInput}
use Rattle.users_input.specs.Input.{lines_of}
use Rattle.oathd_tasks.specs.NewCluster.{NewClusterEndsSo}
use Rattle.oathd_tasks.specs.NewKey.{NewKeyEndsSo}
use Rattle.oathd_tasks.specs.Check.{CheckEndsSo, IsKeyIn, IsOfClusterFile}
use Rattle.oathd_tasks.specs.declared.fault.Fault.{Fault}
use Rattle.oathd_tasks.specs.declared.fault.Fault.TheVariants.{Run, Sim, Cluster, CannotReadFile, NoDatabases, KeyPath}
use Rattle.oathd_tasks.specs.declared.setup.NodesSetup.{NodesSetup}

-- The key is in a key file, which may have any, or it is 32 zeros without a path.
abbrev pub IsKeyOf : {A : Type 0} → Option A → List ℕ → Type 0
IsKeyOf path key = IfNone path (key ≡ replicate 32 0)

-- the fault is one of a key: its file cannot be read or has none, or the allocator refused the memory
abbrev pub IsOfKey : Fault → Type 0
IsOfKey (Run lines.Memory) = Unit {0}
IsOfKey (Run (lines.BadKey fault)) = Unit {0}
IsOfKey (CannotReadFile path) = Unit {0}
IsOfKey KeyPath = Unit {0}
IsOfKey fault = ⊥

-- ---- The setup of nodes

-- the record of a value of the code
abbrev pub setup_value : NodesSetup → Setup
setup_value setup =
    record { nodes = setup.nodes; limits = setup.settings; moment = setup.moment; key = setup.key }

-- The number of nodes is 1 to 9, and the moment is in its range.
abbrev pub IsSetupInRange : Setup → Type 0
IsSetupInRange setup = (1 ≤ setup.nodes) × (setup.nodes ≤ 9) × IsMoment setup.moment

-- The setup of nodes whose users are imported at a moment. From the words, its key is in the key file or is 32 zeros.
-- From the text of a cluster file, its key is the cluster's.
abbrev pub IsSetup : NodesWords → ℕ → List ℕ → Setup → Type 0
IsSetup (Given count settings path) moment text setup =
    (key : List ℕ) × IsKeyOf path key
    × (setup ≡ record { nodes = count; limits = settings; moment = moment; key = key })
IsSetup (Named path) moment text setup =
    (cluster : ClusterRecord) × (cluster_of text ≡ Ok cluster) × (key : List ℕ) × IsKeyIn cluster.key key
    × (setup ≡ record { nodes = length cluster.members; limits = cluster.settings; moment = moment; key = key })

-- the fault is one of a setup: of the key, or the first one of the cluster file
abbrev pub IsOfSetup : NodesWords → List ℕ → Fault → Type 0
IsOfSetup (Given count settings path) text fault = IsOfKey fault
IsOfSetup (Named path) text fault = IsOfKey fault ⊎ IsOfClusterFile text fault

-- The end of a command over nodes: the one that its setup demands, or a fault of the setup, and nothing is written.
abbrev pub EndsWithSetup : NodesWords → ℕ → List ℕ → (Setup → Type 0) → Result Unit Fault
    → Option (List ℕ) → Option (List ℕ) → Type 0
EndsWithSetup nodes moment text EndsWith result old new =
    ((setup : Setup) × IsSetup nodes moment text setup × EndsWith setup)
    ⊎ ((fault : Fault) × (result ≡ Err fault) × IsOfSetup nodes text fault × (new ≡ old))

-- ---- The commands

-- The end of the command `lines`, if its input is known: it ends as the run over the input does.
abbrev pub LinesEndSo : Setup → Option (List ℕ) → Result Unit Fault → Option (List ℕ) → Option (List ℕ) → Type 0
LinesEndSo setup input (Ok done) old new =
    IfSome input (λ text. EndsSo (run_of_input setup.limits setup.moment text) (Ok tt) old new)
LinesEndSo setup input (Err (Run fault)) old new =
    IfSome input (λ text. EndsSo (run_of_input setup.limits setup.moment text) (Err fault) old new)
LinesEndSo setup input (Err fault) old new = ⊥

-- The end of the command `sim`, if its input is known: it ends as the simulation does.
abbrev pub SimEndsSo : Setup → Option (List ℕ) → Result Unit Fault → Option (List ℕ) → Option (List ℕ) → Type 0
SimEndsSo setup input (Ok done) old new =
    IfSome input (λ text. sim.EndsSo (sim.sim_of setup 16777216 16777216 text) (Ok tt) old new)
SimEndsSo setup input (Err (Sim fault)) old new =
    IfSome input (λ text. sim.EndsSo (sim.sim_of setup 16777216 16777216 text) (Err fault) old new)
SimEndsSo setup input (Err fault) old new = ⊥

-- the lines that the command `cluster` reads of an input
abbrev pub lines_read : ℕ → List ℕ → LinesRead
lines_read nodes text = node_lines nodes 1 (lines_of 16777216 (take (16777216 + 1) text))

-- The end of the command `cluster`, if its input is known: it writes a line for each line of the input. Without a
-- readable users file, nothing is written.
abbrev pub ClusterEndsSo : ℕ → Option (List ℕ) → Result Unit Fault → Option (List ℕ) → Option (List ℕ) → Type 0
ClusterEndsSo nodes input (Ok done) old new =
    IfSome input (λ text. cluster.EndsSo (lines_read nodes text) (Ok tt) old new)
ClusterEndsSo nodes input (Err (Cluster fault)) old new =
    IfSome input (λ text. cluster.EndsSo (lines_read nodes text) (Err fault) old new)
ClusterEndsSo nodes input (Err (CannotReadFile path)) old new = new ≡ old
ClusterEndsSo nodes input (Err fault) old new = ⊥

-- The end of the command `secret`: the text of the secret, its fault, or a failure of the output.
abbrev pub SecretEndsSo : List ℕ → Result Unit Fault → Option (List ℕ) → Option (List ℕ) → Type 0
SecretEndsSo hex (Ok done) old new = EndsWithText hex (Ok tt) old new
SecretEndsSo hex (Err (Run fault)) old new = (fault ≡ lines.CannotWrite) ⊎ EndsWithText hex (Err fault) old new
SecretEndsSo hex (Err fault) old new = ⊥

-- the input failed, or the allocator refused the memory for its text
abbrev pub IsOfInput : lines_fault.Fault → Type 0
IsOfInput lines.CannotRead = Unit {0}
IsOfInput lines.Memory = Unit {0}
IsOfInput fault = ⊥

-- The end of the command `secret --stdin`, if its input is known: the end of `secret` for the first 258 bytes, without
-- an LF at their end. If the input or the memory failed, nothing is written.
abbrev pub SecretOfInputEndsSo : Option (List ℕ) → Result Unit lines_fault.Fault → Option (List ℕ)
    → Option (List ℕ) → Type 0
SecretOfInputEndsSo input result old new =
    ((hex : List ℕ) × IfSome input (λ text. hex ≡ without_lf (take 258 text))
    × ((result ≡ Err lines.CannotWrite) ⊎ EndsWithText hex result old new))
    ⊎ (IsErrAnd result IsOfInput × (new ≡ old))

-- the end of the command `secret --stdin` in the program
abbrev pub InputEndsSo : Option (List ℕ) → Result Unit Fault → Option (List ℕ) → Option (List ℕ) → Type 0
InputEndsSo input (Ok done) old new = SecretOfInputEndsSo input (Ok tt) old new
InputEndsSo input (Err (Run fault)) old new = SecretOfInputEndsSo input (Err fault) old new
InputEndsSo input (Err fault) old new = ⊥

-- The end of a task, with the text of the cluster file that it names. A task over a database does nothing.
abbrev pub EndsAsAsked : Task → List ℕ → Option (List ℕ) → Result Unit Fault
    → Option (List ℕ) → Option (List ℕ) → Type 0
EndsAsAsked (Lines nodes moment) text input result old new =
    EndsWithSetup nodes moment text (λ setup. LinesEndSo setup input result old new) result old new
EndsAsAsked (SimTask nodes moment) text input result old new =
    EndsWithSetup nodes moment text (λ setup. SimEndsSo setup input result old new) result old new
EndsAsAsked (ClusterTask users nodes moment) text input result old new =
    EndsWithSetup nodes moment text (λ setup. ClusterEndsSo setup.nodes input result old new) result old new
EndsAsAsked (Store database users action) text input result old new = (result ≡ Err NoDatabases) × (new ≡ old)
-- What a running node tells is no claim of the program that asks it.
EndsAsAsked (Ask address node operator inquiry) text input result old new = Unit {0}
EndsAsAsked (Survey cluster operator) text input result old new = Unit {0}
EndsAsAsked (Check users cluster) text input result old new = CheckEndsSo text None result old new
EndsAsAsked NewKey text input result old new = NewKeyEndsSo result old new
EndsAsAsked NewCluster text input result old new = NewClusterEndsSo result old new
EndsAsAsked SecretOfInput text input result old new = InputEndsSo input result old new
EndsAsAsked (Secret hex) text input result old new = SecretEndsSo hex.now result old new
