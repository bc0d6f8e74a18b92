-- The options about nodes whose stores are in memory, as values that clap found.
use Rattle.std.specs.Prelude.{◌≡◌, ◌≤◌, ℕ, List, Option, None, Some, codes}
use Rattle.std.specs.Option.{option_map}
use Rattle.clap.specs.Matches.{first_value}
use Rattle.clap.specs.declared.parser.matches.Found.{Found}
use Rattle.oathd_words.specs.Given.{GivesLimits}
use Rattle.oathd_words.specs.declared.nodes_words.NodesWords.{NodesWords}
use Rattle.oathd_words.specs.declared.nodes_words.NodesWords.TheVariants.{Given, Named}

-- the path of the key file, or None without the option
abbrev pub GivesKey : Found → Option (List ℕ) → Type 0
GivesKey found key = first_value found (codes "key") ≡ key

-- the source of the nodes: the options, with a number that `IsCount` allows, or the cluster file at a path
abbrev pub AsksForNodes : (ℕ → Type 0) → Found → NodesWords → Type 0
AsksForNodes IsCount found (Given count settings key) =
    (first_value found (codes "cluster") ≡ None) × IsCount count × GivesLimits found settings
    × GivesKey found (option_map (λ path. path.now) key)
AsksForNodes IsCount found (Named path) = first_value found (codes "cluster") ≡ Some path.now

-- the number of nodes is in its range
abbrev pub AreNodesInRange : NodesWords → Type 0
AreNodesInRange (Given count settings key) = (1 ≤ count) × (count ≤ 9)
AreNodesInRange (Named path) = Unit {0}

-- the path of the cluster file, if nodes come from one
abbrev pub nodes_path : NodesWords → Option (List ℕ)
nodes_path (Given count settings key) = None
nodes_path (Named path) = Some path.now
