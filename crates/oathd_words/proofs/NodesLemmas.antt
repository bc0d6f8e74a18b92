-- What the words say of nodes whose number is given in one way or another.
use Rattle.std.proofs.Common.{◌≡◌, ℕ, Option, Some, None, sym, ◌∙◌}
use Rattle.std.specs.Prelude.{IfNone, IfSome, codes}
use Rattle.clap.specs.declared.parser.matches.Found.{Found}
use Rattle.oathd_words.specs.Given.{GivesMember}
use Rattle.oathd_words.specs.NodesWords.{AsksForNodes}
use Rattle.oathd_words.specs.declared.nodes_words.NodesWords.{NodesWords}
use Rattle.oathd_words.specs.declared.nodes_words.NodesWords.TheVariants.{Given, Named}

module _ (found : Found) where
  -- what is said of nodes with a number of one kind is said of those with one of another kind that it is too
  pub with_count : (P Q : ℕ → Type 0) → ((n : ℕ) → P n → Q n) → (nodes : NodesWords) → AsksForNodes P found nodes → AsksForNodes Q found nodes
  with_count P Q then (Given count settings key) asks = (asks.0, then count asks.1, asks.2, asks.3)
  with_count P Q then (Named path) asks = asks

-- a number that is given is the one that was read
pub member_read : (found : Found) (read : Option ℕ) (n : ℕ) → IfSome read (GivesMember found (codes "N"))
    → IfNone read ((m : ℕ) → GivesMember found (codes "N") m → ⊥) → GivesMember found (codes "N") n → read ≡ Some n
member_read found None n some none h = absurd (none n h)
member_read found (Some m) n some none h = let same = sym some.given ∙ h.given in cc
