-- A node that was served as the words of a command ask for.
use Rattle.std.specs.Prelude.{ℕ, Bool, true, false, List, Option, None, Some}
use Rattle.sqlite.specs.Store.{Ghosts}
use Rattle.sqlite.specs.Held as sql
use Rattle.oathd_words.specs.declared.store_words.ClientWords.{ClientWords}
use Rattle.oathd_words.specs.declared.store_words.ClusterWords.{ClusterWords}
use Rattle.node_serving.specs.declared.serving.Serving.{Serving}
use Rattle.oathd_site.specs.Names.{IsNamedOf}
use Rattle.oathd_serving.specs.Ends.{IsServedByNames, names_asked, never}
use Rattle.oathd_serving.specs.Reload.{IsReloaded}
use Rattle.oathd_serving.specs.Serve.{IsAskedFor, IsServedAsAsked}

module _ {S : Type 0} (g : Ghosts S) (finds : sql.Held S → Type 0) where
  -- a node is served to the end of its turns, by names if there are names
  abbrev pub IsServedSo : (Serving → Type 0) → List ℕ → Option (List ℕ) → Type 0
  IsServedSo IsAsked text None = IsServedAsAsked g finds IsAsked
  IsServedSo IsAsked text (Some names) = IsServedByNames g finds IsAsked (IsNamedOf text) never

  -- the same, or in a first life at least if the node takes its users file again
  abbrev pub IsServedWith : Bool → ClusterWords → ℕ → Bool → ClientWords → List ℕ → Type 0
  IsServedWith false cluster turns is_logged clients text =
      IsServedSo (IsAskedFor cluster turns is_logged clients text) text (names_asked cluster text)
  IsServedWith true cluster turns is_logged clients text =
      IsReloaded g finds (IsAskedFor cluster turns is_logged clients text) cluster turns text
