-- Small lists of puts, and small stores of one token that replace others.
use Rattle.std.specs.Prelude.{ℕ, ◌==◌, List, [], ◌∷◌, None, Some, if◌then◌else◌}
use Rattle.sqlite.specs.Effect.{Database}
use Rattle.floor_store.specs.Content.{opening_row}
use Rattle.floor_store.specs.Examples.{old_pass}
use Rattle.floor_sql.specs.Broken.{put_of}
use Rattle.floor_sql.specs.Stored.{pass_row}
use Rattle.floor_sql.specs.declared.put.Put.{Put}
use Rattle.roster_sql.specs.Examples.{entry_of, one_token, small_bond}
use Rattle.roster_renewal.specs.Renewed.{Renews}

-- a put of the opening row of the first token with the given floor, without a pass
abbrev pub put_at : ℕ → Put
put_at next = put_of 0 (opening_row next) None

-- the same with a pass
abbrev pub pass_at : ℕ → Put
pass_at next = put_of 0 (opening_row next) (Some old_pass)

-- the store of one token with that pass
abbrev pub one_pass : Database
one_pass = record one_token {
  trees = λ tree. if tree == 2 then pass_row 1 old_pass ∷ [] else one_token.trees tree;
}

-- tables are replaced by `new`, with the entry and the bond of the store of one token
abbrev pub RenewsBy : ℕ → ℕ → List ℕ → List Put → Database → Database → Type 0
RenewsBy node boot floors puts old new = Renews node boot floors (entry_of 1 2 ∷ []) small_bond puts old new

-- the tables `old` are replaced by the tables of the store of one token
abbrev pub RenewsOne : ℕ → ℕ → List ℕ → List Put → Database → Type 0
RenewsOne node boot floors puts old = RenewsBy node boot floors puts old one_token
