-- The commands `unlock` and `level` over a store. Floor: the first free factor of a token at a node.
use Rattle.std.specs.Prelude.{ℕ, List, [], ◌∷◌, map}
use Rattle.floor_store.specs.Held.{Held}
use Rattle.book_law.specs.Lives.{Action, Raises, Store, store_raised}

-- the node's store that the given one holds, with the canonical token of each row
abbrev pub kept_in : {S : Type 0} → (S → Held) → List ℕ → S → Store
kept_in held names store = record { names = names; content = (held store).content }

-- the actions of a command that raises the floors of tokens in order, each with its token and floor
abbrev pub raises_of : ℕ → List (ℕ × ℕ) → List Action
raises_of node told = map (λ (raise : ℕ × ℕ). Raises node raise.0 raise.1) told

-- the store after the floors of tokens were raised in order
abbrev pub store_with_raises : List (ℕ × ℕ) → Store → Store
store_with_raises [] store = store
store_with_raises (raise ∷ told) store = store_with_raises told (store_raised raise.0 raise.1 store)
