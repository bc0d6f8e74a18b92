-- Uses one after the other.
use Rattle.std.proofs.Common.{◌≡◌, ℕ, List, [], ◌∷◌, ◌++◌, refl}
use Rattle.book_law.specs.Lives.{Setting, Store, store_under}
use Rattle.book_law.specs.Uses.{AreUses, Serves, ServesInParts, StoreUse, Writes, store_after, written_store}

pub uses_append : (setting : Setting) (node : ℕ) (first rest : List StoreUse) (store : Store) → AreUses setting node store first → AreUses setting node (store_after setting first store) rest → AreUses setting node store (first ++ rest)
uses_append setting node [] rest store are later = later
uses_append setting node (Serves terms port taken entries left ∷ first) rest store are later =
    (are.0, uses_append setting node first rest (store_under terms.seats left store) are.1 later)
uses_append setting node (ServesInParts terms port parts left ∷ first) rest store are later =
    (are.0, uses_append setting node first rest (store_under terms.seats left store) are.1 later)
uses_append setting node (Writes action ∷ first) rest store are later =
    (are.0, uses_append setting node first rest (written_store setting action store) are.1 later)

pub after_append : (setting : Setting) (first rest : List StoreUse) (store : Store) → store_after setting (first ++ rest) store ≡ store_after setting rest (store_after setting first store)
after_append setting [] rest store = refl
after_append setting (Serves terms port taken entries left ∷ first) rest store = after_append setting first rest (store_under terms.seats left store)
after_append setting (ServesInParts terms port parts left ∷ first) rest store = after_append setting first rest (store_under terms.seats left store)
after_append setting (Writes action ∷ first) rest store = after_append setting first rest (written_store setting action store)
