-- Worked histories of a node alone, and of one device or two: silver and maple may be the two names of one device. Each
-- has the secret of RFC 4226, Appendix D. Floor: the first free factor of a token at a node.
use Rattle.std.specs.Prelude.{ℕ, List, [], ◌∷◌, ◌++◌, codes}
use Rattle.book_law.specs.Examples.{line, maple_alone, maple_line, silver_alone, silver_first, silver_line, store_of_1}
use Rattle.book_law.specs.Lives.{Action, Enrols, Opens, Raises, Stops, Store, Takes, Terms, seen_in}
use Rattle.book_law.specs.Uses.{Serves, ServesInParts, StoreUse}

-- silver and maple are one device
abbrev pub one_device : ℕ → ℕ
one_device token = 0

-- each token is a device of its own
abbrev pub own_devices : ℕ → ℕ
own_devices token = token

-- Silver's factor 0 is accepted, and she is renamed to maple, whose new row has the device's floor. Maple's factor 1 is
-- accepted (actions 0 to 7).
abbrev pub renamed : List Action
renamed =
    Enrols 1 0 0 ∷ Opens 1 silver_alone ∷ Takes 1 silver_line ∷ Stops 1 ∷ Enrols 1 1 1 ∷ Opens 1 maple_alone
    ∷ Takes 1 (line (codes "CHECK 3 maple 287082 -")) ∷ Stops 1 ∷ []

-- She is renamed back. Her row is raised to the device's floor before the opening, and her factor 2 is accepted.
abbrev pub renamed_back : List Action
renamed_back =
    renamed ++ Raises 1 0 2 ∷ Opens 1 silver_alone ∷ Takes 1 (line (codes "CHECK 4 silver 359152 -")) ∷ []

-- the same, and her code of the factor 1 comes
abbrev pub asks_again : List Action
asks_again = renamed ++ Raises 1 0 2 ∷ Opens 1 silver_alone ∷ Takes 1 (line (codes "CHECK 4 silver 287082 -")) ∷ []

-- the same, but her row isn't raised
abbrev pub comes_back_lower : List Action
comes_back_lower = renamed ++ Opens 1 silver_alone ∷ Takes 1 (line (codes "CHECK 4 silver 287082 -")) ∷ []

-- both names are in one users file
abbrev pub both_names : List Action
both_names = Enrols 1 0 0 ∷ Enrols 1 1 0 ∷ Opens 1 silver_first ∷ Takes 1 silver_line ∷ Takes 1 maple_line ∷ []

-- a process of the terms that takes nothing from the store after `renamed`
abbrev pub serves : Terms → StoreUse
serves terms = Serves terms [] [] [] (seen_in (store_of_1 renamed) terms.seats)

-- the same in no parts
abbrev pub serves_in_parts : Terms → StoreUse
serves_in_parts terms = ServesInParts terms [] [] (seen_in (store_of_1 renamed) terms.seats)

-- the store with both names
abbrev pub both_rows : Store
both_rows = store_of_1 (Enrols 1 0 0 ∷ Enrols 1 1 0 ∷ [])
