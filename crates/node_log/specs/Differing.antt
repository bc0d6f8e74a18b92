-- The members from which datagrams came that a node can't read.
use Rattle.std.specs.Prelude.{ℕ, Bool, false, true, if◌then◌else◌, List, [], ◌∷◌, slice_index_or, slice_set, codes}
use Rattle.std.specs.List.{flat_map}
use Rattle.node_log.specs.Members.{member_line}

-- Whether each member differs is a list, from member 0, which there is not, to member 9.

-- the members that differ, with those of the given numbers that differ by another list
abbrev pub with_others : List ℕ → List Bool → List Bool → List Bool
with_others [] others differing = differing
with_others (number ∷ numbers) others differing =
    with_others numbers others
    (if slice_index_or others number false then slice_set differing number true else differing)

-- the members that differ by one list or by another
abbrev pub either : List Bool → List Bool → List Bool
either differing others = with_others (1 ∷ 2 ∷ 3 ∷ 4 ∷ 5 ∷ 6 ∷ 7 ∷ 8 ∷ 9 ∷ []) others differing

-- the line of a member if it differs, or nothing
abbrev pub differs_text : List Bool → ℕ → List ℕ
differs_text differing number =
    if slice_index_or differing number false then member_line (codes "differs") number else []

-- the lines of the members that differ, by their numbers
unfoldable pub differing_text : List Bool → List ℕ
differing_text differing =
    flat_map (differs_text differing) (1 ∷ 2 ∷ 3 ∷ 4 ∷ 5 ∷ 6 ∷ 7 ∷ 8 ∷ 9 ∷ [])
