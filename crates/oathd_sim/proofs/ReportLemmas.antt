-- What is written in turn.
use Rattle.std.proofs.Common.{◌≡◌, ℕ, ◌+◌, ◌<◌, List, ◌++◌, length, take, Option, Some, None, get_or, sym, ap, subst, ◌∙◌}
use Rattle.std.specs.Io.KnownBytes.{Appends}
use Rattle.std.specs.List.{flat_map}
use Rattle.std.proofs.lemmas.Grind.{flat_map-append}
use Rattle.std.proofs.lemmas.List.{append-nil, append_assoc, take_more}

-- one text, followed by another
append_more : (old middle new : Option (List ℕ)) (front back : List ℕ) → Appends old middle front → Appends middle new back
    → Appends old new (front ++ back)
append_more None middle new front back h k = tt
append_more (Some x) None new front back h k = absurd h
append_more (Some x) (Some y) None front back h k = absurd k
append_more (Some x) (Some y) (Some z) front back h k = k ∙ ap (λ l. l ++ back) h ∙ append_assoc x front back

-- the texts of the items up to a place, followed by the text of the item there
pub append_item : {X : Type 0} (text_of : X → List ℕ) (items : List X) (place : ℕ) (item : X) (old middle new : Option (List ℕ))
    → place < length items → item ≡ get_or items place item
    → Appends old middle (flat_map text_of (take place items)) → Appends middle new (text_of item)
    → Appends old new (flat_map text_of (take (place + 1) items))
append_item text_of items place item old middle new within is h k =
    let texts : flat_map text_of (take (place + 1) items) ≡ flat_map text_of (take place items) ++ text_of item =
    rw (take_more items place item within, flat_map-append)
    (ap (λ l. flat_map text_of (take place items) ++ l) (append-nil (text_of (get_or items place item)) ∙ ap text_of (sym is))) in
    subst (Appends old new) (sym texts) (append_more old middle new (flat_map text_of (take place items)) (text_of item) h k)
