-- What is written in turn.
use Rattle.std.proofs.Common.{◌≡◌, ℕ, ◌+◌, ◌<◌, List, ◌++◌, length, map, take, Option, Some, None, get_or, sym, ap, subst, ◌∙◌}
use Rattle.std.specs.Prelude.{Result, Ok, Err, OnOk}
use Rattle.std.specs.Io.KnownBytes.{Appends}
use Rattle.std.specs.List.{flat_map}
use Rattle.std.proofs.lemmas.Grind.{flat_map-append}
use Rattle.std.proofs.lemmas.List.{append-nil, append_assoc, take_more, length-map}
use Rattle.std.proofs.lemmas.List.Folds.{flat_map-map}
use Rattle.floors_file.specs.declared.floors.Floor.{Floor}
use Rattle.floors_file.specs.declared.floors.Head.{Head}
use Rattle.floors_file.specs.Floors.{floor_value}
use Rattle.floors_file.specs.Writing.{floor_text, floors_text, head_text, row_text}
use Rattle.std.proofs.lemmas.Option.{slice_get-get_or, get_or_from_slice_get}

-- one text, followed by another
pub append_more : (old middle new : Option (List ℕ)) (front back : List ℕ) → Appends old middle front → Appends middle new back
    → Appends old new (front ++ back)
append_more None middle new front back h k = tt
append_more (Some x) None new front back h k = absurd h
append_more (Some x) (Some y) None front back h k = absurd k
append_more (Some x) (Some y) (Some z) front back h k = k ∙ ap (λ l. l ++ back) h ∙ append_assoc x front back

-- the texts of the items up to a place, followed by the text of the item there
append_item : {X : Type 0} (text_of : X → List ℕ) (items : List X) (place : ℕ) (item : X) (old middle new : Option (List ℕ))
    → place < length items → item ≡ get_or items place item
    → Appends old middle (flat_map text_of (take place items)) → Appends middle new (text_of item)
    → Appends old new (flat_map text_of (take (place + 1) items))
append_item text_of items place item old middle new within is h k =
    let texts : flat_map text_of (take (place + 1) items) ≡ flat_map text_of (take place items) ++ text_of item =
    rw (take_more items place item within, flat_map-append)
    (ap (λ l. flat_map text_of (take place items) ++ l) (append-nil (text_of (get_or items place item)) ∙ ap text_of (sym is))) in
    subst (Appends old new) (sym texts) (append_more old middle new (flat_map text_of (take place items)) (text_of item) h k)

-- the same, if the item was read by its place
pub append_item_at : {X : Type 0} (text_of : X → List ℕ) (items : List X) (place : ℕ) (default : X) (old middle new : Option (List ℕ))
    → place < length items
    → Appends old middle (flat_map text_of (take place items)) → Appends middle new (text_of (get_or items place default))
    → Appends old new (flat_map text_of (take (place + 1) items))
append_item_at text_of items place default old middle new within h k =
    let item = get_or items place default in
    append_item text_of items place item old middle new within
    (sym (get_or_from_slice_get items place item item (slice_get-get_or items place default within))) h k

-- the first line, followed by the rows
pub floors_written : {E : Type 0} (result : Result (Unit {0}) E) (head : Head) (rows slice : List Floor) (tokens : ℕ) (old middle new : Option (List ℕ))
    → slice ≡ rows → tokens ≡ length rows → Appends old middle (head_text head tokens)
    → OnOk result (Appends middle new (flat_map floor_text slice))
    → OnOk result (Appends old new (floors_text (record { head = head; rows = map floor_value rows })))
floors_written (Err fault) head rows slice tokens old middle new is e h k = tt
floors_written (Ok done) head rows slice tokens old middle new is e h k =
    let texts : head_text head tokens ++ flat_map floor_text slice ≡ floors_text (record { head = head; rows = map floor_value rows }) =
    ap (λ l. head_text head tokens ++ flat_map floor_text l) is
    ∙ ap (λ n. head_text head n ++ flat_map floor_text rows) (e ∙ sym (length-map rows floor_value))
    ∙ ap (λ l. head_text head (length (map floor_value rows)) ++ l) (sym (flat_map-map row_text floor_value rows)) in
    subst (Appends old new) texts (append_more old middle new (head_text head tokens) (flat_map floor_text slice) h k)
