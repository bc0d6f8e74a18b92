-- What is written in turn.
use Rattle.std.proofs.Common.{◌≡◌, ℕ, ◌+◌, ◌<◌, List, [], ◌∷◌, ◌++◌, length, map, take, Option, Some, None, get_or, sym, ap, subst, ◌∙◌, arith}
use Rattle.std.specs.Prelude.{slice_get, if◌then◌else◌, Result, Ok, Err, OnOk}
use Rattle.std.specs.Io.KnownBytes.{Appends}
use Rattle.std.specs.List.{flat_map}
use Rattle.std.proofs.lemmas.Grind.{flat_map-append}
use Rattle.std.proofs.lemmas.List.{append-nil, append_assoc, map-append, take_more, length-map, length-take-le}
use Rattle.std.proofs.lemmas.Option.{slice_get_within, slice_get-get_or, get_or_from_slice_get}
use Rattle.std.specs.declared.net.socket_addr.SocketAddrV4.{SocketAddrV4}
use Rattle.token_file.specs.Credential.{Credential}
use Rattle.token_file.specs.declared.token.Kind.{Kind}
use Rattle.cluster_file.specs.Address.{Address, address_value}
use Rattle.cluster_file.specs.Check.{is_kind, kind_count}
use Rattle.cluster_file.specs.Shared.{member_line, members_text}

-- one text, followed by another
pub append_more : (old middle new : Option (List ℕ)) (front back : List ℕ) → Appends old middle front → Appends middle new back
    → Appends old new (front ++ back)
append_more None middle new front back h k = tt
append_more (Some x) None new front back h k = absurd h
append_more (Some x) (Some y) None front back h k = absurd k
append_more (Some x) (Some y) (Some z) front back h k = k ∙ ap (λ l. l ++ back) h ∙ append_assoc x front back

-- the texts of the items up to a place, followed by the text of the item there
pub append_item : {X : Type 0} (text_of : X → List ℕ) (items : List X) (place : ℕ) (item : X) (old middle new : Option (List ℕ))
    → place < length items → item ≡ get_or items place item
    → Appends old middle (flat_map text_of (take place items)) → Appends middle new (text_of item)
    → Appends old new (flat_map text_of (take (place + 1) items))
append_item text_of items place item old middle new within is h k =
    let texts : flat_map text_of (take (place + 1) items) ≡ flat_map text_of (take place items) ++ text_of item =
    rw (take_more items place item within, flat_map-append)
    (ap (λ l. flat_map text_of (take place items) ++ l) (append-nil (text_of (get_or items place item)) ∙ ap text_of (sym is))) in
    subst (Appends old new) (sym texts) (append_more old middle new (flat_map text_of (take place items)) (text_of item) h k)

-- an item at a place
pub item_at : {X : Type 0} (items : List X) (place : ℕ) (item : X) → slice_get items place ≡ Some item
    → (place < length items) × (item ≡ get_or items place item)
item_at items place item is = (slice_get_within items place item is, sym (get_or_from_slice_get items place item item is))

-- the lines of members, and the line of one more
members_more : (number : ℕ) (front : List Address) (member : Address)
    → members_text number (front ++ member ∷ []) ≡ members_text number front ++ member_line (length front + number) member
members_more number [] member = append-nil (member_line number member) ∙ ap (λ n. member_line n member) (omega arith)
members_more number (x ∷ front) member =
    ap (λ l. member_line number x ++ l) (members_more (number + 1) front member)
    ∙ sym (append_assoc (member_line number x) (members_text (number + 1) front) (member_line (length front + (number + 1)) member))
    ∙ ap (λ n. (member_line number x ++ members_text (number + 1) front) ++ member_line n member) (omega arith)

append_member : (members : List SocketAddrV4) (place : ℕ) (member : SocketAddrV4) (old middle new : Option (List ℕ)) (number : ℕ)
    → place < length members → member ≡ get_or members place member → number ≡ place + 1
    → Appends old middle (members_text 1 (map address_value (take place members))) → Appends middle new (member_line number (address_value member))
    → Appends old new (members_text 1 (map address_value (take (place + 1) members)))
append_member members place member old middle new number within is next h k =
    let front = map address_value (take place members) in
    let counted : length front + 1 ≡ number = omega (arith, length-map (take place members) address_value, length-take-le place members (omega arith), next) in
    let texts : members_text 1 (map address_value (take (place + 1) members)) ≡ members_text 1 front ++ member_line number (address_value member) =
    ap (λ l. members_text 1 (map address_value l)) (take_more members place member within ∙ ap (λ x. take place members ++ x ∷ []) (sym is))
    ∙ ap (members_text 1) (map-append address_value (take place members) (member ∷ []))
    ∙ members_more 1 front (address_value member)
    ∙ ap (λ n. members_text 1 front ++ member_line n (address_value member)) counted in
    subst (Appends old new) (sym texts) (append_more old middle new (members_text 1 front) (member_line number (address_value member)) h k)

-- the same, if the member was read by its place
pub append_member_at : (members : List SocketAddrV4) (place : ℕ) (default : SocketAddrV4) (old middle new : Option (List ℕ)) (number : ℕ)
    → place < length members → number ≡ place + 1
    → Appends old middle (members_text 1 (map address_value (take place members)))
    → Appends middle new (member_line number (address_value (get_or members place default)))
    → Appends old new (members_text 1 (map address_value (take (place + 1) members)))
append_member_at members place default old middle new number within next h k =
    let member = get_or members place default in
    append_member members place member old middle new number within
    (sym (get_or_from_slice_get members place member member (slice_get-get_or members place default within))) next h k

-- how many of a kind there are up to a token, and with it
counted_more : (kind : Kind) (front : List Credential) (token : Credential)
    → kind_count kind (front ++ token ∷ []) ≡ kind_count kind front + (if is_kind kind token.kind then 1 else 0)
counted_more kind [] token = omega arith
counted_more kind (x ∷ front) token =
    ap (λ n. (if is_kind kind x.kind then 1 else 0) + n) (counted_more kind front token) ∙ omega arith

pub count_item : (kind : Kind) (book : List Credential) (place : ℕ) (token : Credential) → place < length book → token ≡ get_or book place token
    → kind_count kind (take (place + 1) book) ≡ kind_count kind (take place book) + (if is_kind kind token.kind then 1 else 0)
count_item kind book place token within is =
    ap (kind_count kind) (take_more book place token within ∙ ap (λ x. take place book ++ x ∷ []) (sym is)) ∙ counted_more kind (take place book) token

-- one text, followed by one that may fail
pub on_more : {E : Type 0} (result : Result Unit E) (old middle new : Option (List ℕ)) (front back : List ℕ)
    → Appends old middle front → OnOk result (Appends middle new back) → OnOk result (Appends old new (front ++ back))
on_more (Ok one) old middle new front back h k = append_more old middle new front back h k
on_more (Err fault) old middle new front back h k = tt
