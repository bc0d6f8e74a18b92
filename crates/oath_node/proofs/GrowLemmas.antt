-- How records grow, and what they then hold.
use Rattle.std.proofs.Common.{◌≡◌, ℕ, ◌+◌, ◌^◌, ◌<◌, ◌≤◌, List, [], ◌∷◌, ◌++◌, length, get_or, map, take, refl, sym, ap, ◌∙◌, subst, arith}
use Rattle.std.specs.Prelude.{Option, Some, None, Result, Ok, Err, IsErrAnd}
use Rattle.arrayvec.specs.ArrayVec.{ArrayVec}
use Rattle.std.specs.Option.{option_map}
use Rattle.std.proofs.lemmas.List.{append_assoc, append-nil, map-append, take_more}
use Rattle.oath_node.specs.declared.item.Item.{Item}
use Rattle.oath_node.specs.declared.item.Item.TheVariants.{Datagram, Reply}
use Rattle.datagram_port.specs.Port.{Grows, PortEvent, Received, Quiet, Faulted, Offered}
use Rattle.oath_node.specs.Machine.{Reply as ReplyRecord}
use Rattle.oath_node.specs.Outputs.{OutputsRecord, datagram_item, items_of, reply_item}
use Rattle.vote_core.specs.declared.message.Message.{Message}
use Rattle.oath_node.specs.TurnSteps.{items_in, reply_count}
use Rattle.datagram_port.specs.declared.port.Sender.TheVariants.{Client, Peer}
use Rattle.oath_node.specs.Turns.{offer_of, receives_in}

pub grows_refl : {A : Type 0} (x : Option (List A)) → Grows x x []
grows_refl None = tt
grows_refl (Some xs) = ap Some (append-nil xs)

pub grows_trans : {A : Type 0} (x y z : Option (List A)) (xs ys : List A)
    → Grows x y xs → Grows y z ys → Grows x z (xs ++ ys)
grows_trans x y None xs ys h k = tt
grows_trans x None (Some c) xs ys h k = absurd cc
grows_trans None (Some b) (Some c) xs ys h k = absurd cc
grows_trans (Some a) (Some b) (Some c) xs ys h k =
    ap Some (sym (append_assoc a xs ys)) ∙ ap (option_map (λ zs. zs ++ ys)) h ∙ k

pub reply_count-append : (xs ys : List Item) → reply_count (xs ++ ys) ≡ reply_count xs + reply_count ys
reply_count-append [] ys = omega arith
reply_count-append (Datagram to bytes ∷ xs) ys = reply_count-append xs ys
reply_count-append (Reply client bytes ∷ xs) ys = omega (arith, reply_count-append xs ys)

pub receives_in-append : (xs ys : List PortEvent) → receives_in (xs ++ ys) ≡ receives_in xs ++ receives_in ys
receives_in-append [] ys = refl
receives_in-append (Received sender bytes ∷ xs) ys = ap (λ zs. Received sender bytes ∷ zs) (receives_in-append xs ys)
receives_in-append (Quiet ∷ xs) ys = ap (λ zs. Quiet ∷ zs) (receives_in-append xs ys)
receives_in-append (Faulted ∷ xs) ys = ap (λ zs. Faulted ∷ zs) (receives_in-append xs ys)
receives_in-append (Offered to bytes ∷ xs) ys = receives_in-append xs ys

-- the receives grow by those among what the record grows by
pub grows_receives : (x y : Option (List PortEvent)) (xs : List PortEvent) → Grows x y xs
    → Grows (option_map receives_in x) (option_map receives_in y) (receives_in xs)
grows_receives x None xs h = tt
grows_receives None (Some b) xs h = absurd cc
grows_receives (Some a) (Some b) xs h =
    ap Some (sym (receives_in-append a xs)) ∙ ap (option_map receives_in) h

pub receives_in-offers : (items : List Item) → receives_in (map offer_of items) ≡ []
receives_in-offers [] = refl
receives_in-offers (Datagram to bytes ∷ items) = receives_in-offers items
receives_in-offers (Reply client bytes ∷ items) = receives_in-offers items

reply_count-datagrams : (key : List ℕ) (me : ℕ) (sends : List (ℕ × Message)) → reply_count (map (datagram_item key me) sends) ≡ 0
reply_count-datagrams key me [] = refl
reply_count-datagrams key me (send ∷ sends) = reply_count-datagrams key me sends

reply_count-replies : (replies : List ReplyRecord) → reply_count (map reply_item replies) ≡ length replies
reply_count-replies [] = refl
reply_count-replies (reply ∷ replies) = omega (arith, reply_count-replies replies)

pub reply_count-items : (key : List ℕ) (me : ℕ) (sends : List (ℕ × Message)) (replies : List ReplyRecord)
    → reply_count (items_of key me sends replies) ≡ length replies
reply_count-items key me sends replies =
    omega (
      arith,
      reply_count-append (map (datagram_item key me) sends) (map reply_item replies),
      reply_count-datagrams key me sends,
      reply_count-replies replies,
    )

pub reply_count-few : (items : List Item) → reply_count items ≤ length items
reply_count-few [] = omega arith
reply_count-few (Datagram to bytes ∷ items) = omega (arith, reply_count-few items)
reply_count-few (Reply client bytes ∷ items) = omega (arith, reply_count-few items)

-- the port gets one more item
pub offered_more : (x y z : Option (List PortEvent)) (items : List Item) (item : Item)
    → Grows x y (map offer_of items) → Grows y z (offer_of item ∷ []) → Grows x z (map offer_of (items ++ item ∷ []))
offered_more x y z items item h k =
    subst (Grows x z) (sym (map-append offer_of items (item ∷ []))) (grows_trans x y z (map offer_of items) (offer_of item ∷ []) h k)

pub offered_datagram : (x y : Option (List PortEvent)) (item : Item) (to : ℕ) (bytes : ArrayVec ℕ) (sent : List ℕ)
    → item ≡ Datagram to bytes → sent ≡ bytes.items → Grows x y (Offered (Peer to) sent ∷ []) → Grows x y (offer_of item ∷ [])
offered_datagram x y item to bytes sent is same h =
    subst (λ (i : Item). Grows x y (offer_of i ∷ [])) (sym is)
    (subst (λ (s : List ℕ). Grows x y (Offered (Peer to) s ∷ [])) same h)

pub offered_reply : (x y : Option (List PortEvent)) (item : Item) (client : ℕ) (bytes : ArrayVec ℕ) (sent : List ℕ)
    → item ≡ Reply client bytes → sent ≡ bytes.items → Grows x y (Offered (Client client) sent ∷ []) → Grows x y (offer_of item ∷ [])
offered_reply x y item client bytes sent is same h =
    subst (λ (i : Item). Grows x y (offer_of i ∷ [])) (sym is)
    (subst (λ (s : List ℕ). Grows x y (Offered (Client client) s ∷ [])) same h)

-- a result that is this fault
pub err_is : {A E : Type 0} (result : Result A E) (fault : E) → IsErrAnd result (λ made. made ≡ fault) → result ≡ Err fault
err_is (Ok value) fault h = absurd h
err_is (Err made) fault h = ap Err h

-- ---- What waits, offered in order

-- the port gets the items, of which the given number are replies
abbrev pub AreOffered : Option (List PortEvent) → Option (List PortEvent) → List Item → ℕ → Type 0
AreOffered x y items replies =
    Grows x y (map offer_of items) × (replies ≤ reply_count items) × (reply_count items < 2 ^ 64 → replies ≡ reply_count items)

-- the items of one that waits
abbrev items_of_one : Option OutputsRecord → List Item
items_of_one None = []
items_of_one (Some outputs) = outputs.items

items_one_more : (xs : List (Option OutputsRecord)) (x : Option OutputsRecord) → items_in (xs ++ x ∷ []) ≡ items_in xs ++ items_of_one x
items_one_more [] None = refl
items_one_more [] (Some outputs) = append-nil outputs.items
items_one_more (None ∷ xs) x = items_one_more xs x
items_one_more (Some first ∷ xs) x =
    ap (λ (items : List Item). first.items ++ items) (items_one_more xs x)
    ∙ sym (append_assoc first.items (items_in xs) (items_of_one x))

items_next : (xs : List (Option OutputsRecord)) (i : ℕ) (x y : Option OutputsRecord) → i < length xs → x ≡ get_or xs i x → x ≡ y
    → items_in (take (i + 1) xs) ≡ items_in (take i xs) ++ items_of_one y
items_next xs i x y within is same =
    ap items_in (take_more xs i x within)
    ∙ ap (λ (z : Option OutputsRecord). items_in (take i xs ++ z ∷ [])) (sym is ∙ same)
    ∙ items_one_more (take i xs) y

-- after one that waits
pub offered_next : (x y z : Option (List PortEvent)) (xs : List (Option OutputsRecord)) (i : ℕ) (item : Option OutputsRecord)
    (outputs : OutputsRecord) (replies more total : ℕ) → i < length xs → item ≡ get_or xs i item → item ≡ Some outputs
    → AreOffered x y (items_in (take i xs)) replies → AreOffered y z outputs.items more → total ≤ replies + more
    → (replies + more < 2 ^ 64 → total ≡ replies + more) → AreOffered x z (items_in (take (i + 1) xs)) total
offered_next x y z xs i item outputs replies more total within is some h k few exact =
    let items = items_in (take i xs) in
    let sum = reply_count-append items outputs.items in
    subst (λ (all : List Item). AreOffered x z all total) (sym (items_next xs i item (Some outputs) within is some)) (
      subst (Grows x z) (sym (map-append offer_of items outputs.items)) (grows_trans x y z (map offer_of items) (map offer_of outputs.items) h.0 k.0),
      omega (arith, sum, h.1, k.1, few),
      λ small.
          let a : replies ≡ reply_count items = h.2 (omega (arith, small, sum)) in
          let b : more ≡ reply_count outputs.items = k.2 (omega (arith, small, sum)) in
          let d : total ≡ replies + more = exact (omega (arith, small, sum, a, b)) in
          omega (arith, sum, a, b, d),
    )

-- after nothing that waits
pub offered_none : (x y : Option (List PortEvent)) (xs : List (Option OutputsRecord)) (i : ℕ) (item : Option OutputsRecord)
    (replies : ℕ) → i < length xs → item ≡ get_or xs i item → item ≡ None → AreOffered x y (items_in (take i xs)) replies
    → AreOffered x y (items_in (take (i + 1) xs)) replies
offered_none x y xs i item replies within is none h =
    subst (λ (all : List Item). AreOffered x y all replies)
    (sym (items_next xs i item None within is none ∙ append-nil (items_in (take i xs)))) h
