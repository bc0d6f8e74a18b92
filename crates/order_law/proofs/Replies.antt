-- A reply that a node says is among the answers of the history.
use Rattle.std.proofs.Common.{◌≡◌, ℕ, zero, suc, List, [], ◌∷◌, ◌++◌, map, Some, refl, sym, ap, ◌∙◌, subst}
use Rattle.std.specs.List.{slice_get}
use Rattle.std.proofs.lemmas.Option.{none-some, same_Some}
use Rattle.cluster_sim.specs.Answered.{IsOk}
use Rattle.cluster_sim.specs.World.{Answer}
use Rattle.book_law.specs.Lives.{Output, Sealed, Setting, ToClient, ToPeer, answered_in, answers_among, state_of}
use Rattle.book_law.specs.Promises.{AnswerTruly}
use Rattle.book_law.specs.Uses.{IsTrueReply}
use Rattle.order_law.specs.Interleavings.{AreOfMembers, IsInterleaving, Item, ToClientSaid, ToMemberSaid, first_place, history_of, places_after, said_before, said_by, said_by_output, said_in}
use Rattle.order_law.specs.Steps.{Closed, Gone, IsStep, Open, Place, Replies, Says}
use Rattle.order_law.proofs.Walk.{AllSteps, first_step, offered, rest_steps}

abbrev IsIn : {A : Type 0} → A → List A → Type 0
IsIn x xs = (k : ℕ) × (slice_get xs k ≡ Some x)

in_right : {A : Type 0} (xs ys : List A) (x : A) → IsIn x ys → IsIn x (xs ++ ys)
in_right [] ys x h = h
in_right (z ∷ xs) ys x h = let r = in_right xs ys x h in (suc r.0, r.1)

-- the reply of a step
reply_said : (setting : Setting) (node client : ℕ) (bytes : List ℕ) (place : Place) → IsStep setting node place (Says (Replies client bytes)) → said_by node place (Says (Replies client bytes)) ≡ ToClientSaid node client bytes ∷ []
reply_said setting node client bytes (Closed store) is = absurd is
reply_said setting node client bytes (Open s) is = refl
reply_said setting node client bytes (Gone former) is = absurd is

-- the reply of an item
item_said : (setting : Setting) (places : ℕ → Place) (items : List Item) (i node client : ℕ) (bytes : List ℕ) → AreOfMembers setting items → AllSteps setting places items
    → slice_get items i ≡ Some (record { node = node; step = Says (Replies client bytes) }) → IsIn (ToClientSaid node client bytes) (said_in setting places items)
item_said setting places [] i node client bytes members all at = absurd (none-some _ at)
item_said setting places (item ∷ items) zero node client bytes members all at =
    let one : Item = record { node = node; step = Says (Replies client bytes) } in
    let same : item ≡ one = same_Some item one at in
    let is : IsStep setting node (places node) (Says (Replies client bytes)) = subst (λ (x : Item). IsStep setting x.node (places x.node) x.step) same (first_step setting places item items members.0 all) in
    let said : said_by item.node (places item.node) item.step ≡ ToClientSaid node client bytes ∷ [] =
    ap (λ (x : Item). said_by x.node (places x.node) x.step) same ∙ reply_said setting node client bytes (places node) is in
    (zero, ap (λ l. slice_get (l ++ said_in setting (places_after setting places item) items) zero) said)
item_said setting places (item ∷ items) (suc i) node client bytes members all at =
    in_right (said_by item.node (places item.node) item.step) (said_in setting (places_after setting places item) items) (ToClientSaid node client bytes)
    (item_said setting (places_after setting places item) items i node client bytes members.1 (rest_steps setting places item items members.0 all) at)

-- an answer that was offered, with these bytes
record HasAnswer (outputs : List Output) (node client : ℕ) (bytes : List ℕ) : Type 0 where
  answer : Answer
  is_in : IsIn answer (answers_among outputs)
  node_is : answer.node ≡ node
  client_is : answer.client ≡ client
  bytes_are : answer.bytes ≡ bytes

no_member : (sealed : Sealed) (node client : ℕ) (bytes : List ℕ) → Some (ToMemberSaid sealed) ≡ Some (ToClientSaid node client bytes) → ⊥
no_member sealed node client bytes e = cc

same_node : (one node : ℕ) (by client : ℕ) (xs bytes : List ℕ) → Some (ToClientSaid one by xs) ≡ Some (ToClientSaid node client bytes) → one ≡ node
same_node one node by client xs bytes e = cc

same_client : (one node : ℕ) (by client : ℕ) (xs bytes : List ℕ) → Some (ToClientSaid one by xs) ≡ Some (ToClientSaid node client bytes) → by ≡ client
same_client one node by client xs bytes e = cc

same_bytes : (one node : ℕ) (by client : ℕ) (xs bytes : List ℕ) → Some (ToClientSaid one by xs) ≡ Some (ToClientSaid node client bytes) → xs ≡ bytes
same_bytes one node by client xs bytes e = cc

answered : (outputs : List Output) (k node client : ℕ) (bytes : List ℕ) → slice_get (map said_by_output outputs) k ≡ Some (ToClientSaid node client bytes) → HasAnswer outputs node client bytes
answered [] k node client bytes e = absurd (none-some _ e)
answered (ToPeer sealed ∷ outputs) zero node client bytes e = absurd (no_member sealed node client bytes e)
answered (ToPeer sealed ∷ outputs) (suc k) node client bytes e =
    let r = answered outputs k node client bytes e in
    record { answer = r.answer; is_in = r.is_in; node_is = r.node_is; client_is = r.client_is; bytes_are = r.bytes_are }
answered (ToClient answer ∷ outputs) zero node client bytes e = record {
  answer = answer;
  is_in = (zero, refl);
  node_is = same_node answer.node node answer.client client answer.bytes bytes e;
  client_is = same_client answer.node node answer.client client answer.bytes bytes e;
  bytes_are = same_bytes answer.node node answer.client client answer.bytes bytes e;
}
answered (ToClient answer ∷ outputs) (suc k) node client bytes e =
    let r = answered outputs k node client bytes e in
    record { answer = r.answer; is_in = (suc r.is_in.0, r.is_in.1); node_is = r.node_is; client_is = r.client_is; bytes_are = r.bytes_are }

pub replied : (setting : Setting) (items : List Item) (i node client : ℕ) (bytes : List ℕ) → IsInterleaving setting items → AnswerTruly setting (history_of items) (answered_in setting (history_of items))
    → slice_get items i ≡ Some (record { node = node; step = Says (Replies client bytes) }) → IsOk bytes → IsTrueReply setting (history_of items) node client bytes
replied setting items i node client bytes h truly at ok =
    let said = item_said setting (first_place setting) items i node client bytes h.members h.steps at in
    let there = in_right (said_before setting) (said_in setting (first_place setting) items) (ToClientSaid node client bytes) said in
    let r = answered (state_of setting (history_of items)).offered there.0 node client bytes (ap (λ l. slice_get l there.0) (offered setting items h) ∙ there.1) in
    record {
      answer = r.answer;
      node_is = r.node_is;
      client_is = r.client_is;
      bytes_are = r.bytes_are;
      belongs = truly r.is_in.0 r.answer r.is_in.1 (subst (λ bs. IsOk bs) (sym r.bytes_are) ok);
    }
