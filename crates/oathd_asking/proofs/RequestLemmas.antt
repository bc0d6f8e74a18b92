-- Requests on their way, of which one changes.
use Rattle.std.proofs.Common.{◌≡◌, ℕ, zero, suc, ◌<◌, ◌≤◌, List, [], ◌∷◌, ◌++◌, length, map, set, get_or, Option, None, Some, IfSome, refl, sym, ap, subst, ◌∙◌, arith, length-append}
use Rattle.std.specs.Prelude.{IfNone}
use Rattle.clients_file.specs.declared.clients.OperatorEntry.{OperatorEntry}
use Rattle.sealed_wire.specs.Body.{body_bytes}
use Rattle.sealed_wire.specs.Key.{tag_of}
use Rattle.sealed_wire.specs.Sealed.{sealed_bytes, tag_at}
use Rattle.sealed_wire.specs.declared.head.Head.{Head}
use Rattle.sealed_wire.proofs.TagLemmas.{length-tag_of}
use Rattle.oathd_asking.specs.Asked.{Asked, asked_of}
use Rattle.oathd_asking.specs.Sent.{IsTagOf, request_bytes, request_head}
use Rattle.oathd_asking.specs.declared.sent.Sent.{Sent}

-- what is known of each element stays, if it stays for the element that is put in place of another
pub set_same : {X Y : Type 0} (f : X → Y) (xs : List X) (i : ℕ) (x blank : X) → i < length xs → f x ≡ f (get_or xs i blank)
    → map f (set xs i x) ≡ map f xs
set_same f [] i x blank within e = absurd (omega (arith, within))
set_same f (y ∷ ys) zero x blank within e = ap (λ z. z ∷ map f ys) e
set_same f (y ∷ ys) (suc i) x blank within e = ap (λ l. f y ∷ l) (set_same f ys i x blank (omega (arith, within)) e)

-- a request with the same operator, node and text asks the same
pub asked_same : (one other : Sent) → one.operator ≡ other.operator → one.node ≡ other.node → one.text ≡ other.text → asked_of one ≡ asked_of other
asked_same one other operator node text =
    ap (λ (o : OperatorEntry). record { operator = o; node = one.node; text = one.text.items }) (ap (λ o. o.now) operator)
    ∙ ap (λ (n : ℕ). record { operator = other.operator.now; node = n; text = one.text.items }) node
    ∙ ap (λ (t : List ℕ). record { operator = other.operator.now; node = other.node; text = t }) (ap (λ t. t.items) text)

-- ---- The tag of a sending

-- a sealed datagram is as long as a tag
length-sealed_bytes : (key bound text : List ℕ) (head : Head) → 32 ≤ length (sealed_bytes key bound head text)
unfolding sealed_bytes
length-sealed_bytes key bound text head =
    let body = body_bytes head text in
    omega (arith, length-append body (tag_of key (body ++ bound)), length-tag_of key (body ++ bound))

module _ (operator : OperatorEntry) (node : ℕ) (text : List ℕ) (moment : ℕ) where
  -- the tag that is read from a request's datagram
  pub tag_read : (read : Option (List ℕ)) (view bytes : List ℕ) → bytes ≡ request_bytes operator node text moment → view ≡ bytes
      → IfSome read (λ tag. tag ≡ tag_at view) → IfNone read (length view < 32) → read ≡ Some (tag_at bytes)
  tag_read None view bytes is same some none =
      let long = length-sealed_bytes operator.key [] text (request_head operator node moment) in
      absurd (omega (arith, none, long, ap length same, ap length is))
  tag_read (Some tag) view bytes is same some none = ap (λ (t : List ℕ). Some t) (some ∙ ap tag_at same)

  -- it is a tag of the request
  pub tag_is_of : (last : Option (List ℕ)) (bytes : List ℕ) → bytes ≡ request_bytes operator node text moment → last ≡ Some (tag_at bytes)
      → IfSome last (IsTagOf operator node text)
  tag_is_of last bytes is noted =
      subst (λ (l : Option (List ℕ)). IfSome l (IsTagOf operator node text)) (sym noted) ∣ record { moment = moment; is = ap tag_at is } ∣₁
