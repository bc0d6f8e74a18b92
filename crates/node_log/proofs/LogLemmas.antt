-- What is remembered as a port's record grows.
use Rattle.std.proofs.Common.{◌≡◌, ℕ, Bool, List, [], ◌∷◌, ◌++◌, Option, Some, None, OnOk, Result, Ok, Err, refl, sym, ap, ◌∙◌}
use Rattle.std.proofs.lemmas.List.{append_assoc, append-nil}
use Rattle.datagram_port.specs.Port.{Grows, PortEvent}
use Rattle.node_log.specs.Asked.{AskedLine}
use Rattle.node_log.specs.Log.{Remembers, Tells, asked_after, asked_after_all}
use Rattle.std.specs.Io.KnownBytes.{Appends}

-- after entries, and after one more
after_more : (front : List PortEvent) (entry : PortEvent) (asked : List AskedLine)
    → asked_after_all (front ++ entry ∷ []) asked ≡ asked_after entry (asked_after_all front asked)
after_more [] entry asked = refl
after_more (x ∷ front) entry asked = after_more front entry (asked_after x asked)

unsome : {A : Type 0} (x y : A) → Some x ≡ Some y → x ≡ y
unsome x y is = ap (λ o. from x o) is
  where
    from : {A : Type 0} → A → Option A → A
    from d None = d
    from d (Some a) = a

-- a record that is longer by one entry
pub remembers_more : (old new : Option (List PortEvent)) (entry : PortEvent) (before after : List AskedLine)
    → Grows old new (entry ∷ []) → after ≡ asked_after entry before → Remembers old before → Remembers new after
remembers_more old None entry before after grows is kept = record { remembered = λ all e. let clash = e in absurd cc }
remembers_more None (Some now) entry before after grows is kept = let clash = grows in absurd cc
remembers_more (Some front) (Some now) entry before after grows is kept = record {
  remembered = λ all e. is ∙ ap (asked_after entry) (kept.remembered front refl) ∙ sym (after_more front entry [])
      ∙ ap (λ l. asked_after_all l []) (unsome (front ++ entry ∷ []) now grows ∙ unsome now all e);
}

-- nothing appended, followed by a text
appends_more : (x y z : Option (List ℕ)) (text : List ℕ) → Appends x y [] → Appends y z text → Appends x z text
appends_more None y z text p q = tt
appends_more (Some x) None z text p q = absurd p
appends_more (Some x) (Some y) None text p q = absurd q
appends_more (Some x) (Some y) (Some z) text p q = q ∙ ap (λ l. l ++ text) (p ∙ append-nil x)

-- a text, followed by another one
pub appends_both : (x y z : Option (List ℕ)) (first second : List ℕ) → Appends x y first → Appends y z second
    → Appends x z (first ++ second)
appends_both None y z first second p q = tt
appends_both (Some x) None z first second p q = absurd p
appends_both (Some x) (Some y) None first second p q = absurd q
appends_both (Some x) (Some y) (Some z) first second p q =
    q ∙ ap (λ l. l ++ second) p ∙ append_assoc x first second

-- the same if the second text is written
pub written_both : {E : Type 0} (result : Result (Unit {0}) E) (x y z : Option (List ℕ)) (first second : List ℕ)
    → Appends x y first → OnOk result (Appends y z second) → OnOk result (Appends x z (first ++ second))
written_both (Ok done) x y z first second p q = appends_both x y z first second p q
written_both (Err fault) x y z first second p q = tt

pub tells_both : (a b c : Bool) (x y z : Option (List ℕ)) (first second : List ℕ) → Tells a b x y first
    → Tells b c y z second → Tells a c x z (first ++ second)
tells_both a b c x y z first second p q = record {
  told = λ goes. let later = q.told goes in let before = p.told later.0 in
      (before.0, appends_both x y z first second before.1 later.1);
  over = λ ended. let before = p.over ended in let later = q.over before.0 in (later.0, later.1 ∙ before.1);
}

-- no line written, followed by a text
pub tells_more : (a b c : Bool) (x y z : Option (List ℕ)) (text : List ℕ) → Tells a b x y [] → Tells b c y z text → Tells a c x z text
tells_more a b c x y z text first second = record {
  told = λ goes. let later = second.told goes in let before = first.told later.0 in
      (before.0, appends_more x y z text before.1 later.1);
  over = λ ended. let before = first.over ended in let later = second.over before.0 in (later.0, later.1 ∙ before.1);
}
