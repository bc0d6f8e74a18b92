use Rattle.std.proofs.Common.{◌≡◌, List, ℕ, [], ◌∷◌, ◌++◌, Option, IfSome, Result, Ok, Err, All, OnOk, OnErr, ap, sym, subst, ◌∙◌}
use Rattle.std.proofs.lemmas.List.Elements.{All-push}
use Rattle.arrayvec.specs.ArrayVec.{ArrayVec}
use Rattle.oathd_asking.specs.Sent.{IsTagOf, request_bytes}
use Rattle.oathd_asking.proofs.RequestLemmas.{tag_is_of, tag_read}
use Rattle.oathd_asking.proofs.sent.Sent.seal.Goals as goal

-- what holds of each item holds after a push, also if there is no room
All-try_push : {E : Type 0} (P : List ℕ → Type 0) (end : Result (Unit {0}) E) (old new : ArrayVec (List ℕ)) (tag : List ℕ)
    → OnOk end (new.items ≡ old.items ++ tag ∷ []) → OnErr end (new ≡ old) → All P old.items → P tag → All P new.items
All-try_push P (Ok done) old new tag ok err all is = subst (All P) (sym ok) (All-push P old.items tag all is)
All-try_push P (Err fault) old new tag ok err all is = subst (λ (v : ArrayVec (List ℕ)). All P v.items) (sym err) all

pub invariant_of-self-clause-is_sealed : goal.invariant_of-self-clause-is_sealed
invariant_of-self-clause-is_sealed c =
    let self = c.args.self.now in
    let request = λ (t : List ℕ). request_bytes self.operator.now self.node t c.args.moment in
    let read = tag_read self.operator.now self.node c.deref.result.now c.args.moment c.tag_of.result c.deref-2.result.now c.seal-bytes.result.items
    c.seal-bytes.ensures c.deref-2.ensures.0 c.tag_of.ensures.some c.tag_of.ensures.none in
    tag_is_of self.operator.now self.node self.text.items c.args.moment c.replace.new.dest c.seal-bytes.result.items
    (c.seal-bytes.ensures ∙ ap request c.deref.ensures.0) (c.replace.ensures.after ∙ read)

pub invariant_of-self-clause-are_sealed : goal.invariant_of-self-clause-are_sealed
invariant_of-self-clause-are_sealed c =
    let self = c.args.self.now in
    let IsTag = IsTagOf self.operator.now self.node self.text.items in
    All-try_push IsTag c.try_push-full.result self.earlier c.try_push-full.new.self c.in-Some.tag c.try_push-full.ensures.ok
    c.try_push-full.ensures.err self.are_sealed
    (subst (λ (last : Option (List ℕ)). IfSome last IsTag) (sym c.in-Some.ensures.value) self.is_sealed)

pub invariant_of-self-in_default-clause-is_sealed : goal.invariant_of-self-in_default-clause-is_sealed
invariant_of-self-in_default-clause-is_sealed c =
    let self = c.args.self.now in
    let request = λ (t : List ℕ). request_bytes self.operator.now self.node t c.args.moment in
    let read = tag_read self.operator.now self.node c.deref.result.now c.args.moment c.tag_of.result c.deref-2.result.now c.seal-bytes.result.items
    c.seal-bytes.ensures c.deref-2.ensures.0 c.tag_of.ensures.some c.tag_of.ensures.none in
    tag_is_of self.operator.now self.node self.text.items c.args.moment c.replace.new.dest c.seal-bytes.result.items
    (c.seal-bytes.ensures ∙ ap request c.deref.ensures.0) (c.replace.ensures.after ∙ read)

pub returns-in-Some-clause-last : goal.returns-in-Some-clause-last
returns-in-Some-clause-last c =
    let self = c.args.self.now in
    c.replace.ensures.after
    ∙ tag_read self.operator.now self.node c.deref.result.now c.args.moment c.tag_of.result c.deref-2.result.now c.seal-bytes.result.items
    c.seal-bytes.ensures c.deref-2.ensures.0 c.tag_of.ensures.some c.tag_of.ensures.none

pub returns-in_default-clause-last : goal.returns-in_default-clause-last
returns-in_default-clause-last c =
    let self = c.args.self.now in
    c.replace.ensures.after
    ∙ tag_read self.operator.now self.node c.deref.result.now c.args.moment c.tag_of.result c.deref-2.result.now c.seal-bytes.result.items
    c.seal-bytes.ensures c.deref-2.ensures.0 c.tag_of.ensures.some c.tag_of.ensures.none
