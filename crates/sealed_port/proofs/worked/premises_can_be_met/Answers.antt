-- The gate opened the line and sealed the answer. Each of the two has a tag of its own.
use Rattle.std.proofs.Common.{◌≡◌, ℕ, zero, suc, true, false, eqb, ltb, List, [], ◌∷◌, get_or, Option, Some, refl, sym, ap, subst, ◌∙◌, arith, inl, inr, lit<}
use Rattle.std.specs.Prelude.{◌⊎◌, slice_get}
use Rattle.std.specs.List.{list_all}
use Rattle.std.proofs.lemmas.Bool.{and_parts, ltb-true}
use Rattle.hmac_core.specs.Unfolded.sha256_steps
use Rattle.sealed_wire.specs.Body.{head_at}
use Rattle.sealed_wire.specs.Bytes.{AreBytes}
use Rattle.sealed_wire.specs.Examples.{answer_tag, line_tag, sealed_answer, sealed_line}
use Rattle.sealed_wire.specs.Key.{tag_of}
use Rattle.sealed_wire.specs.Making.{IsMade, IsMaking, IsUnforged, Making, making_tag, tagged_text}
use Rattle.sealed_wire.specs.Sealed.{sealed_at, sealed_bytes}
use Rattle.sealed_wire.specs.declared.head.Kind.TheVariants.{Answer, Line}
use Rattle.sealed_port.specs.Examples.{answer_making, asked_line, first_gate, line_making, two_makings, zeros}
use Rattle.sealed_port.specs.Runs.{Comes}
use Rattle.sealed_port.specs.World.{WasSealed}
use Rattle.sealed_port.specs.declared.client.Client.{Client}
use Rattle.sealed_port.proofs.worked.premises_can_be_met.Goals as goal

abbrev present : {A : Type 0} → A → Option A
present x = Some x

some_is : {A : Type 0} (x y : A) → present x ≡ present y → x ≡ y
some_is x y e = cc

all_bytes : (xs : List ℕ) → list_all (λ byte. ltb byte 256) xs ≡ true → AreBytes xs
all_bytes [] e i = omega arith
all_bytes (x ∷ xs) e zero = ltb-true x 256 (and_parts (ltb x 256) (list_all (λ byte. ltb byte 256) xs) e).0
all_bytes (x ∷ xs) e (suc i) = all_bytes xs (and_parts (ltb x 256) (list_all (λ byte. ltb byte 256) xs) e).1 i

-- ---- the two makings

one_of_two : (making : Making) → IsMade two_makings making → (line_making ≡ making) ⊎ (answer_making ≡ making)
one_of_two making m = go m.place m.is_there
  where
    go : (place : ℕ) → slice_get two_makings place ≡ Some making → (line_making ≡ making) ⊎ (answer_making ≡ making)
    go zero e = inl (some_is line_making making e)
    go (suc zero) e = inr (some_is answer_making making e)
    go (suc (suc place)) e = absurd cc

line_formed : IsMaking line_making
line_formed = record {
  head_in_range = record { client_below = lit< tt; node_below = lit< tt; moment_below = lit< tt };
  text_fits = omega arith;
  bound_fits = refl;
}

answer_formed : IsMaking answer_making
answer_formed = record {
  head_in_range = record { client_below = lit< tt; node_below = lit< tt; moment_below = lit< tt };
  text_fits = omega arith;
  bound_fits = refl;
}

line_tag_is : making_tag zeros line_making ≡ line_tag
unfolding tag_of sealed_bytes sealed_at head_at sha256_steps.first_words sha256_steps.schedule sha256_steps.rounds sha256_steps.compress sha256_steps.hash_after sha256_steps.digest_bytes sha256_steps.sha256
line_tag_is = refl

answer_tag_is : making_tag zeros answer_making ≡ answer_tag
unfolding tag_of sealed_bytes sealed_at head_at sha256_steps.first_words sha256_steps.schedule sha256_steps.rounds sha256_steps.compress sha256_steps.hash_after sha256_steps.digest_bytes sha256_steps.sha256
answer_tag_is = refl

tags_differ : making_tag zeros line_making ≡ making_tag zeros answer_making → ⊥
tags_differ e =
    let clash : true ≡ false = ap (λ (tag : List ℕ). eqb (get_or tag 0 0) 0x18) (sym line_tag_is ∙ e ∙ answer_tag_is) in absurd cc

same_tag : (making other : Making) → (line_making ≡ making) ⊎ (answer_making ≡ making) → (line_making ≡ other) ⊎ (answer_making ≡ other)
    → making_tag zeros making ≡ making_tag zeros other → tagged_text making ≡ tagged_text other
same_tag making other (inl m) (inl o) e = ap tagged_text (sym m ∙ o)
same_tag making other (inr m) (inr o) e = ap tagged_text (sym m ∙ o)
same_tag making other (inl m) (inr o) e = absurd (tags_differ (ap (making_tag zeros) m ∙ e ∙ ap (making_tag zeros) (sym o)))
same_tag making other (inr m) (inl o) e = absurd (tags_differ (ap (making_tag zeros) o ∙ sym e ∙ ap (making_tag zeros) (sym m)))

formed_so : (making : Making) → (line_making ≡ making) ⊎ (answer_making ≡ making) → IsMaking making
formed_so making (inl m) = subst IsMaking m line_formed
formed_so making (inr m) = subst IsMaking m answer_formed

-- ---- the gate

line_unforged : IsUnforged zeros two_makings [] sealed_line
line_unforged tagged = record { making = line_making; is_made = record { place = 0; is_there = refl }; text_is = refl }

answer_unforged : IsUnforged zeros two_makings (making_tag zeros line_making) sealed_answer
unfolding tag_of sealed_bytes sealed_at head_at sha256_steps.first_words sha256_steps.schedule sha256_steps.rounds sha256_steps.compress sha256_steps.hash_after sha256_steps.digest_bytes sha256_steps.sha256
answer_unforged tagged = record { making = answer_making; is_made = record { place = 1; is_there = refl }; text_is = refl }

was_sealed : WasSealed zeros two_makings 258 answer_making
unfolding tag_of sealed_bytes sealed_at head_at sha256_steps.first_words sha256_steps.schedule sha256_steps.rounds sha256_steps.compress sha256_steps.hash_after sha256_steps.digest_bytes sha256_steps.sha256
was_sealed = record {
  gate = first_gate;
  steps = Comes (Some 1) 7 sealed_line ∷ [];
  line = asked_line;
  sealed = record { address = 7; bytes = sealed_answer };
  fresh = refl;
  has_key = λ owner e. ap (λ (c : Client). c.key) (sym (some_is _ owner e));
  unforged = (all_bytes sealed_line refl, line_unforged, tt);
  answers = refl;
  is_sealed = refl;
  making_is = refl;
}

sealed_so : (making : Making) → (line_making ≡ making) ⊎ (answer_making ≡ making) → making.head.kind ≡ Answer → WasSealed zeros two_makings 258 making
sealed_so making (inl m) kind = let clash : Line ≡ Answer = ap (λ (k : Making). k.head.kind) m ∙ kind in absurd cc
sealed_so making (inr m) kind = subst (WasSealed zeros two_makings 258) m was_sealed

-- ---- the premises

pub returns-clause-bytes : goal.returns-clause-bytes
returns-clause-bytes c = all_bytes sealed_answer refl

pub returns-clause-makings : goal.returns-clause-makings
returns-clause-makings c = record {
  formed = λ making m. formed_so making (one_of_two making m);
  apart = λ making other m o e. same_tag making other (one_of_two making m) (one_of_two other o) e;
}

pub returns-clause-line : goal.returns-clause-line
returns-clause-line c = record { place = 0; is_there = refl }

pub returns-clause-gates : goal.returns-clause-gates
returns-clause-gates c = λ making m kind. sealed_so making (one_of_two making m) kind

pub returns-clause-unforged : goal.returns-clause-unforged
returns-clause-unforged c = answer_unforged

pub returns-clause-read : goal.returns-clause-read
unfolding tag_of sealed_bytes sealed_at head_at sha256_steps.first_words sha256_steps.schedule sha256_steps.rounds sha256_steps.compress sha256_steps.hash_after sha256_steps.digest_bytes sha256_steps.sha256
returns-clause-read c = refl
