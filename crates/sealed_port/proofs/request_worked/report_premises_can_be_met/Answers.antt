-- The gate set the request aside and sealed the report. Each of the two has a tag of its own.
use Rattle.std.proofs.Common.{◌≡◌, ℕ, zero, suc, true, false, eqb, ltb, List, [], ◌∷◌, get_or, Option, Some, refl, sym, ap, subst, ◌∙◌, arith, inl, inr, lit<}
use Rattle.std.specs.Prelude.{◌⊎◌, slice_get}
use Rattle.std.specs.List.{list_all}
use Rattle.std.proofs.lemmas.Bool.{and_parts, ltb-true}
use Rattle.hmac_core.specs.Unfolded.sha256_steps
use Rattle.sealed_wire.specs.Body.{head_at}
use Rattle.sealed_wire.specs.Bytes.{AreBytes}
use Rattle.sealed_wire.specs.Examples.{report_tag, request_tag, sealed_report, sealed_request}
use Rattle.sealed_wire.specs.Key.{tag_of}
use Rattle.sealed_wire.specs.Making.{IsMade, IsMaking, IsUnforged, Making, making_tag, tagged_text}
use Rattle.sealed_wire.specs.Report.{report_at, report_head_at}
use Rattle.sealed_wire.specs.Sealed.{sealed_at, sealed_bytes}
use Rattle.sealed_wire.specs.declared.head.Kind.TheVariants.{Report, Request}
use Rattle.sealed_port.specs.Examples.{zeros}
use Rattle.sealed_port.specs.RequestExamples.{making_of_report, operator_gate, request_and_report, request_making, status_request}
use Rattle.sealed_port.specs.ReportWorld.{WasReported}
use Rattle.sealed_port.specs.Runs.{Comes, Takes}
use Rattle.sealed_port.specs.declared.operator.Operator.{Operator}
use Rattle.sealed_port.proofs.request_worked.report_premises_can_be_met.Goals as goal

abbrev present : {A : Type 0} → A → Option A
present x = Some x

some_is : {A : Type 0} (x y : A) → present x ≡ present y → x ≡ y
some_is x y e = cc

all_bytes : (xs : List ℕ) → list_all (λ byte. ltb byte 256) xs ≡ true → AreBytes xs
all_bytes [] e i = omega arith
all_bytes (x ∷ xs) e zero = ltb-true x 256 (and_parts (ltb x 256) (list_all (λ byte. ltb byte 256) xs) e).0
all_bytes (x ∷ xs) e (suc i) = all_bytes xs (and_parts (ltb x 256) (list_all (λ byte. ltb byte 256) xs) e).1 i

-- ---- the two makings

one_of_two : (making : Making) → IsMade request_and_report making → (request_making ≡ making) ⊎ (making_of_report ≡ making)
one_of_two making m = go m.place m.is_there
  where
    go : (place : ℕ) → slice_get request_and_report place ≡ Some making → (request_making ≡ making) ⊎ (making_of_report ≡ making)
    go zero e = inl (some_is request_making making e)
    go (suc zero) e = inr (some_is making_of_report making e)
    go (suc (suc place)) e = absurd cc

request_formed : IsMaking request_making
request_formed = record {
  head_in_range = record { client_below = lit< tt; node_below = lit< tt; moment_below = lit< tt };
  text_fits = omega arith;
  bound_fits = refl;
}

report_formed : IsMaking making_of_report
report_formed = record {
  head_in_range = record { client_below = lit< tt; node_below = lit< tt; moment_below = lit< tt };
  text_fits = omega arith;
  bound_fits = refl;
}

request_tag_is : making_tag zeros request_making ≡ request_tag
unfolding tag_of sealed_bytes sealed_at head_at sha256_steps.first_words sha256_steps.schedule sha256_steps.rounds sha256_steps.compress sha256_steps.hash_after sha256_steps.digest_bytes sha256_steps.sha256
request_tag_is = refl

report_tag_is : making_tag zeros making_of_report ≡ report_tag
unfolding tag_of sealed_bytes sealed_at head_at sha256_steps.first_words sha256_steps.schedule sha256_steps.rounds sha256_steps.compress sha256_steps.hash_after sha256_steps.digest_bytes sha256_steps.sha256
report_tag_is = refl

tags_differ : making_tag zeros request_making ≡ making_tag zeros making_of_report → ⊥
tags_differ e =
    let clash : true ≡ false = ap (λ (tag : List ℕ). eqb (get_or tag 0 0) 0xe7) (sym request_tag_is ∙ e ∙ report_tag_is) in absurd cc

same_tag : (making other : Making) → (request_making ≡ making) ⊎ (making_of_report ≡ making) → (request_making ≡ other) ⊎ (making_of_report ≡ other)
    → making_tag zeros making ≡ making_tag zeros other → tagged_text making ≡ tagged_text other
same_tag making other (inl m) (inl o) e = ap tagged_text (sym m ∙ o)
same_tag making other (inr m) (inr o) e = ap tagged_text (sym m ∙ o)
same_tag making other (inl m) (inr o) e = absurd (tags_differ (ap (making_tag zeros) m ∙ e ∙ ap (making_tag zeros) (sym o)))
same_tag making other (inr m) (inl o) e = absurd (tags_differ (ap (making_tag zeros) o ∙ sym e ∙ ap (making_tag zeros) (sym m)))

formed_so : (making : Making) → (request_making ≡ making) ⊎ (making_of_report ≡ making) → IsMaking making
formed_so making (inl m) = subst IsMaking m request_formed
formed_so making (inr m) = subst IsMaking m report_formed

-- ---- the gate

request_unforged : IsUnforged zeros request_and_report [] sealed_request
request_unforged tagged = record { making = request_making; is_made = record { place = 0; is_there = refl }; text_is = refl }

report_unforged : IsUnforged zeros request_and_report (making_tag zeros request_making) sealed_report
unfolding tag_of sealed_bytes sealed_at head_at sha256_steps.first_words sha256_steps.schedule sha256_steps.rounds sha256_steps.compress sha256_steps.hash_after sha256_steps.digest_bytes sha256_steps.sha256
report_unforged tagged = record { making = making_of_report; is_made = record { place = 1; is_there = refl }; text_is = refl }

was_reported : WasReported zeros request_and_report 258 making_of_report
unfolding tag_of sealed_bytes sealed_at head_at sha256_steps.first_words sha256_steps.schedule sha256_steps.rounds sha256_steps.compress sha256_steps.hash_after sha256_steps.digest_bytes sha256_steps.sha256
was_reported = record {
  gate = operator_gate;
  steps = Comes (Some 1) 7 sealed_request ∷ Takes ∷ [];
  request = status_request;
  fresh = refl;
  has_key = λ operator e. ap (λ (o : Operator). o.holder.key) (sym (some_is _ operator e));
  unforged = (all_bytes sealed_request refl, request_unforged, tt);
  is_taken = inl refl;
  of_operator = refl;
  making_is = refl;
}

reported_so : (making : Making) → (request_making ≡ making) ⊎ (making_of_report ≡ making) → making.head.kind ≡ Report → WasReported zeros request_and_report 258 making
reported_so making (inl m) kind = let clash : Request ≡ Report = ap (λ (k : Making). k.head.kind) m ∙ kind in absurd cc
reported_so making (inr m) kind = subst (WasReported zeros request_and_report 258) m was_reported

-- ---- the premises

pub returns-clause-bytes : goal.returns-clause-bytes
returns-clause-bytes c = all_bytes sealed_report refl

pub returns-clause-makings : goal.returns-clause-makings
returns-clause-makings c = record {
  formed = λ making m. formed_so making (one_of_two making m);
  apart = λ making other m o e. same_tag making other (one_of_two making m) (one_of_two other o) e;
}

pub returns-clause-request : goal.returns-clause-request
returns-clause-request c = record { place = 0; is_there = refl }

pub returns-clause-gates : goal.returns-clause-gates
returns-clause-gates c = λ making m kind. reported_so making (one_of_two making m) kind

pub returns-clause-unforged : goal.returns-clause-unforged
returns-clause-unforged c = report_unforged

pub returns-clause-read : goal.returns-clause-read
unfolding tag_of report_at report_head_at sealed_bytes sha256_steps.first_words sha256_steps.schedule sha256_steps.rounds sha256_steps.compress sha256_steps.hash_after sha256_steps.digest_bytes sha256_steps.sha256
returns-clause-read c = refl
