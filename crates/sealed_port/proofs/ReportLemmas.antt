-- A report that an operator reads is the one on its request.
use Rattle.std.proofs.Common.{◌≡◌, ℕ, Bool, true, false, cond, eqb, leb, List, [], ◌∷◌, ◌++◌, length, Option, Some, None, refl, sym, ap, subst, ◌∙◌, inl, inr}
use Rattle.std.specs.Prelude.{◌⊎◌}
use Rattle.std.specs.Option.{option_map}
use Rattle.sealed_wire.specs.Bytes.{AreBytes}
use Rattle.sealed_wire.specs.Making.{AreMakings, IsMade, IsUnforged, Making, making_tag}
use Rattle.sealed_wire.specs.Report.{report_at, report_head}
use Rattle.sealed_wire.specs.Sealed.{sealed_at}
use Rattle.sealed_wire.specs.declared.head.Head.{Head}
use Rattle.sealed_wire.proofs.MakingLemmas.{made_law, report_law}
use Rattle.sealed_wire.proofs.ReportLemmas.{report_takes}
use Rattle.sealed_port.specs.Aside.{AsideRecord}
use Rattle.sealed_port.specs.Gate.{GateRecord, Sealed, opened}
use Rattle.sealed_port.specs.ReportWorld.{GatesReport, HasOperatorKey, IsAmongRequests, IsReportFor, IsReported, WasReported}
use Rattle.sealed_port.specs.RequestRuns.{aside_in, listed, taken_in}
use Rattle.sealed_port.specs.Requests.{gate_came, operator_named, operator_with, operators_with, report_under, reported, request_head, requested}
use Rattle.sealed_port.specs.Runs.{Answers, Comes, Step, Drains, Takes, gate_run, gate_step}
use Rattle.sealed_port.specs.World.{ComeUnforged}
use Rattle.sealed_port.specs.declared.operator.Operator.{Operator}
use Rattle.sealed_port.proofs.RequestLemmas.{came_operators, named_with, queue_law, request_law}
use Rattle.sealed_port.proofs.WorldLemmas.{key_kept, node_with, tag_of_read}

abbrev present : {A : Type 0} → A → Option A
present x = Some x

some_is : {A : Type 0} (x y : A) → present x ≡ present y → x ≡ y
some_is x y e = cc

-- ---- what is sealed

pub sealed_for_request : (gate : GateRecord) (request : AsideRecord) (page : List ℕ) (sealed : Sealed) → reported gate request page ≡ Some sealed
    → IsReportFor gate request page sealed
sealed_for_request gate request page sealed e = fits (leb (length page) 1024) e
  where
    under : (o : Option Operator) → operator_named request.number gate.operators ≡ o → report_under gate.node request page o ≡ Some sealed → IsReportFor gate request page sealed
    under None is found = absurd cc
    under (Some operator) is found = record {
      operator = operator;
      is_operator = is;
      bytes_are = ap (λ (s : Sealed). s.bytes) (sym (some_is _ sealed found));
      address_is = ap (λ (s : Sealed). s.address) (sym (some_is _ sealed found));
    }

    fits : (b : Bool) → cond b (report_under gate.node request page (operator_named request.number gate.operators)) None ≡ Some sealed → IsReportFor gate request page sealed
    fits true found = under (operator_named request.number gate.operators) refl found
    fits false found = absurd cc

-- ---- an operator's key stays

abbrev HasKeyIn : List ℕ → ℕ → List Operator → Type 0
HasKeyIn key number operators = (operator : Operator) → operator_named number operators ≡ Some operator → operator.holder.key ≡ key

key_with : (key : List ℕ) (number : ℕ) (operators : List Operator) (request : Option AsideRecord) → HasKeyIn key number operators → HasKeyIn key number (operators_with request operators)
key_with key number operators None h = h
key_with key number operators (Some request) h = λ operator e.
    from (operator_named number operators) refl (sym (named_with number request.number request.moment operators) ∙ e)
  where
    from : {operator : Operator} (o : Option Operator) → operator_named number operators ≡ o → option_map (operator_with request.number request.moment) o ≡ Some operator
        → operator.holder.key ≡ key
    from None is e = absurd cc
    from (Some before) is e =
        ap (λ (o : Operator). o.holder.key) (sym (some_is _ _ e)) ∙ key_kept (eqb before.holder.number request.number) before.holder request.moment ∙ h before is

key_came : (key : List ℕ) (number : ℕ) (gate : GateRecord) (now : Option ℕ) (address : ℕ) (bytes : List ℕ) → HasOperatorKey key number gate
    → HasOperatorKey key number (gate_came gate now address bytes)
key_came key number gate now address bytes h =
    subst (HasKeyIn key number) (came_operators gate now address bytes) (key_with key number gate.operators (requested gate now address bytes) h)

-- ---- requests in a list

among_parts : (xs ys : List AsideRecord) (a : AsideRecord) → IsAmongRequests (xs ++ ys) a → IsAmongRequests xs a ⊎ IsAmongRequests ys a
among_parts [] ys a h = inr h
among_parts (x ∷ xs) ys a (inl is) = inl (inl is)
among_parts (x ∷ xs) ys a (inr later) = elim (among_parts xs ys a later) [
  | inl front ↦ inl (inr front)
  | inr back ↦ inr back
]

among_front : (xs ys : List AsideRecord) (a : AsideRecord) → IsAmongRequests xs a → IsAmongRequests (xs ++ ys) a
among_front [] ys a h = absurd h
among_front (x ∷ xs) ys a (inl is) = inl is
among_front (x ∷ xs) ys a (inr later) = inr (among_front xs ys a later)

-- ---- a request that was set aside was made

record RequestMade (key : List ℕ) (made : List Making) (node : ℕ) (request : AsideRecord) : Type 0 where
  making : Making
  is_made : IsMade made making
  tag_is : making_tag key making ≡ request.tag
  head_is : making.head ≡ request_head node request
  text_is : making.text ≡ request.text

asked_is_made : (key : List ℕ) (made : List Making) (number : ℕ) (gate : GateRecord) (now : Option ℕ) (address : ℕ) (bytes : List ℕ) (request : AsideRecord)
    → AreMakings key made → HasOperatorKey key number gate → AreBytes bytes → IsUnforged key made [] bytes → requested gate now address bytes ≡ Some request
    → request.number ≡ number → RequestMade key made gate.node request
asked_is_made key made number gate now address bytes request makings has fits unforged is of_number =
    let o = request_law gate now address bytes request is in
    let head = request_head gate.node request in
    let own : o.operator.holder.key ≡ key = has o.operator (ap (λ (n : ℕ). operator_named n gate.operators) (sym of_number) ∙ o.is_operator) in
    let read : sealed_at key [] bytes ≡ Some (head, request.text) = subst (λ (k : List ℕ). sealed_at k [] bytes ≡ Some (head, request.text)) own o.reads in
    record {
      making = record { bound = []; head = head; text = request.text };
      is_made = made_law key bytes [] request.text head made fits makings refl unforged read;
      tag_is = sym (tag_of_read key bytes request.text head fits read) ∙ sym o.tag_is;
      head_is = refl;
      text_is = refl;
    }

aside_is_made : (key : List ℕ) (made : List Making) (number : ℕ) (gate : GateRecord) (steps : List Step) (request : AsideRecord) → AreMakings key made
    → HasOperatorKey key number gate → ComeUnforged key made steps → IsAmongRequests (aside_in gate steps) request → request.number ≡ number
    → RequestMade key made gate.node request
aside_is_made key made number gate [] request makings has come among of_number = absurd among
aside_is_made key made number gate (Answers client answer ∷ steps) request makings has come among of_number =
    aside_is_made key made number (gate_step gate (Answers client answer)) steps request makings has come among of_number
aside_is_made key made number gate (Takes ∷ steps) request makings has come among of_number =
    aside_is_made key made number (gate_step gate Takes) steps request makings has come among of_number
aside_is_made key made number gate (Drains ∷ steps) request makings has come among of_number =
    aside_is_made key made number (gate_step gate Drains) steps request makings has come among of_number
aside_is_made key made number gate (Comes now address bytes ∷ steps) request makings has come among of_number =
    elim (among_parts (listed (requested gate now address bytes)) (aside_in (gate_came gate now address bytes) steps) request among) as (λ k. RequestMade key made gate.node request) [
      | inl front ↦ here (requested gate now address bytes) refl front
      | inr back ↦ subst (λ (node : ℕ). RequestMade key made node request) (node_with gate now address (opened gate now bytes))
          (aside_is_made key made number (gate_came gate now address bytes) steps request makings (key_came key number gate now address bytes has) come.2 back of_number)
    ]
  where
    first : (found : AsideRecord) → requested gate now address bytes ≡ Some found → IsAmongRequests (found ∷ []) request → RequestMade key made gate.node request
    first found is (inl same) =
        asked_is_made key made number gate now address bytes request makings has come.0 come.1 (is ∙ ap (λ (r : AsideRecord). present r) same) of_number
    first found is (inr none) = absurd none

    here : (o : Option AsideRecord) → requested gate now address bytes ≡ o → IsAmongRequests (listed o) request → RequestMade key made gate.node request
    here None is h = absurd h
    here (Some found) is h = first found is h

-- ---- the law

pub report_world_law : (key bytes text : List ℕ) (head : Head) (made : List Making) (request : Making) (number : ℕ) → AreBytes bytes → AreMakings key made → IsMade made request
    → GatesReport key made number → IsUnforged key made (making_tag key request) bytes → report_at key (making_tag key request) bytes ≡ Some (head, text)
    → IsReported request head
report_world_law key bytes text head made request number fits makings mine gates unforged read =
    let a = report_law key bytes text head made request fits makings mine unforged read in
    from (gates (record { bound = making_tag key request; head = head; text = text }) a.is_made (report_takes key (making_tag key request) bytes head text read).of_kind) a.only
  where
    from : WasReported key made number (record { bound = making_tag key request; head = head; text = text })
        → ((other : Making) → IsMade made other → making_tag key other ≡ making_tag key request → other ≡ request) → IsReported request head
    from w only =
        let all : aside_in w.gate w.steps ≡ taken_in w.gate w.steps ++ (gate_run w.gate w.steps).aside =
        ap (λ (aside : List AsideRecord). aside ++ aside_in w.gate w.steps) (sym w.fresh) ∙ queue_law w.gate w.steps in
        let among : IsAmongRequests (aside_in w.gate w.steps) w.request =
        subst (λ (l : List AsideRecord). IsAmongRequests l w.request) (sym all) (among_front (taken_in w.gate w.steps) (gate_run w.gate w.steps).aside w.request w.is_taken) in
        let m = aside_is_made key made number w.gate w.steps w.request makings w.has_key w.unforged among w.of_operator in
        let bound_is : making_tag key request ≡ w.request.tag = ap (λ (k : Making). k.bound) w.making_is in
        let same : m.making ≡ request = only m.making m.is_made (m.tag_is ∙ sym bound_is) in
        let asked : request.head ≡ request_head w.gate.node w.request = ap (λ (k : Making). k.head) (sym same) ∙ m.head_is in
        record {
          gate = w.gate;
          steps = w.steps;
          taken = w.request;
          fresh = w.fresh;
          of_node = ap (λ (h : Head). h.node) (sym asked);
          is_taken = w.is_taken;
          of_operator = ap (λ (h : Head). h.client) (sym asked);
          text_is = sym m.text_is ∙ ap (λ (k : Making). k.text) same;
          moment_is = ap (λ (h : Head). h.moment) (sym asked);
          head_is = ap (λ (k : Making). k.head) w.making_is ∙ ap report_head (sym asked);
        }
