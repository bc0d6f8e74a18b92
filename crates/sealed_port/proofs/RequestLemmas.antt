-- What a gate sets aside is sealed, and is set aside and taken once.
use Rattle.std.proofs.Common.{◌≡◌, ℕ, ◌≤◌, Bool, true, false, cond, eqb, List, [], ◌∷◌, ◌++◌, map, Option, Some, None, refl, sym, ap, subst, ◌∙◌, inl, inr, append_assoc}
use Rattle.std.specs.Prelude.{◌&&◌, Ok, Err}
use Rattle.std.specs.List.{AllByRecursion, IsDistinct}
use Rattle.std.specs.Option.{option_map}
use Rattle.std.specs.Result.{result_ok}
use Rattle.std.proofs.Math.Nat.{le_trans}
use Rattle.std.proofs.lemmas.Bool.{eqb-true, and_parts}
use Rattle.std.proofs.lemmas.List.{append-nil}
use Rattle.replay_window.specs.Window.{is_fresh, last_at, refusal_of, with_seen}
use Rattle.replay_window.proofs.OnceLemmas.{IsCovered, ahead_stays, fresh_is_apart, fresh_is_near}
use Rattle.sealed_wire.specs.Sealed.{head_of, sealed_at, tag_at}
use Rattle.sealed_wire.specs.declared.head.Head.{Head}
use Rattle.sealed_wire.specs.declared.head.Kind.{Kind}
use Rattle.sealed_wire.specs.declared.head.Kind.TheVariants.{Line, Answer, Request, Report}
use Rattle.sealed_wire.proofs.TagLemmas.{takes}
use Rattle.sealed_port.specs.Aside.{AsideRecord, has_room, oldest, others}
use Rattle.sealed_port.specs.Causes.{cause_by}
use Rattle.sealed_port.specs.Gate.{GateRecord, SealedLine, gate_with, opened}
use Rattle.sealed_port.specs.RequestRuns.{AreOperatorsBefore, AreOperatorsInOrder, IsRequestOf, aside_in, aside_over, is_same_request, listed, taken_in}
use Rattle.sealed_port.specs.Requests.{aside_with, gate_came, is_request, operator_named, operator_of, operator_with, operators_with, request_with, requested, ruling_read, ruling_told, ruling_under}
use Rattle.sealed_port.specs.Runs.{GateLife, Step, Comes, Answers, Drains, Takes, WasTold, gate_run, gate_step}
use Rattle.sealed_port.specs.declared.operator.Operator.{Operator}
use Rattle.sealed_port.proofs.RunLemmas.{all_append, and_false, bool_cases, covers_here, is_itself, keeps_cover, number_stays}

abbrev present : {A : Type 0} → A → Option A
present x = Some x

some_is : {A : Type 0} (x y : A) → present x ≡ present y → x ≡ y
some_is x y e = cc

-- ---- what is set aside is sealed

kind_is_request : (kind : Kind) → is_request kind ≡ true → kind ≡ Request
kind_is_request Request e = refl
kind_is_request Line e = absurd cc
kind_is_request Answer e = absurd cc
kind_is_request Report e = absurd cc

head_is : (head : Head) (node : ℕ) → head.kind ≡ Request → head.node ≡ node → head ≡ record { kind = Request; client = head.client; node = node; moment = head.moment }
head_is head node k n = rw (sym k, sym n) refl

-- the operator of a head
record IsOperatorOf (gate : GateRecord) (operator : Operator) (head : Head) : Type 0 where
  is_request : head.kind ≡ Request
  for_node : head.node ≡ gate.node
  is_operator : operator_named head.client gate.operators ≡ Some operator

operator_is : (gate : GateRecord) (operator : Operator) (head : Head) → operator_of gate (Some head) ≡ Some operator → IsOperatorOf gate operator head
operator_is gate operator head e = go (is_request head.kind && eqb head.node gate.node) refl e
  where
    go : (b : Bool) → (is_request head.kind && eqb head.node gate.node) ≡ b → cond b (operator_named head.client gate.operators) None ≡ Some operator → IsOperatorOf gate operator head
    go true is found =
        let parts = and_parts (is_request head.kind) (eqb head.node gate.node) is in
        record {
          is_request = kind_is_request head.kind parts.0;
          for_node = eqb-true head.node gate.node parts.1;
          is_operator = found;
        }
    go false is found = absurd cc

pub request_law : (gate : GateRecord) (now : Option ℕ) (address : ℕ) (bytes : List ℕ) (request : AsideRecord) → requested gate now address bytes ≡ Some request
    → IsRequestOf gate now address bytes request
request_law gate now address bytes request e = by_head (head_of bytes) refl e
  where
    by_room : (operator : Operator) (second : ℕ) (head : Head) (text : List ℕ) (b : Bool) → IsOperatorOf gate operator head
        → sealed_at operator.holder.key [] bytes ≡ Some (head, text) → now ≡ Some second
        → (is_fresh operator.holder.window second head.moment && has_room gate.aside) ≡ b
        → result_ok (cond b (Ok (request_with operator.right address (tag_at bytes) head text)) (Err (cause_by (refusal_of operator.holder.window second head.moment)))) ≡ Some request
        → IsRequestOf gate now address bytes request
    by_room operator second head text false so reads told is found = absurd cc
    by_room operator second head text true so reads told is found =
        let parts = and_parts (is_fresh operator.holder.window second head.moment) (has_room gate.aside) is in
        let same : request_with operator.right address (tag_at bytes) head text ≡ request = some_is _ request found in
        subst (IsRequestOf gate now address bytes) same (record {
          operator = operator;
          is_operator = so.is_operator;
          reads = reads ∙ ap (λ (h : Head). present (h, text)) (head_is head gate.node so.is_request so.for_node);
          right_is = refl;
          address_is = refl;
          tag_is = refl;
          second = second;
          told = told;
          fresh = parts.0;
          room = parts.1;
        })

    by_now : (operator : Operator) (head : Head) (text : List ℕ) (clock : Option ℕ) → IsOperatorOf gate operator head → sealed_at operator.holder.key [] bytes ≡ Some (head, text)
        → now ≡ clock → result_ok (ruling_told gate operator clock (request_with operator.right address (tag_at bytes) head text)) ≡ Some request
        → IsRequestOf gate now address bytes request
    by_now operator head text None so reads told found = absurd cc
    by_now operator head text (Some second) so reads told found =
        by_room operator second head text (is_fresh operator.holder.window second head.moment && has_room gate.aside) so reads told refl found

    by_read : (operator : Operator) (named_head : Head) (read : Option (Head × List ℕ)) → head_of bytes ≡ Some named_head → IsOperatorOf gate operator named_head
        → sealed_at operator.holder.key [] bytes ≡ read → result_ok (ruling_read gate operator now address (tag_at bytes) read) ≡ Some request
        → IsRequestOf gate now address bytes request
    by_read operator named_head None names so reads found = absurd cc
    by_read operator named_head (Some (head, text)) names so reads found =
        let same : named_head ≡ head = some_is named_head head (sym names ∙ (takes operator.holder.key [] bytes head text reads).head_is) in
        by_now operator head text now (subst (IsOperatorOf gate operator) same so) reads refl found

    by_operator : (named_head : Head) (o : Option Operator) → head_of bytes ≡ Some named_head → operator_of gate (Some named_head) ≡ o
        → result_ok (ruling_under gate now address bytes o) ≡ Some request → IsRequestOf gate now address bytes request
    by_operator named_head None names is found = absurd cc
    by_operator named_head (Some operator) names is found =
        by_read operator named_head (sealed_at operator.holder.key [] bytes) names (operator_is gate operator named_head is) refl found

    by_head : (o : Option Head) → head_of bytes ≡ o → result_ok (ruling_under gate now address bytes (operator_of gate o)) ≡ Some request
        → IsRequestOf gate now address bytes request
    by_head None names found = absurd cc
    by_head (Some named_head) names found = by_operator named_head (operator_of gate (Some named_head)) names refl found

-- ---- the operator with a number, after a window has seen a moment

pub named_with : (n k m : ℕ) (operators : List Operator) → operator_named n (map (operator_with k m) operators) ≡ option_map (operator_with k m) (operator_named n operators)
named_with n k m [] = refl
named_with n k m (operator ∷ operators) =
    let same : eqb (operator_with k m operator).holder.number n ≡ eqb operator.holder.number n =
    ap (λ (x : ℕ). eqb x n) (number_stays (eqb operator.holder.number k) operator.holder m) in
    rw same (go (eqb operator.holder.number n) (named_with n k m operators))
  where
    go : (b : Bool) → operator_named n (map (operator_with k m) operators) ≡ option_map (operator_with k m) (operator_named n operators)
        → cond b (Some (operator_with k m operator)) (operator_named n (map (operator_with k m) operators))
        ≡ option_map (operator_with k m) (cond b (Some operator) (operator_named n operators))
    go true rest = refl
    go false rest = rest

operator_has : (n : ℕ) (operators : List Operator) (operator : Operator) → operator_named n operators ≡ Some operator → operator.holder.number ≡ n
operator_has n [] operator e = absurd cc
operator_has n (one ∷ rest) operator e = go (eqb one.holder.number n) refl (operator_has n rest operator) e
  where
    go : (b : Bool) → eqb one.holder.number n ≡ b → (operator_named n rest ≡ Some operator → operator.holder.number ≡ n)
        → cond b (Some one) (operator_named n rest) ≡ Some operator → operator.holder.number ≡ n
    go true is later found = ap (λ (o : Operator). o.holder.number) (sym (some_is one operator found)) ∙ eqb-true one.holder.number n is
    go false is later found = later found

-- the operator with this number has a window that admits the moment no more
abbrev pub IsAsked : List Operator → ℕ → ℕ → Type 0
IsAsked operators number moment = (operator : Operator) → operator_named number operators ≡ Some operator → IsCovered operator.holder.window moment

pub stays_asked : (operators : List Operator) (request : Option AsideRecord) (n m : ℕ) → IsAsked operators n m → IsAsked (operators_with request operators) n m
stays_asked operators None n m h = h
stays_asked operators (Some request) n m h = λ operator e.
    from (operator_named n operators) refl (sym (named_with n request.number request.moment operators) ∙ e)
  where
    from : {operator : Operator} (o : Option Operator) → operator_named n operators ≡ o → option_map (operator_with request.number request.moment) o ≡ Some operator
        → IsCovered operator.holder.window m
    from None is e = absurd cc
    from (Some before) is e =
        subst (λ (o : Operator). IsCovered o.holder.window m) (some_is _ _ e)
        (keeps_cover (eqb before.holder.number request.number) before.holder request.moment m (h before is))

pub asked_now : (operators : List Operator) (request : AsideRecord) → IsAsked (operators_with (Some request) operators) request.number request.moment
asked_now operators request = λ operator e.
    from (operator_named request.number operators) refl (sym (named_with request.number request.number request.moment operators) ∙ e)
  where
    from : {operator : Operator} (o : Option Operator) → operator_named request.number operators ≡ o
        → option_map (operator_with request.number request.moment) o ≡ Some operator → IsCovered operator.holder.window request.moment
    from None is e = absurd cc
    from (Some before) is e =
        let own = is_itself before.holder.number request.number (operator_has request.number operators before is) in
        subst (λ (o : Operator). IsCovered o.holder.window request.moment) (some_is _ _ e)
        (covers_here (eqb before.holder.number request.number) before.holder request.moment own)

-- a line leaves the operators and the requests
pub line_leaves : (gate : GateRecord) (now : Option ℕ) (address : ℕ) (line : Option SealedLine) → (gate_with gate now address line).operators ≡ gate.operators
line_leaves gate now address None = refl
line_leaves gate now address (Some line) = refl

line_leaves_aside : (gate : GateRecord) (now : Option ℕ) (address : ℕ) (line : Option SealedLine) → (gate_with gate now address line).aside ≡ gate.aside
line_leaves_aside gate now address None = refl
line_leaves_aside gate now address (Some line) = refl

-- the operators and the requests after a datagram
pub came_operators : (gate : GateRecord) (now : Option ℕ) (address : ℕ) (bytes : List ℕ)
    → operators_with (requested gate now address bytes) gate.operators ≡ (gate_came gate now address bytes).operators
came_operators gate now address bytes = ap (operators_with (requested gate now address bytes)) (sym (line_leaves gate now address (opened gate now bytes)))

came_aside : (gate : GateRecord) (now : Option ℕ) (address : ℕ) (bytes : List ℕ)
    → aside_with (requested gate now address bytes) gate.aside ≡ (gate_came gate now address bytes).aside
came_aside gate now address bytes = ap (aside_with (requested gate now address bytes)) (sym (line_leaves_aside gate now address (opened gate now bytes)))

-- ---- once

-- a seen request differs from one that is set aside
apart_from_request : (gate : GateRecord) (one request : AsideRecord) (now : Option ℕ) (address : ℕ) (bytes : List ℕ) → IsAsked gate.operators one.number one.moment
    → requested gate now address bytes ≡ Some request → is_same_request one request ≡ false
apart_from_request gate one request now address bytes seen is = elim (bool_cases (eqb one.number request.number)) [
  | inl same ↦
      let o = request_law gate now address bytes request is in
      let number : one.number ≡ request.number = eqb-true one.number request.number same in
      let here : IsAsked gate.operators request.number one.moment = subst (λ (n : ℕ). IsAsked gate.operators n one.moment) number seen in
      rw (fresh_is_apart o.operator.holder.window o.second request.moment one.moment (here o.operator o.is_operator) o.fresh) (and_false (eqb one.number request.number))
  | inr apart ↦ rw apart refl
]

pub never_again : (gate : GateRecord) (steps : List Step) (one : AsideRecord) → IsAsked gate.operators one.number one.moment
    → AllByRecursion (λ y. is_same_request one y ≡ false) (aside_in gate steps)
never_again gate [] one seen = tt
never_again gate (Answers client answer ∷ steps) one seen = never_again (gate_step gate (Answers client answer)) steps one seen
never_again gate (Takes ∷ steps) one seen = never_again (gate_step gate Takes) steps one seen
never_again gate (Drains ∷ steps) one seen = never_again (gate_step gate Drains) steps one seen
never_again gate (Comes now address bytes ∷ steps) one seen =
    all_append (λ y. is_same_request one y ≡ false) (listed (requested gate now address bytes)) (aside_in (gate_came gate now address bytes) steps)
    (from (requested gate now address bytes) refl)
    (never_again (gate_came gate now address bytes) steps one
    (subst (λ (operators : List Operator). IsAsked operators one.number one.moment) (came_operators gate now address bytes)
    (stays_asked gate.operators (requested gate now address bytes) one.number one.moment seen)))
  where
    from : (o : Option AsideRecord) → requested gate now address bytes ≡ o → AllByRecursion (λ y. is_same_request one y ≡ false) (listed o)
    from None is = tt
    from (Some request) is = (apart_from_request gate one request now address bytes seen is, tt)

pub aside_law : (gate : GateRecord) (steps : List Step) → IsDistinct is_same_request (aside_in gate steps)
unfolding IsDistinct
aside_law gate [] = tt
aside_law gate (Answers client answer ∷ steps) = aside_law (gate_step gate (Answers client answer)) steps
aside_law gate (Takes ∷ steps) = aside_law (gate_step gate Takes) steps
aside_law gate (Drains ∷ steps) = aside_law (gate_step gate Drains) steps
aside_law gate (Comes now address bytes ∷ steps) = from (requested gate now address bytes) refl (aside_law (gate_came gate now address bytes) steps)
  where
    from : (o : Option AsideRecord) → requested gate now address bytes ≡ o → IsDistinct is_same_request (aside_in (gate_came gate now address bytes) steps)
        → IsDistinct is_same_request (listed o ++ aside_in (gate_came gate now address bytes) steps)
    from None is rest = rest
    from (Some request) is rest =
        let operators : operators_with (Some request) gate.operators ≡ (gate_came gate now address bytes).operators =
        ap (λ (o : Option AsideRecord). operators_with o gate.operators) (sym is) ∙ came_operators gate now address bytes in (
          never_again (gate_came gate now address bytes) steps request
              (subst (λ (all : List Operator). IsAsked all request.number request.moment) operators (asked_now gate.operators request)),
          rest,
        )

-- ---- what is taken was set aside

-- one more at the end of the requests, or nothing
aside_is : (o : Option AsideRecord) (aside more : List AsideRecord) → aside ++ (listed o ++ more) ≡ aside_with o aside ++ more
aside_is None aside more = refl
aside_is (Some request) aside more = sym (append_assoc aside (request ∷ []) more)

taken_first : (aside more taken rest : List AsideRecord) → others aside ++ more ≡ taken ++ rest → aside ++ more ≡ (listed (oldest aside) ++ taken) ++ rest
taken_first [] more taken rest e = e
taken_first (request ∷ aside) more taken rest e = ap (λ (l : List AsideRecord). request ∷ l) e

pub queue_law : (gate : GateRecord) (steps : List Step) → gate.aside ++ aside_in gate steps ≡ taken_in gate steps ++ (gate_run gate steps).aside
queue_law gate [] = append-nil gate.aside
queue_law gate (Answers client answer ∷ steps) = queue_law (gate_step gate (Answers client answer)) steps
queue_law gate (Takes ∷ steps) =
    taken_first gate.aside (aside_in (gate_step gate Takes) steps) (taken_in (gate_step gate Takes) steps) (gate_run (gate_step gate Takes) steps).aside
    (queue_law (gate_step gate Takes) steps)
queue_law gate (Drains ∷ steps) = queue_law (gate_step gate Drains) steps
queue_law gate (Comes now address bytes ∷ steps) =
    let more = aside_in (gate_came gate now address bytes) steps in
    aside_is (requested gate now address bytes) gate.aside more
    ∙ ap (λ (aside : List AsideRecord). aside ++ more) (came_aside gate now address bytes)
    ∙ queue_law (gate_came gate now address bytes) steps

all_front : {X : Type 0} (P : X → Type 0) (xs ys : List X) → AllByRecursion P (xs ++ ys) → AllByRecursion P xs
all_front P [] ys h = tt
all_front P (x ∷ xs) ys h = (h.0, all_front P xs ys h.1)

distinct_front : (xs ys : List AsideRecord) → IsDistinct is_same_request (xs ++ ys) → IsDistinct is_same_request xs
unfolding IsDistinct
distinct_front [] ys h = tt
distinct_front (x ∷ xs) ys h = (all_front (λ y. is_same_request x y ≡ false) xs ys h.0, distinct_front xs ys h.1)

pub taken_law : (gate : GateRecord) (steps : List Step) → gate.aside ≡ [] → IsDistinct is_same_request (taken_in gate steps)
taken_law gate steps none =
    let all : aside_in gate steps ≡ taken_in gate steps ++ (gate_run gate steps).aside =
    ap (λ (aside : List AsideRecord). aside ++ aside_in gate steps) (sym none) ∙ queue_law gate steps in
    distinct_front (taken_in gate steps) (gate_run gate steps).aside (subst (IsDistinct is_same_request) all (aside_law gate steps))

-- ---- incarnations

keeps_lead : (b : Bool) (operator : Operator) (moment : ℕ)
    → (cond b (record operator.holder { window = with_seen operator.holder.window moment }) operator.holder).window.ahead ≡ operator.holder.window.ahead
keeps_lead true operator moment = ahead_stays operator.holder.window moment
keeps_lead false operator moment = refl

-- a request is at most its operator's lead ahead of a second that was told
record IsClose (gate : GateRecord) (steps : List Step) (request : AsideRecord) : Type 0 where
  second : ℕ
  told : WasTold second steps
  operator : Operator
  is_operator : operator_named request.number gate.operators ≡ Some operator
  near : request.moment ≤ last_at second operator.holder.window.ahead

close_now : (gate : GateRecord) (now : Option ℕ) (address : ℕ) (bytes : List ℕ) (steps : List Step) (request : AsideRecord)
    → requested gate now address bytes ≡ Some request → IsClose gate (Comes now address bytes ∷ steps) request
close_now gate now address bytes steps request is =
    let o = request_law gate now address bytes request is in
    record {
      second = o.second;
      told = inl o.told;
      operator = o.operator;
      is_operator = o.is_operator;
      near = fresh_is_near o.operator.holder.window o.second request.moment o.fresh;
    }

close_before : (gate : GateRecord) (step : Step) (steps : List Step) (request : AsideRecord) → IsClose (gate_step gate step) steps request → IsClose gate (step ∷ steps) request
close_before gate (Answers client answer) steps request n =
    record { second = n.second; told = n.told; operator = n.operator; is_operator = n.is_operator; near = n.near }
close_before gate Takes steps request n = record { second = n.second; told = n.told; operator = n.operator; is_operator = n.is_operator; near = n.near }
close_before gate Drains steps request n = record { second = n.second; told = n.told; operator = n.operator; is_operator = n.is_operator; near = n.near }
close_before gate (Comes now address bytes) steps request n =
    from (requested gate now address bytes) (subst (λ (all : List Operator). operator_named request.number all ≡ Some n.operator) (sym (came_operators gate now address bytes)) n.is_operator)
  where
    go : (other : AsideRecord) (o : Option Operator) → operator_named request.number gate.operators ≡ o
        → option_map (operator_with other.number other.moment) o ≡ Some n.operator → IsClose gate (Comes now address bytes ∷ steps) request
    go other None is e = absurd cc
    go other (Some before) is e =
        let same : operator_with other.number other.moment before ≡ n.operator = some_is _ _ e in
        let lead : n.operator.holder.window.ahead ≡ before.holder.window.ahead =
        ap (λ (o : Operator). o.holder.window.ahead) (sym same) ∙ keeps_lead (eqb before.holder.number other.number) before other.moment in
        record {
          second = n.second;
          told = inr n.told;
          operator = before;
          is_operator = is;
          near = subst (λ (k : ℕ). request.moment ≤ last_at n.second k) lead n.near;
        }

    from : (o : Option AsideRecord) → operator_named request.number (operators_with o gate.operators) ≡ Some n.operator → IsClose gate (Comes now address bytes ∷ steps) request
    from None is = record { second = n.second; told = inr n.told; operator = n.operator; is_operator = is; near = n.near }
    from (Some other) is =
        go other (operator_named request.number gate.operators) refl (sym (named_with request.number other.number other.moment gate.operators) ∙ is)

all_of : {X : Type 0} (P Q : X → Type 0) → ((x : X) → P x → Q x) → (xs : List X) → AllByRecursion P xs → AllByRecursion Q xs
all_of P Q f [] h = tt
all_of P Q f (x ∷ xs) h = (f x h.0, all_of P Q f xs h.1)

all_close : (gate : GateRecord) (steps : List Step) → AllByRecursion (IsClose gate steps) (aside_in gate steps)
all_close gate [] = tt
all_close gate (Answers client answer ∷ steps) =
    all_of (IsClose (gate_step gate (Answers client answer)) steps) (IsClose gate (Answers client answer ∷ steps)) (close_before gate (Answers client answer) steps)
    (aside_in (gate_step gate (Answers client answer)) steps) (all_close (gate_step gate (Answers client answer)) steps)
all_close gate (Takes ∷ steps) =
    all_of (IsClose (gate_step gate Takes) steps) (IsClose gate (Takes ∷ steps)) (close_before gate Takes steps)
    (aside_in (gate_step gate Takes) steps) (all_close (gate_step gate Takes) steps)
all_close gate (Drains ∷ steps) =
    all_of (IsClose (gate_step gate Drains) steps) (IsClose gate (Drains ∷ steps)) (close_before gate Drains steps)
    (aside_in (gate_step gate Drains) steps) (all_close (gate_step gate Drains) steps)
all_close gate (Comes now address bytes ∷ steps) =
    all_append (IsClose gate (Comes now address bytes ∷ steps)) (listed (requested gate now address bytes)) (aside_in (gate_came gate now address bytes) steps)
    (from (requested gate now address bytes) refl)
    (all_of (IsClose (gate_came gate now address bytes) steps) (IsClose gate (Comes now address bytes ∷ steps)) (close_before gate (Comes now address bytes) steps)
    (aside_in (gate_came gate now address bytes) steps) (all_close (gate_came gate now address bytes) steps))
  where
    from : (o : Option AsideRecord) → requested gate now address bytes ≡ o → AllByRecursion (IsClose gate (Comes now address bytes ∷ steps)) (listed o)
    from None is = tt
    from (Some request) is = (close_now gate now address bytes steps request is, tt)

-- no later incarnation sets aside a request that is close
apart_from_later : (life : GateLife) (request : AsideRecord) (lives : List GateLife) → IsClose life.gate life.steps request
    → AllByRecursion (AreOperatorsBefore life) lives → AllByRecursion (λ other. is_same_request request other ≡ false) (aside_over lives)
apart_from_later life request [] near h = tt
apart_from_later life request (later ∷ lives) near h =
    all_append (λ other. is_same_request request other ≡ false) (aside_in later.gate later.steps) (aside_over lives)
    (never_again later.gate later.steps request
    (λ next e. inl (le_trans near.near (h.0 request.number near.second near.operator next near.told near.is_operator e))))
    (apart_from_later life request lives near h.1)

pub distinct_append : (xs ys : List AsideRecord) → IsDistinct is_same_request xs → IsDistinct is_same_request ys
    → AllByRecursion (λ x. AllByRecursion (λ y. is_same_request x y ≡ false) ys) xs → IsDistinct is_same_request (xs ++ ys)
unfolding IsDistinct
distinct_append [] ys h k apart = k
distinct_append (x ∷ xs) ys h k apart = (all_append (λ y. is_same_request x y ≡ false) xs ys h.0 apart.0, distinct_append xs ys h.1 k apart.1)

pub aside_lives_law : (lives : List GateLife) → AreOperatorsInOrder lives → IsDistinct is_same_request (aside_over lives)
unfolding IsDistinct
aside_lives_law [] h = tt
aside_lives_law (life ∷ lives) h =
    distinct_append (aside_in life.gate life.steps) (aside_over lives) (aside_law life.gate life.steps) (aside_lives_law lives h.1)
    (all_of (IsClose life.gate life.steps) (λ request. AllByRecursion (λ other. is_same_request request other ≡ false) (aside_over lives))
    (λ request near. apart_from_later life request lives near h.0) (aside_in life.gate life.steps) (all_close life.gate life.steps))
