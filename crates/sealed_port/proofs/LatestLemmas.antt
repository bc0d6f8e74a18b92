-- Nothing that a gate opened is later than the latest moment of its windows, and incarnations that begin there open nothing twice.
use Rattle.std.proofs.Common.{◌≡◌, ℕ, ◌≤◌, Bool, true, false, cond, eqb, max, List, [], ◌∷◌, ◌++◌, map, Option, Some, None, refl, sym, ap, subst, ◌∙◌, arith, inl}
use Rattle.std.specs.Prelude.{find}
use Rattle.std.specs.List.{AllByRecursion, IsDistinct, fold}
use Rattle.std.specs.Option.{option_map}
use Rattle.std.proofs.Math.Nat.{le_trans}
use Rattle.replay_window.specs.Window.{latest_of}
use Rattle.replay_window.proofs.OnceLemmas.{IsCovered, covered_is_early}
use Rattle.sealed_port.specs.Aside.{AsideRecord}
use Rattle.sealed_port.specs.Asked.{AskedRecord}
use Rattle.sealed_port.specs.Gate.{GateRecord, SealedLine, asked_of, gate_with, named, opened, with_moment}
use Rattle.sealed_port.specs.Latest.{AreGatesMarked, AreOperatorsMarked, AreOperatorsMarkedFor, IsMarkedFor, latest_in, latest_of_clients}
use Rattle.sealed_port.specs.RequestRuns.{aside_in, aside_over, is_same_request, listed}
use Rattle.sealed_port.specs.Requests.{gate_came, operator_named, operator_with, operators_with, requested}
use Rattle.sealed_port.specs.Runs.{GateLife, Step, Comes, Answers, Drains, Takes, gate_run, gate_step, is_same, opened_in, opened_over, opening_of}
use Rattle.sealed_port.specs.declared.client.Client.{Client}
use Rattle.sealed_port.specs.declared.operator.Operator.{Operator}
use Rattle.sealed_port.proofs.LifeLemmas.{all_of, distinct_append}
use Rattle.sealed_port.proofs.OpenLemmas.{opened_law}
use Rattle.sealed_port.proofs.RequestLemmas.{aside_law, asked_now, came_operators, named_with, never_again, request_law}
use Rattle.sealed_port.proofs.RequestLemmas.{distinct_append as distinct_requests}
use Rattle.sealed_port.proofs.RunLemmas.{all_append, keeps_cover, named_stays, never_again_in, once_law, seen_now}

abbrev present : {A : Type 0} → A → Option A
present x = Some x

some_is : {A : Type 0} (x y : A) → present x ≡ present y → x ≡ y
some_is x y e = cc

-- ---- the greatest value

abbrev greatest : {X : Type 0} → (X → ℕ) → ℕ → List X → ℕ
greatest f least xs = fold (λ latest x. max latest (f x)) least xs

from_least : {X : Type 0} (f : X → ℕ) (least : ℕ) (xs : List X) → least ≤ greatest f least xs
from_least f least [] = omega arith
from_least f least (x ∷ xs) = let rest = from_least f (max least (f x)) xs in omega (arith, rest)

found_latest : {X : Type 0} (p : X → Bool) (f : X → ℕ) (least : ℕ) (xs : List X) (x : X) → find p xs ≡ Some x → f x ≤ greatest f least xs
found_latest p f least [] x e = absurd cc
found_latest p f least (y ∷ ys) x e = go (p y) e (from_least f (max least (f y)) ys) (found_latest p f (max least (f y)) ys x)
  where
    go : (b : Bool) → cond b (Some y) (find p ys) ≡ Some x → max least (f y) ≤ greatest f (max least (f y)) ys
        → (find p ys ≡ Some x → f x ≤ greatest f (max least (f y)) ys) → f x ≤ greatest f (max least (f y)) ys
    go true is first later = subst (λ z. f z ≤ greatest f (max least (f y)) ys) (some_is y x is) (omega (arith, first))
    go false is first later = later is

-- ---- a moment that the window of a client keeps

record IsKept (gate : GateRecord) (number moment : ℕ) : Type 0 where
  client : Client
  is_client : named number gate.clients ≡ Some client
  covers : IsCovered client.window moment

kept_with : (gate : GateRecord) (now : Option ℕ) (address : ℕ) (found : Option SealedLine) (n m : ℕ) → IsKept gate n m → IsKept (gate_with gate now address found) n m
kept_with gate now address None n m k = k
kept_with gate now address (Some line) n m k = record {
  client = with_moment line.client line.moment k.client;
  is_client = named_stays n line.client line.moment gate.clients ∙ ap (option_map (with_moment line.client line.moment)) k.is_client;
  covers = keeps_cover (eqb k.client.number line.client) k.client line.moment m k.covers;
}

kept_step : (gate : GateRecord) (step : Step) (n m : ℕ) → IsKept gate n m → IsKept (gate_step gate step) n m
kept_step gate (Comes now address bytes) n m k =
    let with = kept_with gate now address (opened gate now bytes) n m k in
    record { client = with.client; is_client = with.is_client; covers = with.covers }
kept_step gate (Answers client answer) n m k = record { client = k.client; is_client = k.is_client; covers = k.covers }
kept_step gate Takes n m k = record { client = k.client; is_client = k.is_client; covers = k.covers }
kept_step gate Drains n m k = record { client = k.client; is_client = k.is_client; covers = k.covers }

kept_run : (gate : GateRecord) (steps : List Step) (n m : ℕ) → IsKept gate n m → IsKept (gate_run gate steps) n m
kept_run gate [] n m k = k
kept_run gate (step ∷ steps) n m k = kept_run (gate_step gate step) steps n m (kept_step gate step n m k)

kept_now : (gate : GateRecord) (now : Option ℕ) (address : ℕ) (bytes : List ℕ) (line : SealedLine) → opened gate now bytes ≡ Some line
    → IsKept (gate_with gate now address (Some line)) line.client line.moment
kept_now gate now address bytes line e =
    let o = opened_law gate now bytes line e in
    let is = named_stays line.client line.client line.moment gate.clients ∙ ap (option_map (with_moment line.client line.moment)) o.is_owner in
    record {
      client = with_moment line.client line.moment o.owner;
      is_client = is;
      covers = seen_now gate now address line (with_moment line.client line.moment o.owner) is;
    }

kept_is_early : (gate : GateRecord) (n m : ℕ) → IsKept gate n m → m ≤ latest_in gate
kept_is_early gate n m k =
    le_trans (covered_is_early k.client.window m k.covers)
    (le_trans (found_latest (λ (client : Client). eqb client.number n) (λ (client : Client). latest_of client.window) 0 gate.clients k.client k.is_client)
    (from_least (λ (operator : Operator). latest_of operator.holder.window) (latest_of_clients 0 gate.clients) gate.operators))

pub lines_law : (gate : GateRecord) (steps : List Step) → AllByRecursion (λ line. line.moment ≤ latest_in (gate_run gate steps)) (opened_in gate steps)
lines_law gate [] = tt
lines_law gate (Answers client answer ∷ steps) = lines_law (gate_step gate (Answers client answer)) steps
lines_law gate (Takes ∷ steps) = lines_law (gate_step gate Takes) steps
lines_law gate (Drains ∷ steps) = lines_law (gate_step gate Drains) steps
lines_law gate (Comes now address bytes ∷ steps) =
    all_append (λ line. line.moment ≤ latest_in (gate_run (gate_came gate now address bytes) steps)) (opening_of address (opened gate now bytes))
    (opened_in (gate_came gate now address bytes) steps)
    (from (opened gate now bytes) refl) (lines_law (gate_came gate now address bytes) steps)
  where
    kept : (line : SealedLine) → opened gate now bytes ≡ Some line → IsKept (gate_came gate now address bytes) line.client line.moment
    kept line is =
        let with : IsKept (gate_with gate now address (opened gate now bytes)) line.client line.moment =
        subst (λ (o : Option SealedLine). IsKept (gate_with gate now address o) line.client line.moment) (sym is) (kept_now gate now address bytes line is) in
        record { client = with.client; is_client = with.is_client; covers = with.covers }

    from : (o : Option SealedLine) → opened gate now bytes ≡ o
        → AllByRecursion (λ line. line.moment ≤ latest_in (gate_run (gate_came gate now address bytes) steps)) (opening_of address o)
    from None is = tt
    from (Some line) is = (
      kept_is_early (gate_run (gate_came gate now address bytes) steps) line.client line.moment
          (kept_run (gate_came gate now address bytes) steps line.client line.moment (kept line is)),
      tt,
    )

pub marks_law : (gate : GateRecord) (steps : List Step) (number : ℕ) (client : Client) → named number gate.clients ≡ Some client
    → client.window.low ≤ latest_in (gate_run gate steps)
marks_law gate steps number client is =
    kept_is_early (gate_run gate steps) number client.window.low
    (kept_run gate steps number client.window.low (record { client = client; is_client = is; covers = inl (omega arith) }))

-- ---- a moment that the window of an operator keeps

record IsKeptBy (operators : List Operator) (number moment : ℕ) : Type 0 where
  operator : Operator
  is_operator : operator_named number operators ≡ Some operator
  covers : IsCovered operator.holder.window moment

by_request : (operators : List Operator) (request : Option AsideRecord) (n m : ℕ) → IsKeptBy operators n m → IsKeptBy (operators_with request operators) n m
by_request operators None n m k = k
by_request operators (Some request) n m k = record {
  operator = operator_with request.number request.moment k.operator;
  is_operator = named_with n request.number request.moment operators ∙ ap (option_map (operator_with request.number request.moment)) k.is_operator;
  covers = keeps_cover (eqb k.operator.holder.number request.number) k.operator.holder request.moment m k.covers;
}

by_step : (gate : GateRecord) (step : Step) (n m : ℕ) → IsKeptBy gate.operators n m → IsKeptBy (gate_step gate step).operators n m
by_step gate (Comes now address bytes) n m k =
    subst (λ (all : List Operator). IsKeptBy all n m) (came_operators gate now address bytes) (by_request gate.operators (requested gate now address bytes) n m k)
by_step gate (Answers client answer) n m k = k
by_step gate Takes n m k = k
by_step gate Drains n m k = k

by_run : (gate : GateRecord) (steps : List Step) (n m : ℕ) → IsKeptBy gate.operators n m → IsKeptBy (gate_run gate steps).operators n m
by_run gate [] n m k = k
by_run gate (step ∷ steps) n m k = by_run (gate_step gate step) steps n m (by_step gate step n m k)

by_now : (gate : GateRecord) (now : Option ℕ) (address : ℕ) (bytes : List ℕ) (request : AsideRecord) → requested gate now address bytes ≡ Some request
    → IsKeptBy (operators_with (Some request) gate.operators) request.number request.moment
by_now gate now address bytes request e =
    let o = request_law gate now address bytes request e in
    let is = named_with request.number request.number request.moment gate.operators
    ∙ ap (option_map (operator_with request.number request.moment)) o.is_operator in
    record {
      operator = operator_with request.number request.moment o.operator;
      is_operator = is;
      covers = asked_now gate.operators request (operator_with request.number request.moment o.operator) is;
    }

by_is_early : (gate : GateRecord) (n m : ℕ) → IsKeptBy gate.operators n m → m ≤ latest_in gate
by_is_early gate n m k =
    le_trans (covered_is_early k.operator.holder.window m k.covers)
    (found_latest (λ (operator : Operator). eqb operator.holder.number n) (λ (operator : Operator). latest_of operator.holder.window)
    (latest_of_clients 0 gate.clients) gate.operators k.operator k.is_operator)

pub requests_law : (gate : GateRecord) (steps : List Step) → AllByRecursion (λ request. request.moment ≤ latest_in (gate_run gate steps)) (aside_in gate steps)
requests_law gate [] = tt
requests_law gate (Answers client answer ∷ steps) = requests_law (gate_step gate (Answers client answer)) steps
requests_law gate (Takes ∷ steps) = requests_law (gate_step gate Takes) steps
requests_law gate (Drains ∷ steps) = requests_law (gate_step gate Drains) steps
requests_law gate (Comes now address bytes ∷ steps) =
    all_append (λ request. request.moment ≤ latest_in (gate_run (gate_came gate now address bytes) steps)) (listed (requested gate now address bytes))
    (aside_in (gate_came gate now address bytes) steps)
    (from (requested gate now address bytes) refl) (requests_law (gate_came gate now address bytes) steps)
  where
    kept : (request : AsideRecord) → requested gate now address bytes ≡ Some request
        → IsKeptBy (gate_came gate now address bytes).operators request.number request.moment
    kept request is =
        subst (λ (all : List Operator). IsKeptBy all request.number request.moment)
        (ap (λ (o : Option AsideRecord). operators_with o gate.operators) (sym is) ∙ came_operators gate now address bytes)
        (by_now gate now address bytes request is)

    from : (o : Option AsideRecord) → requested gate now address bytes ≡ o
        → AllByRecursion (λ request. request.moment ≤ latest_in (gate_run (gate_came gate now address bytes) steps)) (listed o)
    from None is = tt
    from (Some request) is = (
      by_is_early (gate_run (gate_came gate now address bytes) steps) request.number request.moment
          (by_run (gate_came gate now address bytes) steps request.number request.moment (kept request is)),
      tt,
    )

pub operator_marks_law : (gate : GateRecord) (steps : List Step) (number : ℕ) (operator : Operator) → operator_named number gate.operators ≡ Some operator
    → operator.holder.window.low ≤ latest_in (gate_run gate steps)
operator_marks_law gate steps number operator is =
    by_is_early (gate_run gate steps) number operator.holder.window.low
    (by_run gate steps number operator.holder.window.low (record { operator = operator; is_operator = is; covers = inl (omega arith) }))

-- ---- incarnations that begin at the latest moment

lines_apart : (life : GateLife) (line : AskedRecord) (lives : List GateLife) → line.moment ≤ latest_in (gate_run life.gate life.steps)
    → AllByRecursion (IsMarkedFor life) lives → AllByRecursion (λ other. is_same line other ≡ false) (opened_over lives)
lines_apart life line [] most h = tt
lines_apart life line (later ∷ lives) most h =
    all_append (λ other. is_same line other ≡ false) (opened_in later.gate later.steps) (opened_over lives)
    (never_again_in later.gate later.steps line (λ next e. inl (le_trans most (h.0 line.client next e))))
    (lines_apart life line lives most h.1)

pub marked_law : (lives : List GateLife) → AreGatesMarked lives → IsDistinct is_same (opened_over lives)
unfolding IsDistinct
marked_law [] h = tt
marked_law (life ∷ lives) h =
    distinct_append (opened_in life.gate life.steps) (opened_over lives) (once_law life.gate life.steps) (marked_law lives h.1)
    (all_of (λ line. line.moment ≤ latest_in (gate_run life.gate life.steps)) (λ line. AllByRecursion (λ other. is_same line other ≡ false) (opened_over lives))
    (λ line most. lines_apart life line lives most h.0) (opened_in life.gate life.steps) (lines_law life.gate life.steps))

requests_apart : (life : GateLife) (request : AsideRecord) (lives : List GateLife) → request.moment ≤ latest_in (gate_run life.gate life.steps)
    → AllByRecursion (AreOperatorsMarkedFor life) lives → AllByRecursion (λ other. is_same_request request other ≡ false) (aside_over lives)
requests_apart life request [] most h = tt
requests_apart life request (later ∷ lives) most h =
    all_append (λ other. is_same_request request other ≡ false) (aside_in later.gate later.steps) (aside_over lives)
    (never_again later.gate later.steps request (λ next e. inl (le_trans most (h.0 request.number next e))))
    (requests_apart life request lives most h.1)

pub operators_marked_law : (lives : List GateLife) → AreOperatorsMarked lives → IsDistinct is_same_request (aside_over lives)
unfolding IsDistinct
operators_marked_law [] h = tt
operators_marked_law (life ∷ lives) h =
    distinct_requests (aside_in life.gate life.steps) (aside_over lives) (aside_law life.gate life.steps) (operators_marked_law lives h.1)
    (all_of (λ request. request.moment ≤ latest_in (gate_run life.gate life.steps)) (λ request. AllByRecursion (λ other. is_same_request request other ≡ false) (aside_over lives))
    (λ request most. requests_apart life request lives most h.0) (aside_in life.gate life.steps) (requests_law life.gate life.steps))
