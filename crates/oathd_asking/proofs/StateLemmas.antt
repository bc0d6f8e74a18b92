-- The states of members, in the order of their numbers.
use Rattle.std.proofs.Common.{◌≡◌, ℕ, zero, suc, ◌+◌, ◌<◌, List, [], ◌∷◌, ◌++◌, length, map, get_or, Option, None, Some, refl, sym, ap, subst, ◌∙◌, arith}
use Rattle.std.proofs.lemmas.List.{length-map}
use Rattle.clients_file.specs.declared.clients.OperatorEntry.{OperatorEntry}
use Rattle.operator_text.specs.declared.request.Report.TheVariants as reports
use Rattle.oathd_asking.specs.Report.{page_request}
use Rattle.oathd_asking.specs.Asked.{Asked}
use Rattle.oathd_asking.specs.Sent.{IsReportOn}
use Rattle.oathd_asking.specs.Survey.{AreStates, IsState, state_requests}

-- the request for the state of a member
abbrev pub state_request : OperatorEntry → ℕ → Asked
state_request operator node = record { operator = operator; node = node; text = page_request reports.Status 0 }

module _ (operator : OperatorEntry) where
  -- one request more
  more_requests : (node count : ℕ) → state_requests operator node (suc count)
      ≡ state_requests operator node count ++ state_request operator (node + count) ∷ []
  more_requests node zero = ap (λ n. state_request operator n ∷ []) (omega arith)
  more_requests node (suc count) =
      ap (λ l. state_request operator node ∷ l)
      (more_requests (node + 1) count
      ∙ ap (λ n. state_requests operator (node + 1) count ++ state_request operator n ∷ []) (omega arith))

  pub requests_more : (node count : ℕ) → state_requests operator node (count + 1)
      ≡ state_requests operator node count ++ state_request operator (node + count) ∷ []
  requests_more node count =
      let next : count + 1 ≡ suc count = omega arith in ap (state_requests operator node) next ∙ more_requests node count

  -- the request at a place
  request_at : (node count i : ℕ) (blank : Asked) → i < count → get_or (state_requests operator node count) i blank ≡ state_request operator (node + i)
  request_at node zero i blank within = absurd (omega (arith, within))
  request_at node (suc count) zero blank within = ap (state_request operator) (omega arith)
  request_at node (suc count) (suc i) blank within =
      request_at (node + 1) count i blank (omega (arith, within)) ∙ ap (state_request operator) (omega arith)

  get_map : {X : Type 0} (f : X → Asked) (xs : List X) (i : ℕ) (blank : X) → f (get_or xs i blank) ≡ get_or (map f xs) i (f blank)
  get_map f [] i blank = refl
  get_map f (x ∷ xs) zero blank = refl
  get_map f (x ∷ xs) (suc i) blank = get_map f xs i blank

  -- what an element of requests asks
  pub asked_at : {X : Type 0} (f : X → Asked) (xs : List X) (count i : ℕ) (blank : X) → map f xs ≡ state_requests operator 1 count → i < count
      → f (get_or xs i blank) ≡ state_request operator (1 + i)
  asked_at f xs count i blank is within =
      get_map f xs i blank ∙ ap (λ l. get_or l i (f blank)) is ∙ request_at 1 count i (f blank) within

  -- a page on the request that an element asks
  pub page_for : (asked : Asked) (node : ℕ) (page : List ℕ) → asked ≡ state_request operator node
      → IsReportOn asked.operator asked.node asked.text page → IsReportOn operator node (page_request reports.Status 0) page
  page_for asked node page is on = subst (λ (a : Asked). IsReportOn a.operator a.node a.text page) is on

  -- one state more
  pub states_more : (node : ℕ) (front : List (List ℕ)) (text : List ℕ) → AreStates operator node front → IsState operator (node + length front) text
      → AreStates operator node (front ++ text ∷ [])
  states_more node [] text are state = (subst (λ n. IsState operator n text) (omega arith) state, tt)
  states_more node (first ∷ front) text are state =
      (are.0, states_more (node + 1) front text are.1 (subst (λ n. IsState operator n text) (omega arith) state))

  count_of : (node count : ℕ) → length (state_requests operator node count) ≡ count
  count_of node zero = refl
  count_of node (suc count) = ap suc (count_of (node + 1) count)

  -- so many requests as members
  pub asked_count : {X : Type 0} (f : X → Asked) (xs : List X) (count : ℕ) → map f xs ≡ state_requests operator 1 count → length xs ≡ count
  asked_count f xs count is = sym (length-map xs f) ∙ ap (λ (l : List Asked). length l) is ∙ count_of 1 count

  -- the request of the next member
  pub asks_next : {X : Type 0} (f : X → Asked) (xs : List X) (i number : ℕ) (x : X) → map f xs ≡ state_requests operator 1 (length xs)
      → i < length xs → x ≡ get_or xs i x → number ≡ i → f x ≡ state_request operator (number + 1)
  asks_next f xs i number x is within at same =
      let next : 1 + i ≡ number + 1 = omega (arith, same) in
      ap f at ∙ asked_at f xs (length xs) i x is within ∙ ap (state_request operator) next
