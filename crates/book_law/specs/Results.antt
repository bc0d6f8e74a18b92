-- The results of each token at each node, from the steps whose changes its store kept. All lists have the newest first.
-- The processes may have any numbers for the token, and any books and limits.
use Rattle.std.specs.Prelude.{◌≡◌, ℕ, suc, ◌==◌, true, ◌&&◌, if◌then◌else◌, List, [], ◌∷◌, length, Option, Some, None}
use Rattle.admit_core.specs.Throttle.{Accepted, Result}
use Rattle.vote_core.specs.Books.{is_number, number_of}
use Rattle.oath_node.specs.Machine.{Made, NodeState}
use Rattle.cluster_sim.specs.Results.{results_with_failure, results_with_pass}
use Rattle.seat_law.specs.Seats.{seat_name}
use Rattle.book_law.specs.Lives.{Action, Takes, StopsIn, Remakes, Unlocks, OpensGate, Process, Setting, State, Store, Terms, Down, Up, can_be, first_state, has_row, made_by_input, node_of_action, number_to_unlock, state_after_action}

-- the results of a token after a step, by the number that the process has for it; without a number they stay
abbrev pub results_of_number : Option ℕ → Made → List Result → List Result
results_of_number None made results = results
results_of_number (Some number) made results =
    results_with_failure number made.failed (results_with_pass number made.pass results)

-- the results of each token at a node after a step of its process
abbrev pub results_of_step : Terms → Made → (ℕ → List Result) → ℕ → List Result
results_of_step terms made results token =
    results_of_number (number_of (length terms.seats) (seat_name terms.seats) token) made (results token)

-- The results after a token was unlocked in the store. Like an acceptance, an unlocking ends the count of failures.
abbrev pub results_unlocked : ℕ → Store → (ℕ → List Result) → ℕ → List Result
results_unlocked unlocked store results token =
    if has_row store unlocked && (token == unlocked) then Accepted ∷ results token else results token

-- The results after an operator had a process clear the gate of a token. It ends the count of failures in the same way.
abbrev pub results_opened : Terms → NodeState → ℕ → (ℕ → List Result) → ℕ → List Result
results_opened terms state opened results token =
    if is_number (number_to_unlock terms opened state) && (token == opened)
    then Accepted ∷ results token
    else results token

-- the results of each token at the node of the action; a replacement store has none
abbrev pub results_by : Setting → Action → Process → (ℕ → List Result) → ℕ → List Result
results_by setting (Takes node input) (Up terms below state waiting) results =
    results_of_step terms (made_by_input setting terms node input state) results
results_by setting (StopsIn node true input) (Up terms below state waiting) results =
    results_of_step terms (made_by_input setting terms node input state) results
results_by setting (Remakes node boot given floor) process results = λ token. []
results_by setting (Unlocks node token) (Down store) results = results_unlocked token store results
results_by setting (OpensGate node token) (Up terms below state waiting) results =
    results_opened terms state token results
results_by setting action process results = results

-- the results by node, with others at one node
abbrev pub with_results : ℕ → (ℕ → List Result) → (ℕ → ℕ → List Result) → ℕ → ℕ → List Result
with_results changed new results node = if node == changed then new else results node

-- the results after the action
unfoldable pub results_after_action : Setting → Action → State → (ℕ → ℕ → List Result) → ℕ → ℕ → List Result
results_after_action setting action state results =
    let node = node_of_action action in
    if can_be setting state action
    then with_results node (results_by setting action (state.processes node) (results node)) results
    else results

-- the results after the actions, the first of which has the given number
unfoldable pub results_after : Setting → ℕ → List Action → State → (ℕ → ℕ → List Result) → ℕ → ℕ → List Result
results_after setting first [] state results = results
results_after setting first (action ∷ actions) state results =
    results_after setting (suc first) actions (state_after_action setting first action state)
    (results_after_action setting action state results)

-- the results of a token at a node in a history, since the latest replacement of the node's store
abbrev pub results_in : Setting → List Action → ℕ → ℕ → List Result
results_in setting history = results_after setting 0 history (first_state setting) (λ node token. [])

-- the action does not unlock the token at the node
abbrev pub LeavesGate : ℕ → ℕ → Action → Type 0
LeavesGate node token (Unlocks at unlocked) = node ≡ at → unlocked ≡ token → ⊥
LeavesGate node token (OpensGate at unlocked) = node ≡ at → unlocked ≡ token → ⊥
LeavesGate node token action = Unit {0}

-- none of the actions does
abbrev pub LeaveGate : ℕ → ℕ → List Action → Type 0
LeaveGate node token [] = Unit {0}
LeaveGate node token (action ∷ actions) = LeavesGate node token action × LeaveGate node token actions
