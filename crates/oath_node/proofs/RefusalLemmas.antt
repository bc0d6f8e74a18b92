-- A refused line leaves all but a gate.
use Rattle.std.proofs.Common.{◌≡◌, ◌≢◌, ℕ, zero, suc, List, [], ◌∷◌, get_or, set, refl, ap}
use Rattle.std.proofs.lemmas.Bool.{cond_both}
use Rattle.std.proofs.lemmas.List.{length-set}
use Rattle.otp_core.specs.Gate.{GateRecord, clear_gate}
use Rattle.floor_store.specs.Content.{Content}
use Rattle.floor_store.specs.Records.{RowRecord}
use Rattle.vote_core.specs.NodeSet.{PlaceRecord}
use Rattle.vote_core.specs.Rows.{no_row, row, row_with_gate}
use Rattle.vote_core.specs.Schedule.{content_with_gate}
use Rattle.oath_node.specs.Machine.{Config, Client, Made, NodeState, gate_with_failure, made_by_event, made_by_ruling, made_while_running, quiet_made, ruling_at}
use Rattle.oath_node.specs.Refusals.{KeepsFloors, IsRefusal, SparesToken}
use Rattle.oath_node.specs.declared.ruling.Ruling.{Ruling}
use Rattle.oath_node.specs.declared.ruling.Ruling.TheVariants.{Outside, Again, Waiting, Denied, Wrong, Fitting}
use Rattle.client_lines.specs.Request.{without_lf}

-- what a new element has in common with the old one at its place, the list has
shared : {X Y : Type 0} (f : X → Y) (xs : List X) (i j : ℕ) (v d : X) → f v ≡ f (get_or xs i d) → f (get_or (set xs i v) j d) ≡ f (get_or xs j d)
shared f [] i j v d e = refl
shared f (x ∷ xs) zero zero v d e = e
shared f (x ∷ xs) zero (suc j) v d e = refl
shared f (x ∷ xs) (suc i) zero v d e = refl
shared f (x ∷ xs) (suc i) (suc j) v d e = shared f xs i j v d e

-- elsewhere nothing changes
pub elsewhere : {X : Type 0} (xs : List X) (i j : ℕ) (v d : X) → j ≢ i → get_or (set xs i v) j d ≡ get_or xs j d
elsewhere [] i j v d ne = refl
elsewhere (x ∷ xs) zero zero v d ne = absurd (ne refl)
elsewhere (x ∷ xs) zero (suc j) v d ne = refl
elsewhere (x ∷ xs) (suc i) zero v d ne = refl
elsewhere (x ∷ xs) (suc i) (suc j) v d ne = elsewhere xs i j v d (λ e. ne (ap suc e))

pub gate_alone : (c : Content) (token : ℕ) (gate : GateRecord) → KeepsFloors c (content_with_gate token gate c)
gate_alone c token gate =
    let r = row_with_gate gate (row c token) in record {
      tokens = length-set c.rows token r;
      next = λ t. shared (λ (w : RowRecord). w.next) c.rows token t r no_row refl;
      grant = λ t. shared (λ (w : RowRecord). w.grant) c.rows token t r no_row refl;
      drift = λ t. shared (λ (w : RowRecord). w.drift) c.rows token t r no_row refl;
      boot = refl;
      last = refl;
    }

-- a row with a clear gate is at its place, if the list has the place
pub cleared : (xs : List RowRecord) (i : ℕ) (v : RowRecord) → v.gate ≡ clear_gate → (get_or (set xs i v) i no_row).gate ≡ clear_gate
cleared [] i v e = refl
cleared (x ∷ xs) zero v e = e
cleared (x ∷ xs) (suc i) v e = cleared xs i v e

nothing_changes : (c : Content) → KeepsFloors c c
nothing_changes c = record { tokens = refl; next = λ t. refl; grant = λ t. refl; drift = λ t. refl; boot = refl; last = refl }

ruling_keeps : (place : PlaceRecord) (client moment : ℕ) (line : List ℕ) (r : Ruling) (x : NodeState) → IsRefusal r
    → KeepsFloors x.content (made_by_ruling place client moment line r x).state.content
unfolding made_by_ruling
ruling_keeps place client moment line Outside x h = nothing_changes x.content
ruling_keeps place client moment line (Again text) x h = nothing_changes x.content
ruling_keeps place client moment line Waiting x h = nothing_changes x.content
ruling_keeps place client moment line (Denied nonce reason) x h = nothing_changes x.content
ruling_keeps place client moment line (Wrong nonce reason token) x h = gate_alone x.content token (gate_with_failure x.content token moment)
ruling_keeps place client moment line (Fitting nonce token span drift) x h = absurd h

ruling_gates : (place : PlaceRecord) (client moment : ℕ) (line : List ℕ) (r : Ruling) (token : ℕ) (x : NodeState) → IsRefusal r → SparesToken token r
    → (row (made_by_ruling place client moment line r x).state.content token).gate ≡ (row x.content token).gate
unfolding made_by_ruling
ruling_gates place client moment line Outside token x h n = refl
ruling_gates place client moment line (Again text) token x h n = refl
ruling_gates place client moment line Waiting token x h n = refl
ruling_gates place client moment line (Denied nonce reason) token x h n = refl
ruling_gates place client moment line (Wrong nonce reason failed) token x h n =
    ap (λ (w : RowRecord). w.gate)
    (elsewhere x.content.rows failed token (row_with_gate (gate_with_failure x.content failed moment) (row x.content failed)) no_row n)
ruling_gates place client moment line (Fitting nonce t span drift) token x h n = absurd h

pub refused_keeps : (config : Config) (place : PlaceRecord) (x : NodeState) (client moment : ℕ) (text : List ℕ)
    → IsRefusal (ruling_at config x client moment text)
    → KeepsFloors x.content (made_by_event config place (Client client moment text) x).state.content
unfolding made_by_event made_while_running
refused_keeps config place x client moment text h =
    cond_both x.running (made_while_running config place (Client client moment text) x) (quiet_made x) (λ (m : Made). KeepsFloors x.content m.state.content)
    (λ _. ruling_keeps place client moment (without_lf text) (ruling_at config x client moment text) x h) (λ _. nothing_changes x.content)

pub refused_gates : (config : Config) (place : PlaceRecord) (x : NodeState) (client moment : ℕ) (text : List ℕ) (token : ℕ)
    → IsRefusal (ruling_at config x client moment text) → SparesToken token (ruling_at config x client moment text)
    → (row (made_by_event config place (Client client moment text) x).state.content token).gate ≡ (row x.content token).gate
unfolding made_by_event made_while_running
refused_gates config place x client moment text token h n =
    cond_both x.running (made_while_running config place (Client client moment text) x) (quiet_made x)
    (λ (m : Made). (row m.state.content token).gate ≡ (row x.content token).gate)
    (λ _. ruling_gates place client moment (without_lf text) (ruling_at config x client moment text) token x h n) (λ _. refl)
