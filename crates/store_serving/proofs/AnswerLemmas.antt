-- The last answer of a node that is served by names.
use Rattle.std.proofs.Common.{◌≡◌, ◌<◌, inl, inr, ℕ, Bool, List, Option, arith}
use Rattle.std.specs.Prelude.{◌⊎◌, Result, Ok, Err}
use Rattle.sqlite.specs.Store.{Ghosts}
use Rattle.sqlite.specs.Held as sql
use Rattle.datagram_port.specs.Port.{PortEvent}
use Rattle.floor_sql.specs.Held.{sql_held}
use Rattle.floor_store.specs.Held.{Held}
use Rattle.node_reports.specs.Responder.{ResponderAnswers}
use Rattle.oath_node.specs.Hosted.{Hosted, is_waiting}
use Rattle.oath_node.specs.declared.serve_fault.ServeFault.{ServeFault}
use Rattle.oath_node.specs.declared.turns.Served.{Served}
use Rattle.seated_store.specs.Seated.{seated_held}
use Rattle.oathd_database.specs.Fault.{serve_end}
use Rattle.node_serving.specs.Stretches.{ActsOf, ServesIn, operator_acts}
use Rattle.oathd_database.specs.declared.fault.Fault.{Fault}
use Rattle.node_serving.specs.declared.serving.Serving.{Serving}
use Rattle.node_serving.proofs.StretchLemmas.{some_served}
use Rattle.store_serving.specs.Served.{HasServedNamed}
use Rattle.oathd_roster.specs.declared.cluster.NamedCluster.{NamedCluster}

abbrev done : Served → Result Served Fault
done counts = Ok counts

-- what a responder told is fewer turns than there were
told_less : (turns : ℕ) (waits : Bool) (answers : ℕ → Bool → Bool → Type 0)
    → (turns ≡ 0) ⊎ ((left : ℕ) × (left < turns) × (is_early : Bool) × ResponderAnswers answers left waits is_early)
    → (turns ≡ 0) ⊎ ((told : ℕ) × (told < turns) × (own : Bool) × answers told waits own)
told_less turns waits answers (inl none) = inl none
told_less turns waits answers (inr last) =
    let less = last.1 in
    let responder = last.3 in
    elim responder.told_is [
      | inl same ↦ inr (responder.told, omega (arith, less, same), responder.own, responder.answered)
      | inr drained ↦ let zero = drained.0 in inr (responder.told, omega (arith, less, zero), responder.own, responder.answered)
    ]

last_told : {S : Type 0} (held : S → Held) (acts : ActsOf S) (old new : Hosted S) (first entries : Option (List PortEvent))
    (asked told : Option (List (Option ℕ))) (turns : ℕ) (answers : ℕ → Bool → Bool → Type 0) (counts : Served) (end : Result Served ServeFault)
    → done counts ≡ serve_end end → ServesIn held acts old new first entries asked told turns (ResponderAnswers answers) end
    → (turns ≡ 0) ⊎ ((left : ℕ) × (left < turns) × (own : Bool) × answers left (is_waiting new) own)
last_told held acts old new first entries asked told turns answers counts (Ok served) is h =
    told_less turns (is_waiting new) answers (some_served held acts old new first entries asked told turns (ResponderAnswers answers) served h)
last_told held acts old new first entries asked told turns answers counts (Err fault) is h = absurd cc

-- What is below the responder was asked before the turns were over, unless there were none. It holds what its answer tells.
pub last_answer : {S : Type 0} (g : Ghosts S) (finds : sql.Held S → Type 0) (cluster : NamedCluster) (moment : ℕ) (serving : Serving)
    (answers : ℕ → Bool → Bool → Type 0) (counts : Served) (text : List ℕ)
    (h : HasServedNamed g finds cluster moment serving answers (Ok counts) text)
    → (serving.turns ≡ 0) ⊎ ((left : ℕ) × (left < serving.turns) × (own : Bool) × answers left (is_waiting h.over.last) own)
last_answer g finds cluster moment serving answers counts text h =
    let run = h.over.served_is in
    last_told (seated_held (sql_held g)) (operator_acts (seated_held (sql_held g))) h.over.first h.over.last _ _ _ _ serving.turns answers counts run.end run.ends
    run.serves.serves
