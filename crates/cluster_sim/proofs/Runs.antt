-- A run is the run of its voting events, so the law of votes holds of it.
use Rattle.std.proofs.Common.{◌≡◌, ℕ, zero, suc, List, [], ◌∷◌, length, take, refl, sym, ap, ◌∙◌, subst}
use mathlib.Core.Path.{fun_ext}
use Rattle.otp_core.specs.Acceptance.{HaveSingleUse, KeepRealTimeOrder}
use Rattle.vote_core.specs.Rows.{row}
use Rattle.vote_core.specs.Safety.{AreProposed, HaveMajority}
use Rattle.vote_core.specs.Schedule.{Cluster, Event, run as vote_run, start as vote_start, floor_before as vote_floor, acceptances}
use Rattle.vote_core.proofs.Basics.{opening_size}
use Rattle.oath_node.specs.Machine.{Config}
use Rattle.cluster_sim.specs.World.{World, WorldEvent, world_after_event, world_after_events, opening_world, floor_before, passes_of, MayStart, Start}
use Rattle.cluster_sim.proofs.Refinement.{cluster_of, vote_event, vote_events}
use Rattle.cluster_sim.proofs.BelowLaws.{GroundLaw, VoteLaw}
use Rattle.cluster_sim.proofs.Sizes.{Sized, happens_sized}
use Rattle.cluster_sim.proofs.Events.{happens_same}

-- the sizes after an event
pub next_sized : GroundLaw → (config : Config) (e : ℕ) (x : WorldEvent) (w : World) → Sized (length config.book) (cluster_of w) → Sized (length config.book) (cluster_of (world_after_event config e x w))
next_sized law config e x w sized =
    subst (λ v. Sized (length config.book) v) (sym (happens_same law config e x w sized)) (happens_sized (length config.book) e (vote_event config w x) (cluster_of w) sized)

run_same : GroundLaw → (config : Config) (e : ℕ) (xs : List WorldEvent) (w : World) → Sized (length config.book) (cluster_of w) → cluster_of (world_after_events config e xs w) ≡ vote_run e (vote_events config e xs w) (cluster_of w)
unfolding world_after_events vote_run
run_same law config e [] w sized = refl
run_same law config e (x ∷ xs) w sized =
    run_same law config (suc e) xs (world_after_event config e x w) (next_sized law config e x w sized)
    ∙ ap (λ v. vote_run (suc e) (vote_events config (suc e) xs (world_after_event config e x w)) v) (happens_same law config e x w sized)

votes_taken : (config : Config) (k e : ℕ) (xs : List WorldEvent) (w : World) → vote_events config e (take k xs) w ≡ take k (vote_events config e xs w)
votes_taken config zero e [] w = refl
votes_taken config zero e (x ∷ xs) w = refl
votes_taken config (suc k) e [] w = refl
votes_taken config (suc k) e (x ∷ xs) w = ap (λ l. vote_event config w x ∷ l) (votes_taken config k (suc e) xs (world_after_event config e x w))

-- the voting events of a run from the start
abbrev pub votes_of : Config → Start → List WorldEvent → List Event
votes_of config start events = vote_events config 0 events (opening_world config start)

pub start_sized : (config : Config) (start : Start) → Sized (length config.book) (cluster_of (opening_world config start))
start_sized config start i = opening_size (length config.book) (start.opening.floor i)

pub runs_same : GroundLaw → (config : Config) (start : Start) (events : List WorldEvent)
    → cluster_of (world_after_events config 0 events (opening_world config start)) ≡ vote_run 0 (votes_of config start events) (vote_start start.n (length config.book) start.opening)
runs_same law config start events = run_same law config 0 events (opening_world config start) (start_sized config start)

pub passes_same : GroundLaw → (config : Config) (start : Start) (events : List WorldEvent) → acceptances start.n (length config.book) start.opening (votes_of config start events) ≡ passes_of config start events
passes_same law config start events = ap (λ (v : Cluster). v.accepted) (sym (runs_same law config start events))

pub floors_same : GroundLaw → (config : Config) (start : Start) (events : List WorldEvent) → vote_floor start.n (length config.book) start.opening (votes_of config start events) ≡ floor_before config start events
floors_same law config start events =
    fun_ext (λ i. fun_ext (λ t. fun_ext (λ e.
    ap (λ l. (row ((vote_run 0 l (vote_start start.n (length config.book) start.opening)).nodes i).content t).next) (sym (votes_taken config e 0 events (opening_world config start)))
    ∙ ap (λ (v : Cluster). (row (v.nodes i).content t).next) (sym (runs_same law config start (take e events))))))

-- ---- the law of votes, carried over

pub single_use : GroundLaw → VoteLaw → (config : Config) (start : Start) (events : List WorldEvent) → MayStart config start → HaveSingleUse (passes_of config start events)
single_use law votes config start events may =
    subst HaveSingleUse (passes_same law config start events) (votes.single_use start.n (length config.book) start.opening (votes_of config start events) may)

pub in_order : GroundLaw → VoteLaw → (config : Config) (start : Start) (events : List WorldEvent) → MayStart config start → KeepRealTimeOrder (passes_of config start events)
in_order law votes config start events may =
    subst KeepRealTimeOrder (passes_same law config start events) (votes.in_order start.n (length config.book) start.opening (votes_of config start events) may)

pub majority : GroundLaw → VoteLaw → (config : Config) (start : Start) (events : List WorldEvent) → MayStart config start → HaveMajority start.n (floor_before config start events) (passes_of config start events)
majority law votes config start events may =
    subst (λ ps. HaveMajority start.n (floor_before config start events) ps) (passes_same law config start events)
    (subst (λ f. HaveMajority start.n f (acceptances start.n (length config.book) start.opening (votes_of config start events))) (floors_same law config start events)
    (votes.majority start.n (length config.book) start.opening (votes_of config start events) may))

pub proposed : GroundLaw → VoteLaw → (config : Config) (start : Start) (events : List WorldEvent) → MayStart config start → AreProposed (votes_of config start events) (passes_of config start events)
proposed law votes config start events may =
    subst (λ ps. AreProposed (votes_of config start events) ps) (passes_same law config start events) (votes.proposed start.n (length config.book) start.opening (votes_of config start events) may)
