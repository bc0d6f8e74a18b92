-- The world after some events, with what is known of it.
use Rattle.std.proofs.Common.{◌≡◌, ℕ, suc, ◌+◌, ◌<◌, List, [], ◌∷◌, ◌++◌, length, map, Some, refl, sym, ap, ◌∙◌, subst, arith, eqb}
use Rattle.std.specs.List.{slice_get}
use Rattle.std.proofs.lemmas.Bool.{cond-true, eq-eqb}
use Rattle.otp_core.specs.Acceptance.{Acceptance}
use Rattle.floor_store.specs.Records.{PassRecord}
use Rattle.vote_core.proofs.Basics.{Each, opening_size}
use Rattle.vote_core.proofs.Envelopes.{Posts, all_deliverable, event_posts}
use Rattle.vote_core.specs.Safety.{IsDeliverable}
use Rattle.vote_core.specs.Schedule.{began_in, envelope_from}
use Rattle.oath_node.specs.Machine.{Config, Made, NodeState}
use Rattle.cluster_sim.proofs.BelowLaws.{GroundLaw}
use Rattle.cluster_sim.proofs.Events.{happens_same}
use Rattle.cluster_sim.proofs.Owners.{get_new}
use Rattle.cluster_sim.proofs.Refinement.{cluster_of, vote_event}
use Rattle.cluster_sim.proofs.Runs.{next_sized, start_sized}
use Rattle.cluster_sim.proofs.Sizes.{Sized}
use Rattle.cluster_sim.specs.Drifts.{drift_before}
use Rattle.cluster_sim.specs.Justified.{AreJustified}
use Rattle.cluster_sim.specs.Results.{results_before}
use Rattle.cluster_sim.specs.World.{MayStart, Start, World, WorldEvent, acceptance_in, begun_in, floor_before, note_of, opening_world, passes_in, passes_of, world_after_event, world_after_events, world_of, world_with_made}
use Rattle.world_law.proofs.Steps.{ground_low}

-- each acceptance of every run is justified
abbrev pub JustifiedLaw : Type 0
JustifiedLaw = (config : Config) (start : Start) (events : List WorldEvent) → MayStart config start → AreJustified config start events (passes_of config start events)

pub run_append : (config : Config) (xs ys : List WorldEvent) (e : ℕ) (w : World) → world_after_events config e (xs ++ ys) w ≡ world_after_events config (length xs + e) ys (world_after_events config e xs w)
unfolding world_after_events
run_append config [] ys e w = let same : e ≡ 0 + e = omega arith in ap (λ n. world_after_events config n ys w) same
run_append config (x ∷ xs) ys e w =
    run_append config xs ys (suc e) (world_after_event config e x w)
    ∙ ap (λ n. world_after_events config n ys (world_after_events config (suc e) xs (world_after_event config e x w))) (omega arith)

-- the world is the one after these events, and its messages and rows are as they should be
pub record Ran (config : Config) (start : Start) (e : ℕ) (w : World) : Type 0 where
  pub events : List WorldEvent
  pub number : length events ≡ e
  pub same : world_of config start events ≡ w
  pub posts : Posts (length config.book) (cluster_of w)
  pub sized : Sized (length config.book) (cluster_of w)

pub ran_start : (config : Config) (start : Start) → MayStart config start → Ran config start 0 (opening_world config start)
unfolding world_after_events
ran_start config start may = record {
  events = [];
  number = refl;
  same = refl;
  posts = record {
    nodes = λ node. record { rows = opening_size (length config.book) (start.opening.floor node); pending = tt };
    sent = all_deliverable start.n (length config.book) start.opening.old (λ i l at. (may i l at).0);
  };
  sized = start_sized config start;
}

pub ran_next : GroundLaw → (config : Config) (start : Start) (e : ℕ) (x : WorldEvent) (w : World) → Ran config start e w → Ran config start (suc e) (world_after_event config e x w)
unfolding world_after_events
ran_next law config start e x w r =
    let number : length (r.events ++ x ∷ []) ≡ suc e = longer r.events x ∙ ap (λ n. suc n) r.number in
    let at : length r.events + 0 ≡ e = (let same = r.number in omega (arith, same)) in
    record {
      events = r.events ++ x ∷ [];
      number = number;
      same = run_append config r.events (x ∷ []) 0 (opening_world config start)
          ∙ ap (λ n. world_after_event config n x (world_of config start r.events)) at
          ∙ ap (world_after_event config e x) r.same;
      posts = subst (Posts (length config.book)) (sym (happens_same law config e x w r.sized)) (event_posts (length config.book) e (vote_event config w x) (cluster_of w) r.posts);
      sized = next_sized law config e x w r.sized;
    }
  where
    longer : (xs : List WorldEvent) (x : WorldEvent) → length (xs ++ x ∷ []) ≡ suc (length xs)
    longer [] x = refl
    longer (y ∷ xs) x = ap (λ n. suc n) (longer xs x)

pub ran_events : GroundLaw → (config : Config) (start : Start) (e : ℕ) (xs : List WorldEvent) (w : World) → Ran config start e w → Ran config start (length xs + e) (world_after_events config e xs w)
unfolding world_after_events
ran_events law config start e [] w r = let same : e ≡ 0 + e = omega arith in subst (λ n. Ran config start n w) same r
ran_events law config start e (x ∷ xs) w r =
    let same : length xs + suc e ≡ suc (length xs) + e = omega arith in
    let next = world_after_event config e x w in
    subst (λ n. Ran config start n (world_after_events config (suc e) xs next)) same (ran_events law config start (suc e) xs next (ran_next law config start e x w r))

-- ---- a step

pub each_behind : {A : Type 0} (P : A → Type 0) (xs ys : List A) → Each P (xs ++ ys) → Each P ys
each_behind P [] ys h = h
each_behind P (x ∷ xs) ys h = each_behind P xs ys h.1

-- a step after which the world has run: its pass is of a token of the users file
pub pass_low : JustifiedLaw → (config : Config) (start : Start) (e e' i : ℕ) (made : Made) (w : World) → MayStart config start → Ran config start e' (world_with_made e i made w) → (p : PassRecord) → made.pass ≡ Some p → p.token < length config.book
unfolding world_with_made
pass_low justified config start e e' i made w may r p is =
    let notes = note_of e i made ∷ w.history in
    let one : Acceptance = record { began = began_in (begun_in notes (record { node = i; boot = p.boot; seq = p.seq })); ended = e; node = i; token = p.token; lo = p.lo; hi = p.hi } in
    let all : passes_of config start r.events ≡ passes_in w.history ++ one ∷ [] =
    ap (λ (z : World). passes_in z.history) r.same ∙ ap (λ o. passes_in w.history ++ acceptance_in (begun_in notes) e i o) is in
    let at : slice_get (passes_of config start r.events) (length (passes_in w.history)) ≡ Some one = ap (λ l. slice_get l (length (passes_in w.history))) all ∙ get_new (passes_in w.history) one [] in
    ground_low config (floor_before config start r.events one.node one.token one.began) (drift_before config start r.events one.node one.token one.began) (results_before config start r.events one.node one.token one.began) one (slice_get r.events one.began)
    (justified config start r.events may (length (passes_in w.history)) one at)

pub sends_deliverable : (config : Config) (start : Start) (e e' i : ℕ) (made : Made) (w : World) → Ran config start e' (world_with_made e i made w) → Each (IsDeliverable w.n (length config.book)) (map (envelope_from i) made.sends)
unfolding world_with_made
sends_deliverable config start e e' i made w r = each_behind (IsDeliverable w.n (length config.book)) w.sent (map (envelope_from i) made.sends) r.posts.sent

-- the content after the step has a row for each token
pub made_size : (config : Config) (start : Start) (e e' i : ℕ) (made : Made) (w : World) → Ran config start e' (world_with_made e i made w) → length made.state.content.rows ≡ length config.book
unfolding world_with_made
made_size config start e e' i made w r = ap (λ (x : NodeState). length x.content.rows) (sym (cond-true (eqb i i) made.state (w.nodes i) (eq-eqb i i refl))) ∙ r.sized i
