-- Each pass is justified by a line.
use Rattle.std.proofs.Common.{◌≡◌, ℕ, ℤ, zero, suc, ◌<◌, true, false, List, [], ◌∷◌, length, take, Option, Some, None, refl, subst}
use Rattle.std.specs.List.{slice_get}
use Rattle.std.proofs.lemmas.Bool.{cond_both}
use Rattle.admit_core.specs.Fit.{IsLeastFit}
use Rattle.otp_core.specs.Acceptance.{Acceptance}
use Rattle.vote_core.specs.Rows.{row}
use Rattle.vote_core.specs.Safety.{IsProposalOf, IsProposedIn}
use Rattle.vote_core.specs.Schedule.{Envelope, Deliver as Passes, Idle, Event}
use Rattle.oath_node.specs.Grounds.{HasGrounds, IsFitting}
use Rattle.client_lines.specs.Request.{without_lf}
use Rattle.oath_node.specs.declared.ruling.Ruling.{Ruling}
use Rattle.oath_node.specs.declared.ruling.Ruling.TheVariants.{Outside, Again, Waiting, Denied, Wrong, Fitting}
use Rattle.oath_node.specs.Machine.{Config, is_heard, standing_at, ruling_at}
use Rattle.cluster_sim.specs.World.{World, Act, Says, Deliver, Ticks, Noise, WorldEvent, Happens, Cut, Restart, Lost, Anew, world_after_event, world_after_events, opening_world, place_at, world_before, passes_of, MayStart, Start}
use Rattle.cluster_sim.proofs.Refinement.{vote_on_ruling, vote_on_datagram, vote_of, vote_event, vote_events}
use Rattle.cluster_sim.specs.Drifts.{drift_before}
use Rattle.cluster_sim.specs.Justified.{IsGround, IsGroundIn, IsGroundOf, AreJustified}
use Rattle.cluster_sim.specs.Results.{results_in}
use Rattle.cluster_sim.proofs.BelowLaws.{GroundLaw, GateLaw, VoteLaw}
use Rattle.cluster_sim.proofs.Drifted.{drifts_before}
use Rattle.cluster_sim.proofs.Runs.{proposed}
use Rattle.cluster_sim.proofs.Gates.{Gated, all_gated, open_by_list}

-- the drifts of the nodes are the given ones
abbrev pub DriftsAre : Config → World → (ℕ → ℕ → ℤ) → Type 0
DriftsAre config w drifts = (i t : ℕ) → t < length config.book → (row (w.nodes i).content t).drift ≡ drifts i t

ground : GateLaw → (config : Config) (w : World) (drifts : ℕ → ℕ → ℤ) (i client moment : ℕ) (text line nonce : List ℕ) (t lo hi : ℕ) (drift : ℤ) → Gated (length config.book) w → DriftsAre config w drifts
    → IsFitting config.book config.limits (standing_at (w.nodes i) client moment line) moment text nonce t lo hi drift
    → IsGround config moment text t (row (w.nodes i).content t).next (drifts i t) (results_in w.history i t) lo hi
ground law config w drifts i client moment text line nonce t lo hi drift gated drifted h = record {
  request = h.request;
  grammar = h.grammar;
  credential = h.credential;
  is_token = h.is_token;
  user = h.user;
  entitled = record {
    in_range = h.in_range;
    password = h.password;
    is_open = open_by_list law (results_in w.history i t) (row (w.nodes i).content t).gate moment (gated.gates i t h.within) h.is_open;
    fit = subst (λ d. IsLeastFit h.credential config.limits (row (w.nodes i).content t).next d moment h.request.submission lo hi) (drifted i t h.within) h.fit;
  };
}

-- what the act is to be the ground of the pass by the world before it
abbrev IsGroundBefore : Config → World → (ℕ → ℕ → ℤ) → Acceptance → Act → Type 0
IsGroundBefore config w drifts p a = IsGroundIn config (row (w.nodes p.node).content p.token).next (drifts p.node p.token) (results_in w.history p.node p.token) p a

line_back : GateLaw → (config : Config) (w : World) (drifts : ℕ → ℕ → ℤ) → Gated (length config.book) w → DriftsAre config w drifts → (p : Acceptance) (i client moment : ℕ) (text line : List ℕ) (r : Ruling)
    → HasGrounds config.book config.limits (standing_at (w.nodes i) client moment line) moment text r → IsProposalOf p (vote_on_ruling i (w.nodes i) moment r)
    → IsGroundBefore config w drifts p (Says i client moment text)
line_back law config w drifts gated drifted p i client moment text line Outside g h = absurd h
line_back law config w drifts gated drifted p i client moment text line (Again kept) g h = absurd h
line_back law config w drifts gated drifted p i client moment text line Waiting g h = absurd h
line_back law config w drifts gated drifted p i client moment text line (Denied nonce reason) g h = absurd h
line_back law config w drifts gated drifted p i client moment text line (Wrong nonce reason t) g h = absurd h
line_back law config w drifts gated drifted p i client moment text line (Fitting nonce t span drift) g h = (
  h.0,
  subst (λ m. IsGround config moment text p.token (row (w.nodes p.node).content p.token).next (drifts p.node p.token) (results_in w.history p.node p.token) p.lo m) h.3
      (subst (λ m. IsGround config moment text p.token (row (w.nodes p.node).content p.token).next (drifts p.node p.token) (results_in w.history p.node p.token) m span.hi) h.2
      (subst (λ m. IsGround config moment text m (row (w.nodes p.node).content m).next (drifts p.node m) (results_in w.history p.node m) span.lo span.hi) h.1
      (subst (λ m. IsGround config moment text t (row (w.nodes m).content t).next (drifts m t) (results_in w.history m t) span.lo span.hi) h.0 (ground law config w drifts i client moment text line nonce t span.lo span.hi drift gated drifted g)))),
)

letter_back : (config : Config) (w : World) (p : Acceptance) (i k : ℕ) (o : Option Envelope) → IsProposalOf p (vote_on_datagram config w i k o) → ⊥
letter_back config w p i k None h = h
letter_back config w p i k (Some l) h = cond_both (is_heard config (place_at w i) l.sender l) (Passes k) (Idle i) (λ a. IsProposalOf p a → ⊥) (λ _ z. z) (λ _ z. z) h

act_back : GroundLaw → GateLaw → (config : Config) (w : World) (drifts : ℕ → ℕ → ℤ) → Gated (length config.book) w → DriftsAre config w drifts → (p : Acceptance) (a : Act) → IsProposalOf p (vote_of config w a) → IsGroundBefore config w drifts p a
act_back grounds law config w drifts gated drifted p (Says i client moment text) h =
    line_back law config w drifts gated drifted p i client moment text (without_lf text) (ruling_at config (w.nodes i) client moment text)
    (grounds config.book config.limits (standing_at (w.nodes i) client moment (without_lf text)) moment text) h
act_back grounds law config w drifts gated drifted p (Deliver i k) h = letter_back config w p i k (slice_get w.sent k) h
act_back grounds law config w drifts gated drifted p (Ticks i) h = h
act_back grounds law config w drifts gated drifted p (Noise i from read) h = h

-- the voting event of the event at a place, if there is one
abbrev pub voted_at : Config → World → Option WorldEvent → Option Event
voted_at config w None = None
voted_at config w (Some x) = Some (vote_event config w x)

pub event_back : GroundLaw → GateLaw → (config : Config) (w : World) (drifts : ℕ → ℕ → ℤ) → Gated (length config.book) w → DriftsAre config w drifts → (p : Acceptance) (o : Option WorldEvent) → IsProposedIn p (voted_at config w o)
    → IsGroundOf config (row (w.nodes p.node).content p.token).next (drifts p.node p.token) (results_in w.history p.node p.token) p o
event_back grounds law config w drifts gated drifted p None h = h
event_back grounds law config w drifts gated drifted p (Some (Happens a)) h = act_back grounds law config w drifts gated drifted p a h
event_back grounds law config w drifts gated drifted p (Some (Cut true a)) h = act_back grounds law config w drifts gated drifted p a h
event_back grounds law config w drifts gated drifted p (Some (Cut false a)) h = h
event_back grounds law config w drifts gated drifted p (Some (Restart i)) h = h
event_back grounds law config w drifts gated drifted p (Some (Lost i)) h = h
event_back grounds law config w drifts gated drifted p (Some (Anew i boot floors)) h = h

vote_found : (config : Config) (k e : ℕ) (xs : List WorldEvent) (w : World) → slice_get (vote_events config e xs w) k ≡ voted_at config (world_after_events config e (take k xs) w) (slice_get xs k)
unfolding world_after_events
vote_found config zero e [] w = refl
vote_found config zero e (x ∷ xs) w = refl
vote_found config (suc k) e [] w = refl
vote_found config (suc k) e (x ∷ xs) w = vote_found config k (suc e) xs (world_after_event config e x w)

pub justified : GroundLaw → GateLaw → VoteLaw → (config : Config) (start : Start) (events : List WorldEvent) → MayStart config start → AreJustified config start events (passes_of config start events)
justified grounds law votes config start events may k p at =
    event_back grounds law config (world_before config start events p.began) (λ i t. drift_before config start events i t p.began) (all_gated grounds law config start (take p.began events)) (drifts_before grounds config start events p.began) p (slice_get events p.began)
    (subst (λ o. IsProposedIn p o) (vote_found config p.began 0 events (opening_world config start)) (proposed grounds votes config start events may k p at))
