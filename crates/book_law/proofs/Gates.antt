-- A step of a process's machine keeps each gate the gate after the results. The results may have any past.
use Rattle.std.proofs.Common.{◌≡◌, ℕ, ◌-◌, ◌^◌, ◌<◌, ◌≤◌, Bool, true, false, cond, List, [], ◌∷◌, ◌++◌, length, Option, Some, None, refl, sym, ap, ◌∙◌, subst, eqb, ltb}
use Rattle.std.proofs.lemmas.Bool.{cond_both, eqb-true}
use Rattle.otp_core.specs.Gate.{with_failure}
use Rattle.admit_core.specs.Throttle.{AreGated, Accepted, Failed, IsOpenAfter, Result, gate_after}
use Rattle.client_lines.specs.Request.{without_lf}
use Rattle.floor_store.specs.Records.{PassRecord}
use Rattle.vote_core.specs.NodeSet.{PlaceRecord}
use Rattle.vote_core.specs.Rows.{row, row_with_gate}
use Rattle.vote_core.specs.Schedule.{content_with_gate}
use Rattle.vote_core.specs.Voting.{Voted, on_message, pass_in, propose, tick}
use Rattle.oath_node.specs.Grounds.{HasGrounds}
use Rattle.oath_node.specs.Machine.{Beginning, Config, Made, NodeEvent, NodeState, Client, Peer, Tick, Owner, gate_with_failure, is_heard, made_by_datagram, made_by_event, made_by_proposal, made_by_ruling, made_by_vote, made_while_running, next_beginning, quiet_made, ruling_at, standing_at, stopped_node}
use Rattle.oath_node.specs.declared.ruling.Ruling.{Ruling}
use Rattle.oath_node.specs.declared.ruling.Ruling.TheVariants.{Outside, Again, Waiting, Denied, Wrong, Fitting}
use Rattle.cluster_sim.proofs.BelowLaws.{GateLaw, GroundLaw}
use Rattle.cluster_sim.proofs.Gates.{open_by_list}
use Rattle.cluster_sim.proofs.Shape.{push}
use Rattle.cluster_sim.proofs.VoteGates.{GateStep, gate_by, message_gate, propose_gate, put_gate, tick_gate}
use Rattle.cluster_sim.specs.Results.{results_with_failure, results_with_pass}

-- the gates of the tokens of a book are the gates after the given results
abbrev pub GatedAt : ℕ → (ℕ → List Result) → NodeState → Type 0
GatedAt tokens rs x = (t : ℕ) → t < tokens → (row x.content t).gate ≡ gate_after (rs t)

-- the results after a step
abbrev pub results_made : Made → (ℕ → List Result) → ℕ → List Result
results_made o rs t = results_with_failure t o.failed (results_with_pass t o.pass (rs t))

-- what a step leaves of a node with these results before
pub record MadeRight (tokens : ℕ) (rs : ℕ → List Result) (o : Made) : Type 0 where
  pub gates : GatedAt tokens (results_made o rs) o.state
  pub opened : (t : ℕ) → AreGated (rs t) → AreGated (results_made o rs t)

gate_passed : GateLaw → (t : ℕ) (o : Option PassRecord) (rs : List Result) → gate_by o t (gate_after rs) ≡ gate_after (results_with_pass t o rs)
gate_passed law t None rs = refl
gate_passed law t (Some p) rs =
    ap (λ g. cond (eqb p.token t) g (gate_after rs)) (sym (law.accepted rs)) ∙ sym (push gate_after (eqb p.token t) (Accepted ∷ rs) rs)

opened_passed : (t : ℕ) (o : Option PassRecord) (rs : List Result) → AreGated rs → AreGated (results_with_pass t o rs)
opened_passed t None rs h = h
opened_passed t (Some p) rs h = cond_both (eqb p.token t) (Accepted ∷ rs) rs AreGated (λ _. h) (λ _. h)

quiet_right : (tokens : ℕ) (rs : ℕ → List Result) (o : Made) → GatedAt tokens rs o.state → o.failed ≡ None → o.pass ≡ None → MadeRight tokens rs o
quiet_right tokens rs o h f p = record {
  gates = λ t lt. h t lt ∙ ap (λ x. gate_after (results_with_pass t x (rs t))) (sym p) ∙ ap (λ x. gate_after (results_with_failure t x (results_with_pass t o.pass (rs t)))) (sym f);
  opened = λ t g. subst (λ x. AreGated (results_with_failure t x (results_with_pass t o.pass (rs t)))) (sym f) (opened_passed t o.pass (rs t) g);
}

voted_right : GateLaw → (tokens : ℕ) (rs : ℕ → List Result) (x : NodeState) (owners : List Owner) (began : Option Beginning) (s : Voted) → length x.content.rows ≡ tokens
    → GatedAt tokens rs x → GateStep x.content s → MadeRight tokens rs (made_by_vote owners began s x)
voted_right law tokens rs x owners began s sized h k = record {
  gates = λ t lt. k t (subst (λ m. t < m) (sym sized) lt) ∙ ap (λ g. gate_by (pass_in s.decisions) t g) (h t lt) ∙ gate_passed law t (pass_in s.decisions) (rs t);
  opened = λ t g. opened_passed t (pass_in s.decisions) (rs t) g;
}

wrong_gates : GateLaw → (tokens : ℕ) (rs : ℕ → List Result) (x : NodeState) (token moment : ℕ) → length x.content.rows ≡ tokens
    → GatedAt tokens rs x → (t : ℕ) → t < tokens → (row (content_with_gate token (gate_with_failure x.content token moment) x.content) t).gate ≡ gate_after (results_with_failure t (Some (token, moment)) (rs t))
wrong_gates law tokens rs x token moment sized h t lt =
    put_gate x.content token (row_with_gate (gate_with_failure x.content token moment) (row x.content token)) None t (subst (λ m. t < m) (sym sized) lt)
    ∙ choose (eqb token t) (λ q. ap (λ m. with_failure (row x.content m).gate moment) (eqb-true token t q) ∙ ap (λ g. with_failure g moment) (h t lt) ∙ sym (law.failed (rs t) moment)) (λ _. h t lt)
  where
    choose : (b : Bool) → (b ≡ true → gate_with_failure x.content token moment ≡ gate_after (Failed moment ∷ rs t)) → (b ≡ false → (row x.content t).gate ≡ gate_after (rs t))
        → cond b (gate_with_failure x.content token moment) (row x.content t).gate ≡ gate_after (cond b (Failed moment ∷ rs t) (rs t))
    choose true p q = p refl
    choose false p q = q refl

wrong_opened : GateLaw → (tokens : ℕ) (rs : ℕ → List Result) (x : NodeState) (token moment : ℕ) → token < tokens → GatedAt tokens rs x
    → (row x.content token).gate.until - moment ≤ 0 → (t : ℕ) → AreGated (rs t) → AreGated (results_with_failure t (Some (token, moment)) (rs t))
wrong_opened law tokens rs x token moment lt h none t g =
    cond_both (eqb token t) (Failed moment ∷ rs t) (rs t) AreGated
    (λ q. (subst (λ m. IsOpenAfter (rs m) moment) (eqb-true token t q) (open_by_list law (rs token) (row x.content token).gate moment (h token lt) none), g)) (λ _. g)

ruling_right : GateLaw → (config : Config) (rs : ℕ → List Result) (place : PlaceRecord) (x : NodeState) (client moment : ℕ) (text line : List ℕ) → length x.content.rows ≡ length config.book
    → GatedAt (length config.book) rs x → (r : Ruling) → HasGrounds config.book config.limits (standing_at x client moment line) moment text r
    → MadeRight (length config.book) rs (made_by_ruling place client moment line r x)
unfolding made_by_ruling made_by_proposal
ruling_right law config rs place x client moment text line sized h Outside g = quiet_right _ rs _ h refl refl
ruling_right law config rs place x client moment text line sized h (Again kept) g = quiet_right _ rs _ h refl refl
ruling_right law config rs place x client moment text line sized h Waiting g = quiet_right _ rs _ h refl refl
ruling_right law config rs place x client moment text line sized h (Denied nonce reason) g = quiet_right _ rs _ h refl refl
ruling_right law config rs place x client moment text line sized h (Wrong nonce reason token) g = record {
  gates = wrong_gates law (length config.book) rs x token moment sized h;
  opened = wrong_opened law (length config.book) rs x token moment g.within h g.is_open;
}
ruling_right law config rs place x client moment text line sized h (Fitting nonce t span drift) g =
    let s = propose place t span.lo span.hi drift x.content x.voter in
    let owner : Owner = record { seq = x.voter.seq; client = client; line = line; nonce = nonce } in
    cond_both (ltb x.voter.seq (2 ^ 62)) (made_by_vote (x.owners ++ owner ∷ []) (Some (next_beginning place t span.lo span.hi x)) s x) (quiet_made (stopped_node x)) (λ o. MadeRight (length config.book) rs o)
    (λ _. voted_right law (length config.book) rs x (x.owners ++ owner ∷ []) (Some (next_beginning place t span.lo span.hi x)) s sized h (propose_gate place t span.lo span.hi drift x.content x.voter))
    (λ _. quiet_right _ rs (quiet_made (stopped_node x)) h refl refl)

running_right : GroundLaw → GateLaw → (config : Config) (rs : ℕ → List Result) (place : PlaceRecord) (x : NodeState) → length x.content.rows ≡ length config.book → GatedAt (length config.book) rs x
    → (v : NodeEvent) → MadeRight (length config.book) rs (made_while_running config place v x)
unfolding made_while_running made_by_datagram
running_right grounds law config rs place x sized h (Client client moment text) =
    ruling_right law config rs place x client moment text (without_lf text) sized h (ruling_at config x client moment text)
    (grounds config.book config.limits (standing_at x client moment (without_lf text)) moment text)
running_right grounds law config rs place x sized h (Peer from None) = quiet_right _ rs (quiet_made x) h refl refl
running_right grounds law config rs place x sized h (Peer from (Some l)) =
    let s = on_message place from l.message x.content x.voter in
    cond_both (is_heard config place from l) (made_by_vote x.owners None s x) (quiet_made x) (λ o. MadeRight (length config.book) rs o)
    (λ _. voted_right law (length config.book) rs x x.owners None s sized h (message_gate place from l.message x.content x.voter)) (λ _. quiet_right _ rs (quiet_made x) h refl refl)
running_right grounds law config rs place x sized h Tick = voted_right law (length config.book) rs x x.owners None (tick place x.content x.voter) sized h (tick_gate place x.content x.voter)

pub event_right : GroundLaw → GateLaw → (config : Config) (rs : ℕ → List Result) (place : PlaceRecord) (x : NodeState) → length x.content.rows ≡ length config.book → GatedAt (length config.book) rs x
    → (v : NodeEvent) → MadeRight (length config.book) rs (made_by_event config place v x)
unfolding made_by_event
event_right grounds law config rs place x sized h v =
    cond_both x.running (made_while_running config place v x) (quiet_made x) (λ o. MadeRight (length config.book) rs o)
    (λ _. running_right grounds law config rs place x sized h v) (λ _. quiet_right _ rs (quiet_made x) h refl refl)
