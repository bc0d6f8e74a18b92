-- Rounds among settled members are answered as the one server answers them.
use Rattle.std.proofs.Common.{◌≡◌, ℕ, ℤ, suc, ◌+◌, ◌-◌, ◌*◌, ◌^◌, ◌<◌, ◌≤◌, ⊎_elim, true, false, List, [], ◌∷◌, ◌++◌, length, map, set, Some, None, refl, sym, ap, ◌∙◌, subst, arith, eqb, leb}
use Rattle.std.proofs.lemmas.Bool.{cond_both, cond-true, cond-false, eqb-true, eqb-false, eq-eqb, ne_eqb, cases_eq, both_ways}
use Rattle.std.proofs.lemmas.List.{append-nil, append_assoc}
use Rattle.otp_core.specs.Gate.{GateRecord}
use Rattle.admit_core.specs.Throttle.{Accepted, Failed, Result, wait_after}
use Rattle.answer_ring.specs.Answers.{kept_with}
use Rattle.cluster_sim.proofs.BelowLaws.{GateLaw, GroundLaw, RulingLaw}
use Rattle.cluster_sim.proofs.Gates.{Gated, all_gated, run_gated}
use Rattle.cluster_sim.proofs.Proposals.{Proposing, Rounded, proposal_moved, round_is}
use Rattle.cluster_sim.proofs.Seqs.{run_n, run_seq}
use Rattle.cluster_sim.proofs.Servers.{OthersSame, SameRows, drift_at, drift_is, drifts_put, drifts_same, first_live, floor_is, floors_put, floors_same, front_is, gated_drift, gated_next, result_is, results_put, results_same, server_moved}
use Rattle.cluster_sim.proofs.Sound.{AllSound, no_owners, run_sound}
use Rattle.cluster_sim.proofs.Turns.{sound_of, sweep_levels}
use Rattle.cluster_sim.proofs.Waves.{run_append, says, set_all, set_at, set_off}
use Rattle.cluster_sim.specs.Answered.{ok_bytes}
use Rattle.cluster_sim.specs.FrontEnds.{server_at_front, service_at_front, with_server_at}
use Rattle.cluster_sim.specs.Results.{results_in, results_with_failure, results_with_pass}
use Rattle.cluster_sim.specs.Rounds.{AreAnswersTo, AreAtLive, HaveNumbers, IsAnswerTo, IsSettled, RoundLine, RoundsAreTheReference, RoundsByCount, ServesAsOne, SweepSettles, as_line, first_of, is_live, line_event, next_at, results_at, round_events, rounds_events, server_after_lines, server_of, sweep_events}
use Rattle.cluster_sim.specs.World.{Answer, World, opening_world, place_at, told_reply, world_after_event, world_after_events, world_of, world_with_made}
use Rattle.floor_store.specs.Records.{span_of}
use Rattle.oath_node.specs.Alone.{drifts_in, floors_in}
use Rattle.oath_node.specs.Grounds.{HasGrounds, IsSameStanding}
use Rattle.oath_node.specs.Machine.{Config, Made, NodeState, gate_with_failure, is_owned, made_by_ruling, node_with_answer, node_with_failure, reply_made, ruling_at, standing_at}
use Rattle.oath_node.specs.ReferenceServer.{Service, service_by, standing_of, with_result}
use Rattle.oath_node.specs.declared.ruling.Ruling.{Ruling}
use Rattle.oath_node.specs.declared.ruling.Ruling.TheVariants.{Again, Denied, Fitting, Outside, Waiting, Wrong}
use Rattle.vote_core.proofs.Basics.{put_size}
use Rattle.vote_core.specs.Rows.{row, row_with_gate}
use Rattle.vote_core.specs.Schedule.{envelope_from}
use Rattle.vote_core.specs.Voting.{VoterState}
use Rattle.client_lines.specs.Answer.{answer_bytes}
use Rattle.client_lines.specs.Request.{without_lf}
use Rattle.client_lines.specs.declared.answer.Answer.TheVariants.{BadLine, Reply as ReplyAnswer}
use Rattle.client_lines.specs.declared.answer.Outcome.TheVariants.{Refused}
use Rattle.client_lines.specs.declared.answer.Reason.{Reason}

abbrev tokens_of : Config → ℕ
tokens_of config = length config.book

-- ---- the server judges as the node does

same_standing : GateLaw → (config : Config) (live : List ℕ) (w : World) (l : RoundLine) → AllSound (tokens_of config) w → Gated (tokens_of config) w → IsSettled config live w → is_live live l.node ≡ true
    → IsSameStanding (tokens_of config) (standing_at (w.nodes l.node) l.client l.moment (without_lf l.line)) (standing_of (server_at_front (server_of live w) l.node) (as_line l))
same_standing law config live w l sound gated calm here =
    let i = l.node in
    let x = w.nodes i in
    let none = calm.none i here in
    record {
      kept = refl;
      waiting = ap (λ os. is_owned os l.client (without_lf l.line)) (no_owners (tokens_of config) x (sound i) none);
      full = ap (λ qs. leb 32 (length qs)) none;
      next = λ t lt. calm.level i (first_of live) t here (first_live live i here) lt ∙ sym (floor_is (w.nodes (first_of live)).content t);
      drift = λ t lt. sym (drift_is x.content t);
      wait = λ t lt. ap (λ (g : GateRecord). g.until - l.moment) (gated.gates i t lt) ∙ law.waits (results_in w.history i t) l.moment
          ∙ ap (λ rs. wait_after rs l.moment) (sym (result_is w i t (subst (λ n. t < n) (sym (sound i).kept.size) lt)));
    }

-- what the server does with a ruling
abbrev in_server : List ℕ → World → RoundLine → Ruling → Service
in_server live w l r = service_by (server_at_front (server_of live w) l.node) (as_line l) r

abbrev served_at : Config → List ℕ → World → RoundLine → Service
served_at config live w l = service_at_front config (server_of live w) l.node (as_line l)

served_is : GateLaw → RulingLaw → (config : Config) (live : List ℕ) (w : World) (l : RoundLine) → AllSound (tokens_of config) w → Gated (tokens_of config) w → IsSettled config live w → is_live live l.node ≡ true
    → in_server live w l (ruling_at config (w.nodes l.node) l.client l.moment l.line) ≡ served_at config live w l
served_is law rules config live w l sound gated calm here =
    ap (λ r. in_server live w l r)
    (rules config.book config.limits (standing_at (w.nodes l.node) l.client l.moment (without_lf l.line)) (standing_of (server_at_front (server_of live w) l.node) (as_line l)) l.moment l.line
    (same_standing law config live w l sound gated calm here))

-- ---- a round done

pub record RoundDone (config : Config) (live : List ℕ) (e end : ℕ) (l : RoundLine) (w v : World) (t : Service) : Type 0 where
  pub calm : IsSettled config live v
  pub answer : Answer
  pub told : v.told ≡ w.told ++ answer ∷ []
  pub is : IsAnswerTo e end l t.told.bytes answer
  pub server : server_of live v ≡ with_server_at l.node t.server (server_of live w)
  pub seqs : (j : ℕ) → is_live live j ≡ true → (v.nodes j).voter.seq ≤ (w.nodes j).voter.seq + 1

-- ---- a round in which nothing is proposed

-- the effect of a line on a node that proposes nothing
record Plain (w : World) (l : RoundLine) (o : Made) (bytes : List ℕ) : Type 0 where
  sends : o.sends ≡ []
  pass : o.pass ≡ None
  voter : o.state.voter ≡ (w.nodes l.node).voter
  next : (u : ℕ) → (row o.state.content u).next ≡ next_at w l.node u
  drift : (u : ℕ) → (row o.state.content u).drift ≡ drift_at w l.node u
  rows : length o.state.content.rows ≡ length (w.nodes l.node).content.rows
  running : o.state.running ≡ true
  replies : o.replies ≡ record { client = l.client; bytes = bytes } ∷ []

abbrev after_plain : ℕ → World → RoundLine → Made → World
after_plain e w l o = world_with_made e l.node o w

plain_next : (e : ℕ) (w : World) (l : RoundLine) (o : Made) (bytes : List ℕ) → Plain w l o bytes → (j u : ℕ) → next_at (after_plain e w l o) j u ≡ next_at w j u
unfolding world_with_made
plain_next e w l o bytes h j u = set_all (λ m y. (row y.content u).next ≡ next_at w m u) l.node o.state w.nodes (h.next u) (λ m. refl) j

plain_drift : (e : ℕ) (w : World) (l : RoundLine) (o : Made) (bytes : List ℕ) → Plain w l o bytes → (j u : ℕ) → drift_at (after_plain e w l o) j u ≡ drift_at w j u
unfolding world_with_made
plain_drift e w l o bytes h j u = set_all (λ m y. (row y.content u).drift ≡ drift_at w m u) l.node o.state w.nodes (h.drift u) (λ m. refl) j

plain_rows : (e : ℕ) (w : World) (l : RoundLine) (o : Made) (bytes : List ℕ) → Plain w l o bytes → SameRows w (after_plain e w l o)
unfolding world_with_made
plain_rows e w l o bytes h j = set_all (λ m y. length y.content.rows ≡ length (w.nodes m).content.rows) l.node o.state w.nodes h.rows (λ m. refl) j

plain_others : (e : ℕ) (w : World) (l : RoundLine) (o : Made) → OthersSame l.node w (after_plain e w l o)
unfolding world_with_made
plain_others e w l o = record {
  answers = λ j ne. ap (λ (y : NodeState). y.answers) (set_off l.node j o.state w.nodes ne);
  results = λ j u ne. cond-false (eqb j l.node) (results_with_failure u o.failed (results_with_pass u o.pass (results_in w.history j u))) (results_in w.history j u) (ne_eqb j l.node ne);
  drifts = λ j u ne. ap (λ (y : NodeState). (row y.content u).drift) (set_off l.node j o.state w.nodes ne);
}

plain_own : (e : ℕ) (w : World) (l : RoundLine) (o : Made) (bytes : List ℕ) → Plain w l o bytes → (u : ℕ) → results_in (after_plain e w l o).history l.node u ≡ results_with_failure u o.failed (results_in w.history l.node u)
unfolding world_with_made
plain_own e w l o bytes h u =
    let rs = results_in w.history l.node u in
    cond-true (eqb l.node l.node) (results_with_failure u o.failed (results_with_pass u o.pass rs)) rs (eq-eqb l.node l.node refl) ∙ ap (λ p. results_with_failure u o.failed (results_with_pass u p rs)) h.pass

plain_node : (e : ℕ) (w : World) (l : RoundLine) (o : Made) → (after_plain e w l o).nodes l.node ≡ o.state
unfolding world_with_made
plain_node e w l o = set_at l.node o.state w.nodes

-- one front end changed
plain_moved : (live : List ℕ) (e : ℕ) (w : World) (l : RoundLine) (o : Made) (bytes : List ℕ) (results : List (List Result)) → Plain w l o bytes → results_at (after_plain e w l o) l.node ≡ results
    → server_of live (after_plain e w l o) ≡ with_server_at l.node (record { floors = floors_in (w.nodes (first_of live)).content; front = record { results = results; drifts = drifts_in (w.nodes l.node).content; answers = o.state.answers } }) (server_of live w)
plain_moved live e w l o bytes results h own =
    let i = l.node in
    let v = after_plain e w l o in
    let first = first_of live in
    let rows = plain_rows e w l o bytes h in
    server_moved live i w v (floors_in (w.nodes first).content) (record { results = results; drifts = drifts_in (w.nodes i).content; answers = o.state.answers }) (plain_others e w l o) rows
    (floors_same (w.nodes first).content (v.nodes first).content (rows first) (plain_next e w l o bytes h first))
    (front_is v i results (drifts_in (w.nodes i).content) o.state.answers own (drifts_same (w.nodes i).content (v.nodes i).content (rows i) (plain_drift e w l o bytes h i)) (ap (λ (y : NodeState). y.answers) (plain_node e w l o)))

-- with no failure the results are as they were
plain_results : (e : ℕ) (w : World) (l : RoundLine) (o : Made) (bytes : List ℕ) → Plain w l o bytes → o.failed ≡ None → results_at (after_plain e w l o) l.node ≡ results_at w l.node
plain_results e w l o bytes h none =
    results_same w (after_plain e w l o) l.node (plain_rows e w l o bytes h)
    (λ u. plain_own e w l o bytes h u ∙ ap (λ f. results_with_failure u f (results_in w.history l.node u)) none)

plain_done : (config : Config) (live : List ℕ) (e : ℕ) (w : World) (l : RoundLine) (o : Made) (bytes : List ℕ) (t : Service) → IsSettled config live w → is_live live l.node ≡ true → Plain w l o bytes → t.told.bytes ≡ bytes
    → server_of live (after_plain e w l o) ≡ with_server_at l.node t.server (server_of live w) → RoundDone config live e (suc e) l w (after_plain e w l o) t
unfolding world_with_made
plain_done config live e w l o bytes t calm here h reply server =
    let i = l.node in
    let v = after_plain e w l o in
    let next = plain_next e w l o bytes h in
    record {
      calm = record {
        ascending = calm.ascending;
        majority = calm.majority;
        up = λ m at. ((calm.up m at).0, set_all (λ m y. is_live live m ≡ true → y.running ≡ true) i o.state w.nodes (λ _. h.running) (λ m at. (calm.up m at).1) m at);
        none = λ m at. set_all (λ m y. is_live live m ≡ true → y.voter.pending ≡ []) i o.state w.nodes (λ at. ap (λ (z : VoterState). z.pending) h.voter ∙ calm.none i at) calm.none m at;
        level = λ a b u p q lt. next a u ∙ calm.level a b u p q lt ∙ sym (next b u);
      };
      answer = record { event = e; node = i; client = l.client; bytes = bytes };
      told = ap (λ rs. w.told ++ map (told_reply e i) rs) h.replies;
      is = record { since = omega arith; before = omega arith; node = refl; client = refl; bytes = reply };
      server = server;
      seqs = λ j at. set_all (λ m y. y.voter.seq ≤ (w.nodes m).voter.seq + 1) i o.state w.nodes (one_more (ap (λ (z : VoterState). z.seq) h.voter)) (λ m. omega arith) j;
    }
  where
    one_more : {a b : ℕ} → a ≡ b → a ≤ b + 1
    one_more q = omega (arith, q)

made_sent : (e i : ℕ) (o : Made) (w : World) → o.sends ≡ [] → (world_with_made e i o w).sent ≡ w.sent ++ []
unfolding world_with_made
made_sent e i o w q = ap (λ s. w.sent ++ map (envelope_from i) s) q

-- of a round: what it leaves, and that it hands on what was sent in it
abbrev Done : Config → List ℕ → ℕ → World → RoundLine → Service → Type 0
Done config live e w l t =
    RoundDone config live e (length (round_events config live e w l) + e) l w (world_after_events config e (round_events config live e w l) w) t
    × Rounded live (line_event l) (round_events config live e w l) w (world_after_events config e (round_events config live e w l) w)

-- such a round is the line alone
plain_round : (config : Config) (live : List ℕ) (e : ℕ) (w : World) (l : RoundLine) (o : Made) (t : Service) → world_after_event config e (line_event l) w ≡ after_plain e w l o → o.sends ≡ []
    → RoundDone config live e (suc e) l w (after_plain e w l o) t → Done config live e w l t
unfolding world_after_events
plain_round config live e w l o t is quiet h =
    let v = after_plain e w l o in
    let events : round_events config live e w l ≡ line_event l ∷ [] = round_is config live e w l v [] [] is (made_sent e l.node o w quiet) (sym (append-nil v.sent)) in
    let z : suc e ≡ 1 + e = omega arith in
    let rounded : Rounded live (line_event l) (line_event l ∷ []) w v = record { more = []; sent = made_sent e l.node o w quiet; events = refl } in
    subst (λ xs. RoundDone config live e (length xs + e) l w (world_after_events config e xs w) t × Rounded live (line_event l) xs w (world_after_events config e xs w)) (sym events)
    (subst (λ y. RoundDone config live e (1 + e) l w y t × Rounded live (line_event l) (line_event l ∷ []) w y) (sym is) (subst (λ m. RoundDone config live e m l w v t) z h, rounded))

-- ---- by the ruling

line_made : (config : Config) (live : List ℕ) (e : ℕ) (w : World) (l : RoundLine) (r : Ruling) → IsSettled config live w → is_live live l.node ≡ true → ruling_at config (w.nodes l.node) l.client l.moment l.line ≡ r
    → world_after_event config e (line_event l) w ≡ world_with_made e l.node (made_by_ruling (place_at w l.node) l.client l.moment (without_lf l.line) r (w.nodes l.node)) w
line_made config live e w l r calm here q =
    let i = l.node in
    says config e i l.client l.moment l.line w (calm.up i here).0 (calm.up i here).1
    ∙ ap (λ z. world_with_made e i (made_by_ruling (place_at w i) l.client l.moment (without_lf l.line) z (w.nodes i)) w) q

-- the line is answered at once, and its answer kept
denied_round : (config : Config) (live : List ℕ) (e : ℕ) (w : World) (l : RoundLine) (nonce : List ℕ) (reason : Reason) → IsSettled config live w → is_live live l.node ≡ true
    → ruling_at config (w.nodes l.node) l.client l.moment l.line ≡ Denied nonce reason → Done config live e w l (in_server live w l (Denied nonce reason))
unfolding made_by_ruling
denied_round config live e w l nonce reason calm here q =
    let text = answer_bytes (ReplyAnswer nonce (Refused reason)) in
    let o = reply_made l.client text None (node_with_answer l.client (without_lf l.line) text (w.nodes l.node)) in
    let h : Plain w l o text = record { sends = refl; pass = refl; voter = refl; next = λ u. refl; drift = λ u. refl; rows = refl; running = (calm.up l.node here).1; replies = refl } in
    let t = in_server live w l (Denied nonce reason) in
    plain_round config live e w l o t (line_made config live e w l (Denied nonce reason) calm here q) refl
    (plain_done config live e w l o text t calm here h refl (plain_moved live e w l o text (results_at w l.node) h (plain_results e w l o text h refl)))

-- it is a failure too
wrong_round : (config : Config) (live : List ℕ) (e : ℕ) (w : World) (l : RoundLine) (nonce : List ℕ) (reason : Reason) (token : ℕ) → AllSound (tokens_of config) w → IsSettled config live w → is_live live l.node ≡ true
    → token < tokens_of config → ruling_at config (w.nodes l.node) l.client l.moment l.line ≡ Wrong nonce reason token → Done config live e w l (in_server live w l (Wrong nonce reason token))
unfolding made_by_ruling
wrong_round config live e w l nonce reason token sound calm here known q =
    let x = w.nodes l.node in
    let text = answer_bytes (ReplyAnswer nonce (Refused reason)) in
    let o = reply_made l.client text (Some (token, l.moment)) (node_with_answer l.client (without_lf l.line) text (node_with_failure token l.moment x)) in
    let h : Plain w l o text = record {
      sends = refl;
      pass = refl;
      voter = refl;
      next = gated_next x.content token (gate_with_failure x.content token l.moment);
      drift = gated_drift x.content token (gate_with_failure x.content token l.moment);
      rows = put_size x.content token (row_with_gate (gate_with_failure x.content token l.moment) (row x.content token)) None;
      running = (calm.up l.node here).1;
      replies = refl;
    } in
    let t = in_server live w l (Wrong nonce reason token) in
    plain_round config live e w l o t (line_made config live e w l (Wrong nonce reason token) calm here q) refl
    (plain_done config live e w l o text t calm here h refl
    (plain_moved live e w l o text (with_result (results_at w l.node) token (Failed l.moment)) h
    (results_put w (after_plain e w l o) l.node token (Failed l.moment) (plain_rows e w l o text h) (subst (λ n. token < n) (sym (sound l.node).kept.size) known) (plain_own e w l o text h))))

-- the line proposes, and what it proposes is accepted
fitting_round : (config : Config) (live : List ℕ) (e : ℕ) (w : World) (l : RoundLine) (nonce : List ℕ) (token lo hi : ℕ) (drift : ℤ) → Proposing config live w l nonce token lo hi drift
    → Done config live e w l (in_server live w l (Fitting nonce token (span_of lo hi) drift))
fitting_round config live e w l nonce t lo hi drift h =
    let i = l.node in
    let calm = h.calm in
    let both = proposal_moved config live e w l nonce t lo hi drift h in
    let moved = both.0 in
    let v = world_after_events config e (round_events config live e w l) w in
    let first = first_of live in
    let first_here = first_live live i h.here in
    let rows : SameRows w v = λ j. (run_sound config (tokens_of config) e (round_events config live e w l) w h.sound j).kept.size ∙ sym (h.sound j).kept.size in
    let known : t < length (w.nodes i).content.rows = subst (λ n. t < n) (sym (h.sound i).kept.size) h.known in
    let results = with_result (results_at w i) t Accepted in
    let drifts = set (drifts_in (w.nodes i).content) t drift in
    let kept = kept_with (w.nodes i).answers (record { client = l.client; line = without_lf l.line; text = ok_bytes nonce hi }) in (
      record {
        calm = record {
          ascending = calm.ascending;
          majority = subst (λ m. m < 2 * length live) (sym moved.n) calm.majority;
          up = moved.up;
          none = moved.none;
          level = λ a b u p r lt.
              ⊎_elim (λ (k : u ≡ t). ap (λ m. next_at v a m) k ∙ moved.raised a p ∙ sym (ap (λ m. next_at v b m) k ∙ moved.raised b r))
              (λ (ne : u ≡ t → ⊥). moved.rest a u p ne ∙ calm.level a b u p r lt ∙ sym (moved.rest b u r ne)) (cases_eq u t);
        };
        answer = record { event = moved.event; node = i; client = l.client; bytes = ok_bytes nonce hi };
        told = moved.told;
        is = record { since = moved.since; before = moved.before; node = refl; client = refl; bytes = refl };
        server = server_moved live i w v (set (floors_in (w.nodes first).content) t (hi + 1)) (record { results = results; drifts = drifts; answers = kept }) moved.others rows
            (floors_put (w.nodes first).content (v.nodes first).content t (hi + 1) (rows first)
            (λ u. cond_both (eqb t u) (hi + 1) (next_at w first u) (λ m. next_at v first u ≡ m)
            (λ q. ap (λ m. next_at v first m) (sym (eqb-true t u q)) ∙ moved.raised first first_here) (λ q. moved.rest first u first_here (λ r. eqb-false t u q (sym r)))))
            (front_is v i results drifts kept (results_put w v i t Accepted rows known moved.own) (drifts_put (w.nodes i).content (v.nodes i).content t drift (rows i) moved.own_drift) moved.answers);
        seqs = moved.seqs;
      },
      both.1,
    )

by_ruling : GroundLaw → (config : Config) (live : List ℕ) (e : ℕ) (w : World) (l : RoundLine) → AllSound (tokens_of config) w → IsSettled config live w → is_live live l.node ≡ true → (w.nodes l.node).voter.seq < 2 ^ 62 → (r : Ruling)
    → ruling_at config (w.nodes l.node) l.client l.moment l.line ≡ r → HasGrounds config.book config.limits (standing_at (w.nodes l.node) l.client l.moment (without_lf l.line)) l.moment l.line r
    → Done config live e w l (in_server live w l r)
unfolding made_by_ruling
by_ruling grounds config live e w l sound calm here room Outside q g =
    let bytes = answer_bytes BadLine in
    let o = reply_made l.client bytes None (w.nodes l.node) in
    let h : Plain w l o bytes = record { sends = refl; pass = refl; voter = refl; next = λ u. refl; drift = λ u. refl; rows = refl; running = (calm.up l.node here).1; replies = refl } in
    let t = in_server live w l Outside in
    plain_round config live e w l o t (line_made config live e w l Outside calm here q) refl (plain_done config live e w l o bytes t calm here h refl (plain_moved live e w l o bytes (results_at w l.node) h (plain_results e w l o bytes h refl)))
by_ruling grounds config live e w l sound calm here room (Again text) q g =
    let o = reply_made l.client text None (w.nodes l.node) in
    let h : Plain w l o text = record { sends = refl; pass = refl; voter = refl; next = λ u. refl; drift = λ u. refl; rows = refl; running = (calm.up l.node here).1; replies = refl } in
    let t = in_server live w l (Again text) in
    plain_round config live e w l o t (line_made config live e w l (Again text) calm here q) refl (plain_done config live e w l o text t calm here h refl (plain_moved live e w l o text (results_at w l.node) h (plain_results e w l o text h refl)))
by_ruling grounds config live e w l sound calm here room Waiting q g =
    let idle : is_owned (w.nodes l.node).owners l.client (without_lf l.line) ≡ false = ap (λ os. is_owned os l.client (without_lf l.line)) (no_owners (tokens_of config) (w.nodes l.node) (sound l.node) (calm.none l.node here)) in
    absurd (both_ways (is_owned (w.nodes l.node).owners l.client (without_lf l.line)) idle g)
by_ruling grounds config live e w l sound calm here room (Denied nonce reason) q g = denied_round config live e w l nonce reason calm here q
by_ruling grounds config live e w l sound calm here room (Wrong nonce reason token) q g = wrong_round config live e w l nonce reason token sound calm here g.within q
by_ruling grounds config live e w l sound calm here room (Fitting nonce token span drift) q g =
    fitting_round config live e w l nonce token span.lo span.hi drift (record { sound = sound; calm = calm; here = here; judged = q; known = g.within; free = g.free; span = g.span.ordered; room = room })

-- ---- one round, and all

pub round_done : GroundLaw → GateLaw → RulingLaw → (config : Config) (live : List ℕ) (e : ℕ) (w : World) (l : RoundLine) → AllSound (tokens_of config) w → Gated (tokens_of config) w → IsSettled config live w → is_live live l.node ≡ true
    → (w.nodes l.node).voter.seq < 2 ^ 62 → Done config live e w l (served_at config live w l)
round_done grounds law rules config live e w l sound gated calm here room =
    let x = w.nodes l.node in
    subst (λ t. Done config live e w l t) (served_is law rules config live w l sound gated calm here)
    (by_ruling grounds config live e w l sound calm here room (ruling_at config x l.client l.moment l.line) refl (grounds config.book config.limits (standing_at x l.client l.moment (without_lf l.line)) l.moment l.line))

-- a number more for one line, and enough for the rest
pub room_for_one : (a n : ℕ) → a + suc n ≤ 2 ^ 62 → a < 2 ^ 62
room_for_one a n h = omega (arith, h)

pub room_for_more : (a b n : ℕ) → b ≤ a + 1 → a + suc n ≤ 2 ^ 62 → b + n ≤ 2 ^ 62
room_for_more a b n h k = omega (arith, h, k)

rounds_done : GroundLaw → GateLaw → RulingLaw → (config : Config) (live : List ℕ) (ls : List RoundLine) (e : ℕ) (w : World) → AllSound (tokens_of config) w → Gated (tokens_of config) w → IsSettled config live w → AreAtLive live ls
    → HaveNumbers live w ls → ServesAsOne config live e w (world_after_events config e (rounds_events config live e w ls) w) ls
unfolding world_after_events
rounds_done grounds law rules config live [] e w sound gated calm here last = record { answers = []; told = sym (append-nil w.told); are = refl; settled = calm; server = refl }
rounds_done grounds law rules config live (l ∷ ls) e w sound gated calm here last =
    let xs = round_events config live e w l in
    let w1 = world_after_events config e xs w in
    let one = (round_done grounds law rules config live e w l sound gated calm here.0 (room_for_one (w.nodes l.node).voter.seq (length ls) (last l.node here.0))).0 in
    let rest = rounds_done grounds law rules config live ls (length xs + e) w1 (run_sound config (tokens_of config) e xs w sound) (run_gated grounds law config e xs w (λ i. (sound i).kept.size) gated) one.calm here.1
    (λ i at. room_for_more (w.nodes i).voter.seq (w1.nodes i).voter.seq (length ls) (one.seqs i at) (last i at)) in
    let ys = rounds_events config live (length xs + e) w1 ls in
    subst (λ z. ServesAsOne config live e w z (l ∷ ls)) (sym (run_append config xs ys e w)) (record {
      answers = one.answer ∷ rest.answers;
      told = rest.told ∙ ap (λ a. a ++ rest.answers) one.told ∙ append_assoc w.told (one.answer ∷ []) rest.answers;
      are = (one.is, subst (λ s. AreAnswersTo config live (length xs + e) w1 s ls rest.answers) one.server rest.are);
      settled = rest.settled;
      server = rest.server ∙ ap (λ s. server_after_lines config s ls) one.server;
    })

pub rounds_are_the_reference : GroundLaw → GateLaw → RulingLaw → RoundsAreTheReference
rounds_are_the_reference grounds law rules config start before live lines h =
    rounds_done grounds law rules config live lines (length before) (world_of config start before) (sound_of config start before) (all_gated grounds law config start before) h.settled h.at_live h.numbers

-- a run from the start uses up at most one number for each event
pub rounds_by_count : RoundsByCount
rounds_by_count config start before live lines few =
    λ i _. within ((world_of config start before).nodes i).voter.seq (length before) (length lines) (run_seq config 0 before (opening_world config start) 0 (λ i. omega arith) i) few
  where
    within : (a b n : ℕ) → a ≤ b + 0 → b + n ≤ 2 ^ 62 → a + n ≤ 2 ^ 62
    within a b n h k = omega (arith, h, k)

-- ---- a sweep settles

pub sweep_settles : SweepSettles
sweep_settles config start before live ascending most up =
    let w = world_of config start before in
    let xs = sweep_events config live (length before) w in
    let z : length before + 0 ≡ length before = omega arith in
    let same : world_of config start (before ++ xs) ≡ world_after_events config (length before) xs w = run_append config before xs 0 (opening_world config start) ∙ ap (λ m. world_after_events config m xs w) z in
    let swept = sweep_levels config start before live up in
    subst (λ v. IsSettled config live v) (sym same) (record {
      ascending = ascending;
      majority = subst (λ m. m < 2 * length live) (sym (run_n config (length before) xs w)) most;
      up = swept.0;
      none = λ i at. (swept.1 i at).0.0;
      level = λ i j t p q lt. (swept.1 i p).1 t lt ∙ sym ((swept.1 j q).1 t lt);
    })
