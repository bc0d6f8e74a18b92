-- A node of one answers a line as the reference server does.
use Rattle.std.proofs.Common.{◌≡◌, ℕ, ℤ, pos, zero, suc, ◌+◌, ◌-◌, ◌^◌, ◌<◌, ◌≤◌, Bool, true, false, List, [], ◌∷◌, length, get_or, set, map, Some, refl, sym, ap, ◌∙◌, subst, arith}
use Rattle.std.specs.Prelude.{nat_lt}
use Rattle.std.proofs.lemmas.Bool.{cond_both, eq-eqb, lt-ltb}
use Rattle.std.proofs.lemmas.List.{map-set}
use Rattle.std.proofs.Math.ListN.{get_or-map}
use Rattle.otp_core.specs.Gate.{GateRecord, clear_gate, with_failure}
use Rattle.admit_core.specs.Throttle.{Result, Failed, Accepted as Passed, gate_after}
use Rattle.answer_ring.specs.Answers.{KeptAnswer}
use Rattle.floor_store.specs.Content.{Content, accepted_row}
use Rattle.floor_store.specs.Records.{PassRecord, RowRecord, span_of}
use Rattle.vote_core.specs.Rows.{granted_row, no_row, row, row_with_gate}
use Rattle.vote_core.specs.Voting.{Ballot, pass_of, propose, propose_alone}
use Rattle.vote_core.specs.declared.step.Decision.TheVariants.{Accepted as Won}
use Rattle.client_lines.specs.Answer.{answer_bytes}
use Rattle.client_lines.specs.Request.{without_lf}
use Rattle.client_lines.specs.declared.answer.Answer.TheVariants.{Reply as ReplyAnswer}
use Rattle.client_lines.specs.declared.answer.Outcome.TheVariants.{Accepted}
use Rattle.oath_node.specs.Alone.{IsAlone, ServesAlone, alone_place, drifts_in, floors_in, gates_in, gates_of}
use Rattle.oath_node.specs.Grounds.{HasGrounds, IsSameStanding}
use Rattle.oath_node.specs.Machine.{Client, Config, Made, NodeState, Owner, answers_to_decisions, content_with_failure, kept_with_all, gate_with_failure, made_by_event, made_by_proposal, made_by_ruling, made_by_vote, made_while_running, next_beginning, quiet_made, reply_with, ruling_at, standing_at, stopped_node}
use Rattle.oath_node.specs.ReferenceServer.{Line, Server, results_of, ruling_of_line, service_by, service_of, standing_of}
use Rattle.oath_node.specs.declared.ruling.Ruling.{Ruling}
use Rattle.oath_node.specs.declared.ruling.Ruling.TheVariants.{Outside, Again, Waiting, Denied, Wrong, Fitting}
use Rattle.oath_node.proofs.GroundLemmas.{FitLaw, ruling_grounds, ruling_same}

-- what a failure makes of a gate: a law of admit_core
abbrev pub GateLaw : Type 0
GateLaw = (results : List Result) (moment : ℕ) → gate_after (Failed moment ∷ results) ≡ with_failure (gate_after results) moment

-- a node for which nothing waits
abbrev lone : Content → ℕ → ℕ → List KeptAnswer → NodeState
lone c seq turn answers = record { content = c; voter = record { pending = []; seq = seq; turn = turn }; owners = []; answers = answers; running = true }

same_state : (count : ℕ) (x : NodeState) (s : Server) → IsAlone count x s → x ≡ lone x.content x.voter.seq x.voter.turn s.front.answers
same_state count x s h =
    let f : Bool → List Ballot → List Owner → List KeptAnswer → NodeState = λ r p o a.
    record { content = x.content; voter = record { pending = p; seq = x.voter.seq; turn = x.voter.turn }; owners = o; answers = a; running = r } in
    ap (λ r. f r x.voter.pending x.owners x.answers) h.running ∙ ap (λ p. f true p x.owners x.answers) h.pending
    ∙ ap (λ o. f true [] o x.answers) h.owners ∙ ap (λ a. f true [] [] a) h.answers

-- ---- rows

-- a content has the floors and the drifts of a server, and the gates of its results
record IsContentOf (c : Content) (s : Server) : Type 0 where
  floors : floors_in c ≡ s.floors
  gates : gates_in c ≡ gates_of s.front.results
  drifts : drifts_in c ≡ s.front.drifts

set_same : {A : Type 0} (xs : List A) (i : ℕ) (d : A) → set xs i (get_or xs i d) ≡ xs
set_same [] i d = refl
set_same (x ∷ xs) zero d = refl
set_same (x ∷ xs) (suc i) d = ap (λ ys. x ∷ ys) (set_same xs i d)

next_at : (c : Content) (token : ℕ) → get_or (floors_in c) token 0 ≡ (row c token).next
next_at c token = get_or-map (λ (r : RowRecord). r.next) c.rows token no_row

drift_at : (c : Content) (token : ℕ) → get_or (drifts_in c) token (pos 0) ≡ (row c token).drift
drift_at c token = get_or-map (λ (r : RowRecord). r.drift) c.rows token no_row

gate_at : (c : Content) (s : Server) (token : ℕ) → IsContentOf c s → (row c token).gate ≡ gate_after (results_of s token)
gate_at c s token h =
    sym (get_or-map (λ (r : RowRecord). r.gate) c.rows token no_row) ∙ ap (λ gs. get_or gs token clear_gate) h.gates
    ∙ get_or-map gate_after s.front.results token []

wrong_content : GateLaw → (c : Content) (s : Server) (l : Line) (nonce : List ℕ) (token : ℕ) (reason : _) → IsContentOf c s
    → IsContentOf (content_with_failure token l.moment c) (service_by s l (Wrong nonce reason token)).server
wrong_content law c s l nonce token reason h =
    let g : GateRecord = gate_with_failure c token l.moment in
    let r : RowRecord = row_with_gate g (row c token) in
    record {
      floors = map-set (λ (r : RowRecord). r.next) c.rows token r ∙ ap (λ n. set (floors_in c) token n) (sym (next_at c token))
          ∙ set_same (floors_in c) token 0 ∙ h.floors;
      gates = map-set (λ (r : RowRecord). r.gate) c.rows token r
          ∙ ap (λ gs. set gs token g) h.gates
          ∙ ap (λ x. set (gates_of s.front.results) token (with_failure x l.moment)) (gate_at c s token h)
          ∙ ap (λ x. set (gates_of s.front.results) token x) (sym (law (results_of s token) l.moment))
          ∙ sym (map-set gate_after s.front.results token (Failed l.moment ∷ results_of s token));
      drifts = map-set (λ (r : RowRecord). r.drift) c.rows token r ∙ ap (λ d. set (drifts_in c) token d) (sym (drift_at c token))
          ∙ set_same (drifts_in c) token (pos 0) ∙ h.drifts;
    }

fitting_content : (c : Content) (s : Server) (l : Line) (nonce : List ℕ) (seq turn token lo hi : ℕ) (drift : ℤ) → IsContentOf c s
    → IsContentOf (propose_alone alone_place token lo hi drift c (record { pending = []; seq = seq; turn = turn })).content (service_by s l (Fitting nonce token (span_of lo hi) drift)).server
unfolding propose_alone
fitting_content c s l nonce seq turn token lo hi drift h =
    let r : RowRecord = accepted_row drift (granted_row (record { node = 1; boot = c.boot; seq = seq }) lo hi (row c token)) in
    record {
      floors = map-set (λ (r : RowRecord). r.next) c.rows token r ∙ ap (λ fs. set fs token (hi + 1)) h.floors;
      gates = map-set (λ (r : RowRecord). r.gate) c.rows token r ∙ ap (λ gs. set gs token clear_gate) h.gates
          ∙ sym (map-set gate_after s.front.results token (Passed ∷ results_of s token));
      drifts = map-set (λ (r : RowRecord). r.drift) c.rows token r ∙ ap (λ ds. set ds token drift) h.drifts;
    }

-- ---- a line

-- the answer to the one proposal
told_own : (owner : Owner) (pass : PassRecord) → answers_to_decisions (owner ∷ []) ((owner.seq, Won pass) ∷ [])
    ≡ record { client = owner.client; line = owner.line; text = answer_bytes (ReplyAnswer owner.nonce (Accepted pass.hi)) } ∷ []
told_own owner pass = rw (eq-eqb owner.seq owner.seq refl) refl

-- the node that is left runs
abbrev pub RunsOn : Made → Type 0
RunsOn made = made.state.running ≡ true

-- a proposal of a lone node is accepted at once, unless it finds no number
fitting_alone : (count : ℕ) (c : Content) (seq turn : ℕ) (s : Server) (l : Line) (nonce : List ℕ) (token lo hi : ℕ) (drift : ℤ) → IsContentOf c s → seq ≤ count
    → RunsOn (made_by_proposal alone_place l.client (without_lf l.text) nonce token lo hi drift (lone c seq turn s.front.answers))
    → ServesAlone count (made_by_proposal alone_place l.client (without_lf l.text) nonce token lo hi drift (lone c seq turn s.front.answers)) l (service_by s l (Fitting nonce token (span_of lo hi) drift))
unfolding made_by_proposal propose propose_alone
fitting_alone count c seq turn s l nonce token lo hi drift h begun =
    let x = lone c seq turn s.front.answers in
    let owner : Owner = record { seq = seq; client = l.client; line = without_lf l.text; nonce = nonce } in
    let v = propose alone_place token lo hi drift c x.voter in
    let pass = pass_of token lo hi c.boot seq in
    let text = answer_bytes (ReplyAnswer nonce (Accepted hi)) in
    let one : KeptAnswer = record { client = l.client; line = without_lf l.text; text = text } in
    let told : answers_to_decisions (owner ∷ []) v.decisions ≡ one ∷ [] = told_own owner pass in
    let rows = fitting_content c s l nonce seq turn token lo hi drift h in
    cond_both (nat_lt seq (2 ^ 62)) (made_by_vote (owner ∷ []) (Some (next_beginning alone_place token lo hi x)) v x) (quiet_made (stopped_node x))
    (λ o. RunsOn o → ServesAlone count o l (service_by s l (Fitting nonce token (span_of lo hi) drift)))
    (λ _ on. record {
      sends = refl;
      replies = ap (λ ks. map reply_with ks) told;
      pass = refl;
      state = record {
        running = refl;
        pending = refl;
        owners = refl;
        answers = ap (λ ks. kept_with_all s.front.answers ks) told;
        floors = rows.floors;
        gates = rows.gates;
        drifts = rows.drifts;
        begun = omega (arith, begun);
      };
    })
    (λ out on. let stopped : false ≡ true = on in absurd cc)

ruling_alone : GateLaw → (book : _) (limits : _) (count : ℕ) (c : Content) (seq turn : ℕ) (s : Server) (l : Line) → IsContentOf c s → seq ≤ count
    → (r : Ruling) → HasGrounds book limits (standing_of s l) l.moment l.text r
    → RunsOn (made_by_ruling alone_place l.client l.moment (without_lf l.text) r (lone c seq turn s.front.answers))
    → ServesAlone count (made_by_ruling alone_place l.client l.moment (without_lf l.text) r (lone c seq turn s.front.answers)) l (service_by s l r)
unfolding made_by_ruling
ruling_alone law book limits count c seq turn s l h begun Outside g on = record {
  sends = refl;
  replies = refl;
  pass = refl;
  state = record { running = refl; pending = refl; owners = refl; answers = refl; floors = h.floors; gates = h.gates; drifts = h.drifts; begun = omega (arith, begun) };
}
ruling_alone law book limits count c seq turn s l h begun (Again text) g on = record {
  sends = refl;
  replies = refl;
  pass = refl;
  state = record { running = refl; pending = refl; owners = refl; answers = refl; floors = h.floors; gates = h.gates; drifts = h.drifts; begun = omega (arith, begun) };
}
ruling_alone law book limits count c seq turn s l h begun Waiting g on = let never : false ≡ true = g in absurd cc
ruling_alone law book limits count c seq turn s l h begun (Denied nonce reason) g on = record {
  sends = refl;
  replies = refl;
  pass = refl;
  state = record { running = refl; pending = refl; owners = refl; answers = refl; floors = h.floors; gates = h.gates; drifts = h.drifts; begun = omega (arith, begun) };
}
ruling_alone law book limits count c seq turn s l h begun (Wrong nonce reason token) g on =
    let rows = wrong_content law c s l nonce token reason h in
    record {
      sends = refl;
      replies = refl;
      pass = refl;
      state = record { running = refl; pending = refl; owners = refl; answers = refl; floors = rows.floors; gates = rows.gates; drifts = rows.drifts; begun = omega (arith, begun) };
    }
ruling_alone law book limits count c seq turn s l h begun (Fitting nonce token span drift) g on =
    fitting_alone count c seq turn s l nonce token span.lo span.hi drift h begun on

same_standing : (tokens : ℕ) (c : Content) (seq turn : ℕ) (s : Server) (l : Line) → IsContentOf c s
    → IsSameStanding tokens (standing_at (lone c seq turn s.front.answers) l.client l.moment (without_lf l.text)) (standing_of s l)
same_standing tokens c seq turn s l h = record {
  kept = refl;
  waiting = refl;
  full = refl;
  next = λ t _. sym (next_at c t) ∙ ap (λ fs. get_or fs t 0) h.floors;
  drift = λ t _. sym (drift_at c t) ∙ ap (λ ds. get_or ds t (pos 0)) h.drifts;
  wait = λ t _. ap (λ (g : GateRecord). g.until - l.moment) (gate_at c s t h);
}

-- a single node that continues to run answers a line as the server does
pub line_alone : GateLaw → FitLaw → (config : Config) (count : ℕ) (x : NodeState) (s : Server) (l : Line) → IsAlone count x s
    → RunsOn (made_by_event config alone_place (Client l.client l.moment l.text) x)
    → ServesAlone count (made_by_event config alone_place (Client l.client l.moment l.text) x) l (service_of config.book config.limits s l)
unfolding made_by_event made_while_running
line_alone law fits config count x s l h =
    let y = lone x.content x.voter.seq x.voter.turn s.front.answers in
    let rows : IsContentOf x.content s = record { floors = h.floors; gates = h.gates; drifts = h.drifts } in
    let by_server = ruling_of_line config.book config.limits s l in
    let same : ruling_at config y l.client l.moment l.text ≡ by_server =
    ruling_same config.book config.limits (standing_at y l.client l.moment (without_lf l.text)) (standing_of s l) l.moment l.text
    (same_standing (length config.book) x.content x.voter.seq x.voter.turn s l rows) in
    subst (λ z. RunsOn (made_by_event config alone_place (Client l.client l.moment l.text) z) → ServesAlone count (made_by_event config alone_place (Client l.client l.moment l.text) z) l (service_by s l by_server)) (sym (same_state count x s h))
    (subst (λ r. RunsOn (made_by_ruling alone_place l.client l.moment (without_lf l.text) r y) → ServesAlone count (made_by_ruling alone_place l.client l.moment (without_lf l.text) r y) l (service_by s l by_server)) (sym same)
    (ruling_alone law config.book config.limits count x.content x.voter.seq x.voter.turn s l rows h.begun by_server
    (ruling_grounds fits config.book config.limits (standing_of s l) l.moment l.text)))

-- the node continues to run while numbers are left
fitting_runs : (c : Content) (seq turn : ℕ) (answers : List KeptAnswer) (client : ℕ) (line nonce : List ℕ) (token lo hi : ℕ) (drift : ℤ) → seq < 2 ^ 62
    → RunsOn (made_by_proposal alone_place client line nonce token lo hi drift (lone c seq turn answers))
unfolding made_by_proposal
fitting_runs c seq turn answers client line nonce token lo hi drift below = rw (lt-ltb seq (2 ^ 62) below) refl

ruling_runs : (c : Content) (seq turn : ℕ) (answers : List KeptAnswer) (client moment : ℕ) (line : List ℕ) (r : Ruling) → seq < 2 ^ 62
    → RunsOn (made_by_ruling alone_place client moment line r (lone c seq turn answers))
unfolding made_by_ruling
ruling_runs c seq turn answers client moment line Outside below = refl
ruling_runs c seq turn answers client moment line (Again text) below = refl
ruling_runs c seq turn answers client moment line Waiting below = refl
ruling_runs c seq turn answers client moment line (Denied nonce reason) below = refl
ruling_runs c seq turn answers client moment line (Wrong nonce reason token) below = refl
ruling_runs c seq turn answers client moment line (Fitting nonce token span drift) below = fitting_runs c seq turn answers client line nonce token span.lo span.hi drift below

pub line_runs : (config : Config) (count : ℕ) (x : NodeState) (s : Server) (l : Line) → IsAlone count x s → count < 2 ^ 62
    → RunsOn (made_by_event config alone_place (Client l.client l.moment l.text) x)
unfolding made_by_event made_while_running
line_runs config count x s l h below =
    let y = lone x.content x.voter.seq x.voter.turn s.front.answers in
    subst (λ z. RunsOn (made_by_event config alone_place (Client l.client l.moment l.text) z)) (sym (same_state count x s h))
    (ruling_runs x.content x.voter.seq x.voter.turn s.front.answers l.client l.moment (without_lf l.text) (ruling_at config y l.client l.moment l.text) (omega (arith, h.begun, below)))
