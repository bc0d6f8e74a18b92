-- One node alone answers as the reference server.
use Rattle.std.proofs.Common.{◌≡◌, ℕ, pos, zero, suc, ◌+◌, ◌^◌, ◌<◌, ◌≤◌, ◌&&◌, ⊎_elim, List, [], ◌∷◌, ◌++◌, Bool, true, false, not, cond, length, get_or, map, replicate, Option, Some, None, refl, sym, ap, ◌∙◌, subst, arith, eqb, leb, ltb, true≢false}
use Rattle.std.specs.List.{slice_get}
use Rattle.std.proofs.lemmas.Bool.{and_left, and_right, both_ways, cases_Bool, cond-false, cond_both, eqb-true, eqb-false, and_parts, leb-true, ltb-false, cases_lt}
use Rattle.std.proofs.lemmas.List.{append_assoc, ext_get_or, get_or-replicate, length-map, length-replicate}
use Rattle.std.proofs.lemmas.List.FromFn.{fill_by_all, length-map-range_with_len}
use Rattle.std.proofs.Math.ListN.{get_or-map}
use Rattle.otp_core.specs.Gate.{clear_gate}
use Rattle.answer_ring.specs.Answers.{KeptAnswer}
use Rattle.floor_store.specs.Content.{Content, opening_row}
use Rattle.floor_store.specs.Records.{RowRecord}
use Rattle.otp_core.specs.Acceptance.{majority_of, size}
use Rattle.vote_core.specs.Rows.{no_row}
use Rattle.vote_core.specs.Schedule.{Envelope, envelope_from, is_member, last_boot, opening_rows}
use Rattle.vote_core.specs.Voting.{Ballot, floor_sends, propose, propose_alone, tick, turn_after}
use Rattle.vote_core.proofs.Basics.{opening_floor, opening_size}
use Rattle.oath_node.specs.Alone.{IsAlone, alone_place, gates_of}
use Rattle.oath_node.specs.Machine.{Client, Config, Made, NodeEvent, NodeState, Owner, Peer, Tick, made_by_datagram, made_by_event, made_by_proposal, made_by_ruling, made_while_running, opened_node, quiet_made, restarted_node, ruling_at, stopped_node}
use Rattle.oath_node.specs.ReferenceServer.{Line, Server, restarted_server, service_of}
use Rattle.oath_node.specs.declared.ruling.Ruling.{Ruling}
use Rattle.oath_node.specs.declared.ruling.Ruling.TheVariants.{Again, Denied, Fitting, Outside, Waiting, Wrong}
use Rattle.client_lines.specs.Request.{without_lf}
use Rattle.cluster_sim.specs.SingleNode.{answers_to_act, answers_to_event, front_of, is_end, opening_server, reference_answers, server_after_act, server_after_event, server_after_restart, told_of_line}
use Rattle.cluster_sim.specs.World.{World, Answer, Act, Says, Deliver, Ticks, Noise, WorldEvent, Happens, Cut, Restart, Lost, Anew, acting_node, floor_in, has_store, may_be_anew, node_event_of, world_after_anew, world_after_loss, delivered_event, noise_event, place_at, with_state, told_reply, world_with_made, world_after_turn, world_after_act, node_if_sent, node_of, world_after_restart, with_told_of, world_after_event, world_after_events, opening_world, floor_at, report_of, first_start}
use Rattle.cluster_sim.proofs.Acts.{noise_cases, unheard, unread}
use Rattle.cluster_sim.proofs.BelowLaws.{AloneLaw}
use Rattle.cluster_sim.proofs.Shape.{right_nil}

-- ---- the node

-- nothing is ever pending
abbrev lone : Content → ℕ → ℕ → List KeptAnswer → NodeState
lone c seq turn answers = record { content = c; voter = record { pending = []; seq = seq; turn = turn }; owners = []; answers = answers; running = true }

same_state : (count : ℕ) (x : NodeState) (s : Server) → IsAlone count x s → x ≡ lone x.content x.voter.seq x.voter.turn x.answers
same_state count x s h =
    let f : Bool → List Ballot → List Owner → NodeState = λ r p o.
    record { content = x.content; voter = record { pending = p; seq = x.voter.seq; turn = x.voter.turn }; owners = o; answers = x.answers; running = r } in
    ap (λ r. f r x.voter.pending x.owners) h.running ∙ ap (λ p. f true p x.owners) h.pending ∙ ap (λ o. f true [] o) h.owners

-- it may have begun more, and its turn may be another
turned : (q p : ℕ) (x : NodeState) (turn : ℕ) (s : Server) → q ≤ p → IsAlone q x s → IsAlone p (lone x.content x.voter.seq turn x.answers) s
turned q p x turn s le h =
    record { running = refl; pending = refl; owners = refl; answers = h.answers; floors = h.floors; gates = h.gates; drifts = h.drifts; begun = omega (arith, h.begun, le) }

later : (q p : ℕ) (x : NodeState) (s : Server) → q ≤ p → IsAlone q x s → IsAlone p x s
later q p x s le h =
    record { running = h.running; pending = h.pending; owners = h.owners; answers = h.answers; floors = h.floors; gates = h.gates; drifts = h.drifts; begun = omega (arith, h.begun, le) }

-- a line is answered in the same boot
ruled_boot : (client moment : ℕ) (line : List ℕ) (r : Ruling) (x : NodeState) → (made_by_ruling alone_place client moment line r x).state.content.boot ≡ x.content.boot
unfolding made_by_ruling made_by_proposal propose propose_alone
ruled_boot client moment line Outside x = refl
ruled_boot client moment line (Again text) x = refl
ruled_boot client moment line Waiting x = refl
ruled_boot client moment line (Denied nonce reason) x = refl
ruled_boot client moment line (Wrong nonce reason token) x = refl
ruled_boot client moment line (Fitting nonce token span drift) x =
    cond_both {A = Made} (ltb x.voter.seq (2 ^ 62)) _ (quiet_made (stopped_node x)) (λ o. o.state.content.boot ≡ x.content.boot) (λ _. refl) (λ _. refl)

line_boot : (config : Config) (client moment : ℕ) (text : List ℕ) (x : NodeState) → (made_by_event config alone_place (Client client moment text) x).state.content.boot ≡ x.content.boot
unfolding made_by_event made_while_running
line_boot config client moment text x =
    cond_both x.running (made_by_ruling alone_place client moment (without_lf text) (ruling_at config x client moment text) x) (quiet_made x) (λ o. o.state.content.boot ≡ x.content.boot)
    (λ _. ruled_boot client moment (without_lf text) (ruling_at config x client moment text) x) (λ _. refl)

-- ---- the world

-- the world has a single node, to which nothing was ever sent; the node is a state of the server, with boot `b` at most
pub record Lone (b q : ℕ) (w : World) (s : Server) : Type 0 where
  pub alone : w.n ≡ 1
  pub here : w.lost 1 ≡ false
  pub unsaid : w.sent ≡ []
  pub node : IsAlone q (w.nodes 1) s
  pub boot : (w.nodes 1).content.boot ≤ b

-- what an event leaves and tells
pub record LoneStep (b q : ℕ) (w new : World) (s : Server) (told : List Answer) : Type 0 where
  pub lone : Lone b q new s
  pub tells : new.told ≡ w.told ++ told

lone_weaker : (b q b' q' : ℕ) (w : World) (s : Server) → b ≤ b' → q ≤ q' → Lone b q w s → Lone b' q' w s
lone_weaker b q b' q' w s lb lq h = record { alone = h.alone; here = h.here; unsaid = h.unsaid; node = later q q' (w.nodes 1) s lq h.node; boot = omega (arith, h.boot, lb) }

still : (b q : ℕ) (w : World) (s : Server) → Lone b q w s → LoneStep b (q + 1) w w s []
still b q w s h = record { lone = lone_weaker b q b (q + 1) w s (omega arith) (omega arith) h; tells = sym (right_nil w.told) }

-- no other is a member
no_member : (w : World) (i : ℕ) → w.n ≡ 1 → eqb i 1 ≡ false → is_member w.n i ≡ false
no_member w i alone out = ap (λ n. is_member n i) alone ∙ none (is_member 1 i) refl
  where
    one : is_member 1 i ≡ true → i ≡ 1
    one z = let parts = and_parts (leb 1 i) (leb i 1) z in omega (arith, leb-true 1 i parts.0, leb-true i 1 parts.1)

    none : (b : Bool) → is_member 1 i ≡ b → b ≡ false
    none true q = absurd (eqb-false i 1 out (one q))
    none false q = refl

no_store : (w : World) (i : ℕ) → w.n ≡ 1 → eqb i 1 ≡ false → has_store w i ≡ false
no_store w i alone out = and_right (not (w.lost i)) (is_member w.n i) (no_member w i alone out)

-- an event at the node
member_step : (config : Config) (e : ℕ) (v : NodeEvent) (w : World) (P : World → Type 0) → w.n ≡ 1 → w.lost 1 ≡ false → (x : NodeState) → w.nodes 1 ≡ x → P (world_with_made e 1 (made_by_event config alone_place v x) w) → P (world_after_turn config e 1 (Some v) w)
unfolding world_after_turn
member_step config e v w P alone here x at h =
    cond_both (has_store w 1) (world_with_made e 1 (made_by_event config (place_at w 1) v (w.nodes 1)) w) w P
    (λ _. subst (λ n. P (world_with_made e 1 (made_by_event config (record { me = 1; n = n }) v (w.nodes 1)) w)) (sym alone) (subst (λ y. P (world_with_made e 1 (made_by_event config alone_place v y) w)) (sym at) h))
    (λ out. absurd (apart (ap (λ n. is_member n 1) (sym alone) ∙ ap (λ b. not b && is_member w.n 1) (sym here) ∙ out)))
  where
    apart : is_member 1 1 ≡ false → ⊥
    apart z = cc

-- an event at no node
outside_step : (config : Config) (e i : ℕ) (o : Option NodeEvent) (w : World) (P : World → Type 0) → w.n ≡ 1 → eqb i 1 ≡ false → P w → P (world_after_turn config e i o w)
unfolding world_after_turn
outside_step config e i None w P alone out h = h
outside_step config e i (Some v) w P alone out h =
    cond_both (has_store w i) (world_with_made e i (made_by_event config (place_at w i) v (w.nodes i)) w) w P
    (λ at. absurd (both_ways (has_store w i) (no_store w i alone out) at)) (λ _. h)

-- what the node made of an event, in the world
made_lone : (b q e : ℕ) (o : Made) (w : World) (s : Server) (told : List Answer) → w.n ≡ 1 → w.lost 1 ≡ false → w.sent ≡ [] → IsAlone q o.state s → o.state.content.boot ≤ b → o.sends ≡ [] → map (told_reply e 1) o.replies ≡ told → LoneStep b q w (world_with_made e 1 o w) s told
unfolding world_with_made
made_lone b q e o w s told alone here unsaid node boot sends replies = record {
  lone = record { alone = alone; here = here; unsaid = ap (λ l. w.sent ++ map (envelope_from 1) l) sends ∙ right_nil w.sent ∙ unsaid; node = node; boot = boot };
  tells = ap (λ l. w.told ++ l) replies;
}

both_cond : (b q : ℕ) (w new : World) (d : Bool) (s s' : Server) (t t' : List Answer) → (d ≡ true → LoneStep b q w new s t) → (d ≡ false → LoneStep b q w new s' t') → LoneStep b q w new (cond d s s') (cond d t t')
both_cond b q w new true s s' t t' h k = h refl
both_cond b q w new false s s' t t' h k = k refl

says_lone : AloneLaw → (config : Config) (b q e i client moment : ℕ) (text : List ℕ) (w : World) (s : Server) → q < 2 ^ 62 → Lone b q w s
    → LoneStep b (q + 1) w (world_after_turn config e i (Some (Client client moment text)) w) (server_after_act config (Says i client moment text) s) (answers_to_act config e (Says i client moment text) s)
says_lone law config b q e i client moment text w s few h =
    let line : Line = record { client = client; moment = moment; text = text } in
    let v = Client client moment text in
    let x = w.nodes 1 in
    let made = made_by_event config alone_place v x in
    let t = service_of config.book config.limits s line in
    let told = told_of_line config e s client moment text ∷ [] in
    let a = law.serves config q x s line h.node (law.runs config q x s line h.node few) in
    let boot : made.state.content.boot ≤ b = subst (λ m. m ≤ b) (sym (line_boot config client moment text x)) h.boot in
    both_cond b (q + 1) w (world_after_turn config e i (Some v) w) (eqb i 1) t.server s told []
    (λ at. subst (λ j. LoneStep b (q + 1) w (world_after_turn config e j (Some v) w) t.server told) (sym (eqb-true i 1 at))
    (member_step config e v w (λ z. LoneStep b (q + 1) w z t.server told) h.alone h.here x refl
    (made_lone b (q + 1) e made w t.server told h.alone h.here h.unsaid a.state boot a.sends (ap (λ l. map (told_reply e 1) l) a.replies))))
    (λ out. outside_step config e i (Some v) w (λ z. LoneStep b (q + 1) w z s []) h.alone out (still b q w s h))

-- an output that leaves a single node unchanged, except for its next turn
record IsUnseen (o : Made) (c : Content) (seq : ℕ) (answers : List KeptAnswer) : Type 0 where
  turn : ℕ
  state : o.state ≡ lone c seq turn answers
  sends : o.sends ≡ []
  replies : o.replies ≡ []

-- an event at the node that the server doesn't see
unseen : (config : Config) (b q e i : ℕ) (v : NodeEvent) (w : World) (s : Server) → Lone b q w s
    → ((c : Content) (seq turn : ℕ) (answers : List KeptAnswer) → IsUnseen (made_while_running config alone_place v (lone c seq turn answers)) c seq answers)
    → LoneStep b (q + 1) w (world_after_turn config e i (Some v) w) s []
unfolding made_by_event
unseen config b q e i v w s h same =
    let x = w.nodes 1 in
    let y = lone x.content x.voter.seq x.voter.turn x.answers in
    let m = same x.content x.voter.seq x.voter.turn x.answers in
    let o = made_while_running config alone_place v y in
    let node : IsAlone (q + 1) o.state s = subst (λ z. IsAlone (q + 1) z s) (sym m.state) (turned q (q + 1) x m.turn s (omega arith) h.node) in
    let boot : o.state.content.boot ≤ b = subst (λ (z : NodeState). z.content.boot ≤ b) (sym m.state) h.boot in
    cond_both {A = Bool} (eqb i 1) true false (λ _. LoneStep b (q + 1) w (world_after_turn config e i (Some v) w) s [])
    (λ at. subst (λ j. LoneStep b (q + 1) w (world_after_turn config e j (Some v) w) s []) (sym (eqb-true i 1 at))
    (member_step config e v w (λ z. LoneStep b (q + 1) w z s []) h.alone h.here y (same_state q x s h.node)
    (made_lone b (q + 1) e o w s [] h.alone h.here h.unsaid node boot m.sends (ap (λ l. map (told_reply e 1) l) m.replies))))
    (λ out. outside_step config e i (Some v) w (λ z. LoneStep b (q + 1) w z s []) h.alone out (still b q w s h))

tick_lone : (config : Config) (b q e i : ℕ) (w : World) (s : Server) → Lone b q w s → LoneStep b (q + 1) w (world_after_turn config e i (Some Tick) w) s []
unfolding made_while_running tick
tick_lone config b q e i w s h =
    unseen config b q e i Tick w s h
    (λ c seq turn answers. record { turn = turn_after c turn; state = refl; sends = nothing c turn; replies = refl })
  where
    nothing : (c : Content) (turn : ℕ) → floor_sends alone_place c turn ≡ []
    nothing c turn = cond_both (ltb turn (length c.rows)) _ [] (λ l. l ≡ []) (λ _. refl) (λ _. refl)

noise_lone : (config : Config) (b q e i from : ℕ) (o : Option Envelope) (w : World) (s : Server) → Lone b q w s → LoneStep b (q + 1) w (world_after_turn config e i (noise_event from o) w) s []
unfolding world_after_turn made_while_running
noise_lone config b q e i from o w s h =
    noise_cases (λ z. LoneStep b (q + 1) w (world_after_turn config e i z w) s []) from o (still b q w s h)
    (unseen config b q e i (Peer from None) w s h (λ c seq turn answers. idle c seq turn answers None (unread config alone_place from (lone c seq turn answers))))
    (λ l other. unseen config b q e i (Peer from (Some l)) w s h (λ c seq turn answers. idle c seq turn answers (Some l) (unheard config alone_place from l (lone c seq turn answers) other)))
  where
    idle : (c : Content) (seq turn : ℕ) (answers : List KeptAnswer) (l : Option Envelope) → made_by_datagram config alone_place from l (lone c seq turn answers) ≡ quiet_made (lone c seq turn answers)
        → IsUnseen (made_by_datagram config alone_place from l (lone c seq turn answers)) c seq answers
    idle c seq turn answers l e = subst (λ m. IsUnseen m c seq answers) (sym e) (record { turn = turn; state = refl; sends = refl; replies = refl })

deliver_lone : (config : Config) (b q e i k : ℕ) (w : World) (s : Server) → Lone b q w s → LoneStep b (q + 1) w (world_after_turn config e i (delivered_event (slice_get w.sent k)) w) s []
unfolding world_after_turn
deliver_lone config b q e i k w s h =
    subst (λ l. LoneStep b (q + 1) w (world_after_turn config e i (delivered_event (slice_get l k)) w) s []) (sym h.unsaid) (still b q w s h)

act_lone : AloneLaw → (config : Config) (b q e : ℕ) (a : Act) (w : World) (s : Server) → q < 2 ^ 62 → Lone b q w s
    → LoneStep b (q + 1) w (world_after_act config e a w) (server_after_act config a s) (answers_to_act config e a s)
unfolding world_after_act
act_lone law config b q e (Says i client moment text) w s few h = says_lone law config b q e i client moment text w s few h
act_lone law config b q e (Deliver i k) w s few h = deliver_lone config b q e i k w s h
act_lone law config b q e (Ticks i) w s few h = tick_lone config b q e i w s h
act_lone law config b q e (Noise i from read) w s few h = noise_lone config b q e i from read w s h

-- ---- restarts

-- what a restart leaves, which tells nothing
record Back (b q : ℕ) (w new : World) (s : Server) : Type 0 where
  lone : Lone b q new s
  tells : new.told ≡ w.told

restart_member : (w : World) (P : World → Type 0) → w.n ≡ 1 → w.lost 1 ≡ false → P (record { n = w.n; lost = w.lost; least = w.least; nodes = with_state 1 (restarted_node (w.nodes 1)) w.nodes; sent = w.sent; history = w.history; told = w.told }) → P (world_after_restart (Some 1) w)
unfolding world_after_restart
restart_member w P alone here h =
    cond_both {A = World} (has_store w 1) _ w P (λ _. h) (λ out. absurd (apart (ap (λ n. is_member n 1) (sym alone) ∙ ap (λ b. not b && is_member w.n 1) (sym here) ∙ out)))
  where
    apart : is_member 1 1 ≡ false → ⊥
    apart z = cc

restart_outside : (i : ℕ) (w : World) (P : World → Type 0) → w.n ≡ 1 → eqb i 1 ≡ false → P w → P (world_after_restart (Some i) w)
unfolding world_after_restart
restart_outside i w P alone out h =
    cond_both {A = World} (has_store w i) _ w P (λ at. absurd (both_ways (has_store w i) (no_store w i alone out) at)) (λ _. h)

-- a node that is opened again, in the next boot
record Reopened (b q : ℕ) (x : NodeState) (s : Server) : Type 0 where
  node : IsAlone q x s
  boot : x.content.boot ≤ b

reopened : (b q : ℕ) (x : NodeState) (s : Server) → b < last_boot → IsAlone q x s → x.content.boot ≤ b → Reopened (b + 1) q (restarted_node x) (restarted_server s)
reopened b q x s low h boot =
    cond_both (ltb x.content.boot last_boot) (opened_node x.content) (stopped_node x) (λ y. Reopened (b + 1) q y (restarted_server s))
    (λ _. record {
      node = record { running = refl; pending = refl; owners = refl; answers = refl; floors = h.floors; gates = h.gates; drifts = h.drifts; begun = omega arith };
      boot = omega (arith, boot);
    })
    (λ out. absurd (omega (arith, low, boot, ltb-false x.content.boot last_boot out)))

restart_lone : (b q i : ℕ) (w : World) (s : Server) → b < last_boot → Lone b q w s → Back (b + 1) q w (world_after_restart (Some i) w) (server_after_restart i s)
restart_lone b q i w s low h =
    let again = reopened b q (w.nodes 1) s low h.node h.boot in
    cond_both (eqb i 1) (restarted_server s) s (λ z. Back (b + 1) q w (world_after_restart (Some i) w) z)
    (λ at. subst (λ j. Back (b + 1) q w (world_after_restart (Some j) w) (restarted_server s)) (sym (eqb-true i 1 at))
    (restart_member w (λ z. Back (b + 1) q w z (restarted_server s)) h.alone h.here
    (record { lone = record { alone = h.alone; here = h.here; unsaid = h.unsaid; node = again.node; boot = again.boot }; tells = refl })))
    (λ out. restart_outside i w (λ z. Back (b + 1) q w z s) h.alone out (record { lone = lone_weaker b q (b + 1) q w s (omega arith) (omega arith) h; tells = refl }))

-- a stop inside an act
stop_lone : (b q : ℕ) (a : Act) (w v : World) (s : Server) → b < last_boot → w.sent ≡ [] → Lone b q v s → Back (b + 1) q v (world_after_restart (node_of a w) v) (server_after_restart (front_of a) s)
unfolding world_after_restart
stop_lone b q (Says i client moment text) w v s low unsaid h = restart_lone b q i v s low h
stop_lone b q (Deliver i k) w v s low unsaid h =
    subst (λ l. Back (b + 1) q v (world_after_restart (node_if_sent i (slice_get l k)) v) s) (sym unsaid)
    (record { lone = lone_weaker b q (b + 1) q v s (omega arith) (omega arith) h; tells = refl })
stop_lone b q (Ticks i) w v s low unsaid h = restart_lone b q i v s low h
stop_lone b q (Noise i from read) w v s low unsaid h = restart_lone b q i v s low h

-- ---- the store is lost

-- nothing changes
same_lone : (b q : ℕ) (w new : World) (s : Server) → new ≡ w → Lone b q w s → LoneStep (b + 1) (q + 1) w new s []
same_lone b q w new s same h =
    subst (λ z. LoneStep (b + 1) (q + 1) w z s []) (sym same) (record { lone = lone_weaker b q (b + 1) (q + 1) w s (omega arith) (omega arith) h; tells = sym (right_nil w.told) })

-- no node is lost beside the one
no_loss : (i : ℕ) (w : World) → w.n ≡ 1 → eqb i 1 ≡ false → world_after_loss i w ≡ w
unfolding world_after_loss
no_loss i w alone out = cond-false (has_store w i) _ w (no_store w i alone out)

-- a node that is not lost gets no replacement store
no_anew : (e i boot : ℕ) (floor : ℕ → ℕ) (w : World) → w.n ≡ 1 → w.lost 1 ≡ false → world_after_anew e i boot floor w ≡ w
unfolding world_after_anew
no_anew e i boot floor w alone here =
    cond-false (may_be_anew w i boot floor) _ w (and_left (is_member w.n i && w.lost i) _ (⊎_elim (λ (at : eqb i 1 ≡ true). and_right (is_member w.n i) (w.lost i) (ap w.lost (eqb-true i 1 at) ∙ here))
    (λ (out : eqb i 1 ≡ false). and_left (is_member w.n i) (w.lost i) (no_member w i alone out)) (cases_Bool (eqb i 1))))

-- the one node has lost its store
record Gone (w : World) : Type 0 where
  alone : w.n ≡ 1
  lost : w.lost 1 ≡ true

gone_store : (w : World) (i : ℕ) → Gone w → has_store w i ≡ false
gone_store w i h =
    ⊎_elim (λ (at : eqb i 1 ≡ true). and_left (not (w.lost i)) (is_member w.n i) (ap not (ap w.lost (eqb-true i 1 at) ∙ h.lost)))
    (λ (out : eqb i 1 ≡ false). no_store w i h.alone out) (cases_Bool (eqb i 1))

-- the lost node was a majority, so it gets no replacement store
gone_for_good : (w : World) (i boot : ℕ) (floor : ℕ → ℕ) → Gone w → may_be_anew w i boot floor ≡ false
gone_for_good w i boot floor h =
    and_right (is_member w.n i && w.lost i) _ (and_left (ltb (size w.n w.lost) (majority_of w.n)) _
    (ap (λ n. ltb (size n w.lost) (majority_of n)) h.alone ∙ ap (λ (b : Bool). ltb ((cond b 1 0) + 0) 1) h.lost))

gone_turn : (config : Config) (e i : ℕ) (o : Option NodeEvent) (w : World) → Gone w → world_after_turn config e i o w ≡ w
unfolding world_after_turn
gone_turn config e i None w h = refl
gone_turn config e i (Some v) w h = cond-false (has_store w i) _ w (gone_store w i h)

gone_act : (config : Config) (e : ℕ) (a : Act) (w : World) → Gone w → world_after_act config e a w ≡ w
unfolding world_after_act
gone_act config e a w h = gone_turn config e (acting_node a) (node_event_of w.sent a) w h

gone_restart : (o : Option ℕ) (w : World) → Gone w → world_after_restart o w ≡ w
unfolding world_after_restart
gone_restart None w h = refl
gone_restart (Some i) w h = cond-false (has_store w i) _ w (gone_store w i h)

gone_event : (config : Config) (e : ℕ) (x : WorldEvent) (w : World) → Gone w → world_after_event config e x w ≡ w
unfolding world_after_event world_after_loss world_after_anew
gone_event config e (Happens a) w h = gone_act config e a w h
gone_event config e (Cut true a) w h = ap (λ z. world_after_restart (node_of a w) (with_told_of w z)) (gone_act config e a w h) ∙ gone_restart (node_of a w) w h
gone_event config e (Cut false a) w h = gone_restart (node_of a w) w h
gone_event config e (Restart i) w h = gone_restart (Some i) w h
gone_event config e (Lost i) w h = cond-false (has_store w i) _ w (gone_store w i h)
gone_event config e (Anew i boot floors) w h = cond-false (may_be_anew w i boot (floor_in floors)) _ w (gone_for_good w i boot (floor_in floors) h)

gone_run : (config : Config) (e : ℕ) (xs : List WorldEvent) (w : World) → Gone w → world_after_events config e xs w ≡ w
unfolding world_after_events
gone_run config e [] w h = refl
gone_run config e (x ∷ xs) w h = ap (λ z. world_after_events config (suc e) xs z) (gone_event config e x w h) ∙ gone_run config (suc e) xs w h

-- what the loss leaves
record Ended (w new : World) : Type 0 where
  gone : Gone new
  tells : new.told ≡ w.told

ended : (config : Config) (e : ℕ) (x : WorldEvent) (w : World) → w.n ≡ 1 → w.lost 1 ≡ false → is_end x ≡ true → Ended w (world_after_event config e x w)
unfolding world_after_event world_after_loss
ended config e (Happens a) w alone here h = absurd (true≢false (sym h))
ended config e (Cut kept a) w alone here h = absurd (true≢false (sym h))
ended config e (Restart i) w alone here h = absurd (true≢false (sym h))
ended config e (Lost i) w alone here h =
    subst (λ j. Ended w (world_after_loss j w)) (sym (eqb-true i 1 h))
    (cond_both {A = World} (has_store w 1) _ w (λ z. Ended w z) (λ _. record { gone = record { alone = alone; lost = refl }; tells = refl })
    (λ out. absurd (apart (ap (λ n. is_member n 1) (sym alone) ∙ ap (λ b. not b && is_member w.n 1) (sym here) ∙ out))))
  where
    apart : is_member 1 1 ≡ false → ⊥
    apart z = cc
ended config e (Anew i boot floors) w alone here h = absurd (true≢false (sym h))

-- ---- events and runs

pub happens_lone : AloneLaw → (config : Config) (b q e : ℕ) (x : WorldEvent) (w : World) (s : Server) → b < last_boot → q < 2 ^ 62 → is_end x ≡ false → Lone b q w s
    → LoneStep (b + 1) (q + 1) w (world_after_event config e x w) (server_after_event config x s) (answers_to_event config e x s)
unfolding world_after_event
happens_lone law config b q e (Happens a) w s low few goes h =
    let k = act_lone law config b q e a w s few h in
    record { lone = lone_weaker b (q + 1) (b + 1) (q + 1) (world_after_act config e a w) (server_after_act config a s) (omega arith) (omega arith) k.lone; tells = k.tells }
happens_lone law config b q e (Cut true a) w s low few goes h =
    let k = act_lone law config b q e a w s few h in
    let v = with_told_of w (world_after_act config e a w) in
    let there : Lone b (q + 1) v (server_after_act config a s) = record { alone = k.lone.alone; here = k.lone.here; unsaid = h.unsaid; node = k.lone.node; boot = k.lone.boot } in
    let back = stop_lone b (q + 1) a w v (server_after_act config a s) low h.unsaid there in
    record { lone = back.lone; tells = back.tells ∙ sym (right_nil w.told) }
happens_lone law config b q e (Cut false a) w s low few goes h =
    let back = stop_lone b q a w w s low h.unsaid h in
    record { lone = lone_weaker (b + 1) q (b + 1) (q + 1) (world_after_restart (node_of a w) w) (server_after_restart (front_of a) s) (omega arith) (omega arith) back.lone; tells = back.tells ∙ sym (right_nil w.told) }
happens_lone law config b q e (Restart i) w s low few goes h =
    let back = restart_lone b q i w s low h in
    record { lone = lone_weaker (b + 1) q (b + 1) (q + 1) (world_after_restart (Some i) w) (server_after_restart i s) (omega arith) (omega arith) back.lone; tells = back.tells ∙ sym (right_nil w.told) }
happens_lone law config b q e (Lost i) w s low few goes h = same_lone b q w (world_after_loss i w) s (no_loss i w h.alone goes) h
happens_lone law config b q e (Anew i boot floors) w s low few goes h =
    same_lone b q w (world_after_anew e i boot (floor_in floors) w) s (no_anew e i boot (floor_in floors) w h.alone h.here) h

run_lone : AloneLaw → (config : Config) (xs : List WorldEvent) (b q e : ℕ) (w : World) (s : Server) → b + length xs ≤ last_boot → q + length xs ≤ 2 ^ 62 → Lone b q w s
    → (world_after_events config e xs w).told ≡ w.told ++ reference_answers config e xs s
unfolding world_after_events reference_answers
run_lone law config [] b q e w s low few h = sym (right_nil w.told)
run_lone law config (x ∷ xs) b q e w s low few h =
    let v = world_after_event config e x w in
    let answers = answers_to_event config e x s in
    let rest = reference_answers config (suc e) xs (server_after_event config x s) in
    cond_both (is_end x) [] (answers ++ rest) (λ l. (world_after_events config (suc e) xs v).told ≡ w.told ++ l)
    (λ ends. (let k = ended config e x w h.alone h.here ends in ap (λ (z : World). z.told) (gone_run config (suc e) xs v k.gone) ∙ k.tells ∙ sym (right_nil w.told)))
    (λ goes. (let k = happens_lone law config b q e x w s (omega (arith, low)) (omega (arith, few)) goes h in
    run_lone law config xs (b + 1) (q + 1) (suc e) v (server_after_event config x s) (omega (arith, low)) (omega (arith, few)) k.lone
    ∙ ap (λ l. l ++ rest) k.tells
    ∙ append_assoc w.told answers rest))

-- ---- the start

get_snoc : {A : Type 0} (xs : List A) (y d : A) (t : ℕ) → t < length xs → get_or (xs ++ y ∷ []) t d ≡ get_or xs t d
get_snoc [] y d t h = absurd (omega (arith, h))
get_snoc (x ∷ xs) y d zero h = refl
get_snoc (x ∷ xs) y d (suc t) h = get_snoc xs y d t (omega (arith, h))

get_end : {A : Type 0} (xs : List A) (y d : A) → get_or (xs ++ y ∷ []) (length xs) d ≡ y
get_end [] y d = refl
get_end (x ∷ xs) y d = get_end xs y d

opening_get : (k : ℕ) (floor : ℕ → ℕ) (t : ℕ) → t < k → get_or (opening_rows k floor) t no_row ≡ opening_row (floor t)
opening_get zero floor t h = absurd (omega (arith, h))
opening_get (suc k) floor t h =
    let size = opening_size k floor in
    let early : t < k → get_or (opening_rows (suc k) floor) t no_row ≡ opening_row (floor t) = λ lt.
    get_snoc (opening_rows k floor) (opening_row (floor k)) no_row t (subst (λ m. t < m) (sym size) lt) ∙ opening_get k floor t lt in
    let last : k ≤ t → get_or (opening_rows (suc k) floor) t no_row ≡ opening_row (floor t) = λ le.
    let here : t ≡ k = omega (arith, le, h) in
    ap (λ m. get_or (opening_rows (suc k) floor) m no_row) (here ∙ sym size) ∙ get_end (opening_rows k floor) (opening_row (floor k)) no_row ∙ ap (λ m. opening_row (floor m)) (sym here) in
    ⊎_elim early last (cases_lt t k)

-- each gate is clear, and no clock has drifted
opening_same : {A : Type 0} (f : RowRecord → A) (k : ℕ) (floor : ℕ → ℕ) (x : A) → ((next : ℕ) → f (opening_row next) ≡ x) → map f (opening_rows k floor) ≡ replicate k x
opening_same f k floor x h =
    let rows = opening_rows k floor in
    let size : length (map f rows) ≡ k = length-map rows f ∙ opening_size k floor in
    ext_get_or (f no_row) (map f rows) (replicate k x) (size ∙ sym (length-replicate k x))
    (λ t lt.
    let within : t < k = subst (λ n. t < n) size lt in
    get_or-map f rows t no_row ∙ ap f (opening_get k floor t within) ∙ h (floor t) ∙ sym (get_or-replicate k t x (f no_row) within))

gates_none : (k : ℕ) → gates_of (replicate k []) ≡ replicate k clear_gate
gates_none zero = refl
gates_none (suc k) = ap (λ gates. clear_gate ∷ gates) (gates_none k)

pub start_lone : (config : Config) (floors : List ℕ) → Lone 1 0 (opening_world config (first_start (floors ∷ []))) (opening_server config floors)
start_lone config floors =
    let k = length config.book in
    let floor = floor_at (floors ∷ []) 1 in
    let rows = opening_rows k floor in
    let size = length-map-range_with_len floor 0 k in
    record {
      alone = refl;
      here = refl;
      unsaid = refl;
      node = record {
        running = refl;
        pending = refl;
        owners = refl;
        answers = refl;
        floors = fill_by_all floor (map (λ (r : RowRecord). r.next) rows) k 0 (length-map rows (λ (r : RowRecord). r.next) ∙ opening_size k floor)
            (λ t lt. get_or-map (λ (r : RowRecord). r.next) rows t no_row ∙ opening_floor k floor t lt);
        gates = opening_same (λ (r : RowRecord). r.gate) k floor clear_gate (λ next. refl) ∙ sym (gates_none k) ∙ ap (λ n. gates_of (replicate n [])) (sym size);
        drifts = opening_same (λ (r : RowRecord). r.drift) k floor (pos 0) (λ next. refl) ∙ ap (λ n. replicate n (pos 0)) (sym size);
        begun = omega arith;
      };
      boot = omega arith;
    }

pub single_node : AloneLaw → (config : Config) (floors : List ℕ) (events : List WorldEvent) → 1 + length events < 2 ^ 62
    → (report_of config (first_start (floors ∷ [])) events).answers ≡ reference_answers config 0 events (opening_server config floors)
single_node law config floors events short =
    run_lone law config events 1 0 0 (opening_world config (first_start (floors ∷ []))) (opening_server config floors) (omega (arith, short)) (omega (arith, short)) (start_lone config floors)
