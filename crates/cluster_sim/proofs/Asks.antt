-- The Asks of a round: each live member except the sender grants.
use Rattle.std.proofs.Common.{◌≡◌, ℕ, suc, ◌+◌, ◌<◌, ◌≤◌, ⊎_elim, true, false, cond, ◌&&◌, List, [], ◌∷◌, ◌++◌, length, map, Option, Some, None, refl, sym, ap, ◌∙◌, subst, arith, eqb, leb}
use Rattle.std.specs.List.{filter, slice_get}
use Rattle.std.proofs.lemmas.Bool.{cond_both, cond-true, cond-false, ne_eqb, le-leb, and_from, and_parts, and_right, both_ways, cases_Bool}
use Rattle.std.proofs.lemmas.List.{append-nil, append_assoc}
use Rattle.cluster_sim.proofs.Servers.{drift_at}
use Rattle.cluster_sim.proofs.Sound.{AllSound, IsUnder, Lies, happens_sound, lies_row}
use Rattle.cluster_sim.proofs.VoteDrifts.{same_drift}
use Rattle.cluster_sim.proofs.Waves.{Stands, hands, is_heard_at, is_in, set_all, set_at, set_off, stands_more}
use Rattle.cluster_sim.specs.Results.{results_in, results_with_failure, results_with_pass}
use Rattle.cluster_sim.specs.Rounds.{AreUp, deliveries, is_between, is_live, next_at}
use Rattle.cluster_sim.specs.World.{Deliver, Happens, World, told_reply, world_after_event, world_after_events, world_with_made}
use Rattle.floor_store.specs.Content.{Content, with_row}
use Rattle.floor_store.specs.Records.{PassRecord, ProposalRecord, RowRecord, span_of, SpanRecord}
use Rattle.oath_node.specs.Machine.{Config, Made, NodeState, made_by_vote}
use Rattle.otp_core.specs.Acceptance.{size}
use Rattle.vote_core.proofs.Basics.{Each, each_weaker, row_cases, row_here}
use Rattle.vote_core.specs.Rows.{granted_row, row}
use Rattle.vote_core.specs.Schedule.{Envelope, envelope_from}
use Rattle.vote_core.specs.Voting.{VoterState, is_grant, on_ask, on_message, reply_step, same_proposal, to_each}
use Rattle.vote_core.specs.declared.message.Message.TheVariants.{Ask, Deny, Grant}

-- ---- lists

pub each_both : {A : Type 0} (P Q : A → Type 0) (xs : List A) → Each P xs → Each Q xs → Each (λ x. P x × Q x) xs
each_both P Q [] h k = tt
each_both P Q (x ∷ xs) h k = ((h.0, k.0), each_both P Q xs h.1 k.1)

-- no node stands twice
abbrev pub Differs : ℕ → ℕ → Type 0
Differs g h = h ≡ g → ⊥

abbrev pub Distinct : List ℕ → Type 0
Distinct [] = Unit {0}
Distinct (g ∷ gs) = Each (Differs g) gs × Distinct gs

-- ---- no reply, kept answer, result or drift is new

pub record Silent (live : List ℕ) (w v : World) : Type 0 where
  pub n : v.n ≡ w.n
  pub up : AreUp live v
  pub told : v.told ≡ w.told
  pub answers : (j : ℕ) → (v.nodes j).answers ≡ (w.nodes j).answers
  pub results : (j u : ℕ) → results_in v.history j u ≡ results_in w.history j u
  pub drifts : (j u : ℕ) → drift_at v j u ≡ drift_at w j u

pub silent_none : (live : List ℕ) (w : World) → AreUp live w → Silent live w w
silent_none live w up = record { n = refl; up = up; told = refl; answers = λ j. refl; results = λ j u. refl; drifts = λ j u. refl }

pub silent_then : (live : List ℕ) (w v z : World) → Silent live w v → Silent live v z → Silent live w z
silent_then live w v z h k = record { n = k.n ∙ h.n; up = k.up; told = k.told ∙ h.told; answers = λ j. k.answers j ∙ h.answers j; results = λ j u. k.results j u ∙ h.results j u; drifts = λ j u. k.drifts j u ∙ h.drifts j u }

pub made_silent : (live : List ℕ) (e i : ℕ) (o : Made) (w : World) → AreUp live w → o.state.running ≡ true → o.state.answers ≡ (w.nodes i).answers → o.replies ≡ [] → o.pass ≡ None → o.failed ≡ None
    → ((u : ℕ) → (row o.state.content u).drift ≡ drift_at w i u) → Silent live w (world_with_made e i o w)
unfolding world_with_made
made_silent live e i o w up running answers replies pass failed drifts = record {
  n = refl;
  up = λ m at. ((up m at).0, set_all (λ m y. is_live live m ≡ true → y.running ≡ true) i o.state w.nodes (λ _. running) (λ m at. (up m at).1) m at);
  told = ap (λ rs. w.told ++ map (told_reply e i) rs) replies ∙ append-nil w.told;
  answers = λ j. set_all (λ m y. y.answers ≡ (w.nodes m).answers) i o.state w.nodes answers (λ m. refl) j;
  results = λ j u.
      let rs = results_in w.history j u in
      cond_both (eqb j i) (results_with_failure u o.failed (results_with_pass u o.pass rs)) rs (λ l. l ≡ rs)
      (λ _. ap (λ f. results_with_failure u f (results_with_pass u o.pass rs)) failed ∙ ap (λ p. results_with_pass u p rs) pass) (λ _. refl);
  drifts = λ j u. set_all (λ m y. (row y.content u).drift ≡ drift_at w m u) i o.state w.nodes (drifts u) (λ m. refl) j;
}

-- ---- one Ask

not_granted : (p : ProposalRecord) (lo hi next : ℕ) (o : Option (ProposalRecord × SpanRecord)) → IsUnder next o → next ≤ lo → lo ≤ hi → is_grant p lo hi o ≡ false
not_granted p lo hi next None h low le = refl
not_granted p lo hi next (Some g) h low le =
    and_right (same_proposal g.0 p) (eqb g.1.lo lo && eqb g.1.hi hi) (and_right (eqb g.1.lo lo) (eqb g.1.hi hi) (ne_eqb g.1.hi hi (λ q. absurd (omega (arith, q, h, low, le)))))

asked : (from : ℕ) (p : ProposalRecord) (t lo hi : ℕ) (c : Content) (v : VoterState) → Each Lies c.rows → (row c t).next ≤ lo → lo ≤ hi
    → on_ask from p t lo hi c v ≡ reply_step from (Grant p t (span_of lo hi)) (with_row c t (granted_row p lo hi (row c t)) None) v
unfolding on_ask
asked from p t lo hi c v h low le =
    let grants = reply_step from (Grant p t (span_of lo hi)) (with_row c t (granted_row p lo hi (row c t)) None) v in
    let denies = reply_step from (Deny p t (row c t).next) c v in
    cond-false (is_grant p lo hi (row c t).grant) (reply_step from (Grant p t (span_of lo hi)) c v) (cond (leb (row c t).next lo) grants denies) (not_granted p lo hi (row c t).next (row c t).grant (lies_row c t h) low le)
    ∙ cond-true (leb (row c t).next lo) grants denies (le-leb (row c t).next lo low)

pub row_off : (c : Content) (t : ℕ) (r : RowRecord) (p : Option PassRecord) (u : ℕ) → (u ≡ t → ⊥) → row (with_row c t r p) u ≡ row c u
row_off c t r p u ne = ⊎_elim (λ (e : row (with_row c t r p) u ≡ row c u). e) (λ (z : (u ≡ t) × (row (with_row c t r p) u ≡ r)). absurd (ne z.0)) (row_cases c t r p u)

abbrev pub grant_to : ℕ → ProposalRecord → ℕ → ℕ → ℕ → ℕ → Envelope
grant_to i p t lo hi g = record { sender = g; receiver = i; message = Grant p t (span_of lo hi) }

record Answered (live : List ℕ) (i : ℕ) (p : ProposalRecord) (t lo hi g : ℕ) (w v : World) : Type 0 where
  silent : Silent live w v
  voters : (j : ℕ) → (v.nodes j).voter ≡ (w.nodes j).voter
  off : (j : ℕ) → (j ≡ g → ⊥) → v.nodes j ≡ w.nodes j
  rest : (j u : ℕ) → (u ≡ t → ⊥) → next_at v j u ≡ next_at w j u
  raised : next_at v g t ≡ hi + 1
  sent : v.sent ≡ w.sent ++ grant_to i p t lo hi g ∷ []

ask_made : (live : List ℕ) (tokens e i : ℕ) (p : ProposalRecord) (t lo hi g : ℕ) (w : World) → AreUp live w → is_live live g ≡ true → length (w.nodes g).content.rows ≡ tokens → t < tokens
    → Answered live i p t lo hi g w (world_with_made e g (made_by_vote (w.nodes g).owners None (reply_step i (Grant p t (span_of lo hi)) (with_row (w.nodes g).content t (granted_row p lo hi (row (w.nodes g).content t)) None) (w.nodes g).voter) (w.nodes g)) w)
unfolding world_with_made
ask_made live tokens e i p t lo hi g w up here size known =
    let x = w.nodes g in
    let r = granted_row p lo hi (row x.content t) in
    let o = made_by_vote x.owners None (reply_step i (Grant p t (span_of lo hi)) (with_row x.content t r None) x.voter) x in
    record {
      silent = made_silent live e g o w up (up g here).1 refl refl refl refl (λ u. same_drift x.content t r None u refl);
      voters = λ j. set_all (λ m y. y.voter ≡ (w.nodes m).voter) g o.state w.nodes refl (λ m. refl) j;
      off = λ j ne. set_off g j o.state w.nodes ne;
      rest = λ j u ne. set_all (λ m y. (row y.content u).next ≡ next_at w m u) g o.state w.nodes (ap (λ (z : RowRecord). z.next) (row_off x.content t r None u ne)) (λ m. refl) j;
      raised = ap (λ (y : NodeState). (row y.content t).next) (set_at g o.state w.nodes) ∙ ap (λ (z : RowRecord). z.next) (row_here x.content t r None (subst (λ m. t < m) (sym size) known));
      sent = refl;
    }

ask_delivered : (config : Config) (live : List ℕ) (i : ℕ) (p : ProposalRecord) (t lo hi g k e : ℕ) (w : World) → slice_get w.sent k ≡ Some (record { sender = i; receiver = g; message = Ask p t (span_of lo hi) })
    → AllSound (length config.book) w → AreUp live w → is_live live i ≡ true → is_live live g ≡ true → (g ≡ i → ⊥) → t < length config.book → lo ≤ hi → next_at w g t ≤ lo
    → Answered live i p t lo hi g w (world_after_event config e (Happens (Deliver g k)) w)
unfolding on_message
ask_delivered config live i p t lo hi g k e w at sound up asks here other known le low =
    let l : Envelope = record { sender = i; receiver = g; message = Ask p t (span_of lo hi) } in
    let x = w.nodes g in
    let hears = is_heard_at config w l (λ q. other (sym q)) (is_in w i (up i asks).0) known in
    let same = hands config e k l w at (up g here).0 (up g here).1 hears ∙ ap (λ s. world_with_made e g (made_by_vote x.owners None s x) w) (asked i p t lo hi x.content x.voter (sound g).kept.lies low le) in
    subst (λ v. Answered live i p t lo hi g w v) (sym same) (ask_made live (length config.book) e i p t lo hi g w up here (sound g).kept.size known)

-- ---- all Asks

abbrev pub ask_letters : ℕ → ProposalRecord → ℕ → ℕ → ℕ → List ℕ → List Envelope
ask_letters i p t lo hi gs = map (envelope_from i) (to_each (Ask p t (span_of lo hi)) gs)

pub record AllAnswered (live : List ℕ) (i : ℕ) (p : ProposalRecord) (t lo hi : ℕ) (gs : List ℕ) (w v : World) : Type 0 where
  pub silent : Silent live w v
  pub voters : (j : ℕ) → (v.nodes j).voter ≡ (w.nodes j).voter
  pub off : (j : ℕ) → Each (Differs j) gs → v.nodes j ≡ w.nodes j
  pub rest : (j u : ℕ) → (u ≡ t → ⊥) → next_at v j u ≡ next_at w j u
  pub raised : Each (λ g. is_live live g ≡ true → next_at v g t ≡ hi + 1) gs
  pub sent : v.sent ≡ w.sent ++ map (grant_to i p t lo hi) (filter (is_live live) gs)

pub ask_wave : (config : Config) (live : List ℕ) (i : ℕ) (p : ProposalRecord) (t lo hi : ℕ) (gs : List ℕ) (k e : ℕ) (w : World) → Stands k (ask_letters i p t lo hi gs) w.sent
    → AllSound (length config.book) w → AreUp live w → is_live live i ≡ true → t < length config.book → lo ≤ hi
    → Distinct gs → Each (Differs i) gs → Each (λ g. is_live live g ≡ true → next_at w g t ≤ lo) gs
    → AllAnswered live i p t lo hi gs w (world_after_events config e (deliveries (is_between live) k (ask_letters i p t lo hi gs)) w)
unfolding world_after_events
ask_wave config live i p t lo hi [] k e w at sound up asks known le distinct other low =
    record { silent = silent_none live w up; voters = λ j. refl; off = λ j _. refl; rest = λ j u _. refl; raised = tt; sent = sym (append-nil w.sent) }
ask_wave config live i p t lo hi (g ∷ gs) k e w at sound up asks known le distinct other low =
    let rest = deliveries (is_between live) (suc k) (ask_letters i p t lo hi gs) in
    let hs = filter (is_live live) gs in
    let giving = grant_to i p t lo hi in
    cond_both (is_live live i && is_live live g) (Happens (Deliver g k) ∷ rest) rest (λ xs. AllAnswered live i p t lo hi (g ∷ gs) w (world_after_events config e xs w))
    (λ q.
    let here : is_live live g ≡ true = (and_parts (is_live live i) (is_live live g) q).1 in
    let v = world_after_event config e (Happens (Deliver g k)) w in
    let one = ask_delivered config live i p t lo hi g k e w at.0 sound up asks here other.0 known le (low.0 here) in
    let later = each_weaker (λ h. Differs g h × (is_live live h ≡ true → next_at w h t ≤ lo)) (λ h. is_live live h ≡ true → next_at v h t ≤ lo)
    (λ h z there. subst (λ (y : NodeState). (row y.content t).next ≤ lo) (sym (one.off h z.0)) (z.1 there)) gs (each_both (Differs g) (λ h. is_live live h ≡ true → next_at w h t ≤ lo) gs distinct.0 low.1) in
    let more = ask_wave config live i p t lo hi gs (suc k) (suc e) v (subst (λ s. Stands (suc k) (ask_letters i p t lo hi gs) s) (sym one.sent) (stands_more (suc k) (ask_letters i p t lo hi gs) w.sent (giving g ∷ []) at.1))
    (happens_sound config (length config.book) e (Happens (Deliver g k)) w sound) one.silent.up asks known le distinct.1 other.1 later in
    let z = world_after_events config (suc e) rest v in
    record {
      silent = silent_then live w v z one.silent more.silent;
      voters = λ j. more.voters j ∙ one.voters j;
      off = λ j h. more.off j h.1 ∙ one.off j (λ r. h.0 (sym r));
      rest = λ j u ne. more.rest j u ne ∙ one.rest j u ne;
      raised = (λ _. ap (λ (y : NodeState). (row y.content t).next) (more.off g distinct.0) ∙ one.raised, more.raised);
      sent = more.sent ∙ ap (λ s. s ++ map giving hs) one.sent ∙ append_assoc w.sent (giving g ∷ []) (map giving hs)
          ∙ ap (λ l. w.sent ++ map giving l) (sym (cond-true (is_live live g) (g ∷ hs) hs here));
    })
    (λ q.
    let away : is_live live g ≡ false = ⊎_elim (λ (z : is_live live g ≡ true). absurd (both_ways (is_live live i && is_live live g) q (and_from (is_live live i) (is_live live g) asks z))) (λ (z : is_live live g ≡ false). z) (cases_Bool (is_live live g)) in
    let more = ask_wave config live i p t lo hi gs (suc k) e w at.1 sound up asks known le distinct.1 other.1 low.1 in
    record {
      silent = more.silent;
      voters = more.voters;
      off = λ j h. more.off j h.1;
      rest = more.rest;
      raised = (λ here. absurd (both_ways (is_live live g) away here), more.raised);
      sent = more.sent ∙ ap (λ l. w.sent ++ map giving l) (sym (cond-false (is_live live g) (g ∷ hs) hs away));
    })
