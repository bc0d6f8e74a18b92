-- What an event at a node tells: each OK belongs to a pass, and each pass has its OK.
use Rattle.std.proofs.Common.{◌≡◌, ℕ, ℤ, suc, ◌^◌, ◌<◌, ◌≤◌, List, [], ◌∷◌, ◌++◌, length, get_or, map, Option, Some, None, refl, sym, ap, ◌∙◌, subst, arith, eqb, ltb}
use Rattle.std.specs.Prelude.{codes}
use Rattle.std.specs.List.{filter, slice_get}
use Rattle.std.proofs.lemmas.Bool.{cond_both, cond-true, eqb-true, and_parts}
use Rattle.floor_store.specs.Records.{ProposalRecord, PassRecord}
use Rattle.otp_core.specs.Acceptance.{Acceptance}
use Rattle.vote_core.specs.NodeSet.{PlaceRecord}
use Rattle.vote_core.specs.Schedule.{Begun, with_begun, began_in}
use Rattle.vote_core.specs.Voting.{Ballot, Voted, same_proposal, propose, on_message, tick, pass_in}
use Rattle.vote_core.specs.declared.step.Decision.{Decision}
use Rattle.vote_core.specs.declared.step.Decision.TheVariants.{Accepted as Won, Spent as Lost, Timeout as Late}
use Rattle.vote_core.proofs.Basics.{Each, each_append, each_filter, each_flat_map, each_map, each_weaker, is_same}
use Rattle.client_lines.specs.Answer.{answer_bytes}
use Rattle.answer_ring.specs.Answers.{KeptAnswer}
use Rattle.oath_node.specs.Grounds.{HasGrounds}
use Rattle.oath_node.specs.Machine.{Config, NodeState, NodeEvent, Client, Peer, Tick, Made, Reply, Owner, Beginning, quiet_made, reply_made, stopped_node, node_with_answer, node_with_failure, owner_with, answer_to_decision, answers_to_decisions, is_pending, reply_with, made_by_vote, next_beginning, made_by_proposal, made_by_ruling, made_by_datagram, is_heard, made_while_running, ruling_at, standing_at}
use Rattle.client_lines.specs.Request.{without_lf}
use Rattle.oath_node.specs.declared.ruling.Ruling.{Ruling}
use Rattle.oath_node.specs.declared.ruling.Ruling.TheVariants.{Outside, Again, Waiting, Denied, Wrong, Fitting}
use Rattle.client_lines.specs.declared.answer.Answer.TheVariants.{BadLine, Reply as Answered}
use Rattle.client_lines.specs.declared.answer.Outcome.TheVariants.{Refused}
use Rattle.client_lines.specs.declared.answer.Reason.{Reason}
use Rattle.client_lines.specs.declared.answer.Reason.TheVariants.{Spent, Timeout}
use Rattle.cluster_sim.specs.Answered.{IsOk, ok_bytes, IsTextOf, IsAskedIn, IsSaidIn, BelongsToPass}
use Rattle.cluster_sim.specs.World.{WorldEvent, Note, Answer, begun_with, begun_in, acceptance_in, passes_in, note_of, told_reply}
use Rattle.cluster_sim.proofs.BelowLaws.{GroundLaw}
use Rattle.cluster_sim.proofs.Owners.{get_more, get_new, each_kept, each_kept_all, found_kept, HasOwner, IsOwned, still_owned, owner_more, owner_new, owner_found}
use Rattle.cluster_sim.proofs.VoteSteps.{Numbered, IsNoAcceptance, Settled, IsStep, message_step, tick_step, propose_step, propose_seq}

-- ---- texts

no_ok : (rest : List ℕ) → IsOk (codes "NO " ++ rest) → ⊥
no_ok rest h = let e : ◌≡◌ {A = ℕ} 78 79 = ap (λ (l : List ℕ). get_or l 0 0) h in absurd (omega (arith, e))

refusal_text : (nonce : List ℕ) (reason : Reason) → IsOk (answer_bytes (Answered nonce (Refused reason))) → ⊥
refusal_text nonce reason h = no_ok [] h

bad_text : IsOk (answer_bytes BadLine) → ⊥
bad_text h = no_ok [] h

-- ---- what is kept of a node

abbrev pub named : ℕ → ℕ → ℕ → ProposalRecord
named i boot seq = record { node = i; boot = boot; seq = seq }

abbrev pub Asked : List WorldEvent → ℕ → ℕ → List ℕ → List ℕ → Option Begun → Type 0
Asked events i client line nonce None = ⊥
Asked events i client line nonce (Some b) = IsAskedIn i client line nonce (slice_get events b.event)

-- an owner's proposal is on record, and began with its line
abbrev pub OwnerKept : List WorldEvent → (ProposalRecord → Option Begun) → ℕ → ℕ → ℕ → Owner → Type 0
OwnerKept events begun i boot seq o = (o.seq < seq) × Asked events i o.client o.line o.nonce (begun (named i boot o.seq))

-- an OK to the client and line is the OK of an earlier pass of the node
pub record Backed (events : List WorldEvent) (passes : List Acceptance) (e i client : ℕ) (line text : List ℕ) : Type 0 where
  pub place : ℕ
  pub pass : Acceptance
  pub is_pass : slice_get passes place ≡ Some pass
  pub node : pass.node ≡ i
  pub ended : pass.ended < e
  pub nonce : List ℕ
  pub asked : IsAskedIn i client line nonce (slice_get events pass.began)
  pub bytes : text ≡ ok_bytes nonce pass.hi

abbrev KeptBacked : List WorldEvent → List Acceptance → ℕ → ℕ → ℕ → List ℕ → List ℕ → Type 0
KeptBacked events passes e i client line text = IsOk text → Backed events passes e i client line text

pub record NodeKept (events : List WorldEvent) (h : List Note) (e i : ℕ) (x : NodeState) : Type 0 where
  pub owners : Each (OwnerKept events (begun_in h) i x.content.boot x.voter.seq) x.owners
  pub owned : Each (λ (q : Ballot). HasOwner x.owners q.seq) x.voter.pending
  pub answers : Each (λ (a : KeptAnswer). KeptBacked events (passes_in h) e i a.client a.line a.text) x.answers

abbrev pub ToldBacked : List WorldEvent → List Acceptance → Answer → Type 0
ToldBacked events passes t = IsOk t.bytes → BelongsToPass events passes t

-- the pass of an event has its reply
pub record IsReplied (events : List WorldEvent) (i began hi : ℕ) (replies : List Reply) : Type 0 where
  pub place : ℕ
  pub reply : Reply
  pub is_reply : slice_get replies place ≡ Some reply
  pub line : List ℕ
  pub nonce : List ℕ
  pub asked : IsAskedIn i reply.client line nonce (slice_get events began)
  pub bytes : reply.bytes ≡ ok_bytes nonce hi

abbrev pub Replied : List WorldEvent → ℕ → (ProposalRecord → Option Begun) → Option PassRecord → List Reply → Type 0
Replied events i begun None replies = Unit {0}
Replied events i begun (Some p) replies = IsReplied events i (began_in (begun (named i p.boot p.seq))) p.hi replies

abbrev pub BeganAt : ℕ → Option Beginning → Type 0
BeganAt i None = Unit {0}
BeganAt i (Some b) = b.proposal.node ≡ i

-- what an event at a node leaves and tells; what it tells rests on a premise
pub record Tells (events : List WorldEvent) (h : List Note) (e i : ℕ) (Premise : Type 0) (o : Made) : Type 0 where
  pub began : BeganAt i o.began
  pub state : NodeKept events (note_of e i o ∷ h) (suc e) i o.state
  pub told : Premise → Each (λ (r : Reply). ToldBacked events (passes_in (note_of e i o ∷ h)) (told_reply e i r)) o.replies
  pub replied : Replied events i (begun_in (note_of e i o ∷ h)) o.pass o.replies

-- ---- later

pub backed_later : (events : List WorldEvent) (passes more : List Acceptance) (e i client : ℕ) (line text : List ℕ) → Backed events passes e i client line text → Backed events (passes ++ more) (suc e) i client line text
backed_later events passes more e i client line text b = record {
  place = b.place;
  pass = b.pass;
  is_pass = get_more passes more b.place b.pass b.is_pass;
  node = b.node;
  ended = omega (arith, b.ended);
  nonce = b.nonce;
  asked = b.asked;
  bytes = b.bytes;
}

pub answers_later : (events : List WorldEvent) (passes more : List Acceptance) (e i : ℕ) (kept : List KeptAnswer) → Each (λ (a : KeptAnswer). KeptBacked events passes e i a.client a.line a.text) kept
    → Each (λ (a : KeptAnswer). KeptBacked events (passes ++ more) (suc e) i a.client a.line a.text) kept
answers_later events passes more e i kept h =
    each_weaker (λ (a : KeptAnswer). KeptBacked events passes e i a.client a.line a.text) (λ (a : KeptAnswer). KeptBacked events (passes ++ more) (suc e) i a.client a.line a.text)
    (λ a f ok. backed_later events passes more e i a.client a.line a.text (f ok)) kept h

pub owners_later : (events : List WorldEvent) (begun begun' : ProposalRecord → Option Begun) (i boot seq seq' : ℕ) (owners : List Owner) → seq ≤ seq'
    → ((s : ℕ) → s < seq → begun' (named i boot s) ≡ begun (named i boot s)) → Each (OwnerKept events begun i boot seq) owners → Each (OwnerKept events begun' i boot seq') owners
owners_later events begun begun' i boot seq seq' owners le same h =
    each_weaker (OwnerKept events begun i boot seq) (OwnerKept events begun' i boot seq')
    (λ o f. (let lt : o.seq < seq' = omega (arith, f.0, le) in lt, subst (λ b. Asked events i o.client o.line o.nonce b) (sym (same o.seq f.0)) f.1)) owners h

-- nothing begun
still_kept : (events : List WorldEvent) (h : List Note) (e i : ℕ) (x : NodeState) (o : Made) → o.began ≡ None → NodeKept events h e i x → NodeKept events (note_of e i o ∷ h) (suc e) i x
still_kept events h e i x o none k = record {
  owners = subst (λ b. Each (OwnerKept events (begun_with e b (begun_in h)) i x.content.boot x.voter.seq) x.owners) (sym none) k.owners;
  owned = k.owned;
  answers = answers_later events (passes_in h) (acceptance_in (begun_in (note_of e i o ∷ h)) e i o.pass) e i x.answers k.answers;
}

-- ---- a call of the voter

-- an answer to what was decided just now
record JustTold (events : List WorldEvent) (passes : List Acceptance) (e i client : ℕ) (line text : List ℕ) : Type 0 where
  backed : Backed events passes (suc e) i client line text
  now : backed.pass.ended ≡ e

abbrev TellsWell : List WorldEvent → List Acceptance → ℕ → ℕ → KeptAnswer → Type 0
TellsWell events passes e i a = IsOk a.text → JustTold events passes e i a.client a.line a.text

asked_at : (events : List WorldEvent) (i client : ℕ) (line nonce : List ℕ) (o : Option Begun) → Asked events i client line nonce o → IsAskedIn i client line nonce (slice_get events (began_in o))
asked_at events i client line nonce None h = absurd h
asked_at events i client line nonce (Some b) h = h

no_acceptance : (events : List WorldEvent) (passes : List Acceptance) (e i : ℕ) (d : Decision) (o : Option Owner) → IsNoAcceptance d → Each (TellsWell events passes e i) (answer_to_decision d o)
no_acceptance events passes e i d None h = tt
no_acceptance events passes e i (Won pass) (Some o) h = absurd h
no_acceptance events passes e i Lost (Some o) h = (λ ok. absurd (refusal_text o.nonce Spent ok), tt)
no_acceptance events passes e i Late (Some o) h = (λ ok. absurd (refusal_text o.nonce Timeout ok), tt)

-- the line of the owner of the pass began it
record IsOwnPass (events : List WorldEvent) (begun : ProposalRecord → Option Begun) (i : ℕ) (owners : List Owner) (p : PassRecord) : Type 0 where
  owner : Owner
  here : owner_with p.seq owners ≡ Some owner
  asked : IsAskedIn i owner.client owner.line owner.nonce (slice_get events (began_in (begun (named i p.boot p.seq))))

own_pass : (events : List WorldEvent) (begun : ProposalRecord → Option Begun) (i boot seq : ℕ) (owners : List Owner) (p : PassRecord) → Each (OwnerKept events begun i boot seq) owners
    → p.boot ≡ boot → (found : Option Owner) → owner_with p.seq owners ≡ found → IsOwned found → IsOwnPass events begun i owners p
own_pass events begun i boot seq owners p h same None at owned = absurd owned
own_pass events begun i boot seq owners p h same (Some o) at owned =
    let f = owner_found (OwnerKept events begun i boot seq) owners p.seq o h at in
    let here = asked_at events i o.client o.line o.nonce (begun (named i boot o.seq)) f.has.1 in
    record {
      owner = o;
      here = at;
      asked = subst (λ b. IsAskedIn i o.client o.line o.nonce (slice_get events (began_in (begun (named i b p.seq))))) (sym same)
          (subst (λ s. IsAskedIn i o.client o.line o.nonce (slice_get events (began_in (begun (named i boot s))))) f.number here);
    }

-- what the one answer to an acceptance is
pub told_own : (owners : List Owner) (p : PassRecord) (o : Owner) → owner_with p.seq owners ≡ Some o
    → answers_to_decisions owners ((p.seq, Won p) ∷ []) ≡ record { client = o.client; line = o.line; text = ok_bytes o.nonce p.hi } ∷ []
told_own owners p o at = ap (λ x. answer_to_decision (Won p) x ++ []) at

decided_well : (events : List WorldEvent) (h : List Note) (begun : ProposalRecord → Option Begun) (e i boot seq : ℕ) (owners : List Owner) → Each (OwnerKept events begun i boot seq) owners
    → (pass : Option PassRecord) (decisions : List (ℕ × Decision)) → Settled boot (HasOwner owners) pass decisions
    → Each (TellsWell events (passes_in h ++ acceptance_in begun e i pass) e i) (answers_to_decisions owners decisions)
decided_well events h begun e i boot seq owners os None decisions settled =
    each_flat_map (TellsWell events (passes_in h ++ []) e i) (λ (d : ℕ × Decision). answer_to_decision d.1 (owner_with d.0 owners)) decisions
    (each_weaker (λ (d : ℕ × Decision). IsNoAcceptance d.1) (λ (d : ℕ × Decision). Each (TellsWell events (passes_in h ++ []) e i) (answer_to_decision d.1 (owner_with d.0 owners)))
    (λ d n. no_acceptance events (passes_in h ++ []) e i d.1 (owner_with d.0 owners) n) decisions settled)
decided_well events h begun e i boot seq owners os (Some p) decisions settled =
    let own = own_pass events begun i boot seq owners p os settled.0 (owner_with p.seq owners) refl settled.1 in
    let o = own.owner in
    let passes = passes_in h ++ acceptance_in begun e i (Some p) in
    let told : Each (TellsWell events passes e i) (record { client = o.client; line = o.line; text = ok_bytes o.nonce p.hi } ∷ []) = (
      λ _. record {
        backed = record {
          place = length (passes_in h);
          pass = record { began = began_in (begun (named i p.boot p.seq)); ended = e; node = i; token = p.token; lo = p.lo; hi = p.hi };
          is_pass = get_new (passes_in h) _ [];
          node = refl;
          ended = omega arith;
          nonce = o.nonce;
          asked = own.asked;
          bytes = refl;
        };
        now = refl;
      },
      tt,
    ) in
    subst (λ l. Each (TellsWell events passes e i) (answers_to_decisions owners l)) (sym settled.2)
    (subst (λ l. Each (TellsWell events passes e i) l) (sym (told_own owners p o own.here)) told)

decided_replied : (events : List WorldEvent) (begun : ProposalRecord → Option Begun) (i boot seq : ℕ) (owners : List Owner) → Each (OwnerKept events begun i boot seq) owners
    → (pass : Option PassRecord) (decisions : List (ℕ × Decision)) → Settled boot (HasOwner owners) pass decisions → Replied events i begun pass (map reply_with (answers_to_decisions owners decisions))
decided_replied events begun i boot seq owners os None decisions settled = tt
decided_replied events begun i boot seq owners os (Some p) decisions settled =
    let own = own_pass events begun i boot seq owners p os settled.0 (owner_with p.seq owners) refl settled.1 in
    let o = own.owner in
    let one : KeptAnswer = record { client = o.client; line = o.line; text = ok_bytes o.nonce p.hi } in
    let same : map reply_with (answers_to_decisions owners decisions) ≡ reply_with one ∷ [] = ap (λ l. map reply_with (answers_to_decisions owners l)) settled.2 ∙ ap (λ l. map reply_with l) (told_own owners p o own.here) in
    record { place = 0; reply = reply_with one; is_reply = ap (λ l. slice_get l 0) same; line = o.line; nonce = o.nonce; asked = own.asked; bytes = refl }

-- a reply to what was decided just now
just_told : (events : List WorldEvent) (passes : List Acceptance) (e i : ℕ) (a : KeptAnswer) → TellsWell events passes e i a → ToldBacked events passes (told_reply e i (reply_with a))
just_told events passes e i a f ok =
    let j = f ok in
    let b = j.backed in
    record {
      nonce = b.nonce;
      hi = b.pass.hi;
      bytes = b.bytes;
      belongs = record {
        place = b.place;
        pass = b.pass;
        is_pass = b.is_pass;
        node = b.node;
        ended = omega (arith, j.now);
        last = refl;
        line = a.line;
        asked = b.asked;
        again = λ lt. absurd (omega (arith, lt, j.now));
      };
    }

voted_tells : (events : List WorldEvent) (h : List Note) (e i : ℕ) (Premise : Type 0) (x : NodeState) (owners : List Owner) (began : Option Beginning) (s : Voted)
    → NodeKept events h e i x → BeganAt i began → IsStep (HasOwner owners) x.content x.voter s
    → Each (OwnerKept events (begun_with e began (begun_in h)) i x.content.boot s.voter.seq) owners → Tells events h e i Premise (made_by_vote owners began s x)
voted_tells events h e i Premise x owners began s k at step os =
    let begun = begun_with e began (begun_in h) in
    let passes = passes_in h ++ acceptance_in begun e i (pass_in s.decisions) in
    let well = decided_well events h begun e i x.content.boot s.voter.seq owners os (pass_in s.decisions) s.decisions step.settled in
    let told = answers_to_decisions owners s.decisions in
    record {
      began = at;
      state = record {
        owners = subst (λ b. Each (OwnerKept events begun i b s.voter.seq) (filter (λ (o : Owner). is_pending s.voter.pending o.seq) owners)) (sym step.boot)
            (each_filter (OwnerKept events begun i x.content.boot s.voter.seq) (λ (o : Owner). is_pending s.voter.pending o.seq) owners os);
        owned = still_owned owners s.voter.pending step.pending;
        answers = each_kept_all (λ (a : KeptAnswer). KeptBacked events passes (suc e) i a.client a.line a.text) x.answers told
            (answers_later events (passes_in h) (acceptance_in begun e i (pass_in s.decisions)) e i x.answers k.answers)
            (each_weaker (TellsWell events passes e i) (λ (a : KeptAnswer). KeptBacked events passes (suc e) i a.client a.line a.text) (λ a f ok. (f ok).backed) told well);
      };
      told = λ _. each_map (λ (r : Reply). ToldBacked events passes (told_reply e i r)) reply_with told
          (each_weaker (TellsWell events passes e i) (λ (a : KeptAnswer). ToldBacked events passes (told_reply e i (reply_with a))) (λ a f. just_told events passes e i a f) told well);
      replied = decided_replied events begun i x.content.boot s.voter.seq owners os (pass_in s.decisions) s.decisions step.settled;
    }

-- ---- a client's line

-- by the time of the event
quiet_tells : (events : List WorldEvent) (h : List Note) (e i : ℕ) (Premise : Type 0) (x : NodeState) → NodeKept events h e i x → Tells events h e i Premise (quiet_made x)
quiet_tells events h e i Premise x k = record { began = tt; state = still_kept events h e i x (quiet_made x) refl k; told = λ _. tt; replied = tt }

refused_tells : (events : List WorldEvent) (h : List Note) (e i : ℕ) (Premise : Type 0) (x : NodeState) (client : ℕ) (line nonce : List ℕ) (reason : Reason) (failed : Option (ℕ × ℕ))
    → NodeKept events h e i x → let text = answer_bytes (Answered nonce (Refused reason)) in Tells events h e i Premise (reply_made client text failed (node_with_answer client line text x))
refused_tells events h e i Premise x client line nonce reason failed k =
    let text = answer_bytes (Answered nonce (Refused reason)) in
    let o = reply_made client text failed (node_with_answer client line text x) in
    let later = still_kept events h e i x o refl k in
    record {
      began = tt;
      state = record {
        owners = later.owners;
        owned = later.owned;
        answers = each_kept (λ (a : KeptAnswer). KeptBacked events (passes_in h ++ []) (suc e) i a.client a.line a.text) x.answers (record { client = client; line = line; text = text })
            later.answers (λ ok. absurd (refusal_text nonce reason ok));
      };
      told = λ _. (λ ok. absurd (refusal_text nonce reason ok), tt);
      replied = tt;
    }

again_tells : (events : List WorldEvent) (h : List Note) (e i : ℕ) (x : NodeState) (client : ℕ) (line text : List ℕ) → KeptBacked events (passes_in h) e i client line text
    → NodeKept events h e i x → Tells events h e i (IsSaidIn i client line (slice_get events e)) (reply_made client text None x)
again_tells events h e i x client line text kept k = record {
  began = tt;
  state = still_kept events h e i x (reply_made client text None x) refl k;
  told = λ said. (
    λ ok.
        let b = backed_later events (passes_in h) [] e i client line text (kept ok) in
        record {
          nonce = b.nonce;
          hi = b.pass.hi;
          bytes = b.bytes;
          belongs = record {
            place = b.place;
            pass = b.pass;
            is_pass = b.is_pass;
            node = b.node;
            ended = omega (arith, b.ended);
            last = refl;
            line = line;
            asked = b.asked;
            again = λ _. said;
          };
        },
    tt,
  );
  replied = tt;
}

-- a proposal of a number that the node has not used in this boot
pub fresh_begun : (e i boot seq : ℕ) (b : Begun) (begun : ProposalRecord → Option Begun) (s : ℕ) → s < seq → with_begun (named i boot seq) b begun (named i boot s) ≡ begun (named i boot s)
fresh_begun e i boot seq b begun s lt =
    cond_both (same_proposal (named i boot s) (named i boot seq)) (Some b) (begun (named i boot s)) (λ o. o ≡ begun (named i boot s))
    (λ q. let parts = and_parts (eqb i i) _ q in let more = and_parts (eqb boot boot) (eqb s seq) parts.1 in absurd (omega (arith, lt, eqb-true s seq more.1))) (λ _. refl)

pub begun_now : (i boot seq : ℕ) (b : Begun) (begun : ProposalRecord → Option Begun) → with_begun (named i boot seq) b begun (named i boot seq) ≡ Some b
begun_now i boot seq b begun = cond-true (same_proposal (named i boot seq) (named i boot seq)) (Some b) (begun (named i boot seq)) (is_same (named i boot seq))

proposing_tells : (events : List WorldEvent) (h : List Note) (e : ℕ) (place : PlaceRecord) (Premise : Type 0) (x : NodeState) (client : ℕ) (line nonce : List ℕ) (token lo hi : ℕ) (drift : ℤ) → NodeKept events h e place.me x
    → IsAskedIn place.me client line nonce (slice_get events e)
    → Tells events h e place.me Premise (made_by_proposal place client line nonce token lo hi drift x)
unfolding made_by_proposal
proposing_tells events h e place Premise x client line nonce token lo hi drift k asked =
    let i = place.me in
    let owner : Owner = record { seq = x.voter.seq; client = client; line = line; nonce = nonce } in
    let owners = x.owners ++ owner ∷ [] in
    let began : Option Beginning = Some (next_beginning place token lo hi x) in
    let b : Begun = record { token = token; lo = lo; hi = hi; event = e } in
    let begun = begun_with e began (begun_in h) in
    let s = propose place token lo hi drift x.content x.voter in
    let next = propose_seq place token lo hi drift x.content x.voter in
    let old : Each (OwnerKept events begun i x.content.boot s.voter.seq) x.owners =
    owners_later events (begun_in h) begun i x.content.boot x.voter.seq s.voter.seq x.owners (omega (arith, next))
    (λ t lt. fresh_begun e i x.content.boot x.voter.seq b (begun_in h) t lt) k.owners in
    let below : x.voter.seq < s.voter.seq = omega (arith, next) in
    let new : OwnerKept events begun i x.content.boot s.voter.seq owner =
    (below, subst (λ z. Asked events i client line nonce z) (sym (begun_now i x.content.boot x.voter.seq b (begun_in h))) asked) in
    let numbered : Numbered (HasOwner owners) x.voter.pending = each_weaker (λ (q : Ballot). HasOwner x.owners q.seq) (λ (q : Ballot). HasOwner owners q.seq) (λ q f. owner_more x.owners owner q.seq f) x.voter.pending k.owned in
    cond_both (ltb x.voter.seq (2 ^ 62)) (made_by_vote owners began s x) (quiet_made (stopped_node x)) (λ o. Tells events h e i Premise o)
    (λ _. voted_tells events h e i Premise x owners began s k refl (propose_step (HasOwner owners) place token lo hi drift x.content x.voter numbered (owner_new x.owners owner))
    (each_append (OwnerKept events begun i x.content.boot s.voter.seq) x.owners (owner ∷ []) old (new, tt)))
    (λ _. quiet_tells events h e i Premise (stopped_node x) (record { owners = k.owners; owned = k.owned; answers = k.answers }))

-- the event is this text from this client at the node, or a stop inside that which kept its change
abbrev pub IsComing : List WorldEvent → ℕ → ℕ → ℕ → List ℕ → Type 0
IsComing events e i client text = (line nonce : List ℕ) → IsTextOf line nonce text → IsAskedIn i client line nonce (slice_get events e)

ruling_tells : (config : Config) (events : List WorldEvent) (h : List Note) (e : ℕ) (place : PlaceRecord) (x : NodeState) (client moment : ℕ) (text : List ℕ) → IsComing events e place.me client text
    → NodeKept events h e place.me x → (r : Ruling) → HasGrounds config.book config.limits (standing_at x client moment (without_lf text)) moment text r
    → Tells events h e place.me (IsSaidIn place.me client (without_lf text) (slice_get events e)) (made_by_ruling place client moment (without_lf text) r x)
unfolding made_by_ruling
ruling_tells config events h e place x client moment text comes k Outside g = record {
  began = tt;
  state = still_kept events h e place.me x (reply_made client (answer_bytes BadLine) None x) refl k;
  told = λ _. (λ ok. absurd (bad_text ok), tt);
  replied = tt;
}
ruling_tells config events h e place x client moment text comes k (Again kept) g =
    again_tells events h e place.me x client (without_lf text) kept (found_kept (KeptBacked events (passes_in h) e place.me) x.answers client (without_lf text) kept k.answers g) k
ruling_tells config events h e place x client moment text comes k Waiting g = quiet_tells events h e place.me _ x k
ruling_tells config events h e place x client moment text comes k (Denied nonce reason) g = refused_tells events h e place.me _ x client (without_lf text) nonce reason None k
ruling_tells config events h e place x client moment text comes k (Wrong nonce reason token) g =
    refused_tells events h e place.me _ (node_with_failure token moment x) client (without_lf text) nonce reason (Some (token, moment)) (record { owners = k.owners; owned = k.owned; answers = k.answers })
ruling_tells config events h e place x client moment text comes k (Fitting nonce token span drift) g =
    proposing_tells events h e place _ x client (without_lf text) nonce token span.lo span.hi drift k
    (comes (without_lf text) nonce (record { request = g.request; grammar = g.grammar; nonce_is = g.nonce_is; line_is = refl }))

-- ---- each event

abbrev pub Comes : List WorldEvent → ℕ → ℕ → NodeEvent → Type 0
Comes events e i (Client client moment text) = IsComing events e i client text
Comes events e i (Peer from read) = Unit {0}
Comes events e i Tick = Unit {0}

abbrev pub Said : List WorldEvent → ℕ → ℕ → NodeEvent → Type 0
Said events e i (Client client moment text) = IsSaidIn i client (without_lf text) (slice_get events e)
Said events e i (Peer from read) = Unit {0}
Said events e i Tick = Unit {0}

same_begun : (events : List WorldEvent) (h : List Note) (e i : ℕ) (x : NodeState) (s : Voted) → NodeKept events h e i x → x.voter.seq ≤ s.voter.seq
    → Each (OwnerKept events (begun_with e None (begun_in h)) i x.content.boot s.voter.seq) x.owners
same_begun events h e i x s k le = owners_later events (begun_in h) (begun_in h) i x.content.boot x.voter.seq s.voter.seq x.owners le (λ _ _. refl) k.owners

pub event_tells : GroundLaw → (config : Config) (events : List WorldEvent) (h : List Note) (e : ℕ) (place : PlaceRecord) (x : NodeState) (v : NodeEvent) → Comes events e place.me v → NodeKept events h e place.me x
    → Tells events h e place.me (Said events e place.me v) (made_while_running config place v x)
unfolding made_while_running made_by_datagram
event_tells law config events h e place x (Client client moment text) comes k =
    ruling_tells config events h e place x client moment text comes k (ruling_at config x client moment text) (law config.book config.limits (standing_at x client moment (without_lf text)) moment text)
event_tells law config events h e place x (Peer from None) comes k = quiet_tells events h e place.me _ x k
event_tells law config events h e place x (Peer from (Some l)) comes k =
    let s = on_message place from l.message x.content x.voter in
    let step = message_step (HasOwner x.owners) place from l.message x.content x.voter k.owned in
    cond_both (is_heard config place from l) (made_by_vote x.owners None s x) (quiet_made x) (λ o. Tells events h e place.me (Unit {0}) o)
    (λ _. voted_tells events h e place.me _ x x.owners None s k tt step (same_begun events h e place.me x s k step.seq)) (λ _. quiet_tells events h e place.me _ x k)
event_tells law config events h e place x Tick comes k =
    let s = tick place x.content x.voter in
    let step = tick_step (HasOwner x.owners) place x.content x.voter k.owned in
    voted_tells events h e place.me _ x x.owners None s k tt step (same_begun events h e place.me x s k step.seq)

pub resting_tells : (events : List WorldEvent) (h : List Note) (e i : ℕ) (Premise : Type 0) (x : NodeState) → NodeKept events h e i x → Tells events h e i Premise (quiet_made x)
resting_tells = quiet_tells
