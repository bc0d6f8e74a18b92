-- A step of the voter, as a step of the machine, and a step of the parts by another name.
use Rattle.std.proofs.Common.{◌≡◌, ℕ, ℤ, ◌-◌, ◌^◌, ◌<◌, Bool, true, false, List, [], ◌∷◌, ◌++◌, map, Option, Some, None, inl, refl, sym, ap, subst, ◌∙◌, arith}
use Rattle.std.specs.Prelude.{◌==◌, ◌||◌, ◌⊎◌, nat_le, nat_lt, Result, Ok, Err, OnOk, OnErr}
use Rattle.std.specs.List.{list_any}
use Rattle.std.specs.Option.{option_map}
use Rattle.std.proofs.lemmas.Bool.{cond_both, lt-ltb, le-ltb}
use Rattle.floor_store.specs.Content.{Content}
use Rattle.floor_store.specs.Held.{Held, MayPut, OldOrNew}
use Rattle.floor_store.specs.Records.{ProposalRecord}
use Rattle.otp_core.specs.Acceptance.{majority_of, size}
use Rattle.vote_core.specs.NodeSet.{PlaceRecord, with_node}
use Rattle.vote_core.specs.Rows.{row}
use Rattle.vote_core.specs.State.{BallotRecord, VoterRecord, ballot_of, sent_by, voted_of, voter_of}
use Rattle.vote_core.specs.Voting.{Ballot, VoterState, Voted, accept, count_deny, count_grant, is_grant, on_ask, on_deny, on_floor, on_grant, on_message, pass_in, proposal_of, propose, propose_alone, propose_among, raise, tick}
use Rattle.vote_core.specs.declared.message.Message.{Message}
use Rattle.vote_core.specs.declared.message.Message.TheVariants.{Ask, Grant, Deny, Floor}
use Rattle.vote_core.specs.declared.step.Step.{Step}
use Rattle.answer_ring.specs.Answers.{KeptAnswer}
use Rattle.oath_node.specs.Calls.{IsMade}
use Rattle.oath_node.specs.Hosted.{running_state}
use Rattle.oath_node.specs.Machine.{answers_to_decisions, Beginning, is_pending, kept_with_all, Made, made_by_proposal, made_by_vote, next_beginning, next_owner, NodeState, Owner, owners_of_pending, quiet_made, reply_with, stopped_node}
use Rattle.oath_node.specs.Outputs.{OutputsRecord, items_of, outputs_of}
use Rattle.oath_node.specs.Parts.{FailsParts, Steps, state_in}
use Rattle.oath_node.specs.declared.fault.NodeFault.{NodeFault}
use Rattle.oath_node.specs.declared.fault.NodeFault.TheVariants.{Store, Stopped, Spent}
use Rattle.oath_node.specs.declared.parts.Parts.{Parts}

pub pending_same : (bs : List BallotRecord) (seq : ℕ) → list_any (λ (b : BallotRecord). b.seq == seq) bs ≡ is_pending (map ballot_of bs) seq
pending_same [] seq = refl
pending_same (b ∷ bs) seq = ap (λ rest. (b.seq == seq) || rest) (pending_same bs seq)

-- what a step's outputs are
abbrev pub told_by_step : {messages decisions : ℕ} → List ℕ → PlaceRecord → List Owner → Option ProposalRecord → Step messages decisions → OutputsRecord
told_by_step key place owners begun step = record {
  items = items_of key place.me (sent_by step.sends.items) (map reply_with (answers_to_decisions owners step.decisions.items));
  begun = begun;
  pass = pass_in step.decisions.items;
}

-- what a call of the voter made is what the machine makes of it
pub finished : {messages decisions : ℕ} (key : List ℕ) (place : PlaceRecord) (x : NodeState) (owners : List Owner) (began : Option Beginning) (c : Content) (voter : VoterRecord) (step : Step messages decisions) (v : Voted)
    (out : OutputsRecord) (waiting : List Owner) (answers : List KeptAnswer)
    → x.running ≡ true
    → voted_of c voter step ≡ v
    → option_map (λ (b : Beginning). b.proposal) began ≡ v.begun
    → voter.place ≡ place
    → out ≡ told_by_step key voter.place owners step.begun step
    → waiting ≡ owners_of_pending (voter_of voter).pending owners
    → answers ≡ kept_with_all x.answers (answers_to_decisions owners step.decisions.items)
    → IsMade key place (made_by_vote owners began v x) out (running_state c voter waiting answers)
finished key place x owners began c voter step v out waiting answers r e b p o w a =
    let P : Voted → Type 0 = λ u. option_map (λ (q : Beginning). q.proposal) began ≡ u.begun → IsMade key place (made_by_vote owners began u x) out (running_state c voter waiting answers) in
    let still : List Owner = owners_of_pending (voter_of voter).pending owners in
    let kept : List KeptAnswer = kept_with_all x.answers (answers_to_decisions owners step.decisions.items) in
    let state : Bool → NodeState = λ on. record { content = c; voter = voter_of voter; owners = still; answers = kept; running = on } in
    subst P e
    (λ same. record {
      told = o ∙ ap (λ (q : PlaceRecord). told_by_step key q owners step.begun step) p ∙ ap (λ (q : Option ProposalRecord). told_by_step key place owners q step) (sym same);
      left = ap (λ (os : List Owner). running_state c voter os answers) w ∙ ap (λ (ks : List KeptAnswer). running_state c voter still ks) a ∙ ap state (sym r);
    }) b

pub tick_begun : (place : PlaceRecord) (c : Content) (v : VoterState) → None ≡ (tick place c v).begun
unfolding tick
tick_begun place c v = refl

ask_begun : (from : ℕ) (p : ProposalRecord) (t lo hi : ℕ) (c : Content) (v : VoterState) → None ≡ (on_ask from p t lo hi c v).begun
unfolding on_ask
ask_begun from p t lo hi c v =
    cond_both (is_grant p lo hi (row c t).grant) _ _ (λ (s : Voted). None ≡ s.begun) (λ _. refl)
    (λ _. cond_both (nat_le (row c t).next lo) _ _ (λ (s : Voted). None ≡ s.begun) (λ _. refl) (λ _. refl))

grant_begun : (place : PlaceRecord) (from : ℕ) (c : Content) (v : VoterState) (o : Option Ballot) → None ≡ (count_grant place from c v o).begun
unfolding count_grant accept
grant_begun place from c v None = refl
grant_begun place from c v (Some q) =
    cond_both (nat_le (majority_of place.n) (size place.n (with_node from q.granting))) _ _ (λ (s : Voted). None ≡ s.begun) (λ _. refl) (λ _. refl)

deny_begun : (place : PlaceRecord) (from : ℕ) (c : Content) (v : VoterState) (o : Option Ballot) → None ≡ (count_deny place from c v o).begun
unfolding count_deny
deny_begun place from c v None = refl
deny_begun place from c v (Some q) =
    cond_both (nat_lt (place.n - size place.n (with_node from q.denying)) (majority_of place.n)) _ _ (λ (s : Voted). None ≡ s.begun) (λ _. refl) (λ _. refl)

pub message_begun : (place : PlaceRecord) (from : ℕ) (m : Message) (c : Content) (v : VoterState) → None ≡ (on_message place from m c v).begun
unfolding on_message on_grant on_deny on_floor
message_begun place from (Ask p t span) c v = ask_begun from p t span.lo span.hi c v
message_begun place from (Grant p t span) c v = grant_begun place from c v _
message_begun place from (Deny p t next) c v = deny_begun place from (raise t next c) v _
message_begun place from (Floor t next) c v = refl

pub propose_begun : (place : PlaceRecord) (t lo hi : ℕ) (drift : ℤ) (c : Content) (v : VoterState) → Some (proposal_of place c v) ≡ (propose place t lo hi drift c v).begun
unfolding propose propose_alone propose_among
propose_begun place t lo hi drift c v = cond_both (place.n == 1) _ _ (λ (s : Voted). Some (proposal_of place c v) ≡ s.begun) (λ _. refl) (λ _. refl)

pub proposal_below : (place : PlaceRecord) (client : ℕ) (line nonce : List ℕ) (t lo hi : ℕ) (drift : ℤ) (x : NodeState) → x.voter.seq < 2 ^ 62
    → made_by_proposal place client line nonce t lo hi drift x
    ≡ made_by_vote (x.owners ++ next_owner client line nonce x ∷ []) (Some (next_beginning place t lo hi x)) (propose place t lo hi drift x.content x.voter) x
unfolding made_by_proposal
proposal_below place client line nonce t lo hi drift x below = rw (lt-ltb x.voter.seq (2 ^ 62) below) refl

pub proposal_spent : (place : PlaceRecord) (client : ℕ) (line nonce : List ℕ) (t lo hi : ℕ) (drift : ℤ) (x : NodeState) → x.voter.seq ≡ 2 ^ 62
    → made_by_proposal place client line nonce t lo hi drift x ≡ quiet_made (stopped_node x)
unfolding made_by_proposal
proposal_spent place client line nonce t lo hi drift x end = rw (le-ltb x.voter.seq (2 ^ 62) (omega (arith, end))) refl

-- ---- another name of the same step

pub may_put_same : {S A E : Type 0} (held : S → Held) (old new : S) (one other : Content) (result : Result A E) → ((held old).is_clean → one ≡ other)
    → MayPut held old new one result → MayPut held old new other result
may_put_same held old new one other result same h = record {
  makes = record {
    ok = λ clean. subst (λ (made : Content). OnOk result ((held new).content ≡ made)) (same (h.makes.clean clean)) (h.makes.ok clean);
    err = λ clean. subst (λ (made : Content). OnErr result (OldOrNew (held old).content made (held new).content)) (same (h.makes.clean clean)) (h.makes.err clean);
    stays = h.makes.stays;
    count = h.makes.count;
    clean = h.makes.clean;
    tokens = h.makes.tokens;
  };
  left = λ clean c leaves. subst (λ (made : Content). (held old).leaves c ⊎ (c ≡ made)) (same clean) (h.left clean c leaves);
  intact = h.intact;
}

fails_same : {S : Type 0} (held : S → Held) (old new : Parts S) (one other : Made) (fault : NodeFault) → ((held old.store).is_clean → one ≡ other)
    → FailsParts held old new one fault → FailsParts held old new other fault
fails_same held old new one other (Store fault) same h = h
fails_same held old new one other Stopped same h = h
fails_same held old new one other Spent same h = record {
  halts = λ clean. subst (λ (made : Made). made.state.running ≡ false) (same clean) (h.halts clean);
  none_left = h.none_left;
  unchanged = h.unchanged;
}

-- what there is may be put
pub puts_nothing : {S A E : Type 0} (held : S → Held) (store : S) (result : Result A E) → MayPut held store store (held store).content result
puts_nothing held store (Ok value) = record {
  makes = record { ok = λ _. refl; err = λ _. tt; stays = λ _. refl; count = omega arith; clean = λ clean. clean; tokens = refl };
  left = λ _ c leaves. inl leaves;
  intact = λ works. works;
}
puts_nothing held store (Err fault) = record {
  makes = record { ok = λ _. tt; err = λ _. inl refl; stays = λ _. refl; count = omega arith; clean = λ clean. clean; tokens = refl };
  left = λ _ c leaves. inl leaves;
  intact = λ _. tt;
}

-- ---- a call of the store, as a call of the parts

pub may_put_ok : {S A E B F : Type 0} (held : S → Held) (old new : S) (made : Content) (x : A) (y : B)
    → MayPut {A = A} {E = E} held old new made (Ok x) → MayPut {A = B} {E = F} held old new made (Ok y)
may_put_ok held old new made x y h = record {
  makes = record { ok = h.makes.ok; err = λ _. tt; stays = h.makes.stays; count = h.makes.count; clean = h.makes.clean; tokens = h.makes.tokens };
  left = h.left;
  intact = h.intact;
}

pub may_put_err : {S A E B F : Type 0} (held : S → Held) (old new : S) (made : Content) (x : E) (y : F)
    → MayPut {A = A} {E = E} held old new made (Err x) → MayPut {A = B} {E = F} held old new made (Err y)
may_put_err held old new made x y h = record {
  makes = record { ok = λ _. tt; err = h.makes.err; stays = h.makes.stays; count = h.makes.count; clean = h.makes.clean; tokens = h.makes.tokens };
  left = h.left;
  intact = λ _. tt;
}

-- a step that is the same if the store was clean
pub steps_same : {S : Type 0} (held : S → Held) (key : List ℕ) (old new : Parts S) (one other : NodeState → Made) (result : Result OutputsRecord NodeFault)
    → ((held old.store).is_clean → one (state_in held old) ≡ other (state_in held old))
    → Steps held key old new one result → Steps held key old new other result
steps_same held key old new one other (Ok out) same h = record {
  made = λ clean. subst (λ (made : Made). IsMade key old.voter.place made out (state_in held new)) (same (h.puts.makes.clean clean)) (h.made clean);
  puts = may_put_same held old.store new.store (one (state_in held old)).state.content (other (state_in held old)).state.content (Ok out)
      (λ clean. ap (λ (made : Made). made.state.content) (same clean)) h.puts;
  fails = tt;
  boot = h.boot;
  same = h.same;
}
steps_same held key old new one other (Err fault) same h = record {
  made = tt;
  puts = may_put_same held old.store new.store (one (state_in held old)).state.content (other (state_in held old)).state.content (Err fault)
      (λ clean. ap (λ (made : Made). made.state.content) (same clean)) h.puts;
  fails = fails_same held old new (one (state_in held old)) (other (state_in held old)) fault same h.fails;
  boot = h.boot;
  same = h.same;
}

-- a call that changes nothing, if the step changes nothing
pub steps_told : {S : Type 0} (held : S → Held) (key : List ℕ) (parts : Parts S) (step : NodeState → Made) (out : OutputsRecord) (m : Made)
    → step (state_in held parts) ≡ m → m.state ≡ state_in held parts → out ≡ outputs_of key parts.voter.place m
    → Steps held key parts parts step (Ok out)
steps_told held key parts step out m is state told = record {
  made = λ clean. subst (λ (n : Made). IsMade key parts.voter.place n out (state_in held parts)) (sym is) (record { told = told; left = sym state });
  puts = subst (λ (n : Made). MayPut {A = OutputsRecord} {E = NodeFault} held parts.store parts.store n.state.content (Ok out)) (sym is)
      (subst (λ (x : NodeState). MayPut {A = OutputsRecord} {E = NodeFault} held parts.store parts.store x.content (Ok out)) (sym state) (puts_nothing held parts.store (Ok out)));
  fails = tt;
  boot = λ _. refl;
  same = record { place = refl; tokens = refl; boot = refl };
}

-- a call that finds no number, if the step stops the node
pub steps_spent : {S : Type 0} (held : S → Held) (key : List ℕ) (parts : Parts S) (step : NodeState → Made)
    → step (state_in held parts) ≡ quiet_made (stopped_node (state_in held parts)) → parts.voter.seq ≡ 2 ^ 62
    → Steps held key parts parts step (Err Spent)
steps_spent held key parts step is end = record {
  made = tt;
  puts = subst (λ (m : Made). MayPut {A = OutputsRecord} {E = NodeFault} held parts.store parts.store m.state.content (Err Spent)) (sym is) (puts_nothing held parts.store (Err Spent));
  fails = record { halts = λ _. ap (λ (m : Made). m.state.running) is; none_left = end; unchanged = refl };
  boot = λ _. refl;
  same = record { place = refl; tokens = refl; boot = refl };
}
