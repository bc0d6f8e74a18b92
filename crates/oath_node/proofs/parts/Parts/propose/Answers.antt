use Rattle.std.proofs.Common.{◌≡◌, ◌≢◌, ℕ, ◌^◌, ◌<◌, ◌++◌, [], ◌∷◌, List, Some, Ok, Err, refl, sym, ap, subst, ◌∙◌, arith}
use Rattle.vote_core.specs.Voting.{propose}
use Rattle.oath_node.specs.Calls.{IsMade}
use Rattle.oath_node.specs.Hosted.{running_state}
use Rattle.oath_node.specs.Machine.{Made, NodeState, Owner, made_by_proposal, made_by_vote, next_beginning, next_owner}
use Rattle.oath_node.specs.Parts.{state_in}
use Rattle.oath_node.specs.declared.fault.NodeFault.TheVariants.{Store}
use Rattle.oath_node.proofs.StepLemmas.{finished, may_put_err, may_put_ok, propose_begun, proposal_below, proposal_spent, steps_same, steps_spent}
use Rattle.oath_node.proofs.parts.Parts.propose.Goals as goal

abbrev owner : ℕ → ℕ → List ℕ → List ℕ → Owner
owner seq client line nonce = record { seq = seq; client = client; line = line; nonce = nonce }

pub returns-in-Ok : goal.returns-in-Ok
returns-in-Ok g c =
    let held = g.S.FloorStore.held in
    let old = c.args.self.now in
    let x = state_in held old in
    let key = c.args.key.now in
    let client = c.args.client in
    let line = c.args.line.now in
    let left : old.voter.seq ≢ 2 ^ 62 = λ e. (let h = c.in-Ok.ensures.spent.1 e in cc) in
    let below : old.voter.seq < 2 ^ 62 = omega (arith, c.next_seq-seq.ensures.value, c.next_seq-seq.ensures.range) in
    let began = Some (next_beginning old.voter.place c.args.token c.args.span.lo c.args.span.hi x) in
    let v = propose old.voter.place c.args.token c.args.span.lo c.args.span.hi c.args.drift x.content x.voter in
    let step : NodeState → Made = λ y. made_by_vote (y.owners ++ next_owner client line c.args.nonce y ∷ [])
    (Some (next_beginning old.voter.place c.args.token c.args.span.lo c.args.span.hi y)) (propose old.voter.place c.args.token c.args.span.lo c.args.span.hi c.args.drift y.content y.voter) y in
    let new = running_state (held c.propose.new.store).content c.propose.new.self c.finish_vote.new.owners.items c.finish_vote.new.answers in
    let pushed : c.push.new.self.items ≡ x.owners ++ next_owner client line c.args.nonce x ∷ [] =
    c.push.ensures.items
    ∙ ap (λ (s : ℕ). x.owners ++ owner s client c.line_of.result.items c.args.nonce ∷ []) c.next_seq-seq.ensures.value
    ∙ ap (λ (l : List ℕ). x.owners ++ owner old.voter.seq client l c.args.nonce ∷ []) c.line_of.ensures in
    steps_same held key old _ step (made_by_proposal old.voter.place client line c.args.nonce c.args.token c.args.span.lo c.args.span.hi c.args.drift) (Ok c.finish_vote.result)
    (λ _. sym (proposal_below old.voter.place client line c.args.nonce c.args.token c.args.span.lo c.args.span.hi c.args.drift x below))
    (record {
      made = λ clean. subst (λ (os : List Owner). IsMade key old.voter.place (made_by_vote os began v x) c.finish_vote.result new) pushed
          (finished key old.voter.place x c.push.new.self.items began (held c.propose.new.store).content c.propose.new.self c.in-Ok.step v
          c.finish_vote.result c.finish_vote.new.owners.items c.finish_vote.new.answers refl
          (c.in-Ok.ensures.votes.voted clean) (propose_begun old.voter.place c.args.token c.args.span.lo c.args.span.hi c.args.drift x.content x.voter) c.in-Ok.ensures.votes.same.place
          c.finish_vote.ensures.outputs c.finish_vote.ensures.owners c.finish_vote.ensures.answers);
      puts = may_put_ok held old.store c.propose.new.store v.content c.in-Ok.step c.finish_vote.result c.in-Ok.ensures.votes.puts;
      fails = tt;
      boot = c.in-Ok.ensures.votes.boot;
      same = c.in-Ok.ensures.votes.same;
    })

pub returns-in-Err-Store : goal.returns-in-Err-Store
returns-in-Err-Store g c =
    let held = g.S.FloorStore.held in
    let old = c.args.self.now in
    let x = state_in held old in
    let key = c.args.key.now in
    let client = c.args.client in
    let line = c.args.line.now in
    let left : old.voter.seq ≢ 2 ^ 62 = λ e. (let h = c.in-Err-Store.ensures.spent.1 e in cc) in
    let below : old.voter.seq < 2 ^ 62 = omega (arith, c.next_seq-seq.ensures.value, c.next_seq-seq.ensures.range) in
    let v = propose old.voter.place c.args.token c.args.span.lo c.args.span.hi c.args.drift x.content x.voter in
    let votes = rw c.in-Err-Store.field-0-is at c.in-Err-Store.ensures.votes in
    let step : NodeState → Made = λ y. made_by_vote (y.owners ++ next_owner client line c.args.nonce y ∷ [])
    (Some (next_beginning old.voter.place c.args.token c.args.span.lo c.args.span.hi y)) (propose old.voter.place c.args.token c.args.span.lo c.args.span.hi c.args.drift y.content y.voter) y in
    rw c.in-Err-Store.field-0-is
    (steps_same held key old _ step (made_by_proposal old.voter.place client line c.args.nonce c.args.token c.args.span.lo c.args.span.hi c.args.drift) (Err (Store c.in-Err-Store.fault))
    (λ _. sym (proposal_below old.voter.place client line c.args.nonce c.args.token c.args.span.lo c.args.span.hi c.args.drift x below))
    (record {
      made = tt;
      puts = may_put_err held old.store c.propose.new.store v.content c.in-Err-Store.fault (Store c.in-Err-Store.fault) votes.puts;
      fails = votes.breaks;
      boot = votes.boot;
      same = votes.same;
    }))

pub returns-in-Err-Spent : goal.returns-in-Err-Spent
returns-in-Err-Spent g c =
    let held = g.S.FloorStore.held in
    let old = c.args.self.now in
    let key = c.args.key.now in
    let end : old.voter.seq ≡ 2 ^ 62 = c.in-Err-Spent.ensures.spent.0 (rw c.in-Err-Spent.field-0-is refl) in
    let kept = c.in-Err-Spent.ensures.unchanged (rw c.in-Err-Spent.field-0-is refl) in
    let step = made_by_proposal old.voter.place c.args.client c.args.line.now c.args.nonce c.args.token c.args.span.lo c.args.span.hi c.args.drift in
    rw (kept.0, kept.1)
    (steps_spent held key old step (proposal_spent old.voter.place c.args.client c.args.line.now c.args.nonce c.args.token c.args.span.lo c.args.span.hi c.args.drift (state_in held old) end) end)
