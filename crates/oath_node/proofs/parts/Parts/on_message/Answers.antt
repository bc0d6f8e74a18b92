use Rattle.std.proofs.Common.{None, refl}
use Rattle.vote_core.specs.Voting.{on_message}
use Rattle.oath_node.specs.Parts.{state_in}
use Rattle.oath_node.proofs.StepLemmas.{finished, may_put_ok, message_begun}
use Rattle.oath_node.proofs.parts.Parts.on_message.Goals as goal

pub returns-in-Ok : goal.returns-in-Ok
returns-in-Ok g c =
    let held = g.S.FloorStore.held in
    let old = c.args.self.now in
    let x = state_in held old in
    record {
      made = λ clean. finished c.args.key.now old.voter.place x x.owners None (held c.on_message.new.store).content c.on_message.new.self c.in-Ok.step
          (on_message old.voter.place c.args.from c.args.message x.content x.voter) c.finish_vote.result c.finish_vote.new.owners.items c.finish_vote.new.answers
          refl (c.in-Ok.ensures.voted clean) (message_begun old.voter.place c.args.from c.args.message x.content x.voter) c.in-Ok.ensures.same.place
          c.finish_vote.ensures.outputs c.finish_vote.ensures.owners c.finish_vote.ensures.answers;
      puts = may_put_ok held old.store c.on_message.new.store _ c.in-Ok.step c.finish_vote.result c.in-Ok.ensures.puts;
      fails = tt;
      boot = c.in-Ok.ensures.boot;
      same = c.in-Ok.ensures.same;
    }
