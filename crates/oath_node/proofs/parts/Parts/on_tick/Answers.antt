use Rattle.std.proofs.Common.{None, refl}
use Rattle.vote_core.specs.Voting.{tick}
use Rattle.oath_node.specs.Parts.{state_in}
use Rattle.oath_node.proofs.StepLemmas.{finished, may_put_ok, tick_begun}
use Rattle.oath_node.proofs.parts.Parts.on_tick.Goals as goal

pub returns-in-Ok : goal.returns-in-Ok
returns-in-Ok g c =
    let held = g.S.FloorStore.held in
    let old = c.args.self.now in
    let x = state_in held old in
    record {
      made = λ clean. finished c.args.key.now old.voter.place x x.owners None (held c.tick.new.store).content c.tick.new.self c.in-Ok.step
          (tick old.voter.place x.content x.voter) c.finish_tick.result c.finish_tick.new.owners.items c.finish_tick.new.answers
          refl (c.in-Ok.ensures.votes.voted clean) (tick_begun old.voter.place x.content x.voter) c.in-Ok.ensures.votes.same.place
          c.finish_tick.ensures.outputs c.finish_tick.ensures.owners c.finish_tick.ensures.answers;
      puts = may_put_ok held old.store c.tick.new.store _ c.in-Ok.step c.finish_tick.result c.in-Ok.ensures.votes.puts;
      fails = tt;
      boot = c.in-Ok.ensures.votes.boot;
      same = c.in-Ok.ensures.votes.same;
    }
