-- A node that speaks by places serves over the port itself.
use Rattle.std.proofs.Common.{List, Option, inl, inr, sym, subst}
use Rattle.std.specs.Prelude.{None}
use Rattle.datagram_port.specs.Port.{PortEvent}
use Rattle.node_serving.specs.Stretches.{ServesIn}
use Rattle.store_serving.specs.Through.{ServesSpeaking}
use Rattle.store_serving.specs.declared.naming.Speech.{Speech}
use Rattle.store_serving.proofs.serve.serve_speaking.Goals as goal

pub returns-in-Places-clause-turns : goal.returns-in-Places-clause-turns
returns-in-Places-clause-turns g c =
    let held = g.S.FloorStore.held in
    let acts = g.U.Attend.acts in
    let old = c.args.node.now in
    let new = c.serve_asked.new.node in
    let answers = g.U.Attend.answers c.serve_asked.new.until.attendant in
    let run = c.serve_asked.ensures.turns in
    let last = g.P.Port.events run.1 in
    inr (
      run.0,
      run.1,
      subst (λ (s : Speech). ServesSpeaking held acts old new s c.args.turns answers last run.0) (sym c.in-Places.is)
          (subst (λ (f : Option (List PortEvent)). ServesIn held acts old new f last None None c.args.turns answers run.0) c.requires.fresh run.2),
      run.3,
      run.4,
    )

pub returns-in-Names-clause-turns : goal.returns-in-Names-clause-turns
returns-in-Names-clause-turns g c =
    let held = g.S.FloorStore.held in
    let acts = g.U.Attend.acts in
    let old = c.args.node.now in
    let new = c.serve_named.new.node in
    let answers = g.U.Attend.answers c.serve_named.new.until.attendant in
    elim c.serve_named.ensures.turns [
      | inl memory ↦ inl memory
      | inr run ↦
          let last = g.P.Port.events run.1 in
          inr (
            run.0,
            run.1,
            subst (λ (s : Speech). ServesSpeaking held acts old new s c.args.turns answers last run.0) (sym c.in-Names.is) run.2,
            run.3,
            run.4,
          )
    ]
