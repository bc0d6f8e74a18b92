use Rattle.std.proofs.Common.{◌≡◌, ℕ, List, Some, sym, ap, subst, ◌∙◌}
use Rattle.otp_core.specs.Limits.{Limits}
use Rattle.token_file.specs.Credential.{Credential}
use Rattle.oath_node.specs.ReferenceServer.{Line, Server, service_of}
use Rattle.oath_node.specs.Serving.{IsAnswered, IsServing}
use Rattle.oath_node.specs.declared.item.Item.TheVariants.{Reply}
use Rattle.oath_node.proofs.ServingLemmas.{IsGiven, first_taken, given, handed_on, no_datagram, no_end, refused_late, same_bytes}
use Rattle.oath_node.proofs.server.LineServer.answer.Goals as goal
use Rattle.oath_node.proofs.server.LineServer.answer.Goals.{in-Some-Reply, in-Some-Datagram, in-None}

told : (c : goal.Joined-next) (book : List Credential) (limits : Limits) (count : ℕ) (server : Server)
    → IsServing c.args.self.now book limits count server → IsGiven c.handle.new.self book limits count server c.args.line.now c.in_ok-outputs.outputs
told c book limits count server h =
    let node = c.self.inside.node in
    let line : Line = record { client = c.line.inside.client; moment = c.line.inside.moment; text = c.line.inside.line.now } in
    subst (λ (l : Line). IsGiven c.handle.new.self book limits count server l c.in_ok-outputs.outputs) c.line.view_is
    (given c.one_node_answers_as_the_server.ensures.serves node c.handle.new.self line c.in_ok-outputs.outputs
    (c.in_ok-outputs.ensures.handles.made tt) c.in_ok-outputs.ensures.handles.same c.in_ok-outputs.ensures.handles.runs.1 book limits count server
    (subst (λ x. IsServing x book limits count server) (sym c.self.view_is) h))

-- the item that is taken is the server's reply
taken : (c : goal.Joined-next) (book : List Credential) (limits : Limits) (count : ℕ) (server : Server)
    → IsServing c.args.self.now book limits count server
    → c.next.result ≡ Some (Reply c.args.line.now.client (record { items = (service_of book limits server c.args.line.now).told.bytes }))
taken c book limits count server h =
    first_taken c.items.result c.next.new.self c.next.result _ c.next.ensures.steps (c.items.ensures ∙ (told c book limits count server h).items)

pub returns : goal.returns
returns c = λ book limits count server h.
    let here = taken c book limits count server h in
    let new = c.handle.new.self in
    let line = c.args.line.now in
    elim c.match-next.branch [
      | in-Some-Reply w ↦ subst (λ r. IsAnswered new book limits count server line (λ bytes. bytes.items) r) (sym w.result-is) (record {
        answer = ap (λ b. b.items) (same_bytes w.in-Some-Reply.field-0-0 _ w.in-Some-Reply.bytes _ (ap (λ x. Some x) (sym w.in-Some-Reply.field-0-is) ∙ sym w.in-Some-Reply.is ∙ here));
        serving = (told c book limits count server h).serving;
        refused = tt;
      })
      | in-Some-Datagram w ↦ absurd (no_datagram _ _ _ _ (ap (λ x. Some x) (sym w.in-Some-Datagram.field-0-is) ∙ sym w.in-Some-Datagram.is ∙ here))
      | in-None w ↦ absurd (no_end _ _ (sym w.in-None.is ∙ here))
    ]

pub returns-in_err-outputs : goal.returns-in_err-outputs
returns-in_err-outputs c = λ book limits count server h.
    let fault = c.in_err-outputs.field-0.0 in
    let new = c.handle.new.self in
    let serving = subst (λ node. IsServing node book limits count server) (sym c.self.view_is) h in
    let late = refused_late c.self.inside.node new _ fault c.in_err-outputs.ensures.handles.fails book limits count server serving in
    handed_on c.from_residual.result fault (λ r. IsAnswered new book limits count server c.args.line.now (λ bytes. bytes.items) r)
    c.from_residual.ensures.1 (record { answer = tt; serving = tt; refused = late })
