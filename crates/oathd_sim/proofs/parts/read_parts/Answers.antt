use Rattle.std.proofs.Common.{ℕ, IfSome, List}
use Rattle.token_file.specs.UsersFile.{import_of}
use Rattle.oathd_sim.specs.Fault.{input_fault_of}
use Rattle.oathd_sim.specs.Parts.{IsUnread}
use Rattle.oathd_sim.specs.declared.fault.Fault.{Fault}
use Rattle.oathd_sim.proofs.FaultLemmas.{err_is}
use Rattle.oathd_sim.proofs.PartsLemmas.{has_parts, imported, unread_behind}
use Rattle.oathd_sim.proofs.parts.read_parts.Goals as goal

pub returns-in_err-rest-clause-fault : goal.returns-in_err-rest-clause-fault
returns-in_err-rest-clause-fault g c =
    let a = g.B.Read.remaining c.args.input.reader in
    let import = import_of c.in-Ok.read.0 c.in-Ok.read.1.items in
    let f = c.in_err-rest.field-0.0 in
    err_is c.from_residual.result (input_fault_of f) (λ (x : Fault). IfSome a (λ (text : List ℕ). IsUnread c.args.settings c.args.moment 16777216 c.args.input.room text x))
    c.from_residual.ensures.1
    (unread_behind c.args.settings c.args.moment 16777216 c.args.input.room a import f
    (imported c.args.settings c.args.moment 16777216 c.args.input.room a _ import c.new-users.ensures.left c.in-Ok.ensures.book))

pub returns-in_err-script-clause-fault : goal.returns-in_err-script-clause-fault
returns-in_err-script-clause-fault g c =
    let a = g.B.Read.remaining c.args.input.reader in
    let import = import_of c.in-Ok.read.0 c.in-Ok.read.1.items in
    let f = c.in_err-script.field-0.0 in
    err_is c.from_residual-in_err-script.result (input_fault_of f) (λ (x : Fault). IfSome a (λ (text : List ℕ). IsUnread c.args.settings c.args.moment 16777216 c.args.input.room text x))
    c.from_residual-in_err-script.ensures.1
    (unread_behind c.args.settings c.args.moment 16777216 c.args.input.room a import f
    (imported c.args.settings c.args.moment 16777216 c.args.input.room a _ import c.new-users.ensures.left c.in-Ok.ensures.book))

pub returns-clause-parts : goal.returns-clause-parts
returns-clause-parts g c =
    let a = g.B.Read.remaining c.args.input.reader in
    let import = import_of c.in-Ok.read.0 c.in-Ok.read.1.items in
    has_parts c.args.settings c.args.moment 16777216 c.args.input.room a c.in-Ok.read.0 c.in-Ok.read.1.items _ _ c.in_ok-rest.first
    c.in_ok-rest.rest.room (g.B.Read.remaining c.in_ok-rest.rest.reader) c.in_ok-script.script.bytes.items c.in_ok-script.script.is_cut
    (imported c.args.settings c.args.moment 16777216 c.args.input.room a _ import c.new-users.ensures.left c.in-Ok.ensures.book)
    c.new-users.ensures.rest c.in-Ok.ensures.behind c.in_ok-rest.ensures c.in_ok-script.ensures
