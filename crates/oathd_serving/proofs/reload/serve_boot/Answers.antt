use Rattle.std.proofs.Common.{◌≡◌, arith}
use Rattle.std.specs.Prelude.{min}
use Rattle.oathd_serving.proofs.ReloadLemmas.{boot_failed, boot_served, fewer_turns, next_of}
use Rattle.oathd_serving.proofs.reload.serve_boot.Goals as goal

pub returns-in_err-_served-clause-fault : goal.returns-in_err-_served-clause-fault
returns-in_err-_served-clause-fault g c =
    let ends = c.in_err-_served.ensures.fault in
    boot_failed _ _ c.args.cluster.now c.in_ok-moment.moment c.args.serving.now c.in-Ok.own c.args.boot.turns
    c.in_err-_served.field-0.0 ends.0 c.from_residual-in_err-_served.result c.from_residual-in_err-_served.ensures.1
    c.in_ok-moment.ensures.moment c.in-Ok.ensures.0 c.in-Ok.ensures.1 ends.2

pub returns-clause-boot : goal.returns-clause-boot
returns-clause-boot g c =
    let watch = c.in_ok-_served.watch in
    let served = c.in_ok-_served.ensures.served in
    let is : c.min-turns.result ≡ min watch.left c.args.boot.turns = omega (arith, c.min-turns.ensures, c.end-left.ensures) in
    boot_served _ _ c.args.cluster.now c.in_ok-moment.moment watch.left watch.since watch.last c.in-Ok.own c.in_ok-_served._served served.0
    served.2 c.args.serving.now c.args.boot _ c.as_slice.result.now c.in_ok-moment.ensures.moment c.in-Ok.ensures.0 c.in-Ok.ensures.1 c.as_slice.ensures.value
    served.1 is (next_of _ _ _ _ _ c.next_text-text.ensures.next)

pub returns-clause-fewer : goal.returns-clause-fewer
returns-clause-fewer g c =
    let watch = c.in_ok-_served.watch in
    let served = c.in_ok-_served.ensures.served in
    let is : c.min-turns.result ≡ min watch.left c.args.boot.turns = omega (arith, c.min-turns.ensures, c.end-left.ensures) in
    fewer_turns _ _ c.args.cluster.now c.in_ok-moment.moment watch.left watch.since watch.last c.in-Ok.own c.in_ok-_served._served served.0
    served.2 c.args.boot.turns c.min-turns.result c.in-Ok.ensures.1 is
