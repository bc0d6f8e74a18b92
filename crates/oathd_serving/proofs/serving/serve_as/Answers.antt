use Rattle.std.proofs.Common.{◌≡◌, drop, refl}
use Rattle.std.specs.Io.Cursor.{cursor_inner, cursor_position}
use Rattle.node_serving.specs.declared.serving.Serving.{Serving}
use Rattle.oathd_serving.specs.Serve.{ServeEndsSo}
use Rattle.oathd_site.specs.declared.fault.Fault.TheVariants.{Database}
use Rattle.oathd_serving.proofs.FaultLemmas.{failed_so}
use Rattle.oathd_serving.proofs.ServeLemmas.{ended_so, served_so, users_end}
use Rattle.oathd_serving.proofs.serving.serve_as.Goals as goal

pub returns : goal.returns
returns g c =
    served_so _ _ (λ (other : Serving). other ≡ c.args.serving) c.args.serving refl c.in_ok-_served._served _ c.in_ok-_served.ensures.served

pub returns-in_err-users : goal.returns-in_err-users
returns-in_err-users g c =
    let fault = c.in_err-users.field-0.0 in
    failed_so c.from_residual.result fault (ServeEndsSo _ _ (λ (other : Serving). other ≡ c.args.serving)) c.from_residual.ensures.1
    (users_end _ _ (λ (other : Serving). other ≡ c.args.serving) c.args.serving refl fault c.in_err-users.ensures)

pub returns-in_err-_served : goal.returns-in_err-_served
returns-in_err-_served g c =
    let fault = c.in_err-_served.field-0.0 in
    let text = drop (cursor_position c.in_ok-users.users) (cursor_inner c.in_ok-users.users).items in
    failed_so c.from_residual-in_err-_served.result (Database fault) (ServeEndsSo _ _ (λ (other : Serving). other ≡ c.args.serving)) c.from_residual-in_err-_served.ensures.1
    (ended_so _ _ (λ (other : Serving). other ≡ c.args.serving) c.args.serving refl fault text c.in_err-_served.ensures.fault)
