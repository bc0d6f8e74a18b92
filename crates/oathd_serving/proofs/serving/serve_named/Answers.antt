use Rattle.std.proofs.Common.{◌≡◌, refl}
use Rattle.node_serving.specs.declared.serving.Serving.{Serving}
use Rattle.oathd_roster.specs.declared.cluster.NamedCluster.{NamedCluster}
use Rattle.oathd_serving.specs.Ends.{NamedEndsSo, never}
use Rattle.oathd_site.specs.Fault.{fault_of}
use Rattle.oathd_serving.proofs.FaultLemmas.{failed_so}
use Rattle.oathd_serving.proofs.EndsLemmas.{clock_named, ended_named, served_named, users_named}
use Rattle.oathd_serving.proofs.serving.serve_named.Goals as goal

pub returns : goal.returns
returns g c =
    served_named _ _ (λ (other : Serving). other ≡ c.args.serving) (λ (named : NamedCluster). named ≡ c.args.cluster.now) c.args.serving refl c.args.cluster.now refl
    c.in_ok-moment.moment c.in_ok-moment.ensures.moment never c.in_ok-_served._served.0 c.in_ok-_served.ensures.served.0 c.in_ok-_served.ensures.served.2

pub returns-in_err-moment : goal.returns-in_err-moment
returns-in_err-moment g c =
    let fault = c.in_err-moment.field-0.0 in
    failed_so c.from_residual.result fault (NamedEndsSo _ _ (λ (other : Serving). other ≡ c.args.serving) (λ (named : NamedCluster). named ≡ c.args.cluster.now))
    c.from_residual.ensures.1
    (clock_named _ _ (λ (other : Serving). other ≡ c.args.serving) (λ (named : NamedCluster). named ≡ c.args.cluster.now) fault c.in_err-moment.ensures.fault)

pub returns-in_err-text : goal.returns-in_err-text
returns-in_err-text g c =
    let fault = c.in_err-text.field-0.0 in
    failed_so c.from_residual-in_err-text.result fault
    (NamedEndsSo _ _ (λ (other : Serving). other ≡ c.args.serving) (λ (named : NamedCluster). named ≡ c.args.cluster.now)) c.from_residual-in_err-text.ensures.1
    (users_named _ _ (λ (other : Serving). other ≡ c.args.serving) (λ (named : NamedCluster). named ≡ c.args.cluster.now) c.args.serving refl c.args.cluster.now refl
    c.in_ok-moment.moment c.in_ok-moment.ensures.moment fault c.in_err-text.ensures)

pub returns-in_err-_served : goal.returns-in_err-_served
returns-in_err-_served g c =
    let fault = c.in_err-_served.field-0.0 in
    let ends = c.in_err-_served.ensures.fault in
    failed_so c.from_residual-in_err-_served.result (fault_of fault)
    (NamedEndsSo _ _ (λ (other : Serving). other ≡ c.args.serving) (λ (named : NamedCluster). named ≡ c.args.cluster.now)) c.from_residual-in_err-_served.ensures.1
    (ended_named _ _ (λ (other : Serving). other ≡ c.args.serving) (λ (named : NamedCluster). named ≡ c.args.cluster.now) c.args.serving refl c.args.cluster.now refl
    c.in_ok-moment.moment c.in_ok-moment.ensures.moment fault ends.0 ends.2)
