use Rattle.std.proofs.Common.{◌≡◌, ℕ, List, [], ◌∷◌, length, true, refl, sym, ap, ◌∙◌, arith}
use Rattle.std.specs.declared.io.ErrorKind.TheVariants.{Interrupted}
use Rattle.udp_port.specs.declared.calls.Call.{Call}
use Rattle.udp_port.specs.declared.calls.Call.TheVariants.{GivenUp, Hear, Turn}
use Rattle.udp_port.specs.declared.calls.Heard.TheVariants.{Failed}
use Rattle.udp_port.specs.Calls.{is_given_up}
use Rattle.udp_port.proofs.CallsLemmas.{calls_nothing, ends_alike}
use Rattle.udp_port.proofs.laws.receives_can_be_broken.Goals as goal

pub returns-clause-turn : goal.returns-clause-turn
returns-clause-turn c = record { others = []; last = (Turn, []); calls = refl; gives_up = λ e. absurd cc }

pub returns-clause-gives_up : goal.returns-clause-gives_up
returns-clause-gives_up c =
    record { others = (Hear true (Failed Interrupted), []) ∷ []; last = (GivenUp, []); calls = refl; gives_up = λ e. refl }

pub returns-clause-gives_up_after : goal.returns-clause-gives_up_after
returns-clause-gives_up_after c = λ most others p.
    let ends : ((GivenUp, []) ≡ p.last) × (length others ≡ length p.others) = ends_alike others p.others (GivenUp, []) p.last p.calls in
    ends.1 ∙ p.gives_up (ap (λ (call : Call × List ℕ). is_given_up call.0) (sym ends.0))

pub returns-clause-gives_up_at_once : goal.returns-clause-gives_up_at_once
returns-clause-gives_up_at_once c = λ p.
    let none : 0 ≡ 1 = returns-clause-gives_up_after c 1 [] p in
    absurd (omega (arith, none))

pub returns-clause-nothing : goal.returns-clause-nothing
returns-clause-nothing c = calls_nothing 1
