-- No line and no request is opened here, so that the latest moment at the end of an incarnation is its first mark.
use Rattle.std.proofs.Common.{◌≡◌, ◌≤◌, ℕ, Bool, true, false, cond, eqb, max, [], Option, Some, None, refl, sym, ap, arith}
use Rattle.sealed_port.specs.Examples.{client_at, still_life, window_at}
use Rattle.sealed_port.specs.Latest.{AreOperatorsMarkedFor, IsMarkedFor, latest_in}
use Rattle.sealed_port.specs.RequestExamples.{operator_at, still_operator_life}
use Rattle.sealed_port.specs.Runs.{gate_run}
use Rattle.sealed_port.specs.declared.client.Client.{Client}
use Rattle.sealed_port.specs.declared.operator.Operator.{Operator}
use Rattle.sealed_port.proofs.latest_laws.marks_can_be_broken.Goals as goal

abbrev present : {A : Type 0} → A → Option A
present x = Some x

some_is : {A : Type 0} (x y : A) → present x ≡ present y → x ≡ y
some_is x y e = cc

client_low : (b : Bool) (low : ℕ) (next : Client) → cond b (Some (client_at 258 (window_at low []))) None ≡ Some next → next.window.low ≡ low
client_low true low next e = ap (λ (c : Client). c.window.low) (sym (some_is (client_at 258 (window_at low [])) next e))
client_low false low next e = absurd cc

marked : (mark low : ℕ) → mark ≤ low → IsMarkedFor (still_life mark) (still_life low)
marked mark low le = λ number next e.
    let is : next.window.low ≡ low = client_low (eqb 258 number) low next e in
    let ends : latest_in (gate_run (still_life mark).gate (still_life mark).steps) ≡ max 0 mark = refl in
    omega (arith, le, is, ends)

operator_low : (b : Bool) (low : ℕ) (next : Operator) → cond b (Some (operator_at 258 (window_at low []))) None ≡ Some next → next.holder.window.low ≡ low
operator_low true low next e = ap (λ (o : Operator). o.holder.window.low) (sym (some_is (operator_at 258 (window_at low [])) next e))
operator_low false low next e = absurd cc

operators : (mark low : ℕ) → mark ≤ low → AreOperatorsMarkedFor (still_operator_life mark) (still_operator_life low)
operators mark low le = λ number next e.
    let is : next.holder.window.low ≡ low = operator_low (eqb 258 number) low next e in
    let ends : latest_in (gate_run (still_operator_life mark).gate (still_operator_life mark).steps) ≡ max 0 mark = refl in
    omega (arith, le, is, ends)

pub returns-clause-marked : goal.returns-clause-marked
returns-clause-marked c =
    ((marked 5 5 (omega arith), (marked 5 6 (omega arith), tt)), ((marked 5 6 (omega arith), tt), (tt, tt)))

pub returns-clause-low_mark : goal.returns-clause-low_mark
returns-clause-low_mark c = λ order. let low : 5 ≤ 4 = order.0.0 258 (client_at 258 (window_at 4 [])) refl in absurd (omega arith)

pub returns-clause-low_mark_of_the_third : goal.returns-clause-low_mark_of_the_third
returns-clause-low_mark_of_the_third c = λ order.
    let low : 7 ≤ 6 = order.1.0.0 258 (client_at 258 (window_at 6 [])) refl in absurd (omega arith)

pub returns-clause-operators_marked : goal.returns-clause-operators_marked
returns-clause-operators_marked c =
    ((operators 5 5 (omega arith), (operators 5 6 (omega arith), tt)), ((operators 5 6 (omega arith), tt), (tt, tt)))

pub returns-clause-operators_low_mark : goal.returns-clause-operators_low_mark
returns-clause-operators_low_mark c = λ order. let low : 5 ≤ 4 = order.0.0 258 (operator_at 258 (window_at 4 [])) refl in absurd (omega arith)

pub returns-clause-operators_low_mark_of_the_third : goal.returns-clause-operators_low_mark_of_the_third
returns-clause-operators_low_mark_of_the_third c = λ order.
    let low : 7 ≤ 6 = order.1.0.0 258 (operator_at 258 (window_at 6 [])) refl in absurd (omega arith)
