-- The client's lead of 2 seconds is over the later mark, and of two equal lines the first is not apart from the second.
use Rattle.std.proofs.Common.{◌≡◌, ◌≤◌, [], true, false, refl, arith, inl}
use Rattle.std.specs.List.{IsDistinct}
use Rattle.sealed_port.specs.Examples.{client_at, window_at}
use Rattle.sealed_port.proofs.worked.lives_can_be_broken.Goals as goal

pub returns-clause-low_mark : goal.returns-clause-low_mark
returns-clause-low_mark c = λ order.
    let low : 12000000 ≤ 11999999 = order.0.0 258 10 (client_at 258 (window_at 0 [])) (client_at 258 (window_at 11999999 [])) (inl refl) refl refl in
    absurd (omega arith)

pub returns-clause-last_low_mark : goal.returns-clause-last_low_mark
returns-clause-last_low_mark c = λ order.
    let low : 12000000 ≤ 11999999 = order.1.0.0 258 10 (client_at 258 (window_at 12000000 [])) (client_at 258 (window_at 11999999 [])) (inl refl) refl refl in
    absurd (omega arith)

pub returns-clause-low_mark_of_the_second : goal.returns-clause-low_mark_of_the_second
returns-clause-low_mark_of_the_second c = λ order.
    let low : 12000000 ≤ 11999999 = order.1.0.0 258 10 (client_at 258 (window_at 0 [])) (client_at 258 (window_at 11999999 [])) (inl refl) refl refl in
    absurd (omega arith)

pub returns-clause-distinct : goal.returns-clause-distinct
unfolding IsDistinct
returns-clause-distinct c = ((refl, tt), (tt, tt))

pub returns-clause-twice : goal.returns-clause-twice
unfolding IsDistinct
returns-clause-twice c = λ distinct. let clash : true ≡ false = distinct.0.0 in absurd cc

pub returns-clause-last_twice : goal.returns-clause-last_twice
unfolding IsDistinct
returns-clause-last_twice c = λ distinct. let clash : true ≡ false = distinct.1.0.0 in absurd cc
