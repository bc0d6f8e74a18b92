use Rattle.std.proofs.Common.{◌≡◌, ℕ, length, map, lit<, ap, sym, ◌∙◌, subst, arith}
use Rattle.std.specs.List.{range_with_len}
use Rattle.std.proofs.lemmas.List.FromFn.{length-map-range_with_len, map-range_with_len_more}
use Rattle.otp_core.specs.Code.{IsCode, decimal_digits, digit_at}
use Rattle.otp_core.proofs.CodeLemmas.{IsCode-decimal_digits, count_of-bound, ten_pow-positive}
use Rattle.otp_core.proofs.digits.Code.of_number.Goals as goal

pub nonzero_div-number : goal.nonzero_div-number
nonzero_div-number c = rw c.pow-power.ensures (ten_pow-positive _)

pub push-requires : goal.push-requires
push-requires c =
    let bound = count_of-bound c.args.digits in
    let len = ap length c.loop-place.invariant
    ∙ length-map-range_with_len (digit_at c.count-count.result c.args.number) 0 c.loop-place.place in
    (lit< tt, omega arith)

pub loop-place-preserved : goal.loop-place-preserved
loop-place-preserved c =
    let digit = digit_at c.count-count.result c.args.number in
    let place = c.loop-place.place in
    rw (c.push.ensures.items, c.loop-place.invariant, c.pow-power.ensures)
    (sym (map-range_with_len_more digit 0 place place (omega arith)))

pub invariant_of-result : goal.invariant_of-result
invariant_of-result c =
    let bound = count_of-bound c.args.digits in
    let count = c.count-count.result in
    let all : c.loop-place.place ≡ count = omega arith in
    let e : c.loop-place.text.items ≡ decimal_digits count c.args.number =
    c.loop-place.invariant ∙ ap (λ (n : ℕ). map (digit_at count c.args.number) (range_with_len 0 n)) all in
    subst IsCode (sym e) (IsCode-decimal_digits count c.args.number (omega arith) (omega arith))
