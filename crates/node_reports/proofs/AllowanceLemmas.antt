-- The requests of readers are bounded.
use Rattle.std.proofs.Common.{◌≡◌, ℕ, ◌+◌, ◌-◌, ◌/◌, ◌^◌, ◌<◌, ◌≤◌, max, min, Bool, true, false, cond, List, [], ◌∷◌, Some, refl, subst, sym, arith}
use Rattle.std.specs.Prelude.{All, nat_le}
use Rattle.std.proofs.Math.Nat.{div-mul-le_self, le_trans}
use Rattle.std.proofs.lemmas.List.Elements.{All-head, All-tail}
use Rattle.std.proofs.lemmas.Nat.{le-div}
use Rattle.node_reports.specs.Allowance.{AreBounded, IsBetween, Timed, time_of}
use Rattle.node_reports.specs.declared.allowance.Allowance.{Allowance}

-- an allowance of a clock that told a moment
abbrev told : ℕ → ℕ → Allowance
told used spans = record { used = used; spans = Some spans }

-- no time is given back twice
given_back : (used spans last until : ℕ) → spans ≤ until
    → used + (until - max last spans) ≤ used - (spans - last) + (until - last)
given_back used spans last until before = omega (arith, before)

-- a request that is not refused uses at most the longest time
no_overflow : (used micros longest : ℕ) → nat_le 1000000 used ≡ false → micros ≤ longest → longest < 2 ^ 63
    → min (used + micros) (2 ^ 64 - 1) ≡ used + micros
no_overflow used micros longest left short fits = grind arith

is_left : (used : ℕ) → nat_le 1000000 used ≡ false → used ≤ 1000000
is_left used left = grind arith

later_span : (moment last : ℕ) → moment ≤ last → moment / 50 ≤ last / 50
later_span moment last before = le-div (moment / 50) last 50 (omega arith) (le_trans (div-mul-le_self moment 50) before)

-- one request, which is refused or not, and the rest
one : (refused : Bool) (rest : Allowance → ℕ) (used left micros spans begun until bound : ℕ)
    → (refused ≡ true → rest (told used spans) + used ≤ bound + (until - spans))
    → (refused ≡ false → micros + rest (told (min (left + micros) (2 ^ 64 - 1)) begun) + used ≤ bound + (until - spans))
    → cond refused 0 micros + rest (cond refused (told used spans) (told (min (left + micros) (2 ^ 64 - 1)) begun)) + used
    ≤ bound + (until - spans)
one true rest used left micros spans begun until bound if_refused if_taken = omega (arith, if_refused refl)
one false rest used left micros spans begun until bound if_refused if_taken = if_taken refl

-- a request that is not refused
taken : (rest used left micros spans at until longest : ℕ) → left ≡ used - (at - spans) → at ≤ until
    → rest + (left + micros) ≤ 1000000 + longest + (until - max spans at)
    → micros + rest + used ≤ 1000000 + longest + (until - spans)
taken rest used left micros spans at until longest is before bounded =
    omega (arith, is, bounded, given_back used at spans until before)

bounded_from : (requests : List Timed) (first last longest used spans : ℕ) → longest < 2 ^ 63
    → All (IsBetween first last longest) requests → used ≤ 1000000 + longest
    → time_of (told used spans) requests + used ≤ 1000000 + longest + (last / 50 - spans)
bounded_from [] first last longest used spans fits all few = omega (arith, few)
bounded_from (request ∷ requests) first last longest used spans fits all few =
    let P : Timed → Type 0 = IsBetween first last longest in
    let this = All-head P request requests all in
    let behind = All-tail P request requests all in
    let at = request.began / 50 in
    let left = used - (at - spans) in
    let micros = request.ended - request.began in
    let short : micros ≤ longest = omega (arith, this.most) in
    let before : at ≤ last / 50 = later_span request.began last this.to in
    one (nat_le 1000000 left) (λ allowance. time_of allowance requests) used left micros spans (max spans at) (last / 50) (1000000 + longest)
    (λ refused. bounded_from requests first last longest used spans fits behind few)
    (λ kept.
    let sum = no_overflow left micros longest kept short fits in
    let Q : ℕ → Type 0 = λ n. micros + time_of (told n (max spans at)) requests + used ≤ 1000000 + longest + (last / 50 - spans) in
    let next = bounded_from requests first last longest (left + micros) (max spans at) fits behind (omega (arith, short, is_left left kept)) in
    subst Q (sym sum) (taken (time_of (told (left + micros) (max spans at)) requests) used left micros spans at (last / 50) longest refl before next))

-- the first request of all, before which the clock told no moment
pub are_bounded : (requests : List Timed) → AreBounded requests
are_bounded [] first last longest fits all = omega arith
are_bounded (request ∷ requests) first last longest fits all =
    let P : Timed → Type 0 = IsBetween first last longest in
    let this = All-head P request requests all in
    let behind = All-tail P request requests all in
    let at = request.began / 50 in
    let micros = request.ended - request.began in
    let short : micros ≤ longest = omega (arith, this.most) in
    let sum = no_overflow 0 micros longest refl short fits in
    let since : first / 50 ≤ at = later_span first request.began this.from in
    let next = bounded_from requests first last longest (0 + micros) at fits behind (omega (arith, short)) in
    let Q : ℕ → Type 0 = λ n. micros + time_of (told n at) requests ≤ 1000000 + longest + (last / 50 - first / 50) in
    subst Q (sym sum) (omega (arith, next, since))
