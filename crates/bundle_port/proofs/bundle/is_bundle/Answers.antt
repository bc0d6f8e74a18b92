use Rattle.std.proofs.Common.{◌≡◌, ◌∙◌, Bool, true, false, List, ℕ, cond, get_or, is_some, None, drop, refl, sym, ap, arith}
use Rattle.bundle_port.specs.Bundle.{begins_bundle, is_bundle, parts_from}
use Rattle.bundle_port.proofs.BundleLemmas.{is_cut, is_whole, few_bytes, none_left}
use Rattle.bundle_port.proofs.bundle.is_bundle.Goals as goal
use Rattle.bundle_port.proofs.bundle.is_bundle.Goals.{then-len-lt-MIN_PART_LEN-via-then-len-lt-MIN_PART_LEN, then-len-lt-MIN_PART_LEN-via-else-len-lt-MIN_PART_LEN+then-bytes-place}

abbrev when_begins : List ℕ → Bool → Bool
when_begins bytes begins = is_some (cond begins (parts_from (drop 3 bytes) 0) None)

-- bytes that begin as a bundle are one if the rest is parts
by_rest : (bytes : List ℕ) (rest result : Bool) → begins_bundle bytes ≡ true → rest ≡ is_some (parts_from (drop 3 bytes) 0) → rest ≡ result → result ≡ is_bundle bytes
by_rest bytes rest result begins same is = sym is ∙ same ∙ sym (ap (when_begins bytes) begins)

pub returns-then-len-lt-MIN_PART_LEN : goal.returns-then-len-lt-MIN_PART_LEN
returns-then-len-lt-MIN_PART_LEN c =
    let bytes = c.args.bytes.now in
    let place = c.loop-place.place in
    let rest = is_some (parts_from (drop place bytes) 0) in
    by_rest bytes rest false (sym c.begins_bundle.ensures ∙ c.if-not-begins_bundle.false) c.loop-place.invariant.same
    (elim c.then-len-lt-MIN_PART_LEN.branch [
      | then-len-lt-MIN_PART_LEN-via-then-len-lt-MIN_PART_LEN w ↦ few_bytes bytes place (get_or bytes place 0) c.loop-place-test.true refl w.if-len-lt-MIN_PART_LEN.true
      | then-len-lt-MIN_PART_LEN-via-else-len-lt-MIN_PART_LEN+then-bytes-place w ↦ is_cut bytes place (get_or bytes place 0) c.loop-place-test.true refl w.if-bytes-place.true
    ])

pub loop-place-preserved : goal.loop-place-preserved
loop-place-preserved c =
    let bytes = c.args.bytes.now in
    let place = c.loop-place.place in
    record {
      within = omega arith;
      same = is_whole bytes place (get_or bytes place 0) c.loop-place-test.true refl c.if-len-lt-MIN_PART_LEN.false c.if-bytes-place.false ∙ c.loop-place.invariant.same;
    }

pub returns : goal.returns
returns c =
    let bytes = c.args.bytes.now in
    by_rest bytes (is_some (parts_from (drop c.loop-place.place bytes) 0)) true (sym c.begins_bundle.ensures ∙ c.if-not-begins_bundle.false)
    c.loop-place.invariant.same (none_left bytes c.loop-place.place c.loop-place.invariant.within c.loop-place-test.false)
