-- Packed fields and those that they are unpacked to.
use Rattle.std.proofs.Common.{◌≡◌, ℕ, ◌+◌, ◌^◌, ◌<◌, ◌≤◌, Bool, true, false, cond, eqb, leb, List, ◌++◌, length, take, drop, Some, None, refl, sym, ap, subst, ◌∙◌, arith, length-append}
use Rattle.std.specs.Prelude.{◌&&◌}
use Rattle.std.specs.Int.{w64, from_be_bytes, to_be_bytes}
use Rattle.std.proofs.lemmas.Bool.{and_parts, eqb-true, leb-true}
use Rattle.std.proofs.lemmas.List.{drop_at, length-take}
use Rattle.std.proofs.lemmas.Nat.{from_be_bytes-to_be_bytes_8}
use Rattle.floor_store.specs.Records.{ProposalRecord, SpanRecord, span_of}
use Rattle.vote_core.specs.declared.message.Message.TheVariants.{Ask as AskOf}
use Rattle.vote_wire.specs.Body.{head_bytes, vote_bytes}
use Rattle.vote_wire.specs.Bytes.{AreBytes, byte_at, number_at}
use Rattle.vote_wire.proofs.SpellingLemmas.{spelled}
use Rattle.named_wire.specs.declared.head.Kind.{Kind}
use Rattle.named_wire.specs.declared.head.Kind.TheVariants.{Ask, Grant, Deny, Floor, Floors}
use Rattle.named_port.specs.Wire.{is_span, packed, packed_vote, packed_vote_bytes, short_fields, unpacked, unpacked_vote}
use Rattle.named_port.proofs.SpellingLemmas.{drop_fits, front_fits, short_parts, vote_fits, vote_parts, vote_repacked}
use Rattle.named_port.proofs.WireLemmas.{span_packed, span_unpacked}

some_is : (x y : List ℕ) → Some x ≡ Some y → x ≡ y
some_is x y e = cc

-- ---- the fields of a vote, by its proposal and its span

abbrev proposal_in : List ℕ → ProposalRecord
proposal_in fields = record { node = byte_at fields 0; boot = number_at fields 1; seq = number_at fields 9 }

abbrev span_in : List ℕ → SpanRecord
span_in fields = span_of (number_at fields 17) (number_at fields 25)

vote_spelled : (fields : List ℕ) → AreBytes fields → length fields ≡ 33 → fields ≡ vote_bytes (proposal_in fields) (span_in fields)
vote_spelled fields fits len =
    let bytes = head_bytes 1 1 1 0 ++ fields in
    let fit : AreBytes bytes = front_fits (record { kind = Ask; from = 1; to = 1; boot = 0 }) 0 fields (omega arith) (omega arith) fits in
    ap (λ (l : List ℕ). drop 10 l) (spelled bytes 1 1 (AskOf (proposal_in fields) 0 (span_in fields)) fit (
      record { number_of_bytes = omega (arith, len); mark_0_at = refl; mark_1_at = refl; version_at = refl; kind_at = refl; from_at = refl; to_at = refl; token_at = refl },
      record { node_at = refl; boot_at = refl; seq_at = refl },
      record { lo_at = refl; hi_at = refl },
    ))

number_below : (bytes : List ℕ) → AreBytes bytes → from_be_bytes w64 bytes < 2 ^ 64
number_below bytes fits = omega (arith, fits 0, fits 1, fits 2, fits 3, fits 4, fits 5, fits 6, fits 7)

field_below : (bytes : List ℕ) (place : ℕ) → AreBytes bytes → number_at bytes place < 2 ^ 64
field_below bytes place fits = number_below (drop place bytes) (drop_fits place bytes fits)

-- ---- packed and unpacked again

record IsPacked (node : ℕ) (fields short : List ℕ) : Type 0 where
  len : length fields ≡ 33
  node_is : byte_at fields 0 ≡ node
  ordered : number_at fields 17 ≤ number_at fields 25
  within : number_at fields 25 ≤ number_at fields 17 + 1
  short_is : take 24 (drop 1 fields) ++ drop 32 fields ≡ short

packed_parts : (node : ℕ) (fields short : List ℕ) → packed_vote node fields ≡ Some short → IsPacked node fields short
packed_parts node fields short e = go (eqb (length fields) 33 && (eqb (byte_at fields 0) node && is_span (number_at fields 17) (number_at fields 25))) refl e
  where
    go : (test : Bool) → (eqb (length fields) 33 && (eqb (byte_at fields 0) node && is_span (number_at fields 17) (number_at fields 25))) ≡ test
        → cond test (Some (take 24 (drop 1 fields) ++ drop 32 fields)) None ≡ Some short → IsPacked node fields short
    go false is e = absurd cc
    go true is e =
        let a = and_parts (eqb (length fields) 33) (eqb (byte_at fields 0) node && is_span (number_at fields 17) (number_at fields 25)) is in
        let b = and_parts (eqb (byte_at fields 0) node) (is_span (number_at fields 17) (number_at fields 25)) a.1 in
        let c = and_parts (leb (number_at fields 17) (number_at fields 25)) (leb (number_at fields 25) (number_at fields 17 + 1)) b.1 in
        record {
          len = eqb-true (length fields) 33 a.0;
          node_is = eqb-true (byte_at fields 0) node b.0;
          ordered = leb-true (number_at fields 17) (number_at fields 25) c.0;
          within = leb-true (number_at fields 25) (number_at fields 17 + 1) c.1;
          short_is = some_is _ _ e;
        }

vote_again : (node : ℕ) (fields short : List ℕ) → AreBytes fields → packed_vote node fields ≡ Some short → unpacked_vote node short ≡ Some fields
vote_again node fields short fits e =
    let k = packed_parts node fields short e in
    let p = proposal_in fields in
    let s = span_in fields in
    let is : fields ≡ vote_bytes p s = vote_spelled fields fits k.len in
    let short_is : short ≡ packed_vote_bytes p s = sym k.short_is ∙ ap (λ (l : List ℕ). take 24 (drop 1 l) ++ drop 32 l) is in
    ap (unpacked_vote node) short_is ∙ span_unpacked node p s k.node_is k.ordered k.within (field_below fields 25 fits) ∙ ap (λ (l : List ℕ). Some l) (sym is)

short_again : (fields short : List ℕ) → short_fields fields ≡ Some short → short_fields short ≡ Some fields
short_again fields short e =
    let same = short_parts fields short e in
    subst (λ (l : List ℕ). short_fields l ≡ Some fields) same (e ∙ ap (λ (l : List ℕ). Some l) (sym same))

pub again_law : (kind : Kind) (from to : ℕ) (fields short : List ℕ) → AreBytes fields → packed kind from to fields ≡ Some short → unpacked kind from to short ≡ Some fields
again_law Ask from to fields short fits e = vote_again from fields short fits e
again_law Grant from to fields short fits e = vote_again to fields short fits e
again_law Deny from to fields short fits e = short_again fields short e
again_law Floor from to fields short fits e = short_again fields short e
again_law Floors from to fields short fits e = absurd cc

-- ---- unpacked and packed again

vote_back : (node : ℕ) (short fields : List ℕ) → node < 256 → AreBytes short → unpacked_vote node short ≡ Some fields → packed_vote node fields ≡ Some short
vote_back node short fields low fits e =
    let u = vote_parts node short fields e in
    let fit = vote_fits node short fields low fits e in
    let p = proposal_in fields in
    let s = span_in fields in
    let len24 : length (take 24 short) ≡ 24 = omega (arith, length-take 24 short, u.len) in
    let last_bytes : to_be_bytes w64 u.last ≡ drop 25 fields = sym (drop_at (take 24 short) (to_be_bytes w64 u.last) 24 len24) ∙ ap (λ (l : List ℕ). drop 25 l) u.whole_is in
    let len : length fields ≡ 33 = sym (ap length u.whole_is) ∙ omega (arith, length-append (take 24 short) (to_be_bytes w64 u.last), len24) in
    let is : fields ≡ vote_bytes p s = vote_spelled fields fit len in
    let short_is : short ≡ packed_vote_bytes p s = vote_repacked node short p s (e ∙ ap (λ (l : List ℕ). Some l) is) in
    let first_below = field_below short 16 fits in
    let last : s.hi ≡ u.last = sym (ap (λ (l : List ℕ). from_be_bytes w64 l) last_bytes) ∙ from_be_bytes-to_be_bytes_8 u.last (u.span.below first_below) in
    let first : number_at short 16 ≡ s.lo = ap (λ (l : List ℕ). number_at l 16) short_is ∙ from_be_bytes-to_be_bytes_8 s.lo (field_below fields 17 fit) in
    let node_is : byte_at fields 0 ≡ node = sym (ap (λ (l : List ℕ). byte_at l 0) u.whole_is) in
    ap (packed_vote node) is
    ∙ span_packed node p s node_is (omega (arith, u.span.ordered, first, last)) (omega (arith, u.span.short, first, last)) (field_below fields 25 fit)
    ∙ ap (λ (l : List ℕ). Some l) (sym short_is)

pub back_law : (kind : Kind) (from to : ℕ) (short fields : List ℕ) → from < 256 → to < 256 → AreBytes short → unpacked kind from to short ≡ Some fields → packed kind from to fields ≡ Some short
back_law Ask from to short fields low high fits e = vote_back from short fields low fits e
back_law Grant from to short fields low high fits e = vote_back to short fields high fits e
back_law Deny from to short fields low high fits e = short_again short fields e
back_law Floor from to short fields low high fits e = short_again short fields e
back_law Floors from to short fields low high fits e = absurd cc
