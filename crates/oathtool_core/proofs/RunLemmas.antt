-- How a run ends.
use Rattle.std.proofs.Common.{◌≡◌, ℕ, ◌+◌, ◌^◌, ◌<◌, ◌≤◌, Bool, true, false, List, [], Option, Some, None, inl, inr, refl, sym, ap, ◌∙◌, subst, append-nil, arith}
use Rattle.std.specs.Prelude.{Result, Ok, Err, IfErr, OnErr, IsErrAnd}
use Rattle.std.specs.Io.KnownBytes.{Appends}
use Rattle.secret_text.specs.declared.fault.SecretFault.{SecretFault}
use Rattle.oathtool_core.specs.Key.{IsKeyOf, key_refusal}
use Rattle.oathtool_core.specs.Offset.{HasNoOffset}
use Rattle.oathtool_core.specs.Plan.{HasBadTime, HasKey, HasTimes, IsGenerator, IsNoTimeGiven, IsReady, IsTimeGiven, IsTimesFault, Stops, AtKey, AtFirst, AtRange, first_of, time_text}
use Rattle.oathtool_core.specs.Run.{EndsSo, Fails, IsUnmatched, Stopped, Unmatched, otp_text}
use Rattle.oathtool_core.specs.Time.{IsTimeText}
use Rattle.oathtool_core.specs.TimeFault.{fault_of}
use Rattle.oathtool_core.specs.declared.fault.Fault.{Fault}
use Rattle.oathtool_core.specs.declared.codes.Generator.{Generator}
use Rattle.oathtool_core.specs.declared.fault.Fault.TheVariants.{BadKey, FactorTooLarge, NoMatch}
use Rattle.oathtool_core.specs.declared.plan.Plan.{Plan}
use Rattle.oathtool_core.specs.declared.words.Mode.{Mode}
use Rattle.oathtool_core.specs.declared.words.Mode.TheVariants.{Hotp}
use Rattle.oathtool_core.specs.declared.plan.Times.{Times}
use Rattle.oathtool_core.specs.declared.time.TimeFault.{TimeFault}
use Rattle.oathtool_core.specs.declared.time.TimeFault.TheVariants.{BadTime, Memory}
use Rattle.oathtool_core.specs.declared.words.Words.{Words}

-- what is not written to
pub nothing_written : (known : Option (List ℕ)) → Appends known known []
nothing_written None = tt
nothing_written (Some bytes) = sym (append-nil bytes)

-- the error that a ? passes on
pub same_error : {T E : Type 0} (r : Result T E) (e : E) → IsErrAnd r (λ x. x ≡ e) → r ≡ Err e
same_error (Ok v) e h = absurd h
same_error (Err x) e h = ap (λ y. Err y) h

-- ---- stops

pub error_weaker : {T E : Type 0} (r : Result T E) (P Q : Type 0) → (P → Q) → OnErr r P → OnErr r Q
error_weaker (Ok v) P Q f h = h
error_weaker (Err e) P Q f h = f h

pub key_stops : {T : Type 0} (words : Words) (clock : Option ℕ) (times : Times) (r : Result T Fault) (refusal : SecretFault)
    → IsErrAnd r (λ fault. fault ≡ BadKey refusal) → HasTimes words times
    → Some refusal ≡ key_refusal words.is_base32 words.key.now → IfErr r (Stops words clock)
key_stops words clock times (Ok v) refusal h has e = absurd h
key_stops words clock times (Err fault) refusal h has e = AtKey times has refusal (sym e) h

pub has_key : (words : Words) (text secret : List ℕ) → text ≡ words.key.now → None ≡ key_refusal words.is_base32 text
    → IsKeyOf words.is_base32 text secret → HasKey words secret
has_key words text secret e none value = record {
  taken = sym (ap (key_refusal words.is_base32) e) ∙ sym none;
  value = subst (λ (t : List ℕ). IsKeyOf words.is_base32 t secret) e value;
}

pub first_stops : {T : Type 0} (words : Words) (clock : Option ℕ) (times : Times) (secret : List ℕ) (r : Result T Fault) (e : Fault)
    → IsErrAnd r (λ fault. fault ≡ e) → HasTimes words times → HasKey words secret
    → Err e ≡ first_of words times clock → IfErr r (Stops words clock)
first_stops words clock times secret (Ok v) e h has key first = absurd h
first_stops words clock times secret (Err fault) e h has key first =
    AtFirst times secret has key (sym first ∙ ap (λ (f : Fault). Err f) (sym h))

not_below : (n m : ℕ) → (n < m → ⊥) → m ≤ n
not_below n m h = omega arith

pub range_stops : (words : Words) (clock : Option ℕ) (times : Times) (secret : List ℕ) (first : ℕ) (test : Bool)
    → HasTimes words times → HasKey words secret → Ok first ≡ first_of words times clock
    → test ≡ false → (first + words.window < 2 ^ 62 → test ≡ true) → Stops words clock FactorTooLarge
range_stops words clock times secret first test has key e no_range range =
    AtRange times secret first has key (sym e) (not_below (first + words.window) (2 ^ 62) (λ h. let is_true = range h in cc)) refl

-- ---- times

pub time_fails : {T : Type 0} (words : Words) (r : Result T Fault) (time : TimeFault) → IsErrAnd r (λ fault. fault ≡ fault_of time)
    → (time ≡ BadTime → HasBadTime words) → IfErr r (IsTimesFault words)
time_fails words (Ok v) time h bad = absurd h
time_fails words (Err fault) BadTime h bad = subst (IsTimesFault words) (sym h) (bad refl)
time_fails words (Err fault) Memory h bad = subst (IsTimesFault words) (sym h) tt

-- ---- ends

pub ends_stopped : (words : Words) (clock : Option ℕ) (r : Result Unit Fault) (e : Fault) (known : Option (List ℕ))
    → IsErrAnd r (λ fault. fault ≡ e) → Stops words clock e → EndsSo words clock r known known
ends_stopped words clock (Ok done) e known h s = absurd h
ends_stopped words clock (Err fault) e known h s = Stopped (subst (Stops words clock) (sym h) s) (nothing_written known)

pub on_error : {T E : Type 0} (r : Result T E) (P : Type 0) → P → OnErr r P
on_error (Ok v) P h = tt
on_error (Err e) P h = h

pub not_both_times : (given : Option (List ℕ)) (time : Option ℕ) → IsTimeGiven given time → IsNoTimeGiven given → ⊥
not_both_times None time h none = none
not_both_times (Some text) None h none = h
not_both_times (Some text) (Some seconds) h none = none seconds h

pub no_bad_time : (words : Words) (text : List ℕ) (start : ℕ) (time : Option ℕ) → text ≡ words.start.now
    → IsTimeText text start → IsTimeGiven (time_text words) time → HasBadTime words → ⊥
no_bad_time words text start time e h given (inl none) = none start (subst (λ (t : List ℕ). IsTimeText t start) e h)
no_bad_time words text start time e h given (inr none) = not_both_times (time_text words) time given none

pub ends_unmatched : (words : Words) (clock : Option ℕ) (plan : Plan) (generator : Generator) (otp : List ℕ) (known : Option (List ℕ))
    → IsReady words clock plan → IsGenerator words plan.secret generator → words.mode ≡ Hotp → otp_text words ≡ Some otp
    → HasNoOffset generator otp plan.first words.window → Fails words clock NoMatch known known
ends_unmatched words clock plan generator otp known ready made mode e none = Unmatched refl (record {
  plan = plan;
  ready = ready;
  generator = generator;
  made_with = made;
  unmatched = subst (λ (m : Mode). IsUnmatched m (otp_text words) generator plan.first words.window) (sym mode)
      (subst (λ (o : Option (List ℕ)). IsUnmatched Hotp o generator plan.first words.window) (sym e) none);
  written = nothing_written known;
})
