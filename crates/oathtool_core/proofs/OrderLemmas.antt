-- What stops a run.
use Rattle.std.proofs.Common.{◌≡◌, ℕ, ◌+◌, ◌^◌, ◌<◌, List, Option, Some, None, inl, inr, refl, sym, ap, ◌∙◌, arith}
use Rattle.std.specs.Prelude.{Ok, Err}
use Rattle.secret_text.specs.declared.fault.SecretFault.{SecretFault}
use Rattle.oathtool_core.specs.Examples.{IsOr}
use Rattle.oathtool_core.specs.Key.{key_refusal}
use Rattle.oathtool_core.specs.Plan.{AtFirst, AtKey, AtRange, AtTimes, HasBadTime, HasKey, HasTimes, IsTimeGiven, IsTimesFault, Stops, first_of, time_text}
use Rattle.oathtool_core.specs.StepSize.{step_size_of}
use Rattle.oathtool_core.specs.declared.fault.Fault.{Fault}
use Rattle.oathtool_core.specs.declared.fault.Fault.TheVariants.{BadTime, BadStepSize, BadKey, NoClock, BeforeStart, FactorTooLarge, NoMatch, Memory, CannotWrite, NotText}
use Rattle.oathtool_core.specs.declared.plan.Times.{Times}
use Rattle.oathtool_core.specs.declared.words.Words.{Words}
use Rattle.oathtool_core.proofs.RunLemmas.{no_bad_time}
use Rattle.oathtool_core.proofs.TimeLemmas.{one_either}

-- ---- the times are known from the words

pub one_given : (given : Option (List ℕ)) (a b : Option ℕ) → IsTimeGiven given a → IsTimeGiven given b → a ≡ b
one_given None a b p q = p ∙ sym q
one_given (Some text) None b p q = absurd p
one_given (Some text) (Some s) None p q = absurd q
one_given (Some text) (Some s) (Some t) p q = ap (λ (n : ℕ). Some n) (one_either text s t p.1 q.1)

abbrev times_of : ℕ → Option ℕ → ℕ → Times
times_of start time step_size = record { start = start; time = time; step_size = step_size }

one_times : (words : Words) (a b : Times) → HasTimes words a → HasTimes words b → a ≡ b
one_times words a b p q =
    let start : a.start ≡ b.start = one_either words.start.now a.start b.start p.start.1 q.start.1 in
    let time : a.time ≡ b.time = one_given (time_text words) a.time b.time p.time q.time in
    let both : Some a.step_size ≡ Some b.step_size = sym p.step_size ∙ q.step_size in
    let step_size : a.step_size ≡ b.step_size = cc in
    ap (λ (n : ℕ). times_of n a.time a.step_size) start ∙ ap (λ (t : Option ℕ). times_of b.start t a.step_size) time
    ∙ ap (λ (n : ℕ). times_of b.start b.time n) step_size

pub no_bad_times : (words : Words) (times : Times) → HasTimes words times → HasBadTime words → ⊥
no_bad_times words times has = no_bad_time words words.start.now times.start times.time refl has.start has.time

-- good times are no fault
only_memory : (words : Words) (times : Times) (fault : Fault) → HasTimes words times → IsTimesFault words fault → fault ≡ Memory
only_memory words times BadTime has f = absurd (no_bad_times words times has f)
only_memory words times BadStepSize has f = let both : None ≡ Some times.step_size = sym f.1 ∙ has.step_size in absurd (cc both)
only_memory words times (BadKey k) has f = absurd f
only_memory words times NoClock has f = absurd f
only_memory words times BeforeStart has f = absurd f
only_memory words times FactorTooLarge has f = absurd f
only_memory words times NoMatch has f = absurd f
only_memory words times Memory has f = refl
only_memory words times CannotWrite has f = absurd f
only_memory words times NotText has f = absurd f

-- ---- each fault in its turn

at_bad_time : (words : Words) (fault : Fault) → HasBadTime words → IsTimesFault words fault → IsOr BadTime fault
at_bad_time words BadTime bad f = inl refl
at_bad_time words BadStepSize bad f = absurd (f.0 bad)
at_bad_time words (BadKey k) bad f = absurd f
at_bad_time words NoClock bad f = absurd f
at_bad_time words BeforeStart bad f = absurd f
at_bad_time words FactorTooLarge bad f = absurd f
at_bad_time words NoMatch bad f = absurd f
at_bad_time words Memory bad f = inr refl
at_bad_time words CannotWrite bad f = absurd f
at_bad_time words NotText bad f = absurd f

pub bad_time_first : (words : Words) (clock : Option ℕ) (fault : Fault) → HasBadTime words → Stops words clock fault → IsOr BadTime fault
bad_time_first words clock fault bad (AtTimes f) = at_bad_time words fault bad f
bad_time_first words clock fault bad (AtKey times has refusal e is) = absurd (no_bad_times words times has bad)
bad_time_first words clock fault bad (AtFirst times secret has key e) = absurd (no_bad_times words times has bad)
bad_time_first words clock fault bad (AtRange times secret first has key e above is) = absurd (no_bad_times words times has bad)

at_bad_step_size : (words : Words) (fault : Fault) → (HasBadTime words → ⊥) → IsTimesFault words fault → IsOr BadStepSize fault
at_bad_step_size words BadTime good f = absurd (good f)
at_bad_step_size words BadStepSize good f = inl refl
at_bad_step_size words (BadKey k) good f = absurd f
at_bad_step_size words NoClock good f = absurd f
at_bad_step_size words BeforeStart good f = absurd f
at_bad_step_size words FactorTooLarge good f = absurd f
at_bad_step_size words NoMatch good f = absurd f
at_bad_step_size words Memory good f = inr refl
at_bad_step_size words CannotWrite good f = absurd f
at_bad_step_size words NotText good f = absurd f

pub no_step_size : (words : Words) (times : Times) → step_size_of words.step_size.now ≡ None → HasTimes words times → ⊥
no_step_size words times none has = let both : None ≡ Some times.step_size = sym none ∙ has.step_size in cc both

pub bad_step_size_next : (words : Words) (clock : Option ℕ) (fault : Fault) → (HasBadTime words → ⊥)
    → step_size_of words.step_size.now ≡ None → Stops words clock fault → IsOr BadStepSize fault
bad_step_size_next words clock fault good none (AtTimes f) = at_bad_step_size words fault good f
bad_step_size_next words clock fault good none (AtKey times has refusal e is) = absurd (no_step_size words times none has)
bad_step_size_next words clock fault good none (AtFirst times secret has key e) = absurd (no_step_size words times none has)
bad_step_size_next words clock fault good none (AtRange times secret first has key e above is) = absurd (no_step_size words times none has)

no_key : (words : Words) (secret : List ℕ) (refusal : SecretFault) → key_refusal words.is_base32 words.key.now ≡ Some refusal
    → HasKey words secret → ⊥
no_key words secret refusal e key = let both : None ≡ Some refusal = sym key.taken ∙ e in cc both

pub bad_key_next : (words : Words) (clock : Option ℕ) (fault : Fault) (times : Times) (refusal : SecretFault) → HasTimes words times
    → key_refusal words.is_base32 words.key.now ≡ Some refusal → Stops words clock fault → IsOr (BadKey refusal) fault
bad_key_next words clock fault times refusal has e (AtTimes f) = inr (only_memory words times fault has f)
bad_key_next words clock fault times refusal has e (AtKey others h other o is) =
    let both : Some other ≡ Some refusal = sym o ∙ e in
    let same : other ≡ refusal = cc in
    inl (is ∙ ap (λ (k : SecretFault). BadKey k) same)
bad_key_next words clock fault times refusal has e (AtFirst others secret h key o) = absurd (no_key words secret refusal e key)
bad_key_next words clock fault times refusal has e (AtRange others secret first h key o above is) = absurd (no_key words secret refusal e key)

first_again : (words : Words) (clock : Option ℕ) (a b : Times) → HasTimes words a → HasTimes words b
    → first_of words a clock ≡ first_of words b clock
first_again words clock a b p q = ap (λ (t : Times). first_of words t clock) (one_times words a b p q)

pub first_fault_next : (words : Words) (clock : Option ℕ) (fault : Fault) (times : Times) (secret : List ℕ) (refusal : Fault)
    → HasTimes words times → HasKey words secret → first_of words times clock ≡ Err refusal → Stops words clock fault → IsOr refusal fault
first_fault_next words clock fault times secret refusal has key e (AtTimes f) = inr (only_memory words times fault has f)
first_fault_next words clock fault times secret refusal has key e (AtKey others h other o is) = absurd (no_key words secret other o key)
first_fault_next words clock fault times secret refusal has key e (AtFirst others s h k o) =
    let both : Err fault ≡ Err refusal = sym o ∙ first_again words clock others times h has ∙ e in
    let same : fault ≡ refusal = cc in
    inl same
first_fault_next words clock fault times secret refusal has key e (AtRange others s first h k o above is) =
    let both : Ok first ≡ Err refusal = sym o ∙ first_again words clock others times h has ∙ e in
    absurd (cc both)

pub range_next : (words : Words) (clock : Option ℕ) (fault : Fault) (times : Times) (secret : List ℕ) (first : ℕ)
    → HasTimes words times → HasKey words secret → first_of words times clock ≡ Ok first → Stops words clock fault
    → IsOr FactorTooLarge fault
range_next words clock fault times secret first has key e (AtTimes f) = inr (only_memory words times fault has f)
range_next words clock fault times secret first has key e (AtKey others h other o is) = absurd (no_key words secret other o key)
range_next words clock fault times secret first has key e (AtFirst others s h k o) =
    let both : Err fault ≡ Ok first = sym o ∙ first_again words clock others times h has ∙ e in
    absurd (cc both)
range_next words clock fault times secret first has key e (AtRange others s other h k o above is) = inl is

pub none_left : (words : Words) (clock : Option ℕ) (fault : Fault) (times : Times) (secret : List ℕ) (first : ℕ)
    → HasTimes words times → HasKey words secret → first_of words times clock ≡ Ok first → first + words.window < 2 ^ 62
    → Stops words clock fault → fault ≡ Memory
none_left words clock fault times secret first has key e below (AtTimes f) = only_memory words times fault has f
none_left words clock fault times secret first has key e below (AtKey others h other o is) = absurd (no_key words secret other o key)
none_left words clock fault times secret first has key e below (AtFirst others s h k o) =
    let both : Err fault ≡ Ok first = sym o ∙ first_again words clock others times h has ∙ e in
    absurd (cc both)
none_left words clock fault times secret first has key e below (AtRange others s other h k o above is) =
    let both : Ok other ≡ Ok first = sym o ∙ first_again words clock others times h has ∙ e in
    let same : other ≡ first = cc in
    absurd (omega (arith, above, below, same))
