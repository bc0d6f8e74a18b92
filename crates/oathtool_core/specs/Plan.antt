-- The values that a run reads before it prints, and the reasons why it stops.
use Rattle.std.specs.Prelude.{◌≡◌, ℕ, ◌+◌, ◌^◌, ◌⊎◌, ◌≤◌, nat_lt, if◌then◌else◌, List, Option, Some, None, Result, Ok, Err, option_map}
use Rattle.hmac_core.specs.declared.hash.Hash.{Hash}
use Rattle.hmac_core.specs.declared.hash.Hash.TheVariants.{Sha1}
use Rattle.otp_core.specs.Range.{IsFactor}
use Rattle.otp_core.specs.Totp.{step_of}
use Rattle.secret_text.specs.declared.fault.SecretFault.{SecretFault}
use Rattle.oathtool_core.specs.Key.{IsKeyOf, key_refusal}
use Rattle.oathtool_core.specs.StepSize.{step_size_of}
use Rattle.oathtool_core.specs.Time.{IsTimeText}
use Rattle.oathtool_core.specs.declared.codes.Generator.{Generator}
use Rattle.oathtool_core.specs.declared.fault.Fault.{Fault}
use Rattle.oathtool_core.specs.declared.fault.Fault.TheVariants.{BadTime, BadStepSize, BadKey, NoClock, BeforeStart, FactorTooLarge, Memory}
use Rattle.oathtool_core.specs.declared.plan.Plan.{Plan}
use Rattle.oathtool_core.specs.declared.plan.Times.{Times}
use Rattle.oathtool_core.specs.declared.words.Mode.{Mode}
use Rattle.oathtool_core.specs.declared.words.Mode.TheVariants.{Hotp, Totp}
use Rattle.oathtool_core.specs.declared.words.Words.{Words}

-- ---- the times and the step size

-- the text of `--now`, if there is one
abbrev pub time_text : Words → Option (List ℕ)
time_text words = option_map (λ text. text.now) words.time

-- the time of an optional text
abbrev pub IsTimeGiven : Option (List ℕ) → Option ℕ → Type 0
IsTimeGiven None now = now ≡ None
IsTimeGiven (Some text) None = ⊥
IsTimeGiven (Some text) (Some seconds) = IsTimeText text seconds

-- The words give the times and the step size.
pub record HasTimes (words : Words) (times : Times) : Type 0 where
  pub start : IsTimeText words.start.now times.start
  pub time : IsTimeGiven (time_text words) times.time
  pub step_size : step_size_of words.step_size.now ≡ Some times.step_size

-- the text gives no time
abbrev pub IsNoTime : List ℕ → Type 0
IsNoTime text = (seconds : ℕ) → IsTimeText text seconds → ⊥

-- there is a text, and it gives no time
abbrev pub IsNoTimeGiven : Option (List ℕ) → Type 0
IsNoTimeGiven None = ⊥
IsNoTimeGiven (Some text) = IsNoTime text

-- the start, or the given time, is not a time
abbrev pub HasBadTime : Words → Type 0
HasBadTime words = IsNoTime words.start.now ⊎ IsNoTimeGiven (time_text words)

-- the reason why the times or the step size are refused; a bad time comes first
abbrev pub IsTimesFault : Words → Fault → Type 0
IsTimesFault words BadTime = HasBadTime words
IsTimesFault words BadStepSize = (HasBadTime words → ⊥) × (step_size_of words.step_size.now ≡ None)
IsTimesFault words Memory = Unit {0}
IsTimesFault words _ = ⊥

-- ---- the key

-- The words give the secret.
pub record HasKey (words : Words) (secret : List ℕ) : Type 0 where
  pub taken : key_refusal words.is_base32 words.key.now ≡ None
  pub value : IsKeyOf words.is_base32 words.key.now secret

-- ---- the first factor

-- the time of the codes: the given one, or the clock's
abbrev pub moment_of : Option ℕ → Option ℕ → Option ℕ
moment_of (Some seconds) clock = Some seconds
moment_of None None = None
moment_of None (Some seconds) = if nat_lt seconds (2 ^ 40) then Some seconds else None

-- the time step of a time (RFC 6238, section 4.2)
abbrev pub step_at : Times → Option ℕ → Result ℕ Fault
step_at times None = Err NoClock
step_at times (Some seconds) =
    if nat_lt seconds times.start then Err BeforeStart else Ok (step_of seconds times.start times.step_size)

-- the counter, or the time step
abbrev pub first_in : Mode → ℕ → Times → Option ℕ → Result ℕ Fault
first_in Hotp counter times clock = Ok counter
first_in (Totp hash) counter times clock = step_at times (moment_of times.time clock)

-- the first factor that the words ask for
abbrev pub first_of : Words → Times → Option ℕ → Result ℕ Fault
first_of words times clock = first_in words.mode words.counter times clock

-- ---- the whole plan

-- The words and the clock give the secret and the first factor, and the window's last factor is in range.
pub record IsReady (words : Words) (clock : Option ℕ) (plan : Plan) : Type 0 where
  pub times : Times
  pub has_times : HasTimes words times
  pub has_key : HasKey words plan.secret
  pub first : first_of words times clock ≡ Ok plan.first
  pub range : IsFactor (plan.first + words.window)

-- The reasons why a run stops before it prints, in order. The times or the step size are wrong. The key is wrong. The
-- clock is missing, or the time is before the start. A factor is out of range.
pub data Stops (words : Words) (clock : Option ℕ) (fault : Fault) : Type 0 where
  AtTimes : IsTimesFault words fault → Stops words clock fault
  AtKey : (times : Times) → HasTimes words times
      → (refusal : SecretFault) → key_refusal words.is_base32 words.key.now ≡ Some refusal → fault ≡ BadKey refusal
      → Stops words clock fault
  AtFirst : (times : Times) (secret : List ℕ) → HasTimes words times → HasKey words secret
      → first_of words times clock ≡ Err fault → Stops words clock fault
  AtRange : (times : Times) (secret : List ℕ) (first : ℕ) → HasTimes words times → HasKey words secret
      → first_of words times clock ≡ Ok first → 2 ^ 62 ≤ first + words.window → fault ≡ FactorTooLarge
      → Stops words clock fault

-- ---- the parameters of the codes

-- the hash of a mode
abbrev pub hash_of : Mode → Hash
hash_of Hotp = Sha1
hash_of (Totp hash) = hash

-- The generator has the words' hash and digits, and the secret as its key.
pub record IsGenerator (words : Words) (secret : List ℕ) (generator : Generator) : Type 0 where
  pub hash : generator.hash ≡ hash_of words.mode
  pub key : generator.key.now ≡ secret
  pub digits : generator.digits ≡ words.digits
