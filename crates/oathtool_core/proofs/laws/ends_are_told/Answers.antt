-- The ways in which a run fails, one by one, and the one code that some words ask for.
use Rattle.std.proofs.Common.{◌≡◌, ℕ, ◌+◌, ◌^◌, ◌<◌, false, List, [], ◌∷◌, Option, Some, None, Result, Ok, inl, inr, refl, ap, ◌∙◌, subst, append-nil, arith}
use Rattle.std.specs.Prelude.{◌⊎◌, Err, codes}
use Rattle.hex.specs.Hex.{decode_of, decode_pairs}
use Rattle.program_edge.specs.Line.{line_of}
use Rattle.hmac_core.specs.declared.hash.Hash.{Hash}
use Rattle.hmac_core.specs.declared.hash.Hash.TheVariants.{Sha1}
use Rattle.otp_core.specs.Digits.{count_of}
use Rattle.otp_core.specs.Hotp.{code_of}
use Rattle.otp_core.specs.declared.digits.Digits.{Digits}
use Rattle.otp_core.specs.declared.digits.Digits.TheVariants.{Eight}
use Rattle.oathtool_core.specs.Codes.{code_at}
use Rattle.oathtool_core.specs.Plan.{HasKey, HasTimes, IsGenerator, IsReady, first_of}
use Rattle.oathtool_core.specs.Run.{EndsSo, IsUnmatched, Stopped, Unmatched, Unwritten}
use Rattle.oathtool_core.specs.declared.codes.Generator.{Generator}
use Rattle.oathtool_core.specs.declared.fault.Fault.{Fault}
use Rattle.oathtool_core.specs.declared.fault.Fault.TheVariants.{NoMatch, Memory, CannotWrite}
use Rattle.oathtool_core.specs.declared.plan.Plan.{Plan}
use Rattle.oathtool_core.specs.declared.plan.Times.{Times}
use Rattle.oathtool_core.specs.declared.words.Mode.TheVariants.{Hotp}
use Rattle.oathtool_core.specs.declared.words.Words.{Words}
use Rattle.oathtool_core.proofs.OrderLemmas.{none_left}
use Rattle.oathtool_core.proofs.laws.ends_are_told.Goals as goal

nothing_written : (words : Words) (clock : Option ℕ) (fault : Fault) (text : List ℕ)
    → EndsSo words clock (Err fault) (Some []) (Some text) → (fault ≡ CannotWrite → ⊥) → text ≡ []
nothing_written words clock fault text (Stopped stops written) not = written
nothing_written words clock fault text (Unmatched is found) not = found.written
nothing_written words clock fault text (Unwritten is) not = absurd (not is)

nothing_known : (words : Words) (clock : Option ℕ) (fault : Fault) → EndsSo words clock (Err fault) (Some []) None
    → fault ≡ CannotWrite
nothing_known words clock fault (Stopped stops written) = absurd written
nothing_known words clock fault (Unmatched is found) = absurd found.written
nothing_known words clock fault (Unwritten is) = is

nothing_stops : (words : Words) (clock : Option ℕ) (fault : Fault) (times : Times) (secret : List ℕ) (first : ℕ)
    (old new : Option (List ℕ)) → HasTimes words times → HasKey words secret → first_of words times clock ≡ Ok first
    → first + words.window < 2 ^ 62 → EndsSo words clock (Err fault) old new
    → (fault ≡ Memory) ⊎ ((fault ≡ NoMatch) ⊎ (fault ≡ CannotWrite))
nothing_stops words clock fault times secret first old new has key e below (Stopped stops written) =
    inl (none_left words clock fault times secret first has key e below stops)
nothing_stops words clock fault times secret first old new has key e below (Unmatched is found) = inr (inl is)
nothing_stops words clock fault times secret first old new has key e below (Unwritten is) = inr (inr is)

same_ok : {A E : Type 0} (result : Result A E) (x y : A) → result ≡ Ok x → result ≡ Ok y → x ≡ y
same_ok result x y one other = cc

pub returns-clause-nothing_written : goal.returns-clause-nothing_written
returns-clause-nothing_written c = nothing_written

pub returns-clause-nothing_known : goal.returns-clause-nothing_known
returns-clause-nothing_known c = nothing_known

pub returns-clause-nothing_stops : goal.returns-clause-nothing_stops
returns-clause-nothing_stops c = nothing_stops

pub returns-clause-no_otp : goal.returns-clause-no_otp
returns-clause-no_otp c = λ words clock old new h. h.unmatched

-- the words that ask for the one code of counter 7
asking : Words → Words
asking words = record words { mode = Hotp; counter = 7; window = 0; digits = Eight; is_base32 = false }

-- the code that they ask for
code_is : (words : Words) (clock : Option ℕ) (plan : Plan) (generator : Generator) → words.key.now ≡ codes "61"
    → IsReady (asking words) clock plan → IsGenerator (asking words) plan.secret generator
    → code_at generator plan.first ≡ code_of Sha1 (97 ∷ []) 7 8
unfolding decode_pairs asking
code_is words clock plan generator key ready made =
    let first : plan.first ≡ 7 = same_ok (Ok 7) plan.first 7 ready.first refl in
    let read : decode_of (codes "61") ≡ Ok (97 ∷ []) = refl in
    let secret : plan.secret ≡ 97 ∷ [] =
    same_ok (decode_of words.key.now) plan.secret (97 ∷ []) ready.has_key.value (ap decode_of key ∙ read) in
    ap (λ (factor : ℕ). code_at generator factor) first
    ∙ ap (λ (hash : Hash). code_of hash generator.key.now 7 (count_of generator.digits)) made.hash
    ∙ ap (λ (key : List ℕ). code_of Sha1 key 7 (count_of generator.digits)) (made.key ∙ secret)
    ∙ ap (λ (digits : Digits). code_of Sha1 (97 ∷ []) 7 (count_of digits)) made.digits

pub returns-clause-matched : goal.returns-clause-matched
unfolding asking
returns-clause-matched c = λ words clock old new key otp h.
    let none : IsUnmatched Hotp (Some (code_of Sha1 (97 ∷ []) 7 8)) h.generator h.plan.first 0 =
    subst (λ (o : Option (List ℕ)). IsUnmatched Hotp o h.generator h.plan.first 0) otp h.unmatched in
    let at_first : h.plan.first + 0 ≡ h.plan.first = omega arith in
    none 0 (omega arith)
    (ap (code_at h.generator) at_first ∙ code_is words clock h.plan h.generator key h.ready h.made_with)

pub returns-clause-one_code : goal.returns-clause-one_code
unfolding asking
returns-clause-one_code c = λ words clock text key h.
    h.written ∙ h.printed ∙ append-nil (line_of (code_at h.generator h.plan.first))
    ∙ ap line_of (code_is (record words { otp = None }) clock h.plan h.generator key h.ready h.made_with)
