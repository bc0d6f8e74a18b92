-- An OK tells its nonce and its last factor.
use Rattle.std.proofs.Common.{◌≡◌, ℕ, ℤ, zero, suc, ⊎_elim, List, [], ◌∷◌, ◌++◌, true, false, get_or, drop, Option, Some, None, refl, sym, ap, ◌∙◌, subst, arith, ℤ}
use Rattle.std.specs.Prelude.{All, slice_get}
use Rattle.std.specs.Char.{IsAsciiAlphanumeric}
use Rattle.std.specs.Int.{IsInRange}
use Rattle.std.specs.Fmt.{decimal}
use Rattle.std.proofs.lemmas.Fmt.{decimal_injective}
use Rattle.std.proofs.lemmas.List.{append_assoc}
use Rattle.otp_core.specs.Acceptance.{Acceptance}
use Rattle.otp_core.specs.Range.{IsFactor}
use Rattle.token_file.specs.declared.token.Kind.{Kind}
use Rattle.token_file.specs.declared.token.Kind.TheVariants.{Event, Time30, Time60}
use Rattle.admit_core.specs.Throttle.{Result}
use Rattle.admit_core.specs.Window.{InWindow}
use Rattle.otp_core.specs.Limits.{Limits}
use Rattle.client_lines.specs.Field.{IsNonce}
use Rattle.oath_node.specs.Machine.{Config}
use Rattle.client_lines.specs.Request.{Request, IsRequest, fields_of, without_lf}
use Rattle.cluster_sim.specs.Answered.{IsOk, ok_bytes, IsTextOf, IsAskedIn, NamePasses}
use Rattle.cluster_sim.specs.Justified.{IsGround, IsGroundOf}
use Rattle.cluster_sim.specs.Drifts.{drift_before}
use Rattle.cluster_sim.specs.Results.{results_before}
use Rattle.cluster_sim.specs.World.{Says, Deliver, Ticks, Noise, WorldEvent, Happens, Cut, Restart, Lost, Anew, floor_before, report_of, MayStart, Start}
use Rattle.cluster_sim.proofs.BelowLaws.{GroundLaw, GateLaw, VoteLaw}
use Rattle.cluster_sim.proofs.Lines.{justified}
use Rattle.cluster_sim.proofs.Reports.{tell_truth}

-- ---- texts

abbrev HasNoSpace : List ℕ → Type 0
HasNoSpace [] = Unit {0}
HasNoSpace (b ∷ bs) = (b ≡ 32 → ⊥) × HasNoSpace bs

no_space : (text : List ℕ) → All IsAsciiAlphanumeric text → HasNoSpace text
no_space [] h = tt
no_space (b ∷ bs) h = ((λ e. letter b (h zero 0 (omega arith)) e), no_space bs (λ k d lt. h (suc k) d (omega (arith, lt))))
  where
    letter : (b : ℕ) → IsAsciiAlphanumeric b → b ≡ 32 → ⊥
    letter b h e = ⊎_elim (λ x. ⊎_elim (λ (y : IsInRange 48 57 b). absurd (omega (arith, y.0, e))) (λ (y : IsInRange 65 90 b). absurd (omega (arith, y.0, e))) x) (λ (y : IsInRange 97 122 b). absurd (omega (arith, y.0, e))) h

-- the texts before and after the first space
same_parts : (a b x y : List ℕ) → HasNoSpace a → HasNoSpace b → a ++ 32 ∷ x ≡ b ++ 32 ∷ y → (a ≡ b) × (x ≡ y)
same_parts [] [] x y h k e = (refl, ap (λ l. drop 1 l) e)
same_parts [] (c ∷ b) x y h k e = absurd (k.0 (sym (ap (λ (l : List ℕ). get_or l 0 0) e)))
same_parts (c ∷ a) [] x y h k e = absurd (h.0 (ap (λ (l : List ℕ). get_or l 0 0) e))
same_parts (c ∷ a) (d ∷ b) x y h k e =
    let rest = same_parts a b x y h.1 k.1 (ap (λ l. drop 1 l) e) in
    (ap (λ l. c ∷ l) rest.0 ∙ ap (λ m. m ∷ b) (ap (λ (l : List ℕ). get_or l 0 0) e), rest.1)

same_ok : (a b : List ℕ) (m n : ℕ) → IsNonce a → IsNonce b → IsFactor m → IsFactor n → ok_bytes a m ≡ ok_bytes b n → (a ≡ b) × (m ≡ n)
same_ok a b m n h k fm fn e =
    let parts = same_parts a b (decimal m) (decimal n) (no_space a h.2) (no_space b k.2)
    (sym (append_assoc a (32 ∷ []) (decimal m)) ∙ ap (λ l. drop 3 l) e ∙ append_assoc b (32 ∷ []) (decimal n)) in
    (parts.0, decimal_injective m n (omega (arith, fm)) (omega (arith, fn)) parts.1)

begins_ok : (nonce : List ℕ) (hi : ℕ) → IsOk (ok_bytes nonce hi)
begins_ok nonce hi = refl

-- ---- the nonce of a line, and the factors of a pass

nonce_of : (fields : List (List ℕ)) (r : Request) → IsRequest fields r → IsNonce r.nonce
nonce_of [] r h = absurd h
nonce_of (a ∷ []) r h = absurd h
nonce_of (a ∷ b ∷ []) r h = absurd h
nonce_of (a ∷ b ∷ c ∷ []) r h = absurd h
nonce_of (a ∷ b ∷ c ∷ d ∷ []) r h = absurd h
nonce_of (word ∷ nonce ∷ user ∷ code ∷ password ∷ []) r h = subst (λ (q : Request). IsNonce q.nonce) (sym h.value) h.is_nonce
nonce_of (word ∷ nonce ∷ user ∷ first ∷ second ∷ password ∷ []) r h = subst (λ (q : Request). IsNonce q.nonce) (sym h.value) h.is_nonce
nonce_of (a ∷ b ∷ c ∷ d ∷ e ∷ f ∷ g ∷ rest) r h = absurd h

pub text_nonce : (line nonce text : List ℕ) → IsTextOf line nonce text → IsNonce nonce
text_nonce line nonce text h = subst IsNonce (sym h.nonce_is) (nonce_of (fields_of (without_lf text)) h.request h.grammar.1)

asked_nonce : (node client : ℕ) (line nonce : List ℕ) (o : Option WorldEvent) → IsAskedIn node client line nonce o → IsNonce nonce
asked_nonce node client line nonce None h = absurd h
asked_nonce node client line nonce (Some (Happens (Says i c moment text))) h = text_nonce line nonce text h.2
asked_nonce node client line nonce (Some (Happens (Deliver i k))) h = absurd h
asked_nonce node client line nonce (Some (Happens (Ticks i))) h = absurd h
asked_nonce node client line nonce (Some (Happens (Noise i from read))) h = absurd h
asked_nonce node client line nonce (Some (Cut true (Says i c moment text))) h = text_nonce line nonce text h.2
asked_nonce node client line nonce (Some (Cut true (Deliver i k))) h = absurd h
asked_nonce node client line nonce (Some (Cut true (Ticks i))) h = absurd h
asked_nonce node client line nonce (Some (Cut true (Noise i from read))) h = absurd h
asked_nonce node client line nonce (Some (Cut false a)) h = absurd h
asked_nonce node client line nonce (Some (Restart i)) h = absurd h
asked_nonce node client line nonce (Some (Lost i)) h = absurd h
asked_nonce node client line nonce (Some (Anew i boot floors)) h = absurd h

window_factor : (kind : Kind) (reach : ℕ) (limits : Limits) (next : ℕ) (drift : ℤ) (moment m : ℕ) → InWindow kind reach limits next drift moment m → IsFactor m
window_factor Event reach limits next drift moment m h = h.factor
window_factor Time30 reach limits next drift moment m h = h.factor
window_factor Time60 reach limits next drift moment m h = h.factor

last_factor : (config : Config) (moment : ℕ) (line : List ℕ) (token next : ℕ) (drift : ℤ) (results : List Result) (lo hi : ℕ) → IsGround config moment line token next drift results lo hi → IsFactor hi
last_factor config moment line token next drift results lo hi g = window_factor g.credential.kind _ config.limits next drift moment hi g.entitled.fit.last

ground_factor : (config : Config) (next : ℕ) (drift : ℤ) (results : List Result) (p : Acceptance) (o : Option WorldEvent) → IsGroundOf config next drift results p o → IsFactor p.hi
ground_factor config next drift results p None h = absurd h
ground_factor config next drift results p (Some (Happens (Says i c moment text))) h = last_factor config moment text p.token next drift results p.lo p.hi h.1
ground_factor config next drift results p (Some (Happens (Deliver i k))) h = absurd h
ground_factor config next drift results p (Some (Happens (Ticks i))) h = absurd h
ground_factor config next drift results p (Some (Happens (Noise i from read))) h = absurd h
ground_factor config next drift results p (Some (Cut true (Says i c moment text))) h = last_factor config moment text p.token next drift results p.lo p.hi h.1
ground_factor config next drift results p (Some (Cut true (Deliver i k))) h = absurd h
ground_factor config next drift results p (Some (Cut true (Ticks i))) h = absurd h
ground_factor config next drift results p (Some (Cut true (Noise i from read))) h = absurd h
ground_factor config next drift results p (Some (Cut false a)) h = absurd h
ground_factor config next drift results p (Some (Restart i)) h = absurd h
ground_factor config next drift results p (Some (Lost i)) h = absurd h
ground_factor config next drift results p (Some (Anew i boot floors)) h = absurd h

pub name_passes : GroundLaw → GateLaw → VoteLaw → (config : Config) (start : Start) (events : List WorldEvent) → MayStart config start → let report = report_of config start events in NamePasses events report.passes report.answers
name_passes grounds gates votes config start events may k t nonce hi at is_nonce is_factor bytes =
    let b = tell_truth grounds config start events k t at (subst IsOk (sym bytes) (begins_ok nonce hi)) in
    let q = b.belongs in
    let last = subst IsFactor q.last (ground_factor config (floor_before config start events q.pass.node q.pass.token q.pass.began) (drift_before config start events q.pass.node q.pass.token q.pass.began) (results_before config start events q.pass.node q.pass.token q.pass.began) q.pass (slice_get events q.pass.began)
    (justified grounds gates votes config start events may q.place q.pass q.is_pass)) in
    let same = same_ok b.nonce nonce b.hi hi (asked_nonce t.node t.client q.line b.nonce (slice_get events q.pass.began) q.asked) is_nonce last is_factor (sym b.bytes ∙ bytes) in
    record {
      place = q.place;
      pass = q.pass;
      is_pass = q.is_pass;
      node = q.node;
      ended = q.ended;
      last = q.last ∙ same.1;
      line = q.line;
      asked = subst (λ n. IsAskedIn t.node t.client q.line n (slice_get events q.pass.began)) same.0 q.asked;
      again = q.again;
    }
