-- The floors of tokens whose secrets are new, one after the other. A floor is the first free factor of a token at a node.
use Rattle.std.proofs.Common.{◌≡◌, ℕ, ◌+◌, ◌-◌, ◌*◌, ◌/◌, ◌≤◌, List, [], ◌∷◌, ◌++◌, length, take, Some, refl, ap, sym, ◌∙◌, arith}
use Rattle.std.specs.Prelude.{slice_get}
use Rattle.std.proofs.lemmas.List.{take_more, take_all, length-take-le}
use Rattle.std.proofs.lemmas.Option.{slice_get_within, get_or_from_slice_get}
use Rattle.std.proofs.lemmas.Nat.{le-div}
use Rattle.std.proofs.Math.Nat.{div-mul-le_self, le_trans}
use Rattle.otp_core.specs.Limits.{Limits}
use Rattle.otp_core.specs.Totp.{step_of}
use Rattle.token_file.specs.Credential.{Credential, period_of}
use Rattle.token_file.specs.declared.token.Kind.{Kind}
use Rattle.oathd_roster.specs.Enrolment.{fresh_floor, fresh_floors}

module _ (limits : Limits) (moment : ℕ) where
  fresh_more : (book : List Credential) (own : List ℕ) (token : Credential) (floor : ℕ) → length book ≡ length own
      → fresh_floors limits moment (book ++ token ∷ []) (own ++ floor ∷ [])
      ≡ fresh_floors limits moment book own ++ fresh_floor limits moment (period_of token.kind) floor ∷ []
  fresh_more [] [] token floor e = refl
  fresh_more [] (x ∷ own) token floor e = absurd (omega (arith, e))
  fresh_more (t ∷ book) [] token floor e = absurd (omega (arith, e))
  fresh_more (t ∷ book) (x ∷ own) token floor e =
      ap (λ floors. fresh_floor limits moment (period_of t.kind) x ∷ floors) (fresh_more book own token floor (omega (arith, e)))

  -- one token more
  pub fresh_step : (book : List Credential) (own : List ℕ) (place : ℕ) (token : Credential) (floor : ℕ) (kind : Kind) (chosen : ℕ)
      (before after : List ℕ) → slice_get book place ≡ Some token → slice_get own place ≡ Some floor → kind ≡ token.kind
      → chosen ≡ fresh_floor limits moment (period_of kind) floor → after ≡ before ++ chosen ∷ []
      → before ≡ fresh_floors limits moment (take place book) (take place own)
      → after ≡ fresh_floors limits moment (take (place + 1) book) (take (place + 1) own)
  fresh_step book own place token floor kind chosen before after is of alike chose pushed so_far =
      let within = slice_get_within book place token is in
      let inside = slice_get_within own place floor of in
      let tokens : take (place + 1) book ≡ take place book ++ token ∷ [] =
      take_more book place token within ∙ ap (λ t. take place book ++ t ∷ []) (get_or_from_slice_get book place token token is) in
      let floors : take (place + 1) own ≡ take place own ++ floor ∷ [] =
      take_more own place floor inside ∙ ap (λ t. take place own ++ t ∷ []) (get_or_from_slice_get own place floor floor of) in
      pushed ∙ ap (λ l. l ++ chosen ∷ []) so_far
      ∙ ap (λ n. fresh_floors limits moment (take place book) (take place own) ++ n ∷ [])
      (chose ∙ ap (λ (k : Kind). fresh_floor limits moment (period_of k) floor) alike)
      ∙ sym (ap (λ l. fresh_floors limits moment l (take (place + 1) own)) tokens ∙ ap (fresh_floors limits moment (take place book ++ token ∷ [])) floors
      ∙ fresh_more (take place book) (take place own) token floor
      (omega (arith, length-take-le place book (omega (arith, within)), length-take-le place own (omega (arith, inside)))))

  fresh_each : (book : List Credential) (own : List ℕ) → length own ≡ length book → length (fresh_floors limits moment book own) ≡ length book
  fresh_each [] own e = refl
  fresh_each (t ∷ book) [] e = absurd (omega (arith, e))
  fresh_each (t ∷ book) (x ∷ own) e = let rest = fresh_each book own (omega (arith, e)) in omega (arith, rest)

  -- there is one floor for each token
  pub fresh_all : (book : List Credential) (own items : List ℕ) (place : ℕ) → items ≡ fresh_floors limits moment (take place book) (take place own)
      → length book ≤ place → length own ≡ length book → length items ≡ length book
  fresh_all book own items place is all each =
      ap length (is ∙ ap (λ l. fresh_floors limits moment l (take place own)) (take_all place book all)
      ∙ ap (fresh_floors limits moment book) (take_all place own (omega (arith, all, each))))
      ∙ fresh_each book own each

later_step : (quotient moment now step : ℕ) → 1 ≤ step → quotient * step ≤ moment → moment ≤ now → quotient ≤ now / step
later_step quotient moment now step first down before = le-div quotient now step first (le_trans down before)

-- the step of a later moment is no earlier one
pub fresh_reached : (limits : Limits) (moment step counter now : ℕ) → 1 ≤ step → moment ≤ now
    → fresh_floor limits moment (Some step) counter ≤ step_of now 0 step
fresh_reached limits moment step counter now first before =
    let steps : step_of moment 0 step ≤ step_of now 0 step = later_step (step_of moment 0 step) (moment - 0) (now - 0) step first (div-mul-le_self (moment - 0) step) (omega (arith, before)) in
    omega (arith, steps)
