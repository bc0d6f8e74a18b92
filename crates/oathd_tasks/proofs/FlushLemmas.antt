-- An end stays what it is over an output that is flushed.
use Rattle.std.proofs.Common.{◌≡◌, ℕ, List, Option, Some, None, Result, Ok, Err, inl, inr, ◌∙◌, subst}
use Rattle.std.specs.Prelude.{IsOk, IfErr, OnOk, ◌⊎◌}
use Rattle.std.specs.Io.KnownBytes.{Appends, Keeps}
use Rattle.oathd_lines.specs.Secret.{EndsWithText}
use Rattle.oathd_lines.specs.declared.fault.Fault.{Fault}
use Rattle.oathd_lines.specs.declared.fault.Fault.TheVariants.{BadKey, CannotRead, CannotWrite, InputLine, Memory, NotText, Users}

pub appends_kept : (old mid new : Option (List ℕ)) (bytes : List ℕ) → Appends old mid bytes → Keeps mid new → Appends old new bytes
appends_kept None mid new bytes a k = tt
appends_kept (Some text) None new bytes a k = absurd a
appends_kept (Some text) (Some more) None bytes a k = absurd k
appends_kept (Some text) (Some more) (Some most) bytes a k = k ∙ a

pub text_kept : (hex : List ℕ) (end : Result Unit Fault) (old mid new : Option (List ℕ)) → EndsWithText hex end old mid → Keeps mid new → EndsWithText hex end old new
text_kept hex (Ok one) old mid new h k = (h.0, appends_kept old mid new _ h.1 k)
text_kept hex (Err Memory) old mid new h k = (h.0, appends_kept old mid new _ h.1 k)
text_kept hex (Err CannotRead) old mid new h k = (h.0, appends_kept old mid new _ h.1 k)
text_kept hex (Err CannotWrite) old mid new h k = h
text_kept hex (Err (Users fault)) old mid new h k = (h.0, appends_kept old mid new _ h.1 k)
text_kept hex (Err (InputLine number)) old mid new h k = (h.0, appends_kept old mid new _ h.1 k)
text_kept hex (Err (BadKey fault)) old mid new h k = (h.0, appends_kept old mid new _ h.1 k)
text_kept hex (Err NotText) old mid new h k = (h.0, appends_kept old mid new _ h.1 k)

-- what a flush gives is the end, or says that the output failed
pub flush_kept : (P : Result Unit Fault → Option (List ℕ) → Type 0) (end result : Result Unit Fault) (mid new : Option (List ℕ))
    → P end mid → ((r : Result Unit Fault) → P r mid → Keeps mid new → P r new) → Keeps mid new → OnOk result (IsOk end)
    → IfErr result (λ (fault : Fault). (end ≡ Err fault) ⊎ (fault ≡ CannotWrite))
    → (result ≡ Err CannotWrite) ⊎ P result new
flush_kept P (Ok one) (Ok other) mid new h kept k ok fault = inr (kept (Ok one) h k)
flush_kept P (Err f) (Ok one) mid new h kept k ok fault = absurd cc
flush_kept P end (Err f) mid new h kept k ok fault = elim fault [
  | inl same ↦ inr (subst (λ (r : Result Unit Fault). P r new) same (kept end h k))
  | inr outside ↦ inl cc
]
