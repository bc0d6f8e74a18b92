-- The datagrams that are offered for a line.
use Rattle.std.proofs.Common.{◌≡◌, ◌<◌, ℕ, zero, suc, ◌+◌, Bool, true, false, Option, Some, None, List, [], ◌∷◌, ◌++◌, refl, sym, ap, ◌∙◌, subst, arith, append_assoc, append-nil}
use Rattle.log_writer.specs.Syslog.{Grows, IsEnded, Offer, lost_after, lost_line, lost_offers, message_of}
use Rattle.log_writer.specs.Waiting.{counted}

-- nothing more is offered
pub grows_nil : (a : Option (List Offer)) → Grows a a []
grows_nil None = tt
grows_nil (Some x) = sym (append-nil x)

-- some are offered, and then others
pub grows_both : (a b c : Option (List Offer)) (xs ys : List Offer) → Grows a b xs → Grows b c ys → Grows a c (xs ++ ys)
grows_both None b c xs ys p q = tt
grows_both (Some x) None c xs ys p q = absurd p
grows_both (Some x) (Some y) None xs ys p q = absurd q
grows_both (Some x) (Some y) (Some z) xs ys p q = q ∙ ap (λ l. l ++ ys) p ∙ append_assoc x xs ys

-- no line was lost, so none is told
pub none_told : (lost : ℕ) (is_told : Bool) (old : Option (List Offer)) → lost ≡ 0 → Grows old old (lost_offers lost is_told)
none_told zero is_told old is = grows_nil old
none_told (suc n) is_told old is = absurd (omega (arith, is))

-- lines were lost, and their number is told
pub some_told : (lost : ℕ) (is_told : Bool) (bytes : List ℕ) (old new : Option (List Offer)) → 0 < lost
    → bytes ≡ message_of (lost_line lost) → Grows old new ((bytes, is_told) ∷ []) → Grows old new (lost_offers lost is_told)
some_told zero is_told bytes old new some are told = absurd (omega (arith, some))
some_told (suc n) is_told bytes old new some are told = subst (λ sent. Grows old new ((sent, is_told) ∷ [])) are told

-- the number was refused
pub ended_untold : (line : List ℕ) (lost new_lost : ℕ) (is_told : Bool) (old new : Option (List Offer)) → is_told ≡ false
    → (lost ≡ 0 → is_told ≡ true) → Grows old new (lost_offers lost is_told) → new_lost ≡ counted (lost + 1)
    → IsEnded line lost new_lost old new
ended_untold line lost new_lost is_told old new is at_once told count = record {
  is_told = false;
  is_sent = false;
  at_once = subst (λ b. lost ≡ 0 → b ≡ true) is at_once;
  offers = subst (Grows old new) (sym (append-nil (lost_offers lost false))) (subst (λ b. Grows old new (lost_offers lost b)) is told);
  lost_now = count;
}

-- the number was taken or there was none, and the line was offered
pub ended_told : (line bytes : List ℕ) (lost new_lost : ℕ) (is_told is_sent was_sent : Bool) (old mid new : Option (List Offer))
    → is_told ≡ true → was_sent ≡ is_sent → bytes ≡ message_of line → Grows old mid (lost_offers lost is_told)
    → Grows mid new ((bytes, was_sent) ∷ []) → new_lost ≡ lost_after lost true is_sent → IsEnded line lost new_lost old new
ended_told line bytes lost new_lost is_told is_sent was_sent old mid new is sent are told offered count = record {
  is_told = true;
  is_sent = is_sent;
  at_once = λ _. refl;
  offers = grows_both old mid new (lost_offers lost true) ((message_of line, is_sent) ∷ [])
      (subst (λ b. Grows old mid (lost_offers lost b)) is told)
      (subst (λ b. Grows mid new ((message_of line, b) ∷ [])) sent (subst (λ each. Grows mid new ((each, was_sent) ∷ [])) are offered));
  lost_now = count;
}
