-- The replies have one spelling, and none is a page.
use Rattle.std.proofs.Common.{◌≡◌, ℕ, Bool, true, false, cond, List, Option, Some, None, refl, ap, ◌∙◌}
use Rattle.std.specs.Prelude.{codes}
use Rattle.std.specs.Str.{bytes_eq}
use Rattle.std.proofs.lemmas.Slice.Eq.{bytes_eq-Decides}
use Rattle.operator_text.specs.Reading.{page_at}
use Rattle.operator_text.specs.Reply.{reply_at, reply_text}
use Rattle.operator_text.specs.declared.reply.Reply.{Reply}
use Rattle.operator_text.specs.declared.reply.Reply.TheVariants.{NoRequest, NoRight, NoReport, NoUser, Busy, Unlocked, Draining}

some_is : (x y : Reply) → (let there : Option Reply = Some x in there ≡ Some y) → x ≡ y
some_is x y e = cc

same : (text word : List ℕ) → bytes_eq text word ≡ true → text ≡ word
same text word e = (bytes_eq-Decides text word).0 e

-- one text of a list of texts, and the rest of the list
named : (test : Bool) (text : List ℕ) (this reply : Reply) (rest : Option Reply) → (test ≡ true → text ≡ reply_text this)
    → (rest ≡ Some reply → text ≡ reply_text reply) → cond test (Some this) rest ≡ Some reply → text ≡ reply_text reply
named true text this reply rest here there e = here refl ∙ ap reply_text (some_is this reply e)
named false text this reply rest here there e = there e

none_is : (text : List ℕ) (reply : Reply) → (let none : Option Reply = None in none ≡ Some reply) → text ≡ reply_text reply
none_is text reply e = absurd cc

reply_is : (text : List ℕ) (reply : Reply) → reply_at text ≡ Some reply → text ≡ reply_text reply
reply_is text reply e =
    named _ text NoRequest reply _ (same text (codes "NO REQUEST\n"))
    (named _ text NoRight reply _ (same text (codes "NO RIGHT\n"))
    (named _ text NoReport reply _ (same text (codes "NO REPORT\n"))
    (named _ text NoUser reply _ (same text (codes "NO USER\n"))
    (named _ text Busy reply _ (same text (codes "NO BUSY\n"))
    (named _ text Unlocked reply _ (same text (codes "unlocked\n"))
    (named _ text Draining reply _ (same text (codes "draining\n")) (none_is text reply))))))) e

back : (reply : Reply) → reply_at (reply_text reply) ≡ Some reply
back NoRequest = refl
back NoRight = refl
back NoReport = refl
back NoUser = refl
back Busy = refl
back Unlocked = refl
back Draining = refl

pub spelling : (text : List ℕ) (reply : Reply) → (reply_at text ≡ Some reply → text ≡ reply_text reply) × (text ≡ reply_text reply → reply_at text ≡ Some reply)
spelling text reply = (reply_is text reply, λ h. ap reply_at h ∙ back reply)

pub no_page : (reply : Reply) → page_at (reply_text reply) ≡ None
no_page NoRequest = refl
no_page NoRight = refl
no_page NoReport = refl
no_page NoUser = refl
no_page Busy = refl
no_page Unlocked = refl
no_page Draining = refl
