-- Each is computed, or is asked for what nobody said.
use Rattle.std.proofs.Common.{◌≡◌, ◌<◌, refl, sym, ap, ◌∙◌, subst, arith}
use Rattle.std.proofs.lemmas.Bool.{false≢true}
use Rattle.std.proofs.lemmas.Option.{none-some, same_Some}
use Rattle.vote_core.specs.Schedule.{Envelope}
use Rattle.oath_node.specs.Machine.{token_of}
use Rattle.book_law.specs.Lives.{IsOfVote}
use Rattle.order_law.specs.Examples.{floor_told, grant_of}
use Rattle.order_law.proofs.Examples.{reads_floor, reads_grant, reads_grant_of_7}
use Rattle.order_law.proofs.worked.orders_are_worked.Goals as goal

pub returns-clause-entries : goal.returns-clause-entries
returns-clause-entries c = refl

pub returns-clause-own_steps : goal.returns-clause-own_steps
returns-clause-own_steps c = refl

pub returns-clause-actions : goal.returns-clause-actions
returns-clause-actions c = refl

pub returns-clause-commit_in_an_end : goal.returns-clause-commit_in_an_end
returns-clause-commit_in_an_end c = refl

pub returns-clause-said : goal.returns-clause-said
returns-clause-said c = refl

pub returns-clause-answer_said : goal.returns-clause-answer_said
returns-clause-answer_said c = refl

pub returns-clause-said_in_the_login : goal.returns-clause-said_in_the_login
returns-clause-said_in_the_login c = refl

pub returns-clause-said_in_former_times : goal.returns-clause-said_in_former_times
returns-clause-said_in_former_times c = refl

pub returns-clause-heard_floor : goal.returns-clause-heard_floor
returns-clause-heard_floor c envelope read sender vote seat =
    let same : floor_told ≡ envelope = same_Some floor_told envelope (sym reads_floor ∙ read) in
    absurd (subst (λ (e : Envelope). IsOfVote e.message) (sym same) vote)

pub returns-clause-heard_from_another : goal.returns-clause-heard_from_another
returns-clause-heard_from_another c envelope read sender vote seat =
    let same : grant_of 0 ≡ envelope = same_Some (grant_of 0) envelope (sym reads_grant ∙ read) in
    let e : 2 ≡ 3 = ap (λ (e : Envelope). e.sender) same ∙ sender in
    absurd (omega (arith, e))

pub returns-clause-heard_for_nobody : goal.returns-clause-heard_for_nobody
returns-clause-heard_for_nobody c envelope read sender vote seat =
    let same : grant_of 7 ≡ envelope = same_Some (grant_of 7) envelope (sym reads_grant_of_7 ∙ read) in
    let low : 7 < 2 = subst (λ (e : Envelope). token_of e.message < 2) (sym same) seat in
    absurd (omega (arith, low))

pub returns-clause-first_cause : goal.returns-clause-first_cause
returns-clause-first_cause c = λ setting places said item items are. are.0

pub returns-clause-later_causes : goal.returns-clause-later_causes
returns-clause-later_causes c = λ setting places said item items are. are.1

pub returns-clause-causes : goal.returns-clause-causes
returns-clause-causes c = λ setting items is. is.caused

pub returns-clause-heard_unsaid : goal.returns-clause-heard_unsaid
returns-clause-heard_unsaid c h = let was = h (grant_of 0) reads_grant refl tt (omega arith) in none-some _ was.is_there

pub returns-clause-of_members : goal.returns-clause-of_members
returns-clause-of_members c = (refl, (refl, tt))

pub returns-clause-of_no_member : goal.returns-clause-of_no_member
returns-clause-of_no_member c h = false≢true h.0

pub returns-clause-of_no_member_later : goal.returns-clause-of_no_member_later
returns-clause-of_no_member_later c h = false≢true h.1.0
