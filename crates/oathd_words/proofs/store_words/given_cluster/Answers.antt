use Rattle.std.proofs.Common.{subst, arith}
use Rattle.oathd_words.specs.Members.{AreMembers}
use Rattle.oathd_words.proofs.MembersLemmas.{some_at}
use Rattle.oathd_words.proofs.ServeLemmas.{no_place}
use Rattle.oathd_words.proofs.store_words.given_cluster.Goals as goal

pub returns-in_default-place_of-clause-none : goal.returns-in_default-place_of-clause-none
returns-in_default-place_of-clause-none c =
    let read = some_at c.in_ok-members.field-0 c.in-Some.members _ c.in-Some.is c.in_ok-members.ensures.some in
    let are = subst (λ t. AreMembers t c.in-Some.members.items) c.as_bytes.ensures.value read in
    no_place _ c.in-Some-Some.text.now c.in-Some.members.items _ c.requires c.in-Some-Some.ensures' are c.in_default-place_of.ensures.none
    (omega (arith, c.len.ensures, are.few))
