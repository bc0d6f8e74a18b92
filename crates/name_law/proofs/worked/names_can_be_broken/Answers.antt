-- Each condition that fails is told by its first byte, its name or its range.
use Rattle.std.proofs.Common.{◌≡◌, ◌<◌, [], ◌∷◌, refl, ap, arith, get_or}
use Rattle.std.proofs.lemmas.Bool.{false≢true}
use Rattle.name_law.proofs.Examples.{are_names, ask_spelled}
use Rattle.name_law.proofs.worked.names_can_be_broken.Goals as goal

pub returns-clause-names : goal.returns-clause-names
returns-clause-names c = are_names

pub returns-clause-same_name : goal.returns-clause-same_name
returns-clause-same_name c h = h.distinct 0 2 [] (omega arith) (omega arith) refl

pub returns-clause-short_name : goal.returns-clause-short_name
returns-clause-short_name c h = let short : 1 ≡ 16 = h.whole 1 (2 ∷ []) refl in omega (arith, short)

pub returns-clause-translator : goal.returns-clause-translator
returns-clause-translator c = record { key = refl; names_are = refl; me = refl }

pub returns-clause-translator_under_another_key : goal.returns-clause-translator_under_another_key
returns-clause-translator_under_another_key c h = let byte : 1 ≡ 0 = ap (λ l. get_or l 0 0) h.key in omega (arith, byte)

pub returns-clause-translator_in_another_order : goal.returns-clause-translator_in_another_order
returns-clause-translator_in_another_order c h = let byte : 0xbb ≡ 0xaa = ap (λ l. get_or (get_or l 0 []) 0 0) h.names_are in omega (arith, byte)

pub returns-clause-translator_of_another : goal.returns-clause-translator_of_another
returns-clause-translator_of_another c h = let node : 2 ≡ 3 = h.me in omega (arith, node)

pub returns-clause-spelled : goal.returns-clause-spelled
returns-clause-spelled c = ask_spelled 2

pub returns-clause-spelled_whatever_the_token : goal.returns-clause-spelled_whatever_the_token
returns-clause-spelled_whatever_the_token c = ask_spelled 10000

pub returns-clause-unspelled_to_itself : goal.returns-clause-unspelled_to_itself
returns-clause-unspelled_to_itself c h = h.0.apart refl

pub returns-clause-unspelled_factor : goal.returns-clause-unspelled_factor
returns-clause-unspelled_factor c h = let low = h.1.lo_below in omega (arith, low)

pub returns-clause-readable : goal.returns-clause-readable
returns-clause-readable c = record { are_names = are_names; seats = refl; key = refl; token = omega arith; spelled = ask_spelled 2; boot_below = omega arith }

pub returns-clause-readable_without_a_number : goal.returns-clause-readable_without_a_number
returns-clause-readable_without_a_number c = record { are_names = are_names; seats = refl; key = refl; token = omega arith; spelled = ask_spelled 2; boot_below = omega arith }

pub returns-clause-unreadable_names : goal.returns-clause-unreadable_names
returns-clause-unreadable_names c h = h.are_names.distinct 0 2 [] (omega arith) (omega arith) refl

pub returns-clause-unreadable_seats : goal.returns-clause-unreadable_seats
returns-clause-unreadable_seats c h = false≢true h.seats

pub returns-clause-unreadable_key : goal.returns-clause-unreadable_key
returns-clause-unreadable_key c h = let byte : 1 ≡ 0 = ap (λ l. get_or l 0 0) h.key in omega (arith, byte)

pub returns-clause-unreadable_token : goal.returns-clause-unreadable_token
returns-clause-unreadable_token c h = let low : 2 < 2 = h.token in omega (arith, low)

pub returns-clause-unreadable_ends : goal.returns-clause-unreadable_ends
returns-clause-unreadable_ends c h = h.spelled.0.apart refl

pub returns-clause-unreadable_boot : goal.returns-clause-unreadable_boot
returns-clause-unreadable_boot c h = let low = h.boot_below in omega (arith, low)
