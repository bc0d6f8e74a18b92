-- Only the Grant was said, under one key, and each other condition is one of the translator or a number.
use Rattle.std.proofs.Common.{◌≡◌, ◌≤◌, ◌+◌, ◌^◌, ℕ, List, [], get_or, refl, sym, ap, ◌∙◌, arith}
use Rattle.std.proofs.lemmas.Option.{none-some}
use Rattle.book_law.specs.Examples.{first_key, second_key, silver_first}
use Rattle.vote_wire.specs.Key.{bare}
use Rattle.name_law.specs.Examples.{user_names}
use Rattle.name_law.proofs.Datagrams.{handed_is, no_bytes}
use Rattle.order_law.specs.Examples.{grant_of}
use Rattle.order_law.proofs.Examples.{reads_grant}
use Rattle.named_order_law.specs.Examples.{grant_bytes, grant_under, granted_under, listening, translator_under}
use Rattle.named_order_law.proofs.Heard.{can_grant, client_said, hears_grant, is_of_1, none_said, other_keys, said_under}
use Rattle.named_order_law.proofs.worked.heard_grants_can_be_broken.Goals as goal

pub returns-clause-said : goal.returns-clause-said
returns-clause-said c = record { sealed = grant_under first_key; was = record { place = 0; is_there = refl }; key_is = refl; boot = 1; boot_below = omega arith; bytes_are = refl }

pub returns-clause-said_in_a_later_boot : goal.returns-clause-said_in_a_later_boot
returns-clause-said_in_a_later_boot c = record { sealed = grant_under first_key; was = record { place = 0; is_there = refl }; key_is = refl; boot = 5; boot_below = omega arith; bytes_are = refl }

pub returns-clause-unsaid : goal.returns-clause-unsaid
returns-clause-unsaid c h = none_said first_key (grant_bytes 1) h

pub returns-clause-said_to_a_client : goal.returns-clause-said_to_a_client
returns-clause-said_to_a_client c h = client_said 2 7 first_key (grant_bytes 1) (grant_bytes 1) h

pub returns-clause-said_under_another_key : goal.returns-clause-said_under_another_key
returns-clause-said_under_another_key c h = other_keys (sym (said_under second_key first_key _ h))

pub returns-clause-heard_under_another_key : goal.returns-clause-heard_under_another_key
returns-clause-heard_under_another_key c h = other_keys (said_under first_key second_key _ h)

pub returns-clause-hears : goal.returns-clause-hears
returns-clause-hears c = hears_grant (listening bare) (granted_under first_key) refl refl (record { place = 0; is_there = refl })

pub returns-clause-hears_at_another_port : goal.returns-clause-hears_at_another_port
returns-clause-hears_at_another_port c h = let e : first_key ≡ [] = h.port_is in absurd cc

pub returns-clause-hears_unsaid : goal.returns-clause-hears_unsaid
returns-clause-hears_unsaid c h = none_said first_key h.bytes (h.unforged (grant_of 0) reads_grant tt)

pub returns-clause-hears_under_another_key : goal.returns-clause-hears_under_another_key
returns-clause-hears_under_another_key c h = other_keys (sym (said_under second_key first_key h.bytes (h.unforged (grant_of 0) reads_grant tt)))

pub returns-clause-hears_nothing : goal.returns-clause-hears_nothing
returns-clause-hears_nothing c = record {
  port_is = refl;
  translator = translator_under first_key;
  is_of = is_of_1;
  bytes = grant_bytes 1;
  handed_is = sym (handed_is user_names 1 silver_first (translator_under first_key) 1 3 (grant_under first_key) is_of_1 can_grant);
  unforged = λ envelope is vote. absurd (none-some envelope (sym no_bytes ∙ is));
}

pub returns-clause-translator : goal.returns-clause-translator
returns-clause-translator c = is_of_1

pub returns-clause-translator_of_another_key : goal.returns-clause-translator_of_another_key
returns-clause-translator_of_another_key c h = other_keys (sym h.key)

pub returns-clause-translator_of_another_node : goal.returns-clause-translator_of_another_node
returns-clause-translator_of_another_node c h = let e : 1 ≡ 2 = h.me in omega (arith, e)

pub returns-clause-translator_of_another_book : goal.returns-clause-translator_of_another_book
returns-clause-translator_of_another_book c h = let e : 0xaa ≡ 0xbb = ap (λ (l : List (List ℕ)). get_or (get_or l 0 []) 0 0) h.names_are in omega (arith, e)

pub returns-clause-step : goal.returns-clause-step
returns-clause-step c = hears_grant (listening bare) (granted_under first_key) refl refl (record { place = 0; is_there = refl })

pub returns-clause-step_unsaid : goal.returns-clause-step_unsaid
returns-clause-step_unsaid c h = none_said first_key h.bytes (h.unforged (grant_of 0) reads_grant tt)

pub returns-clause-step_of_a_client : goal.returns-clause-step_of_a_client
returns-clause-step_of_a_client c = tt

pub returns-clause-step_of_no_process : goal.returns-clause-step_of_no_process
returns-clause-step_of_no_process c = tt

pub returns-clause-raises : goal.returns-clause-raises
returns-clause-raises c = omega arith

pub returns-clause-gets : goal.returns-clause-gets
returns-clause-gets c = λ token. omega arith

pub returns-clause-unlocks : goal.returns-clause-unlocks
returns-clause-unlocks c = tt

pub returns-clause-loses : goal.returns-clause-loses
returns-clause-loses c = tt

pub returns-clause-starts : goal.returns-clause-starts
returns-clause-starts c = λ terms port long. omega (arith, long)

pub returns-clause-items_past_the_last_floor : goal.returns-clause-items_past_the_last_floor
returns-clause-items_past_the_last_floor c h = let low : 2 ^ 62 + 1 ≤ 2 ^ 62 = h.2.1 in omega (arith, low)
