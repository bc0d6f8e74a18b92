-- Each condition is a field or a part, or a number is too great.
use Rattle.std.proofs.Common.{ℕ, ◌≤◌, ◌^◌, ◌+◌, arith}
use Rattle.named_order_law.proofs.worked.bytes_can_be_broken.Goals as goal

pub returns-clause-said : goal.returns-clause-said
returns-clause-said c = λ names key bytes said were. were.was

pub returns-clause-key : goal.returns-clause-key
returns-clause-key c = λ names key bytes said were. were.key_is

pub returns-clause-boot : goal.returns-clause-boot
returns-clause-boot c = λ names key bytes said were. were.boot_below

pub returns-clause-bytes : goal.returns-clause-bytes
returns-clause-bytes c = λ names key bytes said were. were.bytes_are

pub returns-clause-port : goal.returns-clause-port
returns-clause-port c = λ names node from live said handed hears. hears.port_is

pub returns-clause-translator : goal.returns-clause-translator
returns-clause-translator c = λ names node from live said handed hears. hears.is_of

pub returns-clause-handed : goal.returns-clause-handed
returns-clause-handed c = λ names node from live said handed hears. hears.handed_is

pub returns-clause-unforged : goal.returns-clause-unforged
returns-clause-unforged c = λ names node from live said handed hears. hears.unforged

pub returns-clause-step : goal.returns-clause-step
returns-clause-step c = λ names node from live said bytes is. is

pub returns-clause-enrols : goal.returns-clause-enrols
returns-clause-enrols c = omega arith

pub returns-clause-enrols_above : goal.returns-clause-enrols_above
returns-clause-enrols_above c h = let low : 2 ^ 62 + 1 ≤ 2 ^ 62 = h in omega (arith, low)

pub returns-clause-raises_above : goal.returns-clause-raises_above
returns-clause-raises_above c h = let low : 2 ^ 62 + 1 ≤ 2 ^ 62 = h in omega (arith, low)

pub returns-clause-gets_above : goal.returns-clause-gets_above
returns-clause-gets_above c h = let low : 2 ^ 62 + 1 ≤ 2 ^ 62 = h 0 in omega (arith, low)

pub returns-clause-book : goal.returns-clause-book
returns-clause-book c = λ terms port long h. omega (arith, long, h)

pub returns-clause-item : goal.returns-clause-item
returns-clause-item c = λ names setting places said item items are. are.0

pub returns-clause-item_in_range : goal.returns-clause-item_in_range
returns-clause-item_in_range c = λ names setting places said item items are. are.1

pub returns-clause-later_items : goal.returns-clause-later_items
returns-clause-later_items c = λ names setting places said item items are. are.2

pub returns-clause-interleaving : goal.returns-clause-interleaving
returns-clause-interleaving c = λ names setting items is. is.is

pub returns-clause-starts : goal.returns-clause-starts
returns-clause-starts c = λ names setting items is. is.starts

pub returns-clause-unforged_items : goal.returns-clause-unforged_items
returns-clause-unforged_items c = λ names setting items is. is.unforged
