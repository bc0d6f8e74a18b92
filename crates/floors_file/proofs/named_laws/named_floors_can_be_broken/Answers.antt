use Rattle.std.proofs.Common.{◌≡◌, ◌<◌, ℕ, List, [], ◌∷◌, Option, Some, None, ap, arith}
use Rattle.floors_file.specs.NamedExamples.{name_a, name_b, named_floors_at, named_row, seed_c, seed_d, seed_e}
use Rattle.floors_file.proofs.GreatestLemmas.{greatest_gathered}
use Rattle.floors_file.proofs.named_laws.named_floors_can_be_broken.Goals as goal

pub returns-clause-greatest : goal.returns-clause-greatest
returns-clause-greatest c =
    greatest_gathered (named_floors_at 1 (named_row name_a seed_c 4 ∷ named_row name_b seed_d 3 ∷ named_row name_a seed_e 5 ∷ []) [] ∷ [])

-- the first byte of a seed
abbrev first_of : Option (List ℕ) → ℕ
first_of None = 0
first_of (Some []) = 0
first_of (Some (byte ∷ bytes)) = byte

pub returns-clause-last_seed : goal.returns-clause-last_seed
returns-clause-last_seed c = λ are. let same : 0xee ≡ 0xcc = ap first_of (are.seeds name_a) in omega (arith, same)

pub returns-clause-second_seed : goal.returns-clause-second_seed
returns-clause-second_seed c = λ are. let same : 0xcc ≡ 0xdd = ap first_of (are.seeds name_b) in omega (arith, same)

pub returns-clause-no_byte : goal.returns-clause-no_byte
returns-clause-no_byte c = λ are. let low : 256 < 256 = are.1.0.bytes 0 in omega (arith, low)

pub returns-clause-no_byte_of_a_seed : goal.returns-clause-no_byte_of_a_seed
returns-clause-no_byte_of_a_seed c = λ are. let low : 256 < 256 = are.1.0.seed_bytes 0 in omega (arith, low)
