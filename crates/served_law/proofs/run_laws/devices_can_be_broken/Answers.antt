-- Two rows have different seeds, and each other condition is a part.
use Rattle.std.proofs.Common.{◌≡◌, refl, ap, get_or, arith}
use Rattle.roster_sql.specs.Examples.{entry_of}
use Rattle.served_law.proofs.run_laws.devices_can_be_broken.Goals as goal

pub returns-clause-two_seeds : goal.returns-clause-two_seeds
returns-clause-two_seeds g c h = let e : 1 ≡ 2 = ap (λ l. get_or l 0 0) (h 0 1 (entry_of 0xbb 1) (entry_of 0xcc 2) refl refl refl) in omega (arith, e)

pub returns-clause-one_seed : goal.returns-clause-one_seed
returns-clause-one_seed g c = λ setting node names seed store run later are devices. devices.0

pub returns-clause-once : goal.returns-clause-once
returns-clause-once g c = λ setting node names seed store run later are devices. devices.1

pub returns-clause-later : goal.returns-clause-later
returns-clause-later g c = λ setting node names seed store run later are devices. devices.2
