-- Parts that are written in turn.
use Rattle.std.proofs.Common.{◌≡◌, ℕ, List, ◌++◌, Option, subst}
use Rattle.std.specs.Prelude.{Result, Ok, Err, OnOk}
use Rattle.std.specs.Io.KnownBytes.{Appends}
use Rattle.floors_file.proofs.WritingLemmas.{append_more}

-- two parts
pub two_written : {E : Type 0} (result : Result (Unit {0}) E) (old middle new : Option (List ℕ)) (front back whole : List ℕ) → Appends old middle front
    → OnOk result (Appends middle new back) → front ++ back ≡ whole → OnOk result (Appends old new whole)
two_written (Err fault) old middle new front back whole h k is = tt
two_written (Ok done) old middle new front back whole h k is = subst (Appends old new) is (append_more old middle new front back h k)

-- three parts
pub three_written : {E : Type 0} (result : Result (Unit {0}) E) (old first second new : Option (List ℕ)) (front middle back whole : List ℕ)
    → Appends old first front → Appends first second middle → OnOk result (Appends second new back) → front ++ (middle ++ back) ≡ whole
    → OnOk result (Appends old new whole)
three_written (Err fault) old first second new front middle back whole h k l is = tt
three_written (Ok done) old first second new front middle back whole h k l is =
    subst (Appends old new) is (append_more old first new front (middle ++ back) h (append_more first second new middle back k l))
