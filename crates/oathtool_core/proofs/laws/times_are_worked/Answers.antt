-- Each text is read.
use Rattle.std.proofs.Common.{◌≡◌, ℕ, List, ap, inl, refl, codes, arith}
use Rattle.std.specs.Prelude.{slice_index}
use Rattle.jiff_core.specs.Calendar.{day_count, days_from_civil, days_of_months, days_of_years}
use Rattle.oathtool_core.proofs.WorkedDates.{gives_date, gives_none_before, gives_only}
use Rattle.oathtool_core.proofs.laws.times_are_worked.Goals as goal

pub returns-clause-marks : goal.returns-clause-marks
returns-clause-marks c = refl

pub returns-clause-numbers : goal.returns-clause-numbers
returns-clause-numbers c = refl

pub returns-clause-fields : goal.returns-clause-fields
returns-clause-fields c = refl

pub returns-clause-first_second : goal.returns-clause-first_second
returns-clause-first_second c =
    gives_only (codes "@0") 0 (omega arith) (inl (record { digits = codes "0"; marked = refl; number = refl }))

pub returns-clause-first_date : goal.returns-clause-first_date
unfolding day_count days_from_civil days_of_months days_of_years
returns-clause-first_date c =
    gives_date (codes "1970-01-01 00:00:00 UTC") 0
    (record { year = 1970; month = 1; day = 1; hour = 0; minute = 0; second = 0 }) refl
    (omega arith) (omega arith, omega arith) (omega arith, omega arith) (omega arith) (omega arith) (omega arith) refl (omega arith)

pub returns-clause-end_of_day : goal.returns-clause-end_of_day
unfolding day_count days_from_civil days_of_months days_of_years
returns-clause-end_of_day c =
    gives_date (codes "1970-01-01 23:59:59 UTC") 86399
    (record { year = 1970; month = 1; day = 1; hour = 23; minute = 59; second = 59 }) refl
    (omega arith) (omega arith, omega arith) (omega arith, omega arith) (omega arith) (omega arith) (omega arith) refl (omega arith)

pub returns-clause-date_of_2005 : goal.returns-clause-date_of_2005
unfolding day_count days_from_civil days_of_months days_of_years
returns-clause-date_of_2005 c =
    gives_date (codes "2005-03-18 01:58:29 UTC") 1111111109
    (record { year = 2005; month = 3; day = 18; hour = 1; minute = 58; second = 29 }) refl
    (omega arith) (omega arith, omega arith) (omega arith, omega arith) (omega arith) (omega arith) (omega arith) refl (omega arith)

pub returns-clause-leap_day : goal.returns-clause-leap_day
unfolding day_count days_from_civil days_of_months days_of_years
returns-clause-leap_day c =
    gives_date (codes "2000-02-29 00:00:00 UTC") 951782400
    (record { year = 2000; month = 2; day = 29; hour = 0; minute = 0; second = 0 }) refl
    (omega arith) (omega arith, omega arith) (omega arith, omega arith) (omega arith) (omega arith) (omega arith) refl (omega arith)

pub returns-clause-before_the_first : goal.returns-clause-before_the_first
unfolding day_count days_from_civil days_of_months days_of_years
returns-clause-before_the_first c =
    gives_none_before (codes "1969-12-31 23:59:59 UTC")
    (record { year = 1969; month = 12; day = 31; hour = 23; minute = 59; second = 59 }) (λ rest e. let first : 49 ≡ 64 = ap (λ (l : List ℕ). slice_index l 0) e in absurd (omega (arith, first))) refl
    (omega arith) (omega arith, omega arith) (omega arith, omega arith) (omega arith)
