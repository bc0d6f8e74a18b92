-- Dates that are worked through.
use Rattle.std.proofs.Common.{◌≡◌, ℕ, ◌+◌, ◌*◌, ◌≤◌, inr, List, ◌∷◌, Some, refl, sym, pos, ◌+ℤ◌, ◌*ℤ◌, ◌<ℤ◌, arith}
use Rattle.std.specs.Int.{IsInRange}
use Rattle.std.proofs.lemmas.Int.{ints}
use Rattle.jiff.specs.Types.{Date}
use Rattle.jiff.specs.Words.{days_in_month}
use Rattle.jiff_core.specs.Calendar.{days_from_civil}
use Rattle.otp_core.specs.Range.{IsMoment}
use Rattle.oathtool_core.specs.Examples.{GivesOnly}
use Rattle.oathtool_core.specs.Plan.{IsNoTime}
use Rattle.oathtool_core.specs.Time.{IsEitherText, fields_of}
use Rattle.oathtool_core.specs.declared.time.Fields.{Fields}
use Rattle.oathtool_core.proofs.TimeLemmas.{none_before, none_dated, none_without_at, one_either}

-- the day with these numbers
pub day_at : (year month day : ℕ) → year ≤ 9999 → IsInRange 1 12 month → IsInRange 1 (days_in_month (pos year) month) day
    → Date
day_at year month day year_in month_in day_in = record {
  year = pos year;
  month = month;
  day = day;
  year_in = (omega (arith, ints), omega (arith, ints, year_in));
  month_in = month_in;
  day_in = day_in;
}

-- a time that a text gives is its only one
pub gives_only : (text : List ℕ) (seconds : ℕ) → IsMoment seconds → IsEitherText text seconds → GivesOnly text seconds
gives_only text seconds moment either = record {
  gives = (moment, either);
  only = λ other t. one_either text other seconds t.1 either;
}

-- a day and a time of day that a text gives
pub gives_date : (text : List ℕ) (seconds : ℕ) (fields : Fields) → fields_of text ≡ Some fields
    → (year_in : fields.year ≤ 9999) → (month_in : IsInRange 1 12 fields.month)
    → (day_in : IsInRange 1 (days_in_month (pos fields.year) fields.month) fields.day)
    → fields.hour ≤ 23 → fields.minute ≤ 59 → fields.second ≤ 59
    → pos seconds ≡ days_from_civil (pos fields.year) fields.month fields.day *ℤ pos 86_400
    +ℤ pos (fields.hour * 3_600 + fields.minute * 60 + fields.second)
    → IsMoment seconds → GivesOnly text seconds
unfolding day_at
gives_date text seconds fields read year_in month_in day_in hours minutes within_minute value moment =
    gives_only text seconds moment (inr (record {
      fields = fields;
      read = read;
      time = record {
        date = day_at fields.year fields.month fields.day year_in month_in day_in;
        named = (refl, refl, refl);
        hours = hours;
        minutes = minutes;
        within_minute = within_minute;
        value = value;
      };
    }))

-- a time before 1970 is none
pub gives_none_before : (text : List ℕ) (fields : Fields) → ((rest : List ℕ) → text ≡ 64 ∷ rest → ⊥) → fields_of text ≡ Some fields
    → (year_in : fields.year ≤ 9999) → (month_in : IsInRange 1 12 fields.month)
    → (day_in : IsInRange 1 (days_in_month (pos fields.year) fields.month) fields.day)
    → days_from_civil (pos fields.year) fields.month fields.day <ℤ pos 0 → IsNoTime text
unfolding day_at
gives_none_before text fields no_at read year_in month_in day_in early seconds t =
    none_without_at text no_at
    (none_dated text fields (sym read)
    (none_before fields (day_at fields.year fields.month fields.day year_in month_in day_in) (refl, refl, refl) early))
    seconds t.1
