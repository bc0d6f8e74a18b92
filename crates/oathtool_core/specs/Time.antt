-- A time as text. 45 is `-`, 32 is the space, 58 is `:`, 64 is `@`, 85, 84 and 67 are `UTC`.
use Rattle.std.specs.Prelude.{◌≡◌, ℕ, ◌+◌, ◌*◌, ◌≤◌, ◌==◌, ◌&&◌, ◌⊎◌, pos, ◌+ℤ◌, ◌*ℤ◌, Bool, if◌then◌else◌, List, ◌∷◌, length, slice_index, slice_range, Option, Some, None}
use Rattle.jiff.specs.Words.{epoch_day, IsYmd}
use Rattle.jiff.specs.Types.{Date}
use Rattle.otp_core.specs.Range.{IsMoment}
use Rattle.field_text.specs.Number.{number_of}
use Rattle.oathtool_core.specs.declared.time.Fields.{Fields}

-- ---- `YYYY-MM-DD hh:mm:ss UTC`

-- the text has the length and the separators of the form
abbrev pub has_marks : List ℕ → Bool
has_marks text =
    (length text == 23) && (slice_index text 4 == 45) && (slice_index text 7 == 45) && (slice_index text 10 == 32)
    && (slice_index text 13 == 58) && (slice_index text 16 == 58) && (slice_index text 19 == 32)
    && (slice_index text 20 == 85) && (slice_index text 21 == 84) && (slice_index text 22 == 67)

-- the number between two places
abbrev pub number_at : List ℕ → ℕ → ℕ → Option ℕ
number_at text from to = number_of (slice_range text from to)

-- the fields of six numbers, if each is there
abbrev pub fields_of_numbers : Option ℕ → Option ℕ → Option ℕ → Option ℕ → Option ℕ → Option ℕ → Option Fields
fields_of_numbers (Some year) (Some month) (Some day) (Some hour) (Some minute) (Some second) =
    Some (record { year = year; month = month; day = day; hour = hour; minute = minute; second = second })
fields_of_numbers _ _ _ _ _ _ = None

-- the six numbers of a text in the form
abbrev pub fields_of : List ℕ → Option Fields
fields_of text =
    if has_marks text
    then fields_of_numbers (number_at text 0 4) (number_at text 5 7) (number_at text 8 10)
    (number_at text 11 13) (number_at text 14 16) (number_at text 17 19)
    else None

-- the day of the calendar with the numbers' year, month and day
abbrev pub IsNamedDay : Fields → Date → Type 0
IsNamedDay fields date = IsYmd (pos fields.year) (pos fields.month) (pos fields.day) date

-- the calendar has no day with the numbers
abbrev pub IsNoDay : Fields → Type 0
IsNoDay fields = (date : Date) → IsNamedDay fields date → ⊥

-- The numbers name a day of the calendar and a time of day. `seconds` is 86,400 for each day after 1970-01-01, and the
-- seconds of the day.
pub record IsTimeOf (fields : Fields) (seconds : ℕ) : Type 0 where
  pub date : Date
  pub named : IsNamedDay fields date
  pub hours : fields.hour ≤ 23
  pub minutes : fields.minute ≤ 59
  pub within_minute : fields.second ≤ 59
  pub value : pos seconds ≡ epoch_day date *ℤ pos 86_400
      +ℤ pos (fields.hour * 3_600 + fields.minute * 60 + fields.second)

-- the text is a day and a time of day, `seconds` after 1970
pub record IsDateText (text : List ℕ) (seconds : ℕ) : Type 0 where
  pub fields : Fields
  pub read : fields_of text ≡ Some fields
  pub time : IsTimeOf fields seconds

-- ---- `@SECONDS`

-- the text is `@` followed by `seconds`
pub record IsSecondsText (text : List ℕ) (seconds : ℕ) : Type 0 where
  pub digits : List ℕ
  pub marked : text ≡ 64 ∷ digits
  pub number : number_of digits ≡ Some seconds

-- ---- both

-- the text gives `seconds` in one of the two forms
abbrev pub IsEitherText : List ℕ → ℕ → Type 0
IsEitherText text seconds = IsSecondsText text seconds ⊎ IsDateText text seconds

-- the text gives the time, in seconds since 1970-01-01 00:00:00 UTC
abbrev pub IsTimeText : List ℕ → ℕ → Type 0
IsTimeText text seconds = IsMoment seconds × IsEitherText text seconds
