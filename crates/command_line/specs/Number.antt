-- Numbers of a command line, as values that clap found.
use Rattle.std.specs.Prelude.{ℕ, nat_le, Bool, false, List, Option, Some, None}
use Rattle.std.specs.Option.{option_and_then}
use Rattle.clap.specs.Matches.{first_value}
use Rattle.clap.specs.declared.parser.matches.Found.{Found}
use Rattle.field_text.specs.Number.{number_of}
use Rattle.command_line.specs.declared.number.NumberOption.{NumberOption}

-- the value of the option `name`, in decimal digits alone
abbrev pub number_at : Found → List ℕ → Option ℕ
number_at found name = option_and_then number_of (first_value found name)

-- whether there is a number, at most `most`
abbrev pub is_up_to : ℕ → Option ℕ → Bool
is_up_to most None = false
is_up_to most (Some number) = nat_le number most

-- whether the value of an option is a number in its range
abbrev pub is_in_range : Found → NumberOption → Bool
is_in_range found option = is_up_to option.most (number_at found option.name.now)
