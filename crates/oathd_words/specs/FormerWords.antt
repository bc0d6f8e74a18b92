-- The options about former stores, as values that clap found.
use Rattle.std.specs.Prelude.{◌≡◌, ◌≤◌, ◌^◌, ◌-◌, ◌&&◌, ◌||◌, ℕ, nat_le, nat_lt, Bool, true, false, is_some, if◌then◌else◌, List, [], ◌∷◌, map, Option, Some, None, codes}
use Rattle.std.specs.List.{list_all}
use Rattle.std.specs.Option.{option_map}
use Rattle.clap.specs.Matches.{first_value, matched_of, raw_values}
use Rattle.clap.specs.declared.parser.matches.Found.{Found}
use Rattle.command_line.specs.Number.{number_at}
use Rattle.oathd_words.specs.Given.{GivesMember, is_flag}
use Rattle.oathd_words.specs.declared.former_words.CountWords.{CountWords}
use Rattle.oathd_words.specs.declared.former_words.CountWords.TheVariants.{Given, Named}
use Rattle.oathd_words.specs.declared.former_words.FormerWords.{FormerWords}

-- all values of an option
abbrev pub values_given : Found → List ℕ → Option (List (List ℕ))
values_given found name = option_map raw_values (matched_of found name)

-- whether a text is a digit from 1 to 9
abbrev pub is_node_text : List ℕ → Bool
is_node_text (digit ∷ []) = nat_le 49 digit && nat_le digit 57
is_node_text text = false

-- the value of the first digit of a text
abbrev pub node_in : List ℕ → ℕ
node_in [] = 0
node_in (digit ∷ digits) = digit - 48

-- the nodes that texts name, if each text is a digit from 1 to 9
abbrev pub nodes_in : List (List ℕ) → Option (List ℕ)
nodes_in texts = if list_all is_node_text texts then Some (map node_in texts) else None

-- a moment in its range
abbrev pub moment_within : Option ℕ → Option ℕ
moment_within None = None
moment_within (Some moment) = if nat_lt moment (2 ^ 40) then Some moment else None

-- 0 without a text, else the moment in its range
abbrev pub moment_or_0 : Option (List ℕ) → Option ℕ → Option ℕ
moment_or_0 None number = Some 0
moment_or_0 (Some text) number = moment_within number

-- the moment from which on floors files were read: the option's, if it is in its range, and 0 without the option
abbrev pub since_given : Found → Option ℕ
since_given found = moment_or_0 (first_value found (codes "since")) (number_at found (codes "since"))

-- former stores: the lost nodes, or None if all are replaced; the moment from which on the floors files were read;
-- paths
pub record FormerSaid : Type 0 where
  pub lost : Option (List ℕ)
  pub since : ℕ
  pub floors : List (List ℕ)

-- the record of a value of the code
abbrev pub former_value : FormerWords → FormerSaid
former_value former = record {
  lost = option_map (λ nodes. nodes.items) former.lost;
  since = former.since;
  floors = map (λ path. path.now) former.floors.items;
}

-- the lost nodes, or None for all replaced; exactly one of them has to be given
abbrev pub lost_said : Bool → Option (List (List ℕ)) → Option (Option (List ℕ))
lost_said true None = Some None
lost_said true (Some texts) = None
lost_said false None = None
lost_said false (Some texts) = option_map Some (nodes_in texts)

-- all three parts, if each is there
abbrev pub former_of : Option (Option (List ℕ)) → Option ℕ → Option (List (List ℕ)) → Option FormerSaid
former_of None since floors = None
former_of (Some lost) None floors = None
former_of (Some lost) (Some since) None = None
former_of (Some lost) (Some since) (Some floors) = Some (record { lost = lost; since = since; floors = floors })

-- what the options say of former stores
abbrev pub former_given : Found → Option FormerSaid
former_given found = former_of
    (lost_said (is_flag (first_value found (codes "anew"))) (values_given found (codes "lost")))
    (since_given found) (values_given found (codes "floors"))

-- whether an option about former stores is given
abbrev pub is_of_former : Found → Bool
is_of_former found = is_flag (first_value found (codes "anew"))
    || (is_some (matched_of found (codes "lost"))
    || (is_some (matched_of found (codes "floors")) || is_some (matched_of found (codes "since"))))

-- the source of the number of members: the option `members`, which includes `node`, or the cluster file at a path
abbrev pub AsksForCount : Found → ℕ → CountWords → Type 0
AsksForCount found node (Given count) =
    (first_value found (codes "cluster") ≡ None) × GivesMember found (codes "members") count × (node ≤ count)
AsksForCount found node (Named path) = first_value found (codes "cluster") ≡ Some path.now
