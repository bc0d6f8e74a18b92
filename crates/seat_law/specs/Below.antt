-- The store below a process, which `seated_store` shows. Row k of the store is of the token `name k`.
use Rattle.std.specs.Prelude.{◌≡◌, ℕ, ◌<◌, Bool, List, length, Option, Some, None, option_map}
use Rattle.std.specs.Option.{option_and_then, option_or}
use Rattle.floor_store.specs.Content.{Content, with_row}
use Rattle.floor_store.specs.Records.{PassRecord, RowRecord}
use Rattle.seated_store.specs.Seats.{AreSeats, pass_below, seated_content, token_of}
use Rattle.vote_core.specs.Books.{is_number, number_of}
use Rattle.vote_core.specs.Numbers.{named_pass}
use Rattle.vote_core.specs.Rows.{row}
use Rattle.vote_core.specs.Schedule.{Member, with_member}
use Rattle.vote_core.specs.Voting.{VoterState}
use Rattle.seat_law.specs.Seats.{Sites, seat_name, with_own}

-- what the sites have of one node
pub record Site : Type 0 where
  pub name : ℕ → ℕ
  pub member : Member
  pub enrolled : ℕ → Bool
  pub aside : ℕ → RowRecord
  pub last : Option PassRecord

abbrev pub site_of : Sites → ℕ → Site
site_of sites node = record {
  name = sites.seen.name node;
  member = sites.seen.own.nodes node;
  enrolled = sites.enrolled node;
  aside = sites.aside node;
  last = sites.last node;
}

-- A store with the content `c` is the one of the site, whose process sees it through the seats `seats`.
pub record IsBelow (site : Site) (name : ℕ → ℕ) (seats : List ℕ) (c : Content) : Type 0 where
  pub are : AreSeats (length c.rows) seats
  pub one : (j k : ℕ) → j < length c.rows → k < length c.rows → name j ≡ name k → j ≡ k
  pub seen : site.member.content ≡ seated_content seats c
  pub names : (seat : ℕ) → seat < length seats → site.name seat ≡ name (seat_name seats seat)
  pub aside : (k : ℕ) → k < length c.rows → token_of seats k ≡ None → row c k ≡ site.aside (name k)
  pub enrolled : (token : ℕ) → site.enrolled token ≡ is_number (number_of (length c.rows) name token)
  pub last : option_map (named_pass name) c.last
      ≡ option_or (option_map (named_pass site.name) site.member.content.last) site.last
  pub last_known : (pass : PassRecord) → c.last ≡ Some pass → pass.token < length c.rows

-- the sites after the node's process put a row and a pass in its content by a seat
abbrev pub after_put : ℕ → ℕ → RowRecord → Option PassRecord → VoterState → Bool → Sites → Sites
after_put node seat new pass voter running sites =
    let content = with_row (sites.seen.own.nodes node).content seat new pass in
    with_own (with_member node (record { content = content; voter = voter; running = running }) sites.seen.own) sites

-- the store's content after a put by a seat
abbrev pub put_below : List ℕ → ℕ → RowRecord → Option PassRecord → Content → Content
put_below seats seat new pass c = with_row c (seat_name seats seat) new (option_and_then (pass_below seats) pass)
