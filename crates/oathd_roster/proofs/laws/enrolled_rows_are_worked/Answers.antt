use Rattle.std.proofs.Common.{◌||◌, ◌++◌, [], List, ℕ, ap, codes, cond, false, refl}
use Rattle.std.proofs.lemmas.Slice.Eq.{bytes_eq-Decides}
use Rattle.hex.specs.Hex.{decode_pairs}
use Rattle.token_file.specs.Examples.{event_token}
use Rattle.token_names.specs.Names.{name_of, short_mac}
use Rattle.oathd_roster.proofs.laws.enrolled_rows_are_worked.Goals as goal

pub returns-clause-kept : goal.returns-clause-kept
unfolding decode_pairs short_mac
returns-clause-kept c salt limits =
    let own : List ℕ = name_of salt (event_token (codes "a")) in
    ap (λ b. cond (b || false) (codes "HOTP a - 31 7\n") [] ++ []) ((bytes_eq-Decides own own).1 refl)

pub returns-clause-no_rows : goal.returns-clause-no_rows
unfolding decode_pairs
returns-clause-no_rows c salt limits = refl

pub returns-clause-faulty : goal.returns-clause-faulty
returns-clause-faulty c salt limits roster = refl

pub returns-clause-rows : goal.returns-clause-rows
returns-clause-rows c = refl

pub returns-clause-no_tokens : goal.returns-clause-no_tokens
returns-clause-no_tokens c salt = refl
