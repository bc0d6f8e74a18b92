use Rattle.std.proofs.Common.{sym, ap, ◌∙◌}
use Rattle.oathd_words.specs.Members.{are_different, parts_of}
use Rattle.oathd_words.proofs.MembersLemmas.{none_at, says_unique, some_at}
use Rattle.oathd_words.proofs.members.read_members.Goals as goal
use Rattle.oathd_words.proofs.members.read_members.Goals.{in_default-via-in-Some+else-are_different, in_default-via-in_default}

pub returns-in_default-clause-none : goal.returns-in_default-clause-none
returns-in_default-clause-none c members are =
    elim c.in_default.branch [
      | in_default-via-in-Some+else-are_different w ↦
          let read = some_at c.in_ok-addresses.field-0 w.in-Some.addresses _ w.in-Some.is c.in_ok-addresses.ensures.some in
          let same = says_unique (parts_of c.args.text.now) members w.in-Some.addresses.items are.said read.0 in
          let clash = sym are.different ∙ ap are_different same ∙ ap are_different (sym w.deref.ensures.value) ∙ sym w.are_different.ensures ∙ w.if-are_different.false in
          cc
      | in_default-via-in_default w ↦
          none_at c.in_ok-addresses.field-0 _ w.in_default.is c.in_ok-addresses.ensures.none members are.said are.few
    ]
