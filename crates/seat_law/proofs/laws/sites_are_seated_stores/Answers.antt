-- Each clause is a lemma.
use Rattle.std.proofs.Common.{refl, arith}
use Rattle.std.proofs.lemmas.Option.{none-some}
use Rattle.seat_law.proofs.Below.{added_below, content_is, put_is_below, remade_below, restart_below, start_below}
use Rattle.seat_law.proofs.laws.sites_are_seated_stores.Goals as goal

pub returns-clause-blank : goal.returns-clause-blank
returns-clause-blank c n tokens boot old node name = record {
  are = record { within = λ i seat at. absurd (none-some seat at); apart = λ i j seat at other. absurd (none-some seat at) };
  one = λ j k a d e. absurd (omega (arith, a));
  seen = refl;
  names = λ k a. absurd (omega (arith, a));
  aside = λ k a unseen. absurd (omega (arith, a));
  enrolled = λ t. refl;
  last = refl;
  last_known = λ z e. absurd (none-some z e);
}

pub returns-clause-shown : goal.returns-clause-shown
returns-clause-shown c = content_is

pub returns-clause-started : goal.returns-clause-started
returns-clause-started c = start_below

pub returns-clause-put : goal.returns-clause-put
returns-clause-put c sites node name seats d below seat lt new pass seen voter running = put_is_below sites node name seats d below seat lt new pass voter running seen

pub returns-clause-added : goal.returns-clause-added
returns-clause-added c = added_below

pub returns-clause-restarted : goal.returns-clause-restarted
returns-clause-restarted c = restart_below

pub returns-clause-remade : goal.returns-clause-remade
returns-clause-remade c = remade_below
