use Rattle.std.proofs.Common.{◌≡◌, ◌∙◌, false, rules, sym, true}
use Rattle.oathd_roster.specs.Enrolled.{is_enrolled}
use Rattle.oathd_roster.proofs.EnrolledLemmas.{kept_new, kept_not}
use Rattle.oathd_roster.proofs.enrolled.keep.Goals as goal

pub returns-then-not-branch : goal.returns-then-not-branch
returns-then-not-branch c = λ roster has.
    let out : c.in_ok-is_enrolled.field-0 ≡ false = search rules in
    kept_not (is_enrolled c.args.salt.now c.args.settings roster) c.args.line.now c.args.kept.now.items (sym (c.in_ok-is_enrolled.ensures roster has) ∙ out)

pub returns : goal.returns
returns c = λ roster has.
    let in_store : c.in_ok-is_enrolled.field-0 ≡ true = search rules in
    kept_new (is_enrolled c.args.salt.now c.args.settings roster) c.args.line.now c.args.kept.now.items c.extend_from_slice.new.self.items c.push.new.self.items
    (sym (c.in_ok-is_enrolled.ensures roster has) ∙ in_store) c.in_ok-extend_from_slice.ensures.items c.in_ok-push.ensures.items
