use Rattle.std.proofs.Common.{◌≡◌, false, inl, inr, take, ap, arith}
use Rattle.std.specs.Option.{option_map}
use Rattle.users_input.specs.Users.{rest_left, is_failed, users_left}
use Rattle.users_input.proofs.UsersLemmas.{ends_at_front, not_failed, pulls_front, stays_front}
use Rattle.users_input.proofs.users.UsersFileSource.pull.Goals as goal

pub returns-in-Users : goal.returns-in-Users
returns-in-Users g c =
    let old = c.args.self.now in
    let mid = c.fill.new.self in
    let a = g.B.Read.remaining mid.input.reader in
    let count = c.move_front.result in
    let line = mid.line.items in
    let new = c.move_front.new.line.items in
    let is : is_failed mid.stage ≡ false = elim c.in-Users.is [ inl e ↦ ap is_failed e | inr e ↦ ap is_failed e ] in
    record {
      bytes = (
        omega (arith, c.move_front.ensures.count, c.move_front.ensures.len),
        pulls_front (option_map (users_left old.stage old.input.room old.line.items) (g.B.Read.remaining old.input.reader)) a mid.stage mid.input.room count line new
            (take count c.move_front.new.buffer) is c.fill.ensures.left c.move_front.ensures.moved c.move_front.ensures.line,
        ends_at_front a mid.stage mid.input.room count line new _ is c.fill.ensures.some c.requires c.move_front.ensures.count c.move_front.ensures.line,
      );
      behind = stays_front (option_map (rest_left old.stage old.taken old.input.room old.line.items) (g.B.Read.remaining old.input.reader)) a mid.stage mid.taken mid.input.room line new
          is c.fill.ensures.rest;
      failed = not_failed (is_failed old.stage) (is_failed mid.stage) c.fill.ensures.failed is;
    }
