use Rattle.std.proofs.Common.{IfSome, refl, sym, arith, subst}
use Rattle.std.specs.Option.{option_map}
use Rattle.std.specs.Io.KnownBytes.{Keeps}
use Rattle.token_file.specs.Source.{Stays}
use Rattle.users_input.specs.Input.{HasLine, HasRoom, TakesLine, is_mark, line_text, lines_of}
use Rattle.users_input.specs.Users.{IsFilled, rest_behind, rest_left, users_left, users_text}
use Rattle.users_input.specs.declared.users.Stage.{Stage}
use Rattle.users_input.proofs.UsersLemmas.{filled_line, keeps_cut, keeps_end, keeps_failed, keeps_from, keeps_line, stays_cut, stays_end, stays_failed, stays_from, stays_line}
use Rattle.users_input.proofs.users.UsersFile.take_next.Goals as goal

pub invariant_of-self-in-Whole : goal.invariant_of-self-in-Whole
invariant_of-self-in-Whole g c =
    let less = subst (λ n. HasRoom n c.args.self.now.input.room c.next_line.new.self.room) c.in-Whole.is c.in-Ok.ensures.room in
    record { counted = omega (arith, less, c.args.self.now.counted) }

pub invariant_of-self-in-Cut : goal.invariant_of-self-in-Cut
invariant_of-self-in-Cut g c =
    let less = subst (λ n. HasRoom n c.args.self.now.input.room c.next_line.new.self.room) c.in-Cut.is c.in-Ok.ensures.room in
    record { counted = omega (arith, less, c.args.self.now.counted) }

pub invariant_of-self-in-End : goal.invariant_of-self-in-End
invariant_of-self-in-End g c =
    let less = subst (λ n. HasRoom n c.args.self.now.input.room c.next_line.new.self.room) c.in-End.is c.in-Ok.ensures.room in
    record { counted = omega (arith, less, c.args.self.now.counted) }

pub returns-in-Err : goal.returns-in-Err
returns-in-Err g c =
    let old = c.args.self.now in
    let a = g.B.Read.remaining old.input.reader in
    let b = g.B.Read.remaining c.next_line.new.self.reader in
    record {
      left = keeps_from old.stage old.line.items c.requires.stage c.requires.line a old.input.room _
          (keeps_failed a b old.input.room c.next_line.new.self.room c.next_line.new.line.items c.in-Err.fault c.in-Err.ensures.kept c.in-Err.ensures.lost);
      rest = stays_from old.stage old.line.items c.requires.stage c.requires.line a old.taken old.input.room _
          (stays_failed a b old.taken old.input.room c.next_line.new.self.room c.next_line.new.line.items c.in-Err.fault c.in-Err.ensures.kept c.in-Err.ensures.lost);
      some = tt;
    }

pub returns-in-Whole : goal.returns-in-Whole
returns-in-Whole g c =
    let old = c.args.self.now in
    let a = g.B.Read.remaining old.input.reader in
    let b = g.B.Read.remaining c.next_line.new.self.reader in
    let room = old.input.room in
    let left = c.next_line.new.self.room in
    let line = c.next_line.new.line.items in
    let takes = subst (λ n. IfSome a (λ text. TakesLine n line room text left b)) c.in-Whole.is c.in-Ok.ensures.taken in
    let some = subst (λ n. HasLine n line) c.in-Whole.is c.in-Ok.ensures.line in
    record {
      left = keeps_from old.stage old.line.items c.requires.stage c.requires.line a room _
          (keeps_line a b room left line c.stage_behind-self.result c.stage_behind-self.new.line.items (is_mark (line_text line)) refl
          c.stage_behind-self.ensures.marked c.stage_behind-self.ensures.unmarked takes);
      rest = stays_from old.stage old.line.items c.requires.stage c.requires.line a old.taken room _
          (stays_line a b old.taken room left line c.stage_behind-self.result c.stage_behind-self.new.line.items (is_mark (line_text line)) refl
          c.stage_behind-self.ensures.marked c.stage_behind-self.ensures.unmarked takes);
      some = filled_line line c.stage_behind-self.result c.stage_behind-self.new.line.items (is_mark (line_text line)) some
          c.stage_behind-self.ensures.marked c.stage_behind-self.ensures.unmarked;
    }

pub returns-in-Cut : goal.returns-in-Cut
returns-in-Cut g c =
    let old = c.args.self.now in
    let a = g.B.Read.remaining old.input.reader in
    let b = g.B.Read.remaining c.next_line.new.self.reader in
    let room = old.input.room in
    let left = c.next_line.new.self.room in
    let line = c.next_line.new.line.items in
    let takes = subst (λ n. IfSome a (λ text. TakesLine n line room text left b)) c.in-Cut.is c.in-Ok.ensures.taken in
    let some = subst (λ n. HasLine n line) c.in-Cut.is c.in-Ok.ensures.line in
    record {
      left = keeps_from old.stage old.line.items c.requires.stage c.requires.line a room _
          (subst (λ (x : Stage). Keeps (option_map (users_text room) a) (option_map (users_left x left line) b)) (sym c.requires.stage)
          (keeps_cut a b room left line takes));
      rest = stays_from old.stage old.line.items c.requires.stage c.requires.line a old.taken room _
          (subst (λ (x : Stage). Stays (option_map (λ t. rest_behind old.taken (lines_of room t)) a) (option_map (rest_left x old.taken left line) b)) (sym c.requires.stage)
          (stays_cut a b old.taken room left line takes));
      some = subst (λ (x : Stage). IsFilled x line) (sym c.requires.stage) some;
    }

pub returns-in-End : goal.returns-in-End
returns-in-End g c =
    let old = c.args.self.now in
    let a = g.B.Read.remaining old.input.reader in
    let b = g.B.Read.remaining c.next_line.new.self.reader in
    let room = old.input.room in
    let left = c.next_line.new.self.room in
    let line = c.next_line.new.line.items in
    let takes = subst (λ n. IfSome a (λ text. TakesLine n line room text left b)) c.in-End.is c.in-Ok.ensures.taken in
    let none = subst (λ n. HasLine n line) c.in-End.is c.in-Ok.ensures.line in
    record {
      left = keeps_from old.stage old.line.items c.requires.stage c.requires.line a room _ (keeps_end a b room left line none takes);
      rest = stays_from old.stage old.line.items c.requires.stage c.requires.line a old.taken room _ (stays_end a b old.taken room left line none takes);
      some = tt;
    }
