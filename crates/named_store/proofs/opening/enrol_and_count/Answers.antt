use Rattle.std.proofs.Common.{◌≡◌, List, length, ap, sym, subst, ◌∙◌, arith}
use Rattle.sqlite.specs.Held.{state}
use Rattle.sqlite.specs.State.{HasCleanDisk}
use Rattle.floor_sql.specs.Calls.{KeepsTables}
use Rattle.roster_sql.specs.declared.entry.Entry.{Entry}
use Rattle.named_store.specs.Opened.{HasSeated, IsGrown}
use Rattle.std.proofs.lemmas.List.{length-append, length-map}
use Rattle.std.proofs.Common.{ℕ, ◌+◌, Option, Some, map}
use Rattle.named_store.specs.Opened.{EnrolsNew, IsRefused}
use Rattle.named_store.specs.Seating.{new_entries}
use Rattle.named_store.proofs.OpenLemmas.{has_seated, seated_refused}
use Rattle.named_store.proofs.SeatingLemmas.{as_many_seats}
use Rattle.named_store.proofs.opening.enrol_and_count.Goals as goal

pub returns-in-Ok-open_grown-clause-opened : goal.returns-in-Ok-open_grown-clause-opened
returns-in-Ok-open_grown-clause-opened g c =
    let mid = c.seat_tokens.new.conn in
    let seen = c.in-Ok.ensures in
    let store = c.in-Ok-open_grown.store in
    let roster = c.in-Ok.seated.0.items in
    let kept : KeepsTables g.S.Store c.args.conn mid = record { idle = seen.looks.idle c.requires.idle; read = seen.looks.read; survives = seen.looks.crash } in
    let seats = c.in-Ok.seated.1.seats.items in
    let grown : IsGrown g.S.Store mid c.args.node roster c.args.names.now c.args.floors.now seats store =
    subst (λ (l : List Entry). IsGrown g.S.Store mid c.args.node l c.args.names.now c.args.floors.now seats store) c.deref-3.ensures.value c.in-Ok-open_grown.ensures.grown in
    subst (HasSeated g.S.Store c.args.conn c.args.node c.args.names.now c.args.floors.now c.args.own.now) (sym c.seated_at.ensures)
    (has_seated g.S.Store c.args.conn mid c.args.node c.args.names.now c.args.floors.now c.args.own.now roster seats seen.seats kept seen.looks.value store
    seen.distinct grown)

pub open_grown-requires-clause-few : goal.open_grown-requires-clause-few
open_grown-requires-clause-few g c =
    let many = as_many_seats c.in-Ok.seated.0.items c.args.names.now c.in-Ok.seated.1.seats.items c.in-Ok.ensures.seats in
    omega (arith, many, c.requires.tokens, c.in-Ok.seated.1.seats.ok.0)

pub returns-in-Ok-open_grown-clause-counts : goal.returns-in-Ok-open_grown-clause-counts
returns-in-Ok-open_grown-clause-counts g c = λ clean.
    let mid = c.seat_tokens.new.conn in
    let seen = c.in-Ok.ensures in
    let store = c.in-Ok-open_grown.store in
    let roster = c.in-Ok.seated.0.items in
    let late : HasCleanDisk (state g.S.Store store.conn) = subst (λ s. HasCleanDisk (state g.S.Store s.inner.conn)) c.seated_at.ensures clean in
    let early : HasCleanDisk (state g.S.Store mid) = omega (arith, late, c.in-Ok-open_grown.ensures.grown.survives.clean) in
    let fresh = ap (λ (l : List Entry). length l) seen.fresh.all_entries in
    let all = length-append roster (new_entries roster c.args.names.now) in
    record {
      roster = roster;
      has = seen.looks.value early;
      all_rows = omega (arith, c.len.ensures, c.len-enrolled.ensures, c.in-Ok.seated.0.ok.0, c.in-Ok.seated.1.entries.ok.0, fresh, all);
      new_rows = omega (arith, c.len-enrolled.ensures, c.in-Ok.seated.1.entries.ok.0, fresh);
    }

pub returns-in-Err-open_grown-clause-refused : goal.returns-in-Err-open_grown-clause-refused
returns-in-Err-open_grown-clause-refused g c =
    let mid = c.seat_tokens.new.conn in
    let seen = c.in-Ok.ensures in
    let roster = c.in-Ok.seated.0.items in
    let seats = c.in-Ok.seated.1.seats.items in
    let new = c.in-Err-open_grown.conn in
    let kept : KeepsTables g.S.Store c.args.conn mid = record { idle = seen.looks.idle c.requires.idle; read = seen.looks.read; survives = seen.looks.crash } in
    let back : IsRefused g.S.Store (EnrolsNew c.args.node roster c.args.names.now c.args.floors.now seats) mid new =
    subst (λ (l : List Entry). IsRefused g.S.Store (EnrolsNew c.args.node l c.args.names.now c.args.floors.now seats) mid new) c.deref-3.ensures.value c.in-Err-open_grown.ensures.refused in
    seated_refused g.S.Store c.args.conn mid c.args.node c.args.names.now c.args.floors.now c.args.own.now roster seats seen.seats kept seen.looks.value new back
