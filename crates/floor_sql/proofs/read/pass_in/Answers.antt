-- If no span is found, the columns show no pass in range.
use Rattle.std.proofs.Common.{◌≡◌, ℕ, pos, Option, None, refl, sym, subst}
use Rattle.std.specs.Prelude.{IfSome}
use Rattle.sqlite.specs.declared.types.Value.TheVariants.{Int}
use Rattle.sqlite.specs.Order.{Row, column}
use Rattle.floor_store.specs.Records.{PassRecord, SpanRecord, span_of}
use Rattle.floor_sql.specs.Shown.{Finds, pass_shown}
use Rattle.floor_sql.specs.Stored.{pass_values}
use Rattle.floor_sql.specs.Usable.{IsAudit, IsSpanOfFactors}
use Rattle.floor_sql.proofs.read.pass_in.Goals as goal

none_found : (shown : Row) (number most : ℕ) (result : Option PassRecord) → result ≡ None
    → ((span : SpanRecord) → IsSpanOfFactors span → ((column shown 2 ≡ Int (pos span.lo)) × (column shown 3 ≡ Int (pos span.hi))) → ⊥)
    → Finds (λ pass. pass_shown shown ≡ pass_values number pass) (IsAudit most) result
none_found shown number most result is none = record {
  value = subst (λ (o : Option PassRecord). IfSome o (λ pass. pass_shown shown ≡ pass_values number pass)) (sym is) tt;
  none = λ _ pass h shows.
      let lo : column shown 2 ≡ Int (pos pass.lo) = cc in
      let hi : column shown 3 ≡ Int (pos pass.hi) = cc in
      none (span_of pass.lo pass.hi) h.span (lo, hi);
}

pub returns-in_err-span : goal.returns-in_err-span
returns-in_err-span c =
    none_found c.args.shown.now c.args.number c.args.most c.from_residual-in_err-span.result c.from_residual-in_err-span.ensures (λ span h shows. c.in_err-span.ensures.none refl span h shows)
