use Rattle.std.proofs.Common.{◌≡◌, ◌<◌, ◌∷◌, [], length, get_or, arith, rules}
use Rattle.sqlite.specs.Collation.TheVariants.{Binary as bytes}
use Rattle.sqlite_sql.specs.declared.ops.BinaryOp.TheVariants.{Compare}
use Rattle.sqlite_sql.specs.declared.ops.CompareOp.TheVariants.{Eq}
use Rattle.floor_sql.proofs.ShapeLemmas.{one_at}
use Rattle.sqlite_schema.specs.Code.{terms_in}
use Rattle.sqlite_schema.specs.declared.code.Op.TheVariants.{Binary}
use Rattle.floor_sql.specs.Schema.{id_checks}
use Rattle.floor_sql.proofs.CheckLemmas.{checks_nodes, checks_found, checks_made}
use Rattle.floor_sql.proofs.schema.checks_id.Goals as goal

pub returns-in_default-get : goal.returns-in_default-get
returns-in_default-get c = (
  λ no. absurd (cc),
  λ is.
      let at : terms_in c.checks.inside.nodes c.checks.inside.roots ≡ id_checks = search rules in
      let it = checks_nodes c.checks.inside.nodes c.checks.inside.roots at in
      let one = it.3.one in
      let top = it.3.top in
      let column = it.3.column in
      let number = it.3.number in
      search rules,
)

pub returns-in_default-equality_in : goal.returns-in_default-equality_in
returns-in_default-equality_in c = (
  λ no. absurd (cc),
  λ is.
      let at : terms_in c.checks.inside.nodes c.checks.inside.roots ≡ id_checks = search rules in
      let it = checks_nodes c.checks.inside.nodes c.checks.inside.roots at in
      let one = it.3.one in
      let top = it.3.top in
      let column = it.3.column in
      let number = it.3.number in
      search rules,
)

pub returns-in_default-get-2 : goal.returns-in_default-get-2
returns-in_default-get-2 c = (
  λ no. absurd (cc),
  λ is.
      let ops = c.as_slice-nodes.result.now in
      let roots = c.as_slice.result.now in
      let root = get_or roots 0 0 in
      let left = c.in-Some-equality_in.left in
      let right = c.in-Some-equality_in.right in
      let one : roots ≡ root ∷ [] = one_at roots 0 (omega arith) (omega arith) in
      let low : root < length ops = search rules in
      let place : c.in-Some.equality.now ≡ get_or ops root c.in-Some.equality.now = search rules in
      let equality : c.in-Some.equality.now ≡ Binary (Compare Eq bytes) left right = search rules in
      let at : terms_in ops roots ≡ id_checks = search rules in
      let found = checks_found ops roots root left right c.in-Some.equality.now one at low place equality in
      let in_left : left < length ops = found.0 in
      let in_right : right < length ops = found.1 in
      search rules,
)

pub returns-in_default-get-3 : goal.returns-in_default-get-3
returns-in_default-get-3 c = (
  λ no. absurd (cc),
  λ is.
      let ops = c.as_slice-nodes.result.now in
      let roots = c.as_slice.result.now in
      let root = get_or roots 0 0 in
      let left = c.in-Some-equality_in.left in
      let right = c.in-Some-equality_in.right in
      let one : roots ≡ root ∷ [] = one_at roots 0 (omega arith) (omega arith) in
      let low : root < length ops = search rules in
      let place : c.in-Some.equality.now ≡ get_or ops root c.in-Some.equality.now = search rules in
      let equality : c.in-Some.equality.now ≡ Binary (Compare Eq bytes) left right = search rules in
      let at : terms_in ops roots ≡ id_checks = search rules in
      let found = checks_found ops roots root left right c.in-Some.equality.now one at low place equality in
      let in_left : left < length ops = found.0 in
      let in_right : right < length ops = found.1 in
      search rules,
)

pub returns-then-is_key : goal.returns-then-is_key
returns-then-is_key c = (
  λ yes.
      let ops = c.as_slice-nodes.result.now in
      let roots = c.as_slice.result.now in
      let root = get_or roots 0 0 in
      let left = c.in-Some-equality_in.left in
      let right = c.in-Some-equality_in.right in
      let one : roots ≡ root ∷ [] = one_at roots 0 (omega arith) (omega arith) in
      let low : root < length ops = search rules in
      let place : c.in-Some.equality.now ≡ get_or ops root c.in-Some.equality.now = search rules in
      let equality : c.in-Some.equality.now ≡ Binary (Compare Eq bytes) left right = search rules in
      let made = checks_made ops roots root left right c.in-Some.equality.now c.in-Some-get.key.now c.in-Some-get-2.number.now
      one low place equality (search rules) (search rules) (search rules) (search rules) (search rules) (search rules) in
      search (made, rules),
  λ is.
      let ops = c.as_slice-nodes.result.now in
      let roots = c.as_slice.result.now in
      let root = get_or roots 0 0 in
      let left = c.in-Some-equality_in.left in
      let right = c.in-Some-equality_in.right in
      let one : roots ≡ root ∷ [] = one_at roots 0 (omega arith) (omega arith) in
      let low : root < length ops = search rules in
      let place : c.in-Some.equality.now ≡ get_or ops root c.in-Some.equality.now = search rules in
      let equality : c.in-Some.equality.now ≡ Binary (Compare Eq bytes) left right = search rules in
      let at : terms_in ops roots ≡ id_checks = search rules in
      let found = checks_found ops roots root left right c.in-Some.equality.now one at low place equality in
      let in_left : left < length ops = found.0 in
      let in_right : right < length ops = found.1 in
      let number = found.3 c.in-Some-get-2.number.now (search rules) in
      search rules,
)

pub returns-else-is_key : goal.returns-else-is_key
returns-else-is_key c = (
  λ yes. search rules,
  λ is.
      let ops = c.as_slice-nodes.result.now in
      let roots = c.as_slice.result.now in
      let root = get_or roots 0 0 in
      let left = c.in-Some-equality_in.left in
      let right = c.in-Some-equality_in.right in
      let one : roots ≡ root ∷ [] = one_at roots 0 (omega arith) (omega arith) in
      let low : root < length ops = search rules in
      let place : c.in-Some.equality.now ≡ get_or ops root c.in-Some.equality.now = search rules in
      let equality : c.in-Some.equality.now ≡ Binary (Compare Eq bytes) left right = search rules in
      let at : terms_in ops roots ≡ id_checks = search rules in
      let found = checks_found ops roots root left right c.in-Some.equality.now one at low place equality in
      let in_left : left < length ops = found.0 in
      let in_right : right < length ops = found.1 in
      let key = found.2 c.in-Some-get.key.now (search rules) in
      search rules,
)
