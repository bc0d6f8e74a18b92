use Rattle.std.proofs.Common.{◌≡◌, true, false, [], ◌∷◌, length, codes, refl, ◌∙◌, rules, arith}
use Rattle.floor_sql.specs.Schema.{blob, integer, bond_columns}
use Rattle.floor_sql.proofs.ShapeLemmas.{AreAt, same_items}
use Rattle.floor_sql.proofs.schema.are_of_bond.Goals as goal

pub returns : goal.returns
returns c =
    let e0 : c.id-item.result ≡ integer (codes "id") false = search rules in
    let e1 : c.names-item.result ≡ blob (codes "names") = search rules in
    let e2 : c.life-item.result ≡ blob (codes "life") = search rules in
    let e3 : c.members-item.result ≡ integer (codes "members") true = search rules in
    let four : length c.args.columns.now ≡ 4 = omega arith in
    let found = c.id-item.result ∷ c.names-item.result ∷ c.life-item.result ∷ c.members-item.result ∷ [] in
    let are : AreAt c.args.columns.now 0 found =
    (c.id-item.is, (c.names-item.is, (c.life-item.is, (c.members-item.is, tt)))) in
    let is : c.args.columns.now ≡ bond_columns = same_items c.args.columns.now found four are
    ∙ (λ i. e0 i ∷ e1 i ∷ e2 i ∷ e3 i ∷ []) in
    (λ _. is, λ _. refl)
