use Rattle.std.proofs.Common.{◌≡◌, ◌∙◌, ap, sym, map, true, length, ◌≤◌, arith}
use Rattle.std.proofs.lemmas.List.{length-map}
use Rattle.key_table.specs.Tables.{is_table}
use Rattle.key_table.specs.NameLists.{with_key}
use Rattle.key_table.specs.KeyViews.{key_view, domain_view}
use Rattle.key_table.proofs.Found.{keys-insert}
use Rattle.key_table.proofs.NameLemmas.{is_table-with_key, length-with_key}
use Rattle.key_table.proofs.table.KeyTable.add.Goals as goal

pub returns-clause-ok : goal.returns-clause-ok
returns-clause-ok c =
    ap (λ es. map key_view es) c.in_ok-insert.ensures.entries
    ∙ keys-insert c.self.inside.keys.entries c.in_ok-name.name c.args.domain
    ∙ rw (c.self.view_is, c.in_ok-name.ensures.ok)

pub invariant_of-self-2 : goal.invariant_of-self-2
invariant_of-self-2 c =
    let added : map key_view c.insert.new.self.entries ≡ with_key c.args.self.now c.args.name.now (domain_view c.args.domain) = ap (λ es. map key_view es) c.in_ok-insert.ensures.entries
    ∙ keys-insert c.self.inside.keys.entries c.in_ok-name.name c.args.domain
    ∙ rw (c.self.view_is, c.in_ok-name.ensures.ok) in
    let old : is_table c.args.self.now ≡ true = sym (ap is_table c.self.view_is) ∙ c.self.invariant.1 in
    let most : length c.insert.new.self.entries ≤ 256 = omega (arith, ap length added, length-with_key c.args.self.now c.args.name.now (domain_view c.args.domain), c.requires.room, length-map c.insert.new.self.entries key_view) in
    (most, ap is_table added ∙ is_table-with_key c.args.self.now c.args.name.now (domain_view c.args.domain) old c.requires.room c.requires.named c.requires.well_made)
