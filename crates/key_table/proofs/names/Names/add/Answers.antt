use Rattle.std.proofs.Common.{◌≡◌, ◌∙◌, ap, sym, map, not, true, bytes_eq, length, string_bytes, ◌≤◌, arith}
use Rattle.std.proofs.lemmas.List.{length-map}
use Rattle.key_table.specs.NameLists.{with_name}
use Rattle.key_table.specs.Names.{are_names}
use Rattle.key_table.proofs.Found.{names-insert, list_any-map}
use Rattle.key_table.proofs.NameLemmas.{are_names-with_name, length-with_name}
use Rattle.key_table.proofs.names.Names.add.Goals as goal

pub returns-clause-ok : goal.returns-clause-ok
returns-clause-ok c =
    ap (λ ks. map string_bytes ks) c.in_ok-insert.ensures.keys
    ∙ names-insert c.self.inside.names.keys c.in_ok-name.name
    ∙ rw (c.self.view_is, c.in_ok-name.ensures.ok)

pub returns-clause-is_new : goal.returns-clause-is_new
returns-clause-is_new c =
    c.in_ok-insert.ensures.added
    ∙ ap not (list_any-map (bytes_eq (string_bytes c.in_ok-name.name)) string_bytes c.self.inside.names.keys)
    ∙ rw (c.self.view_is, c.in_ok-name.ensures.ok)

pub invariant_of-self-2 : goal.invariant_of-self-2
invariant_of-self-2 c =
    let added : map string_bytes c.insert.new.self.keys ≡ with_name c.args.self.now c.args.name.now = ap (λ ks. map string_bytes ks) c.in_ok-insert.ensures.keys
    ∙ names-insert c.self.inside.names.keys c.in_ok-name.name
    ∙ rw (c.self.view_is, c.in_ok-name.ensures.ok) in
    let old : are_names c.args.self.now ≡ true = sym (ap are_names c.self.view_is) ∙ c.self.invariant.1 in
    let most : length c.insert.new.self.keys ≤ 1024 = omega (arith, ap length added, ap length c.self.view_is, length-with_name c.args.self.now c.args.name.now, c.requires.room, length-map c.insert.new.self.keys string_bytes) in
    (most, ap are_names added ∙ are_names-with_name c.args.self.now c.args.name.now old c.requires.named)
