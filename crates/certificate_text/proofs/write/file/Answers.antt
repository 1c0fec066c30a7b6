use Rattle.std.proofs.Common.{◌++◌, ◌∷◌, [], ℕ, List, length, ap, sym, ◌∙◌, string_bytes}
use Rattle.std.specs.Prelude.{codes}
use Rattle.std.specs.List.{flat_map}
use Rattle.certificate_text.specs.Items.{item_text}
use Rattle.certificate_text.specs.Texts.{atom_line, count_line}
use Rattle.certificate_text.proofs.WrittenLines.{file_text, then}
use Rattle.certificate_text.proofs.write.file.Goals as goal

pub returns-clause-text : goal.returns-clause-text
returns-clause-text c =
    let table = c.args.table.now in
    let start = string_bytes c.new-out.result in
    let end = string_bytes c.push_str.new.self in
    let front = c.args.first.now ++ 10 ∷ (count_line (length c.args.atoms.now) ++ 10 ∷ []) in
    let atoms = flat_map (λ a. atom_line table a ++ 10 ∷ []) c.args.atoms.now in
    let items = flat_map (λ i. item_text i ++ 10 ∷ []) c.args.items.now in
    c.from.ensures
    ∙ then start (string_bytes c.write.new.self) front _ end c.in_ok-write.ensures.bytes
    (then (string_bytes c.write.new.self) (string_bytes c.put_atoms.new.out) atoms _ end c.in_ok-put_atoms.ensures.text
    (then (string_bytes c.put_atoms.new.out) (string_bytes c.put_items.new.out) items (codes "end\n") end c.in_ok-put_items.ensures.text c.in_ok-push_str.ensures.bytes))
    ∙ ap (λ (t : List ℕ). t ++ (front ++ (atoms ++ (items ++ codes "end\n")))) c.new-out.ensures.bytes
    ∙ sym (file_text table c.args.first.now c.args.atoms.now c.args.items.now)
