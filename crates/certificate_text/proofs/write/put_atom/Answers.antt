use Rattle.std.proofs.Common.{◌≡◌, ◌++◌, ◌∷◌, [], true, ℕ, List, Option, ap, sym, subst, ◌∙◌, string_bytes}
use Rattle.std.specs.List.{list_all, flat_map}
use Rattle.key_table.specs.declared.atom.Test.{Test}
use Rattle.key_table.specs.Tables.{variants_at}
use Rattle.certificate_text.specs.Named.{sub_text, test_text, quantifier_text}
use Rattle.certificate_text.specs.Numbered.{named_test, is_named}
use Rattle.certificate_text.proofs.Fitting.{tests_named}
use Rattle.certificate_text.proofs.WrittenLines.{atom_line_parts, then}
use Rattle.certificate_text.proofs.write.put_atom.Goals as goal

pub put_tests-requires : goal.put_tests-requires
put_tests-requires c =
    let P : List Test → Type 0 = λ ts. list_all (is_named (variants_at c.args.atom.now.slot.key c.args.table.now)) ts ≡ true in
    subst P (sym c.as_slice.ensures) (tests_named c.args.table.now c.args.atom.now c.requires)

pub returns-clause-text : goal.returns-clause-text
returns-clause-text c =
    let start = string_bytes c.args.out.now in
    let end = string_bytes c.push_str-3.new.self in
    let named = string_bytes c.push_str.new.self in
    let headed = string_bytes c.put_sub.new.out in
    let asked = string_bytes c.push_str-2.new.self in
    let spaced : List Test → List ℕ = λ ts. flat_map (λ t. 32 ∷ test_text (named_test (variants_at c.args.atom.now.slot.key c.args.table.now) t)) ts in
    let quantified = c.in_ok-push_str-2.ensures.bytes ∙ ap (λ (q : List ℕ). headed ++ q) c.quantifier.ensures in
    let subbed = c.in_ok-put_sub.ensures.text ∙ ap (λ (s : Option (List ℕ)). named ++ 32 ∷ sub_text s) c.as_ref.ensures.value in
    let tested = c.in_ok-put_tests.ensures.text ∙ ap (λ (ts : List Test). asked ++ spaced ts) c.as_slice.ensures in
    then start named c.name_as_str.result.now _ end c.in_ok-push_str.ensures.bytes
    (then named headed (32 ∷ sub_text c.args.atom.now.slot.sub) _ end subbed
    (then headed asked (32 ∷ quantifier_text c.args.atom.now.none_of) _ end quantified
    (then asked (string_bytes c.put_tests.new.out) (spaced c.args.atom.now.tests) (10 ∷ []) end tested c.in_ok-push_str-3.ensures.bytes)))
    ∙ ap (λ (t : List ℕ). start ++ t) (sym (atom_line_parts c.args.table.now c.args.atom.now c.name_as_str.result.now c.name_as_str.ensures))
