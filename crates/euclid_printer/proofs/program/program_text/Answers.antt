use Rattle.std.proofs.Common.{ℕ, List, [], ◌∷◌, ◌++◌, ap, sym, ◌∙◌, string_bytes}
use Rattle.std.specs.Prelude.{codes}
use Rattle.std.specs.List.{flat_map}
use Rattle.euclid_lexer.specs.Pieces.{text_of}
use Rattle.euclid_ast.specs.declared.program.Rule.{Rule}
use Rattle.euclid_printer.specs.Values.{selection_pieces}
use Rattle.euclid_printer.specs.Layout.{rule_pieces}
use Rattle.euclid_printer.proofs.Texts.{text_of_program, then}
use Rattle.euclid_printer.proofs.program.program_text.Goals as goal

pub returns : goal.returns
returns c =
    let p = c.args.program.now in
    let below = rw c.as_slice.ensures at c.in_ok-put_all.ensures in
    let body = text_of (selection_pieces p.default_selection) ++ (10 ∷ flat_map (λ (r : Rule). text_of (rule_pieces r)) p.rules) in
    then (string_bytes c.push_str.new.self) (string_bytes c.print.new.out) (text_of (selection_pieces p.default_selection)) _ _ c.in_ok-print.ensures
    (then (string_bytes c.print.new.out) (string_bytes c.push_str-2.new.self) (10 ∷ []) (flat_map (λ (r : Rule). text_of (rule_pieces r)) p.rules) _ c.in_ok-push_str-2.ensures.bytes below)
    ∙ ap (λ (u : List ℕ). u ++ body) (c.in_ok-push_str.ensures.bytes ∙ ap (λ (u : List ℕ). u ++ codes "default: ") c.new-out.ensures.bytes)
    ∙ sym (text_of_program p)
