use Rattle.std.proofs.Common.{ℕ, List, ◌∷◌, ◌++◌, ap, sym, ◌∙◌, string_bytes}
use Rattle.std.specs.Prelude.{codes}
use Rattle.euclid_lexer.specs.Pieces.{text_of}
use Rattle.euclid_printer.specs.Values.{selection_pieces}
use Rattle.euclid_printer.proofs.Texts.{text_of_rule, then}
use Rattle.euclid_printer.proofs.program.RulePrint.print.Goals as goal

pub returns : goal.returns
returns c =
    let r = c.args.self.now in
    let block = rw c.as_slice.ensures at c.in_ok-put_block.ensures in
    then (string_bytes c.args.out.now) (string_bytes c.write.new.self) (34 ∷ (r.name ++ codes "\": ")) _ _ (rw c.as_str.ensures at c.in_ok-write.ensures.bytes)
    (then (string_bytes c.write.new.self) (string_bytes c.print.new.out) (text_of (selection_pieces r.selection)) _ _ c.in_ok-print.ensures block)
    ∙ ap (λ (u : List ℕ). string_bytes c.args.out.now ++ u) (sym (text_of_rule r))
