use Rattle.std.proofs.Common.{ℕ, ◌++◌, List, ap, sym, ◌∙◌, string_bytes}
use Rattle.euclid_lexer.specs.Pieces.{text_of}
use Rattle.euclid_ast.specs.declared.statement.ValueForm.{ValueForm}
use Rattle.euclid_printer.specs.Values.{number_item, variant_item, test_item, value_pieces}
use Rattle.euclid_printer.proofs.Texts.{text_of_brackets}
use Rattle.euclid_printer.proofs.value.ValueFormPrint.print.Goals as goal

pub returns-in_ok-put_list-in-Numbers : goal.returns-in_ok-put_list-in-Numbers
returns-in_ok-put_list-in-Numbers c =
    (rw c.as_slice.ensures at c.in_ok-put_list-in-Numbers.ensures)
    ∙ ap (λ (u : List ℕ). string_bytes c.args.out.now ++ u) (sym (ap (λ (v : ValueForm). text_of (value_pieces v)) c.in-Numbers.is ∙ text_of_brackets number_item c.in-Numbers.numbers))

pub returns-in_ok-put_list-in-Variants : goal.returns-in_ok-put_list-in-Variants
returns-in_ok-put_list-in-Variants c =
    (rw c.as_slice-in-Variants.ensures at c.in_ok-put_list-in-Variants.ensures)
    ∙ ap (λ (u : List ℕ). string_bytes c.args.out.now ++ u) (sym (ap (λ (v : ValueForm). text_of (value_pieces v)) c.in-Variants.is ∙ text_of_brackets variant_item c.in-Variants.names))

pub returns-in_ok-put_list-in-NumberTests : goal.returns-in_ok-put_list-in-NumberTests
returns-in_ok-put_list-in-NumberTests c =
    (rw c.as_slice-in-NumberTests.ensures at c.in_ok-put_list-in-NumberTests.ensures)
    ∙ ap (λ (u : List ℕ). string_bytes c.args.out.now ++ u) (sym (ap (λ (v : ValueForm). text_of (value_pieces v)) c.in-NumberTests.is ∙ text_of_brackets test_item c.in-NumberTests.tests))
