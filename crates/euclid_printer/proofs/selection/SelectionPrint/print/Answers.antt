use Rattle.std.proofs.Common.{ℕ, ◌++◌, List, ap, sym, ◌∙◌, string_bytes}
use Rattle.std.specs.Prelude.{codes}
use Rattle.euclid_lexer.specs.Pieces.{text_of}
use Rattle.euclid_ast.specs.declared.selection.Selection.{Selection}
use Rattle.euclid_printer.specs.Values.{number_item, account_item, selection_pieces}
use Rattle.euclid_printer.proofs.Texts.{text_of_listed, text_of_volume, then}
use Rattle.euclid_printer.proofs.selection.SelectionPrint.print.Goals as goal

pub returns-in_ok-put_list-in-Priority : goal.returns-in_ok-put_list-in-Priority
returns-in_ok-put_list-in-Priority c =
    (rw c.as_slice.ensures at c.in_ok-put_list-in-Priority.ensures)
    ∙ ap (λ (u : List ℕ). string_bytes c.args.out.now ++ u) (sym (ap (λ (v : Selection). text_of (selection_pieces v)) c.in-Priority.is ∙ text_of_listed account_item c.in-Priority.accounts))

pub returns-in_ok-put_list-in-Volume : goal.returns-in_ok-put_list-in-Volume
returns-in_ok-put_list-in-Volume c =
    (rw c.as_slice-in-Volume.ensures at c.in_ok-put_list-in-Volume.ensures)
    ∙ ap (λ (u : List ℕ). string_bytes c.args.out.now ++ u) (sym (ap (λ (v : Selection). text_of (selection_pieces v)) c.in-Volume.is ∙ text_of_volume c.in-Volume.shares))

pub returns-in_ok-print-in-SurchargeFixed : goal.returns-in_ok-print-in-SurchargeFixed
returns-in_ok-print-in-SurchargeFixed c =
    then (string_bytes c.args.out.now) (string_bytes c.push_str.new.self) (codes "surcharge ") (text_of (number_item c.in-SurchargeFixed.amount)) _ c.in_ok-push_str-in-SurchargeFixed.ensures.bytes c.in_ok-print-in-SurchargeFixed.ensures
    ∙ ap (λ (v : Selection). string_bytes c.args.out.now ++ text_of (selection_pieces v)) (sym c.in-SurchargeFixed.is)
