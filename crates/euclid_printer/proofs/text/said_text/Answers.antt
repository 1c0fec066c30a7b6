use Rattle.std.proofs.Common.{List, ℕ, sym, ◌∙◌, subst, IsUtf8}
use Rattle.std.proofs.lemmas.Str.{IsUtf8-string_bytes}
use Rattle.euclid_lexer.specs.Pieces.{text_of}
use Rattle.euclid_grammar.specs.Texts.{IsTextOf}
use Rattle.euclid_printer.specs.Layout.{program_pieces}
use Rattle.euclid_printer.proofs.ReadsBack.{reads_back}
use Rattle.euclid_printer.proofs.text.said_text.Goals as goal

pub returns-clause-reads_back : goal.returns-clause-reads_back
returns-clause-reads_back c =
    let p = c.args.program.now in
    let text = text_of (program_pieces p) in
    let utf8 : IsUtf8 text = subst (λ (t : List ℕ). IsUtf8 t) c.in_ok-text.ensures (IsUtf8-string_bytes c.in_ok-text.text) in
    let P : List ℕ → Type 0 = λ t. IsTextOf t p in
    λ within.
    subst P (sym (c.from.ensures ∙ c.in_ok-text.ensures)) (reads_back c.pieces_law.ensures c.written_law.ensures c.quoted_law.ensures c.limits_law.ensures p c.requires utf8 within)
