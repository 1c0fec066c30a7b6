-- Within the limits, the text of a program is a text of that program.
use Rattle.std.proofs.Common.{◌≡◌, Bool, true, ◌&&◌, List, [], ◌∷◌, None, Ok, ap, sym, ◌∙◌, subst, refl, IsUtf8}
use Rattle.std.specs.List.{list_all}
use Rattle.euclid_lexer.specs.declared.token.Token.{Token}
use Rattle.euclid_lexer.specs.declared.token.Placed.{Placed}
use Rattle.euclid_lexer.specs.Pieces.{text_of, placed_in, can_be_written, AllCanBeWritten, PiecesLaw, WrittenLaw}
use Rattle.euclid_lexer.specs.Tokens.{tokens_of}
use Rattle.euclid_ast.specs.declared.program.Program.{Program}
use Rattle.euclid_ast.specs.Limits.{IsWithinLimits}
use Rattle.euclid_grammar.specs.Faults.{IsProgram}
use Rattle.euclid_grammar.specs.Grammar.{quoted}
use Rattle.euclid_grammar.specs.Laws.{QuotedLaw, LimitsLaw}
use Rattle.euclid_grammar.specs.Texts.{tokens_alone, IsTextOf}
use Rattle.euclid_printer.specs.Expressible.{unsaid}
use Rattle.euclid_printer.specs.Layout.{program_pieces}
use Rattle.euclid_printer.proofs.Apart.{program_closed}
use Rattle.euclid_printer.proofs.Spelled.{program_spells}
use Rattle.euclid_printer.proofs.Trees.{program_good}
use Rattle.euclid_printer.proofs.Written.{all_said, program_written}

all-alone : (test : Token → Bool) (ts : List Placed) → list_all (λ p. test p.token) ts ≡ list_all test (tokens_alone ts)
all-alone test [] = refl
all-alone test (p ∷ ts) = ap (λ b. test p.token && b) (all-alone test ts)

pub reads_back : PiecesLaw → WrittenLaw → QuotedLaw → LimitsLaw → (p : Program) → unsaid p ≡ None → IsUtf8 (text_of (program_pieces p)) → IsWithinLimits p → IsTextOf (text_of (program_pieces p)) p
reads_back pieces written own limits p none utf8 within =
    let said = all_said p none in
    let qs = program_pieces p in
    let text = text_of qs in
    let placed = placed_in 0 qs in
    let read : tokens_of text ≡ Ok placed = pieces qs ((program_closed p).apart []) (program_written p said within) utf8 in
    let all : list_all (λ p. can_be_written p.token) placed ≡ true = subst AllCanBeWritten read (written text) in
    let spelled = program_spells p in
    let proper : IsProgram (quoted p) = record {
      fits = program_good p said within;
      written = sym (all-alone can_be_written placed ∙ ap (list_all can_be_written) spelled) ∙ all;
    } in
    record {
      placed = placed;
      tree = quoted p;
      tokens = read;
      spelled = (proper, spelled);
      within = (limits (quoted p) proper).1 (subst IsWithinLimits (sym (own p)) within);
      says = own p;
    }
