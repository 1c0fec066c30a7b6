-- What the answer to tokens that can be written tells of them.
use Rattle.std.proofs.Common.{◌≡◌, ℕ, ◌≤◌, List, [], ◌∷◌, length, arith, length-append, Result, Ok, Err, sym, ap, subst, ◌∙◌}
use Rattle.key_table.specs.declared.stop.Stop.{Stop}
use Rattle.key_table.specs.declared.stop.Stop.TheVariants as stop
use Rattle.key_table.specs.Answers.{◌>>=◌, Fails}
use Rattle.euclid_lexer.specs.declared.token.Token.{Token}
use Rattle.euclid_lexer.specs.declared.token.Placed.{Placed}
use Rattle.euclid_grammar.specs.Texts.{tokens_alone}
use Rattle.euclid_parser.proofs.Loop.{tokens-length}
use Rattle.euclid_ast.specs.declared.program.Program.{Program}
use Rattle.euclid_grammar.specs.declared.counts.Counts.{Counts}
use Rattle.euclid_grammar.specs.Fits.{start}
use Rattle.euclid_grammar.specs.Grammar.{ProgramTree, shape, spell}
use Rattle.euclid_grammar.specs.Faults.{Spells, IsWithinMarks}
use Rattle.euclid_parser.specs.declared.fault.Code.TheVariants.{Unexpected}
use Rattle.euclid_parser.specs.declared.fault.Fault.{Fault}
use Rattle.euclid_parser.specs.Reader.{Read, ended}
use Rattle.euclid_parser.specs.Reading.{program_tree_reader, tree_of_all, all_of}
use Rattle.euclid_parser.proofs.Written.{AllWritten}
use Rattle.euclid_parser.proofs.Explained.{Explained}
use Rattle.euclid_parser.proofs.Forgets.{shaped, all_forgets}
use Rattle.euclid_parser.proofs.Fine.{Fits, program_reads}
use Rattle.euclid_parser.proofs.Whole.{Says, IsFaultOf, all_says}

-- some way to write the program is these tokens
pub record Found (ts : List Token) (p : Program) : Type 0 where
  pub tree : ProgramTree
  pub spelled : Spells ts tree
  pub within : IsWithinMarks tree
  pub says : shape tree ≡ p

module _ (ts : List Token) (written : AllWritten ts) where
  pub found : (p : Program) → all_of ts ≡ Ok p → Found ts p
  found p e = at (tree_of_all ts) (all_says ts written) (sym (all_forgets ts) ∙ e)
    where
      at : (r : Result ProgramTree Fault) → Says ts r → shaped r ≡ Ok p → Found ts p
      at (Ok tree) says e = let same : shape tree ≡ p = cc in record { tree = tree; spelled = says.0; within = says.1; says = same }
      at (Err f) says e = absurd cc

  pub refused : (f : Fault) → all_of ts ≡ Err f → IsFaultOf f.code ts f.left
  refused f e = at (tree_of_all ts) (all_says ts written) (sym (all_forgets ts) ∙ e)
    where
      at : (r : Result ProgramTree Fault) → Says ts r → shaped r ≡ Err f → IsFaultOf f.code ts f.left
      at (Ok tree) says e = absurd cc
      at (Err g) says e = let same : g ≡ f = cc in subst (λ (h : Fault). IsFaultOf h.code ts h.left) same says

-- ---- the place of a fault is among the tokens, or behind the last

left_of_rest : (y : ProgramTree × Counts × List Token) (ts : List Token) (f : Fault) → length y.2 ≤ length ts → ended y ≡ Err f → f.left ≤ length ts
left_of_rest (p, c, []) ts f shorter e = absurd cc
left_of_rest (p, c, t ∷ rest) ts f shorter e =
    let same : record { code = Unexpected; left = length (t ∷ rest) } ≡ f = cc in subst (λ (g : Fault). g.left ≤ length ts) same shorter

left_of : (ts : List Token) (r : Read ProgramTree) → Explained spell Fits (program_tree_reader start) ts r → (f : Fault) → (r >>= ended) ≡ Err f → f.left ≤ length ts
left_of ts (Ok y) h f e = left_of_rest y ts f (omega (arith, ap length h.split, length-append (spell y.0) y.2)) e
left_of ts (Err g) h f e =
    let same : g ≡ f = cc in subst (λ (g : Fault). g.left ≤ length ts) same (omega (arith, h.left, ap length h.split, length-append h.before h.from))

shaped_fault : (r : Result ProgramTree Fault) (f : Fault) → shaped r ≡ Err f → r ≡ Err f
shaped_fault (Ok tree) f e = absurd cc
shaped_fault (Err g) f e = let same : g ≡ f = cc in ap (λ (g : Fault). Err g) same

left_within : (ts : List Token) (f : Fault) → all_of ts ≡ Err f → f.left ≤ length ts
unfolding tree_of_all
left_within ts f e =
    let fault : tree_of_all ts ≡ Err f = shaped_fault (tree_of_all ts) f (sym (all_forgets ts) ∙ e) in
    left_of ts (program_tree_reader start ts) (program_reads.explains start ts) f fault

pub left_placed : (placed : List Placed) (stopped : Stop Fault) (f : Fault) → stopped ≡ stop.Fault f → Fails stopped (all_of (tokens_alone placed)) → f.left ≤ length placed
left_placed placed stopped f is fails =
    let e : Fails (stop.Fault f) (all_of (tokens_alone placed)) = subst (λ (s : Stop Fault). Fails s (all_of (tokens_alone placed))) is fails in
    subst (λ (n : ℕ). f.left ≤ n) (tokens-length placed) (left_within (tokens_alone placed) f e)
