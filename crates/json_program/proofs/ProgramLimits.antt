-- Which programs are within the limits, by their parts.
use Rattle.std.proofs.Common.{◌≡◌, ℕ, List, map, length, true, ◌&&◌, leb, ap, sym, ◌∙◌, arith}
use Rattle.std.specs.List.{list_all, flat_map, sum}
use Rattle.std.proofs.lemmas.Bool.{le-leb, leb-true, and_parts}
use Rattle.euclid_ast.specs.declared.statement.Statement.{Statement}
use Rattle.euclid_ast.specs.declared.program.Rule.{Rule}
use Rattle.euclid_ast.specs.declared.program.Program.{Program}
use Rattle.euclid_ast.specs.Limits.{statements_of, levels_of, comparisons_of, is_comparison, is_short, is_selection, all_statements, all_comparisons, IsWithinLimits}
use Rattle.json_program.specs.declared.counts.Counts.{Counts}
use Rattle.json_program.specs.Begun.{none_begun}
use Rattle.json_program.specs.Parts.{is_statement, is_rule, is_program}
use Rattle.json_program.proofs.Counting.{IsAllowed, program_counts}
use Rattle.json_program.proofs.Tests.{list_all-both, list_all-flat_map}
use Rattle.json_program.proofs.Totals.{total-statements, total-comparisons, total-rules, comparisons-rules}
use Rattle.json_program.proofs.TreeReadsBack.{HasRoom}

-- the statements of a list by their depth and their comparisons
statements-parts : (levels : ℕ) (ss : List Statement) → list_all (is_statement levels) ss ≡ (list_all (λ s. leb (levels_of s) levels) ss && list_all is_comparison (flat_map comparisons_of ss))
statements-parts levels ss =
    list_all-both (λ s. leb (levels_of s) levels) (λ s. list_all is_comparison (comparisons_of s)) ss
    ∙ ap (λ b. list_all (λ s. leb (levels_of s) levels) ss && b) (sym (list_all-flat_map is_comparison comparisons_of ss))

-- the rules of a list by their names, selections and statements
rules-parts : (levels : ℕ) (rules : List Rule)
    → list_all (is_rule levels) rules ≡ (list_all (λ (r : Rule). is_short r.name) rules && (list_all (λ (r : Rule). is_selection r.selection) rules && list_all (is_statement levels) (flat_map (λ (r : Rule). r.statements) rules)))
rules-parts levels rules =
    list_all-both (λ (r : Rule). is_short r.name) (λ (r : Rule). is_selection r.selection && list_all (is_statement levels) r.statements) rules
    ∙ ap (λ b. list_all (λ (r : Rule). is_short r.name) rules && b) (list_all-both (λ (r : Rule). is_selection r.selection) (λ (r : Rule). list_all (is_statement levels) r.statements) rules
    ∙ ap (λ b. list_all (λ (r : Rule). is_selection r.selection) rules && b) (sym (list_all-flat_map (is_statement levels) (λ (r : Rule). r.statements) rules)))

statements-counted : (p : Program) → (program_counts p).statements ≡ sum (map statements_of (all_statements p))
statements-counted p = ap (λ (n : Counts). n.statements) (total-rules p.rules) ∙ total-statements (all_statements p)

comparisons-counted : (p : Program) → (program_counts p).comparisons ≡ length (all_comparisons p)
comparisons-counted p =
    ap (λ (n : Counts). n.comparisons) (total-rules p.rules) ∙ total-comparisons (all_statements p) ∙ ap length (sym (comparisons-rules p.rules))

-- A program is within the limits where its parts are, and it has no more statements and comparisons than there may be.
pub within : (p : Program) → is_program 32 p ≡ true → IsAllowed (program_counts p) → IsWithinLimits p
within p fits allowed =
    let rules = p.rules in
    let one = and_parts (is_selection p.default_selection) (leb (length rules) 256 && list_all (is_rule 32) rules) fits in
    let two = and_parts (leb (length rules) 256) (list_all (is_rule 32) rules) one.1 in
    let names = list_all (λ (r : Rule). is_short r.name) rules in
    let selections = list_all (λ (r : Rule). is_selection r.selection) rules in
    let three = and_parts names (selections && list_all (is_statement 32) (all_statements p)) (sym (rules-parts 32 rules) ∙ two.1) in
    let four = and_parts selections (list_all (is_statement 32) (all_statements p)) three.1 in
    let five = and_parts (list_all (λ s. leb (levels_of s) 32) (all_statements p)) (list_all is_comparison (flat_map comparisons_of (all_statements p))) (sym (statements-parts 32 (all_statements p)) ∙ four.1) in
    record {
      rules = leb-true (length rules) 256 two.0;
      statements = omega (arith, allowed.statements, statements-counted p);
      comparisons = omega (arith, allowed.comparisons, comparisons-counted p);
      levels = five.0;
      values = ap (list_all is_comparison) (comparisons-rules rules) ∙ five.1;
      names = three.0;
      default = one.0;
      selections = four.0;
    }

-- The parts of a program within the limits are within them.
pub parts_within : (p : Program) → IsWithinLimits p → is_program 32 p ≡ true
parts_within p limits =
    let values = ap (list_all is_comparison) (sym (comparisons-rules p.rules)) ∙ limits.values in
    let statements : list_all (is_statement 32) (all_statements p) ≡ true = statements-parts 32 (all_statements p) ∙ rw (limits.levels, values) in
    let rules : list_all (is_rule 32) p.rules ≡ true = rules-parts 32 p.rules ∙ rw (limits.names, limits.selections, statements) in
    rw (limits.default, le-leb (length p.rules) 256 limits.rules, rules)

-- and it has no more statements and comparisons than there may be
pub room_within : (p : Program) → IsWithinLimits p → HasRoom none_begun (program_counts p)
room_within p limits = record {
  statements = omega (arith, limits.statements, statements-counted p);
  comparisons = omega (arith, limits.comparisons, comparisons-counted p);
}
