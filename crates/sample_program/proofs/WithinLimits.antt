-- Rules that are made so are within the limits.
use Rattle.std.proofs.Common.{◌≡◌, ℕ, ◌*◌, ◌≤◌, ◌<◌, nat_le, List, [], ◌∷◌, ◌++◌, length, length-append, append-nil, map, sum, true, None, refl, ap, ◌∙◌, arith}
use Rattle.std.specs.List.{list_all, flat_map, AllByRecursion}
use Rattle.std.proofs.lemmas.Bool.{and_from}
use Rattle.std.proofs.lemmas.List.Folds.{list_all-append}
use Rattle.std.proofs.lemmas.List.Sums.{sum_by-cons}
use Rattle.euclid_ast.specs.declared.statement.Comparison.{Comparison}
use Rattle.euclid_ast.specs.declared.statement.Statement.{Statement}
use Rattle.euclid_ast.specs.declared.statement.Statement.TheFolds.{fold-roll-Statement}
use Rattle.euclid_ast.specs.declared.program.Rule.{Rule}
use Rattle.euclid_ast.specs.Limits.{IsWithinLimits, is_short, is_selection, is_comparison, comparisons_step, comparisons_of, comparisons_in, statements_step, statements_of, levels_step, levels_of}
use Rattle.sample_program.specs.Laws.{WithinLaw, CountLaw}
use Rattle.sample_program.specs.Programs.{output, statement, rules, program}
use Rattle.sample_program.proofs.Fine.{IsFine}
use Rattle.sample_program.proofs.Made.{IsMade, short_name, rules_made, rules_count}

-- a statement with nothing nested
pub comparisons_alone : (cs : List Comparison) → comparisons_of (statement cs) ≡ cs
comparisons_alone cs = fold-roll-Statement (List Comparison) comparisons_step (record { condition = cs; nested = None }) ∙ append-nil cs

statements_alone : (cs : List Comparison) → statements_of (statement cs) ≡ 1
statements_alone cs = fold-roll-Statement ℕ statements_step (record { condition = cs; nested = None })

levels_alone : (cs : List Comparison) → levels_of (statement cs) ≡ 1
levels_alone cs = fold-roll-Statement ℕ levels_step (record { condition = cs; nested = None })

-- a rule with one such statement
pub rule_comparisons : (r : Rule) (made : IsMade r) → comparisons_in r.statements ≡ made.comparisons
rule_comparisons r made =
    ap comparisons_in made.statements ∙ append-nil (comparisons_of (statement made.comparisons)) ∙ comparisons_alone made.comparisons

abbrev statements_in : List Rule → List Statement
statements_in rs = flat_map (λ (r : Rule). r.statements) rs

abbrev comparisons_in_all : List Rule → List Comparison
comparisons_in_all rs = flat_map (λ (r : Rule). comparisons_in r.statements) rs

statements_count : (rs : List Rule) → AllByRecursion IsMade rs → sum (map statements_of (statements_in rs)) ≡ length rs
statements_count [] made = refl
statements_count (r ∷ rs) made =
    let one = statements_alone made.0.comparisons in
    let rest = statements_count rs made.1 in
    let more = sum_by-cons (λ (n : ℕ). n) (statements_of (statement made.0.comparisons)) (map statements_of (statements_in rs)) in
    ap (λ ss. sum (map statements_of (ss ++ statements_in rs))) made.0.statements ∙ omega arith

comparisons_count : (rs : List Rule) → AllByRecursion IsMade rs → length (comparisons_in_all rs) ≤ 3 * length rs
comparisons_count [] made = omega arith
comparisons_count (r ∷ rs) made =
    let long = length-append (comparisons_in r.statements) (comparisons_in_all rs) in
    let same = ap length (rule_comparisons r made.0) in
    let few = made.0.few in
    let rest = comparisons_count rs made.1 in
    omega arith

levels_within : (rs : List Rule) → AllByRecursion IsMade rs → list_all (λ s. nat_le (levels_of s) 32) (statements_in rs) ≡ true
levels_within [] made = refl
levels_within (r ∷ rs) made =
    ap (λ ss. list_all (λ s. nat_le (levels_of s) 32) (ss ++ statements_in rs)) made.0.statements
    ∙ and_from _ _ (ap (λ n. nat_le n 32) (levels_alone made.0.comparisons)) (levels_within rs made.1)

fine_within : (cs : List Comparison) → AllByRecursion IsFine cs → list_all is_comparison cs ≡ true
fine_within [] fine = refl
fine_within (c ∷ cs) fine = and_from _ _ fine.0.within (fine_within cs fine.1)

values_within : (rs : List Rule) → AllByRecursion IsMade rs → list_all is_comparison (comparisons_in_all rs) ≡ true
values_within [] made = refl
values_within (r ∷ rs) made =
    list_all-append is_comparison (comparisons_in r.statements) (comparisons_in_all rs)
    ∙ and_from _ _ (ap (list_all is_comparison) (rule_comparisons r made.0) ∙ fine_within made.0.comparisons made.0.fine) (values_within rs made.1)

names_within : (rs : List Rule) → AllByRecursion IsMade rs → list_all (λ (r : Rule). is_short r.name) rs ≡ true
names_within [] made = refl
names_within (r ∷ rs) made = and_from _ _ made.0.name (names_within rs made.1)

output_within : (number : ℕ) → number < 4 → is_selection (output number) ≡ true
output_within number below = and_from _ _ (and_from _ _ (short_name 99 number (omega arith)) refl) refl

selections_within : (rs : List Rule) → AllByRecursion IsMade rs → list_all (λ (r : Rule). is_selection r.selection) rs ≡ true
selections_within [] made = refl
selections_within (r ∷ rs) made = and_from _ _ (ap is_selection made.0.selection ∙ output_within made.0.number made.0.below) (selections_within rs made.1)

all_within : (rs : List Rule) → AllByRecursion IsMade rs → length rs ≡ 256 → IsWithinLimits (record { default_selection = output 0; rules = rs })
all_within rs made count = record {
  rules = omega arith;
  statements = let sums = statements_count rs made in omega arith;
  comparisons = let sums = comparisons_count rs made in omega arith;
  levels = levels_within rs made;
  values = values_within rs made;
  names = names_within rs made;
  default = output_within 0 (omega arith);
  selections = selections_within rs made;
}

pub within : WithinLaw
unfolding program
within seed = all_within (rules seed 256) (rules_made seed 256 (omega arith)) (rules_count seed 256)

pub counted : CountLaw
unfolding program
counted seed = rules_count seed 256
