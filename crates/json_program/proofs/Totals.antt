-- How many statements and comparisons there are.
use Rattle.std.proofs.Common.{◌≡◌, ℕ, ◌+◌, ◌≤◌, List, [], ◌∷◌, ◌++◌, map, length, Some, None, refl, ap, sym, ◌∙◌, arith, append-nil, length-append}
use Rattle.std.specs.List.{flat_map, sum}
use Rattle.std.proofs.lemmas.Grind.{flat_map-append}
use Rattle.std.proofs.lemmas.List.{map-append}
use Rattle.std.proofs.lemmas.List.Sums.{sum_by-cons}
use Rattle.euclid_ast.specs.declared.statement.Comparison.{Comparison}
use Rattle.euclid_ast.specs.declared.statement.Statement.{Statement}
use Rattle.euclid_ast.specs.declared.statement.Statement.TheViews.{roll-Statement}
use Rattle.euclid_ast.specs.declared.statement.Statement.TheFolds.{fold-roll-Statement, fold_out-Statement}
use Rattle.euclid_ast.specs.declared.program.Rule.{Rule}
use Rattle.euclid_ast.specs.Limits.{statements_step, statements_of, comparisons_step, comparisons_of}
use Rattle.json_program.specs.declared.counts.Counts.{Counts}
use Rattle.json_program.specs.Begun.{none_begun}
use Rattle.json_program.proofs.Parts.{layer}

abbrev pub counted : ℕ → ℕ → Counts
counted s c = record { statements = s; comparisons = c }

-- so many and so many more
abbrev pub both : Counts → Counts → Counts
both n m = record { statements = n.statements + m.statements; comparisons = n.comparisons + m.comparisons }

abbrev pub total : List Counts → Counts
total [] = none_begun
total (n ∷ ns) = both n (total ns)

-- the statements and the comparisons of a statement
unfoldable pub counts_of : Statement → Counts
counts_of s = record { statements = statements_of s; comparisons = length (comparisons_of s) }

-- those of a rule
abbrev pub rule_counts : Rule → Counts
rule_counts r = total (map counts_of r.statements)

pub same_counts : (n m : Counts) → n.statements ≡ m.statements → n.comparisons ≡ m.comparisons → n ≡ m
same_counts n m p q = ap (λ s. counted s n.comparisons) p ∙ ap (counted m.statements) q

pub both_none : (n : Counts) → both n none_begun ≡ n
both_none n = same_counts (both n none_begun) n (omega arith) (omega arith)

pub none_both : (n : Counts) → both none_begun n ≡ n
none_both n = same_counts (both none_begun n) n (omega arith) (omega arith)

pub both_assoc : (n m k : Counts) → both (both n m) k ≡ both n (both m k)
both_assoc n m k = same_counts (both (both n m) k) (both n (both m k)) (omega arith) (omega arith)

-- ---- a statement by its parts

pub total-statements : (ss : List Statement) → (total (map counts_of ss)).statements ≡ sum (map statements_of ss)
unfolding counts_of
total-statements [] = refl
total-statements (s ∷ ss) = ap (λ n. statements_of s + n) (total-statements ss) ∙ sym (sum_by-cons (λ n. n) (statements_of s) (map statements_of ss))

pub total-comparisons : (ss : List Statement) → (total (map counts_of ss)).comparisons ≡ length (flat_map comparisons_of ss)
unfolding counts_of
total-comparisons [] = refl
total-comparisons (s ∷ ss) = ap (λ n. length (comparisons_of s) + n) (total-comparisons ss) ∙ sym (length-append (comparisons_of s) (flat_map comparisons_of ss))

joined-map : {X Y : Type 0} (f : X → List Y) (xs : List X) → flat_map (λ ys. ys) (map f xs) ≡ flat_map f xs
joined-map f [] = refl
joined-map f (x ∷ xs) = ap (λ ys. f x ++ ys) (joined-map f xs)

pub counts-alone : (cs : List Comparison) → counts_of (roll-Statement (layer cs None)) ≡ counted 1 (length cs)
unfolding counts_of
counts-alone cs =
    same_counts _ _ (fold-roll-Statement ℕ statements_step (layer cs None))
    (ap length (fold-roll-Statement (List Comparison) comparisons_step (layer cs None) ∙ append-nil cs))

statements-nested : (cs : List Comparison) (ss : List Statement) → (counts_of (roll-Statement (layer cs (Some ss)))).statements ≡ 1 + (total (map counts_of ss)).statements
unfolding counts_of
statements-nested cs ss =
    let e = fold-roll-Statement ℕ statements_step (layer cs (Some ss)) in
    let t = total-statements ss in
    omega (arith, e, t)

comparisons-nested : (cs : List Comparison) (ss : List Statement) → (counts_of (roll-Statement (layer cs (Some ss)))).comparisons ≡ length cs + (total (map counts_of ss)).comparisons
unfolding counts_of
comparisons-nested cs ss =
    ap length (fold-roll-Statement (List Comparison) comparisons_step (layer cs (Some ss))) ∙ length-append cs (flat_map (λ ys. ys) (map comparisons_of ss))
    ∙ ap (λ ys. length cs + length ys) (joined-map comparisons_of ss) ∙ ap (λ n. length cs + n) (sym (total-comparisons ss))

pub counts-nested : (cs : List Comparison) (ss : List Statement) → counts_of (roll-Statement (layer cs (Some ss))) ≡ both (counted 1 (length cs)) (total (map counts_of ss))
counts-nested cs ss = same_counts _ _ (statements-nested cs ss) (comparisons-nested cs ss)

-- each statement counts itself
pub counts-some : (s : Statement) → 1 ≤ (counts_of s).statements
unfolding counts_of
counts-some s = let e = fold_out-Statement ℕ statements_step s in omega (arith, e)

-- ---- rules

total-append : (ns ms : List Counts) → total (ns ++ ms) ≡ both (total ns) (total ms)
total-append [] ms = sym (none_both (total ms))
total-append (n ∷ ns) ms = ap (both n) (total-append ns ms) ∙ sym (both_assoc n (total ns) (total ms))

-- the statements of all rules are counted one after another
pub total-rules : (rules : List Rule) → total (map rule_counts rules) ≡ total (map counts_of (flat_map (λ (r : Rule). r.statements) rules))
total-rules [] = refl
total-rules (r ∷ rules) =
    let rest = flat_map (λ (r : Rule). r.statements) rules in
    ap (both (rule_counts r)) (total-rules rules) ∙ sym (ap total (map-append counts_of r.statements rest) ∙ total-append (map counts_of r.statements) (map counts_of rest))

-- and so are the comparisons
pub comparisons-rules : (rules : List Rule) → flat_map (λ (r : Rule). flat_map comparisons_of r.statements) rules ≡ flat_map comparisons_of (flat_map (λ (r : Rule). r.statements) rules)
comparisons-rules [] = refl
comparisons-rules (r ∷ rules) =
    ap (λ cs. flat_map comparisons_of r.statements ++ cs) (comparisons-rules rules) ∙ sym (flat_map-append comparisons_of r.statements (flat_map (λ (r : Rule). r.statements) rules))
