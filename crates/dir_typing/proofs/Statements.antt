-- The faults of a statement, and of statements in a row, with how far their comparisons are counted.
use Rattle.std.proofs.Common.{◌≡◌, ℕ, ◌+◌, ◌<◌, List, [], ◌++◌, map, length, length-append, take, get_or, true, Option, Some, Ok, refl, ap, sym, ◌∙◌, append-nil, arith}
use Rattle.key_table.specs.declared.stop.Stop.{Stop}
use Rattle.key_table.specs.Answers.{Fails}
use Rattle.key_table.specs.Tables.{Table}
use Rattle.euclid_ast.specs.declared.statement.Comparison.{Comparison}
use Rattle.euclid_ast.specs.declared.statement.Statement.{Statement}
use Rattle.euclid_ast.specs.declared.statement.Statement.TheViews.{out-Statement}
use Rattle.euclid_ast.specs.declared.selection.Selection.{Selection}
use Rattle.euclid_ast.specs.declared.program.Rule.{Rule}
use Rattle.euclid_ast.specs.Limits.{comparisons_of, comparisons_in}
use Rattle.dir_typing.specs.declared.fault.TypeFault.{TypeFault}
use Rattle.dir_typing.specs.declared.dir.DirComparison.{DirComparison}
use Rattle.dir_typing.specs.declared.dir.DirStatement.{DirStatement, roll-DirStatement}
use Rattle.dir_typing.specs.declared.fault.Place.TheVariants as place
use Rattle.dir_typing.specs.declared.selection.Family.{Family}
use Rattle.dir_typing.specs.Numbered.{comparison_of, statement_of, rule_of}
use Rattle.dir_typing.specs.Selections.{selection_code}
use Rattle.dir_typing.specs.Faults.{fault_at, numbered, comparison_faults, rule_faults}
use Rattle.dir_typing.specs.Typed.{judged, counted}
use Rattle.dir_typing.proofs.Judged.{numbered-none, judged-Ok, part-fails, part-clean, flat_map-next}
use Rattle.dir_typing.proofs.Parts.{nested_comparisons, nested_statements, comparisons_of-out, statement_of-out}

-- A statement with a nested list, seen by its condition and that list.
pub record Nests (s : Statement) (condition : List Comparison) (nested : List Statement) : Type 0 where
  pub condition_is : condition ≡ (out-Statement s).condition
  pub nested_is : (out-Statement s).nested ≡ Some nested

-- its comparisons
pub nests-comparisons : (s : Statement) (condition : List Comparison) (nested : List Statement) → Nests s condition nested → comparisons_of s ≡ condition ++ comparisons_in nested
nests-comparisons s condition nested n = comparisons_of-out s ∙ ap (λ y. (out-Statement s).condition ++ nested_comparisons y) n.nested_is ∙ ap (λ c. c ++ comparisons_in nested) (sym n.condition_is)

-- it with numbers for names
pub nests-statement : (table : Table) (s : Statement) (condition : List Comparison) (nested : List Statement) → Nests s condition nested
    → statement_of table s ≡ roll-DirStatement (record { condition = map (comparison_of table) condition; nested = Some (map (statement_of table) nested) })
nests-statement table s condition nested n =
    statement_of-out table s
    ∙ ap (λ y. roll-DirStatement (record { condition = map (comparison_of table) (out-Statement s).condition; nested = nested_statements table y })) n.nested_is
    ∙ ap (λ c. roll-DirStatement (record { condition = map (comparison_of table) c; nested = Some (map (statement_of table) nested) })) (sym n.condition_is)

-- A comparison of the condition is at fault.
pub condition-fails : {Y Z : Type 0} (stop : Stop TypeFault) (table : Table) (rule n : ℕ) (s : Statement) (condition : List Comparison) (v : Y) (w : Z)
    → condition ≡ (out-Statement s).condition → Fails stop (judged (numbered (comparison_faults table rule) n condition) v)
    → Fails stop (judged (numbered (comparison_faults table rule) n (comparisons_of s)) w)
condition-fails stop table rule n s condition v w is fails =
    part-fails stop (comparison_faults table rule) n n [] condition (nested_comparisons (out-Statement s).nested) (comparisons_of s) v w
    (comparisons_of-out s ∙ ap (λ c. c ++ nested_comparisons (out-Statement s).nested) (sym is)) (numbered-none (comparison_faults table rule) n) (omega arith) fails

-- A condition has no fault, and the count goes on behind it.
abbrev pub IsCounted : Table → ℕ → ℕ → List Comparison → List DirComparison → ℕ → Type 0
IsCounted table rule n condition typed m = counted table rule n condition (map (comparison_of table) condition) ≡ Ok (typed, m)

-- Statements have no fault, and the count goes on behind them.
abbrev pub AreCounted : Table → ℕ → ℕ → List Statement → List DirStatement → ℕ → Type 0
AreCounted table rule n nested typed m = counted table rule n (comparisons_in nested) (map (statement_of table) nested) ≡ Ok (typed, m)

-- how far the count is behind a condition
pub counted-next : (table : Table) (rule n m : ℕ) (condition : List Comparison) (typed : List DirComparison) → IsCounted table rule n condition typed m → m ≡ n + length condition
counted-next table rule n m condition typed is =
    let found = judged-Ok (numbered (comparison_faults table rule) n condition) _ _ is in
    sym (ap (λ p. p.1) found.1)

-- A comparison of a nested statement is at fault, behind a condition that is not.
pub nested-fails : {Y Z : Type 0} (stop : Stop TypeFault) (table : Table) (rule n m : ℕ) (s : Statement) (condition : List Comparison) (nested : List Statement) (typed : List DirComparison) (v : Y) (w : Z)
    → Nests s condition nested → IsCounted table rule n condition typed m → Fails stop (judged (numbered (comparison_faults table rule) m (comparisons_in nested)) v)
    → Fails stop (judged (numbered (comparison_faults table rule) n (comparisons_of s)) w)
nested-fails stop table rule n m s condition nested typed v w nests is fails =
    let found = judged-Ok (numbered (comparison_faults table rule) n condition) _ _ is in
    part-fails stop (comparison_faults table rule) n m condition (comparisons_in nested) [] (comparisons_of s) v w
    (nests-comparisons s condition nested nests ∙ ap (λ cs. condition ++ cs) (sym (append-nil (comparisons_in nested)))) found.0 (counted-next table rule n m condition typed is) fails

-- A condition and nested statements without a fault make a statement without one.
pub statement-done : (table : Table) (rule n m k : ℕ) (s : Statement) (condition : List Comparison) (nested : List Statement) (typed : List DirComparison) (typed_nested : List DirStatement)
    → Nests s condition nested → IsCounted table rule n condition typed m → AreCounted table rule m nested typed_nested k
    → counted table rule n (comparisons_of s) (statement_of table s) ≡ Ok (roll-DirStatement (record { condition = typed; nested = Some typed_nested }), k)
statement-done table rule n m k s condition nested typed typed_nested nests is are =
    let f = comparison_faults table rule in
    let first = judged-Ok (numbered f n condition) _ _ is in
    let second = judged-Ok (numbered f m (comparisons_in nested)) _ _ are in
    let at = counted-next table rule n m condition typed is in
    let all = nests-comparisons s condition nested nests in
    let clean : numbered f n (comparisons_of s) ≡ [] = ap (numbered f n) all ∙ part-clean f n m condition (comparisons_in nested) _ _ first.0 at are in
    let count : n + length (comparisons_of s) ≡ k =
    let e : length (comparisons_of s) ≡ length condition + length (comparisons_in nested) = ap length all ∙ length-append condition (comparisons_in nested) in
    let g : m + length (comparisons_in nested) ≡ k = ap (λ p. p.1) second.1 in
    omega (arith, e, g, at) in
    let value : statement_of table s ≡ roll-DirStatement (record { condition = typed; nested = Some typed_nested }) =
    nests-statement table s condition nested nests
    ∙ ap (λ c. roll-DirStatement (record { condition = c; nested = Some (map (statement_of table) nested) })) (ap (λ p. p.0) first.1)
    ∙ ap (λ y. roll-DirStatement (record { condition = typed; nested = Some y })) (ap (λ p. p.0) second.1) in
    let done : DirStatement = roll-DirStatement (record { condition = typed; nested = Some typed_nested }) in
    ap (λ fs. judged {X = DirStatement × ℕ} fs (statement_of table s, n + length (comparisons_of s))) clean
    ∙ ap (λ x. Ok (x, n + length (comparisons_of s))) value ∙ ap (λ j. Ok (done, j)) count

-- how far the count is behind one statement more
pub statement-count : (statements : List Statement) (i : ℕ) (s : Statement) (n m k : ℕ) → i < length statements → s ≡ get_or statements i s
    → m ≡ n + length (comparisons_in (take i statements)) → m + length (comparisons_of s) ≡ k → k ≡ n + length (comparisons_in (take (i + 1) statements))
statement-count statements i s n m k within is at next =
    let e : length (comparisons_in (take (i + 1) statements)) ≡ length (comparisons_in (take i statements)) + length (comparisons_of s) =
    ap length (flat_map-next comparisons_of statements i s within is) ∙ length-append (comparisons_in (take i statements)) (comparisons_of s) in
    omega (arith, e, at, next)

-- A selection and statements without a fault make a rule without one.
pub rule-done : (table : Table) (first : Option Family) (n k : ℕ) (rule : Rule) (slice : List Statement) (name : List ℕ) (selection : Selection) (statements : List DirStatement)
    → slice ≡ rule.statements → judged (fault_at (Some n) place.Selection (selection_code true first rule.selection)) rule.selection ≡ Ok selection → AreCounted table n 0 slice statements k → name ≡ rule.name
    → judged (rule_faults table first n rule) (rule_of table rule) ≡ Ok (record { name = name; selection = selection; statements = statements })
rule-done table first n k rule slice name selection statements whole chosen are named =
    let f = comparison_faults table n in
    let a = judged-Ok (fault_at (Some n) place.Selection (selection_code true first rule.selection)) rule.selection selection chosen in
    let b = judged-Ok (numbered f 0 (comparisons_in slice)) _ _ are in
    let clean : rule_faults table first n rule ≡ [] =
    ap (λ fs. fs ++ numbered f 0 (comparisons_in rule.statements)) a.0 ∙ ap (λ s. numbered f 0 (comparisons_in s)) (sym whole) ∙ b.0 in
    let typed : map (statement_of table) rule.statements ≡ statements = ap (map (statement_of table)) (sym whole) ∙ ap (λ p. p.0) b.1 in
    ap (λ fs. judged fs (rule_of table rule)) clean
    ∙ rw (typed, named, a.1) refl
