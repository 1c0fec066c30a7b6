-- What is read counts the statements and comparisons that it holds, and no more than there may be.
use Rattle.std.proofs.Common.{◌≡◌, ℕ, zero, suc, ◌+◌, ◌≤◌, ◌<◌, List, [], ◌∷◌, map, length, Bool, true, false, ltb, Option, Some, None, Result, Ok, Err, IfOk, if◌then◌else◌, refl, ap, sym, ◌∙◌, subst, arith}
use Rattle.std.proofs.lemmas.Bool.{leb-true}
use Rattle.std.specs.Prelude.{codes}
use Rattle.serde_json.specs.Data.{Data}
use Rattle.key_table.specs.Answers as answers
use Rattle.euclid_ast.specs.declared.statement.Comparison.{Comparison}
use Rattle.euclid_ast.specs.declared.statement.Statement.{Statement}
use Rattle.euclid_ast.specs.declared.statement.Statement.TheViews.{roll-Statement}
use Rattle.euclid_ast.specs.declared.program.Rule.{Rule}
use Rattle.euclid_ast.specs.declared.program.Program.{Program}
use Rattle.json_shape.specs.declared.error.ShapeError.{ShapeError}
use Rattle.json_shape.specs.Paths.{name_step, item_step, fault}
use Rattle.json_shape.specs.Shapes.{json_of, field_of, optional_of, list_of}
use Rattle.json_shape.specs.Fields as fields
use Rattle.json_shape.specs.Counted.{◌>>=◌, pure, plain, each}
use Rattle.json_shape.specs.Counting.{within_field, items, if_there}
use Rattle.json_program.specs.declared.counts.Counts.{Counts}
use Rattle.json_program.specs.Begun.{Reading, Reader, none_begun, statement_begun, comparison_begun}
use Rattle.json_program.specs.Comparisons.{fields_of}
use Rattle.json_program.specs.Selections.{selection_of}
use Rattle.json_program.specs.Statements.{comparison_of, condition_of, nested_of, body_of, statement_of}
use Rattle.json_program.specs.Programs.{given_of, rule_of, program_of, is_wrapped, program_in, program_or_fault}
use Rattle.json_program.specs.Texts.{text_of}
use Rattle.json_program.proofs.Parts.{layer}
use Rattle.json_program.proofs.Totals.{counted, both, total, counts_of, rule_counts, same_counts, both_none, both_assoc, counts-alone, counts-nested}

-- no more than there may be
pub record IsAllowed (n : Counts) : Type 0 where
  pub statements : n.statements ≤ 16384
  pub comparisons : n.comparisons ≤ 16384

-- from one count to another, by so many, within what there may be
pub record Rises (n k m : Counts) : Type 0 where
  pub is : m ≡ both n k
  pub allowed : IsAllowed n → IsAllowed m

rises_none : (n : Counts) → Rises n none_begun n
rises_none n = record { is = sym (both_none n); allowed = λ h. h }

rises_both : (n a b k l : Counts) → Rises n k a → Rises a l b → Rises n (both k l) b
rises_both n a b k l first second =
    record { is = second.is ∙ ap (λ x. both x l) first.is ∙ both_assoc n k l; allowed = λ h. second.allowed (first.allowed h) }

-- where so much is read, it counts what it holds
abbrev IsCounted : {X : Type 0} → Reading X → (X → Counts) → Type 0
IsCounted reading counts = (n : Counts) → IfOk (reading n) (λ p. Rises n (counts p.0) p.1)

-- ---- one step after another

through : {A B E : Type 0} (r : Result A E) (next : A → Result B E) (P : A → Type 0) (Q : B → Type 0) → IfOk r P → ((a : A) → P a → IfOk (next a) Q) → IfOk (answers.◌>>=◌ r next) Q
through (Ok a) next P Q h go = go a h
through (Err e) next P Q h go = tt

plainly : {A B : Type 0} (r : Result A ShapeError) (next : A → Reading B) (n : Counts) (Q : B × Counts → Type 0) → ((a : A) → IfOk (next a n) Q) → IfOk ((plain r >>= next) n) Q
plainly (Ok a) next n Q go = go a
plainly (Err e) next n Q go = tt

plain-ends : {A : Type 0} (r : Result A ShapeError) (n : Counts) (Q : A × Counts → Type 0) → ((a : A) → Q (a, n)) → IfOk (plain r n) Q
plain-ends (Ok a) n Q go = go a
plain-ends (Err e) n Q go = tt

if_it : {X E : Type 0} (b : Bool) (x : X) (e : E) (P : X → Type 0) → (b ≡ true → P x) → IfOk (if b then Ok x else Err e) P
if_it true x e P h = h refl
if_it false x e P h = tt

-- ---- lists

each-counts : {X : Type 0} (read : Reader X) (counts : X → Counts) → ((path : List ℕ) (d : Data) → IsCounted (read path d) counts) → (path : List ℕ) (i : ℕ) (ds : List Data) → IsCounted (each read path i ds) (λ xs. total (map counts xs))
unfolding each
each-counts read counts one path i [] n = rises_none n
each-counts read counts one path i (d ∷ ds) n =
    through (read (item_step path i) d n) (λ p. (each read path (i + 1) ds >>= λ xs. pure (p.0 ∷ xs)) p.1) (λ p. Rises n (counts p.0) p.1) (λ p. Rises n (total (map counts p.0)) p.1)
    (one (item_step path i) d n)
    (λ p h. through (each read path (i + 1) ds p.1) (λ q. pure (p.0 ∷ q.0) q.1) (λ q. Rises p.1 (total (map counts q.0)) q.1) (λ q. Rises n (total (map counts q.0)) q.1)
    (each-counts read counts one path (i + 1) ds p.1)
    (λ q g. rises_both n p.1 q.1 (counts p.0) (total (map counts q.0)) h g))

items-count : {X : Type 0} (most : ℕ) (read : Reader X) (counts : X → Counts) → ((path : List ℕ) (d : Data) → IsCounted (read path d) counts) → (path : List ℕ) (d : Data) → IsCounted (items most read path d) (λ xs. total (map counts xs))
items-count most read counts one path d n =
    plainly (list_of path most d) (each read path 0) n (λ p. Rises n (total (map counts p.0)) p.1) (λ ds. each-counts read counts one path 0 ds n)

field-counts : {X : Type 0} (name : List ℕ) (read : Reader X) (counts : X → Counts) → ((path : List ℕ) (d : Data) → IsCounted (read path d) counts) → (path : List ℕ) (d : Data) → IsCounted (within_field name read path d) counts
field-counts name read counts one path d n =
    plainly (field_of path name d) (read (name_step path name)) n (λ p. Rises n (counts p.0) p.1) (λ e. one (name_step path name) e n)

-- ---- comparisons

abbrev one_more : Comparison → Counts
one_more c = counted 0 1

comparison_begun-rises : (path : List ℕ) (n : Counts) → IfOk (comparison_begun path n) (λ p. Rises n (counted 0 1) p.1)
unfolding comparison_begun
comparison_begun-rises path n =
    if_it (ltb n.comparisons 16384) (tt, counted n.statements (n.comparisons + 1)) (fault 5 path) (λ p. Rises n (counted 0 1) p.1)
    (λ less. let few : n.comparisons < 16384 = leb-true _ _ less in record {
      is = same_counts _ _ (omega arith) (omega arith);
      allowed = λ h. record { statements = h.statements; comparisons = omega (arith, few) };
    })

comparison-counts : (path : List ℕ) (d : Data) → IsCounted (comparison_of path d) one_more
unfolding comparison_of
comparison-counts path d n =
    through (comparison_begun path n) (λ p. plain (fields_of path d) p.1) (λ p. Rises n (counted 0 1) p.1) (λ p. Rises n (counted 0 1) p.1)
    (comparison_begun-rises path n)
    (λ p h. plain-ends (fields_of path d) p.1 (λ q. Rises n (counted 0 1) q.1) (λ c. h))

total-ones : (cs : List Comparison) → total (map one_more cs) ≡ counted 0 (length cs)
total-ones [] = refl
total-ones (c ∷ cs) = ap (both (one_more c)) (total-ones cs) ∙ same_counts _ _ (omega arith) (omega arith)

abbrev condition_counts : List Comparison → Counts
condition_counts cs = total (map one_more cs)

condition-counts : (path : List ℕ) (d : Data) → IsCounted (condition_of path d) condition_counts
condition-counts = field-counts (codes "condition") (items 16384 comparison_of) condition_counts (items-count 16384 comparison_of one_more comparison-counts)

-- ---- statements

statement_begun-rises : (path : List ℕ) (n : Counts) → IfOk (statement_begun path n) (λ p. Rises n (counted 1 0) p.1)
unfolding statement_begun
statement_begun-rises path n =
    if_it (ltb n.statements 16384) (tt, counted (n.statements + 1) n.comparisons) (fault 5 path) (λ p. Rises n (counted 1 0) p.1)
    (λ less. let few : n.statements < 16384 = leb-true _ _ less in record {
      is = same_counts _ _ (omega arith) (omega arith);
      allowed = λ h. record { statements = omega (arith, few); comparisons = h.comparisons };
    })

abbrev statements_counts : List Statement → Counts
statements_counts ss = total (map counts_of ss)

abbrev nested_counts : Option (List Statement) → Counts
nested_counts None = none_begun
nested_counts (Some ss) = statements_counts ss

-- what reads a statement counts what it holds
abbrev CountsStatements : Reader Statement → Type 0
CountsStatements read = (path : List ℕ) (d : Data) → IsCounted (read path d) counts_of

there-counts : (read : Reader Statement) → CountsStatements read → (path : List ℕ) (o : Option Data) (n : Counts) → IfOk (if_there (items 16384 read path) o n) (λ p. Rises n (nested_counts p.0) p.1)
there-counts read one path None n = rises_none n
there-counts read one path (Some d) n =
    through (items 16384 read path d n) (λ p. pure (Some p.0) p.1) (λ p. Rises n (statements_counts p.0) p.1) (λ p. Rises n (nested_counts p.0) p.1)
    (items-count 16384 read counts_of one path d n) (λ p h. h)

nested-counts : (read : Reader Statement) → CountsStatements read → (path : List ℕ) (d : Data) → IsCounted (nested_of read path d) nested_counts
nested-counts read one path d n =
    plainly (optional_of path (codes "nested") d) (if_there (items 16384 read (name_step path (codes "nested")))) n (λ p. Rises n (nested_counts p.0) p.1)
    (λ o. there-counts read one (name_step path (codes "nested")) o n)

made_of : (cs : List Comparison) (nested : Option (List Statement)) → both (both (counted 1 0) (condition_counts cs)) (nested_counts nested) ≡ counts_of (roll-Statement (layer cs nested))
made_of cs None = both_none _ ∙ ap (both (counted 1 0)) (total-ones cs) ∙ same_counts _ _ (omega arith) (omega arith) ∙ sym (counts-alone cs)
made_of cs (Some ss) =
    ap (λ c. both (both (counted 1 0) c) (statements_counts ss)) (total-ones cs) ∙ same_counts _ _ (omega arith) (omega arith) ∙ sym (counts-nested cs ss)

body-counts : (read : Reader Statement) → CountsStatements read → CountsStatements (body_of read)
unfolding body_of
body-counts read one path d n =
    through (statement_begun path n) (λ p. (condition_of path d >>= λ cs. nested_of read path d >>= λ nested. pure (roll-Statement (layer cs nested))) p.1) (λ p. Rises n (counted 1 0) p.1) (λ p. Rises n (counts_of p.0) p.1)
    (statement_begun-rises path n)
    (λ p h. through (condition_of path d p.1) (λ q. (nested_of read path d >>= λ nested. pure (roll-Statement (layer q.0 nested))) q.1) (λ q. Rises p.1 (condition_counts q.0) q.1) (λ q. Rises n (counts_of q.0) q.1)
    (condition-counts path d p.1)
    (λ q g. through (nested_of read path d q.1) (λ r. pure (roll-Statement (layer q.0 r.0)) r.1) (λ r. Rises q.1 (nested_counts r.0) r.1) (λ r. Rises n (counts_of r.0) r.1)
    (nested-counts read one path d q.1)
    (λ r k.
    let P : Counts → Type 0 = λ c. Rises n c r.1 in
    subst P (made_of q.0 r.0) (rises_both n q.1 r.1 (both (counted 1 0) (condition_counts q.0)) (nested_counts r.0) (rises_both n p.1 q.1 (counted 1 0) (condition_counts q.0) h g) k))))

statement-counts : (levels : ℕ) → CountsStatements (statement_of levels)
unfolding statement_of
statement-counts zero path d n = tt
statement-counts (suc levels) path d n = body-counts (statement_of levels) (statement-counts levels) path d n

-- ---- rules and programs

rule-counts : (levels : ℕ) (path : List ℕ) (d : Data) → IsCounted (rule_of levels path d) rule_counts
unfolding rule_of
rule-counts levels path d n =
    let Q : Rule × Counts → Type 0 = λ p. Rises n (rule_counts p.0) p.1 in
    plainly (fields.within_field (codes "name") text_of path d) (λ name. plain (given_of path d) >>= λ selection. within_field (codes "statements") (items 16384 (statement_of levels)) path d >>= λ ss. pure (record { name = name; selection = selection; statements = ss })) n Q
    (λ name. plainly (given_of path d) (λ selection. within_field (codes "statements") (items 16384 (statement_of levels)) path d >>= λ ss. pure (record { name = name; selection = selection; statements = ss })) n Q
    (λ selection. through (within_field (codes "statements") (items 16384 (statement_of levels)) path d n) (λ p. pure (record { name = name; selection = selection; statements = p.0 }) p.1) (λ p. Rises n (statements_counts p.0) p.1) Q
    (field-counts (codes "statements") (items 16384 (statement_of levels)) statements_counts (items-count 16384 (statement_of levels) counts_of (statement-counts levels)) path d n)
    (λ p h. h)))

abbrev pub program_counts : Program → Counts
program_counts p = total (map rule_counts p.rules)

program-counts : (levels : ℕ) (path : List ℕ) (d : Data) → IsCounted (program_of levels path d) program_counts
unfolding program_of
program-counts levels path d n =
    let Q : Program × Counts → Type 0 = λ p. Rises n (program_counts p.0) p.1 in
    plainly (fields.within_field (codes "defaultSelection") selection_of path d) (λ default. within_field (codes "rules") (items 256 (rule_of levels)) path d >>= λ rules. pure (record { default_selection = default; rules = rules })) n Q
    (λ default. through (within_field (codes "rules") (items 256 (rule_of levels)) path d n) (λ p. pure (record { default_selection = default; rules = p.0 }) p.1) (λ p. Rises n (total (map rule_counts p.0)) p.1) Q
    (field-counts (codes "rules") (items 256 (rule_of levels)) (λ rules. total (map rule_counts rules)) (items-count 256 (rule_of levels) rule_counts (rule-counts levels)) path d n)
    (λ p h. h))

either-counts : (wrapped : Bool) (first second : Reading Program) → IsCounted first program_counts → IsCounted second program_counts → IsCounted (if wrapped then first else second) program_counts
either-counts true first second h g = h
either-counts false first second h g = g

file-counts : (levels : ℕ) (d : Data) → IsCounted (program_in levels d) program_counts
file-counts levels d =
    either-counts (is_wrapped d) (within_field (codes "data") (program_of levels) [] d) (program_of levels [] d)
    (field-counts (codes "data") (program_of levels) program_counts (program-counts levels) [] d) (program-counts levels [] d)

allowed_from : (k m : Counts) → Rises none_begun k m → IsAllowed k
allowed_from k m rises =
    let none : IsAllowed none_begun = record { statements = omega arith; comparisons = omega arith } in
    let all = rises.allowed none in
    let is = rises.is in
    record { statements = omega (arith, all.statements, ap (λ (n : Counts). n.statements) is); comparisons = omega (arith, all.comparisons, ap (λ (n : Counts). n.comparisons) is) }

from : (levels : ℕ) (json : Result Data ShapeError) → IfOk (answers.◌>>=◌ json (λ d. answers.◌>>=◌ (program_in levels d none_begun) (λ read. Ok read.0))) (λ p. IsAllowed (program_counts p))
from levels (Err e) = tt
from levels (Ok d) =
    through (program_in levels d none_begun) (λ read. Ok read.0) (λ p. Rises none_begun (program_counts p.0) p.1) (λ p. IsAllowed (program_counts p))
    (file-counts levels d none_begun) (λ p h. allowed_from (program_counts p.0) p.1 h)

-- A program that is read has no more statements and comparisons than there may be.
pub program_or_fault-allowed : (levels : ℕ) (bytes : List ℕ) → IfOk (program_or_fault levels bytes) (λ p. IsAllowed (program_counts p))
program_or_fault-allowed levels bytes = from levels (json_of bytes)
