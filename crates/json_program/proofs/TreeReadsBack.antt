-- What is written for a statement reads back, and counts its statements and comparisons.
use Rattle.std.proofs.Common.{◌≡◌, ℕ, zero, suc, ◌+◌, ◌<◌, ◌≤◌, List, [], ◌∷◌, map, length, true, Option, Some, None, Ok, refl, ap, sym, ◌∙◌, subst, arith}
use Rattle.std.specs.List.{list_all, AllByRecursion}
use Rattle.std.proofs.lemmas.Bool.{lt-ltb, and_parts, false≢true}
use Rattle.std.proofs.lemmas.List.{length-map}
use Rattle.std.specs.Prelude.{codes}
use Rattle.serde_json.specs.Data.{Data}
use Rattle.euclid_ast.specs.declared.statement.Comparison.{Comparison}
use Rattle.euclid_ast.specs.declared.statement.Statement.{Statement}
use Rattle.euclid_ast.specs.declared.statement.Statement.TheViews.{roll-Statement}
use Rattle.euclid_ast.specs.declared.statement.Statement.TheFolds.{fold-roll-Statement, ind-Statement, map-Statement}
use Rattle.json_shape.specs.Paths.{item_step, name_step}
use Rattle.json_shape.specs.Counted.{each}
use Rattle.json_shape.specs.Counting.{items}
use Rattle.json_program.specs.declared.counts.Counts.{Counts}
use Rattle.json_program.specs.Begun.{Reader, statement_begun, comparison_begun}
use Rattle.json_program.specs.Statements.{comparison_of, body_of, statement_of}
use Rattle.euclid_ast.specs.Limits.{is_comparison}
use Rattle.json_program.specs.Parts.{is_statement}
use Rattle.json_program.specs.Written.{list_data, comparison_data, statement_step, statement_data}
use Rattle.json_program.proofs.Leaves.{list_reads, fields_read}
use Rattle.json_program.proofs.Parts.{layer, is_statement-roll, is_statement-zero}
use Rattle.json_program.proofs.Tests.{all_from}
use Rattle.json_program.proofs.Totals.{counted, both, total, counts_of, same_counts, both_none, both_assoc, counts-alone, counts-nested, counts-some}

-- after so many there is room for so many more
pub record HasRoom (n m : Counts) : Type 0 where
  pub statements : n.statements + m.statements ≤ 16384
  pub comparisons : n.comparisons + m.comparisons ≤ 16384

-- What was written of a value reads back at every path where there is room for what it counts, and counts just that.
abbrev pub ReadsBack : {X : Type 0} → Reader X → (X → Data) → (X → Counts) → X → Type 0
ReadsBack read write counts x = (path : List ℕ) (n : Counts) → HasRoom n (counts x) → read path (write x) n ≡ Ok (x, both n (counts x))

room_first : (n m k : Counts) → HasRoom n (both m k) → HasRoom n m
room_first n m k room = record { statements = omega (arith, room.statements); comparisons = omega (arith, room.comparisons) }

room_rest : (n m k : Counts) → HasRoom n (both m k) → HasRoom (both n m) k
room_rest n m k room = record { statements = omega (arith, room.statements); comparisons = omega (arith, room.comparisons) }

-- where each item reads back, so does the list
each_reads : {X : Type 0} (read : Reader X) (write : X → Data) (counts : X → Counts) (xs : List X) → AllByRecursion (ReadsBack read write counts) xs
    → (path : List ℕ) (i : ℕ) (n : Counts) → HasRoom n (total (map counts xs)) → each read path i (map write xs) n ≡ Ok (xs, both n (total (map counts xs)))
unfolding each
each_reads read write counts [] all path i n room = ap (λ m. Ok ([], m)) (sym (both_none n))
each_reads read write counts (x ∷ xs) all path i n room =
    let now = room_first n (counts x) (total (map counts xs)) room in
    let later = room_rest n (counts x) (total (map counts xs)) room in
    rw (all.0 (item_step path i) n now, each_reads read write counts xs all.1 path (i + 1) (both n (counts x)) later)
    (ap (λ m. Ok (x ∷ xs, m)) (both_assoc n (counts x) (total (map counts xs))))

pub items_read : {X : Type 0} (read : Reader X) (write : X → Data) (counts : X → Counts) (most : ℕ) (xs : List X) → AllByRecursion (ReadsBack read write counts) xs → length xs ≤ most
    → (path : List ℕ) (n : Counts) → HasRoom n (total (map counts xs)) → items most read path (list_data (map write xs)) n ≡ Ok (xs, both n (total (map counts xs)))
items_read read write counts most xs all few path n room =
    let short : length (map write xs) ≤ most = rw (length-map) few in
    rw (list_reads path most (map write xs) short) (each_reads read write counts xs all path 0 n room)

-- ---- comparisons

abbrev one : Comparison → Counts
one c = record { statements = 0; comparisons = 1 }

comparison_reads : (c : Comparison) → is_comparison c ≡ true → ReadsBack comparison_of comparison_data one c
unfolding comparison_of comparison_begun
comparison_reads c fits path n room =
    let less : n.comparisons < 16384 = (let r = room.comparisons in omega (arith, r)) in
    rw (lt-ltb n.comparisons 16384 less, fields_read c fits path) (ap (λ (m : Counts). Ok (c, m)) (same_counts _ _ (omega arith) (omega arith)))

total-ones : (cs : List Comparison) → total (map one cs) ≡ record { statements = 0; comparisons = length cs }
total-ones [] = refl
total-ones (c ∷ cs) = ap (both (one c)) (total-ones cs) ∙ same_counts _ _ (omega arith) (omega arith)

-- ---- statements

-- a statement that fits in so many levels reads back there
abbrev Reads : Statement → Type 0
Reads s = (levels : ℕ) → is_statement levels s ≡ true → ReadsBack (statement_of levels) statement_data counts_of s

abbrev Kept : Type 0
Kept = (s : Statement) × Reads s

abbrev bare : List Kept → List Statement
bare ss = map (λ e. e.0) ss

all_read : (levels : ℕ) (ss : List Kept) → list_all (is_statement levels) (bare ss) ≡ true → AllByRecursion (ReadsBack (statement_of levels) statement_data counts_of) (bare ss)
all_read levels [] fits = tt
all_read levels (e ∷ ss) fits =
    let parts = and_parts (is_statement levels e.0) (list_all (is_statement levels) (bare ss)) fits in
    (e.1 levels parts.0, all_read levels ss parts.1)

length_total : (ss : List Statement) → length ss ≤ (total (map counts_of ss)).statements
length_total [] = omega arith
length_total (s ∷ ss) = let some = counts-some s in let rest = length_total ss in omega (arith, some, rest)

condition_reads : (cs : List Comparison) → list_all is_comparison cs ≡ true → (path : List ℕ) (n : Counts) → HasRoom n (counted 0 (length cs))
    → items 16384 comparison_of path (list_data (map comparison_data cs)) n ≡ Ok (cs, both n (counted 0 (length cs)))
condition_reads cs fits path n room =
    let room' : HasRoom n (total (map one cs)) = rw (total-ones cs) room in
    let few : length cs ≤ 16384 = (let r = room.comparisons in omega (arith, r)) in
    items_read comparison_of comparison_data one 16384 cs (all_from is_comparison (ReadsBack comparison_of comparison_data one) comparison_reads cs fits) few path n room' ∙ ap (λ (m : Counts). Ok (cs, both n m)) (total-ones cs)

body_alone : (levels : ℕ) (cs : List Comparison) (path : List ℕ) (n : Counts) → list_all is_comparison cs ≡ true → HasRoom n (counted 1 (length cs))
    → body_of (statement_of levels) path (statement_step (record { condition = cs; nested = None })) n ≡ Ok (roll-Statement (record { condition = cs; nested = None }), both n (counted 1 (length cs)))
unfolding body_of statement_begun
body_alone levels cs path n fits room =
    let less : n.statements < 16384 = (let r = room.statements in omega (arith, r)) in
    let m : Counts = counted (n.statements + 1) n.comparisons in
    let room' : HasRoom m (counted 0 (length cs)) = record { statements = omega (arith, room.statements); comparisons = omega (arith, room.comparisons) } in
    rw (lt-ltb n.statements 16384 less, condition_reads cs fits (name_step path (codes "condition")) m room')
    (ap (λ (k : Counts). Ok (roll-Statement (record { condition = cs; nested = None }), k)) (same_counts _ _ (omega arith) (omega arith)))

body_nested : (levels : ℕ) (cs : List Comparison) (ss : List Statement) (path : List ℕ) (n : Counts) → list_all is_comparison cs ≡ true → AllByRecursion (ReadsBack (statement_of levels) statement_data counts_of) ss
    → HasRoom n (both (counted 1 (length cs)) (total (map counts_of ss)))
    → body_of (statement_of levels) path (statement_step (record { condition = cs; nested = Some (map statement_data ss) })) n
    ≡ Ok (roll-Statement (record { condition = cs; nested = Some ss }), both n (both (counted 1 (length cs)) (total (map counts_of ss))))
unfolding body_of statement_begun
body_nested levels cs ss path n fits all room =
    let less : n.statements < 16384 = (let r = room.statements in omega (arith, r)) in
    let m : Counts = counted (n.statements + 1) n.comparisons in
    let room' : HasRoom m (counted 0 (length cs)) = record { statements = omega (arith, room.statements); comparisons = omega (arith, room.comparisons) } in
    let k : Counts = both m (counted 0 (length cs)) in
    let later : HasRoom k (total (map counts_of ss)) = record { statements = omega (arith, room.statements); comparisons = omega (arith, room.comparisons) } in
    let few : length ss ≤ 16384 = (let r = room.statements in omega (arith, length_total ss, r)) in
    rw (
      lt-ltb n.statements 16384 less,
      condition_reads cs fits (name_step path (codes "condition")) m room',
      items_read (statement_of levels) statement_data counts_of 16384 ss all few (name_step path (codes "nested")) k later,
    )
    (ap (λ (k : Counts). Ok (roll-Statement (record { condition = cs; nested = Some ss }), k)) (same_counts _ _ (omega arith) (omega arith)))

reads_alone : (cs : List Comparison) → Reads (roll-Statement (layer cs None))
unfolding statement_of
reads_alone cs zero fits path n room = absurd (false≢true (sym (is_statement-zero (roll-Statement (layer cs None))) ∙ fits))
reads_alone cs (suc levels) fits path n room =
    let fit = sym (is_statement-roll levels cs None) ∙ fits in
    let P : Counts → Type 0 = λ m. HasRoom n m in
    rw (fold-roll-Statement Data statement_step (layer cs None), counts-alone cs)
    (body_alone levels cs path n (and_parts (list_all is_comparison cs) true fit).0 (subst P (counts-alone cs) room))

reads_nested : (cs : List Comparison) (ss : List Kept) → Reads (roll-Statement (layer cs (Some (bare ss))))
unfolding statement_of
reads_nested cs ss zero fits path n room = absurd (false≢true (sym (is_statement-zero (roll-Statement (layer cs (Some (bare ss))))) ∙ fits))
reads_nested cs ss (suc levels) fits path n room =
    let fit = sym (is_statement-roll levels cs (Some (bare ss))) ∙ fits in
    let parts = and_parts (list_all is_comparison cs) (list_all (is_statement levels) (bare ss)) fit in
    let P : Counts → Type 0 = λ m. HasRoom n m in
    rw (fold-roll-Statement Data statement_step (layer cs (Some (bare ss))), counts-nested cs (bare ss))
    (body_nested levels cs (bare ss) path n parts.0 (all_read levels ss parts.1) (subst P (counts-nested cs (bare ss)) room))

reads_roll : (cs : List Comparison) (nested : Option (List Kept)) → Reads (roll-Statement (map-Statement Kept Statement (λ e. e.0) (record { condition = cs; nested = nested })))
reads_roll cs None = reads_alone cs
reads_roll cs (Some ss) = reads_nested cs ss

-- A statement that fits in so many levels reads back there.
pub statement_reads : (s : Statement) → Reads s
statement_reads = ind-Statement Reads (λ x y is. subst (λ z. Reads (roll-Statement z)) is (reads_roll y.condition y.nested))

-- so do the statements of a list
pub statements_read : (levels : ℕ) (ss : List Statement) → list_all (is_statement levels) ss ≡ true → (path : List ℕ) (n : Counts) → HasRoom n (total (map counts_of ss)) → items 16384 (statement_of levels) path (list_data (map statement_data ss)) n ≡ Ok (ss, both n (total (map counts_of ss)))
statements_read levels ss fits path n room =
    let few : length ss ≤ 16384 = (let r = room.statements in omega (arith, length_total ss, r)) in
    items_read (statement_of levels) statement_data counts_of 16384 ss (all_from (is_statement levels) (ReadsBack (statement_of levels) statement_data counts_of) (λ s fit. statement_reads s levels fit) ss fits) few path n room
