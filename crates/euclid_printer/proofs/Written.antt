-- Within the limits, what the text form can say has tokens that can be written.
use Rattle.std.proofs.Common.{◌≡◌, ℕ, ◌+◌, ◌≤◌, ◌^◌, nat_lt, nat_le, int_le, pos, cond, arith, ◌&&◌, Bool, true, false, not, List, [], ◌∷◌, ◌++◌, Option, Some, None, map, length, refl, ap, sym, ◌∙◌, subst}
use Rattle.std.specs.Prelude.{position}
use Rattle.std.specs.List.{flat_map, list_all, prefix_len}
use Rattle.std.specs.Option.{option_map_or}
use Rattle.std.proofs.lemmas.Bool.{and_from, and_parts, ltb-false, lt-ltb, leb-true}
use Rattle.key_table.specs.Integers.{is_signed}
use Rattle.key_table.specs.Names.{is_word, is_name}
use Rattle.euclid_lexer.specs.declared.token.Sign.TheVariants.{RoundClose, SquareClose}
use Rattle.euclid_lexer.specs.Pieces.{Piece, is_quotable, has_text, tokens_in}
use Rattle.euclid_ast.specs.declared.statement.ValueForm.{ValueForm}
use Rattle.euclid_ast.specs.declared.statement.ValueForm.TheVariants.{Number, Variant, Metadata, Str, Numbers, Variants, NumberTests}
use Rattle.euclid_ast.specs.declared.statement.Comparison.{Comparison}
use Rattle.euclid_ast.specs.declared.statement.Statement.{Statement, roll-Statement}
use Rattle.euclid_ast.specs.declared.statement.Statement.TheFolds.{map-Statement, ind-Statement}
use Rattle.euclid_ast.specs.declared.selection.Account.{Account}
use Rattle.euclid_ast.specs.declared.selection.Share.{Share}
use Rattle.euclid_ast.specs.declared.selection.ThreeDs.{ThreeDs}
use Rattle.euclid_ast.specs.declared.selection.ThreeDs.TheVariants as secure
use Rattle.euclid_ast.specs.declared.selection.Selection.{Selection}
use Rattle.euclid_ast.specs.declared.selection.Selection.TheVariants.{Priority, Volume, SurchargeFixed, SurchargeRate, Auth, Nothing}
use Rattle.euclid_ast.specs.declared.program.Rule.{Rule}
use Rattle.euclid_ast.specs.declared.program.Program.{Program}
use Rattle.euclid_ast.specs.Limits as limit
use Rattle.euclid_ast.specs.Limits.{IsWithinLimits, is_short, is_few, is_test, comparisons_of, comparisons_in}
use Rattle.euclid_grammar.specs.Fits.{is_filled}
use Rattle.euclid_grammar.specs.Grammar.{secure_word}
use Rattle.euclid_printer.specs.Values.{sign_piece, joined, comma, number_item, variant_item, test_item, in_brackets, value_pieces, id_pieces, account_item, share_item, listed, selection_pieces}
use Rattle.euclid_printer.specs.Layout.{ampersand, comparison_pieces, condition_pieces, statement_pieces, statements_pieces, rule_pieces, program_pieces}
use Rattle.euclid_printer.specs.Expressible.{says_value, says_comparison, says_statement, says_account, says_share, says_selection, says_rule, unsaid_rule, unsaid}
use Rattle.euclid_printer.proofs.Pieces.{texts-append}
use Rattle.euclid_printer.proofs.Statements.{nested_printed, nested_said, comparisons_below, statement_pieces-roll, says_statement-roll, comparisons_of-roll}

-- each token of these pieces has a text
abbrev pub written : List Piece → Bool
written qs = list_all has_text (tokens_in qs)

-- ---- lists of which two things hold

both : {X : Type 0} (p q : X → Bool) (xs : List X) → list_all p xs ≡ true → list_all q xs ≡ true → list_all (λ x. p x && q x) xs ≡ true
both p q [] a b = refl
both p q (x ∷ xs) a b =
    let first = and_parts (p x) (list_all p xs) a in
    let second = and_parts (q x) (list_all q xs) b in
    and_from _ _ (and_from _ _ first.0 second.0) (both p q xs first.1 second.1)

pub all_parts : {X : Type 0} (p : X → Bool) (xs ys : List X) → list_all p (xs ++ ys) ≡ true → (list_all p xs ≡ true) × (list_all p ys ≡ true)
all_parts p [] ys h = (refl, h)
all_parts p (x ∷ xs) ys h =
    let first = and_parts (p x) (list_all p (xs ++ ys)) h in
    let others = all_parts p xs ys first.1 in
    (and_from _ _ first.0 others.0, others.1)

-- ---- items with a separator

behind_written : {X : Type 0} (separator : List Piece) (item : X → List Piece) (test : X → Bool) → written separator ≡ true → ((x : X) → test x ≡ true → written (item x) ≡ true)
    → (xs : List X) → list_all test xs ≡ true → written (flat_map (λ x. separator ++ item x) xs) ≡ true
behind_written separator item test s each [] h = refl
behind_written separator item test s each (x ∷ xs) h =
    let parts = and_parts (test x) (list_all test xs) h in
    texts-append (separator ++ item x) (flat_map (λ x. separator ++ item x) xs) (texts-append separator (item x) s (each x parts.0)) (behind_written separator item test s each xs parts.1)

joined_written : {X : Type 0} (separator : List Piece) (item : X → List Piece) (test : X → Bool) → written separator ≡ true → ((x : X) → test x ≡ true → written (item x) ≡ true)
    → (xs : List X) → list_all test xs ≡ true → written (joined separator item xs) ≡ true
joined_written separator item test s each [] h = refl
joined_written separator item test s each (x ∷ xs) h =
    let parts = and_parts (test x) (list_all test xs) h in
    texts-append (item x) (flat_map (λ x. separator ++ item x) xs) (each x parts.0) (behind_written separator item test s each xs parts.1)

brackets_written : {X : Type 0} (item : X → List Piece) (test : X → Bool) → ((x : X) → test x ≡ true → written (item x) ≡ true) → (xs : List X) → list_all test xs ≡ true → written (in_brackets item xs) ≡ true
brackets_written item test each xs h = texts-append (joined comma item xs) (sign_piece RoundClose ∷ []) (joined_written comma item test refl each xs h) refl

listed_written : {X : Type 0} (item : X → List Piece) (test : X → Bool) → ((x : X) → test x ≡ true → written (item x) ≡ true) → (xs : List X) → list_all test xs ≡ true → written (listed item xs) ≡ true
listed_written item test each xs h = texts-append (joined comma item xs) (sign_piece SquareClose ∷ []) (joined_written comma item test refl each xs h) refl

-- ---- values

number_signed : (n most : ℕ) → most ≤ 10000 → nat_le n most ≡ true → is_signed (pos n) ≡ true
number_signed n most small h = let fits : n ≤ most = leb-true n most h in lt-ltb n (2 ^ 63) (omega arith)

value_written : (v : ValueForm) → says_value v ≡ true → limit.is_value v ≡ true → written (value_pieces v) ≡ true
value_written (Number z) s h = and_from _ _ h refl
value_written (Variant w) s h = and_from _ _ (and_from _ _ s h) refl
value_written (Metadata key value) s h =
    let said = and_parts (is_quotable key) (is_quotable value) s in
    let short = and_parts (is_short key) (is_short value) h in
    and_from _ _ (and_from _ _ said.0 short.0) (and_from _ _ (and_from _ _ said.1 short.1) refl)
value_written (Str t) s h = and_from _ _ (and_from _ _ s h) refl
value_written (Numbers zs) s h = brackets_written number_item is_signed (λ z e. and_from _ _ e refl) zs (and_parts (is_few zs) (list_all is_signed zs) h).1
value_written (Variants ws) s h =
    brackets_written variant_item is_name (λ w e. and_from _ _ e refl) ws (both is_word is_short ws (and_parts (is_filled ws) (list_all is_word ws) s).1 (and_parts (is_few ws) (list_all is_short ws) h).1)
value_written (NumberTests ts) s h = brackets_written test_item is_test (λ t e. and_from _ _ e refl) ts (and_parts (is_few ts) (list_all is_test ts) h).1

comparison_written : (c : Comparison) → (says_comparison c && limit.is_comparison c) ≡ true → written (comparison_pieces c) ≡ true
comparison_written c h =
    let parts = and_parts (says_comparison c) (limit.is_comparison c) h in
    let said = and_parts (is_word c.lhs) (says_value c.value) parts.0 in
    let within = and_parts (is_short c.lhs) (limit.is_value c.value) parts.1 in
    and_from _ _ (and_from _ _ said.0 within.0) (value_written c.value said.1 within.1)

-- ---- selections

id_written : (id : Option (List ℕ)) → option_map_or is_quotable id true ≡ true → option_map_or is_short id true ≡ true → written (id_pieces id) ≡ true
id_written None s h = refl
id_written (Some id) s h = and_from _ _ (and_from _ _ s h) refl

account_written : (a : Account) → (says_account a && limit.is_account a) ≡ true → written (account_item a) ≡ true
account_written a h =
    let parts = and_parts (says_account a) (limit.is_account a) h in
    let said = and_parts (is_quotable a.connector) (option_map_or is_quotable a.id true) parts.0 in
    let within = and_parts (is_short a.connector) (option_map_or is_short a.id true) parts.1 in
    and_from _ _ (and_from _ _ said.0 within.0) (id_written a.id said.1 within.1)

share_written : (s : Share) → (says_share s && limit.is_share s) ≡ true → written (share_item s) ≡ true
share_written s h =
    let parts = and_parts (says_share s) (limit.is_share s) h in
    let within = and_parts (limit.is_account s.account) (nat_le s.split 255) parts.1 in
    texts-append (account_item s.account) _ (account_written s.account (and_from _ _ parts.0 within.0)) (and_from _ _ (number_signed s.split 255 (omega arith) within.1) refl)

secure_written : (s : ThreeDs) → (is_name (secure_word s) && true) ≡ true
secure_written secure.ThreeDs = refl
secure_written secure.NoThreeDs = refl

selection_written : (s : Selection) → says_selection s ≡ true → limit.is_selection s ≡ true → written (selection_pieces s) ≡ true
selection_written (Priority accounts) s h =
    listed_written account_item (λ a. says_account a && limit.is_account a) account_written accounts (both says_account limit.is_account accounts s (and_parts (is_few accounts) (list_all limit.is_account accounts) h).1)
selection_written (Volume shares) s h =
    listed_written share_item (λ s. says_share s && limit.is_share s) share_written shares (both says_share limit.is_share shares s (and_parts (is_few shares) (list_all limit.is_share shares) h).1)
selection_written (SurchargeFixed z) s h = and_from _ _ (and_parts (int_le (pos 0) z) (is_signed z) h).1 refl
selection_written (SurchargeRate n) s h = and_from _ _ (number_signed n 10000 (omega arith) h) refl
selection_written (Auth decision) s h = secure_written decision
selection_written Nothing s h = refl

-- ---- statements

abbrev are_within : List Comparison → Bool
are_within cs = list_all limit.is_comparison cs

abbrev IsWritten : Statement → Type 0
IsWritten s = says_statement s ≡ true → are_within (comparisons_of s) ≡ true → (level : ℕ) → written (statement_pieces s level) ≡ true

written_all : (level : ℕ) (ss : List ((s : Statement) × IsWritten s)) → list_all says_statement (map (λ e. e.0) ss) ≡ true → are_within (comparisons_in (map (λ e. e.0) ss)) ≡ true
    → written (statements_pieces level (map (λ e. e.0) ss)) ≡ true
written_all level [] s h = refl
written_all level (e ∷ ss) s h =
    let others = map (λ (e : (s : Statement) × IsWritten s). e.0) ss in
    let said = and_parts (says_statement e.0) (list_all says_statement others) s in
    let within = all_parts limit.is_comparison (comparisons_of e.0) (comparisons_in others) h in
    texts-append (statement_pieces e.0 level) (statements_pieces level others) (e.1 said.0 within.0 level) (written_all level ss said.1 within.1)

abbrev alone : Option (List ((s : Statement) × IsWritten s)) → Option (List Statement)
alone None = None
alone (Some ss) = Some (map (λ e. e.0) ss)

nested_written : (level : ℕ) (nested : Option (List ((s : Statement) × IsWritten s))) → nested_said (alone nested) ≡ true → are_within (comparisons_below (alone nested)) ≡ true
    → written (nested_printed level (alone nested)) ≡ true
nested_written level None s h = refl
nested_written level (Some ss) s h =
    texts-append (statements_pieces (level + 1) (map (λ e. e.0) ss)) _ (written_all (level + 1) ss (and_parts (is_filled (map (λ (e : (s : Statement) × IsWritten s). e.0) ss)) _ s).1 h) refl

statement_rolled : (condition : List Comparison) (nested : Option (List ((s : Statement) × IsWritten s))) → IsWritten (roll-Statement (record { condition = condition; nested = alone nested }))
statement_rolled condition nested = λ s h level.
    let said = and_parts (is_filled condition && list_all says_comparison condition) (nested_said (alone nested)) (sym (says_statement-roll condition (alone nested)) ∙ s) in
    let within = all_parts limit.is_comparison condition (comparisons_below (alone nested)) (sym (ap are_within (comparisons_of-roll condition (alone nested))) ∙ h) in
    ap written (statement_pieces-roll condition (alone nested) level)
    ∙ texts-append (condition_pieces condition) (nested_printed level (alone nested))
    (joined_written ampersand comparison_pieces (λ c. says_comparison c && limit.is_comparison c) refl comparison_written condition
    (both says_comparison limit.is_comparison condition (and_parts (is_filled condition) _ said.0).1 within.0))
    (nested_written level nested said.1 within.1)

written_roll : (condition : List Comparison) (nested : Option (List ((s : Statement) × IsWritten s)))
    → IsWritten (roll-Statement (map-Statement ((s : Statement) × IsWritten s) Statement (λ e. e.0) (record { condition = condition; nested = nested })))
written_roll condition None = statement_rolled condition None
written_roll condition (Some ss) = statement_rolled condition (Some ss)

statement_written : (s : Statement) → IsWritten s
statement_written = ind-Statement IsWritten (λ x y is. subst (λ z. IsWritten (roll-Statement z)) is (written_roll y.condition y.nested))

statements_written : (level : ℕ) (ss : List Statement) → list_all says_statement ss ≡ true → are_within (comparisons_in ss) ≡ true → written (statements_pieces level ss) ≡ true
statements_written level [] s h = refl
statements_written level (x ∷ xs) s h =
    let said = and_parts (says_statement x) (list_all says_statement xs) s in
    let within = all_parts limit.is_comparison (comparisons_of x) (comparisons_in xs) h in
    texts-append (statement_pieces x level) (statements_pieces level xs) (statement_written x said.0 within.0 level) (statements_written level xs said.1 within.1)

-- ---- rules and programs

rule_written : (r : Rule) → says_rule r ≡ true → is_short r.name ≡ true → limit.is_selection r.selection ≡ true → are_within (comparisons_in r.statements) ≡ true → written (rule_pieces r) ≡ true
rule_written r s short amount h =
    let parts = and_parts (is_quotable r.name) _ s in
    let others = and_parts (says_selection r.selection) (list_all says_statement r.statements) parts.1 in
    and_from _ _ (and_from _ _ parts.0 short)
    (texts-append (selection_pieces r.selection) _ (selection_written r.selection others.0 amount)
    (texts-append (statements_pieces 1 r.statements) _ (statements_written 1 r.statements others.1 h) refl))

rules_written : (rs : List Rule) → list_all says_rule rs ≡ true → list_all (λ (r : Rule). is_short r.name) rs ≡ true → list_all (λ (r : Rule). limit.is_selection r.selection) rs ≡ true
    → are_within (flat_map (λ (r : Rule). comparisons_in r.statements) rs) ≡ true → written (flat_map rule_pieces rs) ≡ true
rules_written [] s short amount h = refl
rules_written (r ∷ rs) s short amount h =
    let said = and_parts (says_rule r) (list_all says_rule rs) s in
    let names = and_parts (is_short r.name) (list_all (λ (r : Rule). is_short r.name) rs) short in
    let amounts = and_parts (limit.is_selection r.selection) (list_all (λ (r : Rule). limit.is_selection r.selection) rs) amount in
    let within = all_parts limit.is_comparison (comparisons_in r.statements) (flat_map (λ (r : Rule). comparisons_in r.statements) rs) h in
    texts-append (rule_pieces r) (flat_map rule_pieces rs) (rule_written r said.0 names.0 amounts.0 within.0) (rules_written rs said.1 names.1 amounts.1 within.1)

-- where no first place is found that fails, all pass
all_pass : {X : Type 0} (test : X → Bool) (xs : List X) → length xs ≤ prefix_len (λ x. not (not (test x))) xs → list_all test xs ≡ true
all_pass test [] h = refl
all_pass test (x ∷ xs) h =
    elim (test x) as (λ v. test x ≡ v → length (x ∷ xs) ≤ cond (not (not v)) (1 + prefix_len (λ x. not (not (test x))) xs) 0 → (v && list_all test xs) ≡ true) [
      | true ↦ λ e k. all_pass test xs (omega (arith, k))
      | false ↦ λ e k. absurd (omega (arith, k))
    ] refl h

pub none_fails : {X : Type 0} (test : X → Bool) (xs : List X) → position (λ x. not (test x)) xs ≡ None → list_all test xs ≡ true
none_fails test xs h =
    let n = prefix_len (λ x. not (not (test x))) xs in
    let away : (v : Bool) → cond v (Some n) None ≡ None → v ≡ false = λ (v : Bool). elim v as (λ v. cond v (Some n) None ≡ None → v ≡ false) [ true ↦ λ e. cc | false ↦ λ e. refl ] in
    all_pass test xs (ltb-false n (length xs) (away (nat_lt n (length xs)) h))

pub both_parts : (b : Bool) (o : Option ℕ) → cond b (unsaid_rule o) (Some (record { rule = None })) ≡ None → (b ≡ true) × (o ≡ None)
both_parts true None h = (refl, refl)
both_parts true (Some n) h = cc
both_parts false o h = cc

-- What the text form can say: the default, and each rule.
pub record IsSaid (p : Program) : Type 0 where
  pub default : says_selection p.default_selection ≡ true
  pub rules : list_all says_rule p.rules ≡ true

pub all_said : (p : Program) → unsaid p ≡ None → IsSaid p
all_said p h =
    let parts = both_parts (says_selection p.default_selection) (position (λ r. not (says_rule r)) p.rules) h in
    record { default = parts.0; rules = none_fails says_rule p.rules parts.1 }

pub program_written : (p : Program) → IsSaid p → IsWithinLimits p → written (program_pieces p) ≡ true
program_written p said within =
    texts-append (selection_pieces p.default_selection) _ (selection_written p.default_selection said.default within.default)
    (rules_written p.rules said.rules within.names within.selections within.values)
