-- A reader that forgets how something is written answers as the reader that knows.
use Rattle.std.proofs.Common.{◌≡◌, ℕ, zero, suc, Bool, true, false, cond, List, [], ◌∷◌, map, codes, length, Result, Ok, Err, refl, sym, ap}
use Rattle.key_table.specs.Answers.{◌>>=◌}
use Rattle.euclid_lexer.specs.declared.token.Token.{Token}
use Rattle.euclid_lexer.specs.declared.token.Sign.TheVariants.{Colon}
use Rattle.euclid_ast.specs.declared.statement.Statement.{Statement}
use Rattle.euclid_ast.specs.declared.selection.Selection.{Selection}
use Rattle.euclid_ast.specs.declared.program.Program.{Program}
use Rattle.euclid_grammar.specs.declared.counts.Counts.{Counts}
use Rattle.euclid_grammar.specs.Marks.{Mark, BeginsRule}
use Rattle.euclid_grammar.specs.Fits.{start, is_over}
use Rattle.euclid_grammar.specs.Grammar.{Name, RuleTree, ProgramTree, text_of_name, rule_of, shape}
use Rattle.euclid_grammar.specs.OwnTrees.{owns}
use Rattle.euclid_parser.specs.declared.fault.Code.TheVariants.{Unexpected}
use Rattle.euclid_parser.specs.declared.fault.Fault.{Fault}
use Rattle.euclid_parser.specs.Reader.{Read, Reader, starts, too_much, one, both, mapped, many_at, many, marked, limited, ended}
use Rattle.euclid_parser.specs.Reading.{name_of, is_name_token, name_reader, sign_reader, the_word_reader, second_of_both, behind, block_reader, selection_reader, rule_made, rule_reader, rules_reader, program_made, program_reader, all_of, rule_tree_made, rule_tree_reader, rule_trees_reader, program_tree_made, program_tree_reader, tree_of_all}

abbrev pub changed : {X Y : Type 0} → (X → Y) → Read X → Read Y
changed f r = r >>= λ a. Ok (f a.0, a.1, a.2)

-- R answers as P does, with f of the value
abbrev pub Forgets : {X Y : Type 0} → (X → Y) → Reader Y → Reader X → Type 0
Forgets f R P = (c : Counts) (ts : List Token) → R c ts ≡ changed f (P c ts)

same-changed : {X : Type 0} (r : Read X) → r ≡ changed (λ (x : X). x) r
same-changed (Ok y) = refl
same-changed (Err f) = refl

pub same_forgets : {X : Type 0} (P : Reader X) → Forgets (λ (x : X). x) P P
same_forgets P c ts = same-changed (P c ts)

module _ {X Y V W : Type 0} (f : X → Y) (g : V → W) (R : Reader Y) (P : Reader X) (S : Reader W) (Q : Reader V) where
  abbrev pairs : X × V → Y × W
  pairs z = (f z.0, g z.1)

  abbrev paired : {A B : Type 0} → Read A → Reader B → Read (A × B)
  paired r M = r >>= λ a. M a.1 a.2 >>= λ b. Ok ((a.0, b.0), b.1, b.2)

  second-at : (a : X) (r : Read V) → changed (λ (w : W). (f a, w)) (changed g r) ≡ changed pairs (changed (λ (v : V). (a, v)) r)
  second-at a (Ok b) = refl
  second-at a (Err e) = refl

  first-at : Forgets g S Q → (r : Read X) → paired (changed f r) S ≡ changed pairs (paired r Q)
  first-at second (Ok a) = rw (second a.1 a.2) (second-at a.0 (Q a.1 a.2))
  first-at second (Err e) = refl

  pub both_forgets : Forgets f R P → Forgets g S Q → Forgets pairs (both R S) (both P Q)
  both_forgets first second c ts = rw (first c ts) (first-at second (P c ts))

pub mapped_forgets : {X Y V W : Type 0} (f : X → Y) (g : V → W) (to : X → V) (to' : Y → W) (R : Reader Y) (P : Reader X) → ((x : X) → to' (f x) ≡ g (to x)) → Forgets f R P → Forgets g (mapped to' R) (mapped to P)
mapped_forgets f g to to' R P same a c ts = rw (a c ts) (at (P c ts))
  where
    at : (r : Read _) → changed to' (changed f r) ≡ changed g (changed to r)
    at (Ok y) = ap (λ (w : _). Ok (w, y.1, y.2)) (same y.0)
    at (Err e) = refl

pub limited_forgets : {X Y : Type 0} (f : X → Y) (m : Mark) (opens : Token → Bool) (R : Reader Y) (P : Reader X) → Forgets f R P → Forgets f (limited m opens R) (limited m opens P)
limited_forgets f m opens R P a c ts = at (is_over c m) (starts opens ts)
  where
    at : (b d : Bool) → cond b (cond d (too_much c ts) (marked m R c ts)) (marked m R c ts) ≡ changed f (cond b (cond d (too_much c ts) (marked m P c ts)) (marked m P c ts))
    at true true = refl
    at true false = a _ ts
    at false d = a _ ts

module _ {X Y : Type 0} (f : X → Y) (opens : Token → Bool) (R : ℕ → Reader Y) (P : ℕ → Reader X) (a : (i : ℕ) → Forgets f (R i) (P i)) where
  abbrev followed : {Z : Type 0} → Read Z → Reader (List Z) → Read (List Z)
  followed r M = r >>= λ a. M a.1 a.2 >>= λ b. Ok (a.0 ∷ b.0, b.1, b.2)

  more-at : (x : X) (r : Read (List X)) → changed (λ (ys : List Y). f x ∷ ys) (changed (map f) r) ≡ changed (map f) (changed (λ (xs : List X). x ∷ xs) r)
  more-at x (Ok b) = refl
  more-at x (Err e) = refl

  followed-at : (n i : ℕ) → ((i : ℕ) (c : Counts) (ts : List Token) → many_at opens R n i c ts ≡ changed (map f) (many_at opens P n i c ts)) → (r : Read X) → followed (changed f r) (many_at opens R n i) ≡ changed (map f) (followed r (many_at opens P n i))
  followed-at n i again (Ok y) = rw (again i y.1 y.2) (more-at y.0 (many_at opens P n i y.1 y.2))
  followed-at n i again (Err e) = refl

  abbrev none_left : {Z : Type 0} → Reader (List Z)
  none_left c ts = Ok ([], c, ts)

  turn : (n i : ℕ) (c : Counts) (ts : List Token) → ((i : ℕ) (c : Counts) (ts : List Token) → many_at opens R n i c ts ≡ changed (map f) (many_at opens P n i c ts)) → (b : Bool)
      → cond b (followed (R i c ts) (many_at opens R n (suc i))) (none_left c ts) ≡ changed (map f) (cond b (followed (P i c ts) (many_at opens P n (suc i))) (none_left c ts))
  turn n i c ts again true = rw (a i c ts) (followed-at n (suc i) again (P i c ts))
  turn n i c ts again false = refl

  many_at-forgets : (n i : ℕ) (c : Counts) (ts : List Token) → many_at opens R n i c ts ≡ changed (map f) (many_at opens P n i c ts)
  unfolding many_at
  many_at-forgets zero i c ts = refl
  many_at-forgets (suc n) i c ts = turn n i c ts (λ i c ts. many_at-forgets n i c ts) (starts opens ts)

  pub many_forgets : (i : ℕ) → Forgets (map f) (many opens R i) (many opens P i)
  unfolding many
  many_forgets i c ts = many_at-forgets (length ts) i c ts

pub behind_forgets : {X Y : Type 0} (f : X → Y) (S : Reader (Unit {0})) (R : Reader Y) (P : Reader X) → Forgets f R P → Forgets f (behind S R) (behind S P)
behind_forgets f S R P a =
    mapped_forgets (λ (z : Unit {0} × _). (z.0, f z.1)) f second_of_both second_of_both (both S R) (both S P) (λ z. refl) (both_forgets (λ (u : Unit {0}). u) f S S R P (same_forgets S) a)

-- ---- rules and programs

abbrev Rest : Type 0
Rest = Selection × List Statement

rest : Reader Rest
rest = behind (sign_reader Colon) (both selection_reader (block_reader 31))

rule_forgets : (i : ℕ) → Forgets rule_of (rule_reader i) (rule_tree_reader i)
unfolding rule_reader rule_tree_reader rest
rule_forgets i =
    limited_forgets rule_of (BeginsRule i) is_name_token (mapped rule_made (both name_reader rest)) (mapped rule_tree_made (both (one name_of) rest))
    (mapped_forgets (λ (z : Name × Rest). (text_of_name z.0, z.1)) rule_of rule_tree_made rule_made (both name_reader rest) (both (one name_of) rest)
    (λ z. ap (λ (ss : List Statement). record { name = text_of_name z.0; selection = z.1.0; statements = ss }) (sym (owns z.1.1)))
    (both_forgets text_of_name (λ (z : Rest). z) name_reader (one name_of) rest rest (λ c ts. refl) (same_forgets rest)))

program_forgets : Forgets shape program_reader program_tree_reader
unfolding program_reader program_tree_reader rules_reader rule_trees_reader
program_forgets =
    mapped_forgets (λ (z : Selection × List RuleTree). (z.0, map rule_of z.1)) shape program_tree_made program_made (behind (the_word_reader (codes "default")) (behind (sign_reader Colon) (both selection_reader (many is_name_token rule_reader 0)))) (behind (the_word_reader (codes "default")) (behind (sign_reader Colon) (both selection_reader (many is_name_token rule_tree_reader 0)))) (λ z. refl)
    (behind_forgets (λ (z : Selection × List RuleTree). (z.0, map rule_of z.1)) (the_word_reader (codes "default")) (behind (sign_reader Colon) (both selection_reader (many is_name_token rule_reader 0))) (behind (sign_reader Colon) (both selection_reader (many is_name_token rule_tree_reader 0)))
    (behind_forgets (λ (z : Selection × List RuleTree). (z.0, map rule_of z.1)) (sign_reader Colon) (both selection_reader (many is_name_token rule_reader 0)) (both selection_reader (many is_name_token rule_tree_reader 0))
    (both_forgets (λ (s : Selection). s) (map rule_of) selection_reader selection_reader (many is_name_token rule_reader 0) (many is_name_token rule_tree_reader 0) (same_forgets selection_reader) (many_forgets rule_of is_name_token rule_reader rule_tree_reader rule_forgets 0))))

abbrev pub shaped : Result ProgramTree Fault → Result Program Fault
shaped r = r >>= λ p. Ok (shape p)

ended-shaped : (y : ProgramTree × Counts × List Token) → ended (shape y.0, y.1, y.2) ≡ shaped (ended y)
ended-shaped y = at (starts (λ _. true) y.2)
  where
    at : (b : Bool) → cond b (Err (record { code = Unexpected; left = length y.2 })) (Ok (shape y.0)) ≡ shaped (cond b (Err (record { code = Unexpected; left = length y.2 })) (Ok y.0))
    at true = refl
    at false = refl

pub all_forgets : (ts : List Token) → all_of ts ≡ shaped (tree_of_all ts)
unfolding all_of tree_of_all
all_forgets ts = rw (program_forgets start ts) (at (program_tree_reader start ts))
  where
    at : (r : Read ProgramTree) → (changed shape r >>= ended) ≡ shaped (r >>= ended)
    at (Ok y) = ended-shaped y
    at (Err f) = refl
