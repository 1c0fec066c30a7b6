-- Draws that come in turn, and the comparisons that they pick.
use Rattle.std.proofs.Common.{◌≡◌, ℕ, ◌+◌, ◌*◌, List, [], ◌∷◌, ◌++◌, decimal, codes, Some, slice_get, refl, sym, ap, ◌∙◌, add-one, zero-add, arith}
use Rattle.std.specs.List.{cons_option}
use Rattle.std.proofs.lemmas.List.Elements.{filter_map-append}
use Rattle.std.proofs.lemmas.List.FromFn.{map-range_with_len_more}
use Rattle.euclid_ast.specs.declared.selection.Selection.{Selection}
use Rattle.euclid_ast.specs.declared.statement.Comparison.{Comparison}
use Rattle.euclid_ast.specs.declared.statement.Statement.{Statement}
use Rattle.sample_program.specs.Comparisons.{comparisons}
use Rattle.sample_program.specs.Draws.{next, state, drawn, draw, draws_from}
use Rattle.sample_program.specs.Programs.{output, condition, statement, rule, rules}

-- the state before the first draw
pub state_first : (seed : ℕ) → state seed 0 ≡ seed
unfolding state
state_first seed = refl

-- one draw more
pub state_more : (seed n : ℕ) → state seed (n + 1) ≡ next (state seed n)
unfolding state
state_more seed n = ap (state seed) (add-one n)

-- From a state on, so many draws picked these comparisons, and left a state.
abbrev pub Picks : ℕ → ℕ → List Comparison → ℕ → Type 0
Picks old new picked count = (seed others : ℕ) → old ≡ state seed others → (new ≡ state seed (others + count)) × (picked ≡ condition (draws_from seed others 8 count))

pub none_picked : (x : ℕ) (picked : List Comparison) → picked ≡ [] → Picks x x picked 0
none_picked x picked none seed others is = (is ∙ ap (state seed) (omega arith), none)

pub one_picked : (old x new count number : ℕ) (picked more : List Comparison) (c : Comparison) → Picks old x picked count → new ≡ next x → number ≡ drawn 8 new → slice_get comparisons number ≡ Some c → more ≡ picked ++ c ∷ [] → Picks old new more (count + 1)
one_picked old x new count number picked more c before step is_drawn at pushed seed others is =
    let here = before seed others is in
    let one : new ≡ state seed (others + count + 1) = step ∙ ap next here.0 ∙ sym (state_more seed (others + count)) in
    let last : slice_get comparisons (draw seed (others + count) 8) ≡ Some c = ap (λ y. slice_get comparisons (drawn 8 y)) (sym one) ∙ ap (slice_get comparisons) (sym is_drawn) ∙ at in
    let numbers = map-range_with_len_more (λ k. draw seed (others + k) 8) 0 count count (zero-add count) in (
      one ∙ ap (state seed) (omega arith),
      pushed
          ∙ ap (λ (cs : List Comparison). cs ++ c ∷ []) here.1
          ∙ ap (λ o. condition (draws_from seed others 8 count) ++ cons_option o []) (sym last)
          ∙ sym (filter_map-append (slice_get comparisons) (draws_from seed others 8 count) (draw seed (others + count) 8 ∷ []))
          ∙ ap condition (sym numbers),
    )

-- a rule that was made of its draws
pub rule_is : (seed i : ℕ) (name : List ℕ) (selection : Selection) (statements : List Statement) (picked : List Comparison) (number : ℕ)
    → name ≡ codes "r" ++ decimal i → selection ≡ output number → number ≡ draw seed (4 * i + 3) 4 → statements ≡ statement picked ∷ [] → picked ≡ condition (draws_from seed (4 * i) 8 3)
    → record { name = name; selection = selection; statements = statements } ≡ rule seed i
rule_is seed i name selection statements picked number named gives drawn has picks =
    ap (λ (n : List ℕ). record { name = n; selection = selection; statements = statements }) named
    ∙ ap (λ (s : Selection). record { name = codes "r" ++ decimal i; selection = s; statements = statements }) (gives ∙ ap output drawn)
    ∙ ap (λ (ss : List Statement). record { name = codes "r" ++ decimal i; selection = output (draw seed (4 * i + 3) 4); statements = ss }) (has ∙ ap (λ cs. statement cs ∷ []) picks)

-- one rule more
pub rules_more : (seed count : ℕ) → rules seed (count + 1) ≡ rules seed count ++ rule seed count ∷ []
unfolding rules
rules_more seed count = map-range_with_len_more (rule seed) 0 count count (zero-add count)

pub no_rules : (seed : ℕ) → rules seed 0 ≡ []
unfolding rules
no_rules seed = refl
