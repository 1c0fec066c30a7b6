-- A split over what two sides found, and a side that stands without the split.
use Rattle.std.proofs.Common.{◌≡◌, ℕ, ◌+◌, ◌-◌, ◌≤◌, List, [], ◌∷◌, ◌++◌, length, take, drop, Bool, true, false, inl, inr, refl, ap, ◌∙◌, sym, subst, arith, length-append, append_assoc, slice_get, Some}
use Rattle.std.proofs.Math.Seq.{take-append_seam, drop-append_seam}
use Rattle.std.proofs.lemmas.List.Elements.{Contains-append_left}
use Rattle.std.proofs.lemmas.Option.{slice_get_within, get_or_from_slice_get}
use Rattle.std.specs.List.{Contains}
use Rattle.key_table.specs.declared.atom.Atom.{Atom}
use Rattle.key_table.specs.Contexts.{Context, Assumption, assume, IsWithin}
use Rattle.rule_problem.specs.declared.certificate.Item.{Item}
use Rattle.rule_problem.specs.declared.certificate.Item.TheVariants.{Split, Todo}
use Rattle.rule_problem.specs.Distinct.{place_in}
use Rattle.rule_problem.specs.Laws.{DropLaw}
use Rattle.rule_problem.specs.Open.{IsOpen, IsLive}
use Rattle.rule_problem.specs.Traces.{AreProper, IsCut}
use Rattle.rule_problem.specs.Trees.{Tree, missing, closed, split, TreeProves}
use Rattle.domain_store.specs.Stores.{Seen, context_of, more, before}
use Rattle.domain_store.specs.StoreLaws.{ContextLaw}
use Rattle.rule_search.specs.declared.judging.Standing.TheVariants.{Closed}
use Rattle.rule_search.specs.Choosing.{IsLiveAt}
use Rattle.rule_search.specs.Finding.{Refutes, CutsShort, Settles, Finds}
use Rattle.rule_search.specs.declared.solving.Outcome.{Outcome}
use Rattle.rule_search.specs.declared.solving.Outcome.TheVariants.{Never, Spent}
use Rattle.rule_search.specs.Retracing.{items_in, ProvesAt, ProvesFrom}
use Rattle.rule_search.specs.Standings.{AreNumbered, Stands}
use Rattle.rule_search.proofs.Quantifiers.{some_item}

pub undone : (seen : Seen) (n : ℕ) (truth : Bool) → before (more seen n truth) (length (more seen n truth).assumptions - 1) ≡ seen
undone seen n truth =
    let e : length (seen.assumptions ++ (n, truth) ∷ []) - 1 ≡ length seen.assumptions = simp length-append (omega arith) in
    ap (λ (a : List (ℕ × Bool)). record seen { assumptions = a }) (ap (λ k. take k (seen.assumptions ++ (n, truth) ∷ [])) e ∙ take-append_seam seen.assumptions ((n, truth) ∷ []))

pub contains_at : {X : Type 0} (xs : List X) (n : ℕ) (x : X) → slice_get xs n ≡ Some x → Contains xs x
contains_at xs n x is = (n, slice_get_within xs n x is, get_or_from_slice_get xs n x x is)

-- a reason alone
pub closed_refutes : (seen : Seen) (budget : ℕ) (item : Item) (old new : List Item) → Stands seen (Closed item) → new ≡ old ++ item ∷ [] → Refutes seen budget old new 0
closed_refutes seen budget item old new stands is = record {
  tree = closed stands.0;
  spelled = is ∙ ap (λ (i : Item). old ++ i ∷ []) stands.1;
  named = stands.3;
  count = refl;
  proves = stands.2;
  proper = tt;
  few = omega arith;
}

-- open assumptions with no split left to spend
pub open_cuts : (seen : Seen) (budget : ℕ) (old new : List Item) → IsOpen seen.table seen.problem (context_of seen) → budget ≡ 0 → new ≡ old ++ Todo ∷ [] → CutsShort seen budget old new
open_cuts seen budget old new is_open none is = record {
  tree = missing;
  spelled = is;
  named = tt;
  cut = is_open;
  proper = tt;
  exact = sym none;
}

pub settles_too : (seen now : Seen) (n : ℕ) (truth : Bool) → Settles (more seen n truth) now → Settles seen now
settles_too seen now n truth h = record { table = h.table; problem = h.problem; settled = h.settled }

-- Leaving the last assumption out.
within_more : (c : Context) (a : Assumption) → IsWithin c (c ++ a ∷ [])
within_more c a b h = Contains-append_left c (a ∷ []) b h

spelled_split : (x : ℕ) (old left right : List Item) → ((old ++ Split x ∷ []) ++ left) ++ right ≡ old ++ Split x ∷ (left ++ right)
spelled_split x old left right =
    append_assoc (old ++ Split x ∷ []) left right ∙ append_assoc old (Split x ∷ []) (left ++ right)

module _ (law : ContextLaw) (seen : Seen) (numbers : AreNumbered seen.problem) (n : ℕ) (is_open : IsOpen seen.table seen.problem (context_of seen)) (live : IsLiveAt seen n) (budget : ℕ) (old : List Item) where
  item : (atom : Atom) × (slice_get seen.problem.atoms n ≡ Some atom) × IsLive seen.table seen.problem (context_of seen) atom
  item = some_item (IsLive seen.table seen.problem (context_of seen)) (slice_get seen.problem.atoms n) live

  context : (truth : Bool) → context_of (more seen n truth) ≡ context_of seen ++ assume item.0 truth ∷ []
  context truth = law seen n truth item.0 item.1

  number : n ≡ place_in seen.problem.atoms item.0
  number = sym (numbers.places n item.0 item.1)

  spelled : (left right : Tree) → ((old ++ Split n ∷ []) ++ items_in seen left) ++ items_in seen right ≡ old ++ items_in seen (split item.0 left right)
  spelled left right = spelled_split n old (items_in seen left) (items_in seen right) ∙ ap (λ x. old ++ Split x ∷ (items_in seen left ++ items_in seen right)) number

  proves_at : (truth : Bool) (tree : Tree) → ProvesAt (more seen n truth) tree → TreeProves seen.table seen.problem (context_of seen ++ assume item.0 truth ∷ []) tree
  proves_at truth tree h = subst (λ (c : Context). TreeProves seen.table seen.problem c tree) (context truth) h

  proper_at : (truth : Bool) (tree : Tree) → AreProper seen.table seen.problem (context_of (more seen n truth)) tree → AreProper seen.table seen.problem (context_of seen ++ assume item.0 truth ∷ []) tree
  proper_at truth tree h = subst (λ (c : Context). AreProper seen.table seen.problem c tree) (context truth) h

  cut_at : (truth : Bool) (tree : Tree) → IsCut seen.table seen.problem (context_of (more seen n truth)) tree → IsCut seen.table seen.problem (context_of seen ++ assume item.0 truth ∷ []) tree
  cut_at truth tree h = subst (λ (c : Context). IsCut seen.table seen.problem c tree) (context truth) h

  there : Contains seen.problem.atoms item.0
  there = contains_at seen.problem.atoms n item.0 item.1

  -- The true side is cut short.
  pub left_cut : (begun middle new : List Item) → begun ≡ old ++ Split n ∷ [] → CutsShort (more seen n true) budget begun middle → new ≡ middle ++ Todo ∷ [] → CutsShort seen (budget + 1) old new
  left_cut begun middle new start f is = record {
    tree = split item.0 f.tree missing;
    spelled = is ∙ ap (λ (i : List Item). i ++ Todo ∷ []) (f.spelled ∙ ap (λ (b : List Item). b ++ items_in seen f.tree) start) ∙ spelled f.tree missing;
    named = (there, f.named, tt);
    cut = inl (cut_at true f.tree f.cut, refl);
    proper = (is_open, item.2, proper_at true f.tree f.proper, tt);
    exact = omega (arith, f.exact);
  }

  -- The true side is refuted, and the false side cut short.
  pub right_cut : (begun middle new : List Item) (left : ℕ) → begun ≡ old ++ Split n ∷ [] → Refutes (more seen n true) budget begun middle left → CutsShort (more seen n false) (budget - left) middle new → CutsShort seen (budget + 1) old new
  right_cut begun middle new left start l r = record {
    tree = split item.0 l.tree r.tree;
    spelled = r.spelled ∙ ap (λ (i : List Item). i ++ items_in seen r.tree) (l.spelled ∙ ap (λ (b : List Item). b ++ items_in seen l.tree) start) ∙ spelled l.tree r.tree;
    named = (there, l.named, r.named);
    cut = inr (proves_at true l.tree l.proves, cut_at false r.tree r.cut);
    proper = (is_open, item.2, proper_at true l.tree l.proper, proper_at false r.tree r.proper);
    exact = omega (arith, r.exact, l.count, l.few);
  }

  -- Both sides are refuted.
  pub both_refute : (begun middle new : List Item) (left right : ℕ) → begun ≡ old ++ Split n ∷ [] → Refutes (more seen n true) budget begun middle left → Refutes (more seen n false) (budget - left) middle new right → Refutes seen (budget + 1) old new (1 + left + right)
  both_refute begun middle new left right start l r = record {
    tree = split item.0 l.tree r.tree;
    spelled = r.spelled ∙ ap (λ (i : List Item). i ++ items_in seen r.tree) (l.spelled ∙ ap (λ (b : List Item). b ++ items_in seen l.tree) start) ∙ spelled l.tree r.tree;
    named = (there, l.named, r.named);
    count = omega (arith, l.count, r.count);
    proves = (proves_at true l.tree l.proves, proves_at false r.tree r.proves);
    proper = (is_open, item.2, proper_at true l.tree l.proper, proper_at false r.tree r.proper);
    few = omega (arith, l.few, r.few);
  }

  -- A side whose items prove without the split's atom stands alone.
  pub alone : DropLaw → (truth : Bool) (less splits start from : ℕ) (base extra middle new : List Item) → less ≤ budget + 1 → Refutes (more seen n truth) less base middle splits → base ≡ old ++ extra → start ≡ length old → from ≡ length base
      → ProvesFrom seen middle from → new ≡ take start middle ++ drop from middle → Refutes seen (budget + 1) old new splits
  alone drops truth less splits start from base extra middle new le f grown start_is from_is proves is =
      let kept : drop from middle ≡ items_in seen f.tree = ap (λ k. drop k middle) from_is ∙ ap (drop (length base)) f.spelled ∙ drop-append_seam base (items_in seen f.tree) in
      let whole : middle ≡ old ++ (extra ++ items_in seen f.tree) = f.spelled ∙ ap (λ (b : List Item). b ++ items_in seen f.tree) grown ∙ append_assoc old extra (items_in seen f.tree) in
      let front : take start middle ≡ old = ap (λ k. take k middle) start_is ∙ ap (take (length old)) whole ∙ take-append_seam old (extra ++ items_in seen f.tree) in
      record {
        tree = f.tree;
        spelled = is ∙ ap (λ (i : List Item). i ++ drop from middle) front ∙ ap (λ (i : List Item). old ++ i) kept;
        named = f.named;
        count = f.count;
        proves = proves f.tree kept;
        proper = drops seen.table seen.problem (context_of seen) (context_of seen ++ assume item.0 truth ∷ []) f.tree (within_more (context_of seen) (assume item.0 truth)) (proper_at truth f.tree f.proper);
        few = omega (arith, f.few, le);
      }

pub spent_at : (at before now : Seen) (budget : ℕ) (old new : List Item) (o : Outcome) → o ≡ Spent → Finds at before now budget old new o → (now ≡ before) × CutsShort at budget old new
spent_at at before now budget old new o is h = subst (λ (o : Outcome). Finds at before now budget old new o) is h

pub never_at : (at before now : Seen) (budget : ℕ) (old new : List Item) (o : Outcome) (splits : ℕ) → o ≡ Never splits → Finds at before now budget old new o → (now ≡ before) × Refutes at budget old new splits
never_at at before now budget old new o splits is h = subst (λ (o : Outcome). Finds at before now budget old new o) is h

pub begun_length : (old : List Item) (item : Item) (begun : List Item) → begun ≡ old ++ item ∷ [] → length begun ≡ length old + 1
begun_length old item begun is = ap (λ (l : List Item). length l) is ∙ length-append old (item ∷ [])
