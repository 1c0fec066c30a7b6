-- Reading items again: what a place and the places after it spell.
use Rattle.std.proofs.Common.{◌≡◌, ℕ, suc, ◌+◌, ◌<◌, List, [], ◌∷◌, ◌++◌, length, drop, get_or, slice_get, true, false, Bool, cond, Result, Ok, Err, Option, Some, None, IfOk, IfSome, refl, ap, ◌∙◌, sym, subst, append_assoc, append-nil, add-one, drop-cons}
use Rattle.std.specs.Option.{IsSomeAnd}
use Rattle.std.specs.List.{find}
use Rattle.std.proofs.lemmas.List.Folds.{find_at}
use Rattle.key_table.specs.declared.atom.Atom.{Atom}
use Rattle.key_table.specs.Contexts.{Context, assume}
use Rattle.rule_problem.specs.declared.problem.Literal.{Literal}
use Rattle.rule_problem.specs.declared.certificate.Item.{Item}
use Rattle.rule_problem.specs.declared.certificate.Item.TheVariants.{Split, Want, Bar, Todo}
use Rattle.rule_problem.specs.Distinct.{is_same, place_in}
use Rattle.rule_problem.specs.Literals.{AreEntailed, AreRefuted}
use Rattle.rule_problem.specs.Reasons.{Reason, void, want, bar, goal, ReasonHolds}
use Rattle.rule_problem.specs.Trees.{missing, closed, split, item_of, named_by, TreeProves}
use Rattle.domain_store.specs.Stores.{Seen, context_of, more}
use Rattle.domain_store.specs.StoreLaws.{ContextLaw}
use Rattle.rule_search.specs.Retracing.{IsReason, items_in, ProvesUpTo, ProvesFrom}

-- Atoms that are found the same are equal.
abbrev pub SameLaw : Type 0
SameLaw = (a b : Atom) → is_same a b ≡ true → a ≡ b

found : SameLaw → (atoms : List Atom) (a b : Atom) → find (λ other. is_same a other) atoms ≡ Some b → a ≡ b
found law [] a b is = cc
found law (c ∷ atoms) a b is =
    elim (is_same a c) as (λ (t : Bool). is_same a c ≡ t → cond t (Some c) (find (λ other. is_same a other) atoms) ≡ Some b → a ≡ b) [
      | true ↦ (λ same h. let e : c ≡ b = cc in law a c same ∙ e)
      | false ↦ (λ _ h. found law atoms a b h)
    ] refl is

-- The atom that stands at the place of an atom is this atom.
pub at_place : SameLaw → (atoms : List Atom) (a b : Atom) → slice_get atoms (place_in atoms a) ≡ Some b → a ≡ b
at_place law atoms a b is = found law atoms a b (find_at (λ other. is_same a other) atoms ∙ is)

-- A reason that names no atom is no other item.
not_todo : (number : Atom → ℕ) (reason : Reason) → Todo ≡ item_of number reason → ⊥
not_todo number (void x) e = cc
not_todo number (want w) e = cc
not_todo number (bar b) e = cc
not_todo number goal e = cc

not_split : (number : Atom → ℕ) (x : ℕ) (reason : Reason) → Split x ≡ item_of number reason → ⊥
not_split number x (void y) e = cc
not_split number x (want w) e = cc
not_split number x (bar b) e = cc
not_split number x goal e = cc

same_reason : (number : Atom → ℕ) (r s : Reason) → named_by r ≡ [] → item_of number r ≡ item_of number s → r ≡ s
same_reason number (void x) s none e = cc
same_reason number (want x) (void y) none e = cc
same_reason number (want x) (want y) none e = let h : x ≡ y = cc in ap want h
same_reason number (want x) (bar y) none e = cc
same_reason number (want x) goal none e = cc
same_reason number (bar x) (void y) none e = cc
same_reason number (bar x) (want y) none e = cc
same_reason number (bar x) (bar y) none e = let h : x ≡ y = cc in ap bar h
same_reason number (bar x) goal none e = cc
same_reason number goal (void y) none e = cc
same_reason number goal (want y) none e = cc
same_reason number goal (bar y) none e = cc
same_reason number goal goal none e = refl

from_place : (items : List Item) (at : ℕ) (d item : Item) → at < length items → get_or items at d ≡ item → drop at items ≡ item ∷ drop (at + 1) items
from_place items at d item within is = drop-cons items at d within ∙ ap (λ i. i ∷ drop (suc at) items) is ∙ ap (λ n. item ∷ drop n items) (sym (add-one at))

-- a reason that holds
pub reason_proves : (seen : Seen) (items : List Item) (at : ℕ) (d item : Item) → at < length items → get_or items at d ≡ item → IsReason seen item → ProvesUpTo seen items at (at + 1)
reason_proves seen items at d item within is r missing after e =
    let same = sym (from_place items at d item within is) ∙ e in
    let head : item ≡ Todo = cc in
    absurd (not_todo (place_in seen.problem.atoms) r.0 (sym head ∙ r.1))
reason_proves seen items at d item within is r (closed reason) after e =
    let same = sym (from_place items at d item within is) ∙ e in
    let head : item ≡ item_of (place_in seen.problem.atoms) reason = cc in
    let rest : drop (at + 1) items ≡ after = cc in
    (rest, subst (λ (q : Reason). ReasonHolds seen.table seen.problem (context_of seen) q) (same_reason (place_in seen.problem.atoms) r.0 reason r.3 (sym r.1 ∙ head)) r.2)
reason_proves seen items at d item within is r (split x left right) after e =
    let same = sym (from_place items at d item within is) ∙ e in
    let head : item ≡ Split (place_in seen.problem.atoms x) = cc in
    absurd (not_split (place_in seen.problem.atoms) (place_in seen.problem.atoms x) r.0 (sym head ∙ r.1))

-- a split whose sides prove
pub split_proves : SameLaw → ContextLaw → (seen : Seen) (items : List Item) (at middle end x : ℕ) (d : Item) (atom : Atom) → at < length items → get_or items at d ≡ Split x → slice_get seen.problem.atoms x ≡ Some atom
    → ProvesUpTo (more seen x true) items (at + 1) middle → ProvesUpTo (more seen x false) items middle end → ProvesUpTo seen items at end
split_proves law contexts seen items at middle end x d atom within is stands l r missing after e =
    let same = sym (from_place items at d (Split x) within is) ∙ e in
    let no : Split x ≡ Todo = cc in cc
split_proves law contexts seen items at middle end x d atom within is stands l r (closed reason) after e =
    let same = sym (from_place items at d (Split x) within is) ∙ e in
    let head : Split x ≡ item_of (place_in seen.problem.atoms) reason = cc in
    absurd (not_split (place_in seen.problem.atoms) x reason head)
split_proves law contexts seen items at middle end x d atom within is stands l r (split y left right) after e =
    let same = sym (from_place items at d (Split x) within is) ∙ e in
    let head : x ≡ place_in seen.problem.atoms y = cc in
    let rest : drop (at + 1) items ≡ (items_in seen left ++ items_in seen right) ++ after = cc in
    let own : y ≡ atom = at_place law seen.problem.atoms y atom (ap (slice_get seen.problem.atoms) (sym head) ∙ stands) in
    let left_is = l left (items_in seen right ++ after) (rest ∙ append_assoc (items_in seen left) (items_in seen right) after) in
    let right_is = r right after left_is.0 in
    let context : (truth : Bool) → context_of (more seen x truth) ≡ context_of seen ++ assume y truth ∷ [] = λ truth. contexts seen x truth atom stands ∙ ap (λ (a : Atom). context_of seen ++ assume a truth ∷ []) (sym own) in
    (right_is.0, (subst (λ (c : Context). TreeProves seen.table seen.problem c left) (context true) left_is.1, subst (λ (c : Context). TreeProves seen.table seen.problem c right) (context false) right_is.1))

-- The second side is read by a store that is again the first.
pub sides_prove : {E : Type 0} → SameLaw → ContextLaw → (seen now : Seen) → now ≡ seen → (items : List Item) (at middle x : ℕ) (d : Item) (atom : Atom) (first : Option ℕ) (r : Result (Option ℕ) E) → at < length items → get_or items at d ≡ Split x → slice_get seen.problem.atoms x ≡ Some atom
    → first ≡ Some middle → IfSome first (ProvesUpTo (more seen x true) items (at + 1))
    → IfOk r (λ end. IfSome end (ProvesUpTo (more now x false) items middle)) → IfOk r (λ end. IfSome end (ProvesUpTo seen items at))
sides_prove law contexts seen now same items at middle x d atom first (Err e) within is stands found l r = tt
sides_prove law contexts seen now same items at middle x d atom first (Ok None) within is stands found l r = tt
sides_prove law contexts seen now same items at middle x d atom first (Ok (Some end)) within is stands found l r =
    split_proves law contexts seen items at middle end x d atom within is stands (subst (λ (o : Option ℕ). IfSome o (ProvesUpTo (more seen x true) items (at + 1))) found l)
    (subst (λ (s : Seen). ProvesUpTo (more s x false) items middle end) same r)

-- All items from a place on prove.
pub all_prove : (seen : Seen) (items : List Item) (from : ℕ) (found : Option ℕ) (end : ℕ) → found ≡ Some end → IfSome found (ProvesUpTo seen items from) → ProvesFrom seen items from
all_prove seen items from found end is proves tree spelled =
    let h = subst (λ (o : Option ℕ). IfSome o (ProvesUpTo seen items from)) is proves in
    (h tree [] (spelled ∙ sym (append-nil (items_in seen tree)))).1

-- reasons by their numbers
pub want_reason : (seen : Seen) (w : ℕ) (paths : List (List Literal)) → slice_get seen.problem.wants w ≡ Some paths → AreRefuted seen.table (context_of seen) seen.problem.atoms paths → IsReason seen (Want w)
want_reason seen w paths at h = (want w, refl, subst (λ (o : Option (List (List Literal))). IsSomeAnd o (AreRefuted seen.table (context_of seen) seen.problem.atoms)) (sym at) h, refl)

pub bar_reason : (seen : Seen) (b : ℕ) (path : List Literal) → slice_get seen.problem.bars b ≡ Some path → AreEntailed seen.table (context_of seen) seen.problem.atoms path → IsReason seen (Bar b)
bar_reason seen b path at h = (bar b, refl, subst (λ (o : Option (List Literal)). IsSomeAnd o (AreEntailed seen.table (context_of seen) seen.problem.atoms)) (sym at) h, refl)
