-- The walk with one list of assumptions against what the items come to by recursion.
use Rattle.std.proofs.Common.{◌≡◌, ℕ, ◌+◌, List, [], ◌∷◌, ◌++◌, Bool, true, false, Option, Some, None, Result, Ok, Err, refl, ap, sym, ◌∙◌, subst, slice_get}
use Rattle.std.proofs.Common.{append_assoc, append-nil}
use Rattle.key_table.specs.declared.atom.Atom.{Atom}
use Rattle.rule_problem.specs.declared.certificate.Item.{Item}
use Rattle.key_table.specs.Contexts.{Context, assume}
use Rattle.rule_problem.specs.Proving.{After, split_of}
use Rattle.rule_problem.specs.Proving.After.{splits, fails_within}
use Rattle.contradiction_checker.specs.declared.options.Assumed.{Assumed}
use Rattle.contradiction_checker.specs.Assumed.{with_assumed, context_of}
use Rattle.contradiction_checker.specs.Turning.{with_truth, AreFalse, AreTurned}

with_append : (o : Option Atom) (truth : Bool) (c d : Context) → with_assumed o truth (c ++ d) ≡ with_assumed o truth c ++ d
with_append None truth c d = refl
with_append (Some atom) truth c d = refl

pub context_of-append : (atoms : List Atom) (s t : List Assumed) → context_of atoms (s ++ t) ≡ context_of atoms s ++ context_of atoms t
context_of-append atoms [] t = refl
context_of-append atoms (a ∷ s) t = rw (context_of-append atoms s t) (with_append (slice_get atoms a.atom) a.truth (context_of atoms s) (context_of atoms t))

-- one assumption more
pub context_of-one : (atoms : List Atom) (x : ℕ) (truth : Bool) (atom : Atom) → slice_get atoms x ≡ Some atom → context_of atoms (with_truth x truth ∷ []) ≡ assume atom truth ∷ []
context_of-one atoms x truth atom is = ap (λ (o : Option Atom). with_assumed o truth []) is

-- What the true side of a split comes to makes the split come to r, where the context before it is c.
abbrev Up : (atoms : List Atom) (items : List Item) (P : Context → Item → Type 0) → Context → ℕ → Bool → Result ℕ ℕ → Result ℕ ℕ → Type 0
Up atoms items P c x truth (Err k) r = r ≡ Err k
Up atoms items P c x false (Ok j) r = r ≡ Ok j
Up atoms items P c x true (Ok j) r = After atoms items P (c ++ context_of atoms (with_truth x false ∷ [])) j r

-- What the innermost of these assumptions comes to makes them all come to r.
abbrev Through : (atoms : List Atom) (items : List Item) (P : Context → Item → Type 0) → Context → List Assumed → Result ℕ ℕ → Result ℕ ℕ → Type 0
Through atoms items P c [] q r = q ≡ r
Through atoms items P c (a ∷ s) q r = (m : Result ℕ ℕ) × Through atoms items P (c ++ context_of atoms (a ∷ [])) s q m × Up atoms items P c a.atom a.truth m r

through_err : (atoms : List Atom) (items : List Item) (P : Context → Item → Type 0) (c : Context) (s : List Assumed) (k : ℕ) → Through atoms items P c s (Err k) (Err k)
through_err atoms items P c [] k = refl
through_err atoms items P c (a ∷ s) k = (Err k, through_err atoms items P (c ++ context_of atoms (a ∷ [])) s k, refl)

through_false : (atoms : List Atom) (items : List Item) (P : Context → Item → Type 0) (c : Context) (s : List Assumed) (j : ℕ) → AreFalse s → Through atoms items P c s (Ok j) (Ok j)
through_false atoms items P c [] j h = refl
through_false atoms items P c (a ∷ s) j h =
    let F : Bool → Type 0 = λ b. Up atoms items P c a.atom b (Ok j) (Ok j) in
    (Ok j, through_false atoms items P (c ++ context_of atoms (a ∷ [])) s j h.1, subst F (sym h.0) refl)

moved : (atoms : List Atom) (a : Assumed) (s : List Assumed) (c : Context) → c ++ context_of atoms (a ∷ s) ≡ (c ++ context_of atoms (a ∷ [])) ++ context_of atoms s
moved atoms a s c = ap (λ (d : Context). c ++ d) (context_of-append atoms (a ∷ []) s) ∙ sym (append_assoc c (context_of atoms (a ∷ [])) (context_of atoms s))

through_append : (atoms : List Atom) (items : List Item) (P : Context → Item → Type 0) (c : Context) (s t : List Assumed) (q m r : Result ℕ ℕ) → Through atoms items P c s m r → Through atoms items P (c ++ context_of atoms s) t q m → Through atoms items P c (s ++ t) q r
through_append atoms items P c [] t q m r outer inner =
    let F : Context → Type 0 = λ d. Through atoms items P d t q m in
    let G : Result ℕ ℕ → Type 0 = λ v. Through atoms items P c t q v in
    subst G outer (subst F (append-nil c) inner)
through_append atoms items P c (a ∷ s) t q m r outer inner =
    let F : Context → Type 0 = λ d. Through atoms items P d t q m in
    (outer.0, through_append atoms items P (c ++ context_of atoms (a ∷ [])) s t q m outer.0 outer.1 (subst F (moved atoms a s c) inner), outer.2)

-- The last assumption taken off.
abbrev Last : (atoms : List Atom) (items : List Item) (P : Context → Item → Type 0) → Context → List Assumed → Assumed → Result ℕ ℕ → Result ℕ ℕ → Type 0
Last atoms items P c s a q r = (m : Result ℕ ℕ) × Through atoms items P c s m r × Up atoms items P (c ++ context_of atoms s) a.atom a.truth q m

through_last : (atoms : List Atom) (items : List Item) (P : Context → Item → Type 0) (c : Context) (s : List Assumed) (a : Assumed) (q r : Result ℕ ℕ) → Through atoms items P c (s ++ a ∷ []) q r → Last atoms items P c s a q r
through_last atoms items P c [] a q r h =
    let F : Context → Type 0 = λ d. Up atoms items P d a.atom a.truth q r in
    let G : Result ℕ ℕ → Type 0 = λ v. Up atoms items P c a.atom a.truth v r in
    (r, refl, subst F (sym (append-nil c)) (subst G (sym h.1) h.2))
through_last atoms items P c (b ∷ s) a q r h =
    let l = through_last atoms items P (c ++ context_of atoms (b ∷ [])) s a q h.0 h.1 in
    let F : Context → Type 0 = λ d. Up atoms items P d a.atom a.truth q l.0 in
    (l.0, (h.0, l.1, h.2), subst F (sym (moved atoms b s c)) l.2)

-- Whatever the items come to from the number on under the assumptions leads to what all of them come to.
unfoldable pub Leads : (atoms : List Atom) (items : List Item) (P : Context → Item → Type 0) → List Assumed → ℕ → Type 0
Leads atoms items P s i = (q r : Result ℕ ℕ) → After atoms items P (context_of atoms s) i q → Through atoms items P [] s q r → After atoms items P [] 0 r

pub leads_first : (atoms : List Atom) (items : List Item) (P : Context → Item → Type 0) → Leads atoms items P [] 0
unfolding Leads
leads_first atoms items P = λ q r after same. let F : Result ℕ ℕ → Type 0 = λ v. After atoms items P [] 0 v in subst F same after

sides : (atoms : List Atom) (items : List Item) (P : Context → Item → Type 0) (c : Context) (i x : ℕ) (item : Item) (atom : Atom) (q m : Result ℕ ℕ) → slice_get items i ≡ Some item → split_of atoms item ≡ Some atom → slice_get atoms x ≡ Some atom → After atoms items P (c ++ assume atom true ∷ []) (i + 1) q → Up atoms items P c x true q m → After atoms items P c i m
sides atoms items P c i x item atom (Err k) m at split is after up =
    let F : Result ℕ ℕ → Type 0 = λ v. After atoms items P c i v in
    subst F (sym up) (fails_within item atom at split after)
sides atoms items P c i x item atom (Ok j) m at split is after up =
    let F : Context → Type 0 = λ d. After atoms items P (c ++ d) j m in
    splits item atom at split after (subst F (context_of-one atoms x false atom is) up)

-- A split goes on to its true side.
pub leads_split : (atoms : List Atom) (items : List Item) (P : Context → Item → Type 0) (s : List Assumed) (i x : ℕ) (item : Item) (atom : Atom) → slice_get items i ≡ Some item → split_of atoms item ≡ Some atom → slice_get atoms x ≡ Some atom → Leads atoms items P s i → Leads atoms items P (s ++ with_truth x true ∷ []) (i + 1)
unfolding Leads
leads_split atoms items P s i x item atom at split is leads = λ q r after through.
    let l = through_last atoms items P [] s (with_truth x true) q r through in
    let F : Context → Type 0 = λ d. After atoms items P d (i + 1) q in
    let within = subst F (context_of-append atoms s (with_truth x true ∷ []) ∙ ap (λ (d : Context). context_of atoms s ++ d) (context_of-one atoms x true atom is)) after in
    leads l.0 r (sides atoms items P (context_of atoms s) i x item atom q l.0 at split is within l.2) l.1

-- Where an item fails, all fail at it.
pub leads_failed : (atoms : List Atom) (items : List Item) (P : Context → Item → Type 0) (s : List Assumed) (i k : ℕ) → Leads atoms items P s i → After atoms items P (context_of atoms s) i (Err k) → After atoms items P [] 0 (Err k)
unfolding Leads
leads_failed atoms items P s i k leads after = leads (Err k) (Err k) after (through_err atoms items P [] s k)

-- Where what was to be proved is proved and no true side stands, all is proved.
pub leads_ended : (atoms : List Atom) (items : List Item) (P : Context → Item → Type 0) (s : List Assumed) (i j : ℕ) → Leads atoms items P s i → After atoms items P (context_of atoms s) i (Ok j) → AreFalse s → After atoms items P [] 0 (Ok j)
unfolding Leads
leads_ended atoms items P s i j leads after done = leads (Ok j) (Ok j) after (through_false atoms items P [] s j done)

same_up : (atoms : List Atom) (items : List Item) (P : Context → Item → Type 0) (c : Context) (x : ℕ) (q m : Result ℕ ℕ) → Up atoms items P c x false q m → q ≡ m
same_up atoms items P c x (Err k) m up = sym up
same_up atoms items P c x (Ok j) m up = sym up

-- Else the walk goes on to the false side of the last split whose true side stands.
pub leads_turned : (atoms : List Atom) (items : List Item) (P : Context → Item → Type 0) (s t : List Assumed) (i j : ℕ) → Leads atoms items P s i → After atoms items P (context_of atoms s) i (Ok j) → AreTurned s t → Leads atoms items P t j
unfolding Leads
leads_turned atoms items P s t i j leads leaf turned = λ q r after through.
    let T : List Assumed → Type 0 = λ v. Through atoms items P [] v q r in
    let l = through_last atoms items P [] turned.front (with_truth turned.atom false) q r (subst T turned.is through) in
    let same = same_up atoms items P (context_of atoms turned.front) turned.atom q l.0 l.2 in
    let F : Result ℕ ℕ → Type 0 = λ v. After atoms items P (context_of atoms t) j v in
    let G : Context → Type 0 = λ d. After atoms items P d j l.0 in
    let side = subst G (ap (context_of atoms) turned.is ∙ context_of-append atoms turned.front (with_truth turned.atom false ∷ [])) (subst F same after) in
    let inner : Through atoms items P (context_of atoms turned.front) (with_truth turned.atom true ∷ turned.back) (Ok j) l.0 =
    (Ok j, through_false atoms items P (context_of atoms turned.front ++ context_of atoms (with_truth turned.atom true ∷ [])) turned.back j turned.done, side) in
    let S : List Assumed → Type 0 = λ v. Through atoms items P [] v (Ok j) r in
    leads (Ok j) r leaf (subst S (sym turned.was) (through_append atoms items P [] turned.front (with_truth turned.atom true ∷ turned.back) (Ok j) l.0 r l.1 inner))
