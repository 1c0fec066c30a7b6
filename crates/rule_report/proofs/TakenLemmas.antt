-- One more shared atom is taken.
use Rattle.std.proofs.Common.{◌≡◌, ℕ, zero, suc, ⊎_elim, ◌⊎◌, inl, inr, List, [], ◌∷◌, ◌++◌, length, set, replicate, map, Bool, true, cond, Option, Some, None, fold, refl, ap, sym, ◌∙◌, slice_get, arith}
use Rattle.std.specs.List.{cons_option}
use Rattle.std.proofs.lemmas.List.{append_assoc, length-replicate}
use Rattle.std.proofs.lemmas.List.Sums.{fold-append}
use Rattle.std.proofs.lemmas.List.Elements.{filter_map-append, All-replicate}
use Rattle.key_table.specs.declared.atom.Atom.{Atom}
use Rattle.rule_problem.specs.declared.problem.Literal.{Literal}
use Rattle.rule_problem.specs.Distinct.{is_among, are_distinct, with_atom}
use Rattle.rule_report.specs.declared.taken.Taken.{Taken}
use Rattle.rule_report.specs.Paths.{Path, joined}
use Rattle.rule_report.specs.Numbered.{atoms_at}
use Rattle.rule_report.specs.Targets.{said, all_true}
use Rattle.rule_report.specs.Taken.{IsTaking, IsAdded}
use Rattle.rule_report.proofs.Images.{change, both}
use Rattle.rule_report.proofs.Alls.{at}
use Rattle.rule_report.proofs.Growth.{get_append}
use Rattle.rule_report.proofs.Once.{SameLaw, kept, absent_push, at_among, apart}

pub sum : {A B C : Type 0} → A ⊎ B → (A → C) → (B → C) → C
sum s f g = ⊎_elim f g s

length-set : {X : Type 0} (xs : List X) (i : ℕ) (y : X) → length (set xs i y) ≡ length xs
length-set [] i y = refl
length-set (x ∷ xs) zero y = refl
length-set (x ∷ xs) (suc i) y = ap {A = ℕ} (λ n. suc n) (length-set xs i y)

-- what stands at a place after one place was set
set-cases : {X : Type 0} (xs : List X) (i : ℕ) (y : X) (k : ℕ) (z : X) → slice_get (set xs i y) k ≡ Some z → ((k ≡ i) × (y ≡ z)) ⊎ ((k ≡ i → ⊥) × (slice_get xs k ≡ Some z))
set-cases [] i y k z h = absurd (nothing z h)
  where
    nothing : {X : Type 0} (x : X) → None ≡ Some x → ⊥
    nothing x h = cc
set-cases (x ∷ xs) zero y zero z h = inl (refl, cc)
set-cases (x ∷ xs) zero y (suc k) z h = inr ((λ e. absurd (omega (arith, e))), h)
set-cases (x ∷ xs) (suc i) y zero z h = inr ((λ e. absurd (omega (arith, e))), h)
set-cases (x ∷ xs) (suc i) y (suc k) z h =
    sum (set-cases xs i y k z h)
    (λ e. inl (ap {A = ℕ} (λ n. suc n) e.0, e.1))
    (λ e. inr ((λ same. e.0 (omega (arith, same))), e.1))

pub get_last : {X : Type 0} (xs : List X) (x : X) → slice_get (xs ++ x ∷ []) (length xs) ≡ Some x
get_last [] x = refl
get_last (y ∷ xs) x = get_last xs x

pub some-same : {X : Type 0} (x y : X) → Some x ≡ Some y → x ≡ y
some-same x y h = cc

pub none-from : {X : Type 0} (o : Option X) → ((x : X) → o ≡ Some x → ⊥) → o ≡ None
none-from None h = refl
none-from (Some x) h = absurd (h x refl)

some-none : (n : ℕ) → Some n ≡ None → ⊥
some-none n h = cc

-- An atom that was not taken stands last, under the next number.
pub taken_more : SameLaw → (shared : List Atom) (t u : Taken) (place : ℕ) (x : Atom) → IsTaking shared t → slice_get shared place ≡ Some x
    → u.atoms ≡ t.atoms ++ x ∷ [] → u.numbers.items ≡ set t.numbers.items place (Some (length t.atoms)) → IsTaking shared u
taken_more law shared t u place x taken at atoms numbers =
    let cases = λ (k : ℕ) (o : Option ℕ) (h : slice_get u.numbers.items k ≡ Some o). set-cases t.numbers.items place (Some (length t.atoms)) k o (ap (λ z. slice_get z k) (sym numbers) ∙ h) in
    record {
      distinct = taken.distinct;
      one_each = ap {A = List (Option ℕ)} length numbers ∙ length-set t.numbers.items place (Some (length t.atoms)) ∙ taken.one_each;
      right = λ k number a h there.
          sum (cases k (Some number) h)
          (λ e.
          let last : length t.atoms ≡ number = some-same (length t.atoms) number e.1 in
          let same : x ≡ a = some-same x a (sym at ∙ ap (slice_get shared) (sym e.0) ∙ there) in
          ap (λ z. slice_get z number) atoms ∙ ap (slice_get (t.atoms ++ x ∷ [])) (sym last) ∙ get_last t.atoms x ∙ ap (λ (z : Atom). Some z) same)
          (λ e. ap (λ z. slice_get z number) atoms ∙ get_append t.atoms (x ∷ []) number a (taken.right k number a e.1 there));
      rest = λ k a h there.
          sum (cases k None h)
          (λ e. absurd (some-none (length t.atoms) e.1))
          (λ e. ap (λ z. is_among z a) atoms ∙ absent_push t.atoms a x (taken.rest k a e.1 there) (apart law shared k place a x taken.distinct there at e.0));
    }

-- the atoms at one place
pub atoms_at_one : (shared : List Atom) (place : ℕ) (x : Atom) → slice_get shared place ≡ Some x → atoms_at shared (place ∷ []) ≡ x ∷ []
atoms_at_one shared place x at = ap (λ (o : Option Atom). cons_option o []) at

-- an atom that was taken is there
pub taken_again : (shared : List Atom) (t : Taken) (place number : ℕ) (x : Atom) → IsTaking shared t → slice_get t.numbers.items place ≡ Some (Some number) → slice_get shared place ≡ Some x
    → t.atoms ≡ fold with_atom t.atoms (atoms_at shared (place ∷ []))
taken_again shared t place number x taken is at =
    sym (ap (fold with_atom t.atoms) (atoms_at_one shared place x at)
    ∙ ap (λ b. cond b t.atoms (t.atoms ++ x ∷ [])) (at_among t.atoms number x (taken.right place number x is at)))

-- one that was not comes
pub taken_first : (shared : List Atom) (t : Taken) (new : List Atom) (place : ℕ) (x : Atom) → IsTaking shared t → slice_get t.numbers.items place ≡ Some None → slice_get shared place ≡ Some x
    → new ≡ t.atoms ++ x ∷ [] → new ≡ fold with_atom t.atoms (atoms_at shared (place ∷ []))
taken_first shared t new place x taken is at push =
    push ∙ sym (ap (fold with_atom t.atoms) (atoms_at_one shared place x at)
    ∙ ap (λ b. cond b t.atoms (t.atoms ++ x ∷ [])) (taken.rest place x is at))

-- a literal of an atom that stands at its number
pub said_one : (shared new : List Atom) (place number : ℕ) (x : Atom) → slice_get shared place ≡ Some x → slice_get new number ≡ Some x
    → said new (record { atom = number; want = true } ∷ []) ≡ all_true (atoms_at shared (place ∷ []))
said_one shared new place number x at is = ap (λ (o : Option Atom). (o, true) ∷ []) is ∙ sym (ap all_true (atoms_at_one shared place x at))

-- what one literal says, and one atom that is true
abbrev says_one : List Atom → Literal → Option Atom × Bool
says_one atoms l = (slice_get atoms l.atom, l.want)

abbrev true_one : Atom → Option Atom × Bool
true_one a = (Some a, true)

one_kept : (old more : List Atom) (l : Literal) (a : Atom) → says_one old l ≡ true_one a → says_one (old ++ more) l ≡ true_one a
one_kept old more l a h =
    ap (λ o. (o, l.want)) (get_append old more l.atom a (ap (λ (e : Option Atom × Bool). e.0) h)) ∙ ap (λ b. (Some a, b)) (ap (λ (e : Option Atom × Bool). e.1) h)

-- what literals say stays so
pub said_kept : (old came new : List Atom) → new ≡ fold with_atom old came → (path : List Literal) (right : Path) → said old path ≡ all_true right → said new path ≡ all_true right
said_kept old came new g path right h =
    let k = kept old came in
    ap (λ z. said z path) (g ∙ k.1) ∙ change (says_one old) (says_one (old ++ k.0)) true_one (one_kept old k.0) path right h

pub each_kept : (old came new : List Atom) → new ≡ fold with_atom old came → (paths : List (List Literal)) (right : List Path) → map (said old) paths ≡ map all_true right → map (said new) paths ≡ map all_true right
each_kept old came new g paths right h = change (said old) (said new) all_true (said_kept old came new g) paths right h

pub wants_kept : (old came new : List Atom) → new ≡ fold with_atom old came → (wants : List (List (List Literal))) (right : List (List Path))
    → map (λ paths. map (said old) paths) wants ≡ map (λ paths. map all_true paths) right → map (λ paths. map (said new) paths) wants ≡ map (λ paths. map all_true paths) right
wants_kept old came new g wants right h = change (map (said old)) (map (said new)) (map all_true) (each_kept old came new g) wants right h

-- literals, and then one more
pub said_more : (shared old mid new : List Atom) (places : List ℕ) (place : ℕ) (path : List Literal) (l : Literal)
    → said mid path ≡ all_true (atoms_at shared places) → new ≡ fold with_atom mid (atoms_at shared (place ∷ [])) → said new (l ∷ []) ≡ all_true (atoms_at shared (place ∷ []))
    → said new (path ++ l ∷ []) ≡ all_true (atoms_at shared (places ++ place ∷ []))
said_more shared old mid new places place path l h g k =
    both (says_one new) true_one path (l ∷ []) (atoms_at shared places) (atoms_at shared (place ∷ [])) (said_kept mid (atoms_at shared (place ∷ [])) new g path (atoms_at shared places) h) k
    ∙ sym (ap all_true (filter_map-append (slice_get shared) places (place ∷ [])))

pub atoms_more : (shared old mid new : List Atom) (places : List ℕ) (place : ℕ)
    → mid ≡ fold with_atom old (atoms_at shared places) → new ≡ fold with_atom mid (atoms_at shared (place ∷ [])) → new ≡ fold with_atom old (atoms_at shared (places ++ place ∷ []))
atoms_more shared old mid new places place g h =
    h ∙ ap (λ z. fold with_atom z (atoms_at shared (place ∷ []))) g ∙ sym (fold-append with_atom old (atoms_at shared places) (atoms_at shared (place ∷ [])))
    ∙ sym (ap (fold with_atom old) (filter_map-append (slice_get shared) places (place ∷ [])))

joined-append : {X : Type 0} (xs ys : List (List X)) → joined (xs ++ ys) ≡ joined xs ++ joined ys
joined-append [] ys = refl
joined-append (x ∷ xs) ys = ap (λ z. x ++ z) (joined-append xs ys) ∙ sym (append_assoc x (joined xs) (joined ys))

-- some came, and then some more
pub added_then : (old mid new : List Atom) (came rest : List Path) (p q r : List (List Literal)) → IsAdded old came mid p q → IsAdded mid rest new q r → IsAdded old (came ++ rest) new p r
added_then old mid new came rest p q r a b = record {
  last = a.last ++ b.last;
  behind_them = b.behind_them ∙ ap (λ z. z ++ b.last) a.behind_them ∙ append_assoc p a.last b.last;
  says = both (said new) all_true a.last b.last came rest (each_kept mid (joined rest) new b.atoms a.last came a.says) b.says;
  atoms = b.atoms ∙ ap (λ z. fold with_atom z (joined rest)) a.atoms ∙ sym (fold-append with_atom old (joined came) (joined rest)) ∙ sym (ap (fold with_atom old) (joined-append came rest));
}

-- of a problem that is begun no atom has a number
pub taking_none : (shared : List Atom) (t : Taken) → are_distinct shared ≡ true → t.atoms ≡ [] → t.numbers.items ≡ replicate (length shared) None → IsTaking shared t
taking_none shared t distinct atoms numbers =
    let P : Option ℕ → Type 0 = λ o. o ≡ None in
    let each = All-replicate P (length shared) None refl in
    record {
      distinct = distinct;
      one_each = ap {A = List (Option ℕ)} length numbers ∙ length-replicate (length shared) None;
      right = λ place number atom h there. absurd (some-none number (at P (replicate (length shared) None) place (Some number) each (ap (λ z. slice_get z place) (sym numbers) ∙ h)));
      rest = λ place atom h there. ap (λ z. is_among z atom) atoms;
    }
