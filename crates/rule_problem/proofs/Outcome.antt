-- The items come to one outcome.
use Rattle.std.proofs.Common.{◌≡◌, ℕ, ◌+◌, List, [], ◌∷◌, ◌++◌, true, false, Some, None, Result, Ok, Err, refl, ap, sym, subst, slice_get}
use Rattle.key_table.specs.declared.atom.Atom.{Atom}
use Rattle.rule_problem.specs.declared.certificate.Item.{Item}
use Rattle.key_table.specs.Contexts.{Context, assume}
use Rattle.rule_problem.specs.Proving.{After, split_of}
use Rattle.rule_problem.specs.Proving.After.{over, holds, fails, splits, fails_within}

same_item : (items : List Item) (i : ℕ) (t u : Item) → slice_get items i ≡ Some t → slice_get items i ≡ Some u → t ≡ u
same_item items i t u h k = cc

same_atom : (atoms : List Atom) (items : List Item) (i : ℕ) (t u : Item) (a b : Atom) → slice_get items i ≡ Some t → slice_get items i ≡ Some u → split_of atoms t ≡ Some a → split_of atoms u ≡ Some b → a ≡ b
same_atom atoms items i t u a b h k on off = let is : t ≡ u = cc in let s : split_of atoms t ≡ split_of atoms u = ap (split_of atoms) is in cc

leaf_or_split : (atoms : List Atom) (items : List Item) (i : ℕ) (t u : Item) (a : Atom) → slice_get items i ≡ Some t → slice_get items i ≡ Some u → split_of atoms t ≡ None → split_of atoms u ≡ Some a → ⊥
leaf_or_split atoms items i t u a h k on off = let is : t ≡ u = cc in let s : split_of atoms t ≡ split_of atoms u = ap (split_of atoms) is in cc

none_or_some : (items : List Item) (i : ℕ) (t : Item) → slice_get items i ≡ None → slice_get items i ≡ Some t → ⊥
none_or_some items i t h k = cc

abbrev to : ℕ → Result ℕ ℕ
to j = Ok j

ok_or_err : (j k : ℕ) → to j ≡ Err k → ⊥
ok_or_err j k h = cc

ok_same : (j k : ℕ) → to j ≡ to k → j ≡ k
ok_same j k h = cc

pub one_outcome : (atoms : List Atom) (items : List Item) (P : Context → Item → Type 0) (c : Context) (i : ℕ) (r s : Result ℕ ℕ) → After atoms items P c i r → After atoms items P c i s → r ≡ s
one_outcome atoms items P c i r s (over none) (over none') = refl
one_outcome atoms items P c i r s (over none) (holds u at leaf h) = absurd (none_or_some items i u none at)
one_outcome atoms items P c i r s (over none) (fails u at leaf h) = absurd (none_or_some items i u none at)
one_outcome atoms items P c i r s (over none) (splits u b at on first second) = absurd (none_or_some items i u none at)
one_outcome atoms items P c i r s (over none) (fails_within u b at on first) = absurd (none_or_some items i u none at)
one_outcome atoms items P c i r s (holds t at leaf h) (over none) = absurd (none_or_some items i t none at)
one_outcome atoms items P c i r s (holds t at leaf h) (holds u at' leaf' h') = refl
one_outcome atoms items P c i r s (holds t at leaf h) (fails u at' leaf' h') = let F : Item → Type 0 = λ v. P c v in absurd (h' (subst F (same_item items i t u at at') h))
one_outcome atoms items P c i r s (holds t at leaf h) (splits u b at' on first second) = absurd (leaf_or_split atoms items i t u b at at' leaf on)
one_outcome atoms items P c i r s (holds t at leaf h) (fails_within u b at' on first) = absurd (leaf_or_split atoms items i t u b at at' leaf on)
one_outcome atoms items P c i r s (fails t at leaf h) (over none) = absurd (none_or_some items i t none at)
one_outcome atoms items P c i r s (fails t at leaf h) (holds u at' leaf' h') = let F : Item → Type 0 = λ v. P c v in absurd (h (subst F (same_item items i u t at' at) h'))
one_outcome atoms items P c i r s (fails t at leaf h) (fails u at' leaf' h') = refl
one_outcome atoms items P c i r s (fails t at leaf h) (splits u b at' on first second) = absurd (leaf_or_split atoms items i t u b at at' leaf on)
one_outcome atoms items P c i r s (fails t at leaf h) (fails_within u b at' on first) = absurd (leaf_or_split atoms items i t u b at at' leaf on)
one_outcome atoms items P c i r s (splits t a at on first second) (over none) = absurd (none_or_some items i t none at)
one_outcome atoms items P c i r s (splits t a at on first second) (holds u at' leaf h) = absurd (leaf_or_split atoms items i u t a at' at leaf on)
one_outcome atoms items P c i r s (splits t a at on first second) (fails u at' leaf h) = absurd (leaf_or_split atoms items i u t a at' at leaf on)
one_outcome atoms items P c i r s (splits {j = j} t a at on first second) (splits {j = k} u b at' on' first' second') =
    let is = same_atom atoms items i u t b a at' at on' on in
    let T : Atom → Type 0 = λ x. After atoms items P (c ++ assume x true ∷ []) (i + 1) (Ok k) in
    let F : Atom → Type 0 = λ x. After atoms items P (c ++ assume x false ∷ []) k s in
    let next = sym (ok_same j k (one_outcome atoms items P (c ++ assume a true ∷ []) (i + 1) (Ok j) (Ok k) first (subst T is first'))) in
    let G : ℕ → Type 0 = λ n. After atoms items P (c ++ assume a false ∷ []) n s in
    one_outcome atoms items P (c ++ assume a false ∷ []) j r s second (subst G next (subst F is second'))
one_outcome atoms items P c i r s (splits {j = j} t a at on first second) (fails_within {k = k} u b at' on' first') =
    let is = same_atom atoms items i u t b a at' at on' on in
    let T : Atom → Type 0 = λ x. After atoms items P (c ++ assume x true ∷ []) (i + 1) (Err k) in
    absurd (ok_or_err j k (one_outcome atoms items P (c ++ assume a true ∷ []) (i + 1) (Ok j) (Err k) first (subst T is first')))
one_outcome atoms items P c i r s (fails_within t a at on first) (over none) = absurd (none_or_some items i t none at)
one_outcome atoms items P c i r s (fails_within t a at on first) (holds u at' leaf h) = absurd (leaf_or_split atoms items i u t a at' at leaf on)
one_outcome atoms items P c i r s (fails_within t a at on first) (fails u at' leaf h) = absurd (leaf_or_split atoms items i u t a at' at leaf on)
one_outcome atoms items P c i r s (fails_within {k = k} t a at on first) (splits {j = j} u b at' on' first' second') =
    let is = same_atom atoms items i u t b a at' at on' on in
    let T : Atom → Type 0 = λ x. After atoms items P (c ++ assume x true ∷ []) (i + 1) (Ok j) in
    absurd (ok_or_err j k (sym (one_outcome atoms items P (c ++ assume a true ∷ []) (i + 1) (Err k) (Ok j) first (subst T is first'))))
one_outcome atoms items P c i r s (fails_within {k = k} t a at on first) (fails_within {k = l} u b at' on' first') =
    let is = same_atom atoms items i u t b a at' at on' on in
    let T : Atom → Type 0 = λ x. After atoms items P (c ++ assume x true ∷ []) (i + 1) (Err l) in
    one_outcome atoms items P (c ++ assume a true ∷ []) (i + 1) (Err k) (Err l) first (subst T is first')
