-- Atoms that grow: numbers stay those of their atoms.
use Rattle.std.proofs.Common.{◌≡◌, ℕ, zero, suc, ◌+◌, List, [], ◌∷◌, ◌++◌, map, take, Option, Some, None, fold, refl, ap, sym, ◌∙◌, subst, slice_get, option_map, arith}
use Rattle.std.specs.Option.{option_to_list}
use Rattle.std.specs.List.{filter_map, cons_option}
use Rattle.std.proofs.lemmas.List.{append_assoc, append-nil}
use Rattle.std.proofs.lemmas.List.Sums.{fold-append}
use Rattle.constraint_graph.specs.declared.node.Node.{Node}
use Rattle.constraint_graph.specs.Graphs.{atom_of, atoms_of}
use Rattle.key_table.specs.declared.atom.Atom.{Atom}
use Rattle.rule_problem.specs.Distinct.{with_atom}
use Rattle.rule_report.specs.Paths.{Path}
use Rattle.rule_report.specs.Numbered.{AreNumbersOf, ArePathsOf, AreRulesOf, IsGrown}
use Rattle.rule_report.proofs.Images.{change, both}
use Rattle.rule_report.proofs.Once.{kept}

pub grown_then : (old mid new : List Atom) → IsGrown old mid → IsGrown mid new → IsGrown old new
grown_then old mid new g h = (g.0 ++ h.0, h.1 ∙ ap (λ z. fold with_atom z h.0) g.1 ∙ sym (fold-append with_atom old g.0 h.0))

pub get_append : {X : Type 0} (xs ys : List X) (i : ℕ) (x : X) → slice_get xs i ≡ Some x → slice_get (xs ++ ys) i ≡ Some x
get_append [] ys i x h = cc
get_append (y ∷ xs) ys zero x h = h
get_append (y ∷ xs) ys (suc i) x h = get_append xs ys i x h

-- what is there of an atom
abbrev pub some : Atom → Option Atom
some a = Some a

-- what grew begins with what it was
pub begins : (old new : List Atom) → IsGrown old new → (more : List Atom) × (new ≡ old ++ more)
begins old new g = let k = kept old g.0 in (k.0, g.1 ∙ k.1)

number_kept : (old new : List Atom) → IsGrown old new → (n : ℕ) (a : Atom) → slice_get old n ≡ Some a → slice_get new n ≡ Some a
number_kept old new g n a h = let b = begins old new g in ap (λ z. slice_get z n) b.1 ∙ get_append old b.0 n a h

pub numbers_kept : (old new : List Atom) → IsGrown old new → (ns : List ℕ) (path : Path) → AreNumbersOf old ns path → AreNumbersOf new ns path
numbers_kept old new g ns path h = change (slice_get old) (slice_get new) some (number_kept old new g) ns path h

pub paths_kept : (old new : List Atom) → IsGrown old new → (nss : List (List ℕ)) (paths : List Path) → ArePathsOf old nss paths → ArePathsOf new nss paths
paths_kept old new g nss paths h = change (map (slice_get old)) (map (slice_get new)) (map some) (numbers_kept old new g) nss paths h

pub rules_kept : (old new : List Atom) → IsGrown old new → (rules : List (List (List ℕ))) (paths : List (List Path)) → AreRulesOf old rules paths → AreRulesOf new rules paths
rules_kept old new g rules paths h = change (map (map (slice_get old))) (map (map (slice_get new))) (map (map some)) (paths_kept old new g) rules paths h

-- some numbers, and then one more
pub numbers_more : (mid new : List Atom) → IsGrown mid new → (ns : List ℕ) (path : Path) (n : ℕ) (a : Atom) → AreNumbersOf mid ns path → slice_get new n ≡ Some a → AreNumbersOf new (ns ++ n ∷ []) (path ++ a ∷ [])
numbers_more mid new g ns path n a h is = both (slice_get new) some ns (n ∷ []) path (a ∷ []) (numbers_kept mid new g ns path h) (ap (λ o. o ∷ []) is)

pub paths_more : (mid new : List Atom) → IsGrown mid new → (nss more : List (List ℕ)) (paths rest : List Path) → ArePathsOf mid nss paths → ArePathsOf new more rest → ArePathsOf new (nss ++ more) (paths ++ rest)
paths_more mid new g nss more paths rest h k = both (map (slice_get new)) (map some) nss more paths rest (paths_kept mid new g nss paths h) k

pub rules_more : (mid new : List Atom) → IsGrown mid new → (rules : List (List (List ℕ))) (paths : List (List Path)) (more : List (List ℕ)) (rest : List Path) → AreRulesOf mid rules paths → ArePathsOf new more rest → AreRulesOf new (rules ++ more ∷ []) (paths ++ rest ∷ [])
rules_more mid new g rules paths more rest h k =
    both (map (map (slice_get new))) (map (map some)) rules (more ∷ []) paths (rest ∷ []) (rules_kept mid new g rules paths h) (ap (λ z. z ∷ []) k)

filter-one : {X Y : Type 0} (f : X → Option Y) (x : X) (xs : List X) → filter_map f (x ∷ xs) ≡ option_to_list (f x) ++ filter_map f xs
filter-one f x xs = elim (f x) as (λ o. cons_option o (filter_map f xs) ≡ option_to_list o ++ filter_map f xs) [ None ↦ refl | Some y ↦ refl ]

abbrev nowhere : Option (Option Atom)
nowhere = None

atoms-step : (nodes : List Node) (k : ℕ) (o : Option Atom) → option_map atom_of (slice_get nodes k) ≡ Some o → atoms_of (take (suc k) nodes) ≡ atoms_of (take k nodes) ++ option_to_list o
atoms-step [] k o h = absurd (nothing o h)
  where
    nothing : (o : Option Atom) → nowhere ≡ Some o → ⊥
    nothing o h = cc
atoms-step (node ∷ nodes) zero o h =
    let is : atom_of node ≡ o = cc in
    filter-one atom_of node [] ∙ append-nil (option_to_list (atom_of node)) ∙ ap (λ (p : Option Atom). option_to_list p) is
atoms-step (node ∷ nodes) (suc k) o h =
    filter-one atom_of node (take (suc k) nodes)
    ∙ ap (λ (r : List Atom). option_to_list (atom_of node) ++ r) (atoms-step nodes k o h)
    ∙ sym (append_assoc (option_to_list (atom_of node)) (atoms_of (take k nodes)) (option_to_list o))
    ∙ ap (λ (r : List Atom). r ++ option_to_list o) (sym (filter-one atom_of node (take k nodes)))

-- the atoms of the nodes up to the next one
pub atoms_next : (nodes : List Node) (k : ℕ) (o : Option Atom) → option_map atom_of (slice_get nodes k) ≡ Some o → atoms_of (take (k + 1) nodes) ≡ atoms_of (take k nodes) ++ option_to_list o
atoms_next nodes k o h =
    let P : ℕ → Type 0 = λ n. atoms_of (take n nodes) ≡ atoms_of (take k nodes) ++ option_to_list o in
    let e : suc k ≡ k + 1 = omega arith in
    subst P e (atoms-step nodes k o h)
