-- The problem of a target, as it is made.
use Rattle.std.proofs.Common.{◌≡◌, ℕ, zero, suc, List, [], ◌∷◌, ◌++◌, map, Bool, Option, Some, None, fold, refl, ap, sym, ◌∙◌, subst, slice_get, Result, IfOk}
use Rattle.std.specs.List.{flat_map}
use Rattle.std.specs.Option.{option_to_list}
use Rattle.std.proofs.lemmas.List.{append-nil, take-map}
use Rattle.std.proofs.lemmas.List.Sums.{fold-append}
use Rattle.key_table.specs.declared.atom.Atom.{Atom}
use Rattle.euclid_ast.specs.declared.meaning.Choice as decided
use Rattle.euclid_ast.specs.declared.meaning.Choice.TheVariants.{Rule, Default}
use Rattle.constraint_graph.specs.declared.node.Node.{Node}
use Rattle.constraint_graph.specs.Graphs.{atoms_of}
use Rattle.rule_problem.specs.declared.problem.Literal.{Literal}
use Rattle.rule_problem.specs.declared.problem.Problem.{Problem}
use Rattle.rule_problem.specs.Distinct.{with_atom}
use Rattle.rule_report.specs.Paths.{Path, joined}
use Rattle.rule_report.specs.Targets.{wanted, before, wants_of, bars_of, said, all_true, IsProblemOf}
use Rattle.rule_report.specs.declared.shared.Shared.{Shared}
use Rattle.rule_report.specs.Shared.{shared_paths}
use Rattle.rule_report.specs.Taken.{IsAdded}
use Rattle.rule_report.proofs.Images.{joined-map}
use Rattle.rule_report.proofs.TakenLemmas.{wants_kept, each_kept}

get_map : {X Y : Type 0} (f : X → Y) (xs : List X) (k : ℕ) (x : X) → slice_get xs k ≡ Some x → slice_get (map f xs) k ≡ Some (f x)
get_map f [] k x h = cc
get_map f (y ∷ xs) zero x h = let same : y ≡ x = cc in ap (λ z. Some (f z)) same
get_map f (y ∷ xs) (suc k) x h = get_map f xs k x h

-- the rule that is wanted, by what there is for it
pub wanted_map : {X Y : Type 0} (f : X → Y) (target : decided.Choice) (xs : List X) (x : X) → wanted target xs ≡ Some x → wanted target (map f xs) ≡ Some (f x)
wanted_map f (Rule k) xs x h = get_map f xs k x h
wanted_map f Default xs x h = cc

get_none : {X Y : Type 0} (f : X → Y) (xs : List X) (k : ℕ) → slice_get xs k ≡ None → slice_get (map f xs) k ≡ None
get_none f [] k h = refl
get_none f (y ∷ xs) zero h = cc
get_none f (y ∷ xs) (suc k) h = get_none f xs k h

pub wanted_none : {X Y : Type 0} (f : X → Y) (target : decided.Choice) (xs : List X) → wanted target xs ≡ None → wanted target (map f xs) ≡ None
wanted_none f (Rule k) xs h = get_none f xs k h
wanted_none f Default xs h = refl

pub want_atoms : (rules : List (List Path)) (target : decided.Choice) (came : List Path) (old new : List Atom) → wanted target rules ≡ Some came → new ≡ fold with_atom old (joined came)
    → new ≡ fold with_atom old (joined (joined (wants_of rules target)))
want_atoms rules target came old new is h = h ∙ sym (ap (λ (o : Option (List Path)). fold with_atom old (joined (joined (option_to_list o)))) is ∙ ap (λ z. fold with_atom old (joined z)) (append-nil came))

-- what came to nothing is all that there is
pub said_all : (old : List Atom) (came : List Path) (new : List Atom) (literals : List (List Literal)) → IsAdded old came new [] literals → map (said new) literals ≡ map all_true came
said_all old came new literals a = ap (map (said new)) a.behind_them ∙ a.says

pub want_said : (rules : List (List Path)) (target : decided.Choice) (came : List Path) (old new : List Atom) (literals : List (List Literal)) → wanted target rules ≡ Some came → IsAdded old came new [] literals
    → map (λ paths. map (said new) paths) (literals ∷ []) ≡ map (λ paths. map all_true paths) (wants_of rules target)
want_said rules target came old new literals is a =
    ap (λ (z : List (List (Option Atom × Bool))). z ∷ []) (said_all old came new literals a)
    ∙ sym (ap (λ (o : Option (List Path)). map (λ paths. map all_true paths) (option_to_list o)) is)

-- where nothing is wanted
pub no_want : (rules : List (List Path)) (target : decided.Choice) → wanted target rules ≡ None → wants_of rules target ≡ []
no_want rules target is = ap (λ (o : Option (List Path)). option_to_list o) is

pub before_map : {X Y : Type 0} (f : X → Y) (target : decided.Choice) (xs : List X) → before target (map f xs) ≡ map f (before target xs)
before_map f (Rule k) xs = take-map f k xs
before_map f Default xs = refl

pub bars_are : {X : Type 0} (f : X → List Path) (target : decided.Choice) (xs : List X) → flat_map f (before target xs) ≡ bars_of (map f xs) target
bars_are f target xs = sym (ap joined (before_map f target xs) ∙ joined-map f (before target xs))

pub problem_is : (rules : List (List Path)) (graph : List Node) (goal : ℕ) (target : decided.Choice) (first second third : List Atom) (wants : List (List (List Literal))) (bars : List (List Literal))
    → first ≡ fold with_atom [] (joined (joined (wants_of rules target)))
    → map (λ paths. map (said first) paths) wants ≡ map (λ paths. map all_true paths) (wants_of rules target)
    → IsAdded first (bars_of rules target) second [] bars
    → third ≡ fold with_atom second (atoms_of graph)
    → IsProblemOf rules graph goal target (record { atoms = third; wants = wants; bars = bars; graph = graph; goal = goal })
problem_is rules graph goal target first second third wants bars g w b k =
    let barred = joined (bars_of rules target) in
    let rest : third ≡ fold with_atom first (barred ++ atoms_of graph) = k ∙ ap (λ z. fold with_atom z (atoms_of graph)) b.atoms ∙ sym (fold-append with_atom first barred (atoms_of graph)) in
    record {
      atoms = rest ∙ ap (λ z. fold with_atom z (barred ++ atoms_of graph)) g ∙ sym (fold-append with_atom [] (joined (joined (wants_of rules target))) (barred ++ atoms_of graph));
      wants = wants_kept first (barred ++ atoms_of graph) third rest wants (wants_of rules target) w;
      bars = each_kept second (atoms_of graph) third k bars (bars_of rules target) (said_all first (bars_of rules target) second bars b);
      same_graph = refl;
      same_goal = refl;
    }

-- what the shared paths are, the problem is of
pub of_source : {E : Type 0} (rules : List (List Path)) (nodes graph : List Node) (node goal : ℕ) (shared : Shared) (target : decided.Choice) (r : Result Problem E)
    → shared_paths shared ≡ rules → graph ≡ nodes → goal ≡ node → IfOk r (IsProblemOf (shared_paths shared) graph goal target) → IfOk r (IsProblemOf rules nodes node target)
of_source rules nodes graph node goal shared target r paths same_graph same_goal h =
    let P : List (List Path) → Type 0 = λ z. IfOk r (IsProblemOf z graph goal target) in
    let Q : List Node → Type 0 = λ z. IfOk r (IsProblemOf rules z goal target) in
    let R : ℕ → Type 0 = λ z. IfOk r (IsProblemOf rules nodes z target) in
    subst R same_goal (subst Q same_graph (subst P paths h))
