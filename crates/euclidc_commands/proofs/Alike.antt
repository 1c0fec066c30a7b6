-- What proves on one problem of a target proves on each.
use Rattle.std.proofs.Common.{◌≡◌, ℕ, zero, suc, List, [], ◌∷◌, ◌++◌, map, Bool, true, false, Option, slice_get, inl, inr, sym, ap, subst, ◌∙◌}
use Rattle.std.specs.List.{AllByRecursion, Contains}
use Rattle.std.specs.Option.{IsSomeAnd}
use Rattle.key_table.specs.declared.atom.Atom.{Atom}
use Rattle.key_table.specs.declared.atom.Verdict3.{Verdict3}
use Rattle.key_table.specs.Contexts.{Context, assume, EntailsWanted, RefutesWanted}
use Rattle.key_table.specs.Tables.{Table}
use Rattle.constraint_graph.specs.declared.node.Node.{Node}
use Rattle.constraint_graph.specs.Graphs.{atoms_of}
use Rattle.constraint_graph.specs.Values.{verdict}
use Rattle.connector_settings.specs.declared.layout.ConnectorGraph.{ConnectorGraph}
use Rattle.euclid_ast.specs.declared.meaning.Choice as decided
use Rattle.rule_problem.specs.declared.problem.Literal.{Literal}
use Rattle.rule_problem.specs.declared.problem.Problem.{Problem}
use Rattle.rule_problem.specs.Literals.{IsEntailed, AreEntailed, HasRefuted, AreRefuted}
use Rattle.rule_problem.specs.Quantifiers.{AnyByRecursion}
use Rattle.rule_problem.specs.Reasons.{Reason, void, want, bar, goal, ReasonHolds}
use Rattle.rule_problem.specs.Trees.{Tree, missing, closed, split, TreeProves}
use Rattle.rule_report.specs.Targets.{said}
use Rattle.euclidc_commands.specs.Inquiries.{Inquiry, IsProblemFor}

-- ---- lists

any_map : {X Y : Type 0} (P : Y → Type 0) (f : X → Y) (xs : List X) → AnyByRecursion (λ x. P (f x)) xs → AnyByRecursion P (map f xs)
any_map P f [] h = h
any_map P f (x ∷ xs) (inl here) = inl here
any_map P f (x ∷ xs) (inr later) = inr (any_map P f xs later)

any_unmap : {X Y : Type 0} (P : Y → Type 0) (f : X → Y) (xs : List X) → AnyByRecursion P (map f xs) → AnyByRecursion (λ x. P (f x)) xs
any_unmap P f [] h = h
any_unmap P f (x ∷ xs) (inl here) = inl here
any_unmap P f (x ∷ xs) (inr later) = inr (any_unmap P f xs later)

all_map : {X Y : Type 0} (P : Y → Type 0) (Q : X → Type 0) (f : X → Y) → ((x : X) → Q x → P (f x)) → (xs : List X) → AllByRecursion Q xs → AllByRecursion P (map f xs)
all_map P Q f each [] h = tt
all_map P Q f each (x ∷ xs) h = (each x h.0, all_map P Q f each xs h.1)

all_unmap : {X Y : Type 0} (P : Y → Type 0) (Q : X → Type 0) (f : X → Y) → ((x : X) → P (f x) → Q x) → (xs : List X) → AllByRecursion P (map f xs) → AllByRecursion Q xs
all_unmap P Q f each [] h = tt
all_unmap P Q f each (x ∷ xs) h = (each x h.0, all_unmap P Q f each xs h.1)

some_map : {X Y : Type 0} (P : Y → Type 0) (Q : X → Type 0) (f : X → Y) → ((x : X) → Q x → P (f x)) → (xs : List X) (k : ℕ) → IsSomeAnd (slice_get xs k) Q → IsSomeAnd (slice_get (map f xs) k) P
some_map P Q f each [] k h = absurd h
some_map P Q f each (x ∷ xs) zero h = each x h
some_map P Q f each (x ∷ xs) (suc k) h = some_map P Q f each xs k h

some_unmap : {X Y : Type 0} (P : Y → Type 0) (Q : X → Type 0) (f : X → Y) → ((x : X) → P (f x) → Q x) → (xs : List X) (k : ℕ) → IsSomeAnd (slice_get (map f xs) k) P → IsSomeAnd (slice_get xs k) Q
some_unmap P Q f each [] k h = absurd h
some_unmap P Q f each (x ∷ xs) zero h = each x h
some_unmap P Q f each (x ∷ xs) (suc k) h = some_unmap P Q f each xs k h

-- ---- what literals say, by their atoms

abbrev Heard : Type 0
Heard = Option Atom × Bool

abbrev hear : List Atom → Literal → Heard
hear atoms l = (slice_get atoms l.atom, l.want)

abbrev RefutedHeard : Table → Context → Heard → Type 0
RefutedHeard table context h = IsSomeAnd h.0 (λ atom. RefutesWanted table context atom h.1)

abbrev EntailedHeard : Table → Context → Heard → Type 0
EntailedHeard table context h = IsSomeAnd h.0 (λ atom. EntailsWanted table context atom h.1)

abbrev WantFails : Table → Context → List (List Heard) → Type 0
WantFails table context paths = AllByRecursion (AnyByRecursion (RefutedHeard table context)) paths

abbrev BarHolds : Table → Context → List Heard → Type 0
BarHolds table context path = AllByRecursion (EntailedHeard table context) path

want-heard : (table : Table) (context : Context) (atoms : List Atom) (paths : List (List Literal)) → AreRefuted table context atoms paths → WantFails table context (map (said atoms) paths)
want-heard table context atoms paths h =
    all_map (AnyByRecursion (RefutedHeard table context)) (HasRefuted table context atoms) (said atoms) (λ path. any_map (RefutedHeard table context) (hear atoms) path) paths h

want-said : (table : Table) (context : Context) (atoms : List Atom) (paths : List (List Literal)) → WantFails table context (map (said atoms) paths) → AreRefuted table context atoms paths
want-said table context atoms paths h =
    all_unmap (AnyByRecursion (RefutedHeard table context)) (HasRefuted table context atoms) (said atoms) (λ path. any_unmap (RefutedHeard table context) (hear atoms) path) paths h

bar-heard : (table : Table) (context : Context) (atoms : List Atom) (path : List Literal) → AreEntailed table context atoms path → BarHolds table context (said atoms path)
bar-heard table context atoms path h = all_map (EntailedHeard table context) (IsEntailed table context atoms) (hear atoms) (λ l entailed. entailed) path h

bar-said : (table : Table) (context : Context) (atoms : List Atom) (path : List Literal) → BarHolds table context (said atoms path) → AreEntailed table context atoms path
bar-said table context atoms path h = all_unmap (EntailedHeard table context) (IsEntailed table context atoms) (hear atoms) (λ l entailed. entailed) path h

-- ---- reasons, trees

module _ (i : Inquiry) (target : decided.Choice) (connectors others : ConnectorGraph) (problem other : Problem) (is : IsProblemFor i target connectors problem) (is' : IsProblemFor i target others other) where
  same_wants : map (λ paths. map (said problem.atoms) paths) problem.wants ≡ map (λ paths. map (said other.atoms) paths) other.wants
  same_wants = is.of_target.wants ∙ sym is'.of_target.wants

  same_bars : map (said problem.atoms) problem.bars ≡ map (said other.atoms) other.bars
  same_bars = is.of_target.bars ∙ sym is'.of_target.bars

  want-alike : (context : Context) (w : ℕ) → ReasonHolds i.program.table problem context (want w) → ReasonHolds i.program.table other context (want w)
  want-alike context w h =
      let P = WantFails i.program.table context in
      let heard = some_map P (AreRefuted i.program.table context problem.atoms) (λ paths. map (said problem.atoms) paths) (want-heard i.program.table context problem.atoms) problem.wants w h in
      some_unmap P (AreRefuted i.program.table context other.atoms) (λ paths. map (said other.atoms) paths) (want-said i.program.table context other.atoms) other.wants w
      (subst (λ z. IsSomeAnd (slice_get z w) P) same_wants heard)

  bar-alike : (context : Context) (b : ℕ) → ReasonHolds i.program.table problem context (bar b) → ReasonHolds i.program.table other context (bar b)
  bar-alike context b h =
      let P = BarHolds i.program.table context in
      let heard = some_map P (AreEntailed i.program.table context problem.atoms) (said problem.atoms) (bar-heard i.program.table context problem.atoms) problem.bars b h in
      some_unmap P (AreEntailed i.program.table context other.atoms) (said other.atoms) (bar-said i.program.table context other.atoms) other.bars b
      (subst (λ z. IsSomeAnd (slice_get z b) P) same_bars heard)

  same_atoms : (atom : Atom) → Contains (atoms_of other.graph) atom → Contains (atoms_of problem.graph) atom
  same_atoms atom h =
      let P : List Node → Type 0 = λ g. Contains (atoms_of g) atom in
      subst P (sym is.of_target.same_graph) ((is.graph.atoms atom).1 ((is'.graph.atoms atom).0 (subst P is'.of_target.same_graph h)))

  same_verdict : (says : Atom → Verdict3) → verdict says other.graph other.goal ≡ verdict says problem.graph problem.goal
  same_verdict says =
      ap (λ g. verdict says g other.goal) is'.of_target.same_graph ∙ ap (verdict says others.graph) is'.of_target.same_goal ∙ is'.graph.goal_verdict says
      ∙ sym (ap (λ g. verdict says g problem.goal) is.of_target.same_graph ∙ ap (verdict says connectors.graph) is.of_target.same_goal ∙ is.graph.goal_verdict says)

  goal-alike : (context : Context) → ReasonHolds i.program.table problem context goal → ReasonHolds i.program.table other context goal
  goal-alike context h = record { says = h.says; are = λ atom there. h.are atom (same_atoms atom there); is = same_verdict h.says ∙ h.is }

  reason-alike : (context : Context) (reason : Reason) → ReasonHolds i.program.table problem context reason → ReasonHolds i.program.table other context reason
  reason-alike context (void atom) h = h
  reason-alike context (want w) h = want-alike context w h
  reason-alike context (bar b) h = bar-alike context b h
  reason-alike context goal h = goal-alike context h

  -- a tree that proves on the one problem proves on the other
  pub tree-alike : (context : Context) (tree : Tree) → TreeProves i.program.table problem context tree → TreeProves i.program.table other context tree
  tree-alike context missing h = h
  tree-alike context (closed reason) h = reason-alike context reason h
  tree-alike context (split atom left right) h = (tree-alike (context ++ assume atom true ∷ []) left h.0, tree-alike (context ++ assume atom false ∷ []) right h.1)
