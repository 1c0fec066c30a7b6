-- Trees whose splits are proper, and traces of a budget.
use Rattle.std.specs.Prelude.{◌≡◌, ℕ, List, [], ◌∷◌, ◌++◌, true, false, ◌⊎◌}
use Rattle.key_table.specs.declared.atom.Atom.{Atom}
use Rattle.key_table.specs.Contexts.{Context, assume}
use Rattle.key_table.specs.Tables.{Table}
use Rattle.rule_problem.specs.declared.certificate.Item.{Item}
use Rattle.rule_problem.specs.declared.certificate.Item.TheVariants.{Todo}
use Rattle.rule_problem.specs.declared.certificate.Trace.{Trace}
use Rattle.rule_problem.specs.declared.problem.Problem.{Problem}
use Rattle.rule_problem.specs.Open.{IsOpen, IsLive}
use Rattle.rule_problem.specs.Reasons.{Holds}
use Rattle.rule_problem.specs.Trees.{Tree, missing, closed, split, split_count, Spells, TreeProves}

-- Each split stands at an open context, on a live atom.
abbrev pub AreProper : Table → Problem → Context → Tree → Type 0
AreProper table problem context missing = Unit {0}
AreProper table problem context (closed reason) = Unit {0}
AreProper table problem context (split atom left right) =
    IsOpen table problem context × IsLive table problem context atom
    × AreProper table problem (context ++ assume atom true ∷ []) left
    × AreProper table problem (context ++ assume atom false ∷ []) right

-- In preorder the leaves are reasons that hold, up to a missing part at an open context, after which all is missing.
abbrev pub IsCut : Table → Problem → Context → Tree → Type 0
IsCut table problem context missing = IsOpen table problem context
IsCut table problem context (closed reason) = ⊥
IsCut table problem context (split atom left right) =
    (IsCut table problem (context ++ assume atom true ∷ []) left × (right ≡ missing))
    ⊎ (TreeProves table problem (context ++ assume atom true ∷ []) left × IsCut table problem (context ++ assume atom false ∷ []) right)

-- An item that ends a branch of a trace: a reason that holds, or a gap.
abbrev pub IsEnd : Table → Problem → List Atom → Context → Item → Type 0
IsEnd table problem atoms context item = Holds table problem atoms context item ⊎ (item ≡ Todo)

-- The items spell a tree that is cut short, whose splits are proper and exactly as many as the budget.
pub record IsTrace (table : Table) (problem : Problem) (budget : ℕ) (trace : Trace) : Type 0 where
  pub tree : Tree
  pub spelled : Spells trace.atoms trace.items tree
  pub proper : AreProper table problem [] tree
  pub cut : IsCut table problem [] tree
  pub exact : split_count tree ≡ budget
