-- An atom has at most one verdict in a context, and so has a node.
use Rattle.std.proofs.Common.{◌≡◌, refl, sym, ◌∙◌}
use Rattle.key_table.specs.declared.atom.Atom.{Atom}
use Rattle.key_table.specs.declared.atom.Verdict3.{Verdict3}
use Rattle.key_table.specs.declared.atom.Verdict3.TheVariants.{Entailed, Refuted, Undecided}
use Rattle.key_table.specs.Contexts.{Context, HasVerdict}
use Rattle.key_table.specs.Tables.{Table}
use Rattle.constraint_graph.specs.Laws.{AgreeLaw}
use Rattle.rule_problem.specs.ContextLaws.{GoalLaw}

same_verdict : (table : Table) (c : Context) (a : Atom) (v w : Verdict3) → HasVerdict table c a v → HasVerdict table c a w → v ≡ w
same_verdict table c a Entailed Entailed h k = refl
same_verdict table c a Entailed Refuted h k = absurd (h.1 k)
same_verdict table c a Entailed Undecided h k = absurd (k.0 h.0)
same_verdict table c a Refuted Entailed h k = absurd (k.1 h)
same_verdict table c a Refuted Refuted h k = refl
same_verdict table c a Refuted Undecided h k = absurd (k.1 h)
same_verdict table c a Undecided Entailed h k = absurd (h.0 k.0)
same_verdict table c a Undecided Refuted h k = absurd (h.1 k)
same_verdict table c a Undecided Undecided h k = refl

pub one_verdict : AgreeLaw → GoalLaw
one_verdict agree table c graph goal v w h k = sym h.is ∙ agree h.says k.says graph goal (λ a in_it. same_verdict table c a (h.says a) (k.says a) (h.are a in_it) (k.are a in_it)) ∙ k.is
