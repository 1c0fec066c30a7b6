use Rattle.std.proofs.Common.{◌≡◌, List, sym, subst, arith}
use Rattle.key_table.specs.declared.atom.Atom.{Atom}
use Rattle.key_table.specs.declared.atom.Verdict3.{Verdict3}
use Rattle.constraint_graph.specs.Logics.{three_valued}
use Rattle.constraint_graph.specs.Values.{values}
use Rattle.domain_store.specs.NodeVerdicts.{AreOwnVerdicts, Gives}
use Rattle.domain_store.specs.Stores.{Seen}
use Rattle.domain_store.specs.Verdicts.{HasGoalVerdict}
use Rattle.domain_store.proofs.NodeLemmas.{goal_is, goal_within}
use Rattle.domain_store.proofs.store.Store.goal_verdict.Goals as goal

pub index-requires : goal.index-requires
index-requires c = omega (arith, goal_within c.self.inside.table.now c.self.inside.problem.now c.self.invariant.fits, c.in_ok-verdicts.ensures.count, c.in_ok-verdicts.verdicts.ok.0)

pub returns : goal.returns
returns c =
    let seen : Seen = record { table = c.self.inside.table.now; problem = c.self.inside.problem.now; assumptions = c.self.inside.assumed.items } in
    let own = c.in_ok-own.own.items in
    let vs = c.in_ok-verdicts.verdicts.items in
    let A : Seen → Type 0 = λ s. AreOwnVerdicts s own in
    let D : List Verdict3 → Type 0 = λ os. (says : Atom → Verdict3) → Gives seen.problem.graph os says → vs ≡ values three_valued says seen.problem.graph in
    let G : Seen → Type 0 = λ s. HasGoalVerdict s c.index.result.now in
    subst G c.self.view_is (goal_is c.atom_law.ensures seen own vs c.index.result.now (subst A (sym c.self.view_is) c.in_ok-own.ensures) (subst D c.deref.ensures.value c.in_ok-verdicts.ensures.values)
    (omega (arith, goal_within seen.table seen.problem c.self.invariant.fits, c.in_ok-verdicts.ensures.count)) c.index.ensures)
