use Rattle.std.proofs.Common.{◌≡◌, ℕ, ◌<◌, length, get_or, Some}
use Rattle.key_table.specs.declared.atom.Atom.{Atom}
use Rattle.key_table.specs.declared.atom.Verdict3.TheVariants.{Refuted}
use Rattle.key_table.specs.Contexts.{HasVerdict}
use Rattle.domain_store.specs.Kept.{atom_at}
use Rattle.domain_store.specs.Stores.{context_of}
use Rattle.domain_store.proofs.store.Store.own_verdicts.Given as goal

abbrev pub invariant-loop-node : goal.invariant-loop-node
invariant-loop-node l = record {
  count : length l.verdicts.items ≡ l.node;
  are : (node : ℕ) (atom : Atom) → node < l.node → atom_at l.self.problem.graph node ≡ Some (Some atom) → HasVerdict l.self.table (context_of l.self) atom (get_or l.verdicts.items node Refuted);
}
