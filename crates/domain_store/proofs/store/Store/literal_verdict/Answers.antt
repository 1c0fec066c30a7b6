use Rattle.std.proofs.Common.{Bool, sym, subst}
use Rattle.key_table.specs.declared.atom.Verdict3.{Verdict3}
use Rattle.key_table.specs.Contexts.{wanted}
use Rattle.domain_store.specs.Stores.{Seen, HasNoVoid}
use Rattle.domain_store.specs.Verdicts.{LiteralHasVerdict}
use Rattle.domain_store.proofs.KeptLemmas.{no_void}
use Rattle.domain_store.proofs.PathLemmas.{literal_is}
use Rattle.domain_store.proofs.store.Store.literal_verdict.Goals as goal

pub returns-then-literal : goal.returns-then-literal
returns-then-literal c =
    let P : Seen → Type 0 = λ s. HasNoVoid s in
    let filled = subst P c.self.view_is (no_void _ _ _ _ _ c.self.invariant c.slot_law.ensures.same) in
    let W : Bool → Type 0 = λ b. LiteralHasVerdict c.args.self.now c.args.literal (wanted b c.atom_verdict-verdict.result) in
    subst W c.if-literal.true (literal_is c.args.self.now c.args.literal c.left_law.ensures.options filled c.atom_verdict-verdict.result c.atom_verdict-verdict.ensures)

pub returns-else-literal : goal.returns-else-literal
returns-else-literal c =
    let P : Seen → Type 0 = λ s. HasNoVoid s in
    let filled = subst P c.self.view_is (no_void _ _ _ _ _ c.self.invariant c.slot_law.ensures.same) in
    let W : Bool → Type 0 = λ b. LiteralHasVerdict c.args.self.now c.args.literal (wanted b c.atom_verdict-verdict.result) in
    let V : Verdict3 → Type 0 = λ v. LiteralHasVerdict c.args.self.now c.args.literal v in
    subst V (sym c.opposite.ensures) (subst W c.if-literal.false (literal_is c.args.self.now c.args.literal c.left_law.ensures.options filled c.atom_verdict-verdict.result c.atom_verdict-verdict.ensures))
