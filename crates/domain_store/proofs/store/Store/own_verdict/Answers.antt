use Rattle.std.proofs.Common.{◌≡◌, ◌<◌, length, Some, refl, sym, ◌∙◌, subst}
use Rattle.std.proofs.lemmas.Option.{same_Some}
use Rattle.key_table.specs.declared.atom.Atom.{Atom}
use Rattle.key_table.specs.Contexts.{HasVerdict}
use Rattle.domain_store.specs.Kept.{atom_at}
use Rattle.domain_store.specs.Stores.{Seen, context_of}
use Rattle.domain_store.proofs.KeptLemmas.{node_place_is, slot_is, domain_is, verdict_is}
use Rattle.domain_store.proofs.NodeLemmas.{atom_of_node}
use Rattle.domain_store.proofs.store.Store.own_verdict.Goals as goal

pub verdict-requires-clause-fits : goal.verdict-requires-clause-fits
verdict-requires-clause-fits c =
    let problem = c.self.inside.problem.now in
    c.fits_law.ensures.atoms c.self.inside.table.now problem c.self.invariant.fits c.in-Some.atom.now
    (c.fits_law.ensures.graph c.self.inside.table.now problem c.self.invariant.fits c.in-Some.atom.now (atom_of_node problem.graph c.args.node c.in-Some.atom.now c.in-Some.ensures))

pub verdict-requires-clause-own : goal.verdict-requires-clause-own
verdict-requires-clause-own c =
    let atom = c.in-Some.atom.now in
    let W : Seen → Type 0 = λ s. c.args.node < length s.problem.graph in
    let at = node_place_is _ c.self.inside.domains.items _ _ _ c.self.invariant c.args.node _ atom (subst W (sym c.self.view_is) c.requires) c.in-Some.ensures c.index.ensures in
    sym (slot_is _ c.self.inside.domains.items _ _ _ c.self.invariant _ atom.slot at c.index-domain.result.now c.index-domain.ensures)

pub verdict-requires-clause-filled : goal.verdict-requires-clause-filled
verdict-requires-clause-filled c =
    let atom = c.in-Some.atom.now in
    let W : Seen → Type 0 = λ s. c.args.node < length s.problem.graph in
    let at = node_place_is _ c.self.inside.domains.items _ _ _ c.self.invariant c.args.node _ atom (subst W (sym c.self.view_is) c.requires) c.in-Some.ensures c.index.ensures in
    (domain_is _ c.self.inside.domains.items _ _ _ c.self.invariant _ atom.slot at c.index-domain.result.now c.index-domain.ensures).filled

pub returns-in-Some : goal.returns-in-Some
returns-in-Some c =
    let atom = c.in-Some.atom.now in
    let W : Seen → Type 0 = λ s. c.args.node < length s.problem.graph in
    let at = node_place_is _ c.self.inside.domains.items _ _ _ c.self.invariant c.args.node _ atom (subst W (sym c.self.view_is) c.requires) c.in-Some.ensures c.index.ensures in
    let v = c.verdict.result in
    let R : Seen → Type 0 = λ s. (a : Atom) → atom_at s.problem.graph c.args.node ≡ Some (Some a) → HasVerdict s.table (context_of s) a v in
    let seen : Seen = record { table = c.self.inside.table.now; problem = c.self.inside.problem.now; assumptions = c.self.inside.assumed.items } in
    let Q : Atom → Type 0 = λ a. HasVerdict seen.table (context_of seen) a v in
    subst R c.self.view_is (λ a there.
    subst Q (same_Some _ _ (same_Some _ _ (sym c.in-Some.ensures ∙ there)))
    (verdict_is seen c.self.inside.domains.items _ _ _ c.self.invariant _ atom.slot at c.index-domain.result.now c.index-domain.ensures c.left_law.ensures.verdict atom refl v c.verdict.ensures))
