use Rattle.std.proofs.Common.{◌≡◌, ℕ, List, length, ◌+◌, ◌-◌, take, sym, ◌∙◌, ap, refl, subst, arith}
use Rattle.std.proofs.Math.ListN.{set}
use Rattle.contradiction_checker.specs.declared.options.Assumed.{Assumed}
use Rattle.contradiction_checker.specs.Assumed.{assumed_on}
use Rattle.contradiction_checker.specs.Chains.{AreLinked, numbers_of}
use Rattle.contradiction_checker.proofs.Linked.{popped_linked}
use Rattle.contradiction_checker.proofs.Passing.{passes_by, popped_same}
use Rattle.contradiction_checker.proofs.trail.Trail.pop.Goals as goal

pub returns-clause-linked : goal.returns-clause-linked
returns-clause-linked c =
    let s = c.args.self.now in
    let atoms = c.args.atoms.now in
    let n = c.len-last.result - 1 in
    let b = c.index-before.result.now in
    let P : List Assumed → Type 0 = λ x. AreLinked atoms s.last_chain (numbers_of x) c.truncate-2.new.self.items c.set_at.new.list.items in
    let Q : List ℕ → Type 0 = λ x. AreLinked atoms s.last_chain (numbers_of (take n s.assumed.items)) x c.set_at.new.list.items in
    let R : List ℕ → Type 0 = λ x. AreLinked atoms s.last_chain (numbers_of (take n s.assumed.items)) (take n s.before.items) x in
    let heads = c.set_at.ensures.items ∙ ap (λ (k : ℕ). set s.heads.items k b) c.chain_at-chain.ensures in
    let popped = popped_linked atoms s.last_chain s.assumed.items s.before.items s.heads.items n c.index.result.now b b (omega (arith, s.assumed.ok.0, c.len-last.ensures, c.requires.some)) c.index.ensures c.index-before.ensures c.requires.linked in
    subst P (sym c.truncate.ensures.items) (subst Q (sym c.truncate-2.ensures.items) (subst R (sym heads) popped))

pub returns-clause-passes : goal.returns-clause-passes
returns-clause-passes c =
    let s = c.args.self.now in
    let atoms = c.args.atoms.now in
    let n = c.len-last.result - 1 in
    let count : length s.assumed.items ≡ n + 1 = omega (arith, s.assumed.ok.0, c.len-last.ensures, c.requires.some) in
    passes_by atoms s c.index.result.now.atom (omega arith) refl
    (c.set_at-2.ensures.items ∙ ap (λ (k : ℕ). set s.changed.items k s.time) c.chain_at-chain.ensures)
    (λ slot other. ap (assumed_on atoms slot) c.truncate.ensures.items ∙ popped_same c.slot_law.ensures.same atoms s.last_chain slot s.assumed.items n c.index.result.now count c.index.ensures other)
