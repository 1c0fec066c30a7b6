use Rattle.std.proofs.Common.{◌≡◌, ℕ, List, length, ◌+◌, ◌++◌, ◌∷◌, [], true, refl, sym, ◌∙◌, ap, subst, arith}
use Rattle.std.proofs.Math.ListN.{set}
use Rattle.contradiction_checker.specs.declared.options.Assumed.{Assumed}
use Rattle.contradiction_checker.specs.Assumed.{assumed_on}
use Rattle.contradiction_checker.specs.Chains.{AreLinked, numbers_of}
use Rattle.contradiction_checker.proofs.Linked.{pushed_linked}
use Rattle.contradiction_checker.proofs.Passing.{passes_by, pushed_same}
use Rattle.contradiction_checker.proofs.trail.Trail.push.Goals as goal

pub returns-clause-passes : goal.returns-clause-passes
returns-clause-passes c =
    let s = c.args.self.now in
    let atoms = c.args.atoms.now in
    passes_by atoms s c.args.atom (omega arith) refl
    (c.set_at-2.ensures.items ∙ ap (λ (k : ℕ). set s.changed.items k s.time) c.chain_at-chain.ensures)
    (λ slot other. ap (assumed_on atoms slot) c.keep.ensures.items ∙ pushed_same c.slot_law.ensures.same atoms s.last_chain slot s.assumed.items c.args.atom true other)

pub returns-clause-linked : goal.returns-clause-linked
returns-clause-linked c =
    let s = c.args.self.now in
    let atoms = c.args.atoms.now in
    let b = c.end-before.result in
    let P : List Assumed → Type 0 = λ x. AreLinked atoms s.last_chain (numbers_of x) c.keep-2.new.kept.items c.set_at.new.list.items in
    let Q : List ℕ → Type 0 = λ x. AreLinked atoms s.last_chain (numbers_of (s.assumed.items ++ record { atom = c.args.atom; truth = true } ∷ [])) x c.set_at.new.list.items in
    let R : List ℕ → Type 0 = λ x. AreLinked atoms s.last_chain (numbers_of (s.assumed.items ++ record { atom = c.args.atom; truth = true } ∷ [])) (s.before.items ++ b ∷ []) x in
    let next : c.len.result ≡ length s.assumed.items + 1 = omega (arith, c.len.ensures, c.keep.ensures.len, s.assumed.ok.0) in
    let pushed = pushed_linked atoms s.last_chain s.assumed.items s.before.items s.heads.items c.args.atom b c.chain_at-chain.result c.len.result true c.chain_at-chain.ensures next (c.end-before.ensures.ends atoms c.requires.linked) c.requires.linked in
    subst P (sym c.keep.ensures.items) (subst Q (sym c.keep-2.ensures.items) (subst R (sym c.set_at.ensures.items) pushed))
