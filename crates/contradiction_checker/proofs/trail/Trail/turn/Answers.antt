use Rattle.std.proofs.Common.{◌≡◌, ℕ, List, length, [], ◌+◌, ◌∷◌, ◌++◌, ◌-◌, take, vec_len, append_assoc, refl, sym, ◌∙◌, ap, arith}
use Rattle.std.proofs.Math.ListN.{set}
use Rattle.std.proofs.lemmas.Bool.{eqb-false}
use Rattle.contradiction_checker.specs.declared.options.Assumed.{Assumed}
use Rattle.contradiction_checker.proofs.LastOnes.{last_apart, turned}
use Rattle.contradiction_checker.proofs.Linked.{turned_linked}
use Rattle.contradiction_checker.proofs.Passing.{passes_by, passes_more, turned_same}
use Rattle.contradiction_checker.proofs.Rooms.{widens_more}
use Rattle.contradiction_checker.proofs.trail.Trail.turn.Goals as goal

pub returns-then-index-clause-turned : goal.returns-then-index-clause-turned
returns-then-index-clause-turned c =
    let s = c.loop-self.self.assumed.items in
    let back = c.loop-self.invariant in
    let not_empty = eqb-false (vec_len c.loop-self.self.assumed) 0 (sym c.is_empty.ensures ∙ c.loop-self-test.true) in
    turned c.args.self.now.assumed.items s back.back (c.len-last.result - 1) c.index.result.now c.index_mut.result.now c.make_false.new.assumed c.make_false.ensures back.was back.done (omega (arith, c.loop-self.self.assumed.ok.0, not_empty)) c.index.ensures c.index_mut.ensures.value c.if-index.true

pub returns-then-index-clause-linked : goal.returns-then-index-clause-linked
returns-then-index-clause-linked c =
    let s = c.loop-self.self in
    turned_linked c.args.atoms.now s.last_chain s.assumed.items s.before.items s.heads.items (c.len-last.result - 1) c.index_mut.result.now c.make_false.new.assumed c.make_false.ensures c.index_mut.ensures.value c.loop-self.invariant.linked

pub returns-then-index-clause-passes : goal.returns-then-index-clause-passes
returns-then-index-clause-passes c =
    let s = c.loop-self.self in
    let atoms = c.args.atoms.now in
    let a = c.index-then-index.result.now in
    let n = c.len-last.result - 1 in
    let not_empty = eqb-false (vec_len s.assumed) 0 (sym c.is_empty.ensures ∙ c.loop-self-test.true) in
    let count : length s.assumed.items ≡ n + 1 = omega (arith, s.assumed.ok.0, c.len-last.ensures, not_empty) in
    passes_more atoms c.args.self.now s c.loop-self.invariant.passes
    (passes_by atoms s a.atom (omega arith) refl
    (c.set_at.ensures.items ∙ ap (λ (k : ℕ). set s.changed.items k s.time) c.chain_at-chain.ensures)
    (λ slot other. turned_same c.slot_law.ensures.same atoms s.last_chain slot s.assumed.items n a c.index_mut.result.now c.make_false.new.assumed count c.index-then-index.ensures c.index_mut.ensures.value c.make_false.ensures other))

pub loop-self-preserved : goal.loop-self-preserved
loop-self-preserved c =
    let s = c.loop-self.self in
    let a = c.index.result.now in
    let back = c.loop-self.invariant.back in
    let n = c.len-last.result - 1 in
    let not_empty = eqb-false (vec_len s.assumed) 0 (sym c.is_empty.ensures ∙ c.loop-self-test.true) in
    let count : length s.assumed.items ≡ n + 1 = omega (arith, s.assumed.ok.0, c.len-last.ensures, not_empty) in
    let apart = last_apart s.assumed.items n a count ∙ ap (λ (e : Assumed). take n s.assumed.items ++ e ∷ []) (sym c.index.ensures) in
    let popped = ap (λ (k : ℕ). take (k - 1) s.assumed.items) c.len-last.ensures ∙ sym c.pop.ensures.items in
    record {
      back = a ∷ back;
      was = c.loop-self.invariant.was ∙ ap (λ (l : List Assumed). l ++ back) apart ∙ append_assoc (take n s.assumed.items) (a ∷ []) back ∙ ap (λ (l : List Assumed). l ++ a ∷ back) popped;
      done = (c.if-index.false, c.loop-self.invariant.done);
      time = c.pop.ensures.time ∙ c.loop-self.invariant.time;
      passes = passes_more c.args.atoms.now c.args.self.now s c.loop-self.invariant.passes c.pop.ensures.passes;
      few = omega (arith, c.pop.ensures.len, c.loop-self.invariant.few);
      linked = c.pop.ensures.linked;
      room = widens_more c.args.self.now s c.pop.new.self c.loop-self.invariant.room c.pop.ensures.room;
    }
