use Rattle.std.proofs.Common.{ℕ, List, ◌≡◌, ◌-◌, ◌++◌, take, reverse, sym, subst, arith}
use Rattle.std.specs.List.{filter}
use Rattle.contradiction_checker.specs.declared.options.Assumed.{Assumed}
use Rattle.contradiction_checker.specs.Assumed.{is_on}
use Rattle.contradiction_checker.specs.Chains.{EndsBy, numbers_of}
use Rattle.contradiction_checker.proofs.Gathered.{gathered, gathered_first}
use Rattle.contradiction_checker.proofs.premises.Premises.gather.Goals as goal

pub loop-end-init : goal.loop-end-init
loop-end-init c =
    let p = c.args.self.now in
    let atoms = p.atoms.now in
    let t = p.trail.now in
    let P : ℕ → Type 0 = λ chain. EndsBy atoms t.last_chain chain (numbers_of t.assumed.items) c.end-end.result in
    let Q : List Assumed → Type 0 = λ l. filter (is_on atoms c.args.slot.now) t.assumed.items ≡ filter (is_on atoms c.args.slot.now) (take c.end-end.result t.assumed.items) ++ reverse l in
    record {
      within = c.end-end.ensures.within;
      value = subst Q (sym c.clear.ensures.items) (gathered_first c.slot_law.ensures.same atoms t.last_chain c.args.slot.now t.assumed.items c.end-end.result c.end-end.ensures.within (subst P c.chain_of-chain.ensures (c.end-end.ensures.ends atoms c.requires.linked)));
      few = omega (arith, c.clear.ensures.len, c.end-end.ensures.within);
      room = omega arith;
    }

pub loop-end-preserved : goal.loop-end-preserved
loop-end-preserved c =
    let p = c.args.self.now in
    let atoms = p.atoms.now in
    let t = p.trail.now in
    let s = t.assumed.items in
    let place = c.loop-end.end - 1 in
    let P : ℕ → Type 0 = λ chain. EndsBy atoms t.last_chain chain (take place (numbers_of s)) c.end_before-end.result in
    record {
      within = omega (arith, c.end_before-end.ensures.within, c.loop-end.invariant.within);
      value = gathered c.slot_law.ensures.same atoms t.last_chain c.args.slot.now s c.loop-end.mine.items c.keep_on.new.mine.items c.loop-end.end place c.end_before-end.result c.index.result.now (omega (arith, c.loop-end-test.true)) (omega (arith, c.loop-end-test.true, c.loop-end.invariant.within)) c.end_before-end.ensures.within c.index.ensures (subst P c.chain_of-chain.ensures c.end_before-end.ensures.ends) c.loop-end.invariant.value c.keep_on.ensures.items;
      few = omega (arith, c.end_before-end.ensures.within, c.loop-end-test.true, c.loop-end.invariant.few, c.keep_on.ensures.len);
      room = omega (arith, c.loop-end.invariant.room, c.keep_on.ensures.room);
    }
