use Rattle.std.proofs.Common.{◌+◌, ◌-◌, ◌/◌, ◌∙◌, sym, arith}
use Rattle.std.specs.Option.{option_copied}
use Rattle.key_table.specs.Slots.{at}
use Rattle.key_table.proofs.Cuts.{after_run, before_run}
use Rattle.key_table.proofs.payment.run_of.Goals as goal

-- the run begins after the slot, so the slot goes before it
pub loop-first-preserved-in-Less : goal.loop-first-preserved-in-Less
loop-first-preserved-in-Less c =
    let middle = c.loop-first.first + (c.loop-first.end - c.loop-first.first) / 2 in
    let slot = at c.args.key (option_copied c.args.sub) in
    record {
      order = omega arith;
      within = omega arith;
      before = c.loop-first.invariant.before;
      after = after_run c.args.runs.now c.requires.are_runs middle c.index-runs-middle.result c.index-entry.result.now (omega arith) c.index-runs-middle.is c.index-entry.ensures slot (sym c.in-Less.ensures);
    }

-- the run begins with no later slot, so the slot goes to it or to a later one
pub loop-first-preserved : goal.loop-first-preserved
loop-first-preserved c =
    let middle = c.loop-first.first + (c.loop-first.end - c.loop-first.first) / 2 in
    let slot = at c.args.key (option_copied c.args.sub) in
    record {
      order = omega arith;
      within = omega arith;
      before = before_run c.args.runs.now c.requires.are_runs middle c.index-runs-middle.result c.index-entry.result.now (omega arith) c.index-runs-middle.is c.index-entry.ensures slot (λ less. c.in_default.not-Less (c.order.ensures ∙ less));
      after = c.loop-first.invariant.after;
    }
