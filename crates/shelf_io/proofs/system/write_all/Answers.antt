use Rattle.std.proofs.Common.{◌-◌, length, drop, arith, rules, take_all, length-drop}
use Rattle.shelf_io.proofs.Known.{Appends-take-add}
use Rattle.shelf_io.proofs.system.write_all.Goals as goal

pub loop-count-preserved : goal.loop-count-preserved
loop-count-preserved g c =
    let wrote = c.in-Ok.ensures in
    let rest = drop c.loop-count.count c.args.bytes.now in
    let all = take_all (length c.args.bytes.now - c.loop-count.count) rest (omega (arith, length-drop c.loop-count.count c.args.bytes.now)) in
    record {
      within = search rules;
      out = Appends-take-add _ _ _ _ _ _ c.loop-count.invariant.out (rw all at wrote.bytes);
    }
