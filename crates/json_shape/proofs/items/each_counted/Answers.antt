use Rattle.std.proofs.Common.{map, arith, length-append}
use Rattle.std.proofs.lemmas.List.Folds.{list_all-append}
use Rattle.std.proofs.lemmas.Result.{err_from_is_err_and}
use Rattle.serde_json.specs.View.{view}
use Rattle.json_shape.specs.Counted.{each}
use Rattle.json_shape.proofs.InTurnCounted.{goes_on, stops, ends}
use Rattle.json_shape.proofs.items.each_counted.Goals as goal

pub returns-in_err-read-clause-items : goal.returns-in_err-read-clause-items
returns-in_err-read-clause-items g c =
    let reads = g.R.CountingReader.reads c.args.reader.now in
    let p = err_from_is_err_and c.from_residual-in_err-read.result c.from_residual-in_err-read.ensures.1 in
    rw (p.1, p.2) (stops c.in_err-read.field-0.0 reads c.args.path.now c.loop-i.i c.args.nodes.now c.index-nodes-i.result c.loop-i.items c.in_ok-at.at c.loop-i.counts (each reads c.args.path.now 0 (map view c.args.nodes.now) c.args.counts.now)
    c.loop-i-test.true c.index-nodes-i.is c.in_ok-at.ensures c.in_err-read.ensures.item c.loop-i.invariant.items)

pub loop-i-preserved : goal.loop-i-preserved
loop-i-preserved g c =
    let reads = g.R.CountingReader.reads c.args.reader.now in
    record {
      items = rw (c.in_ok-push.ensures.ok) (goes_on reads c.args.path.now c.loop-i.i c.args.nodes.now c.index-nodes-i.result c.loop-i.items c.in_ok-read.field-0 c.in_ok-at.at c.loop-i.counts c.read.new.counts (each reads c.args.path.now 0 (map view c.args.nodes.now) c.args.counts.now)
          c.loop-i-test.true c.index-nodes-i.is c.in_ok-at.ensures c.in_ok-read.ensures.item c.loop-i.invariant.items);
      fit = rw (c.in_ok-push.ensures.ok, list_all-append, c.loop-i.invariant.fit, c.in_ok-read.ensures.fits);
      few = rw (c.in_ok-push.ensures.ok, length-append) (omega arith);
    }

pub returns-clause-items : goal.returns-clause-items
returns-clause-items g c =
    let reads = g.R.CountingReader.reads c.args.reader.now in
    ends reads c.args.path.now c.loop-i.i c.args.nodes.now c.loop-i.items c.loop-i.counts (each reads c.args.path.now 0 (map view c.args.nodes.now) c.args.counts.now) c.loop-i-test.false c.loop-i.invariant.items
