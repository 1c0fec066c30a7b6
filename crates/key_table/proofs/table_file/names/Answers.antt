use Rattle.std.proofs.Common.{[], map, refl, sym, ap, ◌∙◌, arith}
use Rattle.std.proofs.lemmas.Bool.{and_from, le-leb}
use Rattle.key_table.specs.Names.{are_names}
use Rattle.key_table.proofs.NameLemmas.{are_names-nil}
use Rattle.std.proofs.lemmas.Result.{err_from_is_err_and}
use Rattle.toml.specs.View.{view}
use Rattle.key_table.specs.TableFiles.{in_turn, name_added}
use Rattle.key_table.proofs.TableFileLemmas.{turn_goes_on, turn_stops, turns_end}
use Rattle.key_table.proofs.table_file.names.Goals as goal

pub returns-in_err-add_name-clause-names : goal.returns-in_err-add_name-clause-names
returns-in_err-add_name-clause-names c =
    let p = err_from_is_err_and c.from_residual.result c.from_residual.ensures.1 in
    rw (p.1, p.2) (turn_stops c.in_err-add_name.field-0.0 (name_added c.args.key) c.loop-item.names c.loop-item.item-index c.args.items.now c.item-item.result (in_turn (name_added c.args.key) [] (map view c.args.items.now))
    c.loop-item-test.true c.item-item.is c.in_err-add_name.ensures.name c.loop-item.invariant.rest)

pub loop-item-preserved : goal.loop-item-preserved
loop-item-preserved c = record {
  count = omega (arith, c.in_ok-add_name.ensures.count);
  rest = turn_goes_on (name_added c.args.key) c.loop-item.names c.add_name.new.names c.loop-item.item-index c.args.items.now c.item-item.result (in_turn (name_added c.args.key) [] (map view c.args.items.now))
      c.loop-item-test.true c.item-item.is c.in_ok-add_name.ensures.name c.loop-item.invariant.rest;
  named = sym (ap are_names c.names.view_is) ∙ c.names.invariant.1;
}

pub loop-item-init : goal.loop-item-init
loop-item-init c = record { count = rw (c.new-names.ensures) (omega arith); rest = rw (c.new-names.ensures); named = rw (c.new-names.ensures) are_names-nil }

pub returns-clause-well_made : goal.returns-clause-well_made
returns-clause-well_made c = and_from _ _ (le-leb _ _ (omega (arith, c.loop-item.invariant.count))) c.loop-item.invariant.named

pub returns-clause-names : goal.returns-clause-names
returns-clause-names c = turns_end (name_added c.args.key) c.loop-item.names c.loop-item.item-index c.args.items.now (in_turn (name_added c.args.key) [] (map view c.args.items.now)) c.loop-item-test.false c.loop-item.invariant.rest
