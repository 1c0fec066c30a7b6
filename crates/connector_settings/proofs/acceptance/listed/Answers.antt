use Rattle.std.proofs.Common.{◌≡◌, length, map, true}
use Rattle.serde_json.specs.View.{view}
use Rattle.connector_settings.specs.Acceptances.{may_list}
use Rattle.connector_settings.proofs.Listed.{listed_fits}
use Rattle.connector_settings.proofs.acceptance.listed.Goals as goal

pub returns-clause-fit : goal.returns-clause-fit
returns-clause-fit c =
    let nodes = c.in_ok-nodes.nodes.now in
    let may : may_list c.args.table.now c.args.key (map view nodes) ≡ true = cc in
    listed_fits c.args.table.now c.args.key c.args.path.now (map view nodes) (length nodes) c.each.result may c.in_ok-nodes.ensures.within c.each.ensures.items c.each.ensures.fit c.each.ensures.few
