use Rattle.std.proofs.Common.{◌∙◌, List, Bool, ap, sym}
use Rattle.std.specs.List.{list_any}
use Rattle.key_table.specs.declared.atom.Atom.{Atom}
use Rattle.key_table.specs.Options.{holds_on}
use Rattle.constraint_graph.specs.Logics.{two_valued}
use Rattle.connector_settings.specs.declared.keys.Keys.{Keys}
use Rattle.connector_settings.specs.declared.settings.Connector.{Connector}
use Rattle.connector_settings.specs.Keys.{keys_of}
use Rattle.connector_settings.specs.Takes.{taken_by}
use Rattle.constraint_graph.specs.TwoValues.{some_is_list_any}
use Rattle.connector_settings.proofs.walk.takes.Goals as goal

pub returns : goal.returns
returns c =
    let says : Atom → Bool = λ atom. holds_on atom c.args.payment.now in
    c.some_takes.ensures
    ∙ ap (λ (cs : List Connector). list_any (taken_by two_valued says c.of-keys.result) cs) c.as_slice.ensures
    ∙ ap (λ (k : Keys). list_any (taken_by two_valued says k) c.args.settings.now.connectors) c.of-keys.ensures
    ∙ sym (some_is_list_any (taken_by two_valued says (keys_of c.args.table.now)) c.args.settings.now.connectors)
