use Rattle.std.proofs.Common.{◌∙◌, ap}
use Rattle.key_table.specs.Names.{is_among}
use Rattle.key_table.specs.Tables.{names_in}
use Rattle.key_table.proofs.Found.{keys-had}
use Rattle.key_table.proofs.table.KeyTable.has.Goals as goal

pub returns : goal.returns
returns c = c.contains_key.ensures ∙ keys-had c.args.name.now c.self.inside.keys.entries ∙ ap (λ t. is_among c.args.name.now (names_in t)) c.self.view_is
