use Rattle.std.proofs.Common.{◌∙◌, sym}
use Rattle.key_table.proofs.Found.{keys-found, unnamed}
use Rattle.std.specs.Map.{keys_of}
use Rattle.key_table.proofs.table.KeyTable.find.Goals as goal

pub returns-in-Some-clause-number : goal.returns-in-Some-clause-number
returns-in-Some-clause-number c = c.in-Some.ensures.index ∙ keys-found c.in-Ok.name.now c.self.inside.keys.entries ∙ rw (c.in-Ok.ensures.cases.0, c.self.view_is)

pub returns-in-None-clause-number : goal.returns-in-None-clause-number
returns-in-None-clause-number c = c.in-None.ensures.index ∙ keys-found c.in-Ok.name.now c.self.inside.keys.entries ∙ rw (c.in-Ok.ensures.cases.0, c.self.view_is)

pub returns-in_default-clause-number : goal.returns-in_default-clause-number
returns-in_default-clause-number c = sym (unnamed c.args.name.now (keys_of c.self.inside.keys.entries) c.in_default.ensures.cases.0) ∙ keys-found c.args.name.now c.self.inside.keys.entries ∙ rw (c.self.view_is)
