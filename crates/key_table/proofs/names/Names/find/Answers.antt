use Rattle.std.proofs.Common.{◌∙◌, sym}
use Rattle.key_table.proofs.Found.{names-found, unnamed}
use Rattle.key_table.proofs.names.Names.find.Goals as goal

pub returns-in-Some-clause-place : goal.returns-in-Some-clause-place
returns-in-Some-clause-place c = c.in-Some.ensures.index ∙ names-found c.in-Ok.name.now c.self.inside.names.keys ∙ rw (c.in-Ok.ensures.cases.0, c.self.view_is)

pub returns-in-None-clause-place : goal.returns-in-None-clause-place
returns-in-None-clause-place c = c.in-None.ensures.index ∙ names-found c.in-Ok.name.now c.self.inside.names.keys ∙ rw (c.in-Ok.ensures.cases.0, c.self.view_is)

pub returns-in_default-clause-place : goal.returns-in_default-clause-place
returns-in_default-clause-place c = sym (unnamed c.args.name.now c.self.inside.names.keys c.in_default.ensures.cases.0) ∙ names-found c.args.name.now c.self.inside.names.keys ∙ rw (c.self.view_is)
