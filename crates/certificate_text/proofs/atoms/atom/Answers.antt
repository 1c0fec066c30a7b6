use Rattle.std.proofs.Common.{sym, ap, ◌∙◌, subst, Err, ℕ}
use Rattle.key_table.specs.declared.stop.Stop.{Stop}
use Rattle.key_table.specs.Answers.{Fails}
use Rattle.certificate_text.specs.Forms.{fields_of}
use Rattle.certificate_text.specs.Views.{head_view, numbered_in}
use Rattle.certificate_text.proofs.AtomLaws.{unknown}
use Rattle.certificate_text.proofs.atoms.atom.Goals as goal

pub returns-in-Err-Fault : goal.returns-in-Err-Fault
returns-in-Err-Fault c =
    let head = head_view c.in-Some.head in
    let fields = fields_of c.in-Some.tests.rest in
    let P : Stop ℕ → Type 0 = λ s. Fails s (numbered_in c.args.table.now head fields) in
    unknown c.args.table.now c.args.line.now head fields _ c.in-Some.ensures.parts (subst P c.in-Err-Fault.field-0-is c.in-Err-Fault.ensures) ∙ ap (λ (code : ℕ). Err code) (sym c.fault.ensures)
