use Rattle.std.proofs.Common.{◌∙◌, List, ap}
use Rattle.key_table.specs.Payments.{Entries, is_legal}
use Rattle.key_table.specs.Places.{Run, are_legal}
use Rattle.key_table.proofs.Cuts.{are_legal_is}
use Rattle.key_table.proofs.payment.Payment.legal.Goals as goal

-- the runs' entries fit as the runs do
pub returns : goal.returns
returns c =
    let table = c.args.table.now in
    c.are_legal.ensures
    ∙ ap (λ (runs : List Run). are_legal table runs) c.deref.ensures.value
    ∙ are_legal_is table c.self.inside.runs.items
    ∙ ap (λ (es : Entries). is_legal table es) c.self.view_is
