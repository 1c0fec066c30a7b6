use Rattle.std.proofs.Common.{◌∙◌, length, sym, ap}
use Rattle.key_table.proofs.Cuts.{same_parts, runs_copied}
use Rattle.key_table.proofs.payment.Payment.copy.Goals as goal

pub invariant_of-result : goal.invariant_of-result
invariant_of-result c =
    let copy = c.in_ok-copy_of.field-0.items in
    let runs = c.self.inside.runs.items in
    (runs_copied copy runs c.in_ok-copy_of.ensures c.self.invariant.0, c.self.invariant.1 ∙ ap length (sym (same_parts copy runs c.in_ok-copy_of.ensures)))

pub returns : goal.returns
returns c = same_parts c.in_ok-copy_of.field-0.items c.self.inside.runs.items c.in_ok-copy_of.ensures ∙ c.self.view_is
