use Rattle.std.proofs.Common.{[], ◌++◌, ap, sym, ◌∙◌, get_or, slice_get}
use Rattle.std.specs.List.{cons_option}
use Rattle.rule_search.proofs.Names.{atoms_more}
use Rattle.rule_search.proofs.naming.atoms_at.Goals as goal

pub loop-number-preserved : goal.loop-number-preserved
loop-number-preserved c =
    c.in_ok-push_atom.ensures ∙ ap (λ l. l ++ cons_option (slice_get c.args.atoms.now (get_or c.as_slice-number-items.result.now c.loop-number.number-index 0)) []) c.loop-number.invariant
    ∙ sym (atoms_more c.args.atoms.now c.as_slice-number-items.result.now c.loop-number.number-index 0 c.loop-number-test.true)
