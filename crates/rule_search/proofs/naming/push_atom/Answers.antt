use Rattle.std.proofs.Common.{◌≡◌, [], ◌++◌, None, ap, sym, ◌∙◌, append-nil, slice_get}
use Rattle.std.specs.List.{cons_option}
use Rattle.std.proofs.lemmas.Option.{slice_get_past}
use Rattle.rule_search.proofs.naming.push_atom.Goals as goal

pub returns-in-None : goal.returns-in-None
returns-in-None c =
    let none : slice_get c.args.atoms.now c.args.number ≡ None = slice_get_past c.args.atoms.now c.args.number c.in-None.ensures.lookup.3 in
    sym (ap (λ o. c.args.list.now ++ cons_option o []) none ∙ append-nil c.args.list.now)
