use Rattle.std.proofs.Common.{ℕ, List, subst}
use Rattle.serde_json.specs.View.{view}
use Rattle.key_table.specs.Answers.{Answers}
use Rattle.json_shape.specs.Fields.{within_field}
use Rattle.json_program.specs.Selections.{selection_of}
use Rattle.json_program.specs.Programs.{given_of}
use Rattle.json_program.proofs.program.given.Goals as goal

pub returns-clause-selection : goal.returns-clause-selection
unfolding given_of
returns-clause-selection c =
    let P : List ℕ → Type 0 = λ name. Answers (λ s. s) c.selection_in.result (within_field name selection_of c.args.path.now (view c.args.node.now)) in
    subst P c.name_in-name.ensures c.selection_in.ensures.selection
