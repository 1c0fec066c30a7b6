use Rattle.std.proofs.Common.{◌∙◌, ap}
use Rattle.serde_json.specs.Written.{has_float, compact_text}
use Rattle.json_program.proofs.NoFloat.{selection_whole}
use Rattle.json_program.proofs.write.write_selection.Goals as goal

pub returns : goal.returns
returns c =
    let whole = ap has_float c.in_ok-value.ensures ∙ selection_whole c.args.selection.now in
    c.from.ensures ∙ c.in_ok-to_string.ensures.text whole ∙ ap compact_text c.in_ok-value.ensures
