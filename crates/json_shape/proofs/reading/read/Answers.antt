use Rattle.std.proofs.Common.{◌∙◌}
use Rattle.key_table.specs.Answers.{fails_with}
use Rattle.json_shape.proofs.Values.{json_of-text, json_of-other, or_fault-read}
use Rattle.json_shape.proofs.reading.read.Goals as goal

pub returns-in_default : goal.returns-in_default
returns-in_default c = fails_with _ _ _ c.not_json.ensures (json_of-other _ c.in_default.ensures.cases.0)

pub returns-in-Ok-from_str : goal.returns-in-Ok-from_str
returns-in-Ok-from_str c = json_of-text _ c.in-Ok.ensures.cases.1 ∙ or_fault-read c.args.bytes.now c.in-Ok.text.now _ c.in-Ok.ensures.cases.0 c.in-Ok-from_str.ensures.ok
