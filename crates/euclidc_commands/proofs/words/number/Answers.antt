use Rattle.std.proofs.Common.{ap, ◌∙◌, arith}
use Rattle.std.specs.Bool.{then_some}
use Rattle.euclidc_commands.proofs.Numbers.{number-found, number-none}
use Rattle.euclidc_commands.proofs.words.number.Goals as goal

pub returns-in-Ok : goal.returns-in-Ok
returns-in-Ok c = c.then_some.ensures ∙ ap (λ b. then_some b c.in-Ok.number) c.is_plain.ensures ∙ number-found c.args.most c.args.word.now c.in-Ok.number (omega arith) c.in-Ok.ensures.value.0

pub returns-in-Err : goal.returns-in-Err
returns-in-Err c = number-none c.args.most c.args.word.now (omega arith) c.in-Err.ensures.value.0
