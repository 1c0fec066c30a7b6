use Rattle.std.proofs.Common.{◌∙◌, ap, Ok, sym}
use Rattle.key_table.proofs.TextLemmas.{text_of-utf8, text_of-other}
use Rattle.key_table.proofs.text.Text.from_bytes.Goals as goal

pub returns-in_ok-from_str-in-Ok : goal.returns-in_ok-from_str-in-Ok
returns-in_ok-from_str-in-Ok c = text_of-utf8 _ c.in-Ok.ensures.cases.1 ∙ ap (λ x. Ok x) (sym (c.in_ok-from_str-in-Ok.ensures.ok ∙ c.in-Ok.ensures.cases.0))

pub returns-in-Err : goal.returns-in-Err
returns-in-Err c = text_of-other _ c.in-Err.ensures.cases.0
