use Rattle.std.proofs.Common.{◌≡◌, ◌≤◌, ◌∙◌, ℕ, List, Some, IsUtf8, ap, subst, sym}
use Rattle.std.proofs.lemmas.Str.{IsUtf8-string_bytes}
use Rattle.serde_json.specs.Data.{Data, depth}
use Rattle.serde_json.specs.Read as json
use Rattle.serde_json.specs.Written.{has_float, compact_text}
use Rattle.json_program.specs.Written.{program_data}
use Rattle.json_program.proofs.NoFloat.{program_whole}
use Rattle.json_program.proofs.Depths.{program_depth}
use Rattle.json_program.proofs.ProgramLimits.{parts_within, room_within}
use Rattle.json_program.proofs.ProgramReadsBack.{text_reads_back}
use Rattle.json_program.proofs.write.write_json.Goals as goal

pub returns-clause-text : goal.returns-clause-text
returns-clause-text c =
    let whole = ap has_float c.in_ok-value.ensures ∙ program_whole c.args.program.now in
    c.from.ensures ∙ c.in_ok-to_string.ensures.text whole ∙ ap compact_text c.in_ok-value.ensures

pub returns-clause-reads_back : goal.returns-clause-reads_back
returns-clause-reads_back c limits =
    let fits = parts_within c.args.program.now limits in
    let Deep : Data → Type 0 = λ d. depth d ≤ json.max_depth in
    let read = c.in_ok-to_string.ensures.reads_back (subst Deep (sym c.in_ok-value.ensures) (program_depth c.args.program.now fits)) in
    let Reads : List ℕ → Type 0 = λ t. json.read t ≡ Some (program_data c.args.program.now) in
    let here : Reads c.from.result = subst Reads (sym c.from.ensures) (read ∙ ap (λ (d : Data). Some d) c.in_ok-value.ensures) in
    let utf8 : IsUtf8 c.from.result = subst IsUtf8 (sym c.from.ensures) (IsUtf8-string_bytes c.in_ok-to_string.field-0) in
    text_reads_back c.args.program.now c.from.result fits (room_within c.args.program.now limits) utf8 here
