use Rattle.std.proofs.Common.{◌≡◌, ◌≤◌, ◌∙◌, List, ℕ, Some, IsUtf8, ap, subst, sym}
use Rattle.std.proofs.lemmas.Str.{IsUtf8-string_bytes}
use Rattle.serde_json.specs.Data.{Data, depth}
use Rattle.serde_json.specs.Read as json
use Rattle.serde_json.specs.Written.{has_float, compact_text}
use Rattle.payment_reader.specs.Written.{payment_data}
use Rattle.payment_reader.proofs.ReadsBack.{text_reads_back, depth_payment}
use Rattle.payment_reader.proofs.WrittenLemmas.{has_float-payment}
use Rattle.payment_reader.proofs.write.write_payment.Goals as goal

pub returns-clause-text : goal.returns-clause-text
returns-clause-text c =
    c.from.ensures ∙ c.in_ok-to_string.ensures.text (ap has_float c.in_ok-value.ensures.value ∙ has_float-payment c.args.table.now c.args.payment.now) ∙ ap compact_text c.in_ok-value.ensures.value

pub returns-clause-reads_back : goal.returns-clause-reads_back
returns-clause-reads_back c =
    let Deep : Data → Type 0 = λ d. depth d ≤ json.max_depth in
    let read = c.in_ok-to_string.ensures.reads_back (subst Deep (sym c.in_ok-value.ensures.value) (depth_payment c.args.table.now c.args.payment.now)) in
    let Reads : List ℕ → Type 0 = λ t. json.read t ≡ Some (payment_data c.args.table.now c.args.payment.now) in
    let Text : List ℕ → Type 0 = λ t. IsUtf8 t in
    let here : Reads c.from.result = subst Reads (sym c.from.ensures) (read ∙ ap (λ (d : Data). Some d) c.in_ok-value.ensures.value) in
    text_reads_back c.args.table.now c.args.payment.now c.from.result c.in_ok-value.ensures.well_made c.requires (subst Text (sym c.from.ensures) (IsUtf8-string_bytes c.in_ok-to_string.field-0)) here
