use Rattle.std.proofs.Common.{◌≡◌, ℕ, List, Option, Ok, ap, sym, subst, ◌∙◌, IsUtf8, string_bytes}
use Rattle.std.proofs.lemmas.Bool.{true≢false}
use Rattle.std.proofs.lemmas.Str.{IsUtf8-string_bytes}
use Rattle.key_table.specs.Answers.{or_fault}
use Rattle.certificate_text.specs.Numbered.{utf8}
use Rattle.certificate_text.specs.Views.{unhex}
use Rattle.certificate_text.proofs.Utf8Bytes.{utf8_there, utf8_missing}
use Rattle.certificate_text.proofs.atoms.text.Goals as goal

pub returns-in-Ok : goal.returns-in-Ok
returns-in-Ok c =
    let bytes = string_bytes c.in-Ok.text in
    let same : bytes ≡ unhex c.args.digits.now = ap (λ v. v.items) c.in-Ok.ensures.ok ∙ c.in_ok-bytes.ensures in
    ap (λ (x : List ℕ). or_fault {E = ℕ} 2 (utf8 x)) (sym same) ∙ ap (λ (o : Option (List ℕ)). or_fault {E = ℕ} 2 o) (utf8_there bytes (IsUtf8-string_bytes c.in-Ok.text)) ∙ ap (λ (t : List ℕ). Ok t) (sym c.from.ensures)

pub returns : goal.returns
returns c =
    let Text : List ℕ → Type 0 = λ t. IsUtf8 t in
    ap (λ (o : Option (List ℕ)). or_fault {E = ℕ} 2 o) (utf8_missing (unhex c.args.digits.now) (λ text. true≢false (sym (c.in-Err.ensures.succeeds (subst Text (sym c.in_ok-bytes.ensures) text)))))
