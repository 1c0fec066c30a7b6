-- When bytes are a text.
use Rattle.std.proofs.Common.{◌≡◌, ℕ, List, Ok, Err, IsUtf8, ap}
use Rattle.std.proofs.lemmas.Bool.{cond-true, cond-false, false_from_ne_true}
use Rattle.std.proofs.lemmas.Str.{is_utf8-from_IsUtf8, IsUtf8-from_is_utf8}
use Rattle.key_table.specs.Texts.{text_of, not_utf8}

pub text_of-utf8 : (bs : List ℕ) → IsUtf8 bs → text_of bs ≡ Ok bs
text_of-utf8 bs h = cond-true _ _ _ (is_utf8-from_IsUtf8 bs h)

pub text_of-other : (bs : List ℕ) → (IsUtf8 bs → ⊥) → text_of bs ≡ Err not_utf8
text_of-other bs h = cond-false _ _ _ (false_from_ne_true _ (λ e. h (IsUtf8-from_is_utf8 bs e)))
