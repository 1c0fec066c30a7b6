-- When bytes are JSON.
use Rattle.std.proofs.Common.{◌≡◌, ℕ, List, [], Some, Ok, Err, IsUtf8}
use Rattle.std.proofs.lemmas.Bool.{cond-true, cond-false, false_from_ne_true}
use Rattle.std.proofs.lemmas.Str.{is_utf8-from_IsUtf8, IsUtf8-from_is_utf8}
use Rattle.serde_json.specs.Data.{Data}
use Rattle.serde_json.specs.Read as json
use Rattle.json_shape.specs.Paths.{fault}
use Rattle.key_table.specs.Answers.{or_fault}
use Rattle.json_shape.specs.Shapes.{json_of}

pub json_of-text : (bytes : List ℕ) → IsUtf8 bytes → json_of bytes ≡ or_fault (fault 1 []) (json.read bytes)
json_of-text bytes h = cond-true _ (or_fault (fault 1 []) (json.read bytes)) (Err (fault 1 [])) (is_utf8-from_IsUtf8 bytes h)

pub json_of-other : (bytes : List ℕ) → (IsUtf8 bytes → ⊥) → json_of bytes ≡ Err (fault 1 [])
json_of-other bytes h = cond-false _ (or_fault (fault 1 []) (json.read bytes)) (Err (fault 1 [])) (false_from_ne_true _ (λ e. h (IsUtf8-from_is_utf8 bytes e)))

pub or_fault-read : (bytes text : List ℕ) (d : Data) → text ≡ bytes → json.read text ≡ Some d → or_fault (fault 1 []) (json.read bytes) ≡ Ok d
or_fault-read bytes text d same ok = rw (← same, ok)
