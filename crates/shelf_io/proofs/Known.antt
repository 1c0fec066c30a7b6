-- What a reader has given, and what a writer holds, where those bytes are known.
use Rattle.std.proofs.Common.{◌≡◌, ℕ, ◌+◌, List, ◌++◌, take, drop, Option, None, Some, ap, sym, ◌∙◌, append_assoc}
use Rattle.std.proofs.Math.Seq.{take-add}
use Rattle.std.specs.Io.KnownBytes.{Appends, Consumes}

-- One more read gives what stands after the bytes of the earlier ones.
pub Consumes-take-add : (start before after : Option (List ℕ)) (old new : List ℕ) (count more : ℕ)
    → take count new ≡ take count old → Consumes start before (take count old) → Consumes before after (take more (drop count new))
    → Consumes start after (take (count + more) new)
Consumes-take-add None before after old new count more kept first second = tt
Consumes-take-add (Some xs) None after old new count more kept first second = absurd first
Consumes-take-add (Some xs) (Some ys) None old new count more kept first second = absurd second
Consumes-take-add (Some xs) (Some ys) (Some zs) old new count more kept first second =
    first ∙ ap (λ l. take count old ++ l) second ∙ ap (λ l. l ++ (take more (drop count new) ++ zs)) (sym kept)
    ∙ sym (append_assoc (take count new) (take more (drop count new)) zs) ∙ ap (λ l. l ++ zs) (sym (take-add count more new))

-- One more write appends what stands after the bytes of the earlier ones.
pub Appends-take-add : (start before after : Option (List ℕ)) (bytes : List ℕ) (count more : ℕ)
    → Appends start before (take count bytes) → Appends before after (take more (drop count bytes))
    → Appends start after (take (count + more) bytes)
Appends-take-add None before after bytes count more first second = tt
Appends-take-add (Some xs) None after bytes count more first second = absurd first
Appends-take-add (Some xs) (Some ys) None bytes count more first second = absurd second
Appends-take-add (Some xs) (Some ys) (Some zs) bytes count more first second =
    second ∙ ap (λ l. l ++ take more (drop count bytes)) first
    ∙ append_assoc xs (take count bytes) (take more (drop count bytes)) ∙ ap (λ l. xs ++ l) (sym (take-add count more bytes))
