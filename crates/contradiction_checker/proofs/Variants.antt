-- Variants below a count.
use Rattle.std.proofs.Common.{◌≡◌, ℕ, zero, suc, ◌<◌, true, Some, subst, arith, ⊎_elim}
use Rattle.std.proofs.lemmas.Bool.{or_left, or_right, or_cases, cases_eq}
use Rattle.key_table.specs.declared.slot.Datum.TheVariants as datum
use Rattle.key_table.specs.Contexts.{Context}
use Rattle.contradiction_checker.specs.Tries.{meets_all, some_variant}

pub some_variant_at : (count v : ℕ) (es : Context) → v < count → meets_all es (Some (datum.Variant v)) ≡ true → some_variant count es ≡ true
some_variant_at zero v es below met = absurd (omega arith)
some_variant_at (suc n) v es below met =
    ⊎_elim
    (λ (e : v ≡ n). or_left (meets_all es (Some (datum.Variant n))) (some_variant n es) (subst (λ (k : ℕ). meets_all es (Some (datum.Variant k)) ≡ true) e met))
    (λ (ne : v ≡ n → ⊥). or_right (meets_all es (Some (datum.Variant n))) (some_variant n es) (some_variant_at n v es (omega arith) met))
    (cases_eq v n)

-- where one of so many variants meets all, there is such a variant
pub some_variant_is : (count : ℕ) (es : Context) → some_variant count es ≡ true → (v : ℕ) × (v < count) × (meets_all es (Some (datum.Variant v)) ≡ true)
some_variant_is zero es some = cc
some_variant_is (suc n) es some =
    ⊎_elim
    (λ (met : meets_all es (Some (datum.Variant n)) ≡ true). (n, omega arith, met))
    (λ (later : some_variant n es ≡ true). let h = some_variant_is n es later in (h.0, omega (arith, h.1), h.2))
    (or_cases (meets_all es (Some (datum.Variant n))) (some_variant n es) some)
