-- What a search answers, of tests and answers that are the same.
use Rattle.std.proofs.Common.{◌≡◌, ℤ, Bool, Option, Some, None, sym, ◌∙◌, subst}
use Rattle.interval_domains.specs.Finding.{Tells, IsReach}

-- reaches of tests that agree
pub reach_same : (p q : ℤ → Bool) (from : ℤ) → ((x : ℤ) → p x ≡ q x) → (r : Option ℤ) → IsReach p from r → IsReach q from r
reach_same p q from same None h = sym (same from) ∙ h
reach_same p q from same (Some reach) h = (h.0, λ x low high. sym (same x) ∙ h.1 x low high)

pub tells_same : {X : Type 0} (p : X → Bool) (b d : Bool) → b ≡ d → Tells p d → Tells p b
tells_same p b d same h = let P : Bool → Type 0 = λ v. Tells p v in subst P (sym same) h
