-- The comparisons of which samples are made.
use Rattle.std.specs.Prelude.{ℕ, pos, List, [], ◌∷◌, codes}
use Rattle.key_table.specs.declared.atom.Op.{Op}
use Rattle.key_table.specs.declared.atom.Op.TheVariants.{Equal, NotEqual, Less, Greater}
use Rattle.euclid_ast.specs.declared.statement.ValueForm.{ValueForm}
use Rattle.euclid_ast.specs.declared.statement.ValueForm.TheVariants.{Number, Variant, Variants}
use Rattle.euclid_ast.specs.declared.statement.Comparison.{Comparison}

abbrev pub comparison : List ℕ → Op → ValueForm → Comparison
comparison lhs op value = record { lhs = lhs; op = op; value = value }

-- Each comparison stands at the number of its draw.
unfoldable pub comparisons : List Comparison
comparisons =
    comparison (codes "payment_method") Equal (Variant (codes "card"))
    ∷ comparison (codes "currency") Equal (Variant (codes "USD"))
    ∷ comparison (codes "currency") NotEqual (Variant (codes "EUR"))
    ∷ comparison (codes "amount") Greater (Number (pos 10000))
    ∷ comparison (codes "amount") Less (Number (pos 50000))
    ∷ comparison (codes "card_network") Equal (Variants (codes "Visa" ∷ codes "Mastercard" ∷ []))
    ∷ comparison (codes "billing_country") Equal (Variant (codes "US"))
    ∷ comparison (codes "capture_method") Equal (Variant (codes "manual"))
    ∷ []
