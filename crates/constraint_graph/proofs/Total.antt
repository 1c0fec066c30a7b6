-- Where all is known, the verdict is the truth.
use Rattle.std.proofs.Common.{◌≡◌, refl, ap, ◌∙◌, Bool, true, false, not, ◌&&◌, ◌||◌}
use Rattle.key_table.specs.declared.atom.Atom.{Atom}
use Rattle.key_table.specs.declared.atom.Verdict3.{Verdict3}
use Rattle.key_table.specs.Contexts.{wanted}
use Rattle.key_table.specs.Options.{holds_on}
use Rattle.constraint_graph.specs.Logics.{three_valued, two_valued, lesser, greater}
use Rattle.constraint_graph.specs.Laws.{known, TotalLaw}
use Rattle.constraint_graph.proofs.Relations.{Keeps, value_related_each}

-- The verdict is what is known of the truth.
abbrev IsKnown : Verdict3 → Bool → Type 0
IsKnown v b = v ≡ known b

lesser_known : (c d : Bool) → lesser (known c) (known d) ≡ known (c && d)
lesser_known true d = refl
lesser_known false d = refl

greater_known : (c d : Bool) → greater (known c) (known d) ≡ known (c || d)
greater_known true d = refl
greater_known false d = refl

opposite_known : (c : Bool) → wanted false (known c) ≡ known (not c)
opposite_known true = refl
opposite_known false = refl

keeps : Keeps three_valued two_valued IsKnown
keeps = record {
  yes = refl;
  no = refl;
  both = λ a b c d h k. ap (λ x. lesser x b) h ∙ ap (λ y. lesser (known c) y) k ∙ lesser_known c d;
  either = λ a b c d h k. ap (λ x. greater x b) h ∙ ap (λ y. greater (known c) y) k ∙ greater_known c d;
  opposite = λ a c h. ap (λ x. wanted false x) h ∙ opposite_known c;
}

pub total : TotalLaw
total payment nodes node = value_related_each three_valued two_valued IsKnown keeps (λ (atom : Atom). known (holds_on atom payment)) (λ (atom : Atom). holds_on atom payment) nodes node (λ atom there. refl)
