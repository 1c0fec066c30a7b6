-- Verdicts that agree on the atoms agree on the nodes, in every logic.
use Rattle.std.proofs.Common.{◌≡◌, refl, ap, ◌∙◌}
use Rattle.constraint_graph.specs.Logics.{Logic, three_valued}
use Rattle.constraint_graph.specs.Laws.{AgreeLaw}
use Rattle.constraint_graph.proofs.Relations.{Keeps, value_related_each}

keeps : {V : Type 0} (L : Logic V) → Keeps L L (λ v w. v ≡ w)
keeps L = record {
  yes = refl;
  no = refl;
  both = λ a b c d h k. ap (λ x. L.both x b) h ∙ ap (λ y. L.both c y) k;
  either = λ a b c d h k. ap (λ x. L.either x b) h ∙ ap (λ y. L.either c y) k;
  opposite = λ a c h. ap (λ x. L.opposite x) h;
}

pub agreed : AgreeLaw
agreed says tells nodes node same = value_related_each three_valued three_valued (λ v w. v ≡ w) (keeps three_valued) says tells nodes node same
