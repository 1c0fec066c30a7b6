-- Where the atoms only get decided, so do the nodes.
use Rattle.std.proofs.Common.{◌≡◌, refl, ap, ◌∙◌, sym, subst, false}
use Rattle.key_table.specs.declared.atom.Verdict3.{Verdict3}
use Rattle.key_table.specs.declared.atom.Verdict3.TheVariants.{Entailed, Refuted, Undecided}
use Rattle.key_table.specs.Contexts.{wanted}
use Rattle.constraint_graph.specs.Logics.{three_valued, lesser, greater}
use Rattle.constraint_graph.specs.Laws.{Stays, MoreLaw}
use Rattle.constraint_graph.proofs.Relations.{Keeps, value_related_each}

lesser_refuted : (a : Verdict3) → lesser a Refuted ≡ Refuted
lesser_refuted Entailed = refl
lesser_refuted Refuted = refl
lesser_refuted Undecided = refl

lesser_stays : (a b c d : Verdict3) → Stays a c → Stays b d → Stays (lesser a b) (lesser c d)
lesser_stays Entailed b c d h k = subst (λ x. Stays b (lesser x d)) (sym h) k
lesser_stays Refuted b c d h k = ap (λ x. lesser x d) h
lesser_stays Undecided Entailed c d h k = tt
lesser_stays Undecided Refuted c d h k = ap (λ y. lesser c y) k ∙ lesser_refuted c
lesser_stays Undecided Undecided c d h k = tt

greater_entailed : (a : Verdict3) → greater a Entailed ≡ Entailed
greater_entailed Entailed = refl
greater_entailed Refuted = refl
greater_entailed Undecided = refl

greater_stays : (a b c d : Verdict3) → Stays a c → Stays b d → Stays (greater a b) (greater c d)
greater_stays Entailed b c d h k = ap (λ x. greater x d) h
greater_stays Refuted b c d h k = subst (λ x. Stays b (greater x d)) (sym h) k
greater_stays Undecided Entailed c d h k = ap (λ y. greater c y) k ∙ greater_entailed c
greater_stays Undecided Refuted c d h k = tt
greater_stays Undecided Undecided c d h k = tt

opposite_stays : (a c : Verdict3) → Stays a c → Stays (wanted false a) (wanted false c)
opposite_stays Entailed c h = ap (wanted false) h
opposite_stays Refuted c h = ap (wanted false) h
opposite_stays Undecided c h = tt

keeps : Keeps three_valued three_valued Stays
keeps = record { yes = refl; no = refl; both = lesser_stays; either = greater_stays; opposite = opposite_stays }

pub more : MoreLaw
more says tells nodes node stay = value_related_each three_valued three_valued Stays keeps says tells nodes node stay
