-- Where verdicts agree with a payment at the atoms, they do at the nodes.
use Rattle.std.proofs.Common.{◌≡◌, refl, Bool, true, false, not, ◌&&◌, ◌||◌}
use Rattle.std.proofs.lemmas.Bool.{false≢true}
use Rattle.key_table.specs.declared.atom.Atom.{Atom}
use Rattle.key_table.specs.declared.atom.Verdict3.{Verdict3}
use Rattle.key_table.specs.declared.atom.Verdict3.TheVariants.{Entailed, Refuted, Undecided}
use Rattle.key_table.specs.Contexts.{wanted}
use Rattle.key_table.specs.Options.{holds_on}
use Rattle.constraint_graph.specs.Logics.{three_valued, two_valued, lesser, greater}
use Rattle.constraint_graph.specs.Laws.{agrees, SoundLaw}
use Rattle.constraint_graph.proofs.Relations.{Keeps, value_related_each}

-- The verdict agrees with what holds.
abbrev Right : Verdict3 → Bool → Type 0
Right v b = agrees v b ≡ true

lesser_right : (a b : Verdict3) (c d : Bool) → Right a c → Right b d → Right (lesser a b) (c && d)
lesser_right Entailed b true d h k = k
lesser_right Entailed b false d h k = absurd (false≢true h)
lesser_right Refuted b true d h k = absurd (false≢true h)
lesser_right Refuted b false d h k = refl
lesser_right Undecided Entailed c d h k = refl
lesser_right Undecided Undecided c d h k = refl
lesser_right Undecided Refuted true d h k = k
lesser_right Undecided Refuted false d h k = refl

greater_right : (a b : Verdict3) (c d : Bool) → Right a c → Right b d → Right (greater a b) (c || d)
greater_right Entailed b true d h k = refl
greater_right Entailed b false d h k = absurd (false≢true h)
greater_right Refuted b true d h k = absurd (false≢true h)
greater_right Refuted b false d h k = k
greater_right Undecided Refuted c d h k = refl
greater_right Undecided Undecided c d h k = refl
greater_right Undecided Entailed true d h k = refl
greater_right Undecided Entailed false d h k = k

opposite_right : (a : Verdict3) (c : Bool) → Right a c → Right (wanted false a) (not c)
opposite_right Entailed true h = refl
opposite_right Entailed false h = absurd (false≢true h)
opposite_right Refuted true h = absurd (false≢true h)
opposite_right Refuted false h = refl
opposite_right Undecided c h = refl

keeps : Keeps three_valued two_valued Right
keeps = record { yes = refl; no = refl; both = lesser_right; either = greater_right; opposite = opposite_right }

pub sound : SoundLaw
sound says payment nodes node right = value_related_each three_valued two_valued Right keeps says (λ (atom : Atom). holds_on atom payment) nodes node right
