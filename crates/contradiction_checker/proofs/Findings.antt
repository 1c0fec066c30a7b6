-- What was found of atoms stays found.
use Rattle.std.proofs.Common.{◌≡◌, ℕ, zero, suc, ◌<◌, inl, inr, ◌⊎◌, ⊎_elim, List, [], ◌∷◌, Bool, true, false, not, cond, Option, Some, None, slice_get, replicate, nat_lt, refl, ap, sym, ◌∙◌, subst, arith}
use Rattle.std.proofs.Math.ListN.{set}
use Rattle.std.specs.Option.{option_map_or, option_map}
use Rattle.std.proofs.lemmas.Bool.{ltb-true, false≢true}
use Rattle.std.proofs.lemmas.List.{get_or-replicate, length-replicate}
use Rattle.std.proofs.lemmas.Option.{get_or_from_slice_get, slice_get_within}
use Rattle.key_table.specs.declared.atom.Atom.{Atom}
use Rattle.key_table.specs.declared.atom.Verdict3.{Verdict3}
use Rattle.key_table.specs.declared.atom.Verdict3.TheVariants.{Entailed, Refuted, Undecided}
use Rattle.key_table.specs.Contexts.{Context, assume}
use Rattle.key_table.specs.Tables.{Table, domain_at}
use Rattle.constraint_graph.specs.declared.node.Node.{Node}
use Rattle.constraint_graph.specs.Graphs.{atom_of}
use Rattle.contradiction_checker.specs.declared.finding.Finding.{Finding}
use Rattle.contradiction_checker.specs.declared.finding.Known.{Known}
use Rattle.contradiction_checker.specs.declared.options.Assumed.{Assumed}
use Rattle.contradiction_checker.specs.declared.trail.Trail.{Trail}
use Rattle.contradiction_checker.specs.Assumed.{context_of, assumed_on}
use Rattle.contradiction_checker.specs.Chains.{chain_of}
use Rattle.contradiction_checker.specs.Decisions.{atom_verdict}
use Rattle.contradiction_checker.specs.Findings.{has_stayed, nothing_known, known, with_known, known_in, verdict_of, IsRight, IsFound, AreFound, IsFoundAt, AreNothing}
use Rattle.contradiction_checker.specs.Trails.{Passes}
use Rattle.contradiction_checker.specs.Tries.{values_of, some_option, leaves}
use Rattle.contradiction_checker.proofs.Assumed.{assumed_on_slot}

-- Where the assumptions on its slot are the same, the same truths are left to an atom.
same_left : (table : Table) (atoms : List Atom) (atom : Atom) (truth : Bool) (s t : List Assumed) → assumed_on atoms atom.slot s ≡ assumed_on atoms atom.slot t → leaves table (context_of atoms s) atom truth ≡ leaves table (context_of atoms t) atom truth
same_left table atoms atom truth s t same =
    let slots = sym (assumed_on_slot atoms atom.slot s) ∙ ap (context_of atoms) same ∙ assumed_on_slot atoms atom.slot t in
    ap (λ (c : Context). option_map_or (λ domain. some_option (values_of domain) (assume atom truth ∷ c)) (domain_at atom.slot.key table) false) slots

still : (table : Table) (atoms : List Atom) (old new : Trail) (atom : Atom) (finding : Finding) → Passes atoms old new → IsFound table atoms old atom finding → IsFound table atoms new atom finding
still table atoms old new atom finding passes found =
    let had : has_stayed new.changed.items finding.chain finding.time ≡ true → has_stayed old.changed.items finding.chain finding.time ≡ true = λ stayed. passes.stayed finding.chain finding.time found.past stayed in
    record {
      past = omega (arith, found.past, passes.later);
      chain = λ stayed. found.chain (had stayed) ∙ ap (λ (n : ℕ). chain_of n atom.slot) (sym passes.chains);
      right = λ truth left stayed is.
          let P : ℕ → Type 0 = λ n. has_stayed new.changed.items n finding.time ≡ true in
          found.right truth left (had stayed) is ∙ sym (same_left table atoms atom truth new.assumed.items old.assumed.items (passes.same atom.slot finding.time found.past (subst P (found.chain (had stayed)) stayed)));
    }

-- What is found stays found while time passes.
pub still_found : (table : Table) (atoms : List Atom) (old new : Trail) (asked : ℕ → Option Atom) (findings : List Finding) → Passes atoms old new → AreFound table atoms old asked findings → AreFound table atoms new asked findings
still_found table atoms old new asked findings passes found = record {
  at = λ k atom finding asks is. still table atoms old new atom finding passes (found.at k atom finding asks is);
}

never : (o : Option ℕ) (time : ℕ) → time ≡ 0 → option_map_or (λ at. nat_lt at time) o false ≡ true → ⊥
never None time is stayed = false≢true stayed
never (Some at) time is stayed = absurd (omega (arith, is, ltb-true at time stayed))

-- Nothing that was found is found of any atom.
pub of_nothing : (table : Table) (atoms : List Atom) (trail : Trail) (atom : Atom) (finding : Finding) → finding.time ≡ 0 → IsFound table atoms trail atom finding
of_nothing table atoms trail atom finding none = record {
  past = omega (arith, none);
  chain = λ stayed. absurd (never (slice_get trail.changed.items finding.chain) finding.time none stayed);
  right = λ truth left stayed is. absurd (never (slice_get trail.changed.items finding.chain) finding.time none stayed);
}

pub none_found : (table : Table) (atoms : List Atom) (trail : Trail) (asked : ℕ → Option Atom) (findings : List Finding) → AreNothing findings → AreFound table atoms trail asked findings
none_found table atoms trail asked findings none = record {
  at = λ k atom finding asks is. of_nothing table atoms trail atom finding (none.none k finding is);
}

-- So many of what is nothing.
pub all_nothing : (n : ℕ) (finding : Finding) (findings : List Finding) → findings ≡ replicate n finding → finding.time ≡ 0 → AreNothing findings
all_nothing n finding findings are none = record {
  none = λ k f is.
      let P : List Finding → Type 0 = λ l. slice_get l k ≡ Some f in
      let at = subst P are is in
      let within : k < n = omega (arith, slice_get_within (replicate n finding) k f at, length-replicate n finding) in
      ap (λ (g : Finding). g.time) (sym (get_or_from_slice_get (replicate n finding) k f finding at) ∙ get_or-replicate n k finding finding within) ∙ none;
}

same_item : {X : Type 0} (x y : X) → Some x ≡ Some y → y ≡ x
same_item x y is = cc

-- an item after one was set: that one, or one of before
one_set : {X : Type 0} (xs : List X) (i k : ℕ) (v x : X) → slice_get (set xs i v) k ≡ Some x → ((k ≡ i) × (x ≡ v)) ⊎ (slice_get xs k ≡ Some x)
one_set [] i k v x is = inr is
one_set (y ∷ xs) zero zero v x is = inl (refl, same_item v x is)
one_set (y ∷ xs) zero (suc k) v x is = inr is
one_set (y ∷ xs) (suc i) zero v x is = inr is
one_set (y ∷ xs) (suc i) (suc k) v x is = ⊎_elim (λ (here : (k ≡ i) × (x ≡ v)). inl (ap (λ (n : ℕ). suc n) here.0, here.1)) (λ (before : slice_get xs k ≡ Some x). inr before) (one_set xs i k v x is)

-- What is found of an atom is kept at its place.
pub found_set : (table : Table) (atoms : List Atom) (trail : Trail) (asked : ℕ → Option Atom) (findings : List Finding) (place : ℕ) (atom : Atom) (finding : Finding) → asked place ≡ Some atom → IsFound table atoms trail atom finding → AreFound table atoms trail asked findings → AreFound table atoms trail asked (set findings place finding)
found_set table atoms trail asked findings place atom finding asks found before = record {
  at = λ k a f asks_k is.
      ⊎_elim
      (λ (here : (k ≡ place) × (f ≡ finding)).
      let P : Atom → Type 0 = λ b. IsFound table atoms trail b f in
      let Q : Finding → Type 0 = λ g. IsFound table atoms trail atom g in
      subst P (same_item a atom (sym asks_k ∙ ap asked here.0 ∙ asks)) (subst Q (sym here.1) found))
      (λ (there : slice_get findings k ≡ Some f). before.at k a f asks_k there)
      (one_set findings place k finding f is);
}

-- and is there
pub found_there : (table : Table) (atoms : List Atom) (trail : Trail) (findings : List Finding) (place : ℕ) (atom : Atom) (finding : Finding) → IsFound table atoms trail atom finding → IsFoundAt table atoms trail atom place findings → IsFoundAt table atoms trail atom place (set findings place finding)
found_there table atoms trail findings place atom finding found before = record {
  of_it = λ f is.
      ⊎_elim
      (λ (here : (place ≡ place) × (f ≡ finding)).
      let Q : Finding → Type 0 = λ g. IsFound table atoms trail atom g in
      subst Q (sym here.1) found)
      (λ (there : slice_get findings place ≡ Some f). before.of_it f there)
      (one_set findings place place finding f is);
}

none_known : (truth left : Bool) → known nothing_known truth ≡ Some left → ⊥
none_known true left is = cc
none_known false left is = cc

known_by : (k : Known) (stayed : Bool) (truth left : Bool) → known (cond stayed k nothing_known) truth ≡ Some left → (stayed ≡ true) × (known k truth ≡ Some left)
known_by k true truth left is = (refl, is)
known_by k false truth left is = absurd (none_known truth left is)

-- What is known still is right.
pub known_right : (table : Table) (atoms : List Atom) (trail : Trail) (atom : Atom) (finding : Finding) → IsFound table atoms trail atom finding → IsRight table atoms trail atom (known_in trail finding)
known_right table atoms trail atom finding found = record {
  of = λ truth left is.
      let parts = known_by finding.known (has_stayed trail.changed.items finding.chain finding.time) truth left is in
      found.right truth left parts.0 parts.1;
}

pub nothing_right : (table : Table) (atoms : List Atom) (trail : Trail) (atom : Atom) → IsRight table atoms trail atom nothing_known
nothing_right table atoms trail atom = record {
  of = λ truth left is. absurd (none_known truth left is);
}

decided : (y n : Option Bool) (l m : Bool) (v : Verdict3) → ((b : Bool) → y ≡ Some b → b ≡ l) → ((b : Bool) → n ≡ Some b → b ≡ m) → verdict_of y n ≡ Some v → v ≡ cond (not l) Refuted (cond (not m) Entailed Undecided)
decided None n l m v can cannot is = cc
decided (Some true) None l m v can cannot is = cc
decided (Some false) n l m v can cannot is = same_item Refuted v is ∙ ap (λ (b : Bool). cond (not b) Refuted (cond (not m) Entailed Undecided)) (can false refl)
decided (Some true) (Some false) l m v can cannot is = same_item Entailed v is ∙ ap (λ (b : Bool). cond (not b) Entailed Undecided) (cannot false refl) ∙ ap (λ (b : Bool). cond (not b) Refuted (cond (not m) Entailed Undecided)) (can true refl)
decided (Some true) (Some true) l m v can cannot is = same_item Undecided v is ∙ ap (λ (b : Bool). cond (not b) Entailed Undecided) (cannot true refl) ∙ ap (λ (b : Bool). cond (not b) Refuted (cond (not m) Entailed Undecided)) (can true refl)

-- A verdict that is known is that of the atom.
pub verdict_right : (table : Table) (atoms : List Atom) (trail : Trail) (atom : Atom) (k : Known) (v : Verdict3) → IsRight table atoms trail atom k → verdict_of k.yes k.no ≡ Some v → v ≡ atom_verdict table (context_of atoms trail.assumed.items) atom
verdict_right table atoms trail atom k v right is =
    let left = leaves table (context_of atoms trail.assumed.items) atom in
    decided k.yes k.no (left true) (left false) v (right.of true) (right.of false) is

known_with : (k : Known) (truth left t l : Bool) → known (with_known k truth left) t ≡ Some l → ((t ≡ truth) × (l ≡ left)) ⊎ (known k t ≡ Some l)
known_with k true left true l is = inl (refl, same_item left l is)
known_with k true left false l is = inr is
known_with k false left true l is = inr is
known_with k false left false l is = inl (refl, same_item left l is)

-- What is found with one truth more.
pub found_more : (table : Table) (atoms : List Atom) (trail : Trail) (atom : Atom) (k : Known) (after : Finding) (truth left : Bool) → IsRight table atoms trail atom k → left ≡ leaves table (context_of atoms trail.assumed.items) atom truth → after.chain ≡ chain_of trail.last_chain atom.slot → after.time ≡ trail.time → after.known ≡ with_known k truth left → IsFound table atoms trail atom after
found_more table atoms trail atom k after truth left right asked chain now are = record {
  past = omega (arith, now);
  chain = λ stayed. chain;
  right = λ t l stayed is.
      ⊎_elim
      (λ (here : (t ≡ truth) × (l ≡ left)). here.1 ∙ asked ∙ sym (ap (leaves table (context_of atoms trail.assumed.items) atom) here.0))
      (λ (there : known k t ≡ Some l). right.of t l there)
      (known_with k truth left t l (ap (λ (j : Known). known j t) (sym are) ∙ is));
}

-- the atom of a test node
pub test_there : (o : Option Node) (a : Option Atom) → option_map atom_of o ≡ Some a → option_map_or atom_of o None ≡ a
test_there None a is = cc
test_there (Some node) a is = same_item a (atom_of node) (sym is)
