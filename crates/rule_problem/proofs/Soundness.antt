-- What is proved is so: no payment that a context agrees with satisfies a problem of which the items prove.
use Rattle.std.proofs.Common.{◌≡◌, ℕ, ◌+◌, ⊎_elim, List, [], ◌∷◌, ◌++◌, length, Bool, true, false, not, ◌&&◌, cond, Option, Some, None, Result, Ok, refl, ap, ◌∙◌, subst, slice_get, Ordering, Less, Equal, Greater}
use Rattle.std.specs.List.{list_all, AllByRecursion}
use Rattle.std.specs.Bool.{beq}
use Rattle.std.specs.Option.{option_map_or, IsSomeAnd}
use Rattle.std.specs.Ordering.{is_eq}
use Rattle.std.proofs.lemmas.Bool.{and_parts, and_from, cases_Bool, both_ways, not-true, false≢true, false_from_ne_true}
use Rattle.key_table.specs.declared.atom.Atom.{Atom}
use Rattle.key_table.specs.declared.atom.Verdict3.{Verdict3}
use Rattle.key_table.specs.declared.atom.Verdict3.TheVariants.{Entailed, Refuted, Undecided}
use Rattle.key_table.specs.declared.slot.Slot.{Slot}
use Rattle.key_table.specs.Contexts.{Assumption, Context, assume, has_truth, meets_on, meets, IsLeft, IsVoid, Forces, HasVerdict}
use Rattle.key_table.specs.Options.{holds_of, holds_on, OptionLaw}
use Rattle.key_table.specs.Payments.{Entries, value_of, is_legal}
use Rattle.key_table.specs.Slots.{slot_cmp, SameSlotLaw}
use Rattle.key_table.specs.Tables.{Table}
use Rattle.constraint_graph.specs.Laws.{agrees, SoundLaw}
use Rattle.constraint_graph.specs.Values.{verdict}
use Rattle.constraint_graph.specs.Values as values
use Rattle.rule_problem.specs.declared.certificate.Item.{Item}
use Rattle.rule_problem.specs.declared.certificate.Item.TheVariants.{Split, Void, Want, Bar, Goal, Todo}
use Rattle.rule_problem.specs.declared.problem.Literal.{Literal}
use Rattle.rule_problem.specs.declared.problem.Problem.{Problem}
use Rattle.rule_problem.specs.Laws.{ProofLaw}
use Rattle.rule_problem.specs.Literals.{is_true, IsRefuted, AreEntailed, HasRefuted, AreRefuted}
use Rattle.rule_problem.specs.Problems.{some_path, sat}
use Rattle.rule_problem.specs.Proving.{After}
use Rattle.rule_problem.specs.Proving.After.{over, holds, fails, splits, fails_within}
use Rattle.rule_problem.specs.Reasons.{Holds}
use Rattle.rule_problem.proofs.Places.{OfSome, all_at, none_at}

-- The context's truths are those of the payment.
abbrev pub Agrees : Entries → Context → Type 0
Agrees payment context = AllByRecursion (λ (a : Assumption). holds_on a.atom payment ≡ a.truth) context

agrees_more : (payment : Entries) (c : Context) (atom : Atom) (truth : Bool) → Agrees payment c → holds_on atom payment ≡ truth → Agrees payment (c ++ assume atom truth ∷ [])
agrees_more payment [] atom truth agrees is = (is, tt)
agrees_more payment (a ∷ c) atom truth agrees is = (agrees.0, agrees_more payment c atom truth agrees.1 is)

beq_self : (b : Bool) → beq b b ≡ true
beq_self true = refl
beq_self false = refl

is-equal : (o : Ordering) → is_eq o ≡ true → o ≡ Equal
is-equal Less h = absurd (false≢true h)
is-equal Equal h = refl
is-equal Greater h = absurd (false≢true h)

has : (payment : Entries) (slot : Slot) (a : Assumption) → holds_on a.atom payment ≡ a.truth → slot ≡ a.atom.slot → has_truth (value_of slot payment) a ≡ true
has payment slot a agrees is = ap (λ (s : Slot). beq (holds_of a.atom (value_of s payment)) a.truth) is ∙ ap (λ (b : Bool). beq b a.truth) agrees ∙ beq_self a.truth

met_on : SameSlotLaw → (payment : Entries) (slot : Slot) (a : Assumption) → holds_on a.atom payment ≡ a.truth → meets_on slot (value_of slot payment) a ≡ true
met_on same payment slot a agrees =
    elim (is_eq (slot_cmp slot a.atom.slot)) as (λ b. is_eq (slot_cmp slot a.atom.slot) ≡ b → cond b (has_truth (value_of slot payment) a) true ≡ true) [
      | true ↦ (λ is. has payment slot a agrees (same slot a.atom.slot (is-equal (slot_cmp slot a.atom.slot) is)))
      | false ↦ (λ is. refl)
    ] refl

pub met : SameSlotLaw → (payment : Entries) (slot : Slot) (c : Context) → Agrees payment c → meets c slot (value_of slot payment) ≡ true
met same payment slot [] agrees = refl
met same payment slot (a ∷ c) agrees = and_from (meets_on slot (value_of slot payment) a) (meets c slot (value_of slot payment)) (met_on same payment slot a agrees.0) (met same payment slot c agrees.1)

-- What stands at each slot of the payment is an option that is left to it.
pub record IsLeftTo (table : Table) (c : Context) (payment : Entries) : Type 0 where
  pub left : (slot : Slot) → IsLeft table c slot (value_of slot payment)

and_false : (b : Bool) → (b && false) ≡ false
and_false true = refl
and_false false = refl

module _ (table : Table) (payment : Entries) (c : Context) (fits : IsLeftTo table c payment) where
  forced : (atom : Atom) (truth : Bool) → Forces table c atom truth → holds_on atom payment ≡ truth
  forced atom truth forces = forces (value_of atom.slot payment) (fits.left atom.slot)

  entailed_some : (want : Bool) (o : Option Atom) → IsSomeAnd o (λ atom. Forces table c atom want) → option_map_or (λ (atom : Atom). cond want (holds_on atom payment) (not (holds_on atom payment))) o false ≡ true
  entailed_some want None none = absurd none
  entailed_some true (Some atom) forces = forced atom true forces
  entailed_some false (Some atom) forces = ap not (forced atom false forces)

  refuted_some : (want : Bool) (o : Option Atom) → IsSomeAnd o (λ atom. Forces table c atom (not want)) → option_map_or (λ (atom : Atom). cond want (holds_on atom payment) (not (holds_on atom payment))) o false ≡ false
  refuted_some want None none = absurd none
  refuted_some true (Some atom) forces = forced atom false forces
  refuted_some false (Some atom) forces = ap not (forced atom true forces)

  pub bar_true : (atoms : List Atom) (bar : List Literal) → AreEntailed table c atoms bar → list_all (is_true atoms payment) bar ≡ true
  bar_true atoms [] all = refl
  bar_true atoms (l ∷ bar) all = and_from (is_true atoms payment l) (list_all (is_true atoms payment) bar) (entailed_some l.want (slice_get atoms l.atom) all.0) (bar_true atoms bar all.1)

  pub path_false : (atoms : List Atom) (path : List Literal) → HasRefuted table c atoms path → list_all (is_true atoms payment) path ≡ false
  path_false atoms [] none = absurd none
  path_false atoms (l ∷ path) some =
      ⊎_elim
      (λ (here : IsRefuted table c atoms l). ap (λ (b : Bool). b && list_all (is_true atoms payment) path) (refuted_some l.want (slice_get atoms l.atom) here))
      (λ (later : HasRefuted table c atoms path). rw (path_false atoms path later) (and_false (is_true atoms payment l)))
      some

  paths_false : (atoms : List Atom) (paths : List (List Literal)) → AreRefuted table c atoms paths → some_path atoms payment paths ≡ false
  paths_false atoms [] all = refl
  paths_false atoms (path ∷ paths) all = rw (path_false atoms path all.0, paths_false atoms paths all.1) refl

  pub verdict_agrees : (atom : Atom) (v : Verdict3) → HasVerdict table c atom v → agrees v (holds_on atom payment) ≡ true
  verdict_agrees atom Refuted h = ap not (forced atom false h)
  verdict_agrees atom Entailed h = forced atom true h.0
  verdict_agrees atom Undecided h = refl

  void_some : (o : Option Atom) → IsSomeAnd o (λ atom. IsVoid table c atom.slot) → ⊥
  void_some None none = none
  void_some (Some atom) void = void (value_of atom.slot payment) (fits.left atom.slot)

  want_some : (atoms : List Atom) (o : Option (List (List Literal))) → OfSome (some_path atoms payment) true o → IsSomeAnd o (AreRefuted table c atoms) → ⊥
  want_some atoms None of none = none
  want_some atoms (Some paths) of refuted = both_ways (some_path atoms payment paths) (paths_false atoms paths refuted) of

  bar_some : (atoms : List Atom) (o : Option (List Literal)) → OfSome (λ bar. list_all (is_true atoms payment) bar) false o → IsSomeAnd o (AreEntailed table c atoms) → ⊥
  bar_some atoms None of none = none
  bar_some atoms (Some bar) of entailed = both_ways (list_all (is_true atoms payment) bar) of (bar_true atoms bar entailed)

-- What satisfying a problem says, part by part.
record IsSatisfied (problem : Problem) (payment : Entries) : Type 0 where
  goal : values.holds problem.graph payment problem.goal ≡ true
  wants : list_all (some_path problem.atoms payment) problem.wants ≡ true
  bars : some_path problem.atoms payment problem.bars ≡ false

-- No reason holds in a context with which a satisfying payment agrees.
no_reason : SoundLaw → (table : Table) (problem : Problem) (atoms : List Atom) (payment : Entries) → IsSatisfied problem payment → (c : Context) → IsLeftTo table c payment → (item : Item) → Holds table problem atoms c item → ⊥
no_reason law table problem atoms payment is c fits (Void x) h = void_some table payment c fits (slice_get atoms x) h
no_reason law table problem atoms payment is c fits (Want w) h = want_some table payment c fits problem.atoms (slice_get problem.wants w) (all_at (some_path problem.atoms payment) problem.wants w is.wants) h
no_reason law table problem atoms payment is c fits (Bar b) h = bar_some table payment c fits problem.atoms (slice_get problem.bars b) (none_at (λ bar. list_all (is_true problem.atoms payment) bar) problem.bars b is.bars) h
no_reason law table problem atoms payment is c fits Goal h =
    let truth = values.holds problem.graph payment problem.goal in
    let P : Verdict3 → Type 0 = λ v. agrees v truth ≡ true in
    let refuted : not truth ≡ true = subst P h.is (law h.says payment problem.graph problem.goal (λ atom stands. verdict_agrees table payment c fits atom (h.says atom) (h.are atom stands))) in
    both_ways truth (not-true truth refuted) is.goal
no_reason law table problem atoms payment is c fits (Split x) h = h
no_reason law table problem atoms payment is c fits Todo h = h

-- Where the items from a number on prove in a context, no payment that refutes all reasons agrees with it.
none_agrees : (atoms : List Atom) (items : List Item) (P : Context → Item → Type 0) (payment : Entries) → ((c : Context) (item : Item) → Agrees payment c → P c item → ⊥) → (c : Context) (i : ℕ) (r : Result ℕ ℕ) (j : ℕ) → r ≡ Ok j → Agrees payment c → After atoms items P c i r → ⊥
none_agrees atoms items P payment refuses c i r j is agrees (over none) = cc
none_agrees atoms items P payment refuses c i r j is agrees (holds item at leaf h) = refuses c item agrees h
none_agrees atoms items P payment refuses c i r j is agrees (fails item at leaf h) = cc
none_agrees atoms items P payment refuses c i r j is agrees (splits {j = k} item atom at on first second) =
    ⊎_elim
    (λ (yes : holds_on atom payment ≡ true). none_agrees atoms items P payment refuses (c ++ assume atom true ∷ []) (i + 1) (Ok k) k refl (agrees_more payment c atom true agrees yes) first)
    (λ (not_so : holds_on atom payment ≡ false). none_agrees atoms items P payment refuses (c ++ assume atom false ∷ []) k r j is (agrees_more payment c atom false agrees not_so) second)
    (cases_Bool (holds_on atom payment))
none_agrees atoms items P payment refuses c i r j is agrees (fails_within item atom at on first) = cc

sat_parts : (table : Table) (problem : Problem) (payment : Entries) → sat table problem payment ≡ true → (is_legal table payment ≡ true) × IsSatisfied problem payment
sat_parts table problem payment satisfied =
    let goal = values.holds problem.graph payment problem.goal in
    let wants = list_all (some_path problem.atoms payment) problem.wants in
    let bars = some_path problem.atoms payment problem.bars in
    let one = and_parts (is_legal table payment) (goal && (wants && not bars)) satisfied in
    let two = and_parts goal (wants && not bars) one.1 in
    let three = and_parts wants (not bars) two.1 in
    (one.0, record { goal = two.0; wants = three.0; bars = not-true bars three.1 })

pub sound : OptionLaw → SameSlotLaw → SoundLaw → ProofLaw
sound option same law = λ table problem certificate payment fits proves. false_from_ne_true (sat table problem payment) (λ satisfied.
    let parts = sat_parts table problem payment satisfied in
    let refuses : (c : Context) (item : Item) → Agrees payment c → Holds table problem certificate.atoms c item → ⊥ = λ c item agree h.
    no_reason law table problem certificate.atoms payment parts.1 c (record { left = λ slot. record { legal = option table payment slot parts.0; met = met same payment slot c agree } }) item h in
    none_agrees certificate.atoms certificate.items (Holds table problem certificate.atoms) payment refuses [] 0 (Ok (length certificate.items)) (length certificate.items) refl tt proves)
