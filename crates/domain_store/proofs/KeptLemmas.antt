-- What a store keeps, as an assumption comes and goes.
use Rattle.std.proofs.Common.{◌≡◌, ℕ, zero, suc, ◌+◌, ◌<◌, List, [], ◌∷◌, ◌++◌, length, map, get_or, set, take, Bool, true, false, not, ◌&&◌, Option, Some, None, option_map, slice_get, inl, inr, refl, ap, sym, ◌∙◌, subst, arith}
use Rattle.std.proofs.lemmas.Bool.{cases_lt, cases_eq, and_parts, true≢false, false≢true}
use Rattle.std.proofs.lemmas.List.{get_or_default, get_or-set_same, get_or-set_other, length-set, length_push, get_or_push, get_or_append_left, take-append-le, take_all, length-map}
use Rattle.std.proofs.lemmas.Option.{slice_get-get_or, slice_get_within, slice_get-map, same_Some}
use Rattle.std.specs.List.{list_all, Contains}
use Rattle.key_table.specs.declared.slot.Slot.{Slot}
use Rattle.key_table.specs.declared.atom.Atom.{Atom}
use Rattle.key_table.specs.declared.atom.Verdict3.{Verdict3}
use Rattle.key_table.specs.declared.atom.Verdict3.TheVariants.{Undecided}
use Rattle.key_table.specs.Options.{holds_of}
use Rattle.std.specs.Bool.{beq}
use Rattle.key_table.specs.Atoms.{atom_fits}
use Rattle.key_table.specs.Contexts.{Context, Forces, HasVerdict, LeftLaw, VerdictLaw}
use Rattle.key_table.specs.OptionSets.{Options, HasOption, IsVerdict, kept}
use Rattle.key_table.specs.Slots.{SameSlotLaw}
use Rattle.key_table.specs.Tables.{Table}
use Rattle.interval_domains.specs.declared.domain.SlotDomain.{SlotDomain}
use Rattle.interval_domains.specs.Members.{members, slot_of}
use Rattle.interval_domains.specs.Picks.{HasNoOption}
use Rattle.rule_problem.specs.declared.problem.Problem.{Problem}
use Rattle.rule_problem.specs.Problems.{problem_fits, atoms_fit}
use Rattle.domain_store.specs.Stores.{Seen, context_of, more, open_options, HasNoVoid}
use Rattle.std.specs.Option.{IsSomeAnd}
use Rattle.domain_store.specs.Verdicts.{AtomHasVerdict}
use Rattle.domain_store.specs.Kept.{atom_at, IsDomain, ArePlaces, AreNodePlaces, AreFull, IsKept}
use Rattle.domain_store.proofs.ContextLemmas.{element, stands_at, open_own, open_other, open_free, find_slot, left_none}

-- ---- lists

-- what passes for each passes at a place
passes_at : {X : Type 0} (p : X → Bool) (xs : List X) (n : ℕ) (x : X) → list_all p xs ≡ true → slice_get xs n ≡ Some x → p x ≡ true
passes_at p [] n x all is = cc
passes_at p (y ∷ xs) zero x all is = ap p (sym (same_Some y x is)) ∙ (and_parts (p y) (list_all p xs) all).0
passes_at p (y ∷ xs) (suc n) x all is = passes_at p xs n x (and_parts (p y) (list_all p xs) all).1 is

-- what an image comes from
source : {X Y : Type 0} (f : X → Y) (o : Option X) (y : Y) → option_map f o ≡ Some y → (x : X) × (o ≡ Some x) × (f x ≡ y)
source f None y is = cc
source f (Some x) y is = (x, refl, same_Some (f x) y is)

-- an atom by its number
pub read_at : {X : Type 0} (xs ys : List X) (n : ℕ) (x : X) → n < length xs → x ≡ get_or ys n x → ys ≡ xs → slice_get xs n ≡ Some x
read_at xs ys n x lt is same = slice_get-get_or xs n x lt ∙ ap (λ y. Some y) (ap (λ zs. get_or zs n x) (sym same) ∙ sym is)

pub some_at : {X : Type 0} (xs : List X) (n : ℕ) → n < length xs → (x : X) × (slice_get xs n ≡ Some x)
some_at xs n lt = let x = get_or xs n (element xs n lt) in (x, slice_get-get_or xs n (element xs n lt) lt)

-- ---- slots of domains

pub slot_at : (ds : List SlotDomain) (p : ℕ) (d : SlotDomain) → p < length ds → slice_get (map slot_of ds) p ≡ Some (slot_of (get_or ds p d))
slot_at ds p d lt = slice_get-map slot_of ds p ∙ ap (λ (o : Option SlotDomain). option_map slot_of o) (slice_get-get_or ds p d lt)

pub at_within : (ds : List SlotDomain) (p : ℕ) (slot : Slot) → slice_get (map slot_of ds) p ≡ Some slot → p < length ds
at_within ds p slot at = let w = slice_get_within (map slot_of ds) p slot at in let e = length-map ds slot_of in omega arith

pub at_is : (ds : List SlotDomain) (p : ℕ) (slot : Slot) (d : SlotDomain) → slice_get (map slot_of ds) p ≡ Some slot → slot_of (get_or ds p d) ≡ slot
at_is ds p slot d at = same_Some _ _ (sym (slot_at ds p d (at_within ds p slot at)) ∙ at)

-- a domain of the same slot leaves the slots as they are
slots-set : (ds : List SlotDomain) (p : ℕ) (new d : SlotDomain) → p < length ds → slot_of new ≡ slot_of (get_or ds p d) → map slot_of (set ds p new) ≡ map slot_of ds
slots-set [] p new d lt same = absurd (omega arith)
slots-set (e ∷ ds) zero new d lt same = ap (λ (s : Slot). s ∷ map slot_of ds) same
slots-set (e ∷ ds) (suc p) new d lt same = ap (λ (ss : List Slot). slot_of e ∷ ss) (slots-set ds p new d (omega arith) same)

-- ---- verdicts

and_other : (x y : Bool) → x ≡ true → (x && y) ≡ false → y ≡ false
and_other true y h i = i
and_other false y h i = absurd (false≢true h)

other_truth : (b t : Bool) → beq b t ≡ false → b ≡ not t
other_truth true true h = absurd (true≢false h)
other_truth true false h = refl
other_truth false true h = refl
other_truth false false h = absurd (true≢false h)

decided : (table : Table) (context : Context) (atom : Atom) → HasVerdict table context atom Undecided → (truth : Bool) → Forces table context atom (not truth) → ⊥
decided table context atom h true forced = h.1 forced
decided table context atom h false forced = h.0 forced

pub atom_has : (seen : Seen) (n : ℕ) (atom : Atom) (v : Verdict3) → slice_get seen.problem.atoms n ≡ Some atom → HasVerdict seen.table (context_of seen) atom v → AtomHasVerdict seen n v
atom_has seen n atom v there h =
    let P : Option Atom → Type 0 = λ o. IsSomeAnd o (λ a. HasVerdict seen.table (context_of seen) a v) in
    subst P (sym there) h

-- where an atom is undecided, it has each truth on some option
pub open_for : LeftLaw → (seen : Seen) (n : ℕ) (atom : Atom) (truth : Bool) (options : Options) → slice_get seen.problem.atoms n ≡ Some atom → options ≡ open_options seen atom.slot → AtomHasVerdict seen n Undecided → HasNoOption (kept atom truth options) → ⊥
open_for law seen n atom truth options there is undecided none =
    let P : Option Atom → Type 0 = λ o. IsSomeAnd o (λ a. HasVerdict seen.table (context_of seen) a Undecided) in
    let h : HasVerdict seen.table (context_of seen) atom Undecided = subst P there undecided in
    let forces : (truth : Bool) → HasNoOption (kept atom truth options) → Forces seen.table (context_of seen) atom (not truth) = λ t empty o is_left.
    other_truth (holds_of atom o) t (and_other (options o) (beq (holds_of atom o) t) (ap (λ (f : Options). f o) is ∙ (law seen.table (context_of seen) atom.slot o).1 is_left) (empty o)) in
    decided seen.table (context_of seen) atom h truth (forces truth none)

-- ---- the domain of a slot

module _ (seen : Seen) (ds : List SlotDomain) (ps ns : List ℕ) (rs : List SlotDomain) (keeps : IsKept seen ds ps ns rs) where
  -- an atom of the problem fits the table
  pub fits_at : (n : ℕ) (atom : Atom) → slice_get seen.problem.atoms n ≡ Some atom → atom_fits seen.table atom ≡ true
  unfolding problem_fits
  fits_at n atom there = passes_at (atom_fits seen.table) seen.problem.atoms n atom (and_parts (atoms_fit seen.table seen.problem) _ keeps.fits).0 there

  -- the place of an atom's slot
  pub place_is : (n p : ℕ) (atom : Atom) → slice_get seen.problem.atoms n ≡ Some atom → p ≡ get_or ps n p → slice_get (map slot_of ds) p ≡ Some atom.slot
  place_is n p atom there place =
      let c = keeps.places.count in
      let w = slice_get_within seen.problem.atoms n atom there in
      ap (λ i. slice_get (map slot_of ds) i) (place ∙ get_or_default ps n p 0 (omega arith)) ∙ keeps.places.at n atom there

  -- the place of the slot of a node's atom
  pub node_place_is : (node p : ℕ) (atom : Atom) → node < length seen.problem.graph → atom_at seen.problem.graph node ≡ Some (Some atom) → p ≡ get_or ns node p → slice_get (map slot_of ds) p ≡ Some atom.slot
  node_place_is node p atom lt at place =
      let c = keeps.nodes.count in
      ap (λ i. slice_get (map slot_of ds) i) (place ∙ get_or_default ns node p 0 (omega arith)) ∙ keeps.nodes.at node atom at

  module _ (p : ℕ) (slot : Slot) (at : slice_get (map slot_of ds) p ≡ Some slot) (domain : SlotDomain) (there : domain ≡ get_or ds p domain) where
    pub slot_is : slot_of domain ≡ slot
    slot_is = ap slot_of there ∙ at_is ds p slot domain at

    pub domain_is : IsDomain seen domain
    domain_is = let P : SlotDomain → Type 0 = λ d. IsDomain seen d in subst P (sym there) (keeps.exact p domain (at_within ds p slot at))

    pub options_are : members domain ≡ open_options seen slot
    options_are = domain_is.exact ∙ ap (λ s. open_options seen s) slot_is

    pub open_is : HasOption (open_options seen slot)
    open_is = let P : Options → Type 0 = λ options. HasOption options in subst P options_are domain_is.filled

    -- a verdict on the domain is the atom's verdict in the context
    pub verdict_is : VerdictLaw → (atom : Atom) → atom.slot ≡ slot → (v : Verdict3) → IsVerdict (members domain) atom v → HasVerdict seen.table (context_of seen) atom v
    verdict_is law atom own v h =
        let P : Slot → Type 0 = λ s. HasOption (open_options seen s) in
        let Q : Options → Type 0 = λ options. IsVerdict options atom v in
        law seen.table (context_of seen) atom v (subst P (sym own) open_is) (subst Q (options_are ∙ ap (λ s. open_options seen s) (sym own)) h)

  -- the slot of an atom has an option
  open_at : (atom : Atom) → Contains seen.problem.atoms atom → HasOption (open_options seen atom.slot)
  open_at atom there =
      let p = get_or ps there.0 0 in
      let at = keeps.places.at there.0 atom (stands_at seen.problem.atoms atom there) in
      let within = at_within ds p atom.slot at in
      let d = element ds p within in
      open_is p atom.slot at (get_or ds p d) (get_or_default ds p d (get_or ds p d) within)

  pub no_void : SameSlotLaw → HasNoVoid seen
  no_void law slot =
      let P : Slot → Type 0 = λ s. HasOption (open_options seen s) in
      elim (find_slot law seen.problem.atoms slot) [
        | inl r ↦ subst P (sym r.2) (open_at r.0 r.1)
        | inr apart ↦ open_free law seen slot apart
      ]

-- ---- an assumption comes

module _ (law : SameSlotLaw) (seen : Seen) (ds : List SlotDomain) (ps ns : List ℕ) (rs : List SlotDomain) (keeps : IsKept seen ds ps ns rs)
    (n p : ℕ) (atom : Atom) (known : slice_get seen.problem.atoms n ≡ Some atom) (at : slice_get (map slot_of ds) p ≡ Some atom.slot)
    (domain : SlotDomain) (there : domain ≡ get_or ds p domain)
    (truth : Bool) (narrowed : SlotDomain) (slot : slot_of narrowed ≡ slot_of domain) (narrows : members narrowed ≡ kept atom truth (members domain)) (filled : HasOption (members narrowed)) where
  within : p < length ds
  within = at_within ds p atom.slot at

  own_slot : slot_of narrowed ≡ atom.slot
  own_slot = slot ∙ slot_is seen ds ps ns rs keeps p atom.slot at domain there

  narrowed_is : IsDomain (more seen n truth) narrowed
  narrowed_is = record {
    exact = narrows ∙ ap (λ options. kept atom truth options) (options_are seen ds ps ns rs keeps p atom.slot at domain there ∙ ap (λ s. open_options seen s) (sym own_slot)) ∙ open_own seen n truth atom known (slot_of narrowed) own_slot;
    filled = filled;
  }

  other_slot : (i : ℕ) (d : SlotDomain) → i < length ds → (i ≡ p → ⊥) → slot_of (get_or ds i d) ≡ atom.slot → ⊥
  other_slot i d lt other same = other (keeps.places.once i p atom.slot (slot_at ds i d lt ∙ ap (λ (s : Slot). Some s) same) at)

  exact_more : (i : ℕ) (d : SlotDomain) → i < length ds → IsDomain (more seen n truth) (get_or (set ds p narrowed) i d)
  exact_more i d lt =
      let P : SlotDomain → Type 0 = λ e. IsDomain (more seen n truth) e in
      elim (cases_eq i p) [
        | inl same ↦ subst P (sym (ap (λ k. get_or (set ds p narrowed) k d) same ∙ get_or-set_same ds p narrowed d within)) narrowed_is
        | inr other ↦
            let old = keeps.exact i d lt in
            let stays : IsDomain (more seen n truth) (get_or ds i d) = record { exact = old.exact ∙ open_other seen n truth atom known law (slot_of (get_or ds i d)) (other_slot i d lt other); filled = old.filled } in
            subst P (sym (get_or-set_other ds p i narrowed d other)) stays
      ]

  slots_stay : map slot_of (set ds p narrowed) ≡ map slot_of ds
  slots_stay = slots-set ds p narrowed domain within (slot ∙ ap slot_of there)

  pub kept_more : IsKept (more seen n truth) (set ds p narrowed) ps ns (rs ++ domain ∷ [])
  kept_more =
      let xs = seen.assumptions in
      let x : ℕ × Bool = (n, truth) in
      let len = length-set ds p narrowed in
      let depth = keeps.replaced.depth in
      let longer = length_push xs x in
      let S : List Slot → Type 0 = λ ss. ArePlaces seen.problem.atoms ss ps in
      let N : List Slot → Type 0 = λ ss. AreNodePlaces seen.problem.graph ss ns in
      record {
        fits = keeps.fits;
        places = subst S (sym slots_stay) keeps.places;
        nodes = subst N (sym slots_stay) keeps.nodes;
        exact = λ i d lt. exact_more i d (omega arith);
        replaced = record {
          depth = length_push rs domain ∙ ap (λ k. k + 1) depth ∙ sym longer;
          on = λ k q d lt. elim (cases_lt k (length xs)) [
            | inl below ↦
                ap (λ (y : ℕ × Bool). option_map (λ (a : Atom). a.slot) (slice_get seen.problem.atoms y.0)) (get_or_append_left xs (x ∷ []) q k below)
                ∙ keeps.replaced.on k q d below
                ∙ ap (λ (e : SlotDomain). Some (slot_of e)) (sym (get_or_append_left rs (domain ∷ []) d k (omega arith)))
            | inr above ↦
                ap (λ (y : ℕ × Bool). option_map (λ (a : Atom). a.slot) (slice_get seen.problem.atoms y.0)) (get_or_push xs x q k (omega arith))
                ∙ ap (λ (o : Option Atom). option_map (λ (a : Atom). a.slot) o) known
                ∙ ap (λ (s : Slot). Some s) (sym (slot_is seen ds ps ns rs keeps p atom.slot at domain there))
                ∙ ap (λ (e : SlotDomain). Some (slot_of e)) (sym (get_or_push rs domain d k (omega arith)))
          ];
          domains = λ k d lt. elim (cases_lt k (length xs)) [
            | inl below ↦
                let P : SlotDomain → Type 0 = λ e. IsDomain (record seen { assumptions = take k (xs ++ x ∷ []) }) e in
                let Q : List (ℕ × Bool) → Type 0 = λ ys. IsDomain (record seen { assumptions = ys }) (get_or rs k d) in
                subst P (sym (get_or_append_left rs (domain ∷ []) d k (omega arith))) (subst Q (sym (take-append-le k xs (x ∷ []) (omega arith))) (keeps.replaced.domains k d below))
            | inr above ↦
                let P : SlotDomain → Type 0 = λ e. IsDomain (record seen { assumptions = take k (xs ++ x ∷ []) }) e in
                let Q : List (ℕ × Bool) → Type 0 = λ ys. IsDomain (record seen { assumptions = ys }) domain in
                subst P (sym (get_or_push rs domain d k (omega arith))) (subst Q (sym (take-append-le k xs (x ∷ []) (omega arith) ∙ take_all k xs (omega arith))) (domain_is seen ds ps ns rs keeps p atom.slot at domain there))
          ];
        };
      }

-- ---- an assumption goes

depth_of : (seen : Seen) (ds : List SlotDomain) (ps ns : List ℕ) (rs : List SlotDomain) (n : ℕ) (truth : Bool) (old : SlotDomain) → IsKept (more seen n truth) ds ps ns (rs ++ old ∷ []) → length rs ≡ length seen.assumptions
depth_of seen ds ps ns rs n truth old keeps =
    let x : ℕ × Bool = (n, truth) in
    let e = length_push seen.assumptions x in
    let f = length_push rs old in
    let g = keeps.replaced.depth in
    omega arith

-- the atom of the last assumption
last_atom : (seen : Seen) (ds : List SlotDomain) (ps ns : List ℕ) (rs : List SlotDomain) (n : ℕ) (truth : Bool) (old : SlotDomain) → IsKept (more seen n truth) ds ps ns (rs ++ old ∷ []) → (atom : Atom) × (slice_get seen.problem.atoms n ≡ Some atom) × (atom.slot ≡ slot_of old)
last_atom seen ds ps ns rs n truth old keeps =
    let xs = seen.assumptions in
    let x : ℕ × Bool = (n, truth) in
    let longer = length_push xs x in
    source (λ (a : Atom). a.slot) (slice_get seen.problem.atoms n) (slot_of old)
    (ap (λ (y : ℕ × Bool). option_map (λ (a : Atom). a.slot) (slice_get seen.problem.atoms y.0)) (sym (get_or_push xs x x (length xs) refl))
    ∙ keeps.replaced.on (length xs) x old (omega arith)
    ∙ ap (λ (e : SlotDomain). Some (slot_of e)) (get_or_push rs old old (length xs) (depth_of seen ds ps ns rs n truth old keeps)))

pub undo_known : (seen : Seen) (ds : List SlotDomain) (ps ns : List ℕ) (rs : List SlotDomain) (n : ℕ) (truth : Bool) (old : SlotDomain) → IsKept (more seen n truth) ds ps ns (rs ++ old ∷ []) → n < length ps
undo_known seen ds ps ns rs n truth old keeps =
    let l = last_atom seen ds ps ns rs n truth old keeps in
    let w = slice_get_within seen.problem.atoms n l.0 l.1 in
    let c = keeps.places.count in
    omega arith

module _ (law : SameSlotLaw) (seen : Seen) (ds : List SlotDomain) (ps ns : List ℕ) (rs : List SlotDomain) (n : ℕ) (truth : Bool) (old : SlotDomain) (p : ℕ) (keeps : IsKept (more seen n truth) ds ps ns (rs ++ old ∷ [])) (place : p ≡ get_or ps n p) where
  abbrev xs : List (ℕ × Bool)
  xs = seen.assumptions

  abbrev x : ℕ × Bool
  x = (n, truth)

  last : length xs < length (xs ++ x ∷ [])
  last = let e = length_push xs x in omega arith

  depth_is : length rs ≡ length xs
  depth_is = depth_of seen ds ps ns rs n truth old keeps

  abbrev last_on : (atom : Atom) × (slice_get seen.problem.atoms n ≡ Some atom) × (atom.slot ≡ slot_of old)
  last_on = last_atom seen ds ps ns rs n truth old keeps

  at_last : slice_get (map slot_of ds) p ≡ Some last_on.0.slot
  at_last = place_is (more seen n truth) ds ps ns (rs ++ old ∷ []) keeps n p last_on.0 last_on.1 place

  pub undo_within : p < length ds
  undo_within = at_within ds p last_on.0.slot at_last

  old_is : IsDomain seen old
  old_is =
      let P : SlotDomain → Type 0 = λ e. IsDomain (record seen { assumptions = take (length xs) (xs ++ x ∷ []) }) e in
      let Q : List (ℕ × Bool) → Type 0 = λ ys. IsDomain (record seen { assumptions = ys }) old in
      subst Q (take-append-le (length xs) xs (x ∷ []) (omega arith) ∙ take_all (length xs) xs (omega arith)) (subst P (get_or_push rs old old (length xs) depth_is) (keeps.replaced.domains (length xs) old last))

  apart_from : (i : ℕ) (d : SlotDomain) → i < length ds → (i ≡ p → ⊥) → slot_of (get_or ds i d) ≡ last_on.0.slot → ⊥
  apart_from i d lt other same = other (keeps.places.once i p last_on.0.slot (slot_at ds i d lt ∙ ap (λ (s : Slot). Some s) same) at_last)

  exact_less : (i : ℕ) (d : SlotDomain) → i < length ds → IsDomain seen (get_or (set ds p old) i d)
  exact_less i d lt =
      let P : SlotDomain → Type 0 = λ e. IsDomain seen e in
      elim (cases_eq i p) [
        | inl same ↦ subst P (sym (ap (λ k. get_or (set ds p old) k d) same ∙ get_or-set_same ds p old d undo_within)) old_is
        | inr other ↦
            let now = keeps.exact i d lt in
            let back : IsDomain seen (get_or ds i d) = record { exact = now.exact ∙ sym (open_other seen n truth last_on.0 last_on.1 law (slot_of (get_or ds i d)) (apart_from i d lt other)); filled = now.filled } in
            subst P (sym (get_or-set_other ds p i old d other)) back
      ]

  slots_back : map slot_of (set ds p old) ≡ map slot_of ds
  slots_back = slots-set ds p old old undo_within (sym last_on.2 ∙ sym (at_is ds p last_on.0.slot old at_last))

  pub kept_less : IsKept seen (set ds p old) ps ns rs
  kept_less =
      let len = length-set ds p old in
      let longer = length_push xs x in
      let S : List Slot → Type 0 = λ ss. ArePlaces seen.problem.atoms ss ps in
      let N : List Slot → Type 0 = λ ss. AreNodePlaces seen.problem.graph ss ns in
      record {
        fits = keeps.fits;
        places = subst S (sym slots_back) keeps.places;
        nodes = subst N (sym slots_back) keeps.nodes;
        exact = λ i d lt. exact_less i d (omega arith);
        replaced = record {
          depth = depth_is;
          on = λ k q d lt.
              ap (λ (y : ℕ × Bool). option_map (λ (a : Atom). a.slot) (slice_get seen.problem.atoms y.0)) (sym (get_or_append_left xs (x ∷ []) q k lt))
              ∙ keeps.replaced.on k q d (omega arith)
              ∙ ap (λ (e : SlotDomain). Some (slot_of e)) (get_or_append_left rs (old ∷ []) d k (omega (arith, depth_is)));
          domains = λ k d lt.
              let P : SlotDomain → Type 0 = λ e. IsDomain (record seen { assumptions = take k (xs ++ x ∷ []) }) e in
              let Q : List (ℕ × Bool) → Type 0 = λ ys. IsDomain (record seen { assumptions = ys }) (get_or rs k d) in
              subst Q (take-append-le k xs (x ∷ []) (omega arith)) (subst P (get_or_append_left rs (old ∷ []) d k (omega (arith, depth_is))) (keeps.replaced.domains k d (omega arith)));
        };
      }

-- ---- a new store

pub kept_new : (table : Table) (problem : Problem) (ds : List SlotDomain) (ps ns : List ℕ) → problem_fits table problem ≡ true → ArePlaces problem.atoms (map slot_of ds) ps → AreNodePlaces problem.graph (map slot_of ds) ns → AreFull table ds → IsKept (record { table = table; problem = problem; assumptions = [] }) ds ps ns []
kept_new table problem ds ps ns fits places nodes full = record {
  fits = fits;
  places = places;
  nodes = nodes;
  exact = λ i d lt. record {
    exact = full i d lt ∙ left_none table (slot_of (get_or ds i d));
    filled = (None, ap (λ (options : Options). options None) (full i d lt));
  };
  replaced = record {
    depth = refl;
    on = λ k p d lt. absurd (omega arith);
    domains = λ k d lt. absurd (omega arith);
  };
}
