-- The payment of the picks of a store.
use Rattle.std.proofs.Common.{◌≡◌, ℕ, zero, suc, ◌+◌, ◌<◌, List, [], ◌∷◌, length, map, get_or, take, Bool, true, Option, Some, None, Result, Ok, Err, OnOk, IfOk, option_map, slice_get, inl, inr, refl, ap, sym, ◌∙◌, subst, arith}
use Rattle.std.specs.List.{All, Contains, cons_option}
use Rattle.std.proofs.lemmas.Bool.{cases_lt, cond-true, cond-false, false_from_ne_true, and_parts}
use Rattle.std.proofs.lemmas.List.{get_or_default, get_or-take, length-take-le}
use Rattle.key_table.specs.declared.slot.Slot.{Slot}
use Rattle.key_table.specs.declared.slot.Datum.{Datum}
use Rattle.key_table.specs.declared.atom.Atom.{Atom}
use Rattle.key_table.specs.Contexts.{Assumption, Context, AssumedLaw, LeftLaw, assume, left, meets}
use Rattle.key_table.specs.OptionSets.{Options, HasOption}
use Rattle.key_table.specs.Options.{is_option}
use Rattle.key_table.specs.Payments.{Entries, PutLaw, PutLegalLaw, value_of, with_value, is_legal}
use Rattle.key_table.specs.Slots.{SameSlotLaw}
use Rattle.key_table.specs.Tables.{Table, datum_fits}
use Rattle.interval_domains.specs.declared.domain.SlotDomain.{SlotDomain}
use Rattle.interval_domains.specs.Members.{members, slot_of}
use Rattle.interval_domains.specs.Picks.{IsPick}
use Rattle.domain_store.specs.Kept.{StandOnce, IsKept}
use Rattle.domain_store.specs.PickedPayments.{with_pick, IsPayment, ArePicks, FitsAt, AreFitting}
use Rattle.domain_store.specs.StoreLaws.{PaymentLaw, AssumedInLaw}
use Rattle.domain_store.specs.Stores.{Seen, assumed, context_of, open_options}
use Rattle.domain_store.proofs.ContextLemmas.{element, equal_slot, slot_itself, stands, stands_at}
use Rattle.domain_store.proofs.KeptLemmas.{slot_at, at_within, at_is}

pub on_ok_then : {T E : Type 0} (P Q : Type 0) (r : Result T E) → OnOk r P → (P → Q) → OnOk r Q
on_ok_then P Q (Ok x) h f = f h
on_ok_then P Q (Err e) h f = tt

pub ok_both : {T E : Type 0} (P L Q : T → Type 0) (r : Result T E) → IfOk r P → IfOk r L → ((x : T) → P x → L x → Q x) → IfOk r Q
ok_both P L Q (Ok x) h l f = f x h l
ok_both P L Q (Err e) h l f = tt

-- ---- what stands at a slot after a put

pub put_own : PutLaw → (es es' : Entries) (s slot : Slot) (datum : Datum) → s ≡ slot → es' ≡ with_value es s datum → value_of slot es' ≡ Some datum
put_own law es es' s slot datum same is = ap (λ (e : Entries). value_of slot e) is ∙ law es s slot datum ∙ cond-true _ (Some datum) (value_of slot es) (slot_itself slot s (sym same))

pub put_other : SameSlotLaw → PutLaw → (es es' : Entries) (s slot t : Slot) (datum : Datum) → s ≡ slot → es' ≡ with_value es s datum → (t ≡ slot → ⊥) → value_of t es' ≡ value_of t es
put_other same_law law es es' s slot t datum same is apart =
    ap (λ (e : Entries). value_of t e) is ∙ law es s t datum ∙ cond-false _ (Some datum) (value_of t es) (false_from_ne_true _ (λ e. apart (equal_slot same_law t s e ∙ same)))

pub picked_own : PutLaw → (es es' : Entries) (slot : Slot) (o : Option Datum) → value_of slot es ≡ None → es' ≡ with_pick es slot o → value_of slot es' ≡ o
picked_own law es es' slot None fresh is = ap (λ (e : Entries). value_of slot e) is ∙ fresh
picked_own law es es' slot (Some datum) fresh is = put_own law es es' slot slot datum refl is

pub picked_other : SameSlotLaw → PutLaw → (es es' : Entries) (slot t : Slot) (o : Option Datum) → es' ≡ with_pick es slot o → (t ≡ slot → ⊥) → value_of t es' ≡ value_of t es
picked_other same_law law es es' slot t None is apart = ap (λ (e : Entries). value_of t e) is
picked_other same_law law es es' slot t (Some datum) is apart = put_other same_law law es es' slot slot t datum refl is apart

pub picked_legal : PutLegalLaw → (table : Table) (es es' : Entries) (domain : SlotDomain) (o : Option Datum) → FitsAt table domain → IsPick (members domain) o → es' ≡ with_pick es (slot_of domain) o → is_legal table es ≡ true → is_legal table es' ≡ true
picked_legal law table es es' domain None fits pick is legal = ap (λ (e : Entries). is_legal table e) is ∙ legal
picked_legal law table es es' domain (Some datum) fits pick is legal =
    ap (λ (e : Entries). is_legal table e) is ∙ law table es (slot_of domain) datum (fits datum pick.1) legal

-- ---- picks, domain by domain

-- domains at two places have two slots
apart_at : (ds : List SlotDomain) (i j : ℕ) (d : SlotDomain) → StandOnce (map slot_of ds) → i < length ds → j < length ds → slot_of (get_or ds i d) ≡ slot_of (get_or ds j d) → i ≡ j
apart_at ds i j d once in_i in_j same = once i j (slot_of (get_or ds j d)) (slot_at ds i d in_i ∙ ap (λ (s : Slot). Some s) same) (slot_at ds j d in_j)

pub picks_fresh : (ds : List SlotDomain) (i : ℕ) (d : SlotDomain) (es : Entries) → i < length ds → d ≡ get_or ds i d → StandOnce (map slot_of ds) → ArePicks (take i ds) es → value_of (slot_of d) es ≡ None
picks_fresh ds i d es lt is once so_far =
    let len = length-take-le i ds (omega arith) in
    so_far.others (slot_of d) (λ j e below same.
    let k : j < i = omega arith in
    let there : slot_of (get_or ds i e) ≡ slot_of (get_or ds j e) = ap slot_of (get_or_default ds i e d lt ∙ sym is) ∙ same ∙ ap slot_of (get_or-take i ds j e k) in
    let equal = apart_at ds i j e once lt (omega arith) there in
    omega arith)

pub picks_more : (ds : List SlotDomain) (i : ℕ) (d : SlotDomain) (es es' : Entries) → i < length ds → d ≡ get_or ds i d → StandOnce (map slot_of ds) → ArePicks (take i ds) es
    → IsPick (members d) (value_of (slot_of d) es') → ((t : Slot) → (t ≡ slot_of d → ⊥) → value_of t es' ≡ value_of t es) → ArePicks (take (i + 1) ds) es'
picks_more ds i d es es' lt is once so_far own others =
    let len = length-take-le i ds (omega arith) in
    let len' = length-take-le (i + 1) ds (omega arith) in
    let at_i = λ (e : SlotDomain). get_or_default ds i e d lt ∙ sym is in
    record {
      picks = λ j e within.
          let P : SlotDomain → Type 0 = λ x. IsPick (members x) (value_of (slot_of x) es') in
          elim (cases_lt j i) [
            | inl below ↦
                let apart : slot_of (get_or ds j e) ≡ slot_of d → ⊥ = λ same. (let equal = apart_at ds j i e once (omega arith) lt (same ∙ sym (ap slot_of (at_i e))) in absurd (omega arith)) in
                let Q : Option Datum → Type 0 = λ o. IsPick (members (get_or ds j e)) o in
                let R : SlotDomain → Type 0 = λ x. IsPick (members x) (value_of (slot_of x) es) in
                subst P (sym (get_or-take (i + 1) ds j e (omega arith))) (subst Q (sym (others (slot_of (get_or ds j e)) apart)) (subst R (get_or-take i ds j e below) (so_far.picks j e (omega arith))))
            | inr above ↦
                let equal : j ≡ i = omega arith in
                subst P (sym (get_or-take (i + 1) ds j e (omega arith) ∙ ap (λ k. get_or ds k e) equal ∙ at_i e)) own
          ];
      others = λ slot none.
          others slot (λ same. none i d (omega arith) (same ∙ ap slot_of (is ∙ sym (get_or-take (i + 1) ds i d (omega arith)))))
          ∙ so_far.others slot (λ j e within same. none j e (omega arith) (same ∙ ap slot_of (get_or-take i ds j e (omega arith) ∙ sym (get_or-take (i + 1) ds j e (omega arith)))));
    }

-- what is there is an option
pub pick_in : (options : Options) (o : Option Datum) → IsPick options o → options o ≡ true
pick_in options None h = h
pick_in options (Some d) h = h.1

-- ---- the payment of a store

fits_left : (seen : Seen) (slot : Slot) (datum : Datum) → open_options seen slot (Some datum) ≡ true → datum_fits seen.table slot datum ≡ true
unfolding left
fits_left seen slot datum h = (and_parts (is_option seen.table slot (Some datum)) (meets (context_of seen) slot (Some datum)) h).0

pub are_fitting : (seen : Seen) (ds : List SlotDomain) (ps ns : List ℕ) (rs : List SlotDomain) → IsKept seen ds ps ns rs → AreFitting seen.table ds
are_fitting seen ds ps ns rs keeps i d lt datum h =
    fits_left seen (slot_of (get_or ds i d)) datum (sym (ap (λ (options : Options). options (Some datum)) (keeps.exact i d lt).exact) ∙ h)

pub are_filled : (seen : Seen) (ds : List SlotDomain) (ps ns : List ℕ) (rs : List SlotDomain) → IsKept seen ds ps ns rs → All (λ (d : SlotDomain). HasOption (members d)) ds
are_filled seen ds ps ns rs keeps i d lt = (keeps.exact i d lt).filled

pub payment_is : (seen : Seen) (ds : List SlotDomain) (ps ns : List ℕ) (rs : List SlotDomain) (es : Entries) → IsKept seen ds ps ns rs → ArePicks ds es → ((table : Table) → AreFitting table ds → is_legal table es ≡ true) → IsPayment seen es
payment_is seen ds ps ns rs es keeps picks legal = record {
  legal = legal seen.table (are_fitting seen ds ps ns rs keeps);
  picks = λ atom there.
      let p = get_or ps there.0 0 in
      let at = keeps.places.at there.0 atom (stands_at seen.problem.atoms atom there) in
      let within = at_within ds p atom.slot at in
      let d = element ds p within in
      let P : Options → Type 0 = λ options. IsPick options (value_of (slot_of (get_or ds p d)) es) in
      let Q : Slot → Type 0 = λ s. IsPick (open_options seen s) (value_of s es) in
      subst Q (at_is ds p atom.slot d at) (subst P (keeps.exact p d within).exact (picks.picks p d within));
  others = λ slot none. picks.others slot (λ i d within same.
      let o = keeps.places.owned i (slot_of (get_or ds i d)) (slot_at ds i d within) in
      none o.1 (stands seen.problem.atoms o.0 o.1 o.2) (same ∙ sym o.3));
}

-- ---- laws

pub forced_in : LeftLaw → PaymentLaw
forced_in law seen payment atom truth is there forced =
    let o = value_of atom.slot payment in
    forced o ((law seen.table (context_of seen) atom.slot o).0 (pick_in (open_options seen atom.slot) o (is.picks atom there)))

named_first : (atoms : List Atom) (x : ℕ × Bool) (atom : Atom) (rest : Context) (a : Assumption) → slice_get atoms x.0 ≡ Some atom → (Contains rest a → Contains atoms a.atom) → (k : ℕ) → k < length (assume atom x.1 ∷ rest) → get_or (assume atom x.1 ∷ rest) k a ≡ a → Contains atoms a.atom
named_first atoms x atom rest a known later zero within is = let P : Atom → Type 0 = λ b. Contains atoms b in subst P (ap (λ (b : Assumption). b.atom) is) (stands atoms x.0 atom known)
named_first atoms x atom rest a known later (suc k) within is = later (k, omega arith, is)

-- the atoms of assumptions are the problem's
named : (atoms : List Atom) (xs : List (ℕ × Bool)) (a : Assumption) → Contains (assumed atoms xs) a → Contains atoms a.atom
named atoms [] a there = absurd (omega (arith, there.1))
named atoms (x ∷ xs) a there =
    elim (slice_get atoms x.0) as (λ (o : Option Atom). slice_get atoms x.0 ≡ o → Contains (cons_option (option_map (λ atom. assume atom x.1) o) (assumed atoms xs)) a → Contains atoms a.atom) [
      | None ↦ (λ is c. named atoms xs a c)
      | Some atom ↦ (λ is c. named_first atoms x atom (assumed atoms xs) a is (named atoms xs a) c.0 c.1 c.2)
    ] refl there

pub assumed_in : LeftLaw → AssumedLaw → AssumedInLaw
assumed_in law forces seen payment a is there =
    forced_in law seen payment a.atom a.truth is (named seen.problem.atoms seen.assumptions a there) (forces seen.table (context_of seen) a.atom a.truth there)
