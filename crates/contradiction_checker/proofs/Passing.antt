-- What stays as it was while assumptions come, go and turn.
use Rattle.std.proofs.Common.{◌≡◌, ◌≢◌, ℕ, zero, suc, ◌+◌, ◌≤◌, List, [], ◌∷◌, ◌++◌, append-nil, length, take, get_or, Bool, true, false, cond, ap, sym, ◌∙◌, subst, arith}
use Rattle.std.proofs.Math.ListN.{set}
use Rattle.std.proofs.lemmas.Bool.{ltb-true, false≢true}
use Rattle.std.proofs.lemmas.List.{get_or_default}
use Rattle.std.proofs.lemmas.List.Elements.{filter-append}
use Rattle.key_table.specs.declared.atom.Atom.{Atom}
use Rattle.key_table.specs.declared.slot.Slot.{Slot}
use Rattle.key_table.specs.Slots.{SameSlotLaw}
use Rattle.contradiction_checker.specs.declared.options.Assumed.{Assumed}
use Rattle.contradiction_checker.specs.declared.trail.Trail.{Trail}
use Rattle.contradiction_checker.specs.Assumed.{is_on, assumed_on}
use Rattle.contradiction_checker.specs.Chains.{chain_of, chain_at, is_in}
use Rattle.contradiction_checker.specs.Findings.{has_stayed}
use Rattle.contradiction_checker.specs.Trails.{Passes}
use Rattle.contradiction_checker.specs.Turning.{with_truth}
use Rattle.contradiction_checker.proofs.Gathered.{not_on}
use Rattle.contradiction_checker.proofs.LastOnes.{last_apart, last_set}
use Rattle.contradiction_checker.proofs.Linked.{eqb-other}

-- Where one chain changed now, a chain that stayed since before is another one, and had stayed.
set_stayed : (changed : List ℕ) (chain now c time : ℕ) → time ≤ now → has_stayed (set changed chain now) c time ≡ true → (c ≢ chain) × (has_stayed changed c time ≡ true)
set_stayed [] chain now c time past stayed = absurd (false≢true stayed)
set_stayed (x ∷ changed) zero now zero time past stayed = absurd (omega (arith, past, ltb-true now time stayed))
set_stayed (x ∷ changed) zero now (suc c) time past stayed = (λ is. absurd (omega (arith, is)), stayed)
set_stayed (x ∷ changed) (suc chain) now zero time past stayed = (λ is. absurd (omega (arith, is)), stayed)
set_stayed (x ∷ changed) (suc chain) now (suc c) time past stayed =
    let rest = set_stayed changed chain now c time past stayed in
    (λ is. rest.0 (omega (arith, is)), rest.1)

-- Time passes where the chain of an atom changed, and the assumptions on the slots of other chains stay.
pub passes_by : (atoms : List Atom) (old : Trail) {new : Trail} (x : ℕ) → old.time ≤ new.time → new.last_chain ≡ old.last_chain → new.changed.items ≡ set old.changed.items (chain_at atoms old.last_chain x) old.time → ((slot : Slot) → is_in atoms old.last_chain (chain_of old.last_chain slot) x ≡ false → assumed_on atoms slot new.assumed.items ≡ assumed_on atoms slot old.assumed.items) → Passes atoms old new
passes_by atoms old {new} x later chains dated others =
    let chain = chain_at atoms old.last_chain x in
    let apart : (c time : ℕ) → time ≤ old.time → has_stayed new.changed.items c time ≡ true → (c ≢ chain) × (has_stayed old.changed.items c time ≡ true) = λ c time past stayed.
    let P : List ℕ → Type 0 = λ l. has_stayed l c time ≡ true in
    set_stayed old.changed.items chain old.time c time past (subst P dated stayed) in
    record {
      later = later;
      chains = chains;
      stayed = λ c time past stayed. (apart c time past stayed).1;
      same = λ slot time past stayed. others slot (eqb-other chain (chain_of old.last_chain slot) (λ is. (apart (chain_of old.last_chain slot) time past stayed).0 (sym is)));
    }

pub passes_more : (atoms : List Atom) (first old : Trail) {new : Trail} → Passes atoms first old → Passes atoms old new → Passes atoms first new
passes_more atoms first old {new} one other =
    let had : (c time : ℕ) → time ≤ first.time → has_stayed new.changed.items c time ≡ true → has_stayed old.changed.items c time ≡ true = λ c time past stayed. other.stayed c time (omega (arith, past, one.later)) stayed in
    record {
      later = omega (arith, one.later, other.later);
      chains = other.chains ∙ one.chains;
      stayed = λ c time past stayed. one.stayed c time past (had c time past stayed);
      same = λ slot time past stayed.
          let P : ℕ → Type 0 = λ n. has_stayed new.changed.items (chain_of n slot) time ≡ true in
          other.same slot time (omega (arith, past, one.later)) (subst P (sym one.chains) stayed)
          ∙ one.same slot time past (had (chain_of first.last_chain slot) time past stayed);
    }

-- an assumption of another chain is not on the slot
pub pushed_same : SameSlotLaw → (atoms : List Atom) (count : ℕ) (slot : Slot) (assumed : List Assumed) (x : ℕ) (truth : Bool) → is_in atoms count (chain_of count slot) x ≡ false → assumed_on atoms slot (assumed ++ with_truth x truth ∷ []) ≡ assumed_on atoms slot assumed
pushed_same law atoms count slot assumed x truth other =
    let a : Assumed = with_truth x truth in
    filter-append (is_on atoms slot) assumed (a ∷ [])
    ∙ ap (λ (b : Bool). assumed_on atoms slot assumed ++ cond b (a ∷ []) []) (not_on law atoms count slot a other)
    ∙ append-nil (assumed_on atoms slot assumed)

pub popped_same : SameSlotLaw → (atoms : List Atom) (count : ℕ) (slot : Slot) (assumed : List Assumed) (n : ℕ) (a : Assumed) → length assumed ≡ n + 1 → a ≡ get_or assumed n a → is_in atoms count (chain_of count slot) a.atom ≡ false → assumed_on atoms slot (take n assumed) ≡ assumed_on atoms slot assumed
popped_same law atoms count slot assumed n a has at_a other =
    sym (pushed_same law atoms count slot (take n assumed) a.atom a.truth other)
    ∙ sym (ap (assumed_on atoms slot) (last_apart assumed n a has ∙ ap (λ (e : Assumed). take n assumed ++ e ∷ []) (sym at_a)))

pub turned_same : SameSlotLaw → (atoms : List Atom) (count : ℕ) (slot : Slot) (assumed : List Assumed) (n : ℕ) (a m v : Assumed) → length assumed ≡ n + 1 → a ≡ get_or assumed n a → m ≡ get_or assumed n m → v ≡ with_truth m.atom false → is_in atoms count (chain_of count slot) a.atom ≡ false → assumed_on atoms slot (set assumed n v) ≡ assumed_on atoms slot assumed
turned_same law atoms count slot assumed n a m v has at_a at_m falsified other =
    let same = at_m ∙ get_or_default assumed n m a (omega (arith, has)) ∙ sym at_a in
    let is : v ≡ with_truth a.atom false = falsified ∙ ap (λ (e : Assumed). with_truth e.atom false) same in
    ap (assumed_on atoms slot) (last_set assumed n v has ∙ ap (λ (e : Assumed). take n assumed ++ e ∷ []) is)
    ∙ pushed_same law atoms count slot (take n assumed) a.atom false other
    ∙ popped_same law atoms count slot assumed n a has at_a other
