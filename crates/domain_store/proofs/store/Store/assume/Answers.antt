use Rattle.std.proofs.Common.{◌≡◌, ℕ, Bool, List, [], ◌∷◌, ◌++◌, ◌<◌, length, set, ap, sym, ◌∙◌, subst, arith}
use Rattle.std.proofs.lemmas.List.{get_or_default}
use Rattle.key_table.specs.declared.atom.Verdict3.TheVariants.{Undecided}
use Rattle.interval_domains.specs.declared.domain.SlotDomain.{SlotDomain}
use Rattle.domain_store.specs.Stores.{Seen}
use Rattle.domain_store.specs.Kept.{IsKept}
use Rattle.domain_store.specs.Verdicts.{AtomHasVerdict}
use Rattle.domain_store.proofs.KeptLemmas.{read_at, some_at, at_within, fits_at, place_is, slot_is, options_are, open_for, kept_more}
use Rattle.domain_store.proofs.store.Store.assume.Goals as goal

pub index-requires : goal.index-requires
index-requires c =
    let seen : Seen = record { table = c.self.inside.table.now; problem = c.self.inside.problem.now; assumptions = c.self.inside.assumed.items } in
    let ds = c.self.inside.domains.items in
    let n = c.args.atom in
    let p = c.place_at-place.result in
    let Known : Seen → Type 0 = λ s. n < length s.problem.atoms in
    let here : n < length seen.problem.atoms = subst Known (sym c.self.view_is) c.requires.known in
    let there = some_at seen.problem.atoms n here in
    let w = at_within ds p there.0.slot (place_is seen ds _ _ _ c.self.invariant n p there.0 there.1 c.place_at-place.ensures) in
    omega (arith, w, c.self.inside.domains.ok.0)

pub index_mut-requires : goal.index_mut-requires
index_mut-requires c =
    let seen : Seen = record { table = c.self.inside.table.now; problem = c.self.inside.problem.now; assumptions = c.self.inside.assumed.items } in
    let ds = c.self.inside.domains.items in
    let n = c.args.atom in
    let p = c.place_at-place.result in
    let Known : Seen → Type 0 = λ s. n < length s.problem.atoms in
    let here : n < length seen.problem.atoms = subst Known (sym c.self.view_is) c.requires.known in
    let there = some_at seen.problem.atoms n here in
    let w = at_within ds p there.0.slot (place_is seen ds _ _ _ c.self.invariant n p there.0 there.1 c.place_at-place.ensures) in
    omega (arith, w, c.self.inside.domains.ok.0)

pub narrowed-requires-clause-fits : goal.narrowed-requires-clause-fits
narrowed-requires-clause-fits c =
    let seen : Seen = record { table = c.self.inside.table.now; problem = c.self.inside.problem.now; assumptions = c.self.inside.assumed.items } in
    let ds = c.self.inside.domains.items in
    let n = c.args.atom in
    let p = c.place_at-place.result in
    let Known : Seen → Type 0 = λ s. n < length s.problem.atoms in
    let here : n < length seen.problem.atoms = subst Known (sym c.self.view_is) c.requires.known in
    let atom = c.index-as_slice-atom.result in
    let there = read_at seen.problem.atoms c.as_slice.result.now n atom here c.index-as_slice-atom.is c.as_slice.ensures in
    let at = place_is seen ds _ _ _ c.self.invariant n p atom there c.place_at-place.ensures in
    fits_at seen ds _ _ _ c.self.invariant n atom there

pub narrowed-requires-clause-own : goal.narrowed-requires-clause-own
narrowed-requires-clause-own c =
    let seen : Seen = record { table = c.self.inside.table.now; problem = c.self.inside.problem.now; assumptions = c.self.inside.assumed.items } in
    let ds = c.self.inside.domains.items in
    let n = c.args.atom in
    let p = c.place_at-place.result in
    let Known : Seen → Type 0 = λ s. n < length s.problem.atoms in
    let here : n < length seen.problem.atoms = subst Known (sym c.self.view_is) c.requires.known in
    let atom = c.index-as_slice-atom.result in
    let there = read_at seen.problem.atoms c.as_slice.result.now n atom here c.index-as_slice-atom.is c.as_slice.ensures in
    let at = place_is seen ds _ _ _ c.self.invariant n p atom there c.place_at-place.ensures in
    sym (slot_is seen ds _ _ _ c.self.invariant p atom.slot at c.index.result.now c.index.ensures)

pub narrowed-requires-clause-open : goal.narrowed-requires-clause-open
narrowed-requires-clause-open c =
    let seen : Seen = record { table = c.self.inside.table.now; problem = c.self.inside.problem.now; assumptions = c.self.inside.assumed.items } in
    let ds = c.self.inside.domains.items in
    let n = c.args.atom in
    let p = c.place_at-place.result in
    let Known : Seen → Type 0 = λ s. n < length s.problem.atoms in
    let here : n < length seen.problem.atoms = subst Known (sym c.self.view_is) c.requires.known in
    let atom = c.index-as_slice-atom.result in
    let there = read_at seen.problem.atoms c.as_slice.result.now n atom here c.index-as_slice-atom.is c.as_slice.ensures in
    let at = place_is seen ds _ _ _ c.self.invariant n p atom there c.place_at-place.ensures in
    let Open : Seen → Type 0 = λ s. AtomHasVerdict s n Undecided in
    open_for c.left_law.ensures.options seen n atom c.args.truth _ there (options_are seen ds _ _ _ c.self.invariant p atom.slot at c.index.result.now c.index.ensures) (subst Open (sym c.self.view_is) c.requires.undecided)

pub invariant_of-self-2 : goal.invariant_of-self-2
invariant_of-self-2 c =
    let seen : Seen = record { table = c.self.inside.table.now; problem = c.self.inside.problem.now; assumptions = c.self.inside.assumed.items } in
    let ds = c.self.inside.domains.items in
    let n = c.args.atom in
    let p = c.place_at-place.result in
    let Known : Seen → Type 0 = λ s. n < length s.problem.atoms in
    let here : n < length seen.problem.atoms = subst Known (sym c.self.view_is) c.requires.known in
    let atom = c.index-as_slice-atom.result in
    let there = read_at seen.problem.atoms c.as_slice.result.now n atom here c.index-as_slice-atom.is c.as_slice.ensures in
    let at = place_is seen ds _ _ _ c.self.invariant n p atom there c.place_at-place.ensures in
    let ps = c.self.inside.places.items in
    let ns = c.self.inside.node_places.items in
    let rs = c.self.inside.replaced.items in
    let truth = c.args.truth in
    let domain = c.index.result.now in
    let narrowed = c.in_ok-narrowed.narrowed in
    let old = c.replace-old.result in
    let within = at_within ds p atom.slot at in
    let value : old ≡ c.index_mut.result.now = c.replace-old.ensures.value in
    let same : old ≡ domain = value ∙ c.index_mut.ensures.value ∙ get_or_default ds p c.index_mut.result.now domain within ∙ sym c.index.ensures in
    let keeps = kept_more c.slot_law.ensures.same seen ds ps ns rs c.self.invariant n p atom there at domain c.index.ensures truth narrowed c.in_ok-narrowed.ensures.slot c.in_ok-narrowed.ensures.kept c.in_ok-narrowed.ensures.filled in
    let xs : c.push.new.self.items ≡ seen.assumptions ++ (n, truth) ∷ [] = c.in_ok-push.ensures.items in
    let after : c.replace-old.new.dest ≡ narrowed = c.replace-old.ensures.after in
    let pushed : c.push-2.new.self.items ≡ rs ++ domain ∷ [] = c.in_ok-push-2.ensures.items ∙ ap (λ (r : List SlotDomain). r ++ old ∷ []) c.reserve.ensures.items ∙ ap (λ (d : SlotDomain). rs ++ d ∷ []) same in
    let P : List (ℕ × Bool) → Type 0 = λ xs. IsKept (record seen { assumptions = xs }) (set ds p narrowed) ps ns (rs ++ domain ∷ []) in
    let Q : SlotDomain → Type 0 = λ d. IsKept (record seen { assumptions = c.push.new.self.items }) (set ds p d) ps ns (rs ++ domain ∷ []) in
    let R : List SlotDomain → Type 0 = λ r. IsKept (record seen { assumptions = c.push.new.self.items }) (set ds p c.replace-old.new.dest) ps ns r in
    subst R (sym pushed) (subst Q (sym after) (subst P (sym xs) keeps))
