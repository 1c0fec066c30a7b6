use Rattle.std.proofs.Common.{ℕ, Bool, List, sym, subst, arith}
use Rattle.interval_domains.specs.declared.domain.SlotDomain.{SlotDomain}
use Rattle.domain_store.specs.Stores.{Seen, more}
use Rattle.domain_store.specs.Kept.{IsKept}
use Rattle.domain_store.proofs.KeptLemmas.{kept_less, undo_known, undo_within}
use Rattle.domain_store.proofs.store.Store.undo.Goals as goal

pub place_at-place-requires : goal.place_at-place-requires
place_at-place-requires c =
    let ds = c.self.inside.domains.items in
    let ps = c.self.inside.places.items in
    let ns = c.self.inside.node_places.items in
    let n = c.in-Some-Some.atom in
    let truth = c.in-Some-Some.field-0-1-0 in
    let seen : Seen = record { table = c.self.inside.table.now; problem = c.self.inside.problem.now; assumptions = c.pop.new.self.items } in
    let P : List (ℕ × Bool) → Type 0 = λ xs. IsKept (record seen { assumptions = xs }) ds ps ns c.self.inside.replaced.items in
    let Q : List SlotDomain → Type 0 = λ rs. IsKept (more seen n truth) ds ps ns rs in
    let w = undo_known seen ds ps ns c.pop-2.new.self.items n truth c.in-Some-Some.old (subst Q c.in-Some-Some.ensures'.items (subst P c.in-Some-Some.ensures.items c.self.invariant)) in
    omega (arith, w, c.self.inside.places.ok.0)

pub put_back-requires : goal.put_back-requires
put_back-requires c =
    let ds = c.self.inside.domains.items in
    let ps = c.self.inside.places.items in
    let ns = c.self.inside.node_places.items in
    let n = c.in-Some-Some.atom in
    let truth = c.in-Some-Some.field-0-1-0 in
    let seen : Seen = record { table = c.self.inside.table.now; problem = c.self.inside.problem.now; assumptions = c.pop.new.self.items } in
    let P : List (ℕ × Bool) → Type 0 = λ xs. IsKept (record seen { assumptions = xs }) ds ps ns c.self.inside.replaced.items in
    let Q : List SlotDomain → Type 0 = λ rs. IsKept (more seen n truth) ds ps ns rs in
    let w = undo_within c.slot_law.ensures.same seen ds ps ns c.pop-2.new.self.items n truth c.in-Some-Some.old c.place_at-place.result
    (subst Q c.in-Some-Some.ensures'.items (subst P c.in-Some-Some.ensures.items c.self.invariant)) c.place_at-place.ensures in
    omega (arith, w, c.self.inside.domains.ok.0)

pub invariant_of-self : goal.invariant_of-self
invariant_of-self c =
    let ds = c.self.inside.domains.items in
    let ps = c.self.inside.places.items in
    let ns = c.self.inside.node_places.items in
    let n = c.in-Some-Some.atom in
    let truth = c.in-Some-Some.field-0-1-0 in
    let seen : Seen = record { table = c.self.inside.table.now; problem = c.self.inside.problem.now; assumptions = c.pop.new.self.items } in
    let P : List (ℕ × Bool) → Type 0 = λ xs. IsKept (record seen { assumptions = xs }) ds ps ns c.self.inside.replaced.items in
    let Q : List SlotDomain → Type 0 = λ rs. IsKept (more seen n truth) ds ps ns rs in
    let S : List SlotDomain → Type 0 = λ xs. IsKept seen xs ps ns c.pop-2.new.self.items in
    subst S (sym c.put_back.ensures) (
    kept_less c.slot_law.ensures.same seen ds ps ns c.pop-2.new.self.items n truth c.in-Some-Some.old c.place_at-place.result
    (subst Q c.in-Some-Some.ensures'.items (subst P c.in-Some-Some.ensures.items c.self.invariant)) c.place_at-place.ensures)
