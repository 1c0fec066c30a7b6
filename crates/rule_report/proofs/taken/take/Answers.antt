use Rattle.std.proofs.Common.{◌≡◌, ◌<◌, ◌++◌, ◌∷◌, [], ℕ, List, length, Option, Some, None, slice_get, refl, ap, ◌∙◌, arith}
use Rattle.std.proofs.lemmas.Option.{slice_get_read}
use Rattle.key_table.specs.declared.atom.Atom.{Atom}
use Rattle.rule_report.proofs.Images.{there_at}
use Rattle.rule_report.proofs.TakenLemmas.{taken_more, taken_first, taken_again, said_one, get_last, none-from}
use Rattle.rule_report.proofs.taken.take.Goals as goal

pub returns-in-Some-clause-atoms : goal.returns-in-Some-clause-atoms
returns-in-Some-clause-atoms c =
    let less : c.args.place < length c.args.taken.now.numbers.items = omega (arith, c.requires.taken.one_each, c.requires.within) in
    let known : slice_get c.args.taken.now.numbers.items c.args.place ≡ Some (Some c.in-Some.known) = slice_get_read c.args.taken.now.numbers.items (length c.args.taken.now.numbers.items) c.args.place c.index.result.now refl less c.index.ensures ∙ ap (λ (o : Option ℕ). Some o) c.in-Some.is in
    let there = there_at c.args.shared.now c.args.place c.requires.within in
    taken_again c.args.shared.now c.args.taken.now c.args.place c.in-Some.known there.0 c.requires.taken known there.1

pub returns-in-Some-clause-said : goal.returns-in-Some-clause-said
returns-in-Some-clause-said c =
    let less : c.args.place < length c.args.taken.now.numbers.items = omega (arith, c.requires.taken.one_each, c.requires.within) in
    let known : slice_get c.args.taken.now.numbers.items c.args.place ≡ Some (Some c.in-Some.known) = slice_get_read c.args.taken.now.numbers.items (length c.args.taken.now.numbers.items) c.args.place c.index.result.now refl less c.index.ensures ∙ ap (λ (o : Option ℕ). Some o) c.in-Some.is in
    let there = there_at c.args.shared.now c.args.place c.requires.within in
    said_one c.args.shared.now c.args.taken.now.atoms c.args.place c.in-Some.known there.0 there.1 (c.requires.taken.right c.args.place c.in-Some.known there.0 known there.1)

pub returns-clause-taken : goal.returns-clause-taken
returns-clause-taken c =
    let at = slice_get_read c.args.shared.now (length c.args.shared.now) c.args.place c.index-shared-place.result refl c.requires.within c.index-shared-place.is in
    let next : c.in_ok-next.next ≡ length c.args.taken.now.atoms = c.in_ok-next.ensures ∙ ap {A = List Atom} length c.as_slice.ensures in
    taken_more c.atom_law.ensures c.args.shared.now c.args.taken.now _ c.args.place c.index-shared-place.result c.requires.taken at
    (c.in_ok-push.ensures.ok ∙ ap (λ (x : Atom). c.args.taken.now.atoms ++ x ∷ []) c.in_ok-copy.ensures)
    (rw next refl)

pub returns-clause-atoms : goal.returns-clause-atoms
returns-clause-atoms c =
    let less : c.args.place < length c.args.taken.now.numbers.items = omega (arith, c.requires.taken.one_each, c.requires.within) in
    let none = none-from _ c.in_default.not-Some in
    let unknown : slice_get c.args.taken.now.numbers.items c.args.place ≡ Some None = slice_get_read c.args.taken.now.numbers.items (length c.args.taken.now.numbers.items) c.args.place c.index.result.now refl less c.index.ensures ∙ ap (λ (o : Option ℕ). Some o) none in
    let at = slice_get_read c.args.shared.now (length c.args.shared.now) c.args.place c.index-shared-place.result refl c.requires.within c.index-shared-place.is in
    taken_first c.args.shared.now c.args.taken.now c.push.new.self c.args.place c.index-shared-place.result c.requires.taken unknown at
    (c.in_ok-push.ensures.ok ∙ ap (λ (x : Atom). c.args.taken.now.atoms ++ x ∷ []) c.in_ok-copy.ensures)

pub returns-clause-said : goal.returns-clause-said
returns-clause-said c =
    let at = slice_get_read c.args.shared.now (length c.args.shared.now) c.args.place c.index-shared-place.result refl c.requires.within c.index-shared-place.is in
    let next : c.in_ok-next.next ≡ length c.args.taken.now.atoms = c.in_ok-next.ensures ∙ ap {A = List Atom} length c.as_slice.ensures in
    let push = c.in_ok-push.ensures.ok ∙ ap (λ (x : Atom). c.args.taken.now.atoms ++ x ∷ []) c.in_ok-copy.ensures in
    said_one c.args.shared.now c.push.new.self c.args.place c.in_ok-next.next c.index-shared-place.result at
    (ap (λ (z : List Atom). slice_get z c.in_ok-next.next) push ∙ ap (slice_get (c.args.taken.now.atoms ++ c.index-shared-place.result ∷ [])) next ∙ get_last c.args.taken.now.atoms c.index-shared-place.result)
