use Rattle.std.proofs.Common.{◌≡◌, ◌+◌, ◌-◌, ◌∷◌, [], ◌++◌, List, length, append_assoc, ap, ◌∙◌, sym, arith, true, false, subst}
use Rattle.rule_problem.specs.declared.certificate.Item.{Item}
use Rattle.rule_problem.specs.declared.certificate.Item.TheVariants.{Split}
use Rattle.domain_store.specs.Stores.{Seen, more}
use Rattle.rule_search.specs.Finding.{Refutes, CutsShort}
use Rattle.rule_search.specs.Retracing.{ProvesFrom, items_in}
use Rattle.rule_search.proofs.Joins.{never_at, spent_at, begun_length, left_cut, right_cut, both_refute, alone}
use Rattle.rule_search.proofs.solving.+solve.Goals as goal

pub branch-returns-in-Spent : goal.branch-returns-in-Spent
branch-returns-in-Spent t c =
    let left = spent_at (more c.args.store.now c.args.atom true) c.args.store.now c.side.new.store c.args.budget c.explore.new.work.items.items c.side.new.work.items.items c.in_ok-left.field-0 c.in-Spent.is c.in_ok-left.ensures in (
      left.0,
      left_cut c.context_law.ensures c.args.store.now c.requires.numbered c.args.atom c.requires.is_open c.requires.live c.args.budget c.args.work.now.items.items c.explore.new.work.items.items c.side.new.work.items.items c.push.new.self.items
          c.in_ok-explore.ensures left.1 c.in_ok-push-in-Spent.ensures.items,
    )

pub branch-returns-then-branch : goal.branch-returns-then-branch
branch-returns-then-branch t c =
    let left = never_at (more c.args.store.now c.args.atom true) c.args.store.now c.side.new.store c.args.budget c.explore.new.work.items.items c.side.new.work.items.items c.in_ok-left.field-0 c.in-Never.left c.in-Never.is c.in_ok-left.ensures in
    let start : c.len-start.result ≡ length c.args.work.now.items.items = omega (arith, c.len-start.ensures, c.args.work.now.items.ok) in
    let proves = subst (λ (s : Seen). ProvesFrom s c.side.new.work.items.items (c.len-start.result + 1)) left.0 (c.in_ok-stands_alone.ensures.proves c.if-branch.true) in (
      c.in_ok-stands_alone.ensures.store ∙ left.0,
      alone c.context_law.ensures c.args.store.now c.requires.numbered c.args.atom c.requires.is_open c.requires.live c.args.budget c.args.work.now.items.items c.drop_law.ensures true c.args.budget c.in-Never.left c.len-start.result (c.len-start.result + 1)
          c.explore.new.work.items.items (Split c.args.atom ∷ []) c.side.new.work.items.items c.cut.new.items.items (omega arith) left.1 c.in_ok-explore.ensures start (ap (λ n. n + 1) start ∙ sym (begun_length c.args.work.now.items.items (Split c.args.atom) c.explore.new.work.items.items c.in_ok-explore.ensures)) proves c.in_ok-cut.ensures,
    )

pub branch-returns-in-Spent-2 : goal.branch-returns-in-Spent-2
branch-returns-in-Spent-2 t c =
    let left = never_at (more c.args.store.now c.args.atom true) c.args.store.now c.side.new.store c.args.budget c.explore.new.work.items.items c.side.new.work.items.items c.in_ok-left.field-0 c.in-Never.left c.in-Never.is c.in_ok-left.ensures in
    let same = c.in_ok-stands_alone.ensures.store ∙ left.0 in
    let right = spent_at (more c.stands_alone.new.store c.args.atom false) c.stands_alone.new.store c.side-2.new.store (c.args.budget - c.in-Never.left) c.side.new.work.items.items c.side-2.new.work.items.items c.in_ok-right.field-0 c.in-Spent-2.is c.in_ok-right.ensures in
    let cut = subst (λ (s : Seen). CutsShort (more s c.args.atom false) (c.args.budget - c.in-Never.left) c.side.new.work.items.items c.side-2.new.work.items.items) same right.1 in (
      right.0 ∙ same,
      right_cut c.context_law.ensures c.args.store.now c.requires.numbered c.args.atom c.requires.is_open c.requires.live c.args.budget c.args.work.now.items.items c.explore.new.work.items.items c.side.new.work.items.items c.side-2.new.work.items.items c.in-Never.left
          c.in_ok-explore.ensures left.1 cut,
    )

pub branch-returns-then-branch-2 : goal.branch-returns-then-branch-2
branch-returns-then-branch-2 t c =
    let left = never_at (more c.args.store.now c.args.atom true) c.args.store.now c.side.new.store c.args.budget c.explore.new.work.items.items c.side.new.work.items.items c.in_ok-left.field-0 c.in-Never.left c.in-Never.is c.in_ok-left.ensures in
    let same = c.in_ok-stands_alone.ensures.store ∙ left.0 in
    let right = never_at (more c.stands_alone.new.store c.args.atom false) c.stands_alone.new.store c.side-2.new.store (c.args.budget - c.in-Never.left) c.side.new.work.items.items c.side-2.new.work.items.items c.in_ok-right.field-0 c.in-Never-2.right c.in-Never-2.is c.in_ok-right.ensures in
    let refuted = subst (λ (s : Seen). Refutes (more s c.args.atom false) (c.args.budget - c.in-Never.left) c.side.new.work.items.items c.side-2.new.work.items.items c.in-Never-2.right) same right.1 in
    let start : c.len-start.result ≡ length c.args.work.now.items.items = omega (arith, c.len-start.ensures, c.args.work.now.items.ok) in
    let middle : c.len-middle.result ≡ length c.side.new.work.items.items = omega (arith, c.len-middle.ensures, c.side.new.work.items.ok) in
    let proves = subst (λ (s : Seen). ProvesFrom s c.side-2.new.work.items.items c.len-middle.result) (right.0 ∙ same) (c.in_ok-stands_alone-2.ensures.proves c.if-branch-2.true) in (
      c.in_ok-stands_alone-2.ensures.store ∙ right.0 ∙ same,
      alone c.context_law.ensures c.args.store.now c.requires.numbered c.args.atom c.requires.is_open c.requires.live c.args.budget c.args.work.now.items.items c.drop_law.ensures false (c.args.budget - c.in-Never.left) c.in-Never-2.right c.len-start.result c.len-middle.result
          c.side.new.work.items.items (Split c.args.atom ∷ items_in c.args.store.now left.1.tree) c.side-2.new.work.items.items c.cut-then-branch-2.new.items.items (omega arith) refuted
          (left.1.spelled ∙ ap (λ (b : List Item). b ++ items_in c.args.store.now left.1.tree) c.in_ok-explore.ensures ∙ append_assoc c.args.work.now.items.items (Split c.args.atom ∷ []) (items_in c.args.store.now left.1.tree)) start middle proves c.in_ok-cut-2.ensures,
    )

pub branch-returns : goal.branch-returns
branch-returns t c =
    let left = never_at (more c.args.store.now c.args.atom true) c.args.store.now c.side.new.store c.args.budget c.explore.new.work.items.items c.side.new.work.items.items c.in_ok-left.field-0 c.in-Never.left c.in-Never.is c.in_ok-left.ensures in
    let same = c.in_ok-stands_alone.ensures.store ∙ left.0 in
    let right = never_at (more c.stands_alone.new.store c.args.atom false) c.stands_alone.new.store c.side-2.new.store (c.args.budget - c.in-Never.left) c.side.new.work.items.items c.side-2.new.work.items.items c.in_ok-right.field-0 c.in-Never-2.right c.in-Never-2.is c.in_ok-right.ensures in
    let refuted = subst (λ (s : Seen). Refutes (more s c.args.atom false) (c.args.budget - c.in-Never.left) c.side.new.work.items.items c.side-2.new.work.items.items c.in-Never-2.right) same right.1 in (
      c.in_ok-stands_alone-2.ensures.store ∙ right.0 ∙ same,
      both_refute c.context_law.ensures c.args.store.now c.requires.numbered c.args.atom c.requires.is_open c.requires.live c.args.budget c.args.work.now.items.items c.explore.new.work.items.items c.side.new.work.items.items c.side-2.new.work.items.items c.in-Never.left c.in-Never-2.right
          c.in_ok-explore.ensures left.1 refuted,
    )
