use Rattle.std.proofs.Common.{◌≡◌, ◌+◌, ap, ◌∙◌, arith}
use Rattle.sample_program.specs.Draws.{state, draws_from}
use Rattle.sample_program.specs.Programs.{condition}
use Rattle.sample_program.proofs.Drawing.{none_picked, one_picked}
use Rattle.sample_program.proofs.program.condition.Goals as goal

pub loop-init : goal.loop-init
loop-init c = none_picked c.args.draws.now.state c.in_ok-condition.condition c.in_ok-condition.ensures

pub loop-preserved : goal.loop-preserved
loop-preserved c =
    one_picked c.args.draws.now.state c.loop.draws.state c.below.new.self.state c.loop.counter c.below.result c.loop.condition c.push.new.self c.in_ok-numbered_comparison.field-0
    c.loop.invariant c.below.ensures.state c.below.ensures.drawn c.in_ok-numbered_comparison.ensures c.in_ok-push.ensures.ok

pub returns-clause-state : goal.returns-clause-state
returns-clause-state c seed others is =
    let all : c.loop.counter ≡ 3 = omega arith in
    (c.loop.invariant seed others is).0 ∙ ap (λ k. state seed (others + k)) all

pub returns-clause-condition : goal.returns-clause-condition
returns-clause-condition c seed others is =
    let all : c.loop.counter ≡ 3 = omega arith in
    (c.loop.invariant seed others is).1 ∙ ap (λ k. condition (draws_from seed others 8 k)) all
