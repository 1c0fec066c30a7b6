use Rattle.json_shape.proofs.Escapes.{goes_on, ends}
use Rattle.json_shape.proofs.path.push_name.Goals as goal

pub loop-c-preserved : goal.loop-c-preserved
loop-c-preserved c = goes_on _ _ _ _ _ _ c.in-Some.ensures.steps.0 c.in_ok-push_escaped.ensures c.loop-c.invariant

pub returns : goal.returns
returns c = ends _ _ _ c.in-None.ensures.steps.0.0 c.loop-c.invariant
