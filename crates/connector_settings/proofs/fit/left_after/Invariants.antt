use Rattle.std.proofs.Common.{◌≡◌, ◌+◌, length, take}
use Rattle.std.specs.List.{sum_by}
use Rattle.connector_settings.specs.declared.settings.Method.{Method}
use Rattle.connector_settings.proofs.fit.left_after.Given as goal

abbrev pub invariant-loop-method : goal.invariant-loop-method
invariant-loop-method l = l.left + sum_by (λ (m : Method). length m.types) (take l.method-index l.method-items) ≡ l.most
