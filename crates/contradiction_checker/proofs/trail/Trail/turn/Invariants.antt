use Rattle.std.proofs.Common.{◌≡◌, List, ◌++◌, ◌≤◌, vec_len}
use Rattle.contradiction_checker.specs.declared.options.Assumed.{Assumed}
use Rattle.contradiction_checker.specs.Trails.{IsLinked, Passes, Widens}
use Rattle.contradiction_checker.specs.Turning.{AreFalse}
use Rattle.contradiction_checker.proofs.trail.Trail.turn.Given as goal

abbrev pub invariant-loop-self : goal.invariant-loop-self
invariant-loop-self l = record {
  back : List Assumed;
  was : l.initial.self.assumed.items ≡ l.self.assumed.items ++ back;
  done : AreFalse back;
  time : l.self.time ≡ l.initial.self.time;
  passes : Passes l.atoms l.initial.self l.self;
  few : vec_len l.self.assumed ≤ vec_len l.initial.self.assumed;
  linked : IsLinked l.atoms l.self;
  room : Widens l.initial.self l.self;
}

abbrev pub decreases-loop-self : goal.decreases-loop-self
decreases-loop-self l = vec_len l.self.assumed
