use Rattle.std.proofs.Common.{◌≡◌, ◌≤◌, ◌+◌, ◌++◌, take, reverse, length, vec_len, vec_capacity}
use Rattle.std.specs.List.{filter}
use Rattle.contradiction_checker.specs.Assumed.{is_on}
use Rattle.contradiction_checker.proofs.premises.Premises.gather.Given as goal

abbrev pub invariant-loop-end : goal.invariant-loop-end
invariant-loop-end l = record {
  within : l.end ≤ length l.trail.assumed.items;
  value : filter (is_on l.self.atoms.now l.slot) l.trail.assumed.items ≡ filter (is_on l.self.atoms.now l.slot) (take l.end l.trail.assumed.items) ++ reverse l.mine.items;
  few : vec_len l.mine + l.end ≤ length l.trail.assumed.items;
  room : vec_capacity l.initial.mine ≤ vec_capacity l.mine;
}

abbrev pub decreases-loop-end : goal.decreases-loop-end
decreases-loop-end l = l.end
