use Rattle.std.proofs.Common.{◌≡◌, ◌≤◌, replicate, vec_len, vec_capacity}
use Rattle.contradiction_checker.proofs.trail.fill.Given as goal

abbrev pub invariant-loop-place : goal.invariant-loop-place
invariant-loop-place g l = record {
  items : l.list.items ≡ replicate l._place l.item;
  few : vec_len l.list ≤ l._place;
  room : vec_capacity l.initial.list ≤ vec_capacity l.list;
}
