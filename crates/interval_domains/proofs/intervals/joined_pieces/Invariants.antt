use Rattle.std.proofs.Common.{◌≡◌, ◌<◌, ℤ, pos, length, take, get_or}
use Rattle.interval_domains.specs.declared.interval.Interval.{Interval}
use Rattle.interval_domains.specs.Intervals.{has_number, StartBy}
use Rattle.interval_domains.proofs.intervals.joined_pieces.Given as goal

abbrev none : Interval
none = record { first = pos 0; last = pos 0 }

abbrev pub invariant-loop-piece : goal.invariant-loop-piece
invariant-loop-piece l = record {
  numbers : (x : ℤ) → has_number l.joined x ≡ has_number (take l.piece-index l.pieces) x;
  starts : l.piece-index < length l.pieces → StartBy (get_or l.pieces l.piece-index none).first l.joined;
}
