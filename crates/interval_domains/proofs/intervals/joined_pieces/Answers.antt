use Rattle.std.proofs.Common.{◌≡◌, ◌+◌, ◌||◌, false, ap, sym, ◌∙◌, ℤ, pos, ◌≤ℤ◌, get_or, int_cmp, is_lt, arith}
use Rattle.std.proofs.lemmas.Int.{ints}
use Rattle.std.proofs.lemmas.List.Folds.{list_any_more}
use Rattle.interval_domains.specs.declared.interval.Interval.{Interval}
use Rattle.interval_domains.specs.Intervals.{within}
use Rattle.interval_domains.proofs.IntervalLemmas.{each-weaker}
use Rattle.interval_domains.proofs.intervals.joined_pieces.Goals as goal

abbrev none : Interval
none = record { first = pos 0; last = pos 0 }

not_before : (x y : ℤ) → is_lt (int_cmp y x) ≡ false → x ≤ℤ y
not_before x y h = grind (arith, ints)

pub loop-piece-preserved : goal.loop-piece-preserved
loop-piece-preserved c =
    let here = c.loop-piece.piece-index in
    record {
      numbers = λ x. c.in_ok-add.ensures.ok x ∙ ap (λ b. b || within x (get_or c.args.pieces.now here none)) (c.loop-piece.invariant.numbers x) ∙ sym (list_any_more (within x) c.args.pieces.now here none c.loop-piece-test.true);
      starts = λ more.
          let order : (get_or c.args.pieces.now here none).first ≤ℤ (get_or c.args.pieces.now (here + 1) none).first = not_before _ _ (c.requires.sorted here none (omega arith) more) in
          each-weaker (λ (i : Interval). i.first ≤ℤ (get_or c.args.pieces.now here none).first) (λ (i : Interval). i.first ≤ℤ (get_or c.args.pieces.now (here + 1) none).first) (λ i before. omega (arith, ints)) _ c.in_ok-add.ensures.starts;
    }
