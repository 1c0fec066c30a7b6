use Rattle.std.proofs.Common.{◌≡◌, ◌/◌, ◌<◌, ◌≤◌, ◌∙◌, ◌+◌, List, ◌++◌, length, set, take, ap, arith}
use Rattle.std.specs.List.{insert}
use Rattle.std.proofs.lemmas.List.{take-append-drop}
use Rattle.key_table.specs.Payments.{Entries}
use Rattle.key_table.specs.Places.{Run}
use Rattle.key_table.proofs.Cuts.{run_at, at_run}
use Rattle.key_table.proofs.payment.split.Goals as goal

-- the run's entries are those of the two parts, and both have some
pub returns-clause-ok : goal.returns-clause-ok
returns-clause-ok c =
    let runs = c.args.runs.now.items in
    let i = c.args.i in
    let run = c.index_mut-run.result.now in
    let front = c.split_off.new.self in
    let tail = c.in_ok-tail.tail in
    let middle = c.len-middle.result / 2 in
    let within : i < length runs = omega (arith, c.args.runs.now.ok.0) in
    let at = rw c.in_ok-reserve.ensures.items at c.index_mut-run.ensures.value in
    let two = run_at (λ (r : Run). 2 ≤ length r.items) runs i run within at c.requires.two in
    let whole = ap (λ (es : Entries). es ++ tail.items) c.in_ok-tail.ensures.items ∙ ap (λ (es : Entries). take middle run.items ++ es) c.in_ok-tail.ensures.tail ∙ take-append-drop middle run.items in
    record {
      front = front;
      tail = tail;
      parts = c.in_ok-insert.ensures.items ∙ ap (λ (rs : List Run). insert (set rs i front) (i + 1) tail) c.in_ok-reserve.ensures.items;
      whole = at_run (λ (r : Run). front.items ++ tail.items ≡ r.items) runs i run within at whole;
      cut = omega (arith, front.ok.0, c.in_ok-tail.ensures.len);
      some = omega (arith, front.ok.0, c.in_ok-tail.ensures.len, run.ok.0);
      more = omega (arith, tail.ok.0, c.in_ok-tail.ensures.tail_len, run.ok.0);
    }
