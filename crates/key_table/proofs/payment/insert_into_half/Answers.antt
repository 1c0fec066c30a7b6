use Rattle.std.proofs.Common.{◌<◌, ◌∙◌, length, arith}
use Rattle.std.proofs.lemmas.Result.{on_ok_weaker, on_err_weaker}
use Rattle.key_table.proofs.Cuts.{split_entries, split_filled, second_part, into_first, into_second}
use Rattle.key_table.proofs.payment.insert_into_half.Goals as goal

-- both parts have some entries
pub insert_into-requires-clause-filled : goal.insert_into-requires-clause-filled
insert_into-requires-clause-filled c =
    let within : c.args.i < length c.args.runs.now.items = omega (arith, c.args.runs.now.ok.0) in
    split_filled c.args.runs.now.items c.split.new.runs.items c.args.i c.in_ok-middle.middle within c.in_ok-middle.ensures.ok c.requires.filled

pub insert_into-requires-else-place-middle-clause-filled : goal.insert_into-requires-else-place-middle-clause-filled
insert_into-requires-else-place-middle-clause-filled c =
    let within : c.args.i < length c.args.runs.now.items = omega (arith, c.args.runs.now.ok.0) in
    split_filled c.args.runs.now.items c.split.new.runs.items c.args.i c.in_ok-middle.middle within c.in_ok-middle.ensures.ok c.requires.filled

pub insert_into-requires-else-place-middle-clause-place : goal.insert_into-requires-else-place-middle-clause-place
insert_into-requires-else-place-middle-clause-place c =
    let within : c.args.i < length c.args.runs.now.items = omega (arith, c.args.runs.now.ok.0) in
    second_part c.args.runs.now.items c.split.new.runs.items c.args.i c.in_ok-middle.middle within c.in_ok-middle.ensures.ok c.args.place c.requires.place

-- an entry more in a part is one more in the run
pub returns-then-place-middle-clause-ok : goal.returns-then-place-middle-clause-ok
returns-then-place-middle-clause-ok c =
    let within : c.args.i < length c.args.runs.now.items = omega (arith, c.args.runs.now.ok.0) in
    on_ok_weaker c.insert_into.result (λ is. is ∙ into_first c.args.runs.now.items c.split.new.runs.items c.args.i c.in_ok-middle.middle within c.in_ok-middle.ensures.ok c.args.place c.args.entry) c.insert_into.ensures.ok

pub returns-else-place-middle-clause-ok : goal.returns-else-place-middle-clause-ok
returns-else-place-middle-clause-ok c =
    let within : c.args.i < length c.args.runs.now.items = omega (arith, c.args.runs.now.ok.0) in
    on_ok_weaker c.insert_into-else-place-middle.result (λ is. is ∙ into_second c.args.runs.now.items c.split.new.runs.items c.args.i c.in_ok-middle.middle within c.in_ok-middle.ensures.ok c.args.place c.args.entry c.if-place-middle.false) c.insert_into-else-place-middle.ensures.ok

-- and the two parts have the run's entries
pub returns-then-place-middle-clause-err : goal.returns-then-place-middle-clause-err
returns-then-place-middle-clause-err c =
    let within : c.args.i < length c.args.runs.now.items = omega (arith, c.args.runs.now.ok.0) in
    on_err_weaker c.insert_into.result (λ is. is ∙ split_entries c.args.runs.now.items c.split.new.runs.items c.args.i c.in_ok-middle.middle within c.in_ok-middle.ensures.ok) c.insert_into.ensures.err

pub returns-else-place-middle-clause-err : goal.returns-else-place-middle-clause-err
returns-else-place-middle-clause-err c =
    let within : c.args.i < length c.args.runs.now.items = omega (arith, c.args.runs.now.ok.0) in
    on_err_weaker c.insert_into-else-place-middle.result (λ is. is ∙ split_entries c.args.runs.now.items c.split.new.runs.items c.args.i c.in_ok-middle.middle within c.in_ok-middle.ensures.ok) c.insert_into-else-place-middle.ensures.err
