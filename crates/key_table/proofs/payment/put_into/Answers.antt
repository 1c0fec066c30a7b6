use Rattle.std.proofs.Common.{◌≡◌, arith}
use Rattle.std.proofs.lemmas.Grind.{common_steps}
use Rattle.key_table.specs.Payments.{with_value}
use Rattle.key_table.specs.Places.{entries_of}
use Rattle.key_table.proofs.Cuts.{runs_put}
use Rattle.key_table.proofs.payment.put_into.Goals as goal

-- the first entry is put among none
pub returns-then-is_empty-clause-are_runs : goal.returns-then-is_empty-clause-are_runs
returns-then-is_empty-clause-are_runs c =
    let put : entries_of c.begin.new.runs.items ≡ with_value (entries_of c.args.runs.now.items) c.args.slot c.args.datum = grind (arith, common_steps) in
    runs_put c.args.runs.now.items c.begin.new.runs.items c.args.slot c.args.datum c.requires put c.in_ok-begin.ensures.filled
