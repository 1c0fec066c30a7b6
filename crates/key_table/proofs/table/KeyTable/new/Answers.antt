use Rattle.std.proofs.Common.{rules}
use Rattle.key_table.proofs.NameLemmas.{is_table-nil}
use Rattle.key_table.proofs.table.KeyTable.new.Goals as goal

pub invariant_of-result : goal.invariant_of-result
invariant_of-result c = search (rules, is_table-nil)
