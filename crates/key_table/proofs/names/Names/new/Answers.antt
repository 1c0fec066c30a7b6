use Rattle.std.proofs.Common.{rules}
use Rattle.key_table.proofs.NameLemmas.{are_names-nil}
use Rattle.key_table.proofs.names.Names.new.Goals as goal

pub invariant_of-result : goal.invariant_of-result
invariant_of-result c = search (rules, are_names-nil)
