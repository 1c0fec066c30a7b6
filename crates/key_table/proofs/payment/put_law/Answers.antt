use Rattle.key_table.proofs.Sorted.{value_put}
use Rattle.key_table.proofs.payment.put_law.Goals as goal

pub returns : goal.returns
returns c = value_put
