use Rattle.std.proofs.Common.{None, sym}
use Rattle.key_table.specs.Slots.{at}
use Rattle.payment_reader.proofs.Follows.{legal_value}
use Rattle.payment_reader.proofs.write.key_value.Goals as goal

pub datum_value-requires : goal.datum_value-requires
datum_value-requires c = legal_value c.args.table.now c.args.payment.now (at c.args.key None) c.in-Some.datum.now c.requires.legal (sym c.in-Some.ensures)
