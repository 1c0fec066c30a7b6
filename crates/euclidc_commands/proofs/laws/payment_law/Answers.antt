use Rattle.euclidc_commands.proofs.Printed.{same_read, payment_read}
use Rattle.euclidc_commands.proofs.laws.payment_law.Goals as goal

pub returns-clause-same : goal.returns-clause-same
returns-clause-same c = same_read

pub returns-clause-payment : goal.returns-clause-payment
returns-clause-payment c = payment_read
