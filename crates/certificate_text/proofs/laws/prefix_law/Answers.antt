use Rattle.certificate_text.proofs.Prefixes.{prefix_unended}
use Rattle.certificate_text.proofs.Returns.{prefix_written}
use Rattle.certificate_text.proofs.laws.prefix_law.Goals as goal

pub returns-clause-reads : goal.returns-clause-reads
returns-clause-reads c = prefix_unended

pub returns-clause-written : goal.returns-clause-written
returns-clause-written c = prefix_written
