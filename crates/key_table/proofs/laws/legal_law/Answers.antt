use Rattle.key_table.proofs.LegalLemmas.{put_legal, found_legal}
use Rattle.key_table.proofs.laws.legal_law.Goals as goal

pub returns-clause-put : goal.returns-clause-put
returns-clause-put c = put_legal

pub returns-clause-found : goal.returns-clause-found
returns-clause-found c = found_legal
