use Rattle.std.proofs.lemmas.Bool.{both_ways}
use Rattle.key_table.proofs.TableFileLemmas.{document-ok, document-other}
use Rattle.key_table.proofs.table_file.document.Goals as goal

pub returns-in-Ok : goal.returns-in-Ok
returns-in-Ok c = document-ok c.args.bytes.now c.in-Ok.document c.in-Ok.ensures.ok.0 c.in-Ok.ensures.ok.1

pub returns-in-Err-2 : goal.returns-in-Err-2
returns-in-Err-2 c = document-other c.args.bytes.now (λ utf8. c.in-Err.ensures.refused (λ memory. both_ways c.is_memory.result c.if-is_memory.false (c.is_memory.ensures.1 memory)) utf8)
