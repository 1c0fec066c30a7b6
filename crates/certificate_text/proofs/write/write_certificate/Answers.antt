use Rattle.certificate_text.proofs.Returns.{written_reads}
use Rattle.certificate_text.proofs.write.write_certificate.Goals as goal

pub returns-clause-reads_back : goal.returns-clause-reads_back
returns-clause-reads_back c =
    written_reads c.args.table.now c.args.certificate.now c.as_slice-atoms.result.now c.as_slice-items.result.now c.file.result c.as_slice-atoms.ensures c.as_slice-items.ensures
    c.count.ensures.well_made c.requires c.file.ensures.text c.file.ensures.atoms c.file.ensures.items
