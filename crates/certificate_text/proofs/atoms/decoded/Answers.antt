use Rattle.certificate_text.proofs.AtomLaws.{unhex_decoded, only_memory}
use Rattle.certificate_text.proofs.atoms.decoded.Goals as goal

pub no_memory-requires : goal.no_memory-requires
no_memory-requires c = only_memory c.args.digits.now c.in-Err.error c.requires c.in-Err.ensures.err

pub returns-in-Ok : goal.returns-in-Ok
returns-in-Ok c = unhex_decoded c.args.digits.now c.in-Ok.bytes.items c.requires c.in-Ok.ensures.ok
