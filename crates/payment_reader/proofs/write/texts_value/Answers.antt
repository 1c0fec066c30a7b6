use Rattle.std.proofs.lemmas.Bool.{iff_false}
use Rattle.key_table.specs.Payments.{under}
use Rattle.payment_reader.specs.Written.{texts_of}
use Rattle.payment_reader.proofs.WrittenLemmas.{object_of-view}
use Rattle.payment_reader.proofs.write.texts_value.Goals as goal

pub returns : goal.returns
returns c = object_of-view c.in_ok-texts.texts (texts_of (under c.args.key c.args.payment.now)) c.in_ok-texts.ensures (iff_false c.is_empty.ensures c.if-is_empty.false)
