use Rattle.std.proofs.Common.{sym, ap, ◌∙◌, arith, below_more}
use Rattle.key_table.specs.Tables.{name_at}
use Rattle.payment_reader.specs.WellMade.{HasBitsAt}
use Rattle.payment_reader.specs.Written.{with_field, data_at}
use Rattle.payment_reader.proofs.WrittenLemmas.{fields_more, fields_none, empty_data}
use Rattle.payment_reader.proofs.write.payment_value.Goals as goal

-- without entries there are no fields
pub returns-then-count-eq0-clause-value : goal.returns-then-count-eq0-clause-value
returns-then-count-eq0-clause-value c = empty_data c.new-fields.result c.args.table.now c.args.payment.now c.new-fields.ensures.empty (omega arith)

pub loop-key-init : goal.loop-key-init
loop-key-init c = record { fields = rw (c.new-fields.ensures.empty) (sym (fields_none c.args.table.now c.args.payment.now)); bits = λ key less. absurd (omega arith) }

pub loop-key-preserved : goal.loop-key-preserved
loop-key-preserved c = record {
  fields = c.in_ok-add_field.ensures.fields ∙ ap (with_field (name_at c.loop-key.key c.args.table.now) (data_at c.loop-key.key c.args.table.now c.args.payment.now)) c.loop-key.invariant.fields
      ∙ sym (fields_more c.loop-key.key c.args.table.now c.args.payment.now);
  bits = below_more (λ key. HasBitsAt key c.args.table.now c.args.payment.now) c.loop-key.key c.loop-key.invariant.bits c.in_ok-add_field.ensures.bits;
}
