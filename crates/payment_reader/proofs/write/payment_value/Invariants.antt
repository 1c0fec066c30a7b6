use Rattle.std.proofs.Common.{◌≡◌, ℕ, ◌<◌}
use Rattle.serde_json.specs.View.{members_view}
use Rattle.payment_reader.specs.WellMade.{HasBitsAt}
use Rattle.payment_reader.specs.Written.{fields_of}
use Rattle.payment_reader.proofs.write.payment_value.Given as goal

abbrev pub invariant-loop-key : goal.invariant-loop-key
invariant-loop-key l = record {
  fields : members_view l.fields.entries ≡ fields_of l.key l.table l.payment;
  bits : (key : ℕ) → key < l.key → HasBitsAt key l.table l.payment;
}
