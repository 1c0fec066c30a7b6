use Rattle.std.proofs.Common.{◌≡◌, []}
use Rattle.serde_json.specs.View.{members_view}
use Rattle.payment_reader.specs.Reading.{fields_put}
use Rattle.payment_reader.proofs.reading.payment_of_members.Given as goal

abbrev pub invariant-loop-name : goal.invariant-loop-name
invariant-loop-name l = fields_put l.table (members_view l.name-iterator) l.payment ≡ fields_put l.table (members_view l.members.entries) []
