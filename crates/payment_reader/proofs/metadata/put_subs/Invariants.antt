use Rattle.std.proofs.Common.{◌≡◌}
use Rattle.serde_json.specs.View.{members_view}
use Rattle.payment_reader.specs.Reading.{subs_put}
use Rattle.payment_reader.proofs.metadata.put_subs.Given as goal

abbrev pub invariant-loop-name : goal.invariant-loop-name
invariant-loop-name l = subs_put l.table l.key l.path (members_view l.name-iterator) l.payment ≡ subs_put l.table l.key l.path (members_view l.members.entries) l.fn.payment
