use Rattle.std.proofs.Common.{◌≡◌, map}
use Rattle.std.specs.Map.Iter.{deref_pair}
use Rattle.serde_json.specs.View.{members_view}
use Rattle.payment_reader.specs.Written.{texts_of}
use Rattle.payment_reader.proofs.write.texts.Given as goal

abbrev pub invariant-loop-slot : goal.invariant-loop-slot
invariant-loop-slot l = members_view l.texts.entries ≡ texts_of (map deref_pair l.yielded)
