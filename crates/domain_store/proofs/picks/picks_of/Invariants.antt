use Rattle.std.proofs.Common.{◌≡◌, take, true}
use Rattle.key_table.specs.Payments.{is_legal}
use Rattle.key_table.specs.Tables.{Table}
use Rattle.domain_store.specs.PickedPayments.{ArePicks, AreFitting}
use Rattle.domain_store.proofs.picks.picks_of.Given as goal

abbrev pub invariant-loop-domain : goal.invariant-loop-domain
invariant-loop-domain l = record {
  picks : ArePicks (take l.domain-index l.domains) l.payment;
  legal : (table : Table) → AreFitting table l.domains → is_legal table l.payment ≡ true;
}
