use Rattle.std.proofs.Common.{Option}
use Rattle.key_table.specs.declared.slot.Datum.{Datum}
use Rattle.interval_domains.specs.Picks.{IsPick}
use Rattle.interval_domains.specs.Members.{has_value, members, IsPicked}
use Rattle.interval_domains.proofs.Steps.{ok_then}
use Rattle.interval_domains.proofs.DomainLemmas.{pick_of}
use Rattle.interval_domains.proofs.domain.SlotDomainSlotSet.pick.Goals as goal

pub returns : goal.returns
returns c =
    let domain = c.args.self.now in
    let P : Option Datum → Type 0 = λ o. IsPicked domain.absent (has_value domain.values) o in
    let Q : Option Datum → Type 0 = λ o. IsPick (members domain) o in
    ok_then P Q _ c.picked.ensures (λ o picked. pick_of domain o c.requires picked)
