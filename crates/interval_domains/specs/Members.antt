-- Which options are in a domain.
use Rattle.std.specs.Prelude.{◌≡◌, Bool, false, Option, Some, None}
use Rattle.std.specs.Bool.{MatchBool}
use Rattle.key_table.specs.declared.slot.Slot.{Slot}
use Rattle.key_table.specs.declared.slot.Datum.{Datum}
use Rattle.key_table.specs.declared.slot.Datum.TheVariants as datum
use Rattle.key_table.specs.OptionSets.{Options}
use Rattle.interval_domains.specs.declared.values.Values.{Values}
use Rattle.interval_domains.specs.declared.values.Values.TheVariants.{Variants, Numbers, Texts, OtherTexts}
use Rattle.interval_domains.specs.declared.domain.SlotDomain.{SlotDomain}
use Rattle.interval_domains.specs.Intervals.{has_number}
use Rattle.interval_domains.specs.TextLists.{has_text, is_other_text}
use Rattle.interval_domains.specs.VariantSets.{has_variant}
use Rattle.interval_domains.specs.Picks.{FindsFirst}

-- whether a value is in the set
abbrev pub has_value : Values → Datum → Bool
has_value (Variants set) (datum.Variant n) = has_variant set n
has_value (Numbers set) (datum.Number x) = has_number set x
has_value (Texts texts) (datum.Text t) = has_text texts t
has_value (OtherTexts texts) (datum.Text t) = is_other_text texts t
has_value _ _ = false

-- the slot whose options these are
abbrev pub slot_of : SlotDomain → Slot
slot_of domain = domain.slot

-- the options that are in the domain
unfoldable pub members : SlotDomain → Options
members domain None = domain.absent
members domain (Some datum) = has_value domain.values datum

-- Of absence, where it is there, and values: absence, and else the value that comes first.
abbrev pub IsPicked : Bool → (Datum → Bool) → Option Datum → Type 0
IsPicked absent has option = MatchBool absent (option ≡ None) (FindsFirst has option)
