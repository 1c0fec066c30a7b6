use Rattle.std.proofs.Common.{ℕ, List, Some, sym, subst}
use Rattle.key_table.specs.declared.slot.Datum.TheVariants as datum
use Rattle.interval_domains.specs.declared.values.Values.TheVariants.{Texts}
use Rattle.interval_domains.specs.Picks.{FindsFirst}
use Rattle.interval_domains.specs.Members.{has_value}
use Rattle.interval_domains.proofs.ValueLemmas.{first_of_texts, none_of_texts}
use Rattle.interval_domains.proofs.values.first_text.Goals as goal

pub returns-in_ok-copy-in-Some : goal.returns-in_ok-copy-in-Some
returns-in_ok-copy-in-Some c =
    let P : List ℕ → Type 0 = λ t. FindsFirst (has_value (Texts c.args.texts.now)) (Some (datum.Text t)) in
    subst P (sym c.in_ok-copy-in-Some.ensures) (first_of_texts c.args.texts.now c.in-Some.text.now c.first.ensures.listed (sym c.in-Some.ensures.first))

pub returns-in-None : goal.returns-in-None
returns-in-None c = none_of_texts c.args.texts.now (sym c.in-None.ensures.first)
