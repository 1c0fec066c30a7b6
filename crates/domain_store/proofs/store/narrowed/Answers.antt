use Rattle.std.proofs.Common.{◌≡◌, ◌∙◌, ap, subst}
use Rattle.std.proofs.lemmas.Bool.{MatchBool-at_true}
use Rattle.interval_domains.specs.declared.domain.SlotDomain.{SlotDomain}
use Rattle.interval_domains.specs.Members.{members}
use Rattle.interval_domains.specs.Picks.{HasNoOption}
use Rattle.key_table.specs.OptionSets.{Options, HasOption, kept}
use Rattle.domain_store.proofs.store.narrowed.Goals as goal

pub prove-unreachable-requires : goal.prove-unreachable-requires
prove-unreachable-requires c =
    let P : Options → Type 0 = λ options. HasNoOption options in
    let is : members c.keep.new.self ≡ kept c.args.atom.now c.args.truth (members c.args.domain.now) = c.in_ok-keep.ensures.ok ∙ ap (λ (d : SlotDomain). kept c.args.atom.now c.args.truth (members d)) c.in_ok-narrowed.ensures in
    c.requires.open (subst P is (MatchBool-at_true (HasNoOption (members c.keep.new.self)) (HasOption (members c.keep.new.self)) c.if-prove.true c.is_void-is_void.ensures))
