use Rattle.std.proofs.Common.{◌≡◌, ◌++◌, ◌∷◌, [], take, drop, string_bytes}
use Rattle.std.specs.List.{flat_map, AllByRecursion}
use Rattle.certificate_text.specs.CodeValues.{IsItem}
use Rattle.certificate_text.specs.Items.{item_text}
use Rattle.certificate_text.proofs.write.put_items.Given as goal

abbrev pub invariant-loop-item : goal.invariant-loop-item
invariant-loop-item l = (string_bytes l.out ++ flat_map (λ i. item_text i ++ 10 ∷ []) (drop l.item-index l.items) ≡ string_bytes l.fn.out ++ flat_map (λ i. item_text i ++ 10 ∷ []) l.items) × AllByRecursion IsItem (take l.item-index l.items)
