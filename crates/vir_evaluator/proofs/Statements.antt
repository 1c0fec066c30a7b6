-- The meaning of one statement by its parts.
use Rattle.std.proofs.Common.{◌≡◌, List, Bool, true, ◌&&◌, Option, Some, None, refl, ap, sym, ◌∙◌}
use Rattle.std.specs.List.{list_any}
use Rattle.key_table.specs.declared.atom.Atom.{Atom}
use Rattle.key_table.specs.Payments.{Entries}
use Rattle.key_table.proofs.Found.{list_any-map}
use Rattle.vir_lowering.specs.declared.vir.VirStatement.{VirStatement}
use Rattle.vir_lowering.specs.declared.vir.VirStatement.TheViews.{out-VirStatement}
use Rattle.vir_lowering.specs.declared.vir.VirStatement.TheFolds.{fold_out-VirStatement, map-VirStatement}
use Rattle.vir_lowering.specs.Decisions.{condition_holds, holds_step, statement_holds}

-- what nested statements ask, over the statements themselves
abbrev pub nested_of : (VirStatement → Bool) → Option (List VirStatement) → Bool
nested_of holds None = true
nested_of holds (Some nested) = list_any holds nested

step-map : (payment : Entries) (f : VirStatement → Bool) (condition : List Atom) (nested : Option (List VirStatement))
    → holds_step payment (map-VirStatement VirStatement Bool f (record { condition = condition; nested = nested })) ≡ (condition_holds payment condition && nested_of f nested)
step-map payment f condition None = refl
step-map payment f condition (Some nested) = ap (λ b. condition_holds payment condition && b) (sym (list_any-map (λ b. b) f nested))

-- A statement holds where its condition does and its nested statements are as asked.
pub statement_holds-out : (payment : Entries) (s : VirStatement)
    → statement_holds payment s ≡ (condition_holds payment (out-VirStatement s).condition && nested_of (statement_holds payment) (out-VirStatement s).nested)
statement_holds-out payment s = fold_out-VirStatement Bool (holds_step payment) s ∙ step-map payment (statement_holds payment) (out-VirStatement s).condition (out-VirStatement s).nested
