-- Rules that are made so have no fault by the built-in table.
use Rattle.std.proofs.Common.{◌≡◌, ℕ, ◌+◌, List, [], ◌∷◌, ◌++◌, true, Some, refl, ap, ◌∙◌, arith}
use Rattle.std.specs.List.{AllByRecursion}
use Rattle.key_table.specs.BuiltIn.{built_in}
use Rattle.euclid_ast.specs.declared.statement.Comparison.{Comparison}
use Rattle.euclid_ast.specs.declared.program.Rule.{Rule}
use Rattle.euclid_ast.specs.Limits.{comparisons_in}
use Rattle.dir_typing.specs.declared.fault.Place.TheVariants as place
use Rattle.dir_typing.specs.declared.fault.TypeFault.{TypeFault}
use Rattle.dir_typing.specs.declared.selection.Family.TheVariants as family
use Rattle.dir_typing.specs.Faults.{fault_at, numbered, comparison_faults, rule_faults, faults}
use Rattle.dir_typing.specs.Selections.{selection_code}
use Rattle.sample_program.specs.Laws.{TypedLaw}
use Rattle.sample_program.specs.Programs.{output, rules, program}
use Rattle.sample_program.proofs.Fine.{IsFine}
use Rattle.sample_program.proofs.Made.{IsMade, rules_made}
use Rattle.sample_program.proofs.WithinLimits.{rule_comparisons}

-- things in a row without a fault
none_numbered : {X : Type 0} (P : X → Type 0) (f : ℕ → X → List TypeFault) → ((n : ℕ) (x : X) → P x → f n x ≡ []) → (n : ℕ) (xs : List X) → AllByRecursion P xs → numbered f n xs ≡ []
unfolding numbered
none_numbered P f none n [] all = refl
none_numbered P f none n (x ∷ xs) all = ap (λ fs. fs ++ numbered f (n + 1) xs) (none n x all.0) ∙ none_numbered P f none (n + 1) xs all.1

no_comparison_fault : (rule n : ℕ) (c : Comparison) → IsFine c → comparison_faults built_in rule n c ≡ []
no_comparison_fault rule n c fine = ap (fault_at (Some rule) (place.Comparison n)) fine.typed

no_rule_fault : (n : ℕ) (r : Rule) → IsMade r → rule_faults built_in (Some family.Routing) n r ≡ []
no_rule_fault n r made =
    ap (λ s. fault_at (Some n) place.Selection (selection_code true (Some family.Routing) s) ++ numbered (comparison_faults built_in n) 0 (comparisons_in r.statements)) made.selection
    ∙ ap (numbered (comparison_faults built_in n) 0) (rule_comparisons r made)
    ∙ none_numbered IsFine (comparison_faults built_in n) (no_comparison_fault n) 0 made.comparisons made.fine

no_fault : (rs : List Rule) → AllByRecursion IsMade rs → faults built_in (record { default_selection = output 0; rules = rs }) ≡ []
no_fault rs made = none_numbered IsMade (rule_faults built_in (Some family.Routing)) no_rule_fault 0 rs made

pub well_typed : TypedLaw
unfolding program
well_typed seed = no_fault (rules seed 256) (rules_made seed 256 (omega arith))
