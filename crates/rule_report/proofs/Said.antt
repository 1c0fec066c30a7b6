-- What is said of a path by numbers is what is said of its atoms.
use Rattle.std.proofs.Common.{◌≡◌, List, map, Bool, false, not, cond, Option, Some, true, slice_get, ap, sym, ◌∙◌}
use Rattle.std.specs.List.{list_any, list_all}
use Rattle.std.specs.Option.{option_map_or}
use Rattle.std.proofs.Math.Path.{fun_ext}
use Rattle.std.proofs.lemmas.List.Folds.{list_all-map}
use Rattle.key_table.specs.declared.atom.Atom.{Atom}
use Rattle.key_table.specs.Options.{holds_on}
use Rattle.key_table.specs.Payments.{Entries}
use Rattle.rule_problem.specs.declared.problem.Literal.{Literal}
use Rattle.rule_problem.specs.Problems.{some_path}
use Rattle.rule_report.specs.Paths.{Path}
use Rattle.rule_report.specs.Targets.{said, all_true}
use Rattle.rule_report.proofs.Places.{list_any-map}

abbrev pub says_on : Entries → Atom → Bool
says_on payment atom = holds_on atom payment

-- whether what is said of one atom is so
abbrev heard : Entries → Option Atom × Bool → Bool
heard payment e = option_map_or (λ a. cond e.1 (holds_on a payment) (not (holds_on a payment))) e.0 false

abbrev any-heard : Entries → List (List (Option Atom × Bool)) → Bool
any-heard payment paths = list_any (list_all (heard payment)) paths

by-numbers : (atoms : List Atom) (payment : Entries) (paths : List (List Literal)) → any-heard payment (map (said atoms) paths) ≡ some_path atoms payment paths
by-numbers atoms payment paths =
    list_any-map (list_all (heard payment)) (said atoms) paths
    ∙ ap (λ f. list_any f paths) (fun_ext (λ path. list_all-map (heard payment) (λ (l : Literal). (slice_get atoms l.atom, l.want)) path))

by-atoms : (payment : Entries) (paths : List Path) → any-heard payment (map all_true paths) ≡ list_any (list_all (says_on payment)) paths
by-atoms payment paths =
    list_any-map (list_all (heard payment)) all_true paths
    ∙ ap (λ f. list_any f paths) (fun_ext (λ path. list_all-map (heard payment) (λ (a : Atom). (Some a, true)) path))

pub paths-same : (atoms : List Atom) (payment : Entries) (paths : List (List Literal)) (right : List Path)
    → map (said atoms) paths ≡ map all_true right → some_path atoms payment paths ≡ list_any (list_all (says_on payment)) right
paths-same atoms payment paths right is = sym (by-numbers atoms payment paths) ∙ ap (any-heard payment) is ∙ by-atoms payment right

pub wants-same : (atoms : List Atom) (payment : Entries) (wants : List (List (List Literal))) (right : List (List Path))
    → map (λ paths. map (said atoms) paths) wants ≡ map (λ paths. map all_true paths) right
    → list_all (some_path atoms payment) wants ≡ list_all (λ paths. list_any (list_all (says_on payment)) paths) right
wants-same atoms payment wants right is =
    sym (list_all-map (any-heard payment) (λ paths. map (said atoms) paths) wants ∙ ap (λ f. list_all f wants) (fun_ext (by-numbers atoms payment)))
    ∙ ap (list_all (any-heard payment)) is
    ∙ list_all-map (any-heard payment) (λ paths. map all_true paths) right
    ∙ ap (λ f. list_all f right) (fun_ext (by-atoms payment))
