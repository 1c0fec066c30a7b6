-- What is written for a program reads back.
use Rattle.std.proofs.Common.{◌≡◌, ℕ, List, [], map, length, true, leb, ◌&&◌, Some, Result, Ok, Err, ap, sym, ◌∙◌, subst, IfOk, IsUtf8}
use Rattle.std.specs.List.{list_all}
use Rattle.std.specs.Str.{is_utf8}
use Rattle.std.proofs.lemmas.Bool.{leb-true, and_parts, cond-true}
use Rattle.std.proofs.lemmas.Str.{is_utf8-from_IsUtf8}
use Rattle.std.specs.Prelude.{codes}
use Rattle.serde_json.specs.Read as json
use Rattle.euclid_ast.specs.declared.program.Rule.{Rule}
use Rattle.euclid_ast.specs.declared.program.Program.{Program}
use Rattle.json_shape.specs.Paths.{name_step, fault}
use Rattle.key_table.specs.Answers.{or_fault}
use Rattle.json_shape.specs.Shapes.{json_of}
use Rattle.json_program.specs.Begun.{none_begun}
use Rattle.json_program.specs.Programs.{given_of, rule_of, program_of, program_in, program_file}
use Rattle.euclid_ast.specs.Limits.{is_short, is_selection}
use Rattle.json_program.specs.Parts.{is_statement, is_rule, is_program}
use Rattle.json_program.specs.Written.{rule_data, program_data}
use Rattle.json_program.proofs.Leaves.{text_reads}
use Rattle.json_program.proofs.Tests.{all_from}
use Rattle.json_program.proofs.Totals.{both, total, rule_counts}
use Rattle.json_program.proofs.SelectionReadsBack.{selection_reads}
use Rattle.json_program.proofs.TreeReadsBack.{HasRoom, ReadsBack, items_read, statements_read}

rule_reads : (levels : ℕ) (r : Rule) → is_rule levels r ≡ true → ReadsBack (rule_of levels) rule_data rule_counts r
unfolding rule_of given_of
rule_reads levels r fits path n room =
    let one = and_parts (is_short r.name) (is_selection r.selection && list_all (is_statement levels) r.statements) fits in
    let two = and_parts (is_selection r.selection) (list_all (is_statement levels) r.statements) one.1 in
    rw (text_reads r.name one.0 (name_step path (codes "name")), selection_reads r.selection two.0 (name_step path (codes "connectorSelection")), statements_read levels r.statements two.1 (name_step path (codes "statements")) n room)

program_reads : (levels : ℕ) (p : Program) → is_program levels p ≡ true → HasRoom none_begun (total (map rule_counts p.rules)) → (path : List ℕ)
    → program_of levels path (program_data p) none_begun ≡ Ok (p, both none_begun (total (map rule_counts p.rules)))
unfolding program_of
program_reads levels p fits room path =
    let rules = p.rules in
    let one = and_parts (is_selection p.default_selection) (leb (length rules) 256 && list_all (is_rule levels) rules) fits in
    let two = and_parts (leb (length rules) 256) (list_all (is_rule levels) rules) one.1 in
    rw (
      selection_reads p.default_selection one.0 (name_step path (codes "defaultSelection")),
      items_read (rule_of levels) rule_data rule_counts 256 rules (all_from (is_rule levels) (ReadsBack (rule_of levels) rule_data rule_counts) (rule_reads levels) rules two.1) (leb-true _ _ two.0) (name_step path (codes "rules")) none_begun room,
    )

program_in-written : (levels : ℕ) (p : Program) → is_program levels p ≡ true → HasRoom none_begun (total (map rule_counts p.rules)) → program_in levels (program_data p) none_begun ≡ Ok (p, both none_begun (total (map rule_counts p.rules)))
program_in-written levels p fits room = program_reads levels p fits room []

-- a text that reads as what is written for a program is that program
pub text_reads_back : (p : Program) (t : List ℕ) → is_program 32 p ≡ true → HasRoom none_begun (total (map rule_counts p.rules)) → IsUtf8 t → json.read t ≡ Some (program_data p) → program_file t ≡ Ok p
unfolding program_file
text_reads_back p t fits room utf8 is =
    let one : json_of t ≡ or_fault (fault 1 []) (json.read t) = cond-true (is_utf8 t) (or_fault (fault 1 []) (json.read t)) (Err (fault 1 [])) (is_utf8-from_IsUtf8 t utf8) in
    let two : json_of t ≡ Ok (program_data p) = one ∙ ap (or_fault (fault 1 [])) is in
    rw (two, program_in-written 32 p fits room)

-- what holds of a value holds of a call that gives it
pub if_ok : {X E : Type 0} (r : Result X E) (x : X) (P : X → Type 0) → IfOk r (λ y. y ≡ x) → P x → IfOk r P
if_ok (Ok y) x P is h = subst P (sym is) h
if_ok (Err e) x P is h = tt
