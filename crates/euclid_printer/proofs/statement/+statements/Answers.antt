use Rattle.std.proofs.Common.{ℕ, ◌*◌, ◌+◌, Option, List, [], ◌∷◌, ◌++◌, replicate, ap, sym, ◌∙◌, string_bytes}
use Rattle.std.specs.Prelude.{codes}
use Rattle.euclid_ast.specs.declared.statement.Statement.{Statement}
use Rattle.euclid_ast.specs.declared.statement.Statement.TheViews.{out-Statement}
use Rattle.euclid_printer.proofs.Texts.{text_of_statement, condition_text, nested_text, statements_text, then}
use Rattle.euclid_printer.proofs.statement.+statements.Goals as goal

pub put_statement-returns-in_ok-push_str-in-None : goal.put_statement-returns-in_ok-push_str-in-None
put_statement-returns-in_ok-push_str-in-None t c =
    let s = c.args.statement.now in
    let level = c.args.level in
    let condition = rw c.as_slice.ensures at c.in_ok-put_joined.ensures in
    then (string_bytes c.args.out.now) (string_bytes c.put_indent.new.out) (replicate (2 * level) 32) _ _ c.in_ok-put_indent.ensures
    (then (string_bytes c.put_indent.new.out) (string_bytes c.put_joined.new.out) (condition_text (out-Statement s).condition) (10 ∷ []) _ condition c.in_ok-push_str-in-None.ensures.bytes)
    ∙ ap (λ (u : List ℕ). string_bytes c.args.out.now ++ u)
    (sym (text_of_statement s level ∙ ap (λ (n : Option (List Statement)). replicate (2 * level) 32 ++ (condition_text (out-Statement s).condition ++ nested_text level n)) c.in-None.is))

pub put_statement-returns-in_ok-put_closing-in-Some : goal.put_statement-returns-in_ok-put_closing-in-Some
put_statement-returns-in_ok-put_closing-in-Some t c =
    let s = c.args.statement.now in
    let level = c.args.level in
    let nested = c.in-Some.nested in
    let condition = rw c.as_slice.ensures at c.in_ok-put_joined.ensures in
    let below = (rw c.as_slice-in-Some.ensures at c.in_ok-put_statements-in-Some.ensures) ∙ ap (λ (k : ℕ). string_bytes c.push_str-in-Some.new.self ++ statements_text k nested) c.in_ok-deeper-in-Some.ensures in
    then (string_bytes c.args.out.now) (string_bytes c.put_indent.new.out) (replicate (2 * level) 32) _ _ c.in_ok-put_indent.ensures
    (then (string_bytes c.put_indent.new.out) (string_bytes c.put_joined.new.out) (condition_text (out-Statement s).condition) _ _ condition
    (then (string_bytes c.put_joined.new.out) (string_bytes c.push_str-in-Some.new.self) (codes " {\n") _ _ c.in_ok-push_str-in-Some.ensures.bytes
    (then (string_bytes c.push_str-in-Some.new.self) (string_bytes c.put_statements.new.out) (statements_text (level + 1) nested) _ _ below c.in_ok-put_closing-in-Some.ensures)))
    ∙ ap (λ (u : List ℕ). string_bytes c.args.out.now ++ u)
    (sym (text_of_statement s level ∙ ap (λ (n : Option (List Statement)). replicate (2 * level) 32 ++ (condition_text (out-Statement s).condition ++ nested_text level n)) c.in-Some.is))
