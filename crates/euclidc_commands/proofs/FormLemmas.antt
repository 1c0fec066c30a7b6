-- A program's text and its JSON, read as files.
use Rattle.std.proofs.Common.{◌≡◌, ◌≤◌, ℕ, List, [], ◌∷◌, Option, Some, None, Ok, false, refl, sym, ap, ◌∙◌, subst, drop, length, cond, arith}
use Rattle.std.proofs.lemmas.Grind.{common_steps}
use Rattle.shelf_io.specs.Seen.{Name, Files}
use Rattle.euclid_ast.specs.declared.program.Program.{Program}
use Rattle.euclid_lexer.specs.Pieces.{text_of}
use Rattle.euclid_grammar.specs.Texts.{IsTextOf}
use Rattle.euclid_parser.specs.TextFiles.{text_file, TextLaw}
use Rattle.euclid_printer.specs.Expressible.{unless, unsaid, printed}
use Rattle.euclid_printer.specs.Layout.{program_pieces}
use Rattle.json_program.specs.Programs as json
use Rattle.euclidc_commands.specs.declared.role.Role.TheVariants as role
use Rattle.euclidc_commands.specs.Runs.{Run, End, goes, ends, lacks, ◌>>=◌, after, ending, judged, bytes_of, bytes_in}
use Rattle.euclidc_commands.specs.ProgramFiles.{is_json, read_as, json_fault, text_fault, program_of, program_refusal, program_file}
use Rattle.euclidc_commands.specs.TableFiles.{table_in}
use Rattle.euclidc_commands.specs.TypedFiles.{type_refusal, typed_of, typed_file}
use Rattle.euclidc_commands.specs.Decide.{run_on, run_by, run}
use Rattle.euclidc_commands.specs.Forms.{DecideAlike}

unless-Ok : {E Y : Type 0} (o : Option E) (y t : Y) → unless o y ≡ Ok t → y ≡ t
unless-Ok None y t is = cc is
unless-Ok (Some e) y t is = absurd (cc is)

-- what begins with a letter is no JSON
no_json : (bytes : List ℕ) → is_json (100 ∷ bytes) ≡ false
no_json bytes = grind (arith, common_steps)

-- the text of a program is no JSON, and is read as that program
pub text_reads : TextLaw → (p : Program) (t : List ℕ) → printed p ≡ Ok t → IsTextOf t p → program_of t ≡ Ok p
text_reads law p t is text =
    let form : is_json t ≡ false = subst (λ bytes. is_json bytes ≡ false) (unless-Ok (unsaid p) (text_of (program_pieces p)) t is) (no_json (drop 1 (text_of (program_pieces p)))) in
    ap (λ b. cond b (read_as json_fault (json.program_file t)) (read_as text_fault (text_file t))) form ∙ ap (read_as text_fault) ((law t (Ok p)).0 text)

after-same : {A B : Type 0} (asked : List Name) (end : End A) (f g : A → Run B) → ((a : A) → (f a).end ≡ (g a).end) → (after asked end f).end ≡ (after asked end g).end
after-same asked (goes a) f g same = same a
after-same asked (ends text v) f g same = refl
after-same asked lacks f g same = refl

-- what follows a run ends alike where it ends alike for each value
then_same : {A B : Type 0} (run : Run A) (f g : A → Run B) → ((a : A) → (f a).end ≡ (g a).end) → (run >>= f).end ≡ (run >>= g).end
then_same run f g same = after-same run.asked run.end f g same

after-first : {A B : Type 0} (asked others : List Name) (end : End A) (f : A → Run B) → (after asked end f).end ≡ (after others end f).end
after-first asked others (goes a) f = refl
after-first asked others (ends text v) f = refl
after-first asked others lacks f = refl

-- what follows two runs that end alike ends alike
first_same : {A B : Type 0} (r s : Run A) (f : A → Run B) → r.end ≡ s.end → (r >>= f).end ≡ (s >>= f).end
first_same r s f same = ap (λ end. (after r.asked end f).end) same ∙ after-first r.asked s.asked s.end f

-- a file within its limit that is a program
program_held : (name : Name) (files : Files) (bytes : List ℕ) (p : Program) → files name ≡ Some bytes → length bytes ≤ 1048576 → program_of bytes ≡ Ok p → (program_file name files).end ≡ goes p
program_held name files bytes p held short is =
    let next = λ (bytes : List ℕ). ending (judged program_refusal (program_of bytes)) in
    let here : (bytes_in role.Program name files).end ≡ goes bytes = ap (bytes_of role.Program) held ∙ grind arith in
    ap (λ end. (after (name ∷ []) end next).end) here ∙ ap (judged program_refusal) is

-- files that are the same program decide alike
pub alike : (p : Program) (text other : List ℕ) → program_of text ≡ Ok p → program_of other ≡ Ok p → DecideAlike text other
alike p text other text_is other_is source text_name other_name payment_name files held other_held short other_short =
    let same : (program_file text_name files).end ≡ (program_file other_name files).end = program_held text_name files text p held short text_is ∙ sym (program_held other_name files other p other_held other_short other_is) in
    then_same (table_in source files) (λ table. run_by table text_name payment_name files) (λ table. run_by table other_name payment_name files) (λ table.
    first_same (typed_file table text_name files) (typed_file table other_name files) (λ program. run_on table program payment_name files)
    (first_same (program_file text_name files) (program_file other_name files) (λ program. ending (judged type_refusal (typed_of table program))) same))
