-- What is printed for a target, read again.
use Rattle.std.proofs.Common.{◌≡◌, ◌≤◌, ◌+◌, ℕ, [], ◌∷◌, ◌++◌, length, true, false, Ok, refl, ap, subst, ◌∙◌, arith}
use Rattle.std.specs.List.{list_all}
use Rattle.std.proofs.lemmas.Bool.{and_from}
use Rattle.std.proofs.lemmas.List.{length-append}
use Rattle.std.proofs.lemmas.List.Folds.{list_all-append}
use Rattle.shelf_io.specs.Seen.{Name, Files}
use Rattle.key_table.specs.declared.atom.Atom.{Atom}
use Rattle.key_table.specs.Contexts.{Context, assume}
use Rattle.key_table.specs.Payments.{Entries}
use Rattle.key_table.specs.Tables.{Table}
use Rattle.euclid_ast.specs.declared.meaning.Choice as decided
use Rattle.euclid_ast.specs.declared.meaning.Choice.TheVariants.{Rule, Default}
use Rattle.euclid_ast.specs.Meaning.{IsWithin}
use Rattle.dir_typing.specs.Typed.{Typed}
use Rattle.connector_settings.specs.declared.settings.Settings.{Settings}
use Rattle.rule_problem.specs.declared.certificate.Certificate.{Certificate}
use Rattle.rule_problem.specs.declared.certificate.Report.TheVariants.{Never}
use Rattle.rule_problem.specs.declared.problem.Problem.{Problem}
use Rattle.rule_problem.specs.Laws.{ReadingLaw}
use Rattle.rule_problem.specs.Reasons.{Reason, void, want, bar, goal}
use Rattle.rule_problem.specs.Trees.{Tree, missing, closed, split, item_of, items_of, split_count, TreeProves}
use Rattle.payment_reader.specs.Reading.{payment_of}
use Rattle.payment_reader.specs.Written.{payment_text}
use Rattle.certificate_text.specs.Limits.{is_step, IsWithinLimits}
use Rattle.certificate_text.specs.Reading.{certificate_of}
use Rattle.certificate_text.specs.Texts.{certificate_text}
use Rattle.euclidc_commands.specs.declared.role.Role.TheVariants as role
use Rattle.euclidc_commands.specs.Runs.{Run, goes, ◌>>=◌, ending}
use Rattle.euclidc_commands.specs.TableFiles.{TableSource, table_in}
use Rattle.euclidc_commands.specs.TypedFiles.{typed_file}
use Rattle.euclidc_commands.specs.SettingsFiles.{settings_file}
use Rattle.euclidc_commands.specs.PaymentFiles.{payment_refusal, payment_file}
use Rattle.euclidc_commands.specs.CertificateFiles.{certificate_refusal, certificate_file}
use Rattle.euclidc_commands.specs.Targets.{target_in}
use Rattle.euclidc_commands.specs.Findings.{IsFound}
use Rattle.euclidc_commands.specs.Inquiries.{Inquiry, inquiry, IsProblemFor}
use Rattle.euclidc_commands.specs.Laws.{AreRead, SameReadLaw, PaymentLaw, CertificateLaw}
use Rattle.euclidc_commands.specs.Decide as decide
use Rattle.euclidc_commands.specs.Check as check
use Rattle.euclidc_commands.specs.Check.{trial}
use Rattle.euclidc_commands.specs.Prove as prove
use Rattle.euclidc_commands.specs.Report as report
use Rattle.euclidc_commands.proofs.Alike.{tree-alike}
use Rattle.euclidc_commands.proofs.FindingLemmas.{reached}
use Rattle.euclidc_commands.proofs.Held.{bind-went, bind-goes, file-held, typed-by}

-- ---- what is read

-- the parts of what is read
record Parts (source : TableSource) (program_name settings_name : Name) (files : Files) (i : Inquiry) : Type 0 where
  table : Table
  table_is : (table_in source files).end ≡ goes table
  program_is : (typed_file table program_name files).end ≡ goes i.program
  settings_is : (settings_file table settings_name files).end ≡ goes i.settings
  by : i.program.table ≡ table

settled_on : Typed → Settings → Run Inquiry
settled_on program settings = ending (goes (inquiry program settings))

parts : (source : TableSource) (program_name settings_name : Name) (files : Files) (i : Inquiry) → AreRead source program_name settings_name files i → Parts source program_name settings_name files i
unfolding settled_on
parts source program_name settings_name files i read =
    let (table, table_is, rest) = bind-went (table_in source files) (λ table. report.run_by table program_name settings_name files) i read in
    let (program, program_is, last) = bind-went (typed_file table program_name files) (λ program. report.run_on table program settings_name files) i rest in
    let (settings, settings_is, end) = bind-went (settings_file table settings_name files) (settled_on program) i last in
    let same : inquiry program settings ≡ i = cc end in
    record {
      table = table;
      table_is = table_is;
      program_is = program_is ∙ ap (λ (x : Inquiry). goes x.program) same;
      settings_is = settings_is ∙ ap (λ (x : Inquiry). goes x.settings) same;
      by = typed-by table program_name files i.program (program_is ∙ ap (λ (x : Inquiry). goes x.program) same);
    }

aimed : Typed → decided.Choice → Settings → Run Inquiry
aimed program target settings = ending (target_in (length program.source.rules) target) >>= λ _. ending (goes (inquiry program settings))

pub same_read : SameReadLaw
unfolding settled_on aimed
same_read source program_name settings_name target files i read =
    let (table, table_is, rest) = bind-went (table_in source files) (λ table. prove.run_by table program_name settings_name target files) i read in
    let (program, program_is, last) = bind-went (typed_file table program_name files) (λ program. prove.run_on table program settings_name target files) i rest in
    let (settings, settings_is, end) = bind-went (settings_file table settings_name files) (aimed program target) i last in
    let (unit, target_is, value) = bind-went (ending (target_in (length program.source.rules) target)) (λ _. settled_on program settings) i end in
    bind-goes (table_in source files) (λ table. report.run_by table program_name settings_name files) table table_is
    ∙ bind-goes (typed_file table program_name files) (λ program. report.run_on table program settings_name files) program program_is
    ∙ bind-goes (settings_file table settings_name files) (settled_on program) settings settings_is
    ∙ value

-- ---- payments

paid : Typed → Entries → Run (Typed × Entries)
paid program payment = ending (goes (program, payment))

pub payment_read : PaymentLaw
unfolding paid
payment_read source program_name settings_name payment_name files i budget target payment read found few held short =
    let p = parts source program_name settings_name files i read in
    let text = payment_text i.program.table payment in
    let reads : payment_of p.table text ≡ Ok payment = subst (λ t. payment_of t text ≡ Ok payment) p.by (found.reads_back few) in
    let paid_is : (payment_file p.table payment_name files).end ≡ goes payment = file-held role.Payment payment_refusal (payment_of p.table) payment_name files text payment held short reads in (
      bind-goes (table_in source files) (λ table. decide.run_by table program_name payment_name files) p.table p.table_is
          ∙ bind-goes (typed_file p.table program_name files) (λ program. decide.run_on p.table program payment_name files) i.program p.program_is
          ∙ bind-goes (payment_file p.table payment_name files) (paid i.program) payment paid_is,
      (reached i budget target payment found).decides,
    )

-- ---- certificates

items-length : (number : Atom → ℕ) (tree : Tree) → length (items_of number tree) ≡ split_count tree + split_count tree + 1
items-length number missing = refl
items-length number (closed reason) = refl
items-length number (split atom left right) =
    let one = items-length number left in
    let two = items-length number right in
    let both = length-append (items_of number left) (items_of number right) in
    omega (arith, one, two, both)

reason-step : (number : Atom → ℕ) (reason : Reason) → is_step (item_of number reason) ≡ true
reason-step number (void atom) = refl
reason-step number (want w) = refl
reason-step number (bar b) = refl
reason-step number goal = refl

tree-steps : (table : Table) (problem : Problem) (number : Atom → ℕ) (context : Context) (tree : Tree) → TreeProves table problem context tree → list_all is_step (items_of number tree) ≡ true
tree-steps table problem number context missing h = absurd h
tree-steps table problem number context (closed reason) h = and_from (is_step (item_of number reason)) true (reason-step number reason) refl
tree-steps table problem number context (split atom left right) h =
    list_all-append is_step (items_of number left) (items_of number right)
    ∙ and_from (list_all is_step (items_of number left)) (list_all is_step (items_of number right))
    (tree-steps table problem number (context ++ assume atom true ∷ []) left h.0) (tree-steps table problem number (context ++ assume atom false ∷ []) right h.1)

within-limits : (i : Inquiry) (budget : ℕ) (target : decided.Choice) (certificate : Certificate) → budget ≤ 65536 → IsFound i budget target (Never certificate) → IsWithinLimits certificate
within-limits i budget target certificate most found =
    let is = found.answer.answered in
    let atoms = found.answer.named.few in
    let items = ap length is.spelled.items_are ∙ items-length _ is.tree in
    let splits = is.few in
    record {
      few_atoms = omega (arith, atoms, most);
      few_items = omega (arith, items, splits, most);
      steps = ap (list_all is_step) is.spelled.items_are ∙ tree-steps i.program.table found.answer.problem _ [] is.tree is.tree_proves;
    }

target-goes : (count : ℕ) (target : decided.Choice) → IsWithin target count → target_in count target ≡ goes tt
unfolding target_in
target-goes count (Rule rule) within = grind (arith, within)
target-goes count Default within = refl

tried : Typed → Settings → decided.Choice → Certificate → Run check.Trial
tried program settings target certificate = ending (goes (trial program settings target certificate))

pub certificate_good : ReadingLaw → CertificateLaw
unfolding tried
certificate_good law source program_name settings_name certificate_name files i budget target certificate read most found held short =
    let p = parts source program_name settings_name files i read in
    let text = certificate_text i.program.table certificate in
    let reads : certificate_of p.table text ≡ Ok certificate = subst (λ t. certificate_of t text ≡ Ok certificate) p.by (found.reads_back (within-limits i budget target certificate most found)) in
    let read_is : (certificate_file p.table certificate_name files).end ≡ goes certificate = file-held role.Certificate certificate_refusal (certificate_of p.table) certificate_name files text certificate held short reads in
    let target_is : (ending (target_in (length i.program.source.rules) target)).end ≡ goes tt = target-goes (length i.program.source.rules) target found.within in (
      trial i.program i.settings target certificate,
      bind-goes (table_in source files) (λ table. check.run_by table program_name settings_name target certificate_name files) p.table p.table_is
          ∙ bind-goes (typed_file p.table program_name files) (λ program. check.run_on p.table program settings_name target certificate_name files) i.program p.program_is
          ∙ bind-goes (settings_file p.table settings_name files) (λ settings. check.run_under p.table i.program settings target certificate_name files) i.settings p.settings_is
          ∙ bind-goes (ending (target_in (length i.program.source.rules) target)) (λ _. certificate_file p.table certificate_name files >>= tried i.program i.settings target) tt target_is
          ∙ bind-goes (certificate_file p.table certificate_name files) (tried i.program i.settings target) certificate read_is,
      λ others other is'.
          let is : IsProblemFor i target found.connectors found.answer.problem = record { typed = found.typed; within = found.within; graph = found.graph; of_target = found.answer.of_target; fits = found.answer.fits } in
          law i.program.table other certificate found.answer.answered.tree found.answer.answered.spelled
          (tree-alike i target found.connectors others found.answer.problem other is is' [] found.answer.answered.tree found.answer.answered.tree_proves),
    )
