-- Texts that tell what is found on targets, one after another.
use Rattle.std.proofs.Common.{◌≡◌, ℕ, List, [], ◌∷◌, ◌++◌, length, Bool, true, false, ◌||◌, refl, sym, ap, subst, ◌∙◌}
use Rattle.std.specs.List.{AllZip, list_any}
use Rattle.std.proofs.lemmas.List.{append_assoc, append-nil}
use Rattle.std.proofs.lemmas.List.Folds.{list_any-append}
use Rattle.std.proofs.lemmas.Slice.Zip.{all_zipped_more}
use Rattle.key_table.specs.Tables.{Table}
use Rattle.euclid_ast.specs.declared.meaning.Choice as decided
use Rattle.euclid_ast.specs.Meaning.{IsWithin}
use Rattle.dir_typing.specs.Typed.{Typed, IsTyped}
use Rattle.connector_settings.specs.declared.settings.Settings.{Settings}
use Rattle.connector_settings.specs.declared.layout.ConnectorGraph.{ConnectorGraph}
use Rattle.connector_settings.specs.GraphOf.{IsGraphOf}
use Rattle.rule_problem.specs.declared.certificate.Report.{Report}
use Rattle.rule_report.specs.Aims.{Aims, aims}
use Rattle.rule_report.specs.Answers.{IsAnswerOn, targets_of}
use Rattle.euclidc_commands.specs.declared.status.Verdict.{Verdict}
use Rattle.euclidc_commands.specs.Appended.{Finds, IsBlock, AppendsAll}
use Rattle.euclidc_commands.specs.Findings.{report_text, is_open, verdict_where, ReadsBack, IsFound}
use Rattle.euclidc_commands.specs.Inquiries.{inquiry}
use Rattle.euclidc_commands.specs.Prove.{Proved}
use Rattle.euclidc_commands.specs.Report.{block, blocks, Tells, Reported}

or_false : (b : Bool) → (b || false) ≡ b
or_false true = refl
or_false false = refl

blocks_more : (F : decided.Choice → Report → Type 0) (p : Typed) (targets : List decided.Choice) (reports : List Report) (t : decided.Choice) (r : Report) → AllZip F targets reports
    → blocks p (targets ++ t ∷ []) (reports ++ r ∷ []) ≡ blocks p targets reports ++ block p t r
blocks_more F p [] [] t r found = append-nil (block p t r)
blocks_more F p [] (y ∷ reports) t r found = absurd found
blocks_more F p (x ∷ targets) [] t r found = absurd found
blocks_more F p (x ∷ targets) (y ∷ reports) t r found = ap (λ z. block p x y ++ z) (blocks_more F p targets reports t r found.1) ∙ sym (append_assoc (block p x y) (blocks p targets reports) (block p t r))

-- one target more
tells_more : {F : decided.Choice → Report → Type 0} (p : Typed) (targets : List decided.Choice) (t : decided.Choice) (r : Report) (text : List ℕ) (left : Bool) → Tells F p targets text left → F t r
    → Tells F p (targets ++ t ∷ []) (text ++ block p t r) (left || is_open r)
tells_more {F} p targets t r text left tells found = record {
  reports = tells.reports ++ r ∷ [];
  found = all_zipped_more F targets tells.reports t r tells.found found;
  same_text = ap (λ z. z ++ block p t r) tells.same_text ∙ sym (blocks_more F p targets tells.reports t r tells.found);
  says = ap (λ b. b || is_open r) tells.says ∙ ap (λ b. list_any is_open tells.reports || b) (sym (or_false (is_open r))) ∙ sym (list_any-append is_open tells.reports (r ∷ []));
}

pub appends_none : (a : Aims) (budget : ℕ) (old : List ℕ) → AppendsAll a budget [] old old false
appends_none a budget old = record { text = []; came = sym (append-nil old); tells = record { reports = []; found = tt; same_text = refl; says = refl } }

pub appends_more : (a : Aims) (budget : ℕ) (targets : List decided.Choice) (t : decided.Choice) (old mid new : List ℕ) (left here : Bool) → AppendsAll a budget targets old mid left → IsBlock a budget t mid new here
    → AppendsAll a budget (targets ++ t ∷ []) old new (left || here)
appends_more a budget targets t old mid new left here all one =
    let P : Bool → Type 0 = λ b. Tells (Finds a budget) a.program (targets ++ t ∷ []) (all.text ++ block a.program t one.report) (left || b) in
    record {
      text = all.text ++ block a.program t one.report;
      came = one.came ∙ ap (λ z. z ++ block a.program t one.report) all.came ∙ append_assoc old all.text (block a.program t one.report);
      tells = subst P (sym one.says) (tells_more a.program targets t one.report all.text left all.tells one.found);
    }

each_found : {F G : decided.Choice → Report → Type 0} → ((t : decided.Choice) (r : Report) → F t r → G t r) → (targets : List decided.Choice) (reports : List Report) → AllZip F targets reports → AllZip G targets reports
each_found f [] [] found = tt
each_found f [] (y ∷ reports) found = absurd found
each_found f (x ∷ targets) [] found = absurd found
each_found f (x ∷ targets) (y ∷ reports) found = (f x y found.0, each_found f targets reports found.1)

-- what is answered is found, where the graph is one of the settings
finds : (p : Typed) (settings : Settings) (connectors : ConnectorGraph) (budget : ℕ) → IsTyped p → IsGraphOf p.table settings connectors → (t : decided.Choice) (r : Report) → Finds (aims p connectors) budget t r
    → IsFound (inquiry p settings) budget t r
finds p settings connectors budget typed graph t r f = record { connectors = connectors; typed = typed; within = f.within; graph = graph; answer = f.answer; reads_back = f.reads_back }

pub reported : (table : Table) (lowered p : Typed) (settings : Settings) (connectors : ConnectorGraph) (a : Aims) (budget : ℕ) (text : List ℕ) (v : Verdict) (left : Bool)
    → lowered ≡ p → p.table ≡ table → a ≡ aims lowered connectors → IsTyped lowered → IsGraphOf table settings connectors
    → AppendsAll a budget (targets_of (length a.program.source.rules)) [] text left → v ≡ verdict_where left → Reported budget (inquiry p settings) text v
reported table lowered p settings connectors a budget text v left same by of typed graph all says =
    let A : Aims → Type 0 = λ x. AppendsAll x budget (targets_of (length x.program.source.rules)) [] text left in
    let T : Table → Type 0 = λ t. IsGraphOf t settings connectors in
    let typed' : IsTyped p = subst IsTyped same typed in
    let graph' : IsGraphOf p.table settings connectors = subst T (sym by) graph in
    let all' : A (aims p connectors) = subst (λ q. A (aims q connectors)) same (subst A of all) in (
      left,
      record {
        reports = all'.tells.reports;
        found = each_found (finds p settings connectors budget typed' graph') (targets_of (length p.source.rules)) all'.tells.reports all'.tells.found;
        same_text = all'.came ∙ all'.tells.same_text;
        says = all'.tells.says;
      },
      says,
    )

pub proved : (table : Table) (lowered p : Typed) (settings : Settings) (connectors : ConnectorGraph) (a : Aims) (target : decided.Choice) (budget : ℕ) (report : Report) (text : List ℕ) (v : Verdict)
    → lowered ≡ p → p.table ≡ table → a ≡ aims lowered connectors → IsWithin target (length p.source.rules) → IsTyped lowered → IsGraphOf table settings connectors
    → IsAnswerOn a budget target report → ReadsBack table report → text ≡ report_text table report → v ≡ verdict_where (is_open report) → Proved target budget (inquiry p settings) text v
proved table lowered p settings connectors a target budget report text v same by of within typed graph answer reads same_text says =
    let A : Aims → Type 0 = λ x. IsAnswerOn x budget target report in
    let T : Table → Type 0 = λ t. IsGraphOf t settings connectors × ReadsBack t report × (text ≡ report_text t report) in
    let typed' : IsTyped p = subst IsTyped same typed in
    let here : T p.table = subst T (sym by) (graph, reads, same_text) in
    let answer' : A (aims p connectors) = subst (λ q. A (aims q connectors)) same (subst A of answer) in
    record {
      report = report;
      found = finds p settings connectors budget typed' here.0 target report (record { within = within; answer = answer'; reads_back = here.1 });
      same_text = here.2;
      says = says;
    }
