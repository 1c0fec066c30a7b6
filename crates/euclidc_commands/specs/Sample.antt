-- The command `sample`.
use Rattle.std.specs.Prelude.{◌≡◌, ℕ, ◌+◌, List, [], ◌∷◌, ◌++◌, map, Bool, true, false, codes, decimal}
use Rattle.std.specs.List.{range_with_len}
use Rattle.shelf_io.specs.Seen.{Name, Files}
use Rattle.key_table.specs.Payments.{Entries}
use Rattle.euclid_ast.specs.declared.meaning.Choice as decided
use Rattle.euclid_ast.specs.declared.meaning.Choice.TheVariants.{Rule, Default}
use Rattle.dir_typing.specs.Typed.{Typed}
use Rattle.connector_settings.specs.declared.settings.Settings.{Settings}
use Rattle.rule_problem.specs.declared.problem.Problem.{Problem}
use Rattle.rule_report.specs.Aims.{Aims}
use Rattle.rule_report.specs.Paths.{paths_of}
use Rattle.rule_report.specs.Reaching.{Reaches}
use Rattle.rule_report.specs.Targets.{IsProblemOf}
use Rattle.sample_program.specs.Laws.{sample, IsSmall}
use Rattle.sample_program.specs.SettingsTexts.{settings}
use Rattle.euclidc_commands.specs.declared.status.Verdict.{Verdict}
use Rattle.euclidc_commands.specs.declared.status.Verdict.TheVariants as verdict
use Rattle.euclidc_commands.specs.Stages.{Answering}

-- Whether a target is reached: some payment reaches it, or none does.
abbrev pub Tells : Typed → Settings → decided.Choice → Bool → Type 0
Tells p s target true = (payment : Entries) × Reaches p s target payment
Tells p s target false = (payment : Entries) → Reaches p s target payment → ⊥

-- How many of some targets are reached by some payment, and how many by none.
pub data Counts (p : Typed) (s : Settings) : List decided.Choice → ℕ → ℕ → Type 0 where
  nothing : Counts p s [] 0 0
  with_reached : {targets : List decided.Choice} {r n : ℕ} (target : decided.Choice) (payment : Entries) → Reaches p s target payment → Counts p s targets r n → Counts p s (target ∷ targets) (r + 1) n
  with_never : {targets : List decided.Choice} {r n : ℕ} (target : decided.Choice) → ((payment : Entries) → Reaches p s target payment → ⊥) → Counts p s targets r n → Counts p s (target ∷ targets) r (n + 1)

-- The problems of all targets are small.
abbrev pub AreSmall : Aims → Type 0
AreSmall a = (target : decided.Choice) (problem : Problem) → IsProblemOf (paths_of a.program) a.connectors.graph a.connectors.goal target problem → IsSmall problem

-- the first rules, so many, of a program
abbrev pub rules_up_to : ℕ → List decided.Choice
rules_up_to count = map (λ rule. Rule rule) (range_with_len 0 count)

-- the rules of a program with so many, and its default
unfoldable pub targets_of : ℕ → List decided.Choice
targets_of count = rules_up_to count ++ Default ∷ []

-- the lines of the answer: the seed, the number of rules, and how many targets are reached, are never reached, and are left open, which are none
abbrev pub summary : ℕ → ℕ → ℕ → List ℕ
summary seed reached never =
    codes "sample " ++ (decimal seed ++ (codes "\nrules 256\nreached " ++ (decimal reached ++ (codes "\nnever " ++ (decimal never ++ codes "\nopen 0\n")))))

-- The answer counts the targets of the seed's program under the settings of samples, each of the 257 once.
pub record Summarized (seed : ℕ) (text : List ℕ) (v : Verdict) : Type 0 where
  pub reached : ℕ
  pub never : ℕ
  pub counts : Counts (sample seed) settings (targets_of 256) reached never
  pub all : reached + never ≡ 257
  pub same_text : text ≡ summary seed reached never
  pub done : v ≡ verdict.Done

-- the answers, whatever the files
abbrev pub MayAnswer : ℕ → Answering
MayAnswer seed files text v = Summarized seed text v

-- It reaches no file.
abbrev pub asked : ℕ → Files → List Name
asked seed files = []

-- it has none
abbrev pub names : ℕ → List Name
names seed = []

-- No other text answers for the seed.
abbrev pub IsOnly : ℕ → List ℕ → Type 0
IsOnly seed text = (other : List ℕ) (v : Verdict) → Summarized seed other v → other ≡ text
