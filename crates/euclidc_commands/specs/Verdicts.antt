-- The line of a certificate's verdict.
use Rattle.std.specs.Prelude.{◌≡◌, ℕ, List, ◌++◌, codes, decimal}
use Rattle.contradiction_checker.specs.declared.walk.Verdict as judged
use Rattle.contradiction_checker.specs.declared.walk.Verdict.TheVariants.{Accepted, Rejected}
use Rattle.euclidc_commands.specs.declared.status.Verdict.{Verdict}
use Rattle.euclidc_commands.specs.declared.status.Verdict.TheVariants as verdict

-- the text of a verdict, and what it says
abbrev pub Tells : judged.Verdict → List ℕ → Verdict → Type 0
Tells Accepted text v = (text ≡ codes "accepted\n") × (v ≡ verdict.Done)
Tells (Rejected i) text v = (text ≡ codes "rejected " ++ (decimal i ++ codes "\n")) × (v ≡ verdict.No)
