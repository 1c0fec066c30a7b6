-- Candidates: options that stand for all options of a slot with the same tests true.
use Rattle.std.specs.Prelude.{Bool, false, Some, None}
use Rattle.std.specs.List.{list_all}
use Rattle.std.specs.Bool.{beq}
use Rattle.key_table.specs.declared.atom.Atom.{Atom}
use Rattle.key_table.specs.declared.atom.Test.{Test}
use Rattle.key_table.specs.declared.slot.Datum.TheVariants as datum
use Rattle.key_table.specs.Atoms.{test_holds}
use Rattle.key_table.specs.Options.{holds_of}
use Rattle.key_table.specs.Contexts.{Assumption, Context}
use Rattle.contradiction_checker.specs.declared.candidate.Candidate.{Candidate}
use Rattle.contradiction_checker.specs.declared.candidate.Candidate.TheVariants.{Absent, Variant, Number, Text, Untested}

-- No test is true of absence, or of a text that no test names.
abbrev pub candidate_passes : Candidate → Test → Bool
candidate_passes Absent test = false
candidate_passes (Variant v) test = test_holds (datum.Variant v) test
candidate_passes (Number z) test = test_holds (datum.Number z) test
candidate_passes (Text t) test = test_holds (datum.Text t.now) test
candidate_passes Untested test = false

-- whether an atom holds of a candidate
abbrev pub candidate_holds : Candidate → Atom → Bool
candidate_holds Absent atom = holds_of atom None
candidate_holds (Variant v) atom = holds_of atom (Some (datum.Variant v))
candidate_holds (Number z) atom = holds_of atom (Some (datum.Number z))
candidate_holds (Text t) atom = holds_of atom (Some (datum.Text t.now))
candidate_holds Untested atom = atom.none_of

-- whether an assumption has its truth on a text that no test names
abbrev pub untested_has_truth : Assumption → Bool
untested_has_truth a = beq a.atom.none_of a.truth

-- whether an assumption has its truth on a candidate
abbrev pub candidate_has_truth : Candidate → Assumption → Bool
candidate_has_truth candidate a = beq (candidate_holds candidate a.atom) a.truth

-- whether all assumptions have their truths on a candidate
abbrev pub candidate_meets : Candidate → Context → Bool
candidate_meets candidate assumptions = list_all (candidate_has_truth candidate) assumptions
