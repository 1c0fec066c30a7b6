use Rattle.std.proofs.Common.{◌≡◌, map, take}
use Rattle.dir_typing.specs.Numbered.{variant_number}
use Rattle.dir_typing.proofs.numbering.variant_numbers.Given as goal

abbrev pub invariant-loop-word : goal.invariant-loop-word
invariant-loop-word l = l.numbers ≡ map (variant_number l.table l.key) (take l.word-index l.words)
