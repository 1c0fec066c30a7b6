use Rattle.key_table.specs.Names.{is_name}
use Rattle.key_table.proofs.NameLemmas.{all-images}
use Rattle.key_table.proofs.names.Names.of.Goals as goal

pub add-requires-clause-named : goal.add-requires-clause-named
add-requires-clause-named c = all-images is_name (λ w. w.now) c.args.words.now c.loop-word.word-index _ c.requires.named c.loop-word-test.true
