use Rattle.std.proofs.Common.{sym}
use Rattle.toml.specs.View.{view}
use Rattle.key_table.proofs.TableFileLemmas.{keys_listed}
use Rattle.key_table.proofs.table_file.keys_under.Goals as goal

pub returns-in-Some-as_array : goal.returns-in-Some-as_array
returns-in-Some-as_array c =
    rw (c.in-Some.is, keys_listed (view c.in-Some.entries.now) c.in-Some-as_array.entries.now.items (sym c.in-Some-as_array.ensures), ← c.deref.ensures.value) c.keys.ensures
