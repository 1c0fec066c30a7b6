use Rattle.std.proofs.Common.{◌≡◌, Some, option_map, option_and_then, codes, ap, ◌∙◌, sym, arith}
use Rattle.toml.specs.Data.{get, as_array}
use Rattle.toml.specs.View.{view, items_view, array_view}
use Rattle.key_table.specs.TableFiles.{variants_of}
use Rattle.key_table.proofs.TableFileLemmas.{variants_long, variants_fit}
use Rattle.key_table.proofs.table_file.variants.Goals as goal

pub returns-then-len-gt-MOST_VARIANTS-clause-variants : goal.returns-then-len-gt-MOST_VARIANTS-clause-variants
returns-then-len-gt-MOST_VARIANTS-clause-variants c =
    let is : option_and_then as_array (get (codes "variants") (view c.args.entry.now)) ≡ Some (items_view c.in-Some-as_array.items.now.items) = ap (option_and_then as_array) (sym c.in-Some.ensures) ∙ sym c.in-Some-as_array.ensures in
    rw (c.fault-then-len-gt-MOST_VARIANTS.ensures) (variants_long c.args.key (view c.args.entry.now) c.in-Some-as_array.items.now.items is (omega arith))

pub returns-clause-variants : goal.returns-clause-variants
returns-clause-variants c =
    let is : option_and_then as_array (get (codes "variants") (view c.args.entry.now)) ≡ Some (items_view c.in-Some-as_array.items.now.items) = ap (option_and_then as_array) (sym c.in-Some.ensures) ∙ sym c.in-Some-as_array.ensures in
    rw (variants_fit c.args.key (view c.args.entry.now) c.in-Some-as_array.items.now.items is (omega arith), ← c.deref.ensures.value) c.names.ensures.names
