-- Items, and the line that is the text of an item.
use Rattle.std.specs.Prelude.{ℕ, List, ◌++◌, codes, bytes_eq, Option, Some, None, option_map, if◌then◌else◌}
use Rattle.std.specs.Option.{option_map_or}
use Rattle.std.specs.Fmt.{decimal}
use Rattle.rule_problem.specs.declared.certificate.Item.{Item}
use Rattle.rule_problem.specs.declared.certificate.Item.TheVariants.{Split, Void, Want, Bar, Goal, Todo}
use Rattle.certificate_text.specs.Spelled.{number_of}
use Rattle.certificate_text.specs.Named.{after}

abbrev pub item_text : Item → List ℕ
item_text (Split atom) = codes "split " ++ decimal atom
item_text (Void atom) = codes "void " ++ decimal atom
item_text (Want want) = codes "want " ++ decimal want
item_text (Bar bar) = codes "bar " ++ decimal bar
item_text Goal = codes "goal"
item_text Todo = codes "todo"

-- The item whose text a line is. In a certificate none is `todo`.
unfoldable pub item_of : List ℕ → Option Item
item_of line = if bytes_eq line (codes "goal") then Some Goal
    else option_map_or (λ n. option_map Split (number_of n)) (after (codes "split ") line)
    (option_map_or (λ n. option_map Void (number_of n)) (after (codes "void ") line)
    (option_map_or (λ n. option_map Want (number_of n)) (after (codes "want ") line)
    (option_map_or (λ n. option_map Bar (number_of n)) (after (codes "bar ") line)
    None)))
