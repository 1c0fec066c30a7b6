use Rattle.std.proofs.Common.{◌≡◌, ◌++◌, string_bytes}
use Rattle.std.specs.Str.Iter.{chars_rest}
use Rattle.json_shape.specs.Paths.{escaped, name_step}
use Rattle.json_shape.proofs.path.push_name.Given as goal

abbrev pub invariant-loop-c : goal.invariant-loop-c
invariant-loop-c l = string_bytes l.text ++ escaped (chars_rest l.c-iterator) ≡ name_step (string_bytes l.fn.text) l.name
