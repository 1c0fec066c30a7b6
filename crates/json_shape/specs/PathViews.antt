-- A path as its pointer (RFC 6901).
use Rattle.std.specs.Prelude.{ℕ, List, []}
use Rattle.json_shape.specs.declared.path.Step.{Step}
use Rattle.json_shape.specs.declared.path.Step.TheVariants.{Root, Name, Item}
use Rattle.json_shape.specs.Paths.{name_step, item_step}

-- the pointer to where a step leads
abbrev pub pointer_of : Step → List ℕ
pointer_of (Root alloc) = []
pointer_of (Name before name) = name_step before.now name.now
pointer_of (Item before number) = item_step before.now number
