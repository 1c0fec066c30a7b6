use Rattle.std.proofs.Common.{◌≡◌, drop}
use Rattle.shelf_io.specs.MemShelves.{files_of, bytes_under}
use Rattle.shelf_io.proofs.mem_shelf.find.Given as goal

-- No file so far has the name.
abbrev pub invariant-loop-file : goal.invariant-loop-file
invariant-loop-file l = bytes_under (files_of l.files) l.name ≡ bytes_under (files_of (drop l.file-index l.files)) l.name
