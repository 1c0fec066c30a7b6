-- Which bytes are a text.
use Rattle.std.specs.Prelude.{ℕ, List, Result, Ok, Err, if◌then◌else◌}
use Rattle.std.specs.Str.{is_utf8}
use Rattle.key_table.specs.declared.stop.NotUtf8.{NotUtf8}

abbrev pub not_utf8 : NotUtf8
not_utf8 = record {}

-- the bytes, where they are UTF-8
abbrev pub text_of : List ℕ → Result (List ℕ) NotUtf8
text_of bytes = if is_utf8 bytes then Ok bytes else Err not_utf8
