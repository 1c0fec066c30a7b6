use Rattle.std.proofs.Common.{subst, IsUtf8}
use Rattle.std.proofs.lemmas.Str.{IsUtf8-string_bytes}
use Rattle.key_table.proofs.text.Text.as_bytes.Goals as goal

pub returns-clause-utf8 : goal.returns-clause-utf8
returns-clause-utf8 c = subst (λ x. IsUtf8 x) c.self.view_is (IsUtf8-string_bytes c.self.inside.text)
