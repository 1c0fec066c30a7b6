-- A key of the code as one of the definitions.
use Rattle.std.specs.Prelude.{String, string_bytes}
use Rattle.std.specs.declared.alloc.Global.{Global}
use Rattle.key_table.specs.declared.key.Domain as code
use Rattle.key_table.specs.declared.key.Domain.TheVariants as code_domain
use Rattle.key_table.specs.Tables.{Domain, variants, bounds, text, metadata, Key}

abbrev pub domain_view : code.Domain → Domain
domain_view (code_domain.Enum names) = variants names
domain_view (code_domain.Number least greatest) = bounds least greatest
domain_view code_domain.Text = text
domain_view code_domain.Metadata = metadata

abbrev pub key_view : String Global × code.Domain → Key
key_view e = record { name = string_bytes e.0; domain = domain_view e.1 }
