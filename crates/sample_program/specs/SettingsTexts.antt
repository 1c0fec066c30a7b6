-- The settings of samples: one connector that takes cards on credit, in two currencies, from an amount on.
use Rattle.std.specs.Prelude.{ℕ, pos, List, [], ◌∷◌, codes, false, Some, None}
use Rattle.connector_settings.specs.declared.settings.Accept.TheVariants.{All, Only}
use Rattle.connector_settings.specs.declared.settings.Settings.{Settings}

-- the settings as a file has them
unfoldable pub settings_text : List ℕ
settings_text = codes "[{\"connector_name\":\"c0\",\"payment_methods_enabled\":[{\"payment_method\":\"card\",\"payment_method_types\":[{\"payment_method_type\":\"credit\",\"accepted_currencies\":{\"type\":\"enable_only\",\"list\":[\"USD\",\"EUR\"]},\"minimum_amount\":100}]}]}]"

-- The settings that this text is, by the built-in table: `card`, `credit`, `USD` and `EUR` by their numbers.
unfoldable pub settings : Settings
settings = record {
  connectors = record {
    name = codes "c0";
    id = None;
    disabled = false;
    methods = record {
      method = 0;
      types = record {
        method_type = 0;
        networks = [];
        currencies = Only (0 ∷ 1 ∷ []);
        countries = All;
        minimum = Some (pos 100);
        maximum = None;
      } ∷ [];
    } ∷ [];
  } ∷ [];
}
