-- The built-in table.
use Rattle.std.specs.Prelude.{ℕ, pos, List, [], ◌∷◌, ◌++◌, codes}
use Rattle.key_table.specs.Tables.{Domain, variants, bounds, text, metadata, Key, Table}

abbrev key : List ℕ → Domain → Key
key name domain = record { name = name; domain = domain }

abbrev pub payment_methods : List (List ℕ)
payment_methods = codes "card" ∷ codes "wallet" ∷ codes "bank_transfer" ∷ codes "bank_redirect" ∷ codes "pay_later" ∷ []

abbrev pub payment_method_types : List (List ℕ)
payment_method_types = codes "credit" ∷ codes "debit" ∷ codes "google_pay" ∷ codes "apple_pay" ∷ codes "paypal" ∷ codes "klarna" ∷ codes "ach" ∷ codes "sepa" ∷ codes "ideal" ∷ []

abbrev pub card_networks : List (List ℕ)
card_networks = codes "Visa" ∷ codes "Mastercard" ∷ codes "AmericanExpress" ∷ codes "Discover" ∷ codes "JCB" ∷ []

abbrev pub currencies : List (List ℕ)
currencies = codes "USD" ∷ codes "EUR" ∷ codes "GBP" ∷ codes "INR" ∷ codes "NOK" ∷ codes "JPY" ∷ []

abbrev pub countries : List (List ℕ)
countries = codes "US" ∷ codes "GB" ∷ codes "DE" ∷ codes "FR" ∷ codes "IN" ∷ codes "NO" ∷ codes "JP" ∷ []

-- the keys that say how is paid
abbrev pub method_keys : Table
method_keys =
    key (codes "payment_method") (variants payment_methods)
    ∷ key (codes "payment_method_type") (variants payment_method_types)
    ∷ key (codes "card_network") (variants card_networks)
    ∷ []

-- these and the other keys that have variants
abbrev pub enum_keys : Table
enum_keys =
    method_keys
    ++ key (codes "authentication_type") (variants (codes "three_ds" ∷ codes "no_three_ds" ∷ []))
    ∷ key (codes "capture_method") (variants (codes "automatic" ∷ codes "manual" ∷ []))
    ∷ key (codes "currency") (variants currencies)
    ∷ key (codes "billing_country") (variants countries)
    ∷ []

-- All keys, the ones without variants last.
abbrev pub built_in : Table
built_in =
    enum_keys
    ++ key (codes "amount") (bounds (pos 0) (pos 9223372036854775807))
    ∷ key (codes "card_bin") text
    ∷ key (codes "business_label") text
    ∷ key (codes "metadata") metadata
    ∷ []
