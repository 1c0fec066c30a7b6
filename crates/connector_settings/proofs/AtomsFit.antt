-- The atoms of settings that fit a table fit it.
use Rattle.std.proofs.Common.{◌≡◌, ℕ, ℤ, List, [], ◌∷◌, ◌++◌, length, map, nat_lt, nat_le, Bool, true, false, ◌&&◌, cond, Option, Some, None, option_map, refl, ap, ◌∙◌, arith}
use Rattle.std.specs.List.{AllByRecursion, flat_map, list_all, sum_by}
use Rattle.std.specs.Option.{option_map_or}
use Rattle.std.proofs.lemmas.Bool.{and_parts, ltb-true, false≢true}
use Rattle.std.proofs.lemmas.List.{length-map}
use Rattle.key_table.specs.declared.atom.Op.{Op}
use Rattle.key_table.specs.declared.atom.Op.TheVariants.{GreaterEqual, LessEqual}
use Rattle.key_table.specs.declared.atom.Test.{Test}
use Rattle.key_table.specs.declared.atom.Test.TheVariants.{Variant, Number}
use Rattle.key_table.specs.declared.atom.Atom.{Atom}
use Rattle.key_table.specs.Tables.{Table, Domain, variants, bounds, text, metadata, domain_at, kind_of, names_of, has_sub}
use Rattle.key_table.specs.Atoms.{test_fits, atom_fits}
use Rattle.connector_settings.specs.declared.keys.Keys.{Keys}
use Rattle.connector_settings.specs.declared.demand.Demand.{Demand}
use Rattle.connector_settings.specs.declared.settings.Accept.{Accept}
use Rattle.connector_settings.specs.declared.settings.Accept.TheVariants as accept
use Rattle.connector_settings.specs.declared.settings.TypeEntry.{TypeEntry}
use Rattle.connector_settings.specs.declared.settings.Method.{Method}
use Rattle.connector_settings.specs.declared.settings.Connector.{Connector}
use Rattle.connector_settings.specs.declared.settings.Settings.{Settings}
use Rattle.connector_settings.specs.Keys.{keys_of}
use Rattle.connector_settings.specs.Demands.{demand_atom, asked, word_tests, network_demands, only_demands, except_demands, bound_demands, demands_of}
use Rattle.connector_settings.specs.Takes.{entry_atoms, connector_atoms, atoms_of_settings}
use Rattle.connector_settings.specs.Fit.{is_enum_kind, is_number_kind, is_enum, word_fits, words_fit, accept_fits, bound_fits, entry_fits, method_fits, is_short, list_fits, connector_fits, entry_count, settings_fit}

-- ---- facts of each element

all_join : {X : Type 0} (P : X → Type 0) (xs ys : List X) → AllByRecursion P xs → AllByRecursion P ys → AllByRecursion P (xs ++ ys)
all_join P [] ys h k = k
all_join P (x ∷ xs) ys h k = (h.0, all_join P xs ys h.1 k)

all_map : {X Y : Type 0} (P : Y → Type 0) (f : X → Y) (xs : List X) → AllByRecursion (λ x. P (f x)) xs → AllByRecursion P (map f xs)
all_map P f [] h = tt
all_map P f (x ∷ xs) h = (h.0, all_map P f xs h.1)

all_flat : {X Y : Type 0} (P : Y → Type 0) (q : X → Bool) (g : X → List Y) → ((x : X) → q x ≡ true → AllByRecursion P (g x)) → (xs : List X) → list_all q xs ≡ true → AllByRecursion P (flat_map g xs)
all_flat P q g each [] h = tt
all_flat P q g each (x ∷ xs) h =
    let parts = and_parts (q x) (list_all q xs) h in
    all_join P (g x) (flat_map g xs) (each x parts.0) (all_flat P q g each xs parts.1)

-- ---- one atom

-- whether an atom without a sub name fits what may stand at its key
abbrev fits_in : List Test → Option Domain → Bool
fits_in tests domain = option_map_or (λ d. has_sub d None && (nat_le (length tests) 4096 && list_all (test_fits d) tests)) domain false

tests_fit : (names : List (List ℕ)) (ws : List ℕ) → list_all (test_fits (variants names)) (word_tests ws) ≡ list_all (λ w. nat_lt w (length names)) ws
tests_fit names [] = refl
tests_fit names (w ∷ ws) = ap (λ b. nat_lt w (length names) && b) (tests_fit names ws)

words_in : (ws : List ℕ) (domain : Option Domain) → option_map_or is_enum_kind (option_map kind_of domain) false ≡ true → (nat_le (length ws) 4096 && list_all (λ w. nat_lt w (length (option_map_or names_of domain []))) ws) ≡ true → fits_in (word_tests ws) domain ≡ true
words_in ws None e h = absurd (false≢true e)
words_in ws (Some (variants names)) e h =
    ap (λ n. nat_le n 4096 && list_all (test_fits (variants names)) (word_tests ws)) (length-map ws (λ v. Variant v))
    ∙ ap (λ b. nat_le (length ws) 4096 && b) (tests_fit names ws)
    ∙ h
words_in ws (Some (bounds least greatest)) e h = absurd (false≢true e)
words_in ws (Some text) e h = absurd (false≢true e)
words_in ws (Some metadata) e h = absurd (false≢true e)

number_in : (op : Op) (n : ℤ) (domain : Option Domain) → option_map_or is_number_kind (option_map kind_of domain) false ≡ true → fits_in (Number op n ∷ []) domain ≡ true
number_in op n None e = absurd (false≢true e)
number_in op n (Some (variants names)) e = absurd (false≢true e)
number_in op n (Some (bounds least greatest)) e = refl
number_in op n (Some text) e = absurd (false≢true e)
number_in op n (Some metadata) e = absurd (false≢true e)

-- a key with a variant is an enum
pub enum_of : (w : ℕ) (domain : Option Domain) → nat_lt w (length (option_map_or names_of domain [])) ≡ true → option_map_or is_enum_kind (option_map kind_of domain) false ≡ true
enum_of w None h = absurd (omega (arith, ltb-true w 0 h))
enum_of w (Some (variants names)) h = refl
enum_of w (Some (bounds least greatest)) h = absurd (omega (arith, ltb-true w 0 h))
enum_of w (Some text) h = absurd (omega (arith, ltb-true w 0 h))
enum_of w (Some metadata) h = absurd (omega (arith, ltb-true w 0 h))

module _ (table : Table) where
  abbrev Fits : Atom → Type 0
  Fits atom = atom_fits table atom ≡ true

  abbrev DemandFits : Demand → Type 0
  DemandFits d = Fits (demand_atom d)

  words_fit-atom : (key : ℕ) (ws : List ℕ) → is_enum table key ≡ true → words_fit table key ws ≡ true → Fits (demand_atom (asked key (word_tests ws)))
  words_fit-atom key ws e h = words_in ws (domain_at key table) e h

  -- some words that fit, of which there is one
  word_fit-atom : (key w : ℕ) (ws : List ℕ) → words_fit table key (w ∷ ws) ≡ true → Fits (demand_atom (asked key (word_tests (w ∷ ws))))
  word_fit-atom key w ws h =
      let all = and_parts (nat_le (length (w ∷ ws)) 4096) (list_all (word_fits table key) (w ∷ ws)) h in
      let first = and_parts (word_fits table key w) (list_all (word_fits table key) ws) all.1 in
      words_fit-atom key (w ∷ ws) (enum_of w (domain_at key table) first.0) h

  single : (key w : ℕ) → word_fits table key w ≡ true → Fits (demand_atom (asked key (word_tests (w ∷ []))))
  single key w h = words_fit-atom key (w ∷ []) (enum_of w (domain_at key table) h) (ap (λ b. b && true) h)

  networks : (key : ℕ) (ws : List ℕ) → words_fit table key ws ≡ true → AllByRecursion DemandFits (network_demands key ws)
  networks key [] h = tt
  networks key (w ∷ ws) h = (word_fit-atom key w ws h, tt)

  listed : (key : ℕ) (ws : List ℕ) → (is_enum table key && words_fit table key ws) ≡ true → Fits (demand_atom (asked key (word_tests ws)))
  listed key ws h = let parts = and_parts (is_enum table key) (words_fit table key ws) h in words_fit-atom key ws parts.0 parts.1

  only : (key : ℕ) (a : Accept) → accept_fits table key a ≡ true → AllByRecursion DemandFits (only_demands key a)
  only key accept.All h = tt
  only key (accept.Only ws) h = (listed key ws h, tt)
  only key (accept.Except ws) h = tt

  except : (key : ℕ) (a : Accept) → accept_fits table key a ≡ true → AllByRecursion DemandFits (except_demands key a)
  except key accept.All h = tt
  except key (accept.Only ws) h = tt
  except key (accept.Except ws) h = (listed key ws h, tt)

  bound : (key : ℕ) (op : Op) (b : Option ℤ) → bound_fits table key b ≡ true → AllByRecursion DemandFits (bound_demands key op b)
  bound key op None h = tt
  bound key op (Some n) h = (number_in op n (domain_at key table) h, tt)

  demands : (keys : Keys) (method : ℕ) (e : TypeEntry) → word_fits table keys.method method ≡ true → entry_fits table keys e ≡ true → AllByRecursion DemandFits (demands_of keys method e)
  demands keys method e word h =
      let wt = word_fits table keys.method_type e.method_type in
      let wn = words_fit table keys.network e.networks in
      let ac = accept_fits table keys.currency e.currencies in
      let ak = accept_fits table keys.country e.countries in
      let bn = bound_fits table keys.amount e.minimum in
      let bx = bound_fits table keys.amount e.maximum in
      let first = and_parts wt (wn && (ac && (ak && (bn && bx)))) h in
      let networks_fit = and_parts wn (ac && (ak && (bn && bx))) first.1 in
      let currencies = and_parts ac (ak && (bn && bx)) networks_fit.1 in
      let countries = and_parts ak (bn && bx) currencies.1 in
      let amounts = and_parts bn bx countries.1 in
      let join = all_join DemandFits in
      let ec = except keys.currency e.currencies currencies.0 in
      let ek = except keys.country e.countries countries.0 in
      let mx = bound keys.amount LessEqual e.maximum amounts.1 in
      let mn = bound keys.amount GreaterEqual e.minimum amounts.0 in
      let ok = only keys.country e.countries countries.0 in
      let oc = only keys.currency e.currencies currencies.0 in
      let n = networks keys.network e.networks networks_fit.0 in
      let rest = join _ _ n (join _ _ oc (join _ _ ok (join _ _ mn (join _ _ mx (join _ _ ec ek))))) in
      (single keys.method method word, (single keys.method_type e.method_type first.0, rest))

  entry : (keys : Keys) (method : ℕ) (e : TypeEntry) → word_fits table keys.method method ≡ true → entry_fits table keys e ≡ true → AllByRecursion Fits (entry_atoms keys method e)
  entry keys method e word h = all_map Fits demand_atom (demands_of keys method e) (demands keys method e word h)

  method : (keys : Keys) (m : Method) → method_fits table keys m ≡ true → AllByRecursion Fits (flat_map (entry_atoms keys m.method) m.types)
  method keys m h =
      let word = and_parts (word_fits table keys.method m.method) (list_fits (entry_fits table keys) m.types) h in
      let types = and_parts (nat_le (length m.types) 4096) (list_all (entry_fits table keys) m.types) word.1 in
      all_flat Fits (entry_fits table keys) (entry_atoms keys m.method) (λ e k. entry keys m.method e word.0 k) m.types types.1

  connector : (keys : Keys) (c : Connector) → connector_fits table keys c ≡ true → AllByRecursion Fits (connector_atoms keys c)
  connector keys c h =
      let name = and_parts (is_short c.name) (option_map_or is_short c.id true && list_fits (method_fits table keys) c.methods) h in
      let id = and_parts (option_map_or is_short c.id true) (list_fits (method_fits table keys) c.methods) name.1 in
      let methods = and_parts (nat_le (length c.methods) 4096) (list_all (method_fits table keys) c.methods) id.1 in
      let all = all_flat Fits (method_fits table keys) (λ (m : Method). flat_map (entry_atoms keys m.method) m.types) (method keys) c.methods methods.1 in
      elim c.disabled as (λ (b : Bool). AllByRecursion Fits (cond b [] (flat_map (λ (m : Method). flat_map (entry_atoms keys m.method) m.types) c.methods))) [ true ↦ tt | false ↦ all ]

  pub settings_atoms : (settings : Settings) → settings_fit table settings ≡ true → AllByRecursion Fits (atoms_of_settings table settings)
  settings_atoms settings h =
      let keys = keys_of table in
      let few = and_parts (nat_le (length settings.connectors) 256) (nat_le (sum_by entry_count settings.connectors) 4096 && list_all (connector_fits table keys) settings.connectors) h in
      let entries = and_parts (nat_le (sum_by entry_count settings.connectors) 4096) (list_all (connector_fits table keys) settings.connectors) few.1 in
      all_flat Fits (connector_fits table keys) (connector_atoms keys) (connector keys) settings.connectors entries.1
