-- Reading a key table file.
use Rattle.std.proofs.Common.{◌≡◌, ℕ, suc, ◌+◌, ◌<◌, ◌≤◌, List, [], ◌∷◌, map, length, drop, get_or, Option, Some, None, option_map, option_and_then, codes, Result, Ok, Err, BTreeMap, String, refl, ap, sym, ◌∙◌, IsUtf8, true, false, rules, arith}
use Rattle.std.specs.declared.alloc.Global.{Global}
use Rattle.std.specs.Str.{is_utf8}
use Rattle.std.proofs.lemmas.Bool.{cond-true, cond-false, le-leb, lt-leb}
use Rattle.std.proofs.lemmas.List.{drop_more, drop_all, length-map}
use Rattle.std.proofs.lemmas.Str.{is_utf8-from_IsUtf8, IsUtf8-from_is_utf8}
use Rattle.toml.specs.Data.{Data, table, get, as_array}
use Rattle.toml.specs.Parse.{parse_document}
use Rattle.toml.specs.View.{view, items_view, table_view}
use Rattle.toml.specs.declared.value.Value.{Value, Table as TableCase, the_lemmas}
use Rattle.key_table.specs.declared.table.TableError.{TableError}
use Rattle.key_table.specs.declared.stop.Stop.{Stop}
use Rattle.key_table.specs.Answers.{◌>>=◌, Fails, fails_through}
use Rattle.key_table.specs.Answers.{or_fault}
use Rattle.key_table.specs.TableFiles.{not_toml, fault, document_of, listed, in_turn, name_added, variants_of, key_added, keys_under}

view-table : (m : BTreeMap (String Global) Value) → view (TableCase m) ≡ table (table_view m)
view-table m = search (rules, the_lemmas)

pub document-ok : (bytes : List ℕ) (m : BTreeMap (String Global) Value) → IsUtf8 bytes → parse_document bytes ≡ Some (table_view m) → document_of bytes ≡ Ok (view (TableCase m))
document-ok bytes m utf8 read =
    cond-true (is_utf8 bytes) (or_fault not_toml (option_map table (parse_document bytes))) (Err not_toml) (is_utf8-from_IsUtf8 bytes utf8)
    ∙ rw (read) (ap (λ d. Ok d) (sym (view-table m)))

pub document-other : (bytes : List ℕ) → (IsUtf8 bytes → parse_document bytes ≡ None) → document_of bytes ≡ Err not_toml
document-other bytes none =
    elim (is_utf8 bytes) as (λ b. is_utf8 bytes ≡ b → document_of bytes ≡ Err not_toml) [
      | true ↦ (λ is. cond-true (is_utf8 bytes) (or_fault not_toml (option_map table (parse_document bytes))) (Err not_toml) is ∙ rw (none (IsUtf8-from_is_utf8 bytes is)))
      | false ↦ (λ is. cond-false (is_utf8 bytes) (or_fault not_toml (option_map table (parse_document bytes))) (Err not_toml) is)
    ] refl

abbrev Adding : Type 0 → Type 0
Adding A = A → Data → Result A TableError

-- what the items from the place i on make of what is there
abbrev pub turns_from : {A : Type 0} → Adding A → A → ℕ → List Value → Result A TableError
turns_from add there i nodes = in_turn add there (map view (drop i nodes))

opened : {A : Type 0} (add : Adding A) (there : A) (i : ℕ) (nodes : List Value) (v : Value) → i < length nodes → v ≡ get_or nodes i v
    → turns_from add there i nodes ≡ (add there (view v) >>= λ more. turns_from add more (i + 1) nodes)
unfolding in_turn
opened add there i nodes v within is =
    ap (λ vs. in_turn add there (map view vs)) (drop_more nodes i v within ∙ ap (λ y. y ∷ drop (i + 1) nodes) (sym is))

pub turn_goes_on : {A : Type 0} (add : Adding A) (there more : A) (i : ℕ) (nodes : List Value) (v : Value) (total : Result A TableError)
    → i < length nodes → v ≡ get_or nodes i v → add there (view v) ≡ Ok more → turns_from add there i nodes ≡ total → turns_from add more (i + 1) nodes ≡ total
turn_goes_on add there more i nodes v total within is done so_far = sym (rw (opened add there i nodes v within is, done)) ∙ so_far

pub turn_stops : {A : Type 0} (stop : Stop TableError) (add : Adding A) (there : A) (i : ℕ) (nodes : List Value) (v : Value) (total : Result A TableError)
    → i < length nodes → v ≡ get_or nodes i v → Fails stop (add there (view v)) → turns_from add there i nodes ≡ total → Fails stop total
turn_stops stop add there i nodes v total within is fails so_far =
    fails_through stop _ total (λ e err. sym so_far ∙ rw (opened add there i nodes v within is, err)) fails

pub turns_end : {A : Type 0} (add : Adding A) (there : A) (i : ℕ) (nodes : List Value) (total : Result A TableError) → length nodes ≤ i → turns_from add there i nodes ≡ total → total ≡ Ok there
unfolding in_turn
turns_end add there i nodes total past so_far = sym so_far ∙ ap (λ vs. in_turn add there (map view vs)) (drop_all i nodes past)

listed-view : (vs : List Value) → listed (items_view vs) ≡ map view vs
listed-view [] = refl
listed-view (v ∷ vs) = ap (λ ds. view v ∷ ds) (listed-view vs)

pub variants_long : (key : ℕ) (entry : Data) (vs : List Value) → option_and_then as_array (get (codes "variants") entry) ≡ Some (items_view vs) → 1024 < length vs → variants_of key entry ≡ Err (fault 6 key)
variants_long key entry vs is long = rw (is, listed-view, length-map, lt-leb _ _ long)

pub variants_fit : (key : ℕ) (entry : Data) (vs : List Value) → option_and_then as_array (get (codes "variants") entry) ≡ Some (items_view vs) → length vs ≤ 1024 → variants_of key entry ≡ in_turn (name_added key) [] (map view vs)
variants_fit key entry vs is few = rw (is, listed-view, length-map, le-leb _ _ few)

pub keys_listed : (d : Data) (vs : List Value) → as_array d ≡ Some (items_view vs) → keys_under (Some d) ≡ in_turn key_added [] (map view vs)
keys_listed d vs is = rw (is, listed-view)
