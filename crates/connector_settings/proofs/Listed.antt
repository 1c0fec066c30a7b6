-- The words that an acceptance lists.
use Rattle.std.proofs.Common.{◌≡◌, ℕ, ◌+◌, ◌<◌, ◌≤◌, List, [], ◌∷◌, length, true, ◌&&◌, Result, Ok, Err, IfOk, arith}
use Rattle.std.specs.List.{list_all}
use Rattle.std.proofs.lemmas.Bool.{and_parts, le-leb}
use Rattle.std.proofs.lemmas.Result.{IfOk-at_ok}
use Rattle.serde_json.specs.Data.{Data}
use Rattle.key_table.specs.declared.stop.Stop.{Stop}
use Rattle.key_table.specs.Answers.{Answers}
use Rattle.key_table.specs.Tables.{Table, domain_at}
use Rattle.json_shape.specs.declared.error.ShapeError.{ShapeError}
use Rattle.json_shape.specs.Paths.{item_step}
use Rattle.json_shape.specs.Each.{Reader, each}
use Rattle.connector_settings.specs.Fit.{is_enum, word_fits, words_fit}
use Rattle.connector_settings.specs.Words.{variant_of}
use Rattle.connector_settings.specs.Acceptances.{may_list}
use Rattle.connector_settings.proofs.AtomsFit.{enum_of}
use Rattle.connector_settings.proofs.Known.{then_any}

-- Some items give some values.
some_given : {X : Type 0} (read : Reader X) (path : List ℕ) (i : ℕ) (d : Data) (ds : List Data) → IfOk (each read path i (d ∷ ds)) (λ xs. 0 < length xs)
unfolding each
some_given {X} read path i d ds = then_any _ (read (item_step path i) d) _ (λ x. then_any (λ (xs : List X). 0 < length xs) (each read path (i + 1) ds) _ (λ xs. omega arith))

-- A list whose words fit is one of an enum key.
keyed : (table : Table) (key : ℕ) (path : List ℕ) (ds : List Data) (ws : List ℕ) → may_list table key ds ≡ true → each (variant_of table key) path 0 ds ≡ Ok ws → list_all (word_fits table key) ws ≡ true → is_enum table key ≡ true
keyed table key path [] ws may is fit = may
keyed table key path (d ∷ ds) [] may is fit =
    let some : 0 < 0 = IfOk-at_ok (λ (xs : List ℕ). 0 < length xs) is (some_given (variant_of table key) path 0 d ds) in
    absurd (omega (arith, some))
keyed table key path (d ∷ ds) (w ∷ ws) may is fit = enum_of w (domain_at key table) (and_parts (word_fits table key w) (list_all (word_fits table key) ws) fit).0

-- What is read of a list fits.
pub listed_fits : (table : Table) (key : ℕ) (path : List ℕ) (ds : List Data) (count : ℕ) (r : Result (List ℕ) (Stop ShapeError)) → may_list table key ds ≡ true → count ≤ 4096 → Answers (λ ws. ws) r (each (variant_of table key) path 0 ds) → IfOk r (λ ws. list_all (word_fits table key) ws ≡ true) → IfOk r (λ ws. length ws ≤ count) → IfOk r (λ ws. (is_enum table key && words_fit table key ws) ≡ true)
listed_fits table key path ds count (Ok ws) may short is fit few =
    rw (keyed table key path ds ws may is fit, le-leb (length ws) 4096 (omega (arith, few)), fit)
listed_fits table key path ds count (Err stop) may short is fit few = tt
