-- Putting the members of an object into a payment, one after another.
use Rattle.std.proofs.Common.{◌≡◌, ℕ, suc, ◌<◌, ◌≤◌, List, [], ◌∷◌, length, String, string_bytes, Result, Ok, Err, Some, refl, ap, sym, ◌∙◌}
use Rattle.std.specs.declared.alloc.Global.{Global}
use Rattle.std.proofs.lemmas.Bool.{le-leb, lt-leb}
use Rattle.serde_json.specs.Data.{Data}
use Rattle.serde_json.specs.Find.{as_object}
use Rattle.serde_json.specs.View.{view, members_view}
use Rattle.serde_json.specs.declared.value.Value.{Value}
use Rattle.key_table.specs.declared.stop.Stop.{Stop}
use Rattle.key_table.specs.Answers.{Fails, fails_through}
use Rattle.key_table.specs.Tables.{Table}
use Rattle.key_table.specs.Payments.{Entries}
use Rattle.json_shape.specs.declared.error.ShapeError.{ShapeError}
use Rattle.json_shape.specs.Paths.{fault}
use Rattle.payment_reader.specs.Reading.{members_put, members_count, subs_put, texts_put}

abbrev Pairs : Type 0
Pairs = List (String Global × Value)

abbrev Putting : Type 0
Putting = List ℕ → Data → Entries → Result Entries ShapeError

pub put_more : (put : Putting) (it it' : Pairs) (name : String Global) (value : Value) (payment payment' : Entries) (total : Result Entries ShapeError) → it ≡ (name, value) ∷ it'
    → put (string_bytes name) (view value) payment ≡ Ok payment' → members_put put (members_view it) payment ≡ total → members_put put (members_view it') payment' ≡ total
unfolding members_put
put_more put it it' name value payment payment' total is done so_far = sym (rw (is, done)) ∙ so_far

pub put_stops : (stop : Stop ShapeError) (put : Putting) (it it' : Pairs) (name : String Global) (value : Value) (payment : Entries) (total : Result Entries ShapeError) → it ≡ (name, value) ∷ it'
    → Fails stop (put (string_bytes name) (view value) payment) → members_put put (members_view it) payment ≡ total → Fails stop total
unfolding members_put
put_stops stop put it it' name value payment total is fails so_far = fails_through stop _ total (λ e err. sym so_far ∙ rw (is, err)) fails

pub put_ends : (put : Putting) (it : Pairs) (payment : Entries) (total : Result Entries ShapeError) → it ≡ [] → members_put put (members_view it) payment ≡ total → total ≡ Ok payment
unfolding members_put
put_ends put it payment total is so_far = sym so_far ∙ rw (is)

members_count-view : (es : Pairs) → members_count (members_view es) ≡ length es
members_count-view [] = refl
members_count-view (e ∷ es) = ap suc (members_count-view es)

pub too_many : (table : Table) (key : ℕ) (path : List ℕ) (d : Data) (es : Pairs) (payment : Entries) → as_object d ≡ Some (members_view es) → 4096 < length es → texts_put table key path d payment ≡ Err (fault 5 path)
too_many table key path d es payment is many = rw (is, members_count-view, lt-leb _ _ many)

pub few_enough : (table : Table) (key : ℕ) (path : List ℕ) (d : Data) (es : Pairs) (payment : Entries) → as_object d ≡ Some (members_view es) → length es ≤ 4096 → texts_put table key path d payment ≡ subs_put table key path (members_view es) payment
few_enough table key path d es payment is few = rw (is, members_count-view, le-leb _ _ few)
