-- What holds of an answer that goes on where it may.
use Rattle.std.proofs.Common.{Result, Ok, Err, IfOk}
use Rattle.key_table.specs.Answers.{◌>>=◌}

-- after a value of which something is known
pub then_known : {A B E : Type 0} (P : A → Type 0) (Q : B → Type 0) (r : Result A E) (next : A → Result B E) → IfOk r P → ((a : A) → P a → IfOk (next a) Q) → IfOk (r >>= next) Q
then_known P Q (Ok a) next h go = go a h
then_known P Q (Err e) next h go = tt

-- after any value
pub then_any : {A B E : Type 0} (Q : B → Type 0) (r : Result A E) (next : A → Result B E) → ((a : A) → IfOk (next a) Q) → IfOk (r >>= next) Q
then_any Q (Ok a) next go = go a
then_any Q (Err e) next go = tt
