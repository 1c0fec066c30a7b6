-- What holds of an answer that goes on only where it may.
use Rattle.std.proofs.Common.{◌≡◌, Bool, true, false, Option, Some, None, Result, Ok, Err, refl, IfOk}
use Rattle.std.specs.Prelude.{⊤}
use Rattle.key_table.specs.Answers.{◌>>=◌, or_fault, provided}

-- after a value of which something is known
pub then_known : {A B E : Type 0} (Q : A → Type 0) (P : B → Type 0) (r : Result A E) (f : A → Result B E) → IfOk r Q → ((x : A) → Q x → IfOk (f x) P) → IfOk (r >>= f) P
then_known Q P (Ok x) f known h = h x known
then_known Q P (Err e) f known h = tt

-- after any value
pub then_any : {A B E : Type 0} (P : B → Type 0) (r : Result A E) (f : A → Result B E) → ((x : A) → IfOk (f x) P) → IfOk (r >>= f) P
then_any P (Ok x) f h = h x
then_any P (Err e) f h = tt

-- after what is there
pub then_some : {A B E : Type 0} (P : B → Type 0) (fault : E) (o : Option A) (f : A → Result B E) → ((x : A) → o ≡ Some x → IfOk (f x) P) → IfOk (or_fault fault o >>= f) P
then_some P fault None f h = tt
then_some P fault (Some x) f h = h x refl

-- after a condition that holds
pub then_true : {B E : Type 0} (P : B → Type 0) (fault : E) (b : Bool) (f : ⊤ → Result B E) → (b ≡ true → IfOk (f tt) P) → IfOk (provided fault b >>= f) P
then_true P fault true f h = h refl
then_true P fault false f h = tt
