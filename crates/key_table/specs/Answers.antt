-- What a call answers, want of memory aside.
use Rattle.std.specs.Prelude.{◌≡◌, Bool, true, false, Option, Some, None, Result, Ok, Err, ⊤}
use Rattle.std.proofs.Common.{ap, ◌∙◌}
use Rattle.key_table.specs.declared.stop.Stop.{Stop}
use Rattle.key_table.specs.declared.stop.Stop.TheVariants.{Memory, Fault}

-- the second answer, where the first is a value
infixl 10 ◌>>=◌
abbrev pub ◌>>=◌ : {A B E : Type 0} → Result A E → (A → Result B E) → Result B E
(Ok x) >>= f = f x
(Err e) >>= f = Err e

-- what is there, or else the fault
abbrev pub or_fault : {A E : Type 0} → E → Option A → Result A E
or_fault fault None = Err fault
or_fault fault (Some x) = Ok x

-- nothing where the condition holds, and else the fault
abbrev pub provided : {E : Type 0} → E → Bool → Result ⊤ E
provided fault true = Ok tt
provided fault false = Err fault

-- A call stopped with the fault that is right, or there was no memory.
abbrev pub Fails : {Y E : Type 0} → Stop E → Result Y E → Type 0
Fails Memory right = Unit {0}
Fails (Fault e) right = right ≡ Err e

-- A call gave what is right, seen by view, or there was no memory.
abbrev pub Answers : {X Y E : Type 0} → (X → Y) → Result X (Stop E) → Result Y E → Type 0
Answers view (Ok x) right = right ≡ Ok (view x)
Answers view (Err stop) right = Fails stop right

-- A stop with this fault, or for want of memory.
abbrev pub StopsWith : {E : Type 0} → Stop E → E → Type 0
StopsWith Memory e = Unit {0}
StopsWith (Fault f) e = e ≡ f

-- A stop with the fault that is right fails rightly.
pub fails_with : {Y E : Type 0} (stop : Stop E) (e : E) (right : Result Y E) → StopsWith stop e → right ≡ Err e → Fails stop right
fails_with Memory e right is fails = tt
fails_with (Fault f) e right is fails = fails ∙ ap (λ x. Err x) is

-- What fails rightly in a part fails rightly in the whole that fails with the part.
pub fails_through : {Y Z E : Type 0} (stop : Stop E) (part : Result Y E) (whole : Result Z E) → ((e : E) → part ≡ Err e → whole ≡ Err e) → Fails stop part → Fails stop whole
fails_through Memory part whole on h = tt
fails_through (Fault e) part whole on h = on e h
