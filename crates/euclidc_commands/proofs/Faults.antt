-- A file whose read failed.
use Rattle.std.proofs.Common.{◌≡◌, ℕ, [], ◌∷◌, Option, Some, None, Result, Err, Vec, inl, refl, subst}
use Rattle.std.specs.declared.alloc.Global.{Global}
use Rattle.shelf_io.specs.declared.traits.ReadError.{ReadError}
use Rattle.shelf_io.specs.declared.traits.ReadError.TheVariants.{Failed}
use Rattle.shelf_io.specs.Seen.{Name, Files, ShelfSeen, FailedOn, Reads}
use Rattle.euclidc_commands.specs.Stages.{Fault, Stays}

fault_of_name : (holds : Option Files) (name : Name) (old new : ShelfSeen) → FailedOn name old new → Fault holds (λ files. name ∷ []) (name ∷ []) old new
fault_of_name None name old new failed = (name, inl refl, failed)
fault_of_name (Some files) name old new failed = (name, inl refl, inl failed)

pub failed_read : (old new : ShelfSeen) (name : Name) (cap : ℕ) (result : Result (Vec ℕ Global) ReadError) (e : ReadError) → result ≡ Err e → e ≡ Failed → Reads old new name cap result
    → Stays old new × Fault old.holds (λ files. name ∷ []) (name ∷ []) old new
failed_read old new name cap result e is failed reads =
    let P : Result (Vec ℕ Global) ReadError → Type 0 = λ r. Reads old new name cap r in
    let Q : ReadError → Type 0 = λ x. Reads old new name cap (Err x) in
    let read : Reads old new name cap (Err Failed) = subst Q failed (subst P is reads) in
    ((read.2, read.1), fault_of_name old.holds name old new read.0)
