-- What is said where the files are known.
use Rattle.std.proofs.Common.{Option, Some, None}
use Rattle.shelf_io.specs.Seen.{WhereTold}

pub told_all : {A : Type 0} (o : Option A) (Q : A → Type 0) → ((x : A) → Q x) → WhereTold o Q
told_all None Q f = tt
told_all (Some x) Q f = f x

pub told_map : {A : Type 0} (o : Option A) (P Q : A → Type 0) → ((x : A) → P x → Q x) → WhereTold o P → WhereTold o Q
told_map None P Q f h = tt
told_map (Some x) P Q f h = f x h

pub told_both : {A : Type 0} (o : Option A) (P Q R : A → Type 0) → ((x : A) → P x → Q x → R x) → WhereTold o P → WhereTold o Q → WhereTold o R
told_both None P Q R f h k = tt
told_both (Some x) P Q R f h k = f x h k
