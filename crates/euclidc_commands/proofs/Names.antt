-- Names among others.
use Rattle.std.proofs.Common.{◌≡◌, List, [], ◌∷◌, ◌++◌, Option, ◌⊎◌, inl, inr, refl, sym, subst}
use Rattle.shelf_io.specs.Seen.{Name, Files}
use Rattle.euclidc_commands.specs.Stages.{Among, known_files}

pub among-left : (name : Name) (xs ys : List Name) → Among name xs → Among name (xs ++ ys)
among-left name [] ys among = absurd among
among-left name (x ∷ xs) ys (inl is) = inl is
among-left name (x ∷ xs) ys (inr later) = inr (among-left name xs ys later)

pub among-right : (name : Name) (xs ys : List Name) → Among name ys → Among name (xs ++ ys)
among-right name [] ys among = among
among-right name (x ∷ xs) ys among = inr (among-right name xs ys among)

pub among-append : (name : Name) (xs ys : List Name) → Among name (xs ++ ys) → Among name xs ⊎ Among name ys
among-append name [] ys among = inr among
among-append name (x ∷ xs) ys (inl is) = inl (inl is)
among-append name (x ∷ xs) ys (inr later) = elim (among-append name xs ys later) [ inl left ↦ inl (inr left) | inr right ↦ inr right ]

-- these names are among those
abbrev pub AllAmong : List Name → List Name → Type 0
AllAmong those these = (name : Name) → Among name these → Among name those

pub one_among : (names : List Name) (n : Name) → Among n names → AllAmong names (n ∷ [])
one_among names n h name (inl is) = subst (λ (x : Name). Among x names) (sym is) h
one_among names n h name (inr none_left) = absurd none_left

pub none_among : (names : List Name) → AllAmong names []
none_among names name none_left = absurd none_left

-- a command with a file is judged over what the shelf tells
pub known_files-append : (names : List Name) (n : Name) (others : List Name) (holds : Option Files) → known_files (names ++ n ∷ others) holds ≡ holds
known_files-append [] n others holds = refl
known_files-append (name ∷ names) n others holds = refl
