-- Items behind commas are within the limits where there are few of them.
use Rattle.std.proofs.Common.{◌≡◌, ℕ, suc, ◌+◌, ◌<◌, ◌≤◌, true, List, [], ◌∷◌, ◌++◌, length, refl, arith}
use Rattle.std.proofs.lemmas.Bool.{leb-true, le-leb}
use Rattle.euclid_lexer.specs.declared.token.Token.TheVariants as token
use Rattle.euclid_lexer.specs.declared.token.Sign.TheVariants.{Comma}
use Rattle.euclid_ast.specs.Limits.{is_few}
use Rattle.euclid_grammar.specs.Marks.{BeginsItem, Cell, beginning}
use Rattle.euclid_grammar.specs.Grammar.{behind_commas, with_commas}
use Rattle.euclid_grammar.proofs.Measured.{none, IsMeasured, measured_none, measured_as, measured_plain, measured_append, measured_begun, item_marked, IsFilled}

-- each of these has a number below `most`, the first being number i
abbrev pub HasRoom : {X : Type 0} → ℕ → ℕ → List X → Type 0
HasRoom most i [] = Unit {0}
HasRoom most i (x ∷ xs) = (i < most) × HasRoom most (suc i) xs

-- so there are not too many
pub room_is : {X : Type 0} (most i : ℕ) (xs : List X) → i ≤ most → HasRoom most i xs → i + length xs ≤ most
room_is most i [] h room = omega (arith, h)
room_is most i (x ∷ xs) h room = omega (arith, room_is most (suc i) xs room.0 room.1)

pub room_from : {X : Type 0} (most i : ℕ) (xs : List X) → i + length xs ≤ most → HasRoom most i xs
room_from most i [] h = tt
room_from most i (x ∷ xs) h = (omega (arith, h), room_from most (suc i) xs (omega (arith, h)))

few_is : {X : Type 0} (xs : List X) → HasRoom 4096 0 xs → is_few xs ≡ true
few_is xs room = le-leb (length xs) 4096 (omega (arith, room_is 4096 0 xs (omega arith) room))

few_from : {X : Type 0} (xs : List X) → is_few xs ≡ true → HasRoom 4096 0 xs
few_from xs few = room_from 4096 0 xs (let e = leb-true (length xs) 4096 few in omega (arith, e))

-- an item's cells: there is one, and they begin nothing
pub record IsItem (qs : List Cell) : Type 0 where
  pub filled : IsFilled qs
  pub measured : IsMeasured qs none (Unit {0})

item_measured : (i : ℕ) (qs : List Cell) → IsItem qs → IsMeasured (beginning (BeginsItem i) qs) none (i < 4096)
item_measured i qs item =
    let both : IsMeasured (beginning (BeginsItem i) qs) none ((i < 4096) × Unit {0}) = measured_begun (BeginsItem i) qs none item.filled (item_marked i) item.measured in
    measured_as (beginning (BeginsItem i) qs) none none both refl (λ (p : (i < 4096) × Unit {0}). p.0) (λ (p : i < 4096). (p, tt))

behind_measured : {X : Type 0} (item : X → List Cell) → ((x : X) → IsItem (item x)) → (i : ℕ) (xs : List X) → IsMeasured (behind_commas item i xs) none (HasRoom 4096 i xs)
behind_measured item each i [] = measured_none
behind_measured item each i (x ∷ xs) =
    measured_plain (token.Sign Comma) (beginning (BeginsItem i) (item x) ++ behind_commas item (suc i) xs) none
    (measured_append (beginning (BeginsItem i) (item x)) (behind_commas item (suc i) xs) none none (item_measured i (item x) (each x)) (behind_measured item each (suc i) xs))

commas_measured : {X : Type 0} (item : X → List Cell) → ((x : X) → IsItem (item x)) → (xs : List X) → IsMeasured (with_commas item xs) none (HasRoom 4096 0 xs)
commas_measured item each [] = measured_none
commas_measured item each (x ∷ xs) =
    measured_append (beginning (BeginsItem 0) (item x)) (behind_commas item 1 xs) none none (item_measured 0 (item x) (each x)) (behind_measured item each 1 xs)

pub list_measured : {X : Type 0} (item : X → List Cell) → ((x : X) → IsItem (item x)) → (xs : List X) → IsMeasured (with_commas item xs) none (is_few xs ≡ true)
list_measured item each xs = measured_as (with_commas item xs) none none (commas_measured item each xs) refl (few_is xs) (few_from xs)
