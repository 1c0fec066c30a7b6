-- One step more of a pointer.
use Rattle.std.proofs.Common.{◌≡◌, ℕ, ◌^◌, ◌<◌, List, [], ◌∷◌, ◌++◌, Bool, true, false, cond, eqb, Option, Some, None, IsSome, option_and_then, decimal, refl, ap, ◌∙◌}
use Rattle.std.proofs.lemmas.Bool.{false≢true}
use Rattle.std.proofs.lemmas.Fmt.{decimal_is_IsNumeral}
use Rattle.std.specs.Prelude.{flat_map}
use Rattle.serde_json.specs.Data.{Data, null, boolean, number, string, array, object}
use Rattle.serde_json.specs.Find.{step, walk, pointer, get, get_member, get_item, at, as_object, as_array}
use Rattle.serde_json.proofs.Paths.{walk_last}
use Rattle.json_shape.specs.Paths.{escape, escaped}
use Rattle.json_shape.specs.PathLaws.{NameLaw, ItemLaw}
use Rattle.json_shape.proofs.Escapes.{escaped-lacks, unescape-escaped}
use Rattle.json_shape.proofs.Numerals.{digits-lack, index_of-decimal}

-- a part of a chain that may lead nowhere
and_then-and_then : (f g h : Data → Option Data) (o : Option Data) → ((d : Data) → f d ≡ option_and_then h (g d)) → option_and_then f o ≡ option_and_then h (option_and_then g o)
and_then-and_then f g h None same = refl
and_then-and_then f g h (Some d) same = same d

-- a walk goes on from where it came to
walk-append : (part rest more : List ℕ) (d : Data) → walk part (rest ++ 47 ∷ more) d ≡ option_and_then (walk [] more) (walk part rest d)
unfolding walk
walk-append part [] more d = refl
walk-append part (x ∷ rest) more d =
    elim (eqb x 47) as
    (λ b. cond b (option_and_then (walk [] (rest ++ 47 ∷ more)) (step part d)) (walk (part ++ x ∷ []) (rest ++ 47 ∷ more) d)
    ≡ option_and_then (walk [] more) (cond b (option_and_then (walk [] rest) (step part d)) (walk (part ++ x ∷ []) rest d))) [
      | true ↦ and_then-and_then (walk [] (rest ++ 47 ∷ more)) (walk [] rest) (walk [] more) (step part d) (λ e. walk-append [] rest more e)
      | false ↦ walk-append (part ++ x ∷ []) rest more d
    ]

-- a pointer with a part more
pointer_on : (path part : List ℕ) (d node : Data) → pointer path d ≡ Some node → pointer (path ++ 47 ∷ part) d ≡ walk [] part node
pointer_on [] part d node is = ap (walk [] part) cc
pointer_on (x ∷ rest) part d node is =
    let P : Bool → Type 0 = λ b. cond b (walk [] rest d) None ≡ Some node → cond b (walk [] (rest ++ 47 ∷ part) d) None ≡ walk [] part node in
    let at_once : P (eqb x 47) = elim (eqb x 47) as P [ true ↦ λ e. walk-append [] rest part d ∙ ap (option_and_then (walk [] part)) e | false ↦ λ e. cc ] in
    at_once is

step-name : (name : List ℕ) (node : Data) → IsSome (as_object node) → step (flat_map escape name) node ≡ get name node
step-name name null is = absurd (false≢true is)
step-name name (boolean b) is = absurd (false≢true is)
step-name name (number n) is = absurd (false≢true is)
step-name name (string s) is = absurd (false≢true is)
step-name name (array ds) is = absurd (false≢true is)
step-name name (object ms) is = ap (λ k. get_member k ms) (unescape-escaped name)

pub name_law : NameLaw
unfolding escaped
name_law path name d node leads is =
    let part = flat_map escape name in
    pointer_on path part d node leads ∙ walk_last part node (escaped-lacks name) ∙ step-name name node is

step-number : (n : ℕ) (node : Data) → n < 2 ^ 64 → IsSome (as_array node) → step (decimal n) node ≡ at n node
step-number n null fits is = absurd (false≢true is)
step-number n (boolean b) fits is = absurd (false≢true is)
step-number n (number z) fits is = absurd (false≢true is)
step-number n (string s) fits is = absurd (false≢true is)
step-number n (array ds) fits is = ap (option_and_then (λ i. get_item i ds)) (index_of-decimal n fits)
step-number n (object ms) fits is = absurd (false≢true is)

pub item_law : ItemLaw
item_law path n d node fits leads is =
    let part = decimal n in
    pointer_on path part d node leads ∙ walk_last part node (digits-lack part (decimal_is_IsNumeral n fits).0.1) ∙ step-number n node fits is
