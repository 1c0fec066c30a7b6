use Rattle.std.proofs.Common.{◌≡◌, ℕ, ◌+◌, ap, sym, ◌∙◌, IsUtf8, arith, List, drop, take, true, refl, subst}
use Rattle.std.specs.List.{prefix_len}
use Rattle.std.proofs.lemmas.Grind.{common_steps}
use Rattle.euclid_lexer.specs.Tokens.{is_digit, begins_number}
use Rattle.euclid_lexer.specs.Cuts.{IsWhole}
use Rattle.euclid_lexer.proofs.Numerals.{first_ascii, number_fails}
use Rattle.euclid_lexer.proofs.Whole.{whole_number}
use Rattle.euclid_lexer.proofs.front.number.Goals as goal

whole : (bs : List ℕ) (n : ℕ) → n ≡ 1 + prefix_len is_digit (drop 1 bs) → IsUtf8 bs → begins_number bs ≡ true → IsWhole n bs
whole bs n is u begins =
    let P : ℕ → Type 0 = λ x. IsWhole x bs in
    let f = first_ascii bs begins in
    subst P (sym is) (whole_number bs _ refl u f.0 f.1)

pub range-requires-clause-end_boundary : goal.range-requires-clause-end_boundary
range-requires-clause-end_boundary c = (whole _ _ (c.number_len-len.ensures.len ∙ ap (λ (bs : List ℕ). 1 + prefix_len is_digit (drop 1 bs)) c.as_bytes.ensures.value) c.utf8.text c.requires).cut

pub returns-in-Ok-clause-whole : goal.returns-in-Ok-clause-whole
returns-in-Ok-clause-whole c = whole _ _ (c.number_len-len.ensures.len ∙ ap (λ (bs : List ℕ). 1 + prefix_len is_digit (drop 1 bs)) c.as_bytes.ensures.value) c.utf8.text c.requires

pub returns-in-Err-clause-number : goal.returns-in-Err-clause-number
returns-in-Err-clause-number c =
    let n = c.number_len-len.ensures.len ∙ ap (λ (bs : List ℕ). 1 + prefix_len is_digit (drop 1 bs)) c.as_bytes.ensures.value in
    let t : c.range.result.now ≡ take c.number_len-len.result c.args.text.now = grind (arith, common_steps) in
    number_fails c.args.at c.args.text.now c.range.result.now c.fault.result c.requires (t ∙ ap (λ (k : ℕ). take k c.args.text.now) n) c.in-Err.ensures.value.0 c.fault.ensures
