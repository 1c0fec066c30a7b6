use Rattle.std.proofs.Common.{ℕ, ap, sym, ◌∙◌, refl, rules, List, subst}
use Rattle.std.proofs.lemmas.Result.{err_from_is_err_and}
use Rattle.euclid_lexer.specs.Tokens.{is_white}
use Rattle.euclid_lexer.proofs.Bytes.{white_ascii, IsFirst, first_there, first_missing}
use Rattle.euclid_lexer.proofs.SoFar.{SoFar, so_far_white, so_far_token, so_far_all, so_far_fails}
use Rattle.euclid_lexer.proofs.Whole.{cut_behind}
use Rattle.euclid_lexer.proofs.lexing.tokens.Goals as goal

pub range_from-rest-requires : goal.range_from-rest-requires
range_from-rest-requires c =
    let f : IsFirst c.bytes.rest.now c.in-Some.first.now = first_there _ _ (search rules) in
    λ _. cut_behind _ c.bytes.invariant.utf8 f.there (white_ascii _ (ap is_white (sym f.same) ∙ sym c.if-is_white.ensures))

pub bytes-preserved-then-is_white : goal.bytes-preserved-then-is_white
bytes-preserved-then-is_white c =
    let f : IsFirst c.bytes.rest.now c.in-Some.first.now = first_there _ _ (search rules) in
    let next = so_far_white _ _ _ c.bytes.invariant.front f.there (ap is_white (sym f.same) ∙ sym c.if-is_white.ensures) in
    record { front = subst (λ (r : List ℕ). SoFar c.args.text.now c.bytes.placed r) (sym c.range_from-rest.ensures.value) next; utf8 = c.range_from-rest.utf8 }

pub token-requires : goal.token-requires
token-requires c = let f : IsFirst c.bytes.rest.now c.in-Some.first.now = first_there _ _ (search rules) in f.there

pub returns-in_err-token : goal.returns-in_err-token
returns-in_err-token c =
    let f : IsFirst c.bytes.rest.now c.in-Some.first.now = first_there _ _ (search rules) in
    let p = err_from_is_err_and c.from_residual.result c.from_residual.ensures.1 in
    rw (p.1, p.2) (so_far_fails _ _ _ _ _ c.bytes.invariant.front f.there (ap is_white (sym f.same) ∙ sym c.if-is_white.ensures) refl c.in_err-token.ensures.token)

pub range_from-rest-requires-in-Some : goal.range_from-rest-requires-in-Some
range_from-rest-requires-in-Some c = λ _. c.in_ok-token.ensures.whole.cut

pub bytes-preserved : goal.bytes-preserved
bytes-preserved c =
    let f : IsFirst c.bytes.rest.now c.in-Some.first.now = first_there _ _ (search rules) in
    let w = c.in_ok-token.ensures.whole in
    let next = so_far_token _ _ _ _ _ _ c.bytes.invariant.front f.there (ap is_white (sym f.same) ∙ sym c.if-is_white.ensures) refl c.in_ok-token.ensures.token w.some w.cut.0 in
    record { front = search (rules, next); utf8 = c.range_from-rest-in-Some.utf8 }

pub returns : goal.returns
returns c = so_far_all _ _ _ c.bytes.invariant.front (first_missing _ (search rules))
