-- The loop over the tokens of a text.
use Rattle.std.proofs.Common.{◌≡◌, ℕ, ◌+◌, ◌-◌, ◌<◌, ◌≤◌, true, false, List, [], ◌∷◌, ◌++◌, length, get_or, drop, Ok, ap, sym, ◌∙◌, arith}
use Rattle.std.proofs.lemmas.List.{append-nil, length-drop}
use Rattle.key_table.specs.declared.stop.Stop.{Stop}
use Rattle.key_table.specs.Answers.{Fails, fails_through}
use Rattle.euclid_lexer.specs.declared.error.LexError.{LexError}
use Rattle.euclid_lexer.specs.declared.token.Token.{Token}
use Rattle.euclid_lexer.specs.declared.token.Placed.{Placed}
use Rattle.euclid_lexer.specs.Tokens.{is_white, token_at, tokens_from}
use Rattle.euclid_lexer.proofs.Steps.{with_front, with_front-append, tokens_white, tokens_token, tokens_fault, tokens_end}

-- The tokens so far, and those of the rest, are the tokens of the text.
pub record SoFar (text : List ℕ) (placed : List Placed) (rest : List ℕ) : Type 0 where
  pub so_far : with_front placed (tokens_from 0 (length text - length rest) rest) ≡ tokens_from 0 0 text
  pub within : length rest ≤ length text

-- a place that moves on by n
moved : (text rest : List ℕ) (n : ℕ) → length rest ≤ length text → n ≤ length rest → length text - length (drop n rest) ≡ (length text - length rest) + n
moved text rest n within fits = omega (arith, length-drop n rest)

pub so_far_white : (text : List ℕ) (placed : List Placed) (rest : List ℕ) → SoFar text placed rest → 0 < length rest → is_white (get_or rest 0 0) ≡ true → SoFar text placed (drop 1 rest)
so_far_white text placed [] s some w = absurd (omega arith)
so_far_white text placed (b ∷ bs) s some w =
    let at = length text - length (b ∷ bs) in
    record {
      so_far = ap (with_front placed) (ap (λ (k : ℕ). tokens_from 0 k bs) (moved text (b ∷ bs) 1 s.within (omega arith)) ∙ sym (tokens_white at b bs w)) ∙ s.so_far;
      within = omega (arith, s.within);
    }

pub so_far_token : (text : List ℕ) (front : List Placed) (rest : List ℕ) (at : ℕ) (t : Token) (n : ℕ) → SoFar text front rest → 0 < length rest → is_white (get_or rest 0 0) ≡ false
    → at ≡ length text - length rest → token_at at rest ≡ Ok (t, n) → 0 < n → n ≤ length rest
    → SoFar text (front ++ record { at = at; token = t } ∷ []) (drop n rest)
so_far_token text front [] at t n s some w place e positive fits = absurd (omega arith)
so_far_token text front (b ∷ bs) at t n s some w place e positive fits =
    let p : Placed = record { at = at; token = t } in
    let rest = drop n (b ∷ bs) in
    let next : length text - length rest ≡ at + n = moved text (b ∷ bs) n s.within fits ∙ ap (λ (k : ℕ). k + n) (sym place) in
    record {
      so_far = ap (λ (k : ℕ). with_front (front ++ p ∷ []) (tokens_from 0 k rest)) next
          ∙ with_front-append front (p ∷ []) (tokens_from 0 (at + n) rest)
          ∙ ap (with_front front) (sym (tokens_token at b bs t n w e positive) ∙ ap (λ (k : ℕ). tokens_from 0 k (b ∷ bs)) place) ∙ s.so_far;
      within = omega (arith, length-drop n (b ∷ bs), s.within);
    }

pub so_far_all : (text : List ℕ) (front : List Placed) (rest : List ℕ) → SoFar text front rest → length rest ≡ 0 → tokens_from 0 0 text ≡ Ok front
so_far_all text front [] s none = sym s.so_far ∙ ap (with_front front) (tokens_end _) ∙ ap (λ (zs : List Placed). Ok zs) (append-nil front)
so_far_all text front (b ∷ bs) s none = absurd (omega arith)

pub so_far_fails : (text : List ℕ) (front : List Placed) (rest : List ℕ) (at : ℕ) (stop : Stop LexError) → SoFar text front rest → 0 < length rest → is_white (get_or rest 0 0) ≡ false
    → at ≡ length text - length rest → Fails stop (token_at at rest) → Fails stop (tokens_from 0 0 text)
so_far_fails text front [] at stop s some w place f = absurd (omega arith)
so_far_fails text front (b ∷ bs) at stop s some w place f =
    fails_through stop (token_at at (b ∷ bs)) (tokens_from 0 0 text)
    (λ e is. sym s.so_far ∙ ap (λ (k : ℕ). with_front front (tokens_from 0 k (b ∷ bs))) (sym place) ∙ ap (with_front front) (tokens_fault at b bs e w is)) f
