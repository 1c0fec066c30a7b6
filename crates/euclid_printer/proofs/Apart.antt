-- In the printed layout no token runs into the next.
use Rattle.std.proofs.Common.{◌≡◌, ℕ, zero, suc, ◌+◌, ◌*◌, pos, true, false, List, [], ◌∷◌, ◌++◌, Option, Some, None, map, replicate, refl, sym, ◌∙◌, subst}
use Rattle.std.specs.Prelude.{codes}
use Rattle.std.specs.List.{flat_map, list_all}
use Rattle.key_table.specs.declared.atom.Op.{Op}
use Rattle.euclid_lexer.specs.declared.token.Sign.TheVariants.{SquareOpen, SquareClose, RoundOpen, RoundClose, CurlyOpen, CurlyClose}
use Rattle.euclid_lexer.specs.declared.token.Token.{Token}
use Rattle.euclid_lexer.specs.declared.token.Token.TheVariants as token
use Rattle.euclid_lexer.specs.Tokens.{is_white, next_is}
use Rattle.euclid_lexer.specs.Pieces.{Piece, Spelled, text_of, goes_on, AreApart}
use Rattle.euclid_printer.proofs.Pieces.{apart-append, behind_both, is_sticky, Opens, opens_behind, apart_one}
use Rattle.euclid_ast.specs.declared.statement.NumberTest.{NumberTest}
use Rattle.euclid_ast.specs.declared.statement.ValueForm.{ValueForm}
use Rattle.euclid_ast.specs.declared.statement.ValueForm.TheVariants.{Number, Variant, Metadata, Str, Numbers, Variants, NumberTests}
use Rattle.euclid_ast.specs.declared.statement.Comparison.{Comparison}
use Rattle.euclid_ast.specs.declared.statement.Statement.{Statement, roll-Statement}
use Rattle.euclid_ast.specs.declared.statement.Statement.TheFolds.{map-Statement, ind-Statement}
use Rattle.euclid_ast.specs.declared.selection.Account.{Account}
use Rattle.euclid_ast.specs.declared.selection.Share.{Share}
use Rattle.euclid_ast.specs.declared.selection.Selection.{Selection}
use Rattle.euclid_ast.specs.declared.selection.Selection.TheVariants.{Priority, Volume, SurchargeFixed, SurchargeRate, Auth, Nothing}
use Rattle.euclid_ast.specs.declared.program.Rule.{Rule}
use Rattle.euclid_ast.specs.declared.program.Program.{Program}
use Rattle.euclid_grammar.specs.Grammar.{op_sign, secure_word}
use Rattle.euclid_printer.specs.Values.{sign_piece, number_piece, space, joined, comma, number_item, variant_item, test_item, in_brackets, value_pieces, id_pieces, account_item, share_item, listed, selection_pieces}
use Rattle.euclid_printer.specs.Layout.{line_end, indent, comparison_pieces, ampersand, condition_pieces, statement_pieces, statements_pieces, rule_pieces, program_pieces}
use Rattle.euclid_printer.proofs.Statements.{nested_printed, statement_pieces-roll}

-- Pieces that are apart, if no token goes on with what stands behind them.
pub record Stands (qs : List Piece) : Type 0 where
  pub apart : (rest : List ℕ) → Opens rest → AreApart qs rest

-- Pieces that are apart whatever stands behind them.
pub record IsClosed (qs : List Piece) : Type 0 where
  pub apart : (rest : List ℕ) → AreApart qs rest

-- Pieces with which no token goes on.
pub record IsOpen (qs : List Piece) : Type 0 where
  pub open_ : (rest : List ℕ) → Opens rest → Opens (text_of qs ++ rest)

opened : (text : List ℕ) → next_is is_sticky text ≡ false → Opens text
opened text e = record { opens = e }

one : (t : Token) → Stands (Spelled t ∷ [])
one t = record { apart = apart_one t }

-- a bracket, with which nothing goes on
bracket : (t : Token) → ((b : ℕ) → goes_on t b ≡ false) → (text : List ℕ) → next_is (goes_on t) text ≡ false
bracket t never [] = refl
bracket t never (b ∷ text) = never b

-- ---- items with a separator

-- what no token goes on with, whatever stands behind it
pub record Divides (separator : List Piece) : Type 0 where
  pub opens : (rest : List ℕ) → Opens (text_of separator ++ rest)
  pub apart : (rest : List ℕ) → AreApart separator rest

behind_open : {X : Type 0} (separator : List Piece) (item : X → List Piece) → Divides separator → (xs : List X) → IsOpen (flat_map (λ x. separator ++ item x) xs)
behind_open separator item d [] = record { open_ = λ rest o. o }
behind_open separator item d (x ∷ xs) =
    let others = flat_map (λ x. separator ++ item x) xs in
    let text : (rest : List ℕ) → text_of ((separator ++ item x) ++ others) ++ rest ≡ text_of separator ++ (text_of (item x) ++ (text_of others ++ rest)) =
    λ (rest : List ℕ). behind_both (separator ++ item x) others rest ∙ behind_both separator (item x) (text_of others ++ rest) in
    record { open_ = λ rest o. subst Opens (sym (text rest)) (d.opens (text_of (item x) ++ (text_of others ++ rest))) }

behind_stand : {X : Type 0} (separator : List Piece) (item : X → List Piece) → Divides separator → ((x : X) → Stands (item x)) → (xs : List X) → Stands (flat_map (λ x. separator ++ item x) xs)
behind_stand separator item d each [] = record { apart = λ rest o. tt }
behind_stand separator item d each (x ∷ xs) =
    let others = flat_map (λ x. separator ++ item x) xs in
    record {
      apart = λ rest o.
          apart-append (separator ++ item x) others rest
          (apart-append separator (item x) (text_of others ++ rest) (d.apart (text_of (item x) ++ (text_of others ++ rest))) ((each x).apart (text_of others ++ rest) ((behind_open separator item d xs).open_ rest o)))
          ((behind_stand separator item d each xs).apart rest o);
    }

joined_stand : {X : Type 0} (separator : List Piece) (item : X → List Piece) → Divides separator → ((x : X) → Stands (item x)) → (xs : List X) → Stands (joined separator item xs)
joined_stand separator item d each [] = record { apart = λ rest o. tt }
joined_stand separator item d each (x ∷ xs) =
    let others = flat_map (λ x. separator ++ item x) xs in
    record {
      apart = λ rest o.
          apart-append (item x) others rest ((each x).apart (text_of others ++ rest) ((behind_open separator item d xs).open_ rest o)) ((behind_stand separator item d each xs).apart rest o);
    }

comma_divides : Divides comma
comma_divides = record { opens = λ rest. opened (44 ∷ 32 ∷ rest) refl; apart = λ rest. (refl, (refl, tt)) }

ampersand_divides : Divides ampersand
ampersand_divides = record { opens = λ rest. opened (32 ∷ 38 ∷ 32 ∷ rest) refl; apart = λ rest. (refl, (refl, (refl, tt))) }

-- ---- values

op_apart : (op : Op) (text : List ℕ) → next_is (goes_on (token.Sign (op_sign op))) (32 ∷ text) ≡ false
op_apart op text = opens_behind (token.Sign (op_sign op)) (32 ∷ text) (opened (32 ∷ text) refl)

test_stands : (t : NumberTest) → Stands (test_item t)
test_stands t = record { apart = λ rest o. (op_apart t.op (text_of (number_piece t.number ∷ []) ++ rest), (refl, apart_one (token.Number t.number) rest o)) }

brackets_closed : {X : Type 0} (item : X → List Piece) → ((x : X) → Stands (item x)) → (xs : List X) → IsClosed (in_brackets item xs)
brackets_closed item each xs = record {
  apart = λ rest. (
    bracket (token.Sign RoundOpen) (λ b. refl) _,
    apart-append (joined comma item xs) (sign_piece RoundClose ∷ []) rest ((joined_stand comma item comma_divides each xs).apart (41 ∷ rest) (opened (41 ∷ rest) refl)) (bracket (token.Sign RoundClose) (λ b. refl) rest, tt),
  );
}

listed_closed : {X : Type 0} (item : X → List Piece) → ((x : X) → Stands (item x)) → (xs : List X) → IsClosed (listed item xs)
listed_closed item each xs = record {
  apart = λ rest. (
    bracket (token.Sign SquareOpen) (λ b. refl) _,
    apart-append (joined comma item xs) (sign_piece SquareClose ∷ []) rest ((joined_stand comma item comma_divides each xs).apart (93 ∷ rest) (opened (93 ∷ rest) refl)) (bracket (token.Sign SquareClose) (λ b. refl) rest, tt),
  );
}

value_stands : (v : ValueForm) → Stands (value_pieces v)
value_stands (Number z) = one (token.Number z)
value_stands (Variant w) = one (token.Word w)
value_stands (Metadata key value) = record { apart = λ rest o. (refl, (refl, (refl, (refl, apart_one (token.Str value) rest o)))) }
value_stands (Str s) = one (token.Str s)
value_stands (Numbers zs) = record { apart = λ rest o. (brackets_closed number_item (λ z. one (token.Number z)) zs).apart rest }
value_stands (Variants ws) = record { apart = λ rest o. (brackets_closed variant_item (λ w. one (token.Word w)) ws).apart rest }
value_stands (NumberTests ts) = record { apart = λ rest o. (brackets_closed test_item test_stands ts).apart rest }

comparison_stands : (c : Comparison) → Stands (comparison_pieces c)
comparison_stands c = record { apart = λ rest o. (refl, (refl, (op_apart c.op (text_of (value_pieces c.value) ++ rest), (refl, (value_stands c.value).apart rest o)))) }

condition_stands : (cs : List Comparison) → Stands (condition_pieces cs)
condition_stands cs = joined_stand ampersand comparison_pieces ampersand_divides comparison_stands cs

-- ---- selections

id_open : (id : Option (List ℕ)) → IsOpen (id_pieces id)
id_open None = record { open_ = λ rest o. o }
id_open (Some id) = record { open_ = λ rest o. opened (32 ∷ 64 ∷ 32 ∷ _) refl }

id_stands : (id : Option (List ℕ)) → Stands (id_pieces id)
id_stands None = record { apart = λ rest o. tt }
id_stands (Some id) = record { apart = λ rest o. (refl, (refl, (refl, apart_one (token.Str id) rest o))) }

account_stands : (a : Account) → Stands (account_item a)
account_stands a = record { apart = λ rest o. (opens_behind (token.Str a.connector) _ ((id_open a.id).open_ rest o), (id_stands a.id).apart rest o) }

share_stands : (s : Share) → Stands (share_item s)
share_stands s = record {
  apart = λ rest o.
      apart-append (account_item s.account) _ rest ((account_stands s.account).apart _ (opened (32 ∷ 37 ∷ 32 ∷ _) refl)) (refl, (refl, (refl, apart_one (token.Number (pos s.split)) rest o)));
}

selection_stands : (s : Selection) → Stands (selection_pieces s)
selection_stands (Priority accounts) = record { apart = λ rest o. (listed_closed account_item account_stands accounts).apart rest }
selection_stands (Volume shares) = record { apart = λ rest o. (refl, (refl, (listed_closed share_item share_stands shares).apart rest)) }
selection_stands (SurchargeFixed z) = record { apart = λ rest o. (refl, (refl, apart_one (token.Number z) rest o)) }
selection_stands (SurchargeRate n) = record { apart = λ rest o. (refl, (refl, apart_one (token.Number (pos n)) rest o)) }
selection_stands (Auth secure) = one (token.Word (secure_word secure))
selection_stands Nothing = one (token.Word (codes "none"))

-- ---- statements

spaces_white : (n : ℕ) → list_all is_white (replicate n 32) ≡ true
spaces_white zero = refl
spaces_white (suc n) = spaces_white n

each_closed : {X : Type 0} (item : X → List Piece) → ((x : X) → IsClosed (item x)) → (xs : List X) → IsClosed (flat_map item xs)
each_closed item each [] = record { apart = λ rest. tt }
each_closed item each (x ∷ xs) = record { apart = λ rest. apart-append (item x) (flat_map item xs) rest ((each x).apart (text_of (flat_map item xs) ++ rest)) ((each_closed item each xs).apart rest) }

-- a statement at each level
abbrev IsShut : Statement → Type 0
IsShut s = (level : ℕ) → IsClosed (statement_pieces s level)

shut_all : (level : ℕ) (ss : List ((s : Statement) × IsShut s)) → IsClosed (statements_pieces level (map (λ e. e.0) ss))
shut_all level [] = record { apart = λ rest. tt }
shut_all level (e ∷ ss) =
    let others = statements_pieces level (map (λ (e : (s : Statement) × IsShut s). e.0) ss) in
    record { apart = λ rest. apart-append (statement_pieces e.0 level) others rest ((e.1 level).apart (text_of others ++ rest)) ((shut_all level ss).apart rest) }

-- the list of the statements alone
abbrev alone : Option (List ((s : Statement) × IsShut s)) → Option (List Statement)
alone None = None
alone (Some ss) = Some (map (λ e. e.0) ss)

nested_open : (level : ℕ) (nested : Option (List Statement)) (rest : List ℕ) → Opens (text_of (nested_printed level nested) ++ rest)
nested_open level None rest = opened (10 ∷ rest) refl
nested_open level (Some ss) rest = record { opens = refl }

nested_closed : (level : ℕ) (nested : Option (List ((s : Statement) × IsShut s))) → IsClosed (nested_printed level (alone nested))
nested_closed level None = record { apart = λ rest. (refl, tt) }
nested_closed level (Some ss) =
    let closing = indent level ∷ sign_piece CurlyClose ∷ line_end ∷ [] in
    record {
      apart = λ rest.
          (refl, (refl, (refl, apart-append (statements_pieces (level + 1) (map (λ e. e.0) ss)) closing rest ((shut_all (level + 1) ss).apart (text_of closing ++ rest)) (spaces_white (2 * level), (refl, (refl, tt))))));
    }

statement_shut : (condition : List Comparison) (nested : Option (List ((s : Statement) × IsShut s))) → IsShut (roll-Statement (record { condition = condition; nested = alone nested }))
statement_shut condition nested = λ level.
    let behind = nested_printed level (alone nested) in
    subst IsClosed (sym (statement_pieces-roll condition (alone nested) level))
    (record {
      apart = λ rest.
          (spaces_white (2 * level), apart-append (condition_pieces condition) behind rest ((condition_stands condition).apart (text_of behind ++ rest) (nested_open level (alone nested) rest)) ((nested_closed level nested).apart rest));
    })

statement_roll : (condition : List Comparison) (nested : Option (List ((s : Statement) × IsShut s)))
    → IsShut (roll-Statement (map-Statement ((s : Statement) × IsShut s) Statement (λ e. e.0) (record { condition = condition; nested = nested })))
statement_roll condition None = statement_shut condition None
statement_roll condition (Some ss) = statement_shut condition (Some ss)

pub statement_closed : (s : Statement) → IsShut s
statement_closed = ind-Statement IsShut (λ x y is. subst (λ z. IsShut (roll-Statement z)) is (statement_roll y.condition y.nested))

-- ---- rules and programs

rule_closed : (r : Rule) → IsClosed (rule_pieces r)
rule_closed r =
    let closing = sign_piece CurlyClose ∷ line_end ∷ [] in
    let block = space ∷ sign_piece CurlyOpen ∷ line_end ∷ (statements_pieces 1 r.statements ++ closing) in
    record {
      apart = λ rest. (
        refl,
        (
          refl,
          (
            refl,
            apart-append (selection_pieces r.selection) block rest ((selection_stands r.selection).apart (text_of block ++ rest) (record { opens = refl })) (
              refl,
              (
                refl,
                (
                  refl,
                  apart-append (statements_pieces 1 r.statements) closing rest ((each_closed (λ (s : Statement). statement_pieces s 1) (λ s. statement_closed s 1) r.statements).apart (text_of closing ++ rest))
                      (refl, (refl, tt)),
                ),
              ),
            ),
          ),
        ),
      );
    }

pub program_closed : (p : Program) → IsClosed (program_pieces p)
program_closed p =
    let behind = line_end ∷ flat_map rule_pieces p.rules in
    record {
      apart = λ rest. (
        refl,
        (
          refl,
          (
            refl,
            apart-append (selection_pieces p.default_selection) behind rest ((selection_stands p.default_selection).apart (text_of behind ++ rest) (record { opens = refl }))
                (refl, (each_closed rule_pieces rule_closed p.rules).apart rest),
          ),
        ),
      );
    }
