-- Reading what was written: each field puts what stood under its key.
use Rattle.std.proofs.Common.{◌≡◌, ℕ, ◌+◌, ◌<◌, ◌≤◌, ◌⊎◌, inl, inr, List, [], ◌∷◌, length, Bool, true, false, cond, ◌&&◌, Option, Some, None, Result, Ok, ℤ, refl, ap, sym, ◌∙◌, subst, arith, slice_get, get_or, eqb, leb, is_eq, count_by}
use Rattle.std.proofs.lemmas.Bool.{and_parts, false≢true, true≢false, ltb-true, le-leb}
use Rattle.std.proofs.lemmas.List.Sums.{length-filter}
use Rattle.std.proofs.lemmas.Option.{slice_get-get_or}
use Rattle.serde_json.specs.Data.{string, object, Members, member}
use Rattle.serde_json.specs.Find.{as_i64, of_integer}
use Rattle.key_table.specs.declared.key.Kind.TheVariants as kind
use Rattle.key_table.specs.declared.slot.Slot.{Slot}
use Rattle.key_table.specs.declared.slot.Datum.{Datum}
use Rattle.key_table.specs.declared.slot.Datum.TheVariants.{Variant, Number, Text}
use Rattle.key_table.specs.Slots.{slot_cmp, at}
use Rattle.key_table.specs.Tables.{Domain, variants, bounds, text, metadata, Table, kind_of, domain_at, variants_at, find_variant, has_sub, allows, is_table, datum_fits}
use Rattle.key_table.specs.Options.{is_option}
use Rattle.key_table.specs.Payments.{Entries, AreAscending, value_of, with_value, under, is_legal}
use Rattle.key_table.proofs.OptionLemmas.{same_slot, legal_option}
use Rattle.key_table.proofs.Sorted.{slot_cmp_total, sorted_insert, value_put as value_of-put, equal}
use Rattle.key_table.proofs.UnderKeys.{all_under, under_keys, under_legal, value_under}
use Rattle.json_shape.specs.declared.error.ShapeError.{ShapeError}
use Rattle.payment_reader.specs.Reading.{members_put, sub_put, subs_put, members_count, texts_put, value_put}
use Rattle.payment_reader.specs.WellMade.{HasBits}
use Rattle.payment_reader.specs.Written.{datum_data, text_added, texts_of, is_metadata}
use Rattle.payment_reader.proofs.Entries.{Entry, AreThere, all_there, value_here}
use Rattle.payment_reader.proofs.Keys.{variant_found}
use Rattle.payment_reader.proofs.Texts.{AreUnder}

-- At each slot q has what p has or what es has.
abbrev pub Follows : Entries → Entries → Entries → Type 0
Follows es p q = (t : Slot) → (value_of t q ≡ value_of t p) ⊎ (value_of t q ≡ value_of t es)

-- A reading gives a payment that follows, and has what part has under a key.
pub record Reads (es part p : Entries) (key : ℕ) (r : Result Entries ShapeError) : Type 0 where
  pub after : Entries
  pub is : r ≡ Ok after
  pub follows : Follows es p after
  pub done : (t : Slot) (v : Datum) → t.key ≡ key → value_of t part ≡ Some v → value_of t after ≡ Some v
  pub ascending : AreAscending p → AreAscending after

pub cond_cases : {X : Type 0} (b : Bool) (x y : X) → ((b ≡ true) × (cond b x y ≡ x)) ⊎ ((b ≡ false) × (cond b x y ≡ y))
cond_cases true x y = inl (refl, refl)
cond_cases false x y = inr (refl, refl)

pub value_put-here : (p : Entries) (s : Slot) (d : Datum) → value_of s (with_value p s d) ≡ Some d
value_put-here p s d = value_of-put p s s d ∙ value_here (s, d) p

pub follows_put : (es p : Entries) (s : Slot) (d : Datum) → value_of s es ≡ Some d → Follows es p (with_value p s d)
follows_put es p s d there = λ t.
    elim (cond_cases (is_eq (slot_cmp t s)) (Some d) (value_of t p)) [
      | inl h ↦ (let same : t ≡ s = same_slot t s (equal (slot_cmp t s) h.0) in
          let P : Slot → Type 0 = λ x. value_of x es ≡ Some d in
          inr (value_of-put p s t d ∙ h.1 ∙ sym (subst P (sym same) there)))
      | inr h ↦ inl (value_of-put p s t d ∙ h.1)
    ]

pub follows_on : (es p q r : Entries) → Follows es p q → Follows es q r → Follows es p r
follows_on es p q r f g = λ t. elim (g t) [ inr h ↦ inr h | inl h ↦ elim (f t) [ inl k ↦ inl (h ∙ k) | inr k ↦ inr (h ∙ k) ] ]

-- what is right stays
pub stays : (es p q : Entries) → Follows es p q → (t : Slot) (v : Datum) → value_of t es ≡ Some v → value_of t p ≡ Some v → value_of t q ≡ Some v
stays es p q f t v there is = elim (f t) [ inl h ↦ h ∙ is | inr h ↦ h ∙ there ]

reads_none : (es p : Entries) (key : ℕ) → Reads es [] p key (Ok p)
reads_none es p key = record {
  after = p;
  is = refl;
  follows = λ t. inl refl;
  done = λ t v same none. let no : ⊥ = cc in absurd no;
  ascending = λ up. up;
}

-- an entry of the part: at its slot, or later
pub head_or_rest : (e : Entry) (part : Entries) (t : Slot) (v : Datum) → value_of t (e ∷ part) ≡ Some v → ((t ≡ e.0) × (e.1 ≡ v)) ⊎ (value_of t part ≡ Some v)
head_or_rest e part t v is =
    elim (cond_cases (is_eq (slot_cmp t e.0)) (Some e.1) (value_of t part)) [
      | inl h ↦ (let some : Some e.1 ≡ Some v = sym h.1 ∙ is in let same : e.1 ≡ v = cc in inl (same_slot t e.0 (equal (slot_cmp t e.0) h.0), same))
      | inr h ↦ inr (sym h.1 ∙ is)
    ]

reads_more : (es part p : Entries) (e : Entry) (key : ℕ) (r r' : Result Entries ShapeError) → value_of e.0 es ≡ Some e.1 → r ≡ r' → Reads es part (with_value p e.0 e.1) key r' → Reads es (e ∷ part) p key r
reads_more es part p e key r r' there is reads =
    let q : Entries = with_value p e.0 e.1 in
    record {
      after = reads.after;
      is = is ∙ reads.is;
      follows = follows_on es p q reads.after (follows_put es p e.0 e.1 there) reads.follows;
      done = λ t v same found. elim (head_or_rest e part t v found) [
        | inl h ↦ (
            let P : Slot → Type 0 = λ s. value_of s reads.after ≡ Some v in
            subst P (sym h.0) (stays es q reads.after reads.follows e.0 e.1 there (value_put-here p e.0 e.1) ∙ ap (λ (d : Datum). Some d) h.1))
        | inr h ↦ reads.done t v same h
      ];
      ascending = λ up. reads.ascending (sorted_insert slot_cmp_total p e.0 e.1 up);
    }

-- what the entries under a key have is what all have there
reads_under : (es p : Entries) (key : ℕ) (r : Result Entries ShapeError) → Reads es (under key es) p key r → Reads es es p key r
reads_under es p key r reads = record {
  after = reads.after;
  is = reads.is;
  follows = reads.follows;
  done = λ t v same found.
      let P : ℕ → Type 0 = λ k. value_of t (under k es) ≡ value_of t es in
      reads.done t v same (subst P same (value_under t es) ∙ found);
  ascending = reads.ascending;
}

-- ---- what fits

-- what stands at a slot of a legal payment fits there
pub legal_value : (table : Table) (es : Entries) (slot : Slot) (datum : Datum) → is_legal table es ≡ true → value_of slot es ≡ Some datum → datum_fits table slot datum ≡ true
legal_value table es slot datum legal is =
    let P : Option Datum → Type 0 = λ o. is_option table slot o ≡ true in
    subst P is (legal_option table es slot legal)

pub fits_parts : (table : Table) (s : Slot) (v : Datum) (dom : Domain) → datum_fits table s v ≡ true → domain_at s.key table ≡ Some dom → (has_sub dom s.sub ≡ true) × (allows dom v ≡ true)
fits_parts table s v dom fits is = let e : (has_sub dom s.sub && allows dom v) ≡ true = rw is at fits in and_parts (has_sub dom s.sub) (allows dom v) e

pub fits_domain : (table : Table) (s : Slot) (v : Datum) → datum_fits table s v ≡ true → (dom : Domain) × (domain_at s.key table ≡ Some dom)
fits_domain table s v fits =
    let step : (o : Option Domain) → domain_at s.key table ≡ o → (dom : Domain) × (domain_at s.key table ≡ Some dom) =
    λ o. elim o as (λ o. domain_at s.key table ≡ o → (dom : Domain) × (domain_at s.key table ≡ Some dom)) [
      | None ↦ (λ none. let e : false ≡ true = rw none at fits in absurd (false≢true e))
      | Some dom ↦ (λ is. (dom, is))
    ] in
    step (domain_at s.key table) refl

-- ---- the texts of a metadata key

sub_put-text : (table : Table) (key : ℕ) (path name t : List ℕ) (p : Entries) → domain_at key table ≡ Some metadata → leb (length name) 255 ≡ true → leb (length t) 1024 ≡ true
    → sub_put table key path name (string t) p ≡ Ok (with_value p (at key (Some name)) (Text t))
sub_put-text table key path name t p dom short few = rw (dom, short, few)

text_reads : (table : Table) (key : ℕ) (path : List ℕ) (s : Option (List ℕ)) (v : Datum) (ms : Members) (p : Entries) → domain_at key table ≡ Some metadata → has_sub metadata s ≡ true → allows metadata v ≡ true
    → subs_put table key path (text_added member s v ms) p ≡ subs_put table key path ms (with_value p (at key s) v)
unfolding members_put
text_reads table key path None v ms p dom sub ok = absurd (false≢true sub)
text_reads table key path (Some name) (Variant n) ms p dom sub ok = absurd (false≢true ok)
text_reads table key path (Some name) (Number z) ms p dom sub ok = absurd (false≢true ok)
text_reads table key path (Some name) (Text t) ms p dom sub ok = rw (sub_put-text table key path name t p dom sub ok)

part_reads : (table : Table) (es : Entries) (key : ℕ) (path : List ℕ) → domain_at key table ≡ Some metadata → (part : Entries) → AreUnder key part → AreThere es part → is_legal table part ≡ true → (p : Entries)
    → Reads es part p key (subs_put table key path (texts_of part) p)
unfolding members_put
part_reads table es key path dom [] all there legal p = reads_none es p key
part_reads table es key path dom (e ∷ part) all there legal p =
    let parts = and_parts (datum_fits table e.0 e.1) (is_legal table part) legal in
    let P : ℕ → Type 0 = λ k. domain_at k table ≡ Some metadata in
    let fits = fits_parts table e.0 e.1 metadata parts.0 (subst P (sym all.0) dom) in
    let Q : ℕ → Type 0 = λ k. subs_put table key path (texts_of (e ∷ part)) p ≡ subs_put table key path (texts_of part) (with_value p (at k e.0.sub) e.1) in
    let one = text_reads table key path e.0.sub e.1 (texts_of part) p dom fits.0 fits.1 in
    reads_more es part p e key _ _ there.0 (subst Q (sym all.0) one) (part_reads table es key path dom part all.1 there.1 parts.1 (with_value p e.0 e.1))

pub texts_read : (table : Table) (es : Entries) (key : ℕ) (path : List ℕ) → domain_at key table ≡ Some metadata → AreAscending es → is_legal table es ≡ true → (p : Entries)
    → Reads es es p key (subs_put table key path (texts_of (under key es)) p)
texts_read table es key path dom up legal p =
    reads_under es p key _ (part_reads table es key path dom (under key es) (under_keys key es) (all_under (λ (e : Entry). value_of e.0 es ≡ Some e.1) key es (all_there es up)) (under_legal table key es legal) p)

added_count : (s : Option (List ℕ)) (v : Datum) (ms : Members) (n : ℕ) → members_count ms ≤ n → members_count (text_added member s v ms) ≤ 1 + n
added_count None v ms n h = omega arith
added_count (Some name) (Variant k) ms n h = omega arith
added_count (Some name) (Number z) ms n h = omega arith
added_count (Some name) (Text t) ms n h = omega arith

texts_count : (es : Entries) → members_count (texts_of es) ≤ length es
texts_count [] = omega arith
texts_count (e ∷ es) = omega (arith, added_count e.0.sub e.1 (texts_of es) (length es) (texts_count es))

pub texts_put-few : (table : Table) (es : Entries) (key : ℕ) (path : List ℕ) (p : Entries) → count_by (λ (e : Entry). eqb e.0.key key) es ≤ 4096 → texts_put table key path (object (texts_of (under key es))) p ≡ subs_put table key path (texts_of (under key es)) p
texts_put-few table es key path p few =
    let n = texts_count (under key es) in
    let m = length-filter (λ (e : Entry). eqb e.0.key key) es in
    rw (le-leb (members_count (texts_of (under key es))) 4096 (omega arith))

-- ---- the value of another key

pub no_sub : (dom : Domain) (s : Option (List ℕ)) → is_metadata (Some (kind_of dom)) ≡ false → has_sub dom s ≡ true → s ≡ None
no_sub (variants names) None other h = refl
no_sub (variants names) (Some sub) other h = absurd (false≢true h)
no_sub (bounds l g) None other h = refl
no_sub (bounds l g) (Some sub) other h = absurd (false≢true h)
no_sub text None other h = refl
no_sub text (Some sub) other h = absurd (false≢true h)
no_sub metadata s other h = absurd (true≢false other)

abbrev pub Right : Table → ℕ → Domain → List ℕ → Datum → Entries → Type 0
Right table key dom path v p = value_put table key (kind_of dom) path (datum_data (variants_at key table) v) p ≡ Ok (with_value p (at key None) v)

variant_right : (table : Table) (key n : ℕ) (path : List ℕ) (p : Entries) → is_table table ≡ true → n < length (variants_at key table)
    → value_put table key kind.Enum path (datum_data (variants_at key table) (Variant n)) p ≡ Ok (with_value p (at key None) (Variant n))
variant_right table key n path p made within =
    let name : List ℕ = get_or (variants_at key table) n [] in
    let there : slice_get (variants_at key table) n ≡ Some name = slice_get-get_or (variants_at key table) n [] within in
    let found : find_variant key name table ≡ Some n = variant_found table key n name made there in
    rw (there, found)

number_right : (table : Table) (key : ℕ) (z : ℤ) (path : List ℕ) (names : List (List ℕ)) (p : Entries) → datum_fits table (at key None) (Number z) ≡ true → as_i64 (of_integer z) ≡ Some z
    → value_put table key kind.Number path (datum_data names (Number z)) p ≡ Ok (with_value p (at key None) (Number z))
number_right table key z path names p fits bits = rw (bits, fits)

text_right : (table : Table) (key : ℕ) (t path : List ℕ) (names : List (List ℕ)) (p : Entries) → datum_fits table (at key None) (Text t) ≡ true
    → value_put table key kind.Text path (datum_data names (Text t)) p ≡ Ok (with_value p (at key None) (Text t))
text_right table key t path names p fits = rw fits

pub right : (table : Table) (key : ℕ) (dom : Domain) (path : List ℕ) (v : Datum) (p : Entries) → is_table table ≡ true → domain_at key table ≡ Some dom → is_metadata (Some (kind_of dom)) ≡ false
    → allows dom v ≡ true → datum_fits table (at key None) v ≡ true → HasBits (Some v) → Right table key dom path v p
right table key (variants names) path (Variant n) p made is other ok fits bits =
    let within : n < length (variants_at key table) = rw is (ltb-true n (length names) ok) in
    variant_right table key n path p made within
right table key (variants names) path (Number z) p made is other ok fits bits = absurd (false≢true ok)
right table key (variants names) path (Text t) p made is other ok fits bits = absurd (false≢true ok)
right table key (bounds l g) path (Variant n) p made is other ok fits bits = absurd (false≢true ok)
right table key (bounds l g) path (Number z) p made is other ok fits bits = number_right table key z path (variants_at key table) p fits bits
right table key (bounds l g) path (Text t) p made is other ok fits bits = absurd (false≢true ok)
right table key text path (Variant n) p made is other ok fits bits = absurd (false≢true ok)
right table key text path (Number z) p made is other ok fits bits = absurd (false≢true ok)
right table key text path (Text t) p made is other ok fits bits = text_right table key t path (variants_at key table) p fits
right table key metadata path v p made is other ok fits bits = absurd (true≢false other)
