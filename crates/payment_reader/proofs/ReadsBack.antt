-- What is written for a payment reads back.
use Rattle.std.proofs.Common.{◌≡◌, ℕ, zero, suc, ◌<◌, ◌≤◌, ◌⊎◌, inl, inr, List, [], ◌∷◌, length, Bool, true, false, cond, Option, Some, None, option_map, Result, Ok, Err, refl, ap, sym, ◌∙◌, subst, arith, IsUtf8, Ordering, Less, Equal, Greater, nat_cmp}
use Rattle.std.specs.Str.{is_utf8}
use Rattle.std.specs.Ordering.{match_ordering}
use Rattle.std.specs.List.Sorted.{IsStrictlySortedBy}
use Rattle.std.specs.Cmp.Lexicographic.{slice_cmp}
use Rattle.std.proofs.lemmas.Bool.{cases_Bool, cases_eq, false≢true, cond-true}
use Rattle.std.proofs.lemmas.Map.Lookups.{exact_bytes}
use Rattle.std.proofs.lemmas.Str.{is_utf8-from_IsUtf8}
use Rattle.serde_json.specs.Data.{Data, object, Members, no_members, member, put, depth, members_depth}
use Rattle.serde_json.specs.Find.{as_null, get_member}
use Rattle.serde_json.specs.Read as json
use Rattle.serde_json.proofs.Views.{get_member-put, get_member-put_other}
use Rattle.key_table.specs.declared.slot.Slot.{Slot}
use Rattle.key_table.specs.declared.slot.Datum.{Datum}
use Rattle.key_table.specs.declared.slot.Datum.TheVariants.{Variant, Number, Text}
use Rattle.key_table.specs.Slots.{at}
use Rattle.key_table.specs.Tables.{Domain, variants, bounds, text, metadata, Table, is_table, kind_of, name_at, domain_at, kind_at, variants_at, find_key, has_sub, allows}
use Rattle.key_table.specs.Payments.{Entries, AreAscending, value_of, with_value, under, is_legal}
use Rattle.key_table.proofs.Sorted.{slot_cmp_total, sorted_insert}
use Rattle.key_table.proofs.UnderKeys.{value_under}
use Rattle.json_shape.specs.declared.error.ShapeError.{ShapeError}
use Rattle.json_shape.specs.Paths.{name_step, fault}
use Rattle.key_table.specs.Answers.{or_fault}
use Rattle.json_shape.specs.Shapes.{json_of}
use Rattle.payment_reader.specs.Reading.{members_put, texts_put, value_put, field_put, fields_put, payment_in, payment_of}
use Rattle.payment_reader.specs.WellMade.{HasBits, HasBitsAt, IsWellMade}
use Rattle.payment_reader.specs.Written.{datum_data, text_added, texts_of, object_of, is_metadata, data_at, with_field, fields_of, payment_data, HasFewSubs}
use Rattle.payment_reader.proofs.Entries.{equal_entries}
use Rattle.payment_reader.proofs.Follows.{Follows, Reads, value_put-here, follows_put, follows_on, stays, head_or_rest, fits_parts, fits_domain, legal_value, texts_read, texts_put-few, no_sub, right}
use Rattle.payment_reader.proofs.Keys.{option_map_some, domain_within, name_domain, kind_is, found_by_name}

-- A payment, and its table, of which what is written reads back.
pub record IsWritable (table : Table) (es : Entries) : Type 0 where
  pub made : is_table table ≡ true
  pub ascending : AreAscending es
  pub bits : (key : ℕ) → key < length table → HasBitsAt key table es
  pub legal : is_legal table es ≡ true
  pub few : HasFewSubs es

-- ---- one field

is_meta : (dom : Domain) → is_metadata (Some (kind_of dom)) ≡ true → dom ≡ metadata
is_meta (variants names) h = absurd (false≢true h)
is_meta (bounds l g) h = absurd (false≢true h)
is_meta text h = absurd (false≢true h)
is_meta metadata h = refl

object_is : (ms : Members) (d : Data) → object_of ms ≡ Some d → object ms ≡ d
object_is no_members d is = let no : ⊥ = cc in absurd no
object_is (member name e ms) d is = cc

datum-null : (names : List (List ℕ)) (v : Datum) → as_null (datum_data names v) ≡ None
datum-null names (Variant n) = refl
datum-null names (Number z) = refl
datum-null names (Text t) = refl

field_is : (table : Table) (name : List ℕ) (key : ℕ) (dom : Domain) (d : Data) (p : Entries) → find_key name table ≡ Some key → domain_at key table ≡ Some dom → as_null d ≡ None
    → field_put table name d p ≡ value_put table key (kind_of dom) (name_step [] name) d p
field_is table name key dom d p found domain there = rw (found, domain, there)

reads_as : (es part p : Entries) (key : ℕ) (r r' : Result Entries ShapeError) → r ≡ r' → Reads es part p key r' → Reads es part p key r
reads_as es part p key r r' is reads = record { after = reads.after; is = is ∙ reads.is; follows = reads.follows; done = reads.done; ascending = reads.ascending }

only_slot : (table : Table) (es : Entries) (key : ℕ) (dom : Domain) → is_legal table es ≡ true → domain_at key table ≡ Some dom → is_metadata (Some (kind_of dom)) ≡ false
    → (t : Slot) (v : Datum) → t.key ≡ key → value_of t es ≡ Some v → t ≡ at key None
only_slot table es key dom legal domain other t v same there =
    let P : ℕ → Type 0 = λ k. domain_at k table ≡ Some dom in
    let fits = fits_parts table t v dom (legal_value table es t v legal there) (subst P (sym same) domain) in
    ap (λ k. at k t.sub) same ∙ ap (λ s. at key s) (no_sub dom t.sub other fits.0)

plain_reads : (table : Table) (es : Entries) (key : ℕ) (dom : Domain) (path : List ℕ) (v : Datum) (p : Entries) → IsWritable table es → domain_at key table ≡ Some dom → is_metadata (Some (kind_of dom)) ≡ false
    → value_of (at key None) es ≡ Some v → Reads es es p key (value_put table key (kind_of dom) path (datum_data (variants_at key table) v) p)
plain_reads table es key dom path v p w domain other there =
    let fits = legal_value table es (at key None) v w.legal there in
    let parts = fits_parts table (at key None) v dom fits domain in
    let P : Option Datum → Type 0 = λ o. HasBits o in
    let bits : HasBits (Some v) = subst P there (w.bits key (domain_within table key dom domain).0 (ap is_metadata (kind_is table key dom domain) ∙ other)) in
    record {
      after = with_value p (at key None) v;
      is = right table key dom path v p w.made domain other parts.1 fits bits;
      follows = follows_put es p (at key None) v there;
      done = λ t u same found.
          let slot : t ≡ at key None = only_slot table es key dom w.legal domain other t u same found in
          let Q : Slot → Type 0 = λ s. value_of s es ≡ Some u in
          let R : Slot → Type 0 = λ s. value_of s (with_value p (at key None) v) ≡ Some u in
          subst R (sym slot) (value_put-here p (at key None) v ∙ sym there ∙ subst Q slot found);
      ascending = sorted_insert slot_cmp_total p (at key None) v;
    }

object_reads : (table : Table) (es : Entries) (key : ℕ) (path : List ℕ) (p : Entries) → IsWritable table es → domain_at key table ≡ Some metadata → Reads es es p key (texts_put table key path (object (texts_of (under key es))) p)
object_reads table es key path p w domain = reads_as es es p key _ _ (texts_put-few table es key path p (w.few key)) (texts_read table es key path domain w.ascending w.legal p)

plain_data : (table : Table) (es : Entries) (key : ℕ) (d : Data) → is_metadata (kind_at key table) ≡ false → data_at key table es ≡ Some d → (v : Datum) × (value_of (at key None) es ≡ Some v) × (datum_data (variants_at key table) v ≡ d)
plain_data table es key d other is = option_map_some (datum_data (variants_at key table)) (value_of (at key None) es) d (rw other at is) (λ v there same. (v, there, same))

metadata_data : (table : Table) (es : Entries) (key : ℕ) (d : Data) → is_metadata (kind_at key table) ≡ true → data_at key table es ≡ Some d → object (texts_of (under key es)) ≡ d
metadata_data table es key d meta is = let e : object_of (texts_of (under key es)) ≡ Some d = rw meta at is in object_is (texts_of (under key es)) d e

field_reads : (table : Table) (es : Entries) (name : List ℕ) (key : ℕ) (dom : Domain) (d : Data) (p : Entries) → IsWritable table es → find_key name table ≡ Some key → domain_at key table ≡ Some dom → data_at key table es ≡ Some d
    → Reads es es p key (field_put table name d p)
field_reads table es name key dom d p w found domain there =
    let kind_there = ap is_metadata (kind_is table key dom domain) in
    let Q : Data → Type 0 = λ x. Reads es es p key (field_put table name x p) in
    elim (cases_Bool (is_metadata (Some (kind_of dom)))) [
      | inl meta ↦ (
          let P : Domain → Type 0 = λ x. domain_at key table ≡ Some x in
          let domain' : domain_at key table ≡ Some metadata = subst P (is_meta dom meta) domain in
          subst Q (metadata_data table es key d (kind_there ∙ meta) there)
          (reads_as es es p key _ _ (field_is table name key metadata (object (texts_of (under key es))) p found domain' refl) (object_reads table es key (name_step [] name) p w domain')))
      | inr other ↦ (
          let v = plain_data table es key d (kind_there ∙ other) there in
          subst Q v.2
          (reads_as es es p key _ _ (field_is table name key dom (datum_data (variants_at key table) v.0) p found domain (datum-null (variants_at key table) v.0)) (plain_reads table es key dom (name_step [] name) v.0 p w domain other v.1)))
    ]

-- ---- all fields

-- A member is the field of a key.
pub record IsField (table : Table) (es : Entries) (name : List ℕ) (d : Data) : Type 0 where
  pub key : ℕ
  pub dom : Domain
  pub found : find_key name table ≡ Some key
  pub domain : domain_at key table ≡ Some dom
  pub there : data_at key table es ≡ Some d

abbrev AreFields : Table → Entries → Members → Type 0
AreFields table es no_members = Unit {0}
AreFields table es (member name d ms) = IsField table es name d × AreFields table es ms

are_fields_put : (table : Table) (es : Entries) (k : List ℕ) (d : Data) (ms : Members) → IsField table es k d → AreFields table es ms → AreFields table es (put k d ms)
are_fields_put table es k d no_members field h = (field, tt)
are_fields_put table es k d (member l e ms) field h =
    let step : (o : Ordering) → slice_cmp nat_cmp k l ≡ o → AreFields table es (match_ordering o (member k d (member l e ms)) (member l d ms) (member l e (put k d ms))) =
    λ o. elim o as (λ o. slice_cmp nat_cmp k l ≡ o → AreFields table es (match_ordering o (member k d (member l e ms)) (member l d ms) (member l e (put k d ms)))) [
      | Less ↦ (λ is. (field, h))
      | Equal ↦ (λ is. let P : List ℕ → Type 0 = λ n. IsField table es n d in (subst P (exact_bytes k l is) field, h.1))
      | Greater ↦ (λ is. (h.0, are_fields_put table es k d ms field h.1))
    ] in
    step (slice_cmp nat_cmp k l) refl

are_fields_more : (table : Table) (es : Entries) (key : ℕ) (name : Option (List ℕ)) (o : Option Data) (ms : Members) → is_table table ≡ true → name_at key table ≡ name → data_at key table es ≡ o → AreFields table es ms → AreFields table es (with_field name o ms)
are_fields_more table es key None o ms made named there h = h
are_fields_more table es key (Some name) None ms made named there h = h
are_fields_more table es key (Some name) (Some d) ms made named there h =
    let dom = name_domain table key name named in
    are_fields_put table es name d ms (record { key = key; dom = dom.0; found = found_by_name table key name made named; domain = dom.1; there = there }) h

are_fields : (n : ℕ) (table : Table) (es : Entries) → is_table table ≡ true → AreFields table es (fields_of n table es)
unfolding fields_of
are_fields zero table es made = tt
are_fields (suc key) table es made = are_fields_more table es key (name_at key table) (data_at key table es) (fields_of key table es) made refl refl (are_fields key table es made)

-- A reading of fields gives a payment that follows, and has what stood under the key of each.
record ReadsAll (table : Table) (es p : Entries) (ms : Members) (r : Result Entries ShapeError) : Type 0 where
  after : Entries
  is : r ≡ Ok after
  follows : Follows es p after
  done : (key : ℕ) (name : List ℕ) (d : Data) (t : Slot) (v : Datum) → find_key name table ≡ Some key → get_member name ms ≡ Some d → t.key ≡ key → value_of t es ≡ Some v → value_of t after ≡ Some v
  ascending : AreAscending p → AreAscending after

-- a member: at its name, or later
first_or_rest : (name l : List ℕ) (e d : Data) (ms : Members) → get_member name (member l e ms) ≡ Some d → (name ≡ l) ⊎ (get_member name ms ≡ Some d)
first_or_rest name l e d ms is =
    let goal : Type 0 = (name ≡ l) ⊎ (get_member name ms ≡ Some d) in
    let step : (o : Ordering) → slice_cmp nat_cmp name l ≡ o → match_ordering o (get_member name ms) (Some e) (get_member name ms) ≡ Some d → goal =
    λ o. elim o as (λ o. slice_cmp nat_cmp name l ≡ o → match_ordering o (get_member name ms) (Some e) (get_member name ms) ≡ Some d → goal) [
      | Less ↦ (λ less found. inr found)
      | Equal ↦ (λ same found. inl (exact_bytes name l same))
      | Greater ↦ (λ greater found. inr found)
    ] in
    step (slice_cmp nat_cmp name l) refl is

goes_on : (put : List ℕ → Data → Entries → Result Entries ShapeError) (name : List ℕ) (d : Data) (ms : Members) (p q : Entries) → put name d p ≡ Ok q → members_put put (member name d ms) p ≡ members_put put ms q
unfolding members_put
goes_on put name d ms p q is = rw is

none_to_put : (table : Table) (p : Entries) → fields_put table no_members p ≡ Ok p
unfolding members_put
none_to_put table p = refl

fields_read : (table : Table) (es : Entries) → IsWritable table es → (ms : Members) → AreFields table es ms → (p : Entries) → ReadsAll table es p ms (fields_put table ms p)
fields_read table es w no_members fields p = record {
  after = p;
  is = none_to_put table p;
  follows = λ t. inl refl;
  done = λ key name d t v found got same there. let no : ⊥ = cc in absurd no;
  ascending = λ up. up;
}
fields_read table es w (member l e ms) fields p =
    let f = fields.0 in
    let first = field_reads table es l f.key f.dom e p w f.found f.domain f.there in
    let rest = fields_read table es w ms fields.1 first.after in
    record {
      after = rest.after;
      is = goes_on (field_put table) l e ms p first.after first.is ∙ rest.is;
      follows = follows_on es p first.after rest.after first.follows rest.follows;
      done = λ key name d t v found got same there. elim (first_or_rest name l e d ms got) [
        | inl here ↦ (
            let P : List ℕ → Type 0 = λ n. find_key n table ≡ Some key in
            let keys : Some key ≡ Some f.key = sym (subst P here found) ∙ f.found in
            let key_is : key ≡ f.key = cc in
            stays es first.after rest.after rest.follows t v there (first.done t v (same ∙ key_is) there))
        | inr later ↦ rest.done key name d t v found later same there
      ];
      ascending = λ up. rest.ascending (first.ascending up);
    }

-- what stands under a key is found under its name
other_field : (table : Table) (es : Entries) (key m : ℕ) (name : List ℕ) (d : Data) (name' : Option (List ℕ)) (o : Option Data) (ms : Members) → is_table table ≡ true → name_at key table ≡ Some name → name_at m table ≡ name' → (key ≡ m → ⊥)
    → get_member name ms ≡ Some d → get_member name (with_field name' o ms) ≡ Some d
other_field table es key m name d None o ms made named named' other got = got
other_field table es key m name d (Some l) None ms made named named' other got = got
other_field table es key m name d (Some l) (Some e) ms made named named' other got =
    get_member-put_other name l e ms (λ same.
    let P : List ℕ → Type 0 = λ n. find_key n table ≡ Some key in
    let keys : Some key ≡ Some m = sym (subst P same (found_by_name table key name made named)) ∙ found_by_name table m l made named' in
    let key_is : key ≡ m = cc in
    other key_is) ∙ got

get_field : (n : ℕ) (table : Table) (es : Entries) (key : ℕ) (name : List ℕ) (d : Data) → is_table table ≡ true → key < n → name_at key table ≡ Some name → data_at key table es ≡ Some d → get_member name (fields_of n table es) ≡ Some d
unfolding fields_of
get_field zero table es key name d made within named there = absurd (omega arith)
get_field (suc m) table es key name d made within named there =
    elim (cases_eq key m) [
      | inl same ↦ (
          let P : ℕ → Type 0 = λ k. get_member name (with_field (name_at k table) (data_at k table es) (fields_of m table es)) ≡ Some d in
          let here : P key = rw (named, there) (get_member-put name d (fields_of m table es)) in
          subst P same here)
      | inr other ↦ other_field table es key m name d (name_at m table) (data_at m table es) (fields_of m table es) made named refl other
          (get_field m table es key name d made (omega arith) named there)
    ]

-- ---- what stands at a slot is written

abbrev is_there : Members → Bool
is_there no_members = false
is_there (member name d ms) = true

object_there : (ms : Members) → is_there ms ≡ true → object_of ms ≡ Some (object ms)
object_there no_members h = absurd (false≢true h)
object_there (member name d ms) h = refl

added_there : (s : Option (List ℕ)) (v : Datum) (ms : Members) → is_there ms ≡ true → is_there (text_added member s v ms) ≡ true
added_there None v ms h = h
added_there (Some name) (Variant n) ms h = h
added_there (Some name) (Number z) ms h = h
added_there (Some name) (Text t) ms h = refl

text_there : (s : Option (List ℕ)) (v : Datum) (ms : Members) → has_sub metadata s ≡ true → allows metadata v ≡ true → is_there (text_added member s v ms) ≡ true
text_there None v ms sub ok = absurd (false≢true sub)
text_there (Some name) (Variant n) ms sub ok = absurd (false≢true ok)
text_there (Some name) (Number z) ms sub ok = absurd (false≢true ok)
text_there (Some name) (Text t) ms sub ok = refl

texts_there : (es : Entries) (t : Slot) (v : Datum) → has_sub metadata t.sub ≡ true → allows metadata v ≡ true → value_of t es ≡ Some v → is_there (texts_of es) ≡ true
texts_there [] t v sub ok there = let no : ⊥ = cc in absurd no
texts_there (e ∷ es) t v sub ok there =
    elim (head_or_rest e es t v there) [
      | inl h ↦ (
          let P : Slot → Type 0 = λ s. has_sub metadata s.sub ≡ true in
          let Q : Datum → Type 0 = λ d. allows metadata d ≡ true in
          text_there e.0.sub e.1 (texts_of es) (subst P h.0 sub) (subst Q (sym h.1) ok))
      | inr h ↦ added_there e.0.sub e.1 (texts_of es) (texts_there es t v sub ok h)
    ]

something : (table : Table) (es : Entries) (t : Slot) (v : Datum) (dom : Domain) → is_legal table es ≡ true → value_of t es ≡ Some v → domain_at t.key table ≡ Some dom → (d : Data) × (data_at t.key table es ≡ Some d)
something table es t v dom legal there domain =
    let kind_there = ap is_metadata (kind_is table t.key dom domain) in
    elim (cases_Bool (is_metadata (Some (kind_of dom)))) [
      | inl meta ↦ (
          let P : Domain → Type 0 = λ x. domain_at t.key table ≡ Some x in
          let fits = fits_parts table t v metadata (legal_value table es t v legal there) (subst P (is_meta dom meta) domain) in
          let ms = texts_of (under t.key es) in
          let some : object_of ms ≡ Some (object ms) = object_there ms (texts_there (under t.key es) t v fits.0 fits.1 (value_under t es ∙ there)) in
          (object ms, rw (kind_there ∙ meta) some))
      | inr other ↦ (
          let Q : Slot → Type 0 = λ s. value_of s es ≡ Some v in
          let here : value_of (at t.key None) es ≡ Some v = subst Q (only_slot table es t.key dom legal domain other t v refl there) there in
          (datum_data (variants_at t.key table) v, rw (kind_there ∙ other, here)))
    ]

none_ascend : AreAscending []
unfolding IsStrictlySortedBy
none_ascend = tt

-- the payment is what its fields say
pub payment_reads : (table : Table) (es : Entries) → IsWritable table es → payment_in table (payment_data table es) ≡ Ok es
payment_reads table es w =
    let ms = fields_of (length table) table es in
    let all = fields_read table es w ms (are_fields (length table) table es w.made) [] in
    let values : (t : Slot) → value_of t all.after ≡ value_of t es =
    λ t.
    let step : (o : Option Datum) → value_of t es ≡ o → value_of t all.after ≡ value_of t es =
    λ o. elim o as (λ o. value_of t es ≡ o → value_of t all.after ≡ value_of t es) [
      | None ↦ (λ none. elim (all.follows t) [ inl h ↦ h ∙ sym none | inr h ↦ h ])
      | Some v ↦ (λ there.
          let dom = fits_domain table t v (legal_value table es t v w.legal there) in
          let key = domain_within table t.key dom.0 dom.1 in
          let d = something table es t v dom.0 w.legal there dom.1 in
          all.done t.key key.1.0 d.0 t v (found_by_name table t.key key.1.0 w.made key.1.1) (get_field (length table) table es t.key key.1.0 d.0 w.made key.0 key.1.1 d.1) refl there ∙ sym there)
    ] in
    step (value_of t es) refl in
    all.is ∙ ap (λ (l : Entries). Ok l) (equal_entries all.after es (all.ascending none_ascend) w.ascending values)

-- a text that reads as what is written for a payment is that payment
pub text_reads_back : (table : Table) (es : Entries) (t : List ℕ) → IsWellMade table es → is_legal table es ≡ true → IsUtf8 t → json.read t ≡ Some (payment_data table es) → HasFewSubs es → payment_of table t ≡ Ok es
text_reads_back table es t made legal utf8 is few =
    let w : IsWritable table es = record { made = made.made; ascending = made.ascending; bits = made.bits; legal = legal; few = few } in
    let one : json_of t ≡ or_fault (fault 1 []) (json.read t) = cond-true (is_utf8 t) (or_fault (fault 1 []) (json.read t)) (Err (fault 1 [])) (is_utf8-from_IsUtf8 t utf8) in
    let two : json_of t ≡ Ok (payment_data table es) = one ∙ ap (or_fault (fault 1 [])) is in
    rw (two, payment_reads table es w)

-- ---- what is written nests twice at most

depth_match : (o : Ordering) (a b c : Members) (n : ℕ) → members_depth a ≤ n → members_depth b ≤ n → members_depth c ≤ n → members_depth (match_ordering o a b c) ≤ n
depth_match Less a b c n p q r = p
depth_match Equal a b c n p q r = q
depth_match Greater a b c n p q r = r

depth_put : (k : List ℕ) (d : Data) (ms : Members) (n : ℕ) → depth d ≤ n → members_depth ms ≤ n → members_depth (put k d ms) ≤ n
depth_put k d no_members n p q = omega arith
depth_put k d (member l e ms) n p q =
    depth_match (slice_cmp nat_cmp k l) (member k d (member l e ms)) (member l d ms) (member l e (put k d ms)) n (omega arith) (omega arith) (omega (arith, depth_put k d ms n p (omega arith)))

depth_added : (s : Option (List ℕ)) (v : Datum) (ms : Members) → members_depth ms ≤ 0 → members_depth (text_added member s v ms) ≤ 0
depth_added None v ms h = h
depth_added (Some name) (Variant n) ms h = h
depth_added (Some name) (Number z) ms h = h
depth_added (Some name) (Text t) ms h = omega arith

depth_texts : (es : Entries) → members_depth (texts_of es) ≤ 0
depth_texts [] = omega arith
depth_texts (e ∷ es) = depth_added e.0.sub e.1 (texts_of es) (depth_texts es)

abbrev IsFlat : Option Data → Type 0
IsFlat o = (d : Data) → o ≡ Some d → depth d ≤ 1

flat_object : (ms : Members) → members_depth ms ≤ 0 → IsFlat (object_of ms)
flat_object no_members h d is = let no : ⊥ = cc in absurd no
flat_object (member name e ms) h d is = let same : object (member name e ms) ≡ d = cc in let P : Data → Type 0 = λ x. depth x ≤ 1 in subst P same (omega arith)

depth_datum : (names : List (List ℕ)) (v : Datum) → depth (datum_data names v) ≡ 0
depth_datum names (Variant n) = refl
depth_datum names (Number z) = refl
depth_datum names (Text t) = refl

flat_datum : (names : List (List ℕ)) (o : Option Datum) → IsFlat (option_map (datum_data names) o)
flat_datum names None d is = let no : ⊥ = cc in absurd no
flat_datum names (Some v) d is = let same : datum_data names v ≡ d = cc in let P : Data → Type 0 = λ x. depth x ≤ 1 in subst P same (omega (arith, depth_datum names v))

flat_cond : (b : Bool) (x y : Option Data) → IsFlat x → IsFlat y → IsFlat (cond b x y)
flat_cond true x y p q = p
flat_cond false x y p q = q

depth_field : (name : Option (List ℕ)) (o : Option Data) (ms : Members) → IsFlat o → members_depth ms ≤ 1 → members_depth (with_field name o ms) ≤ 1
depth_field None o ms flat h = h
depth_field (Some name) None ms flat h = h
depth_field (Some name) (Some d) ms flat h = depth_put name d ms 1 (flat d refl) h

depth_fields : (n : ℕ) (table : Table) (es : Entries) → members_depth (fields_of n table es) ≤ 1
unfolding fields_of
depth_fields zero table es = omega arith
depth_fields (suc key) table es =
    depth_field (name_at key table) (data_at key table es) (fields_of key table es)
    (flat_cond (is_metadata (kind_at key table)) (object_of (texts_of (under key es))) (option_map (datum_data (variants_at key table)) (value_of (at key None) es)) (flat_object (texts_of (under key es)) (depth_texts (under key es))) (flat_datum (variants_at key table) (value_of (at key None) es)))
    (depth_fields key table es)

pub depth_payment : (table : Table) (es : Entries) → depth (payment_data table es) ≤ json.max_depth
depth_payment table es = omega (arith, depth_fields (length table) table es)
