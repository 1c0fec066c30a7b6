-- The texts under a key, as the code puts them: one after another, each behind those before it.
use Rattle.std.proofs.Common.{◌≡◌, ℕ, List, [], ◌∷◌, ◌++◌, Option, Some, None, refl, ap, sym, ◌∙◌, subst, Equal, Greater, nat_cmp}
use Rattle.std.specs.Ordering.{ordering_then}
use Rattle.std.specs.Option.{option_cmp}
use Rattle.std.specs.Cmp.{nat_cmp_is}
use Rattle.std.specs.List.{AllByRecursion}
use Rattle.std.specs.Cmp.Lexicographic.{slice_cmp}
use Rattle.std.proofs.lemmas.Cmp.{tied_itself}
use Rattle.serde_json.specs.Data.{Members, no_members, member, put, string}
use Rattle.key_table.specs.declared.slot.Slot.{Slot}
use Rattle.key_table.specs.declared.slot.Datum.{Datum}
use Rattle.key_table.specs.declared.slot.Datum.TheVariants.{Variant, Number, Text}
use Rattle.key_table.specs.Slots.{slot_cmp, at}
use Rattle.key_table.specs.Payments.{Entries, AreAscending, under}
use Rattle.key_table.specs.Places.{AreBefore}
use Rattle.key_table.proofs.Runs.{before_middle}
use Rattle.key_table.proofs.Sorted.{slot_cmp_total}
use Rattle.key_table.proofs.UnderKeys.{under_ascends, under_keys}
use Rattle.payment_reader.specs.Written.{text_added, texts_of}

abbrev Entry : Type 0
Entry = Slot × Datum

abbrev pub AreUnder : ℕ → Entries → Type 0
AreUnder key es = AllByRecursion (λ (e : Entry). e.0.key ≡ key) es

-- of two sub names of a key, that of the greater slot is greater
sub_greater : (key : ℕ) (sub name : List ℕ) (s : Slot) → s.key ≡ key → s.sub ≡ Some name → slot_cmp (at key (Some sub)) s ≡ Greater → slice_cmp nat_cmp sub name ≡ Greater
sub_greater key sub name s same is greater =
    let tied : nat_cmp key s.key ≡ Equal = sym (nat_cmp_is key s.key Equal (sym same)) in
    let by_sub : option_cmp (slice_cmp nat_cmp) (Some sub) s.sub ≡ Greater = sym (ap (λ o. ordering_then o (option_cmp (slice_cmp nat_cmp) (Some sub) s.sub)) tied) ∙ greater in
    sym (ap (λ (o : Option (List ℕ)). option_cmp (slice_cmp nat_cmp) (Some sub) o) is) ∙ by_sub

put_behind : (s : Option (List ℕ)) (d : Datum) (sub t : List ℕ) (ms ms' : Members) → put sub (string t) ms ≡ ms' → ((name : List ℕ) → s ≡ Some name → slice_cmp nat_cmp sub name ≡ Greater)
    → put sub (string t) (text_added member s d ms) ≡ text_added member s d ms'
put_behind None d sub t ms ms' is greater = is
put_behind (Some name) (Variant n) sub t ms ms' is greater = is
put_behind (Some name) (Number z) sub t ms ms' is greater = is
put_behind (Some name) (Text u) sub t ms ms' is greater = let behind = greater name refl in rw behind (ap (member name (string u)) is)

text_last : (key : ℕ) (sub t : List ℕ) (es : Entries) → AreUnder key es → AreBefore (at key (Some sub)) es → put sub (string t) (texts_of es) ≡ texts_of (es ++ (at key (Some sub), Text t) ∷ [])
text_last key sub t [] all before = refl
text_last key sub t (x ∷ es) all before =
    put_behind x.0.sub x.1 sub t (texts_of es) (texts_of (es ++ (at key (Some sub), Text t) ∷ [])) (text_last key sub t es all.1 before.1) (λ name is. sub_greater key sub name x.0 all.0 is before.0)

-- an entry that is no text under a sub name adds nothing
none_last : (es : Entries) (e : Entry) → text_added member e.0.sub e.1 no_members ≡ no_members → texts_of es ≡ texts_of (es ++ e ∷ [])
none_last [] e none = sym none
none_last (x ∷ es) e none = ap (text_added member x.0.sub x.1) (none_last es e none)

put_last : (key : ℕ) (es : Entries) (s : Option (List ℕ)) (d : Datum) → AreUnder key es → AreBefore (at key s) es → text_added put s d (texts_of es) ≡ texts_of (es ++ (at key s, d) ∷ [])
put_last key es None d all before = none_last es (at key None, d) refl
put_last key es (Some sub) (Variant n) all before = none_last es (at key (Some sub), Variant n) refl
put_last key es (Some sub) (Number z) all before = none_last es (at key (Some sub), Number z) refl
put_last key es (Some sub) (Text t) all before = text_last key sub t es all before

under_front : (key : ℕ) (xs : Entries) (e : Entry) (rest : Entries) → AreUnder key (xs ++ e ∷ rest) → AreUnder key xs × (e.0.key ≡ key)
under_front key [] e rest all = (tt, all.0)
under_front key (x ∷ xs) e rest all = let later = under_front key xs e rest all.1 in ((all.0, later.0), later.1)

-- the entry behind those that were put
pub put_next : (es : Entries) (key : ℕ) (done : Entries) (e : Entry) (rest : Entries) → AreAscending es → under key es ≡ done ++ e ∷ rest → text_added put e.0.sub e.1 (texts_of done) ≡ texts_of (done ++ e ∷ [])
put_next es key done e rest up is =
    let P : Entries → Type 0 = λ l. AreAscending l in
    let Q : Entries → Type 0 = λ l. AreUnder key l in
    let all = under_front key done e rest (subst Q is (under_keys key es)) in
    let R : ℕ → Type 0 = λ k. AreUnder k done in
    let before = before_middle slot_cmp slot_cmp_total done e rest e.0 (subst P is (under_ascends key es up)) (λ less. let tied = tied_itself slot_cmp_total e.0 in let no : ⊥ = cc in no) in
    put_last e.0.key done e.0.sub e.1 (subst R (sym all.1) all.0) before
