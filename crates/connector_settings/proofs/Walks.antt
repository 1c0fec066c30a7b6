-- The plain walk over settings finds what they take.
use Rattle.std.proofs.Common.{◌≡◌, ℕ, ℤ, nat_eq, List, [], ◌∷◌, ◌++◌, Bool, ◌&&◌, ◌||◌, true, false, refl, ap, sym, ◌∙◌}
use Rattle.std.specs.List.{list_any, list_all}
use Rattle.std.proofs.lemmas.Cmp.{nat_eq_equiv}
use Rattle.key_table.specs.declared.atom.Op.TheVariants.{GreaterEqual, LessEqual}
use Rattle.key_table.specs.declared.slot.Datum.TheVariants as datum
use Rattle.key_table.specs.Atoms.{test_holds}
use Rattle.key_table.specs.Payments.{Entries}
use Rattle.key_table.specs.Options.{holds_on}
use Rattle.connector_settings.specs.declared.keys.Keys.{Keys}
use Rattle.connector_settings.specs.declared.settings.TypeEntry.{TypeEntry}
use Rattle.connector_settings.specs.Demands.{asked, word_tests, network_demands, only_demands, except_demands, bound_demands}
use Rattle.connector_settings.specs.Takes.{accepted}
use Rattle.connector_settings.specs.Walks.{is_met, are_met}
use Rattle.constraint_graph.specs.Logics.{two_valued, every}
use Rattle.constraint_graph.specs.TwoValues.{every_is_list_all}

-- ---- a value among words

pub one_of_variants : (m : ℕ) (vs : List ℕ) → list_any (test_holds (datum.Variant m)) (word_tests vs) ≡ list_any (λ v. nat_eq v m) vs
one_of_variants m [] = refl
one_of_variants m (v ∷ vs) = ap (λ b. b || list_any (test_holds (datum.Variant m)) (word_tests vs)) (nat_eq_equiv.symm m v) ∙ ap (λ b. nat_eq v m || b) (one_of_variants m vs)

pub one_of_number : (z : ℤ) (vs : List ℕ) → list_any (test_holds (datum.Number z)) (word_tests vs) ≡ false
one_of_number z [] = refl
one_of_number z (v ∷ vs) = one_of_number z vs

pub one_of_text : (t : List ℕ) (vs : List ℕ) → list_any (test_holds (datum.Text t)) (word_tests vs) ≡ false
one_of_text t [] = refl
one_of_text t (v ∷ vs) = one_of_text t vs

-- ---- an entry, part by part

and_assoc : (a b c : Bool) → ((a && b) && c) ≡ (a && (b && c))
and_assoc true b c = refl
and_assoc false b c = refl

all-append : {X : Type 0} (f : X → Bool) (xs ys : List X) → every two_valued f (xs ++ ys) ≡ (list_all f xs && every two_valued f ys)
all-append f [] ys = refl
all-append f (x ∷ xs) ys = ap (λ b. f x && b) (all-append f xs ys) ∙ sym (and_assoc (f x) (list_all f xs) (every two_valued f ys))

pub accepted_is : (payment : Entries) (keys : Keys) (method : ℕ) (e : TypeEntry) → accepted two_valued (λ atom. holds_on atom payment) keys method e ≡ (
    is_met payment (asked keys.method (word_tests (method ∷ [])))
    && (is_met payment (asked keys.method_type (word_tests (e.method_type ∷ [])))
    && (are_met payment (network_demands keys.network e.networks)
    && (are_met payment (only_demands keys.currency e.currencies)
    && (are_met payment (only_demands keys.country e.countries)
    && (are_met payment (bound_demands keys.amount GreaterEqual e.minimum)
    && (are_met payment (bound_demands keys.amount LessEqual e.maximum)
    && (are_met payment (except_demands keys.currency e.currencies)
    && are_met payment (except_demands keys.country e.countries)))))))))
accepted_is payment keys method e =
    let f = is_met payment in
    let n = network_demands keys.network e.networks in
    let oc = only_demands keys.currency e.currencies in
    let ok = only_demands keys.country e.countries in
    let mn = bound_demands keys.amount GreaterEqual e.minimum in
    let mx = bound_demands keys.amount LessEqual e.maximum in
    let ec = except_demands keys.currency e.currencies in
    let ek = except_demands keys.country e.countries in
    let last = all-append f ec ek ∙ ap (λ b. list_all f ec && b) (every_is_list_all f ek) in
    let most = all-append f mx (ec ++ ek) ∙ ap (λ b. list_all f mx && b) last in
    let least = all-append f mn (mx ++ (ec ++ ek)) ∙ ap (λ b. list_all f mn && b) most in
    let countries = all-append f ok (mn ++ (mx ++ (ec ++ ek))) ∙ ap (λ b. list_all f ok && b) least in
    let currencies = all-append f oc (ok ++ (mn ++ (mx ++ (ec ++ ek)))) ∙ ap (λ b. list_all f oc && b) countries in
    let networks = all-append f n (oc ++ (ok ++ (mn ++ (mx ++ (ec ++ ek))))) ∙ ap (λ b. list_all f n && b) currencies in
    ap (λ b. f (asked keys.method (word_tests (method ∷ []))) && (f (asked keys.method_type (word_tests (e.method_type ∷ []))) && b)) networks
