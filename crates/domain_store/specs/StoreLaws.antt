-- Laws of stores.
use Rattle.std.specs.Prelude.{◌≡◌, ℕ, Bool, [], ◌∷◌, ◌++◌, Some, slice_get}
use Rattle.std.specs.List.{Contains}
use Rattle.key_table.specs.declared.atom.Atom.{Atom}
use Rattle.key_table.specs.Contexts.{Assumption, assume, Forces}
use Rattle.key_table.specs.Options.{holds_on}
use Rattle.key_table.specs.Payments.{Entries}
use Rattle.domain_store.specs.Stores.{Seen, context_of, more}
use Rattle.domain_store.specs.PickedPayments.{IsPayment}

-- One more assumption is the last of the context.
abbrev pub ContextLaw : Type 0
ContextLaw = (seen : Seen) (n : ℕ) (truth : Bool) (atom : Atom) → slice_get seen.problem.atoms n ≡ Some atom → context_of (more seen n truth) ≡ context_of seen ++ assume atom truth ∷ []

-- In the payment of a store each of the problem's atoms has the truth that is forced on it.
abbrev pub PaymentLaw : Type 0
PaymentLaw = (seen : Seen) (payment : Entries) (atom : Atom) (truth : Bool) → IsPayment seen payment → Contains seen.problem.atoms atom → Forces seen.table (context_of seen) atom truth → holds_on atom payment ≡ truth

-- So each assumption of the context has its truth there.
abbrev pub AssumedInLaw : Type 0
AssumedInLaw = (seen : Seen) (payment : Entries) (a : Assumption) → IsPayment seen payment → Contains (context_of seen) a → holds_on a.atom payment ≡ a.truth
