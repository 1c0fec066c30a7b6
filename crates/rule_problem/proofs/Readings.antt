-- A tree that proves is read to its end.
use Rattle.std.proofs.Common.{◌≡◌, ℕ, ◌+◌, inl, inr, cond, List, [], ◌∷◌, ◌++◌, length, true, false, Option, Some, None, Ok, slice_get, refl, ap, ◌∙◌, sym, subst, arith, append_assoc, append-nil, length-append}
use Rattle.std.specs.Option.{IsSomeAnd}
use Rattle.std.specs.List.{AllByRecursion, count_by}
use Rattle.std.proofs.lemmas.List.Sums.{sum_by-append}
use Rattle.key_table.specs.declared.atom.Atom.{Atom}
use Rattle.key_table.specs.Contexts.{Context, assume, IsVoid}
use Rattle.key_table.specs.Tables.{Table}
use Rattle.rule_problem.specs.declared.certificate.Item.{Item}
use Rattle.rule_problem.specs.declared.certificate.Item.TheVariants.{Split, Todo}
use Rattle.rule_problem.specs.declared.problem.Problem.{Problem}
use Rattle.rule_problem.specs.Distinct.{firsts, place_in}
use Rattle.rule_problem.specs.Laws.{ReadingLaw, TraceReadingLaw, SplitCountLaw}
use Rattle.rule_problem.specs.Proving.{split_of, After}
use Rattle.rule_problem.specs.Proving.After.{holds, splits}
use Rattle.rule_problem.specs.Reasons.{Reason, void, want, bar, goal, ReasonHolds, Holds}
use Rattle.rule_problem.specs.Traces.{IsCut, IsEnd}
use Rattle.rule_problem.specs.Trees.{Tree, missing, closed, split, items_of, item_of, named_in, is_split, split_count, TreeProves}
use Rattle.rule_problem.proofs.Names.{SameLaw, each_numbered}

at_front : (front : List Item) (item : Item) (rest : List Item) → slice_get (front ++ item ∷ rest) (length front) ≡ Some item
at_front [] item rest = refl
at_front (x ∷ front) item rest = at_front front item rest

all_left : {X : Type 0} (P : X → Type 0) (xs ys : List X) → AllByRecursion P (xs ++ ys) → AllByRecursion P xs
all_left P [] ys h = tt
all_left P (x ∷ xs) ys h = (h.0, all_left P xs ys h.1)

all_right : {X : Type 0} (P : X → Type 0) (xs ys : List X) → AllByRecursion P (xs ++ ys) → AllByRecursion P ys
all_right P [] ys h = h
all_right P (x ∷ xs) ys h = all_right P xs ys h.1

-- the place of an atom among some is that of the atom itself
abbrev HasPlace : List Atom → Atom → Type 0
HasPlace atoms a = slice_get atoms (place_in atoms a) ≡ Some a

abbrev HavePlaces : List Atom → Tree → Type 0
HavePlaces atoms tree = AllByRecursion (HasPlace atoms) (named_in tree)

no_split : (atoms : List Atom) (reason : Reason) → split_of atoms (item_of (place_in atoms) reason) ≡ None
no_split atoms (void a) = refl
no_split atoms (want w) = refl
no_split atoms (bar b) = refl
no_split atoms goal = refl

module _ (atoms : List Atom) (items : List Item) (P : Context → Item → Type 0) where
  -- Each leaf is an item of which P holds.
  abbrev LeavesHold : Context → Tree → Type 0
  LeavesHold c missing = P c Todo
  LeavesHold c (closed reason) = P c (item_of (place_in atoms) reason)
  LeavesHold c (split a left right) = LeavesHold (c ++ assume a true ∷ []) left × LeavesHold (c ++ assume a false ∷ []) right

  abbrev Reads : Context → ℕ → ℕ → Type 0
  Reads c i j = After atoms items P c i (Ok j)

  read_on : (tree : Tree) (c : Context) (front rest : List Item) (i : ℕ) → i ≡ length front → items ≡ front ++ (items_of (place_in atoms) tree ++ rest) → HavePlaces atoms tree → LeavesHold c tree
      → Reads c i (i + length (items_of (place_in atoms) tree))
  read_on missing c front rest i at is named leaf =
      let found : slice_get items i ≡ Some Todo = ap (λ l. slice_get l i) is ∙ ap (slice_get (front ++ Todo ∷ rest)) at ∙ at_front front Todo rest in
      holds Todo found refl leaf
  read_on (closed reason) c front rest i at is named leaf =
      let item = item_of (place_in atoms) reason in
      let found : slice_get items i ≡ Some item = ap (λ l. slice_get l i) is ∙ ap (slice_get (front ++ item ∷ rest)) at ∙ at_front front item rest in
      holds item found (no_split atoms reason) leaf
  read_on (split a left right) c front rest i at is named leaves =
      let item = Split (place_in atoms a) in
      let l = items_of (place_in atoms) left in
      let r = items_of (place_in atoms) right in
      let found : slice_get items i ≡ Some item = ap (λ k. slice_get k i) is ∙ ap (slice_get (front ++ item ∷ ((l ++ r) ++ rest))) at ∙ at_front front item ((l ++ r) ++ rest) in
      let is_left : items ≡ (front ++ item ∷ []) ++ (l ++ (r ++ rest)) =
      is ∙ ap (λ k. front ++ item ∷ k) (append_assoc l r rest) ∙ sym (append_assoc front (item ∷ []) (l ++ (r ++ rest))) in
      let at_left : i + 1 ≡ length (front ++ item ∷ []) = rw (length-append, at) refl in
      let first = read_on left (c ++ assume a true ∷ []) (front ++ item ∷ []) (r ++ rest) (i + 1) at_left is_left (all_left (HasPlace atoms) (named_in left) (named_in right) named.1) leaves.0 in
      let is_right : items ≡ ((front ++ item ∷ []) ++ l) ++ (r ++ rest) = is_left ∙ sym (append_assoc (front ++ item ∷ []) l (r ++ rest)) in
      let at_right : i + 1 + length l ≡ length ((front ++ item ∷ []) ++ l) = rw (length-append) (ap (λ n. n + length l) at_left) in
      let second = read_on right (c ++ assume a false ∷ []) ((front ++ item ∷ []) ++ l) rest (i + 1 + length l) at_right is_right (all_right (HasPlace atoms) (named_in left) (named_in right) named.1) leaves.1 in
      let total : i + 1 + length l + length r ≡ i + length (item ∷ (l ++ r)) = let e = length-append l r in omega arith in
      splits item a found named.0 first (subst (λ n. Reads (c ++ assume a false ∷ []) (i + 1 + length l) n) total second)

  read_all : (tree : Tree) → items ≡ items_of (place_in atoms) tree → HavePlaces atoms tree → LeavesHold [] tree → Reads [] 0 (length items)
  read_all tree spelled named leaves =
      let is : items ≡ [] ++ (items_of (place_in atoms) tree ++ []) = spelled ∙ sym (append-nil (items_of (place_in atoms) tree)) in
      let read = read_on tree [] [] [] 0 refl is named leaves in
      let total : 0 + length (items_of (place_in atoms) tree) ≡ length items = let e = ap length spelled in omega arith in
      subst (λ n. Reads [] 0 n) total read

places : SameLaw → (atoms : List Atom) (tree : Tree) → atoms ≡ firsts (named_in tree) → HavePlaces atoms tree
places law atoms tree is =
    let N : List Atom → Type 0 = λ l. HavePlaces l tree in
    subst N (sym is) (each_numbered law (named_in tree))

module _ (table : Table) (problem : Problem) (atoms : List Atom) where
  reason_item : (c : Context) (reason : Reason) → HavePlaces atoms (closed reason) → ReasonHolds table problem c reason → Holds table problem atoms c (item_of (place_in atoms) reason)
  reason_item c (void a) named h = subst (λ (o : Option Atom). IsSomeAnd o (λ atom. IsVoid table c atom.slot)) (sym named.0) h
  reason_item c (want w) named h = h
  reason_item c (bar b) named h = h
  reason_item c goal named h = h

  -- The leaves of a tree that proves are reasons that hold.
  proved_leaves : (items : List Item) (P : Context → Item → Type 0) → ((c : Context) (item : Item) → Holds table problem atoms c item → P c item) → (tree : Tree) (c : Context) → HavePlaces atoms tree → TreeProves table problem c tree → LeavesHold atoms items P c tree
  proved_leaves items P f missing c named proves = absurd proves
  proved_leaves items P f (closed reason) c named proves = f c (item_of (place_in atoms) reason) (reason_item c reason named proves)
  proved_leaves items P f (split a left right) c named proves = (
    proved_leaves items P f left (c ++ assume a true ∷ []) (all_left (HasPlace atoms) (named_in left) (named_in right) named.1) proves.0,
    proved_leaves items P f right (c ++ assume a false ∷ []) (all_right (HasPlace atoms) (named_in left) (named_in right) named.1) proves.1,
  )

  -- The leaves of a tree that is cut short are reasons that hold, or gaps.
  cut_leaves : (items : List Item) (tree : Tree) (c : Context) → HavePlaces atoms tree → IsCut table problem c tree → LeavesHold atoms items (IsEnd table problem atoms) c tree
  cut_leaves items missing c named cut = inr refl
  cut_leaves items (closed reason) c named cut = absurd cut
  cut_leaves items (split a left right) c named (inl cut) = (
    cut_leaves items left (c ++ assume a true ∷ []) (all_left (HasPlace atoms) (named_in left) (named_in right) named.1) cut.0,
    subst (λ (t : Tree). LeavesHold atoms items (IsEnd table problem atoms) (c ++ assume a false ∷ []) t) (sym cut.1) (inr refl),
  )
  cut_leaves items (split a left right) c named (inr cut) = (
    proved_leaves items (IsEnd table problem atoms) (λ d item h. inl h) left (c ++ assume a true ∷ []) (all_left (HasPlace atoms) (named_in left) (named_in right) named.1) cut.0,
    cut_leaves items right (c ++ assume a false ∷ []) (all_right (HasPlace atoms) (named_in left) (named_in right) named.1) cut.1,
  )

pub reads : SameLaw → ReadingLaw
reads law table problem certificate tree spelled proves =
    let atoms = certificate.atoms in
    let named = places law atoms tree spelled.atoms_are in
    read_all atoms certificate.items (Holds table problem atoms) tree spelled.items_are named
    (proved_leaves table problem atoms certificate.items (Holds table problem atoms) (λ c item h. h) tree [] named proves)

pub reads_trace : SameLaw → TraceReadingLaw
reads_trace law table problem budget trace is =
    let atoms = trace.atoms in
    let named = places law atoms is.tree is.spelled.atoms_are in
    read_all atoms trace.items (IsEnd table problem atoms) is.tree is.spelled.items_are named (cut_leaves table problem atoms trace.items is.tree [] named is.cut)

count_items : (number : Atom → ℕ) (tree : Tree) → count_by is_split (items_of number tree) ≡ split_count tree
count_items number missing = refl
count_items number (closed (void a)) = refl
count_items number (closed (want w)) = refl
count_items number (closed (bar b)) = refl
count_items number (closed goal) = refl
count_items number (split a left right) =
    let l = items_of number left in
    let r = items_of number right in
    let size : Item → ℕ = λ item. cond (is_split item) 1 0 in
    sum_by-append size (Split (number a) ∷ []) (l ++ r) ∙ ap (λ n. 1 + n) (sum_by-append size l r ∙ ap (λ n. n + count_by is_split r) (count_items number left) ∙ ap (λ n. split_count left + n) (count_items number right))

pub counts : SplitCountLaw
counts atoms items tree spelled = ap (λ l. count_by is_split l) spelled.items_are ∙ count_items (place_in atoms) tree
