-- What the nodes of a layout are worth, in every logic.
use Rattle.std.proofs.Common.{◌≡◌, ℕ, ◌+◌, ◌<◌, ◌≤◌, List, [], ◌∷◌, ◌++◌, length, map, fold, Bool, true, false, cond, refl, ap, sym, ◌∙◌, subst, arith}
use Rattle.std.specs.List.{All, AllByRecursion, flat_map}
use Rattle.std.proofs.lemmas.List.{length-append, length_push, length-map, append_assoc, append-nil, map_push}
use Rattle.std.proofs.lemmas.List.Elements.{filter_map-append, All-from_recursion}
use Rattle.key_table.specs.declared.atom.Atom.{Atom}
use Rattle.constraint_graph.specs.declared.node.Node.{Node}
use Rattle.constraint_graph.specs.Logics.{Logic, every, some}
use Rattle.constraint_graph.specs.Graphs.{atoms_of}
use Rattle.constraint_graph.specs.Graphs as graphs
use Rattle.constraint_graph.specs.Values.{related, carried, values, value}
use Rattle.constraint_graph.specs.Growth.{value_last, value_kept}
use Rattle.connector_settings.specs.declared.keys.Keys.{Keys}
use Rattle.connector_settings.specs.declared.demand.Demand.{Demand}
use Rattle.connector_settings.specs.declared.settings.TypeEntry.{TypeEntry}
use Rattle.connector_settings.specs.declared.settings.Method.{Method}
use Rattle.connector_settings.specs.declared.settings.Connector.{Connector}
use Rattle.connector_settings.specs.declared.settings.Settings.{Settings}
use Rattle.connector_settings.specs.Demands.{demand_atom, demands_of}
use Rattle.connector_settings.specs.Takes.{demanded, accepted, taken_by, taken, entry_atoms, connector_atoms}
use Rattle.connector_settings.specs.Layout.{Plan, planned, relation_of, positive, edges_from, test_node, all_node, any_node, with_demands, entry_step, method_step, with_entries, connector_step, connectors_plan}
use Rattle.connector_settings.proofs.Weights.{length-with_demands}

-- ---- steps that keep a fact and add to a list

pub fold_keeps : {P X : Type 0} (I : P → Type 0) (f : P → X → P) → ((p : P) (x : X) → I p → I (f p x)) → (p : P) (xs : List X) → I p → I (fold f p xs)
fold_keeps I f one p [] h = h
fold_keeps I f one p (x ∷ xs) h = fold_keeps I f one (f p x) xs (one p x h)

pub fold_adds : {P X Y : Type 0} (I : P → Type 0) (f : P → X → P) (m : P → List Y) (g : X → List Y) → ((p : P) (x : X) → I p → I (f p x)) → ((p : P) (x : X) → I p → m (f p x) ≡ m p ++ g x) → (p : P) (xs : List X) → I p → m (fold f p xs) ≡ m p ++ flat_map g xs
fold_adds I f m g keeps one p [] h = sym (append-nil (m p))
fold_adds I f m g keeps one p (x ∷ xs) h =
    fold_adds I f m g keeps one (f p x) xs (keeps p x h)
    ∙ ap (λ ys. ys ++ flat_map g xs) (one p x h)
    ∙ append_assoc (m p) (g x) (flat_map g xs)

-- ---- the roots are nodes

abbrev pub Within : ℕ → List ℕ → Type 0
Within bound roots = AllByRecursion (λ r. r < bound) roots

within_more : (a b : ℕ) (roots : List ℕ) → a ≤ b → Within a roots → Within b roots
within_more a b [] le h = tt
within_more a b (r ∷ roots) le h = (omega (arith, h.0), within_more a b roots le h.1)

within_push : (b : ℕ) (roots : List ℕ) (r : ℕ) → Within b roots → r < b → Within b (roots ++ r ∷ [])
within_push b [] r h less = (less, tt)
within_push b (x ∷ roots) r h less = (h.0, within_push b roots r h.1 less)

-- a plan whose roots are nodes
abbrev pub HasRoots : Plan → Type 0
HasRoots plan = Within (length plan.nodes) plan.roots

entry_rooted : (keys : Keys) (method : ℕ) (p : Plan) (e : TypeEntry) → HasRoots p → HasRoots (entry_step keys method p e)
entry_rooted keys method p e h =
    let ds = demands_of keys method e in
    let long = length-with_demands p.nodes ds in
    within_push (length (with_demands p.nodes ds)) p.roots (length p.nodes + length ds) (within_more (length p.nodes) (length (with_demands p.nodes ds)) p.roots (omega arith) h) (omega arith)

method_rooted : (keys : Keys) (p : Plan) (m : Method) → HasRoots p → HasRoots (method_step keys p m)
method_rooted keys p m = fold_keeps HasRoots (entry_step keys m.method) (entry_rooted keys m.method) p m.types

-- ---- a plan goes on from some nodes

abbrev Extends : List Node → Plan → Type 0
Extends nodes plan = (more : List Node) × (plan.nodes ≡ nodes ++ more)

entry_extends : (nodes : List Node) (keys : Keys) (method : ℕ) (p : Plan) (e : TypeEntry) → Extends nodes p → Extends nodes (entry_step keys method p e)
entry_extends nodes keys method p e h =
    let ds = demands_of keys method e in
    let last = all_node (edges_from (length p.nodes) ds) ∷ [] in (
      h.0 ++ (map test_node ds ++ last),
      append_assoc p.nodes (map test_node ds) last
          ∙ ap (λ ns. ns ++ (map test_node ds ++ last)) h.1
          ∙ append_assoc nodes h.0 (map test_node ds ++ last),
    )

method_extends : (nodes : List Node) (keys : Keys) (p : Plan) (m : Method) → Extends nodes p → Extends nodes (method_step keys p m)
method_extends nodes keys p m = fold_keeps (Extends nodes) (entry_step keys m.method) (entry_extends nodes keys m.method) p m.types

with_entries_extends : (keys : Keys) (nodes : List Node) (c : Connector) → Extends nodes (with_entries keys nodes c)
with_entries_extends keys nodes c =
    let start : Extends nodes (planned nodes []) = ([], sym (append-nil nodes)) in
    elim c.disabled as (λ (b : Bool). Extends nodes (cond b (planned nodes []) (fold (method_step keys) (planned nodes []) c.methods))) [
      | true ↦ start
      | false ↦ fold_keeps (Extends nodes) (method_step keys) (method_extends nodes keys) (planned nodes []) c.methods start
    ]

pub with_entries_rooted : (keys : Keys) (nodes : List Node) (c : Connector) → HasRoots (with_entries keys nodes c)
with_entries_rooted keys nodes c =
    elim c.disabled as (λ (b : Bool). HasRoots (cond b (planned nodes []) (fold (method_step keys) (planned nodes []) c.methods))) [
      | true ↦ tt
      | false ↦ fold_keeps HasRoots (method_step keys) (method_rooted keys) (planned nodes []) c.methods tt
    ]

pub connector_rooted : (keys : Keys) (p : Plan) (c : Connector) → HasRoots p → HasRoots (connector_step keys p c)
connector_rooted keys p c h =
    let i = with_entries keys p.nodes c in
    let extends = with_entries_extends keys p.nodes c in
    let long = ap (λ (ns : List Node). length ns) extends.1 ∙ length-append p.nodes extends.0 in
    let last = length_push i.nodes (any_node i.roots) in
    within_push (length (i.nodes ++ any_node i.roots ∷ [])) p.roots (length i.nodes) (within_more (length p.nodes) (length (i.nodes ++ any_node i.roots ∷ [])) p.roots (omega arith) h) (omega arith)

pub connectors_rooted : (keys : Keys) (cs : List Connector) → HasRoots (fold (connector_step keys) (planned [] []) cs)
connectors_rooted keys cs = fold_keeps HasRoots (connector_step keys) (connector_rooted keys) (planned [] []) cs tt

-- ---- values

-- what joining some needs, so that some of some is some
pub record IsSum {V : Type 0} (L : Logic V) : Type 0 where
  pub no_either : (v : V) → L.either L.no v ≡ v
  pub either_no : (v : V) → L.either v L.no ≡ v
  pub either_assoc : (u v w : V) → L.either (L.either u v) w ≡ L.either u (L.either v w)

module _ {V : Type 0} (L : Logic V) (says : Atom → V) where
  abbrev worth : List Node → ℕ → V
  worth nodes = value L says nodes

  -- the values of a plan's roots
  abbrev pub root_values : Plan → List V
  root_values plan = map (worth plan.nodes) plan.roots

  -- later nodes leave them as they are
  roots_kept : (nodes more : List Node) (roots : List ℕ) → Within (length nodes) roots → map (worth (nodes ++ more)) roots ≡ map (worth nodes) roots
  roots_kept nodes more [] h = refl
  roots_kept nodes more (r ∷ roots) h =
      ap (λ v. v ∷ map (worth (nodes ++ more)) roots) (value_kept L says more nodes r h.0)
      ∙ ap (λ vs. worth nodes r ∷ vs) (roots_kept nodes more roots h.1)

  related_of : (b : Bool) (v : V) → related L (relation_of b) v ≡ cond b v (L.opposite v)
  related_of true v = refl
  related_of false v = refl

  -- the edges from the tests carry what is demanded
  demands_carried : (ds : List Demand) (nodes : List Node) → every L (carried L (values L says (nodes ++ map test_node ds))) (edges_from (length nodes) ds) ≡ every L (demanded L says) ds
  demands_carried [] nodes = refl
  demands_carried (d ∷ ds) nodes =
      let next = nodes ++ test_node d ∷ [] in
      let joined : next ++ map test_node ds ≡ nodes ++ map test_node (d ∷ ds) = append_assoc nodes (test_node d ∷ []) (map test_node ds) in
      let here : worth (nodes ++ map test_node (d ∷ ds)) (length nodes) ≡ says (demand_atom d) =
      ap (λ ns. worth ns (length nodes)) (sym joined)
      ∙ value_kept L says (map test_node ds) next (length nodes) (omega (arith, length_push nodes (test_node d)))
      ∙ value_last L says nodes (test_node d) in
      let later : every L (carried L (values L says (nodes ++ map test_node (d ∷ ds)))) (edges_from (length nodes + 1) ds) ≡ every L (demanded L says) ds =
      ap (λ ns. every L (carried L (values L says ns)) (edges_from (length nodes + 1) ds)) (sym joined)
      ∙ ap (λ n. every L (carried L (values L says (next ++ map test_node ds))) (edges_from n ds)) (sym (length_push nodes (test_node d)))
      ∙ demands_carried ds next in
      ap (λ v. L.both v (every L (carried L (values L says (nodes ++ map test_node (d ∷ ds)))) (edges_from (length nodes + 1) ds))) (related_of d.truth (worth (nodes ++ map test_node (d ∷ ds)) (length nodes)) ∙ ap (λ v. cond d.truth v (L.opposite v)) here)
      ∙ ap (λ v. L.both (demanded L says d) v) later

  -- an entry's root has its value
  entry_adds : (keys : Keys) (method : ℕ) (p : Plan) (e : TypeEntry) → HasRoots p → root_values (entry_step keys method p e) ≡ root_values p ++ accepted L says keys method e ∷ []
  entry_adds keys method p e h =
      let ds = demands_of keys method e in
      let tests = p.nodes ++ map test_node ds in
      let last = all_node (edges_from (length p.nodes) ds) in
      let root = length p.nodes + length ds in
      let long : length tests ≡ root = length-append p.nodes (map test_node ds) ∙ ap (λ n. length p.nodes + n) (length-map ds test_node) in
      let new : worth (tests ++ last ∷ []) root ≡ accepted L says keys method e =
      ap (λ n. worth (tests ++ last ∷ []) n) (sym long) ∙ value_last L says tests last ∙ demands_carried ds p.nodes in
      let old : map (worth (tests ++ last ∷ [])) p.roots ≡ root_values p =
      ap (λ ns. map (worth ns) p.roots) (append_assoc p.nodes (map test_node ds) (last ∷ [])) ∙ roots_kept p.nodes (map test_node ds ++ last ∷ []) p.roots h in
      map_push (worth (tests ++ last ∷ [])) p.roots root
      ∙ ap (λ vs. vs ++ worth (tests ++ last ∷ []) root ∷ []) old
      ∙ ap (λ v. root_values p ++ v ∷ []) new

  abbrev method_values : Keys → Method → List V
  method_values keys m = flat_map (λ (e : TypeEntry). accepted L says keys m.method e ∷ []) m.types

  method_adds : (keys : Keys) (p : Plan) (m : Method) → HasRoots p → root_values (method_step keys p m) ≡ root_values p ++ method_values keys m
  method_adds keys p m = fold_adds HasRoots (entry_step keys m.method) root_values (λ (e : TypeEntry). accepted L says keys m.method e ∷ []) (entry_rooted keys m.method) (entry_adds keys m.method) p m.types

  methods_add : (keys : Keys) (nodes : List Node) (ms : List Method) → root_values (fold (method_step keys) (planned nodes []) ms) ≡ flat_map (method_values keys) ms
  methods_add keys nodes ms = fold_adds HasRoots (method_step keys) root_values (method_values keys) (method_rooted keys) (method_adds keys) (planned nodes []) ms tt

  -- an any node over roots
  some_positive : (nodes : List Node) (roots : List ℕ) → some L (carried L (values L says nodes)) (map positive roots) ≡ some L (λ v. v) (map (worth nodes) roots)
  some_positive nodes [] = refl
  some_positive nodes (r ∷ roots) = ap (λ v. L.either (worth nodes r) v) (some_positive nodes roots)

  module _ (sum : IsSum L) where
    some-append : (us vs : List V) → some L (λ v. v) (us ++ vs) ≡ L.either (some L (λ v. v) us) (some L (λ v. v) vs)
    some-append [] vs = sym (sum.no_either (some L (λ v. v) vs))
    some-append (u ∷ us) vs = ap (λ v. L.either u v) (some-append us vs) ∙ sym (sum.either_assoc u (some L (λ v. v) us) (some L (λ v. v) vs))

    some-flat_map : {X : Type 0} (g : X → List V) (f : X → V) → ((x : X) → some L (λ v. v) (g x) ≡ f x) → (xs : List X) → some L (λ v. v) (flat_map g xs) ≡ some L f xs
    some-flat_map g f each [] = refl
    some-flat_map g f each (x ∷ xs) =
        some-append (g x) (flat_map g xs)
        ∙ ap (λ v. L.either v (some L (λ v. v) (flat_map g xs))) (each x)
        ∙ ap (λ v. L.either (f x) v) (some-flat_map g f each xs)

    methods_some : (keys : Keys) (ms : List Method) → some L (λ v. v) (flat_map (method_values keys) ms) ≡ some L (λ (m : Method). some L (accepted L says keys m.method) m.types) ms
    methods_some keys = some-flat_map (method_values keys) (λ (m : Method). some L (accepted L says keys m.method) m.types) (λ m. some-flat_map (λ (e : TypeEntry). accepted L says keys m.method e ∷ []) (accepted L says keys m.method) (λ e. sum.either_no (accepted L says keys m.method e)) m.types)

    with_entries_some : (keys : Keys) (nodes : List Node) (c : Connector) → some L (λ v. v) (root_values (with_entries keys nodes c)) ≡ taken_by L says keys c
    with_entries_some keys nodes c =
        elim c.disabled as (λ (b : Bool). some L (λ v. v) (root_values (cond b (planned nodes []) (fold (method_step keys) (planned nodes []) c.methods))) ≡ cond b L.no (some L (λ (m : Method). some L (accepted L says keys m.method) m.types) c.methods)) [
          | true ↦ refl
          | false ↦ ap (λ vs. some L (λ v. v) vs) (methods_add keys nodes c.methods) ∙ methods_some keys c.methods
        ]

    -- a connector's root has its value
    connector_adds : (keys : Keys) (p : Plan) (c : Connector) → HasRoots p → root_values (connector_step keys p c) ≡ root_values p ++ taken_by L says keys c ∷ []
    connector_adds keys p c h =
        let i = with_entries keys p.nodes c in
        let last = any_node i.roots in
        let extends = with_entries_extends keys p.nodes c in
        let new : worth (i.nodes ++ last ∷ []) (length i.nodes) ≡ taken_by L says keys c =
        value_last L says i.nodes last ∙ some_positive i.nodes i.roots ∙ with_entries_some keys p.nodes c in
        let old : map (worth (i.nodes ++ last ∷ [])) p.roots ≡ root_values p =
        ap (λ ns. map (worth (ns ++ last ∷ [])) p.roots) extends.1
        ∙ ap (λ ns. map (worth ns) p.roots) (append_assoc p.nodes extends.0 (last ∷ []))
        ∙ roots_kept p.nodes (extends.0 ++ last ∷ []) p.roots h in
        map_push (worth (i.nodes ++ last ∷ [])) p.roots (length i.nodes)
        ∙ ap (λ vs. vs ++ worth (i.nodes ++ last ∷ []) (length i.nodes) ∷ []) old
        ∙ ap (λ v. root_values p ++ v ∷ []) new

    singles : {X : Type 0} (f : X → V) (xs : List X) → flat_map (λ x. f x ∷ []) xs ≡ map f xs
    singles f [] = refl
    singles f (x ∷ xs) = ap (λ vs. f x ∷ vs) (singles f xs)

    -- each connector's root has the value of that connector
    connectors_mean : (keys : Keys) (cs : List Connector) → root_values (fold (connector_step keys) (planned [] []) cs) ≡ map (taken_by L says keys) cs
    connectors_mean keys cs =
        fold_adds HasRoots (connector_step keys) root_values (λ (c : Connector). taken_by L says keys c ∷ []) (connector_rooted keys) (connector_adds keys) (planned [] []) cs tt
        ∙ singles (taken_by L says keys) cs

    some-map : {X : Type 0} (f : X → V) (xs : List X) → some L (λ v. v) (map f xs) ≡ some L f xs
    some-map f [] = refl
    some-map f (x ∷ xs) = ap (λ v. L.either (f x) v) (some-map f xs)

    -- with the any node over all of them last: the connectors keep their values
    pub each_means : (keys : Keys) (settings : Settings) → let p = connectors_plan keys settings in map (worth (p.nodes ++ any_node p.roots ∷ [])) p.roots ≡ map (taken_by L says keys) settings.connectors
    each_means keys settings =
        let p = connectors_plan keys settings in
        roots_kept p.nodes (any_node p.roots ∷ []) p.roots (connectors_rooted keys settings.connectors) ∙ connectors_mean keys settings.connectors

    -- and it has that of the settings
    pub goal_means : (keys : Keys) (settings : Settings) → let p = connectors_plan keys settings in worth (p.nodes ++ any_node p.roots ∷ []) (length p.nodes) ≡ taken L says keys settings
    goal_means keys settings =
        let p = connectors_plan keys settings in
        value_last L says p.nodes (any_node p.roots)
        ∙ some_positive p.nodes p.roots
        ∙ ap (λ vs. some L (λ v. v) vs) (connectors_mean keys settings.connectors)
        ∙ some-map (taken_by L says keys) settings.connectors

-- ---- atoms

test_atoms : (ds : List Demand) → atoms_of (map test_node ds) ≡ map demand_atom ds
test_atoms [] = refl
test_atoms (d ∷ ds) = ap (λ atoms. demand_atom d ∷ atoms) (test_atoms ds)

atoms-append : (ns ms : List Node) → atoms_of (ns ++ ms) ≡ atoms_of ns ++ atoms_of ms
atoms-append ns ms = filter_map-append graphs.atom_of ns ms

-- a plan's atoms
abbrev plan_atoms : Plan → List Atom
plan_atoms plan = atoms_of plan.nodes

abbrev Any : Plan → Type 0
Any plan = Unit {0}

entry_atoms_added : (keys : Keys) (method : ℕ) (p : Plan) (e : TypeEntry) → Any p → plan_atoms (entry_step keys method p e) ≡ plan_atoms p ++ entry_atoms keys method e
entry_atoms_added keys method p e _ =
    let ds = demands_of keys method e in
    let last = all_node (edges_from (length p.nodes) ds) ∷ [] in
    atoms-append (p.nodes ++ map test_node ds) last
    ∙ append-nil (atoms_of (p.nodes ++ map test_node ds))
    ∙ atoms-append p.nodes (map test_node ds)
    ∙ ap (λ atoms. atoms_of p.nodes ++ atoms) (test_atoms ds)

abbrev method_atoms : Keys → Method → List Atom
method_atoms keys m = flat_map (entry_atoms keys m.method) m.types

method_atoms_added : (keys : Keys) (p : Plan) (m : Method) → Any p → plan_atoms (method_step keys p m) ≡ plan_atoms p ++ method_atoms keys m
method_atoms_added keys p m = fold_adds Any (entry_step keys m.method) plan_atoms (entry_atoms keys m.method) (λ q x h. tt) (entry_atoms_added keys m.method) p m.types

connector_atoms_added : (keys : Keys) (p : Plan) (c : Connector) → Any p → plan_atoms (connector_step keys p c) ≡ plan_atoms p ++ connector_atoms keys c
connector_atoms_added keys p c _ =
    let i = with_entries keys p.nodes c in
    let within : plan_atoms i ≡ plan_atoms p ++ connector_atoms keys c =
    elim c.disabled as (λ (b : Bool). plan_atoms (cond b (planned p.nodes []) (fold (method_step keys) (planned p.nodes []) c.methods)) ≡ plan_atoms p ++ cond b [] (flat_map (method_atoms keys) c.methods)) [
      | true ↦ sym (append-nil (plan_atoms p))
      | false ↦ fold_adds Any (method_step keys) plan_atoms (method_atoms keys) (λ q x h. tt) (method_atoms_added keys) (planned p.nodes []) c.methods tt
    ] in
    atoms-append i.nodes (any_node i.roots ∷ []) ∙ append-nil (atoms_of i.nodes) ∙ within

-- the atoms of the graph are those of the settings, in order
pub atoms_mean : (keys : Keys) (settings : Settings) → let p = connectors_plan keys settings in atoms_of (p.nodes ++ any_node p.roots ∷ []) ≡ flat_map (connector_atoms keys) settings.connectors
atoms_mean keys settings =
    let p = connectors_plan keys settings in
    atoms-append p.nodes (any_node p.roots ∷ [])
    ∙ append-nil (atoms_of p.nodes)
    ∙ fold_adds Any (connector_step keys) plan_atoms (connector_atoms keys) (λ q x h. tt) (connector_atoms_added keys) (planned [] []) settings.connectors tt

-- the roots of a sound plan are nodes
pub within_of : (nodes : List Node) (roots : List ℕ) (q : Plan) → planned nodes roots ≡ q → HasRoots q → All (λ n. n < length nodes) roots
within_of nodes roots q is h =
    let S : Plan → Type 0 = λ p. HasRoots p in
    All-from_recursion (λ n. n < length nodes) roots (subst S (sym is) h)
