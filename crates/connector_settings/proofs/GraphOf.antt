-- The graph of settings is what they take.
use Rattle.std.proofs.Common.{◌≡◌, ℕ, ◌+◌, ◌*◌, ◌<◌, ◌≤◌, List, [], ◌∷◌, ◌++◌, length, map, fold, Bool, true, false, ◌&&◌, ◌||◌, nat_le, refl, ap, sym, ◌∙◌, subst, arith}
use Rattle.std.specs.List.{All, Contains, list_all, sum_by}
use Rattle.std.proofs.lemmas.Bool.{and_parts, leb-true}
use Rattle.std.proofs.lemmas.List.{length_push}
use Rattle.std.proofs.lemmas.List.Sums.{sum_by-cons}
use Rattle.std.proofs.lemmas.List.Elements.{All-from_recursion}
use Rattle.key_table.specs.declared.atom.Atom.{Atom}
use Rattle.key_table.specs.declared.atom.Verdict3.{Verdict3}
use Rattle.key_table.specs.declared.atom.Verdict3.TheVariants.{Entailed, Refuted, Undecided}
use Rattle.key_table.specs.Tables.{Table}
use Rattle.key_table.specs.Atoms.{atom_fits}
use Rattle.key_table.specs.Options.{holds_on}
use Rattle.constraint_graph.specs.declared.node.Node.{Node}
use Rattle.constraint_graph.specs.Logics.{Logic, two_valued, three_valued, greater}
use Rattle.constraint_graph.specs.Graphs.{atoms_of}
use Rattle.constraint_graph.specs.Values.{value}
use Rattle.connector_settings.specs.declared.keys.Keys.{Keys}
use Rattle.connector_settings.specs.declared.settings.Method.{Method}
use Rattle.connector_settings.specs.declared.settings.Connector.{Connector}
use Rattle.connector_settings.specs.declared.settings.Settings.{Settings}
use Rattle.connector_settings.specs.declared.layout.ConnectorGraph.{ConnectorGraph}
use Rattle.connector_settings.specs.Keys.{keys_of}
use Rattle.connector_settings.specs.Takes.{taken, taken_by, atoms_of_settings}
use Rattle.connector_settings.specs.Fit.{settings_fit, entry_count, connector_fits}
use Rattle.connector_settings.specs.Layout.{Plan, planned, any_node, connector_step, connectors_plan}
use Rattle.connector_settings.specs.Weights.{methods_weight, method_weight, connector_weight, connectors_weight}
use Rattle.connector_settings.specs.GraphOf.{IsGraphOf, IsMadeWith}
use Rattle.connector_settings.proofs.AtomsFit.{settings_atoms}
use Rattle.connector_settings.proofs.Plans.{IsSum, within_of, connectors_rooted, goal_means, each_means, atoms_mean}

or_false : (a : Bool) → (a || false) ≡ a
or_false true = refl
or_false false = refl

or_assoc : (a b c : Bool) → ((a || b) || c) ≡ (a || (b || c))
or_assoc true b c = refl
or_assoc false b c = refl

two_sum : IsSum two_valued
two_sum = record { no_either = λ v. refl; either_no = or_false; either_assoc = or_assoc }

greater_refuted : (v : Verdict3) → greater v Refuted ≡ v
greater_refuted Entailed = refl
greater_refuted Refuted = refl
greater_refuted Undecided = refl

greater_assoc : (u v w : Verdict3) → greater (greater u v) w ≡ greater u (greater v w)
greater_assoc Entailed v w = refl
greater_assoc Refuted v w = refl
greater_assoc Undecided Entailed w = refl
greater_assoc Undecided Refuted w = refl
greater_assoc Undecided Undecided Entailed = refl
greater_assoc Undecided Undecided Refuted = refl
greater_assoc Undecided Undecided Undecided = refl

three_sum : IsSum three_valued
three_sum = record { no_either = λ v. refl; either_no = greater_refuted; either_assoc = greater_assoc }

-- ---- settings that fit leave room

methods_weight-is : (ms : List Method) → methods_weight ms ≡ 90 * sum_by (λ (m : Method). length m.types) ms
methods_weight-is [] = omega arith
methods_weight-is (m ∷ ms) = omega (arith, sum_by-cons method_weight m ms, sum_by-cons (λ (x : Method). length x.types) m ms, methods_weight-is ms)

connectors_weight-is : (cs : List Connector) → connectors_weight cs ≡ 90 * sum_by entry_count cs + 9 * length cs
connectors_weight-is [] = omega arith
connectors_weight-is (c ∷ cs) = omega (arith, sum_by-cons connector_weight c cs, sum_by-cons entry_count c cs, methods_weight-is c.methods, connectors_weight-is cs)

pub fits_room : (table : Table) (settings : Settings) → settings_fit table settings ≡ true → connectors_weight settings.connectors ≤ 370944
fits_room table settings fits =
    let all = list_all (connector_fits table (keys_of table)) settings.connectors in
    let few = and_parts (nat_le (length settings.connectors) 256) (nat_le (sum_by entry_count settings.connectors) 4096 && all) fits in
    let entries = and_parts (nat_le (sum_by entry_count settings.connectors) 4096) all few.1 in
    omega (arith, connectors_weight-is settings.connectors, leb-true (length settings.connectors) 256 few.0, leb-true (sum_by entry_count settings.connectors) 4096 entries.0)

-- the layout of the connectors, from what the calls gave
pub same_plan : (now : Plan) (k k' : Keys) (ns : List Node) (cs cs' : List Connector) → now ≡ fold (connector_step k) (planned ns []) cs → k ≡ k' → ns ≡ [] → cs ≡ cs' → now ≡ fold (connector_step k') (planned [] []) cs'
same_plan now k k' ns cs cs' is keys start list =
    is
    ∙ ap (λ x. fold (connector_step x) (planned ns []) cs) keys
    ∙ ap (λ x. fold (connector_step k') (planned x []) cs) start
    ∙ ap (λ x. fold (connector_step k') (planned [] []) x) list

-- ---- the clause of the graph

module _ (table : Table) (settings : Settings) (g : ConnectorGraph) (nodes : List Node) (roots : List ℕ) (plan_is : planned nodes roots ≡ connectors_plan (keys_of table) settings) (graph_is : g.graph ≡ nodes ++ any_node roots ∷ []) (goal_is : g.goal ≡ length nodes) (each_is : g.per_connector ≡ roots) where
  goal_value : {V : Type 0} (L : Logic V) (says : Atom → V) → IsSum L → value L says g.graph g.goal ≡ taken L says (keys_of table) settings
  goal_value L says sum =
      ap (λ ns. value L says ns g.goal) graph_is
      ∙ ap (λ n. value L says (nodes ++ any_node roots ∷ []) n) goal_is
      ∙ ap (λ (p : Plan). value L says (p.nodes ++ any_node p.roots ∷ []) (length p.nodes)) plan_is
      ∙ goal_means L says sum (keys_of table) settings

  each_value : {V : Type 0} (L : Logic V) (says : Atom → V) → IsSum L → map (value L says g.graph) g.per_connector ≡ map (taken_by L says (keys_of table)) settings.connectors
  each_value L says sum =
      ap (λ ns. map (value L says ns) g.per_connector) graph_is
      ∙ ap (λ rs. map (value L says (nodes ++ any_node roots ∷ [])) rs) each_is
      ∙ ap (λ (p : Plan). map (value L says (p.nodes ++ any_node p.roots ∷ [])) p.roots) plan_is
      ∙ each_means L says sum (keys_of table) settings

  same_atoms : atoms_of g.graph ≡ atoms_of_settings table settings
  same_atoms =
      ap (λ ns. atoms_of ns) graph_is
      ∙ ap (λ (p : Plan). atoms_of (p.nodes ++ any_node p.roots ∷ [])) plan_is
      ∙ atoms_mean (keys_of table) settings

  longer : length g.graph ≡ length nodes + 1
  longer = ap (λ ns. length ns) graph_is ∙ length_push nodes (any_node roots)

  nodes_within : All (λ n. n < length g.graph) g.per_connector
  nodes_within =
      let P : List ℕ → Type 0 = λ rs. All (λ n. n < length g.graph) rs in
      let lower = within_of nodes roots (connectors_plan (keys_of table) settings) plan_is (connectors_rooted (keys_of table) settings.connectors) in
      subst P (sym each_is) (λ k d within. omega (arith, lower k d within, longer))

  pub is_graph_of : IsGraphOf table settings g
  is_graph_of = record {
    goal_holds = λ payment. goal_value two_valued (λ atom. holds_on atom payment) two_sum;
    each_holds = λ payment. each_value two_valued (λ atom. holds_on atom payment) two_sum;
    goal_verdict = λ says. goal_value three_valued says three_sum;
    each_verdict = λ says. each_value three_valued says three_sum;
    atoms = λ atom. (let P : List Atom → Type 0 = λ atoms. Contains atoms atom in (λ (h : Contains (atoms_of g.graph) atom). subst P same_atoms h, λ (h : Contains (atoms_of_settings table settings) atom). subst P (sym same_atoms) h));
  }

  pub is_made_with : settings_fit table settings ≡ true → IsMadeWith table g
  is_made_with fits = record {
    atoms_fit = (let P : List Atom → Type 0 = λ atoms. All (λ atom. atom_fits table atom ≡ true) atoms in subst P (sym same_atoms) (All-from_recursion (λ atom. atom_fits table atom ≡ true) (atoms_of_settings table settings) (settings_atoms table settings fits)));
    goal_within = omega (arith, goal_is, longer);
    each_within = nodes_within;
  }
