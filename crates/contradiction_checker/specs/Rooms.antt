-- Room for what a walk notes.
use Rattle.std.specs.Prelude.{ℕ, ◌≤◌, vec_capacity}
use Rattle.contradiction_checker.specs.declared.notes.Notes.{Notes}

-- There is room for the assumptions on a slot where there are so many items, and for so many nodes.
pub record HasRoomFor (items nodes : ℕ) (notes : Notes) : Type 0 where
  pub mine : items ≤ vec_capacity notes.mine
  pub verdicts : nodes ≤ vec_capacity notes.verdicts
  pub of_nodes : nodes ≤ vec_capacity notes.of_nodes

-- No room is lost.
pub record Extends (old new : Notes) : Type 0 where
  pub mine : vec_capacity old.mine ≤ vec_capacity new.mine
  pub verdicts : vec_capacity old.verdicts ≤ vec_capacity new.verdicts
  pub of_nodes : vec_capacity old.of_nodes ≤ vec_capacity new.of_nodes
