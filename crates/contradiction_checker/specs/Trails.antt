-- Trails: what is said of them beside their assumptions.
use Rattle.std.specs.Prelude.{◌≡◌, ℕ, ◌<◌, ◌≤◌, List, true, vec_capacity}
use Rattle.key_table.specs.declared.atom.Atom.{Atom}
use Rattle.key_table.specs.declared.slot.Slot.{Slot}
use Rattle.contradiction_checker.specs.declared.trail.Trail.{Trail}
use Rattle.contradiction_checker.specs.Assumed.{assumed_on}
use Rattle.contradiction_checker.specs.Chains.{AreLinked, chain_of, numbers_of}
use Rattle.contradiction_checker.specs.Findings.{has_stayed}

-- The assumptions of a trail are linked.
abbrev pub IsLinked : List Atom → Trail → Type 0
IsLinked atoms trail = AreLinked atoms trail.last_chain (numbers_of trail.assumed.items) trail.before.items trail.heads.items

-- A trail has room for the assumptions of a certificate with so many atoms and items.
pub record HasRoom (atoms items : ℕ) (trail : Trail) : Type 0 where
  pub assumed : items ≤ vec_capacity trail.assumed
  pub before : items ≤ vec_capacity trail.before
  pub heads : atoms < vec_capacity trail.heads
  pub changed : atoms < vec_capacity trail.changed

-- No room is lost.
pub record Widens (old new : Trail) : Type 0 where
  pub assumed : vec_capacity old.assumed ≤ vec_capacity new.assumed
  pub before : vec_capacity old.before ≤ vec_capacity new.before
  pub heads : vec_capacity old.heads ≤ vec_capacity new.heads
  pub changed : vec_capacity old.changed ≤ vec_capacity new.changed

-- Time went on. What stayed since a time of before had stayed before, and the assumptions on the slots of a chain that stayed are the same.
pub record Passes (atoms : List Atom) (old new : Trail) : Type 0 where
  pub later : old.time ≤ new.time
  pub chains : new.last_chain ≡ old.last_chain
  pub stayed : (chain time : ℕ) → time ≤ old.time → has_stayed new.changed.items chain time ≡ true → has_stayed old.changed.items chain time ≡ true
  pub same : (slot : Slot) (time : ℕ) → time ≤ old.time → has_stayed new.changed.items (chain_of old.last_chain slot) time ≡ true → assumed_on atoms slot new.assumed.items ≡ assumed_on atoms slot old.assumed.items
