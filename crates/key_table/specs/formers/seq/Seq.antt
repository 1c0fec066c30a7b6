-- How a list holds its items, so that a type may hold a list of itself.
use mathlib.Core.Path.{◌≡◌, refl, sym}
use mathlib.Core.List.{List, []}
use mathlib.Core.Former.{Former, this, list, via, children}
use base.Stored.{code_map}
use denote.RattleType.{RattleType}
use denote.HoleLaws.{Alike}
use denote.HolePlaces.{Recodes, struct_places, laid}
use denote.Hole.Carrier.{listed, list-listed}
use denote.Hole.Fix.{over}
use denote.Param.Weighed.{Weighed, w_list}
use denote.Model.Placed.{view_places}
use Rattle.std.specs.formers.vec.Vec as vec
use Rattle.std.specs.declared.alloc.Global.{Global}
use Rattle.std.specs.contracts.alloc.Global as global
use Rattle.std.specs.contracts.impls.GlobalAllocator.TheImpl.{ghosts}
use Rattle.key_table.specs.declared.seq.Seq.TheInside.{Inside}
use Rattle.key_table.specs.declared.seq.Seq.TheView.{view, invariant}
use Rattle.key_table.specs.contracts.seq.Seq as closed
use Rattle.key_table.specs.contracts.seq.Seq.TheInside as opened

-- A value is a list of what it holds.
abbrev pub the_former : Former {0} → Former {0}
the_former item = list item

abbrev pub the_weighed : {item : Former {0}} → Weighed item → Weighed (the_former item)
the_weighed weight = w_list weight

pub the_empty : List ⊥
the_empty = []

abbrev pub the_items : (X : Type 0) → List X → List X
the_items X items = items

pub the_items_listed : (X : Type 0) (items : List X) → listed _ (children (the_former this) X items) ≡ the_items X items
the_items_listed X items = list-listed X items

-- the fields: those of the vector inside
abbrev fields : Former {0}
fields = via (vec.the_former this Global) Inside (λ X s. s.items) (λ X v. record { items = v }) (λ X s. refl) (λ X v. refl)

module _ (R S : RattleType) (h : R.Denot → S.Denot) where
  pub the_places : Alike R S h → Alike (closed.the_row R) (closed.the_row S) ((the_former this).map R.Denot S.Denot h)
  the_places alike = view_places fields (list this) view (λ X Y k u. refl) (λ X u. refl) R.Denot S.Denot h (closed.the_row R).coded (closed.the_row S).coded
      (invariant R.Denot) (invariant S.Denot) (λ u p q. refl) (λ u p q. refl) (λ u e. tt) (λ u e. tt)
      (over (opened.the_row R)) (over (opened.the_row S))
      (struct_places (opened.the_type R) (opened.the_type S) (vec.mapped h, tt) _ (λ d. refl) refl (laid _ _ _ (vec.the_places global.the_row ghosts R S h alike), tt))

  pub the_codes_placed : Recodes R S h → Recodes (closed.the_row R) (closed.the_row S) ((the_former this).map R.Denot S.Denot h)
  the_codes_placed recodes items = sym (code_map R.coded.code S.coded.code h (λ x. sym (recodes x)) items)
