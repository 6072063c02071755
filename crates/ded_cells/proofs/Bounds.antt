-- The bounds of a tuple, from its box.
use Rattle.std.proofs.Common.{◌≡◌, ◌+◌, ℕ, Bool, false, cond, List, [], ◌∷◌, ◌||◌, arith, refl, sym, subst}
use Rattle.ded_model.specs.declared.bound.Bound.{Bound}
use Rattle.ded_model.specs.declared.bound.BoxReply.{BoxReply}
use Rattle.ded_model.specs.declared.bound.BoxReply.TheVariants.{Nowhere, NoRational, Spans}
use Rattle.ded_model.specs.declared.name.Column.{Column}
use Rattle.ded_model.specs.declared.slot.Sort.{Sort}
use Rattle.ded_model.specs.declared.slot.Sort.TheVariants.{Rat, Text}
use Rattle.ded_model.specs.Point.{Point, same_sort}
use Rattle.ded_model.specs.Row.{Atom, tuple_holds}
use Rattle.ded_model.specs.Width.{rational_columns}
use Rattle.ded_box.specs.Extents.{AreBounds, BoundsAt, IsBox}
use Rattle.ded_cells.specs.declared.extent.Extent.TheVariants as extent
use Rattle.ded_cells.specs.Extents.{IsExtent}

-- a heading without rational columns has no bounds
no_bounds : (test : Point → Bool) (i : ℕ) (h : List Column) → rational_columns h ≡ 0 → AreBounds test i h []
no_bounds test i [] none = tt
no_bounds test i (c ∷ cs) none = by c.sort (no_bounds test (i + 1) cs) none
  where
    by : (s : Sort) → (rational_columns cs ≡ 0 → AreBounds test (i + 1) cs []) → cond (same_sort s Rat) 1 0 + rational_columns cs ≡ 0 → BoundsAt test i s [] (AreBounds test (i + 1) cs)
    by Text others e = others (omega (arith, e))
    by Rat others e = absurd (omega (arith, e))

module _ (h : List Column) (t : List Atom) where
  -- the box of the tuple alone
  alone : (r s : BoxReply) → r ≡ s → ((test : Point → Bool) → IsBox test h Nowhere → IsBox (λ p. test p || tuple_holds t p) h r) → IsBox (tuple_holds t) h s
  alone r s e is = subst (IsBox (tuple_holds t) h) e (is (λ p. false) (λ p i. refl))

  pub nowhere_told : (r : BoxReply) → r ≡ Nowhere → ((test : Point → Bool) → IsBox test h Nowhere → IsBox (λ p. test p || tuple_holds t p) h r) → IsExtent h t extent.Nowhere
  nowhere_told r e is = alone r Nowhere e is

  pub none_told : (r : BoxReply) (bs : List (Bound × Bound)) → r ≡ NoRational → bs ≡ [] → ((test : Point → Bool) → IsBox test h Nowhere → IsBox (λ p. test p || tuple_holds t p) h r) → IsExtent h t (extent.Within bs)
  none_told r bs e none is =
      let box : IsBox (tuple_holds t) h NoRational = alone r NoRational e is in
      subst (λ (cs : List (Bound × Bound)). IsExtent h t (extent.Within cs)) (sym none) (box.0, no_bounds (tuple_holds t) 0 h box.1)

  pub spans_told : (r : BoxReply) (bs : List (Bound × Bound)) → r ≡ Spans bs → ((test : Point → Bool) → IsBox test h Nowhere → IsBox (λ p. test p || tuple_holds t p) h r) → IsExtent h t (extent.Within bs)
  spans_told r bs e is = let box : IsBox (tuple_holds t) h (Spans bs) = alone r (Spans bs) e is in (box.0, box.2)
