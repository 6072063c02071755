-- An atom that is put at its place.
--
-- The tuple stays normal: what stands before the atom's place is before it, and what stands behind is behind it.
use Rattle.std.proofs.Common.{◌≡◌, ℕ, ◌≤◌, Bool, true, false, not, List, [], ◌∷◌, length, add-one, arith, refl, sym, ap, ◌∙◌, subst, true≢false}
use Rattle.std.specs.declared.cmp.Ordering.{Ordering}
use Rattle.std.specs.declared.cmp.Ordering.TheVariants.{Less, Equal, Greater}
use Rattle.std.specs.Prelude.{insert}
use Rattle.ded_model.specs.Row.{Atom}
use Rattle.ded_model.specs.Normal.{atom_order, IsNormalAtom, BeginsAfter, IsNormalTuple, place_atom}
use Rattle.ded_tuple.specs.Places.{atom_place, is_placed}
use Rattle.ded_tuple.proofs.AtomOrders.{atom_order-turned}
use Rattle.std.proofs.lemmas.Bool.{not-true, not-false}

-- ---- what the code does

-- an atom that stands there already changes nothing
pub placed-is : (a : Atom) (xs : List Atom) → is_placed a xs ≡ true → place_atom a xs ≡ xs
placed-is a [] e = absurd (true≢false (sym e))
placed-is a (b ∷ bs) e = go (atom_order a b) refl (placed-is a bs)
  where
    go : (o : Ordering) → atom_order a b ≡ o → (is_placed a bs ≡ true → place_atom a bs ≡ bs) → place_atom a (b ∷ bs) ≡ b ∷ bs
    go Less f ih = absurd (true≢false (sym (sym e' ∙ e)))
      where
        e' : is_placed a (b ∷ bs) ≡ false
        e' = rw f refl
    go Equal f ih = rw f refl
    go Greater f ih = rw f (ap (λ l. b ∷ l) (ih (sym e' ∙ e)))
      where
        e' : is_placed a (b ∷ bs) ≡ is_placed a bs
        e' = rw f refl

-- another one is inserted
pub unplaced-is : (a : Atom) (xs : List Atom) → is_placed a xs ≡ false → place_atom a xs ≡ insert xs (atom_place a xs) a
unplaced-is a [] e = refl
unplaced-is a (b ∷ bs) e = go (atom_order a b) refl (unplaced-is a bs)
  where
    go : (o : Ordering) → atom_order a b ≡ o → (is_placed a bs ≡ false → place_atom a bs ≡ insert bs (atom_place a bs) a) → place_atom a (b ∷ bs) ≡ insert (b ∷ bs) (atom_place a (b ∷ bs)) a
    go Less f ih = rw f refl
    go Equal f ih = absurd (true≢false (sym e' ∙ e))
      where
        e' : is_placed a (b ∷ bs) ≡ true
        e' = rw f refl
    go Greater f ih = rw (f, add-one) (ap (λ l. b ∷ l) (ih (sym e' ∙ e)))
      where
        e' : is_placed a (b ∷ bs) ≡ is_placed a bs
        e' = rw f refl

-- the place lies within the list, or at its end
pub place-within : (a : Atom) (xs : List Atom) → atom_place a xs ≤ length xs
place-within a [] = omega arith
place-within a (b ∷ bs) = go (atom_order a b) refl (place-within a bs)
  where
    go : (o : Ordering) → atom_order a b ≡ o → atom_place a bs ≤ length bs → atom_place a (b ∷ bs) ≤ length (b ∷ bs)
    go Less f ih = rw f (omega arith)
    go Equal f ih = rw f (omega arith)
    go Greater f ih = rw f (omega (arith, ih))

-- ---- normal tuples

-- behind an atom that is before both
begins_after : (b a : Atom) (bs : List Atom) → atom_order b a ≡ Less → BeginsAfter b bs → BeginsAfter b (place_atom a bs)
begins_after b a [] e h = e
begins_after b a (c ∷ cs) e h = go (atom_order a c) refl
  where
    go : (o : Ordering) → atom_order a c ≡ o → BeginsAfter b (place_atom a (c ∷ cs))
    go Less f = rw f e
    go Equal f = rw f h
    go Greater f = rw f h

-- the tuple stays normal
pub place-normal : (a : Atom) (xs : List Atom) → IsNormalAtom a → IsNormalTuple xs → IsNormalTuple (place_atom a xs)
place-normal a [] h k = (h, tt, tt)
place-normal a (b ∷ bs) h k = go (atom_order a b) refl (place-normal a bs h k.2)
  where
    go : (o : Ordering) → atom_order a b ≡ o → IsNormalTuple (place_atom a bs) → IsNormalTuple (place_atom a (b ∷ bs))
    go Less f ih = rw f (h, f, k)
    go Equal f ih = rw f k
    go Greater f ih = rw f (k.0, begins_after b a bs (atom_order-turned a b f) k.1, ih)

-- ---- as the code has it

pub put-inserted : (a : Atom) (xs ys out : List Atom) (at : ℕ) (taken : Bool) → xs ≡ ys → at ≡ atom_place a xs → taken ≡ is_placed a xs → not taken ≡ true → out ≡ insert ys at a → out ≡ place_atom a ys
put-inserted a xs ys out at taken is e f g o =
    o ∙ ap (λ n. insert ys n a) (e ∙ ap (atom_place a) is) ∙ sym (unplaced-is a ys (ap (is_placed a) (sym is) ∙ sym f ∙ not-true taken g))

pub put-there : (a : Atom) (xs ys : List Atom) (taken : Bool) → xs ≡ ys → taken ≡ is_placed a xs → not taken ≡ false → ys ≡ place_atom a ys
put-there a xs ys taken is f g = sym (placed-is a ys (ap (is_placed a) (sym is) ∙ sym f ∙ not-false taken g))

pub put-normal : (a : Atom) (ys out : List Atom) → out ≡ place_atom a ys → IsNormalAtom a → IsNormalTuple ys → IsNormalTuple out
put-normal a ys out e h k = subst IsNormalTuple (sym e) (place-normal a ys h k)
