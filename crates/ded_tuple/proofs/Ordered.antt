-- The atoms of a list in order, without true rows: they hold where those of the list do, have only their slots and lines, and are
-- a normal tuple.
use Rattle.std.proofs.Common.{◌≡◌, Bool, true, false, cond, ◌&&◌, List, [], ◌∷◌, ◌++◌, ◌⊎◌, inl, inr, refl, sym, ap, ◌∙◌, true≢false}
use Rattle.std.specs.Prelude.{ℤ}
use Rattle.std.specs.List.{AllByRecursion}
use Rattle.std.specs.declared.cmp.Ordering.{Ordering}
use Rattle.std.specs.declared.cmp.Ordering.TheVariants.{Less, Equal, Greater}
use Rattle.ded_num.proofs.Tests.{and_swap_first}
use Rattle.ded_model.specs.declared.slot.Slot.{Slot}
use Rattle.ded_model.specs.declared.tuple.BothAtom.TheVariants.{First, Second}
use Rattle.ded_model.specs.Constraint.{LinearConstraint}
use Rattle.ded_model.specs.Point.{Point}
use Rattle.ded_model.specs.Row.{Atom, sign_meets, row_holds, atom_holds, tuple_holds, atom_mentions, tuple_mentions}
use Rattle.ded_model.specs.Lines.{Line, In, IsSubset, row_lines, atoms_lines}
use Rattle.ded_model.specs.Normal.{normal_row, normal_with, IsNormalRow, constant_row, is_true_with, is_true_row, atom_order, IsNormalAtom, IsNormalTuple, place_atom, ordered_atoms}
use Rattle.ded_model.proofs.Rows.{or_left, or_right}
use Rattle.ded_model.proofs.Members.{or_split, In-left, In-right, In-split}
use Rattle.ded_model.proofs.Normals.{constant_row-holds}
use Rattle.ded_tuple.specs.Places.{placed}
use Rattle.ded_tuple.specs.TrueRows.{IsNormalOrTrue, is_true_atom, without_true}
use Rattle.ded_tuple.proofs.Places.{place-normal}
use Rattle.ded_tuple.proofs.SameAtoms.{same_atom}

-- ---- where they hold

-- the atoms of a list with one more at its place are those of the list and that one
all-place : (P : Atom → Type 0) (a : Atom) (xs : List Atom) → P a → AllByRecursion P xs → AllByRecursion P (place_atom a xs)
all-place P a [] h k = (h, tt)
all-place P a (b ∷ bs) h k = go (atom_order a b) refl (all-place P a bs h k.1)
  where
    go : (o : Ordering) → atom_order a b ≡ o → AllByRecursion P (place_atom a bs) → AllByRecursion P (place_atom a (b ∷ bs))
    go Less f ih = rw f (h, k)
    go Equal f ih = rw f k
    go Greater f ih = rw f (k.0, ih)

all-ordered : (P : Atom → Type 0) (xs : List Atom) → AllByRecursion P xs → AllByRecursion P (ordered_atoms xs)
all-ordered P [] h = tt
all-ordered P (x ∷ xs) h = all-place P x (ordered_atoms xs) h.0 (all-ordered P xs h.1)

twice : (x y : Bool) → (x && y) ≡ (x && (x && y))
twice true y = refl
twice false y = refl

-- one more holds as well
holds-place : (a : Atom) (xs : List Atom) (p : Point) → IsNormalOrTrue a → AllByRecursion IsNormalOrTrue xs → tuple_holds (place_atom a xs) p ≡ (atom_holds a p && tuple_holds xs p)
unfolding tuple_holds
holds-place a [] p h k = refl
holds-place a (b ∷ bs) p h k = go (atom_order a b) refl (holds-place a bs p h k.1)
  where
    go : (o : Ordering) → atom_order a b ≡ o → tuple_holds (place_atom a bs) p ≡ (atom_holds a p && tuple_holds bs p) → tuple_holds (place_atom a (b ∷ bs)) p ≡ (atom_holds a p && tuple_holds (b ∷ bs) p)
    go Less f ih = rw f refl
    go Equal f ih = rw f (twice (atom_holds b p) (tuple_holds bs p) ∙ ap (λ c. atom_holds c p && (atom_holds b p && tuple_holds bs p)) (sym (same_atom a b h k.0 f)))
    go Greater f ih = rw f (ap (λ x. atom_holds b p && x) ih ∙ and_swap_first (atom_holds b p) (atom_holds a p) (tuple_holds bs p))

holds-ordered : (xs : List Atom) (p : Point) → AllByRecursion IsNormalOrTrue xs → tuple_holds (ordered_atoms xs) p ≡ tuple_holds xs p
unfolding tuple_holds
holds-ordered [] p h = refl
holds-ordered (x ∷ xs) p h = holds-place x (ordered_atoms xs) p h.0 (all-ordered IsNormalOrTrue xs h.1) ∙ ap (λ b. atom_holds x p && b) (holds-ordered xs p h.1)

-- a normal row that is true holds everywhere
true_row_holds : (r : LinearConstraint) (p : Point) → IsNormalRow r → is_true_row r ≡ true → row_holds r p ≡ true
unfolding normal_row
true_row_holds r p h e = go r.coefs e h.normal
  where
    made : (b : Bool) → constant_row b ≡ r → is_true_with r.op [] ≡ true → row_holds r p ≡ true
    made true n i = ap (λ q. row_holds q p) (sym n) ∙ constant_row-holds true p
    made false n i = absurd (true≢false (sym i ∙ ap (λ (q : LinearConstraint). is_true_with q.op []) (sym n)))

    go : (cs : List (Slot × ℤ)) → is_true_with r.op cs ≡ true → normal_with r cs ≡ r → row_holds r p ≡ true
    go [] i n = made (sign_meets r.op r.constant) n i
    go (c ∷ cs) i n = absurd (true≢false (sym i))

true_atom_holds : (a : Atom) (p : Point) → IsNormalOrTrue a → is_true_atom a ≡ true → atom_holds a p ≡ true
unfolding atom_holds
true_atom_holds (First r) p h e = true_row_holds r p h.1 e
true_atom_holds (Second a) p h e = absurd (true≢false (sym e))

holds-without_true : (xs : List Atom) (p : Point) → AllByRecursion IsNormalOrTrue xs → tuple_holds (without_true xs) p ≡ tuple_holds xs p
unfolding tuple_holds
holds-without_true [] p h = refl
holds-without_true (x ∷ xs) p h = go (is_true_atom x) refl (holds-without_true xs p h.1)
  where
    go : (b : Bool) → is_true_atom x ≡ b → tuple_holds (without_true xs) p ≡ tuple_holds xs p → tuple_holds (cond b (without_true xs) (x ∷ without_true xs)) p ≡ (atom_holds x p && tuple_holds xs p)
    go true e ih = ih ∙ ap (λ b. b && tuple_holds xs p) (sym (true_atom_holds x p h.0 e))
    go false e ih = ap (λ b. atom_holds x p && b) ih

all-without_true : (P : Atom → Type 0) (xs : List Atom) → AllByRecursion P xs → AllByRecursion P (without_true xs)
all-without_true P [] h = tt
all-without_true P (x ∷ xs) h = go (is_true_atom x) (all-without_true P xs h.1)
  where
    go : (b : Bool) → AllByRecursion P (without_true xs) → AllByRecursion P (cond b (without_true xs) (x ∷ without_true xs))
    go true ih = ih
    go false ih = (h.0, ih)

-- the tuple holds where the atoms do
pub holds-normal : (xs : List Atom) (p : Point) → AllByRecursion IsNormalOrTrue xs → tuple_holds (ordered_atoms (without_true xs)) p ≡ tuple_holds xs p
holds-normal xs p h = holds-ordered (without_true xs) p (all-without_true IsNormalOrTrue xs h) ∙ holds-without_true xs p h

-- ---- what they mention

-- an atom put at its place
mentions-place : (a : Atom) (xs : List Atom) (s : Slot) → tuple_mentions (place_atom a xs) s ≡ true → (atom_mentions a s ≡ true) ⊎ (tuple_mentions xs s ≡ true)
unfolding tuple_mentions
mentions-place a [] s h = or_split (atom_mentions a s) _ h
mentions-place a (b ∷ bs) s h = go (atom_order a b) refl (mentions-place a bs s)
  where
    go : (o : Ordering) → atom_order a b ≡ o → (tuple_mentions (place_atom a bs) s ≡ true → (atom_mentions a s ≡ true) ⊎ (tuple_mentions bs s ≡ true)) → (atom_mentions a s ≡ true) ⊎ (tuple_mentions (b ∷ bs) s ≡ true)
    go Less e ih = or_split (atom_mentions a s) _ (rw e at h)
    go Equal e ih = inr (rw e at h)
    go Greater e ih = elim (or_split (atom_mentions b s) _ (rw e at h)) [
      | inl f ↦ inr (or_left _ _ f)
      | inr f ↦ elim (ih f) [ inl g ↦ inl g | inr g ↦ inr (or_right (atom_mentions b s) _ g) ]
    ]

pub mentions-ordered : (xs : List Atom) (s : Slot) → tuple_mentions (ordered_atoms xs) s ≡ true → tuple_mentions xs s ≡ true
unfolding tuple_mentions
mentions-ordered [] s h = h
mentions-ordered (x ∷ xs) s h = elim (mentions-place x (ordered_atoms xs) s h) [ inl e ↦ or_left _ _ e | inr e ↦ or_right (atom_mentions x s) _ (mentions-ordered xs s e) ]

mentions-without_true : (xs : List Atom) (s : Slot) → tuple_mentions (without_true xs) s ≡ true → tuple_mentions xs s ≡ true
unfolding tuple_mentions
mentions-without_true [] s h = h
mentions-without_true (x ∷ xs) s h = go (is_true_atom x) h (mentions-without_true xs s)
  where
    go : (b : Bool) → tuple_mentions (cond b (without_true xs) (x ∷ without_true xs)) s ≡ true → (tuple_mentions (without_true xs) s ≡ true → tuple_mentions xs s ≡ true) → tuple_mentions (x ∷ xs) s ≡ true
    go true e ih = or_right (atom_mentions x s) _ (ih e)
    go false e ih = elim (or_split (atom_mentions x s) _ e) [ inl f ↦ or_left _ _ f | inr f ↦ or_right (atom_mentions x s) _ (ih f) ]

-- the tuple mentions slots of the atoms alone
pub mentions-normal : (xs : List Atom) (s : Slot) → tuple_mentions (ordered_atoms (without_true xs)) s ≡ true → tuple_mentions xs s ≡ true
mentions-normal xs s h = mentions-without_true xs s (mentions-ordered (without_true xs) s h)

-- ---- their lines

-- the lines of the first atom, and those of the others
lines_first : (l : Line) (a : Atom) (xs : List Atom) → In l (atoms_lines (a ∷ [])) → In l (atoms_lines (a ∷ xs))
lines_first l (First r) xs h = elim (In-split l (row_lines r) [] h) [ inl i ↦ In-left l (row_lines r) (atoms_lines xs) i | inr i ↦ absurd i ]
lines_first l (Second a) xs h = absurd h

lines_rest : (l : Line) (a : Atom) (xs : List Atom) → In l (atoms_lines xs) → In l (atoms_lines (a ∷ xs))
lines_rest l (First r) xs h = In-right l (row_lines r) (atoms_lines xs) h
lines_rest l (Second a) xs h = h

lines_split : (l : Line) (a : Atom) (xs : List Atom) → In l (atoms_lines (a ∷ xs)) → In l (atoms_lines (a ∷ [])) ⊎ In l (atoms_lines xs)
lines_split l (First r) xs h = elim (In-split l (row_lines r) (atoms_lines xs) h) [ inl i ↦ inl (In-left l (row_lines r) [] i) | inr i ↦ inr i ]
lines_split l (Second a) xs h = inr h

lines-place : (l : Line) (a : Atom) (xs : List Atom) → In l (atoms_lines (place_atom a xs)) → In l (atoms_lines (a ∷ [])) ⊎ In l (atoms_lines xs)
lines-place l a [] h = inl h
lines-place l a (b ∷ bs) h = go (atom_order a b) refl (lines-place l a bs)
  where
    go : (o : Ordering) → atom_order a b ≡ o → (In l (atoms_lines (place_atom a bs)) → In l (atoms_lines (a ∷ [])) ⊎ In l (atoms_lines bs)) → In l (atoms_lines (a ∷ [])) ⊎ In l (atoms_lines (b ∷ bs))
    go Less e ih = lines_split l a (b ∷ bs) (rw e at h)
    go Equal e ih = inr (rw e at h)
    go Greater e ih = elim (lines_split l b (place_atom a bs) (rw e at h)) [
      | inl i ↦ inr (lines_first l b bs i)
      | inr i ↦ elim (ih i) [ inl j ↦ inl j | inr j ↦ inr (lines_rest l b bs j) ]
    ]

lines-ordered : (xs : List Atom) → IsSubset (atoms_lines (ordered_atoms xs)) (atoms_lines xs)
lines-ordered [] l h = h
lines-ordered (x ∷ xs) l h = elim (lines-place l x (ordered_atoms xs) h) [ inl i ↦ lines_first l x xs i | inr i ↦ lines_rest l x xs (lines-ordered xs l i) ]

lines-without_true : (xs : List Atom) → IsSubset (atoms_lines (without_true xs)) (atoms_lines xs)
lines-without_true [] l h = h
lines-without_true (x ∷ xs) l h = go (is_true_atom x) h (lines-without_true xs l)
  where
    go : (b : Bool) → In l (atoms_lines (cond b (without_true xs) (x ∷ without_true xs))) → (In l (atoms_lines (without_true xs)) → In l (atoms_lines xs)) → In l (atoms_lines (x ∷ xs))
    go true i ih = lines_rest l x xs (ih i)
    go false i ih = elim (lines_split l x (without_true xs) i) [ inl j ↦ lines_first l x xs j | inr j ↦ lines_rest l x xs (ih j) ]

-- the tuple's lines are among those of the atoms
pub lines-normal : (xs : List Atom) → IsSubset (atoms_lines (ordered_atoms (without_true xs))) (atoms_lines xs)
lines-normal xs l h = lines-without_true xs l (lines-ordered (without_true xs) l h)

-- ---- that the tuple is normal

pub ordered-normal : (xs : List Atom) → AllByRecursion IsNormalAtom xs → IsNormalTuple (ordered_atoms xs)
ordered-normal [] h = tt
ordered-normal (x ∷ xs) h = place-normal x (ordered_atoms xs) h.0 (ordered-normal xs h.1)

-- an atom that isn't true
normal_atom : (a : Atom) → IsNormalOrTrue a → is_true_atom a ≡ false → IsNormalAtom a
normal_atom (First r) h e = (h.0, h.1, e)
normal_atom (Second a) h e = h

normal-without_true : (xs : List Atom) → AllByRecursion IsNormalOrTrue xs → AllByRecursion IsNormalAtom (without_true xs)
normal-without_true [] h = tt
normal-without_true (x ∷ xs) h = go (is_true_atom x) refl (normal-without_true xs h.1)
  where
    go : (b : Bool) → is_true_atom x ≡ b → AllByRecursion IsNormalAtom (without_true xs) → AllByRecursion IsNormalAtom (cond b (without_true xs) (x ∷ without_true xs))
    go true e ih = ih
    go false e ih = (normal_atom x h.0 e, ih)

pub normal-normal : (xs : List Atom) → AllByRecursion IsNormalOrTrue xs → IsNormalTuple (ordered_atoms (without_true xs))
normal-normal xs h = ordered-normal (without_true xs) (normal-without_true xs h)

-- ---- the loop that takes the atoms from the last one on

-- atoms at the end are placed first
placed-append : (xs ys t : List Atom) → placed (xs ++ ys) t ≡ placed xs (placed ys t)
placed-append [] ys t = refl
placed-append (x ∷ xs) ys t = ap (place_atom x) (placed-append xs ys t)

without_true-append : (xs ys : List Atom) → without_true (xs ++ ys) ≡ without_true xs ++ without_true ys
without_true-append [] ys = refl
without_true-append (x ∷ xs) ys = go (is_true_atom x) (without_true-append xs ys)
  where
    go : (b : Bool) → without_true (xs ++ ys) ≡ without_true xs ++ without_true ys → cond b (without_true (xs ++ ys)) (x ∷ without_true (xs ++ ys)) ≡ cond b (without_true xs) (x ∷ without_true xs) ++ without_true ys
    go true ih = ih
    go false ih = ap (λ l. x ∷ l) ih

-- the last atom is put at its place
pub last_placed : (xs : List Atom) (a : Atom) (t : List Atom) → placed (without_true (xs ++ a ∷ [])) t ≡ placed (without_true xs) (placed (without_true (a ∷ [])) t)
last_placed xs a t = ap (λ l. placed l t) (without_true-append xs (a ∷ [])) ∙ placed-append (without_true xs) (without_true (a ∷ [])) t

-- all of them put at their places in no list are in order
pub placed_none : (xs : List Atom) → placed xs [] ≡ ordered_atoms xs
placed_none [] = refl
placed_none (x ∷ xs) = ap (place_atom x) (placed_none xs)

-- what holds of each atom holds of the last one and of the others
pub all-last : (P : Atom → Type 0) (xs : List Atom) (a : Atom) → AllByRecursion P (xs ++ a ∷ []) → P a
all-last P [] a h = h.0
all-last P (x ∷ xs) a h = all-last P xs a h.1

pub all-others : (P : Atom → Type 0) (xs : List Atom) (a : Atom) → AllByRecursion P (xs ++ a ∷ []) → AllByRecursion P xs
all-others P [] a h = tt
all-others P (x ∷ xs) a h = (h.0, all-others P xs a h.1)
