-- The place of an atom in a list in order, by what is found at one place.
use Rattle.std.proofs.Common.{◌≡◌, ℕ, zero, suc, ◌+◌, ◌<◌, ◌≤◌, Bool, true, false, List, [], ◌∷◌, length, get_or, arith, refl, sym, ap, ◌∙◌, subst, true≢false}
use Rattle.std.specs.declared.cmp.Ordering.{Ordering}
use Rattle.std.specs.declared.cmp.Ordering.TheVariants.{Less, Equal, Greater}
use Rattle.std.specs.Ordering.{ordering_reverse}
use Rattle.ded_model.specs.Row.{Atom}
use Rattle.ded_model.specs.Normal.{atom_order, IsNormalTuple}
use Rattle.ded_tuple.specs.Places.{AreOrdered, atom_place, is_placed}
use Rattle.ded_tuple.proofs.AtomOrders.{turned, atom_order-turned}
use Rattle.ded_tuple.proofs.Chains.{atom-chains}

-- a normal tuple is in order
pub normal-ordered : (xs : List Atom) → IsNormalTuple xs → AreOrdered xs
normal-ordered [] h = tt
normal-ordered (x ∷ xs) h = (h.1, normal-ordered xs h.2)

-- the first atom stands before each other one
first_before : (b : Atom) (bs : List Atom) (j : ℕ) (d : Atom) → AreOrdered (b ∷ bs) → j < length bs → atom_order b (get_or bs j d) ≡ Less
first_before b [] j d h l = absurd (omega arith)
first_before b (c ∷ cs) zero d h l = h.0
first_before b (c ∷ cs) (suc j) d h l = (atom-chains b c (get_or cs j d)).less h.0 (first_before c cs j d h.1 (omega arith))

-- what is ahead of b is behind where b is behind
turned_less : (a b : Atom) → atom_order b a ≡ Less → atom_order a b ≡ Greater
turned_less a b e = turned b a ∙ ap ordering_reverse e

turned_equal : (a b : Atom) → atom_order a b ≡ Equal → atom_order b a ≡ Equal
turned_equal a b e = turned a b ∙ ap ordering_reverse e

-- past an atom that stands before it
past-place : (a b : Atom) (bs : List Atom) → atom_order a b ≡ Greater → atom_place a (b ∷ bs) ≡ atom_place a bs + 1
past-place a b bs e = rw e refl

past-placed : (a b : Atom) (bs : List Atom) → atom_order a b ≡ Greater → is_placed a (b ∷ bs) ≡ is_placed a bs
past-placed a b bs e = rw e refl

-- an atom that stands at the place or behind it
pub less_at : (a : Atom) (xs : List Atom) (i : ℕ) (d : Atom) → i < length xs → atom_order a (get_or xs i d) ≡ Less → atom_place a xs ≤ i
less_at a [] i d l e = absurd (omega arith)
less_at a (b ∷ bs) zero d l e = subst (λ n. n ≤ 0) (sym e') (omega arith)
  where
    e' : atom_place a (b ∷ bs) ≡ 0
    e' = rw e refl
less_at a (b ∷ bs) (suc i) d l e = go (atom_order a b) refl (less_at a bs i d (omega arith) e)
  where
    go : (o : Ordering) → atom_order a b ≡ o → atom_place a bs ≤ i → atom_place a (b ∷ bs) ≤ suc i
    go Less f ih = rw f (omega arith)
    go Equal f ih = rw f (omega arith)
    go Greater f ih = rw f (omega (arith, ih))

-- one that stands before the place
pub greater_at : (a : Atom) (xs : List Atom) (i : ℕ) (d : Atom) → AreOrdered xs → i < length xs → atom_order a (get_or xs i d) ≡ Greater → i + 1 ≤ atom_place a xs
greater_at a [] i d h l e = absurd (omega arith)
greater_at a (b ∷ bs) zero d h l e = subst (λ n. 0 + 1 ≤ n) (sym (past-place a b bs e)) (omega arith)
greater_at a (b ∷ bs) (suc i) d h l e =
    let c = get_or bs i d in
    let before : atom_order a b ≡ Greater = turned_less a b ((atom-chains b c a).less (first_before b bs i d h (omega arith)) (atom_order-turned a c e)) in
    let ih = greater_at a bs i d h.1 (omega arith) e in
    subst (λ n. suc i + 1 ≤ n) (sym (past-place a b bs before)) (omega (arith, ih))

-- the atom itself
equal_before : (a b : Atom) (bs : List Atom) (i : ℕ) (d : Atom) → AreOrdered (b ∷ bs) → i < length bs → atom_order a (get_or bs i d) ≡ Equal → atom_order a b ≡ Greater
equal_before a b bs i d h l e = let c = get_or bs i d in turned_less a b ((atom-chains b c a).left (first_before b bs i d h l) (turned_equal a c e))

pub equal_at : (a : Atom) (xs : List Atom) (i : ℕ) (d : Atom) → AreOrdered xs → i < length xs → atom_order a (get_or xs i d) ≡ Equal → (i ≡ atom_place a xs) × (true ≡ is_placed a xs)
equal_at a [] i d h l e = absurd (omega arith)
equal_at a (b ∷ bs) zero d h l e = (sym place, sym there)
  where
    place : atom_place a (b ∷ bs) ≡ 0
    place = rw e refl

    there : is_placed a (b ∷ bs) ≡ true
    there = rw e refl
equal_at a (b ∷ bs) (suc i) d h l e =
    let before = equal_before a b bs i d h (omega arith) e in
    let ih = equal_at a bs i d h.1 (omega arith) e in
    (sym (past-place a b bs before ∙ one_more (atom_place a bs) i (sym ih.0)), ih.1 ∙ sym (past-placed a b bs before))
  where
    one_more : (m n : ℕ) → m ≡ n → m + 1 ≡ suc n
    one_more m n e = omega (arith, e)

-- it isn't there, where the atom at its place stands behind it
pub not_there : (a : Atom) (xs : List Atom) (i : ℕ) → i ≡ atom_place a xs → (i < length xs → (d : Atom) → atom_order a (get_or xs i d) ≡ Less) → false ≡ is_placed a xs
not_there a [] i e h = refl
not_there a (b ∷ bs) i e h = go (atom_order a b) refl (not_there a bs)
  where
    less_equal : Less ≡ Equal → ⊥
    less_equal f = true≢false (ap is_less f)
      where
        is_less : Ordering → Bool
        is_less Less = true
        is_less Equal = false
        is_less Greater = false

    go : (o : Ordering) → atom_order a b ≡ o → ((i : ℕ) → i ≡ atom_place a bs → (i < length bs → (d : Atom) → atom_order a (get_or bs i d) ≡ Less) → false ≡ is_placed a bs) → false ≡ is_placed a (b ∷ bs)
    go Less f ih = rw f refl
    go Equal f ih = absurd (less_equal (sym (first i (e ∙ place f) h) ∙ f))
      where
        place : atom_order a b ≡ Equal → atom_place a (b ∷ bs) ≡ 0
        place f = rw f refl

        first : (i : ℕ) → i ≡ 0 → (i < length (b ∷ bs) → (d : Atom) → atom_order a (get_or (b ∷ bs) i d) ≡ Less) → atom_order a b ≡ Less
        first zero e h = h (omega arith) b
        first (suc i) e h = absurd (omega (arith, e))
    go Greater f ih = later i (e ∙ past-place a b bs f) h ∙ sym (past-placed a b bs f)
      where
        later : (i : ℕ) → i ≡ atom_place a bs + 1 → (i < length (b ∷ bs) → (d : Atom) → atom_order a (get_or (b ∷ bs) i d) ≡ Less) → false ≡ is_placed a bs
        later zero e h = absurd (omega (arith, e))
        later (suc i) e h = ih i (omega (arith, e)) (λ l d. h (omega (arith, l)) d)

-- ---- as the code has it

-- what is read within the list is there, whatever stands for what isn't
any_default : (xs : List Atom) (i : ℕ) (d d' : Atom) → i < length xs → get_or xs i d ≡ get_or xs i d'
any_default [] i d d' l = absurd (omega arith)
any_default (x ∷ xs) zero d d' l = refl
any_default (x ∷ xs) (suc i) d d' l = any_default xs i d d' (omega arith)

-- what is read at a place is that atom
pub read_at : (a b : Atom) (xs : List Atom) (i : ℕ) (r o : Ordering) → b ≡ get_or xs i b → r ≡ atom_order a b → r ≡ o → atom_order a (get_or xs i b) ≡ o
read_at a b xs i r o here e f = ap (atom_order a) (sym here) ∙ sym e ∙ f

-- for any default
pub behind_at : (a b : Atom) (xs : List Atom) (i : ℕ) → atom_order a (get_or xs i b) ≡ Less → i < length xs → (d : Atom) → atom_order a (get_or xs i d) ≡ Less
behind_at a b xs i e l d = ap (atom_order a) (any_default xs i d b l) ∙ e
