-- Membership in the lists of lines that eliminations make.
--
-- A set of lines is a list that is read by membership. Here each list that an elimination makes is turned into facts, both
-- ways: a line of `elim_at` is one that was there and doesn't mention the slot, or a combination of two that don't clash;
-- `clash_at` is true where two lines of the set clash. These facts go over to a set with more lines.
use Rattle.std.proofs.Common.{◌≡◌, Bool, true, false, ◌&&◌, ◌||◌, cond, List, [], ◌∷◌, ◌++◌, ◌⊎◌, inl, inr, refl, sym, ◌∙◌, ap, subst, true≢false}
use Rattle.ded_model.specs.declared.slot.Slot.{Slot}
use Rattle.ded_model.specs.Row.{row_mentions}
use Rattle.ded_model.specs.Lines.{Line, In, IsSubset, lines_clash, both_mention, clash_with, clash_of, clash_at, without, combined, pairs_with, pairs, elim_at}
use Rattle.ded_model.proofs.Rows.{or_left, or_right}

-- a line of the first list is one of both
pub In-left : (l : Line) (xs ys : List Line) → In l xs → In l (xs ++ ys)
In-left l [] ys h = absurd h
In-left l (x ∷ xs) ys (inl e) = inl e
In-left l (x ∷ xs) ys (inr h) = inr (In-left l xs ys h)

-- and of the second
pub In-right : (l : Line) (xs ys : List Line) → In l ys → In l (xs ++ ys)
In-right l [] ys h = h
In-right l (x ∷ xs) ys h = inr (In-right l xs ys h)

-- a line of both is one of the first or of the second
pub In-split : (l : Line) (xs ys : List Line) → In l (xs ++ ys) → In l xs ⊎ In l ys
In-split l [] ys h = inr h
In-split l (x ∷ xs) ys (inl e) = inl (inl e)
In-split l (x ∷ xs) ys (inr h) = elim (In-split l xs ys h) [ inl a ↦ inl (inr a) | inr b ↦ inr b ]

-- a set is a subset of itself
pub subset_refl : (xs : List Line) → IsSubset xs xs
subset_refl xs l h = h

-- the empty set is one of each
pub subset_none : (xs : List Line) → IsSubset [] xs
subset_none xs l h = absurd h

-- a subset of a subset
pub subset_trans : (xs ys zs : List Line) → IsSubset xs ys → IsSubset ys zs → IsSubset xs zs
subset_trans xs ys zs f g l h = g l (f l h)

-- two sets, each in one of two
pub subset_append : (xs ys xs' ys' : List Line) → IsSubset xs xs' → IsSubset ys ys' → IsSubset (xs ++ ys) (xs' ++ ys')
subset_append xs ys xs' ys' f g l h = elim (In-split l xs ys h) [ inl a ↦ In-left l xs' ys' (f l a) | inr b ↦ In-right l xs' ys' (g l b) ]

-- two sets in one
pub subset_join : (xs ys zs : List Line) → IsSubset xs zs → IsSubset ys zs → IsSubset (xs ++ ys) zs
subset_join xs ys zs f g l h = elim (In-split l xs ys h) [ inl a ↦ f l a | inr b ↦ g l b ]

-- ---- lines without the slot

-- one line, kept or not
without_step : (s : Slot) (m : Line) (b : Bool) (rest : List Line) (l : Line) → row_mentions m s ≡ b → In l (cond b rest (m ∷ rest)) → (row_mentions m s ≡ false) × (l ≡ m) ⊎ In l rest
without_step s m true rest l e h = inr h
without_step s m false rest l e (inl i) = inl (e, i)
without_step s m false rest l e (inr h) = inr h

-- what is left is a line of the set that does not mention the slot
pub without-In : (s : Slot) (ls : List Line) (l : Line) → In l (without s ls) → In l ls × (row_mentions l s ≡ false)
without-In s [] l h = absurd h
without-In s (m ∷ ms) l h = elim (without_step s m (row_mentions m s) (without s ms) l refl h) [
  | inl a ↦ (inl a.1, ap (λ x. row_mentions x s) a.1 ∙ a.0)
  | inr b ↦ (let r = without-In s ms l b in (inr r.0, r.1))
]

-- one line more
keep_step : (s : Slot) (m : Line) (b : Bool) (rest : List Line) (l : Line) → In l rest → In l (cond b rest (m ∷ rest))
keep_step s m true rest l h = h
keep_step s m false rest l h = inr h

-- the line itself
here_step : (b : Bool) (rest : List Line) (m l : Line) → b ≡ false → l ≡ m → In l (cond b rest (m ∷ rest))
here_step true rest m l e i = absurd (true≢false e)
here_step false rest m l e i = inl i

-- and each such line is left
pub In-without : (s : Slot) (ls : List Line) (l : Line) → In l ls → row_mentions l s ≡ false → In l (without s ls)
In-without s [] l h e = absurd h
In-without s (m ∷ ms) l (inl i) e = here_step (row_mentions m s) (without s ms) m l (ap (λ x. row_mentions x s) (sym i) ∙ e) i
In-without s (m ∷ ms) l (inr h) e = keep_step s m (row_mentions m s) (without s ms) l (In-without s ms l h e)

-- ---- pairs

-- a line of the pairs with one line
pub pairs_with-In : (s : Slot) (m : Line) (ms : List Line) (l : Line) → In l (pairs_with s m ms) → (n : Line) × In n ms × In l (combined s m n)
pairs_with-In s m [] l h = absurd h
pairs_with-In s m (n ∷ ns) l h = elim (In-split l (combined s m n) (pairs_with s m ns) h) [
  | inl a ↦ (n, inl refl, a)
  | inr b ↦ (let r = pairs_with-In s m ns l b in (r.0, inr r.1, r.2))
]

-- and back
pub In-pairs_with : (s : Slot) (m n : Line) (ms : List Line) (l : Line) → In n ms → In l (combined s m n) → In l (pairs_with s m ms)
In-pairs_with s m n [] l h c = absurd h
In-pairs_with s m n (x ∷ xs) l (inl e) c = In-left l (combined s m x) (pairs_with s m xs) (subst (λ y. In l (combined s m y)) e c)
In-pairs_with s m n (x ∷ xs) l (inr h) c = In-right l (combined s m x) (pairs_with s m xs) (In-pairs_with s m n xs l h c)

-- a line of all pairs
pub pairs-In : (s : Slot) (ls ms : List Line) (l : Line) → In l (pairs s ls ms) → (m n : Line) × In m ls × In n ms × In l (combined s m n)
pairs-In s [] ms l h = absurd h
pairs-In s (m ∷ ls) ms l h = elim (In-split l (pairs_with s m ms) (pairs s ls ms) h) [
  | inl a ↦ (let r = pairs_with-In s m ms l a in (m, r.0, inl refl, r.1, r.2))
  | inr b ↦ (let r = pairs-In s ls ms l b in (r.0, r.1, inr r.2, r.3, r.4))
]

-- and back
pub In-pairs : (s : Slot) (m n : Line) (ls ms : List Line) (l : Line) → In m ls → In n ms → In l (combined s m n) → In l (pairs s ls ms)
In-pairs s m n [] ms l h k c = absurd h
In-pairs s m n (x ∷ xs) ms l (inl e) k c = In-left l (pairs_with s x ms) (pairs s xs ms) (In-pairs_with s x n ms l k (subst (λ y. In l (combined s y n)) e c))
In-pairs s m n (x ∷ xs) ms l (inr h) k c = In-right l (pairs_with s x ms) (pairs s xs ms) (In-pairs s m n xs ms l h k c)

-- ---- eliminations

-- a line without the slot, or a combination of two lines that do not clash
pub record IsPair (s : Slot) (ls : List Line) (l : Line) : Type 0 where
  pub first : Line
  pub second : Line
  pub in_first : In first ls
  pub in_second : In second ls
  pub combined : In l (combined s first second)

-- what an elimination has
pub elim-In : (s : Slot) (ls : List Line) (l : Line) → In l (elim_at s ls) → (In l ls × (row_mentions l s ≡ false)) ⊎ IsPair s ls l
unfolding elim_at
elim-In s ls l h = elim (In-split l (without s ls) (pairs s ls ls) h) [
  | inl a ↦ inl (without-In s ls l a)
  | inr b ↦ inr (let r = pairs-In s ls ls l b in record { first = r.0; second = r.1; in_first = r.2; in_second = r.3; combined = r.4 })
]

-- it has each line without the slot
pub In-elim-kept : (s : Slot) (ls : List Line) (l : Line) → In l ls → row_mentions l s ≡ false → In l (elim_at s ls)
unfolding elim_at
In-elim-kept s ls l h e = In-left l (without s ls) (pairs s ls ls) (In-without s ls l h e)

-- and each combination
pub In-elim-pair : (s : Slot) (ls : List Line) (l : Line) → IsPair s ls l → In l (elim_at s ls)
unfolding elim_at
In-elim-pair s ls l p = In-right l (without s ls) (pairs s ls ls) (In-pairs s p.first p.second ls ls l p.in_first p.in_second p.combined)

-- ---- clashes

-- one part of `or` holds
pub or_split : (a b : Bool) → (a || b) ≡ true → (a ≡ true) ⊎ (b ≡ true)
or_split true b h = inl refl
or_split false b h = inr h

-- two lines clash at the slot
unfoldable pub Clash : Slot → Line → Line → Type 0
Clash s l m = (both_mention s l m && lines_clash s l m) ≡ true

-- a line clashes with one of a list
pub clash_with-In : (s : Slot) (l : Line) (ms : List Line) → clash_with s l ms ≡ true → (m : Line) × In m ms × Clash s l m
unfolding Clash
clash_with-In s l [] h = absurd (true≢false (sym h))
clash_with-In s l (m ∷ ms) h = elim (or_split _ _ h) [ inl a ↦ (m, inl refl, a) | inr b ↦ (let r = clash_with-In s l ms b in (r.0, inr r.1, r.2)) ]

-- and back
pub In-clash_with : (s : Slot) (l m : Line) (ms : List Line) → In m ms → Clash s l m → clash_with s l ms ≡ true
unfolding Clash
In-clash_with s l m [] h c = absurd h
In-clash_with s l m (x ∷ xs) (inl e) c = or_left _ _ (subst (λ y. (both_mention s l y && lines_clash s l y) ≡ true) e c)
In-clash_with s l m (x ∷ xs) (inr h) c = or_right (both_mention s l x && lines_clash s l x) _ (In-clash_with s l m xs h c)

-- two lines of two lists clash
pub clash_of-In : (s : Slot) (ls ms : List Line) → clash_of s ls ms ≡ true → (l m : Line) × In l ls × In m ms × Clash s l m
clash_of-In s [] ms h = absurd (true≢false (sym h))
clash_of-In s (l ∷ ls) ms h = elim (or_split _ _ h) [
  | inl a ↦ (let r = clash_with-In s l ms a in (l, r.0, inl refl, r.1, r.2))
  | inr b ↦ (let r = clash_of-In s ls ms b in (r.0, r.1, inr r.2, r.3, r.4))
]

-- and back
pub In-clash_of : (s : Slot) (l m : Line) (ls ms : List Line) → In l ls → In m ms → Clash s l m → clash_of s ls ms ≡ true
unfolding Clash
In-clash_of s l m [] ms h k c = absurd h
In-clash_of s l m (x ∷ xs) ms (inl e) k c = or_left _ _ (In-clash_with s x m ms k (subst (λ y. (both_mention s y m && lines_clash s y m) ≡ true) e c))
In-clash_of s l m (x ∷ xs) ms (inr h) k c = or_right (clash_with s x ms) _ (In-clash_of s l m xs ms h k c)

-- ---- both grow with the set

-- what an elimination has, it has of more lines
pub elim-grows : (s : Slot) (xs ys : List Line) → IsSubset xs ys → IsSubset (elim_at s xs) (elim_at s ys)
elim-grows s xs ys f l h = elim (elim-In s xs l h) [
  | inl a ↦ In-elim-kept s ys l (f l a.0) a.1
  | inr p ↦ In-elim-pair s ys l (record { first = p.first; second = p.second; in_first = f p.first p.in_first; in_second = f p.second p.in_second; combined = p.combined })
]

-- and what clashes, clashes among more
pub clash-grows : (s : Slot) (xs ys : List Line) → IsSubset xs ys → clash_at s xs ≡ true → clash_at s ys ≡ true
unfolding clash_at
clash-grows s xs ys f h = let r = clash_of-In s xs xs h in In-clash_of s r.0 r.1 ys ys (f r.0 r.2) (f r.1 r.3) r.4
