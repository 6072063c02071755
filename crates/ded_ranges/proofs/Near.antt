-- Lists without tuples that hold nowhere in a window: what is true of them where it is of the whole lists.
use Rattle.std.proofs.Common.{◌≡◌, ◌||◌, ℕ, ◌+◌, ◌<◌, true, List, [], ◌∷◌, ◌++◌, length, get_or, take, inl, inr, refl, sym, ap, ◌∙◌, subst, append-nil}
use Rattle.std.specs.List.{AllByRecursion}
use Rattle.ded_model.specs.Point.{Point, IsPoint}
use Rattle.ded_model.specs.Row.{Atom, tuple_holds, tuples_hold}
use Rattle.ded_model.specs.Lines.{IsSubset, atoms_lines, tuples_lines}
use Rattle.ded_model.proofs.Members.{In-right, subset_refl, subset_append}
use Rattle.ded_model.proofs.Sublists.{sublist_refl, sublist_none, sublist_append, sublist_trans, sublist_all}
use Rattle.ded_ranges.specs.declared.window.Window.{Window}
use Rattle.ded_ranges.specs.Windows.{is_within, IsMissed, IsNear}
use Rattle.ded_packed.specs.declared.lent.Lent.{Lent}
use Rattle.ded_packed.specs.Lent.{tuple_of, lent}
use Rattle.ded_ranges.proofs.Taken.{taken_more}

-- ---- of tuples

pub near_same : (w : Window) (ts : List (List Atom)) → IsNear w ts ts
near_same w ts = sublist_refl (IsMissed w) ts

pub near_append : (w : Window) (us ts vs xs : List (List Atom)) → IsNear w us ts → IsNear w vs xs → IsNear w (us ++ vs) (ts ++ xs)
near_append w us ts vs xs n k = sublist_append (IsMissed w) us ts vs xs n k

pub near_trans : (w : Window) (us ts xs : List (List Atom)) → IsNear w us ts → IsNear w ts xs → IsNear w us xs
near_trans w us ts xs n k = sublist_trans (IsMissed w) us ts xs n k

pub near_all : (w : Window) (P : List Atom → Type 0) (us ts : List (List Atom)) → IsNear w us ts → AllByRecursion P ts → AllByRecursion P us
near_all w P us ts n h = sublist_all (IsMissed w) P us ts n h

-- in the window they hold where the whole list does
pub near_holds : (w : Window) (p : Point) → IsPoint p → is_within w p ≡ true → (us ts : List (List Atom)) → IsNear w us ts → tuples_hold us p ≡ tuples_hold ts p
unfolding tuples_hold
near_holds w p i h us [] n = ap (λ (us : List (List Atom)). tuples_hold us p) n
near_holds w p i h us (t ∷ ts) (inl m) = near_holds w p i h us ts m.1 ∙ sym (ap (λ b. b || tuples_hold ts p) (m.0 p i h))
near_holds w p i h us (t ∷ ts) (inr m) = ap (λ (us : List (List Atom)). tuples_hold us p) m.1 ∙ ap (λ b. tuple_holds t p || b) (near_holds w p i h m.0 ts m.2)

pub near_lines : (w : Window) (us ts : List (List Atom)) → IsNear w us ts → IsSubset (tuples_lines us) (tuples_lines ts)
near_lines w us [] n = subst (λ us. IsSubset (tuples_lines us) []) (sym n) (subset_refl [])
near_lines w us (t ∷ ts) (inl m) = λ l h. In-right l (atoms_lines t) (tuples_lines ts) (near_lines w us ts m.1 l h)
near_lines w us (t ∷ ts) (inr m) = subst (λ us. IsSubset (tuples_lines us) (tuples_lines (t ∷ ts))) (sym m.1) (subset_append (atoms_lines t) (tuples_lines m.0) (atoms_lines t) (tuples_lines ts) (subset_refl (atoms_lines t)) (near_lines w m.0 ts m.2))

-- ---- one tuple more, which is kept or passed over

lent-append : (us vs : List Lent) → lent (us ++ vs) ≡ lent us ++ lent vs
lent-append [] vs = refl
lent-append (u ∷ us) vs = ap (λ ts. tuple_of u ∷ ts) (lent-append us vs)

module _ (w : Window) (ts : List (List Atom)) (i : ℕ) (t : List Atom) (inside : i < length ts) (is : get_or ts i t ≡ t) where
  one_longer : take (i + 1) ts ≡ take i ts ++ t ∷ []
  one_longer = taken_more ts i t inside ∙ ap (λ (x : List Atom). take i ts ++ x ∷ []) is

  pub kept_more : (old new : List Lent) (b : Lent) → tuple_of b ≡ t → new ≡ old ++ b ∷ [] → IsNear w (lent old) (take i ts) → IsNear w (lent new) (take (i + 1) ts)
  kept_more old new b e n k =
      subst (IsNear w (lent new)) (sym one_longer) (subst (λ us. IsNear w us (take i ts ++ t ∷ [])) (sym (ap lent n ∙ lent-append old (b ∷ []) ∙ ap (λ (x : List Atom). lent old ++ x ∷ []) e)) (near_append w (lent old) (take i ts) (t ∷ []) (t ∷ []) k (near_same w (t ∷ []))))

  pub passed_more : (old : List Lent) → IsMissed w t → IsNear w (lent old) (take i ts) → IsNear w (lent old) (take (i + 1) ts)
  passed_more old m k =
      subst (IsNear w (lent old)) (sym one_longer) (subst (λ us. IsNear w us (take i ts ++ t ∷ [])) (append-nil (lent old)) (near_append w (lent old) (take i ts) [] (t ∷ []) k (sublist_none (IsMissed w) (t ∷ []) (m, tt))))
