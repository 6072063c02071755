-- Lists of conjunctions without those that hold nowhere, with strict rows made weak, one conjunction after another: they hold
-- exactly at the points that are close to the list.
use Rattle.std.proofs.Common.{◌≡◌, ℕ, zero, suc, ◌<◌, Bool, true, false, ◌||◌, List, [], ◌∷◌, ◌++◌, Vec, Global, length, get_or, inl, inr, ⊎_elim, arith, refl, sym, ap, ap₂, ◌∙◌, subst}
use Rattle.std.specs.Prelude.{◌↔◌, IsTrue}
use Rattle.std.specs.List.{AllByRecursion}
use Rattle.std.proofs.Math.Bool.{or-false}
use Rattle.ded_model.specs.declared.slot.Slot.{Slot}
use Rattle.ded_model.specs.Cell.{conj_holds, HoldsSomewhere, HoldsNowhere}
use Rattle.ded_model.specs.Lines.{IsSubset, row_lines, atoms_lines, tuples_lines}
use Rattle.ded_model.specs.Near.{IsCloseAt, weak_tuple, weak_tuples, AreSortedAtoms, AreSortedTuples, AreInhabited}
use Rattle.ded_model.specs.Normal.{IsNormalTheme}
use Rattle.ded_model.specs.Point.{Point, IsPoint}
use Rattle.ded_model.specs.Row.{Atom, row_holds, theme_holds, row_mentions, theme_mentions, tuple_holds, tuple_mentions, tuples_hold, tuples_mention}
use Rattle.ded_model.specs.Width.{IsNarrowList}
use Rattle.ded_model.proofs.Rows.{or_left, or_right}
use Rattle.ded_model.proofs.Members.{subset_append, or_split, In-left}
use Rattle.ded_model.proofs.TupleLists.{tuples_hold-push, tuples_lines-push}
use Rattle.ded_model.proofs.SlotLists.{tuples_mention-push}
use Rattle.ded_laws.proofs.Weakened.{closure_is}
use Rattle.ded_theory.specs.Both.{by_kind, IsByKind}
use Rattle.ded_theory.specs.Conjunctions.{IsWide}
use Rattle.ded_theory.proofs.Shared.{holds_alike}
use Rattle.ded_elimination.specs.LinearAtoms.{IsLinearAtom}
use Rattle.ded_genrel.specs.Lists.{conjs_of, AreNormal, SomeConj}
use Rattle.ded_atoms.proofs.Narrowness.{narrow_atoms}
use Rattle.ded_topology.specs.Closing.{IsClosed}
use Rattle.ded_topology.specs.Weakening.{weakened}
use Rattle.ded_topology.proofs.Weak.{weakened_is, sorted_atoms, weak_slots, weak_lines}

-- ---- one conjunction more

pub closed_none : IsClosed [] []
closed_none = record { kept = []; list = refl; holds = λ p i. refl; inhabited = tt; sorted = tt; slots = λ s e. e; lines = λ l i. i }

pub or_none : (a b : Bool) → b ≡ false → a ≡ (a || b)
or_none a b e = sym (ap (λ x. a || x) e ∙ or-false a)

-- one that holds nowhere
pub closed_dropped : (conjs out : List (List Atom)) (t : List Atom) → HoldsNowhere (conj_holds (by_kind row_holds theme_holds) t) → IsClosed conjs out → IsClosed (conjs ++ t ∷ []) out
closed_dropped conjs out t z k = record {
  kept = k.kept;
  list = k.list;
  holds = λ p i. k.holds p i ∙ or_none (tuples_hold conjs p) (tuple_holds t p) (sym (holds_alike t p) ∙ z p i) ∙ sym (tuples_hold-push conjs t p);
  inhabited = k.inhabited;
  sorted = k.sorted;
  slots = λ s e. tuples_mention-push conjs t s ∙ or_left (tuples_mention conjs s) (tuple_mentions t s) (k.slots s e);
  lines = λ l i. subst (λ ls. IsSubset (tuples_lines conjs) ls) (sym (tuples_lines-push conjs t)) (λ m j. In-left m (tuples_lines conjs) (atoms_lines t) j) l (k.lines l i);
}

weak_push : (ts : List (List Atom)) (t : List Atom) → weak_tuples (ts ++ t ∷ []) ≡ weak_tuples ts ++ weak_tuple t ∷ []
weak_push [] t = refl
weak_push (x ∷ ts) t = ap (λ xs. weak_tuple x ∷ xs) (weak_push ts t)

inhabited_push : (ts : List (List Atom)) (t : List Atom) → AreInhabited ts → HoldsSomewhere (tuple_holds t) → AreInhabited (ts ++ t ∷ [])
inhabited_push [] t h k = (k, tt)
inhabited_push (x ∷ ts) t h k = (h.0, inhabited_push ts t h.1 k)

sorted_push : (ts : List (List Atom)) (t : List Atom) → AreSortedTuples ts → AreSortedAtoms t → AreSortedTuples (ts ++ t ∷ [])
sorted_push [] t h k = (k, tt)
sorted_push (x ∷ ts) t h k = (h.0, sorted_push ts t h.1 k)

-- one that holds somewhere
pub closed_kept : (conjs out out' : List (List Atom)) (t : List Atom) → AllByRecursion (IsByKind IsLinearAtom IsNormalTheme) t → HoldsSomewhere (conj_holds (by_kind row_holds theme_holds) t) → out' ≡ out ++ weakened t ∷ []
    → IsClosed conjs out → IsClosed (conjs ++ t ∷ []) out'
closed_kept conjs out out' t n w e k =
    let holds : tuple_holds t w.0 ≡ true = sym (holds_alike t w.0) ∙ w.2 in
    record {
      kept = k.kept ++ t ∷ [];
      list = e ∙ ap₂ (λ xs x. xs ++ x ∷ []) k.list (weakened_is t w.0 n holds) ∙ sym (weak_push k.kept t);
      holds = λ p i. tuples_hold-push k.kept t p ∙ ap (λ b. b || tuple_holds t p) (k.holds p i) ∙ sym (tuples_hold-push conjs t p);
      inhabited = inhabited_push k.kept t k.inhabited (w.0, w.1, holds);
      sorted = sorted_push k.kept t k.sorted (sorted_atoms t n);
      slots = λ s u. tuples_mention-push conjs t s
          ∙ ⊎_elim (λ (a : tuples_mention k.kept s ≡ true). or_left _ _ (k.slots s a)) (λ b. or_right (tuples_mention conjs s) _ b) (or_split _ _ (sym (tuples_mention-push k.kept t s) ∙ u));
      lines = subst (λ ls. IsSubset ls (tuples_lines (conjs ++ t ∷ []))) (sym (tuples_lines-push k.kept t))
          (subst (IsSubset (tuples_lines k.kept ++ atoms_lines t)) (sym (tuples_lines-push conjs t)) (subset_append (tuples_lines k.kept) (atoms_lines t) (tuples_lines conjs) (atoms_lines t) k.lines (λ l i. i)));
    }

-- ---- what it is

-- what is close to a test is close to one that says the same
close_same : (f g : Point → Bool) (p : Point) → ((q : Point) → IsPoint q → f q ≡ g q) → IsCloseAt f p → IsCloseAt g p
close_same f g p e h m k a b = let w = h m k a b in (w.0, w.1, w.2, sym (e w.0 w.1) ∙ w.3)

pub closed_close : (conjs out : List (List Atom)) → IsClosed conjs out → (p : Point) → IsPoint p → IsCloseAt (tuples_hold conjs) p ↔ IsTrue (tuples_hold out p)
closed_close conjs out k p i =
    let law = closure_is k.kept p i k.sorted k.inhabited in
    let same : tuples_hold out p ≡ tuples_hold (weak_tuples k.kept) p = ap (λ ts. tuples_hold ts p) k.list in (
      λ h. same ∙ law.0 (close_same (tuples_hold conjs) (tuples_hold k.kept) p (λ q j. sym (k.holds q j)) h),
      λ h. close_same (tuples_hold k.kept) (tuples_hold conjs) p k.holds (law.1 (sym same ∙ h)),
    )

pub closed_slots : (conjs out : List (List Atom)) → IsClosed conjs out → (s : Slot) → tuples_mention out s ≡ true → tuples_mention conjs s ≡ true
closed_slots conjs out k s e = k.slots s (sym (weak_slots k.kept s) ∙ ap (λ ts. tuples_mention ts s) (sym k.list) ∙ e)

pub closed_lines : (conjs out : List (List Atom)) → IsClosed conjs out → IsSubset (tuples_lines out) (tuples_lines conjs)
closed_lines conjs out k = subst (λ ls. IsSubset ls (tuples_lines conjs)) (sym (ap tuples_lines k.list ∙ weak_lines k.kept)) k.lines

-- ---- wide

-- what is wide isn't narrow
pub wide_each : (conjs : List (List Atom)) → AreNormal (IsByKind IsLinearAtom IsNormalTheme) conjs → SomeConj (IsWide (by_kind row_mentions theme_mentions) (by_kind row_lines (λ a. []))) conjs → SomeConj (λ t. IsNarrowList t → ⊥) conjs
wide_each [] n w = w
wide_each (t ∷ ts) n (inl w) = inl (λ k. narrow_atoms t n.0 k w)
wide_each (t ∷ ts) n (inr w) = inr (wide_each ts n.1 w)

-- so it is of some conjunction where it is of one
pub some_at : (P : List Atom → Type 0) (xs : List (Vec Atom Global)) (i : ℕ) (x : Vec Atom Global) → i < length xs → x ≡ get_or xs i x → P x.items → SomeConj P (conjs_of xs)
some_at P [] i x l e h = absurd (omega (arith, l))
some_at P (y ∷ xs) zero x l e h = inl (subst (λ (z : Vec Atom Global). P z.items) e h)
some_at P (y ∷ xs) (suc i) x l e h = inr (some_at P xs i x (omega (arith, l)) e h)
