-- Atoms picked out of tuples.
use Rattle.std.proofs.Common.{◌≡◌, Bool, true, false, ◌&&◌, ◌||◌, cond, List, [], ◌∷◌, ◌++◌, inl, inr, refl, sym, ap, ◌∙◌, subst, true≢false}
use Rattle.std.specs.Prelude.{IsTrue, ℤ}
use Rattle.std.specs.List.{AllByRecursion, list_all, list_any}
use Rattle.std.proofs.lemmas.Bool.{and_from}
use Rattle.ded_num.proofs.Tests.{all_more}
use Rattle.ded_model.specs.declared.slot.Slot.{Slot}
use Rattle.ded_model.specs.declared.tuple.ThemeAtom.{ThemeAtom}
use Rattle.ded_model.specs.declared.tuple.ThemeAtom.TheVariants.{EqText, NeText, EqSlot, NeSlot}
use Rattle.ded_model.specs.declared.tuple.BothAtom.TheVariants.{First, Second}
use Rattle.ded_model.specs.declared.plan.Plan.{Plan}
use Rattle.ded_model.specs.Logic.{atom, Logics, also}
use Rattle.ded_model.specs.PlanForm.{PlanAtom, rows, PlanForm, plan_form, plan_forms}
use Rattle.ded_model.specs.Pushed.{is_rows}
use Rattle.ded_model.specs.Normal.{IsNormalAtom, IsNormalTuple}
use Rattle.ded_model.specs.Point.{Point, same_slot, stands_in}
use Rattle.ded_model.specs.Row.{Atom, atom_holds, tuple_holds, row_mentions, theme_mentions, atom_mentions, tuple_mentions}
use Rattle.ded_model.proofs.Members.{or_split}
use Rattle.ded_model.proofs.Points.{same_slot_is, and_left, and_right}
use Rattle.ded_tuple.specs.TrueRows.{IsNormalOrTrue}
use Rattle.ded_plan.specs.Rewrite.{atoms_of, rows_of}
use Rattle.ded_plan.specs.Scans.{RowsHold, AddsAtoms, is_theme_over, is_over}
use Rattle.ded_algebra.proofs.PlanMeanings.{none-holds}

-- ---- what holds

hold_head : (a : Atom) (t : List Atom) (p : Point) → IsTrue (tuple_holds (a ∷ t) p) → IsTrue (atom_holds a p)
unfolding tuple_holds
hold_head a t p h = and_left _ _ h

hold_tail : (a : Atom) (t : List Atom) (p : Point) → IsTrue (tuple_holds (a ∷ t) p) → IsTrue (tuple_holds t p)
unfolding tuple_holds
hold_tail a t p h = and_right (atom_holds a p) _ h

hold_last : (t : List Atom) (a : Atom) (p : Point) → IsTrue (tuple_holds t p) → IsTrue (atom_holds a p) → IsTrue (tuple_holds (t ++ a ∷ []) p)
unfolding tuple_holds
hold_last [] a p h k = and_from _ _ k refl
hold_last (b ∷ t) a p h k = and_from _ _ (and_left _ _ h) (hold_last t a p (and_right (atom_holds b p) _ h) k)

-- ---- the loop

pub normal_atom : (a : Atom) → IsNormalAtom a → IsNormalOrTrue a
normal_atom (First r) h = (h.0, h.1)
normal_atom (Second a) h = h

-- atoms that have the property, taken after others out of a normal tuple, of which some are left: they hold where it does
pub record Picked (P : Atom → Type 0) (old all left picked : List Atom) : Type 0 where
  pub tuple : IsNormalTuple left
  pub normal : AllByRecursion IsNormalOrTrue old → AllByRecursion IsNormalOrTrue picked
  pub own : AllByRecursion P old → AllByRecursion P picked
  pub holds : (p : Point) → IsTrue (tuple_holds old p) → IsTrue (tuple_holds all p) → IsTrue (tuple_holds picked p) × IsTrue (tuple_holds left p)

pub picked_none : (P : Atom → Type 0) (old all picked : List Atom) → picked ≡ old → IsNormalTuple all → Picked P old all all picked
picked_none P old all picked e h = subst (Picked P old all all) (sym e) (record { tuple = h; normal = λ k. k; own = λ k. k; holds = λ p x y. (x, y) })

-- the next one is taken
pub picked_more : (P : Atom → Type 0) (old all left rest picked more : List Atom) (a : Atom) → left ≡ a ∷ rest → more ≡ picked ++ a ∷ [] → P a → Picked P old all left picked → Picked P old all rest more
picked_more P old all left rest picked more a e m h k =
    let n = subst IsNormalTuple e k.tuple in
    record {
      tuple = n.2;
      normal = λ x. subst (AllByRecursion IsNormalOrTrue) (sym m) (all_more IsNormalOrTrue picked a (k.normal x) (normal_atom a n.0));
      own = λ x. subst (AllByRecursion P) (sym m) (all_more P picked a (k.own x) h);
      holds = λ p x y.
          let all = k.holds p x y in
          let rests = subst (λ xs. IsTrue (tuple_holds xs p)) e all.1 in
          (subst (λ xs. IsTrue (tuple_holds xs p)) (sym m) (hold_last picked a p all.0 (hold_head a rest p rests)), hold_tail a rest p rests);
    }

-- or passed over
pub picked_same : (P : Atom → Type 0) (old all left rest picked more : List Atom) (a : Atom) → left ≡ a ∷ rest → more ≡ picked → Picked P old all left picked → Picked P old all rest more
picked_same P old all left rest picked more a e m k = subst (Picked P old all rest) (sym m) (record {
  tuple = (subst IsNormalTuple e k.tuple).2;
  normal = k.normal;
  own = k.own;
  holds = λ p x y. let all = k.holds p x y in (all.0, hold_tail a rest p (subst (λ xs. IsTrue (tuple_holds xs p)) e all.1));
})

-- those that are taken after none hold where the tuple does
pub picked_hold : (P : Atom → Type 0) (all left picked t : List Atom) (p : Point) → all ≡ t → Picked P [] all left picked → IsTrue (tuple_holds t p) → IsTrue (tuple_holds picked p)
picked_hold P all left picked t p e k h = (k.holds p (none-holds p) (subst (λ xs. IsTrue (tuple_holds xs p)) (sym e) h)).0

-- all of them
pub picked_all : (P : Atom → Type 0) (old all left picked t : List Atom) → all ≡ t → Picked P old all left picked → AddsAtoms t old picked
picked_all P old all left picked t e k = record { normal = k.normal; holds = λ p x y. (k.holds p x (subst (λ xs. IsTrue (tuple_holds xs p)) (sym e) y)).0 }

-- ---- rows among plans

rows_first : (f : PlanForm) (w : List Atom) (fs : Logics PlanAtom) (p : Point) → f ≡ atom (rows w) → RowsHold (also f fs) p → IsTrue (tuple_holds w p)
rows_first f w fs p e h = (subst (λ g. RowsHold (also g fs) p) e h).0

rows_rest : (f : PlanForm) (fs : Logics PlanAtom) (p : Point) → RowsHold (also f fs) p → RowsHold fs p
rows_rest f fs p h = go (is_rows f) h
  where
    go : (b : Bool) → AllByRecursion (λ t. IsTrue (tuple_holds t p)) (cond b (atoms_of f ∷ rows_of fs) (rows_of fs)) → RowsHold fs p
    go true k = k.1
    go false k = k

-- the atoms of a tuple and of the rows among plans, of which some are left: they hold where all of these do
pub record WithRows (t : List Atom) (all left : List Plan) (atoms : List Atom) : Type 0 where
  pub normal : AllByRecursion IsNormalOrTrue atoms
  pub holds : (p : Point) → IsTrue (tuple_holds t p) → RowsHold (plan_forms all) p → IsTrue (tuple_holds atoms p) × RowsHold (plan_forms left) p

pub rows_none : (t : List Atom) (all : List Plan) (none atoms : List Atom) → none ≡ [] → AddsAtoms t none atoms → WithRows t all all atoms
rows_none t all none atoms e a =
    let b = subst (λ xs. AddsAtoms t xs atoms) e a in
    record { normal = b.normal tt; holds = λ p x y. (b.holds p (none-holds p) x, y) }

-- rows add theirs
pub rows_added : (t w : List Atom) (all left rest : List Plan) (plan : Plan) (atoms more : List Atom) → left ≡ plan ∷ rest → plan_form plan ≡ atom (rows w) → AddsAtoms w atoms more → WithRows t all left atoms → WithRows t all rest more
rows_added t w all left rest plan atoms more e f a k = record {
  normal = a.normal k.normal;
  holds = λ p x y.
      let here = k.holds p x y in
      let rests = subst (λ ps. RowsHold (plan_forms ps) p) e here.1 in
      (a.holds p here.0 (rows_first (plan_form plan) w (plan_forms rest) p f rests), rows_rest (plan_form plan) (plan_forms rest) p rests);
}

-- another plan adds none
pub rows_passed : (t : List Atom) (all left rest : List Plan) (plan : Plan) (atoms more : List Atom) → left ≡ plan ∷ rest → more ≡ atoms → WithRows t all left atoms → WithRows t all rest more
rows_passed t all left rest plan atoms more e m k = subst (WithRows t all rest) (sym m) (record {
  normal = k.normal;
  holds = λ p x y. let here = k.holds p x y in (here.0, rows_rest (plan_form plan) (plan_forms rest) p (subst (λ ps. RowsHold (plan_forms ps) p) e here.1));
})

-- ---- what they mention

coefs_over : (ss : List Slot) (cs : List (Slot × ℤ)) (u : Slot) → list_all (λ c. stands_in ss c.0) cs ≡ true → list_any (λ c. same_slot c.0 u) cs ≡ true → stands_in ss u ≡ true
coefs_over ss [] u h m = absurd (true≢false (sym m))
coefs_over ss (c ∷ cs) u h m = elim (or_split (same_slot c.0 u) _ m) [
  | inl e ↦ subst (λ s. stands_in ss s ≡ true) (same_slot_is c.0 u e) (and_left _ _ h)
  | inr e ↦ coefs_over ss cs u (and_right (stands_in ss c.0) _ h) e
]

either_over : (ss : List Slot) (s t u : Slot) → (stands_in ss s && stands_in ss t) ≡ true → (same_slot s u || same_slot t u) ≡ true → stands_in ss u ≡ true
either_over ss s t u h m = elim (or_split (same_slot s u) _ m) [
  | inl e ↦ subst (λ v. stands_in ss v ≡ true) (same_slot_is s u e) (and_left _ _ h)
  | inr e ↦ subst (λ v. stands_in ss v ≡ true) (same_slot_is t u e) (and_right (stands_in ss s) _ h)
]

theme_over : (ss : List Slot) (a : ThemeAtom) (u : Slot) → is_theme_over ss a ≡ true → theme_mentions a u ≡ true → stands_in ss u ≡ true
unfolding theme_mentions
theme_over ss (EqText s t) u h m = subst (λ s. stands_in ss s ≡ true) (same_slot_is s u m) h
theme_over ss (NeText s t) u h m = subst (λ s. stands_in ss s ≡ true) (same_slot_is s u m) h
theme_over ss (EqSlot s t) u h m = either_over ss s t u h m
theme_over ss (NeSlot s t) u h m = either_over ss s t u h m

-- an atom over the slots mentions only these
atom_over : (ss : List Slot) (a : Atom) (u : Slot) → is_over ss a ≡ true → atom_mentions a u ≡ true → stands_in ss u ≡ true
unfolding atom_mentions row_mentions
atom_over ss (First r) u h m = coefs_over ss r.coefs u h m
atom_over ss (Second a) u h m = theme_over ss a u h m

-- and so do atoms
pub atoms_over : (ss : List Slot) (t : List Atom) (u : Slot) → AllByRecursion (λ a. is_over ss a ≡ true) t → tuple_mentions t u ≡ true → stands_in ss u ≡ true
unfolding tuple_mentions
atoms_over ss [] u h m = absurd (true≢false (sym m))
atoms_over ss (a ∷ t) u h m = elim (or_split (atom_mentions a u) _ m) [ inl e ↦ atom_over ss a u h.0 e | inr e ↦ atoms_over ss t u h.1 e ]

-- atoms of which none mentions the slot
pub atoms_without : (t : List Atom) (u : Slot) → AllByRecursion (λ a. atom_mentions a u ≡ false) t → tuple_mentions t u ≡ false
unfolding tuple_mentions
atoms_without [] u h = refl
atoms_without (a ∷ t) u h = ap (λ b. b || tuple_mentions t u) h.0 ∙ atoms_without t u h.1
