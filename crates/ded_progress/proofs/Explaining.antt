-- The plan of the goal of an accepted formula, compiled and rewritten, is a plan of the formula.
use Rattle.std.proofs.Common.{◌≡◌, ℕ, suc, ◌<◌, ◌≤◌, max, Bool, true, false, cond, List, [], ◌∷◌, ◌++◌, map, arith, refl, sym, true≢false}
use Rattle.std.specs.Prelude.{ℤ, pos, ◌+ℤ◌, nat_lt}
use lib.IntN.{neg_ℤ}
use Rattle.std.specs.List.{AllByRecursion}
use Rattle.ded_num.specs.Length.{length_of}
use Rattle.ded_num.proofs.Lengths.{within_from_length}
use Rattle.ded_model.specs.declared.command.Refusal.TheVariants.{Many, Twice, Unknown, Arity, Unbound, WrongSort}
use Rattle.ded_model.specs.declared.goal.Place.{Place}
use Rattle.ded_model.specs.declared.goal.Place.TheVariants.{At, Value, Quoted}
use Rattle.ded_model.specs.declared.name.Column.{Column}
use Rattle.ded_model.specs.declared.row.RowOp.TheVariants.{Zero}
use Rattle.ded_model.specs.declared.slot.Slot.{Slot}
use Rattle.ded_model.specs.declared.slot.Sort.{Sort}
use Rattle.ded_model.specs.declared.slot.Sort.TheVariants.{Rat, Text}
use Rattle.ded_model.specs.declared.tuple.BothAtom.TheVariants.{First, Second}
use Rattle.ded_model.specs.declared.tuple.ThemeAtom.{ThemeAtom}
use Rattle.ded_model.specs.declared.tuple.ThemeAtom.TheVariants.{EqText, NeText, EqSlot, NeSlot}
use Rattle.ded_model.specs.Catalogue.{Catalogue}
use Rattle.ded_model.specs.Coefs.{AreCoefs, put, put_all}
use Rattle.ded_model.specs.Command.{explain}
use Rattle.ded_model.specs.Constraint.{LinearConstraint}
use Rattle.ded_model.specs.Entries.{known}
use Rattle.ded_model.specs.Form.{Form}
use Rattle.ded_model.specs.Goal.{GoalAtom, linear, theme, GoalForm}
use Rattle.ded_model.specs.Goal as goal
use Rattle.ded_model.specs.Known.{KnownNames, IsAccepted, IsWellFormed, has_missorted}
use Rattle.ded_model.specs.Logic.{Logic, Logics, atom, always, never, negation, every_of, some_of, implies, minus, exists, forall, none, also, logics, some_atom, greatest, greatest_of, AllAtoms, AllAtomsOf}
use Rattle.ded_model.specs.LongRows.{is_long_atom}
use Rattle.ded_model.specs.Measure.{Measures, goal_atom_b, measures}
use Rattle.ded_model.specs.Normal.{IsNormalAtom, IsNormalRow, IsNormalTheme, IsNormalTuple, normal_row, is_true_row}
use Rattle.ded_model.specs.NormalGoal.{IsOrderedTheme, IsNormalGoalAtom, IsNormalGoal}
use Rattle.ded_model.specs.Plain.{IsPlain}
use Rattle.ded_model.specs.PlanForm.{PlanForm, scan}
use Rattle.ded_model.specs.Point.{slot, same_slot, stands_in}
use Rattle.ded_model.specs.Row.{Atom}
use Rattle.ded_model.specs.Scanned.{kept, fresh, argument_row, of_slot, same_atom, scanned_after, scanned, first_free, scanned_slots, fresh_slots, tied_atoms}
use Rattle.ded_model.specs.ShortRows.{HasShortRows}
use Rattle.ded_model.specs.Slotted.{goal_of, goal_atoms}
use Rattle.ded_model.specs.Sum.{SlotSum, denominator}
use Rattle.ded_model.specs.Width.{greatest_length, row_length, tuple_length}
use Rattle.ded_model.proofs.LineCoefs.{AllNonzero}
use Rattle.ded_width.specs.Reach.{AreAscending, IsAscendingGoalAtom}
use Rattle.ded_width.proofs.ArgumentSlots.{arguments_distinct}
use Rattle.ded_width.proofs.AscendingGoals.{accepted_ascending}
use Rattle.ded_width.proofs.ShortLines.{formula_length}
use Rattle.ded_width.proofs.Ties.{AreGoodRows, ties_good}
use Rattle.ded_reread.specs.ScriptWords.{IsText}
use Rattle.ded_reread.specs.Words.{HasTexts}
use Rattle.ded_reread.proofs.WordsTrees.{Written}
use Rattle.ded_algebra.specs.Compile.{row_plan, joined, projected, atom_plan, plan_of, plans_of}
use Rattle.ded_algebra.specs.Compiled.{AreByteTexts, HasByteTexts}
use Rattle.ded_algebra.proofs.Compiled.{plan_compiled}
use Rattle.ded_plan.specs.Rewrite.{rewritten}
use Rattle.ded_plan.specs.Rewritten.{EachProjectsSlots, IsTidyAtom, IsTidyPlan}
use Rattle.ded_plan.proofs.Composed.{planned}
use Rattle.ded_plan.proofs.PlansOfFormulas.{plan_of-formula}
use Rattle.ded_plan.proofs.Rewritten.{is_rewritten}
use Rattle.ded_plan.proofs.TidyPlans.{all_weaker}
use Rattle.ded_session.specs.Carrying.{NoCause}
use Rattle.ded_session.specs.Replies.{steps}
use Rattle.ded_model.proofs.Bools.{or_false_left}
use Rattle.ded_progress.specs.Progress.{IsDone}
use Rattle.ded_progress.proofs.Wording.{text_bytes, IsWorded, goal_worded, OverSlots, EachOverSlots, goal_over}

-- ---- what each atom has, and all of them together

module _ {L : Type 0} (P Q : L → Type 0) where
  mutual
    both_have : (f : Logic L) → AllAtoms P f → AllAtoms Q f → AllAtoms (λ a. P a × Q a) f
    both_have (atom a) h k = (h, k)
    both_have always h k = tt
    both_have never h k = tt
    both_have (negation f) h k = both_have f h k
    both_have (every_of fs) h k = all_have fs h k
    both_have (some_of fs) h k = all_have fs h k
    both_have (implies f g) h k = (both_have f h.0 k.0, both_have g h.1 k.1)
    both_have (minus f g) h k = (both_have f h.0 k.0, both_have g h.1 k.1)
    both_have (exists s x f) h k = both_have f h k
    both_have (forall s x f) h k = both_have f h k

    all_have : (fs : Logics L) → AllAtomsOf P fs → AllAtomsOf Q fs → AllAtomsOf (λ a. P a × Q a) fs
    all_have none h k = tt
    all_have (also f fs) h k = (both_have f h.0 k.0, all_have fs h.1 k.1)

below : (m n : ℕ) → max m n ≤ 63 → (m ≤ 63) × (n ≤ 63)
below m n h = (omega (arith, h), omega (arith, h))

module _ {L : Type 0} (measure : L → ℕ) where
  mutual
    each_within : (f : Logic L) → greatest measure f ≤ 63 → AllAtoms (λ a. measure a ≤ 63) f
    each_within (atom a) h = h
    each_within always h = tt
    each_within never h = tt
    each_within (negation f) h = each_within f h
    each_within (every_of fs) h = all_within fs h
    each_within (some_of fs) h = all_within fs h
    each_within (implies f g) h = let k = below (greatest measure f) (greatest measure g) h in (each_within f k.0, each_within g k.1)
    each_within (minus f g) h = let k = below (greatest measure f) (greatest measure g) h in (each_within f k.0, each_within g k.1)
    each_within (exists s x f) h = each_within f h
    each_within (forall s x f) h = each_within f h

    all_within : (fs : Logics L) → greatest_of measure fs ≤ 63 → AllAtomsOf (λ a. measure a ≤ 63) fs
    all_within none h = tt
    all_within (also f fs) h = let k = below (greatest measure f) (greatest_of measure fs) h in (each_within f k.0, all_within fs k.1)

-- ---- normal atoms

coefs_kept : (cs : List (Slot × ℤ)) → AreAscending cs → AllNonzero cs → greatest_length (map (λ c. c.1) cs) ≤ 63 → AreCoefs cs
coefs_kept [] a z l = tt
coefs_kept (c ∷ cs) a z l =
    let both = below (length_of c.1) (greatest_length (map (λ d. d.1) cs)) l in
    (a.0, within_from_length c.1 127 (omega (arith, both.0)), z.0, a.1, coefs_kept cs a.2 z.1 both.1)

row_kept : (r : LinearConstraint) → AreAscending r.coefs → AllNonzero r.coefs → row_length r ≤ 63 → AreCoefs r.coefs
row_kept r a z l = coefs_kept r.coefs a z (below (length_of r.constant) (greatest_length (map (λ c. c.1) r.coefs)) l).1

theme_normal : (a : ThemeAtom) → IsOrderedTheme a → HasTexts IsText (Second a) → IsNormalTheme a
theme_normal (EqText s t) n h = (n, text_bytes t h)
theme_normal (NeText s t) n h = (n, text_bytes t h)
theme_normal (EqSlot s t) n h = n
theme_normal (NeSlot s t) n h = n

-- ---- atoms that tie new slots

-- a row with coefficients is true nowhere by itself
some_coefs : List (Slot × ℤ) → Bool
some_coefs [] = false
some_coefs (c ∷ cs) = true

not_true : (xs : List (Slot × ℤ)) (m : ℤ) → some_coefs xs ≡ true → is_true_row (normal_row (record { coefs = xs; constant = m; op = Zero })) ≡ false
unfolding normal_row some_coefs
not_true [] m h = absurd (true≢false (sym h))
not_true (c ∷ cs) m h = refl

put_some : (u : Slot) (z : ℤ) (cs : List (Slot × ℤ)) → some_coefs (put u z cs) ≡ true
unfolding some_coefs
put_some u z [] = refl
put_some u z (c ∷ cs) = either (same_slot c.0 u) (nat_lt u.number c.0.number) ((c.0, z +ℤ c.1) ∷ cs) ((u, z) ∷ c ∷ cs) (c ∷ put u z cs) refl refl refl
  where
    either : (b d : Bool) (xs ys zs : List (Slot × ℤ)) → some_coefs xs ≡ true → some_coefs ys ≡ true → some_coefs zs ≡ true → some_coefs (cond b xs (cond d ys zs)) ≡ true
    either true d xs ys zs h k l = h
    either false true xs ys zs h k l = k
    either false false xs ys zs h k l = l

argument_some : (u : Slot) (t : SlotSum) → is_true_row (argument_row u t) ≡ false
argument_some u t = not_true (put u (pos (denominator t.over)) (put_all (neg_ℤ (pos 1)) t.coefs [])) (neg_ℤ t.constant) (put_some u (pos (denominator t.over)) (put_all (neg_ℤ (pos 1)) t.coefs []))

-- no row among the atoms is true, and the text atoms are normal
abbrev IsTie : Atom → Type 0
IsTie (First r) = is_true_row r ≡ false
IsTie (Second a) = IsNormalTheme a

same_tie : (n : ℕ) (x : Sort) (s : Slot) → s.sort ≡ x → s.number < n → IsTie (same_atom n x s)
same_tie n Rat s e h = argument_some (record { number = n; sort = Rat }) (of_slot s)
same_tie n Text s e h = (e, refl, h)

ties_are : (done : List Slot) (n : ℕ) (ts : List Place) → first_free ts ≤ n → AreByteTexts ts → AllByRecursion IsTie (tied_atoms (scanned_after done n ts))
ties_are done n [] l b = tt
ties_are done n (At s ∷ ts) l b =
    by (stands_in done s) (ties_are (done ++ record { number = n; sort = s.sort } ∷ []) (suc n) ts (omega (arith, l)) b.1) (ties_are (done ++ s ∷ []) n ts (omega (arith, l)) b.1)
  where
    by : (d : Bool) → AllByRecursion IsTie (tied_atoms (scanned_after (done ++ record { number = n; sort = s.sort } ∷ []) (suc n) ts)) → AllByRecursion IsTie (tied_atoms (scanned_after (done ++ s ∷ []) n ts))
        → AllByRecursion IsTie (tied_atoms (cond d (fresh (record { number = n; sort = s.sort }) (same_atom n s.sort s) ∷ scanned_after (done ++ record { number = n; sort = s.sort } ∷ []) (suc n) ts) (kept s ∷ scanned_after (done ++ s ∷ []) n ts)))
    by true new old = (same_tie n s.sort s refl (omega (arith, l)), new)
    by false new old = old
ties_are done n (Value t ∷ ts) l b =
    (argument_some (record { number = n; sort = Rat }) t, ties_are (done ++ record { number = n; sort = Rat } ∷ []) (suc n) ts (omega (arith, l)) b.1)
ties_are done n (Quoted x ∷ ts) l b = ((refl, b.0), ties_are (done ++ record { number = n; sort = Text } ∷ []) (suc n) ts (omega (arith, l)) b.1)

ties_normal : (atoms : List Atom) → AreGoodRows atoms → AllByRecursion IsTie atoms → tuple_length atoms ≤ 63 → AllByRecursion IsNormalAtom atoms
ties_normal [] g t l = tt
ties_normal (First r ∷ atoms) g t l =
    let both = below (row_length r) (tuple_length atoms) l in
    ((row_kept r g.0.ascending g.0.nonzero both.0, record { normal = g.0.normal }, t.0), ties_normal atoms g.1 t.1 both.1)
ties_normal (Second a ∷ atoms) g t l = (t.0, ties_normal atoms g t.1 l)

-- ---- tidy plans

-- what each atom of the goal has
abbrev IsFit : GoalAtom → Type 0
IsFit (linear r) = AreCoefs r.coefs × IsNormalRow r
IsFit (theme a) = IsNormalTheme a
IsFit (goal.member n ts) = AreByteTexts ts × AllByRecursion IsNormalAtom (tied_atoms (scanned ts))

row_tidy : (r : LinearConstraint) → AreCoefs r.coefs → IsNormalRow r → IsNormalTuple (goal_atoms (atom (linear r)))
row_tidy r k n = by (is_true_row r) refl
  where
    by : (b : Bool) → is_true_row r ≡ b → IsNormalTuple (cond b [] (First r ∷ []))
    by true e = tt
    by false e = ((k, n, e), tt, tt)

ties_tidy : (atoms : List Atom) → AllByRecursion IsNormalAtom atoms → EachProjectsSlots (logics (map row_plan atoms)) × AllAtomsOf IsTidyAtom (logics (map row_plan atoms))
ties_tidy [] n = (tt, tt)
ties_tidy (a ∷ atoms) n = let k = ties_tidy atoms n.1 in ((tt, k.0), ((n.0, tt, tt), k.1))

joined_tidy : (f : PlanForm) (atoms : List Atom) → IsTidyPlan f → AllByRecursion IsNormalAtom atoms → IsTidyPlan (joined f (map row_plan atoms))
joined_tidy f [] t n = t
joined_tidy f (a ∷ atoms) t n = let k = ties_tidy (a ∷ atoms) n in ((t.0, k.0), (t.1, k.1))

projected_tidy : (ss : List Slot) (f : PlanForm) → IsTidyPlan f → IsTidyPlan (projected ss f)
projected_tidy [] f t = t
projected_tidy (s ∷ ss) f t = projected_tidy ss (exists s.sort (slot s) f) ((refl, t.0), t.1)

atom_tidy : (a : GoalAtom) → IsFit a → IsTidyPlan (atom_plan a)
atom_tidy (linear r) h = (tt, row_tidy r h.0 h.1)
atom_tidy (theme a) h = (tt, (h, tt, tt))
atom_tidy (goal.member n ts) h =
    projected_tidy (fresh_slots (scanned ts)) (joined (atom (scan n (scanned_slots (scanned ts)))) (map row_plan (tied_atoms (scanned ts))))
    (joined_tidy (atom (scan n (scanned_slots (scanned ts)))) (tied_atoms (scanned ts)) (tt, arguments_distinct ts) h.1)

mutual
  plan_tidy : (g : GoalForm) → AllAtoms IsFit g → OverSlots g → IsTidyPlan (plan_of g)
  plan_tidy (atom a) h o = atom_tidy a h
  plan_tidy always h o = (tt, tt)
  plan_tidy never h o = (tt, tt)
  plan_tidy (negation g) h o = plan_tidy g h o
  plan_tidy (every_of gs) h o = plans_tidy gs h o
  plan_tidy (some_of gs) h o = plans_tidy gs h o
  plan_tidy (implies f g) h o =
      let x = plan_tidy f h.0 o.0 in
      let y = plan_tidy g h.1 o.1 in
      ((x.0, (y.0, tt)), (x.1, (y.1, tt)))
  plan_tidy (minus f g) h o =
      let x = plan_tidy f h.0 o.0 in
      let y = plan_tidy g h.1 o.1 in
      ((x.0, y.0), (x.1, y.1))
  plan_tidy (exists s k g) h o = let x = plan_tidy g h o.1 in ((o.0, x.0), x.1)
  plan_tidy (forall s k g) h o = let x = plan_tidy g h o.1 in ((o.0, x.0), x.1)

  plans_tidy : (gs : Logics GoalAtom) → AllAtomsOf IsFit gs → EachOverSlots gs → EachProjectsSlots (plans_of gs) × AllAtomsOf IsTidyAtom (plans_of gs)
  plans_tidy none h o = (tt, tt)
  plans_tidy (also g gs) h o =
      let x = plan_tidy g h.0 o.0 in
      let y = plans_tidy gs h.1 o.1 in
      ((x.0, y.0), (x.1, y.1))

-- ---- the goal of an accepted formula

-- what is known of each atom of it
abbrev IsKnownAtom : Measures → GoalAtom → Type 0
IsKnownAtom M a = (IsNormalGoalAtom a × IsAscendingGoalAtom a) × (IsWorded a × (goal_atom_b M a ≤ 63))

atom_fits : (M : Measures) (a : GoalAtom) → IsKnownAtom M a → IsFit a
atom_fits M (linear r) h = (row_kept r h.0.1 h.1.0 h.1.1, h.0.0)
atom_fits M (theme a) h = theme_normal a h.0.0 h.1.0
atom_fits M (goal.member n ts) h =
    (h.1.0.0, ties_normal (tied_atoms (scanned ts)) (ties_good ts h.0.1 h.1.0.1) (ties_are [] (first_free ts) ts (omega arith) h.1.0.0) (below (M n).b (tuple_length (tied_atoms (scanned ts))) h.1.1).1)

fit_bytes : (a : GoalAtom) → IsFit a → HasByteTexts a
fit_bytes (linear r) h = tt
fit_bytes (theme a) h = tt
fit_bytes (goal.member n ts) h = h.0

-- goals of accepted formulas are normal
abbrev pub AreNormalGoals : Type 0
AreNormalGoals = (known : KnownNames) (h : List Column) (f : Form) → IsAccepted known h f → IsNormalGoal (goal_of h f)

module _ (goals : AreNormalGoals) (c : Catalogue) (w : IsWellFormed c) (views : AllByRecursion HasShortRows c.entries) (h : List Column) (f : Form) where
  goal_fits : IsAccepted (known c) h f → IsPlain f → some_atom is_long_atom f ≡ false → Written f → AllAtoms IsFit (goal_of h f)
  goal_fits a p s words =
      let M = measures c in
      let g = goal_of h f in
      all_weaker (IsKnownAtom M) IsFit (atom_fits M) g
      (both_have (λ x. IsNormalGoalAtom x × IsAscendingGoalAtom x) (λ x. IsWorded x × (goal_atom_b M x ≤ 63)) g
      (both_have IsNormalGoalAtom IsAscendingGoalAtom g (goals (known c) h f a) (accepted_ascending (known c) h f a.sorted))
      (both_have IsWorded (λ x. goal_atom_b M x ≤ 63) g (goal_worded h f words) (each_within (goal_atom_b M) g (formula_length c w views h f a p s))))

  pub explain_done : NoCause c (explain h f) → IsPlain f → some_atom is_long_atom f ≡ false → Written f → IsDone c (explain h f)
  explain_done free p s words =
      let a : IsAccepted (known c) h f = record {
        few = free Many;
        once = free Twice;
        known = free Unknown;
        arity = free Arity;
        bound = free Unbound;
        sorted = or_false_left (has_missorted (known c) h f) false (free WrongSort);
      } in
      let g = goal_of h f in
      let fits = goal_fits a p s words in
      let tidy = plan_tidy g fits (goal_over h f) in
      let compiled = plan_compiled g (goals (known c) h f a) (all_weaker IsFit HasByteTexts fit_bytes g fits) in
      record {
        reply = steps (rewritten (plan_of g));
        next = c;
        does = (plan_of-formula c h f (rewritten (plan_of g)) a (planned g (plan_of g) (rewritten (plan_of g)) compiled (is_rewritten (plan_of g) tidy)), refl);
        answer = refl;
      }
