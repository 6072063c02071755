-- What refutes some of the rows refutes all of them, with the number 0 for each other one.
use Rattle.std.proofs.Common.{◌≡◌, ℕ, suc, ◌+◌, ◌<◌, ◌≤◌, ◌==◌, Bool, true, false, ◌&&◌, ◌||◌, List, [], ◌∷◌, ◌++◌, length, drop, get_or, replicate, ⊎_elim, arith, refl, sym, ap, ap₂, ◌∙◌, true≢false}
use Rattle.std.specs.Prelude.{ℤ, pos, ◌+ℤ◌, ◌*ℤ◌}
use Rattle.std.specs.Borrow.{Bor}
use Rattle.std.specs.List.{AllByRecursion, list_all}
use Rattle.std.proofs.Math.Seq.{drop-cons}
use Rattle.std.specs.Ordering.{int_eq}
use Rattle.ded_num.specs.Length.{IsShort}
use Rattle.ded_num.proofs.Ring.{parts, ring_pos, diff_same}
use Rattle.ded_model.specs.declared.slot.Slot.{Slot}
use Rattle.ded_model.specs.declared.row.RowOp.{RowOp}
use Rattle.ded_model.specs.declared.row.RowOp.TheVariants.{Zero, AtMost, Below}
use Rattle.ded_model.specs.Constraint.{LinearConstraint}
use Rattle.ded_model.specs.Coefs.{AreCoefs, coef_at}
use Rattle.ded_model.specs.Row.{row_mentions}
use Rattle.ded_model.specs.Lines.{In, IsSubset, row_lines}
use Rattle.ded_model.proofs.LineCoefs.{coef_at-put_all}
use Rattle.ded_model.proofs.Members.{In-left, In-right, In-split, or_split}
use Rattle.ded_model.proofs.Points.{and_left, and_right}
use Rattle.ded_model.proofs.Rows.{or_left, or_right}
use Rattle.ded_theory.specs.Conjunctions.{conj_mentions, conj_lines}
use Rattle.ded_elimination.specs.LinearAtoms.{IsLinearAtom}
use Rattle.ded_weighing.specs.Columns.{lent}
use Rattle.ded_weighing.specs.Weighing.{weighed_coefs, weighed_constant, fits, signs_fit, is_strict_at, is_weak_at, is_strict, is_weak, constant_refutes, refutes}
use Rattle.ded_weighing.proofs.Vanishing.{ascend-weighed, zero_coefs, coef_zero}
use Rattle.ded_cert.specs.Certified.{magnitudes}
use Rattle.ded_cert.specs.Choosing.{chosen, spread}
use Rattle.ded_cert.specs.Tracing.{AreWideRows}
use Rattle.ded_cert.proofs.Multiplied.{same_count}

-- ---- chosen rows

pub chosen_linear : (fs : List Bool) (rs : List LinearConstraint) → AllByRecursion IsLinearAtom rs → AllByRecursion IsLinearAtom (chosen fs rs)
chosen_linear [] rs h = tt
chosen_linear (true ∷ fs) [] h = tt
chosen_linear (false ∷ fs) [] h = tt
chosen_linear (true ∷ fs) (r ∷ rs) h = (h.0, chosen_linear fs rs h.1)
chosen_linear (false ∷ fs) (r ∷ rs) h = chosen_linear fs rs h.1

chosen_lines : (fs : List Bool) (rs : List LinearConstraint) → IsSubset (conj_lines row_lines (chosen fs rs)) (conj_lines row_lines rs)
chosen_lines [] rs l i = absurd i
chosen_lines (true ∷ fs) [] l i = absurd i
chosen_lines (false ∷ fs) [] l i = absurd i
chosen_lines (true ∷ fs) (r ∷ rs) l i = ⊎_elim
    (λ (j : In l (row_lines r)). In-left l (row_lines r) (conj_lines row_lines rs) j)
    (λ j. In-right l (row_lines r) (conj_lines row_lines rs) (chosen_lines fs rs l j))
    (In-split l (row_lines r) (conj_lines row_lines (chosen fs rs)) i)
chosen_lines (false ∷ fs) (r ∷ rs) l i = In-right l (row_lines r) (conj_lines row_lines rs) (chosen_lines fs rs l i)

chosen_mention : (fs : List Bool) (rs : List LinearConstraint) (s : Slot) → conj_mentions row_mentions (chosen fs rs) s ≡ true → conj_mentions row_mentions rs s ≡ true
chosen_mention [] rs s h = absurd (true≢false (sym h))
chosen_mention (true ∷ fs) [] s h = absurd (true≢false (sym h))
chosen_mention (false ∷ fs) [] s h = absurd (true≢false (sym h))
chosen_mention (true ∷ fs) (r ∷ rs) s h = ⊎_elim
    (λ (e : row_mentions r s ≡ true). or_left (row_mentions r s) _ e)
    (λ e. or_right (row_mentions r s) _ (chosen_mention fs rs s e))
    (or_split (row_mentions r s) _ h)
chosen_mention (false ∷ fs) (r ∷ rs) s h = or_right (row_mentions r s) _ (chosen_mention fs rs s h)

-- rows of which some are wide are wide
pub chosen_wide : (fs : List Bool) (rs : List LinearConstraint) → AreWideRows (chosen fs rs) → AreWideRows rs
chosen_wide fs rs w = record { above = λ b h a ss has. w.above b h (λ l i. a l (chosen_lines fs rs l i)) ss (λ s m r. has s (chosen_mention fs rs s m) r) }

-- ---- numbers for all

spread_count : (fs : List Bool) (ms : List ℤ) → length (spread fs ms) ≡ length fs
spread_count [] ms = refl
spread_count (true ∷ fs) (m ∷ ms) = ap suc (spread_count fs ms)
spread_count (true ∷ fs) [] = ap suc (spread_count fs [])
spread_count (false ∷ fs) ms = ap suc (spread_count fs ms)

none_law : (f x : ℤ) → pos 0 *ℤ f +ℤ x ≡ x
none_law f x = rw (parts f, parts x) (simp ring_pos (diff_same _ _ _ _ (omega arith)))

-- further numbers don't count, and neither do missing ones
no_numbers : (s : Slot) (fs : List Bool) (rs : List LinearConstraint) → coef_at (weighed_coefs (spread fs []) rs) s ≡ pos 0
no_numbers s [] rs = refl
no_numbers s (true ∷ fs) [] = refl
no_numbers s (false ∷ fs) [] = refl
no_numbers s (true ∷ fs) (r ∷ rs) = coef_at-put_all (pos 0) r.coefs (weighed_coefs (spread fs []) rs) s ∙ none_law (coef_at r.coefs s) _ ∙ no_numbers s fs rs
no_numbers s (false ∷ fs) (r ∷ rs) = coef_at-put_all (pos 0) r.coefs (weighed_coefs (spread fs []) rs) s ∙ none_law (coef_at r.coefs s) _ ∙ no_numbers s fs rs

spread_coefs : (s : Slot) (fs : List Bool) (ms : List ℤ) (rs : List LinearConstraint) → coef_at (weighed_coefs (spread fs ms) rs) s ≡ coef_at (weighed_coefs ms (chosen fs rs)) s
spread_coefs s [] [] rs = refl
spread_coefs s [] (m ∷ ms) rs = refl
spread_coefs s (true ∷ fs) [] rs = no_numbers s (true ∷ fs) rs
spread_coefs s (true ∷ fs) (m ∷ ms) [] = refl
spread_coefs s (true ∷ fs) (m ∷ ms) (r ∷ rs) =
    coef_at-put_all m r.coefs (weighed_coefs (spread fs ms) rs) s ∙ ap (λ z. m *ℤ coef_at r.coefs s +ℤ z) (spread_coefs s fs ms rs) ∙ sym (coef_at-put_all m r.coefs (weighed_coefs ms (chosen fs rs)) s)
spread_coefs s (false ∷ fs) [] [] = refl
spread_coefs s (false ∷ fs) (m ∷ ms) [] = refl
spread_coefs s (false ∷ fs) ms (r ∷ rs) = coef_at-put_all (pos 0) r.coefs (weighed_coefs (spread fs ms) rs) s ∙ none_law (coef_at r.coefs s) _ ∙ spread_coefs s fs ms rs

no_constants : (fs : List Bool) (rs : List LinearConstraint) → weighed_constant (spread fs []) rs ≡ pos 0
no_constants [] rs = refl
no_constants (true ∷ fs) [] = refl
no_constants (false ∷ fs) [] = refl
no_constants (true ∷ fs) (r ∷ rs) = none_law r.constant _ ∙ no_constants fs rs
no_constants (false ∷ fs) (r ∷ rs) = none_law r.constant _ ∙ no_constants fs rs

spread_constant : (fs : List Bool) (ms : List ℤ) (rs : List LinearConstraint) → weighed_constant (spread fs ms) rs ≡ weighed_constant ms (chosen fs rs)
spread_constant [] [] rs = refl
spread_constant [] (m ∷ ms) rs = refl
spread_constant (true ∷ fs) [] rs = no_constants (true ∷ fs) rs
spread_constant (true ∷ fs) (m ∷ ms) [] = refl
spread_constant (true ∷ fs) (m ∷ ms) (r ∷ rs) = ap (λ z. m *ℤ r.constant +ℤ z) (spread_constant fs ms rs)
spread_constant (false ∷ fs) [] [] = refl
spread_constant (false ∷ fs) (m ∷ ms) [] = refl
spread_constant (false ∷ fs) ms (r ∷ rs) = none_law r.constant _ ∙ spread_constant fs ms rs

-- ---- signs

fits_none : (op : RowOp) → fits op (pos 0) ≡ true
fits_none Zero = refl
fits_none AtMost = refl
fits_none Below = refl

strict_none : (op : RowOp) → is_strict_at op (pos 0) ≡ false
strict_none Zero = refl
strict_none AtMost = refl
strict_none Below = refl

weak_none : (op : RowOp) → is_weak_at op (pos 0) ≡ false
weak_none Zero = refl
weak_none AtMost = refl
weak_none Below = refl

skip_and : (x y : Bool) → x ≡ true → (x && y) ≡ y
skip_and x y e = rw e refl

skip_or : (x y : Bool) → x ≡ false → (x || y) ≡ y
skip_or x y e = rw e refl

no_signs : (fs : List Bool) (rs : List LinearConstraint) → signs_fit (spread fs []) rs ≡ true
no_signs [] rs = refl
no_signs (true ∷ fs) [] = refl
no_signs (false ∷ fs) [] = refl
no_signs (true ∷ fs) (r ∷ rs) = skip_and (fits r.op (pos 0)) _ (fits_none r.op) ∙ no_signs fs rs
no_signs (false ∷ fs) (r ∷ rs) = skip_and (fits r.op (pos 0)) _ (fits_none r.op) ∙ no_signs fs rs

spread_signs : (fs : List Bool) (ms : List ℤ) (rs : List LinearConstraint) → signs_fit (spread fs ms) rs ≡ signs_fit ms (chosen fs rs)
spread_signs [] [] rs = refl
spread_signs [] (m ∷ ms) rs = refl
spread_signs (true ∷ fs) [] rs = no_signs (true ∷ fs) rs
spread_signs (true ∷ fs) (m ∷ ms) [] = refl
spread_signs (true ∷ fs) (m ∷ ms) (r ∷ rs) = ap (λ b. fits r.op m && b) (spread_signs fs ms rs)
spread_signs (false ∷ fs) [] [] = refl
spread_signs (false ∷ fs) (m ∷ ms) [] = refl
spread_signs (false ∷ fs) ms (r ∷ rs) = skip_and (fits r.op (pos 0)) _ (fits_none r.op) ∙ spread_signs fs ms rs

no_strict : (fs : List Bool) (rs : List LinearConstraint) → is_strict (spread fs []) rs ≡ false
no_strict [] rs = refl
no_strict (true ∷ fs) [] = refl
no_strict (false ∷ fs) [] = refl
no_strict (true ∷ fs) (r ∷ rs) = skip_or (is_strict_at r.op (pos 0)) _ (strict_none r.op) ∙ no_strict fs rs
no_strict (false ∷ fs) (r ∷ rs) = skip_or (is_strict_at r.op (pos 0)) _ (strict_none r.op) ∙ no_strict fs rs

spread_strict : (fs : List Bool) (ms : List ℤ) (rs : List LinearConstraint) → is_strict (spread fs ms) rs ≡ is_strict ms (chosen fs rs)
spread_strict [] [] rs = refl
spread_strict [] (m ∷ ms) rs = refl
spread_strict (true ∷ fs) [] rs = no_strict (true ∷ fs) rs
spread_strict (true ∷ fs) (m ∷ ms) [] = refl
spread_strict (true ∷ fs) (m ∷ ms) (r ∷ rs) = ap (λ b. is_strict_at r.op m || b) (spread_strict fs ms rs)
spread_strict (false ∷ fs) [] [] = refl
spread_strict (false ∷ fs) (m ∷ ms) [] = refl
spread_strict (false ∷ fs) ms (r ∷ rs) = skip_or (is_strict_at r.op (pos 0)) _ (strict_none r.op) ∙ spread_strict fs ms rs

no_weak : (fs : List Bool) (rs : List LinearConstraint) → is_weak (spread fs []) rs ≡ false
no_weak [] rs = refl
no_weak (true ∷ fs) [] = refl
no_weak (false ∷ fs) [] = refl
no_weak (true ∷ fs) (r ∷ rs) = skip_or (is_weak_at r.op (pos 0)) _ (weak_none r.op) ∙ no_weak fs rs
no_weak (false ∷ fs) (r ∷ rs) = skip_or (is_weak_at r.op (pos 0)) _ (weak_none r.op) ∙ no_weak fs rs

spread_weak : (fs : List Bool) (ms : List ℤ) (rs : List LinearConstraint) → is_weak (spread fs ms) rs ≡ is_weak ms (chosen fs rs)
spread_weak [] [] rs = refl
spread_weak [] (m ∷ ms) rs = refl
spread_weak (true ∷ fs) [] rs = no_weak (true ∷ fs) rs
spread_weak (true ∷ fs) (m ∷ ms) [] = refl
spread_weak (true ∷ fs) (m ∷ ms) (r ∷ rs) = ap (λ b. is_weak_at r.op m || b) (spread_weak fs ms rs)
spread_weak (false ∷ fs) [] [] = refl
spread_weak (false ∷ fs) (m ∷ ms) [] = refl
spread_weak (false ∷ fs) ms (r ∷ rs) = skip_or (is_weak_at r.op (pos 0)) _ (weak_none r.op) ∙ spread_weak fs ms rs

-- ---- all of it

four : (w x y z : Bool) → w ≡ true → x ≡ true → y ≡ true → z ≡ true → (w && (x && (y && z))) ≡ true
four w x y z f g i j = rw (f, g, i, j) refl

three : (a b a' b' : Bool) (c c' : ℤ) → a ≡ a' → b ≡ b' → c ≡ c' → constant_refutes a' b' c' ≡ true → constant_refutes a b c ≡ true
three a b a' b' c c' e f g h = rw (e, f, g) h

pub spread_refutes : (fs : List Bool) (ms : List ℤ) (rs : List LinearConstraint) → length fs ≡ length rs → AllByRecursion (λ r. AreCoefs r.coefs) rs → refutes ms (chosen fs rs) ≡ true → refutes (spread fs ms) rs ≡ true
spread_refutes fs ms rs e coefs h =
    let xs = chosen fs rs in
    let signs = signs_fit ms xs in
    let none = list_all (λ c. int_eq c.1 (pos 0)) (weighed_coefs ms xs) in
    let tells = constant_refutes (is_strict ms xs) (is_weak ms xs) (weighed_constant ms xs) in
    let behind : (signs && (none && tells)) ≡ true = and_right (length ms == length xs) (signs && (none && tells)) h in
    let last : (none && tells) ≡ true = and_right signs (none && tells) behind in
    four (length (spread fs ms) == length rs) (signs_fit (spread fs ms) rs) (list_all (λ c. int_eq c.1 (pos 0)) (weighed_coefs (spread fs ms) rs))
    (constant_refutes (is_strict (spread fs ms) rs) (is_weak (spread fs ms) rs) (weighed_constant (spread fs ms) rs))
    (same_count (length (spread fs ms)) (length rs) (spread_count fs ms ∙ e)) (spread_signs fs ms rs ∙ and_left signs (none && tells) behind)
    (zero_coefs (weighed_coefs (spread fs ms) rs) (ascend-weighed (spread fs ms) rs coefs) (λ s k. spread_coefs s fs ms rs ∙ coef_zero (weighed_coefs ms xs) s (and_left none tells last)))
    (three (is_strict (spread fs ms) rs) (is_weak (spread fs ms) rs) (is_strict ms xs) (is_weak ms xs) (weighed_constant (spread fs ms) rs) (weighed_constant ms xs) (spread_strict fs ms rs) (spread_weak fs ms rs) (spread_constant fs ms rs)
    (and_right none tells last))

pub spread_small : (fs : List Bool) (ms : List ℤ) → magnitudes (spread fs ms) ≤ magnitudes ms
spread_small [] ms = omega arith
spread_small (true ∷ fs) (m ∷ ms) = let i = spread_small fs ms in omega (arith, i)
spread_small (true ∷ fs) [] = let i = spread_small fs [] in omega (arith, i)
spread_small (false ∷ fs) ms = let i = spread_small fs ms in omega (arith, i)

pub spread_short : (fs : List Bool) (ms : List ℤ) → AllByRecursion IsShort ms → AllByRecursion IsShort (spread fs ms)
spread_short [] ms h = tt
spread_short (true ∷ fs) (m ∷ ms) h = (h.0, spread_short fs ms h.1)
spread_short (true ∷ fs) [] h = (omega arith, spread_short fs [] tt)
spread_short (false ∷ fs) ms h = (omega arith, spread_short fs ms h)

-- ---- one row more

-- the next row, where it is chosen
pub chosen_next : (fs : List Bool) (rs : List (Bor LinearConstraint)) (i : ℕ) (f : Bool) (r : Bor LinearConstraint) (before all : List LinearConstraint) → i < length rs → length fs ≡ length rs → f ≡ get_or fs i false → r ≡ get_or rs i r
    → before ++ chosen (drop i fs) (lent (drop i rs)) ≡ all → (before ++ chosen (f ∷ []) (r.now ∷ [])) ++ chosen (drop (i + 1) fs) (lent (drop (i + 1) rs)) ≡ all
chosen_next fs rs i f r before all h e g k same =
    let one : suc i ≡ i + 1 = omega arith in
    let at : drop i fs ≡ f ∷ drop (i + 1) fs = drop-cons fs i false (omega (arith, h, e)) ∙ ap (λ x. x ∷ drop (suc i) fs) (sym g) ∙ ap (λ n. f ∷ drop n fs) one in
    let there : drop i rs ≡ r ∷ drop (i + 1) rs = drop-cons rs i r h ∙ ap (λ x. x ∷ drop (suc i) rs) (sym k) ∙ ap (λ n. r ∷ drop n rs) one in
    by f before (drop (i + 1) fs) (lent (drop (i + 1) rs)) ∙ ap₂ (λ xs ys. before ++ chosen xs (lent ys)) (sym at) (sym there) ∙ same
  where
    none : (xs ys : List LinearConstraint) → (xs ++ []) ++ ys ≡ xs ++ ys
    none [] ys = refl
    none (x ∷ xs) ys = ap (λ zs. x ∷ zs) (none xs ys)

    some : (xs ys : List LinearConstraint) → (xs ++ r.now ∷ []) ++ ys ≡ xs ++ r.now ∷ ys
    some [] ys = refl
    some (x ∷ xs) ys = ap (λ zs. x ∷ zs) (some xs ys)

    by : (f : Bool) (xs : List LinearConstraint) (gs : List Bool) (ys : List LinearConstraint) → (xs ++ chosen (f ∷ []) (r.now ∷ [])) ++ chosen gs ys ≡ xs ++ chosen (f ∷ gs) (r.now ∷ ys)
    by true xs gs ys = some xs (chosen gs ys)
    by false xs gs ys = none xs (chosen gs ys)

-- at first all are chosen
pub all_chosen : (rs : List LinearConstraint) → chosen (replicate (length rs) true) rs ≡ rs
all_chosen [] = refl
all_chosen (r ∷ rs) = ap (λ xs. r ∷ xs) (all_chosen rs)

pub lent_length : (rs : List (Bor LinearConstraint)) → length (lent rs) ≡ length rs
lent_length [] = refl
lent_length (r ∷ rs) = ap suc (lent_length rs)

-- the next number
pub spread_next : (fs : List Bool) (i : ℕ) (f : Bool) (xs all : List ℤ) (ms rest : List ℤ) (m : ℤ) → i < length fs → f ≡ get_or fs i false → ((gs : List Bool) → spread (f ∷ gs) ms ≡ m ∷ spread gs rest)
    → xs ++ spread (drop i fs) ms ≡ all → (xs ++ m ∷ []) ++ spread (drop (i + 1) fs) rest ≡ all
spread_next fs i f xs all ms rest m h e g same =
    let one : suc i ≡ i + 1 = omega arith in
    let at : drop i fs ≡ f ∷ drop (i + 1) fs = drop-cons fs i false h ∙ ap (λ x. x ∷ drop (suc i) fs) (sym e) ∙ ap (λ n. f ∷ drop n fs) one in
    some xs (spread (drop (i + 1) fs) rest) ∙ ap (λ ys. xs ++ ys) (sym (g (drop (i + 1) fs)) ∙ ap (λ gs. spread gs ms) (sym at)) ∙ same
  where
    some : (xs ys : List ℤ) → (xs ++ m ∷ []) ++ ys ≡ xs ++ m ∷ ys
    some [] ys = refl
    some (x ∷ xs) ys = ap (λ zs. x ∷ zs) (some xs ys)
