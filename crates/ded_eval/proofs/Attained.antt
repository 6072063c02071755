-- Atoms that hold at a point hold wherever the values at their slots are the same, and so where extensions have these values.
use Rattle.std.proofs.Common.{◌≡◌, ℕ, ◌*◌, ◌+◌, ◌<◌, ◌≤◌, suc, drop, Vec, Global, length, get_or, Bool, true, false, not, ◌&&◌, ◌||◌, List, [], ◌∷◌, ◌++◌, ⊎_elim, ◌⊎◌, arith, refl, sym, ap, ap₂, ◌∙◌, subst, true≢false, bytes_eq}
use Rattle.std.specs.Prelude.{ℤ, pos, ◌*ℤ◌}
use Rattle.std.specs.List.{list_all}
use Rattle.std.proofs.Math.IntN.{zero-*ℤ}
use Rattle.std.proofs.Math.Seq.{drop-cons}
use Rattle.std.proofs.Math.ListN.{drop_of_length-le}
use Rattle.ded_num.proofs.Ring.{parts}
use Rattle.ded_model.specs.declared.slot.Slot.{Slot}
use Rattle.ded_model.specs.declared.slot.Sort.{Sort}
use Rattle.ded_model.specs.declared.slot.Sort.TheVariants.{Rat, Text}
use Rattle.ded_model.specs.Catalogue.{Catalogue, stored, GivenHolds}
use Rattle.ded_model.specs.Cell.{conj_holds}
use Rattle.ded_model.specs.Coefs.{AreCoefs}
use Rattle.ded_model.specs.Constraint.{LinearConstraint}
use Rattle.ded_model.specs.Logic.{exists, every_of, logics, SatEvery}
use Rattle.ded_model.specs.PlanForm.{PlanForm, PlanAtomHolds}
use Rattle.ded_model.specs.Point.{slot, Point, IsPoint, IsExtension, IsNumberExtension, IsTextExtension, number_at, text_at, same_slot, stands_in}
use Rattle.ded_model.specs.Row.{sum_at, row_at, row_holds, theme_holds}
use Rattle.ded_model.proofs.Members.{or_split}
use Rattle.ded_model.proofs.Numbers.{extended, extended_is}
use Rattle.ded_model.proofs.PointTexts.{extension-point, point-bytes}
use Rattle.ded_model.proofs.Points.{and_left, and_right, same_slot_is, same_slot_refl, number_at-extended, number_at-kept, number_at-text_kept, text_at-number_kept, text_at-extended, text_at-kept}
use Rattle.ded_model.proofs.Rows.{step_law, row_law, sign_meets-same}
use Rattle.ded_model.proofs.Texts.{text_extended, text_extended_is}
use Rattle.ded_genrel.specs.Lists.{conjs_of}
use Rattle.ded_genrel.proofs.Items.{conjs-any-at}
use Rattle.ded_model.specs.Row.{atom_holds}
use Rattle.ded_model.specs.declared.tuple.BothAtom.TheVariants.{First, Second}
use Rattle.ded_model.specs.declared.tuple.ThemeAtom.{ThemeAtom}
use Rattle.ded_model.specs.declared.tuple.ThemeAtom.TheVariants.{EqText, NeText, EqSlot, NeSlot}
use Rattle.ded_model.specs.Normal.{first_slot}
use Rattle.ded_theory.specs.declared.answers.Verdict.TheVariants.{Inhabited}
use Rattle.ded_atoms.specs.Own.{last_slot}
use Rattle.ded_eval.specs.Finding.{IsFoundIn, HasValues, AreAlike, HoldsWithValues, IsAttained, IsConjVerdict}
use Rattle.ded_eval.specs.Within.{is_rows, rows_hold, all_rows_hold}
use Rattle.ded_eval.proofs.Evaluated.{every-push}
use Rattle.ded_eval.proofs.Joined.{rows_sat}
use Rattle.ded_theory.proofs.Conjunctions.{conj_holds-append}
use Rattle.std.proofs.lemmas.Bool.{and_parts}
use Rattle.ded_num.proofs.Signs.{times_pos_twice}
use Rattle.ded_model.proofs.SlotLists.{rational_no_text}
use Rattle.ded_weighing.proofs.Slotted.{stands_last}

-- ---- a row and a text atom at points with the same values

sums_same : (ss : List Slot) (p q : Point) (cs : List (Slot × ℤ)) → HasValues ss p q → AreCoefs cs → list_all (λ c. stands_in ss c.0) cs ≡ true → sum_at cs p *ℤ pos q.den ≡ sum_at cs q *ℤ pos p.den
sums_same ss p q [] h a e = zero-*ℤ (pos q.den) ∙ sym (zero-*ℤ (pos p.den))
sums_same ss p q (c ∷ cs) h a e =
    let here = h.numbers c.0 a.0 (and_left (stands_in ss c.0) (list_all (λ c. stands_in ss c.0) cs) e) in
    let rest = sums_same ss p q cs h a.4 (and_right (stands_in ss c.0) (list_all (λ c. stands_in ss c.0) cs) e) in
    step_law c.1 (number_at p (slot c.0)) (sum_at cs p) (pos 0) (pos q.den)
    ∙ rw (here, rest) (sym (step_law c.1 (number_at q (slot c.0)) (sum_at cs q) (pos 0) (pos p.den)))

pub row_same : (ss : List Slot) (p q : Point) (r : LinearConstraint) → IsPoint p → IsPoint q → HasValues ss p q → AreCoefs r.coefs → list_all (λ c. stands_in ss c.0) r.coefs ≡ true → row_holds r p ≡ row_holds r q
unfolding row_holds
row_same ss p q r i j h a e =
    let swapped : p.den * q.den ≡ q.den * p.den = omega arith in
    sign_meets-same r.op (row_at r p) (row_at r q) p.den q.den i.positive j.positive
    (row_law (sum_at r.coefs p) r.constant p.den q.den
    ∙ rw (sums_same ss p q r.coefs h a e, swapped) (sym (row_law (sum_at r.coefs q) r.constant q.den p.den)))

pub theme_same : (ss : List Slot) (p q : Point) (a : ThemeAtom) → HasValues ss p q → (first_slot a).sort ≡ Text → stands_in ss (first_slot a) ≡ true → (last_slot a).sort ≡ Text → stands_in ss (last_slot a) ≡ true → theme_holds a p ≡ theme_holds a q
unfolding theme_holds
theme_same ss p q (EqText s t) h i j k l = ap (λ x. bytes_eq x t) (h.texts s i j)
theme_same ss p q (NeText s t) h i j k l = ap (λ x. not (bytes_eq x t)) (h.texts s i j)
theme_same ss p q (EqSlot s t) h i j k l = ap₂ (λ x y. bytes_eq x y) (h.texts s i j) (h.texts t k l)
theme_same ss p q (NeSlot s t) h i j k l = ap₂ (λ x y. not (bytes_eq x y)) (h.texts s i j) (h.texts t k l)

-- ---- slots, one more at the end

stands_before : (ss : List Slot) (s t : Slot) → stands_in ss t ≡ true → stands_in (ss ++ s ∷ []) t ≡ true
stands_before [] s t h = absurd (true≢false (sym h))
stands_before (u ∷ ss) s t h = ⊎_elim
    (λ (e : same_slot u t ≡ true). first (same_slot u t) (stands_in (ss ++ s ∷ []) t) e)
    (λ e. second (same_slot u t) (stands_in (ss ++ s ∷ []) t) (stands_before ss s t e))
    (or_split (same_slot u t) _ h)
  where
    first : (a b : Bool) → a ≡ true → (a || b) ≡ true
    first a b e = rw e refl

    second : (a b : Bool) → b ≡ true → (a || b) ≡ true
    second true b e = refl
    second false b e = e

-- ---- one slot projected

away_law : (x y : ℤ) (b d : ℕ) → x *ℤ pos d ≡ y *ℤ pos b → (x *ℤ pos d) *ℤ pos d ≡ y *ℤ pos (b * d)
away_law x y b d h = ap (λ z. z *ℤ pos d) h ∙ times_pos_twice y b d

-- another slot of the list stands before the last one
not_last : (ss : List Slot) (s t : Slot) → stands_in (ss ++ s ∷ []) t ≡ true → same_slot t s ≡ false → stands_in ss t ≡ true
not_last ss s t stands k = ⊎_elim
    (λ (e : stands_in ss t ≡ true). e)
    (λ e. absurd (true≢false (sym (ap (λ (u : Slot). same_slot t u) (same_slot_is s t e) ∙ same_slot_refl t) ∙ k)))
    (stands_last ss s t stands)

is_rational : Sort → Bool
is_rational Rat = true
is_rational Text = false

-- an extension by a number of a point that has it
number_there : (ss : List Slot) (s : Slot) (p q r : Point) (x : IsNumberExtension p (slot s) r) → s.sort ≡ Rat → x.value ≡ number_at q (slot s) *ℤ pos p.den → r.den ≡ p.den * q.den → x.factor ≡ q.den
    → HasValues ss p q → HasValues (ss ++ s ∷ []) r q
number_there ss s p q r x sort value den factor same = record {
  numbers = λ t rational stands. at_number t rational stands (same_slot t s) refl ∙ ap (λ n. number_at q (slot t) *ℤ pos n) (sym den);
  texts = λ t textual stands. at_text t textual stands (same_slot t s) refl;
}
  where
    at_number : (t : Slot) → t.sort ≡ Rat → stands_in (ss ++ s ∷ []) t ≡ true → (b : Bool) → same_slot t s ≡ b → number_at r (slot t) *ℤ pos q.den ≡ number_at q (slot t) *ℤ pos (p.den * q.den)
    at_number t rational stands true k =
        ap (λ z. z *ℤ pos q.den) (number_at-extended p (slot s) r x (slot t) k ∙ value)
        ∙ times_pos_twice (number_at q (slot s)) p.den q.den
        ∙ ap (λ (u : Slot). number_at q (slot u) *ℤ pos (p.den * q.den)) (sym (same_slot_is t s k))
    at_number t rational stands false k =
        ap (λ z. z *ℤ pos q.den) (number_at-kept p (slot s) r x (slot t) k ∙ ap (λ n. number_at p (slot t) *ℤ pos n) factor)
        ∙ away_law (number_at p (slot t)) (number_at q (slot t)) p.den q.den (same.numbers t rational (not_last ss s t stands k))

    at_text : (t : Slot) → t.sort ≡ Text → stands_in (ss ++ s ∷ []) t ≡ true → (b : Bool) → same_slot t s ≡ b → text_at r (slot t) ≡ text_at q (slot t)
    at_text t textual stands true k = absurd (rational_no_text (sym sort ∙ sym (ap (λ (u : Slot). u.sort) (same_slot_is t s k)) ∙ textual))
    at_text t textual stands false k = text_at-number_kept p (slot s) r x (slot t) k ∙ same.texts t textual (not_last ss s t stands k)

-- an extension by a text of a point that has it
text_there : (ss : List Slot) (s : Slot) (p q r : Point) (x : IsTextExtension p (slot s) r) → s.sort ≡ Text → x.value ≡ text_at q (slot s) → HasValues ss p q → HasValues (ss ++ s ∷ []) r q
text_there ss s p q r x sort value same = record {
  numbers = λ t rational stands. at_number t rational stands (same_slot t s) refl;
  texts = λ t textual stands. at_text t textual stands (same_slot t s) refl;
}
  where
    at_number : (t : Slot) → t.sort ≡ Rat → stands_in (ss ++ s ∷ []) t ≡ true → (b : Bool) → same_slot t s ≡ b → number_at r (slot t) *ℤ pos q.den ≡ number_at q (slot t) *ℤ pos r.den
    at_number t rational stands true k = absurd (rational_no_text (sym rational ∙ ap (λ (u : Slot). u.sort) (same_slot_is t s k) ∙ sort))
    at_number t rational stands false k =
        ap (λ z. z *ℤ pos q.den) (number_at-text_kept p (slot s) r x (slot t) k)
        ∙ same.numbers t rational (not_last ss s t stands k)
        ∙ ap (λ n. number_at q (slot t) *ℤ pos n) (sym x.den)

    at_text : (t : Slot) → t.sort ≡ Text → stands_in (ss ++ s ∷ []) t ≡ true → (b : Bool) → same_slot t s ≡ b → text_at r (slot t) ≡ text_at q (slot t)
    at_text t textual stands true k = text_at-extended p (slot s) r x (slot t) k ∙ value ∙ ap (λ (u : Slot). text_at q (slot u)) (sym (same_slot_is t s k))
    at_text t textual stands false k = text_at-kept p (slot s) r x (slot t) k ∙ same.texts t textual (not_last ss s t stands k)

-- what holds at points with some values at the slots holds projected where all others have them
pub attained_project : {A : Type 0} (holds : A → Point → Bool) (atoms : List A) (c : Catalogue) (ss : List Slot) (s : Slot) (f : PlanForm) → IsAttained holds atoms c (ss ++ s ∷ []) f → IsAttained holds atoms c ss (exists s.sort (slot s) f)
attained_project holds atoms c ss s f h = (h.0, h.1, h.2, λ p i same. go s.sort refl p i same)
  where
    go : (o : Sort) → s.sort ≡ o → (p : Point) → IsPoint p → HasValues ss p h.0 → GivenHolds c (exists s.sort (slot s) f) p
    go Rat e p i same =
        let q = h.0 in
        let m = number_at q (slot s) *ℤ pos p.den in
        let r = extended (slot s) q.den m p in
        let x : IsNumberExtension p (slot s) r = extended_is (slot s) q.den m p h.1.positive in
        let y : IsExtension s.sort p (slot s) r = subst (λ z. IsExtension z p (slot s) r) (sym e) x in
        (r, y, h.3 r (extension-point s.sort p r (slot s) i y) (number_there ss s p q r x e refl refl refl same))
    go Text e p i same =
        let q = h.0 in
        let r = text_extended (slot s) (text_at q (slot s)) p in
        let x : IsTextExtension p (slot s) r = text_extended_is (slot s) (text_at q (slot s)) p (point-bytes q (slot s) h.1) in
        let y : IsExtension s.sort p (slot s) r = subst (λ z. IsExtension z p (slot s) r) (sym e) x in
        (r, y, h.3 r (extension-point s.sort p r (slot s) i y) (text_there ss s p q r x e refl same))

-- a plan that holds so with no slots given holds everywhere
pub attained_everywhere : {A : Type 0} (holds : A → Point → Bool) (atoms : List A) (c : Catalogue) (f : PlanForm) → IsAttained holds atoms c [] f → (p : Point) → IsPoint p → GivenHolds c f p
attained_everywhere holds atoms c f h p i = h.3 p i (record { numbers = λ s rational stands. absurd (true≢false (sym stands)); texts = λ s textual stands. absurd (true≢false (sym stands)) })

-- a plan holds so where a list does that holds only where it does and the atoms do
pub attained_found : {A : Type 0} (h : A → Point → Bool) (atoms : List A) (c : Catalogue) (ss : List Slot) (f : PlanForm) (xs : List (List A))
    → AreAlike h ss atoms → IsFoundIn h c (conj_holds h atoms) f xs → HoldsWithValues h atoms ss xs → IsAttained h atoms c ss f
attained_found h atoms c ss f xs alike a o = (o.0, o.1, o.2, λ p i same. a p i (alike p o.0 i o.1 same ∙ o.2) (o.3 p i same))

-- ---- atoms that stand for rows and text atoms

pub alike_none : {A : Type 0} (h : A → Point → Bool) (ss : List Slot) → AreAlike h ss []
alike_none h ss p q i j k = refl

pub alike_more : {A : Type 0} (h : A → Point → Bool) (ss : List Slot) (a : A) (atoms : List A) → ((p q : Point) → IsPoint p → IsPoint q → HasValues ss p q → h a p ≡ h a q) → AreAlike h ss atoms → AreAlike h ss (a ∷ atoms)
alike_more h ss a atoms here rest p q i j k = ap₂ (λ x y. x && y) (here p q i j k) (rest p q i j k)

pub row_atom : (r : LinearConstraint) (p q : Point) → row_holds r p ≡ row_holds r q → atom_holds (First r) p ≡ atom_holds (First r) q
unfolding atom_holds
row_atom r p q e = e

pub theme_atom : (a : ThemeAtom) (p q : Point) → theme_holds a p ≡ theme_holds a q → atom_holds (Second a) p ≡ atom_holds (Second a) q
unfolding atom_holds
theme_atom a p q e = e

-- a conjunction of the list that holds somewhere with the atoms, and holds alike
pub conj_attained : {A : Type 0} (h : A → Point → Bool) (atoms : List A) (ss : List Slot) (items : List (Vec A Global)) (i : ℕ) (x : Vec A Global) → i < length items → x ≡ get_or items i x
    → IsConjVerdict h atoms ss x.items Inhabited → HoldsWithValues h atoms ss (conjs_of items)
conj_attained h atoms ss items i x l e o =
    let q = o.1.0 in
    let parts = and_parts (conj_holds h atoms q) (conj_holds h x.items q) o.1.2 in
    (q, o.1.1, parts.0, λ p k same. conjs-any-at (λ atoms. conj_holds h atoms p) items i x l e (o.0 p q k o.1.1 same ∙ parts.1))

-- a step along the atoms
pub alike_drop : {A : Type 0} (h : A → Point → Bool) (ss : List Slot) (atoms : List A) (i : ℕ) (a : A) → i < length atoms → a ≡ get_or atoms i a → ((p q : Point) → IsPoint p → IsPoint q → HasValues ss p q → h a p ≡ h a q)
    → AreAlike h ss (drop (i + 1) atoms) → AreAlike h ss (drop i atoms)
alike_drop h ss atoms i a l e here rest =
    let one : suc i ≡ i + 1 = omega arith in
    let at : drop i atoms ≡ a ∷ drop (i + 1) atoms = drop-cons atoms i a l ∙ ap (λ x. x ∷ drop (suc i) atoms) (sym e) ∙ ap (λ n. a ∷ drop n atoms) one in
    subst (AreAlike h ss) (sym at) (alike_more h ss a (drop (i + 1) atoms) here rest)

pub alike_end : {A : Type 0} (h : A → Point → Bool) (ss : List Slot) (atoms : List A) (i : ℕ) → length atoms ≤ i → AreAlike h ss (drop i atoms)
alike_end h ss atoms i l = subst (AreAlike h ss) (sym (drop_of_length-le atoms l)) (alike_none h ss)

-- with more slots
pub alike_slots : {A : Type 0} (h : A → Point → Bool) (ss : List Slot) (s : Slot) (atoms : List A) → AreAlike h ss atoms → AreAlike h (ss ++ s ∷ []) atoms
alike_slots h ss s atoms k p q i j same = k p q i j (record { numbers = λ t rational stands. same.numbers t rational (stands_before ss s t stands); texts = λ t textual stands. same.texts t textual (stands_before ss s t stands) })

-- both lists of atoms
pub alike_both : {A : Type 0} (h : A → Point → Bool) (ss : List Slot) (xs ys : List A) → AreAlike h ss xs → AreAlike h ss ys → AreAlike h ss (xs ++ ys)
alike_both h ss xs ys k l p q i j same =
    conj_holds-append h xs ys p ∙ ap₂ (λ x y. x && y) (k p q i j same) (l p q i j same) ∙ sym (conj_holds-append h xs ys q)

-- ---- the parts of a join, one after another

module _ {A : Type 0} (h : A → Point → Bool) (inner : List A) (c : Catalogue) (ss : List Slot) (all : List PlanForm) where
  -- the first parts hold where all rows do, or where a point also has the values of some point, at which the atoms hold
  abbrev pub IsJoinedSo : Bool → List PlanForm → Type 0
  IsJoinedSo false fs = (p : Point) → all_rows_hold all p ≡ true → SatEvery (PlanAtomHolds (stored c)) (logics fs) p
  IsJoinedSo true fs = (q : Point) × IsPoint q × (conj_holds h inner q ≡ true) × ((p : Point) → IsPoint p → HasValues ss p q → all_rows_hold all p ≡ true → SatEvery (PlanAtomHolds (stored c)) (logics fs) p)

  pub joined_rows : (b : Bool) (fs : List PlanForm) (f : PlanForm) → is_rows f ≡ true → ((p : Point) → all_rows_hold all p ≡ true → rows_hold f p ≡ true) → IsJoinedSo b fs → IsJoinedSo b (fs ++ f ∷ [])
  joined_rows false fs f e k j = λ p x. (every-push (PlanAtomHolds (stored c)) fs f p).1 (j p x, rows_sat c f p e (k p x))
  joined_rows true fs f e k j = (j.0, j.1, j.2, λ p i same x. (every-push (PlanAtomHolds (stored c)) fs f p).1 (j.3 p i same x, rows_sat c f p e (k p x)))

  pub joined_part : (fs : List PlanForm) (f : PlanForm) → IsJoinedSo false fs → IsAttained h inner c ss f → IsJoinedSo true (fs ++ f ∷ [])
  joined_part fs f j a = (a.0, a.1, a.2, λ p i same x. (every-push (PlanAtomHolds (stored c)) fs f p).1 (j p x, a.3 p i same))

-- all parts
pub joined_all : {A : Type 0} (h : A → Point → Bool) (atoms own inner : List A) (c : Catalogue) (ss : List Slot) (all : List PlanForm) → inner ≡ atoms ++ own → AreAlike h ss own
    → ((p : Point) → conj_holds h own p ≡ all_rows_hold all p) → IsJoinedSo h inner c ss all true all → IsAttained h atoms c ss (every_of (logics all))
joined_all h atoms own inner c ss all e alike is j =
    let parts = and_parts (conj_holds h atoms j.0) (conj_holds h own j.0) (sym (conj_holds-append h atoms own j.0) ∙ ap (λ xs. conj_holds h xs j.0) (sym e) ∙ j.2) in
    (j.0, j.1, parts.0, λ p i same. j.3 p i same (sym (is p) ∙ alike p j.0 i j.1 same ∙ parts.1))
