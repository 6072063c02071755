-- Atoms with a slot of their own, which no other atom mentions.
--
-- A point can be moved at such a slot so that the atom holds there, or doesn't, while the others hold as before. So where each
-- normal atom has a slot of its own, they hold somewhere, and each of them is needed.
use Rattle.std.proofs.Common.{◌≡◌, ◌≢◌, ℕ, zero, suc, ◌<◌, ◌+◌, ◌-◌, length, take, drop, get_or, Bool, true, false, not, ◌||◌, List, [], ◌∷◌, ◌++◌, ⊎_elim, arith, refl, sym, ap, ap₂, ◌∙◌, subst, true≢false}
use Rattle.std.specs.Prelude.{ℤ, pos, negsuc, ◌+ℤ◌, ◌-ℤ◌, ◌*ℤ◌}
use Rattle.std.specs.List.{list_any}
use Rattle.std.specs.Str.{bytes_eq}
use Rattle.std.proofs.lemmas.Slice.Eq.{bytes_eq-Decides}
use lib.IntN.{neg_ℤ}
use Rattle.ded_num.proofs.Ring.{parts, ring, diff_same}
use Rattle.ded_model.specs.declared.slot.Slot.{Slot}
use Rattle.ded_model.specs.declared.slot.Sort.TheVariants.{Rat, Text}
use Rattle.ded_model.specs.declared.row.RowOp.{RowOp}
use Rattle.ded_model.specs.declared.row.RowOp.TheVariants.{Zero, AtMost, Below}
use Rattle.ded_model.specs.declared.tuple.ThemeAtom.{ThemeAtom}
use Rattle.ded_model.specs.declared.tuple.ThemeAtom.TheVariants.{EqText, NeText, EqSlot, NeSlot}
use Rattle.ded_model.specs.declared.tuple.BothAtom.TheVariants.{First, Second}
use Rattle.ded_model.specs.Constraint.{LinearConstraint}
use Rattle.ded_model.specs.Point.{slot, same_slot, text, Point, IsPoint, AllBytes, AreValues, IsExtension, IsNumberExtension, IsTextExtension, text_at}
use Rattle.ded_model.specs.Coefs.{AreCoefs, coef_at}
use Rattle.ded_model.specs.Row.{Atom, sign_meets, row_holds, theme_holds, atom_holds, tuple_holds, row_mentions, theme_mentions, atom_mentions, tuple_mentions}
use Rattle.ded_model.specs.Cell.{HoldsSomewhere, IsReduced}
use Rattle.ded_model.specs.Normal.{first_slot, IsNormalTheme, IsNormalAtom, IsNormalTuple}
use Rattle.ded_model.proofs.Points.{same_slot_is, same_slot_refl, positive-extension, and_left, and_right}
use Rattle.ded_model.proofs.Rows.{or_left, or_right, atom_holds-same}
use Rattle.ded_model.proofs.Members.{or_split}
use Rattle.ded_model.proofs.CoefLemmas.{coef_at-here, coef_at-past, greater_slot, lesser_slot}
use Rattle.ded_model.proofs.Numbers.{linear-extended, extended, extended_is}
use Rattle.ded_model.proofs.Atoms.{row_linear, row_linear-at}
use Rattle.ded_model.proofs.Eliminating.{coef_of, rest_of}
use Rattle.ded_model.proofs.Normals.{sign_meets-times}
use Rattle.ded_theory.proofs.Conjunctions.{conj_holds-extended}
use Rattle.ded_elimination.proofs.Bridge.{coef-is}
use Rattle.ded_linear.proofs.Shadows.{extension_point, append_value}
use Rattle.ded_theme.proofs.Extending.{point-bytes, other-text, extended_by}
use Rattle.std.proofs.lemmas.List.Folds.{list_any-append}
use Rattle.ded_reduce.proofs.Sublists.{after_taken, parted_at, parted_others, parted_length}
use Rattle.ded_atoms.specs.Own.{last_slot, HasOwnSlot, HaveOwnSlots}
use Rattle.ded_model.proofs.Bools.{or_false_right}
use Rattle.std.proofs.lemmas.Bool.{and_from}
use Rattle.ded_num.proofs.Tests.{not_twice}

-- ---- rows

-- a number that compares with 0 as the op says, or doesn't
target : RowOp → Bool → ℤ
target Zero true = pos 0
target Zero false = pos 1
target AtMost true = pos 0
target AtMost false = pos 1
target Below true = negsuc 0
target Below false = pos 1

target-meets : (op : RowOp) (b : Bool) → sign_meets op (target op b) ≡ b
unfolding target
target-meets Zero true = refl
target-meets Zero false = refl
target-meets AtMost true = refl
target-meets AtMost false = refl
target-meets Below true = refl
target-meets Below false = refl

up_law : (k r z : ℤ) → k *ℤ (z -ℤ r) +ℤ r *ℤ k ≡ k *ℤ z
up_law k r z = rw (parts k, parts r, parts z) (simp ring (diff_same _ _ _ _ (omega arith)))

down_law : (k r z : ℤ) → k *ℤ (r -ℤ z) +ℤ r *ℤ neg_ℤ k ≡ neg_ℤ k *ℤ z
down_law k r z = rw (parts k, parts r, parts z) (simp ring (diff_same _ _ _ _ (omega arith)))

-- a coefficient that isn't 0 takes the sum anywhere
solved : (a r z : ℤ) → a ≢ pos 0 → (n : ℕ) × (m : ℤ) × (a *ℤ m +ℤ r *ℤ pos (suc n) ≡ pos (suc n) *ℤ z)
solved (pos zero) r z h = absurd (h refl)
solved (pos (suc n)) r z h = (n, z -ℤ r, up_law (pos (suc n)) r z)
solved (negsuc n) r z h = (n, r -ℤ z, down_law (negsuc n) r z)

-- a slot that is mentioned is rational and has a coefficient
mentioned_coef : (cs : List (Slot × ℤ)) (s : Slot) → AreCoefs cs → list_any (λ c. same_slot c.0 s) cs ≡ true → (s.sort ≡ Rat) × (coef_at cs s ≢ pos 0)
mentioned_coef [] s c m = absurd (true≢false (sym m))
mentioned_coef (x ∷ cs) s c m = go (λ e. mentioned_coef cs s c.4 e) (same_slot x.0 s) refl
  where
    go : (list_any (λ d. same_slot d.0 s) cs ≡ true → (s.sort ≡ Rat) × (coef_at cs s ≢ pos 0)) → (b : Bool) → same_slot x.0 s ≡ b → (s.sort ≡ Rat) × (coef_at (x ∷ cs) s ≢ pos 0)
    go again true e = (subst (λ (u : Slot). u.sort ≡ Rat) (same_slot_is x.0 s e) c.0, λ z. c.2 (sym (coef_at-here s x cs e c.3) ∙ z))
    go again false e =
        let ih = again (ap (λ b. b || list_any (λ d. same_slot d.0 s) cs) (sym e) ∙ m) in
        (ih.0, λ z. ih.1 (sym (coef_at-past s x cs e) ∙ z))

-- a point moved at a slot, at which the test has the wanted answer
abbrev Moved : Slot → Point → (Point → Bool) → Bool → Type 0
Moved s p test b = (q : Point) × IsPoint q × IsExtension s.sort p (slot s) q × (test q ≡ b)

row_moves : (r : LinearConstraint) (s : Slot) (p : Point) (b : Bool) → AreCoefs r.coefs → row_mentions r s ≡ true → IsPoint p → Moved s p (row_holds r) b
unfolding row_holds row_mentions
row_moves r s p b c m i =
    let known = mentioned_coef r.coefs s c m in
    let v = solved (coef_of s r) (rest_of s p r) (target r.op b) (λ z. known.1 (sym (coef-is r.coefs s) ∙ z)) in
    let q = extended (slot s) (suc v.0) v.1 p in
    let x : IsNumberExtension p (slot s) q = extended_is (slot s) (suc v.0) v.1 p (omega arith) in (
      q,
      extension_point (slot s) p q i x,
      subst (λ z. IsExtension z p (slot s) q) (sym known.0) x,
      ap (sign_meets r.op) (sym (row_linear-at r q) ∙ linear-extended (slot s) p q x (row_linear r) ∙ v.2) ∙ sign_meets-times r.op v.0 (target r.op b) ∙ target-meets r.op b,
    )

-- ---- text atoms

-- the text, or a longer one
chosen : Bool → List ℕ → List ℕ
chosen true t = t
chosen false t = 0 ∷ t

chosen-bytes : (b : Bool) (t : List ℕ) → AllBytes t → AllBytes (chosen b t)
unfolding chosen
chosen-bytes true t h = h
chosen-bytes false t h = (omega arith, h)

no_longer : (t : List ℕ) → 0 ∷ t ≡ t → ⊥
no_longer t e = let f : length (0 ∷ t) ≡ length t = ap length e in omega (arith, f)

chosen-left : (b : Bool) (t : List ℕ) → bytes_eq (chosen b t) t ≡ b
unfolding chosen
chosen-left true t = (bytes_eq-Decides t t).1 refl
chosen-left false t = go (bytes_eq (0 ∷ t) t) refl
  where
    go : (c : Bool) → bytes_eq (0 ∷ t) t ≡ c → c ≡ false
    go true e = absurd (no_longer t ((bytes_eq-Decides (0 ∷ t) t).0 e))
    go false e = refl

chosen-right : (b : Bool) (t : List ℕ) → bytes_eq t (chosen b t) ≡ b
unfolding chosen
chosen-right true t = (bytes_eq-Decides t t).1 refl
chosen-right false t = go (bytes_eq t (0 ∷ t)) refl
  where
    go : (c : Bool) → bytes_eq t (0 ∷ t) ≡ c → c ≡ false
    go true e = absurd (no_longer t (sym ((bytes_eq-Decides t (0 ∷ t)).0 e)))
    go false e = refl

text_point : (s : Slot) (p q : Point) → s.sort ≡ Text → IsPoint p → IsExtension s.sort p (slot s) q → IsPoint q
text_point s p q e i x = let y : IsTextExtension p (slot s) q = subst (λ z. IsExtension z p (slot s) q) e x in record {
  positive = positive-extension s.sort p (slot s) q i.positive x;
  bytes = subst AreValues (sym y.coords) (append_value p.coords (slot s, text y.value) i.bytes y.bytes);
}

-- a slot against a quoted text
quoted_moves : (s v : Slot) (t : List ℕ) (p : Point) (b : Bool) → s.sort ≡ Text → AllBytes t → same_slot s v ≡ true → IsPoint p → Moved v p (λ q. bytes_eq (text_at q (slot s)) t) b
quoted_moves s v t p b e h m i =
    let here = same_slot_is s v m in
    let f : v.sort ≡ Text = subst (λ (u : Slot). u.sort ≡ Text) here e in
    let y = extended_by v p (chosen b t) f (chosen-bytes b t h) in
    (y.0, text_point v p y.0 f i y.1, y.1, ap (λ u. bytes_eq (text_at y.0 (slot u)) t) here ∙ ap (λ u. bytes_eq u t) y.2 ∙ chosen-left b t)

-- one slot against another
slots_move : (s u v : Slot) (p : Point) (b : Bool) → s.sort ≡ Text → u.sort ≡ Text → s.number < u.number → (same_slot s v || same_slot u v) ≡ true → IsPoint p
    → Moved v p (λ q. bytes_eq (text_at q (slot s)) (text_at q (slot u))) b
slots_move s u v p b e f lt m i = ⊎_elim (λ (k : same_slot s v ≡ true). first (same_slot_is s v k)) (λ k. second (same_slot_is u v k)) (or_split (same_slot s v) (same_slot u v) m)
  where
    first : s ≡ v → Moved v p (λ q. bytes_eq (text_at q (slot s)) (text_at q (slot u))) b
    first here =
        let g : v.sort ≡ Text = subst (λ (w : Slot). w.sort ≡ Text) here e in
        let y = extended_by v p (chosen b (text_at p (slot u))) g (chosen-bytes b (text_at p (slot u)) (point-bytes p u i)) in
        let apart : same_slot u v ≡ false = subst (λ w. same_slot u w ≡ false) here (greater_slot u s lt) in (
          y.0,
          text_point v p y.0 g i y.1,
          y.1,
          ap (λ w. bytes_eq (text_at y.0 (slot w)) (text_at y.0 (slot u))) here ∙ ap (λ w. bytes_eq w (text_at y.0 (slot u))) y.2
              ∙ ap (bytes_eq (chosen b (text_at p (slot u)))) (other-text v p y.0 y.1 u apart) ∙ chosen-left b (text_at p (slot u)),
        )

    second : u ≡ v → Moved v p (λ q. bytes_eq (text_at q (slot s)) (text_at q (slot u))) b
    second here =
        let g : v.sort ≡ Text = subst (λ (w : Slot). w.sort ≡ Text) here f in
        let y = extended_by v p (chosen b (text_at p (slot s))) g (chosen-bytes b (text_at p (slot s)) (point-bytes p s i)) in
        let apart : same_slot s v ≡ false = subst (λ w. same_slot s w ≡ false) here (lesser_slot s u lt) in (
          y.0,
          text_point v p y.0 g i y.1,
          y.1,
          ap (λ w. bytes_eq (text_at y.0 (slot s)) (text_at y.0 (slot w))) here ∙ ap (bytes_eq (text_at y.0 (slot s))) y.2
              ∙ ap (λ w. bytes_eq w (chosen b (text_at p (slot s)))) (other-text v p y.0 y.1 s apart) ∙ chosen-right b (text_at p (slot s)),
        )

denied : (s : Slot) (p : Point) (test : Point → Bool) (b : Bool) → Moved s p test (not b) → Moved s p (λ q. not (test q)) b
denied s p test b w = (w.0, w.1, w.2, ap not w.3 ∙ not_twice b)

theme_moves : (a : ThemeAtom) (s : Slot) (p : Point) (b : Bool) → IsNormalTheme a → theme_mentions a s ≡ true → IsPoint p → Moved s p (theme_holds a) b
unfolding theme_holds theme_mentions
theme_moves (EqText s t) v p b n m i = quoted_moves s v t p b n.0 n.1 m i
theme_moves (NeText s t) v p b n m i = denied v p (λ q. bytes_eq (text_at q (slot s)) t) b (quoted_moves s v t p (not b) n.0 n.1 m i)
theme_moves (EqSlot s u) v p b n m i = slots_move s u v p b n.0 n.1 n.2 m i
theme_moves (NeSlot s u) v p b n m i = denied v p (λ q. bytes_eq (text_at q (slot s)) (text_at q (slot u))) b (slots_move s u v p (not b) n.0 n.1 n.2 m i)

-- ---- atoms

atom_moves : (a : Atom) (s : Slot) (p : Point) (b : Bool) → IsNormalAtom a → atom_mentions a s ≡ true → IsPoint p → Moved s p (atom_holds a) b
unfolding atom_holds atom_mentions
atom_moves (First r) s p b n m i = row_moves r s p b n.0 m i
atom_moves (Second a) s p b n m i = theme_moves a s p b n m i

-- others hold at the moved point as before
others_hold : (t : List Atom) (s : Slot) (p q : Point) → IsPoint p → tuple_mentions t s ≡ false → IsExtension s.sort p (slot s) q → tuple_holds t p ≡ tuple_holds t q
unfolding tuple_holds tuple_mentions
others_hold t s p q i free x = conj_holds-extended atom_holds atom_mentions atom_holds-same t s p q i.positive free x

-- they hold somewhere
own_inhabited : (t : List Atom) → IsNormalTuple t → HaveOwnSlots t → HoldsSomewhere (tuple_holds t)
unfolding tuple_holds tuple_mentions
own_inhabited [] n h = (record { den = 1; coords = [] }, record { positive = omega arith; bytes = tt }, refl)
own_inhabited (a ∷ t) n h =
    let rest = own_inhabited t n.2 (λ before c after e.
    let w = h (a ∷ before) c after (ap (λ us. a ∷ us) e) in
    (w.0, w.1, or_false_right (atom_mentions a w.0) (tuple_mentions (before ++ after) w.0) w.2)) in
    let own = h [] a t refl in
    let there = atom_moves a own.0 rest.0 true n.0 own.1 rest.1 in
    (there.0, there.1, and_from (atom_holds a there.0) (tuple_holds t there.0) there.3 (sym (others_hold t own.0 rest.0 there.0 rest.1 own.2 there.2) ∙ rest.2))

-- ---- each is needed

normal_at : (before : List Atom) (a : Atom) (after : List Atom) → IsNormalTuple (before ++ a ∷ after) → IsNormalAtom a
normal_at [] a after n = n.0
normal_at (b ∷ before) a after n = normal_at before a after n.2

-- all hold, so all but one
fewer_hold : (before : List Atom) (a : Atom) (after : List Atom) (p : Point) → tuple_holds (before ++ a ∷ after) p ≡ true → tuple_holds (before ++ after) p ≡ true
unfolding tuple_holds
fewer_hold [] a after p e = and_right (atom_holds a p) (tuple_holds after p) e
fewer_hold (b ∷ before) a after p e =
    and_from (atom_holds b p) (tuple_holds (before ++ after) p) (and_left (atom_holds b p) (tuple_holds (before ++ a ∷ after) p) e)
    (fewer_hold before a after p (and_right (atom_holds b p) (tuple_holds (before ++ a ∷ after) p) e))

pub own_reduced : (t : List Atom) → IsNormalTuple t → HaveOwnSlots t → IsReduced atom_holds t
unfolding tuple_holds
own_reduced t n h = record {
  inhabited = own_inhabited t n h;
  needed = λ before a after e.
      let w = own_inhabited t n h in
      let own = h before a after e in
      let there = atom_moves a own.0 w.0 false (normal_at before a after (subst IsNormalTuple e n)) own.1 w.1 in
      (there.0, there.1, sym (others_hold (before ++ after) own.0 w.0 there.0 w.1 own.2 there.2) ∙ fewer_hold before a after w.0 (ap (λ u. tuple_holds u w.0) (sym e) ∙ w.2), there.3);
}

-- ---- found atom by atom

-- the atom at each place has a slot of its own
pub own_at_each : (t : List Atom) → ((k : ℕ) → k < length t → (a : Atom) → a ≡ get_or t k a → HasOwnSlot (take k t) a (drop (suc k) t)) → HaveOwnSlots t
own_at_each t h before a after e =
    let w = h (length before) (subst (λ u. length before < length u) (sym e) (parted_length before a after)) a (subst (λ u. a ≡ get_or u (length before) a) (sym e) (parted_at before a after)) in
    (w.0, w.1, ap (λ u. tuple_mentions u w.0) (sym (ap (λ u. take (length before) u ++ drop (suc (length before)) u) e ∙ parted_others before a after)) ∙ w.2)

-- neither before it nor after it
pub free_of_both : (before after : List Atom) (s : Slot) → tuple_mentions before s ≡ false → tuple_mentions after s ≡ false → tuple_mentions (before ++ after) s ≡ false
unfolding tuple_mentions
free_of_both before after s e f = list_any-append (λ a. atom_mentions a s) before after ∙ ap₂ (λ a b. a || b) e f

-- ---- slots that atoms mention

pub first_mentioned : (a : ThemeAtom) (s : Slot) → s ≡ first_slot a → theme_mentions a s ≡ true
unfolding theme_mentions
first_mentioned (EqText s t) v e = ap (same_slot s) e ∙ same_slot_refl s
first_mentioned (NeText s t) v e = ap (same_slot s) e ∙ same_slot_refl s
first_mentioned (EqSlot s u) v e = or_left (same_slot s v) (same_slot u v) (ap (same_slot s) e ∙ same_slot_refl s)
first_mentioned (NeSlot s u) v e = or_left (same_slot s v) (same_slot u v) (ap (same_slot s) e ∙ same_slot_refl s)

pub last_mentioned : (a : ThemeAtom) (s : Slot) → s ≡ last_slot a → theme_mentions a s ≡ true
unfolding theme_mentions
last_mentioned (EqText s t) v e = ap (same_slot s) e ∙ same_slot_refl s
last_mentioned (NeText s t) v e = ap (same_slot s) e ∙ same_slot_refl s
last_mentioned (EqSlot s u) v e = or_right (same_slot s v) (same_slot u v) (ap (same_slot u) e ∙ same_slot_refl u)
last_mentioned (NeSlot s u) v e = or_right (same_slot s v) (same_slot u v) (ap (same_slot u) e ∙ same_slot_refl u)

-- the slot of a coefficient
pub coef_mentioned : (r : LinearConstraint) (cs : List (Slot × ℤ)) (i : ℕ) (d : Slot × ℤ) → cs ≡ r.coefs → i < length cs → row_mentions r (get_or cs i d).0 ≡ true
unfolding row_mentions
coef_mentioned r cs i d e lt = ap (list_any (λ b. same_slot b.0 (get_or cs i d).0)) (sym e) ∙ found cs i lt
  where
    found : (ds : List (Slot × ℤ)) (j : ℕ) → j < length ds → list_any (λ b. same_slot b.0 (get_or ds j d).0) ds ≡ true
    found [] j l = absurd (omega (arith, l))
    found (c ∷ ds) zero l = or_left (same_slot c.0 c.0) (list_any (λ b. same_slot b.0 c.0) ds) (same_slot_refl c.0)
    found (c ∷ ds) (suc j) l = or_right (same_slot c.0 (get_or ds j d).0) (list_any (λ b. same_slot b.0 (get_or ds j d).0) ds) (found ds j (omega (arith, l)))

same_at : (t : List Atom) (k : ℕ) (a b : Atom) → k < length t → a ≡ get_or t k a → b ≡ get_or t k b → a ≡ b
same_at [] k a b lt e f = absurd (omega (arith, lt))
same_at (c ∷ t) zero a b lt e f = e ∙ sym f
same_at (c ∷ t) (suc k) a b lt e f = same_at t k a b (omega (arith, lt)) e f

-- the atom at one place, as the slices of the list before and after it tell
pub own_here : (t : List Atom) (k : ℕ) (b : Atom) → k < length t → b ≡ get_or t k b → HasOwnSlot (take k t) b (take (length t - (k + 1)) (drop (k + 1) t)) → (a : Atom) → a ≡ get_or t k a → HasOwnSlot (take k t) a (drop (suc k) t)
own_here t k b lt e w a f = (w.0, ap (λ c. atom_mentions c w.0) (same_at t k a b lt f e) ∙ w.1, ap (λ us. tuple_mentions (take k t ++ us) w.0) (sym (after_taken t k)) ∙ w.2)

-- of a row, and of a text atom
pub own_row : (before : List Atom) (a : Atom) (after : List Atom) (r : LinearConstraint) → a ≡ First r → (s : Slot) × (row_mentions r s ≡ true) × (tuple_mentions (before ++ after) s ≡ false) → HasOwnSlot before a after
unfolding atom_mentions
own_row before a after r e w = (w.0, ap (λ c. atom_mentions c w.0) e ∙ w.1, w.2)

pub own_theme : (before : List Atom) (a : Atom) (after : List Atom) (t : ThemeAtom) → a ≡ Second t → (s : Slot) × (theme_mentions t s ≡ true) × (tuple_mentions (before ++ after) s ≡ false) → HasOwnSlot before a after
unfolding atom_mentions
own_theme before a after t e w = (w.0, ap (λ c. atom_mentions c w.0) e ∙ w.1, w.2)
