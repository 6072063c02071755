-- What is left of rows after one slot more is eliminated.
use Rattle.std.proofs.Common.{◌≡◌, ℕ, zero, suc, ◌+◌, ◌*◌, ◌^◌, ◌<◌, ◌≤◌, min, true, false, List, [], ◌∷◌, ◌++◌, ◌⊎◌, ⊎_elim, length, take, get_or, arith, refl, sym, ap, ◌∙◌, subst, true≢false, add-one}
use Rattle.std.proofs.lemmas.Bool.{or_parts, or_from}
use Rattle.std.specs.Prelude.{pos, ◌*ℤ◌, IsTrue, ◌↔◌}
use Rattle.std.specs.List.{AllByRecursion}
use Rattle.std.proofs.lemmas.List.{length-append, length-take, take_more}
use Rattle.std.proofs.Math.Pow.{pow-add}
use Rattle.ded_num.proofs.Signs.{times_pos_twice, times_one_back}
use Rattle.ded_model.specs.declared.slot.Slot.{Slot}
use Rattle.ded_model.specs.declared.slot.Sort.TheVariants.{Rat}
use Rattle.ded_model.specs.Constraint.{LinearConstraint}
use Rattle.ded_model.specs.Point.{slot, Point, IsPoint, IsNumberExtension, same_slot, stands_in, number_at}
use Rattle.ded_model.specs.Cell.{conj_holds, HoldsSomewhere}
use Rattle.ded_model.specs.Row.{row_holds}
use Rattle.ded_model.specs.Lines.{AreWithin, row_lines, clash_at}
use Rattle.ded_model.proofs.LineLengths.{no_clash, within_more, elim-within}
use Rattle.ded_model.proofs.Points.{number_at-kept}
use Rattle.ded_model.proofs.SlotLists.{same_slot-turned, stands_more}
use Rattle.ded_theory.specs.Conjunctions.{conj_lines}
use Rattle.ded_theory.specs.Eliminations.{SomeExtension}
use Rattle.ded_linear.proofs.Shadows.{itself, extension_point, rational_extension}
use Rattle.ded_cert.specs.Projecting.{digits_after, KeepsNumbers, IsStep, IsProjected, GetLong}
use Rattle.ded_cert.proofs.Combined.{elim_vanishes}

-- ---- lists with one slot more

-- ---- numbers that are kept

above_product : (e f : ℕ) → 0 < e → 0 < f → 0 < e * f
above_product e f h k = grind arith

keeps_more : (done : List Slot) (s : Slot) (p q r : Point) → IsNumberExtension p (slot s) q → KeepsNumbers done q r → KeepsNumbers (done ++ s ∷ []) p r
keeps_more done s p q r x k = record {
  factor = x.factor * k.factor;
  positive = above_product x.factor k.factor x.positive k.positive;
  kept = λ t e.
      let n = or_parts (stands_in done t) (same_slot s t) (sym (stands_more done s t) ∙ e) in
      k.kept t n.0 ∙ ap (λ z. z *ℤ pos k.factor) (number_at-kept p (slot s) q x (slot t) (same_slot-turned s t n.1)) ∙ times_pos_twice (number_at p (slot t)) x.factor k.factor;
}

-- ---- steps

pub projected_none : (rows : List LinearConstraint) → IsProjected rows [] rows
projected_none rows = record {
  holds = λ p i h. h;
  back = λ p i h. (p, i, h, record { factor = 1; positive = omega arith; kept = λ t e. times_one_back (number_at p (slot t)) });
  without = λ s h. refl;
  within = λ b h. h;
  vanish = λ ws k h. h;
}

-- of rows that hold somewhere something is left
pub never_holds : (s : Slot) (rows : List LinearConstraint) → s.sort ≡ Rat → HoldsSomewhere (conj_holds row_holds rows) → ((p : Point) → IsPoint p → IsTrue false ↔ SomeExtension s (conj_holds row_holds rows) p) → ⊥
never_holds s rows e h n = true≢false (sym ((n h.0 h.1).1 (itself s rows h.0 e h.2)))

longer : (done : List Slot) (s : Slot) → length (done ++ s ∷ []) ≡ suc (length done)
longer done s = omega (arith, length-append done (s ∷ []))

module _ (rows : List LinearConstraint) (done : List Slot) (mid : List LinearConstraint) (s : Slot) (left : List LinearConstraint) where
  pub projected_more : s.sort ≡ Rat → IsProjected rows done mid → IsStep mid s left → IsProjected rows (done ++ s ∷ []) left
  projected_more e j st = record {
    holds = λ p i h. (st.holds p i).1 (itself s mid p e (j.holds p i h));
    back = λ p i h.
        let w = rational_extension s (conj_holds row_holds mid) p e ((st.holds p i).0 h) in
        let v = j.back w.0 (extension_point (slot s) p w.0 i w.1) w.2 in
        (v.0, v.1, v.2, keeps_more done s p w.0 v.0 w.1 v.3);
    without = λ t h.
        let o = st.slots t h in
        stands_more done s t ∙ or_from (stands_in done t) (same_slot s t) (j.without t o.1) (same_slot-turned t s o.0);
    within = λ b h. subst (λ n. AreWithin (digits_after b n) (conj_lines row_lines left)) (sym (longer done s))
        (λ l i. elim-within s (conj_lines row_lines mid) (digits_after b (length done)) (j.within b h) l (st.lines l i));
    vanish = λ ws k h l i. elim_vanishes ws k s (conj_lines row_lines mid) (j.vanish ws k h) l (st.lines l i);
  }

  pub some_left : IsProjected rows done mid → HoldsSomewhere (conj_holds row_holds rows) → HoldsSomewhere (conj_holds row_holds mid)
  some_left j h = (h.0, h.1, j.holds h.0 h.1 h.2)

  below_or : (k m : ℕ) → (k < m) ⊎ (m ≤ k)
  below_or k m = grind arith

  -- lines that clash are long
  pub clash_long : (n : ℕ) → length done < n → IsProjected rows done mid → clash_at s (conj_lines row_lines mid) ≡ true → GetLong rows n
  clash_long n h j c = record {
    steps = length done;
    fewer = h;
    long = λ b w. ⊎_elim
        (λ (k : 63 < digits_after b (length done)). k)
        (λ k. absurd (true≢false (sym c ∙ no_clash s (conj_lines row_lines mid) (λ l i. within_more (digits_after b (length done)) 63 l k (j.within b w l i)))))
        (below_or 63 (digits_after b (length done)));
  }

-- n eliminations make (b + 1) * 2^n - 1 digits of b
pub digits_law : (b n : ℕ) → digits_after b n + 1 ≡ (b + 1) * 2 ^ n
digits_law b zero = omega arith
digits_law b (suc n) = let i = digits_law b n in let e : 2 ^ (suc n) ≡ 2 ^ n * 2 = ap (λ k. 2 ^ k) (sym (add-one n)) ∙ pow-add 2 n 1 in rw e (omega (arith, i))

-- ---- slots of a list, one after another

sort_at : (ss : List Slot) (i : ℕ) (d : Slot) → i < length ss → AllByRecursion (λ s. s.sort ≡ Rat) ss → (get_or ss i d).sort ≡ Rat
sort_at [] i d h a = absurd (omega arith)
sort_at (s ∷ ss) zero d h a = a.0
sort_at (s ∷ ss) (suc i) d h a = sort_at ss i d (omega arith) a.1

module _ (rows : List LinearConstraint) (ss : List Slot) (i : ℕ) (d : Slot) (mid : List LinearConstraint) (h : i < length ss) (j : IsProjected rows (take i ss) mid) where
  pub next_projected : (left : List LinearConstraint) → AllByRecursion (λ s. s.sort ≡ Rat) ss → IsStep mid (get_or ss i d) left → IsProjected rows (take (i + 1) ss) left
  next_projected left a st = subst (λ xs. IsProjected rows xs left) (sym (take_more ss i d h)) (projected_more rows (take i ss) mid (get_or ss i d) left (sort_at ss i d h a) j st)

  pub next_long : clash_at (get_or ss i d) (conj_lines row_lines mid) ≡ true → GetLong rows (length ss)
  next_long c = clash_long rows (take i ss) mid (get_or ss i d) [] (length ss) (shorter (length-take i ss)) j c
    where
      shorter : length (take i ss) ≡ min i (length ss) → length (take i ss) < length ss
      shorter e = omega (arith, e, h)
