-- Points: what an extension has at each key, a scaled point, and extensions of points that are the same.
--
-- A coordinate counts where it is the last one of its key, so a list with one more coordinate has that one at its key and
-- the old ones elsewhere (`last_from-append`). A number keeps its meaning where the denominator is multiplied by what it is
-- multiplied by. So where p and q are the same and p' extends p, q has a twin of p': over q's denominator times that of p',
-- with the new number multiplied by q's denominator (`twins`). And an extension is the same point at all other keys.
use Rattle.std.proofs.Common.{◌≡◌, ℕ, ◌*◌, ◌<◌, ◌==◌, ◌&&◌, ◌⊎◌, inl, inr, Bool, true, false, cond, List, [], ◌∷◌, ◌++◌, arith, refl, sym, ap, ◌∙◌, subst, true≢false, mul-pos}
use Rattle.std.specs.Prelude.{ℤ, pos, ◌*ℤ◌, if◌then◌else◌}
use Rattle.std.proofs.Math.IntN.{zero-*ℤ}
use Rattle.std.proofs.lemmas.Slice.Eq.{bytes_eq-Decides}
use Rattle.std.proofs.lemmas.Bool.Decides.{nat_tests}
use Rattle.ded_model.specs.declared.slot.Slot.{Slot}
use Rattle.ded_model.specs.declared.slot.Sort.{Sort}
use Rattle.ded_model.specs.declared.slot.Sort.TheVariants.{Rat, Text}
use Rattle.ded_model.specs.Point.{Key, slot, name, Value, number, text, Point, IsSameAt, IsSamePoint, IsNumberExtension, IsTextExtension, IsExtension, same_key, same_slot, same_sort, absent, last_from, as_number, as_text, number_at, text_at, times, all_times}
use Rattle.ded_num.proofs.Ring.{parts, ring, diff-pos, diff_same}

-- ---- keys

-- a sort is the same as itself
pub same_sort_refl : (s : Sort) → same_sort s s ≡ true
same_sort_refl Rat = refl
same_sort_refl Text = refl

-- a key is the same as itself
pub same_key_refl : (k : Key) → same_key k k ≡ true
same_key_refl (slot s) = grind (arith, same_sort_refl)
same_key_refl (name x) = (bytes_eq-Decides x x).1 refl

-- so is a slot
pub same_slot_refl : (s : Slot) → same_slot s s ≡ true
same_slot_refl s = same_key_refl (slot s)

-- two sorts that are the same are equal
pub same_sort_is : (a b : Sort) → same_sort a b ≡ true → a ≡ b
same_sort_is Rat Rat h = refl
same_sort_is Rat Text h = absurd (true≢false (sym h))
same_sort_is Text Rat h = absurd (true≢false (sym h))
same_sort_is Text Text h = refl

-- a slot is its number and its sort
slot_with : (a b : ℕ) (x y : Sort) → a ≡ b → x ≡ y → ◌≡◌ {A = Slot} (record { number = a; sort = x }) (record { number = b; sort = y })
slot_with a b x y e f = rw (e, f)

-- two numbers that a test finds equal
numbers_same : (a b : ℕ) (x : Bool) → ((a == b) && x) ≡ true → a ≡ b
numbers_same a b x h = grind (arith, nat_tests)

-- the parts of `and`
pub and_left : (x y : Bool) → (x && y) ≡ true → x ≡ true
and_left true y h = refl
and_left false y h = absurd (true≢false (sym h))

pub and_right : (x y : Bool) → (x && y) ≡ true → y ≡ true
and_right true y h = h
and_right false y h = absurd (true≢false (sym h))

-- two slots that are the same are equal
pub same_slot_is : (s t : Slot) → same_slot s t ≡ true → s ≡ t
same_slot_is s t h = slot_with s.number t.number s.sort t.sort (numbers_same s.number t.number _ h) (same_sort_is s.sort t.sort (and_right (s.number == t.number) _ h))

-- and two keys
pub same_key_is : (j k : Key) → same_key j k ≡ true → j ≡ k
same_key_is (slot s) (slot t) h = ap slot (same_slot_is s t h)
same_key_is (slot s) (name y) h = absurd (true≢false (sym h))
same_key_is (name x) (slot t) h = absurd (true≢false (sym h))
same_key_is (name x) (name y) h = ap name ((bytes_eq-Decides x y).0 h)

-- ---- the last coordinate of a key

-- a coordinate more counts at its key, and nowhere else
pub last_from-append : (v : Value) (cs : List (Key × Value)) (c : Key × Value) (k : Key) → last_from v (cs ++ c ∷ []) k ≡ (if same_key k c.0 then c.1 else last_from v cs k)
last_from-append v [] c k = refl
last_from-append v (b ∷ cs) c k = last_from-append (if same_key k b.0 then b.1 else v) cs c k

-- a choice of two values, multiplied
times-cond : (e : ℕ) (b : Bool) (v w : Value) → times e (cond b v w) ≡ cond b (times e v) (times e w)
times-cond e true v w = refl
times-cond e false v w = refl

-- the last coordinate of the multiplied ones is the last one, multiplied
pub last_from-all_times : (e : ℕ) (v : Value) (cs : List (Key × Value)) (k : Key) → last_from (times e v) (all_times e cs) k ≡ times e (last_from v cs k)
last_from-all_times e v [] k = refl
last_from-all_times e v (c ∷ cs) k =
    ap (λ w. last_from w (all_times e cs) k) (sym (times-cond e (same_key k c.0) c.1 v)) ∙ last_from-all_times e (if same_key k c.0 then c.1 else v) cs k

-- the number of a multiplied value
pub as_number-times : (e : ℕ) (v : Value) → as_number (times e v) ≡ as_number v *ℤ pos e
as_number-times e (number n) = refl
as_number-times e (text t) = sym (zero-*ℤ (pos e))

-- multiplying leaves a text
pub as_text-times : (e : ℕ) (v : Value) → as_text (times e v) ≡ as_text v
as_text-times e (number n) = refl
as_text-times e (text t) = refl

-- 0 times a number is 0
pub times-absent : (e : ℕ) → times e absent ≡ absent
times-absent e = ap number (zero-*ℤ (pos e))

-- ---- a point over another denominator

-- the point over e times its denominator
pub scaled : ℕ → Point → Point
scaled e p = record { den = p.den * e; coords = all_times e p.coords }

-- what the scaled point has at a key
pub last_from-scaled : (e : ℕ) (cs : List (Key × Value)) (k : Key) → last_from absent (all_times e cs) k ≡ times e (last_from absent cs k)
last_from-scaled e cs k = ap (λ v. last_from v (all_times e cs) k) (sym (times-absent e)) ∙ last_from-all_times e absent cs k

-- its number
pub number_at-scaled : (e : ℕ) (p : Point) (k : Key) → number_at (scaled e p) k ≡ number_at p k *ℤ pos e
unfolding number_at scaled
number_at-scaled e p k = ap as_number (last_from-scaled e p.coords k) ∙ as_number-times e _

-- its text
pub text_at-scaled : (e : ℕ) (p : Point) (k : Key) → text_at (scaled e p) k ≡ text_at p k
unfolding text_at scaled
text_at-scaled e p k = ap as_text (last_from-scaled e p.coords k) ∙ as_text-times e (last_from absent p.coords k)

-- a number times a product
pub scaled_law : (n : ℤ) (d e : ℕ) → n *ℤ pos (d * e) ≡ (n *ℤ pos e) *ℤ pos d
scaled_law n d e = rw (parts n, diff-pos (d * e), diff-pos d, diff-pos e) (simp ring (diff_same _ _ _ _ (omega arith)))

-- it is the same point
pub IsSamePoint-scaled : (e : ℕ) (p : Point) → IsSamePoint p (scaled e p)
unfolding scaled
IsSamePoint-scaled e p k = record {
  number = scaled_law (number_at p k) p.den e ∙ ap (λ n. n *ℤ pos p.den) (sym (number_at-scaled e p k));
  text = sym (text_at-scaled e p k);
}

-- ---- what an extension has at each key

-- a choice where the test is true
pub cond_true : {A : Type 0} (b : Bool) (x y : A) → b ≡ true → cond b x y ≡ x
cond_true b x y e = rw e

-- a choice where the test is false
pub cond_false : {A : Type 0} (b : Bool) (x y : A) → b ≡ false → cond b x y ≡ y
cond_false b x y e = rw e

-- the last coordinate counts
pub last_from-same : (v : Value) (cs : List (Key × Value)) (c : Key × Value) (k : Key) → same_key k c.0 ≡ true → last_from v (cs ++ c ∷ []) k ≡ c.1
last_from-same v cs c k e = last_from-append v cs c k ∙ cond_true _ _ _ e

-- at another key the last coordinate is one of the old ones
pub last_from-other : (v : Value) (cs : List (Key × Value)) (c : Key × Value) (k : Key) → same_key k c.0 ≡ false → last_from v (cs ++ c ∷ []) k ≡ last_from v cs k
last_from-other v cs c k e = last_from-append v cs c k ∙ cond_false _ _ _ e

-- a new number, at its key
pub number_at-extended : (p : Point) (k : Key) (q : Point) (x : IsNumberExtension p k q) (j : Key) → same_key j k ≡ true → number_at q j ≡ x.value
unfolding number_at
number_at-extended p k q x j e = ap (λ cs. as_number (last_from absent cs j)) x.coords ∙ ap as_number (last_from-same absent (all_times x.factor p.coords) (k, number x.value) j e)

-- a new number leaves the numbers at other keys, multiplied
pub number_at-kept : (p : Point) (k : Key) (q : Point) (x : IsNumberExtension p k q) (j : Key) → same_key j k ≡ false → number_at q j ≡ number_at p j *ℤ pos x.factor
unfolding number_at
number_at-kept p k q x j e =
    ap (λ cs. as_number (last_from absent cs j)) x.coords
    ∙ ap as_number (last_from-other absent (all_times x.factor p.coords) (k, number x.value) j e ∙ last_from-scaled x.factor p.coords j)
    ∙ as_number-times x.factor (last_from absent p.coords j)

-- a new number has the empty text
pub text_at-number_extended : (p : Point) (k : Key) (q : Point) (x : IsNumberExtension p k q) (j : Key) → same_key j k ≡ true → text_at q j ≡ []
unfolding text_at
text_at-number_extended p k q x j e = ap (λ cs. as_text (last_from absent cs j)) x.coords ∙ ap as_text (last_from-same absent (all_times x.factor p.coords) (k, number x.value) j e)

-- a new number leaves the texts at other keys
pub text_at-number_kept : (p : Point) (k : Key) (q : Point) (x : IsNumberExtension p k q) (j : Key) → same_key j k ≡ false → text_at q j ≡ text_at p j
unfolding text_at
text_at-number_kept p k q x j e =
    ap (λ cs. as_text (last_from absent cs j)) x.coords
    ∙ ap as_text (last_from-other absent (all_times x.factor p.coords) (k, number x.value) j e ∙ last_from-scaled x.factor p.coords j)
    ∙ as_text-times x.factor (last_from absent p.coords j)

-- a new text, at its key
pub text_at-extended : (p : Point) (k : Key) (q : Point) (x : IsTextExtension p k q) (j : Key) → same_key j k ≡ true → text_at q j ≡ x.value
unfolding text_at
text_at-extended p k q x j e = ap (λ cs. as_text (last_from absent cs j)) x.coords ∙ ap as_text (last_from-same absent p.coords (k, text x.value) j e)

-- a new text leaves the texts at other keys
pub text_at-kept : (p : Point) (k : Key) (q : Point) (x : IsTextExtension p k q) (j : Key) → same_key j k ≡ false → text_at q j ≡ text_at p j
unfolding text_at
text_at-kept p k q x j e = ap (λ cs. as_text (last_from absent cs j)) x.coords ∙ ap as_text (last_from-other absent p.coords (k, text x.value) j e)

-- a new text has the number 0
pub number_at-text_extended : (p : Point) (k : Key) (q : Point) (x : IsTextExtension p k q) (j : Key) → same_key j k ≡ true → number_at q j ≡ pos 0
unfolding number_at
number_at-text_extended p k q x j e = ap (λ cs. as_number (last_from absent cs j)) x.coords ∙ ap as_number (last_from-same absent p.coords (k, text x.value) j e)

-- a new text leaves the numbers at other keys
pub number_at-text_kept : (p : Point) (k : Key) (q : Point) (x : IsTextExtension p k q) (j : Key) → same_key j k ≡ false → number_at q j ≡ number_at p j
unfolding number_at
number_at-text_kept p k q x j e = ap (λ cs. as_number (last_from absent cs j)) x.coords ∙ ap as_number (last_from-other absent p.coords (k, text x.value) j e)

-- ---- extensions of two points alike

-- if p is the same as q, then q as p
pub IsSameAt-sym : (p q : Point) (k : Key) → IsSameAt p q k → IsSameAt q p k
IsSameAt-sym p q k h = record { number = sym h.number; text = sym h.text }

-- the extension of q whose last coordinate has the same value
pub twin : (p q : Point) (k : Key) (p' : Point) → IsNumberExtension p k p' → Point
twin p q k p' x = record { den = q.den * (p.den * x.factor); coords = all_times (p.den * x.factor) q.coords ++ (k, number (x.value *ℤ pos q.den)) ∷ [] }

-- it is an extension of q
pub twin_is : (p q : Point) (k : Key) (p' : Point) (x : IsNumberExtension p k p') → 0 < p.den → IsNumberExtension q k (twin p q k p' x)
unfolding twin
twin_is p q k p' x h = record {
  factor = p.den * x.factor;
  positive = mul-pos h x.positive;
  value = x.value *ℤ pos q.den;
  den = refl;
  coords = refl;
}

-- the products at the new key agree
at_key_law : (m : ℤ) (a b e : ℕ) → m *ℤ pos (b * (a * e)) ≡ (m *ℤ pos b) *ℤ pos (a * e)
at_key_law m a b e = rw (parts m, diff-pos (b * (a * e)), diff-pos b, diff-pos (a * e)) (simp ring (diff_same _ _ _ _ (omega arith)))

-- the products at another key, first half
kept_law : (n : ℤ) (a b e : ℕ) → (n *ℤ pos e) *ℤ pos (b * (a * e)) ≡ (n *ℤ pos b) *ℤ pos (e * (a * e))
kept_law n a b e = rw (parts n, diff-pos (b * (a * e)), diff-pos b, diff-pos e, diff-pos (e * (a * e))) (simp ring (diff_same _ _ _ _ (omega arith)))

-- second half
kept_law' : (n : ℤ) (a e : ℕ) → (n *ℤ pos a) *ℤ pos (e * (a * e)) ≡ (n *ℤ pos (a * e)) *ℤ pos (a * e)
kept_law' n a e = rw (parts n, diff-pos a, diff-pos (a * e), diff-pos (e * (a * e))) (simp ring (diff_same _ _ _ _ (omega arith)))

-- p' and its twin are the same at the new key, and wherever p and q are
pub twin-same : (p q : Point) (k : Key) (p' : Point) (x : IsNumberExtension p k p') → 0 < p.den → (j : Key) (b : Bool) → same_key j k ≡ b → ((b ≡ true) ⊎ IsSameAt p q j) → IsSameAt p' (twin p q k p' x) j
unfolding twin twin_is
twin-same p q k p' x h j true e s =
    let q' = twin p q k p' x in
    let y : IsNumberExtension q k q' = twin_is p q k p' x h in
    let den : p'.den ≡ p.den * x.factor = x.den in
    record {
      number = rw (number_at-extended p k p' x j e, number_at-extended q k q' y j e, den) (at_key_law x.value p.den q.den x.factor);
      text = text_at-number_extended p k p' x j e ∙ sym (text_at-number_extended q k q' y j e);
    }
twin-same p q k p' x h j false e (inl f) = absurd (true≢false (sym f))
twin-same p q k p' x h j false e (inr s) =
    let q' = twin p q k p' x in
    let y : IsNumberExtension q k q' = twin_is p q k p' x h in
    let den : p'.den ≡ p.den * x.factor = x.den in
    record {
      number =
          rw (number_at-kept p k p' x j e, number_at-kept q k q' y j e, den)
          (kept_law (number_at p j) p.den q.den x.factor ∙ ap (λ n. n *ℤ pos (x.factor * (p.den * x.factor))) s.number ∙ kept_law' (number_at q j) p.den x.factor);
      text = text_at-number_kept p k p' x j e ∙ s.text ∙ sym (text_at-number_kept q k q' y j e);
    }

-- the extension of q by the same text
pub text_twin : (p q : Point) (k : Key) (p' : Point) → IsTextExtension p k p' → Point
text_twin p q k p' x = record { den = q.den; coords = q.coords ++ (k, text x.value) ∷ [] }

-- it is an extension of q
pub text_twin_is : (p q : Point) (k : Key) (p' : Point) (x : IsTextExtension p k p') → IsTextExtension q k (text_twin p q k p' x)
unfolding text_twin
text_twin_is p q k p' x = record { value = x.value; bytes = x.bytes; den = refl; coords = refl }

-- p' and its twin are the same at the new key, and wherever p and q are
pub text_twin-same : (p q : Point) (k : Key) (p' : Point) (x : IsTextExtension p k p') → (j : Key) (b : Bool) → same_key j k ≡ b → ((b ≡ true) ⊎ IsSameAt p q j) → IsSameAt p' (text_twin p q k p' x) j
unfolding text_twin text_twin_is
text_twin-same p q k p' x j true e s =
    let q' = text_twin p q k p' x in
    let y : IsTextExtension q k q' = text_twin_is p q k p' x in
    record {
      number = rw (number_at-text_extended p k p' x j e, number_at-text_extended q k q' y j e) (zero-*ℤ (pos q.den) ∙ sym (zero-*ℤ (pos p'.den)));
      text = text_at-extended p k p' x j e ∙ sym (text_at-extended q k q' y j e);
    }
text_twin-same p q k p' x j false e (inl f) = absurd (true≢false (sym f))
text_twin-same p q k p' x j false e (inr s) =
    let q' = text_twin p q k p' x in
    let y : IsTextExtension q k q' = text_twin_is p q k p' x in
    record {
      number = rw (number_at-text_kept p k p' x j e, number_at-text_kept q k q' y j e, x.den) s.number;
      text = text_at-kept p k p' x j e ∙ s.text ∙ sym (text_at-kept q k q' y j e);
    }

-- where p has an extension at the key, q has one that is the same at the key and wherever p and q are the same
pub record IsTwin (s : Sort) (p q : Point) (k : Key) (p' q' : Point) : Type 0 where
  pub extends : IsExtension s q k q'
  pub same : (j : Key) → ((same_key j k ≡ true) ⊎ IsSameAt p q j) → IsSameAt p' q' j

-- such a twin, of either sort
pub twins : (s : Sort) (p q : Point) (k : Key) (p' : Point) → 0 < p.den → IsExtension s p k p' → (q' : Point) × IsTwin s p q k p' q'
twins Rat p q k p' h x = (twin p q k p' x, record { extends = twin_is p q k p' x h; same = λ j. twin-same p q k p' x h j (same_key j k) refl })
twins Text p q k p' h x = (text_twin p q k p' x, record { extends = text_twin_is p q k p' x; same = λ j. text_twin-same p q k p' x j (same_key j k) refl })

-- an extension has a positive denominator where the point has one
pub positive-extension : (s : Sort) (p : Point) (k : Key) (q : Point) → 0 < p.den → IsExtension s p k q → 0 < q.den
positive-extension Rat p k q h x = subst (λ n. 0 < n) (sym x.den) (mul-pos h x.positive)
positive-extension Text p k q h x = subst (λ n. 0 < n) (sym x.den) h
