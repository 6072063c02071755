-- A point with the numbers of one point and the texts of another.
--
-- The numbers are taken from the coordinates of the one at rational slots, the texts from those of the other at text slots,
-- both over the product of the denominators. At a rational slot it is the same point as the one, at a text slot as the other.
use Rattle.std.proofs.Common.{◌≡◌, ℕ, ◌*◌, Bool, true, false, cond, List, [], ◌∷◌, ◌++◌, arith, refl, sym, ap, ◌∙◌, true≢false, mul-pos}
use Rattle.std.specs.Prelude.{pos, ◌*ℤ◌}
use Rattle.ded_model.specs.declared.slot.Slot.{Slot}
use Rattle.ded_model.specs.declared.slot.Sort.{Sort}
use Rattle.ded_model.specs.declared.slot.Sort.TheVariants.{Rat, Text}
use Rattle.ded_model.specs.Point.{Key, slot, name, Value, number, text, Point, IsPoint, IsValue, AreValues, IsSameAt, same_key, same_sort, absent, last_from, as_number, as_text, number_at, text_at, times, all_times}
use Rattle.ded_model.proofs.Points.{same_key_is, scaled_law, last_from-all_times, times-absent, as_number-times, as_text-times}
use Rattle.ded_model.proofs.PointTexts.{append_values}

-- ---- coordinates at keys of one sort

-- the key is a slot of the sort
abbrev is_of : Sort → Key → Bool
is_of s (slot t) = same_sort t.sort s
is_of s (name x) = false

-- the coordinates at such keys
abbrev keep : Sort → List (Key × Value) → List (Key × Value)
keep s [] = []
keep s (c ∷ cs) = cond (is_of s c.0) (c ∷ keep s cs) (keep s cs)

-- they have the values of such a key
last_from-keep : (s : Sort) (v : Value) (cs : List (Key × Value)) (k : Key) → is_of s k ≡ true → last_from v (keep s cs) k ≡ last_from v cs k
last_from-keep s v [] k h = refl
last_from-keep s v (c ∷ cs) k h = go (λ w. last_from-keep s w cs k h) (is_of s c.0) refl (same_key k c.0) refl
  where
    go : ((w : Value) → last_from w (keep s cs) k ≡ last_from w cs k) → (b : Bool) → is_of s c.0 ≡ b → (d : Bool) → same_key k c.0 ≡ d → last_from v (cond b (c ∷ keep s cs) (keep s cs)) k ≡ last_from v (c ∷ cs) k
    go ih true e d f = ih (cond (same_key k c.0) c.1 v)
    go ih false e true f = absurd (true≢false (sym h ∙ ap (is_of s) (same_key_is k c.0 f) ∙ e))
    go ih false e false f = ih v ∙ ap (λ b. last_from (cond b c.1 v) cs k) (sym f)

last_from-both : (v : Value) (cs ds : List (Key × Value)) (k : Key) → last_from v (cs ++ ds) k ≡ last_from (last_from v cs k) ds k
last_from-both v [] ds k = refl
last_from-both v (c ∷ cs) ds k = last_from-both (cond (same_key k c.0) c.1 v) cs ds k

-- ---- over another denominator

-- coordinates at other keys add nothing, multiplied too
last_from-none : (s : Sort) (e : ℕ) (v : Value) (cs : List (Key × Value)) (k : Key) → is_of s k ≡ false → last_from v (all_times e (keep s cs)) k ≡ v
last_from-none s e v [] k h = refl
last_from-none s e v (c ∷ cs) k h = go (λ w. last_from-none s e w cs k h) (is_of s c.0) refl (same_key k c.0) refl
  where
    go : ((w : Value) → last_from w (all_times e (keep s cs)) k ≡ w) → (b : Bool) → is_of s c.0 ≡ b → (d : Bool) → same_key k c.0 ≡ d → last_from v (all_times e (cond b (c ∷ keep s cs) (keep s cs))) k ≡ v
    go ih true i true f = absurd (true≢false (sym i ∙ ap (is_of s) (sym (same_key_is k c.0 f)) ∙ h))
    go ih true i false f = ih (cond (same_key k c.0) (times e c.1) v) ∙ ap (λ b. cond b (times e c.1) v) f
    go ih false i d f = ih v

last_from-times : (s : Sort) (e : ℕ) (cs : List (Key × Value)) (k : Key) → is_of s k ≡ true → last_from absent (all_times e (keep s cs)) k ≡ times e (last_from absent cs k)
last_from-times s e cs k h =
    ap (λ v. last_from v (all_times e (keep s cs)) k) (sym (times-absent e)) ∙ last_from-all_times e absent (keep s cs) k ∙ ap (times e) (last_from-keep s absent cs k h)

-- ---- the merged point

pub merged : Point → Point → Point
merged p q = record { den = p.den * q.den; coords = all_times q.den (keep Rat p.coords) ++ all_times p.den (keep Text q.coords) }

first_value : (p q : Point) (s : Slot) → s.sort ≡ Rat → last_from absent (merged p q).coords (slot s) ≡ times q.den (last_from absent p.coords (slot s))
unfolding merged
first_value p q s e =
    last_from-both absent (all_times q.den (keep Rat p.coords)) (all_times p.den (keep Text q.coords)) (slot s)
    ∙ last_from-none Text p.den _ q.coords (slot s) (ap (λ t. same_sort t Text) e)
    ∙ last_from-times Rat q.den p.coords (slot s) (ap (λ t. same_sort t Rat) e)

second_value : (p q : Point) (s : Slot) → s.sort ≡ Text → last_from absent (merged p q).coords (slot s) ≡ times p.den (last_from absent q.coords (slot s))
unfolding merged
second_value p q s e =
    last_from-both absent (all_times q.den (keep Rat p.coords)) (all_times p.den (keep Text q.coords)) (slot s)
    ∙ ap (λ v. last_from v (all_times p.den (keep Text q.coords)) (slot s)) (last_from-none Rat q.den absent p.coords (slot s) (ap (λ t. same_sort t Rat) e))
    ∙ last_from-times Text p.den q.coords (slot s) (ap (λ t. same_sort t Text) e)

-- at a rational slot it is the first point
pub merged_first : (p q : Point) (s : Slot) → s.sort ≡ Rat → IsSameAt p (merged p q) (slot s)
unfolding number_at text_at merged
merged_first p q s e = record {
  number = scaled_law (number_at p (slot s)) p.den q.den ∙ ap (λ n. n *ℤ pos p.den) (sym (ap as_number (first_value p q s e) ∙ as_number-times q.den (last_from absent p.coords (slot s))));
  text = sym (ap as_text (first_value p q s e) ∙ as_text-times q.den (last_from absent p.coords (slot s)));
}

-- at a text slot the second
pub merged_second : (p q : Point) (s : Slot) → s.sort ≡ Text → IsSameAt q (merged p q) (slot s)
unfolding number_at text_at merged
merged_second p q s e = record {
  number = ap (λ d. number_at q (slot s) *ℤ pos d) (turn p.den q.den) ∙ scaled_law (number_at q (slot s)) q.den p.den ∙ ap (λ n. n *ℤ pos q.den) (sym (ap as_number (second_value p q s e) ∙ as_number-times p.den (last_from absent q.coords (slot s))));
  text = sym (ap as_text (second_value p q s e) ∙ as_text-times p.den (last_from absent q.coords (slot s)));
}
  where
    turn : (m n : ℕ) → m * n ≡ n * m
    turn m n = omega arith

-- ---- it is a point

kept_values : (s : Sort) (e : ℕ) (cs : List (Key × Value)) → AreValues cs → AreValues (all_times e (keep s cs))
kept_values s e [] h = tt
kept_values s e (c ∷ cs) h = go (kept_values s e cs h.1) (is_of s c.0)
  where
    scaled : (v : Value) → IsValue v → IsValue (times e v)
    scaled (number n) i = tt
    scaled (text t) i = i

    go : AreValues (all_times e (keep s cs)) → (b : Bool) → AreValues (all_times e (cond b (c ∷ keep s cs) (keep s cs)))
    go ih true = (scaled c.1 h.0, ih)
    go ih false = ih

pub merged_is : (p q : Point) → IsPoint p → IsPoint q → IsPoint (merged p q)
unfolding merged
merged_is p q h k = record {
  positive = mul-pos h.positive k.positive;
  bytes = append_values (all_times q.den (keep Rat p.coords)) (all_times p.den (keep Text q.coords)) (kept_values Rat q.den p.coords h.bytes) (kept_values Text p.den q.coords k.bytes);
}
