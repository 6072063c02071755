-- The texts of a point are byte strings, and an extension of a point is a point.
use Rattle.std.proofs.Common.{ℕ, Bool, true, false, cond, List, [], ◌∷◌, ◌++◌, sym, subst}
use Rattle.ded_model.specs.declared.slot.Sort.{Sort}
use Rattle.ded_model.specs.declared.slot.Sort.TheVariants.{Rat, Text}
use Rattle.ded_model.specs.Point.{Key, Value, number, text, AllBytes, IsValue, AreValues, Point, IsPoint, IsExtension, text_at, same_key, times, all_times, absent, last_from, as_text}
use Rattle.ded_model.proofs.Points.{positive-extension}

pub append_values : (cs ds : List (Key × Value)) → AreValues cs → AreValues ds → AreValues (cs ++ ds)
append_values [] ds h k = k
append_values (c ∷ cs) ds h k = (h.0, append_values cs ds h.1 k)

pub times_value : (e : ℕ) (v : Value) → IsValue v → IsValue (times e v)
times_value e (number n) h = tt
times_value e (text t) h = h

pub times_values : (e : ℕ) (cs : List (Key × Value)) → AreValues cs → AreValues (all_times e cs)
times_values e [] h = tt
times_values e (c ∷ cs) h = (times_value e c.1 h.0, times_values e cs h.1)

-- an extension of a point is one
pub extension-point : (s : Sort) (p q : Point) (k : Key) → IsPoint p → IsExtension s p k q → IsPoint q
extension-point Rat p q k h x = record {
  positive = positive-extension Rat p k q h.positive x;
  bytes = subst AreValues (sym x.coords) (append_values (all_times x.factor p.coords) ((k, number x.value) ∷ []) (times_values x.factor p.coords h.bytes) (tt, tt));
}
extension-point Text p q k h x = record {
  positive = positive-extension Text p k q h.positive x;
  bytes = subst AreValues (sym x.coords) (append_values p.coords ((k, text x.value) ∷ []) h.bytes (x.bytes, tt));
}

pub either : (b : Bool) (v w : Value) → IsValue v → IsValue w → IsValue (cond b v w)
either true v w h k = h
either false v w h k = k

pub last-value : (v : Value) (cs : List (Key × Value)) (k : Key) → IsValue v → AreValues cs → IsValue (last_from v cs k)
last-value v [] k h i = h
last-value v (c ∷ cs) k h i = last-value (cond (same_key k c.0) c.1 v) cs k (either (same_key k c.0) c.1 v i.0 h) i.1

pub text-bytes : (v : Value) → IsValue v → AllBytes (as_text v)
text-bytes (number n) h = tt
text-bytes (text t) h = h

-- the texts of a point are byte strings
pub point-bytes : (p : Point) (k : Key) → IsPoint p → AllBytes (text_at p k)
unfolding text_at
point-bytes p k h = text-bytes (last_from absent p.coords k) (last-value absent p.coords k tt h.bytes)
