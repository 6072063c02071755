-- Lemmas that several crates cite.
use Rattle.std.proofs.Common.{◌≡◌, ℕ, zero, suc, ◌<◌, false, List, [], ◌∷◌, length, arith, bytes_eq, ap, ◌∙◌, Bool}
use Rattle.std.specs.List.{list_any}
use Rattle.std.proofs.lemmas.Bool.{or_parts}
use Rattle.std.specs.Prelude.{ℤ, pos, negsuc, int_lt}
use Rattle.ded_model.specs.declared.name.Column.{Column}
use Rattle.ded_print.specs.Tuples.{column_at, signed}
use Rattle.ded_print.proofs.Signs.{plus}

pub other_name : (x : List ℕ) (cs : List Column) (k : ℕ) → k < length cs → list_any (λ d. bytes_eq x d.name) cs ≡ false → bytes_eq x (column_at cs k) ≡ false
other_name x [] k l e = absurd (omega (arith, l))
other_name x (c ∷ cs) zero l e = (or_parts (bytes_eq x c.name) (list_any (λ d. bytes_eq x d.name) cs) e).0
other_name x (c ∷ cs) (suc k) l e = other_name x cs k (omega (arith, l)) (or_parts (bytes_eq x c.name) (list_any (λ d. bytes_eq x d.name) cs) e).1

pub first_plus : (z : ℤ) → int_lt (signed (int_lt z (pos 0)) z) (pos 0) ≡ false
first_plus (pos n) = ap (λ (b : Bool). int_lt (signed b (pos n)) (pos 0)) (plus n) ∙ plus n
first_plus (negsuc n) = plus (suc n)
