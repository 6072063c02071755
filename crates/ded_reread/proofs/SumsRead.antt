-- What the parts of a sum add up to, where each name stands once.
use Rattle.std.proofs.Common.{◌≡◌, ℕ, ◌^◌, ◌<◌, List, [], ◌∷◌, ◌++◌, refl, sym, ap, ◌∙◌, arith, Bool, false, append_assoc, append-nil, bytes_eq}
use Rattle.std.specs.Prelude.{ℤ, pos, ◌+ℤ◌, nat_le, Option, Some, None, if◌then◌else◌}
use Rattle.std.specs.List.{list_any}
use Rattle.std.proofs.lemmas.Bool.{or_parts}
use Rattle.std.proofs.lemmas.Bool.Decides.{nat_tests}
use Rattle.ded_model.specs.Plain.{AreOnce}
use Rattle.ded_terminals.specs.Literals.{Literal, numerator_over, marked}
use Rattle.ded_terminals.specs.Operands.{SignedFactor, Reading, quoted, named, parts, Sums, signed, put, put_at, no_sums, total_from, operand_over}
use Rattle.ded_syntax.specs.Marks.{is_marked}

-- the parts have these names, and these numerators over m
abbrev pub AreRead : ℕ → List SignedFactor → List (List ℕ × ℤ) → Type 0
AreRead m [] [] = Unit {0}
AreRead m [] (c ∷ cs) = ⊥
AreRead m (p ∷ ps) [] = ⊥
AreRead m (p ∷ ps) (c ∷ cs) = (p.1.1 ≡ Some c.0) × (signed p.0 (numerator_over m p.1.0) ≡ c.1) × AreRead m ps cs

-- no name of the one list stands in the other
abbrev AreApart : List (List ℕ × ℤ) → List (List ℕ × ℤ) → Type 0
AreApart [] cs = Unit {0}
AreApart (x ∷ xs) cs = (list_any (λ d. bytes_eq x.0 d.0) cs ≡ false) × AreApart xs cs

put_new : (xs : List (List ℕ × ℤ)) (c : List ℕ × ℤ) (cs : List (List ℕ × ℤ)) → AreApart xs (c ∷ cs) → put xs c.0 c.1 ≡ xs ++ c ∷ []
put_new [] c cs h = refl
put_new (x ∷ xs) c cs h =
    ap (λ (b : Bool). if b then (x.0, x.1 +ℤ c.1) ∷ xs else x ∷ put xs c.0 c.1) (or_parts (bytes_eq x.0 c.0) (list_any (λ d. bytes_eq x.0 d.0) cs) h.0).0
    ∙ ap (λ (l : List (List ℕ × ℤ)). x ∷ l) (put_new xs c cs h.1)

apart_push : (xs : List (List ℕ × ℤ)) (c : List ℕ × ℤ) (cs : List (List ℕ × ℤ)) → AreApart xs (c ∷ cs) → list_any (λ d. bytes_eq c.0 d.0) cs ≡ false → AreApart (xs ++ c ∷ []) cs
apart_push [] c cs h k = (k, tt)
apart_push (x ∷ xs) c cs h k = ((or_parts (bytes_eq x.0 c.0) (list_any (λ d. bytes_eq x.0 d.0) cs) h.0).1, apart_push xs c cs h.1 k)

total_go : (m : ℕ) (ps : List SignedFactor) (cs xs : List (List ℕ × ℤ)) (k : ℤ) → AreRead m ps cs → AreOnce cs → AreApart xs cs → total_from numerator_over m (xs, k) ps ≡ (xs ++ cs, k)
total_go m [] [] xs k r o h = ap (λ (l : List (List ℕ × ℤ)). (l, k)) (sym (append-nil xs))
total_go m [] (c ∷ cs) xs k r o h = absurd r
total_go m (p ∷ ps) [] xs k r o h = absurd r
total_go m (p ∷ ps) (c ∷ cs) xs k r o h =
    ap (λ (n : Option (List ℕ)). total_from numerator_over m (put_at (xs, k) n (signed p.0 (numerator_over m p.1.0))) ps) r.0
    ∙ ap (λ (z : ℤ). total_from numerator_over m (put xs c.0 z, k) ps) r.1
    ∙ ap (λ (l : List (List ℕ × ℤ)). total_from numerator_over m (l, k) ps) (put_new xs c cs h)
    ∙ total_go m ps cs (xs ++ c ∷ []) k r.2 o.1 (apart_push xs c cs h o.0)
    ∙ ap (λ (l : List (List ℕ × ℤ)). (l, k)) (append_assoc xs (c ∷ []) cs)

-- the parts with names, and none else
pub total_named : (m : ℕ) (ps : List SignedFactor) (cs : List (List ℕ × ℤ)) → AreRead m ps cs → AreOnce cs → total_from numerator_over m no_sums ps ≡ (cs, pos 0)
total_named m ps cs r o = total_go m ps cs [] (pos 0) r o tt

pub total_append : (m : ℕ) (a : Sums) (ps qs : List SignedFactor) → total_from numerator_over m a (ps ++ qs) ≡ total_from numerator_over m (total_from numerator_over m a ps) qs
total_append m a [] qs = refl
total_append m a (p ∷ ps) qs = total_append m (put_at a p.1.1 (signed p.0 (numerator_over m p.1.0))) ps qs

-- and a constant behind them
pub total_with : (m : ℕ) (ps : List SignedFactor) (cs : List (List ℕ × ℤ)) (b : Bool) (l : Literal) → AreRead m ps cs → AreOnce cs → total_from numerator_over m no_sums (ps ++ (b, (l, None)) ∷ []) ≡ (cs, pos 0 +ℤ signed b (numerator_over m l))
total_with m ps cs b l r o =
    total_append m no_sums ps ((b, (l, None)) ∷ [])
    ∙ ap (λ (a : Sums). total_from numerator_over m a ((b, (l, None)) ∷ [])) (total_named m ps cs r o)

-- ---- marks

pub no_mark : (m : ℕ) (r : Reading) → m < 2 ^ 63 → is_marked (operand_over marked m r) ≡ false
no_mark m (parts ps) h = low m h
  where
    low : (m : ℕ) → m < 2 ^ 63 → nat_le (2 ^ 63) m ≡ false
    low m h = grind (arith, nat_tests)
no_mark m (quoted t) h = refl
no_mark m (named n) h = refl
