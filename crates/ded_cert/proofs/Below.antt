-- Numbers above those of all slots of some rows, gathered one after another.
use Rattle.std.proofs.Common.{◌≡◌, ℕ, ◌+◌, ◌<◌, ◌≤◌, List, [], ◌∷◌, ◌++◌, take, length, get_or, arith, sym, ap, ◌∙◌, subst}
use Rattle.std.specs.Prelude.{ℤ}
use Rattle.std.specs.Borrow.{Bor}
use Rattle.std.proofs.lemmas.List.{take_more, map-append}
use Rattle.ded_num.proofs.Tests.{all_more}
use Rattle.ded_model.specs.declared.slot.Slot.{Slot}
use Rattle.ded_model.specs.Constraint.{LinearConstraint}
use Rattle.ded_model.specs.Coefs.{AllBelow}
use Rattle.ded_weighing.specs.Columns.{lent}
use Rattle.ded_cert.specs.Tracing.{AreBelow}

below_weaker : (m n : ℕ) (cs : List (Slot × ℤ)) → m ≤ n → AllBelow m cs → AllBelow n cs
below_weaker m n [] l h = tt
below_weaker m n (c ∷ cs) l h = (omega (arith, l, h.0), below_weaker m n cs l h.1)

below_append : (n : ℕ) (cs : List (Slot × ℤ)) (c : Slot × ℤ) → AllBelow n cs → c.0.number < n → AllBelow n (cs ++ c ∷ [])
below_append n [] c h l = (l, tt)
below_append n (d ∷ cs) c h l = (h.0, below_append n cs c h.1 l)

pub below_more : (m n : ℕ) (cs : List (Slot × ℤ)) (i : ℕ) (d : Slot × ℤ) → i < length cs → m ≤ n → AllBelow m (take i cs) → (get_or cs i d).0.number < n → AllBelow n (take (i + 1) cs)
below_more m n cs i d h l a k = subst (AllBelow n) (sym (take_more cs i d h)) (below_append n (take i cs) (get_or cs i d) (below_weaker m n (take i cs) l a) k)

rows_weaker : (m n : ℕ) (rs : List LinearConstraint) → m ≤ n → AreBelow m rs → AreBelow n rs
rows_weaker m n [] l h = tt
rows_weaker m n (r ∷ rs) l h = (below_weaker m n r.coefs l h.0, rows_weaker m n rs l h.1)

pub rows_more : (m n : ℕ) (rs : List (Bor LinearConstraint)) (i : ℕ) (r : Bor LinearConstraint) → i < length rs → r ≡ get_or rs i r → m ≤ n → AreBelow m (lent (take i rs)) → AllBelow n r.now.coefs → AreBelow n (lent (take (i + 1) rs))
rows_more m n rs i r h e l a k =
    subst (AreBelow n) (sym (ap lent (take_more rs i r h ∙ ap (λ x. take i rs ++ x ∷ []) (sym e)) ∙ map-append _ (take i rs) (r ∷ [])))
    (all_more (λ q. AllBelow n q.coefs) (lent (take i rs)) r.now (rows_weaker m n (lent (take i rs)) l a) k)
