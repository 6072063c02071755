-- What is definable by a list of conjunctions: closed under every connective and quantifier, and decided at every point.
--
-- A fact about points is definable where some finite list of conjunctions of linear inequalities and text tests has one that
-- holds exactly where the fact does. Such lists are closed under `or` (append), `and` (pairwise join), `not` (one literal of
-- each conjunction turned round), and `exists`: a rational key is eliminated after Fourier and Motzkin (Numbers), a text
-- key by trying the words that stand in the conjunction and one text that is none of them (Texts). `forall` is not some
-- not. The values of a point that are linear forms and words at another point are substituted, for relations and views. As a
-- conjunction is tested by computing, all that is definable is decided, and no axiom is needed.
use Rattle.std.proofs.Common.{◌≡◌, ℕ, suc, ◌*◌, ◌⊎◌, inl, inr, ⊎_elim, Bool, true, false, not, List, [], ◌∷◌, ◌++◌, map, arith, refl, sym, ap, ◌∙◌, subst, true≢false}
use Rattle.std.specs.Prelude.{ℤ, pos, negsuc, ◌*ℤ◌, ◌↔◌}
use lib.IntN.{neg_ℤ}
use Rattle.std.proofs.lemmas.Int.{ints, by_lt_z}
use Rattle.ded_model.specs.declared.slot.Sort.{Sort}
use Rattle.ded_model.specs.declared.slot.Sort.TheVariants.{Rat, Text}
use Rattle.ded_model.specs.Point.{Key, Point, IsExtension}
use Rattle.ded_model.specs.Logic.{Logic, atom, always, never, negation, every_of, some_of, implies, minus, exists, forall, Logics, none, also, Sat, SatEvery, SatSome}
use Rattle.ded_model.proofs.Core.{Meets}
use Rattle.ded_model.proofs.Lists.{Every, Some, flat, every-append, every-left, every-right, some-left, some-right, some-append, some_weaker, some-flat, some-unflat, some-map, some-unmap, from_some}
use Rattle.ded_model.proofs.Terms.{linear_at, scale, linear-scale, test_at, Line, Claim, Conj, op_of, LineHolds, ClaimHolds, ConjHolds, SomeHolds, Put, put, PutsNumbers, PutsTexts, conj_put}
use Rattle.ded_model.proofs.Numbers.{without_number, number_sound, number_exact}
use Rattle.ded_model.proofs.Texts.{without_text, text_sound, text_exact}

-- a list of conjunctions that holds at a point exactly where P does
pub record Definable (P : Point → Type 0) : Type 0 where
  pub list : List Conj
  pub is : (p : Point) → P p ↔ SomeHolds list p

-- ---- conjunctions
abbrev pub empty : Conj
empty = record { lines = []; claims = [] }

pub empty_holds : (p : Point) → ConjHolds p empty
empty_holds p = record { lines = tt; claims = tt }

abbrev pub join_conj : Conj → Conj → Conj
join_conj c d = record { lines = c.lines ++ d.lines; claims = c.claims ++ d.claims }

pub join_holds : (p : Point) (c d : Conj) → ConjHolds p c → ConjHolds p d → ConjHolds p (join_conj c d)
join_holds p c d h k = record { lines = every-append (LineHolds p) c.lines d.lines h.lines k.lines; claims = every-append (ClaimHolds p) c.claims d.claims h.claims k.claims }

pub left_holds : (p : Point) (c d : Conj) → ConjHolds p (join_conj c d) → ConjHolds p c
left_holds p c d h = record { lines = every-left (LineHolds p) c.lines d.lines h.lines; claims = every-left (ClaimHolds p) c.claims d.claims h.claims }

pub right_holds : (p : Point) (c d : Conj) → ConjHolds p (join_conj c d) → ConjHolds p d
right_holds p c d h = record { lines = every-right (LineHolds p) c.lines d.lines h.lines; claims = every-right (ClaimHolds p) c.claims d.claims h.claims }

-- ---- product of two lists
abbrev pub product : List Conj → List Conj → List Conj
product cs ds = flat (λ c. map (join_conj c) ds) cs

pub product_to : (p : Point) (cs ds : List Conj) → SomeHolds cs p → SomeHolds ds p → SomeHolds (product cs ds) p
product_to p cs ds h k =
    some-flat (λ c. map (join_conj c) ds) (ConjHolds p) cs
    (some_weaker (ConjHolds p) (λ c. SomeHolds (map (join_conj c) ds) p) cs
    (λ c i. some-map (join_conj c) (ConjHolds p) ds (some_weaker (ConjHolds p) (λ d. ConjHolds p (join_conj c d)) ds (λ d j. join_holds p c d i j) k)) h)

pub product_from : (p : Point) (cs ds : List Conj) → SomeHolds (product cs ds) p → SomeHolds cs p × SomeHolds ds p
product_from p cs ds h = (
  some_weaker (λ c. SomeHolds (map (join_conj c) ds) p) (ConjHolds p) cs
      (λ c i. from_some (λ d. ConjHolds p (join_conj c d)) (ConjHolds p c) ds (λ d j. left_holds p c d j) (some-unmap (join_conj c) (ConjHolds p) ds i)) rows,
  from_some (λ c. SomeHolds (map (join_conj c) ds) p) (SomeHolds ds p) cs
      (λ c i. some_weaker (λ d. ConjHolds p (join_conj c d)) (ConjHolds p) ds (λ d j. right_holds p c d j) (some-unmap (join_conj c) (ConjHolds p) ds i)) rows,
)
  where
    rows : Some (λ c. SomeHolds (map (join_conj c) ds) p) cs
    rows = some-unflat (λ c. map (join_conj c) ds) (ConjHolds p) cs h

-- ---- complements
pub neg_times : (z : ℤ) → neg_ℤ (pos 1) *ℤ z ≡ neg_ℤ z
neg_times (pos n) = let e : 1 * n ≡ n = omega arith in ap (λ m. neg_ℤ (pos m)) e
neg_times (negsuc n) = let e : 1 * suc n ≡ suc n = omega arith in ap pos e

abbrev pub other_line : Line → Line
other_line l = record { strict = not l.strict; sum = scale (neg_ℤ (pos 1)) l.sum }

pub line_or_other : (b : Bool) (z : ℤ) → Meets (op_of b) z ⊎ Meets (op_of (not b)) (neg_ℤ z)
line_or_other true z = by_lt_z z (pos 0) (λ h. inl h) (λ h. inr (omega (arith, ints)))
line_or_other false z = by_lt_z (pos 0) z (λ h. inr (omega (arith, ints))) (λ h. inl h)

pub line_not_other : (b : Bool) (z : ℤ) → Meets (op_of b) z → Meets (op_of (not b)) (neg_ℤ z) → ⊥
line_not_other true z h k = absurd (omega (arith, ints))
line_not_other false z h k = absurd (omega (arith, ints))

pub other-is : (l : Line) (p : Point) → linear_at (other_line l).sum p ≡ neg_ℤ (linear_at l.sum p)
other-is l p = linear-scale (neg_ℤ (pos 1)) l.sum p ∙ neg_times (linear_at l.sum p)

abbrev pub other_claim : Claim → Claim
other_claim c = record { test = c.test; value = not c.value }

pub claim_or_other : (b v : Bool) → (b ≡ v) ⊎ (b ≡ not v)
claim_or_other true true = inl refl
claim_or_other true false = inr refl
claim_or_other false true = inr refl
claim_or_other false false = inl refl

pub claim_not_other : (b v : Bool) → b ≡ v → b ≡ not v → ⊥
claim_not_other b true e f = true≢false (sym e ∙ f)
claim_not_other b false e f = true≢false (sym f ∙ e)

abbrev pub line_conj : Line → Conj
line_conj l = record { lines = l ∷ []; claims = [] }

abbrev pub claim_conj : Claim → Conj
claim_conj c = record { lines = []; claims = c ∷ [] }

abbrev pub other_lines : List Line → List Conj
other_lines [] = []
other_lines (l ∷ ls) = line_conj (other_line l) ∷ other_lines ls

abbrev pub other_claims : List Claim → List Conj
other_claims [] = []
other_claims (c ∷ cs) = claim_conj (other_claim c) ∷ other_claims cs

-- one of the two holds, and not both
pub lines_or : (p : Point) (ls : List Line) → Every (LineHolds p) ls ⊎ SomeHolds (other_lines ls) p
lines_or p [] = inl tt
lines_or p (l ∷ ls) = ⊎_elim
    (λ (h : LineHolds p l). ⊎_elim (λ (k : Every (LineHolds p) ls). inl (h, k)) (λ k. inr (inr k)) (lines_or p ls))
    (λ h. inr (inl (record { lines = (subst (Meets (op_of (not l.strict))) (sym (other-is l p)) h, tt); claims = tt })))
    (line_or_other l.strict (linear_at l.sum p))

pub lines_not : (p : Point) (ls : List Line) → Every (LineHolds p) ls → SomeHolds (other_lines ls) p → ⊥
lines_not p [] h k = k
lines_not p (l ∷ ls) h (inl k) = line_not_other l.strict (linear_at l.sum p) h.0 (subst (Meets (op_of (not l.strict))) (other-is l p) k.lines.0)
lines_not p (l ∷ ls) h (inr k) = lines_not p ls h.1 k

pub claims_or : (p : Point) (cs : List Claim) → Every (ClaimHolds p) cs ⊎ SomeHolds (other_claims cs) p
claims_or p [] = inl tt
claims_or p (c ∷ cs) = ⊎_elim
    (λ (h : ClaimHolds p c). ⊎_elim (λ (k : Every (ClaimHolds p) cs). inl (h, k)) (λ k. inr (inr k)) (claims_or p cs))
    (λ h. inr (inl (record { lines = tt; claims = (h, tt) })))
    (claim_or_other (test_at c.test p) c.value)

pub claims_not : (p : Point) (cs : List Claim) → Every (ClaimHolds p) cs → SomeHolds (other_claims cs) p → ⊥
claims_not p [] h k = k
claims_not p (c ∷ cs) h (inl k) = claim_not_other (test_at c.test p) c.value h.0 k.claims.0
claims_not p (c ∷ cs) h (inr k) = claims_not p cs h.1 k

abbrev pub other_conj : Conj → List Conj
other_conj c = other_lines c.lines ++ other_claims c.claims

pub conj_or : (p : Point) (c : Conj) → ConjHolds p c ⊎ SomeHolds (other_conj c) p
conj_or p c = ⊎_elim
    (λ (h : Every (LineHolds p) c.lines). ⊎_elim
    (λ (k : Every (ClaimHolds p) c.claims). inl (record { lines = h; claims = k }))
    (λ k. inr (some-right (ConjHolds p) (other_lines c.lines) (other_claims c.claims) k)) (claims_or p c.claims))
    (λ h. inr (some-left (ConjHolds p) (other_lines c.lines) (other_claims c.claims) h))
    (lines_or p c.lines)

pub conj_not : (p : Point) (c : Conj) → ConjHolds p c → SomeHolds (other_conj c) p → ⊥
conj_not p c h s = ⊎_elim (lines_not p c.lines h.lines) (claims_not p c.claims h.claims) (some-append (ConjHolds p) (other_lines c.lines) (other_claims c.claims) s)

abbrev pub complement : List Conj → List Conj
complement [] = empty ∷ []
complement (c ∷ cs) = product (other_conj c) (complement cs)

pub list_or : (p : Point) (cs : List Conj) → SomeHolds cs p ⊎ SomeHolds (complement cs) p
list_or p [] = inr (inl (empty_holds p))
list_or p (c ∷ cs) = ⊎_elim
    (λ (h : ConjHolds p c). inl (inl h))
    (λ h. ⊎_elim (λ (k : SomeHolds cs p). inl (inr k)) (λ k. inr (product_to p (other_conj c) (complement cs) h k)) (list_or p cs))
    (conj_or p c)

pub list_not : (p : Point) (cs : List Conj) → SomeHolds cs p → SomeHolds (complement cs) p → ⊥
list_not p [] h k = h
list_not p (c ∷ cs) (inl h) k = conj_not p c h (product_from p (other_conj c) (complement cs) k).0
list_not p (c ∷ cs) (inr h) k = list_not p cs h (product_from p (other_conj c) (complement cs) k).1

-- ---- definable facts are decidable
pub decided : (P : Point → Type 0) → Definable P → (p : Point) → P p ⊎ (¬ P p)
decided P D p = ⊎_elim (λ (h : SomeHolds D.list p). inl ((D.is p).1 h)) (λ h. inr (λ x. list_not p D.list ((D.is p).0 x) h)) (list_or p D.list)

pub stable : (P : Point → Type 0) → Definable P → (p : Point) → ¬ (¬ P p) → P p
stable P D p h = ⊎_elim (λ (x : P p). x) (λ n. absurd (h n)) (decided P D p)

-- ---- closure
unfoldable pub like : (P Q : Point → Type 0) → ((p : Point) → P p ↔ Q p) → Definable P → Definable Q
like P Q e D = record { list = D.list; is = λ p. (λ h. (D.is p).0 ((e p).1 h), λ h. (e p).0 ((D.is p).1 h)) }

unfoldable pub always_definable : Definable (λ p. Unit {0})
always_definable = record { list = empty ∷ []; is = λ p. (λ h. inl (empty_holds p), λ h. tt) }

unfoldable pub never_definable : Definable (λ p. ⊥)
never_definable = record { list = []; is = λ p. (λ h. h, λ h. h) }

unfoldable pub line_definable : (l : Line) → Definable (λ p. LineHolds p l)
line_definable l = record { list = line_conj l ∷ []; is = λ p. (λ h. inl (record { lines = (h, tt); claims = tt }), one p) }
  where
    one : (p : Point) → SomeHolds (line_conj l ∷ []) p → LineHolds p l
    one p (inl h) = h.lines.0
    one p (inr h) = absurd h

unfoldable pub claim_definable : (c : Claim) → Definable (λ p. ClaimHolds p c)
claim_definable c = record { list = claim_conj c ∷ []; is = λ p. (λ h. inl (record { lines = tt; claims = (h, tt) }), one p) }
  where
    one : (p : Point) → SomeHolds (claim_conj c ∷ []) p → ClaimHolds p c
    one p (inl h) = h.claims.0
    one p (inr h) = absurd h

module _ (P : Point → Type 0) (D : Definable P) where
  unfoldable pub not_definable : Definable (λ p. ¬ P p)
  not_definable = record {
    list = complement D.list;
    is = λ p. (
      λ n. ⊎_elim (λ (h : SomeHolds D.list p). absurd (n ((D.is p).1 h))) (λ h. h) (list_or p D.list),
      λ h x. list_not p D.list ((D.is p).0 x) h,
    );
  }

module _ (P Q : Point → Type 0) (D : Definable P) (E : Definable Q) where
  unfoldable pub either_definable : Definable (λ p. P p ⊎ Q p)
  either_definable = record {
    list = D.list ++ E.list;
    is = λ p. (
      ⊎_elim (λ (x : P p). some-left (ConjHolds p) D.list E.list ((D.is p).0 x)) (λ y. some-right (ConjHolds p) D.list E.list ((E.is p).0 y)),
      λ h. ⊎_elim (λ (k : SomeHolds D.list p). inl ((D.is p).1 k)) (λ k. inr ((E.is p).1 k)) (some-append (ConjHolds p) D.list E.list h),
    );
  }

  unfoldable pub both_definable : Definable (λ p. P p × Q p)
  both_definable = record {
    list = product D.list E.list;
    is = λ p. (
      λ x. product_to p D.list E.list ((D.is p).0 x.0) ((E.is p).0 x.1),
      λ h. let w = product_from p D.list E.list h in ((D.is p).1 w.0, (E.is p).1 w.1),
    );
  }

unfoldable pub implies_definable : (P Q : Point → Type 0) → Definable P → Definable Q → Definable (λ p. P p → Q p)
implies_definable P Q D E =
    like (λ p. (¬ P p) ⊎ Q p) (λ p. P p → Q p)
    (λ p. (
      λ h x. ⊎_elim (λ (n : ¬ P p). absurd (n x)) (λ y. y) h,
      λ f. ⊎_elim (λ (x : P p). inr (f x)) (λ n. inl n) (decided P D p),
    ))
    (either_definable (λ p. ¬ P p) Q (not_definable P D) E)

-- ---- quantifiers
abbrev pub without : Sort → Key → Conj → List Conj
without Rat k c = without_number k c ∷ []
without Text k c = without_text k c

abbrev pub ConjExtends : Sort → Key → Point → Conj → Type 0
ConjExtends s k p c = (q : Point) × IsExtension s p k q × ConjHolds q c

pub without_sound : (s : Sort) (k : Key) (p q : Point) (x : IsExtension s p k q) (c : Conj) → ConjHolds q c → SomeHolds (without s k c) p
without_sound Rat k p q x c h = inl (number_sound k p q x c h)
without_sound Text k p q x c h = text_sound k p q x c h

pub without_exact : (s : Sort) (k : Key) (p : Point) (c : Conj) → SomeHolds (without s k c) p → ConjExtends s k p c
without_exact Rat k p c (inl h) = number_exact k p c h
without_exact Rat k p c (inr h) = absurd h
without_exact Text k p c h = text_exact k p c h

abbrev pub SomeExtension : Sort → Key → (Point → Type 0) → Point → Type 0
SomeExtension s k P p = (q : Point) × IsExtension s p k q × P q

module _ (s : Sort) (k : Key) (P : Point → Type 0) (D : Definable P) where
  pub exists_to : (p : Point) → SomeExtension s k P p → SomeHolds (flat (without s k) D.list) p
  exists_to p w =
      some-flat (without s k) (ConjHolds p) D.list
      (some_weaker (ConjHolds w.0) (λ c. SomeHolds (without s k c) p) D.list (λ c h. without_sound s k p w.0 w.1 c h) ((D.is w.0).0 w.2))

  pub list_exists : (p : Point) (cs : List Conj) → Some (λ c. SomeHolds (without s k c) p) cs → SomeExtension s k (SomeHolds cs) p
  list_exists p [] h = absurd h
  list_exists p (c ∷ cs) (inl h) = let w = without_exact s k p c h in (w.0, w.1, inl w.2)
  list_exists p (c ∷ cs) (inr h) = let w = list_exists p cs h in (w.0, w.1, inr w.2)

  pub exists_from : (p : Point) → SomeHolds (flat (without s k) D.list) p → SomeExtension s k P p
  exists_from p h =
      let w = list_exists p D.list (some-unflat (without s k) (ConjHolds p) D.list h) in
      (w.0, w.1, (D.is w.0).1 w.2)

  unfoldable pub exists_definable : Definable (SomeExtension s k P)
  exists_definable = record { list = flat (without s k) D.list; is = λ p. (exists_to p, exists_from p) }

abbrev pub EveryExtension : Sort → Key → (Point → Type 0) → Point → Type 0
EveryExtension s k P p = (q : Point) → IsExtension s p k q → P q

-- every extension, and no extension that fails
pub forall_law : (s : Sort) (k : Key) (P : Point → Type 0) → Definable P → (p : Point) → (¬ SomeExtension s k (λ q. ¬ P q) p) ↔ EveryExtension s k P p
forall_law s k P D p = (
  λ n q x. stable P D q (λ f. n (q, x, f)),
  λ every w. w.2 (every w.0 w.1),
)

unfoldable pub forall_definable : (s : Sort) (k : Key) (P : Point → Type 0) → Definable P → Definable (EveryExtension s k P)
forall_definable s k P D =
    like (λ p. ¬ SomeExtension s k (λ q. ¬ P q) p) (EveryExtension s k P) (forall_law s k P D)
    (not_definable (SomeExtension s k (λ q. ¬ P q)) (exists_definable s k (λ q. ¬ P q) (not_definable P D)))

-- ---- a point whose values are linear forms and words at another
unfoldable pub put_definable : (P : Point → Type 0) → Definable P → (s : Key → Put) (m : ℕ) (at : Point → Point) → ((p : Point) → PutsNumbers s m p (at p)) → ((p : Point) → PutsTexts s p (at p)) → Definable (λ p. P (at p))
put_definable P D s m at n t = record {
  list = map (put s m) D.list;
  is = λ p. (
    λ x. some-map (put s m) (ConjHolds p) D.list (some_weaker (ConjHolds (at p)) (λ c. ConjHolds p (put s m c)) D.list (λ c h. (conj_put s m p (at p) (n p) (t p) c).1 h) ((D.is (at p)).0 x)),
    λ h. (D.is (at p)).1 (some_weaker (λ c. ConjHolds p (put s m c)) (ConjHolds (at p)) D.list (λ c k. (conj_put s m p (at p) (n p) (t p) c).0 k) (some-unmap (put s m) (ConjHolds p) D.list h)),
  );
}

-- ---- formulas over definable atoms
unfoldable mutual
  pub solve : {L : Type 0} (H : L → Point → Type 0) → ((a : L) → Definable (H a)) → (f : Logic L) → Definable (Sat H f)
  solve H S (atom a) = S a
  solve H S always = always_definable
  solve H S never = never_definable
  solve H S (negation f) = not_definable (Sat H f) (solve H S f)
  solve H S (every_of fs) = solve_every H S fs
  solve H S (some_of fs) = solve_some H S fs
  solve H S (implies f g) = implies_definable (Sat H f) (Sat H g) (solve H S f) (solve H S g)
  solve H S (minus f g) = both_definable (Sat H f) (λ p. ¬ Sat H g p) (solve H S f) (not_definable (Sat H g) (solve H S g))
  solve H S (exists s k f) = exists_definable s k (Sat H f) (solve H S f)
  solve H S (forall s k f) = forall_definable s k (Sat H f) (solve H S f)

  pub solve_every : {L : Type 0} (H : L → Point → Type 0) → ((a : L) → Definable (H a)) → (fs : Logics L) → Definable (SatEvery H fs)
  solve_every H S none = always_definable
  solve_every H S (also f fs) = both_definable (Sat H f) (SatEvery H fs) (solve H S f) (solve_every H S fs)

  pub solve_some : {L : Type 0} (H : L → Point → Type 0) → ((a : L) → Definable (H a)) → (fs : Logics L) → Definable (SatSome H fs)
  solve_some H S none = never_definable
  solve_some H S (also f fs) = either_definable (Sat H f) (SatSome H fs) (solve H S f) (solve_some H S fs)
