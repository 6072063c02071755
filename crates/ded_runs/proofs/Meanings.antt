-- What names mean of values over a denominator above 0.
use Rattle.std.proofs.Common.{◌<◌, ℕ, ◌*◌, Bool, true, false, inl, inr, List, map, sym, subst}
use Rattle.std.specs.Prelude.{◌↔◌, MatchBool}
use Rattle.ded_model.specs.declared.slot.Sort.{Sort}
use Rattle.ded_model.specs.declared.slot.Sort.TheVariants.{Rat, Text}
use Rattle.ded_model.specs.Point.{Key, Point, IsExtension}
use Rattle.ded_model.specs.Logic.{atom, always, never, negation, every_of, some_of, implies, minus, exists, forall, Logics, none, also, Sat, SatEvery, SatSome}
use Rattle.ded_model.specs.Form.{Form, FormAtom, compare, member}
use Rattle.ded_model.specs.Value.{Argument, Meaning, operand_value, overs}
use Rattle.ded_model.specs.Near.{IsClose, IsInside}
use Rattle.ded_model.specs.Made.{Reading, itself, closure_of, interior_of, reading}
use Rattle.ded_model.specs.Catalogue.{AtomHolds, read_as, read}
use Rattle.ded_model.proofs.Points.{positive-extension}
use Rattle.ded_model.proofs.Values.{overs-positive, operand_value-positive}
use Rattle.std.proofs.Math.Nat.{mul-pos}
use Rattle.ded_model.proofs.Alike.{iff_refl}

pub iff_sym : (A B : Type 0) → A ↔ B → B ↔ A
iff_sym A B e = (e.1, e.0)

-- both mean the same of values over a denominator above 0
abbrev pub MeanSame : Meaning → Meaning → Type 0
MeanSame I J = (n : List ℕ) (d : ℕ) (xs : List Argument) → 0 < d → I n d xs ↔ J n d xs

-- ---- names that are made of others

close_weaker : (R S : ℕ → List Argument → Type 0) (d : ℕ) (xs : List Argument) → ((e : ℕ) (ys : List Argument) → 0 < e → R e ys → S e ys) → IsClose R d xs → IsClose S d xs
close_weaker R S d xs f c = λ m k a b. let r = c m k a b in (r.0, r.1, r.2, r.3, f r.0 r.1 r.2 r.4)

inside_weaker : (R S : ℕ → List Argument → Type 0) (d : ℕ) (xs : List Argument) → ((e : ℕ) (ys : List Argument) → 0 < e → R e ys → S e ys) → IsInside R d xs → IsInside S d xs
inside_weaker R S d xs f i = (i.0, i.1, i.2, i.3, λ e ys p near. f e ys p (i.4 e ys p near))

module _ (I J : Meaning) (same : MeanSame I J) where
  read_by : (n : List ℕ) (r : Reading) (d : ℕ) (xs : List Argument) → 0 < d → read_as I n r d xs ↔ read_as J n r d xs
  read_by n itself d xs p = same n d xs p
  read_by n (closure_of m) d xs p = (close_weaker (I m) (J m) d xs (λ e ys q. (same m e ys q).0), close_weaker (J m) (I m) d xs (λ e ys q. (same m e ys q).1))
  read_by n (interior_of m) d xs p = (inside_weaker (I m) (J m) d xs (λ e ys q. (same m e ys q).0), inside_weaker (J m) (I m) d xs (λ e ys q. (same m e ys q).1))

  pub read_same : MeanSame (read I) (read J)
  read_same n d xs p = read_by n (reading n) d xs p

-- ---- formulas

module _ (I J : Meaning) (same : MeanSame I J) where
  atom_same : (a : FormAtom) (p : Point) → 0 < p.den → AtomHolds I a p ↔ AtomHolds J a p
  atom_same (compare l op r) p h = iff_refl _
  atom_same (member n ts) p h = same n (p.den * overs (map (λ t. operand_value t p) ts)) _ (mul-pos h (overs-positive (λ t. operand_value t p) (operand_value-positive p) ts))

  mutual
    pub sat_same : (f : Form) (p : Point) → 0 < p.den → Sat (AtomHolds I) f p ↔ Sat (AtomHolds J) f p
    sat_same (atom a) p h = atom_same a p h
    sat_same always p h = iff_refl _
    sat_same never p h = iff_refl _
    sat_same (negation f) p h = let e = sat_same f p h in (λ n s. n (e.1 s), λ n s. n (e.0 s))
    sat_same (every_of fs) p h = every_same fs p h
    sat_same (some_of fs) p h = some_same fs p h
    sat_same (implies f g) p h = let e = sat_same f p h in let e' = sat_same g p h in (λ i s. e'.0 (i (e.1 s)), λ i s. e'.1 (i (e.0 s)))
    sat_same (minus f g) p h = let e = sat_same f p h in let e' = sat_same g p h in (λ m. (e.0 m.0, λ s. m.1 (e'.1 s)), λ m. (e.1 m.0, λ s. m.1 (e'.0 s)))
    sat_same (exists s k f) p h =
        (λ some. (some.0, some.1, (sat_same f some.0 (positive-extension s p k some.0 h some.1)).0 some.2), λ some. (some.0, some.1, (sat_same f some.0 (positive-extension s p k some.0 h some.1)).1 some.2))
    sat_same (forall s k f) p h =
        (λ every q x. (sat_same f q (positive-extension s p k q h x)).0 (every q x), λ every q x. (sat_same f q (positive-extension s p k q h x)).1 (every q x))

    every_same : (fs : Logics FormAtom) (p : Point) → 0 < p.den → SatEvery (AtomHolds I) fs p ↔ SatEvery (AtomHolds J) fs p
    every_same none p h = iff_refl _
    every_same (also f fs) p h = let e = sat_same f p h in let e' = every_same fs p h in (λ s. (e.0 s.0, e'.0 s.1), λ s. (e.1 s.0, e'.1 s.1))

    some_same : (fs : Logics FormAtom) (p : Point) → 0 < p.den → SatSome (AtomHolds I) fs p ↔ SatSome (AtomHolds J) fs p
    some_same none p h = iff_refl _
    some_same (also f fs) p h =
        let e = sat_same f p h in let e' = some_same fs p h in
        (λ s. elim s [ inl a ↦ inl (e.0 a) | inr b ↦ inr (e'.0 b) ], λ s. elim s [ inl a ↦ inl (e.1 a) | inr b ↦ inr (e'.1 b) ])

-- ---- entries

pub chosen_same : (b : Bool) (A A' B B' : Type 0) → A ↔ A' → B ↔ B' → MatchBool b A B ↔ MatchBool b A' B'
chosen_same true A A' B B' e f = e
chosen_same false A A' B B' e f = f
