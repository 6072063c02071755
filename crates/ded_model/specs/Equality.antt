-- When atoms of two kinds are equal and how they are hashed, where that of each kind is given.
use mathlib.Core.Bool.{true≢false}
use mathlib.Core.Path.{refl, sym, ap}
use Rattle.std.specs.Prelude.{◌≡◌, Bool, true, false, ◌++◌}
use Rattle.std.specs.Cmp.{IsPartialEquivalence, IsEquivalence, equiv, partial_equiv_from_equiv}
use Rattle.std.specs.Hash.{HashWrites, Alike}
use Rattle.std.specs.Hash as fed
use Rattle.ded_model.specs.declared.tuple.BothAtom.{BothAtom}
use Rattle.ded_model.specs.declared.tuple.BothAtom.TheVariants.{First, Second}

module _ {A B : Type 0} where
  -- two atoms are of the same kind, and equal as atoms of that kind; atoms of two kinds are never equal
  abbrev pub equal_by_kind : (A → A → Bool) → (B → B → Bool) → BothAtom A B → BothAtom A B → Bool
  equal_by_kind E F (First a) (First b) = E a b
  equal_by_kind E F (First a) (Second b) = false
  equal_by_kind E F (Second a) (First b) = false
  equal_by_kind E F (Second a) (Second b) = F a b

  -- what an atom feeds to a hasher: its kind, and then what it feeds as an atom of that kind
  abbrev pub fed_by_kind : (A → HashWrites) → (B → HashWrites) → BothAtom A B → HashWrites
  fed_by_kind H K (First a) = fed.u8 0 ++ H a
  fed_by_kind H K (Second b) = fed.u8 1 ++ K b

  module _ {E : A → A → Bool} {F : B → B → Bool} where
    module _ (p : IsPartialEquivalence E) (q : IsPartialEquivalence F) where
      kinds_symm : (x y : BothAtom A B) → equal_by_kind E F x y ≡ equal_by_kind E F y x
      kinds_symm (First a) (First b) = p.symm a b
      kinds_symm (First a) (Second b) = refl
      kinds_symm (Second a) (First b) = refl
      kinds_symm (Second a) (Second b) = q.symm a b

      kinds_trans : (x y z : BothAtom A B) → equal_by_kind E F x y ≡ true → equal_by_kind E F y z ≡ true → equal_by_kind E F x z ≡ true
      kinds_trans (First a) (First b) (First c) h g = p.trans a b c h g
      kinds_trans (First a) (First b) (Second c) h g = g
      kinds_trans (First a) (Second b) z h g = absurd (true≢false (sym h))
      kinds_trans (Second a) (First b) z h g = absurd (true≢false (sym h))
      kinds_trans (Second a) (Second b) (First c) h g = g
      kinds_trans (Second a) (Second b) (Second c) h g = q.trans a b c h g

      pub kinds_per : IsPartialEquivalence (equal_by_kind E F)
      kinds_per = record { symm = kinds_symm; trans = kinds_trans }

    module _ (p : IsEquivalence E) (q : IsEquivalence F) where
      kinds_refl : (x : BothAtom A B) → equal_by_kind E F x x ≡ true
      kinds_refl (First a) = p.refl a
      kinds_refl (Second b) = q.refl b

      pub kinds_equiv : IsEquivalence (equal_by_kind E F)
      kinds_equiv = equiv (kinds_per (partial_equiv_from_equiv p) (partial_equiv_from_equiv q)) kinds_refl

    module _ {H : A → HashWrites} {K : B → HashWrites} (h : Alike E H) (k : Alike F K) where
      kinds_fed : (x y : BothAtom A B) → equal_by_kind E F x y ≡ true → fed_by_kind H K x ≡ fed_by_kind H K y
      kinds_fed (First a) (First b) e = ap (λ w. fed.u8 0 ++ w) (h.fed a b e)
      kinds_fed (First a) (Second b) e = absurd (true≢false (sym e))
      kinds_fed (Second a) (First b) e = absurd (true≢false (sym e))
      kinds_fed (Second a) (Second b) e = ap (λ w. fed.u8 1 ++ w) (k.fed a b e)

      pub kinds_Alike : Alike (equal_by_kind E F) (fed_by_kind H K)
      kinds_Alike = record { fed = kinds_fed }
