-- The greatest high end of entries: the wider of the greatest ends of two lists is that of both.
use Rattle.std.proofs.Common.{◌≡◌, true, List, [], ◌∷◌, ◌++◌, length, Option, Some, None, ◌⊎◌, inl, inr, arith, sym, subst}
use Rattle.std.specs.Option.{MatchOption}
use Rattle.std.specs.List.{AllByRecursion}
use Rattle.ded_model.specs.declared.bound.Bound.{Bound}
use Rattle.ded_model.specs.Bound.{upper}
use Rattle.ded_box.specs.Intervals.{HasPositive, may_meet, wider}
use Rattle.ded_box.specs.Boxes.{AreIntervals}
use Rattle.ded_box.proofs.Insides.{wider-one, wider-is, may_meet_decides, between}
use Rattle.ded_box.proofs.Shares.{meet_at}
use Rattle.ded_index.specs.declared.entry.BoxEntry.{BoxEntry}
use Rattle.ded_index.specs.Entries.{Box, first_of, high, SomeEntry}
use Rattle.ded_index.specs.Trees.{IsGreatest, AreSound}
use Rattle.ded_index.proofs.Members.{all-append, all-weaker, some-left, some-right}

-- ends of sound boxes have values
pub low-positive : (b : Box) → AreIntervals b → HasPositive (first_of b).0
low-positive [] h = tt
low-positive (i ∷ is) h = h.0.0

pub high-positive : (b : Box) → AreIntervals b → HasPositive (first_of b).1
high-positive [] h = tt
high-positive (i ∷ is) h = h.0.1

-- what meets a bound meets a wider one
meets_wider-first : (w b c : Bound) → HasPositive w → HasPositive b → HasPositive c → may_meet w b ≡ true → may_meet w (wider upper b c) ≡ true
meets_wider-first w b c pw pb pc h =
    let x = between w b pw pb ((may_meet_decides w b).0 h) in
    meet_at w (wider upper b c) x.value pw (wider-one HasPositive upper b c pb pc) x.positive x.low ((wider-is upper b c x.value pb pc x.positive).0 x.high)

meets_wider-second : (w b c : Bound) → HasPositive w → HasPositive b → HasPositive c → may_meet w c ≡ true → may_meet w (wider upper b c) ≡ true
meets_wider-second w b c pw pb pc h =
    let x = between w c pw pc ((may_meet_decides w c).0 h) in
    meet_at w (wider upper b c) x.value pw (wider-one HasPositive upper b c pb pc) x.positive x.low ((wider-is upper b c x.value pb pc x.positive).1 x.high)

-- the entry doesn't end after b
abbrev pub EndsBy : Bound → BoxEntry → Type 0
EndsBy b e = (w : Bound) → HasPositive w → may_meet w (high e) ≡ true → may_meet w b ≡ true

greatest-positive : (es : List BoxEntry) (b : Bound) → AreSound es → SomeEntry (λ e. high e ≡ b) es → HasPositive b
greatest-positive [] b s h = absurd h
greatest-positive (e ∷ es) b s (inl h) = subst HasPositive h (high-positive e.bounds s.0)
greatest-positive (e ∷ es) b s (inr h) = greatest-positive es b s.1 h

-- one entry
pub greatest_of_one : (e : BoxEntry) (b : Bound) → b ≡ high e → IsGreatest (e ∷ []) b
greatest_of_one e b h = record { upper = (λ w p m. subst (λ c. may_meet w c ≡ true) (sym h) m, tt); attained = inl (sym h) }

-- d is the wider of the greatest end b of xs and that of ys, if there is one
record IsLater (xs ys : List BoxEntry) (d : Bound) : Type 0 where
  first : AllByRecursion (EndsBy d) xs
  second : AllByRecursion (EndsBy d) ys
  attained : SomeEntry (λ e. high e ≡ d) xs ⊎ SomeEntry (λ e. high e ≡ d) ys

is_later : (xs ys : List BoxEntry) (b d : Bound) (o : Option Bound) → AreSound xs → AreSound ys → IsGreatest xs b → MatchOption o (length ys ≡ 0) (λ c. IsGreatest ys c) → MatchOption o (d ≡ b) (λ c. d ≡ wider upper b c) → IsLater xs ys d
is_later xs [] b d None sx sy g h e = subst (IsLater xs []) (sym e) (record { first = g.upper; second = tt; attained = inl g.attained })
is_later xs (y ∷ ys) b d None sx sy g h e = absurd (omega (arith, h))
is_later xs ys b d (Some c) sx sy g h e =
    let pb = greatest-positive xs b sx g.attained in
    let pc = greatest-positive ys c sy h.attained in
    subst (IsLater xs ys) (sym e) (record {
      first = all-weaker (EndsBy b) (EndsBy (wider upper b c)) xs (λ x f w p m. meets_wider-first w b c p pb pc (f w p m)) g.upper;
      second = all-weaker (EndsBy c) (EndsBy (wider upper b c)) ys (λ x f w p m. meets_wider-second w b c p pb pc (f w p m)) h.upper;
      attained = wider-one (λ z. SomeEntry (λ e. high e ≡ z) xs ⊎ SomeEntry (λ e. high e ≡ z) ys) upper b c (inl g.attained) (inr h.attained);
    })

-- of ys before xs
pub greatest_before : (xs ys : List BoxEntry) (b d : Bound) (o : Option Bound) → AreSound xs → AreSound ys → IsGreatest xs b → MatchOption o (length ys ≡ 0) (λ c. IsGreatest ys c) → MatchOption o (d ≡ b) (λ c. d ≡ wider upper b c) → IsGreatest (ys ++ xs) d
greatest_before xs ys b d o sx sy g h e =
    let l = is_later xs ys b d o sx sy g h e in record {
      upper = all-append (EndsBy d) ys xs l.second l.first;
      attained = elim l.attained [ inl p ↦ some-right (λ e. high e ≡ d) ys xs p | inr q ↦ some-left (λ e. high e ≡ d) ys xs q ];
    }

-- of ys after xs
pub greatest_after : (xs ys : List BoxEntry) (b d : Bound) (o : Option Bound) → AreSound xs → AreSound ys → IsGreatest xs b → MatchOption o (length ys ≡ 0) (λ c. IsGreatest ys c) → MatchOption o (d ≡ b) (λ c. d ≡ wider upper b c) → IsGreatest (xs ++ ys) d
greatest_after xs ys b d o sx sy g h e =
    let l = is_later xs ys b d o sx sy g h e in record {
      upper = all-append (EndsBy d) xs ys l.first l.second;
      attained = elim l.attained [ inl p ↦ some-left (λ e. high e ≡ d) xs ys p | inr q ↦ some-right (λ e. high e ≡ d) xs ys q ];
    }
