-- Rows and text atoms as atoms of theories of one kind and of both.
use Rattle.std.proofs.Common.{◌≡◌, Bool, List, [], refl, sym, subst}
use Rattle.ded_model.specs.declared.slot.Slot.{Slot}
use Rattle.ded_model.specs.declared.tuple.ThemeAtom.{ThemeAtom}
use Rattle.ded_model.specs.declared.tuple.BothAtom.{BothAtom}
use Rattle.ded_model.specs.declared.tuple.BothAtom.TheVariants.{First, Second}
use Rattle.ded_model.specs.Constraint.{LinearConstraint}
use Rattle.ded_model.specs.Point.{Point}
use Rattle.ded_model.specs.Row.{Atom, row_holds, theme_holds, atom_holds, row_mentions, theme_mentions, atom_mentions}
use Rattle.ded_model.specs.Lines.{Line, In, row_lines}
use Rattle.ded_model.proofs.Members.{In-left}
use Rattle.ded_theory.specs.Both.{by_kind}
use Rattle.ded_atoms.specs.Reading.{StandsFor}

-- a row stands for itself
pub row_stands : (a r : LinearConstraint) → a ≡ r → StandsFor row_holds row_mentions row_lines a (First r)
unfolding atom_holds atom_mentions
row_stands a r e = subst (λ x. StandsFor row_holds row_mentions row_lines x (First r)) (sym e) (record { holds = λ p. refl; slots = λ s. refl; lines = λ x i. In-left x (row_lines r) [] i })

-- an atom of the first kind stands for what it stands for in its theory
pub first_stands : {A B : Type 0} (h : A → Point → Bool) (h' : B → Point → Bool) (m : A → Slot → Bool) (m' : B → Slot → Bool) (l : A → List Line) (l' : B → List Line) (a : A) (b : Atom)
    → StandsFor h m l a b → StandsFor (by_kind h h') (by_kind m m') (by_kind l l') (First a) b
first_stands h h' m m' l l' a b s = record { holds = s.holds; slots = s.slots; lines = s.lines }

-- a text atom stands for itself
pub second_stands : {A : Type 0} (h : A → Point → Bool) (m : A → Slot → Bool) (l : A → List Line) (l' : ThemeAtom → List Line) (a t : ThemeAtom) → ((x : Line) → In x (l' t) → ⊥) → a ≡ t
    → StandsFor (by_kind h theme_holds) (by_kind m theme_mentions) (by_kind l l') (Second a) (Second t)
unfolding atom_holds atom_mentions
second_stands h m l l' a t empty e =
    subst (λ x. StandsFor (by_kind h theme_holds) (by_kind m theme_mentions) (by_kind l l') (Second x) (Second t)) (sym e) (record { holds = λ p. refl; slots = λ s. refl; lines = λ x i. absurd (empty x i) })

-- where an atom is one of the first kind, or a text atom
pub first_lent : {A B : Type 0} (h : A → Point → Bool) (h' : B → Point → Bool) (m : A → Slot → Bool) (m' : B → Slot → Bool) (l : A → List Line) (l' : B → List Line) (x : BothAtom A B) (a : A) (b : Atom) → x ≡ First a
    → StandsFor h m l a b → StandsFor (by_kind h h') (by_kind m m') (by_kind l l') x b
first_lent h h' m m' l l' x a b e s = subst (λ y. StandsFor (by_kind h h') (by_kind m m') (by_kind l l') y b) (sym e) (first_stands h h' m m' l l' a b s)

pub second_lent : {A : Type 0} (h : A → Point → Bool) (m : A → Slot → Bool) (l : A → List Line) (l' : ThemeAtom → List Line) (x : BothAtom A ThemeAtom) (t : ThemeAtom) → x ≡ Second t → ((y : Line) → In y (l' t) → ⊥)
    → StandsFor (by_kind h theme_holds) (by_kind m theme_mentions) (by_kind l l') x (Second t)
second_lent h m l l' x t e empty = subst (λ y. StandsFor (by_kind h theme_holds) (by_kind m theme_mentions) (by_kind l l') y (Second t)) (sym e) (second_stands h m l l' t t empty refl)
