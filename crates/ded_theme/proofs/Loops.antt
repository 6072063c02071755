-- What the loops of an elimination have done so far.
use Rattle.std.proofs.Common.{◌≡◌, inl, inr, Bool, true, false, ◌&&◌, ◌||◌, List, [], ◌∷◌, ◌++◌, refl, sym, ap, ◌∙◌}
use Rattle.std.specs.List.{list_any, AllByRecursion}
use Rattle.std.proofs.Math.Bool.{or-false}
use Rattle.std.proofs.lemmas.List.Folds.{list_all-append, list_any-append}
use Rattle.ded_model.specs.declared.slot.Slot.{Slot}
use Rattle.ded_model.specs.declared.tuple.ThemeAtom.{ThemeAtom}
use Rattle.ded_model.specs.Point.{Point}
use Rattle.ded_model.specs.Row.{theme_holds, theme_mentions}
use Rattle.ded_model.specs.Normal.{IsNormalTheme}
use Rattle.ded_model.specs.Cell.{conj_holds}
use Rattle.ded_theory.specs.Conjunctions.{conj_mentions}
use Rattle.ded_theme.specs.Sources.{Source}
use Rattle.ded_theme.specs.Replacing.{replaced_holds, replaced_mentions}
use Rattle.ded_model.proofs.Rows.{or_left, or_right}
use Rattle.std.proofs.lemmas.Bool.{or_cases}
use Rattle.ded_theme.proofs.Lists.{all-append}

and_move : (x b r : Bool) → ((x && (b && true)) && r) ≡ (x && (b && r))
and_move true true r = refl
and_move true false r = refl
and_move false b r = refl

and_false : (x r : Bool) → (x && (false && r)) ≡ false
and_false true r = refl
and_false false r = refl

-- an element of the list, or the one behind it, passes
any-append : {A : Type 0} (t : A → Bool) (xs : List A) (x : A) → list_any t (xs ++ x ∷ []) ≡ true → (list_any t xs || t x) ≡ true
any-append t xs x h = ap (λ b. list_any t xs || b) (sym (or-false (t x))) ∙ sym (list_any-append t xs (x ∷ [])) ∙ h

-- of all the atoms, those before the rest have been given the source in place of the slot, which made the atoms `out`
pub record IsReplacing (s : Slot) (w : Source) (all rest out : List ThemeAtom) : Type 0 where
  pub holds : (p : Point) → (conj_holds theme_holds out p && conj_holds (replaced_holds s w) rest p) ≡ conj_holds (replaced_holds s w) all p
  pub normal : AllByRecursion IsNormalTheme out
  pub slots : (t : Slot) → (conj_mentions theme_mentions out t || conj_mentions (replaced_mentions s w) rest t) ≡ true → conj_mentions (replaced_mentions s w) all t ≡ true

module _ (s : Slot) (w : Source) (all : List ThemeAtom) where
  pub IsReplacing-none : IsReplacing s w all all []
  IsReplacing-none = record { holds = λ p. refl; normal = tt; slots = λ t h. h }

  -- an atom that became true
  pub IsReplacing-always : (a : ThemeAtom) (rest out : List ThemeAtom) → IsReplacing s w all (a ∷ rest) out → ((p : Point) → true ≡ replaced_holds s w a p) → IsReplacing s w all rest out
  IsReplacing-always a rest out h e = record {
    holds = λ p. ap (λ b. conj_holds theme_holds out p && (b && conj_holds (replaced_holds s w) rest p)) (e p) ∙ h.holds p;
    normal = h.normal;
    slots = λ t k. h.slots t (elim (or_cases (conj_mentions theme_mentions out t) _ k) [ inl z ↦ or_left _ _ z | inr z ↦ or_right (conj_mentions theme_mentions out t) _ (or_right (replaced_mentions s w a t) _ z) ]);
  }

  -- one that became another
  pub IsReplacing-atom : (a b : ThemeAtom) (rest out : List ThemeAtom) → IsReplacing s w all (a ∷ rest) out
      → ((p : Point) → theme_holds b p ≡ replaced_holds s w a p) → IsNormalTheme b → ((t : Slot) → theme_mentions b t ≡ true → replaced_mentions s w a t ≡ true)
      → IsReplacing s w all rest (out ++ b ∷ [])
  IsReplacing-atom a b rest out h e n m = record {
    holds = λ p.
        ap (λ x. x && conj_holds (replaced_holds s w) rest p) (list_all-append (λ c. theme_holds c p) out (b ∷ []))
        ∙ and_move (conj_holds theme_holds out p) (theme_holds b p) (conj_holds (replaced_holds s w) rest p)
        ∙ ap (λ x. conj_holds theme_holds out p && (x && conj_holds (replaced_holds s w) rest p)) (e p) ∙ h.holds p;
    normal = all-append IsNormalTheme out b h.normal n;
    slots = λ t k. h.slots t (elim (or_cases (conj_mentions theme_mentions (out ++ b ∷ []) t) _ k) [
      | inl z ↦ elim (or_cases (conj_mentions theme_mentions out t) _ (any-append (λ c. theme_mentions c t) out b z)) [
        | inl y ↦ or_left _ _ y
        | inr y ↦ or_right (conj_mentions theme_mentions out t) _ (or_left _ _ (m t y))
      ]
      | inr z ↦ or_right (conj_mentions theme_mentions out t) _ (or_right (replaced_mentions s w a t) _ z)
    ]);
  }

  -- one that became false
  pub IsReplacing-never : (a : ThemeAtom) (rest out : List ThemeAtom) → IsReplacing s w all (a ∷ rest) out → ((p : Point) → false ≡ replaced_holds s w a p) → (p : Point) → false ≡ conj_holds (replaced_holds s w) all p
  IsReplacing-never a rest out h e p =
      sym (and_false (conj_holds theme_holds out p) (conj_holds (replaced_holds s w) rest p))
      ∙ ap (λ b. conj_holds theme_holds out p && (b && conj_holds (replaced_holds s w) rest p)) (e p) ∙ h.holds p
