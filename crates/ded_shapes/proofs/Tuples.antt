-- A tuple over two rational slots, from its rows and its text atoms.
use Rattle.std.proofs.Common.{◌≡◌, Bool, true, false, ◌&&◌, List, [], refl, sym, subst, ◌∙◌, true≢false}
use Rattle.std.specs.Prelude.{IsTrue}
use Rattle.std.specs.List.{AllByRecursion}
use Rattle.ded_model.specs.declared.slot.Slot.{Slot}
use Rattle.ded_model.specs.declared.slot.Sort.TheVariants.{Rat}
use Rattle.ded_model.specs.Point.{slot, Point, IsPoint}
use Rattle.ded_model.specs.Row.{Atom, row_holds, row_mentions, theme_holds, theme_mentions, tuple_holds}
use Rattle.ded_model.specs.Cell.{conj_holds, HoldsSomewhere, HoldsNowhere}
use Rattle.ded_model.specs.Lines.{row_lines}
use Rattle.ded_model.specs.Normal.{IsNormalTheme, IsNormalTuple}
use Rattle.ded_model.specs.Width.{IsNarrowList}
use Rattle.ded_model.proofs.Points.{and_left}
use Rattle.ded_model.specs.declared.tuple.ThemeAtom.{ThemeAtom}
use Rattle.ded_theory.specs.declared.answers.Verdict.{Verdict}
use Rattle.ded_theory.specs.declared.answers.Verdict.TheVariants.{Empty, Inhabited, Unknown}
use Rattle.ded_theory.specs.Conjunctions.{IsWide}
use Rattle.ded_theory.specs.Verdicts.{IsVerdict}
use Rattle.ded_theory.specs.Both.{firsts, seconds}
use Rattle.ded_theory.proofs.TwoKinds.{parts_hold, firsts_normal, seconds_normal}
use Rattle.ded_theory.proofs.Merged.{merged, merged_first, merged_is}
use Rattle.ded_theory.proofs.PartLaws.{both_hold, nowhere_second, verdicts_joined}
use Rattle.ded_theory.proofs.Shared.{holds_alike}
use Rattle.ded_theme.proofs.Shared.{text_laws}
use Rattle.ded_elimination.specs.LinearAtoms.{IsLinearAtom}
use Rattle.ded_elimination.proofs.Shared.{atoms_normal}
use Rattle.ded_linear.proofs.Shared.{row_laws}
use Rattle.ded_atoms.proofs.Narrowness.{narrow_is}
use Rattle.ded_shapes.specs.declared.projecting.Projection.{Projection}
use Rattle.ded_shapes.specs.declared.projecting.Projection.TheVariants.{Nowhere, Rows}
use Rattle.ded_shapes.specs.Projections.{IsProjection}
use Rattle.ded_shapes.proofs.Without.{same_then}

-- texts that neither hold nowhere nor are undecided
pub inhabited : (texts seen : List ThemeAtom) (v : Verdict) → seen ≡ texts → (v ≡ Empty → ⊥) → (v ≡ Unknown → ⊥) → IsVerdict theme_holds theme_mentions (λ a. []) seen v
    → HoldsSomewhere (conj_holds theme_holds texts)
inhabited texts seen Empty e f g h = absurd (f refl)
inhabited texts seen Inhabited e f g h = subst (λ (ts : List ThemeAtom). HoldsSomewhere (conj_holds theme_holds ts)) e h
inhabited texts seen Unknown e f g h = absurd (g refl)

pub empty : (texts seen : List ThemeAtom) (v : Verdict) → seen ≡ texts → v ≡ Empty → IsVerdict theme_holds theme_mentions (λ a. []) seen v → HoldsNowhere (conj_holds theme_holds texts)
empty texts seen v e f h =
    subst (λ (ts : List ThemeAtom). HoldsNowhere (conj_holds theme_holds ts)) e (subst (λ (u : Verdict). IsVerdict theme_holds theme_mentions (λ a. []) seen u) f h)

module _ (t : List Atom) (n : IsNormalTuple t) where
  pub rows_normal : AllByRecursion IsLinearAtom (firsts t)
  rows_normal = firsts_normal IsLinearAtom IsNormalTheme t (atoms_normal t n)

  pub texts_normal : AllByRecursion IsNormalTheme (seconds t)
  texts_normal = seconds_normal IsLinearAtom IsNormalTheme t (atoms_normal t n)

  split : (p : Point) → tuple_holds t p ≡ (conj_holds row_holds (firsts t) p && conj_holds theme_holds (seconds t) p)
  split p = sym (holds_alike t p) ∙ parts_hold row_holds theme_holds t p

  pub no_text : HoldsNowhere (conj_holds theme_holds (seconds t)) → HoldsNowhere (tuple_holds t)
  no_text h p i =
      sym (holds_alike t p)
      ∙ nowhere_second row_holds row_mentions row_lines IsLinearAtom row_laws theme_holds theme_mentions (λ a. []) IsNormalTheme text_laws t (atoms_normal t n) h p i

  module _ (texts : HoldsSomewhere (conj_holds theme_holds (seconds t))) where
    pub too_wide : IsWide row_mentions row_lines (firsts t) → IsNarrowList t → ⊥
    too_wide w narrow =
        narrow_is t n narrow
        (verdicts_joined row_holds row_mentions row_lines IsLinearAtom row_laws theme_holds theme_mentions (λ a. []) IsNormalTheme text_laws t (atoms_normal t n) Unknown Inhabited w texts)

    with_text : (p : Point) → IsPoint p → IsTrue (conj_holds row_holds (firsts t) p) → IsTrue (tuple_holds t (merged p texts.0))
    with_text p i h =
        sym (holds_alike t (merged p texts.0))
        ∙ both_hold row_holds row_mentions row_lines IsLinearAtom row_laws theme_holds theme_mentions (λ a. []) IsNormalTheme text_laws t (atoms_normal t n) p texts.0 i texts.1 h texts.2

    rows_hold : (p : Point) → IsTrue (tuple_holds t p) → IsTrue (conj_holds row_holds (firsts t) p)
    rows_hold p h = and_left (conj_holds row_holds (firsts t) p) (conj_holds theme_holds (seconds t) p) (sym (split p) ∙ h)

    pub with_texts : (x y : Slot) → x.sort ≡ Rat → y.sort ≡ Rat → (v : Projection) → IsProjection x y (conj_holds row_holds (firsts t)) v → IsProjection x y (tuple_holds t) v
    with_texts x y rx ry Nowhere h = λ p i. by p i (tuple_holds t p) refl
      where
        by : (p : Point) → IsPoint p → (b : Bool) → tuple_holds t p ≡ b → b ≡ false
        by p i true e = absurd (true≢false (sym (rows_hold p e) ∙ h p i))
        by p i false e = refl
    with_texts x y rx ry (Rows rows) h = (
      (merged h.0.0 texts.0, merged_is h.0.0 texts.0 h.0.1 texts.1, with_text h.0.0 h.0.1 h.0.2),
      record {
        holds = λ p i. (
          λ k. (let w = (h.1.holds p i).0 k in (
            merged w.0 texts.0,
            merged_is w.0 texts.0 w.1 texts.1,
            same_then p w.0 (merged w.0 texts.0) (slot x) w.1.positive w.2 (merged_first w.0 texts.0 x rx),
            same_then p w.0 (merged w.0 texts.0) (slot y) w.1.positive w.3 (merged_first w.0 texts.0 y ry),
            with_text w.0 w.1 w.4,
          )),
          λ w. (h.1.holds p i).1 (w.0, w.1, w.2, w.3, rows_hold w.0 w.4),
        );
        only = h.1.only;
      },
    )
