-- Strokes of layers, one after another.
use Rattle.std.proofs.Common.{◌≡◌, ℕ, ◌+◌, ◌<◌, ◌≤◌, List, [], ◌∷◌, ◌++◌, inl, inr, length, drop, get_or, refl, sym, ap, ◌∙◌, subst, append_assoc, zero, suc, arith}
use Rattle.std.proofs.lemmas.List.{append-nil, drop_all}
use Rattle.ded_layers.specs.declared.part.Part.{Part}
use Rattle.ded_layers.specs.Layers.{AreLines, ArePartsWithin, pieces_of}
use Rattle.ded_polygon.specs.Plane.{In}
use Rattle.ded_polygon.specs.Windows.{Frame}
use Rattle.ded_strokes.specs.declared.parting.Stretch.{Stretch}
use Rattle.ded_print.proofs.Plans.{left_after}
use Rattle.ded_svg.specs.declared.picture.ColouredLine.{ColouredLine}
use Rattle.ded_picture.specs.declared.sheet.Sheet.{Sheet}
use Rattle.ded_picture.specs.Layers.{AddStrokes, AreLayersWithin, AreStrokes}
use Rattle.ded_picture.specs.Sheets.{strokes_of}

module _ (sheet : Sheet) (first : ℕ) (whole : List (List Part)) (old : List ColouredLine) where
  -- the strokes of the layers that are left, behind those that are added, are added for all
  abbrev pub Goes : ℕ → List (List Part) → List ColouredLine → Type 0
  Goes colour left now = (more : List ColouredLine) → AreStrokes sheet colour left more → AddStrokes sheet first whole old (now ++ more)

  pub goes_first : Goes first whole old
  goes_first more a = record { added = more; strokes = a; is = refl }

  pub goes_next : (ls : List (List Part)) (i : ℕ) (l : List Part) (colour next : ℕ) (now after : List ColouredLine) (lines : List Stretch) → i < length ls → l ≡ get_or ls i l → Goes colour (drop i ls) now
      → AreLines (pieces_of l) l lines → after ≡ now ++ strokes_of sheet colour lines → next ≡ colour + 1 → Goes next (drop (i + 1) ls) after
  goes_next ls i l colour next now after lines there is goes drawn put up more a =
      let here : AreStrokes sheet colour (l ∷ drop (i + 1) ls) (strokes_of sheet colour lines ++ more) =
      (lines, more, drawn, refl, subst (λ (n : ℕ). AreStrokes sheet n (drop (i + 1) ls) more) up a) in
      subst (AddStrokes sheet first whole old) (sym (append_assoc now (strokes_of sheet colour lines) more) ∙ ap (λ (s : List ColouredLine). s ++ more) (sym put))
      (goes (strokes_of sheet colour lines ++ more) (subst (λ (r : List (List Part)). AreStrokes sheet colour r (strokes_of sheet colour lines ++ more)) (sym (left_after ls i l there is)) here))

  pub goes_last : (ls : List (List Part)) (i colour : ℕ) (now : List ColouredLine) → length ls ≤ i → Goes colour (drop i ls) now → AddStrokes sheet first whole old now
  goes_last ls i colour now end goes =
      subst (AddStrokes sheet first whole old) (append-nil now) (goes [] (subst (λ (r : List (List Part)). AreStrokes sheet colour r []) (sym (drop_all i ls end)) refl))

-- one of the layers
among : (ls : List (List Part)) (i : ℕ) (l : List Part) → i < length ls → l ≡ get_or ls i l → In l ls
among [] i l there is = absurd (omega (arith, there))
among (m ∷ ls) zero l there is = inl is
among (m ∷ ls) (suc i) l there is = inr (among ls i l (omega (arith, there)) is)

pub layer_within : (w : Frame) (ls : List (List Part)) (i : ℕ) (l : List Part) → AreLayersWithin w ls → i < length ls → l ≡ get_or ls i l → ArePartsWithin w l
layer_within w ls i l a there is = a l (among ls i l there is)

pub all_strokes : (sheet : Sheet) (layers named : List (List Part)) (new : List ColouredLine) → layers ≡ named → AddStrokes sheet 0 layers [] new → AreStrokes sheet 0 named new
all_strokes sheet layers named new e a = subst (AreStrokes sheet 0 named) (sym a.is) (subst (λ (ls : List (List Part)). AreStrokes sheet 0 ls a.added) e a.strokes)
