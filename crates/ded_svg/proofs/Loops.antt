-- Parts that are put one after another: what is put and what is left to put make the whole.
use Rattle.std.proofs.Common.{◌≡◌, ℕ, ◌+◌, ◌<◌, List, [], ◌∷◌, ◌++◌, length, drop, get_or, subst}
use Rattle.std.specs.Prelude.{codes}
use Rattle.ded_print.proofs.Plans.{left_after}
use Rattle.ded_dump.proofs.Loops.{one_part, led_part}
use Rattle.ded_svg.specs.Escaping.{escape}
use Rattle.ded_svg.specs.Markup.{markup_text}
use Rattle.ded_svg.specs.Pictures.{corners_text, entry_markup, entry_top, left_tick_markup, left_ticks_markup, legend_markup, lines_markup, lower_tick_markup, lower_ticks_markup, mark_markup, marks_markup, pattern_markup, patterns_markup, point_text, stroke_markup, strokes_markup}
use Rattle.ded_svg.specs.declared.picture.LegendEntry.{LegendEntry}
use Rattle.ded_svg.specs.declared.picture.ColouredShape.{ColouredShape}
use Rattle.ded_svg.specs.declared.picture.Point.{Point}
use Rattle.ded_svg.specs.declared.picture.ColouredLine.{ColouredLine}
use Rattle.ded_svg.specs.declared.picture.Tick.{Tick}

pub next_corner : (whole done a now lead : List ℕ) (ps : List Point) (i : ℕ) (p : Point) → i < length ps → p ≡ get_or ps i p
    → done ++ corners_text lead (drop i ps) ≡ whole → a ≡ done ++ lead → now ≡ a ++ point_text p → now ++ corners_text (codes "L") (drop (i + 1) ps) ≡ whole
next_corner whole done a now lead ps i p there is e k m =
    led_part whole done a now lead (point_text p) (corners_text (codes "L") (drop (i + 1) ps)) (subst (λ (qs : List Point). done ++ corners_text lead qs ≡ whole) (left_after ps i p there is) e) k m

pub next_mark : (whole done now : List ℕ) (xs : List ColouredShape) (i : ℕ) (x : ColouredShape) → i < length xs → x ≡ get_or xs i x
    → done ++ markup_text (marks_markup (drop i xs)) ≡ whole → now ≡ done ++ markup_text (mark_markup x) → now ++ markup_text (marks_markup (drop (i + 1) xs)) ≡ whole
next_mark whole done now xs i x there is e put =
    one_part whole done now (markup_text (mark_markup x)) (markup_text (marks_markup (drop (i + 1) xs))) (subst (λ (ys : List ColouredShape). done ++ markup_text (marks_markup ys) ≡ whole) (left_after xs i x there is) e) put

pub next_stroke : (whole done now : List ℕ) (xs : List ColouredLine) (i : ℕ) (x : ColouredLine) → i < length xs → x ≡ get_or xs i x
    → done ++ markup_text (strokes_markup (drop i xs)) ≡ whole → now ≡ done ++ markup_text (stroke_markup x) → now ++ markup_text (strokes_markup (drop (i + 1) xs)) ≡ whole
next_stroke whole done now xs i x there is e put =
    one_part whole done now (markup_text (stroke_markup x)) (markup_text (strokes_markup (drop (i + 1) xs))) (subst (λ (ys : List ColouredLine). done ++ markup_text (strokes_markup ys) ≡ whole) (left_after xs i x there is) e) put

pub next_lower_tick : (h : ℕ) (whole done now : List ℕ) (xs : List Tick) (i : ℕ) (x : Tick) → i < length xs → x ≡ get_or xs i x
    → done ++ markup_text (lower_ticks_markup h (drop i xs)) ≡ whole → now ≡ done ++ markup_text (lower_tick_markup h x) → now ++ markup_text (lower_ticks_markup h (drop (i + 1) xs)) ≡ whole
next_lower_tick h whole done now xs i x there is e put =
    one_part whole done now (markup_text (lower_tick_markup h x)) (markup_text (lower_ticks_markup h (drop (i + 1) xs))) (subst (λ (ys : List Tick). done ++ markup_text (lower_ticks_markup h ys) ≡ whole) (left_after xs i x there is) e) put

pub next_left_tick : (whole done now : List ℕ) (xs : List Tick) (i : ℕ) (x : Tick) → i < length xs → x ≡ get_or xs i x
    → done ++ markup_text (left_ticks_markup (drop i xs)) ≡ whole → now ≡ done ++ markup_text (left_tick_markup x) → now ++ markup_text (left_ticks_markup (drop (i + 1) xs)) ≡ whole
next_left_tick whole done now xs i x there is e put =
    one_part whole done now (markup_text (left_tick_markup x)) (markup_text (left_ticks_markup (drop (i + 1) xs))) (subst (λ (ys : List Tick). done ++ markup_text (left_ticks_markup ys) ≡ whole) (left_after xs i x there is) e) put

pub next_pattern : (whole done now : List ℕ) (xs : List LegendEntry) (i : ℕ) (x : LegendEntry) → i < length xs → x ≡ get_or xs i x
    → done ++ markup_text (patterns_markup (drop i xs)) ≡ whole → now ≡ done ++ markup_text (pattern_markup x.colour) → now ++ markup_text (patterns_markup (drop (i + 1) xs)) ≡ whole
next_pattern whole done now xs i x there is e put =
    one_part whole done now (markup_text (pattern_markup x.colour)) (markup_text (patterns_markup (drop (i + 1) xs))) (subst (λ (ys : List LegendEntry). done ++ markup_text (patterns_markup ys) ≡ whole) (left_after xs i x there is) e) put

pub next_entry : (h : ℕ) (whole done now : List ℕ) (xs : List LegendEntry) (i : ℕ) (x : LegendEntry) → i < length xs → x ≡ get_or xs i x
    → done ++ markup_text (legend_markup h i (drop i xs)) ≡ whole → now ≡ done ++ markup_text (entry_markup (entry_top h i) x) → now ++ markup_text (legend_markup h (i + 1) (drop (i + 1) xs)) ≡ whole
next_entry h whole done now xs i x there is e put =
    one_part whole done now (markup_text (entry_markup (entry_top h i) x)) (markup_text (legend_markup h (i + 1) (drop (i + 1) xs)))
    (subst (λ (ys : List LegendEntry). done ++ markup_text (legend_markup h i ys) ≡ whole) (left_after xs i x there is) e) put

pub next_line : (whole done between now : List ℕ) (xs : List (List ℕ)) (i : ℕ) (x : List ℕ) → i < length xs → x ≡ get_or xs i x
    → done ++ markup_text (lines_markup (drop i xs)) ≡ whole → between ≡ done ++ escape x → now ≡ between ++ 10 ∷ [] → now ++ markup_text (lines_markup (drop (i + 1) xs)) ≡ whole
next_line whole done between now xs i x there is e k m =
    led_part whole done between now (escape x) (10 ∷ []) (markup_text (lines_markup (drop (i + 1) xs))) (subst (λ (ys : List (List ℕ)). done ++ markup_text (lines_markup ys) ≡ whole) (left_after xs i x there is) e) k m
