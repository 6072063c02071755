-- What is shown, one after another.
use Rattle.std.proofs.Common.{◌≡◌, ℕ, ◌+◌, ◌<◌, ◌≤◌, List, [], ◌∷◌, ◌++◌, inl, inr, length, drop, get_or, refl, sym, ap, ◌∙◌, subst, append_assoc, arith}
use Rattle.std.specs.Prelude.{Option, Some, None}
use Rattle.std.proofs.lemmas.List.{append-nil, drop_all}
use Rattle.ded_model.specs.Constraint.{LinearConstraint}
use Rattle.ded_model.specs.declared.slot.Slot.{Slot}
use Rattle.ded_polygon.specs.Closures.{AreInRange}
use Rattle.ded_polygon.specs.Windows.{Frame}
use Rattle.ded_print.proofs.Plans.{left_after}
use Rattle.ded_figures.specs.Figure.{Figure}
use Rattle.ded_figures.specs.declared.sight.Sight.{Sight}
use Rattle.ded_figures.specs.declared.sight.Sight.TheVariants.{Nowhere, Wide, Seen}
use Rattle.ded_picture.specs.declared.parts.Shown.{Shown}
use Rattle.ded_picture.specs.Parts.{AreShown, AddsShown, IsShown, IsTooLong, MayShow}

sum_assoc : (a b c : ℕ) → (a + b) + c ≡ a + (b + c)
sum_assoc a b c = omega arith

none_first : (n m : ℕ) → n ≡ 0 → m ≡ n + m
none_first n m e = omega (arith, e)

pub none_more : (a : ℕ) → a + 0 ≡ a
none_more a = omega arith

module _ (w : Frame) (labels : List (List ℕ)) where
  -- what is shown of one, and of those behind it
  pub shown_both : (s : Sight) (ss : List Sight) (front back : List Shown) (n m : ℕ) → AreShown w labels (s ∷ []) front n → AreShown w labels ss back m → AreShown w labels (s ∷ ss) (front ++ back) (n + m)
  shown_both Nowhere ss front back n m a b =
      subst (λ (l : List Shown). AreShown w labels ss l (n + m)) (ap (λ (l : List Shown). l ++ back) (sym a.0)) (subst (AreShown w labels ss back) (none_first n m a.1) b)
  shown_both Wide ss front back n m (k, e, a) b =
      (m, one_here n k m e a.1, subst (λ (l : List Shown). AreShown w labels ss l m) (ap (λ (l : List Shown). l ++ back) (sym a.0)) b)
    where
      one_here : (n k m : ℕ) → n ≡ k + 1 → k ≡ 0 → n + m ≡ m + 1
      one_here n k m e z = omega (arith, e, z)
  shown_both (Seen f) ss front back n m (inl (x, more, e, is, a)) b =
      inl (x, back, ap (λ (l : List Shown). l ++ back) (e ∙ ap (λ (l : List Shown). x ∷ l) a.0), is, subst (AreShown w labels ss back) (none_first n m a.1) b)
  shown_both (Seen f) ss front back n m (inr (long, k, e, a)) b =
      inr (long, m, one_here n k m e a.1, subst (λ (l : List Shown). AreShown w labels ss l m) (ap (λ (l : List Shown). l ++ back) (sym a.0)) b)
    where
      one_here : (n k m : ℕ) → n ≡ k + 1 → k ≡ 0 → n + m ≡ m + 1
      one_here n k m e z = omega (arith, e, z)

  -- what is shown of those that are left completes what is shown of all
  abbrev pub Goes : List Sight → List Sight → List Shown → ℕ → Type 0
  Goes whole left list wide = (more : List Shown) (m : ℕ) → AreShown w labels left more m → AreShown w labels whole (list ++ more) (wide + m)

  pub goes_first : (whole : List Sight) → Goes whole whole [] 0
  goes_first whole more m a = subst (AreShown w labels whole more) (none_first 0 m refl) a

  pub goes_next : (whole ss : List Sight) (i : ℕ) (s : Sight) (list next : List Shown) (wide after : ℕ) → i < length ss → s ≡ get_or ss i s → Goes whole (drop i ss) list wide → AddsShown w labels s list wide next after
      → Goes whole (drop (i + 1) ss) next after
  goes_next whole ss i s list next wide after there is goes adds more m a =
      let both = shown_both s (drop (i + 1) ss) adds.added more adds.more m adds.shown a in
      let all = goes (adds.added ++ more) (adds.more + m) (subst (λ (l : List Sight). AreShown w labels l (adds.added ++ more) (adds.more + m)) (sym (left_after ss i s there is)) both) in
      subst (λ (l : List Shown). AreShown w labels whole l (after + m)) (sym (append_assoc list adds.added more) ∙ ap (λ (l : List Shown). l ++ more) (sym adds.list))
      (subst (AreShown w labels whole (list ++ (adds.added ++ more))) (sym (sum_assoc wide adds.more m) ∙ ap (λ (k : ℕ). k + m) (sym adds.count)) all)

  pub goes_last : (whole ss : List Sight) (i : ℕ) (list : List Shown) (wide : ℕ) → length ss ≤ i → Goes whole (drop i ss) list wide → AreShown w labels whole list wide
  goes_last whole ss i list wide end goes =
      subst (λ (l : List Shown). AreShown w labels whole l wide) (append-nil list)
      (subst (AreShown w labels whole (list ++ [])) (none_more wide) (goes [] 0 (subst (λ (l : List Sight). AreShown w labels l [] 0) (sym (drop_all i ss end)) (refl, refl))))

  -- ---- one more

  pub adds_nothing : (list : List Shown) (wide : ℕ) → AddsShown w labels Nowhere list wide list wide
  adds_nothing list wide = record { added = []; more = 0; shown = (refl, refl); list = sym (append-nil list); count = sym (none_more wide) }

  pub adds_wide : (list next : List Shown) (wide after : ℕ) → next ≡ list → after ≡ wide + 1 → AddsShown w labels Wide list wide next after
  adds_wide list next wide after same e = record { added = []; more = 1; shown = (0, refl, (refl, refl)); list = same ∙ sym (append-nil list); count = e }

  pub adds_long : (f : Figure) (list next : List Shown) (wide after : ℕ) → IsTooLong f → next ≡ list → after ≡ wide + 1 → AddsShown w labels (Seen f) list wide next after
  adds_long f list next wide after long same e = record { added = []; more = 1; shown = inr (long, 0, refl, (refl, refl)); list = same ∙ sym (append-nil list); count = e }

  pub adds_shown : (f : Figure) (x : Shown) (list next : List Shown) (wide after : ℕ) → IsShown w labels f x → next ≡ list ++ x ∷ [] → after ≡ wide → AddsShown w labels (Seen f) list wide next after
  adds_shown f x list next wide after is e same = record { added = x ∷ []; more = 0; shown = inl (x, [], refl, is, (refl, refl)); list = e; count = same ∙ sym (none_more wide) }

-- a figure is too long where its numbers are
pub too_long : (f : Figure) (x y : Slot) (rows : List LinearConstraint) → x ≡ f.axes.x → y ≡ f.axes.y → rows ≡ f.rows → (AreInRange x y rows → ⊥) → IsTooLong f
too_long f x y rows ex ey er never range =
    never (subst (λ s. AreInRange s y rows) (sym ex) (subst (λ s. AreInRange f.axes.x s rows) (sym ey) (subst (AreInRange f.axes.x f.axes.y) (sym er) range)))

-- what may be shown is shown, or is too long
pub is_shown : (w : Frame) (labels : List (List ℕ)) (f : Figure) (o : Option Shown) (x : Shown) → o ≡ Some x → MayShow w labels f o → IsShown w labels f x
is_shown w labels f o x e = subst (MayShow w labels f) e

pub is_long : (w : Frame) (labels : List (List ℕ)) (f : Figure) (o : Option Shown) → o ≡ None → MayShow w labels f o → IsTooLong f
is_long w labels f o e = subst (MayShow w labels f) e
