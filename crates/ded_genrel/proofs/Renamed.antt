-- Renaming a conjunction atom by atom, and a list conjunction by conjunction.
use Rattle.std.proofs.Common.{◌≡◌, Bool, true, false, ◌&&◌, ◌||◌, List, [], ◌∷◌, ◌++◌, inl, inr, refl, sym, ap, ap₂, ◌∙◌, true≢false, append_assoc, append-nil, subst}
use Rattle.ded_model.specs.declared.slot.Slot.{Slot}
use Rattle.ded_model.specs.Point.{Point}
use Rattle.ded_model.specs.Cell.{conj_holds}
use Rattle.ded_model.specs.Lines.{Line, line_with}
use Rattle.ded_model.specs.Renaming.{renamed_onto, IsOneToOne, KeepsSorts, IsRenamedPoint, mapped_lines}
use Rattle.ded_model.proofs.Rows.{or_left, or_right}
use Rattle.ded_model.proofs.Members.{or_split}
use Rattle.ded_theory.specs.Conjunctions.{conj_mentions, conj_lines}
use Rattle.ded_theory.proofs.Conjunctions.{conj_holds-append, conj_mentions-append}
use Rattle.ded_genrel.specs.Lists.{conjs_hold, conjs_mention, conjs_lines}
use Rattle.ded_genrel.specs.Operations.{IsRenaming}
use Rattle.ded_genrel.proofs.Laws.{conjs_hold-append, conjs_mention-append, conj_lines-append, conjs_lines-append}
use Rattle.std.proofs.Math.Bool.{or-false, and-true}

-- ---- fewer slots

pub one_fewer : (map : List (Slot × Slot)) (t u : Slot → Bool) → ((s : Slot) → u s ≡ true → t s ≡ true) → IsOneToOne map t → IsOneToOne map u
one_fewer map t u f o = record { apart = λ s r h k e. o.apart s r (f s h) (f r k) e }

pub sorts_fewer : (map : List (Slot × Slot)) (t u : Slot → Bool) → ((s : Slot) → u s ≡ true → t s ≡ true) → KeepsSorts map t → KeepsSorts map u
sorts_fewer map t u f k = record { sort = λ s h. k.sort s (f s h) }

pub point_fewer : (map : List (Slot × Slot)) (t u : Slot → Bool) (p q : Point) → ((s : Slot) → u s ≡ true → t s ≡ true) → IsRenamedPoint map t p q → IsRenamedPoint map u p q
point_fewer map t u p q f r = record { den = r.den; value = λ s h. r.value s (f s h) }

-- ---- lines of two lists

pub mapped_lines-append : (map : List (Slot × Slot)) (xs ys : List Line) → mapped_lines map (xs ++ ys) ≡ mapped_lines map xs ++ mapped_lines map ys
mapped_lines-append map [] ys = refl
mapped_lines-append map (x ∷ xs) ys =
    ap (λ ls. line_with (renamed_onto map [] x.coefs) x.constant ++ ls) (mapped_lines-append map xs ys) ∙ sym (append_assoc (line_with (renamed_onto map [] x.coefs) x.constant) (mapped_lines map xs) (mapped_lines map ys))

-- ---- two that are renamed

module _ (map : List (Slot × Slot)) where
  -- two parts that are renamed are renamed together, whatever joins their tests
  pub renaming_both : (op : Bool → Bool → Bool) (h h' k k' both both' : Point → Bool) (m m' n n' some some' : Slot → Bool) (xs xs' ys ys' all all' : List Line)
      → ((p : Point) → both p ≡ op (h p) (k p)) → ((p : Point) → both' p ≡ op (h' p) (k' p)) → ((s : Slot) → some s ≡ (m s || n s)) → ((s : Slot) → some' s ≡ (m' s || n' s)) → all ≡ xs ++ ys → all' ≡ xs' ++ ys'
      → IsRenaming map h h' m m' xs xs' → IsRenaming map k k' n n' ys ys' → IsRenaming map both both' some some' all all'
  renaming_both op h h' k k' both both' m m' n n' some some' xs xs' ys ys' all all' e e' f f' g g' r t = record {
    holds = λ p q i z. e' q ∙ ap₂ op (r.holds p q i (point_fewer map some m p q (λ s j. f s ∙ or_left (m s) (n s) j) z)) (t.holds p q i (point_fewer map some n p q (λ s j. f s ∙ or_right (m s) (n s) j) z)) ∙ sym (e p);
    slots = λ u i. elim (or_split (m' u) (n' u) (sym (f' u) ∙ i)) [
      | inl a ↦ (let s = r.slots u a in (s.0, f s.0 ∙ or_left (m s.0) (n s.0) s.1, s.2))
      | inr b ↦ (let s = t.slots u b in (s.0, f s.0 ∙ or_right (m s.0) (n s.0) s.1, s.2))
    ];
    lines = g' ∙ ap₂ (λ ls rs. ls ++ rs) r.lines t.lines ∙ sym (mapped_lines-append map xs ys) ∙ ap (mapped_lines map) (sym g);
  }

  -- nothing
  pub renaming_none : (b : Bool) → IsRenaming map (λ p. b) (λ p. b) (λ s. false) (λ s. false) [] []
  renaming_none b = record { holds = λ p q i z. refl; slots = λ t i. absurd (true≢false (sym i)); lines = refl }

module _ {A : Type 0} (h : A → Point → Bool) (m : A → Slot → Bool) (l : A → List Line) (map : List (Slot × Slot)) where
  -- an atom, a conjunction and a list over the new slots
  abbrev pub IsAtomRenaming : A → A → Type 0
  IsAtomRenaming a b = IsRenaming map (h a) (h b) (m a) (m b) (l a) (l b)

  abbrev pub IsConjRenaming : List A → List A → Type 0
  IsConjRenaming xs ys = IsRenaming map (conj_holds h xs) (conj_holds h ys) (conj_mentions m xs) (conj_mentions m ys) (conj_lines l xs) (conj_lines l ys)

  abbrev pub IsListRenaming : List (List A) → List (List A) → Type 0
  IsListRenaming xs ys = IsRenaming map (conjs_hold h xs) (conjs_hold h ys) (conjs_mention m xs) (conjs_mention m ys) (conjs_lines l xs) (conjs_lines l ys)

  pub conj_renaming_none : IsConjRenaming [] []
  conj_renaming_none = renaming_none map true

  -- one more atom
  pub conj_renaming_push : (xs ys : List A) (a b : A) → IsConjRenaming xs ys → IsAtomRenaming a b → IsConjRenaming (xs ++ a ∷ []) (ys ++ b ∷ [])
  conj_renaming_push xs ys a b r t =
      renaming_both map (λ x y. x && y) (conj_holds h xs) (conj_holds h ys) (h a) (h b) _ _ (conj_mentions m xs) (conj_mentions m ys) (m a) (m b) _ _ (conj_lines l xs) (conj_lines l ys) (l a) (l b) _ _
      (λ p. holds_push xs a p) (λ p. holds_push ys b p) (λ s. mention_push xs a s) (λ s. mention_push ys b s) (lines_push xs a) (lines_push ys b) r t
    where
      holds_push : (xs : List A) (a : A) (p : Point) → conj_holds h (xs ++ a ∷ []) p ≡ (conj_holds h xs p && h a p)
      holds_push xs a p = conj_holds-append h xs (a ∷ []) p ∙ ap (λ b. conj_holds h xs p && b) (and-true (h a p))

      mention_push : (xs : List A) (a : A) (s : Slot) → conj_mentions m (xs ++ a ∷ []) s ≡ (conj_mentions m xs s || m a s)
      mention_push xs a s = conj_mentions-append m xs (a ∷ []) s ∙ ap (λ b. conj_mentions m xs s || b) (or-false (m a s))

      lines_push : (xs : List A) (a : A) → conj_lines l (xs ++ a ∷ []) ≡ conj_lines l xs ++ l a
      lines_push xs a = conj_lines-append l xs (a ∷ []) ∙ ap (λ ls. conj_lines l xs ++ ls) (append-nil (l a))

  -- a step of the loop
  pub conj_renaming_more : (xs next ys new : List A) (a b : A) → next ≡ xs ++ a ∷ [] → new ≡ ys ++ b ∷ [] → IsConjRenaming xs ys → IsAtomRenaming a b → IsConjRenaming next new
  conj_renaming_more xs next ys new a b e f r t =
      subst (λ zs. IsConjRenaming zs new) (sym e) (subst (λ zs. IsConjRenaming (xs ++ a ∷ []) zs) (sym f) (conj_renaming_push xs ys a b r t))

  pub list_renaming_none : IsListRenaming [] []
  list_renaming_none = renaming_none map false

  -- one more conjunction
  pub list_renaming_push : (xs ys : List (List A)) (c d : List A) → IsListRenaming xs ys → IsConjRenaming c d → IsListRenaming (xs ++ c ∷ []) (ys ++ d ∷ [])
  list_renaming_push xs ys c d r t =
      renaming_both map (λ x y. x || y) (conjs_hold h xs) (conjs_hold h ys) (conj_holds h c) (conj_holds h d) _ _ (conjs_mention m xs) (conjs_mention m ys) (conj_mentions m c) (conj_mentions m d) _ _
      (conjs_lines l xs) (conjs_lines l ys) (conj_lines l c) (conj_lines l d) _ _
      (λ p. holds_push xs c p) (λ p. holds_push ys d p) (λ s. mention_push xs c s) (λ s. mention_push ys d s) (lines_push xs c) (lines_push ys d) r t
    where
      holds_push : (xs : List (List A)) (c : List A) (p : Point) → conjs_hold h (xs ++ c ∷ []) p ≡ (conjs_hold h xs p || conj_holds h c p)
      holds_push xs c p = conjs_hold-append h xs (c ∷ []) p ∙ ap (λ b. conjs_hold h xs p || b) (or-false (conj_holds h c p))

      mention_push : (xs : List (List A)) (c : List A) (s : Slot) → conjs_mention m (xs ++ c ∷ []) s ≡ (conjs_mention m xs s || conj_mentions m c s)
      mention_push xs c s = conjs_mention-append m xs (c ∷ []) s ∙ ap (λ b. conjs_mention m xs s || b) (or-false (conj_mentions m c s))

      lines_push : (xs : List (List A)) (c : List A) → conjs_lines l (xs ++ c ∷ []) ≡ conjs_lines l xs ++ conj_lines l c
      lines_push xs c = conjs_lines-append l xs (c ∷ []) ∙ ap (λ ls. conjs_lines l xs ++ ls) (append-nil (conj_lines l c))

  -- a step of the loop
  pub list_renaming_more : (xs next ys new : List (List A)) (c copy d : List A) → next ≡ xs ++ c ∷ [] → copy ≡ c → new ≡ ys ++ d ∷ [] → IsListRenaming xs ys → IsConjRenaming copy d → IsListRenaming next new
  list_renaming_more xs next ys new c copy d e j f r t =
      subst (λ zs. IsListRenaming zs new) (sym e) (subst (λ zs. IsListRenaming (xs ++ c ∷ []) zs) (sym f) (list_renaming_push xs ys c d r (subst (λ zs. IsConjRenaming zs d) j t)))
