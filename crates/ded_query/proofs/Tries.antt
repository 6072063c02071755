-- The views that were tried, one after another.
use Rattle.std.proofs.Common.{◌≡◌, ◌⊎◌, ℕ, ◌<◌, ◌≤◌, arith, Bool, true, false, List, [], ◌∷◌, ◌++◌, inl, inr, refl, sym, ap, ◌∙◌, subst, true≢false, append_assoc, append-nil, bytes_eq}
use Rattle.std.specs.List.{AllByRecursion, list_any}
use Rattle.std.proofs.lemmas.Bool.{or_parts}
use Rattle.std.proofs.lemmas.List.Folds.{list_any-append}
use Rattle.ded_num.proofs.Tests.{from_same_texts}
use Rattle.ded_model.specs.Catalogue.{Catalogue}
use Rattle.ded_model.specs.Entries.{known}
use Rattle.ded_model.specs.Known.{level_with}
use Rattle.ded_model.specs.Measure.{measures}
use Rattle.ded_model.proofs.Bools.{bytes_eq-refl}
use Rattle.ded_model.proofs.Members.{or_split}
use Rattle.ded_model.proofs.Rows.{or_left, or_right}
use Rattle.ded_genrel.proofs.Items.{all-append, all_weaker}
use Rattle.ded_plan.proofs.ScannedNames.{any_more}
use Rattle.ded_algebra.specs.declared.given.GivenRelation.{GivenRelation}
use Rattle.ded_algebra.specs.Given.{has_name}
use Rattle.ded_query.specs.Gathering.{IsGivenOf, IsGathered, IsFront}
use Rattle.ded_query.specs.Tried.{TriesMore, AreSettled, IsBelowTried, IsGatheredBy}
use Rattle.ded_query.proofs.Gathered.{gathered_none, gathered_more}

-- ---- more of them

pub tries_none : (g : List GivenRelation) (ts : List (List ℕ)) → TriesMore g ts ts
tries_none g ts = record { more = []; is = sym (append-nil ts); absent = tt }

pub tries_same : (g : List GivenRelation) (old new : List (List ℕ)) → new ≡ old → TriesMore g old new
tries_same g old new e = record { more = []; is = e ∙ sym (append-nil old); absent = tt }

-- what isn't given behind isn't at the front
front_absent : (old new : List GivenRelation) → IsFront old new → (n : List ℕ) → has_name n new ≡ false → has_name n old ≡ false
front_absent old new f n h = (or_parts (has_name n old) (has_name n f.more) (sym (list_any-append (λ (r : GivenRelation). bytes_eq n r.name) old f.more) ∙ ap (has_name n) (sym f.is) ∙ h)).0

pub tries_more : (g h : List GivenRelation) (t u v : List (List ℕ)) → IsFront g h → TriesMore g t u → TriesMore h u v → TriesMore g t v
tries_more g h t u v f a b = record {
  more = a.more ++ b.more;
  is = b.is ∙ ap (λ l. l ++ b.more) a.is ∙ append_assoc t a.more b.more;
  absent = all-append (λ n. has_name n g ≡ false) a.more b.more a.absent (all_weaker (λ n. has_name n h ≡ false) (λ n. has_name n g ≡ false) b.more (front_absent g h f) b.absent);
}

-- where a view was begun that isn't given
pub tries_begun : (g : List GivenRelation) (t s u : List (List ℕ)) (n : List ℕ) → has_name n g ≡ false → s ≡ t ++ n ∷ [] → TriesMore g s u → TriesMore g t u
tries_begun g t s u n h e a = record {
  more = n ∷ a.more;
  is = a.is ∙ ap (λ l. l ++ a.more) e ∙ append_assoc t (n ∷ []) a.more;
  absent = (h, a.absent);
}

-- it is one of them
pub tries_it : (g : List GivenRelation) (t s u : List (List ℕ)) (n : List ℕ) → s ≡ t ++ n ∷ [] → TriesMore g s u → list_any (bytes_eq n) u ≡ true
tries_it g t s u n e a =
    ap (list_any (bytes_eq n)) a.is
    ∙ list_any-append (bytes_eq n) s a.more
    ∙ or_left (list_any (bytes_eq n) s) (list_any (bytes_eq n) a.more) (ap (list_any (bytes_eq n)) e ∙ any_more n n t ∙ or_right (list_any (bytes_eq n) t) (bytes_eq n n) (bytes_eq-refl n))

-- each is that view, or one that was tried before
begun_one : (t s : List (List ℕ)) (n m : List ℕ) → s ≡ t ++ n ∷ [] → list_any (bytes_eq m) s ≡ true → (list_any (bytes_eq m) t ≡ true) ⊎ (m ≡ n)
begun_one t s n m e u = elim (or_split (list_any (bytes_eq m) t) (bytes_eq m n) (sym (any_more m n t) ∙ ap (list_any (bytes_eq m)) (sym e) ∙ u)) [ inl x ↦ inl x | inr x ↦ inr (from_same_texts m n x) ]

-- ---- what came of them

-- a name that is kept, and isn't there, wasn't
kept_absent : (a b : Bool) → (a ≡ true → b ≡ true) → b ≡ false → a ≡ false
kept_absent true b k e = absurd (true≢false (sym (k refl) ∙ e))
kept_absent false b k e = refl

pub by_none : (c : Catalogue) (rs : List GivenRelation) (ts : List (List ℕ)) → AllByRecursion (IsGivenOf c) rs → IsGatheredBy c rs ts rs ts
by_none c rs ts k = record { gathered = gathered_none c rs k; settled = λ n u h. inl u }

module _ (c : Catalogue) (old mid new : List GivenRelation) where
  pub by_more : (t u v : List (List ℕ)) → IsGatheredBy c old t mid u → IsGatheredBy c mid u new v → IsGatheredBy c old t new v
  by_more t u v a b = record {
    gathered = gathered_more c old mid new a.gathered b.gathered;
    settled = λ n x h. elim (b.settled n x h) [ inl y ↦ a.settled n y (kept_absent (has_name n mid) (has_name n new) (b.gathered.kept n) h) | inr y ↦ inr y ];
  }

  -- where nothing more is tried
  pub by_given : (t u : List (List ℕ)) → IsGatheredBy c old t mid u → IsGathered c mid new → IsGatheredBy c old t new u
  by_given t u a g = record {
    gathered = gathered_more c old mid new a.gathered g;
    settled = λ n x h. a.settled n x (kept_absent (has_name n mid) (has_name n new) (g.kept n) h);
  }

  -- where a view was begun, and is given
  pub by_begun : (t s u : List (List ℕ)) (n : List ℕ) → s ≡ t ++ n ∷ [] → IsGatheredBy c old s mid u → IsGathered c mid new → has_name n new ≡ true → IsGatheredBy c old t new u
  by_begun t s u n e a g there = record {
    gathered = gathered_more c old mid new a.gathered g;
    settled = λ m x h. elim (a.settled m x (kept_absent (has_name m mid) (has_name m new) (g.kept m) h)) [
      | inl y ↦ elim (begun_one t s n m e y) [ inl z ↦ inl z | inr z ↦ absurd (true≢false (sym there ∙ subst (λ k. has_name k new ≡ false) z h)) ]
      | inr y ↦ inr y
    ];
  }

-- or is too wide
pub by_wide : (c : Catalogue) (old new : List GivenRelation) (t s u : List (List ℕ)) (n : List ℕ) → s ≡ t ++ n ∷ [] → IsGatheredBy c old s new u → (measures c n).clash ≡ true → IsGatheredBy c old t new u
by_wide c old new t s u n e a wide = record {
  gathered = a.gathered;
  settled = λ m x h. elim (a.settled m x h) [
    | inl y ↦ elim (begun_one t s n m e y) [ inl z ↦ inl z | inr z ↦ inr (subst (λ k. (measures c k).clash ≡ true) (sym z) wide) ]
    | inr y ↦ inr y
  ];
}

-- ---- levels

-- where nothing was tried
pub settled_none : (c : Catalogue) (g : List GivenRelation) (ts : List (List ℕ)) (most : ℕ) → ts ≡ [] → AreSettled c g ts most
settled_none c g ts most e = λ n u h. absurd (true≢false (sym u ∙ ap (list_any (bytes_eq n)) e))

-- below a lower level
pub settled_lower : (c : Catalogue) (g : List GivenRelation) (ts : List (List ℕ)) (low most : ℕ) → low ≤ most → AreSettled c g ts most → AreSettled c g ts low
settled_lower c g ts low most l s = λ n u h. elim (s n u h) [ inl x ↦ inl x | inr x ↦ inr (omega (arith, l, x)) ]

-- after more was gathered
pub settled_after : (c : Catalogue) (old new : List GivenRelation) (t u : List (List ℕ)) (most : ℕ) → IsGatheredBy c old t new u → AreSettled c old t most → AreSettled c new u most
settled_after c old new t u most g s = λ n x h. elim (g.settled n x h) [ inl y ↦ s n y (kept_absent (has_name n old) (has_name n new) (g.gathered.kept n) h) | inr y ↦ inl y ]

-- while one more is evaluated
pub settled_begun : (c : Catalogue) (g : List GivenRelation) (t s : List (List ℕ)) (n : List ℕ) (most : ℕ) → s ≡ t ++ n ∷ [] → most < level_with (known c n) → AreSettled c g t most → AreSettled c g s most
settled_begun c g t s n most e l k = λ m u h. elim (begun_one t s n m e u) [ inl x ↦ k m x h | inr x ↦ inr (subst (λ y. most < level_with (known c y)) (sym x) l) ]

-- what is asked for is below them still
pub below_after : (c : Catalogue) (old new : List GivenRelation) (t u : List (List ℕ)) (Has : ℕ → Type 0) → IsGatheredBy c old t new u → IsBelowTried c old t Has → IsBelowTried c new u Has
below_after c old new t u Has g b = record { level = b.level; has = b.has; settled = settled_after c old new t u b.level g b.settled }
