-- Rules: the word of a class has the text that all of the class have, and a rule more joins two classes.
use Rattle.std.proofs.Common.{◌≡◌, ℕ, ◌<◌, Bool, true, false, cond, List, [], ◌∷◌, ◌++◌, length, get_or, take, refl, sym, ap, ◌∙◌, subst, true≢false}
use Rattle.ded_model.specs.declared.slot.Slot.{Slot}
use Rattle.ded_model.specs.declared.tuple.ThemeAtom.{ThemeAtom}
use Rattle.ded_model.specs.Point.{Point, same_slot}
use Rattle.ded_model.specs.Row.{theme_holds}
use Rattle.ded_model.specs.Cell.{conj_holds, HoldsNowhere}
use Rattle.ded_model.proofs.Points.{same_slot_is, same_slot_refl}
use Rattle.ded_theme.specs.declared.classes.Rule.{Rule}
use Rattle.ded_theme.specs.Sources.{Source, at, quoted, source, text_of, texts, left, right, is_equality}
use Rattle.ded_theme.specs.Replacing.{replaced}
use Rattle.ded_theme.specs.Classes.{rules_of, class_of, Solves, IsShortSource, AreShortSources, AreUnited, IsBound, AreApart, MeetsEqualities, AreRulesOf}
use Rattle.std.proofs.lemmas.Bool.{false_from_ne_true}
use Rattle.ded_theme.proofs.Lists.{all-at, all-take, all-append, all-front, all-last, all_weaker, all_from_test, test-at}
use Rattle.ded_theme.proofs.Comparing.{theme_holds-is, compares-same}
use Rattle.ded_theme.proofs.Pinning.{sides_equal}

-- ---- a source for another

-- what is put in its own place
pub replaced-by_itself : (s : Slot) (w : Source) → replaced s w w ≡ w
replaced-by_itself s (at t) = by (same_slot t s)
  where
    by : (b : Bool) → cond b (at t) (at t) ≡ at t
    by true = refl
    by false = refl
replaced-by_itself s (quoted t) = refl

-- the slot is replaced
pub replaced-at : (s : Slot) (w : Source) → replaced s w (at s) ≡ w
replaced-at s w = ap (λ b. cond b w (at s)) (same_slot_refl s)

-- where the slot has the source's text, nothing changes
pub replaced-text : (s : Slot) (w v : Source) (f : Slot → List ℕ) → f s ≡ text_of w f → text_of (replaced s w v) f ≡ text_of v f
replaced-text s w (at t) f e = by (same_slot t s) refl
  where
    by : (b : Bool) → same_slot t s ≡ b → text_of (cond b w (at t)) f ≡ f t
    by true h = sym (ap f (same_slot_is t s h) ∙ e)
    by false h = refl
replaced-text s w (quoted t) f e = refl

replaced-short : (n : ℕ) (s : Slot) (w v : Source) → IsShortSource n w → IsShortSource n v → IsShortSource n (replaced s w v)
replaced-short n s w (at t) h k = by (same_slot t s)
  where
    by : (b : Bool) → IsShortSource n (cond b w (at t))
    by true = h
    by false = tt
replaced-short n s w (quoted t) h k = k

-- ---- classes

-- the word of a class has the texts of all in the class
pub class_text : (f : Slot → List ℕ) (rs : List (Slot × Source)) (v : Source) → Solves f rs → text_of (class_of rs v) f ≡ text_of v f
class_text f [] v h = refl
class_text f (r ∷ rs) v h = class_text f rs (replaced r.0 r.1 v) h.1 ∙ replaced-text r.0 r.1 v f h.0

pub class_short : (n : ℕ) (rs : List (Slot × Source)) (v : Source) → AreShortSources n rs → IsShortSource n v → IsShortSource n (class_of rs v)
class_short n [] v h k = k
class_short n (r ∷ rs) v h k = class_short n rs (replaced r.0 r.1 v) h.1 (replaced-short n r.0 r.1 v h.0 k)

pub class_quoted : (rs : List (Slot × Source)) (t : List ℕ) → class_of rs (quoted t) ≡ quoted t
class_quoted [] t = refl
class_quoted (r ∷ rs) t = class_quoted rs t

class_added : (rs : List (Slot × Source)) (s : Slot) (w v : Source) → class_of (rs ++ (s, w) ∷ []) v ≡ replaced s w (class_of rs v)
class_added [] s w v = refl
class_added (r ∷ rs) s w v = class_added rs s w (replaced r.0 r.1 v)

-- a rule more
pub bound_by : (rs : List (Slot × Source)) (s : Slot) (w : Source) → IsBound rs (rs ++ (s, w) ∷ []) s w
bound_by rs s w = record {
  added = class_added rs s w;
  solved = λ f h e. all-append (λ r. f r.0 ≡ text_of r.1 f) rs (s, w) h e;
  short = λ n h k. all-append (λ r. IsShortSource n r.1) rs (s, w) h k;
}

pub rules_of-append : (rs : List Rule) (r : Rule) → rules_of (rs ++ r ∷ []) ≡ rules_of rs ++ (r.slot, source r.word) ∷ []
rules_of-append [] r = refl
rules_of-append (x ∷ rs) r = ap (λ ys. (x.slot, source x.word) ∷ ys) (rules_of-append rs r)

-- the word that a call gives for a class
pub class_here : (now rs : List Rule) (v w : Source) → now ≡ rs → w ≡ class_of (rules_of now) v → class_of (rules_of rs) v ≡ w
class_here now rs v w e f = ap (λ xs. class_of (rules_of xs) v) (sym e) ∙ sym f

-- ---- uniting

module _ (old new : List (Slot × Source)) (v w : Source) where
  -- a slot that stands for the one class gets the word of the other
  pub united_by : (s : Slot) (x : Source) → class_of old v ≡ at s → class_of old w ≡ x → IsBound old new s x → AreUnited old new v w
  united_by s x e f h = record {
    joined = h.added v ∙ ap (replaced s x) e ∙ replaced-at s x ∙ sym (h.added w ∙ ap (replaced s x) f ∙ replaced-by_itself s x);
    kept = λ y z k. h.added y ∙ ap (replaced s x) k ∙ sym (h.added z);
    solved = λ g k l. h.solved g k (sym (ap (λ y. text_of y g) e) ∙ class_text g old v k ∙ l ∙ sym (class_text g old w k) ∙ ap (λ y. text_of y g) f);
    short = λ n k l m. h.short n k (subst (IsShortSource n) f (class_short n old w k m));
  }

  pub united-swap : AreUnited old new w v → AreUnited old new v w
  united-swap h = record {
    joined = sym h.joined;
    kept = h.kept;
    solved = λ g k l. h.solved g k (sym l);
    short = λ n k l m. h.short n k m l;
  }

-- two that are in one class already
pub united_already : (rs : List (Slot × Source)) (v w : Source) → class_of rs v ≡ class_of rs w → AreUnited rs rs v w
united_already rs v w e = record { joined = e; kept = λ x y h. h; solved = λ f h k. h; short = λ n h k l. h }

-- two that have two texts
pub apart_by : (rs : List (Slot × Source)) (v w : Source) (t u : List ℕ) → class_of rs v ≡ quoted t → class_of rs w ≡ quoted u → (t ≡ u → ⊥) → AreApart rs v w
apart_by rs v w t u e f n g h k =
    n (sym (ap (λ y. text_of y g) e) ∙ class_text g rs v h ∙ k ∙ sym (class_text g rs w h) ∙ ap (λ y. text_of y g) f)

pub apart-swap : (rs : List (Slot × Source)) (v w : Source) → AreApart rs w v → AreApart rs v w
apart-swap rs v w h g k l = h g k (sym l)

-- ---- the rules of the atoms so far

pub AreRulesOf-none : AreRulesOf [] []
AreRulesOf-none = record { joined = tt; solved = λ f h. tt; short = λ n h. tt }

module _ (done : List ThemeAtom) (rs : List (Slot × Source)) (a : ThemeAtom) where
  -- a disequality makes none
  pub AreRulesOf-skipped : AreRulesOf done rs → is_equality a ≡ false → AreRulesOf (done ++ a ∷ []) rs
  AreRulesOf-skipped h e = record {
    joined = all-append (λ b. is_equality b ≡ true → class_of rs (left b) ≡ class_of rs (right b)) done a h.joined (λ k. absurd (true≢false (sym k ∙ e)));
    solved = λ f k. h.solved f (all-front (λ b. is_equality b ≡ true → text_of (left b) f ≡ text_of (right b) f) done a k);
    short = λ n k. h.short n (all-front (λ b. IsShortSource n (left b) × IsShortSource n (right b)) done a k);
  }

  -- an equality makes one
  pub AreRulesOf-more : (new : List (Slot × Source)) → AreRulesOf done rs → is_equality a ≡ true → AreUnited rs new (left a) (right a) → AreRulesOf (done ++ a ∷ []) new
  AreRulesOf-more new h e u = record {
    joined = all-append (λ b. is_equality b ≡ true → class_of new (left b) ≡ class_of new (right b)) done a
        (all_weaker (λ b. is_equality b ≡ true → class_of rs (left b) ≡ class_of rs (right b)) (λ b. is_equality b ≡ true → class_of new (left b) ≡ class_of new (right b)) done
        (λ b k l. u.kept (left b) (right b) (k l)) h.joined)
        (λ k. u.joined);
    solved = λ f k. u.solved f (h.solved f (all-front (λ b. is_equality b ≡ true → text_of (left b) f ≡ text_of (right b) f) done a k))
        (all-last (λ b. is_equality b ≡ true → text_of (left b) f ≡ text_of (right b) f) done a k e);
    short = λ n k.
        let last = all-last (λ b. IsShortSource n (left b) × IsShortSource n (right b)) done a k in
        u.short n (h.short n (all-front (λ b. IsShortSource n (left b) × IsShortSource n (right b)) done a k)) last.0 last.1;
  }

-- ---- points that satisfy the atoms

-- meet the equalities
pub meets : (atoms : List ThemeAtom) (p : Point) → conj_holds theme_holds atoms p ≡ true → MeetsEqualities (texts p) atoms
meets atoms p h = all_weaker (λ a. theme_holds a p ≡ true) (λ a. is_equality a ≡ true → text_of (left a) (texts p) ≡ text_of (right a) (texts p)) atoms
    (λ a k e. sides_equal a p e k) (all_from_test (λ a. theme_holds a p) atoms h)

-- so there is none where an equality is of two texts
pub nowhere_by : (atoms : List ThemeAtom) (i : ℕ) (a : ThemeAtom) (rs : List (Slot × Source)) → i < length atoms → a ≡ get_or atoms i a → is_equality a ≡ true
    → AreRulesOf (take i atoms) rs → AreApart rs (left a) (right a) → HoldsNowhere (conj_holds theme_holds atoms)
nowhere_by atoms i a rs l e q h n p _ = false_from_ne_true (conj_holds theme_holds atoms p) (λ k.
    let m = meets atoms p k in
    n (texts p) (h.solved (texts p) (all-take (λ b. is_equality b ≡ true → text_of (left b) (texts p) ≡ text_of (right b) (texts p)) atoms i m))
    (all-at (λ b. is_equality b ≡ true → text_of (left b) (texts p) ≡ text_of (right b) (texts p)) atoms i a l e m q))

-- nor where a disequality is of one class
pub fails_by : (atoms : List ThemeAtom) (i : ℕ) (a : ThemeAtom) (rs : List (Slot × Source)) → i < length atoms → a ≡ get_or atoms i a → is_equality a ≡ false
    → class_of rs (left a) ≡ class_of rs (right a) → (p : Point) → Solves (texts p) rs → conj_holds theme_holds atoms p ≡ false
fails_by atoms i a rs l e q j p h = false_from_ne_true (conj_holds theme_holds atoms p) (λ k.
    let one : text_of (left a) (texts p) ≡ text_of (right a) (texts p) =
    sym (class_text (texts p) rs (left a) h) ∙ ap (λ v. text_of v (texts p)) j ∙ class_text (texts p) rs (right a) h in
    true≢false (sym (test-at (λ b. theme_holds b p) atoms i a l e k) ∙ theme_holds-is a p ∙ compares-same (is_equality a) (left a) (right a) (texts p) one ∙ q))

-- nor where all that the rules ask fails
pub nowhere_with : (atoms : List ThemeAtom) (rs : List (Slot × Source)) → AreRulesOf atoms rs
    → ((p : Point) → Solves (texts p) rs → conj_holds theme_holds atoms p ≡ false) → HoldsNowhere (conj_holds theme_holds atoms)
nowhere_with atoms rs h f p _ = false_from_ne_true (conj_holds theme_holds atoms p) (λ k. true≢false (sym k ∙ f p (h.solved (texts p) (meets atoms p k))))
