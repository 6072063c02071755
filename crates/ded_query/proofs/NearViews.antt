-- Views that are right where a scan's tuple holds: beside what is given they agree with the catalogue on each scan.
use Rattle.std.proofs.Common.{◌≡◌, ◌⊎◌, ℕ, zero, suc, ◌+◌, ◌<◌, ◌*◌, Bool, true, false, ◌||◌, cond, List, [], ◌∷◌, ◌++◌, length, map, take, get_or, inl, inr, arith, refl, sym, ap, ◌∙◌, subst, true≢false, mul-pos, bytes_eq}
use Rattle.std.specs.Prelude.{◌↔◌, IsTrue, None}
use Rattle.std.specs.List.{AllByRecursion, list_any}
use Rattle.std.proofs.lemmas.List.Folds.{list_any-append}
use Rattle.std.proofs.lemmas.Slice.Eq.{bytes_eq-Decides}
use Rattle.ded_num.proofs.Tests.{from_same_texts, all-at}
use Rattle.ded_model.specs.Catalogue.{Catalogue, meaning}
use Rattle.ded_model.specs.Entries.{known, columns_in}
use Rattle.ded_model.specs.Goal.{GoalForm}
use Rattle.ded_model.specs.Known.{IsWellFormed}
use Rattle.ded_model.specs.Logic.{as_count}
use Rattle.ded_model.specs.Made.{base}
use Rattle.ded_model.specs.Measure.{measures, goal_clashes}
use Rattle.ded_model.specs.PlanForm.{PlanForm, scan}
use Rattle.ded_model.specs.Point.{Point}
use Rattle.ded_model.specs.Row.{Atom, tuple_holds, tuples_hold}
use Rattle.ded_model.specs.Uses.{plan_uses}
use Rattle.ded_model.specs.Value.{slot_value, overs, arguments}
use Rattle.ded_model.proofs.Rows.{or_left, or_right}
use Rattle.ded_model.proofs.Bools.{bytes_eq-refl}
use Rattle.ded_model.proofs.Members.{or_split}
use Rattle.ded_genrel.proofs.Items.{done_to, all-push, all_weaker}
use Rattle.ded_algebra.specs.Evaluation.{IsEvaluable, IsAnyAtom}
use Rattle.ded_plan.specs.Planned.{IsPlanned}
use Rattle.ded_plan.specs.Plans.{IsScanOf}
use Rattle.ded_plan.specs.declared.scans.ScanWithin.{ScanWithin}
use Rattle.ded_plan.specs.Scans.{AgreesAt, IsReadWithin}
use Rattle.ded_algebra.specs.declared.given.GivenRelation.{GivenRelation}
use Rattle.ded_algebra.specs.Given.{given_catalogue, has_name}
use Rattle.ded_views.proofs.Clashing.{plan_clashing}
use Rattle.ded_views.proofs.GoalNames.{speaks_used}
use Rattle.ded_views.proofs.PlansAlike.{arguments_bytes, slots_positive, arguments_length}
use Rattle.ded_query.specs.Gathering.{IsGivenOf, IsGathered, IsFront, IsPosed}
use Rattle.ded_query.specs.Over.{over_relations}
use Rattle.ded_query.specs.Tried.{TriesMore, IsGatheredBy}
use Rattle.ded_query.specs.Windows.{column_values, IsOverSlots, IsReadable, scans_of, IsShapedOf, IsReadFrom, IsGivenNear, IsNearView, added}
use Rattle.ded_query.proofs.Evaluable.{sorts_long, evaluable}
use Rattle.ded_query.proofs.Gathered.{front_none, front_more, posed_scans}
use Rattle.ded_query.proofs.GivenNames.{MeansThere, means_there, has_last}
use Rattle.ded_query.proofs.Names.{used_known}
use Rattle.ded_query.proofs.Standing.{still_there, given_there, over_all}
use Rattle.ded_query.proofs.Tries.{by_more, tries_more}

-- ---- what is given is right everywhere

module _ (c : Catalogue) (level : ℕ) where
  -- of a scan of its name
  given_reads : (s : ScanWithin) → IsReadable c level s → (r : GivenRelation) → IsGivenOf c r → s.name ≡ r.name → IsReadFrom c s r
  given_reads s k r g e = λ p i t.
      subst (λ n. meaning c n (p.den * overs (map (slot_value p) s.slots)) (arguments (map (slot_value p) s.slots)) ↔ IsTrue (tuples_hold r.tuples (column_values p r.heading s.slots))) (sym e)
      (g.means (p.den * overs (map (slot_value p) s.slots)) (arguments (map (slot_value p) s.slots)) (mul-pos i.positive (slots_positive p s.slots)) (arguments_bytes p i s.slots)
      (arguments_length (slot_value p) s.slots ∙ sorts_long (columns_in c (base s.name)) s.slots k.sorts ∙ ap (λ n. length (columns_in c (base n))) e ∙ ap length g.columns))

  given_near : (ss : List ScanWithin) → AllByRecursion (IsReadable c level) ss → (r : GivenRelation) → IsGivenOf c r → IsGivenNear c ss r
  given_near ss k r g = record {
    shaped = record { columns = g.columns; over = g.over; lines = g.lines };
    reads = all_weaker (IsReadable c level) (λ s. s.name ≡ r.name → IsReadFrom c s r) ss (λ s own e. given_reads s own r g e) k;
  }

  pub all_near : (ss : List ScanWithin) → AllByRecursion (IsReadable c level) ss → (rs : List GivenRelation) → AllByRecursion (IsGivenOf c) rs → AllByRecursion (IsGivenNear c ss) rs
  all_near ss k rs g = all_weaker (IsGivenOf c) (IsGivenNear c ss) rs (given_near ss k) g

pub near_shaped : (c : Catalogue) (ss : List ScanWithin) (rs : List GivenRelation) → AllByRecursion (IsGivenNear c ss) rs → AllByRecursion (IsShapedOf c) rs
near_shaped c ss rs g = all_weaker (IsGivenNear c ss) (IsShapedOf c) rs (λ r own. own.shaped) g

-- ---- agreement

-- what holds of each relation for each scan holds of each scan for each relation
turned : (R : ScanWithin → GivenRelation → Type 0) (ss : List ScanWithin) (rs : List GivenRelation) → AllByRecursion (λ r. AllByRecursion (λ s. R s r) ss) rs → AllByRecursion (λ s. AllByRecursion (R s) rs) ss
turned R [] rs h = tt
turned R (s ∷ ss) rs h =
    (all_weaker (λ r. AllByRecursion (λ x. R x r) (s ∷ ss)) (R s) rs (λ r k. k.0) h, turned R ss rs (all_weaker (λ r. AllByRecursion (λ x. R x r) (s ∷ ss)) (λ r. AllByRecursion (λ x. R x r) ss) rs (λ r k. k.1) h))

module _ (c : Catalogue) (rs : List GivenRelation) where
  scan_agrees : (s : ScanWithin) → AllByRecursion (λ r. s.name ≡ r.name → IsReadFrom c s r) rs → has_name s.name rs ≡ true → AgreesAt (given_catalogue rs) c s
  scan_agrees s k e = λ p i t.
      let d = p.den * overs (map (slot_value p) s.slots) in
      let xs = arguments (map (slot_value p) s.slots) in
      means_there c s.name d xs rs (all_weaker (λ r. s.name ≡ r.name → IsReadFrom c s r) (MeansThere c s.name d xs) rs (λ r own named. own (sym named) p i t) k) e

  agree_all : (ss : List ScanWithin) → AllByRecursion (λ s. AllByRecursion (λ r. s.name ≡ r.name → IsReadFrom c s r) rs) ss → AllByRecursion (λ s. has_name s.name rs ≡ true) ss → AllByRecursion (AgreesAt (given_catalogue rs) c) ss
  agree_all [] k u = tt
  agree_all (s ∷ ss) k u = (scan_agrees s k.0 u.0, agree_all ss k.1 u.1)

  pub agree : (ss : List ScanWithin) → AllByRecursion (IsGivenNear c ss) rs → AllByRecursion (λ s. has_name s.name rs ≡ true) ss → AllByRecursion (AgreesAt (given_catalogue rs) c) ss
  agree ss g u =
      agree_all ss (turned (λ s r. s.name ≡ r.name → IsReadFrom c s r) ss rs (all_weaker (IsGivenNear c ss) (λ r. AllByRecursion (λ s. s.name ≡ r.name → IsReadFrom c s r) ss) rs (λ r own. own.reads) g)) u

-- ---- one scan alone

-- no scan is of the name
none_of : (n : List ℕ) (ss : List ScanWithin) (P : ScanWithin → Type 0) → scans_of n ss ≡ 0 → AllByRecursion (λ s. s.name ≡ n → P s) ss
none_of n [] P e = tt
none_of n (s ∷ ss) P e = by (bytes_eq s.name n) refl e (none_of n ss P)
  where
    by : (b : Bool) → bytes_eq s.name n ≡ b → cond b (suc (scans_of n ss)) (scans_of n ss) ≡ 0 → (scans_of n ss ≡ 0 → AllByRecursion (λ x. x.name ≡ n → P x) ss) → AllByRecursion (λ x. x.name ≡ n → P x) (s ∷ ss)
    by true f z next = absurd (omega (arith, z))
    by false f z next = (λ same. absurd (true≢false (sym ((bytes_eq-Decides s.name n).1 same) ∙ f)), next z)

-- one scan more
pub scans_of-push : (n : List ℕ) (ss : List ScanWithin) (s : ScanWithin) → scans_of n (ss ++ s ∷ []) ≡ scans_of n ss + as_count (bytes_eq s.name n)
scans_of-push n [] s = by (bytes_eq s.name n)
  where
    by : (b : Bool) → cond b 1 0 ≡ 0 + as_count b
    by true = omega arith
    by false = omega arith
scans_of-push n (x ∷ ss) s = by (bytes_eq x.name n) (scans_of-push n ss s)
  where
    by : (b : Bool) → scans_of n (ss ++ s ∷ []) ≡ scans_of n ss + as_count (bytes_eq s.name n) → cond b (suc (scans_of n (ss ++ s ∷ []))) (scans_of n (ss ++ s ∷ [])) ≡ cond b (suc (scans_of n ss)) (scans_of n ss) + as_count (bytes_eq s.name n)
    by true h = omega (arith, h)
    by false h = omega (arith, h)

-- so none is at a place
none_at : (n : List ℕ) (ss : List ScanWithin) (i : ℕ) (s : ScanWithin) → i < length ss → s ≡ get_or ss i s → s.name ≡ n → scans_of n ss ≡ 0 → ⊥
none_at n ss i s l e f z = all-at (λ x. x.name ≡ n → ⊥) ss i s l e (none_of n ss (λ x. ⊥) z) f

-- what holds of the only scan of the name, which stands at the place, holds of all of the name
pub only_one : (n : List ℕ) (ss : List ScanWithin) (i : ℕ) (s : ScanWithin) (P : ScanWithin → Type 0) → i < length ss → s ≡ get_or ss i s → s.name ≡ n → scans_of n ss ≡ 1 → P s → AllByRecursion (λ x. x.name ≡ n → P x) ss
only_one n [] i s P l e f z k = tt
only_one n (x ∷ ss) zero s P l e f z k = by (bytes_eq x.name n) refl z
  where
    named : bytes_eq x.name n ≡ true
    named = (bytes_eq-Decides x.name n).1 (ap (λ (y : ScanWithin). y.name) (sym e) ∙ f)

    by : (b : Bool) → bytes_eq x.name n ≡ b → cond b (suc (scans_of n ss)) (scans_of n ss) ≡ 1 → AllByRecursion (λ y. y.name ≡ n → P y) (x ∷ ss)
    by true g z = (λ same. subst P e k, none_of n ss P (omega (arith, z)))
    by false g z = absurd (true≢false (sym named ∙ g))
only_one n (x ∷ ss) (suc i) s P l e f z k = by (bytes_eq x.name n) refl z (λ m. only_one n ss i s P (omega (arith, l)) e f m k)
  where
    by : (b : Bool) → bytes_eq x.name n ≡ b → cond b (suc (scans_of n ss)) (scans_of n ss) ≡ 1 → (scans_of n ss ≡ 1 → AllByRecursion (λ y. y.name ≡ n → P y) ss) → AllByRecursion (λ y. y.name ≡ n → P y) (x ∷ ss)
    by true g z next = absurd (none_at n ss i s (omega (arith, l)) e f (omega (arith, z)))
    by false g z next = (λ same. absurd (true≢false (sym ((bytes_eq-Decides x.name n).1 same) ∙ g)), next z)

-- a view that is right for the only scan of its name is right for all scans of it
pub near_one : (c : Catalogue) (ss : List ScanWithin) (i : ℕ) (s : ScanWithin) (r : GivenRelation) → i < length ss → s ≡ get_or ss i s → scans_of s.name ss ≡ 1 → IsNearView c s r → IsGivenNear c ss r
near_one c ss i s r l e z v = record {
  shaped = v.shaped;
  reads = subst (λ n. AllByRecursion (λ x. x.name ≡ n → IsReadFrom c x r) ss) (sym v.named) (only_one s.name ss i s (λ x. IsReadFrom c x r) l e refl z v.reads);
}

-- ---- names

-- a scan's name is there, or that of a view that is right near it
abbrev pub IsThere : Catalogue → List GivenRelation → List GivenRelation → ScanWithin → Type 0
IsThere c gs rs s = (has_name s.name (over_relations c None gs) || has_name s.name rs) ≡ true

-- ---- one more

module _ (c : Catalogue) where
  -- what was there still is
  there_more : (gs gs' rs rs' : List GivenRelation) → ((n : List ℕ) → has_name n (over_relations c None gs) ≡ true → has_name n (over_relations c None gs') ≡ true) → ((n : List ℕ) → has_name n rs ≡ true → has_name n rs' ≡ true) → (s : ScanWithin) → IsThere c gs rs s → IsThere c gs' rs' s
  there_more gs gs' rs rs' k l s h = elim (or_split (has_name s.name (over_relations c None gs)) (has_name s.name rs) h) [
    | inl i ↦ or_left (has_name s.name (over_relations c None gs')) (has_name s.name rs') (k s.name i)
    | inr i ↦ or_right (has_name s.name (over_relations c None gs')) (has_name s.name rs') (l s.name i)
  ]

  pub there_next : (gs gs' rs rs' : List GivenRelation) (ss : List ScanWithin) (i : ℕ) (s : ScanWithin) → i < length ss → s ≡ get_or ss i s → IsGathered c gs gs' → ((n : List ℕ) → has_name n rs ≡ true → has_name n rs' ≡ true) → IsThere c gs' rs' s
      → AllByRecursion (IsThere c gs rs) (take i ss) → AllByRecursion (IsThere c gs' rs') (take (i + 1) ss)
  there_next gs gs' rs rs' ss i s l e g n t h =
      subst (AllByRecursion (IsThere c gs' rs')) (sym (done_to ss i s l e))
      (all-push (IsThere c gs' rs') (take i ss) s (all_weaker (IsThere c gs rs) (IsThere c gs' rs') (take i ss) (there_more gs gs' rs rs' (λ m x. still_there c None None gs gs' m (g.kept m) refl x) n) h) t)

-- of one relation more
pub has_more : (rs : List GivenRelation) (r : GivenRelation) (n : List ℕ) → has_name n rs ≡ true → has_name n (rs ++ r ∷ []) ≡ true
has_more rs r n h = list_any-append (λ (x : GivenRelation). bytes_eq n x.name) rs (r ∷ []) ∙ or_left (has_name n rs) _ h

-- what is gathered up to a place of the scans
abbrev pub IsGatheredTo : Catalogue → List ScanWithin → List GivenRelation → List (List ℕ) → ℕ → List GivenRelation → List (List ℕ) → List GivenRelation → Type 0
IsGatheredTo c ss old before i gs ts rs = IsGatheredBy c old before gs ts × AllByRecursion (IsGivenNear c ss) rs × AllByRecursion (IsThere c gs rs) (take i ss) × IsFront old gs × TriesMore old before ts

module _ (c : Catalogue) (ss : List ScanWithin) (old : List GivenRelation) (before : List (List ℕ)) (i : ℕ) (s : ScanWithin) (l : i < length ss) (e : s ≡ get_or ss i s) (gs gs' : List GivenRelation) (ts ts' : List (List ℕ)) (rs : List GivenRelation)
    (h : IsGatheredTo c ss old before i gs ts rs) (g : IsGatheredBy c gs ts gs' ts') (f : IsFront gs gs') (r : TriesMore gs ts ts') where
  -- a scan of which the name is given
  pub whole_next : has_name s.name (over_relations c None gs') ≡ true → IsGatheredTo c ss old before (i + 1) gs' ts' rs
  whole_next t = (
    by_more c old gs gs' before ts ts' h.0 g,
    h.1,
    there_next c gs gs' rs rs ss i s l e g.gathered (λ n x. x) (or_left (has_name s.name (over_relations c None gs')) (has_name s.name rs) t) h.2,
    front_more old gs gs' h.3 f,
    tries_more old gs before ts ts' h.3 h.4 r,
  )

  -- or of which the view is right near it
  pub near_next : (n : GivenRelation) → IsNearView c s n → scans_of s.name ss ≡ 1 → IsGatheredTo c ss old before (i + 1) gs' ts' (rs ++ n ∷ [])
  near_next n v z = (
    by_more c old gs gs' before ts ts' h.0 g,
    all-push (IsGivenNear c ss) rs n h.1 (near_one c ss i s n l e z v),
    there_next c gs gs' rs (rs ++ n ∷ []) ss i s l e g.gathered (has_more rs n)
        (or_right (has_name s.name (over_relations c None gs')) (has_name s.name (rs ++ n ∷ [])) (subst (λ m. has_name m (rs ++ n ∷ []) ≡ true) v.named (has_last rs n))) h.2,
    front_more old gs gs' h.3 f,
    tries_more old gs before ts ts' h.3 h.4 r,
  )

-- ---- views added to what is given

module _ (P : GivenRelation → Type 0) where
  pub added_all : (gs rs : List GivenRelation) → AllByRecursion P gs → AllByRecursion P rs → AllByRecursion P (added gs rs)
  added_all gs [] g h = g
  added_all gs (r ∷ rs) g h = by (has_name r.name gs) (added_all gs rs g h.1) (added_all (gs ++ r ∷ []) rs (all-push P gs r g h.0) h.1)
    where
      by : (b : Bool) → AllByRecursion P (added gs rs) → AllByRecursion P (added (gs ++ r ∷ []) rs) → AllByRecursion P (added (cond b gs (gs ++ r ∷ [])) rs)
      by true same more = same
      by false same more = more

-- those that were given stand at the front
pub added_front : (gs rs : List GivenRelation) → IsFront gs (added gs rs)
added_front gs [] = front_none gs
added_front gs (r ∷ rs) = by (has_name r.name gs) (added_front gs rs) (front_more gs (gs ++ r ∷ []) (added (gs ++ r ∷ []) rs) (record { more = r ∷ []; is = refl }) (added_front (gs ++ r ∷ []) rs))
  where
    by : (b : Bool) → IsFront gs (added gs rs) → IsFront gs (added (gs ++ r ∷ []) rs) → IsFront gs (added (cond b gs (gs ++ r ∷ [])) rs)
    by true same more = same
    by false same more = more

-- each name is given then
pub front_added_all : (gs rs now : List GivenRelation) → now ≡ added gs rs → IsFront gs now
front_added_all gs rs now e = subst (IsFront gs) (sym e) (added_front gs rs)

pub added_kept : (gs rs : List GivenRelation) (n : List ℕ) → has_name n gs ≡ true → has_name n (added gs rs) ≡ true
added_kept gs rs n h = let f = added_front gs rs in ap (has_name n) f.is ∙ list_any-append (λ (x : GivenRelation). bytes_eq n x.name) gs f.more ∙ or_left (has_name n gs) _ h

pub added_new : (gs rs : List GivenRelation) (n : List ℕ) → has_name n rs ≡ true → has_name n (added gs rs) ≡ true
added_new gs [] n h = absurd (true≢false (sym h))
added_new gs (r ∷ rs) n h = by (has_name r.name gs) refl (or_split (bytes_eq n r.name) (has_name n rs) h) (added_new gs rs n) (added_new (gs ++ r ∷ []) rs n)
  where
    by : (b : Bool) → has_name r.name gs ≡ b → (bytes_eq n r.name ≡ true) ⊎ (has_name n rs ≡ true) → (has_name n rs ≡ true → has_name n (added gs rs) ≡ true) → (has_name n rs ≡ true → has_name n (added (gs ++ r ∷ []) rs) ≡ true)
        → has_name n (added (cond b gs (gs ++ r ∷ [])) rs) ≡ true
    by true e (inl i) same more = added_kept gs rs n (ap (λ m. has_name m gs) (from_same_texts n r.name i) ∙ e)
    by true e (inr i) same more = same i
    by false e (inl i) same more = added_kept (gs ++ r ∷ []) rs n (ap (λ m. has_name m (gs ++ r ∷ [])) (from_same_texts n r.name i) ∙ has_last gs r)
    by false e (inr i) same more = more i

-- ---- one more is added

added_push : (gs rs : List GivenRelation) (r : GivenRelation) → added gs (rs ++ r ∷ []) ≡ cond (has_name r.name (added gs rs)) (added gs rs) (added gs rs ++ r ∷ [])
added_push gs [] r = refl
added_push gs (x ∷ rs) r = added_push (cond (has_name x.name gs) gs (gs ++ x ∷ [])) rs r

pub added_there : (gs rs now : List GivenRelation) (r : GivenRelation) → now ≡ added gs rs → has_name r.name now ≡ true → now ≡ added gs (rs ++ r ∷ [])
added_there gs rs now r e h = e ∙ sym (added_push gs rs r ∙ ap (λ b. cond b (added gs rs) (added gs rs ++ r ∷ [])) (ap (has_name r.name) (sym e) ∙ h))

pub added_one : (gs rs now new : List GivenRelation) (r : GivenRelation) → now ≡ added gs rs → has_name r.name now ≡ false → new ≡ now ++ r ∷ [] → new ≡ added gs (rs ++ r ∷ [])
added_one gs rs now new r e h f = f ∙ ap (λ xs. xs ++ r ∷ []) e ∙ sym (added_push gs rs r ∙ ap (λ b. cond b (added gs rs) (added gs rs ++ r ∷ [])) (ap (has_name r.name) (sym e) ∙ h))

-- a scan's name is there over them all
pub there_added : (c : Catalogue) (gs rs : List GivenRelation) (s : ScanWithin) → IsThere c gs rs s → has_name s.name (over_relations c None (added gs rs)) ≡ true
there_added c gs rs s h = elim (or_split (has_name s.name (over_relations c None gs)) (has_name s.name rs) h) [
  | inl i ↦ still_there c None None gs (added gs rs) s.name (added_kept gs rs s.name) refl i
  | inr i ↦ given_there c None (added gs rs) s.name (added_new gs rs s.name i)
]

-- a tuple without atoms holds everywhere
pub holds_without : (t : List Atom) → t ≡ [] → (p : Point) → IsTrue (tuple_holds t p)
unfolding tuple_holds
holds_without t e p = ap (λ xs. tuple_holds xs p) e

-- ---- the scans of a plan

-- what is so of each scan is so of the name of one
pub of_scans : (P : List ℕ → Type 0) (ss : List ScanWithin) (n : List ℕ) → AllByRecursion (λ s. P s.name) ss → list_any (λ s. bytes_eq n s.name) ss ≡ true → P n
of_scans P [] n k h = absurd (true≢false (sym h))
of_scans P (s ∷ ss) n k h = elim (or_split (bytes_eq n s.name) (list_any (λ x. bytes_eq n x.name) ss) h) [ inl e ↦ subst P (sym (from_same_texts n s.name e)) k.0 | inr e ↦ of_scans P ss n k.1 e ]

module _ (c : Catalogue) (g : GoalForm) (plan : PlanForm) (level : ℕ) (p : IsPosed c g level) (k : IsPlanned g plan) (t : List Atom) (ss : List ScanWithin) (r : IsReadWithin plan t ss) where
  readable : (s : ScanWithin) → IsScanOf c p.formula (scan s.name s.slots) → IsOverSlots s.slots s.within → IsReadable c level s
  readable s q own = record { defined = used_known (known c) p.formula s.name p.question.accepted.known q.0; level = p.levels (base s.name) (speaks_used p.formula s.name q.0); sorts = q.1; own = own }

  all_readable : (xs : List ScanWithin) → AllByRecursion (λ s. IsScanOf c p.formula (scan s.name s.slots)) xs → AllByRecursion (λ s. IsOverSlots s.slots s.within) xs → AllByRecursion (IsReadable c level) xs
  all_readable [] a b = tt
  all_readable (s ∷ xs) a b = (readable s a.0 b.0, all_readable xs a.1 b.1)

  -- they are of defined names that have at most the level
  pub posed_readable : AllByRecursion (IsReadable c level) ss
  posed_readable = all_readable ss (r.scans c p.formula (posed_scans c g plan level p k)) r.own

  some_clash : (xs : List ScanWithin) → ((n : List ℕ) → list_any (λ s. bytes_eq n s.name) xs ≡ true → plan_uses n plan ≡ true) → list_any (λ s. (measures c s.name).clash) xs ≡ true → goal_clashes (measures c) g ≡ true
  some_clash [] u e = absurd (true≢false (sym e))
  some_clash (s ∷ xs) u e =
      elim (or_split (measures c s.name).clash (list_any (λ x. (measures c x.name).clash) xs) e) [
        | inl h ↦ k.clashes (measures c) (plan_clashing (measures c) plan s.name (u s.name (or_left (bytes_eq s.name s.name) (list_any (λ x. bytes_eq s.name x.name) xs) (bytes_eq-refl s.name))) h)
        | inr h ↦ some_clash xs (λ n i. u n (or_right (bytes_eq n s.name) (list_any (λ x. bytes_eq n x.name) xs) i)) h
      ]

  -- a scanned name that clashes makes the goal clash
  pub scans_clash : list_any (λ s. (measures c s.name).clash) ss ≡ true → goal_clashes (measures c) g ≡ true
  scans_clash e = some_clash ss (λ n i. r.uses n ∙ i) e

  -- ---- over what is given and the views that are right near the scans

  module _ (gs rs now : List GivenRelation) (e : now ≡ added gs rs) (w : IsWellFormed c) (own : AllByRecursion (IsGivenOf c) gs) (near : AllByRecursion (IsGivenNear c ss) rs) (there : AllByRecursion (IsThere c gs rs) ss) where
    right_near : AllByRecursion (IsGivenNear c ss) (over_relations c None now)
    right_near =
        over_all c None now (IsGivenNear c ss) w (given_near c level ss posed_readable)
        (subst (AllByRecursion (IsGivenNear c ss)) (sym e) (added_all (IsGivenNear c ss) gs rs (all_near c level ss posed_readable gs own) near))

    pub right_shapes : AllByRecursion (IsShapedOf c) (over_relations c None now)
    right_shapes = near_shaped c ss (over_relations c None now) right_near

    all_there : AllByRecursion (λ s. has_name s.name (over_relations c None now) ≡ true) ss
    all_there = subst (λ xs. AllByRecursion (λ s. has_name s.name (over_relations c None xs) ≡ true) ss) (sym e) (all_weaker (IsThere c gs rs) (λ s. has_name s.name (over_relations c None (added gs rs)) ≡ true) ss (there_added c gs rs) there)

    pub near_agrees : AllByRecursion (AgreesAt (given_catalogue (over_relations c None now)) c) ss
    near_agrees = agree c (over_relations c None now) ss right_near all_there

    pub near_evaluable : IsEvaluable IsAnyAtom (given_catalogue (over_relations c None now)) plan
    near_evaluable =
        evaluable c p.formula (over_relations c None now) right_shapes plan (posed_scans c g plan level p k) (λ n u. of_scans (λ m. has_name m (over_relations c None now) ≡ true) ss n all_there (sym (r.uses n) ∙ u))
