-- Pairs of tuples that are apart or meet make relations that are apart or meet.
use Rattle.std.proofs.Common.{◌≡◌, ℕ, Bool, true, Option, Some, None, List, [], ◌∷◌, ◌++◌, ◌⊎◌, inl, inr, sym, ◌∙◌, true≢false}
use Rattle.std.specs.Prelude.{MatchOption}
use Rattle.std.specs.List.{AllByRecursion}
use Rattle.ded_num.proofs.Tests.{both}
use Rattle.ded_model.specs.declared.certificate.Entry.{Entry}
use Rattle.ded_model.specs.Catalogue.{tuples_of}
use Rattle.ded_model.specs.Cell.{HoldsSomewhere, HoldsNowhere}
use Rattle.ded_model.specs.Point.{Point, IsPoint}
use Rattle.ded_model.specs.Row.{tuple_holds, tuples_hold}
use Rattle.ded_model.proofs.Members.{or_split}
use Rattle.ded_model.proofs.Points.{and_left, and_right}
use Rattle.ded_model.proofs.Rows.{or_left, or_right}
use Rattle.ded_model.proofs.TupleLists.{together}
use Rattle.ded_weighing.proofs.Shown.{fails}
use Rattle.ded_cert.specs.Checks.{Checks}
use Rattle.ded_cert.specs.Pairs.{Numbered, both_hold, pairs_of, pairs_with, entry_for, AreApart, AreEntriesOf, IsFirstMeeting, IsVerified}
use Rattle.ded_cert.proofs.Paired.{all_apart}
use Rattle.ded_cert.proofs.Shown.{tuples_nowhere}
use Rattle.ded_cert.proofs.PairChecks.{in_second, in_first}

-- ---- relations that are apart

never_with : (t : Numbered) (us : List Numbered) (p : Point) → IsPoint p → AllByRecursion AreApart (pairs_with t us) → tuple_holds t.1 p ≡ true → tuples_hold (tuples_of us) p ≡ true → ⊥
unfolding tuples_hold
never_with t [] p i h k l = true≢false (sym l)
never_with t (u ∷ us) p i h k l = elim (or_split (tuple_holds u.1 p) (tuples_hold (tuples_of us) p) l) [
  | inl e ↦ true≢false (sym (together t.1 u.1 p ∙ both (tuple_holds t.1 p) (tuple_holds u.1 p) k e) ∙ h.0 p i)
  | inr e ↦ never_with t us p i h.1 k e
]

never_both : (ts us : List Numbered) (p : Point) → IsPoint p → AllByRecursion AreApart (pairs_of ts us) → tuples_hold (tuples_of ts) p ≡ true → tuples_hold (tuples_of us) p ≡ true → ⊥
unfolding tuples_hold
never_both [] us p i h k l = true≢false (sym k)
never_both (t ∷ ts) us p i h k l = elim (or_split (tuple_holds t.1 p) (tuples_hold (tuples_of ts) p) k) [
  | inl e ↦ never_with t us p i (in_first AreApart (pairs_with t us) (pairs_of ts us) h) e l
  | inr e ↦ never_both ts us p i (in_second AreApart (pairs_with t us) (pairs_of ts us) h) e l
]

apart : (ts us : List Numbered) → AllByRecursion AreApart (pairs_of ts us) → HoldsNowhere (both_hold ts us)
apart ts us h = λ p i.
    fails (both_hold ts us p) (λ e. never_both ts us p i h (and_left (tuples_hold (tuples_of ts) p) (tuples_hold (tuples_of us) p) e) (and_right (tuples_hold (tuples_of ts) p) (tuples_hold (tuples_of us) p) e))

pub certified_apart : (ts us : List Numbered) (es : List Entry) → AreEntriesOf (pairs_of ts us) es → HoldsNowhere (both_hold ts us)
certified_apart ts us es h = apart ts us (all_apart (pairs_of ts us) es h)

verified_pair : (es : List Entry) (p : Numbered × Numbered) → IsVerified es p → AreApart p
verified_pair es p h = by (entry_for es p.0.0 p.1.0) h
  where
    by : (o : Option Entry) → MatchOption o ⊥ (λ e. Checks p.0.1 p.1.1 e.proof) → AreApart p
    by None h = absurd h
    by (Some e) h = tuples_nowhere p.0.1 p.1.1 e.proof h

verified_pairs : (es : List Entry) (ps : List (Numbered × Numbered)) → AllByRecursion (IsVerified es) ps → AllByRecursion AreApart ps
verified_pairs es [] h = tt
verified_pairs es (p ∷ ps) h = (verified_pair es p h.0, verified_pairs es ps h.1)

pub verified_apart : (ts us : List Numbered) (es : List Entry) → AllByRecursion (IsVerified es) (pairs_of ts us) → HoldsNowhere (both_hold ts us)
verified_apart ts us es h = apart ts us (verified_pairs es (pairs_of ts us) h)

-- ---- relations that meet

-- a point at which both tests pass
abbrev Shared : (Point → Bool) → (Point → Bool) → Type 0
Shared one other = (p : Point) × IsPoint p × ((one p ≡ true) × (other p ≡ true))

meet_with : (t : Numbered) (us : List Numbered) (rest : List (Numbered × Numbered)) (i j : ℕ) → IsFirstMeeting (pairs_with t us ++ rest) i j → Shared (tuple_holds t.1) (tuples_hold (tuples_of us)) ⊎ IsFirstMeeting rest i j
unfolding tuples_hold
meet_with t [] rest i j h = inr h
meet_with t (u ∷ us) rest i j (inl h) =
    let k = sym (together t.1 u.1 h.2.0) ∙ h.2.2 in
    inl (h.2.0, h.2.1, (and_left (tuple_holds t.1 h.2.0) (tuple_holds u.1 h.2.0) k, or_left (tuple_holds u.1 h.2.0) (tuples_hold (tuples_of us) h.2.0) (and_right (tuple_holds t.1 h.2.0) (tuple_holds u.1 h.2.0) k)))
meet_with t (u ∷ us) rest i j (inr h) = elim (meet_with t us rest i j h.1) [
  | inl m ↦ inl (m.0, m.1, (m.2.0, or_right (tuple_holds u.1 m.0) (tuples_hold (tuples_of us) m.0) m.2.1))
  | inr k ↦ inr k
]

shared : (ts us : List Numbered) (i j : ℕ) → IsFirstMeeting (pairs_of ts us) i j → Shared (tuples_hold (tuples_of ts)) (tuples_hold (tuples_of us))
unfolding tuples_hold
shared [] us i j h = absurd h
shared (t ∷ ts) us i j h = elim (meet_with t us (pairs_of ts us) i j h) [
  | inl m ↦ (m.0, m.1, (or_left (tuple_holds t.1 m.0) (tuples_hold (tuples_of ts) m.0) m.2.0, m.2.1))
  | inr k ↦ let m = shared ts us i j k in (m.0, m.1, (or_right (tuple_holds t.1 m.0) (tuples_hold (tuples_of ts) m.0) m.2.0, m.2.1))
]

pub meeting_meets : (ts us : List Numbered) (i j : ℕ) → IsFirstMeeting (pairs_of ts us) i j → HoldsSomewhere (both_hold ts us)
meeting_meets ts us i j h = let m = shared ts us i j h in (m.0, m.1, both (tuples_hold (tuples_of ts) m.0) (tuples_hold (tuples_of us) m.0) m.2.0 m.2.1)
