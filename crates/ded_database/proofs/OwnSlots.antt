-- Arguments that are slots of their own, gone through one after another.
use Rattle.std.proofs.Common.{◌≡◌, ℕ, suc, ◌+◌, ◌<◌, ◌≤◌, Bool, true, false, ◌||◌, cond, List, [], ◌∷◌, ◌++◌, map, length, take, drop, get_or, drop-cons, add-one, refl, sym, ap, ap₂, ◌∙◌, subst, true≢false}
use Rattle.std.proofs.Math.Seq.{take-suc}
use Rattle.std.proofs.lemmas.List.{take_all, drop_all}
use Rattle.ded_model.specs.declared.goal.Place.{Place}
use Rattle.ded_model.specs.declared.goal.Place.TheVariants.{At}
use Rattle.ded_model.specs.declared.name.Column.{Column}
use Rattle.ded_model.specs.declared.slot.Slot.{Slot}
use Rattle.ded_model.specs.Point.{same_slot, stands_in, AreDistinctSlots}
use Rattle.ded_model.specs.Scanned.{Scanned, kept, fresh, same_atom, scanned_after, first_free, scanned, scanned_slots, fresh_slots}
use Rattle.ded_model.proofs.Bools.{or_false_left, or_false_right}
use Rattle.ded_model.proofs.Points.{same_slot_is, same_slot_refl}
use Rattle.ded_algebra.specs.Evaluation.{HaveSorts}
use Rattle.ded_database.specs.Lost.{IsOwnSlot, AreOwnSlots}

-- the first arguments are these slots, each once, of the columns' sorts
pub record AreOwnFirst (h : List Column) (ts : List Place) (i : ℕ) (done : List Slot) : Type 0 where
  pub is : scanned ts ≡ map kept done ++ scanned_after done (first_free ts) (drop i ts)
  pub sorts : HaveSorts (take i h) done
  pub distinct : AreDistinctSlots done

pub own_none : (h : List Column) (ts : List Place) (done : List Slot) → done ≡ [] → AreOwnFirst h ts 0 done
own_none h ts done e = subst (AreOwnFirst h ts 0) (sym e) (record { is = refl; sorts = tt; distinct = tt })

-- ---- one more

-- a slot that isn't one of the others is scanned as it is
own_scanned : (done : List Slot) (n : ℕ) (s : Slot) (ts : List Place) → stands_in done s ≡ false → scanned_after done n (At s ∷ ts) ≡ kept s ∷ scanned_after (done ++ s ∷ []) n ts
own_scanned done n s ts e =
    ap (λ b. cond b (fresh (record { number = n; sort = s.sort }) (same_atom n s.sort s) ∷ scanned_after (done ++ record { number = n; sort = s.sort } ∷ []) (suc n) ts) (kept s ∷ scanned_after (done ++ s ∷ []) n ts)) e

kept_more : (done : List Slot) (s : Slot) (gs : List Scanned) → map kept done ++ kept s ∷ gs ≡ map kept (done ++ s ∷ []) ++ gs
kept_more [] s gs = refl
kept_more (x ∷ done) s gs = ap (λ ys. kept x ∷ ys) (kept_more done s gs)

sorts_more : (h : List Column) (ss : List Slot) (c : Column) (s : Slot) → c.sort ≡ s.sort → HaveSorts h ss → HaveSorts (h ++ c ∷ []) (ss ++ s ∷ [])
sorts_more [] [] c s e k = (e, tt)
sorts_more [] (x ∷ ss) c s e k = absurd k
sorts_more (d ∷ h) [] c s e k = absurd k
sorts_more (d ∷ h) (x ∷ ss) c s e k = (k.0, sorts_more h ss c s e k.1)

-- no other slot is the last one
not_last : (ss : List Slot) (x s : Slot) → stands_in ss x ≡ false → same_slot x s ≡ false → stands_in (ss ++ s ∷ []) x ≡ false
not_last [] x s e f = by (same_slot s x) refl
  where
    by : (b : Bool) → same_slot s x ≡ b → (b || false) ≡ false
    by true g = absurd (true≢false (sym (same_slot_refl x) ∙ ap (same_slot x) (sym (same_slot_is s x g)) ∙ f))
    by false g = refl
not_last (y ∷ ss) x s e f = ap₂ (λ a b. a || b) (or_false_left (same_slot y x) (stands_in ss x) e) (not_last ss x s (or_false_right (same_slot y x) (stands_in ss x) e) f)

distinct_more : (ss : List Slot) (s : Slot) → AreDistinctSlots ss → stands_in ss s ≡ false → AreDistinctSlots (ss ++ s ∷ [])
distinct_more [] s d e = (refl, tt)
distinct_more (x ∷ ss) s d e = (not_last ss x s d.0 (or_false_left (same_slot x s) (stands_in ss s) e), distinct_more ss s d.1 (or_false_right (same_slot x s) (stands_in ss s) e))

pub own_more : (h : List Column) (ts : List Place) (i : ℕ) (done new : List Slot) (c : Column) (t : Place) (s : Slot) → i < length ts → i < length h → t ≡ get_or ts i t → c ≡ get_or h i c → IsOwnSlot c t done s → new ≡ done ++ s ∷ []
    → AreOwnFirst h ts i done → AreOwnFirst h ts (i + 1) new
own_more h ts i done new c t s l m is is' k e first = subst (AreOwnFirst h ts (i + 1)) (sym e) (record {
  is = first.is
      ∙ ap (λ us. map kept done ++ scanned_after done (first_free ts) us) (drop-cons ts i t l ∙ ap₂ (λ x j. x ∷ drop j ts) (sym is ∙ k.place) (sym (add-one i)))
      ∙ ap (λ gs. map kept done ++ gs) (own_scanned done (first_free ts) s (drop (i + 1) ts) k.absent)
      ∙ kept_more done s (scanned_after (done ++ s ∷ []) (first_free ts) (drop (i + 1) ts));
  sorts = subst (λ cs. HaveSorts cs (done ++ s ∷ [])) (sym (ap (λ j. take j h) (add-one i) ∙ take-suc h i c m ∙ ap (λ y. take i h ++ y ∷ []) (sym is'))) (sorts_more (take i h) done c s k.sort first.sorts);
  distinct = distinct_more done s first.distinct k.absent;
})

-- ---- all

kept_slots : (done : List Slot) → scanned_slots (map kept done ++ []) ≡ done
kept_slots [] = refl
kept_slots (s ∷ done) = ap (λ ss. s ∷ ss) (kept_slots done)

none_fresh : (done : List Slot) → fresh_slots (map kept done ++ []) ≡ []
none_fresh [] = refl
none_fresh (s ∷ done) = none_fresh done

pub own_all : (h : List Column) (ts : List Place) (i : ℕ) (done : List Slot) → length ts ≤ i → length h ≤ i → AreOwnFirst h ts i done → AreOwnSlots h ts done
own_all h ts i done l m first =
    let is : scanned ts ≡ map kept done ++ [] = first.is ∙ ap (λ us. map kept done ++ scanned_after done (first_free ts) us) (drop_all i ts l) in
    record {
      fresh = ap fresh_slots is ∙ none_fresh done;
      slots = ap scanned_slots is ∙ kept_slots done;
      sorts = subst (λ cs. HaveSorts cs done) (take_all i h m) first.sorts;
      distinct = first.distinct;
    }
