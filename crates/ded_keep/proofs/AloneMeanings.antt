-- What names mean where one of them has given tuples alone and the others are as they are given.
use Rattle.std.proofs.Common.{◌≡◌, ℕ, Bool, true, false, cond, ◌||◌, ◌⊎◌, List, [], ◌∷◌, map, length, Option, Some, None, is_none, refl, sym, ap, ◌∙◌, subst, true≢false, bytes_eq}
use Rattle.std.specs.Prelude.{◌↔◌, IsTrue, MatchBool}
use Rattle.std.specs.List.{list_any}
use Rattle.std.specs.Option.{option_map}
use Rattle.std.proofs.Math.Bool.{or-false}
use Rattle.std.proofs.lemmas.List.{map-id}
use Rattle.std.proofs.lemmas.Simd.{map-map}
use Rattle.std.proofs.lemmas.Option.{none-some}
use Rattle.std.proofs.lemmas.Slice.Eq.{bytes_eq-Decides}
use Rattle.ded_model.specs.declared.name.Column.{Column}
use Rattle.ded_model.specs.Catalogue.{Entry, relation, view, Catalogue, entry_name, tuples_of, at_slots, with_entry, meaning_from, stored, meaning, PlanHolds, GivenHolds}
use Rattle.ded_model.specs.Entries.{entry_of, relation_in}
use Rattle.ded_model.specs.PlanForm.{PlanAtom, scan, rows, PlanForm}
use Rattle.ded_model.specs.Point.{Point, IsPoint}
use Rattle.ded_model.specs.Row.{Atom, tuple_holds, tuples_hold}
use Rattle.ded_model.specs.Value.{Argument, Meaning}
use Rattle.ded_algebra.specs.Evaluation.{AreGiven, given_tuples}
use Rattle.ded_views.specs.Same.{IsSameOf}
use Rattle.ded_views.proofs.Atoms.{all_weaker}
use Rattle.ded_views.proofs.Folds.{kept}
use Rattle.ded_views.proofs.Placing.{none_means, means_own, means_other}
use Rattle.ded_keep.specs.Additive.{is_additive, AddsMeaning, IsOtherScan}
use Rattle.ded_keep.specs.Adding.{with_tuples, with_alone, IsAddition}
use Rattle.ded_keep.proofs.AdditivePlans.{added_given}

-- ---- meanings

-- relations are read alike over names that mean different things
given_alike : (es : List Entry) → AreGiven es → (I J : Meaning) (n : List ℕ) → I n ≡ J n → meaning_from I es n ≡ meaning_from J es n
given_alike [] g I J n e = e
given_alike (view m h f ∷ es) g I J n e = absurd g
given_alike (relation m h i ts ∷ es) g I J n e =
    let r = relation m h i ts in
    given_alike es g.1 (with_entry I r) (with_entry J r) n
    (λ j den xs. MatchBool (bytes_eq n m) (IsTrue (tuples_hold (tuples_of ts) (record { den = den; coords = at_slots 0 h xs }))) (e j den xs))

-- each other name means the same
other_means : (c : Catalogue) → AreGiven c.entries → (n : List ℕ) (h : List Column) (ts : List (List Atom)) (m : List ℕ) → bytes_eq m n ≡ false → stored c m ≡ stored (with_tuples c n h ts) m
unfolding stored
other_means c g n h ts m o =
    let r = relation n h 0 (map (λ t. (0, t)) ts) in
    given_alike c.entries g none_means (with_entry none_means r) m (sym (means_other none_means r m o))

-- the name itself holds where the one tuple does
own_means : (c : Catalogue) (n : List ℕ) (h : List Column) (t : List Atom) → entry_of c.entries n ≡ None → (den : ℕ) (xs : List Argument)
    → stored (with_alone c n h t) n den xs ≡ IsTrue (tuple_holds t (record { den = den; coords = at_slots 0 h xs }))
unfolding stored tuples_hold
own_means c n h t e den xs =
    let r = relation n h 0 ((0, t) ∷ []) in
    ap (λ (f : ℕ → List Argument → Type 0). f den xs) (kept with_entry meaning_from (λ J. refl) (λ J d es. refl) means_other c.entries (with_entry none_means r) n e ∙ means_own none_means r n ((bytes_eq-Decides n n).1 refl))
    ∙ ap IsTrue (or-false (tuple_holds t (record { den = den; coords = at_slots 0 h xs })))

-- ---- what the tuple adds

-- of an additive plan
pub added_alone : (c b d : Catalogue) (n : List ℕ) (h : List Column) (t : List Atom) (f : PlanForm) → AreGiven c.entries → entry_of c.entries n ≡ None → is_additive n f ≡ true → IsAddition c b d n h t f
    → (p : Point) → IsPoint p → PlanHolds d f p ↔ (PlanHolds b f p ⊎ GivenHolds (with_alone c n h t) f p)
added_alone c b d n h t f g e k a = added_given b (with_alone c n h t) d n f k (all_weaker (IsOtherScan (meaning b) (stored c) (meaning d) n) (IsOtherScan (meaning b) (stored (with_alone c n h t)) (meaning d) n) others f a.others) adds
  where
    others : (a : PlanAtom) → IsOtherScan (meaning b) (stored c) (meaning d) n a → IsOtherScan (meaning b) (stored (with_alone c n h t)) (meaning d) n a
    others (scan m ss) same = λ o. ((same o).0, subst (λ (R : ℕ → List Argument → Type 0). IsSameOf (length ss) R (meaning d m)) (other_means c g n h (t ∷ []) m o) (same o).1)
    others (rows ts) same = tt

    adds : AddsMeaning (meaning b) (stored (with_alone c n h t)) (meaning d) n
    adds den xs i j = subst (λ (A : Type 0). meaning d n den xs ↔ (meaning b n den xs ⊎ A)) (sym (own_means c n h t e den xs)) (a.adds den xs i j)

-- ---- entries

-- a name that no entry has
named_nowhere : (es : List Entry) (n : List ℕ) → entry_of es n ≡ None → list_any (λ e. bytes_eq n (entry_name e)) es ≡ false
named_nowhere [] n h = refl
named_nowhere (e ∷ es) n h = by (bytes_eq n (entry_name e)) h (named_nowhere es n)
  where
    by : (b : Bool) → cond b (Some e) (entry_of es n) ≡ None → (entry_of es n ≡ None → list_any (λ e. bytes_eq n (entry_name e)) es ≡ false) → (b || list_any (λ e. bytes_eq n (entry_name e)) es) ≡ false
    by true h next = absurd (none-some e (sym h))
    by false h next = next h

none_is : (o : Option Entry) → is_none o ≡ true → o ≡ None
none_is None h = refl
none_is (Some e) h = absurd (true≢false (sym h))

-- only relations are given, and their names are distinct
pub are_given : (c : Catalogue) (n : List ℕ) (h : List Column) (ts : List (List Atom)) → AreGiven c.entries → is_none (entry_of c.entries n) ≡ true → AreGiven (with_tuples c n h ts).entries
are_given c n h ts g e = (named_nowhere c.entries n (none_is (entry_of c.entries n) e), g)

-- what stands under the name
pub own_tuples : (c : Catalogue) (n : List ℕ) (h : List Column) (ts : List (List Atom)) (m : List ℕ) → bytes_eq m n ≡ true → given_tuples (with_tuples c n h ts) m ≡ Some ts
own_tuples c n h ts m e =
    ap (λ b. option_map tuples_of (relation_in (cond b (Some (relation n h 0 (map (λ t. (0, t)) ts))) (entry_of c.entries m)))) e
    ∙ ap Some (map-map (λ t. t.1) (λ t. (0, t)) ts ∙ map-id ts)

-- what stands under another one
pub other_tuples : (c : Catalogue) (n : List ℕ) (h : List Column) (ts : List (List Atom)) (m : List ℕ) → bytes_eq m n ≡ false → given_tuples (with_tuples c n h ts) m ≡ given_tuples c m
other_tuples c n h ts m e = ap (λ b. option_map tuples_of (relation_in (cond b (Some (relation n h 0 (map (λ t. (0, t)) ts))) (entry_of c.entries m)))) e
