-- What a change of a catalogue's entries leaves as it was, and what an insert makes of its relation.
use Rattle.std.proofs.Common.{◌≡◌, ℕ, ◌≤◌, arith, Bool, true, false, not, ◌||◌, cond, List, [], ◌∷◌, ◌++◌, Option, Some, None, is_some, inl, inr, refl, sym, ap, ap₂, ◌∙◌, subst, true≢false, bytes_eq}
use Rattle.std.specs.Prelude.{◌↔◌, ◌⊎◌, IsTrue}
use Rattle.std.specs.List.{list_any}
use Rattle.std.proofs.lemmas.Bool.{not-true, not_from_false, false_from_ne_true}
use Rattle.std.proofs.Math.Bool.{or_assoc, or-false}
use Rattle.std.proofs.lemmas.Option.{none-some, same_Some}
use Rattle.std.proofs.lemmas.Slice.Eq.{bytes_eq-Decides}
use Rattle.ded_model.specs.declared.name.Column.{Column}
use Rattle.ded_model.specs.Row.{Atom, tuple_holds, tuples_hold}
use Rattle.ded_model.specs.Point.{Point}
use Rattle.ded_model.specs.Value.{Argument}
use Rattle.ded_model.specs.Catalogue.{Entry, relation, view, Catalogue, entry_name, tuples_of, at_slots, meaning}
use Rattle.ded_model.specs.Entries.{known, entry_of, entry_uses, columns_in}
use Rattle.std.proofs.Math.Nat.{le_refl}
use Rattle.ded_model.specs.Form.{speaks_of}
use Rattle.ded_model.specs.Width.{tuples_length}
use Rattle.ded_model.proofs.Monotone.{max-grows}
use Rattle.ded_model.specs.Grown.{HasMoreLines, HaveMoreLines}
use Rattle.ded_model.specs.Known.{KnownNames, AreEntriesOver, IsWellFormed, entry_known, with_known, known_from}
use Rattle.ded_model.specs.Lines.{IsSubset, tuples_lines}
use Rattle.ded_model.proofs.Members.{or_split, subset_refl, subset_append}
use Rattle.ded_model.proofs.Rows.{or_left, or_right}
use Rattle.ded_sorts.specs.Changes.{AddsEntry, ChangesEntry, DropsEntry, Inserts}
use Rattle.ded_sorts.proofs.KnownEntries.{columns_there, absent}
use Rattle.ded_views.specs.Reaching.{with_reach, reach_from, reaches}
use Rattle.ded_views.specs.Unaffected.{AreUnaffected}
use Rattle.ded_views.proofs.Folds.{parts}
use Rattle.ded_views.proofs.Placing.{none_known, none_reached, known-is, reaches-is, known_other, reaches_other, unknown}
use Rattle.ded_views.proofs.ViewNames.{used_known}
use Rattle.ded_views.proofs.Views.{relation_means, view_accepted, relation_reaches, used_reaches}
use Rattle.ded_model.proofs.Bools.{or_false_left, or_false_right, bytes_eq-refl}

-- ---- tests

-- ---- the entry of another name

-- more entries at the end
entry_more : (es fs : List Entry) (n : List ℕ) → is_some (entry_of es n) ≡ true → entry_of (es ++ fs) n ≡ entry_of es n
entry_more [] fs n h = absurd (true≢false (sym h))
entry_more (e ∷ es) fs n h = by (bytes_eq n (entry_name e)) h (entry_more es fs n)
  where
    by : (b : Bool) → is_some (cond b (Some e) (entry_of es n)) ≡ true → (is_some (entry_of es n) ≡ true → entry_of (es ++ fs) n ≡ entry_of es n)
        → cond b (Some e) (entry_of (es ++ fs) n) ≡ cond b (Some e) (entry_of es n)
    by true h more = refl
    by false h more = more h

-- without an entry
entry_without : (before after : List Entry) (e : Entry) (n : List ℕ) → bytes_eq n (entry_name e) ≡ false → entry_of (before ++ e ∷ after) n ≡ entry_of (before ++ after) n
entry_without [] after e n h = ap (λ b. cond b (Some e) (entry_of after n)) h
entry_without (d ∷ before) after e n h = ap (λ o. cond (bytes_eq n (entry_name d)) (Some d) o) (entry_without before after e n h)

-- a test that all entries fail, the entry of a name does
entry_fails : (test : Entry → Bool) (es : List Entry) (n : List ℕ) (e : Entry) → entry_of es n ≡ Some e → list_any test es ≡ false → test e ≡ false
entry_fails test [] n e h f = absurd (none-some e h)
entry_fails test (d ∷ es) n e h f = by (bytes_eq n (entry_name d)) h (entry_fails test es n e)
  where
    by : (b : Bool) → cond b (Some d) (entry_of es n) ≡ Some e → (entry_of es n ≡ Some e → list_any test es ≡ false → test e ≡ false) → test e ≡ false
    by true h later = subst (λ x. test x ≡ false) (same_Some d e h) (or_false_left _ _ f)
    by false h later = later h (or_false_right (test d) _ f)

-- ---- an entry's own name

-- it has an entry
own_there : (before after : List Entry) (e : Entry) → is_some (entry_of (before ++ e ∷ after) (entry_name e)) ≡ true
own_there [] after e = ap (λ b. is_some (cond b (Some e) (entry_of after (entry_name e)))) (bytes_eq-refl (entry_name e))
own_there (d ∷ before) after e = by (bytes_eq (entry_name e) (entry_name d)) (own_there before after e)
  where
    by : (b : Bool) → is_some (entry_of (before ++ e ∷ after) (entry_name e)) ≡ true → is_some (cond b (Some d) (entry_of (before ++ e ∷ after) (entry_name e))) ≡ true
    by true h = refl
    by false h = h

-- no entry before it has its name
pub none_before : (limit : ℕ) (K : KnownNames) (before after : List Entry) (e : Entry) → AreEntriesOver limit K (before ++ e ∷ after) → list_any (λ x. bytes_eq (entry_name e) (entry_name x)) before ≡ false
none_before limit K [] after e w = refl
none_before limit K (d ∷ before) after e w =
    ap₂ (◌||◌) (false_from_ne_true (bytes_eq (entry_name e) (entry_name d)) same) (none_before limit (with_known K d) before after e w.2)
  where
    same : bytes_eq (entry_name e) (entry_name d) ≡ true → ⊥
    same b =
        true≢false
        (sym (own_there before after e)
        ∙ ap is_some (absent limit (with_known K d) (before ++ e ∷ after) (entry_name e) w.2 (ap (λ c. is_some (cond c (Some (entry_known K d)) (K (entry_name e)))) b)))

-- so it is the entry of its name
own_entry : (before after : List Entry) (e : Entry) → list_any (λ x. bytes_eq (entry_name e) (entry_name x)) before ≡ false → entry_of (before ++ e ∷ after) (entry_name e) ≡ Some e
own_entry [] after e h = ap (λ b. cond b (Some e) (entry_of after (entry_name e))) (bytes_eq-refl (entry_name e))
own_entry (d ∷ before) after e h =
    ap (λ b. cond b (Some d) (entry_of (before ++ e ∷ after) (entry_name e))) (or_false_left _ _ h)
    ∙ own_entry before after e (or_false_right (bytes_eq (entry_name e) (entry_name d)) _ h)

-- over a well formed catalogue
pub entry_there : (c : Catalogue) (before after : List Entry) (e : Entry) (n : List ℕ) → IsWellFormed c → c.entries ≡ before ++ e ∷ after → entry_name e ≡ n → entry_of c.entries n ≡ Some e
entry_there c before after e n w p named =
    ap₂ entry_of p (sym named) ∙ own_entry before after e (none_before c.limit none_known before after e (subst (AreEntriesOver c.limit none_known) p w))

-- ---- unaffected names

pub added : (c d : Catalogue) (e : Entry) → IsWellFormed c → AddsEntry c d e → AreUnaffected c d (λ n. is_some (entry_of c.entries n))
added c d e w a = record {
  same = λ n some. ap (λ x. entry_of x.entries n) a ∙ entry_more c.entries (e ∷ []) n some;
  closed = λ n m k h f some there used. defined k (entry_of c.entries k) refl (used_known (known c) f k (view_accepted c w n m h f there).known used);
}
  where
    defined : (k : List ℕ) (o : Option Entry) → entry_of c.entries k ≡ o → is_some (known c k) ≡ true → is_some o ≡ true
    defined k None e s = absurd (true≢false (sym s ∙ ap is_some (unknown c k e)))
    defined k (Some x) e s = refl

pub dropped : (c d : Catalogue) (n : List ℕ) → DropsEntry c d n → list_any (entry_uses n) c.entries ≡ false → AreUnaffected c d (λ m. not (bytes_eq m n))
dropped c d n x none = record {
  same = λ m other.
      ap (λ y. entry_of y.entries m) x.is
      ∙ sym (ap (λ es. entry_of es m) x.was ∙ entry_without x.before x.after x.old m (ap (bytes_eq m) x.named ∙ not-true (bytes_eq m n) other));
  closed = λ m m' k h f other there used. not_from_false (bytes_eq k n) (false_from_ne_true (bytes_eq k n)
      (λ same. true≢false (sym (ap (λ j. speaks_of j f) (sym ((bytes_eq-Decides k n).0 same)) ∙ used) ∙ entry_fails (entry_uses n) c.entries m (view m' h f) there none)));
}

module _ (c d : Catalogue) (n : List ℕ) (h : List Column) (i j : ℕ) (ts us : List (ℕ × List Atom)) (x : ChangesEntry c d n (relation n h i ts) (relation n h j us)) where
  -- a name that doesn't reach the relation isn't its name
  other : IsWellFormed c → (m : List ℕ) → not (reaches c m n) ≡ true → bytes_eq m n ≡ false
  other w m o = false_from_ne_true (bytes_eq m n)
      (λ same. true≢false
      (sym (bytes_eq-refl n)
      ∙ sym (relation_reaches c w n n h i ts (entry_there c x.before x.after (relation n h i ts) n w x.was refl) n)
      ∙ ap (λ k. reaches c k n) (sym ((bytes_eq-Decides m n).0 same))
      ∙ not-true (reaches c m n) o))

  -- each other name has the same entry
  pub same_entry : (m : List ℕ) → bytes_eq m n ≡ false → entry_of d.entries m ≡ entry_of c.entries m
  same_entry m o =
      ap (λ y. entry_of y.entries m) x.is
      ∙ entry_without x.before x.after (relation n h j us) m o
      ∙ sym (ap (λ es. entry_of es m) x.was ∙ entry_without x.before x.after (relation n h i ts) m o)

  pub changed : IsWellFormed c → AreUnaffected c d (λ m. not (reaches c m n))
  changed w = record {
    same = λ m o. same_entry m (other w m o);
    closed = λ m m' k h' f o there used. not_from_false (reaches c k n) (false_from_ne_true (reaches c k n)
        (λ reached. true≢false (sym (used_reaches c w m m' h' f there k n used reached) ∙ not-true (reaches c m n) o)));
  }

  -- of all names the same is known
  pub known_alike : (m : List ℕ) → known d m ≡ known c m
  known_alike m =
      ap (λ K. K m)
      (known-is d ∙ ap (λ y. known_from none_known y.entries) x.is
      ∙ parts with_known known_from (λ J. refl) (λ J e es. refl) known_other x.before (relation n h j us ∷ x.after) none_known
      ∙ sym
      (known-is c ∙ ap (known_from none_known) x.was
      ∙ parts with_known known_from (λ J. refl) (λ J e es. refl) known_other x.before (relation n h i ts ∷ x.after) none_known))

  -- and all reach the same
  pub reach_alike : (m r : List ℕ) → reaches d m r ≡ reaches c m r
  reach_alike m r =
      ap (λ R. R m r)
      (reaches-is d ∙ ap (λ y. reach_from none_reached y.entries) x.is
      ∙ parts with_reach reach_from (λ J. refl) (λ J e es. refl) reaches_other x.before (relation n h j us ∷ x.after) none_reached
      ∙ sym
      (reaches-is c ∙ ap (reach_from none_reached) x.was
      ∙ parts with_reach reach_from (λ J. refl) (λ J e es. refl) reaches_other x.before (relation n h i ts ∷ x.after) none_reached))

-- ---- inserts

-- one tuple more
more_hold : (ts : List (ℕ × List Atom)) (k : ℕ) (t : List Atom) (p : Point) → tuples_hold (tuples_of (ts ++ (k, t) ∷ [])) p ≡ (tuples_hold (tuples_of ts) p || tuple_holds t p)
unfolding tuples_hold
more_hold [] k t p = or-false (tuple_holds t p)
more_hold (x ∷ ts) k t p = ap (λ b. tuple_holds x.1 p || b) (more_hold ts k t p) ∙ sym (or_assoc (tuple_holds x.1 p) _ _)

more_lines : (ts : List (ℕ × List Atom)) (k : ℕ) (t : List Atom) → IsSubset (tuples_lines (tuples_of ts)) (tuples_lines (tuples_of (ts ++ (k, t) ∷ [])))
more_lines [] k t l h = absurd h
more_lines (x ∷ ts) k t l h = subset_append _ _ _ _ (subset_refl _) (more_lines ts k t) l h

more_length : (ts : List (ℕ × List Atom)) (k : ℕ) (t : List Atom) → tuples_length (tuples_of ts) ≤ tuples_length (tuples_of (ts ++ (k, t) ∷ []))
more_length [] k t = omega arith
more_length (x ∷ ts) k t = let h = more_length ts k t in max-grows _ _ _ _ (le_refl _) h

same_lines : (e : Entry) → HasMoreLines e e
same_lines (relation n h i ts) = (refl, refl, subset_refl _, le_refl _)
same_lines (view n h f) = (refl, refl, refl)

all_same_lines : (es : List Entry) → HaveMoreLines es es
all_same_lines [] = tt
all_same_lines (e ∷ es) = (same_lines e, all_same_lines es)

one_more_lines : (before after : List Entry) (e e' : Entry) → HasMoreLines e e' → HaveMoreLines (before ++ e ∷ after) (before ++ e' ∷ after)
one_more_lines [] after e e' h = (h, all_same_lines after)
one_more_lines (d ∷ before) after e e' h = (same_lines d, one_more_lines before after e e' h)

pub inserted_lines : (c d : Catalogue) (n : List ℕ) (t : List Atom) (k : ℕ) → Inserts c d n t k → HaveMoreLines c.entries d.entries
inserted_lines c d n t k x =
    let lines = one_more_lines x.changes.before x.changes.after (relation n x.columns x.inserts x.present) (relation n x.columns k (x.present ++ (k, t) ∷ []))
    (refl, refl, more_lines x.present k t, more_length x.present k t) in
    subst (λ es. HaveMoreLines es d.entries) (sym x.changes.was)
    (subst (HaveMoreLines (x.changes.before ++ relation n x.columns x.inserts x.present ∷ x.changes.after)) (sym (ap (λ y. y.entries) x.changes.is)) lines)

pub inserted : (c d : Catalogue) (n : List ℕ) (t : List Atom) (k : ℕ) → IsWellFormed c → IsWellFormed d → Inserts c d n t k
    → (den : ℕ) (xs : List Argument) → meaning d n den xs ↔ (meaning c n den xs ⊎ IsTrue (tuple_holds t (record { den = den; coords = at_slots 0 (columns_in c n) xs })))
inserted c d n t k w v x den xs =
    let old = relation n x.columns x.inserts x.present in
    let new = relation n x.columns k (x.present ++ (k, t) ∷ []) in
    let there = entry_there c x.changes.before x.changes.after old n w x.changes.was refl in
    let a = relation_means c w n n x.columns x.inserts x.present there den xs in
    let b = relation_means d v n n x.columns k (x.present ++ (k, t) ∷ [])
    (entry_there d x.changes.before x.changes.after new n v (ap (λ y. y.entries) x.changes.is) refl) den xs in
    let p : Point = record { den = den; coords = at_slots 0 x.columns xs } in
    let more = more_hold x.present k t p in
    subst (λ h. meaning d n den xs ↔ (meaning c n den xs ⊎ IsTrue (tuple_holds t (record { den = den; coords = at_slots 0 h xs })))) (sym (columns_there c n old w there)) (
      λ s. elim (or_split (tuples_hold (tuples_of x.present) p) (tuple_holds t p) (sym more ∙ b.0 s)) [ inl e ↦ inl (a.1 e) | inr e ↦ inr e ],
      λ s. b.1 (more ∙ elim s [ inl e ↦ or_left (tuples_hold (tuples_of x.present) p) (tuple_holds t p) (a.0 e) | inr e ↦ or_right (tuples_hold (tuples_of x.present) p) (tuple_holds t p) e ]),
    )
