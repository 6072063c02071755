-- The box of a relation is there where the relation is narrow for it, or all its rows are order rows.
use Rattle.std.proofs.Common.{◌≡◌, ◌⊎◌, inl, inr, ⊎_elim, ℕ, zero, suc, ◌+◌, ◌*◌, ◌^◌, ◌<◌, ◌≤◌, Bool, true, false, ◌||◌, Option, Some, None, List, [], ◌∷◌, ◌++◌, bytes_eq, arith, refl, sym, ap, ◌∙◌, true≢false}
use Rattle.std.specs.Prelude.{ℤ, if◌then◌else◌}
use Rattle.std.specs.List.{AllByRecursion}
use Rattle.std.proofs.lemmas.Bool.Decides.{leb_tells}
use Rattle.ded_model.specs.declared.bound.Bound.{Bound}
use Rattle.ded_model.specs.declared.bound.BoxReply.{BoxReply}
use Rattle.ded_model.specs.declared.bound.BoxReply.TheVariants.{Nowhere, NoRational, Spans}
use Rattle.ded_model.specs.declared.name.Column.{Column}
use Rattle.ded_model.specs.declared.slot.Slot.{Slot}
use Rattle.ded_model.specs.declared.slot.Sort.{Sort}
use Rattle.ded_model.specs.declared.slot.Sort.TheVariants.{Rat, Text}
use Rattle.ded_model.specs.declared.tuple.BothAtom.TheVariants.{First, Second}
use Rattle.ded_model.specs.Bound.{lower, upper}
use Rattle.ded_model.specs.Catalogue.{Catalogue, Entry, tuples_of}
use Rattle.ded_model.specs.Catalogue as entry
use Rattle.ded_model.specs.Cell.{conj_holds, HoldsSomewhere, HoldsNowhere}
use Rattle.ded_model.specs.Command.{box_of}
use Rattle.ded_model.specs.Constraint.{LinearConstraint}
use Rattle.ded_model.specs.Entries.{entry_of, relation_in, stored_in, columns_in, tuples_in}
use Rattle.ded_model.specs.Interval.{IsExactBound}
use Rattle.ded_model.specs.Known.{KnownNames, AreStored, IsEntryOver, AreEntriesOver, IsTupleOver, IsWellFormed, with_known}
use Rattle.ded_model.specs.Lines.{row_lines}
use Rattle.ded_model.specs.Normal.{IsNormalTheme, IsNormalTuple}
use Rattle.ded_model.specs.Point.{Point}
use Rattle.ded_model.specs.Row.{Atom, row_holds, theme_holds, row_mentions, theme_mentions, tuple_holds, tuples_hold}
use Rattle.ded_model.specs.Width.{row_length, tuple_length, tuples_length, rational_columns, IsBoxNarrow}
use Rattle.ded_model.proofs.LineLengths.{no_clash}
use Rattle.ded_model.proofs.Points.{and_left, and_right}
use Rattle.ded_model.proofs.Rows.{or_left}
use Rattle.ded_theory.specs.declared.answers.Span.{Span}
use Rattle.ded_theory.specs.declared.answers.Span.TheVariants.{Nothing, Exact, Around}
use Rattle.ded_theory.specs.declared.answers.Verdict.TheVariants.{Inhabited}
use Rattle.ded_theory.specs.Both.{by_kind, IsByKind, firsts, seconds}
use Rattle.ded_theory.specs.Conjunctions.{conj_mentions, conj_lines, IsWide}
use Rattle.ded_theory.specs.Verdicts.{IsSpan}
use Rattle.ded_theory.proofs.Parted.{wide_more}
use Rattle.ded_theory.proofs.PartLaws.{spans_joined}
use Rattle.ded_theory.proofs.Shared.{holds_alike}
use Rattle.ded_theory.proofs.TwoKinds.{parts_hold, parts_mention, firsts_normal, first_lines}
use Rattle.ded_elimination.specs.LinearAtoms.{IsLinearAtom}
use Rattle.ded_elimination.proofs.Shared.{atoms_normal}
use Rattle.ded_box.specs.Extents.{BoundsAt, AreBounds, IsBox, covering}
use Rattle.ded_box.specs.Intervals.{IsInterval}
use Rattle.ded_box.proofs.Extended.{box-same, box-either}
use Rattle.ded_linear.proofs.Shared.{row_laws}
use Rattle.ded_linear.proofs.Wide.{RowsWide, wide_now, wide_later}
use Rattle.ded_theme.proofs.Shared.{text_laws}
use Rattle.ded_order.specs.OrderRows.{is_order_row}
use Rattle.ded_atoms.specs.Orders.{are_orders, AreOrderAtoms}
use Rattle.ded_atoms.proofs.Extending.{extent_none, tuple_box}
use Rattle.ded_atoms.proofs.WideTuples.{wide_tuple}
use Rattle.ded_width.specs.Orderly.{row_reach}
use Rattle.ded_width.proofs.Combinations.{elim_shapes}
use Rattle.ded_width.proofs.Names.{tuple_good}
use Rattle.ded_width.proofs.Reaches.{narrow_with_less}
use Rattle.ded_width.proofs.Rows.{row_shapes}
use Rattle.ded_width.proofs.Shapes.{AreShapes, shapes_both, shapes_within}
use Rattle.ded_width.proofs.ShortGoals.{at_most}
use Rattle.ded_width.proofs.Ties.{AreGoodRows}
use Rattle.ded_session.specs.Replies.{boxes}
use Rattle.ded_session.specs.Steps.{MayBeWide}
use Rattle.ded_session.proofs.Bounding.{relation_over}
use Rattle.ded_progress.specs.Progress.{IsDone}
use Rattle.ded_progress.proofs.Somewhere.{IsSorted, somewhere_decided}
use Rattle.ded_progress.proofs.Spanning.{IsPassedOn, IsKnown, HasSpan, slot_spanned}

-- ---- two reasons against exact bounds

wide_passed : IsPassedOn RowsWide
wide_passed = record { now = wide_now; later = wide_later }

-- the lines of the rows are order lines
abbrev AreCalm : List LinearConstraint → Type 0
AreCalm rows = (ps : List (ℤ × ℤ)) × AreShapes ps (conj_lines row_lines rows)

abbrev AreRestless : List LinearConstraint → Type 0
AreRestless rows = AreCalm rows → ⊥

restless_passed : IsPassedOn AreRestless
restless_passed = record {
  now = λ t rows r m e a. true≢false (sym e ∙ no_clash t (conj_lines row_lines rows) (shapes_within a.0 (conj_lines row_lines rows) a.1));
  later = λ t rows out r m only lines bad a. bad (a.0, λ l i. elim_shapes a.0 t (conj_lines row_lines rows) a.1 l (lines l i));
}

calm : (t : List Atom) → AreGoodRows t → AreOrderAtoms t → tuple_length t ≤ 63 → AreCalm (firsts t)
calm [] g o l = ([], λ x i. absurd i)
calm (First r ∷ t) g o l =
    let rest = calm t g.1 (and_right (is_order_row r) (are_orders t) o) (omega (arith, l)) in
    ((row_reach r).points ++ rest.0, shapes_both (row_reach r).points rest.0 (row_lines r) (conj_lines row_lines (firsts t)) (row_shapes r g.0 (and_left (is_order_row r) (are_orders t) o) (at_most (row_length r) (omega (arith, l)))) rest.1)
calm (Second a ∷ t) g o l = calm t g o l

-- ---- one tuple

abbrev Holds : List Atom → Point → Bool
Holds t = conj_holds (by_kind row_holds theme_holds) t

-- the bounds are exact, and values
abbrev AreExact : (Point → Bool) → Slot → Type 0
AreExact test s = (b : Bound × Bound) × IsInterval b × IsExactBound test s lower b.0 × IsExactBound test s upper b.1

-- of each rational column, or there is a reason against it
columns_bounded : (Bad : Type 0) (test : Point → Bool) → ((s : Slot) → s.sort ≡ Rat → AreExact test s ⊎ Bad) → (n : ℕ) (cs : List Column) → ((bs : List (Bound × Bound)) × AreBounds test n cs bs) ⊎ Bad
columns_bounded Bad test each n [] = inl ([], tt)
columns_bounded Bad test each n (c ∷ cs) = by c.sort (columns_bounded Bad test each (n + 1) cs)
  where
    by : (x : Sort) → ((bs : List (Bound × Bound)) × AreBounds test (n + 1) cs bs) ⊎ Bad → ((bs : List (Bound × Bound)) × BoundsAt test n x bs (AreBounds test (n + 1) cs)) ⊎ Bad
    by x (inr bad) = inr bad
    by Text (inl r) = inl (r.0, r.1)
    by Rat (inl r) = ⊎_elim
        (λ (b : AreExact test (record { number = n; sort = Rat })). inl (b.0 ∷ r.0, (b.1, b.2, b.3, r.1)))
        (λ bad. inr bad)
        (each (record { number = n; sort = Rat }) refl)

sorted : (t : List Atom) → IsNormalTuple t → AllByRecursion IsSorted t
sorted [] n = tt
sorted (First r ∷ t) n = (n.0.0, sorted t n.2)
sorted (Second a ∷ t) n = (n.0, sorted t n.2)

module _ (Bad : List LinearConstraint → Type 0) (passed : IsPassedOn Bad) (t : List Atom) (n : IsNormalTuple t) where
  kinds : AllByRecursion (IsByKind IsLinearAtom IsNormalTheme) t
  kinds = atoms_normal t n

  texts_hold : HoldsSomewhere (Holds t) → HoldsSomewhere (conj_holds theme_holds (seconds t))
  texts_hold w = (w.0, w.1, and_right (conj_holds row_holds (firsts t) w.0) (conj_holds theme_holds (seconds t) w.0) (sym (parts_hold row_holds theme_holds t w.0) ∙ w.2))

  exact : HoldsSomewhere (Holds t) → (s : Slot) (span : Span) → IsSpan (by_kind row_holds theme_holds) (by_kind row_mentions theme_mentions) (by_kind row_lines (λ a. [])) t s span → IsKnown span → AreExact (Holds t) s
  exact w s Nothing h k = absurd (true≢false (sym w.2 ∙ h w.0 w.1))
  exact w s (Exact l u) h k = ((l, u), k, h.0, h.1)
  exact w s (Around l u) h k = absurd k

  joined : HoldsSomewhere (Holds t) → (s : Slot) → s.sort ≡ Rat → HasSpan s (firsts t) → AreExact (Holds t) s
  joined w s r h =
      exact w s h.span (spans_joined row_holds row_mentions row_lines IsLinearAtom row_laws theme_holds theme_mentions (λ a. []) IsNormalTheme text_laws t kinds s r h.span Inhabited h.is (texts_hold w)) h.known

  each_slot : HoldsSomewhere (Holds t) → (s : Slot) → s.sort ≡ Rat → AreExact (Holds t) s ⊎ Bad (firsts t)
  each_slot w s r = ⊎_elim
      (λ (h : HasSpan s (firsts t)). inl (joined w s r h))
      (λ bad. inr bad)
      (slot_spanned Bad passed s (firsts t) (firsts_normal IsLinearAtom IsNormalTheme t kinds))

  spans_box : (h : List Column) → HoldsSomewhere (Holds t) → (bs : List (Bound × Bound)) → AreBounds (Holds t) 0 h bs → (r : BoxReply) × IsBox (tuple_holds t) h r
  spans_box h w bs x = by (rational_columns h) refl
    where
      some : (n k : ℕ) → n ≡ suc k → 0 < n
      some n k e = omega (arith, e)

      by : (k : ℕ) → rational_columns h ≡ k → (r : BoxReply) × IsBox (tuple_holds t) h r
      by zero e = (NoRational, tuple_box h t NoRational (w, e))
      by (suc k) e = (Spans bs, tuple_box h t (Spans bs) (w, some (rational_columns h) k e, x))

  boxed : (c : Catalogue) (h : List Column) → ((r : BoxReply) × IsBox (tuple_holds t) h r) ⊎ Bad (firsts t)
  boxed c h = ⊎_elim somewhere (λ (none : HoldsNowhere (tuple_holds t)). inl (Nowhere, none)) (somewhere_decided c t (sorted t n))
    where
      somewhere : HoldsSomewhere (tuple_holds t) → ((r : BoxReply) × IsBox (tuple_holds t) h r) ⊎ Bad (firsts t)
      somewhere v =
          let w : HoldsSomewhere (Holds t) = (v.0, v.1, holds_alike t v.0 ∙ v.2) in
          ⊎_elim
          (λ (b : (bs : List (Bound × Bound)) × AreBounds (Holds t) 0 h bs). inl (spans_box h w b.0 b.1))
          (λ bad. inr bad)
          (columns_bounded (Bad (firsts t)) (Holds t) (each_slot w) 0 h)

-- ---- tuples

abbrev HasBox : List Column → List Atom → Type 0
HasBox h t = (r : BoxReply) × IsBox (tuple_holds t) h r

together : (h : List Column) (ts : List (List Atom)) → AllByRecursion (HasBox h) ts → (r : BoxReply) × IsBox (tuples_hold ts) h r
unfolding tuples_hold
together h [] b = (Nowhere, extent_none h)
together h (t ∷ ts) b =
    let rest = together h ts b.1 in
    (covering b.0.0 rest.0, box-same (λ p. tuple_holds t p || tuples_hold ts p) (tuples_hold (t ∷ ts)) (λ p i. refl) h (covering b.0.0 rest.0) (box-either (tuple_holds t) (tuples_hold ts) h b.0.0 rest.0 b.0.1 rest.1))

module _ (c : Catalogue) (h : List Column) where
  narrow_first : (t : List Atom) (ts : List (List Atom)) → IsBoxNarrow h (t ∷ ts) → IsBoxNarrow h (t ∷ [])
  unfolding IsBoxNarrow
  narrow_first t ts n = narrow_with_less (tuples_length (t ∷ [])) (tuples_length (t ∷ ts)) (rational_columns h) (rational_columns h) (omega arith) (omega arith) n

  narrow_rest : (t : List Atom) (ts : List (List Atom)) → IsBoxNarrow h (t ∷ ts) → IsBoxNarrow h ts
  unfolding IsBoxNarrow
  narrow_rest t ts n = narrow_with_less (tuples_length ts) (tuples_length (t ∷ ts)) (rational_columns h) (rational_columns h) (omega arith) (omega arith) n

  wide_atoms : (t : List Atom) → RowsWide (firsts t) → IsWide (by_kind row_mentions theme_mentions) (by_kind row_lines (λ a. [])) t
  wide_atoms t w = wide_more row_mentions row_lines (by_kind row_mentions theme_mentions) (by_kind row_lines (λ a. [])) (firsts t) t
      (first_lines row_lines (λ a. []) t) (λ s e. parts_mention row_mentions theme_mentions t s ∙ or_left (conj_mentions row_mentions (firsts t) s) (conj_mentions theme_mentions (seconds t) s) e) w

  narrow_boxes : (ts : List (List Atom)) → AllByRecursion (IsTupleOver h) ts → IsBoxNarrow h ts → AllByRecursion (HasBox h) ts
  narrow_boxes [] o n = tt
  narrow_boxes (t ∷ ts) o n = (
    ⊎_elim (λ (b : HasBox h t). b) (λ bad. absurd (wide_tuple h t o.0 (wide_atoms t bad) (narrow_first t ts n))) (boxed RowsWide wide_passed t o.0.normal c h),
    narrow_boxes ts o.1 (narrow_rest t ts n),
  )

  order_boxes : (ts : List (List Atom)) → AllByRecursion (IsTupleOver h) ts → AllByRecursion (λ t. tuple_length t ≤ 63) ts → AllByRecursion AreOrderAtoms ts → AllByRecursion (HasBox h) ts
  order_boxes [] o l k = tt
  order_boxes (t ∷ ts) o l k = (
    ⊎_elim (λ (b : HasBox h t). b) (λ bad. absurd (bad (calm t (tuple_good t o.0.normal) k.0 l.0))) (boxed AreRestless restless_passed t o.0.normal c h),
    order_boxes ts o.1 l.1 k.1,
  )

-- ---- the tuples of a relation

abbrev AreShort : List (ℕ × List Atom) → Type 0
AreShort ts = AllByRecursion (λ t. tuple_length t ≤ 63) (tuples_of ts)

stored_short : (h : List Column) (inserts m : ℕ) (ts : List (ℕ × List Atom)) → AreStored h inserts m ts → AreShort ts
stored_short h inserts m [] s = tt
stored_short h inserts m (t ∷ ts) s = (s.3, stored_short h inserts t.0 ts s.4)

entry_short : (limit : ℕ) (K : KnownNames) (e : Entry) → IsEntryOver limit K e → AreShort (stored_in (Some e))
entry_short limit K (entry.relation n h i ts) o = stored_short h i 0 ts o.0
entry_short limit K (entry.view n h f) o = tt

entries_short : (limit : ℕ) (K : KnownNames) (es : List Entry) (n : List ℕ) → AreEntriesOver limit K es → AreShort (stored_in (entry_of es n))
entries_short limit K [] n w = tt
entries_short limit K (e ∷ es) n w = by (bytes_eq n (entry.entry_name e)) (entry_short limit K e w.1) (entries_short limit (with_known K e) es n w.2)
  where
    by : (b : Bool) → AreShort (stored_in (Some e)) → AreShort (stored_in (entry_of es n)) → AreShort (stored_in (if b then Some e else entry_of es n))
    by true h k = h
    by false h k = k

module _ (c : Catalogue) (w : IsWellFormed c) (n : List ℕ) where
  abbrev Stored : List (List Atom)
  Stored = tuples_of (tuples_in c n)

  stored_over : AllByRecursion (IsTupleOver (columns_in c n)) Stored
  stored_over = by (entry_of c.entries n) refl
    where
      by : (o : Option Entry) → entry_of c.entries n ≡ o → AllByRecursion (IsTupleOver (columns_in c n)) (tuples_of (stored_in o))
      by None e = tt
      by (Some (entry.view m h f)) e = tt
      by (Some (entry.relation m h i us)) e = relation_over c n (columns_in c n) us w refl (sym (ap relation_in e))

-- ---- too wide or not

module _ (h : List Column) (ts : List (List Atom)) where
  narrow_decided : IsBoxNarrow h ts ⊎ (IsBoxNarrow h ts → ⊥)
  unfolding IsBoxNarrow
  narrow_decided = elim (leb_tells ((tuples_length ts + 1) * 2 ^ rational_columns h) 128) [
    | inl t ↦ inl t.1
    | inr f ↦ inr (λ k. beyond ((tuples_length ts + 1) * 2 ^ rational_columns h) f.1 k)
  ]
    where
      beyond : (m : ℕ) → 128 < m → m ≤ 128 → ⊥
      beyond m h k = omega (arith, h, k)

orders_decided : (ts : List (List Atom)) → AllByRecursion AreOrderAtoms ts ⊎ (AllByRecursion AreOrderAtoms ts → ⊥)
orders_decided [] = inl tt
orders_decided (t ∷ ts) = by (are_orders t) refl (orders_decided ts)
  where
    by : (b : Bool) → are_orders t ≡ b → AllByRecursion AreOrderAtoms ts ⊎ (AllByRecursion AreOrderAtoms ts → ⊥) → AllByRecursion AreOrderAtoms (t ∷ ts) ⊎ (AllByRecursion AreOrderAtoms (t ∷ ts) → ⊥)
    by true e (inl h) = inl (e, h)
    by true e (inr h) = inr (λ k. h k.1)
    by false e rest = inr (λ k. true≢false (sym k.0 ∙ e))

module _ (c : Catalogue) (w : IsWellFormed c) (n : List ℕ) where
  done_with : AllByRecursion (HasBox (columns_in c n)) (tuples_of (tuples_in c n)) → IsDone c (box_of n)
  done_with b = let all = together (columns_in c n) (tuples_of (tuples_in c n)) b in record { reply = boxes (columns_in c n) all.0; next = c; does = (refl, all.1, refl); answer = refl }

  pub box_decided : IsDone c (box_of n) ⊎ MayBeWide (box_of n) c
  box_decided = ⊎_elim
      (λ (k : IsBoxNarrow (columns_in c n) (tuples_of (tuples_in c n))). inl (done_with (narrow_boxes c (columns_in c n) (tuples_of (tuples_in c n)) (stored_over c w n) k)))
      (λ wide. ⊎_elim
      (λ (k : AllByRecursion AreOrderAtoms (tuples_of (tuples_in c n))). inl (done_with (order_boxes c (columns_in c n) (tuples_of (tuples_in c n)) (stored_over c w n) (entries_short c.limit (λ m. None) c.entries n w) k)))
      (λ other. inr (wide, other))
      (orders_decided (tuples_of (tuples_in c n))))
      (narrow_decided (columns_in c n) (tuples_of (tuples_in c n)))

pub wide_box_decided : (c : Catalogue) (n : List ℕ) → MayBeWide (box_of n) c ⊎ (MayBeWide (box_of n) c → ⊥)
wide_box_decided c n = ⊎_elim
    (λ (k : IsBoxNarrow (columns_in c n) (tuples_of (tuples_in c n))). inr (λ m. m.0 k))
    (λ wide. ⊎_elim
    (λ (k : AllByRecursion AreOrderAtoms (tuples_of (tuples_in c n))). inr (λ m. m.1 k))
    (λ other. inl (wide, other))
    (orders_decided (tuples_of (tuples_in c n))))
    (narrow_decided (columns_in c n) (tuples_of (tuples_in c n)))
