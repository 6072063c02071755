-- A list that is due is held: after each statement that has it made, and until one may lose it.
use Rattle.std.proofs.Common.{◌≡◌, ℕ, Bool, true, false, not, ◌||◌, ◌⊎◌, inl, inr, List, [], ◌∷◌, None, is_some, refl, sym, ap, ◌∙◌, subst, true≢false, bytes_eq}
use Rattle.std.specs.Option.{option_map}
use Rattle.std.specs.List.{list_any, AllByRecursion}
use Rattle.std.proofs.lemmas.Bool.{false_from_ne_true, and_parts, not-true}
use Rattle.ded_lex.specs.declared.piece.Piece.{Piece}
use Rattle.ded_lex.specs.declared.piece.Piece.TheVariants as piece
use Rattle.ded_lex.specs.Pieces.{Whole}
use Rattle.ded_model.specs.declared.name.Column.{Column}
use Rattle.ded_model.specs.declared.command.Language.{Language}
use Rattle.ded_model.specs.declared.command.Refusal.{Refusal}
use Rattle.ded_model.specs.declared.command.Refusal.TheVariants.{Memory, Used}
use Rattle.ded_model.specs.Catalogue.{Catalogue, Entry}
use Rattle.ded_model.specs.Catalogue as entry
use Rattle.ded_model.specs.Command.{CommandForm, header, relation, insert, delete, drop, view, keep, ask, query, show, box_of, explain, dump, disjoint, verify}
use Rattle.ded_model.specs.Entries.{entry_of, entry_uses}
use Rattle.ded_model.specs.Row.{Atom}
use Rattle.ded_model.specs.Known.{IsWellFormed}
use Rattle.ded_model.specs.Measure.{Measure, measures, IsTight, stored_measures}
use Rattle.ded_syntax.specs.Spelling.{Spells}
use Rattle.ded_model.proofs.Members.{or_split}
use Rattle.ded_sorts.specs.Causes.{has_cause}
use Rattle.ded_sorts.specs.Changes.{AddsEntry, ChangesEntry, DropsEntry}
use Rattle.ded_syntax.proofs.Decided.{spelling_decided}
use Rattle.ded_syntax.proofs.One.{one_command}
use Rattle.ded_algebra.specs.declared.given.GivenRelation.{GivenRelation}
use Rattle.ded_views.specs.Reaching.{reaches}
use Rattle.ded_views.specs.Unaffected.{AreUnaffected}
use Rattle.ded_views.proofs.Changing.{added, dropped, changed}
use Rattle.ded_views.proofs.Unaffected.{unaffected}
use Rattle.ded_views.proofs.Views.{stored_measure}
use Rattle.ded_database.specs.declared.mark.Mark.{Mark}
use Rattle.ded_database.specs.Marks.{IsMark}
use Rattle.ded_database.specs.Held.{held_under, is_marked}
use Rattle.ded_database.specs.Upkeep.{IsTightView}
use Rattle.ded_database.proofs.Under.{other_left}
use Rattle.ded_database.specs.State.{State, catalogue_at, is_kept, IsSound}
use Rattle.ded_database.specs.Steps.{KeepsLists, Marks, Unmarks}
use Rattle.ded_session.specs.Histories.{Turn, AreTurns, last_state, renews, loses, SpellsSome, PieceSpells, NoneRenews, IsLost}
use Rattle.ded_session.specs.Pieces.{StepsPiece}
use Rattle.ded_session.specs.Keeping.{Upholds, UpholdsPiece, UpholdsStatement, KeepsUpLists, LosesLists}
use Rattle.ded_session.specs.Replies.{ReplyForm, done, number, truth, tuples, stored, boxes, steps, script, apart, meeting, refused}
use Rattle.ded_session.specs.Steps.{Does, Accepts, Step}
use Rattle.ded_query.proofs.GivenNames.{same_name}

-- where the view is marked and its formula tight, a list is held
abbrev IsDue : State → List ℕ → Type 0
IsDue s v = is_kept s v ≡ true → IsTightView (catalogue_at s) v → is_some (held_under s.held v) ≡ true

-- a marked view is defined
marked_entry : (c : Catalogue) (ms : List Mark) (v : List ℕ) → AllByRecursion (IsMark c) ms → is_marked ms v ≡ true → is_some (entry_of c.entries v) ≡ true
marked_entry c [] v k e = absurd (true≢false (sym e))
marked_entry c (m ∷ ms) v k e =
    elim (or_split (bytes_eq v m.name) (is_marked ms v) e) [
      | inl i ↦ ap (λ n. is_some (entry_of c.entries n)) (sym (same_name v m.name i)) ∙ ap is_some k.0.entry
      | inr i ↦ marked_entry c ms v k.1 i
    ]

-- a view that is the same is tight where it was
same_tight : (c d : Catalogue) → IsWellFormed c → IsWellFormed d → (v : List ℕ) → entry_of d.entries v ≡ entry_of c.entries v → stored_measures d v ≡ stored_measures c v → IsTightView d v → IsTightView c v
unfolding IsTight measures
same_tight c d w x v e m t own h f i =
    ap (λ (y : Measure). y.clash) (sym (stored_measure c w v (entry.view own h f) i) ∙ sym m ∙ stored_measure d x v (entry.view own h f) (e ∙ i)) ∙ t own h f (e ∙ i)

module _ (s t : State) (v : List ℕ) (a : IsSound s) (b : IsSound t) where
  -- ---- lists that a statement has made

  gives : (x : CommandForm) (reply : ReplyForm) → Does x (catalogue_at s) reply (catalogue_at t) → Upholds x reply s t → renews (catalogue_at s) x reply v ≡ true → IsDue t v
  gives (keep n) done k p r = λ m i.
      let same = same_name v n r in
      subst (λ j. is_some (held_under t.held j) ≡ true) same (p.listed.tight (subst (λ j. IsTightView (catalogue_at s) j) (sym same) (subst (λ c. IsTightView c v) k i)))
  gives (insert n fs) (number j) k p r = λ m i. p.0.1.tight v (sym (p.0.0 v) ∙ m) r i
  gives (delete n j) done k p r = λ m i. p.1.tight v (sym (p.0 v) ∙ m) r i
  gives _ _ k p r = absurd (true≢false (sym r))

  -- ---- lists that a statement leaves

  module _ (due : IsDue s v) where
    tight_among : (among : List ℕ → Bool) → AreUnaffected (catalogue_at s) (catalogue_at t) among → among v ≡ true → IsTightView (catalogue_at t) v → IsTightView (catalogue_at s) v
    tight_among among u r =
        same_tight (catalogue_at s) (catalogue_at t) a.formed b.formed v (u.same v r) (unaffected (catalogue_at s) (catalogue_at t) a.formed b.formed among u v r).measured

    same_lists : catalogue_at t ≡ catalogue_at s → KeepsLists s t → IsDue t v
    same_lists e k = λ m i. ap (λ rs. is_some (held_under rs v)) k.held ∙ due (sym (k.marks v) ∙ m) (subst (λ c. IsTightView c v) e i)

    entry_added : (e : Entry) → AddsEntry (catalogue_at s) (catalogue_at t) e → KeepsLists s t → IsDue t v
    entry_added e x k = λ m i.
        let marked : is_kept s v ≡ true = sym (k.marks v) ∙ m in
        ap (λ rs. is_some (held_under rs v)) k.held
        ∙ due marked
        (tight_among (λ n. is_some (entry_of (catalogue_at s).entries n)) (added (catalogue_at s) (catalogue_at t) e a.formed x) (marked_entry (catalogue_at s) s.marks v a.upheld.marks marked) i)

    entry_dropped : (n : List ℕ) → DropsEntry (catalogue_at s) (catalogue_at t) n → list_any (entry_uses n) (catalogue_at s).entries ≡ false → Unmarks s t n → IsDue t v
    entry_dropped n x unused u = λ m i.
        let p = and_parts (not (bytes_eq v n)) (is_kept s v) (sym (u.marks v) ∙ m) in
        ap (λ rs. is_some (held_under rs v)) u.held
        ∙ ap (λ o. is_some (option_map (λ (r : GivenRelation). r.tuples) o)) (other_left v n s.held (not-true (bytes_eq v n) p.0))
        ∙ due p.1 (tight_among (λ j. not (bytes_eq j n)) (dropped (catalogue_at s) (catalogue_at t) n x unused) p.0 i)

    entry_changed : (n : List ℕ) (h : List Column) (j k : ℕ) (ts us : List (ℕ × List Atom)) → ChangesEntry (catalogue_at s) (catalogue_at t) n (entry.relation n h j ts) (entry.relation n h k us)
        → reaches (catalogue_at s) v n ≡ false → KeepsUpLists s t n → IsDue t v
    entry_changed n h j k ts us x r p = λ m i.
        ap is_some (p.1.others v r)
        ∙ due (sym (p.0 v) ∙ m) (tight_among (λ o. not (reaches (catalogue_at s) o n)) (changed (catalogue_at s) (catalogue_at t) n h j k ts us x a.formed) (ap not r) i)

    other_marked : (n : List ℕ) → catalogue_at t ≡ catalogue_at s → Marks s t n → bytes_eq v n ≡ false → IsDue t v
    other_marked n e p r = λ m i.
        ap is_some (p.listed.others v r)
        ∙ due (sym (ap (λ o. o || is_kept s v) r) ∙ sym (p.marks v) ∙ m) (subst (λ c. IsTightView c v) e i)

    others_lost : (n : List ℕ) → catalogue_at t ≡ catalogue_at s → LosesLists s t n → reaches (catalogue_at s) v n ≡ false → IsDue t v
    others_lost n e p r = λ m i. ap is_some (p.1 v r) ∙ due (sym (p.0 v) ∙ m) (subst (λ c. IsTightView c v) e i)

    -- ---- by what a command is answered

    after_done : (x : CommandForm) → has_cause Used (catalogue_at s) x ≡ false → Does x (catalogue_at s) done (catalogue_at t) → Upholds x done s t → renews (catalogue_at s) x done v ≡ false → IsDue t v
    after_done header u k p r = same_lists k p
    after_done (relation n h) u k p r = entry_added (entry.relation n h 0 []) k p
    after_done (delete n j) u k p r = entry_changed n k.columns k.inserts k.inserts _ _ k.changes r p
    after_done (drop n) u k p r = entry_dropped n k u p
    after_done (view n h f) u k p r = entry_added (entry.view n h f) k p
    after_done (keep n) u k p r = other_marked n k p r
    after_done _ u k p r = absurd k

    after_number : (j : ℕ) (x : CommandForm) → Does x (catalogue_at s) (number j) (catalogue_at t) → Upholds x (number j) s t → renews (catalogue_at s) x (number j) v ≡ false → IsDue t v
    after_number j (insert n fs) k p r = entry_changed n k.columns k.inserts j k.present _ k.changes r p.0
    after_number j _ k p r = absurd k

    after_answer : (x : CommandForm) (reply : ReplyForm) → has_cause Used (catalogue_at s) x ≡ false → Does x (catalogue_at s) reply (catalogue_at t) → Upholds x reply s t → renews (catalogue_at s) x reply v ≡ false → IsDue t v
    after_answer x done u k p r = after_done x u k p r
    after_answer x (number j) u k p r = after_number j x k p r
    after_answer x (truth o) u k p r = go x k p
      where
        go : (x : CommandForm) → Does x (catalogue_at s) (truth o) (catalogue_at t) → Upholds x (truth o) s t → IsDue t v
        go (ask f) k p = same_lists k.1 p
        go (verify n m es) k p = same_lists k.1 p
        go _ k p = absurd k
    after_answer x (tuples h ts) u k p r = go x k p
      where
        go : (x : CommandForm) → Does x (catalogue_at s) (tuples h ts) (catalogue_at t) → Upholds x (tuples h ts) s t → IsDue t v
        go (query g f) k p = same_lists k.2 p
        go _ k p = absurd k
    after_answer x (stored h ts) u k p r = go x k p
      where
        go : (x : CommandForm) → Does x (catalogue_at s) (stored h ts) (catalogue_at t) → Upholds x (stored h ts) s t → IsDue t v
        go (show n) k p = same_lists k.2 p
        go _ k p = absurd k
    after_answer x (boxes h o) u k p r = go x k p
      where
        go : (x : CommandForm) → Does x (catalogue_at s) (boxes h o) (catalogue_at t) → Upholds x (boxes h o) s t → IsDue t v
        go (box_of n) k p = same_lists k.2 p
        go _ k p = absurd k
    after_answer x (steps plan) u k p r = go x k p
      where
        go : (x : CommandForm) → Does x (catalogue_at s) (steps plan) (catalogue_at t) → Upholds x (steps plan) s t → IsDue t v
        go (explain g f) k p = same_lists k.1 p
        go _ k p = absurd k
    after_answer x (script lines) u k p r = go x k p
      where
        go : (x : CommandForm) → Does x (catalogue_at s) (script lines) (catalogue_at t) → Upholds x (script lines) s t → IsDue t v
        go dump k p = same_lists k.1 p
        go _ k p = absurd k
    after_answer x (apart es) u k p r = go x k p
      where
        go : (x : CommandForm) → Does x (catalogue_at s) (apart es) (catalogue_at t) → Upholds x (apart es) s t → IsDue t v
        go (disjoint n m) k p = same_lists k.1 p
        go _ k p = absurd k
    after_answer x (meeting i j) u k p r = go x k p
      where
        go : (x : CommandForm) → Does x (catalogue_at s) (meeting i j) (catalogue_at t) → Upholds x (meeting i j) s t → IsDue t v
        go (disjoint n m) k p = same_lists k.1 p
        go _ k p = absurd k
    after_answer x (refused q) u k p r = go x k
      where
        go : (x : CommandForm) → Does x (catalogue_at s) (refused q) (catalogue_at t) → IsDue t v
        go (show n) k = absurd k
        go _ k = absurd k

    after_refused : (x : CommandForm) (q : Refusal) → catalogue_at t ≡ catalogue_at s → Upholds x (refused q) s t → loses (catalogue_at s) x (refused q) v ≡ false → IsDue t v
    after_refused (insert n fs) Memory e p r = others_lost n e p r
    after_refused (delete n j) Memory e p r = others_lost n e p r
    after_refused _ _ e p r = same_lists e p

-- ---- a statement

-- a refused one has no list made
no_refusal : (c : Catalogue) (x : CommandForm) (q : Refusal) (v : List ℕ) → renews c x (refused q) v ≡ true → ⊥
no_refusal c (keep n) q v e = true≢false (sym e)
no_refusal c (insert n fs) q v e = true≢false (sym e)
no_refusal c (delete n k) q v e = true≢false (sym e)
no_refusal c _ q v e = true≢false (sym e)

-- whether bytes, or a piece, spell a command that passes a test is decided
decided : (l : Language) (bytes : List ℕ) (test : CommandForm → Bool) → SpellsSome l bytes test ⊎ (SpellsSome l bytes test → ⊥)
decided l bytes test = elim (spelling_decided l bytes) [
  | inl x ↦ by x.0 x.1 x.2 (test x.0) refl
  | inr none ↦ inr (λ y. none y.command y.depth y.spells)
]
  where
    by : (x : CommandForm) (depth : ℕ) → Spells l bytes x depth → (b : Bool) → test x ≡ b → SpellsSome l bytes test ⊎ (SpellsSome l bytes test → ⊥)
    by x depth k true e = inl (record { command = x; depth = depth; spells = k; passes = e })
    by x depth k false e = inr (λ y. true≢false (sym y.passes ∙ ap test (one_command l bytes y.command x y.depth depth y.spells k).0 ∙ e))

piece_decided : (l : Language) (p : Piece) (test : CommandForm → Bool) → PieceSpells l p test ⊎ (PieceSpells l p test → ⊥)
piece_decided l (piece.Whole bytes) test = decided l bytes.now test
piece_decided l piece.Long test = inr (λ h. h)
piece_decided l piece.Cut test = inr (λ h. h)

-- of a whole piece
module _ (l : Language) (s t : State) (bytes v : List ℕ) (a : IsSound s) (b : IsSound t) where
  -- an accepted one
  accepted : (reply : ReplyForm) → Accepts l (Whole bytes) (catalogue_at s) (λ y. Does y (catalogue_at s) reply (catalogue_at t)) → UpholdsPiece l bytes reply s t → IsDue s v → IsDue t v
  accepted reply y p due = by (renews (catalogue_at s) y.command reply v) refl
    where
      u : has_cause Used (catalogue_at s) y.command ≡ false
      u = false_from_ne_true (has_cause Used (catalogue_at s) y.command) (λ e. y.none Used (record { command = y.command; depth = y.depth; spells = y.spells; cause = e }))

      by : (d : Bool) → renews (catalogue_at s) y.command reply v ≡ d → IsDue t v
      by true e = gives s t v a b y.command reply y.so (p.spelled y.command y.depth y.spells) e
      by false e = after_answer s t v a b due y.command reply u y.so (p.spelled y.command y.depth y.spells) e

  -- unless it may lose the list, the list stays due
  stays : (reply : ReplyForm) → Step l (catalogue_at s) (Whole bytes) reply (catalogue_at t) → UpholdsPiece l bytes reply s t → (SpellsSome l bytes (λ y. loses (catalogue_at s) y reply v) → ⊥) → IsDue s v → IsDue t v
  stays done y p n due = accepted done y p due
  stays (number j) y p n due = accepted (number j) y p due
  stays (truth b) y p n due = accepted (truth b) y p due
  stays (tuples h ts) y p n due = accepted (tuples h ts) y p due
  stays (stored h ts) y p n due = accepted (stored h ts) y p due
  stays (boxes h b) y p n due = accepted (boxes h b) y p due
  stays (steps plan) y p n due = accepted (steps plan) y p due
  stays (script lines) y p n due = accepted (script lines) y p due
  stays (apart es) y p n due = accepted (apart es) y p due
  stays (meeting i j) y p n due = accepted (meeting i j) y p due
  stays (refused q) y p n due = elim (spelling_decided l bytes) [
    | inl z ↦ after_refused s t v a b due z.0 q y.1 (p.spelled z.0 z.1 z.2)
        (false_from_ne_true (loses (catalogue_at s) z.0 (refused q) v) (λ e. n (record { command = z.0; depth = z.1; spells = z.2; passes = e })))
    | inr none ↦ same_lists s t v a b due y.1 (p.other none)
  ]

  -- one that has the list made
  renewed : (reply : ReplyForm) → Accepts l (Whole bytes) (catalogue_at s) (λ y. Does y (catalogue_at s) reply (catalogue_at t)) → UpholdsPiece l bytes reply s t
      → SpellsSome l bytes (λ y. renews (catalogue_at s) y reply v) → IsDue t v
  renewed reply y p r = gives s t v a b y.command reply y.so (p.spelled y.command y.depth y.spells)
      (ap (λ z. renews (catalogue_at s) z reply v) (one_command l bytes y.command r.command y.depth r.depth y.spells r.spells).0 ∙ r.passes)

  made : (reply : ReplyForm) → Step l (catalogue_at s) (Whole bytes) reply (catalogue_at t) → UpholdsPiece l bytes reply s t → SpellsSome l bytes (λ y. renews (catalogue_at s) y reply v) → IsDue t v
  made done y p r = renewed done y p r
  made (number j) y p r = renewed (number j) y p r
  made (truth b) y p r = renewed (truth b) y p r
  made (tuples h ts) y p r = renewed (tuples h ts) y p r
  made (stored h ts) y p r = renewed (stored h ts) y p r
  made (boxes h b) y p r = renewed (boxes h b) y p r
  made (steps plan) y p r = renewed (steps plan) y p r
  made (script lines) y p r = renewed (script lines) y p r
  made (apart es) y p r = renewed (apart es) y p r
  made (meeting i j) y p r = renewed (meeting i j) y p r
  made (refused q) y p r = absurd (no_refusal (catalogue_at s) r.command q v r.passes)

-- of any piece: a long one and a cut one change nothing
piece_stays : (l : Language) (s t : State) (p : Piece) (reply : ReplyForm) (v : List ℕ) → IsSound s → IsSound t → StepsPiece p l (catalogue_at s) reply (catalogue_at t) → UpholdsStatement p l reply s t
    → (PieceSpells l p (λ y. loses (catalogue_at s) y reply v) → ⊥) → IsDue s v → IsDue t v
piece_stays l s t (piece.Whole bytes) reply v a b y p n due = stays l s t bytes.now v a b reply y p n due
piece_stays l s t piece.Long reply v a b y p n due = same_lists s t v a b due y.1 p
piece_stays l s t piece.Cut reply v a b y p n due = same_lists s t v a b due y.1 p

piece_made : (l : Language) (s t : State) (p : Piece) (reply : ReplyForm) (v : List ℕ) → IsSound s → IsSound t → StepsPiece p l (catalogue_at s) reply (catalogue_at t) → UpholdsStatement p l reply s t
    → PieceSpells l p (λ y. renews (catalogue_at s) y reply v) → IsDue t v
piece_made l s t (piece.Whole bytes) reply v a b y p r = made l s t bytes.now v a b reply y p r
piece_made l s t piece.Long reply v a b y p r = absurd r
piece_made l s t piece.Cut reply v a b y p r = absurd r

-- ---- statements one after another

mutual
  -- where the list is due, it is held in the end or lost on the way
  if_due : (xs : List Turn) (l : Language) (s : State) (v : List ℕ) → IsSound s → AreTurns l s xs → IsDue s v → is_kept (last_state s xs) v ≡ true → IsTightView (catalogue_at (last_state s xs)) v
      → held_under (last_state s xs).held v ≡ None → IsLost l s xs v
  if_due [] l s v a k due m i e = absurd (true≢false (sym (due m i) ∙ ap is_some e))
  if_due (x ∷ xs) l s v a k due m i e = elim (piece_decided l x.piece (λ y. loses (catalogue_at s) y x.reply v)) [
    | inl y ↦ elim (if_none xs x.next x.left v k.0.sound k.1 m i e) [ inl n ↦ inl (y, n) | inr n ↦ inr n ]
    | inr n ↦ inr (if_due xs x.next x.left v k.0.sound k.1 (piece_stays l s x.left x.piece x.reply v a k.0.sound k.0.step k.0.upholds n due) m i e)
  ]

  -- and else no statement had it made since, or one did and it was lost after that
  if_none : (xs : List Turn) (l : Language) (s : State) (v : List ℕ) → IsSound s → AreTurns l s xs → is_kept (last_state s xs) v ≡ true → IsTightView (catalogue_at (last_state s xs)) v
      → held_under (last_state s xs).held v ≡ None → NoneRenews l s xs v ⊎ IsLost l s xs v
  if_none [] l s v a k m i e = inl tt
  if_none (x ∷ xs) l s v a k m i e = elim (piece_decided l x.piece (λ y. renews (catalogue_at s) y x.reply v)) [
    | inl y ↦ inr (inr (if_due xs x.next x.left v k.0.sound k.1 (piece_made l s x.left x.piece x.reply v a k.0.sound k.0.step k.0.upholds y) m i e))
    | inr n ↦ elim (if_none xs x.next x.left v k.0.sound k.1 m i e) [ inl y ↦ inl (n, y) | inr y ↦ inr (inr y) ]
  ]

-- no list is due of a view that isn't kept
pub lost_lists : (language : Language) (s : State) (turns : List Turn) (v : List ℕ) → IsSound s → AreTurns language s turns → is_kept s v ≡ false
    → is_kept (last_state s turns) v ≡ true → IsTightView (catalogue_at (last_state s turns)) v → held_under (last_state s turns).held v ≡ None → IsLost language s turns v
lost_lists language s turns v a k unmarked m i e = if_due turns language s v a k (λ j h. absurd (true≢false (sym j ∙ unmarked))) m i e
