-- What the calls that change a catalogue owe, over the table that it has.
use Rattle.std.proofs.Common.{◌≡◌, ℕ, ◌+◌, ◌≤◌, ◌==◌, nat_le, nat_lt, ◌||◌, Bool, true, false, List, [], ◌∷◌, ◌++◌, length, Option, None, Some, is_some, refl, sym, ap, ◌∙◌, subst, true≢false, bytes_eq, arith}
use Rattle.std.specs.Prelude.{if◌then◌else◌}
use Rattle.std.specs.List.{list_any}
use Rattle.std.specs.Map.{lookup, set_value, remove_entry}
use Rattle.std.specs.Option.{option_map}
use Rattle.std.proofs.lemmas.Bool.Decides.{nat_tests}
use Rattle.std.proofs.lemmas.List.{length-append}
use Rattle.std.proofs.lemmas.Option.{none-some}
use Rattle.ded_model.specs.declared.command.Refusal.{Refusal}
use Rattle.ded_model.specs.declared.command.Refusal.TheVariants.{Full, Spent}
use Rattle.ded_model.specs.declared.name.Column.{Column}
use Rattle.ded_model.specs.Catalogue as entry
use Rattle.ded_model.specs.Form.{Form, FormAtom, compare, member, form}
use Rattle.ded_model.specs.Goal.{goal_form}
use Rattle.ded_model.specs.Known.{KnownNames, IsNewName, AreStored, IsTupleOver, IsEntryOver, IsAccepted, columns_with, entry_known, with_known, known_of, level_of, level_with, atom_level}
use Rattle.ded_model.specs.Logic.{greatest, some_atom}
use Rattle.ded_model.specs.LongRows.{is_long_atom}
use Rattle.ded_model.specs.Made.{base}
use Rattle.ded_model.specs.Plain.{IsPlain}
use Rattle.ded_model.specs.Row.{Atom}
use Rattle.ded_model.specs.Slotted.{goal_of}
use Rattle.ded_model.specs.Width.{tuple_length}
use Rattle.ded_sorts.specs.Causes.{insert_refusal, is_relation_with}
use Rattle.ded_sorts.specs.Changes.{ChangesEntry, DropsEntry, Inserts, Deletes}
use Rattle.ded_model.specs.Entries.{entry_of, stored_in, inserts_in, tuples_in, known, columns_in, entry_uses}
use Rattle.ded_relation.specs.Hashing.{keyed}
use Rattle.ded_relation.specs.declared.relation.Relation.{Relation}
use Rattle.ded_catalog.specs.declared.stored.View.{View}
use Rattle.ded_catalog.specs.declared.stored.Stored.{Stored}
use Rattle.ded_catalog.specs.declared.stored.Stored.TheVariants as stored
use Rattle.ded_catalog.specs.Changed.{ChangesRelation}
use Rattle.ded_catalog.specs.Conditions.{IsRight, AreKept, IsKept}
use Rattle.ded_catalog.specs.Mentions.{AreMentions}
use Rattle.ded_catalog.specs.State.{Table, entry_form, entry_forms, catalogue_of, stored_known, known_with, relation_at, level_at, atom_level_in}
use Rattle.ded_relation.specs.Tuples.{AreUpTo, refusal_of, IsSame, Pushes, Removes}
use Rattle.ded_catalog.proofs.Keeping.{kept-add, kept-change, changes, kept-drop, drops}
use Rattle.ded_catalog.proofs.Lookups.{Split, split, forms-append, entry_of-lookup, known_of-lookup, absent_unknown, present_known}
use Rattle.ded_relation.proofs.Numbers.{stored-push, stored-remove, stored-upto, length-remove}
use Rattle.ded_model.proofs.Bools.{or_false_left}

-- ---- names

-- a relation that is known is in the table
pub relation_known : (o : Option Stored) → is_relation_with (known_with o None) ≡ true → is_some (relation_at o) ≡ true
relation_known None h = h
relation_known (Some (stored.Relation r)) h = refl
relation_known (Some (stored.View v)) h = h

-- what stands there
pub present : (o : Option Stored) → is_some o ≡ true → (s : Stored) × (o ≡ Some s)
present None h = absurd (true≢false (sym h))
present (Some s) h = (s, refl)

-- the level that a name has
level_at-known : (o : Option Stored) → level_with (known_with o None) ≡ level_at o
level_at-known None = refl
level_at-known (Some (stored.Relation r)) = refl
level_at-known (Some (stored.View v)) = refl

-- ---- relations

-- stored tuples are so in a relation that is the same
pub same_stored : (limit : ℕ) (h k : List Column) (m n : ℕ) (ts us : List (ℕ × List Atom)) → k ≡ h → n ≡ m → us ≡ ts
    → AreStored h m 0 ts × (length ts ≤ limit) → AreStored k n 0 us × (length us ≤ limit)
same_stored limit h k m n ts us p q r s =
    subst (λ x. AreStored x n 0 us × (length us ≤ limit)) (sym p) (subst (λ x. AreStored h x 0 us × (length us ≤ limit)) (sym q) (subst (λ x. AreStored h m 0 x × (length x ≤ limit)) (sym r) s))

-- the same is known of a relation with the heading
pub same_heading : (n : List ℕ) (r s : Relation) → s.heading ≡ r.heading → (K : KnownNames) → entry_known K (entry_form n (stored.Relation r)) ≡ entry_known K (entry_form n (stored.Relation s))
same_heading n r s h K = λ i. record { is_view = false; columns = sym h i; level = 0 }

-- an entry of the parts of a relation
pub same_entry : (n : List ℕ) (r : Relation) (h : List Column) (m : ℕ) (ts : List (ℕ × List Atom)) → r.heading ≡ h → r.inserts ≡ m → r.tuples.entries ≡ ts → entry_form n (stored.Relation r) ≡ entry.relation n h m ts
same_entry n r h m ts p q s = λ i. entry.relation n (p i) (q i) (s i)

-- a relation that takes a tuple has room
pub has_room : (limit len : ℕ) (rest : Option Refusal) → (if nat_le limit len then Some Full else rest) ≡ None → len + 1 ≤ limit
has_room limit len rest h = by (nat_le limit len) refl
  where
    by : (b : Bool) → nat_le limit len ≡ b → len + 1 ≤ limit
    by true b = absurd (none-some Full (sym h ∙ ap (λ c. if c then Some Full else rest) b))
    by false b = grind (arith, nat_tests)

pub over-pushed : (limit : ℕ) (old new : Relation) (t : List Atom) (k : ℕ) → Pushes old new t k → refusal_of limit old ≡ None → IsTupleOver old.heading t → tuple_length t ≤ 63
    → AreStored old.heading old.inserts 0 old.tuples.entries × (length old.tuples.entries ≤ limit) → AreStored new.heading new.inserts 0 new.tuples.entries × (length new.tuples.entries ≤ limit)
over-pushed limit old new t k p room over short s =
    same_stored limit old.heading new.heading (old.inserts + 1) new.inserts (old.tuples.entries ++ (old.inserts + 1, t) ∷ []) new.tuples.entries
    p.heading (p.inserts ∙ p.number) (p.tuples ∙ ap (λ x. old.tuples.entries ++ (x, t) ∷ []) p.number) (
      stored-push old.heading old.inserts 0 old.tuples.entries t (omega arith) s.0 over short,
      omega (arith, length-append old.tuples.entries ((old.inserts + 1, t) ∷ []), has_room limit (length old.tuples.entries) (if nat_le 4294967295 old.inserts then Some Spent else None) room),
    )

pub over-removed : (limit : ℕ) (old new : Relation) (k : ℕ) → Removes old new k
    → AreStored old.heading old.inserts 0 old.tuples.entries × (length old.tuples.entries ≤ limit) → AreStored new.heading new.inserts 0 new.tuples.entries × (length new.tuples.entries ≤ limit)
over-removed limit old new k p s =
    let was = same_stored limit old.heading old.heading old.inserts old.inserts old.tuples.entries (p.before ++ (k, p.tuple) ∷ p.after) refl refl (sym p.was) s in
    same_stored limit old.heading new.heading old.inserts new.inserts (p.before ++ p.after) new.tuples.entries p.heading p.inserts p.is (
      stored-remove old.heading old.inserts 0 p.before p.after (k, p.tuple) was.0,
      omega (arith, was.1, length-remove p.before p.after (k, p.tuple)),
    )

pub over-same : (limit : ℕ) (old new : Relation) → IsSame old new
    → AreStored old.heading old.inserts 0 old.tuples.entries × (length old.tuples.entries ≤ limit) → AreStored new.heading new.inserts 0 new.tuples.entries × (length new.tuples.entries ≤ limit)
over-same limit old new p s = same_stored limit old.heading new.heading old.inserts new.inserts old.tuples.entries new.tuples.entries p.heading p.inserts p.tuples s

-- what stands at a place is well formed
pub at-kept : (limit : ℕ) (n : List ℕ) (s : Stored) (before after : List (List ℕ × Stored)) (K : KnownNames) → AreKept limit K (before ++ (n, s) ∷ after) → (J : KnownNames) × IsEntryOver limit J (entry_form n s) × IsRight J s
at-kept limit n s [] after K h = (K, h.1, h.2)
at-kept limit n s (e ∷ before) after K h = at-kept limit n s before after (with_known K (entry_form e.0 e.1)) h.3

-- a heading that isn't too long for a formula
at_most : (h : List Column) (b : Bool) → (nat_lt 16 (length h) || b) ≡ false → length h ≤ 16
at_most h b e = within (length h) (or_false_left (nat_lt 16 (length h)) b e)
  where
    within : (m : ℕ) → nat_lt 16 m ≡ false → m ≤ 16
    within m e = grind (arith, nat_tests)

-- what stands there has at most 16 columns
few-right : (limit : ℕ) (n : List ℕ) (s : Stored) (K : KnownNames) → IsEntryOver limit K (entry_form n s) → IsRight K s → length (columns_with (Some (stored_known s))) ≤ 16
few-right limit n (stored.Relation r) K over right = right
few-right limit n (stored.View v) K over right = at_most v.heading _ over.0.few

module _ (limit : ℕ) (es : List (List ℕ × Stored)) (n : List ℕ) (kept : IsKept limit es) where
  abbrev t : Table
  t = record { limit = limit; names = es; hashing = keyed (0, 0) }

  -- what is known of the name
  pub is_known : known (catalogue_of t) n ≡ known_with (lookup (bytes_eq n) es) None
  is_known = known_of-lookup limit es n kept

  -- its columns are at most 16
  pub few_known : (o : Option Stored) → lookup (bytes_eq n) es ≡ o → length (columns_with (known_with o None)) ≤ 16
  few_known None found = omega arith
  few_known (Some s) found =
      let p = split n s es found in
      let at = at-kept limit n s p.before p.after (λ m. None) (subst (AreKept limit (λ m. None)) p.was kept.entries) in
      few-right limit n s at.0 at.1 at.2

  -- a new name isn't in the table
  pub new_name : known (catalogue_of t) n ≡ None → lookup (bytes_eq n) es ≡ None
  new_name h = absent_unknown (lookup (bytes_eq n) es) (sym is_known ∙ h)

  -- a relation is in the table
  pub relation_there : is_relation_with (known (catalogue_of t) n) ≡ true → is_some (relation_at (lookup (bytes_eq n) es)) ≡ true
  relation_there h = relation_known (lookup (bytes_eq n) es) (ap is_relation_with (sym is_known) ∙ h)

  -- so is a name that is defined
  pub name_there : is_some (known (catalogue_of t) n) ≡ true → (s : Stored) × (lookup (bytes_eq n) es ≡ Some s)
  name_there h = present (lookup (bytes_eq n) es) (present_known (lookup (bytes_eq n) es) (ap is_some (sym is_known) ∙ h))

  -- ---- definitions

  pub kept-defined : (r : Relation) → r.tuples.entries ≡ [] → length r.heading ≤ 16 → IsNewName (known (catalogue_of t)) n → IsKept limit (es ++ (n, stored.Relation r) ∷ [])
  kept-defined r e few h = kept-add limit es n (stored.Relation r) kept h (same_stored limit r.heading r.heading r.inserts r.inserts [] r.tuples.entries refl refl e (tt, omega arith)) few

  pub kept-viewed : (v : View) → IsNewName (known (catalogue_of t)) n → IsAccepted (known (catalogue_of t)) v.heading (form v.formula)
      → level_of (known (catalogue_of t)) (form v.formula) ≤ 16 → v.level ≡ level_of (known (catalogue_of t)) (form v.formula) → goal_form v.goal ≡ goal_of v.heading (form v.formula)
      → IsPlain (form v.formula) → some_atom is_long_atom (form v.formula) ≡ false → AreMentions v.mentions.items (form v.formula) → IsKept limit (es ++ (n, stored.View v) ∷ [])
  kept-viewed v h accepted low level goal plain short names = kept-add limit es n (stored.View v) kept h (accepted, low) (level, goal, plain, short, names)

  -- ---- a relation

  module _ (old : Relation) (found : lookup (bytes_eq n) es ≡ Some (stored.Relation old)) where
    -- its columns
    pub columns_there : columns_in (catalogue_of t) n ≡ old.heading
    columns_there = ap columns_with (is_known ∙ ap (λ o. known_with o None) found)

    -- its entry
    pub entry_there : entry_of (entry_forms es) n ≡ Some (entry.relation n old.heading old.inserts old.tuples.entries)
    entry_there = entry_of-lookup n es ∙ ap (option_map (entry_form n)) found

    -- why it takes no tuple
    pub refusal_there : insert_refusal (catalogue_of t) n ≡ refusal_of limit old
    refusal_there = ap (λ e. if nat_le limit (length (stored_in e)) then Some Full else if nat_le 4294967295 (inserts_in e) then Some Spent else None) entry_there

    -- its tuples are stored ones
    pub stored_there : AreStored old.heading old.inserts 0 old.tuples.entries × (length old.tuples.entries ≤ limit)
    stored_there =
        let s = split n (stored.Relation old) es found in
        let at = at-kept limit n (stored.Relation old) s.before s.after (λ m. None) (subst (AreKept limit (λ m. None)) s.was kept.entries) in
        at.1

    -- so no number is above its count of inserts
    pub upto_there : AreUpTo old.inserts old.tuples.entries
    upto_there = stored-upto old.heading old.inserts 0 old.tuples.entries stored_there.0

    -- the relation in its own place
    pub itself : (Fact : Relation → Relation → Type 0) → Fact old old → ChangesRelation es es n Fact
    itself Fact so =
        let s = split n (stored.Relation old) es found in
        record { old = old; new = old; was = found; is = s.was ∙ sym (s.set (stored.Relation old)); so = so }

    module _ (fs : List (List ℕ × Stored)) (new : Relation) (is : fs ≡ set_value (bytes_eq n) es (stored.Relation new)) where
      abbrev u : Table
      u = record { limit = limit; names = fs; hashing = keyed (0, 0) }

      s : Split es n (stored.Relation old)
      s = split n (stored.Relation old) es found

      now : fs ≡ s.before ++ (n, stored.Relation new) ∷ s.after
      now = is ∙ s.set (stored.Relation new)

      kept-there : new.heading ≡ old.heading
          → (AreStored old.heading old.inserts 0 old.tuples.entries × (length old.tuples.entries ≤ limit) → AreStored new.heading new.inserts 0 new.tuples.entries × (length new.tuples.entries ≤ limit))
          → IsKept limit fs
      kept-there h over = subst (IsKept limit) (sym now)
          (kept-change limit n (stored.Relation old) (stored.Relation new) (same_heading n old new h) (λ K. over) (λ K few. subst (λ (k : List Column). length k ≤ 16) (sym h) few) s.before s.after (subst (IsKept limit) s.was kept))

      changed-there : ChangesEntry (catalogue_of t) (catalogue_of u) n (entry_form n (stored.Relation old)) (entry_form n (stored.Relation new))
      changed-there = changes t u n (stored.Relation old) (stored.Relation new) s.before s.after refl s.was now

      -- after an insert
      pub kept-pushed : (x : List Atom) (k : ℕ) → Pushes old new x k → refusal_of limit old ≡ None → IsTupleOver (columns_in (catalogue_of t) n) x → tuple_length x ≤ 63 → IsKept limit fs
      kept-pushed x k p room over short = kept-there p.heading (over-pushed limit old new x k p room (subst (λ h. IsTupleOver h x) columns_there over) short)

      pub inserts : (x : List Atom) (k : ℕ) → Pushes old new x k → Inserts (catalogue_of t) (catalogue_of u) n x k
      inserts x k p = record {
        columns = old.heading;
        inserts = old.inserts;
        present = old.tuples.entries;
        number = p.number;
        changes = subst (ChangesEntry (catalogue_of t) (catalogue_of u) n (entry_form n (stored.Relation old))) (same_entry n new old.heading k (old.tuples.entries ++ (k, x) ∷ []) p.heading p.inserts p.tuples) changed-there;
      }

      -- after a refused one
      pub kept-same : IsSame old new → IsKept limit fs
      kept-same p = kept-there p.heading (over-same limit old new p)

      pub same_catalogue : IsSame old new → catalogue_of u ≡ catalogue_of t
      same_catalogue p =
          let entry_same = same_entry n new old.heading old.inserts old.tuples.entries p.heading p.inserts p.tuples in
          ap (λ l. record { limit = limit; entries = l }) (
          ap entry_forms now
          ∙ forms-append s.before ((n, stored.Relation new) ∷ s.after)
          ∙ ap (λ e. entry_forms s.before ++ e ∷ entry_forms s.after) entry_same
          ∙ sym (forms-append s.before ((n, stored.Relation old) ∷ s.after))
          ∙ ap entry_forms (sym s.was)
          )

      -- after a delete
      pub kept-removed : (k : ℕ) → Removes old new k → IsKept limit fs
      kept-removed k p = kept-there p.heading (over-removed limit old new k p)

      pub deletes : (k : ℕ) → Removes old new k → Deletes (catalogue_of t) (catalogue_of u) n k
      deletes k p = record {
        columns = old.heading;
        inserts = old.inserts;
        before = p.before;
        tuple = p.tuple;
        after = p.after;
        changes = subst (λ e. ChangesEntry (catalogue_of t) (catalogue_of u) n e (entry.relation n old.heading old.inserts (p.before ++ p.after)))
            (same_entry n old old.heading old.inserts (p.before ++ (k, p.tuple) ∷ p.after) refl refl p.was)
            (subst (ChangesEntry (catalogue_of t) (catalogue_of u) n (entry_form n (stored.Relation old)))
            (same_entry n new old.heading old.inserts (p.before ++ p.after) p.heading p.inserts p.is) changed-there);
      }

  -- an insert is into a relation, whose numbers are up to its count of inserts
  pub numbers_there : is_relation_with (known (catalogue_of t) n) ≡ true → ChangesRelation es es n (λ old new. AreUpTo old.inserts old.tuples.entries)
  numbers_there h = by (lookup (bytes_eq n) es) refl
    where
      by : (o : Option Stored) → lookup (bytes_eq n) es ≡ o → ChangesRelation es es n (λ old new. AreUpTo old.inserts old.tuples.entries)
      by None e = absurd (true≢false (sym (relation_there h) ∙ ap (λ o. is_some (relation_at o)) e))
      by (Some (stored.View v)) e = absurd (true≢false (sym (relation_there h) ∙ ap (λ o. is_some (relation_at o)) e))
      by (Some (stored.Relation r)) e = itself r e _ (upto_there r e)

  -- a tuple that is there is one of a relation
  pub tuple_there : (k : ℕ) → list_any (λ x. x.0 == k) (tuples_in (catalogue_of t) n) ≡ true
      → ChangesRelation es es n (λ old new. AreUpTo old.inserts old.tuples.entries × (list_any (λ x. x.0 == k) old.tuples.entries ≡ true))
  tuple_there k h = by (lookup (bytes_eq n) es) refl
    where
      by : (o : Option Stored) → lookup (bytes_eq n) es ≡ o → ChangesRelation es es n (λ old new. AreUpTo old.inserts old.tuples.entries × (list_any (λ x. x.0 == k) old.tuples.entries ≡ true))
      by None e = absurd (true≢false (sym h ∙ ap (λ x. list_any (λ y. y.0 == k) (stored_in x)) (entry_of-lookup n es ∙ ap (option_map (entry_form n)) e)))
      by (Some (stored.View v)) e = absurd (true≢false (sym h ∙ ap (λ x. list_any (λ y. y.0 == k) (stored_in x)) (entry_of-lookup n es ∙ ap (option_map (entry_form n)) e)))
      by (Some (stored.Relation r)) e =
          itself r e _ (upto_there r e, ap (λ x. list_any (λ y. y.0 == k) (stored_in x)) (sym (entry_there r e)) ∙ h)

  -- ---- dropping

  module _ (st : Stored) (found : lookup (bytes_eq n) es ≡ Some st) (fs : List (List ℕ × Stored)) (is : fs ≡ remove_entry (bytes_eq n) es) where
    pub kept-taken : list_any (entry_uses n) (entry_forms es) ≡ false → IsKept limit fs
    kept-taken unused =
        let s = split n st es found in
        subst (IsKept limit) (sym (is ∙ s.removed))
        (kept-drop limit n st s.before s.after (subst (IsKept limit) s.was kept) (ap (λ l. list_any (entry_uses n) (entry_forms l)) (sym s.was) ∙ unused))

    pub drops-taken : DropsEntry (catalogue_of t) (catalogue_of (record { limit = limit; names = fs; hashing = keyed (0, 0) })) n
    drops-taken =
        let s = split n st es found in
        drops t (record { limit = limit; names = fs; hashing = keyed (0, 0) }) n st s.before s.after refl s.was (is ∙ s.removed)

module _ (limit : ℕ) (es : List (List ℕ × Stored)) (kept : IsKept limit es) where
  -- the level of a name
  atom_level_there : (a : FormAtom) → atom_level (known_of (entry_forms es)) a ≡ atom_level_in es a
  atom_level_there (compare l op r) = refl
  atom_level_there (member n ts) = ap level_with (known_of-lookup limit es (base n) kept) ∙ level_at-known (lookup (bytes_eq (base n)) es)

  -- of a view
  pub level_there : (f : Form) → greatest (atom_level_in es) f + 1 ≡ level_of (known_of (entry_forms es)) f
  level_there f =
      let same : greatest (atom_level_in es) f ≡ greatest (atom_level (known_of (entry_forms es))) f = ap (λ of_atom. greatest of_atom f) (λ i a. sym (atom_level_there a) i) in
      omega (arith, same)
