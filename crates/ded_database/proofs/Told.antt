-- The tuple of a number, and the delete that takes it.
use Rattle.std.proofs.Common.{◌≡◌, ℕ, ◌<◌, arith, cond, true, false, List, [], ◌∷◌, ◌++◌, Some, refl, sym, ap, ◌∙◌, subst}
use Rattle.std.specs.Prelude.{IfSome, Option, None}
use Rattle.std.specs.Option.{option_map}
use Rattle.std.specs.BTreeMap.{is_at}
use Rattle.std.specs.Map.{lookup}
use Rattle.std.specs.Ordering.{nat_cmp, is_eq}
use Rattle.std.specs.Cmp.{nat_cmp_is}
use Rattle.std.specs.declared.cmp.Ordering.TheVariants.{Equal, Greater}
use Rattle.std.proofs.lemmas.Option.{same_Some}
use Rattle.ded_model.specs.declared.name.Column.{Column}
use Rattle.ded_model.specs.Row.{Atom}
use Rattle.ded_model.specs.Catalogue.{Entry, relation, Catalogue}
use Rattle.ded_model.specs.Entries.{entry_of, relation_in}
use Rattle.ded_model.specs.Known.{KnownNames, AreStored, AreEntriesOver, IsWellFormed, with_known}
use Rattle.ded_views.proofs.Placing.{none_known}
use Rattle.ded_views.proofs.Changing.{entry_there}
use Rattle.ded_sorts.specs.Changes.{Deletes}
use Rattle.ded_database.specs.Changes.{deleted_in, IsInsert, IsChange, DeletesTuple, IsToldDelete}
use Rattle.ded_database.specs.declared.change.TupleStep.{TupleStep}

-- numbers differ
at_self : (k : ℕ) → is_at (nat_cmp k) k ≡ true
at_self k = ap is_eq (sym (nat_cmp_is k k Equal refl))

at_below : (j k : ℕ) → j < k → is_at (nat_cmp k) j ≡ false
at_below j k h = ap is_eq (sym (nat_cmp_is k j Greater h))

-- a number is above those of the tuples before it
last_above : (h : List Column) (i m : ℕ) (before after : List (ℕ × List Atom)) (k : ℕ) (t : List Atom) → AreStored h i m (before ++ (k, t) ∷ after) → m < k
last_above h i m [] after k t s = s.0
last_above h i m (x ∷ before) after k t s = let a = s.0 in let b = last_above h i x.0 before after k t s.4 in omega (arith, a, b)

-- so the tuple is found under it
found_at : (h : List Column) (i m : ℕ) (before after : List (ℕ × List Atom)) (k : ℕ) (t : List Atom) → AreStored h i m (before ++ (k, t) ∷ after) → lookup (is_at (nat_cmp k)) (before ++ (k, t) ∷ after) ≡ Some t
found_at h i m [] after k t s = ap (λ b. cond b (Some t) (lookup (is_at (nat_cmp k)) after)) (at_self k)
found_at h i m (x ∷ before) after k t s =
    ap (λ b. cond b (Some x.1) (lookup (is_at (nat_cmp k)) (before ++ (k, t) ∷ after))) (at_below x.0 k (last_above h i x.0 before after k t s.4)) ∙ found_at h i x.0 before after k t s.4

stored_at : (limit : ℕ) (K : KnownNames) (before after : List Entry) (n : List ℕ) (h : List Column) (i : ℕ) (ts : List (ℕ × List Atom)) → AreEntriesOver limit K (before ++ relation n h i ts ∷ after) → AreStored h i 0 ts
stored_at limit K [] after n h i ts v = v.1.0
stored_at limit K (b ∷ before) after n h i ts v = stored_at limit (with_known K b) before after n h i ts v.2

pub told : (c : Catalogue) (n : List ℕ) (k : ℕ) (t : List Atom) (es : List (ℕ × List Atom)) → IsWellFormed c → Some es ≡ relation_in (entry_of c.entries n) → Some t ≡ lookup (is_at (nat_cmp k)) es → DeletesTuple c n k t
told c n k t es w there found d v x = record {
  formed_before = w;
  formed_after = v;
  number = k;
  deletes = x;
  tuple = same_Some x.tuple t (sym (found_at x.columns x.inserts 0 x.before x.after k x.tuple stored) ∙ ap (lookup (is_at (nat_cmp k))) (sym same) ∙ sym found);
}
  where
    stored : AreStored x.columns x.inserts 0 (x.before ++ (k, x.tuple) ∷ x.after)
    stored = stored_at c.limit none_known x.changes.before x.changes.after n x.columns x.inserts _ (subst (AreEntriesOver c.limit none_known) x.changes.was w)

    same : es ≡ x.before ++ (k, x.tuple) ∷ x.after
    same = same_Some es _ (there ∙ ap relation_in (entry_there c x.changes.before x.changes.after (relation n x.columns x.inserts (x.before ++ (k, x.tuple) ∷ x.after)) n w x.changes.was refl))

-- so is each that is found
pub told_all : {B : Type 0} (f : B → List Atom) (c : Catalogue) (n : List ℕ) (k : ℕ) (es : List (ℕ × List Atom)) (o : Option B) → IsWellFormed c → Some es ≡ relation_in (entry_of c.entries n) → option_map f o ≡ lookup (is_at (nat_cmp k)) es
    → IfSome o (λ b. DeletesTuple c n k (f b))
told_all f c n k es None w there found = tt
told_all f c n k es (Some b) w there found = told c n k (f b) es w there found

-- the delete of a snapshot takes it
pub told_delete : {B : Type 0} (f : B → List Atom) (c d : Catalogue) (n : List ℕ) (k : ℕ) (o : Option B) → IfSome o (λ b. DeletesTuple c n k (f b)) → IsWellFormed d → Deletes c d n k → IsToldDelete c d n (option_map f o)
told_delete f c d n k None h v x = tt
told_delete f c d n k (Some b) h v x = h d v x

-- a step is a delete of the tuple that it tells
pub step_told : (c d : Catalogue) (n : List ℕ) (s t : TupleStep) → s ≡ t → IsToldDelete c d n (deleted_in s) → IsToldDelete c d n (deleted_in t)
step_told c d n s t e h = subst (λ (r : TupleStep). IsToldDelete c d n (deleted_in r)) e h

-- and an insert of the tuple that comes
pub step_inserts : (c d : Catalogue) (n : List ℕ) (t : List Atom) (o : Option (List Atom)) → o ≡ Some t → IsChange c d n o → IsInsert c d n t
step_inserts c d n t o e x =
    let y = subst (IsChange c d n) e x in
    record { formed_before = y.formed_before; formed_after = y.formed_after; number = y.changes.0; inserts = y.changes.1 }
