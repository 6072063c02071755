-- The whole index of a relation's tuples, after an insert, a refused one, a delete and a copy, and what it finds.
use Rattle.std.proofs.Common.{◌≡◌, ℕ, ◌≤◌, ◌==◌, nat_eq, true, false, List, [], ◌∷◌, ◌++◌, length, None, refl, sym, ap, ◌∙◌, subst, arith}
use Rattle.std.specs.BTreeMap.{is_at}
use Rattle.std.specs.BTreeSet.{BTreeSet}
use Rattle.std.specs.List.{Contains, list_any}
use Rattle.std.specs.List.Sorted.{IsPermutation, IsStrictlyIncreasing}
use Rattle.std.specs.Map.{lookup, remove_entry}
use Rattle.std.specs.Ordering.{nat_cmp}
use Rattle.ded_model.specs.declared.name.Column.{Column}
use Rattle.ded_model.specs.Row.{Atom, tuple_holds}
use Rattle.ded_model.proofs.Lists.{Every, Some, every-append}
use Rattle.ded_ranges.specs.declared.window.Window.{Window}
use Rattle.ded_hull.specs.declared.entry.ReachEntry.{ReachEntry}
use Rattle.ded_hull.specs.Entries.{IsComplete}
use Rattle.ded_ranges.specs.declared.reach.Range.{Range}
use Rattle.ded_hull.specs.Segments.{IsSegment, AreSegments}
use Rattle.ded_ranges.specs.Reaches.{AreOrdered}
use Rattle.ded_ranges.specs.Tuples.{IsReachOf}
use Rattle.ded_hull.proofs.Middles.{every_moved}
use Rattle.ded_relation.specs.declared.hashing.NameHashing.{NameHashing}
use Rattle.ded_relation.specs.declared.index.Index.{Index}
use Rattle.ded_relation.specs.declared.texts.Texts.{Texts}
use Rattle.ded_relation.specs.Relations.{IsEntryOf, Indexes, IsIndexOf, IsCopied, IsIndexed, IsUndone, IsPruned, Finds}
use Rattle.ded_relation.specs.Texts.{text_in, code, key, IsThere, Keeps, Grows}
use Rattle.ded_relation.proofs.Indexed.{IsFree, moved, longer, pushed, missed, taken_free}
use Rattle.ded_relation.proofs.Picked.{Misses}

-- ---- keys of texts

there_kept : (hs : NameHashing) (cs : List Column) (k : ℕ) (s r : BTreeSet ℕ) (t : ℕ × List Atom) → nat_eq t.0 k ≡ false → Keeps k s r → IsThere hs cs s t → IsThere hs cs r t
there_kept hs cs k s r t free keeps h = record { fits = h.fits; keys = λ i is. keeps (code hs i (text_in i t.1)) t.0 h.fits free (h.keys i is) }

texts_kept : (hs : NameHashing) (cs : List Column) (k : ℕ) (s r : BTreeSet ℕ) (ts : List (ℕ × List Atom)) → IsFree k ts → Keeps k s r → Every (IsThere hs cs s) ts → Every (IsThere hs cs r) ts
texts_kept hs cs k s r [] free keeps h = tt
texts_kept hs cs k s r (t ∷ ts) free keeps h = (there_kept hs cs k s r t free.0 keeps h.0, texts_kept hs cs k s r ts free.1 keeps h.1)

-- an index with other texts of the same hashing
with_texts : (cs : List Column) (x y : Index) (ts : List (ℕ × List Atom)) → y.texts.hashing ≡ x.texts.hashing → Every (IsThere x.texts.hashing cs y.texts.set) ts → Every (IsThere y.texts.hashing cs y.texts.set) ts
with_texts cs x y ts e h = subst (λ hs. Every (IsThere hs cs y.texts.set) ts) (sym e) h

-- ---- segments

-- in another order
same_segments : (old new : List ReachEntry) → IsPermutation old new → AreSegments old → AreSegments new
same_segments = every_moved IsSegment

-- with one more
more_segments : (old new : List ReachEntry) (t : ℕ × List Atom) (x : Indexes t old new) → IsSegment x.entry → AreSegments old → AreSegments new
more_segments old new t x is are = every_moved IsSegment (x.entry ∷ old) new x.list (is, are)

segment_of : (k : ℕ) (rs : List Range) → length rs ≡ 1 → AreOrdered rs → IsSegment (record { id = k; reach = rs })
segment_of k [] one ends = absurd (omega (arith, one))
segment_of k (r ∷ rs) one ends = record { one = one; ends = ends.0 }

-- ---- what is done

-- the keys of the tuple's texts, and its reach
pub indexed : (cs : List Column) (k : ℕ) (t : List Atom) (old new : Index) (rs : List Range) → IsReachOf rs (tuple_holds t) → length rs ≡ length cs → AreOrdered rs
    → IsPermutation (record { id = k; reach = rs } ∷ old.hulls.entries) new.hulls.entries → new.hulls.loose ≤ 32
    → new.texts.hashing ≡ old.texts.hashing → IsThere old.texts.hashing cs new.texts.set (k, t) → Grows old.texts.set new.texts.set → IsIndexed cs (k, t) old new
indexed cs k t old new rs reach wide ends list settled hashing there grows = record {
  reaches = record { entry = record { id = k; reach = rs }; is = (refl, reach); list = list };
  settled = settled;
  segment = λ one. segment_of k rs (wide ∙ one) ends;
  hashing = hashing;
  there = there;
  keeps = λ c i fits apart h. grows (key c i) h;
}

pub index_pushed : (cs : List Column) (old new : Index) (k : ℕ) (t : List Atom) (ts us : List (ℕ × List Atom)) → IsFree k ts → IsIndexOf cs old ts → IsIndexed cs (k, t) old new → us ≡ ts ++ (k, t) ∷ [] → IsIndexOf cs new us
index_pushed cs old new k t ts us free h x e = record {
  reaches = pushed old.hulls.entries new.hulls.entries ts us (k, t) h.reaches x.reaches e;
  segments = λ one. more_segments old.hulls.entries new.hulls.entries (k, t) x.reaches (x.segment one) (h.segments one);
  texts = with_texts cs old new us x.hashing (subst (Every (IsThere old.texts.hashing cs new.texts.set)) (sym e) (every-append (IsThere old.texts.hashing cs new.texts.set) ts ((k, t) ∷ []) (texts_kept old.texts.hashing cs k old.texts.set new.texts.set ts free x.keeps h.texts) (x.there, tt)));
}

pub index_undone : (cs : List Column) (old new : Index) (k : ℕ) (ts : List (ℕ × List Atom)) → IsFree k ts → IsIndexOf cs old ts → IsUndone k old new → IsIndexOf cs new ts
index_undone cs old new k ts free h x = record {
  reaches = moved old.hulls.entries new.hulls.entries ts x.reaches h.reaches;
  segments = λ one. same_segments old.hulls.entries new.hulls.entries x.reaches (h.segments one);
  texts = with_texts cs old new ts x.hashing (texts_kept old.texts.hashing cs k old.texts.set new.texts.set ts free x.keeps h.texts);
}

-- the insert that found no memory for the tuple
pub index_taken_back : (cs : List Column) (old mid new : Index) (k : ℕ) (t : List Atom) (ts us : List (ℕ × List Atom)) → IsFree k ts → us ≡ ts → IsIndexOf cs old ts → IsIndexed cs (k, t) old mid → IsUndone k mid new → IsIndexOf cs new us
index_taken_back cs old mid new k t ts us free e h x u = subst (IsIndexOf cs new) (sym e) (index_undone cs mid new k ts free (record {
  reaches = longer old.hulls.entries mid.hulls.entries ts (k, t) h.reaches x.reaches;
  segments = λ one. more_segments old.hulls.entries mid.hulls.entries (k, t) x.reaches (x.segment one) (h.segments one);
  texts = with_texts cs old mid ts x.hashing (texts_kept old.texts.hashing cs k old.texts.set mid.texts.set ts free x.keeps h.texts);
}) u)

-- what a map does that gives up the number
pub index_taken_out : (cs : List Column) (old new : Index) (k : ℕ) (ts us : List (ℕ × List Atom)) → list_any (λ t. t.0 == k) ts ≡ true → us ≡ remove_entry (is_at (nat_cmp k)) ts → lookup (is_at (nat_cmp k)) us ≡ None → IsIndexOf cs old ts → IsUndone k old new → IsIndexOf cs new us
index_taken_out cs old new k ts us present is gone h u =
    let free = taken_free k ts us present is gone in
    index_undone cs old new k us free.0 (record { reaches = free.1 (λ t. Some (IsEntryOf t) old.hulls.entries) h.reaches; segments = h.segments; texts = free.1 (IsThere old.texts.hashing cs old.texts.set) h.texts }) u

-- what had the number of no tuple is out of the reaches
pub index_pruned : (cs : List Column) (old new : Index) (ts : List (ℕ × List Atom)) → IsIndexOf cs old ts → IsPruned ts old new → IsIndexOf cs new ts
index_pruned cs old new ts h x = record { reaches = x.reaches h.reaches; segments = λ one. x.segments (h.segments one); texts = subst (λ (k : Texts). Every (IsThere k.hashing cs k.set) ts) (sym x.texts) h.texts }

pub index_copied : (cs : List Column) (old new : Index) (ts us : List (ℕ × List Atom)) → us ≡ ts → IsCopied old new → IsIndexOf cs old ts → IsIndexOf cs new us
index_copied cs old new ts us e x h = subst (IsIndexOf cs new) (sym e) (record {
  reaches = moved old.hulls.entries new.hulls.entries ts x.reaches h.reaches;
  segments = λ one. same_segments old.hulls.entries new.hulls.entries x.reaches (h.segments one);
  texts = with_texts cs old new ts x.hashing (each ts h.texts);
})
  where
    one : (t : ℕ × List Atom) → IsThere old.texts.hashing cs old.texts.set t → IsThere old.texts.hashing cs new.texts.set t
    one t h = record { fits = h.fits; keys = λ i is. ap (λ qs. list_any (is_at (nat_cmp (key (code old.texts.hashing i (text_in i t.1)) t.0))) qs) x.set ∙ h.keys i is }

    each : (ts : List (ℕ × List Atom)) → Every (IsThere old.texts.hashing cs old.texts.set) ts → Every (IsThere old.texts.hashing cs new.texts.set) ts
    each [] h = tt
    each (t ∷ ts) h = (one t h.0, each ts h.1)

-- ---- what is found

pub finds_reaches : (w : Window) (cs : List Column) (x : Index) (ids : List ℕ) → IsStrictlyIncreasing ids → IsComplete w.limits.items x.hulls.entries ids → Finds w cs x ids
finds_reaches w cs x ids up complete = record { ascending = up; missed = λ t s there none. missed w x.hulls.entries ids t complete s none }

pub index_misses : (w : Window) (cs : List Column) (x : Index) (ids : List ℕ) (ts : List (ℕ × List Atom)) → Finds w cs x ids → IsIndexOf cs x ts → Misses w (Contains ids) ts
index_misses w cs x ids ts f h = each ts h.reaches h.texts
  where
    each : (ts : List (ℕ × List Atom)) → Every (λ t. Some (IsEntryOf t) x.hulls.entries) ts → Every (IsThere x.texts.hashing cs x.texts.set) ts → Misses w (Contains ids) ts
    each [] a b = tt
    each (t ∷ ts) a b = (f.missed t a.0 b.0, each ts a.1 b.1)
