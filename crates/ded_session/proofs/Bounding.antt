-- The extent of stored tuples, one tuple after another.
use Rattle.std.proofs.Common.{◌≡◌, ℕ, zero, suc, ◌<◌, Bool, true, false, ◌||◌, Option, Some, None, List, [], ◌∷◌, ◌++◌, length, get_or, append_assoc, append-nil, arith, refl, sym, ap, ◌∙◌, subst}
use Rattle.std.specs.List.{AllByRecursion}
use Rattle.std.specs.Prelude.{if◌then◌else◌}
use Rattle.std.specs.Str.{bytes_eq}
use Rattle.ded_model.specs.declared.bound.BoxReply.{BoxReply}
use Rattle.ded_model.specs.declared.bound.BoxReply.TheVariants.{Nowhere}
use Rattle.ded_model.specs.declared.name.Column.{Column}
use Rattle.ded_model.specs.Catalogue.{Catalogue, Entry, entry_name, tuples_of}
use Rattle.ded_model.specs.Catalogue as entry
use Rattle.ded_model.specs.Entries.{entry_of, relation_in, columns_in, tuples_in}
use Rattle.ded_model.specs.Known.{KnownNames, IsEntryOver, AreEntriesOver, IsTupleOver, IsWellFormed, with_known}
use Rattle.ded_model.specs.Point.{Point}
use Rattle.ded_model.specs.Row.{Atom, tuple_holds, tuples_hold}
use Rattle.ded_model.specs.Width.{IsBoxNarrow}
use Rattle.ded_box.specs.Extents.{IsBox}
use Rattle.ded_atoms.specs.Orders.{AreOrderAtoms}
use Rattle.ded_atoms.proofs.Extending.{extent_none, extent_more}
use Rattle.ded_atoms.proofs.WideTuples.{narrow_one, over_one}
use Rattle.ded_sorts.proofs.KnownEntries.{columns_there}
use Rattle.ded_session.specs.Replies.{boxes}
use Rattle.ded_session.specs.Steps.{Does, MayBeWide}
use Rattle.ded_model.specs.Command.{box_of}
use Rattle.ded_views.proofs.Views.{stored_over}
use Rattle.ded_catalog.proofs.SnapshotTuples.{tuples-push}

-- ---- the tuples of a relation are over its columns

-- an entry is well formed over those before it
formed_at : (limit : ℕ) (K : KnownNames) (es : List Entry) (n : List ℕ) (e : Entry) → AreEntriesOver limit K es → entry_of es n ≡ Some e → (J : KnownNames) × IsEntryOver limit J e
formed_at limit K [] n e w is = absurd cc
formed_at limit K (d ∷ ds) n e w is = by (bytes_eq n (entry_name d)) is (formed_at limit (with_known K d) ds n e w.2)
  where
    same : Some d ≡ Some e → d ≡ e
    same e = cc

    by : (b : Bool) → (if b then Some d else entry_of ds n) ≡ Some e → (entry_of ds n ≡ Some e → (J : KnownNames) × IsEntryOver limit J e) → (J : KnownNames) × IsEntryOver limit J e
    by true is later = (K, subst (IsEntryOver limit K) (same is) w.1)
    by false is later = later is

of_entry : (c : Catalogue) (n : List ℕ) (ts : List (ℕ × List Atom)) (o : Option Entry) → IsWellFormed c → entry_of c.entries n ≡ o → Some ts ≡ relation_in o → AllByRecursion (IsTupleOver (columns_in c n)) (tuples_of ts)
of_entry c n ts None w is there = absurd cc
of_entry c n ts (Some (entry.view m h f)) w is there = absurd cc
of_entry c n ts (Some (entry.relation m h i us)) w is there =
    let formed = formed_at c.limit (λ _. None) c.entries n (entry.relation m h i us) w is in
    subst (λ (k : List Column). AllByRecursion (IsTupleOver k) (tuples_of ts)) (sym (columns_there c n (entry.relation m h i us) w is))
    (subst (λ (vs : List (ℕ × List Atom)). AllByRecursion (IsTupleOver h) (tuples_of vs)) (sym (same there)) (stored_over h i 0 us formed.1.0))
  where
    same : Some ts ≡ Some us → ts ≡ us
    same e = cc

pub relation_over : (c : Catalogue) (n : List ℕ) (h : List Column) (ts : List (ℕ × List Atom)) → IsWellFormed c → h ≡ columns_in c n → Some ts ≡ relation_in (entry_of c.entries n) → AllByRecursion (IsTupleOver h) (tuples_of ts)
relation_over c n h ts w e there = subst (λ (k : List Column). AllByRecursion (IsTupleOver k) (tuples_of ts)) (sym e) (of_entry c n ts (entry_of c.entries n) w refl there)

-- ---- one tuple after another

-- the bounds over the tuples before the rest
pub record Bounded (h : List Column) (all rest : List (ℕ × List Atom)) (extent : BoxReply) : Type 0 where
  pub before : List (ℕ × List Atom)
  pub is : before ++ rest ≡ all
  pub box : IsBox (tuples_hold (tuples_of before)) h extent

pub bounded_none : (h : List Column) (all left : List (ℕ × List Atom)) → left ≡ all → Bounded h all left Nowhere
bounded_none h all left e = record { before = []; is = e; box = extent_none h }

there : (before rest : List (ℕ × List Atom)) (e : ℕ × List Atom) → e.1 ≡ get_or (tuples_of (before ++ e ∷ rest)) (length before) e.1
there [] rest e = refl
there (d ∷ ds) rest e = there ds rest e

within : (before rest : List (ℕ × List Atom)) (e : ℕ × List Atom) → length before < length (tuples_of (before ++ e ∷ rest))
within [] rest e = omega arith
within (d ∷ ds) rest e = let less = within ds rest e in omega (arith, less)

orders_one : (ts : List (List Atom)) (i : ℕ) (t : List Atom) → i < length ts → t ≡ get_or ts i t → AllByRecursion AreOrderAtoms ts → AreOrderAtoms t
orders_one [] i t l e a = absurd (omega (arith, l))
orders_one (u ∷ ts) zero t l e a = subst AreOrderAtoms (sym e) a.0
orders_one (u ∷ ts) (suc i) t l e a = orders_one ts i t (omega (arith, l)) e a.1

module _ (h : List Column) (all left rest : List (ℕ × List Atom)) (k : ℕ) (t : List Atom) (extent : BoxReply) (b : Bounded h all left extent) (step : left ≡ (k, t) ∷ rest) where
  split : b.before ++ (k, t) ∷ rest ≡ all
  split = ap (λ (us : List (ℕ × List Atom)). b.before ++ us) (sym step) ∙ b.is

  pub next_over : AllByRecursion (IsTupleOver h) (tuples_of all) → IsTupleOver h t
  next_over over = over_one h (tuples_of (b.before ++ (k, t) ∷ rest)) (length b.before) t (within b.before rest (k, t)) (there b.before rest (k, t))
      (subst (λ (ts : List (ℕ × List Atom)). AllByRecursion (IsTupleOver h) (tuples_of ts)) (sym split) over)

  pub next_narrow : IsBoxNarrow h (tuples_of all) → IsBoxNarrow h (t ∷ [])
  next_narrow n = narrow_one h (tuples_of (b.before ++ (k, t) ∷ rest)) (length b.before) t (within b.before rest (k, t)) (there b.before rest (k, t))
      (subst (λ (ts : List (ℕ × List Atom)). IsBoxNarrow h (tuples_of ts)) (sym split) n)

  pub next_orders : AllByRecursion AreOrderAtoms (tuples_of all) → AreOrderAtoms t
  next_orders orders = orders_one (tuples_of (b.before ++ (k, t) ∷ rest)) (length b.before) t (within b.before rest (k, t)) (there b.before rest (k, t))
      (subst (λ (ts : List (ℕ × List Atom)). AllByRecursion AreOrderAtoms (tuples_of ts)) (sym split) orders)

  pub next_bounded : (more : BoxReply) → ((test : Point → Bool) → IsBox test h extent → IsBox (λ p. test p || tuple_holds t p) h more) → Bounded h all rest more
  next_bounded more extends = record {
    before = b.before ++ (k, t) ∷ [];
    is = append_assoc b.before ((k, t) ∷ []) rest ∙ split;
    box = extent_more h (tuples_of b.before) (tuples_of (b.before ++ (k, t) ∷ [])) t more (tuples-push b.before (k, t)) (extends (tuples_hold (tuples_of b.before)) b.box);
  }

pub bounded_all : (h : List Column) (all left : List (ℕ × List Atom)) (extent : BoxReply) → Bounded h all left extent → left ≡ [] → IsBox (tuples_hold (tuples_of all)) h extent
bounded_all h all left extent b none = subst (λ (ts : List (ℕ × List Atom)). IsBox (tuples_hold (tuples_of ts)) h extent) whole b.box
  where
    whole : b.before ≡ all
    whole = sym (append-nil b.before) ∙ ap (λ (us : List (ℕ × List Atom)). b.before ++ us) (sym none) ∙ b.is

-- ---- what a relation is answered

pub box_shown : (c : Catalogue) (n : List ℕ) (h k : List Column) (ts : List (ℕ × List Atom)) (r : BoxReply) → h ≡ columns_in c n → k ≡ h → ts ≡ tuples_in c n
    → IsBox (tuples_hold (tuples_of ts)) h r → Does (box_of n) c (boxes k r) c
box_shown c n h k ts r e f g b = (f ∙ e, subst (λ (i : List Column). IsBox (tuples_hold (tuples_of (tuples_in c n))) i r) (sym f) (subst (λ (us : List (ℕ × List Atom)). IsBox (tuples_hold (tuples_of us)) h r) g b), refl)

pub wide_shown : (c : Catalogue) (n : List ℕ) (h : List Column) (ts : List (ℕ × List Atom)) → h ≡ columns_in c n → ts ≡ tuples_in c n → (IsBoxNarrow h (tuples_of ts) → ⊥) → (AllByRecursion AreOrderAtoms (tuples_of ts) → ⊥)
    → MayBeWide (box_of n) c
wide_shown c n h ts e g w v = (λ narrow. w (subst (λ (k : List Column). IsBoxNarrow k (tuples_of ts)) (sym e) (subst (λ (us : List (ℕ × List Atom)). IsBoxNarrow (columns_in c n) (tuples_of us)) (sym g) narrow)), λ orders. v (subst (λ (us : List (ℕ × List Atom)). AllByRecursion AreOrderAtoms (tuples_of us)) (sym g) orders))
