-- Lines of atoms over columns, read into arguments.
use Rattle.std.proofs.Common.{◌≡◌, ℕ, ◌+◌, ◌<◌, true, inl, inr, Option, Some, Vec, Global, List, [], ◌∷◌, ◌++◌, length, take, get_or, sym, ap, ◌∙◌, subst}
use Rattle.std.specs.Prelude.{IfSome}
use Rattle.std.specs.List.{AllByRecursion}
use Rattle.ded_model.specs.declared.goal.Place.{Place}
use Rattle.ded_model.specs.declared.name.Column.{Column}
use Rattle.ded_model.specs.declared.slot.Slot.{Slot}
use Rattle.ded_model.specs.declared.tuple.BothAtom.TheVariants.{First, Second}
use Rattle.ded_model.specs.Coefs.{AreCoefs}
use Rattle.ded_model.specs.Known.{IsTupleOver}
use Rattle.ded_model.specs.Lines.{Line, In, IsSubset, row_lines, atoms_lines, renamed_lines}
use Rattle.ded_model.specs.Normal.{IsNormalTuple}
use Rattle.ded_model.specs.Point.{AreDistinctSlots}
use Rattle.ded_model.specs.Renaming.{renamed, IsOneToOne, KeepsSorts, mapped_lines}
use Rattle.ded_model.specs.Row.{Atom, tuple_mentions}
use Rattle.ded_model.specs.Scanned.{scanned, scanned_slots}
use Rattle.ded_model.proofs.Members.{In-left, In-right, In-split}
use Rattle.ded_model.proofs.CoefLists.{mentioned}
use Rattle.ded_genrel.proofs.Items.{done_to, all-push}
use Rattle.ded_width.proofs.Names.{atoms_over}
use Rattle.ded_algebra.specs.Evaluation.{HaveSorts}
use Rattle.ded_atoms.specs.Laws.{line_in_order}
use Rattle.ded_algebra.specs.Columns.{column_pairs}
use Rattle.ded_algebra.proofs.ColumnCoefs.{mapped_columns}
use Rattle.ded_algebra.proofs.Columns.{IsRead, read, read_sort, read_once}
use Rattle.ded_database.specs.Lost.{AreOwnSlots, AreReadAmong, AreOverColumns, AddsRead}
use Rattle.ded_database.proofs.LosingLines.{read_more}

-- ---- tuples over columns

-- the lines of normal atoms have coefficients in order
line_coefs : (t : List Atom) → IsNormalTuple t → (l : Line) → In l (atoms_lines t) → AreCoefs l.coefs
line_coefs [] n l i = absurd i
line_coefs (First r ∷ t) n l i = elim (In-split l (row_lines r) (atoms_lines t) i) [ inl a ↦ line_in_order r l (record { coefs = n.0.0; row = n.0.1 }) a | inr b ↦ line_coefs t n.2 l b ]
line_coefs (Second a ∷ t) n l i = line_coefs t n.2 l i

pub over_columns : (h : List Column) (t : List Atom) → IsTupleOver h t → AreOverColumns h t
over_columns h t k = record { slots = k.slots; coefs = line_coefs t k.normal; lines = λ l s i m. k.slots s (atoms_over t l s i m) }

-- some of the atoms
pub over_part : (h : List Column) (t atoms : List Atom) → ((s : Slot) → tuple_mentions atoms s ≡ true → tuple_mentions t s ≡ true) → IsSubset (atoms_lines atoms) (atoms_lines t) → AreOverColumns h t → AreOverColumns h atoms
over_part h t atoms slots of k = record { slots = λ s e. k.slots s (slots s e); coefs = λ l i. k.coefs l (of l i); lines = λ l s i m. k.lines l s (of l i) m }

-- ---- columns read into slots

module _ (h : List Column) (ss : List Slot) (j : HaveSorts h ss) (atoms : List Atom) (o : AreOverColumns h atoms) where
  pub columns_apart : AreDistinctSlots ss → IsOneToOne (column_pairs 0 ss) (tuple_mentions atoms)
  columns_apart d = record {
    apart = λ s t e g z. read_once 0 h ss s t (renamed (column_pairs 0 ss) t) d (subst (IsRead 0 h ss s) z (read 0 h ss s j (o.slots s e))) (read 0 h ss t j (o.slots t g));
  }

  pub columns_sorted : KeepsSorts (column_pairs 0 ss) (tuple_mentions atoms)
  columns_sorted = record { sort = λ s e. read_sort 0 h ss s (renamed (column_pairs 0 ss) s) j (read 0 h ss s j (o.slots s e)) }

-- the arguments are the slots
pub own_read : (h h' : List Column) (ts ts' : List Place) (o : Option (Vec Slot Global)) (v : Vec Slot Global) → o ≡ Some v → h ≡ h' → ts ≡ ts' → IfSome o (λ (w : Vec Slot Global). AreOwnSlots h ts w.items) → AreOwnSlots h' ts' v.items
own_read h h' ts ts' o v e i j k = subst (λ x. AreOwnSlots x ts' v.items) i (subst (λ x. AreOwnSlots h x v.items) j (subst (λ x. IfSome x (λ (w : Vec Slot Global). AreOwnSlots h ts w.items)) e k))

pub adds_read : (h : List Column) (ss : List Slot) (ts : List Place) (atoms : List Atom) (old new : List Line) → AreOwnSlots h ts ss → AreOverColumns h atoms → new ≡ old ++ mapped_lines (column_pairs 0 ss) (atoms_lines atoms)
    → AddsRead (atoms_lines atoms) ts old new
adds_read h ss ts atoms old new k o e =
    let same : renamed_lines (scanned_slots (scanned ts)) (atoms_lines atoms) ≡ mapped_lines (column_pairs 0 ss) (atoms_lines atoms)
    = ap (λ us. renamed_lines us (atoms_lines atoms)) k.slots ∙ sym (mapped_columns h ss k.sorts k.distinct (atoms_lines atoms) (λ l i. (o.coefs l i, λ s f. o.lines l s i (mentioned l s f)))) in
    record {
      kept = λ l i. subst (In l) (sym e) (In-left l old (mapped_lines (column_pairs 0 ss) (atoms_lines atoms)) i);
      read = record { fresh = k.fresh; read = λ l i. subst (In l) (sym e) (In-right l old (mapped_lines (column_pairs 0 ss) (atoms_lines atoms)) (subst (In l) same i)) };
    }

-- ---- one list of arguments after another

pub read_next : (ls old new : List Line) (all : List (List Place)) (i : ℕ) (ts : List Place) → i < length all → ts ≡ get_or all i ts → AddsRead ls ts old new → AllByRecursion (AreReadAmong ls old) (take i all)
    → AllByRecursion (AreReadAmong ls new) (take (i + 1) all)
read_next ls old new all i ts l e k h = subst (AllByRecursion (AreReadAmong ls new)) (sym (done_to all i ts l e)) (all-push (AreReadAmong ls new) (take i all) ts (read_more ls old new k.kept (take i all) h) k.read)
