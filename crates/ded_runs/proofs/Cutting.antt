-- The statements of a dump's scripts.
use Rattle.std.proofs.Common.{◌≡◌, ℕ, List, [], ◌∷◌, ◌++◌, map, inl, refl, sym, ap}
use Rattle.std.specs.List.{AllByRecursion}
use Rattle.ded_lex.specs.Pieces.{IsWhole, IsCut, Statement, Whole, AreStatements}
use Rattle.ded_lex.proofs.Cuts.{one_list}
use Rattle.ded_reread.specs.Lines.{header_text, IsLine}
use Rattle.ded_runs.proofs.Items.{Item, piece, tail_of}
use Rattle.ded_runs.proofs.LinesBehind.{IsFront}

abbrev pub statement : List ℕ → Item → Statement
statement front i = Whole (piece front i)

abbrev pub AreLines : List Item → Type 0
AreLines = AllByRecursion (λ (i : Item). IsLine i.text i.command)

module _ (front : List ℕ) (f : IsFront front) where
  tail_cut : (is : List Item) → AreLines is → IsCut (tail_of front is) (map (piece front) is) front
  tail_cut [] h = (f.none, refl)
  tail_cut (i ∷ is) h = (tail_of front is, record { is = refl; whole = (f.lines i.text i.command h.0).whole (tail_of front is) }, tail_cut is h.1)

  statements_are : (is : List Item) → map Whole (map (piece front) is) ≡ map (statement front) is
  statements_are [] = refl
  statements_are (i ∷ is) = ap (λ ss. statement front i ∷ ss) (statements_are is)

  module _ (whole_header : (after : List ℕ) → IsWhole header_text (59 ∷ after)) (script : List ℕ) (is : List Item) (e : script ≡ header_text ++ 59 ∷ tail_of front is) (h : AreLines is) where
    pub dump_cut : AreStatements script (Whole header_text ∷ map (statement front) is)
    dump_cut = record {
      pieces = header_text ∷ map (piece front) is;
      rest = front;
      cut = (tail_of front is, record { is = e; whole = whole_header (tail_of front is) }, tail_cut is h);
      are = inl (f.blank, ap (λ rest. Whole header_text ∷ rest) (sym (statements_are is)));
    }

    pub dump_statements : (ss : List Statement) → AreStatements script ss → ss ≡ Whole header_text ∷ map (statement front) is
    dump_statements ss cut = one_list script ss (Whole header_text ∷ map (statement front) is) cut dump_cut
