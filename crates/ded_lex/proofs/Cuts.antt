-- Each input is cut into whole pieces and a rest, in one way, and goes on from its rest.
use Rattle.std.proofs.Common.{◌≡◌, ℕ, zero, suc, ◌<◌, List, [], ◌∷◌, ◌++◌, length, refl, sym, ap, ◌∙◌, inl, inr, ⊎_elim, subst, arith, length-append, append_assoc}
use Rattle.std.specs.Prelude.{Some, None, map}
use Rattle.std.proofs.lemmas.List.{map-append}
use Rattle.ded_lex.specs.declared.state.State.TheVariants.{Plain as PlainState}
use Rattle.ded_lex.specs.Gaps.{IsBlank}
use Rattle.ded_lex.specs.Pieces.{Part, Plain, Dash, Quoted, Comment, spelled, NoDash, AreParts, IsWhole, Begins, HasNoWhole, IsCut, Statement, Whole, Unfinished, EndsIn, AreStatements}
use Rattle.ded_lex.proofs.Walk.{Found, cut_from}
use Rattle.ded_lex.proofs.Finds.{finds, found}
use Rattle.ded_lex.proofs.Blanks.{blank_or}
use Rattle.ded_lex.proofs.Cases.{same_some, none_some}

-- what stands behind a piece's ; is no matter to the piece
same_start : (xs : List ℕ) (c : ℕ) (after other : List ℕ) → NoDash (xs ++ c ∷ after) → NoDash (xs ++ c ∷ other)
same_start [] c after other h = h
same_start (x ∷ xs) c after other h = h

part_stays : (parts : List Part) (after other : List ℕ) → AreParts parts (59 ∷ after) → AreParts parts (59 ∷ other)
part_stays [] after other each = tt
part_stays (Plain b ∷ parts) after other each = (each.0, part_stays parts after other each.1)
part_stays (Dash ∷ parts) after other each = (same_start (spelled parts) 59 after other each.0, part_stays parts after other each.1)
part_stays (Quoted body ∷ parts) after other each = (each.0, part_stays parts after other each.1)
part_stays (Comment body ∷ parts) after other each = (each.0, part_stays parts after other each.1)

pub whole_stays : (piece after other : List ℕ) → IsWhole piece (59 ∷ after) → IsWhole piece (59 ∷ other)
whole_stays piece after other w = record { parts = w.parts; is = w.is; each = part_stays w.parts after other w.each }

begins_on : (input piece after more : List ℕ) → Begins input piece after → Begins (input ++ more) piece (after ++ more)
begins_on input piece after more b = record {
  is = ap (λ (l : List ℕ). l ++ more) b.is ∙ append_assoc piece (59 ∷ after) more;
  whole = whole_stays piece after (after ++ more) b.whole;
}

-- an input goes on from its rest
pub goes_on : (pieces : List (List ℕ)) (taken rest more : List ℕ) (others : List (List ℕ)) (last : List ℕ) → IsCut taken pieces rest → IsCut (rest ++ more) others last → IsCut (taken ++ more) (pieces ++ others) last
goes_on [] taken rest more others last cut then = subst (λ (l : List ℕ). IsCut (l ++ more) others last) cut.1 then
goes_on (piece ∷ pieces) taken rest more others last cut then = (cut.0 ++ more, begins_on taken piece cut.0 more cut.1, goes_on pieces cut.0 rest more others last cut.2 then)

-- a cut of every input
none_whole : (input : List ℕ) → cut_from PlainState input ≡ None → HasNoWhole input
none_whole input h = λ piece after b. absurd (none_some (sym h ∙ found input piece after b))

shorter : (input piece after : List ℕ) → Begins input piece after → length after < length input
shorter input piece after b = omega (arith, ap length b.is, length-append piece (59 ∷ after))

-- nothing is cut into no piece, and no rest
pub cut_of_nothing : IsCut [] [] []
cut_of_nothing = (none_whole [] refl, refl)

abbrev HasCut : List ℕ → Type 0
HasCut input = (pieces : List (List ℕ)) × (rest : List ℕ) × IsCut input pieces rest

within : (n : ℕ) (input : List ℕ) → length input < n → HasCut input
within zero input lt = absurd (omega arith)
within (suc n) input lt = by_found (cut_from PlainState input) refl (λ after le. within n after le)
  where
    by_found : (r : Found) → cut_from PlainState input ≡ r → ((after : List ℕ) → length after < n → HasCut after) → HasCut input
    by_found None h more = ([], input, (none_whole input h, refl))
    by_found (Some f) h more =
        let b : Begins input f.0 f.1 = finds input f.0 f.1 h in
        let lt2 : length f.1 < length input = shorter input f.0 f.1 b in
        let cut : HasCut f.1 = more f.1 (omega arith) in
        (f.0 ∷ cut.0, cut.1, (f.1, b, cut.2))

pub has_cut : (input : List ℕ) → HasCut input
has_cut input = within (suc (length input)) input (omega arith)

pub has_statements : (input : List ℕ) → (statements : List Statement) × AreStatements input statements
has_statements input =
    let cut = has_cut input in
    ⊎_elim
    (λ (w : IsBlank cut.1). (map Whole cut.0, record { pieces = cut.0; rest = cut.1; cut = cut.2; are = inl (w, refl) }))
    (λ (w : IsBlank cut.1 → ⊥). (map Whole cut.0 ++ Unfinished cut.1 ∷ [], record { pieces = cut.0; rest = cut.1; cut = cut.2; are = inr (w, refl) }))
    (blank_or cut.1)

-- and one alone
-- one whole piece alone can stand at the start
one_piece : (input p a q b : List ℕ) → Begins input p a → Begins input q b → (p ≡ q) × (a ≡ b)
one_piece input p a q b x y =
    let e : (p, a) ≡ (q, b) = same_some (sym (found input p a x) ∙ found input q b y) in
    (ap (λ (t : List ℕ × List ℕ). t.0) e, ap (λ (t : List ℕ × List ℕ). t.1) e)

pub one_cut : (ps qs : List (List ℕ)) (input r s : List ℕ) → IsCut input ps r → IsCut input qs s → (ps ≡ qs) × (r ≡ s)
one_cut [] [] input r s x y = (refl, x.1 ∙ sym y.1)
one_cut [] (q ∷ qs) input r s x y = absurd (x.0 q y.0 y.1)
one_cut (p ∷ ps) [] input r s x y = absurd (y.0 p x.0 x.1)
one_cut (p ∷ ps) (q ∷ qs) input r s x y =
    let e = one_piece input p x.0 q y.0 x.1 y.1 in
    let more = one_cut ps qs y.0 r s (subst (λ (t : List ℕ). IsCut t ps r) e.1 x.2) y.2 in
    (ap (λ (t : List ℕ). t ∷ ps) e.0 ∙ ap (λ (t : List (List ℕ)). q ∷ t) more.0, more.1)

one_end : (rest : List ℕ) (wholes these those : List Statement) → EndsIn rest wholes these → EndsIn rest wholes those → these ≡ those
one_end rest wholes these those (inl x) (inl y) = x.1 ∙ sym y.1
one_end rest wholes these those (inl x) (inr y) = absurd (y.0 x.0)
one_end rest wholes these those (inr x) (inl y) = absurd (x.0 y.0)
one_end rest wholes these those (inr x) (inr y) = x.1 ∙ sym y.1

pub one_list : (input : List ℕ) (these those : List Statement) → AreStatements input these → AreStatements input those → these ≡ those
one_list input these those x y =
    let e = one_cut x.pieces y.pieces input x.rest y.rest x.cut y.cut in
    one_end y.rest (map Whole y.pieces) these those
    (subst (λ (r : List ℕ). EndsIn r (map Whole y.pieces) these) e.1 (subst (λ (ps : List (List ℕ)). EndsIn x.rest (map Whole ps) these) e.0 x.are))
    y.are

-- the statements behind a cut follow its pieces
ends_on : (pieces others : List (List ℕ)) (last : List ℕ) (statements : List Statement) → EndsIn last (map Whole others) statements → EndsIn last (map Whole (pieces ++ others)) (map Whole pieces ++ statements)
ends_on pieces others last statements (inl x) = inl (x.0, ap (λ (l : List Statement). map Whole pieces ++ l) x.1 ∙ sym (map-append Whole pieces others))
ends_on pieces others last statements (inr x) = inr (
  x.0,
  ap (λ (l : List Statement). map Whole pieces ++ l) x.1
      ∙ sym (append_assoc (map Whole pieces) (map Whole others) (Unfinished last ∷ []))
      ∙ ap (λ (l : List Statement). l ++ Unfinished last ∷ []) (sym (map-append Whole pieces others)),
)

pub statements_on : (taken more : List ℕ) (pieces : List (List ℕ)) (rest : List ℕ) (statements : List Statement) → IsCut taken pieces rest → AreStatements (rest ++ more) statements → AreStatements (taken ++ more) (map Whole pieces ++ statements)
statements_on taken more pieces rest statements cut s = record {
  pieces = pieces ++ s.pieces;
  rest = s.rest;
  cut = goes_on pieces taken rest more s.pieces s.rest cut s.cut;
  are = ends_on pieces s.pieces s.rest statements s.are;
}
