-- Lines of a dump behind a line feed, and without it.
use Rattle.std.proofs.Common.{◌≡◌, inl, inr, ℕ, List, [], ◌∷◌, ◌++◌, length, refl, sym, ap, ◌∙◌, arith}
use Rattle.std.specs.Prelude.{None, flat_map}
use Rattle.ded_lex.specs.declared.front.Front.{Front}
use Rattle.ded_lex.specs.Fronts.{front_of}
use Rattle.ded_lex.specs.Gaps.{Space, IsBlank}
use Rattle.ded_lex.specs.Lexemes.{Lexeme}
use Rattle.ded_lex.specs.Pieces.{IsWhole, HasNoWhole, Part, Plain, Dash, Quoted, Comment, spelled, AreParts}
use Rattle.ded_lex.specs.Tokens.{Cell, GapCell, LexemeCell, cell_bytes, AreCells, lexemes_of, AreLexemes}
use Rattle.ded_lex.proofs.Cases.{same_some, none_some}
use Rattle.ded_lex.proofs.FrontReads.{cell_kind, front_cell, front_found}
use Rattle.ded_model.specs.declared.command.Language.{Language}
use Rattle.ded_model.specs.declared.command.Language.TheVariants.{Two}
use Rattle.ded_model.specs.declared.command.Refusal.{Refusal}
use Rattle.ded_model.specs.declared.command.Refusal.TheVariants.{Syntax, LongName, LongNumber, Deep}
use Rattle.ded_model.specs.Command.{CommandForm}
use Rattle.ded_syntax.specs.Spelling.{Spells, IsRead, AppliesIn}
use Rattle.ded_reread.specs.Lines.{IsLine}

-- behind these bytes the text is a piece of a script that is read as the command
pub record IsLineBehind (front text : List ℕ) (x : CommandForm) : Type 0 where
  pub read : IsRead Two (front ++ text) x
  pub whole : (after : List ℕ) → IsWhole (front ++ text) (59 ∷ after)

-- the bytes may stand before each line, and behind the last
pub record IsFront (front : List ℕ) : Type 0 where
  pub blank : IsBlank front
  pub none : HasNoWhole front
  pub lines : (text : List ℕ) (x : CommandForm) → IsLine text x → IsLineBehind front text x

nothing_more : (p after : List ℕ) → [] ≡ p ++ 59 ∷ after → ⊥
nothing_more [] after e = cc
nothing_more (x ∷ p) after e = cc

abbrev first_of : List ℕ → ℕ
first_of [] = 0
first_of (b ∷ bs) = b

abbrev rest_of : List ℕ → List ℕ
rest_of [] = []
rest_of (b ∷ bs) = bs

-- ---- a line feed

last_feed : HasNoWhole (10 ∷ [])
last_feed front after b = by front b.is
  where
    by : (p : List ℕ) → 10 ∷ [] ≡ p ++ 59 ∷ after → ⊥
    by [] e = cc
    by (x ∷ p) e = nothing_more p after (ap rest_of e)

pub feed : IsFront (10 ∷ [])
feed = record {
  blank = record { gaps = Space 10 ∷ []; is = refl; each = (refl, tt) };
  none = last_feed;
  lines = λ text x l. record { read = l.read; whole = l.whole };
}

-- ---- no bytes

one_byte : (xs ys text : List ℕ) → length xs ≡ 1 → xs ++ ys ≡ 10 ∷ text → ys ≡ text
one_byte [] ys text n e = absurd (omega (arith, n))
one_byte (x ∷ []) ys text n e = ap rest_of e
one_byte (x ∷ z ∷ xs) ys text n e = absurd (omega (arith, n))

no_lexeme : (cell : Cell) (cells : List Cell) → cell_kind cell ≡ None → lexemes_of (cell ∷ cells) ≡ lexemes_of cells
no_lexeme (GapCell gap) cells h = refl
no_lexeme (LexemeCell lexeme) cells h = absurd (none_some (sym h))

module _ (text : List ℕ) where
  fed : (lexemes : List Lexeme) → AreLexemes text lexemes → AreLexemes (10 ∷ text) lexemes
  fed lexemes are = record { cells = GapCell (Space 10) ∷ are.cells; is = ap (λ bs. 10 ∷ bs) are.is; each = (refl, are.each); lexemes_are = are.lexemes_are }

  unfed : (lexemes : List Lexeme) → AreLexemes (10 ∷ text) lexemes → AreLexemes text lexemes
  unfed lexemes all = by all.cells all.is all.each all.lexemes_are
    where
      by : (cells : List Cell) → flat_map cell_bytes cells ≡ 10 ∷ text → AreCells cells → lexemes_of cells ≡ lexemes → AreLexemes text lexemes
      by [] e each are = absurd cc
      by (cell ∷ cells) e each are =
          let same : front_cell cell ≡ front_cell (GapCell (Space 10)) =
          same_some (sym (front_found cell (flat_map cell_bytes cells) each.0) ∙ (ap front_of e ∙ front_found (GapCell (Space 10)) text refl)) in
          record {
            cells = cells;
            is = one_byte (cell_bytes cell) (flat_map cell_bytes cells) text (ap (λ (f : Front). f.length) same) e;
            each = each.1;
            lexemes_are = sym (no_lexeme cell cells (ap (λ (f : Front). f.kind) same)) ∙ are;
          }

  module _ (l : Language) where
    spells_unfed : (x : CommandForm) (depth : ℕ) → Spells l (10 ∷ text) x depth → Spells l text x depth
    spells_unfed x depth s = record { lexemes = s.lexemes; are = unfed s.lexemes s.are; command = s.command }

    spells_fed : (x : CommandForm) (depth : ℕ) → Spells l text x depth → Spells l (10 ∷ text) x depth
    spells_fed x depth s = record { lexemes = s.lexemes; are = fed s.lexemes s.are; command = s.command }

    applies_fed : (q : Refusal) → AppliesIn q l text → AppliesIn q l (10 ∷ text)
    applies_fed Syntax a = λ x depth s. a x depth (spells_unfed x depth s)
    applies_fed LongName a = record { lexemes = a.lexemes; are = fed a.lexemes a.are; passes = a.passes }
    applies_fed LongNumber (inl a) = inl (record { lexemes = a.lexemes; are = fed a.lexemes a.are; passes = a.passes })
    applies_fed LongNumber (inr (inl a)) =
        inr (inl (record { lexemes = a.lexemes; are = fed a.lexemes a.are; command = a.command; depth = a.depth; spells = a.spells; long = a.long }))
    applies_fed LongNumber (inr (inr a)) =
        inr (inr (record { command = a.command; depth = a.depth; spells = spells_fed a.command a.depth a.spells; long = a.long }))
    applies_fed Deep a = record { command = a.command; depth = a.depth; spells = spells_fed a.command a.depth a.spells; above = a.above }
    applies_fed q a = a

    read_unfed : (x : CommandForm) → IsRead l (10 ∷ text) x → IsRead l text x
    read_unfed x h = record { depth = h.depth; spells = spells_unfed x h.depth h.spells; accepted = λ q a. h.accepted q (applies_fed q a) }

  whole_unfed : (next : List ℕ) → IsWhole (10 ∷ text) next → IsWhole text next
  whole_unfed next w = by w.parts w.is w.each
    where
      by : (parts : List Part) → spelled parts ≡ 10 ∷ text → AreParts parts next → IsWhole text next
      by [] e each = absurd cc
      by (Plain b ∷ parts) e each = record { parts = parts; is = ap rest_of e; each = each.1 }
      by (Dash ∷ parts) e each = let k : 45 ≡ 10 = ap first_of e in absurd (omega (arith, k))
      by (Quoted body ∷ parts) e each = let k : 39 ≡ 10 = ap first_of e in absurd (omega (arith, k))
      by (Comment body ∷ parts) e each = let k : 45 ≡ 10 = ap first_of e in absurd (omega (arith, k))

pub joined : IsFront []
joined = record {
  blank = record { gaps = []; is = refl; each = tt };
  none = λ piece after b. nothing_more piece after b.is;
  lines = λ text x l. record { read = read_unfed text Two x l.read; whole = λ after. whole_unfed text (59 ∷ after) (l.whole after) };
}
