-- A statement is one tagged statement alone.
use Rattle.std.proofs.Common.{◌≡◌, ℕ, ◌≤◌, List, [], ◌∷◌, length, get_or, inl, inr, refl, sym, ap, ◌∙◌, subst, arith}
use Rattle.std.specs.Prelude.{map, codes}
use Rattle.ded_lex.specs.Lexemes.{Lexeme, Word}
use Rattle.ded_lex.specs.Pieces.{Statement, Whole}
use Rattle.ded_lex.specs.Pieces as pieces
use Rattle.ded_model.specs.declared.command.Language.TheVariants.{One}
use Rattle.ded_syntax.proofs.UsedWords.{IsUsed, AreUsed, command_used}
use Rattle.ded_terminals.specs.declared.item.Keyword.TheVariants as keyword
use Rattle.ded_terminals.specs.Literals.{exact}
use Rattle.ded_terminals.specs.Symbols.{symbol}
use Rattle.ded_terminals.specs.Symbols as symbols
use Rattle.ded_terminals.proofs.Seen.{one_list}
use Rattle.ded_shared.specs.Deciding.{one_tag, word_same}
use Rattle.ded_shared.specs.Tags.{Tagged, begins, commits, aborts, commands, other, IsWord, SpellsCommand, Tags, TagsCommand, HasNoTag, IsTaggedPiece, IsTagged, AreTagged}

-- ---- words

pub only_same : {x y : Lexeme} → x ∷ [] ≡ y ∷ [] → x ≡ y
only_same e = cc

two_words : (v w bytes : List ℕ) → IsWord v bytes → IsWord w bytes → v ≡ w
two_words v w bytes p q = word_same (only_same (one_list bytes (Word v ∷ []) (Word w ∷ []) p q))

begin_commit : codes "begin" ≡ codes "commit" → ⊥
begin_commit e = omega (arith, ap length e)

commit_abort : codes "commit" ≡ codes "abort" → ⊥
commit_abort e = omega (arith, ap length e)

begin_abort : codes "begin" ≡ codes "abort" → ⊥
begin_abort e = omega (arith, ap (λ (l : List ℕ). get_or l 0 0) e)

-- a word that stands in no command is none
word_or_command : (word bytes : List ℕ) → symbol One (Word word) ≡ symbols.Word keyword.Unused → IsWord word bytes → SpellsCommand bytes → ⊥
word_or_command word bytes unused w s =
    let same : s.spells.lexemes ≡ Word word ∷ [] = one_list bytes s.spells.lexemes (Word word ∷ []) s.spells.are w in
    let used : AreUsed (map (symbol One) (Word word ∷ [])) =
    subst (λ (ls : List Lexeme). AreUsed (map (symbol One) ls)) same (command_used exact (map (symbol One) s.spells.lexemes) s.command s.depth s.spells.command) in
    subst IsUsed unused used.0

-- ---- pieces

module _ (bytes : List ℕ) where
  same_session : (v w : List ℕ) (j k : ℕ) → Tags v bytes j → Tags w bytes k → j ≡ k
  same_session v w j k t u = (one_tag bytes j k t.rest u.rest t.tag u.tag).0

  same_word : (v w : List ℕ) (j k : ℕ) → Tags v bytes j → Tags w bytes k → v ≡ w
  same_word v w j k t u = two_words v w u.rest (subst (IsWord v) (one_tag bytes j k t.rest u.rest t.tag u.tag).1 t.is_word) u.is_word

  not_both : (word : List ℕ) (j k : ℕ) (rest : List ℕ) → symbol One (Word word) ≡ symbols.Word keyword.Unused → Tags word bytes j → TagsCommand bytes k rest → ⊥
  not_both word j k rest unused t u = word_or_command word rest unused (subst (IsWord word) (one_tag bytes j k t.rest rest t.tag u.tag).1 t.is_word) u.spells

  untagged : (z : Statement) → length bytes ≤ 65536 → IsTaggedPiece bytes (other z) → HasNoTag bytes
  untagged z short (inl p) = let long = p.0 in absurd (omega (arith, short, long))
  untagged z short (inr p) = p.1

  one_other : (y z : Statement) → IsTaggedPiece bytes (other y) → IsTaggedPiece bytes (other z) → y ≡ z
  one_other y z (inl p) (inl q) = p.1 ∙ sym q.1
  one_other y z (inr p) (inr q) = p.2 ∙ sym q.2
  one_other y z (inl p) (inr q) = let long = p.0 in let short = q.0 in absurd (omega (arith, short, long))
  one_other y z (inr p) (inl q) = let short = p.0 in let long = q.0 in absurd (omega (arith, short, long))

  one_piece : (x y : Tagged) → IsTaggedPiece bytes x → IsTaggedPiece bytes y → x ≡ y
  one_piece (begins j) (begins k) p q = ap begins (same_session _ _ j k p.1 q.1)
  one_piece (begins j) (commits k) p q = absurd (begin_commit (same_word _ _ j k p.1 q.1))
  one_piece (begins j) (aborts k) p q = absurd (begin_abort (same_word _ _ j k p.1 q.1))
  one_piece (begins j) (commands k rest) p q = absurd (not_both (codes "begin") j k rest refl p.1 q.1)
  one_piece (begins j) (other z) p q = absurd ((untagged z p.0 q).begins j p.1)
  one_piece (commits j) (begins k) p q = absurd (begin_commit (same_word _ _ k j q.1 p.1))
  one_piece (commits j) (commits k) p q = ap commits (same_session _ _ j k p.1 q.1)
  one_piece (commits j) (aborts k) p q = absurd (commit_abort (same_word _ _ j k p.1 q.1))
  one_piece (commits j) (commands k rest) p q = absurd (not_both (codes "commit") j k rest refl p.1 q.1)
  one_piece (commits j) (other z) p q = absurd ((untagged z p.0 q).commits j p.1)
  one_piece (aborts j) (begins k) p q = absurd (begin_abort (same_word _ _ k j q.1 p.1))
  one_piece (aborts j) (commits k) p q = absurd (commit_abort (same_word _ _ k j q.1 p.1))
  one_piece (aborts j) (aborts k) p q = ap aborts (same_session _ _ j k p.1 q.1)
  one_piece (aborts j) (commands k rest) p q = absurd (not_both (codes "abort") j k rest refl p.1 q.1)
  one_piece (aborts j) (other z) p q = absurd ((untagged z p.0 q).aborts j p.1)
  one_piece (commands j rest) (begins k) p q = absurd (not_both (codes "begin") k j rest refl q.1 p.1)
  one_piece (commands j rest) (commits k) p q = absurd (not_both (codes "commit") k j rest refl q.1 p.1)
  one_piece (commands j rest) (aborts k) p q = absurd (not_both (codes "abort") k j rest refl q.1 p.1)
  one_piece (commands j rest) (commands k end) p q =
      let same = one_tag bytes j k rest end p.1.tag q.1.tag in
      ap (λ (i : ℕ). commands i rest) same.0 ∙ ap (commands k) same.1
  one_piece (commands j rest) (other z) p q = absurd ((untagged z p.0 q).commands j rest p.1)
  one_piece (other y) (begins k) p q = absurd ((untagged y q.0 p).begins k q.1)
  one_piece (other y) (commits k) p q = absurd ((untagged y q.0 p).commits k q.1)
  one_piece (other y) (aborts k) p q = absurd ((untagged y q.0 p).aborts k q.1)
  one_piece (other y) (commands k rest) p q = absurd ((untagged y q.0 p).commands k rest q.1)
  one_piece (other y) (other z) p q = ap other (one_other y z p q)

-- ---- statements

pub one_tagged : (s : Statement) (x y : Tagged) → IsTagged s x → IsTagged s y → x ≡ y
one_tagged (Whole bytes) x y p q = one_piece bytes x y p q
one_tagged (pieces.Unfinished rest) x y p q = p ∙ sym q

pub one_tagged_list : (ss : List Statement) (xs ys : List Tagged) → AreTagged ss xs → AreTagged ss ys → xs ≡ ys
one_tagged_list [] [] [] p q = refl
one_tagged_list [] [] (y ∷ ys) p q = absurd q
one_tagged_list [] (x ∷ xs) ys p q = absurd p
one_tagged_list (s ∷ ss) [] ys p q = absurd p
one_tagged_list (s ∷ ss) (x ∷ xs) [] p q = absurd q
one_tagged_list (s ∷ ss) (x ∷ xs) (y ∷ ys) p q =
    ap (λ (z : Tagged). z ∷ xs) (one_tagged s x y p.0 q.0) ∙ ap (λ (zs : List Tagged). y ∷ zs) (one_tagged_list ss xs ys p.1 q.1)
