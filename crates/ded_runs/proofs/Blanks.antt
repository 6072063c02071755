-- Blanks between words.
use Rattle.std.proofs.Common.{◌≡◌, ◌≢◌, ℕ, Bool, true, false, List, [], ◌∷◌, ◌++◌, refl, sym, ap, subst, ◌∙◌, true≢false}
use Rattle.std.specs.Prelude.{◌==◌, ◌||◌}
use Rattle.std.proofs.lemmas.Bool.{eqb-true}
use Rattle.ded_lex.specs.Gaps.{Space, blank_byte}
use Rattle.ded_lex.specs.Pieces.{Plain}
use Rattle.ded_lex.specs.Tokens.{GapCell}
use Rattle.ded_reread.proofs.Worded.{Loose, Fits, Any, glue_byte, then_any, nothing}
use Rattle.ded_runs.specs.Lines.{AreBlanks}

-- what is so of space, tab, line feed and carriage return is so of each blank
each_blank : (P : ℕ → Type 0) (b : ℕ) → P 32 → P 9 → P 10 → P 13 → blank_byte b ≡ true → P b
each_blank P b space tab feed end h = by (b == 32) (b == 9) (b == 10) (b == 13) refl refl refl refl h
  where
    is : (k : ℕ) → (b == k) ≡ true → P k → P b
    is k e p = subst P (sym (eqb-true b k e)) p

    by : (w x y z : Bool) → (b == 32) ≡ w → (b == 9) ≡ x → (b == 10) ≡ y → (b == 13) ≡ z → (w || (x || (y || z))) ≡ true → P b
    by true x y z d e f g h = is 32 d space
    by false true y z d e f g h = is 9 e tab
    by false false true z d e f g h = is 10 f feed
    by false false false true d e f g h = is 13 g end
    by false false false false d e f g h = absurd (true≢false (sym h))

no_glue : (b : ℕ) → blank_byte b ≡ true → glue_byte b ≡ false
no_glue b h = each_blank (λ x. glue_byte x ≡ false) b refl refl refl refl h

no_part : (b : ℕ) → blank_byte b ≡ true → (b ≢ 39) × (b ≢ 45) × (b ≢ 59)
no_part b h = ((λ e. true≢false (sym h ∙ ap blank_byte e)), (λ e. true≢false (sym h ∙ ap blank_byte e)), (λ e. true≢false (sym h ∙ ap blank_byte e)))

one_blank : (b : ℕ) → blank_byte b ≡ true → Loose (b ∷ []) []
one_blank b h = record {
  cells = GapCell (Space b) ∷ [];
  bytes = refl;
  symbols_are = refl;
  words = refl;
  numbers = refl;
  each = λ next g. (h, tt);
  parts = Plain b ∷ [];
  spells = refl;
  whole = λ next g. (no_part b h, tt);
}

pub blanks_worded : (bs : List ℕ) → AreBlanks bs → Loose bs []
blanks_worded [] h = nothing Any
blanks_worded (b ∷ bs) h = then_any Any (b ∷ []) bs [] [] (one_blank b h.0) (blanks_worded bs h.1)

-- before what fits
pub fits_blanks : (bs t : List ℕ) → AreBlanks bs → Fits t → Fits (bs ++ t)
fits_blanks [] t h k = k
fits_blanks (b ∷ bs) t h k = no_glue b h.0
