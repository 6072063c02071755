-- What stands before the formula of a view.
use Rattle.std.proofs.Common.{◌≡◌, inl, inr, ℕ, List, [], ◌∷◌, ◌++◌, refl, sym, subst, append_assoc, arith}
use Rattle.std.specs.Prelude.{codes}
use Rattle.ded_model.specs.declared.name.Column.{Column}
use Rattle.ded_terminals.specs.declared.item.Keyword.TheVariants as words
use Rattle.ded_terminals.specs.Symbols.{Symbol, Word, Name, Open, Close, Comma, Define}
use Rattle.ded_terminals.specs.Atoms.{spell_rest, spell_column}
use Rattle.ded_syntax.specs.Commands.{Columns, spell_heading, heading, views, spell_prefix}
use Rattle.ded_dump.specs.Headings.{column_text, columns_text, heading_text}
use Rattle.ded_reread.specs.Words.{AreNamed}
use Rattle.ded_reread.specs.ScriptWords.{IsName, IsHeading}
use Rattle.ded_reread.proofs.Worded.{Worded, Loose, Any, Fits, append, then_any, then_fitting, nothing, blank, name, lone_sign}
use Rattle.ded_reread.proofs.TerminalsWords.{spaced, sorted}
use Rattle.ded_reread.proofs.AtomsRead.{comma}

fits_columns : (cs : List Column) → Fits (columns_text (codes ", ") cs)
fits_columns [] = tt
fits_columns (c ∷ cs) = refl

column : (c : Column) → IsName c.name → Worded (column_text c) (spell_column c)
column c h = sorted c.name c.sort h

columns : (cs : List Column) → AreNamed IsName cs → Worded (columns_text (codes ", ") cs) (spell_rest spell_column cs)
columns [] h = nothing Fits
columns (c ∷ cs) h =
    then_any Fits (codes ", ") (column_text c ++ columns_text (codes ", ") cs) (Comma ∷ []) (spell_column c ++ spell_rest spell_column cs) comma
    (then_fitting (column_text c) (columns_text (codes ", ") cs) (spell_column c) (spell_rest spell_column cs) (column c h.0) (fits_columns cs) (columns cs h.1))

closed : Loose (codes ")") (Close ∷ [])
closed = lone_sign (codes ")") (inr (inl refl)) refl

-- a heading, as the grammar has it
pub record IsWordedHeading (h : List Column) : Type 0 where
  pub columns : Columns
  pub is : heading columns ≡ h
  pub worded : Loose (heading_text h) (spell_heading columns)

pub worded_heading : (h : List Column) → IsHeading h → IsWordedHeading h
worded_heading [] k = absurd (omega (arith, k.some))
worded_heading (c ∷ cs) k =
    let inside = then_fitting (column_text c) (columns_text (codes ", ") cs) (spell_column c) (spell_rest spell_column cs) (column c k.named.0) (fits_columns cs) (columns cs k.named.1) in
    let all = then_any Any (codes "(") ((column_text c ++ columns_text (codes ", ") cs) ++ codes ")") (Open ∷ []) ((spell_column c ++ spell_rest spell_column cs) ++ Close ∷ []) (lone_sign (codes "(") (inl refl) refl)
    (append Fits Any (column_text c ++ columns_text (codes ", ") cs) (codes ")") (spell_column c ++ spell_rest spell_column cs) (Close ∷ []) inside (λ next t. refl) closed) in
    record {
      columns = record { first = c; rest = cs };
      is = refl;
      worded = subst (λ (ts : List Symbol). Loose (heading_text (c ∷ cs)) (Open ∷ ts)) (append_assoc (spell_column c) (spell_rest spell_column cs) (Close ∷ [])) all;
    }

defined : Loose (codes " := ") (Define ∷ [])
defined =
    then_any Any (codes " ") (codes ":= ") [] (Define ∷ []) blank
    (then_any Any (codes ":=") (codes " ") (Define ∷ []) [] (lone_sign (codes ":=") (inr (inr (inr (inr (inr (inr (inr (inr (inr (inl refl)))))))))) refl) blank)

-- a view's line from its formula
pub view_worded : (n : List ℕ) (h : List Column) (t : List ℕ) (ts : List Symbol) → IsName n → (k : IsWordedHeading h) → Worded t ts
    → Worded (codes "view " ++ (n ++ (heading_text h ++ (codes " := " ++ t)))) (spell_prefix (views n k.columns) ++ ts)
view_worded n h t ts named k w =
    subst (λ (us : List Symbol). Worded (codes "view " ++ (n ++ (heading_text h ++ (codes " := " ++ t)))) (Word words.View ∷ Name n ∷ us))
    (sym (append_assoc (spell_heading k.columns) (Define ∷ []) ts))
    (then_any Fits (codes "view ") (n ++ (heading_text h ++ (codes " := " ++ t))) (Word words.View ∷ []) (Name n ∷ spell_heading k.columns ++ Define ∷ ts) (spaced (codes "view") refl refl (omega arith))
    (then_fitting n (heading_text h ++ (codes " := " ++ t)) (Name n ∷ []) (spell_heading k.columns ++ Define ∷ ts) (name n named) refl
    (then_any Fits (heading_text h) (codes " := " ++ t) (spell_heading k.columns) (Define ∷ ts) k.worded (then_any Fits (codes " := ") t (Define ∷ []) ts defined w))))
