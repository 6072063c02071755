-- Words that can't be reserved are names.
use Rattle.std.proofs.Common.{◌≡◌, ℕ, true, false, List, refl, sym, ap, ◌∙◌, true≢false, bytes_eq}
use Rattle.std.specs.Prelude.{codes}
use Rattle.std.proofs.lemmas.Bool.{false_from_ne_true}
use Rattle.std.proofs.lemmas.Slice.Eq.{bytes_eq-Decides}
use Rattle.ded_model.specs.declared.command.Language.{Language}
use Rattle.ded_terminals.specs.Symbols.{Symbol, Name, formula_word, command_word, unused_word, language_word, word_symbol}
use Rattle.ded_terminals.specs.Reserved.{may_be_reserved}

module _ (w : List ℕ) (e : may_be_reserved w ≡ false) where
  -- such a word isn't one that may be reserved
  other : (k : List ℕ) → may_be_reserved k ≡ true → bytes_eq w k ≡ false
  other k h = false_from_ne_true (bytes_eq w k) (λ i. true≢false (sym h ∙ ap may_be_reserved (sym ((bytes_eq-Decides w k).0 i)) ∙ e))

  no_formula_word : (s : Symbol) → formula_word s w ≡ s
  no_formula_word s = rw (other (codes "and") refl, other (codes "or") refl, other (codes "not") refl, other (codes "implies") refl, other (codes "exists") refl, other (codes "forall") refl, other (codes "true") refl, other (codes "false") refl, other (codes "closure") refl, other (codes "interior") refl, other (codes "text") refl) refl

  no_command_word : (s : Symbol) → command_word s w ≡ s
  no_command_word s = rw (other (codes "relation") refl, other (codes "insert") refl, other (codes "delete") refl, other (codes "drop") refl, other (codes "view") refl, other (codes "keep") refl, other (codes "ask") refl, other (codes "query") refl, other (codes "show") refl, other (codes "box") refl, other (codes "explain") refl, other (codes "disjoint") refl, other (codes "verify") refl) refl

  no_unused_word : (s : Symbol) → unused_word s w ≡ s
  no_unused_word s = rw (other (codes "begin") refl, other (codes "commit") refl, other (codes "abort") refl) refl

  no_language_word : (language : Language) (s : Symbol) → language_word language s w ≡ s
  no_language_word language s = rw (other (codes "dedale") refl, other (codes "dump") refl) refl

  -- the law
  pub is_name : (language : Language) → word_symbol language w ≡ Name w
  is_name language =
      no_formula_word (command_word (language_word language (unused_word (Name w) w) w) w)
      ∙ no_command_word (language_word language (unused_word (Name w) w) w)
      ∙ no_language_word language (unused_word (Name w) w)
      ∙ no_unused_word (Name w)
