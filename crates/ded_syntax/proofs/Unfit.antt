-- Atoms that are marked or have a long row.
use Rattle.std.proofs.Common.{◌≡◌, Bool, true, false, ◌||◌, List, [], ◌∷◌, refl, ap₂, ◌∙◌}
use Rattle.std.specs.List.{list_any}
use Rattle.ded_model.specs.Command.{CommandForm, header, relation, insert, delete, drop, view, keep, ask, query, show, box_of, explain, dump, disjoint, verify}
use Rattle.ded_model.specs.Form.{FormAtom, compare, member}
use Rattle.ded_model.specs.Logic.{Logic, atom, always, never, negation, every_of, some_of, implies, minus, exists, forall, Logics, none, also, some_atom, some_atom_of}
use Rattle.ded_model.specs.LongRows.{is_long_argument, is_long_atom}
use Rattle.ded_grammar.specs.Trees.{TerminalForm, nay, conjunct, disjunct, arrow, opening, closing, binder, leaf, terminal_atom}
use Rattle.ded_syntax.specs.CommandReading.{Draft, plain, formed}
use Rattle.ded_syntax.specs.Drafts.{some_in_draft}
use Rattle.ded_syntax.specs.Marks.{is_marked, is_marked_atom, is_unfit_argument, is_unfit_atom, some_in}

-- two alternatives of two
crossed : (a b c d : Bool) → ((a || b) || (c || d)) ≡ ((a || c) || (b || d))
crossed true b true d = refl
crossed true b false d = refl
crossed false true true d = refl
crossed false true false true = refl
crossed false true false false = refl
crossed false false c d = refl

any_either : {A : Type 0} (f g h : A → Bool) → ((x : A) → f x ≡ (g x || h x)) → (xs : List A) → list_any f xs ≡ (list_any g xs || list_any h xs)
any_either f g h e [] = refl
any_either f g h e (x ∷ xs) = ap₂ (λ a b. a || b) (e x) (any_either f g h e xs) ∙ crossed (g x) (h x) (list_any g xs) (list_any h xs)

atom_either : (a : FormAtom) → is_unfit_atom a ≡ (is_marked_atom a || is_long_atom a)
atom_either (compare l op r) = refl
atom_either (member n ts) = any_either is_unfit_argument is_marked is_long_argument (λ t. refl) ts

mutual
  unfit_form : (f : Logic FormAtom) → some_atom is_unfit_atom f ≡ (some_atom is_marked_atom f || some_atom is_long_atom f)
  unfit_form (atom a) = atom_either a
  unfit_form always = refl
  unfit_form never = refl
  unfit_form (negation f) = unfit_form f
  unfit_form (every_of fs) = unfit_forms fs
  unfit_form (some_of fs) = unfit_forms fs
  unfit_form (implies f g) = ap₂ (λ a b. a || b) (unfit_form f) (unfit_form g) ∙ crossed (some_atom is_marked_atom f) (some_atom is_long_atom f) (some_atom is_marked_atom g) (some_atom is_long_atom g)
  unfit_form (minus f g) = ap₂ (λ a b. a || b) (unfit_form f) (unfit_form g) ∙ crossed (some_atom is_marked_atom f) (some_atom is_long_atom f) (some_atom is_marked_atom g) (some_atom is_long_atom g)
  unfit_form (exists s k f) = unfit_form f
  unfit_form (forall s k f) = unfit_form f

  unfit_forms : (fs : Logics FormAtom) → some_atom_of is_unfit_atom fs ≡ (some_atom_of is_marked_atom fs || some_atom_of is_long_atom fs)
  unfit_forms none = refl
  unfit_forms (also f fs) = ap₂ (λ a b. a || b) (unfit_form f) (unfit_forms fs) ∙ crossed (some_atom is_marked_atom f) (some_atom is_long_atom f) (some_atom_of is_marked_atom fs) (some_atom_of is_long_atom fs)

unfit_command : (c : CommandForm) → some_in is_unfit_atom c ≡ (some_in is_marked_atom c || some_in is_long_atom c)
unfit_command (insert n fs) = unfit_forms fs
unfit_command (view n h f) = unfit_form f
unfit_command (ask f) = unfit_form f
unfit_command (query h f) = unfit_form f
unfit_command (explain h f) = unfit_form f
unfit_command header = refl
unfit_command (relation n h) = refl
unfit_command (delete n k) = refl
unfit_command (drop n) = refl
unfit_command (keep n) = refl
unfit_command (show n) = refl
unfit_command (box_of n) = refl
unfit_command dump = refl
unfit_command (disjoint n m) = refl
unfit_command (verify n m es) = refl

terminal_either : (p : TerminalForm) → terminal_atom is_unfit_atom p ≡ (terminal_atom is_marked_atom p || terminal_atom is_long_atom p)
terminal_either (leaf f) = unfit_form f
terminal_either nay = refl
terminal_either conjunct = refl
terminal_either disjunct = refl
terminal_either arrow = refl
terminal_either opening = refl
terminal_either closing = refl
terminal_either (binder q c) = refl

pub unfit_draft : (d : Draft) → some_in_draft is_unfit_atom d ≡ (some_in_draft is_marked_atom d || some_in_draft is_long_atom d)
unfit_draft (plain c) = unfit_command c
unfit_draft (formed h ps) = any_either (terminal_atom is_unfit_atom) (terminal_atom is_marked_atom) (terminal_atom is_long_atom) terminal_either ps
