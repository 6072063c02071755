-- What is accepted over the names is ready to be made by slots.
use Rattle.std.proofs.Common.{◌≡◌, ℕ, false, List, [], ◌∷◌, map, refl, sym, ap, ap₂, ◌∙◌, subst}
use Rattle.ded_model.specs.declared.command.Refusal.TheVariants.{Many, Unbound, WrongSort}
use Rattle.ded_model.specs.declared.name.Column.{Column}
use Rattle.ded_model.specs.Catalogue.{Catalogue}
use Rattle.ded_model.specs.Command.{CommandForm, insert, view, ask, query, explain}
use Rattle.ded_model.specs.declared.formula.Formula.{Formula}
use Rattle.ded_model.specs.Form.{Form, FormAtom, form, forms}
use Rattle.ded_model.specs.Known.{has_missorted}
use Rattle.ded_model.specs.Logic.{Logics, every_of, logics}
use Rattle.ded_model.specs.LongRows.{has_long_row}
use Rattle.ded_model.specs.Row.{Atom}
use Rattle.ded_model.specs.Slotted.{tuple_of}
use Rattle.ded_model.specs.Plain.{IsPlainCommand}
use Rattle.ded_sorts.specs.Checks.{HasNoCause, forms_of}
use Rattle.ded_model.specs.Entries.{known, columns_in}
use Rattle.ded_resolve.proofs.Accepted.{sums_of-accepted, comparisons_of-accepted, few-accepted}
use Rattle.ded_resolve.specs.Ready.{IsReady, AreReady}
use Rattle.ded_model.proofs.Bools.{or_false_left}

-- as a fact of the command that it is
along : (P : CommandForm → Type 0) (k l : CommandForm) → l ≡ k → P k → P l
along P k l e h = subst P (sym e) h

-- the formulas of commands
pub view_ready : (c : Catalogue) (k : CommandForm) (n : List ℕ) (h : List Column) (f : Form) → k ≡ view n h f → IsPlainCommand k → HasNoCause c k → IsReady h f
view_ready c k n h f e = along (λ k. IsPlainCommand k → HasNoCause c k → IsReady h f) (view n h f) k e (λ p a. record {
  plain = p;
  bound = a Unbound refl;
  sorted = sums_of-accepted (known c) h f (or_false_left (has_missorted (known c) h f) _ (a WrongSort refl));
  few = few-accepted h f (a Many refl);
})

pub ask_ready : (c : Catalogue) (k : CommandForm) (f : Form) → k ≡ ask f → IsPlainCommand k → HasNoCause c k → IsReady [] f
ask_ready c k f e = along (λ k. IsPlainCommand k → HasNoCause c k → IsReady [] f) (ask f) k e (λ p a. record {
  plain = p;
  bound = a Unbound refl;
  sorted = sums_of-accepted (known c) [] f (or_false_left (has_missorted (known c) [] f) _ (a WrongSort refl));
  few = few-accepted [] f (a Many refl);
})

pub query_ready : (c : Catalogue) (k : CommandForm) (h : List Column) (f : Form) → k ≡ query h f → IsPlainCommand k → HasNoCause c k → IsReady h f
query_ready c k h f e = along (λ k. IsPlainCommand k → HasNoCause c k → IsReady h f) (query h f) k e (λ p a. record {
  plain = p;
  bound = a Unbound refl;
  sorted = sums_of-accepted (known c) h f (or_false_left (has_missorted (known c) h f) _ (a WrongSort refl));
  few = few-accepted h f (a Many refl);
})

pub explain_ready : (c : Catalogue) (k : CommandForm) (h : List Column) (f : Form) → k ≡ explain h f → IsPlainCommand k → HasNoCause c k → IsReady h f
explain_ready c k h f e = along (λ k. IsPlainCommand k → HasNoCause c k → IsReady h f) (explain h f) k e (λ p a. record {
  plain = p;
  bound = a Unbound refl;
  sorted = sums_of-accepted (known c) h f (or_false_left (has_missorted (known c) h f) _ (a WrongSort refl));
  few = few-accepted h f (a Many refl);
})

-- the comparisons of an insert
pub insert_ready : (c : Catalogue) (k : CommandForm) (n : List ℕ) (fs : Logics FormAtom) → k ≡ insert n fs → IsPlainCommand k → has_long_row k ≡ false → HasNoCause c k → AreReady (columns_in c n) fs
insert_ready c k n fs e = along (λ k. IsPlainCommand k → has_long_row k ≡ false → HasNoCause c k → AreReady (columns_in c n) fs) (insert n fs) k e (λ p s a. record {
  plain = p;
  bound = a Unbound refl;
  sorted = comparisons_of-accepted (known c) (columns_in c n) (every_of fs) (or_false_left (has_missorted (known c) (columns_in c n) (every_of fs)) _ (a WrongSort refl));
  short = s;
})

-- the formulas of a list
pub forms_are : (fs : List Form) → fs ≡ forms_of (logics fs)
forms_are [] = refl
forms_are (f ∷ fs) = ap (λ gs. f ∷ gs) (forms_are fs)

-- the tuple of comparisons over the columns of a relation
pub tuple_is : (t : List Atom) (k h : List Column) (xs ys : List Formula) → t ≡ tuple_of k (map form xs) → k ≡ h → xs ≡ ys → t ≡ tuple_of h (forms_of (forms ys))
tuple_is t k h xs ys e f i = e ∙ ap₂ tuple_of f (ap (map form) i ∙ forms_are (map form ys))
