-- What the names of a catalogue mean is definable, and so is every formula, goal and plan over it.
--
-- By recursion on the entries in order of definition: where the names before it are definable of all arguments that are linear
-- forms and words, so is the entry. A relation is its list of tuples, a view its formula, each at the point that the arguments
-- make, whose values are put in place of the keys. With every atom definable, the recursion over the formula (`solve`) does
-- the rest. Nothing is asked of the point, not even that its denominator is above 0.
use Rattle.std.proofs.Common.{◌≡◌, ℕ, ◌+◌, ◌*◌, ◌⊎◌, Bool, true, false, cond, List, [], ◌∷◌, map, refl, sym, ap, ◌∙◌, subst, bytes_eq}
use Rattle.std.specs.Prelude.{pos, IsTrue, MatchBool}
use Rattle.ded_model.specs.declared.slot.Sort.{Sort}
use Rattle.ded_model.specs.declared.slot.Sort.TheVariants.{Rat, Text}
use Rattle.ded_model.specs.declared.name.Column.{Column}
use Rattle.ded_model.specs.Form.{Form, FormAtom, compare, member}
use Rattle.ded_model.specs.Goal as goal
use Rattle.ded_model.specs.Goal.{GoalAtom, GoalForm, GoalAtomHolds}
use Rattle.ded_model.specs.PlanForm.{PlanAtom, scan, rows, PlanForm, PlanAtomHolds}
use Rattle.ded_model.specs.Logic.{Sat}
use Rattle.ded_model.specs.Point.{Key, slot, name, Value, Point, same_key, absent, last_from}
use Rattle.ded_model.specs.Row.{tuples_hold}
use Rattle.ded_model.specs.Value.{OperandValue, operand_value, slot_value, place_value, overs, Meaning, NameHolds}
use Rattle.ded_model.specs.Catalogue.{Entry, relation, view, Catalogue, entry_name, tuples_of, argument_coordinate, at_slots, at_names, AtomHolds, read_as, read, entry_meaning, with_entry, meaning_from, stored, meaning, Holds, GoalHolds, PlanHolds, GivenHolds}
use Rattle.ded_model.specs.Made.{Reading, itself, closure_of, interior_of, reading}
use Rattle.ded_model.proofs.Terms.{linear_at, const, linear-zero, quoted, word_at, Put}
use Rattle.ded_laws.proofs.Saying.{Says, absent_put, absent-says, either_says, puts_numbers, puts_texts}
use Rattle.ded_model.proofs.Definable.{Definable, decided, stable, like, never_definable, put_definable, solve}
use Rattle.ded_model.proofs.Atoms.{row_definable, theme_definable, tuple_definable, tuples_definable}
use Rattle.ded_laws.proofs.Closures.{close_definable, inside_definable}
use Rattle.ded_model.proofs.Sats.{Respects, with_entry-respects, stored-respects}
use Rattle.ded_laws.proofs.ValueForms.{ValueForm, value_of, operand_form, operand_form-is, slot_form, slot_form-is, place_form, place_form-is, compare_definable, args, values_at, form_overs, form_overs-is, puts, puts-are}

-- ---- points made of arguments
abbrev pub column_put : Sort → Put → Put
column_put Rat t = record { number = t.number; word = quoted [] }
column_put Text t = record { number = const (pos 0); word = t.word }

pub column-says : (s : Sort) (t : Put) (p : Point) → Says p (argument_coordinate s (linear_at t.number p, word_at t.word p)) (column_put s t)
column-says Rat t p = record { number = refl; text = refl }
column-says Text t p = record { number = sym (linear-zero p); text = refl }

abbrev pub slot_puts : Put → ℕ → List Column → List Put → Key → Put
slot_puts w i [] xs k = w
slot_puts w i (c ∷ cs) [] k = w
slot_puts w i (c ∷ cs) (t ∷ ts) k = slot_puts (cond (same_key k (slot (record { number = i; sort = c.sort }))) (column_put c.sort t) w) (i + 1) cs ts k

pub slots-say : (p : Point) (i : ℕ) (h : List Column) (xs : List Put) (v : Value) (w : Put) → Says p v w → (k : Key) → Says p (last_from v (at_slots i h (args xs p)) k) (slot_puts w i h xs k)
slots-say p i [] xs v w s k = s
slots-say p i (c ∷ cs) [] v w s k = s
slots-say p i (c ∷ cs) (t ∷ ts) v w s k =
    slots-say p (i + 1) cs ts _ _
    (either_says p (same_key k (slot (record { number = i; sort = c.sort }))) (argument_coordinate c.sort (linear_at t.number p, word_at t.word p)) v (column_put c.sort t) w (column-says c.sort t p) s) k

abbrev pub name_puts : Put → List Column → List Put → Key → Put
name_puts w [] xs k = w
name_puts w (c ∷ cs) [] k = w
name_puts w (c ∷ cs) (t ∷ ts) k = name_puts (cond (same_key k (name c.name)) (column_put c.sort t) w) cs ts k

pub names-say : (p : Point) (h : List Column) (xs : List Put) (v : Value) (w : Put) → Says p v w → (k : Key) → Says p (last_from v (at_names h (args xs p)) k) (name_puts w h xs k)
names-say p [] xs v w s k = s
names-say p (c ∷ cs) [] v w s k = s
names-say p (c ∷ cs) (t ∷ ts) v w s k =
    names-say p cs ts _ _ (either_says p (same_key k (name c.name)) (argument_coordinate c.sort (linear_at t.number p, word_at t.word p)) v (column_put c.sort t) w (column-says c.sort t p) s) k

-- ---- names
-- a name holds of linear forms and words, over the point's denominator times a number, at the points of a list
pub record IsDefinableMeaning (I : Meaning) : Type 0 where
  pub at : (n : List ℕ) (m : ℕ) (xs : List Put) → Definable (λ p. I n (p.den * m) (args xs p))

-- values that a list of forms says
unfoldable pub name_definable : (I : Meaning) → IsDefinableMeaning I → (n : List ℕ) (vs : List ValueForm) (values : Point → List OperandValue) → ((p : Point) → values_at vs p ≡ values p)
    → Definable (λ p. NameHolds I n p.den (values p))
name_definable I S n vs values e =
    like (λ p. I n (p.den * form_overs vs) (args (puts vs) p)) (λ p. NameHolds I n p.den (values p))
    (λ p. let same = named p in (subst (λ T. T) same, subst (λ T. T) (sym same)))
    (S.at n (form_overs vs) (puts vs))
  where
    named : (p : Point) → I n (p.den * form_overs vs) (args (puts vs) p) ≡ NameHolds I n p.den (values p)
    named p =
        ap (λ m. I n (p.den * m) (args (puts vs) p)) (form_overs-is vs p)
        ∙ ap (I n (p.den * overs (values_at vs p))) (puts-are vs p)
        ∙ ap (NameHolds I n p.den) (e p)

pub map-map : {A : Type 0} (f : A → ValueForm) (g : A → Point → OperandValue) (p : Point) → ((a : A) → value_of (f a) p ≡ g a p) → (xs : List A) → values_at (map f xs) p ≡ map (λ a. g a p) xs
map-map f g p e [] = refl
map-map f g p e (x ∷ xs) = rw (e x, map-map f g p e xs) refl

-- ---- atoms
unfoldable pub form_atom_definable : (I : Meaning) → IsDefinableMeaning I → (a : FormAtom) → Definable (AtomHolds I a)
form_atom_definable I S (compare l op r) = compare_definable l op r
form_atom_definable I S (member n ts) = name_definable I S n (map operand_form ts) (λ p. map (λ t. operand_value t p) ts) (λ p. map-map operand_form operand_value p (λ t. operand_form-is t p) ts)

unfoldable pub goal_atom_definable : (I : Meaning) → IsDefinableMeaning I → (a : GoalAtom) → Definable (GoalAtomHolds I a)
goal_atom_definable I S (goal.linear r) = row_definable r
goal_atom_definable I S (goal.theme a) = theme_definable a
goal_atom_definable I S (goal.member n ts) = name_definable I S n (map place_form ts) (λ p. map (λ t. place_value t p) ts) (λ p. map-map place_form place_value p (λ t. place_form-is t p) ts)

unfoldable pub plan_atom_definable : (I : Meaning) → IsDefinableMeaning I → (a : PlanAtom) → Definable (PlanAtomHolds I a)
plan_atom_definable I S (scan n ss) = name_definable I S n (map slot_form ss) (λ p. map (slot_value p) ss) (λ p. map-map slot_form (λ s q. slot_value q s) p (λ s. slot_form-is s p) ss)
plan_atom_definable I S (rows t) = tuple_definable t

-- ---- made names: closures and interiors of what is definable are definable
unfoldable pub read_as_definable : (I : Meaning) → IsDefinableMeaning I → Respects I → (n : List ℕ) (r : Reading) (m : ℕ) (xs : List Put) → Definable (λ p. read_as I n r (p.den * m) (args xs p))
read_as_definable I S R n itself m xs = S.at n m xs
read_as_definable I S R n (closure_of o) m xs = close_definable (I o) (R.keeps o) (S.at o) m xs
read_as_definable I S R n (interior_of o) m xs = inside_definable (I o) (R.keeps o) (S.at o) m xs

unfoldable pub read_definable : (I : Meaning) → IsDefinableMeaning I → Respects I → IsDefinableMeaning (read I)
read_definable I S R = record { at = λ n m xs. read_as_definable I S R n (reading n) m xs }

-- ---- entries and catalogues
unfoldable pub entry_definable : (I : Meaning) → IsDefinableMeaning I → Respects I → (e : Entry) (m : ℕ) (xs : List Put) → Definable (λ p. entry_meaning I e (p.den * m) (args xs p))
entry_definable I S R (relation n h c ts) m xs =
    put_definable (λ q. IsTrue (tuples_hold (tuples_of ts) q)) (tuples_definable (tuples_of ts)) (slot_puts absent_put 0 h xs) m (λ p. record { den = p.den * m; coords = at_slots 0 h (args xs p) })
    (λ p. puts_numbers (slot_puts absent_put 0 h xs) m p (record { den = p.den * m; coords = at_slots 0 h (args xs p) }) refl (slots-say p 0 h xs absent absent_put (absent-says p)))
    (λ p. puts_texts (slot_puts absent_put 0 h xs) p (record { den = p.den * m; coords = at_slots 0 h (args xs p) }) (slots-say p 0 h xs absent absent_put (absent-says p)))
entry_definable I S R (view n h f) m xs =
    put_definable (Sat (AtomHolds (read I)) f) (solve (AtomHolds (read I)) (form_atom_definable (read I) (read_definable I S R)) f) (name_puts absent_put h xs) m (λ p. record { den = p.den * m; coords = at_names h (args xs p) })
    (λ p. puts_numbers (name_puts absent_put h xs) m p (record { den = p.den * m; coords = at_names h (args xs p) }) refl (names-say p h xs absent absent_put (absent-says p)))
    (λ p. puts_texts (name_puts absent_put h xs) p (record { den = p.den * m; coords = at_names h (args xs p) }) (names-say p h xs absent absent_put (absent-says p)))

unfoldable pub choose_definable : (b : Bool) (P Q : Point → Type 0) → Definable P → Definable Q → Definable (λ p. MatchBool b (P p) (Q p))
choose_definable true P Q D E = D
choose_definable false P Q D E = E

unfoldable pub meaning_from_definable : (es : List Entry) (I : Meaning) → IsDefinableMeaning I → Respects I → IsDefinableMeaning (meaning_from I es)
meaning_from_definable [] I S R = S
meaning_from_definable (e ∷ es) I S R =
    meaning_from_definable es (with_entry I e)
    (record { at = λ n m xs. choose_definable (bytes_eq n (entry_name e)) (λ p. entry_meaning I e (p.den * m) (args xs p)) (λ p. I n (p.den * m) (args xs p)) (entry_definable I S R e m xs) (S.at n m xs) })
    (with_entry-respects I R e)

unfoldable pub stored_definable : (c : Catalogue) → IsDefinableMeaning (stored c)
unfolding stored
stored_definable c = meaning_from_definable c.entries (λ n d xs. ⊥) (record { at = λ n m xs. never_definable }) (record { keeps = λ n d d' xs ys i j same h. h })

unfoldable pub meaning_definable : (c : Catalogue) → IsDefinableMeaning (meaning c)
unfolding meaning
meaning_definable c = read_definable (stored c) (stored_definable c) (stored-respects c)

-- ---- over a catalogue
unfoldable pub Holds_definable : (c : Catalogue) (f : Form) → Definable (Holds c f)
Holds_definable c f = solve (AtomHolds (meaning c)) (form_atom_definable (meaning c) (meaning_definable c)) f

unfoldable pub goal_definable : (c : Catalogue) (g : GoalForm) → Definable (GoalHolds c g)
goal_definable c g = solve (GoalAtomHolds (meaning c)) (goal_atom_definable (meaning c) (meaning_definable c)) g

unfoldable pub plan_definable : (c : Catalogue) (f : PlanForm) → Definable (PlanHolds c f)
plan_definable c f = solve (PlanAtomHolds (meaning c)) (plan_atom_definable (meaning c) (meaning_definable c)) f

unfoldable pub given_definable : (c : Catalogue) (f : PlanForm) → Definable (GivenHolds c f)
given_definable c f = solve (PlanAtomHolds (stored c)) (plan_atom_definable (stored c) (stored_definable c)) f

-- it holds at a point, or it does not
pub Holds_decided : (c : Catalogue) (f : Form) (p : Point) → Holds c f p ⊎ (¬ Holds c f p)
Holds_decided c f p = decided (Holds c f) (Holds_definable c f) p

pub goal_decided : (c : Catalogue) (g : GoalForm) (p : Point) → GoalHolds c g p ⊎ (¬ GoalHolds c g p)
goal_decided c g p = decided (GoalHolds c g) (goal_definable c g) p

pub plan_decided : (c : Catalogue) (f : PlanForm) (p : Point) → PlanHolds c f p ⊎ (¬ PlanHolds c f p)
plan_decided c f p = decided (PlanHolds c f) (plan_definable c f) p

-- it holds where it does not fail
pub Holds_stable : (c : Catalogue) (f : Form) (p : Point) → ¬ (¬ Holds c f p) → Holds c f p
Holds_stable c f p h = stable (Holds c f) (Holds_definable c f) p h

pub goal_stable : (c : Catalogue) (g : GoalForm) (p : Point) → ¬ (¬ GoalHolds c g p) → GoalHolds c g p
goal_stable c g p h = stable (GoalHolds c g) (goal_definable c g) p h

pub plan_stable : (c : Catalogue) (f : PlanForm) (p : Point) → ¬ (¬ PlanHolds c f p) → PlanHolds c f p
plan_stable c f p h = stable (PlanHolds c f) (plan_definable c f) p h

-- the same of plans over given relations
pub given_decided : (c : Catalogue) (f : PlanForm) (p : Point) → GivenHolds c f p ⊎ (¬ GivenHolds c f p)
given_decided c f p = decided (GivenHolds c f) (given_definable c f) p

pub given_stable : (c : Catalogue) (f : PlanForm) (p : Point) → ¬ (¬ GivenHolds c f p) → GivenHolds c f p
given_stable c f p h = stable (GivenHolds c f) (given_definable c f) p h
