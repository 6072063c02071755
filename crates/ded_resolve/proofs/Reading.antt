-- The parts of a formula that is read are read, each with its scope and its numbers.
use Rattle.std.proofs.Common.{◌≡◌, ℕ, ◌+◌, ◌^◌, ◌<◌, ◌≤◌, false, List, [], ◌∷◌, ◌++◌, length, map, get_or, drop, drop-cons, add-one, arith, refl, sym, ap, ap₂, ◌∙◌, subst}
use Rattle.std.proofs.lemmas.List.{map-append}
use Rattle.ded_model.specs.declared.slot.Sort.{Sort}
use Rattle.ded_model.specs.declared.name.Column.{Column}
use Rattle.ded_model.specs.declared.formula.Operand.{Operand}
use Rattle.ded_model.specs.declared.formula.Formula.{Formula}
use Rattle.ded_model.specs.declared.goal.Goal.{Goal}
use Rattle.ded_model.specs.Point.{Key, name}
use Rattle.ded_model.specs.Logic.{atom, negation, every_of, some_of, implies, exists, forall, Logics, none, also, logics, some_below, quantifiers, quantifiers_of}
use Rattle.ded_model.specs.Form.{Form, FormAtom, member, form, forms}
use Rattle.ded_model.specs.Goal.{GoalForm, GoalAtom, goal_form}
use Rattle.ded_model.specs.Slotted.{SlotScope, heading_scope, goal_below, goals_below, goal_of}
use Rattle.ded_model.specs.Known.{has_unbound, is_unbound_atom, scope_of}
use Rattle.ded_model.specs.Plain.{IsPlain}
use Rattle.ded_resolve.specs.TextSums.{has_text_sum}
use Rattle.ded_resolve.specs.Scope.{sorts_of, AllOther, AreApart, AllUnder, IsNumbered, ArePlaceable}
use Rattle.ded_resolve.specs.Readable.{IsReadable, AreReadable}
use Rattle.ded_resolve.proofs.Operands.{all_placeable}
use Rattle.ded_model.proofs.Bools.{or_false_left, or_false_right}

-- ---- numbers of slots

under_more : (m n : ℕ) (scope : SlotScope) → m ≤ n → AllUnder m scope → AllUnder n scope
under_more m n [] h k = tt
under_more m n (v ∷ scope) h k = (omega (arith, k.0), under_more m n scope h k.1)

pub numbered_more : (scope : SlotScope) (n k : ℕ) → IsNumbered scope n → IsNumbered scope (n + k)
numbered_more scope n k h = record { apart = h.apart; under = under_more n (n + k) scope (omega arith) h.under }

-- a number that is above all is another one
other_above : (n : ℕ) (scope : SlotScope) → AllUnder n scope → AllOther n scope
other_above n [] h = tt
other_above n (v ∷ scope) h = (λ e. below v.1.number n h.0 e, other_above n scope h.1)
  where
    below : (m n : ℕ) → m < n → m ≡ n → ⊥
    below m n h e = omega (arith, h, e)

-- the next number for one more
pub numbered_next : (k : Key) (s : Sort) (scope : SlotScope) (n : ℕ) → IsNumbered scope n → IsNumbered ((k, record { number = n; sort = s }) ∷ scope) (n + 1)
numbered_next k s scope n h = record {
  apart = (other_above n scope h.under, h.apart);
  under = (omega arith, under_more n (n + 1) scope (omega arith) h.under);
}

-- the numbers of a heading's columns
all_from : (i j : ℕ) (h : List Column) → j < i → AllOther j (heading_scope i h)
all_from i j [] l = tt
all_from i j (c ∷ h) l = (λ e. above i j l e, all_from (i + 1) j h (omega arith))
  where
    above : (i j : ℕ) → j < i → i ≡ j → ⊥
    above i j l e = omega (arith, l, e)

apart_heading : (i : ℕ) (h : List Column) → AreApart (heading_scope i h)
apart_heading i [] = tt
apart_heading i (c ∷ h) = (all_from (i + 1) i h (omega arith), apart_heading (i + 1) h)

under_heading : (i n : ℕ) (h : List Column) → i + length h ≤ n → AllUnder n (heading_scope i h)
under_heading i n [] l = tt
under_heading i n (c ∷ h) l = (omega (arith, l), under_heading (i + 1) n h (omega (arith, l)))

pub numbered_heading : (h : List Column) → IsNumbered (heading_scope 0 h) (length h)
numbered_heading h = record { apart = apart_heading 0 h; under = under_heading 0 (length h) h (omega arith) }

-- the sorts of a heading's columns
pub sorts_heading : (i : ℕ) (h : List Column) → sorts_of (heading_scope i h) ≡ scope_of h
sorts_heading i [] = refl
sorts_heading i (c ∷ h) = ap (λ s. (name c.name, c.sort) ∷ s) (sorts_heading (i + 1) h)

-- ---- parts

pub readable_negation : {scope : SlotScope} {n : ℕ} {f : Form} → IsReadable scope n (negation f) → IsReadable scope n f
readable_negation h = record { numbered = h.numbered; plain = h.plain; bound = h.bound; sorted = h.sorted; few = h.few }

pub readable_every : {scope : SlotScope} {n : ℕ} {fs : Logics FormAtom} → IsReadable scope n (every_of fs) → AreReadable scope n fs
readable_every h = record { numbered = h.numbered; plain = h.plain; bound = h.bound; sorted = h.sorted; few = h.few }

pub readable_some : {scope : SlotScope} {n : ℕ} {fs : Logics FormAtom} → IsReadable scope n (some_of fs) → AreReadable scope n fs
readable_some h = record { numbered = h.numbered; plain = h.plain; bound = h.bound; sorted = h.sorted; few = h.few }

pub readable_left : {scope : SlotScope} {n : ℕ} {f g : Form} → IsReadable scope n (implies f g) → IsReadable scope n f
readable_left h = record { numbered = h.numbered; plain = h.plain.0; bound = or_false_left _ _ h.bound; sorted = or_false_left _ _ h.sorted; few = omega (arith, h.few) }

pub readable_right : {scope : SlotScope} {n : ℕ} {f g : Form} → IsReadable scope n (implies f g) → IsReadable scope (n + quantifiers f) g
readable_right {scope} {n} {f} {g} h = record {
  numbered = numbered_more scope n (quantifiers f) h.numbered;
  plain = h.plain.1;
  bound = or_false_right (some_below is_unbound_atom (sorts_of scope) f) _ h.bound;
  sorted = or_false_right (some_below has_text_sum (sorts_of scope) f) _ h.sorted;
  few = omega (arith, h.few);
}

pub readable_exists : {scope : SlotScope} {n : ℕ} {s : Sort} {k : Key} {f : Form} → IsReadable scope n (exists s k f) → IsReadable ((k, record { number = n; sort = s }) ∷ scope) (n + 1) f
readable_exists {scope} {n} {s} {k} {f} h = record { numbered = numbered_next k s scope n h.numbered; plain = h.plain; bound = h.bound; sorted = h.sorted; few = omega (arith, h.few) }

pub readable_forall : {scope : SlotScope} {n : ℕ} {s : Sort} {k : Key} {f : Form} → IsReadable scope n (forall s k f) → IsReadable ((k, record { number = n; sort = s }) ∷ scope) (n + 1) f
readable_forall {scope} {n} {s} {k} {f} h = record { numbered = numbered_next k s scope n h.numbered; plain = h.plain; bound = h.bound; sorted = h.sorted; few = omega (arith, h.few) }

pub readable_first : {scope : SlotScope} {n : ℕ} {f : Form} {fs : Logics FormAtom} → AreReadable scope n (also f fs) → IsReadable scope n f
readable_first h = record { numbered = h.numbered; plain = h.plain.0; bound = or_false_left _ _ h.bound; sorted = or_false_left _ _ h.sorted; few = omega (arith, h.few) }

pub readable_rest : {scope : SlotScope} {n : ℕ} {f : Form} {fs : Logics FormAtom} → AreReadable scope n (also f fs) → AreReadable scope (n + quantifiers f) fs
readable_rest {scope} {n} {f} {fs} h = record {
  numbered = numbered_more scope n (quantifiers f) h.numbered;
  plain = h.plain.1;
  bound = or_false_right (some_below is_unbound_atom (sorts_of scope) f) _ h.bound;
  sorted = or_false_right (some_below has_text_sum (sorts_of scope) f) _ h.sorted;
  few = omega (arith, h.few);
}

-- the arguments of an atom
pub readable_member : {scope : SlotScope} {n : ℕ} {x : List ℕ} {ts : List Operand} → IsReadable scope n (atom (member x ts)) → ArePlaceable scope ts
readable_member {scope} {n} {x} {ts} h = all_placeable scope ts h.numbered.apart h.plain h.bound h.sorted

-- ---- the goals of a list, one after the other

-- goals, and then those of a list
abbrev pub followed : List GoalForm → Logics GoalAtom → Logics GoalAtom
followed [] gs = gs
followed (g ∷ out) gs = also g (followed out gs)

followed-append : (out : List GoalForm) (g : GoalForm) (gs : Logics GoalAtom) → followed (out ++ g ∷ []) gs ≡ followed out (also g gs)
followed-append [] g gs = refl
followed-append (o ∷ out) g gs = ap (also o) (followed-append out g gs)

followed-none : (out : List GoalForm) → followed out none ≡ logics out
followed-none [] = refl
followed-none (o ∷ out) = ap (also o) (followed-none out)

-- what is made of the formulas from the start on, where those of `rest` are left
pub record Gathering (scope : SlotScope) (start : ℕ) (all : Logics FormAtom) (next : ℕ) (rest : Logics FormAtom) (out : List GoalForm) : Type 0 where
  pub readable : AreReadable scope next rest
  pub goals : followed out (goals_below scope next rest) ≡ goals_below scope start all
  pub count : next + quantifiers_of rest ≡ start + quantifiers_of all

pub gathering_none : (scope : SlotScope) (start : ℕ) (all : Logics FormAtom) → AreReadable scope start all → Gathering scope start all start all []
gathering_none scope start all h = record { readable = h; goals = refl; count = refl }

pub gathering_more : (scope : SlotScope) (start : ℕ) (all : Logics FormAtom) (next next' : ℕ) (f : Form) (rest : Logics FormAtom) (out : List GoalForm) (g : GoalForm)
    → g ≡ goal_below scope next f → next' ≡ next + quantifiers f → Gathering scope start all next (also f rest) out → Gathering scope start all next' rest (out ++ g ∷ [])
gathering_more scope start all next next' f rest out g e i h = record {
  readable = subst (λ n. AreReadable scope n rest) (sym i) (readable_rest h.readable);
  goals = followed-append out g (goals_below scope next' rest) ∙ ap₂ (λ x n. followed out (also x (goals_below scope n rest))) e i ∙ h.goals;
  count = count next next' (quantifiers f) (quantifiers_of rest) (start + quantifiers_of all) i h.count;
}
  where
    count : (n n' q r t : ℕ) → n' ≡ n + q → n + (q + r) ≡ t → n' + r ≡ t
    count n n' q r t i h = omega (arith, i, h)

pub gathering_goals : (scope : SlotScope) (start : ℕ) (all : Logics FormAtom) (next : ℕ) (out : List GoalForm) → Gathering scope start all next none out → logics out ≡ goals_below scope start all
gathering_goals scope start all next out h = sym (followed-none out) ∙ h.goals

pub gathering_count : (scope : SlotScope) (start : ℕ) (all : Logics FormAtom) (next : ℕ) (out : List GoalForm) → Gathering scope start all next none out → next ≡ start + quantifiers_of all
gathering_count scope start all next out h = count next (start + quantifiers_of all) h.count
  where
    count : (n t : ℕ) → n + 0 ≡ t → n ≡ t
    count n t h = omega (arith, h)

-- ---- as the code has them

-- the second part, after the first one is read
pub right_as : (scope scope' : SlotScope) (n n' : ℕ) (whole f g : Form) → whole ≡ implies f g → scope' ≡ scope → n' ≡ n + quantifiers f → IsReadable scope n whole → IsReadable scope' n' g
right_as scope scope' n n' whole f g e s i h = subst (λ m. IsReadable scope' m g) (sym i) (subst (λ t. IsReadable t (n + quantifiers f) g) (sym s) (readable_right (subst (IsReadable scope n) e h)))

-- what stands below a quantifier
pub exists_as : (scope scope' : SlotScope) (n n' : ℕ) (whole f : Form) (s : Sort) (k : Key) → whole ≡ exists s k f → scope' ≡ (k, record { number = n; sort = s }) ∷ scope → n' ≡ n + 1 → IsReadable scope n whole
    → IsReadable scope' n' f
exists_as scope scope' n n' whole f s k e t i h = subst (λ m. IsReadable scope' m f) (sym i) (subst (λ t. IsReadable t (n + 1) f) (sym t) (readable_exists (subst (IsReadable scope n) e h)))

pub forall_as : (scope scope' : SlotScope) (n n' : ℕ) (whole f : Form) (s : Sort) (k : Key) → whole ≡ forall s k f → scope' ≡ (k, record { number = n; sort = s }) ∷ scope → n' ≡ n + 1 → IsReadable scope n whole
    → IsReadable scope' n' f
forall_as scope scope' n n' whole f s k e t i h = subst (λ m. IsReadable scope' m f) (sym i) (subst (λ t. IsReadable t (n + 1) f) (sym t) (readable_forall (subst (IsReadable scope n) e h)))

-- the arguments of an atom
pub member_as : (scope : SlotScope) (n : ℕ) (whole : Form) (x : List ℕ) (ts : List Operand) → whole ≡ atom (member x ts) → IsReadable scope n whole → ArePlaceable scope ts
member_as scope n whole x ts e h = readable_member (subst (IsReadable scope n) e h)

-- the next formula of a list is read
pub gathering_step : (scope scope' : SlotScope) (start : ℕ) (fs : List Formula) (next next' i : ℕ) (f : Formula) (out out' : List Goal) (g : Goal)
    → i < length fs → f ≡ get_or fs i f → scope' ≡ scope → goal_form g ≡ goal_below scope next (form f) → next' ≡ next + quantifiers (form f) → out' ≡ out ++ g ∷ []
    → Gathering scope start (forms fs) next (forms (drop i fs)) (map goal_form out) → Gathering scope' start (forms fs) next' (forms (drop (i + 1) fs)) (map goal_form out')
gathering_step scope scope' start fs next next' i f out out' g lt here s e q o h =
    subst (λ t. Gathering t start (forms fs) next' (forms (drop (i + 1) fs)) (map goal_form out')) (sym s)
    (subst (Gathering scope start (forms fs) next' (forms (drop (i + 1) fs))) (sym (ap (map goal_form) o ∙ map-append goal_form out (g ∷ [])))
    (gathering_more scope start (forms fs) next next' (form f) (forms (drop (i + 1) fs)) (map goal_form out) (goal_form g) e q
    (subst (λ l. Gathering scope start (forms fs) next (forms l) (map goal_form out)) split h)))
  where
    split : drop i fs ≡ f ∷ drop (i + 1) fs
    split = drop-cons fs i f lt ∙ ap₂ (λ x k. x ∷ drop k fs) (sym here) (sym (add-one i))

-- a formula over a heading is read in the heading's scope
pub heading_readable : (h : List Column) (f : Form) (scope : SlotScope) (n : ℕ) → scope ≡ heading_scope 0 h → n ≡ length h → IsPlain f → has_unbound h f ≡ false → some_below has_text_sum (scope_of h) f ≡ false
    → length h + quantifiers f < 2 ^ 32 → IsReadable scope n f
heading_readable h f scope n e i p b s few =
    subst (λ m. IsReadable scope m f) (sym i) (subst (λ t. IsReadable t (length h) f) (sym e) (record {
      numbered = numbered_heading h;
      plain = p;
      bound = ap (λ t. some_below is_unbound_atom t f) (sorts_heading 0 h) ∙ b;
      sorted = ap (λ t. some_below has_text_sum t f) (sorts_heading 0 h) ∙ s;
      few = few;
    }))

pub heading_goal : (h : List Column) (f : Form) (scope : SlotScope) (n : ℕ) → scope ≡ heading_scope 0 h → n ≡ length h → goal_below scope n f ≡ goal_of h f
unfolding goal_of
heading_goal h f scope n e i = ap₂ (λ s m. goal_below s m f) e i
