-- Below each place of a formula the slots in scope are called by the names that mean them.
--
-- The columns have the slots from 0 on, and the quantifiers those behind, in the order in which they stand; the places of a formula
-- have their names in this order. A key that is a slot is meant by no name.
use Rattle.std.proofs.Common.{◌≡◌, ℕ, suc, ◌+◌, Bool, true, false, cond, is_none, Some, unwrap_or, List, [], ◌∷◌, ◌++◌, length, length-append, add-one, arith, refl, sym, ap, ap₂, ◌∙◌, subst, true≢false}
use Rattle.std.proofs.lemmas.Slice.Eq.{bytes_eq-Decides}
use Rattle.ded_model.specs.declared.name.Column.{Column}
use Rattle.ded_model.specs.declared.slot.Sort.{Sort}
use Rattle.ded_model.specs.declared.slot.Sort.TheVariants.{Rat}
use Rattle.ded_model.specs.Form.{Form, FormAtom}
use Rattle.ded_model.specs.Known.{is_unbound_name}
use Rattle.ded_model.specs.Logic.{atom, always, never, negation, every_of, some_of, implies, minus, exists, forall, Logics, none, also, quantifiers, quantifiers_of}
use Rattle.ded_model.specs.Point.{Key, slot, name, same_key}
use Rattle.ded_model.specs.Slotted.{SlotScope, nearest, slot_of, heading_scope}
use Rattle.ded_resolve.specs.Scope.{sorts_of}
use Rattle.ded_print.specs.Plans.{key_text}
use Rattle.ded_print.specs.Tuples.{Names, column_at, column_names}
use Rattle.ded_dump.specs.Headings.{variables, variables_of, places}

-- the columns are the names of the slots from n on
abbrev pub HasAt : Names → ℕ → List Column → Type 0
HasAt names n [] = Unit {0}
HasAt names n (c ∷ cs) = (names (record { number = n; sort = c.sort }) ≡ c.name) × HasAt names (n + 1) cs

-- each bound name is that of its slot
pub record IsCalled (scope : SlotScope) (names : Names) : Type 0 where
  pub each : (x : List ℕ) → is_unbound_name (sorts_of scope) x ≡ false → names (slot_of scope x) ≡ x

-- ---- scopes

word_of : (k : Key) (x : List ℕ) → same_key k (name x) ≡ true → key_text k ≡ x
word_of (slot s) x f = absurd (true≢false (sym f))
word_of (name y) x f = (bytes_eq-Decides y x).0 f

-- a new key has its slot
pub called_next : (names : Names) (scope : SlotScope) (n : ℕ) (s : Sort) (k : Key) → names (record { number = n; sort = s }) ≡ key_text k → IsCalled scope names
    → IsCalled ((k, record { number = n; sort = s }) ∷ scope) names
called_next names scope n s k e h = record { each = λ x u. go x (same_key k (name x)) refl u }
  where
    go : (x : List ℕ) (b : Bool) → same_key k (name x) ≡ b → is_none (cond b (Some s) (nearest (sorts_of scope) (name x))) ≡ false
        → names (unwrap_or (cond b (Some (record { number = n; sort = s })) (nearest scope (name x))) (record { number = 0; sort = Rat })) ≡ x
    go x true f v = e ∙ word_of k x f
    go x false f v = h.each x v

pub called_heading : (names : Names) (i : ℕ) (h : List Column) → HasAt names i h → IsCalled (heading_scope i h) names
called_heading names i [] a = record { each = λ x u. absurd (true≢false u) }
called_heading names i (c ∷ h) a = called_next names (heading_scope (i + 1) h) i c.sort (name c.name) a.0 (called_heading names (i + 1) h a.1)

-- ---- places

pub has-append : (names : Names) (n : ℕ) (xs ys : List Column) → HasAt names n (xs ++ ys) → HasAt names n xs × HasAt names (n + length xs) ys
has-append names n [] ys h = (tt, subst (λ m. HasAt names m ys) (none n) h)
  where
    none : (n : ℕ) → n ≡ n + 0
    none n = omega arith
has-append names n (x ∷ xs) ys h =
    let r = has-append names (n + 1) xs ys h.1 in
    ((h.0, r.0), subst (λ m. HasAt names m ys) (one n (length xs)) r.1)
  where
    one : (n m : ℕ) → (n + 1) + m ≡ n + suc m
    one n m = omega arith

-- one more column before
has_shift : (c : Column) (cs : List Column) (n : ℕ) (vs : List Column) → HasAt (column_names cs) n vs → HasAt (column_names (c ∷ cs)) (n + 1) vs
has_shift c cs n [] h = tt
has_shift c cs n (v ∷ vs) h = (ap (column_at (c ∷ cs)) (add-one n) ∙ h.0, has_shift c cs (n + 1) vs h.1)

has_all : (vs : List Column) → HasAt (column_names vs) 0 vs
has_all [] = tt
has_all (v ∷ vs) = (refl, has_shift v vs 0 vs (has_all vs))

-- the names of a formula's places: the heading's, and then the quantifiers'
pub place_names : (h : List Column) (f : Form) → HasAt (column_names (places h f)) 0 h × HasAt (column_names (places h f)) (length h) (variables f)
place_names h f =
    let a = has-append (column_names (places h f)) 0 h (variables f) (has_all (h ++ variables f)) in
    (a.0, subst (λ m. HasAt (column_names (places h f)) m (variables f)) (from_zero (length h)) a.1)
  where
    from_zero : (n : ℕ) → 0 + n ≡ n
    from_zero n = omega arith

-- ---- counted

two_lists : (xs ys : List Column) (m n : ℕ) → length xs ≡ m → length ys ≡ n → length (xs ++ ys) ≡ m + n
two_lists xs ys m n e f = length-append xs ys ∙ ap₂ (λ a b. a + b) e f

mutual
  pub variables_counted : (f : Form) → length (variables f) ≡ quantifiers f
  variables_counted (atom a) = refl
  variables_counted always = refl
  variables_counted never = refl
  variables_counted (negation f) = variables_counted f
  variables_counted (every_of fs) = all_counted fs
  variables_counted (some_of fs) = all_counted fs
  variables_counted (implies f g) = two_lists (variables f) (variables g) (quantifiers f) (quantifiers g) (variables_counted f) (variables_counted g)
  variables_counted (minus f g) = two_lists (variables f) (variables g) (quantifiers f) (quantifiers g) (variables_counted f) (variables_counted g)
  variables_counted (exists s k f) = sym (add-one (length (variables f))) ∙ ap (λ n. n + 1) (variables_counted f)
  variables_counted (forall s k f) = sym (add-one (length (variables f))) ∙ ap (λ n. n + 1) (variables_counted f)

  all_counted : (fs : Logics FormAtom) → length (variables_of fs) ≡ quantifiers_of fs
  all_counted none = refl
  all_counted (also f fs) = two_lists (variables f) (variables_of fs) (quantifiers f) (quantifiers_of fs) (variables_counted f) (all_counted fs)
