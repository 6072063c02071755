-- The rows that unaffected names reach are the same.
use Rattle.std.proofs.Common.{◌≡◌, ℕ, zero, suc, ◌<◌, arith, Bool, true, false, cond, List, [], ◌∷◌, Option, Some, None, is_some, refl, sym, ap, ap₂, ◌∙◌, bytes_eq}
use Rattle.std.proofs.lemmas.Option.{none-some, same_Some}
use Rattle.ded_model.specs.declared.name.Column.{Column}
use Rattle.ded_model.specs.Catalogue.{Entry, relation, view, Catalogue, entry_name}
use Rattle.ded_model.specs.Entries.{known, entry_of}
use Rattle.ded_model.specs.Form.{Form, uses, speaks_of}
use Rattle.ded_model.specs.Goal.{GoalAtom, linear, theme}
use Rattle.ded_model.specs.Goal as goal
use Rattle.ded_model.specs.Known.{KnownNames, AreEntriesOver, IsWellFormed, entry_known, with_known, level_with}
use Rattle.ded_model.specs.Logic.{Logic, atom, always, never, negation, every_of, some_of, implies, minus, exists, forall, Logics, none, also, AllAtoms, AllAtomsOf}
use Rattle.ded_model.specs.Made.{Reading, itself, closure_of, interior_of, reading, base, base_by}
use Rattle.ded_model.specs.Scanned.{scanned, tied_atoms}
use Rattle.ded_model.specs.Slotted.{goal_of}
use Rattle.ded_model.specs.Uses.{goal_atom_uses}
use Rattle.ded_model.proofs.Alike.{all_atoms}
use Rattle.ded_model.proofs.Bools.{bytes_eq-refl}
use Rattle.ded_width.specs.Orderly.{Order, Orders, both, atoms_reach, goal_atom_reach, reach_of, reach_of_all, goal_reach, undefined, order_as, read_order, entry_order, with_order, orders_from, stored_orders, orders}
use Rattle.ded_sorts.proofs.KnownEntries.{absent}
use Rattle.ded_views.specs.Unaffected.{AreUnaffected}
use Rattle.ded_views.proofs.GoalNames.{goal_names, speaks_used}
use Rattle.ded_views.proofs.ViewNames.{used_known}
use Rattle.ded_views.proofs.Views.{lesser_level}

-- ---- goals

-- of atoms that reach the same
module _ {L : Type 0} (F G : L → Order) where
  mutual
    reach_same : (f : Logic L) → AllAtoms (λ a. F a ≡ G a) f → reach_of F f ≡ reach_of G f
    reach_same (atom a) h = h
    reach_same always h = refl
    reach_same never h = refl
    reach_same (negation f) h = reach_same f h
    reach_same (every_of fs) h = reach_same_all fs h
    reach_same (some_of fs) h = reach_same_all fs h
    reach_same (implies f g) h = ap₂ both (reach_same f h.0) (reach_same g h.1)
    reach_same (minus f g) h = ap₂ both (reach_same f h.0) (reach_same g h.1)
    reach_same (exists s k f) h = reach_same f h
    reach_same (forall s k f) h = reach_same f h

    reach_same_all : (fs : Logics L) → AllAtomsOf (λ a. F a ≡ G a) fs → reach_of_all F fs ≡ reach_of_all G fs
    reach_same_all none h = refl
    reach_same_all (also f fs) h = ap₂ both (reach_same f h.0) (reach_same_all fs h.1)

module _ (O P : Orders) where
  atom_step : (a : GoalAtom) → ((n : List ℕ) → goal_atom_uses n a ≡ true → P n ≡ O n) → goal_atom_reach P a ≡ goal_atom_reach O a
  atom_step (linear r) h = refl
  atom_step (theme a) h = refl
  atom_step (goal.member m ts) h = ap (λ o. both o (atoms_reach (tied_atoms (scanned ts)))) (h m (bytes_eq-refl m))

  -- the goal of a formula, where the names do that it uses
  pub reach_of_used : (h : List Column) (f : Form) → ((n : List ℕ) → uses n f ≡ true → P n ≡ O n) → goal_reach P (goal_of h f) ≡ goal_reach O (goal_of h f)
  reach_of_used h f same =
      reach_same (goal_atom_reach P) (goal_atom_reach O) (goal_of h f)
      (all_atoms goal_atom_uses (λ n. P n ≡ O n) (λ a. goal_atom_reach P a ≡ goal_atom_reach O a) atom_step (goal_of h f) (λ n e. same n (sym (goal_names h f n) ∙ e)))

order_as-same : (O P : Orders) (n : List ℕ) (r : Reading) → P (base_by n r) ≡ O (base_by n r) → order_as P n r ≡ order_as O n r
order_as-same O P n itself e = e
order_as-same O P n (closure_of m) e = refl
order_as-same O P n (interior_of m) e = refl

-- where the names do of which it speaks
reach_of_spoken : (O P : Orders) (h : List Column) (f : Form) → ((n : List ℕ) → speaks_of n f ≡ true → P n ≡ O n)
    → goal_reach (read_order P) (goal_of h f) ≡ goal_reach (read_order O) (goal_of h f)
reach_of_spoken O P h f same = reach_of_used (read_order O) (read_order P) h f (λ n u. order_as-same O P n (reading n) (same (base n) (speaks_used f n u)))

-- ---- entries

-- of a name that is known before, later entries say nothing
later : (limit : ℕ) (K : KnownNames) (O : Orders) (es : List Entry) (n : List ℕ) → AreEntriesOver limit K es → is_some (K n) ≡ true → orders_from O es n ≡ O n
later limit K O [] n w k = refl
later limit K O (e ∷ es) n w k = by (bytes_eq n (entry_name e)) refl (absent limit K (e ∷ es) n w k) (later limit (with_known K e) (with_order O e) es n w.2)
  where
    by : (b : Bool) → bytes_eq n (entry_name e) ≡ b → cond b (Some e) (entry_of es n) ≡ None → (is_some (with_known K e n) ≡ true → orders_from O (e ∷ es) n ≡ with_order O e n) → orders_from O (e ∷ es) n ≡ O n
    by true b h more = absurd (none-some e (sym h))
    by false b h more = more (ap (λ a. is_some (cond a (Some (entry_known K e)) (K n))) b ∙ k) ∙ ap (λ a. cond a (entry_order O e) (O n)) b

-- an entry reaches the same over all names as over those before it
own : (limit : ℕ) (K : KnownNames) (O : Orders) (e : Entry) (es : List Entry) → AreEntriesOver limit K (e ∷ es) → entry_order O e ≡ entry_order (orders_from O (e ∷ es)) e
own limit K O (relation n h i ts) es w = refl
own limit K O (view n h f) es w =
    reach_of_spoken (orders_from O (view n h f ∷ es)) O h f
    (λ k u. sym (later limit K O (view n h f ∷ es) k w (used_known K f k w.1.0.known u)))

entry_reach : (limit : ℕ) (K : KnownNames) (O : Orders) (es : List Entry) (n : List ℕ) (e : Entry) → AreEntriesOver limit K es → entry_of es n ≡ Some e
    → orders_from O es n ≡ entry_order (orders_from O es) e
entry_reach limit K O [] n e w h = absurd (none-some e h)
entry_reach limit K O (d ∷ es) n e w h = by (bytes_eq n (entry_name d)) refl h (entry_reach limit (with_known K d) (with_order O d) es n e w.2)
  where
    by : (b : Bool) → bytes_eq n (entry_name d) ≡ b → cond b (Some d) (entry_of es n) ≡ Some e → (entry_of es n ≡ Some e → orders_from O (d ∷ es) n ≡ entry_order (orders_from O (d ∷ es)) e)
        → orders_from O (d ∷ es) n ≡ entry_order (orders_from O (d ∷ es)) e
    by true b h more =
        later limit (with_known K d) (with_order O d) es n w.2 (ap (λ a. is_some (cond a (Some (entry_known K d)) (K n))) b)
        ∙ ap (λ a. cond a (entry_order O d) (O n)) b
        ∙ own limit K O d es w
        ∙ ap (entry_order (orders_from O (d ∷ es))) (same_Some d e h)
    by false b h more = more h

-- a name that no entry has
nothing : (O : Orders) (es : List Entry) (n : List ℕ) → entry_of es n ≡ None → orders_from O es n ≡ O n
nothing O [] n h = refl
nothing O (e ∷ es) n h = by (bytes_eq n (entry_name e)) refl h (nothing (with_order O e) es n)
  where
    by : (b : Bool) → bytes_eq n (entry_name e) ≡ b → cond b (Some e) (entry_of es n) ≡ None → (entry_of es n ≡ None → orders_from O (e ∷ es) n ≡ with_order O e n) → orders_from O (e ∷ es) n ≡ O n
    by true b h more = absurd (none-some e (sym h))
    by false b h more = more h ∙ ap (λ a. cond a (entry_order O e) (O n)) b

-- ---- catalogues

name_order : (c : Catalogue) → IsWellFormed c → (n : List ℕ) (e : Entry) → entry_of c.entries n ≡ Some e → stored_orders c n ≡ entry_order (stored_orders c) e
unfolding stored_orders
name_order c w n e h = entry_reach c.limit (λ m. None) (λ m. undefined) c.entries n e w h

no_order : (c : Catalogue) (n : List ℕ) → entry_of c.entries n ≡ None → stored_orders c n ≡ undefined
unfolding stored_orders
no_order c n h = nothing (λ m. undefined) c.entries n h

module _ (c d : Catalogue) (w : IsWellFormed c) (v : IsWellFormed d) (among : List ℕ → Bool) (u : AreUnaffected c d among) where
  -- a name of a level below the bound
  by_level : (bound : ℕ) (n : List ℕ) → level_with (known c n) < bound → among n ≡ true → stored_orders d n ≡ stored_orders c n
  by_level zero n l a = absurd (omega arith)
  by_level (suc bound) n l a = by (by_level bound) (entry_of c.entries n) refl
    where
      below : (x y z : ℕ) → x < y → y < suc z → x < z
      below x y z p q = omega arith

      by : ((k : List ℕ) → level_with (known c k) < bound → among k ≡ true → stored_orders d k ≡ stored_orders c k)
          → (o : Option Entry) → entry_of c.entries n ≡ o → stored_orders d n ≡ stored_orders c n
      by lesser None e = no_order d n (u.same n a ∙ e) ∙ sym (no_order c n e)
      by lesser (Some (relation m h i ts)) e = name_order d v n (relation m h i ts) (u.same n a ∙ e) ∙ sym (name_order c w n (relation m h i ts) e)
      by lesser (Some (view m h f)) e =
          name_order d v n (view m h f) (u.same n a ∙ e)
          ∙ reach_of_spoken (stored_orders c) (stored_orders d) h f
          (λ k s. lesser k (below (level_with (known c k)) (level_with (known c n)) bound (lesser_level c w n m h f e k s) l) (u.closed n m k h f a e s))
          ∙ sym (name_order c w n (view m h f) e)

  -- and so do those that are made of them
  pub unaffected_order : (n : List ℕ) → among (base n) ≡ true → orders d n ≡ orders c n
  unfolding orders
  unaffected_order n a = order_as-same (stored_orders c) (stored_orders d) n (reading n) (by_level (suc (level_with (known c (base n)))) (base n) (omega arith) a)
