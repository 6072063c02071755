-- What a defined name reaches: itself, and all that the names reach which it reaches.
use Rattle.std.proofs.Common.{◌≡◌, ℕ, zero, suc, ◌<◌, arith, Bool, true, List, Option, Some, None, is_some, inl, inr, refl, sym, ap, ◌∙◌, subst, bytes_eq, true≢false}
use Rattle.std.proofs.lemmas.Slice.Eq.{bytes_eq-Decides}
use Rattle.ded_model.specs.declared.name.Column.{Column}
use Rattle.ded_model.specs.Catalogue.{Entry, relation, view, Catalogue}
use Rattle.ded_model.specs.Entries.{known, entry_of}
use Rattle.ded_model.specs.Form.{Form, FormAtom, compare, member, atom_speaks_of, speaks_of}
use Rattle.ded_model.specs.Known.{IsWellFormed, level_with}
use Rattle.ded_model.specs.Logic.{some_atom}
use Rattle.ded_model.specs.Made.{base}
use Rattle.ded_model.proofs.Alike.{all_atoms}
use Rattle.ded_model.proofs.Bools.{bytes_eq-refl}
use Rattle.ded_model.proofs.Members.{or_split}
use Rattle.ded_model.proofs.Rows.{or_left}
use Rattle.ded_views.specs.Reaching.{atom_reaches, reaches}
use Rattle.ded_views.proofs.Atoms.{some_with}
use Rattle.ded_views.proofs.Placing.{unknown, unreached}
use Rattle.ded_views.proofs.ViewNames.{used_known}
use Rattle.ded_views.proofs.Views.{view_accepted, lesser_level, relation_reaches, view_reaches, used_reaches}

-- what an atom reaches follows from what each name reaches that it speaks of
module _ (R : List ℕ → List ℕ → Bool) (m : List ℕ) (X : Type 0) where
  abbrev Leads : FormAtom → Type 0
  Leads a = atom_reaches R m a ≡ true → X

  leads : (a : FormAtom) → ((k : List ℕ) → atom_speaks_of k a ≡ true → R k m ≡ true → X) → Leads a
  leads (compare l op r) h e = absurd (true≢false (sym e))
  leads (member j ts) h e = h (base j) (bytes_eq-refl (base j)) e

  -- of a formula
  pub some_reached : (f : Form) → ((k : List ℕ) → speaks_of k f ≡ true → R k m ≡ true → X) → some_atom (atom_reaches R m) f ≡ true → X
  some_reached f h e = some_with (atom_reaches R m) Leads X (λ a l r. l r) f (all_atoms atom_speaks_of (λ k. R k m ≡ true → X) Leads leads f h) e

module _ (c : Catalogue) (w : IsWellFormed c) where
  -- a name that is defined reaches itself
  pub reaches_itself : (n : List ℕ) (e : Entry) → entry_of c.entries n ≡ Some e → reaches c n n ≡ true
  reaches_itself n (relation m h i ts) e = relation_reaches c w n m h i ts e n ∙ bytes_eq-refl n
  reaches_itself n (view m h f) e = view_reaches c w n m h f e n ∙ or_left (bytes_eq n n) _ (bytes_eq-refl n)

  -- and so does one that a view speaks of
  pub used_itself : (n m : List ℕ) (h : List Column) (f : Form) → entry_of c.entries n ≡ Some (view m h f) → (k : List ℕ) → speaks_of k f ≡ true → reaches c k k ≡ true
  used_itself n m h f e k u = by (entry_of c.entries k) refl (used_known (known c) f k (view_accepted c w n m h f e).known u)
    where
      by : (o : Option Entry) → entry_of c.entries k ≡ o → is_some (known c k) ≡ true → reaches c k k ≡ true
      by None none s = absurd (true≢false (sym s ∙ ap is_some (unknown c k none)))
      by (Some x) there s = reaches_itself k x there

  -- a name of a level below the bound
  by_level : (bound : ℕ) (m n k : List ℕ) → level_with (known c m) < bound → reaches c m n ≡ true → reaches c n k ≡ true → reaches c m k ≡ true
  by_level zero m n k l p q = absurd (omega arith)
  by_level (suc bound) m n k l p q = by (λ i. by_level bound i n k) (entry_of c.entries m) refl
    where
      below : (x y z : ℕ) → x < y → y < suc z → x < z
      below x y z a b = omega arith

      same : bytes_eq m n ≡ true → reaches c m k ≡ true
      same e = subst (λ x. reaches c x k ≡ true) (sym ((bytes_eq-Decides m n).0 e)) q

      by : ((i : List ℕ) → level_with (known c i) < bound → reaches c i n ≡ true → reaches c n k ≡ true → reaches c i k ≡ true)
          → (o : Option Entry) → entry_of c.entries m ≡ o → reaches c m k ≡ true
      by lesser None e = absurd (true≢false (sym p ∙ ap (λ t. t n) (unreached c m e)))
      by lesser (Some (relation j h i ts)) e = same (sym (relation_reaches c w m j h i ts e n) ∙ p)
      by lesser (Some (view j h f)) e = elim (or_split (bytes_eq m n) (some_atom (atom_reaches (reaches c) n) f) (sym (view_reaches c w m j h f e n) ∙ p)) [
        | inl s ↦ same s
        | inr s ↦ some_reached (reaches c) n (reaches c m k ≡ true) f
            (λ i u r. used_reaches c w m j h f e i k u (lesser i (below (level_with (known c i)) (level_with (known c m)) bound (lesser_level c w m j h f e i u) l) r q)) s
      ]

  -- what a name reaches that it reaches
  pub reaches_further : (m n k : List ℕ) → reaches c m n ≡ true → reaches c n k ≡ true → reaches c m k ≡ true
  reaches_further m n k p q = by_level (suc (level_with (known c m))) m n k (omega arith) p q
