-- Catalogues that agree on all names that a command touches have the same of these.
use Rattle.std.proofs.Common.{◌≡◌, ℕ, Bool, true, false, List, [], ◌∷◌, ◌++◌, Option, Some, None, inl, inr, refl, sym, ap, ap₂, ◌∙◌, subst, bytes_eq, true≢false}
use Rattle.std.specs.List.{AllByRecursion, list_any}
use Rattle.std.proofs.lemmas.Slice.Eq.{bytes_eq-Decides}
use Rattle.ded_model.specs.declared.name.Column.{Column}
use Rattle.ded_model.specs.Catalogue.{Entry, view, Catalogue, entry_name}
use Rattle.ded_model.specs.Command.{CommandForm}
use Rattle.ded_cert.specs.Pairs.{pairs_of}
use Rattle.ded_model.specs.Entries.{known, entry_of, entry_uses, stored_in, tuples_in, columns_in}
use Rattle.ded_model.specs.Form.{Form, FormAtom, compare, member, atom_speaks_of, speaks_of}
use Rattle.ded_model.specs.Known.{IsWellFormed, columns_with}
use Rattle.ded_model.specs.Logic.{some_atom}
use Rattle.ded_model.specs.Made.{base}
use Rattle.ded_model.specs.Measure.{measures}
use Rattle.ded_model.specs.Uses.{MeansAlike}
use Rattle.ded_model.proofs.Bools.{bytes_eq-refl}
use Rattle.ded_model.proofs.Members.{or_split}
use Rattle.ded_model.proofs.Rows.{or_left, or_right}
use Rattle.ded_width.specs.Orderly.{orders}
use Rattle.ded_sorts.specs.Causes.{formula_in, passes_with}
use Rattle.ded_views.specs.Reaching.{atom_reaches, reaches}
use Rattle.ded_views.specs.Unaffected.{AreUnaffected}
use Rattle.ded_views.proofs.Atoms.{some_passes}
use Rattle.ded_views.proofs.Changing.{entry_there}
use Rattle.ded_views.proofs.Named.{all_named, named_passes}
use Rattle.ded_views.proofs.Unaffected.{unaffected, unaffected_meaning, unaffected_measure}
use Rattle.ded_views.proofs.Views.{used_reaches}
use Rattle.ded_shared.specs.Agreeing.{Agree}
use Rattle.ded_shared.specs.Touching.{names_beside, name_touches, touches, uses_name}
use Rattle.ded_shared.proofs.Orders.{unaffected_order}
use Rattle.ded_shared.proofs.Reach.{used_itself, reaches_further}
use Rattle.ded_shared.proofs.Replaced.{IsFound, found}

-- ---- touched names

-- the names are among these that the command has outside of its formula, and those of which the formula speaks
pub record Covers (names : List ℕ → Bool) (x : CommandForm) : Type 0 where
  pub beside : AllByRecursion (λ n. names n ≡ true) (names_beside x)
  pub spoken : (f : Form) → formula_in x ≡ Some f → (n : List ℕ) → speaks_of n f ≡ true → names n ≡ true

module _ (c : Catalogue) where
  -- a formula that speaks of a name touches it
  pub spoken_touched : (n : List ℕ) (f : Form) → speaks_of n f ≡ true → some_atom (atom_reaches (name_touches c) n) f ≡ true
  spoken_touched n f h = some_passes (atom_speaks_of n) (atom_reaches (name_touches c) n) step f h
    where
      step : (a : FormAtom) → atom_speaks_of n a ≡ true → atom_reaches (name_touches c) n a ≡ true
      step (compare l op r) e = absurd (true≢false (sym e))
      step (member m ts) e = subst (λ x. name_touches c x n ≡ true) ((bytes_eq-Decides n (base m)).0 e) (or_left (bytes_eq n n) _ (bytes_eq-refl n))

  formula_touched : (o : Option Form) (f : Form) (n : List ℕ) → o ≡ Some f → speaks_of n f ≡ true → passes_with o (λ g. some_atom (atom_reaches (name_touches c) n) g) ≡ true
  formula_touched o f n e h = subst (λ p. passes_with p (λ g. some_atom (atom_reaches (name_touches c) n) g) ≡ true) (sym e) (spoken_touched n f h)

  pub covered : (x : CommandForm) → Covers (touches c x) x
  covered x = record {
    beside = all_named (λ n. touches c x n ≡ true) (names_beside x)
        (λ n i. or_left (list_any (λ m. name_touches c m n) (names_beside x)) _ (named_passes (λ m. name_touches c m n) (names_beside x) n i (or_left (bytes_eq n n) _ (bytes_eq-refl n))));
    spoken = λ f e n u. or_right (list_any (λ m. name_touches c m n) (names_beside x)) _ (formula_touched (formula_in x) f n e u);
  }

  -- ---- touched views

  module _ (w : IsWellFormed c) (n m k : List ℕ) (h : List Column) (f : Form) (e : entry_of c.entries n ≡ Some (view m h f)) (u : speaks_of k f ≡ true) where
    own : reaches c n k ≡ true
    own = used_reaches c w n m h f e k k u (used_itself c w n m h f e k u)

    name_further : (j : List ℕ) → name_touches c j n ≡ true → name_touches c j k ≡ true
    name_further j t = or_right (bytes_eq j k) (reaches c j k) (elim (or_split (bytes_eq j n) (reaches c j n) t) [
      | inl s ↦ subst (λ i. reaches c i k ≡ true) (sym ((bytes_eq-Decides j n).0 s)) own
      | inr s ↦ reaches_further c w j n k s own
    ])

    beside_further : (ms : List (List ℕ)) → list_any (λ j. name_touches c j n) ms ≡ true → list_any (λ j. name_touches c j k) ms ≡ true
    beside_further [] t = absurd (true≢false (sym t))
    beside_further (j ∷ ms) t = elim (or_split (name_touches c j n) (list_any (λ i. name_touches c i n) ms) t) [
      | inl s ↦ or_left (name_touches c j k) _ (name_further j s)
      | inr s ↦ or_right (name_touches c j k) _ (beside_further ms s)
    ]

    formula_further : (o : Option Form) → passes_with o (λ g. some_atom (atom_reaches (name_touches c) n) g) ≡ true → passes_with o (λ g. some_atom (atom_reaches (name_touches c) k) g) ≡ true
    formula_further None t = absurd (true≢false (sym t))
    formula_further (Some g) t = some_passes (atom_reaches (name_touches c) n) (atom_reaches (name_touches c) k) step g t
      where
        step : (a : FormAtom) → atom_reaches (name_touches c) n a ≡ true → atom_reaches (name_touches c) k a ≡ true
        step (compare l op r) s = absurd (true≢false (sym s))
        step (member j ts) s = name_further (base j) s

    touched_further : (x : CommandForm) → touches c x n ≡ true → touches c x k ≡ true
    touched_further x t = elim (or_split (list_any (λ j. name_touches c j n) (names_beside x)) (passes_with (formula_in x) (λ g. some_atom (atom_reaches (name_touches c) n) g)) t) [
      | inl s ↦ or_left (list_any (λ j. name_touches c j k) (names_beside x)) _ (beside_further (names_beside x) s)
      | inr s ↦ or_right (list_any (λ j. name_touches c j k) (names_beside x)) _ (formula_further (formula_in x) s)
    ]

-- so the touched names are unaffected
touched_unaffected : (c d : Catalogue) (among : List ℕ → Bool) (x : CommandForm) → IsWellFormed c → Agree c d among → ((n : List ℕ) → touches c x n ≡ true → among n ≡ true)
    → AreUnaffected c d (touches c x)
touched_unaffected c d among x w a within = record {
  same = λ n t. a.same n (within n t);
  closed = λ n m k h f t e u. touched_further c w n m k h f e u x t;
}

-- ---- users

-- an entry that uses a name is that of its own name
user_found : (es : List Entry) (n : List ℕ) → list_any (entry_uses n) es ≡ true → (e : Entry) × IsFound es (entry_name e) e × (entry_uses n e ≡ true)
user_found [] n h = absurd (true≢false (sym h))
user_found (e ∷ es) n h = elim (or_split (entry_uses n e) (list_any (entry_uses n) es) h) [
  | inl s ↦ (e, record { before = []; after = es; parts = refl; named = refl }, s)
  | inr s ↦ behind (user_found es n s)
]
  where
    behind : (x : Entry) × IsFound es (entry_name x) x × (entry_uses n x ≡ true) → (x : Entry) × IsFound (e ∷ es) (entry_name x) x × (entry_uses n x ≡ true)
    behind (x, r, u) = (x, record { before = e ∷ r.before; after = r.after; parts = ap (λ l. e ∷ l) r.parts; named = r.named }, u)

-- and where a name's entry uses it, some entry does
user_there : (n : List ℕ) (before after : List Entry) (e : Entry) → entry_uses n e ≡ true → list_any (entry_uses n) (before ++ e ∷ after) ≡ true
user_there n [] after e u = or_left (entry_uses n e) _ u
user_there n (d ∷ before) after e u = or_right (entry_uses n d) _ (user_there n before after e u)

of_entry : (es : List Entry) (n m : List ℕ) (o : Option Entry) → entry_of es m ≡ o → uses_name o n ≡ true → list_any (entry_uses n) es ≡ true
of_entry es n m None e u = absurd (true≢false (sym u))
of_entry es n m (Some x) e u = let f = found es m x e in subst (λ l. list_any (entry_uses n) l ≡ true) (sym f.parts) (user_there n f.before f.after x u)

users_go : (c d : Catalogue) (n : List ℕ) → IsWellFormed c → ((m : List ℕ) → uses_name (entry_of d.entries m) n ≡ uses_name (entry_of c.entries m) n)
    → list_any (entry_uses n) c.entries ≡ true → list_any (entry_uses n) d.entries ≡ true
users_go c d n w same h =
    let r = user_found c.entries n h in
    let x = r.0 in
    let f = r.1 in
    of_entry d.entries n (entry_name x) (entry_of d.entries (entry_name x)) refl
    (same (entry_name x) ∙ ap (λ o. uses_name o n) (entry_there c f.before f.after x (entry_name x) w f.parts refl) ∙ r.2)

-- tests that pass together are the same
same_tests : (a b : Bool) → (a ≡ true → b ≡ true) → (b ≡ true → a ≡ true) → b ≡ a
same_tests true b f g = f refl
same_tests false true f g = sym (g refl)
same_tests false false f g = refl

-- ---- all that is the same of the names

pub record AreAlike (c d : Catalogue) (names : List ℕ → Bool) : Type 0 where
  pub limit : d.limit ≡ c.limit
  pub entries : (n : List ℕ) → names n ≡ true → entry_of d.entries n ≡ entry_of c.entries n
  pub users : (n : List ℕ) → names n ≡ true → list_any (entry_uses n) d.entries ≡ list_any (entry_uses n) c.entries
  pub knows : (n : List ℕ) → names n ≡ true → known d n ≡ known c n
  pub means : (n : List ℕ) → names (base n) ≡ true → MeansAlike c d n
  pub measured : (n : List ℕ) → names (base n) ≡ true → measures d n ≡ measures c n
  pub ordered : (n : List ℕ) → names (base n) ≡ true → orders d n ≡ orders c n

module _ (c d : Catalogue) (names : List ℕ → Bool) (s : AreAlike c d names) where
  pub columns_alike : (n : List ℕ) → names n ≡ true → columns_in c n ≡ columns_in d n
  columns_alike n i = ap columns_with (sym (s.knows n i))

  pub tuples_alike : (n : List ℕ) → names n ≡ true → tuples_in c n ≡ tuples_in d n
  tuples_alike n i = ap stored_in (sym (s.entries n i))

  pub pairs_alike : (n m : List ℕ) → names n ≡ true → names m ≡ true → pairs_of (tuples_in c n) (tuples_in c m) ≡ pairs_of (tuples_in d n) (tuples_in d m)
  pairs_alike n m i j = ap₂ pairs_of (tuples_alike n i) (tuples_alike m j)

pub touched_alike : (c d : Catalogue) (among : List ℕ → Bool) (x : CommandForm) → IsWellFormed c → IsWellFormed d → Agree c d among → ((n : List ℕ) → touches c x n ≡ true → among n ≡ true)
    → AreAlike c d (touches c x)
touched_alike c d among x w v a within =
    let u = touched_unaffected c d among x w a within in
    record {
      limit = a.limit;
      entries = λ n t. a.same n (within n t);
      users = λ n t. same_tests (list_any (entry_uses n) c.entries) (list_any (entry_uses n) d.entries)
          (users_go c d n w (λ m. a.users n m (within n t))) (users_go d c n v (λ m. sym (a.users n m (within n t))));
      knows = λ n t. (unaffected c d w v (touches c x) u n t).knows;
      means = λ n t. unaffected_meaning c d w v (touches c x) u n t;
      measured = λ n t. unaffected_measure c d w v (touches c x) u n t;
      ordered = λ n t. unaffected_order c d w v (touches c x) u n t;
    }
