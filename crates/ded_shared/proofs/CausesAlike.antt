-- Over catalogues that are alike on the names of a command the same refusals apply to it.
use Rattle.std.proofs.Common.{◌≡◌, ℕ, nat_lt, nat_le, Bool, true, false, not, ◌||◌, is_some, is_none, List, [], length, Some, refl, ap, ap₂, ◌∙◌}
use Rattle.std.specs.Prelude.{◌==◌}
use Rattle.std.specs.List.{list_any}
use Rattle.ded_model.specs.declared.command.Refusal.{Refusal}
use Rattle.ded_model.specs.declared.command.Refusal.TheVariants.{Many, Twice, Unknown, Taken, Kind, Arity, Unbound, WrongSort, Used, NoTuple, Full, Spent, Level}
use Rattle.ded_model.specs.declared.name.Column.{Column}
use Rattle.ded_model.specs.Catalogue.{Catalogue}
use Rattle.ded_model.specs.Command.{CommandForm, header, relation, insert, delete, drop, view, keep, ask, query, show, box_of, explain, dump, disjoint, verify}
use Rattle.ded_model.specs.Entries.{known, stored_in, inserts_in}
use Rattle.ded_model.specs.Form.{Form, FormAtom, speaks_of}
use Rattle.ded_model.specs.Known.{columns_with, has_unbound, has_missorted, scope_of}
use Rattle.ded_model.specs.Logic.{Logics, every_of, some_below}
use Rattle.ded_sorts.specs.Causes.{names_unknown, takes_name, is_view_with, is_relation_with, names_other_kind, formula_in, lengths_differ, headings_differ, has_wrong_arity, has_unbound_name, is_rational_inequality, has_wrong_sort, drops_used, deletes_none, inserts_into_full, inserts_into_spent, is_too_high, has_cause}
use Rattle.ded_session.proofs.KnownAlike.{unknown_alike, arity_alike, sorts_alike, level_alike}
use Rattle.ded_shared.proofs.NamesAlike.{Covers, AreAlike}

module _ (c d : Catalogue) (names : List ℕ → Bool) (s : AreAlike c d names) where
  -- the names of its formula are known alike
  spoken_known : (x : CommandForm) → Covers names x → (f : Form) → formula_in x ≡ Some f → (n : List ℕ) → speaks_of n f ≡ true → known d n ≡ known c n
  spoken_known x v f e n u = s.knows n (v.spoken f e n u)

  unknown : (x : CommandForm) → Covers names x → names_unknown d x ≡ names_unknown c x
  unknown header v = refl
  unknown (relation n h) v = refl
  unknown (insert n fs) v = ap is_none (s.knows n v.beside.0)
  unknown (delete n k) v = ap is_none (s.knows n v.beside.0)
  unknown (drop n) v = ap is_none (s.knows n v.beside.0)
  unknown (view n h f) v = unknown_alike (known c) (known d) f (spoken_known (view n h f) v f refl)
  unknown (keep n) v = ap is_none (s.knows n v.beside.0)
  unknown (ask f) v = unknown_alike (known c) (known d) f (spoken_known (ask f) v f refl)
  unknown (query h f) v = unknown_alike (known c) (known d) f (spoken_known (query h f) v f refl)
  unknown (show n) v = ap is_none (s.knows n v.beside.0)
  unknown (box_of n) v = ap is_none (s.knows n v.beside.0)
  unknown (explain h f) v = unknown_alike (known c) (known d) f (spoken_known (explain h f) v f refl)
  unknown dump v = refl
  unknown (disjoint n m) v = ap₂ (λ a b. is_none a || is_none b) (s.knows n v.beside.0) (s.knows m v.beside.1.0)
  unknown (verify n m es) v = ap₂ (λ a b. is_none a || is_none b) (s.knows n v.beside.0) (s.knows m v.beside.1.0)

  taken : (x : CommandForm) → Covers names x → takes_name d x ≡ takes_name c x
  taken (relation n h) v = ap is_some (s.knows n v.beside.0)
  taken (view n h f) v = ap is_some (s.knows n v.beside.0)
  taken _ v = refl

  kind : (x : CommandForm) → Covers names x → names_other_kind d x ≡ names_other_kind c x
  kind (insert n fs) v = ap is_view_with (s.knows n v.beside.0)
  kind (delete n k) v = ap is_view_with (s.knows n v.beside.0)
  kind (show n) v = ap is_view_with (s.knows n v.beside.0)
  kind (box_of n) v = ap is_view_with (s.knows n v.beside.0)
  kind (keep n) v = ap is_relation_with (s.knows n v.beside.0)
  kind (disjoint n m) v = ap₂ (λ a b. is_view_with a || is_view_with b) (s.knows n v.beside.0) (s.knows m v.beside.1.0)
  kind (verify n m es) v = ap₂ (λ a b. is_view_with a || is_view_with b) (s.knows n v.beside.0) (s.knows m v.beside.1.0)
  kind _ v = refl

  arity : (x : CommandForm) → Covers names x → has_wrong_arity d x ≡ has_wrong_arity c x
  arity (insert n fs) v = arity_alike (known c) (known d) (every_of fs) (spoken_known (insert n fs) v (every_of fs) refl)
  arity (view n h f) v = arity_alike (known c) (known d) f (spoken_known (view n h f) v f refl)
  arity (ask f) v = arity_alike (known c) (known d) f (spoken_known (ask f) v f refl)
  arity (query h f) v = arity_alike (known c) (known d) f (spoken_known (query h f) v f refl)
  arity (explain h f) v = arity_alike (known c) (known d) f (spoken_known (explain h f) v f refl)
  arity (disjoint n m) v = ap₂ (λ a b. lengths_differ (columns_with a) (columns_with b)) (s.knows n v.beside.0) (s.knows m v.beside.1.0)
  arity (verify n m es) v = ap₂ (λ a b. lengths_differ (columns_with a) (columns_with b)) (s.knows n v.beside.0) (s.knows m v.beside.1.0)
  arity _ v = refl

  unbound : (x : CommandForm) → Covers names x → has_unbound_name d x ≡ has_unbound_name c x
  unbound (insert n fs) v = ap (λ o. has_unbound (columns_with o) (every_of fs)) (s.knows n v.beside.0)
  unbound _ v = refl

  insert_sorts : (n : List ℕ) (fs : Logics FormAtom) → Covers names (insert n fs) → has_wrong_sort d (insert n fs) ≡ has_wrong_sort c (insert n fs)
  insert_sorts n fs v =
      ap (λ o. has_missorted (known d) (columns_with o) (every_of fs) || some_below is_rational_inequality (scope_of (columns_with o)) (every_of fs)) (s.knows n v.beside.0)
      ∙ ap (λ b. b || some_below is_rational_inequality (scope_of (columns_with (known c n))) (every_of fs))
      (sorts_alike (known c) (known d) (every_of fs) (spoken_known (insert n fs) v (every_of fs) refl) (columns_with (known c n)))

  formula_sorts : (x : CommandForm) → Covers names x → (f : Form) → formula_in x ≡ Some f → (h : List Column) → (has_missorted (known d) h f || false) ≡ (has_missorted (known c) h f || false)
  formula_sorts x v f e h = ap (λ b. b || false) (sorts_alike (known c) (known d) f (spoken_known x v f e) h)

  sort : (x : CommandForm) → Covers names x → has_wrong_sort d x ≡ has_wrong_sort c x
  sort (insert n fs) v = insert_sorts n fs v
  sort (view n h f) v = formula_sorts (view n h f) v f refl h
  sort (ask f) v = formula_sorts (ask f) v f refl []
  sort (query h f) v = formula_sorts (query h f) v f refl h
  sort (explain h f) v = formula_sorts (explain h f) v f refl h
  sort (disjoint n m) v = ap₂ (λ a b. headings_differ (columns_with a) (columns_with b)) (s.knows n v.beside.0) (s.knows m v.beside.1.0)
  sort (verify n m es) v = ap₂ (λ a b. headings_differ (columns_with a) (columns_with b)) (s.knows n v.beside.0) (s.knows m v.beside.1.0)
  sort _ v = refl

  used : (x : CommandForm) → Covers names x → drops_used d x ≡ drops_used c x
  used (drop n) v = s.users n v.beside.0
  used _ v = refl

  missing : (x : CommandForm) → Covers names x → deletes_none d x ≡ deletes_none c x
  missing (delete n k) v = ap (λ o. not (list_any (λ t. t.0 == k) (stored_in o))) (s.entries n v.beside.0)
  missing _ v = refl

  full : (x : CommandForm) → Covers names x → inserts_into_full d x ≡ inserts_into_full c x
  full (insert n fs) v = ap₂ (λ l o. nat_le l (length (stored_in o))) s.limit (s.entries n v.beside.0)
  full _ v = refl

  spent : (x : CommandForm) → Covers names x → inserts_into_spent d x ≡ inserts_into_spent c x
  spent (insert n fs) v = ap (λ o. nat_le 4294967295 (inserts_in o)) (s.entries n v.beside.0)
  spent _ v = refl

  high : (x : CommandForm) → Covers names x → is_too_high d x ≡ is_too_high c x
  high (view n h f) v = ap (nat_lt 16) (level_alike (known c) (known d) f (spoken_known (view n h f) v f refl))
  high _ v = refl

  pub cause_alike : (r : Refusal) (x : CommandForm) → Covers names x → has_cause r d x ≡ has_cause r c x
  cause_alike Many x v = refl
  cause_alike Twice x v = refl
  cause_alike Unknown x v = unknown x v
  cause_alike Taken x v = taken x v
  cause_alike Kind x v = kind x v
  cause_alike Arity x v = arity x v
  cause_alike Unbound x v = unbound x v
  cause_alike WrongSort x v = sort x v
  cause_alike Used x v = used x v
  cause_alike NoTuple x v = missing x v
  cause_alike Full x v = full x v
  cause_alike Spent x v = spent x v
  cause_alike Level x v = high x v
  cause_alike _ x v = refl
