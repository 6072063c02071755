-- Lists with commas, as a loop reads them.
use Rattle.std.proofs.Common.{◌≡◌, ℕ, suc, ◌+◌, ◌-◌, ◌<◌, ◌≤◌, Bool, true, false, List, [], ◌∷◌, ◌++◌, refl, sym, ap, ◌∙◌, append_assoc, arith}
use Rattle.std.specs.Prelude.{Option, Some, None}
use Rattle.ded_grammar.specs.Building.{◌>>=◌}
use Rattle.ded_terminals.specs.Symbols.{Symbol}
use Rattle.ded_terminals.specs.AtomReading.{behind_item, list_at}

module _ {A : Type 0} (read : List Symbol → Option (A × List Symbol)) (ends : List Symbol → Option (Bool × List Symbol)) where
  -- what the rest of a list gives behind these items
  abbrev pub with_items : List A → Option (List A × List Symbol) → Option (List A × List Symbol)
  with_items xs o = o >>= λ y. Some (xs ++ y.0, y.1)

  -- i items of l at most have been read
  abbrev pub list_left : ℕ → ℕ → List A → List Symbol → Option (List A × List Symbol)
  list_left l i xs ts = with_items xs (list_at read ends (l - i) ts)

  step : (l i : ℕ) → i < l → l - i ≡ suc (l - (i + 1))
  step l i h = omega (arith, h)

  join : (xs : List A) (x : A) (o : Option (List A × List Symbol)) → with_items xs (o >>= λ y. Some (x ∷ y.0, y.1)) ≡ with_items (xs ++ x ∷ []) o
  join xs x None = refl
  join xs x (Some y) = ap (λ (l : List A). Some (l, y.1)) (sym (append_assoc xs (x ∷ []) y.0))

  here : (l i : ℕ) (ts : List Symbol) (x : A × List Symbol) → i < l → read ts ≡ Some x → list_at read ends (l - i) ts ≡ (ends x.1 >>= behind_item (list_at read ends (l - (i + 1))) x.0)
  here l i ts x lt r = ap (λ (k : ℕ). list_at read ends k ts) (step l i lt) ∙ ap (λ (o : Option (A × List Symbol)). o >>= λ x. ends x.1 >>= behind_item (list_at read ends (l - (i + 1))) x.0) r

  ended_by : (l i : ℕ) (ts : List Symbol) (x : A × List Symbol) (c : Option (Bool × List Symbol)) → i < l → read ts ≡ Some x → ends x.1 ≡ c → list_at read ends (l - i) ts ≡ (c >>= behind_item (list_at read ends (l - (i + 1))) x.0)
  ended_by l i ts x c lt r e = here l i ts x lt r ∙ ap (λ (o : Option (Bool × List Symbol)). o >>= behind_item (list_at read ends (l - (i + 1))) x.0) e

  -- another item is to come
  pub list_on : (l i : ℕ) (xs ys : List A) (ts : List Symbol) (x : A × List Symbol) (after : List Symbol) → i < l → read ts ≡ Some x → ends x.1 ≡ Some (true, after) → ys ≡ xs ++ x.0 ∷ [] → list_left l (i + 1) ys after ≡ list_left l i xs ts
  list_on l i xs ys ts x after lt r e f =
      ap (λ (zs : List A). list_left l (i + 1) zs after) f
      ∙ sym (join xs x.0 (list_at read ends (l - (i + 1)) after))
      ∙ ap (with_items xs) (sym (ended_by l i ts x (Some (true, after)) lt r e))

  -- the list ends
  pub list_done : (l i : ℕ) (xs ys : List A) (ts : List Symbol) (x : A × List Symbol) (after : List Symbol) → i < l → read ts ≡ Some x → ends x.1 ≡ Some (false, after) → ys ≡ xs ++ x.0 ∷ [] → list_left l i xs ts ≡ Some (ys, after)
  list_done l i xs ys ts x after lt r e f =
      ap (with_items xs) (ended_by l i ts x (Some (false, after)) lt r e)
      ∙ ap (λ (zs : List A). Some (zs, after)) (sym f)

  -- no item is there
  pub list_fails : (l i : ℕ) (xs : List A) (ts : List Symbol) → i < l → read ts ≡ None → list_left l i xs ts ≡ None
  list_fails l i xs ts lt r = ap (λ (k : ℕ). with_items xs (list_at read ends k ts)) (step l i lt) ∙ ap (λ (o : Option (A × List Symbol)). with_items xs (o >>= λ x. ends x.1 >>= behind_item (list_at read ends (l - (i + 1))) x.0)) r

  -- no sign follows it
  pub list_breaks : (l i : ℕ) (xs : List A) (ts : List Symbol) (x : A × List Symbol) → i < l → read ts ≡ Some x → ends x.1 ≡ None → list_left l i xs ts ≡ None
  list_breaks l i xs ts x lt r e = ap (with_items xs) (ended_by l i ts x None lt r e)

  -- no more items are allowed
  pub list_out : (l i : ℕ) (xs : List A) (ts : List Symbol) → l ≤ i → list_left l i xs ts ≡ None
  list_out l i xs ts le =
      let z : l - i ≡ 0 = omega (arith, le) in
      ap (λ (k : ℕ). with_items xs (list_at read ends k ts)) z
