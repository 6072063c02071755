-- Terminals, as a loop reads them.
use Rattle.std.proofs.Common.{◌≡◌, ◌≢◌, Bool, true, false, ◌==◌, ℕ, suc, ◌+◌, ◌-◌, ◌<◌, ◌≤◌, List, [], ◌∷◌, ◌++◌, length, map, refl, sym, ap, ◌∙◌, append_assoc, arith}
use Rattle.std.specs.Prelude.{Option, Some, None}
use Rattle.std.proofs.lemmas.List.{append-nil}
use Rattle.std.proofs.lemmas.Bool.Decides.{nat_tests}
use Rattle.ded_grammar.specs.Building.{◌>>=◌}
use Rattle.ded_grammar.specs.Trees.{TerminalForm}
use Rattle.ded_terminals.specs.Symbols.{Symbol}
use Rattle.ded_terminals.specs.Literals.{Reader}
use Rattle.ded_terminals.specs.AtomReading.{terminal_at, terminals_within}
use Rattle.ded_terminals.proofs.TerminalsRead.{some_terminal}

pub not_none : {A : Type 0} (xs : List A) (b : Bool) → b ≡ (length xs == 0) → b ≡ false → 0 < length xs
not_none [] b e f = absurd (differ (sym e ∙ f))
  where
    differ : true ≡ false → ⊥
    differ e = cc
not_none (x ∷ xs) b e f = omega arith

pub none_seen : {A B : Type 0} (f : A → B) (xs : List A) (b : Bool) → b ≡ (length xs == 0) → b ≡ true → map f xs ≡ []
none_seen f [] b e h = refl
none_seen f (x ∷ xs) b e h = absurd (differ (length xs) (sym h ∙ e))
  where
    differ : (n : ℕ) → true ≡ (suc n == 0) → ⊥
    differ n e = grind (arith, nat_tests)

pub some_seen : {A B : Type 0} (f : A → B) (xs : List A) (b : Bool) → b ≡ (length xs == 0) → b ≡ false → map f xs ≢ []
some_seen f [] b e h = absurd (differ (sym e ∙ h))
  where
    differ : true ≡ false → ⊥
    differ e = cc
some_seen f (x ∷ xs) b e h = λ k. differ (f x) (map f xs) k
  where
    differ : {B : Type 0} (y : B) (ys : List B) → y ∷ ys ≡ [] → ⊥
    differ y ys e = cc

module _ (value : Reader) where
  abbrev pub with_terminals : List TerminalForm → Option (List TerminalForm) → Option (List TerminalForm)
  with_terminals ps o = o >>= λ qs. Some (ps ++ qs)

  -- i terminals of l at most have been read
  abbrev pub terminals_left : ℕ → ℕ → List TerminalForm → List Symbol → Option (List TerminalForm)
  terminals_left l i ps ts = with_terminals ps (terminals_within value (l - i) ts)

  step : (l i : ℕ) → i < l → l - i ≡ suc (l - (i + 1))
  step l i h = omega (arith, h)

  join : (ps : List TerminalForm) (p : TerminalForm) (o : Option (List TerminalForm)) → with_terminals ps (o >>= λ qs. Some (p ∷ qs)) ≡ with_terminals (ps ++ p ∷ []) o
  join ps p None = refl
  join ps p (Some qs) = ap (λ (l : List TerminalForm). Some l) (sym (append_assoc ps (p ∷ []) qs))

  pub terminals_on : (l i : ℕ) (ps qs : List TerminalForm) (ts : List Symbol) (x : TerminalForm × List Symbol) → i < l → terminal_at value ts ≡ Some x → qs ≡ ps ++ x.0 ∷ [] → terminals_left l (i + 1) qs x.1 ≡ terminals_left l i ps ts
  terminals_on l i ps qs ts x lt r f =
      ap (λ (zs : List TerminalForm). terminals_left l (i + 1) zs x.1) f
      ∙ sym (join ps x.0 (terminals_within value (l - (i + 1)) x.1))
      ∙ ap (with_terminals ps) (sym (ap (λ (k : ℕ). terminals_within value k ts) (step l i lt) ∙ some_terminal value ts x (l - (i + 1)) r))

  ended : (k : ℕ) → terminals_within value k [] ≡ Some []
  ended k = refl

  pub terminals_done : (l i : ℕ) (ps : List TerminalForm) (ts : List Symbol) → ts ≡ [] → terminals_left l i ps ts ≡ Some ps
  terminals_done l i ps ts e =
      ap (terminals_left l i ps) e ∙ ap (with_terminals ps) (ended (l - i)) ∙ ap (λ (l : List TerminalForm). Some l) (append-nil ps)

  no_terminal : (k : ℕ) (ts : List Symbol) → 0 < length ts → terminal_at value ts ≡ None → terminals_within value (suc k) ts ≡ None
  no_terminal k [] n r = absurd (omega (arith, n))
  no_terminal k (t ∷ ts) n r = ap (λ (o : Option (TerminalForm × List Symbol)). o >>= λ x. terminals_within value k x.1 >>= λ ps. Some (x.0 ∷ ps)) r

  pub terminals_fail : (l i : ℕ) (ps : List TerminalForm) (ts : List Symbol) → i < l → 0 < length ts → terminal_at value ts ≡ None → terminals_left l i ps ts ≡ None
  terminals_fail l i ps ts lt n r = ap (λ (k : ℕ). with_terminals ps (terminals_within value k ts)) (step l i lt) ∙ ap (with_terminals ps) (no_terminal (l - (i + 1)) ts n r)

  none_allowed : (ts : List Symbol) → ts ≢ [] → terminals_within value 0 ts ≡ None
  none_allowed [] n = absurd (n refl)
  none_allowed (t ∷ ts) n = refl

  pub terminals_out : (l i : ℕ) (ps : List TerminalForm) (ts : List Symbol) → l ≤ i → ts ≢ [] → terminals_left l i ps ts ≡ None
  terminals_out l i ps ts le n =
      let z : l - i ≡ 0 = omega (arith, le) in
      ap (λ (k : ℕ). with_terminals ps (terminals_within value k ts)) z ∙ ap (with_terminals ps) (none_allowed ts n)
