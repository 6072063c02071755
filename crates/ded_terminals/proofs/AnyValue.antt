-- Whether terminals are spelled doesn't depend on what numbers say.
use Rattle.std.proofs.Common.{◌≡◌, ℕ, Bool, false, List, [], ◌∷◌, refl, ap, ◌∙◌}
use Rattle.std.specs.Prelude.{Option, Some, None}
use Rattle.ded_model.specs.Form.{Form}
use Rattle.ded_grammar.specs.declared.scan.Spot.{Spot}
use Rattle.ded_grammar.specs.declared.scan.Spot.TheVariants.{Start, Within, After}
use Rattle.ded_grammar.specs.Trees.{TerminalForm, nay, conjunct, disjunct, arrow, opening, closing, binder, leaf}
use Rattle.ded_grammar.specs.Scanning.{stepped, scan}
use Rattle.ded_terminals.specs.Symbols.{Symbol}
use Rattle.ded_terminals.specs.Literals.{Reader}
use Rattle.ded_terminals.specs.Atoms.{atom_form, IsTerminal, AreTerminals}

module _ (value other : Reader) where
  -- terminals that differ in what numbers say
  abbrev pub Same : TerminalForm → TerminalForm → Type 0
  Same q p = (s : Spot) (n : ℕ) → stepped s n q ≡ stepped s n p

  leaf_step : (f g : Form) (s : Spot) (n : ℕ) → stepped s n (leaf f) ≡ stepped s n (leaf g)
  leaf_step f g Start n = refl
  leaf_step f g Within n = refl
  leaf_step f g After n = refl

  abbrev pub SameAll : List TerminalForm → List TerminalForm → Type 0
  SameAll qs ps = (s : Spot) (n : ℕ) → scan s n qs ≡ scan s n ps

  goes_same : (qs ps : List TerminalForm) (o : Option (Spot × ℕ)) → ((s : Spot) (n : ℕ) → scan s n qs ≡ scan s n ps) → elim o as (λ _. Bool) [ None ↦ false | Some x ↦ scan x.0 x.1 qs ] ≡ elim o as (λ _. Bool) [ None ↦ false | Some x ↦ scan x.0 x.1 ps ]
  goes_same qs ps None h = refl
  goes_same qs ps (Some x) h = h x.0 x.1

  same_more : (q p : TerminalForm) (qs ps : List TerminalForm) → Same q p → SameAll qs ps → SameAll (q ∷ qs) (p ∷ ps)
  same_more q p qs ps e h s n = ap (λ (o : Option (Spot × ℕ)). elim o as (λ _. Bool) [ None ↦ false | Some x ↦ scan x.0 x.1 qs ]) (e s n) ∙ goes_same qs ps (stepped s n p) h

  reshape : (p : TerminalForm) (front : List Symbol) → IsTerminal value front p → (q : TerminalForm) × IsTerminal other front q × Same q p
  reshape (leaf f) front (a, e, m) = (leaf (atom_form other a), (a, e, refl), leaf_step (atom_form other a) f)
  reshape nay front is = (nay, is, (λ s n. refl))
  reshape conjunct front is = (conjunct, is, (λ s n. refl))
  reshape disjunct front is = (disjunct, is, (λ s n. refl))
  reshape arrow front is = (arrow, is, (λ s n. refl))
  reshape opening front is = (opening, is, (λ s n. refl))
  reshape closing front is = (closing, is, (λ s n. refl))
  reshape (binder q c) front is = (binder q c, is, (λ s n. refl))

  pub reshapes : (ps : List TerminalForm) (ts : List Symbol) → AreTerminals value ts ps → (qs : List TerminalForm) × AreTerminals other ts qs × SameAll qs ps
  reshapes [] ts e = ([], e, (λ s n. refl))
  reshapes (p ∷ ps) ts (front, rest, e, is, more) =
      let q = reshape p front is in
      let qs = reshapes ps rest more in
      (q.0 ∷ qs.0, (front, rest, e, q.1, qs.1), same_more q.0 p qs.0 ps q.2 qs.2)
