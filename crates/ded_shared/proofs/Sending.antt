-- Two pieces of a text, sent one after the other.
use Rattle.std.proofs.Common.{◌≡◌, ℕ, List, ◌++◌, Option, Result, Ok, Err, sym, ap, ◌∙◌, subst, append_assoc}
use Rattle.std.specs.Io.KnownBytes.{Appends}
use Rattle.ded_io.specs.Devices.{Sent, AddsAll}
use Rattle.ded_io.specs.declared.device.Failed.{Failed}
use Rattle.ded_io.proofs.Steps.{appends_both}

abbrev pub Ending : Type 0
Ending = Result (Unit {0}) Failed

-- where the first one is sent
pub adds_both : (a b c : Option (List ℕ)) (xs ys : List ℕ) → Appends a b xs → (r : Ending) → AddsAll b c r ys → AddsAll a c r (xs ++ ys)
adds_both a b c xs ys adds (Ok u) h = appends_both a b c xs ys adds h
adds_both a b c xs ys adds (Err e) h = (
  h.0,
  record {
    front = xs ++ h.1.front;
    is = append_assoc xs h.1.front h.0 ∙ ap (λ (l : List ℕ). xs ++ l) h.1.is;
    adds = appends_both a b c xs h.1.front adds h.1.adds;
  },
)

-- where it fails
pub adds_part : (a b : Option (List ℕ)) (xs ys : List ℕ) (e : Failed) (r : Ending) → r ≡ Err e → (rest : List ℕ) × Sent a b xs rest → AddsAll a b r (xs ++ ys)
adds_part a b xs ys e r is s = subst (λ (q : Ending). AddsAll a b q (xs ++ ys)) (sym is) (
  s.0 ++ ys,
  record {
    front = s.1.front;
    is = sym (append_assoc s.1.front s.0 ys) ∙ ap (λ (l : List ℕ). l ++ ys) s.1.is;
    adds = s.1.adds;
  },
)
