-- The machine run on a list, up to the end of the first piece.
use Rattle.std.proofs.Common.{◌≡◌, ℕ, List, [], ◌∷◌, ◌++◌, ap}
use Rattle.std.specs.Prelude.{Option, Some, None}
use Rattle.ded_lex.specs.declared.state.State.{State}
use Rattle.ded_lex.specs.Machine.{turned}

-- the bytes before the ; that ends the piece, and those behind it
abbrev pub Found : Type 0
Found = Option (List ℕ × List ℕ)

-- a byte before what is found
abbrev pub onto : ℕ → Found → Found
onto b None = None
onto b (Some found) = Some (b ∷ found.0, found.1)

abbrev pub cut_from : State → List ℕ → Found
cut_from s [] = None
cut_from s (b ∷ bs) = elim (turned s b) [ None ↦ Some ([], bs) | Some t ↦ onto b (cut_from t bs) ]

-- these bytes before what is found
abbrev pub before : List ℕ → Found → Found
before front None = None
before front (Some found) = Some (front ++ found.0, found.1)

pub goes : (s t : State) (b : ℕ) (bs : List ℕ) → turned s b ≡ Some t → cut_from s (b ∷ bs) ≡ onto b (cut_from t bs)
goes s t b bs h = ap (λ (o : Option State). elim o as (λ _. Found) [ None ↦ Some ([], bs) | Some u ↦ onto b (cut_from u bs) ]) h

pub ends : (s : State) (b : ℕ) (bs : List ℕ) → turned s b ≡ None → cut_from s (b ∷ bs) ≡ Some ([], bs)
ends s b bs h = ap (λ (o : Option State). elim o as (λ _. Found) [ None ↦ Some ([], bs) | Some u ↦ onto b (cut_from u bs) ]) h
