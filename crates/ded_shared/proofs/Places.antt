-- The transactions of sessions, and which statements are of sessions.
use Rattle.std.proofs.Common.{◌≡◌, ◌≢◌, ◌-◌, ℕ, ◌≤◌, ◌==◌, false, List, [], ◌∷◌, ◌++◌, Option, None, option_map, length, get_or, slice_set, sym, ◌∙◌, subst, arith, get_or-set_same, get_or-set_other, length-set}
use Rattle.std.specs.List.{AllByRecursion}
use Rattle.std.proofs.lemmas.Bool.{eqb-false}
use Rattle.std.proofs.Math.ListN.{get_or-map}
use Rattle.std.proofs.lemmas.List.{length-map}
use Rattle.ded_lex.specs.Pieces.{Statement, Whole}
use Rattle.ded_lex.specs.Pieces as pieces
use Rattle.ded_shared.specs.State.{Transaction, with_stale, all_with_stale}
use Rattle.ded_shared.specs.Tags.{Tagged, begins, commits, aborts, commands, other, SpellsCommand, IsTagged, AreTagged}

-- ---- sessions

pub record IsSession (k : ℕ) : Type 0 where
  pub low : 1 ≤ k
  pub high : k ≤ 64

-- a statement of a session, or of none; a command is spelled
abbrev pub IsOfSession : Tagged → Type 0
IsOfSession (begins k) = IsSession k
IsOfSession (commits k) = IsSession k
IsOfSession (aborts k) = IsSession k
IsOfSession (commands k bytes) = IsSession k × SpellsCommand bytes
IsOfSession (other s) = Unit {0}

pub of_session : (s : Statement) (x : Tagged) → IsTagged s x → IsOfSession x
of_session (Whole bytes) (begins k) p = record { low = p.1.tag.is_number.low; high = p.1.tag.is_number.high }
of_session (Whole bytes) (commits k) p = record { low = p.1.tag.is_number.low; high = p.1.tag.is_number.high }
of_session (Whole bytes) (aborts k) p = record { low = p.1.tag.is_number.low; high = p.1.tag.is_number.high }
of_session (Whole bytes) (commands k rest) p = (record { low = p.1.tag.is_number.low; high = p.1.tag.is_number.high }, p.1.spells)
of_session (Whole bytes) (other s) p = tt
of_session (pieces.Unfinished rest) x p = subst IsOfSession (sym p) tt

pub of_sessions : (ss : List Statement) (xs : List Tagged) → AreTagged ss xs → AllByRecursion IsOfSession xs
of_sessions [] [] p = tt
of_sessions [] (x ∷ xs) p = absurd p
of_sessions (s ∷ ss) [] p = absurd p
of_sessions (s ∷ ss) (x ∷ xs) p = (of_session s x p.0, of_sessions ss xs p.1)

-- ---- lists of statements

-- the statements that are the first of these, and those that are the others
pub record Parted (xs ys : List Tagged) : Type 0 where
  pub front : List Statement
  pub back : List Statement
  pub fronts : AreTagged front xs
  pub backs : AreTagged back ys

pub parted : (ss : List Statement) (xs ys : List Tagged) → AreTagged ss (xs ++ ys) → Parted xs ys
parted ss [] ys p = record { front = []; back = ss; fronts = tt; backs = p }
parted [] (x ∷ xs) ys p = absurd p
parted (s ∷ ss) (x ∷ xs) ys p =
    let r = parted ss xs ys p.1 in
    record { front = s ∷ r.front; back = r.back; fronts = (p.0, r.fronts); backs = r.backs }

-- those behind the first
pub behind_first : (ss : List Statement) (x : Tagged) (xs : List Tagged) → AreTagged ss (x ∷ xs) → (more : List Statement) × AreTagged more xs
behind_first [] x xs p = absurd p
behind_first (s ∷ ss) x xs p = (ss, p.1)

-- ---- places

abbrev pub Places : Type 0
Places = List (Option Transaction)

abbrev pub place : Places → ℕ → Option Transaction
place xs k = get_or xs (k - 1) None

module _ (xs : Places) (size : length xs ≡ 64) (k : ℕ) (y : Option Transaction) where
  pub place_here : IsSession k → place (slice_set xs (k - 1) y) k ≡ y
  place_here s = get_or-set_same xs (k - 1) y None (omega (arith, size, s.low, s.high))

  pub place_other : (j : ℕ) → IsSession j → IsSession k → (j == k) ≡ false → place (slice_set xs (k - 1) y) j ≡ place xs j
  place_other j i s e = get_or-set_other xs (k - 1) (j - 1) y None (differ (eqb-false j k e))
    where
      differ : j ≢ k → (j - 1) ≢ (k - 1)
      differ n h = n (omega (arith, h, i.low, s.low))

  pub size_set : length (slice_set xs (k - 1) y) ≡ 64
  size_set = length-set xs (k - 1) y ∙ size

pub place_aged : (ns : List (List ℕ)) (xs : Places) (i : ℕ) → get_or (all_with_stale ns xs) i None ≡ option_map (with_stale ns) (get_or xs i None)
place_aged ns xs i = get_or-map (option_map (with_stale ns)) xs i None

pub size_aged : (ns : List (List ℕ)) (xs : Places) → length xs ≡ 64 → length (all_with_stale ns xs) ≡ 64
size_aged ns xs size = length-map xs (option_map (with_stale ns)) ∙ size
