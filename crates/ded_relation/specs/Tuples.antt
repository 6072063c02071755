-- What is done with the tuples of a relation.
use Rattle.std.specs.Prelude.{◌≡◌, ◌+◌, ◌≤◌, ℕ, nat_le, Option, Some, None, List, [], ◌∷◌, ◌++◌, length, if◌then◌else◌}
use Rattle.ded_model.specs.declared.command.Refusal.{Refusal}
use Rattle.ded_model.specs.declared.command.Refusal.TheVariants.{Full, Spent}
use Rattle.ded_model.specs.Row.{Atom}
use Rattle.ded_relation.specs.declared.relation.Relation.{Relation}

-- no number is above m
abbrev pub AreUpTo : ℕ → List (ℕ × List Atom) → Type 0
AreUpTo m [] = Unit {0}
AreUpTo m (t ∷ ts) = (t.0 ≤ m) × AreUpTo m ts

-- why a relation takes no tuple
abbrev pub refusal_of : ℕ → Relation → Option Refusal
refusal_of limit r = if nat_le limit (length r.tuples.entries) then Some Full else if nat_le 4294967295 r.inserts then Some Spent else None

-- the same heading, number of inserts and tuples; the reaches in the index may be others, or stand otherwise
pub record IsSame (old new : Relation) : Type 0 where
  pub heading : new.heading ≡ old.heading
  pub inserts : new.inserts ≡ old.inserts
  pub tuples : new.tuples.entries ≡ old.tuples.entries

-- one insert more, whose tuple has the number k and stands at the end; at most 32 reaches stand in no tree
pub record Pushes (old new : Relation) (t : List Atom) (k : ℕ) : Type 0 where
  pub heading : new.heading ≡ old.heading
  pub number : k ≡ old.inserts + 1
  pub inserts : new.inserts ≡ k
  pub tuples : new.tuples.entries ≡ old.tuples.entries ++ (k, t) ∷ []
  pub settled : new.reaches.loose ≤ 32

-- the tuple of the number k is gone
pub record Removes (old new : Relation) (k : ℕ) : Type 0 where
  pub heading : new.heading ≡ old.heading
  pub inserts : new.inserts ≡ old.inserts
  pub before : List (ℕ × List Atom)
  pub tuple : List Atom
  pub after : List (ℕ × List Atom)
  pub was : old.tuples.entries ≡ before ++ (k, tuple) ∷ after
  pub is : new.tuples.entries ≡ before ++ after
