-- What holds of the entries of every catalogue of the program.
use Rattle.std.specs.Prelude.{◌≡◌, ◌≤◌, ℕ, false, None, List, [], ◌∷◌, length}
use Rattle.ded_model.specs.Form.{form}
use Rattle.ded_model.specs.Goal.{goal_form}
use Rattle.ded_model.specs.Known.{KnownNames, IsNewName, IsEntryOver, level_of, with_known}
use Rattle.ded_model.specs.Logic.{some_atom}
use Rattle.ded_model.specs.LongRows.{is_long_atom}
use Rattle.ded_model.specs.Plain.{IsPlain}
use Rattle.ded_model.specs.Slotted.{goal_of}
use Rattle.ded_catalog.specs.declared.stored.Stored.{Stored}
use Rattle.ded_catalog.specs.declared.stored.Stored.TheVariants.{Relation, View}
use Rattle.ded_catalog.specs.Mentions.{AreMentions}
use Rattle.ded_catalog.specs.State.{entry_form}

-- a relation has at most 16 columns; a view has its level over the names before it, the goal of its formula, which is plain and
-- has no row with a number above 2^63 - 1, and the names that the formula speaks of
abbrev pub IsRight : KnownNames → Stored → Type 0
IsRight K (Relation r) = length r.heading ≤ 16
IsRight K (View v) = (v.level ≡ level_of K (form v.formula)) × (goal_form v.goal ≡ goal_of v.heading (form v.formula)) × IsPlain (form v.formula)
    × (some_atom is_long_atom (form v.formula) ≡ false) × AreMentions v.mentions.items (form v.formula)

-- each entry has a new name, is well formed over those before it, and has what is right over them
abbrev pub AreKept : ℕ → KnownNames → List (List ℕ × Stored) → Type 0
AreKept limit K [] = Unit {0}
AreKept limit K (e ∷ es) = IsNewName K e.0 × IsEntryOver limit K (entry_form e.0 e.1) × IsRight K e.1 × AreKept limit (with_known K (entry_form e.0 e.1)) es

-- a relation may have 1 to 1,000,000 tuples
pub record IsKept (limit : ℕ) (es : List (List ℕ × Stored)) : Type 0 where
  pub low : 1 ≤ limit
  pub high : limit ≤ 1000000
  pub entries : AreKept limit (λ n. None) es
