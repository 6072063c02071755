-- What applies to a statement over one catalogue, and over another one.
use Rattle.std.proofs.Common.{◌≡◌, ◌<◌, ◌≤◌, ℕ, arith, List, ap, ◌∙◌}
use Rattle.ded_lex.specs.Pieces.{Whole}
use Rattle.ded_model.specs.declared.command.Language.TheVariants.{One}
use Rattle.ded_model.specs.declared.command.Refusal.{Refusal}
use Rattle.ded_model.specs.declared.command.Refusal.TheVariants.{LongStatement, Unfinished, Syntax, LongName, LongNumber, Deep}
use Rattle.ded_model.specs.Catalogue.{Catalogue}
use Rattle.ded_model.specs.Command.{CommandForm}
use Rattle.ded_model.specs.Refusals.{refusal_number}
use Rattle.ded_sorts.specs.Causes.{has_cause}
use Rattle.ded_syntax.specs.Spelling.{Spells}
use Rattle.ded_syntax.proofs.One.{one_command}
use Rattle.ded_session.specs.Causes.{Commands, AppliesWhole, Applies, IsLeast}

-- where the command that the bytes spell has the same causes over both
module _ (bytes : List ℕ) (x : CommandForm) (depth : ℕ) (spells : Spells One bytes x depth) (c d : Catalogue) (same : (r : Refusal) → has_cause r d x ≡ has_cause r c x) where
  commands_over : (r : Refusal) → Commands One bytes r c → Commands One bytes r d
  commands_over r h = record {
    command = x;
    depth = depth;
    spells = spells;
    cause = same r ∙ ap (has_cause r c) (one_command One bytes x h.command depth h.depth spells h.spells).0 ∙ h.cause;
  }

  whole_over : (q : Refusal) → AppliesWhole q One bytes c → AppliesWhole q One bytes d
  whole_over Syntax h = h
  whole_over LongName h = h
  whole_over LongNumber h = h
  whole_over Deep h = h
  whole_over _ h = commands_over _ h

  pub applies_over : (q : Refusal) → Applies q One (Whole bytes) c → Applies q One (Whole bytes) d
  applies_over LongStatement h = h
  applies_over Unfinished h = h
  applies_over q h = whole_over q h

-- what bytes alone decide
module _ (bytes : List ℕ) (c d : Catalogue) where
  by_bytes : (q : Refusal) → refusal_number q ≤ 6 → Applies q One (Whole bytes) c → Applies q One (Whole bytes) d
  by_bytes LongStatement l h = h
  by_bytes Unfinished l h = h
  by_bytes Syntax l h = h
  by_bytes LongName l h = h
  by_bytes LongNumber l h = h
  by_bytes Deep l h = h
  by_bytes _ l h = absurd (omega arith)

pub least_by_bytes : (bytes : List ℕ) (c d : Catalogue) (r : Refusal) → refusal_number r ≤ 6 → IsLeast r One (Whole bytes) c → IsLeast r One (Whole bytes) d
least_by_bytes bytes c d r l h = record { applies = by_bytes bytes c d r l h.applies; least = λ q less a. h.least q less (by_bytes bytes d c q (below (refusal_number q) (refusal_number r) less l) a) }
  where
    below : (a b : ℕ) → a < b → b ≤ 6 → a ≤ 6
    below a b p q = omega arith
