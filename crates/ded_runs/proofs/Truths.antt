-- What a reply that something is so, or isn't, says of the formula that was asked.
use Rattle.std.proofs.Common.{◌≡◌, ℕ, Bool, List, subst}
use Rattle.std.specs.Prelude.{IsTrue, ◌↔◌}
use Rattle.ded_lex.specs.Pieces.{Whole}
use Rattle.ded_model.specs.declared.certificate.Entry.{Entry}
use Rattle.ded_model.specs.declared.command.Language.{Language}
use Rattle.ded_model.specs.Catalogue.{Catalogue, IsTruth}
use Rattle.ded_model.specs.Command.{CommandForm, ask, verify}
use Rattle.ded_model.specs.Form.{Form}
use Rattle.ded_syntax.specs.Spelling.{Spells}
use Rattle.ded_syntax.proofs.One.{one_command}
use Rattle.ded_session.specs.Replies.{truth}
use Rattle.ded_session.specs.Steps.{Does, Step}

module _ (language : Language) (c d : Catalogue) (piece : List ℕ) (b : Bool) where
  -- the piece asks a formula, which is so answered
  abbrev IsAsked : Type 0
  IsAsked = (f : Form) × (depth : ℕ) × Spells language piece (ask f) depth × (IsTrue b ↔ IsTruth c f) × (d ≡ c)

  abbrev IsNoCheck : Type 0
  IsNoCheck = (n m : List ℕ) (es : List Entry) (depth : ℕ) → Spells language piece (verify n m es) depth → ⊥

  by_command : (x : CommandForm) (depth : ℕ) → Spells language piece x depth → Does x c (truth b) d → IsNoCheck → IsAsked
  by_command (ask f) depth s k none = (f, depth, s, k.0, k.1)
  by_command (verify n m es) depth s k none = absurd (none n m es depth s)
  by_command _ depth s k none = absurd k

  module _ (p : Step language c (Whole piece) (truth b) d) where
    pub asks_truth : IsNoCheck → IsAsked
    asks_truth none = by_command p.command p.depth p.spells p.so none

    pub asked_truth : (f : Form) (depth : ℕ) → Spells language piece (ask f) depth → (IsTrue b ↔ IsTruth c f) × (d ≡ c)
    asked_truth f depth s = subst (λ (x : CommandForm). Does x c (truth b) d) (one_command language piece p.command (ask f) p.depth depth p.spells s).0 p.so
