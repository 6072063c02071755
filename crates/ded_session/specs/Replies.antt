-- What a reply says.
use Rattle.std.specs.Prelude.{ℕ, Bool, true, false, ◌||◌, List, [], ◌∷◌}
use Rattle.ded_model.specs.declared.name.Column.{Column}
use Rattle.ded_model.specs.declared.bound.BoxReply.{BoxReply}
use Rattle.ded_model.specs.declared.certificate.Entry.{Entry}
use Rattle.ded_model.specs.declared.command.Refusal.{Refusal}
use Rattle.ded_model.specs.Row.{Atom}
use Rattle.ded_model.specs.PlanForm.{PlanForm}

-- that something was done; the number of a tuple; whether something is so; the tuples of an answer; stored tuples with
-- their numbers; bounds of columns; a plan; the lines of a dump; a certificate that no two tuples meet; the numbers of
-- two that do; or a refusal
pub data ReplyForm : Type 0 where
  done : ReplyForm
  number : ℕ → ReplyForm
  truth : Bool → ReplyForm
  tuples : List Column → List (List Atom) → ReplyForm
  stored : List Column → List (ℕ × List Atom) → ReplyForm
  boxes : List Column → BoxReply → ReplyForm
  steps : PlanForm → ReplyForm
  script : List (List ℕ) → ReplyForm
  apart : List Entry → ReplyForm
  meeting : ℕ → ℕ → ReplyForm
  refused : Refusal → ReplyForm

-- whether the reply is a refusal
abbrev pub is_refusal : ReplyForm → Bool
is_refusal (refused r) = true
is_refusal _ = false

-- whether some reply is a refusal
abbrev pub some_refusal : List ReplyForm → Bool
some_refusal [] = false
some_refusal (reply ∷ replies) = is_refusal reply || some_refusal replies
