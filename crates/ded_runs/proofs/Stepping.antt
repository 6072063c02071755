-- A line that no refusal meets is answered, and how.
use Rattle.std.proofs.Common.{◌≤◌, ℕ, List, [], ◌++◌, length, subst}
use Rattle.ded_lex.specs.Pieces.{Whole}
use Rattle.ded_model.specs.declared.command.Language.TheVariants.{Two}
use Rattle.ded_model.specs.declared.command.Refusal.{Refusal}
use Rattle.ded_model.specs.declared.command.Refusal.TheVariants.{Wide, Memory}
use Rattle.ded_model.specs.declared.name.Column.{Column}
use Rattle.ded_model.specs.Catalogue.{Catalogue}
use Rattle.ded_model.specs.Catalogue as entry
use Rattle.ded_model.specs.Command.{CommandForm, relation, insert, view}
use Rattle.ded_model.specs.Entries.{columns_in}
use Rattle.ded_model.specs.Form.{Form, FormAtom}
use Rattle.ded_model.specs.Logic.{Logics}
use Rattle.ded_model.specs.Slotted.{tuple_of}
use Rattle.ded_sorts.specs.Changes.{AddsEntry, Inserts}
use Rattle.ded_sorts.specs.Checks.{forms_of}
use Rattle.ded_syntax.proofs.One.{one_command}
use Rattle.ded_session.specs.Carrying.{NoCause}
use Rattle.ded_session.specs.Replies.{ReplyForm, done, number, truth, tuples, stored, boxes, steps, script, apart, meeting, refused}
use Rattle.ded_session.specs.Steps.{Does, Accepted, MayBeWide, MayRefuse, Step}
use Rattle.ded_session.proofs.StepLemmas.{none_applies}
use Rattle.ded_runs.specs.Runs.{WantsNoMemory}
use Rattle.ded_runs.proofs.LinesBehind.{IsLineBehind}

module _ (c : Catalogue) (front text : List ℕ) (x : CommandForm) (l : IsLineBehind front text x) (short : length (front ++ text) ≤ 65536) (free : NoCause c x) where
  -- what the command may be answered, the line may be answered
  pub accepted : (reply : ReplyForm) (d : Catalogue) → Does x c reply d → Accepted Two (front ++ text) c (λ y. Does y c reply d)
  accepted reply d k = record { none = none_applies Two (front ++ text) c short x l.read free; command = x; depth = l.read.depth; spells = l.read.spells; so = k }

  as_it : (Fact : CommandForm → Type 0) → Accepted Two (front ++ text) c Fact → Fact x
  as_it Fact a = subst Fact (one_command Two (front ++ text) a.command x a.depth l.read.depth a.spells l.read.spells).0 a.so

  module _ (narrow : MayBeWide x c → ⊥) where
    never : (r : Refusal) → WantsNoMemory (refused r) → MayRefuse r Two (Whole (front ++ text)) c → ⊥
    never Wide w m = narrow (as_it (λ y. MayBeWide y c) m)
    never Memory w m = w
    never r w m = none_applies Two (front ++ text) c short x l.read free r m.applies

    pub answered : (reply : ReplyForm) (d : Catalogue) → WantsNoMemory reply → Step Two c (Whole (front ++ text)) reply d → Does x c reply d
    answered (refused r) d w p = absurd (never r w p.0)
    answered done d w p = as_it (λ y. Does y c done d) p
    answered (number k) d w p = as_it (λ y. Does y c (number k) d) p
    answered (truth b) d w p = as_it (λ y. Does y c (truth b) d) p
    answered (tuples g ts) d w p = as_it (λ y. Does y c (tuples g ts) d) p
    answered (stored g ts) d w p = as_it (λ y. Does y c (stored g ts) d) p
    answered (boxes g b) d w p = as_it (λ y. Does y c (boxes g b) d) p
    answered (steps plan) d w p = as_it (λ y. Does y c (steps plan) d) p
    answered (script lines) d w p = as_it (λ y. Does y c (script lines) d) p
    answered (apart es) d w p = as_it (λ y. Does y c (apart es) d) p
    answered (meeting i j) d w p = as_it (λ y. Does y c (meeting i j) d) p

pub relation_does : (n : List ℕ) (h : List Column) (c d : Catalogue) (reply : ReplyForm) → Does (relation n h) c reply d → AddsEntry c d (entry.relation n h 0 [])
relation_does n h c d done k = k
relation_does n h c d _ k = absurd k

pub view_does : (n : List ℕ) (h : List Column) (f : Form) (c d : Catalogue) (reply : ReplyForm) → Does (view n h f) c reply d → AddsEntry c d (entry.view n h f)
view_does n h f c d done k = k
view_does n h f c d _ k = absurd k

-- it is inserted, with some number
pub record IsInserted (c d : Catalogue) (n : List ℕ) (fs : Logics FormAtom) : Type 0 where
  pub at : ℕ
  pub inserts : Inserts c d n (tuple_of (columns_in c n) (forms_of fs)) at

pub insert_does : (n : List ℕ) (fs : Logics FormAtom) (c d : Catalogue) (reply : ReplyForm) → Does (insert n fs) c reply d → IsInserted c d n fs
insert_does n fs c d (number k) i = record { at = k; inserts = i }
insert_does n fs c d _ i = absurd i
