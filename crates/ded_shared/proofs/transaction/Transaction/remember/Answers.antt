use Rattle.std.proofs.Common.{rules, ◌≡◌, ◌||◌, ◌++◌, ◌∷◌, [], ℕ, List, ap, ◌∙◌}
use Rattle.ded_catalog.specs.State.{catalogue_of}
use Rattle.ded_shared.specs.Gathering.{changed_by}
use Rattle.ded_shared.specs.State.{is_among}
use Rattle.ded_shared.specs.Touching.{touches}
use Rattle.ded_model.specs.Command.{command_form}
use Rattle.ded_shared.proofs.Remembering.{changing_piece, no_piece}
use Rattle.ded_shared.proofs.transaction.Transaction.remember.Goals.{then-is_change+in_ok-to_vec+in_ok-push, else-is_change}
use Rattle.ded_shared.proofs.transaction.Transaction.remember.Goals as goal

pub returns-clause-remembers : goal.returns-clause-remembers
returns-clause-remembers c =
    let x = command_form c.args.command.now in
    let start = c.args.self.now in
    let new = c.if-is_change.self in
    let touched : (n : List ℕ) → is_among new.touched.items n ≡ (is_among start.touched.items n || touches (catalogue_of start.own) x n) =
    let kept : new.touched.items ≡ c.add_new.new.names.items = search rules in
    λ n. ap (λ l. is_among l n) kept ∙ c.in_ok-add_new.ensures.ok n
    ∙ ap (λ b. is_among start.touched.items n || b) (ap (λ l. is_among l n) c.deref.ensures.value ∙ c.in_ok-touched.ensures n) in
    let changed : (n : List ℕ) → is_among new.changed.items n ≡ (is_among start.changed.items n || changed_by (catalogue_of start.own) x n) =
    let kept : new.changed.items ≡ c.add_new-2.new.names.items = search rules in
    λ n. ap (λ l. is_among l n) kept ∙ c.in_ok-add_new-2.ensures.ok n
    ∙ ap (λ b. is_among start.changed.items n || b) (ap (λ l. is_among l n) c.deref-2.ensures.value ∙ c.in_ok-changed.ensures n) in
    elim c.if-is_change.branch [
      | then-is_change+in_ok-to_vec+in_ok-push w ↦
          let more : new.accepted.items ≡ start.accepted.items ++ c.args.bytes.now ∷ [] = search rules in
          record {
            accepted = changing_piece x c.is_change.result start.accepted.items new.accepted.items (start.accepted.items ++ c.args.bytes.now ∷ []) c.is_change.ensures w.if-is_change.true more;
            touched = touched;
            changed = changed;
          }
      | else-is_change w ↦
          let same : new.accepted.items ≡ start.accepted.items = search rules in
          record {
            accepted = no_piece x c.is_change.result start.accepted.items new.accepted.items (start.accepted.items ++ c.args.bytes.now ∷ []) c.is_change.ensures w.if-is_change.false same;
            touched = touched;
            changed = changed;
          }
    ]
