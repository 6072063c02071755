use Rattle.std.proofs.Common.{◌≡◌, false, not, ◌&&◌, sym, ap, ◌∙◌, subst, bytes_eq}
use Rattle.std.specs.List.{list_any}
use Rattle.ded_model.specs.Entries.{entry_uses}
use Rattle.ded_catalog.specs.State.{catalogue_of}
use Rattle.ded_algebra.specs.Given.{without_name}
use Rattle.ded_database.specs.Held.{is_marked, IsUpheld}
use Rattle.ded_database.specs.Keeping.{without_mark}
use Rattle.ded_database.specs.State.{State, catalogue_at, is_kept}
use Rattle.ded_database.proofs.Marking.{marked_without}
use Rattle.ded_database.proofs.Staying.{upheld_dropped}
use Rattle.ded_database.proofs.database.Database.drop_name.Goals as goal

pub invariant_of-self : goal.invariant_of-self
invariant_of-self c =
    let b = catalogue_of c.self.inside.catalogue in
    let d = catalogue_of c.drop_name.new.self in
    let n = c.args.name.now in
    subst (λ ms. IsUpheld d ms c.drop_kept.new.held) (sym c.drop_kept.ensures.marks)
    (subst (IsUpheld d (without_mark n c.self.inside.marks.items)) (sym c.drop_kept.ensures.held)
    (upheld_dropped b d c.formed.ensures c.formed-2.ensures n c.self.inside.marks.items c.self.inside.held c.drop_name.ensures.dropped
    (subst (λ (s : State). list_any (entry_uses n) (catalogue_at s).entries ≡ false) (sym c.self.view_is) c.requires.unused) c.self.invariant))

pub returns-clause-lists : goal.returns-clause-lists
returns-clause-lists c =
    let n = c.args.name.now in
    record {
      marks = λ m. ap (λ ms. is_marked ms m) c.drop_kept.ensures.marks ∙ marked_without n m c.self.inside.marks.items ∙ ap (λ (s : State). not (bytes_eq m n) && is_kept s m) c.self.view_is;
      held = c.drop_kept.ensures.held ∙ ap (λ (s : State). without_name n s.held) c.self.view_is;
    }
