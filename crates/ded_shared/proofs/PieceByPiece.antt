-- Statements that are replayed one after another.
use Rattle.std.proofs.Common.{◌≡◌, ℕ, ◌+◌, ◌<◌, ◌≤◌, false, List, [], ◌∷◌, drop, length, get_or, refl, sym, ap, ◌∙◌, subst}
use Rattle.std.proofs.lemmas.List.{at_drop_more}
use Rattle.ded_lex.specs.Pieces.{Whole}
use Rattle.ded_model.specs.declared.command.Language.TheVariants.{One}
use Rattle.ded_model.specs.Catalogue.{Catalogue}
use Rattle.ded_session.specs.Replies.{ReplyForm, is_refusal}
use Rattle.ded_session.specs.Steps.{Step}
use Rattle.ded_views.proofs.Named.{of_named}
use Rattle.ded_shared.specs.Parts.{ArePieces}
use Rattle.ded_shared.specs.Rules.{Replays}
use Rattle.ded_shared.proofs.ClosedNames.{stands_there}

-- whatever the pieces that are left make of the catalogue, all make of the first one
abbrev pub GoesAlong : List (List ℕ) → List (List ℕ) → Catalogue → Catalogue → Type 0
GoesAlong ps left c now = (d : Catalogue) → Replays left now d → Replays ps c d

pub along_start : (ps : List (List ℕ)) (c now : Catalogue) → now ≡ c → GoesAlong ps ps c now
along_start ps c now e d r = subst (λ x. Replays ps x d) e r

-- one piece more
pub along_further : (ps : List (List ℕ)) (i : ℕ) (p : List ℕ) (c now next : Catalogue) (reply : ReplyForm) → i < length ps → p ≡ get_or ps i p
    → Step One now (Whole p) reply next → is_refusal reply ≡ false → GoesAlong ps (drop i ps) c now → GoesAlong ps (drop (i + 1) ps) c next
along_further ps i p c now next reply l e s n w d r =
    let is : drop i ps ≡ p ∷ drop (i + 1) ps = at_drop_more (λ qs. qs) ps i p l ∙ ap (λ q. q ∷ drop (i + 1) ps) (sym e) in
    w d (subst (λ qs. Replays qs now d) (sym is) (reply, next, s, n, r))

-- none is left
pub along_end : (ps left : List (List ℕ)) (c now : Catalogue) → left ≡ [] → GoesAlong ps left c now → Replays ps c now
along_end ps left c now e w = w now (subst (λ qs. Replays qs now now) (sym e) refl)

-- a piece of the list is short
pub short_there : (ps : List (List ℕ)) (i : ℕ) (p : List ℕ) → ArePieces ps → i < length ps → p ≡ get_or ps i p → length p ≤ 65536
short_there ps i p a l e = of_named (λ (q : List ℕ). length q ≤ 65536) ps p a (stands_there ps i p l e)
