-- Two tests, the second one turned round.
use Rattle.std.proofs.Common.{◌≡◌, Bool, true, false, not, ◌&&◌, sym, ap, ap₂, ◌∙◌}

-- where the first passes, the second one decides
pub passes_then : (a b x y : Bool) → a ≡ x → a ≡ true → b ≡ y → not b ≡ (x && not y)
passes_then a b x y e h k = ap₂ (λ u v. u && not v) (sym h ∙ e) k

-- where it fails, both do
pub fails_then : (a x y : Bool) → a ≡ x → a ≡ false → a ≡ (x && not y)
fails_then a x y e h = h ∙ ap (λ u. u && not y) (sym h ∙ e)
