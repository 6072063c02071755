use Rattle.std.proofs.Common.{◌≡◌, Option, Some, None, ◌∙◌, SFits, rules}
use Rattle.std.specs.Prelude.{ℤ, ◌+ℤ◌}
use Rattle.std.specs.Int.{w128}
use Rattle.std.specs.Option.{SomeIff}
use Rattle.std.proofs.lemmas.Int.{to_z-of_z}
use Rattle.ded_num.specs.Length.{IsShort}
use Rattle.ded_num.proofs.product.checked_mix.Goals as goal

mixed : (l r l' r' : ℤ) (o : Option ℤ) → IsShort l' → IsShort r' → l ≡ l' → r ≡ r' → SomeIff o (IsShort (l +ℤ r)) (l +ℤ r) → SomeIff o (IsShort l' × IsShort r' × IsShort (l' +ℤ r')) (l' +ℤ r')
mixed l r l' r' None i j e f h = λ s. h (rw (e, f) s.2)
mixed l r l' r' (Some m) i j e f h = ((i, j, rw (e, f) at h.0), h.1 ∙ rw (e, f))

pub returns : goal.returns
returns c =
    let a : SFits w128 c.args.a = c.ranges.a in
    let x : SFits w128 c.args.x = c.ranges.x in
    let b : SFits w128 c.args.b = c.ranges.b in
    let y : SFits w128 c.args.y = c.ranges.y in
    let left : SFits w128 c.in_ok-left.left = search rules in
    let right : SFits w128 c.in_ok-right.right = search rules in
    let of_left = simp to_z-of_z at c.in_ok-left.ensures in
    let of_right = simp to_z-of_z at c.in_ok-right.ensures in
    mixed c.in_ok-left.left c.in_ok-right.right _ _ c.short_sum.result of_left.0 of_right.0 of_left.1 of_right.1 (simp to_z-of_z at c.short_sum.ensures)
