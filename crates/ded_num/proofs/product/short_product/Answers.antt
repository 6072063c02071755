use Rattle.std.proofs.Common.{◌≡◌, ◌≤◌, ◌*◌, ◌∙◌, SFits, w64, to_z, of_z, pos, negsuc, arith}
use Rattle.std.specs.Prelude.{ℤ, ◌*ℤ◌, unsigned_abs}
use Rattle.std.specs.Int.{w128}
use Rattle.std.specs.Int.Signed.{nat_abs-le}
use Rattle.std.proofs.Math.Facts.{sfits_widen}
use Rattle.std.proofs.Math.Nat.{mul-le-mul}
use Rattle.std.proofs.lemmas.Int.{to_z-of_z, unsigned_abs-mul}
use Rattle.ded_num.specs.Length.{IsShort}
use Rattle.ded_num.proofs.product.short_product.Goals as goal

-- a product of two numbers of one word each has at most 126 binary digits, or is 2 ^ 126
short : (a x : ℤ) → SFits w64 a → SFits w64 x → IsShort (a *ℤ x)
short a x f g =
    let h : unsigned_abs a ≤ 9223372036854775808 = nat_abs-le a f.sfits in
    let i : unsigned_abs x ≤ 9223372036854775808 = nat_abs-le x g.sfits in
    let j : unsigned_abs a * unsigned_abs x ≤ 9223372036854775808 * 9223372036854775808 = mul-le-mul h i in
    rw (unsigned_abs-mul a x) (omega (arith, j))

-- what is short fits
fits : (z : ℤ) → IsShort z → SFits w128 z
fits (pos n) h = record { sfits = h }
fits (negsuc n) h = record { sfits = omega (arith, h) }

-- the product of what is read as two numbers of one word each
product : (a x r s : ℤ) → SFits w64 a → SFits w64 x → r ≡ a → s ≡ x → to_z w128 (of_z w128 (to_z w128 (of_z w128 r) *ℤ to_z w128 (of_z w128 s))) ≡ a *ℤ x
product a x r s f g d e =
    let f' : SFits w128 a = sfits_widen tt f in
    let g' : SFits w128 x = sfits_widen tt g in
    rw (d, e, to_z-of_z w128 a f', to_z-of_z w128 x g') (to_z-of_z w128 (a *ℤ x) (fits (a *ℤ x) (short a x f g)))

-- a number of one word, and what is read back of it
read : (r m a : ℤ) → SFits w64 a → r ≡ to_z w64 (of_z w64 m) → m ≡ a → r ≡ a
read r m a f d e = d ∙ rw e (to_z-of_z w64 a f)

-- src/product.rt:18:1
pub returns-in-Ok-Ok : goal.returns-in-Ok-Ok
returns-in-Ok-Ok c =
    let a : SFits w128 c.args.a = c.ranges.a in
    let x : SFits w128 c.args.x = c.ranges.x in
    let of_a = simp to_z-of_z at c.in-Ok-Ok.ensures in
    let of_x = simp to_z-of_z at c.in-Ok-Ok.ensures' in (
      short c.args.a c.args.x of_a.0 of_x.0,
      product c.args.a c.args.x c.from.result c.from-in-Ok-Ok.result of_a.0 of_x.0
          (read c.from.result c.in-Ok-Ok.a c.args.a of_a.0 c.from.ensures of_a.1)
          (read c.from-in-Ok-Ok.result c.in-Ok-Ok.x c.args.x of_x.0 c.from-in-Ok-Ok.ensures of_x.1),
    )
