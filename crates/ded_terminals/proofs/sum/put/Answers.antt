use Rattle.std.proofs.Common.{◌≡◌, ◌≤◌, ◌<◌, ◌++◌, List, ℕ, true, take, drop, sym, ap, subst, ◌∙◌, arith, length}
use Rattle.std.specs.Prelude.{◌^◌, ℤ, ◌+ℤ◌, unsigned_abs}
use Rattle.std.specs.Str.{bytes_eq}
use Rattle.std.specs.Int.{w128}
use Rattle.std.proofs.lemmas.Int.{to_z-of_z, fits_signed_from_abs, ints}
use mir.Val.{to_z, of_z}
use Rattle.ded_terminals.specs.Operands.{put}
use Rattle.ded_terminals.proofs.Totals.{one_place, bounded_at, AreBounded, put_here}
use Rattle.ded_terminals.proofs.sum.put.Goals as goal

pub returns-then-is_name : goal.returns-then-is_name
returns-then-is_name c =
    let ps = c.loop-i.parts.items in
    let i = c.loop-i.i in
    let q = c.index-then-is_name.result.now in
    let r = c.index_mut.result.now in
    let lt : i < length ps = omega (arith, c.loop-i-test.true, c.len-i-end.ensures, ap length c.loop-i.invariant.items) in
    let small : AreBounded (2 ^ 111) ps = subst (AreBounded (2 ^ 111)) (sym c.loop-i.invariant.items) c.requires.small in
    let q_small : unsigned_abs q.1 ≤ 2 ^ 111 = bounded_at (2 ^ 111) ps i q lt c.index-then-is_name.ensures small in
    let qr : q ≡ r = one_place ps i q r lt c.index-then-is_name.ensures c.index_mut.ensures.value in
    let pr : c.index.result.now ≡ r = one_place ps i c.index.result.now r lt c.index.ensures c.index_mut.ensures.value in
    let qz : to_z w128 (of_z w128 q.1) ≡ q.1 = to_z-of_z w128 q.1 (fits_signed_from_abs w128 q.1 (omega (arith, q_small))) in
    let az : to_z w128 (of_z w128 c.args.amount) ≡ c.args.amount = to_z-of_z w128 c.args.amount (fits_signed_from_abs w128 c.args.amount (omega (arith, c.requires.amount))) in
    let total : c.sum.result ≡ r.1 +ℤ c.args.amount = c.sum.ensures ∙ ap (λ (z : ℤ). z +ℤ to_z w128 (of_z w128 c.args.amount)) (qz ∙ ap (λ (x : List ℕ × ℤ). x.1) qr) ∙ ap (λ (z : ℤ). r.1 +ℤ z) az in
    let back : to_z w128 (of_z w128 c.sum.result) ≡ c.sum.result = to_z-of_z w128 c.sum.result (fits_signed_from_abs w128 c.sum.result (omega (arith, ints, total, ap (λ (x : List ℕ × ℤ). x.1) qr, q_small, c.requires.amount))) in
    let same : bytes_eq r.0 c.args.name.now ≡ true = ap (λ (x : List ℕ × ℤ). bytes_eq x.0 c.args.name.now) (sym pr) ∙ sym c.is_name.ensures ∙ c.if-is_name.true in
    put_here ps c.args.name.now c.args.amount (to_z w128 (of_z w128 c.sum.result)) i r lt c.index_mut.ensures.value same (back ∙ total)
    (subst (λ (l : List (List ℕ × ℤ)). put l c.args.name.now c.args.amount ≡ take i l ++ put (drop i l) c.args.name.now c.args.amount) (sym c.loop-i.invariant.items) (subst (λ (z : ℤ). put c.args.parts.now.items c.args.name.now z ≡ take i c.args.parts.now.items ++ put (drop i c.args.parts.now.items) c.args.name.now z) az c.loop-i.invariant.same))
    ∙ ap (λ (l : List (List ℕ × ℤ)). put l c.args.name.now c.args.amount) c.loop-i.invariant.items
