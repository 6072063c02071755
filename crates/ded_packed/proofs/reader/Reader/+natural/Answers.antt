use Rattle.std.proofs.Common.{◌≤◌, ◌<◌, ◌^◌, length, arith, rules, subst, sym}
use Rattle.ded_packed.specs.Numbers.{byte_in, natural_in}
use Rattle.ded_packed.proofs.Numbers.{natural_rest, rest_shorter}
use Rattle.ded_packed.proofs.reader.Reader.+natural.Goals as goal

pub natural-rest-requires : goal.natural-rest-requires
natural-rest-requires t c =
    let s = c.args.self.now in
    let big : 128 ≤ byte_in s = omega (arith, c.byte-byte.ensures.value, c.if-byte-lt128.false) in
    let shorter : length c.byte-byte.new.self < length s = subst (λ r. length r < length s) (sym c.byte-byte.ensures.left) (rest_shorter s big) in
    let fits : natural_in c.byte-byte.new.self < 2 ^ 128 = subst (λ r. natural_in r < 2 ^ 128) (sym c.byte-byte.ensures.left) (natural_rest s big c.requires) in
    (search (rules, shorter), fits)
